-- Whether the library of a definition works, apart from where its indexes lead.
use Rattle.std.specs.Prelude.{◌≡◌, ℕ, false, List, Some, length}
use Rattle.implib_read.specs.Classes.{MemberRead, library_in}
use Rattle.implib_rules.specs.Library.{IsLibrary}
use Rattle.implib_rules.specs.Options.{LibraryOptionsView}
use Rattle.implib_compare.specs.declared.working.Working.TheVariants.{Works}
use Rattle.implib_compare.specs.Comparison.{has_unread}
use Rattle.implib_read.specs.Identity.{dlls_of}
use Rattle.implib_compare.specs.Flavors.{flavor_of}
use Rattle.implib_compare.specs.Working.{has_whole_tables, works_of}

-- The library of a definition works where its indexes mislead no linker: each of its members is
-- understood, its imports are of one DLL at most, and its import tables are whole, for the flavour
-- that is told from its members.
abbrev pub OwnTablesAreWhole : Type 0
OwnTablesAreWhole =
    (definition : List ℕ) (options : LibraryOptionsView) (file : List ℕ) (members : List MemberRead)
    → IsLibrary definition options file → library_in file ≡ Some members
    → works_of false (has_unread members) (length (dlls_of members))
    (has_whole_tables (flavor_of members) members) ≡ Works
