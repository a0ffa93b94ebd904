-- Where the index of the library of a definition leads.
use Rattle.std.specs.Prelude.{◌≡◌, ℕ, List, [], Some}
use Rattle.implib_read.specs.Archives.{Archive, archive_in}
use Rattle.implib_rules.specs.Library.{IsLibrary}
use Rattle.implib_rules.specs.Options.{LibraryOptionsView}
use Rattle.implib_compare.specs.Working.{first_misleads, linker_member, second_misleads}

-- An archive has a first linker member, and neither that nor a second one misleads a linker.
pub record IndexesLead (a : Archive) : Type 0 where
  -- the data of the first
  pub contents : List ℕ
  pub first : linker_member 0 a.parts ≡ Some contents
  pub leads : first_misleads a.members contents ≡ Some []
  pub second_leads : (others : List ℕ) → linker_member 1 a.parts ≡ Some others →
      second_misleads a.members others ≡ Some []

-- The library of a definition has a first linker member. That, and the second one where there is
-- one, lead each of their symbols to the first member that declares it.
abbrev pub OwnIndexesLead : Type 0
OwnIndexesLead = (definition : List ℕ) (options : LibraryOptionsView) (file : List ℕ) (a : Archive)
    → IsLibrary definition options file → archive_in file ≡ Some a → IndexesLead a
