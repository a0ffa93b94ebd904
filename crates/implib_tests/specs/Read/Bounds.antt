-- What sections and fields of objects mean at the bounds of the reader's rules, worked by hand.
use Rattle.std.specs.Prelude.{◌≡◌, ℕ, List, [], ◌∷◌, ◌++◌, false, true, None, Some, codes}
use Rattle.implib.specs.declared.coff.object.Relocation.{Relocation}
use Rattle.implib.specs.Formats.Object.{ObjectSection}
use Rattle.implib.specs.Import.{Ordinal}
use Rattle.implib_read.specs.Classes.{DelayImport, Descriptor, Head, NotUnderstood, NullThunk, Tail}
use Rattle.implib_read.specs.Classes.{class_of_descriptor, class_of_thunks, kind_of_type}
use Rattle.implib_read.specs.Imports.{ordinal_in}
use Rattle.implib_read.specs.MemberNames.{long_name_of}
use Rattle.implib_read.specs.declared.import.ImportKind.TheVariants.{Code, Const, Data}

-- a section with these bytes and relocations
abbrev pub section_of : List ℕ → List Relocation → ObjectSection
section_of bytes relocations =
    record { name = codes ".idata$7"; flags = 0; bytes = bytes; relocations = relocations }

-- one relocation
abbrev pub one_relocation : List Relocation
one_relocation = record { offset = 0; symbol = 0; kind = 7 } ∷ []

-- thunks, sections, types and long names, and what they mean
pub record WorkedBounds : Type 0 where
  -- an ordinal is in a thunk of 4 bytes or more with its top bit set
  pub no_bytes : ordinal_in [] ≡ None
  pub two_bytes : ordinal_in (7 ∷ 0x80 ∷ []) ≡ None
  pub three_bytes : ordinal_in (7 ∷ 1 ∷ 0x80 ∷ []) ≡ None
  pub four_bytes : ordinal_in (7 ∷ 1 ∷ 0 ∷ 0x80 ∷ []) ≡ Some (Ordinal 263)
  pub eight_bytes : ordinal_in (7 ∷ 1 ∷ 0 ∷ 0 ∷ 0 ∷ 0 ∷ 0 ∷ 0x80 ∷ []) ≡ Some (Ordinal 263)
  pub no_top_bit : ordinal_in (7 ∷ 1 ∷ 0 ∷ 0x7F ∷ []) ≡ None
  -- an object with `.idata$5`, by its `.idata$7`: none, an empty one, a text, one that leads
  -- elsewhere
  pub no_names : class_of_thunks None ≡ NullThunk
  pub empty_names : class_of_thunks (Some (section_of [] [])) ≡ DelayImport
  pub empty_that_leads : class_of_thunks (Some (section_of [] one_relocation)) ≡ DelayImport
  pub text : class_of_thunks (Some (section_of (97 ∷ 0 ∷ []) [])) ≡ Tail
  pub leads : class_of_thunks (Some (section_of (0 ∷ 0 ∷ 0 ∷ 0 ∷ []) one_relocation)) ≡ NotUnderstood
  -- an object with `.idata$2`, by that and by whether it has `.idata$5`
  pub empty_descriptor : class_of_descriptor (section_of [] []) false ≡ DelayImport
  pub empty_head : class_of_descriptor (section_of [] []) true ≡ DelayImport
  pub descriptor : class_of_descriptor (section_of (0 ∷ []) []) false ≡ Descriptor
  pub head : class_of_descriptor (section_of (0 ∷ []) []) true ≡ Head
  -- types of short imports
  pub code : kind_of_type 0 ≡ Code
  pub of_data : kind_of_type 1 ≡ Data
  pub constant : kind_of_type 2 ≡ Const
  -- a long name loses its slash before a line end, and before a NUL or at the end keeps it
  pub slash_before_line_end : long_name_of (codes "a/\nb/\n") ≡ codes "a"
  pub slash_before_nul : long_name_of (codes "a/" ++ 0 ∷ codes "b") ≡ codes "a/"
  pub slash_at_the_end : long_name_of (codes "a/") ≡ codes "a/"
