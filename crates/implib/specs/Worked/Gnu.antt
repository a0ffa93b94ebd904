-- Definitions with what their members for GNU's linker are or why they have none, worked by hand.
use Rattle.std.specs.Prelude.{◌≡◌, ℕ, true, List, [], ◌∷◌, ◌++◌, map, take, drop, slice_get, Option}
use Rattle.std.specs.Prelude.{Some, None, codes}
use Rattle.std.specs.Option.{option_map}
use Rattle.implib.specs.declared.flavor.Flavor.TheVariants.{Gnu}
use Rattle.implib.specs.declared.machine.MachineType.{MachineType}
use Rattle.implib.specs.declared.machine.MachineType.TheVariants.{I386, ARMNT, AMD64, ARM64}
use Rattle.implib.specs.Definition.{DefinitionView, empty_export}
use Rattle.implib.specs.Fault.{Cause, EmptyName, NulInExport, EmptyAskedName}
use Rattle.implib.specs.Members.MemberSpec.{MemberSpec, file_bytes}
use Rattle.implib.specs.Members.Members.{member_specs, refusal}
use Rattle.implib.specs.Renaming.{renamed}
use Rattle.implib.specs.Worked.Members.{Means, Outline, bar_text, baz_text, foo_asking, nul, of_dll}
use Rattle.implib.specs.Worked.Members.{outline}
use Rattle.implib.specs.Worked.Statements.{plain_export}

-- the specifications of a definition's members for GNU's linker
abbrev pub gnu_specs_of : DefinitionView → MachineType → List MemberSpec
gnu_specs_of d machine = member_specs (renamed d) machine Gnu

-- the definition is accepted, and these are its members, their bytes aside
pub record HasGnuMembers (d : DefinitionView) (machine : MachineType)
    (members : List Outline) : Type 0 where
  pub accepted : refusal d machine Gnu ≡ None
  pub outlines : map outline (gnu_specs_of d machine) ≡ members

-- the text's members are these, their bytes aside
abbrev pub TextHasGnuMembers : List ℕ → MachineType → List Outline → Type 0
TextHasGnuMembers text machine members = Means text machine (λ d. HasGnuMembers d machine members)

-- the definition is refused for this cause
abbrev pub IsRefusedForGnu : DefinitionView → MachineType → Cause → Type 0
IsRefusedForGnu d machine cause = refusal d machine Gnu ≡ Some cause

-- a member
abbrev pub shown : List ℕ → ℕ → List (List ℕ) → Outline
shown name size listed = record { name = name; size = size; symbols = listed }

-- the tail and the head of foo.dll on a machine of 64 bits
abbrev pub foo_head_and_tail : List Outline
foo_head_and_tail =
    shown (codes "foo_dll_a_t.o") 356 (codes "foo_dll_iname" ∷ [])
    ∷ shown (codes "foo_dll_a_h.o") 450 (codes "_head_foo_dll" ∷ [])
    ∷ []

-- the first export of foo.dll, called bar
abbrev pub bar_member : ℕ → Outline
bar_member size = shown (codes "foo_dll_a_s00000.o") size (codes "bar" ∷ codes "__imp_bar" ∷ [])

-- the bytes of the member of an index
abbrev pub gnu_bytes_at : DefinitionView → MachineType → ℕ → Option (List ℕ)
gnu_bytes_at d machine index =
    option_map (λ p. file_bytes p.contents) (slice_get (gnu_specs_of d machine) index)

-- `count` bytes from an offset on of the member of the only export, which has no alias
abbrev pub slice_of_export : ℕ → ℕ → DefinitionView → MachineType → Option (List ℕ)
slice_of_export offset count d machine =
    option_map (λ bytes. take count (drop offset bytes)) (gnu_bytes_at d machine 2)

-- members by name, length and archive symbols
pub record WorkedGnuOutlines : Type 0 where
  pub one_function : TextHasGnuMembers bar_text AMD64 (foo_head_and_tail ++ bar_member 474 ∷ [])
  pub one_function_i386 : TextHasGnuMembers bar_text I386
      (shown (codes "foo_dll_a_t.o") 349 (codes "_foo_dll_iname" ∷ [])
      ∷ shown (codes "foo_dll_a_h.o") 452 (codes "__head_foo_dll" ∷ [])
      ∷ shown (codes "foo_dll_a_s00000.o") 468 (codes "_bar" ∷ codes "__imp__bar" ∷ [])
      ∷ [])
  pub one_function_arm : Means bar_text ARMNT
      (λ d. map (λ p. (outline p).size) (gnu_specs_of d ARMNT) ≡ 348 ∷ 450 ∷ 470 ∷ [])
  pub one_function_arm64 : TextHasGnuMembers bar_text ARM64
      (foo_head_and_tail ++ bar_member 488 ∷ [])
  -- private exports have no number, and the last export comes first
  pub numbered : TextHasGnuMembers (codes "LIBRARY foo.dll\nEXPORTS\nbar\nbaz PRIVATE\nqux") AMD64
      (foo_head_and_tail
      ++ shown (codes "foo_dll_a_s00001.o") 474 (codes "qux" ∷ codes "__imp_qux" ∷ [])
      ∷ bar_member 474
      ∷ [])
  pub private_nul : HasGnuMembers
      (of_dll (codes "foo.dll")
      (record empty_export { name = codes "b" ++ nul; private = true } ∷ plain_export (codes "bar")
      ∷ []))
      AMD64
      (foo_head_and_tail ++ bar_member 474 ∷ [])
  pub data_alone : TextHasGnuMembers (codes "LIBRARY foo.dll\nEXPORTS\nbar DATA") AMD64
      (foo_head_and_tail ++ shown (codes "foo_dll_a_s00000.o") 438 (codes "__imp_bar" ∷ []) ∷ [])
  pub alias : TextHasGnuMembers baz_text AMD64
      (foo_head_and_tail
      ++ shown (codes "foo_dll_a_s00000.o") 474 (codes "foo" ∷ codes "__imp_foo" ∷ [])
      ∷ shown (codes "foo_dll_a_x00000.o") 174 (codes "__imp_foo" ∷ [])
      ∷ shown (codes "foo_dll_a_w00000.o") 162 (codes "foo" ∷ [])
      ∷ [])
  -- the head's symbol is exported too: its name is once in the string table
  pub head_exported : TextHasGnuMembers (codes "LIBRARY foo.dll\nEXPORTS\n_head_foo_dll") AMD64
      (foo_head_and_tail
      ++ shown (codes "foo_dll_a_s00000.o") 494
      (codes "_head_foo_dll" ∷ codes "__imp__head_foo_dll" ∷ [])
      ∷ [])
  pub underscore_by_ordinal : HasGnuMembers
      (of_dll (codes "foo.dll")
      (record empty_export { name = codes "_"; no_name = true; ordinal = 3 } ∷ []))
      I386
      (shown (codes "foo_dll_a_t.o") 349 (codes "_foo_dll_iname" ∷ [])
      ∷ shown (codes "foo_dll_a_h.o") 452 (codes "__head_foo_dll" ∷ [])
      ∷ shown (codes "foo_dll_a_s00000.o") 431 (codes "_" ∷ codes "__imp__" ∷ [])
      ∷ [])
  -- what no name type makes of the symbol is asked for here
  pub given_name : HasGnuMembers (foo_asking (codes "a") (codes "b")) AMD64
      (foo_head_and_tail
      ++ shown (codes "foo_dll_a_s00000.o") 462 (codes "a" ∷ codes "__imp_a" ∷ []) ∷ [])

-- definitions that are refused
pub record WorkedGnuRefusals : Type 0 where
  pub nul_in_name : IsRefusedForGnu
      (of_dll (codes "foo.dll") (plain_export (codes "b" ++ nul) ∷ plain_export (codes "bar") ∷ []))
      AMD64
      (NulInExport 0)
  -- a symbol name asks for nothing here
  pub empty_name : IsRefusedForGnu
      (of_dll (codes "foo.dll")
      (record empty_export { name = codes "f"; symbol_name = codes "_@8" } ∷ plain_export [] ∷ []))
      AMD64
      (EmptyName 1)
  pub nul_in_symbol_name : IsRefusedForGnu
      (of_dll (codes "foo.dll")
      (plain_export (codes "bar") ∷ record empty_export { name = codes "foo"; symbol_name = nul }
      ∷ [])) AMD64
      (NulInExport 1)
  pub nul_in_alias_target : IsRefusedForGnu
      (of_dll (codes "foo.dll")
      (plain_export (codes "bar") ∷ record empty_export { name = codes "foo"; alias_target = nul }
      ∷ []))
      AMD64 (NulInExport 1)
  pub nothing_given : IsRefusedForGnu (foo_asking (codes "a") []) AMD64 (EmptyAskedName 0)
  pub nul_in_asked_name : IsRefusedForGnu (foo_asking (codes "a") nul) AMD64 (NulInExport 0)
  pub nothing_asked : IsRefusedForGnu (of_dll (codes "foo.dll") (plain_export (codes "_") ∷ []))
      I386
      (EmptyAskedName 0)
  -- a NUL in another name comes before an empty name to ask for
  pub nul_and_nothing_asked : IsRefusedForGnu
      (of_dll (codes "foo.dll") (record (plain_export (codes "_")) { symbol_name = nul } ∷ [])) I386
      (NulInExport 0)
  pub nul_in_target_and_nothing_asked : IsRefusedForGnu
      (of_dll (codes "foo.dll") (record (plain_export (codes "_")) { alias_target = nul } ∷ []))
      I386
      (NulInExport 0)

-- bytes of members
pub record WorkedGnuBytes : Type 0 where
  pub hint_and_name : Means bar_text AMD64
      (λ d. slice_of_export 368 6 d AMD64 ≡ Some (0 ∷ 0 ∷ 0x62 ∷ 0x61 ∷ 0x72 ∷ 0 ∷ []))
  pub given_name : slice_of_export 368 4 (foo_asking (codes "a") (codes "b")) AMD64
      ≡ Some (0 ∷ 0 ∷ 0x62 ∷ 0 ∷ [])
  pub strings : Means bar_text AMD64 (λ d. slice_of_export 446 100 d AMD64 ≡ Some
      (0x1C ∷ 0 ∷ 0 ∷ 0 ∷ (codes "_head_foo_dll" ++ nul ++ codes "__imp_bar" ++ nul)))
  pub stub : Means bar_text AMD64 (λ d. slice_of_export 300 18 d AMD64 ≡ Some
      (0xFF ∷ 0x25 ∷ 0 ∷ 0 ∷ 0 ∷ 0 ∷ 0x90 ∷ 0x90 ∷ 2 ∷ 0 ∷ 0 ∷ 0 ∷ 2 ∷ 0 ∷ 0 ∷ 0 ∷ 4 ∷ 0 ∷ []))
  pub stub_relocation_i386 : Means bar_text I386
      (λ d. slice_of_export 308 10 d I386 ≡ Some (2 ∷ 0 ∷ 0 ∷ 0 ∷ 2 ∷ 0 ∷ 0 ∷ 0 ∷ 6 ∷ 0 ∷ []))
  pub hint : Means (codes "LIBRARY foo.dll\nEXPORTS\nbar @258") AMD64
      (λ d. slice_of_export 368 6 d AMD64 ≡ Some (2 ∷ 1 ∷ 0x62 ∷ 0x61 ∷ 0x72 ∷ 0 ∷ []))
  -- by ordinal: the contents of the export's entries in the two tables, and then the symbols
  pub ordinal_on_i386 : Means (codes "LIBRARY foo.dll\nEXPORTS\nfoo @0 NONAME") I386
      (λ d. slice_of_export 332 8 d I386 ≡ Some
      (0 ∷ 0 ∷ 0 ∷ 0x80 ∷ 0 ∷ 0 ∷ 0 ∷ 0x80 ∷ []))
  pub ordinal_size_on_i386 : Means (codes "LIBRARY foo.dll\nEXPORTS\nfoo @0 NONAME") I386
      (λ d. map (λ p. (outline p).size) (gnu_specs_of d I386) ≡ 349 ∷ 452 ∷ 442 ∷ [])
