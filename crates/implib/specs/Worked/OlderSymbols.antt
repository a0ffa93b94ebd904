-- Definitions with what their members with older symbols are or why they have none, worked by hand.
use Rattle.std.specs.Prelude.{◌≡◌, ℕ, List, [], ◌∷◌, ◌++◌, map, take, drop, slice_get, Option, Some}
use Rattle.std.specs.Prelude.{None, codes}
use Rattle.std.specs.Option.{option_map}
use Rattle.implib.specs.declared.machine.MachineType.{MachineType}
use Rattle.implib.specs.declared.machine.MachineType.TheVariants.{I386, ARMNT, AMD64, ARM64}
use Rattle.implib.specs.Definition.{DefinitionView}
use Rattle.implib.specs.Fault.{NulInExport}
use Rattle.implib.specs.Members.MemberSpec.{MemberSpec, file_bytes}
use Rattle.implib.specs.Members.OlderSymbols.{older_refusal, older_specs}
use Rattle.implib.specs.Renaming.{renamed}
use Rattle.implib.specs.Worked.Gnu.{foo_head_and_tail, shown}
use Rattle.implib.specs.Worked.Members.{Means, Outline, bar_text, baz_text, nul, of_dll, outline}
use Rattle.implib.specs.Worked.Statements.{plain_export}

-- the specifications of a definition's members
abbrev pub older_specs_in : DefinitionView → MachineType → List MemberSpec
older_specs_in d machine = older_specs (renamed d) machine

-- the text's definition is accepted, and these are its members, their bytes aside
pub record HasOlderMembers (machine : MachineType) (members : List Outline)
    (d : DefinitionView) : Type 0 where
  pub accepted : older_refusal d machine ≡ None
  pub outlines : map outline (older_specs_in d machine) ≡ members

abbrev pub TextHasOlderMembers : List ℕ → MachineType → List Outline → Type 0
TextHasOlderMembers text machine members = Means text machine (HasOlderMembers machine members)

-- the first export of foo.dll, called bar
abbrev pub older_bar : ℕ → Outline
older_bar size = shown (codes "foo_dll_a_s00000.o") size
    (codes "bar" ∷ codes "__imp_bar" ∷ codes "___impbar" ∷ [])

-- `count` bytes from an offset on of the member of the only export, which has no alias
abbrev pub slice_of_older : ℕ → ℕ → DefinitionView → MachineType → Option (List ℕ)
slice_of_older offset count d machine =
    option_map (λ p. take count (drop offset (file_bytes p.contents)))
    (slice_get (older_specs_in d machine) 2)

-- members by name, length and archive symbols
pub record WorkedOlderOutlines : Type 0 where
  pub one_function : TextHasOlderMembers bar_text AMD64 (foo_head_and_tail ++ older_bar 502 ∷ [])
  pub one_function_i386 : TextHasOlderMembers bar_text I386
      (shown (codes "foo_dll_a_t.o") 349 (codes "_foo_dll_iname" ∷ [])
      ∷ shown (codes "foo_dll_a_h.o") 452 (codes "__head_foo_dll" ∷ [])
      ∷ shown (codes "foo_dll_a_s00000.o") 497
      (codes "_bar" ∷ codes "__imp__bar" ∷ codes "___imp_bar" ∷ [])
      ∷ [])
  pub one_function_arm : Means bar_text ARMNT
      (λ d. map (λ p. (outline p).size) (older_specs_in d ARMNT) ≡ 348 ∷ 450 ∷ 498 ∷ [])
  pub one_function_arm64 : TextHasOlderMembers bar_text ARM64
      (foo_head_and_tail ++ older_bar 516 ∷ [])
  pub data_alone : TextHasOlderMembers (codes "LIBRARY foo.dll\nEXPORTS\nbar DATA") AMD64
      (foo_head_and_tail
      ++ shown (codes "foo_dll_a_s00000.o") 466 (codes "__imp_bar" ∷ codes "___impbar" ∷ []) ∷ [])
  -- a symbol of eight bytes is in its record
  pub short : TextHasOlderMembers (codes "LIBRARY foo.dll\nEXPORTS\nab") AMD64
      (foo_head_and_tail
      ++ shown (codes "foo_dll_a_s00000.o") 481
      (codes "ab" ∷ codes "__imp_ab" ∷ codes "___impab" ∷ [])
      ∷ [])
  -- private exports have no number, and the last export comes first
  pub numbered : TextHasOlderMembers (codes "LIBRARY foo.dll\nEXPORTS\nbar\nbaz PRIVATE\nqux") AMD64
      (foo_head_and_tail
      ++ shown (codes "foo_dll_a_s00001.o") 502
      (codes "qux" ∷ codes "__imp_qux" ∷ codes "___impqux" ∷ [])
      ∷ older_bar 502
      ∷ [])
  -- the weak externals of an alias are as without older symbols
  pub alias : TextHasOlderMembers baz_text AMD64
      (foo_head_and_tail
      ++ shown (codes "foo_dll_a_s00000.o") 502
      (codes "foo" ∷ codes "__imp_foo" ∷ codes "___impfoo" ∷ [])
      ∷ shown (codes "foo_dll_a_x00000.o") 174 (codes "__imp_foo" ∷ [])
      ∷ shown (codes "foo_dll_a_w00000.o") 162 (codes "foo" ∷ [])
      ∷ [])
  pub nul_in_name : older_refusal
      (of_dll (codes "foo.dll") (plain_export (codes "bar") ∷ plain_export (codes "b" ++ nul) ∷ []))
      AMD64
      ≡ Some (NulInExport 1)

-- bytes of members
pub record WorkedOlderBytes : Type 0 where
  -- the record of the older symbol: the offset of its name, the value 0, section 5, no type, class
  -- 2
  pub record_of_symbol : Means bar_text AMD64 (λ d. slice_of_older 446 18 d AMD64 ≡ Some
      (0 ∷ 0 ∷ 0 ∷ 0 ∷ 0x1C ∷ 0 ∷ 0 ∷ 0 ∷ 0 ∷ 0 ∷ 0 ∷ 0 ∷ 5 ∷ 0 ∷ 0 ∷ 0 ∷ 2 ∷ 0 ∷ []))
  pub strings : Means bar_text AMD64 (λ d. slice_of_older 464 100 d AMD64 ≡ Some
      (0x26 ∷ 0 ∷ 0 ∷ 0 ∷ (codes "_head_foo_dll" ++ nul ++ codes "__imp_bar" ++ nul ++ codes "___impbar" ++ nul)))
  -- the header: there are five symbols, and of data four
  pub count : Means bar_text AMD64 (λ d. slice_of_older 12 4 d AMD64 ≡ Some (5 ∷ 0 ∷ 0 ∷ 0 ∷ []))
  pub count_of_data : Means (codes "LIBRARY foo.dll\nEXPORTS\nbar DATA") I386
      (λ d. slice_of_older 12 4 d I386 ≡ Some (4 ∷ 0 ∷ 0 ∷ 0 ∷ []))
  -- of data on I386 the record of the older symbol, after three others
  pub record_of_data : Means (codes "LIBRARY foo.dll\nEXPORTS\nb DATA") I386
      (λ d. slice_of_older 400 18 d I386 ≡ Some
      (codes "___imp_b" ++ 0 ∷ 0 ∷ 0 ∷ 0 ∷ 5 ∷ 0 ∷ 0 ∷ 0 ∷ 2 ∷ 0 ∷ []))
