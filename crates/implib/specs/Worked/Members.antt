-- Definitions with what their members are or why they have none, worked by hand.
use Rattle.std.specs.Prelude.{◌≡◌, ℕ, true, List, [], ◌∷◌, ◌++◌, map, take, drop, slice_get, Option}
use Rattle.std.specs.Prelude.{Some, None, codes}
use Rattle.std.specs.Option.{option_map}
use Rattle.implib.specs.declared.flavor.Flavor.TheVariants.{Msvc}
use Rattle.implib.specs.declared.machine.MachineType.{MachineType}
use Rattle.implib.specs.declared.machine.MachineType.TheVariants.{I386, ARMNT, AMD64, ARM64}
use Rattle.implib.specs.Definition.{DefinitionView, ExportView, empty_definition, empty_export}
use Rattle.implib.specs.Fault.{Cause, EmptyImportName, NulInImportName, EmptyName, NulInExport}
use Rattle.implib.specs.Fault.{EmptyAskedName, NoNameType}
use Rattle.implib.specs.Import.{Alias, Ask, Ordinal, Name, aliases_for}
use Rattle.implib.specs.Members.MemberSpec.{MemberSpec, file_bytes, file_size}
use Rattle.implib.specs.Members.Members.{member_specs, refusal}
use Rattle.implib.specs.Members.Msvc.{short_import_symbol}
use Rattle.implib.specs.Text.Parses.{Parses}
use Rattle.implib.specs.Members.ReadBack.{ask_written}
use Rattle.implib.specs.Renaming.{renamed}
use Rattle.implib.specs.Worked.Statements.{plain_export}

-- a member without its bytes: its name, their number, and its archive symbols
pub record Outline : Type 0 where
  pub name : List ℕ
  pub size : ℕ
  pub symbols : List (List ℕ)

-- the outline of a member's specification
abbrev pub outline : MemberSpec → Outline
outline p = record { name = p.name; size = file_size p.contents; symbols = p.symbols }

-- a definition of an import name and exports
abbrev pub of_dll : List ℕ → List ExportView → DefinitionView
of_dll name exports = record empty_definition { import_name = name; exports = exports }

-- the specifications of a definition's members for Microsoft's linker
abbrev pub specs : DefinitionView → MachineType → List MemberSpec
specs d machine = member_specs (renamed d) machine Msvc

-- a function of foo.dll that gives the name that the DLL is asked for
abbrev pub foo_asking : List ℕ → List ℕ → DefinitionView
foo_asking name given =
    of_dll (codes "foo.dll") (record (plain_export name) { asked_name = Some given } ∷ [])

-- the definition is accepted, and these are its members, their bytes aside
pub record HasMembers (d : DefinitionView) (machine : MachineType)
    (members : List Outline) : Type 0 where
  pub accepted : refusal d machine Msvc ≡ None
  pub outlines : map outline (specs d machine) ≡ members

-- the definition is refused for this cause
abbrev pub IsRefused : DefinitionView → MachineType → Cause → Type 0
IsRefused d machine cause = refusal d machine Msvc ≡ Some cause

-- the text means a definition of which this holds
abbrev pub Means : List ℕ → MachineType → (DefinitionView → Type 0) → Type 0
Means text machine P = (definition : DefinitionView) × Parses text machine definition × P definition

-- the text's members are these, their bytes aside
abbrev pub TextHasMembers : List ℕ → MachineType → List Outline → Type 0
TextHasMembers text machine members = Means text machine (λ d. HasMembers d machine members)

-- the text means a definition that is refused for this cause
abbrev pub TextIsRefused : List ℕ → MachineType → Cause → Type 0
TextIsRefused text machine cause = Means text machine (λ d. IsRefused d machine cause)

-- the bytes of the member of an index
abbrev pub bytes_at : DefinitionView → MachineType → ℕ → Option (List ℕ)
bytes_at d machine index =
    option_map (λ p. file_bytes p.contents) (slice_get (specs d machine) index)

-- what the short imports of the exports ask for
abbrev pub asks : DefinitionView → MachineType → List Ask
asks d machine = map (ask_written machine) (renamed d).exports

-- the last two fields of a short import's header: the ordinal or hint, and the two types
abbrev pub last_fields : List ℕ → List ℕ
last_fields bytes = drop 16 (take 20 bytes)

-- the last two fields of the short import of a definition's only export, which has no alias
abbrev pub fields_of : MachineType → ExportView → Option (List ℕ)
fields_of machine e =
    option_map last_fields (bytes_at (of_dll (codes "foo.dll") (e ∷ [])) machine 3)

-- a NUL
abbrev pub nul : List ℕ
nul = 0 ∷ []

-- the first three members of a DLL, by its name without the extension and their lengths
abbrev pub header : List ℕ → List ℕ → ℕ → ℕ → List Outline
header base extension descriptor thunk =
    record {
      name = base ++ extension;
      size = descriptor;
      symbols = (codes "__IMPORT_DESCRIPTOR_" ++ base) ∷ [];
    }
    ∷ record {
      name = base ++ extension;
      size = 127;
      symbols = codes "__NULL_IMPORT_DESCRIPTOR" ∷ [];
    }
    ∷ record {
      name = base ++ extension;
      size = thunk;
      symbols = (0x7F ∷ (base ++ codes "_NULL_THUNK_DATA")) ∷ [];
    }
    ∷ []

-- the first three members of foo.dll on a machine of 64 bits, and of 32 bits
abbrev pub foo_header : List Outline
foo_header = header (codes "foo") (codes ".dll") 358 159

abbrev pub foo_header_members_32 : List Outline
foo_header_members_32 = header (codes "foo") (codes ".dll") 358 151

-- a member of foo.dll
abbrev pub of_foo : ℕ → List (List ℕ) → Outline
of_foo size listed = record { name = codes "foo.dll"; size = size; symbols = listed }

-- the member of a short import of foo.dll for a function of three letters
abbrev pub foo_short_import : List ℕ → Outline
foo_short_import name = of_foo 32 ((codes "__imp_" ++ name) ∷ name ∷ [])

-- one function, and one with an alias
abbrev pub bar_text : List ℕ
bar_text = codes "LIBRARY foo.dll\nEXPORTS\nbar"

abbrev pub baz_text : List ℕ
baz_text = codes "LIBRARY foo.dll\nEXPORTS\nfoo = bar == baz"

-- a plain, a decorated and a nameless export
abbrev pub a_text : List ℕ
a_text = codes "LIBRARY a.dll\nEXPORTS\nf\n_g@8\n@h@4 @ 7 NONAME"

-- an export's alias is its own name on the machines without underscores
abbrev pub self_text : List ℕ
self_text = codes "LIBRARY foo.dll\nEXPORTS\nfoo == foo"

-- members by name, length and archive symbols
pub record WorkedOutlines : Type 0 where
  pub one_function : TextHasMembers bar_text AMD64
      (foo_header ++ foo_short_import (codes "bar") ∷ [])
  pub one_function_32 : TextHasMembers bar_text ARMNT
      (foo_header_members_32 ++ foo_short_import (codes "bar") ∷ [])
  pub one_function_arm64 : TextHasMembers bar_text ARM64
      (foo_header ++ foo_short_import (codes "bar") ∷ [])
  pub with_underscore : TextHasMembers bar_text I386
      (foo_header_members_32 ++ of_foo 33 (codes "__imp__bar" ∷ codes "_bar" ∷ []) ∷ [])
  pub no_export : TextHasMembers (codes "LIBRARY a.dll " ++ nul ++ codes "EXPORTS x") AMD64
      (header (codes "a") (codes ".dll") 352 157)
  pub data_alone : TextHasMembers (codes "LIBRARY foo.dll\nEXPORTS\nbar DATA") AMD64
      (foo_header ++ of_foo 32 (codes "__imp_bar" ∷ []) ∷ [])
  pub alias : TextHasMembers baz_text AMD64
      (foo_header
      ++ of_foo 162 (codes "foo" ∷ [])
      ∷ of_foo 174 (codes "__imp_foo" ∷ [])
      ∷ foo_short_import (codes "foo")
      ∷ [])
  pub own_alias : TextHasMembers self_text AMD64 (foo_header ++ foo_short_import (codes "foo") ∷ [])
  pub own_alias_with_underscore : TextHasMembers self_text I386
      (foo_header_members_32
      ++ of_foo 163 (codes "_foo" ∷ [])
      ∷ of_foo 175 (codes "__imp__foo" ∷ [])
      ∷ of_foo 33 (codes "__imp__foo" ∷ codes "_foo" ∷ [])
      ∷ [])
  pub decorated : TextHasMembers a_text I386
      (header (codes "a") (codes ".dll") 352 149
      ++ record { name = codes "a.dll"; size = 29; symbols = codes "__imp__f" ∷ codes "_f" ∷ [] }
      ∷ record { name = codes "a.dll"; size = 31; symbols = codes "__imp__g@8" ∷ codes "_g@8" ∷ [] }
      ∷ record { name = codes "a.dll"; size = 31; symbols = codes "__imp_@h@4" ∷ codes "@h@4" ∷ [] }
      ∷ [])
  -- private exports are left out, whatever they hold
  pub private_nul : HasMembers
      (of_dll (codes "foo.dll")
      (record empty_export { name = codes "b" ++ nul; private = true } ∷ plain_export (codes "bar")
      ∷ []))
      AMD64
      (foo_header ++ foo_short_import (codes "bar") ∷ [])
  pub private_empty : HasMembers
      (of_dll (codes "foo.dll")
      (record empty_export { private = true } ∷ plain_export (codes "bar") ∷ []))
      AMD64
      (foo_header ++ foo_short_import (codes "bar") ∷ [])
  pub symbol_name : HasMembers
      (of_dll (codes "foo.dll")
      (record empty_export { name = codes "foo"; symbol_name = codes "_foo@8" } ∷ [])) AMD64
      (foo_header ++ of_foo 35 (codes "__imp__foo@8" ∷ codes "_foo@8" ∷ []) ∷ [])
  pub underscore_by_ordinal : HasMembers
      (of_dll (codes "foo.dll")
      (record empty_export { name = codes "_"; no_name = true; ordinal = 3 } ∷ []))
      I386
      (foo_header_members_32 ++ of_foo 30 (codes "__imp__" ∷ codes "_" ∷ []) ∷ [])
  pub given_name : HasMembers (foo_asking (codes "_F@8") (codes "F@8")) I386
      (foo_header_members_32 ++ of_foo 33 (codes "__imp__F@8" ∷ codes "_F@8" ∷ []) ∷ [])
  -- by ordinal no name type is looked for
  pub given_name_by_ordinal : HasMembers
      (of_dll (codes "foo.dll")
      (record (plain_export (codes "a")) { asked_name = Some (codes "b"); no_name = true } ∷ []))
      AMD64
      (foo_header ++ of_foo 30 (codes "__imp_a" ∷ codes "a" ∷ []) ∷ [])
  -- only a last extension in lower case is cut off a library's name
  pub upper_case : HasMembers (of_dll (codes "foo.DLL") []) AMD64
      (header (codes "foo.DLL") [] 366 163)
  pub two_extensions : HasMembers (of_dll (codes "a.dll.exe") []) AMD64
      (header (codes "a.dll") (codes ".exe") 364 161)

-- definitions that are refused
pub record WorkedRefusals : Type 0 where
  pub no_import_name : TextIsRefused [] AMD64 EmptyImportName
  pub nul_in_import_name : TextIsRefused (codes "LIBRARY a" ++ nul ++ codes "b") AMD64
      NulInImportName
  pub unclosed_quote : TextIsRefused (codes "LIBRARY foo.dll\nEXPORTS\n\"abc") AMD64 (EmptyName 0)
  pub empty_name : TextIsRefused (codes "LIBRARY foo.dll\nEXPORTS\n\"\"") AMD64 (EmptyName 0)
  pub empty_asked_name : TextIsRefused (codes "LIBRARY foo.dll\nEXPORTS\n\"\"") I386
      (EmptyAskedName 0)
  pub nul_in_name : IsRefused
      (of_dll (codes "foo.dll") (plain_export (codes "b" ++ nul) ∷ plain_export (codes "bar") ∷ []))
      AMD64
      (NulInExport 0)
  pub nul_in_symbol_name : IsRefused
      (of_dll (codes "foo.dll")
      (plain_export (codes "bar") ∷ record empty_export { name = codes "foo"; symbol_name = nul }
      ∷ [])) AMD64
      (NulInExport 1)
  pub nul_in_alias_target : IsRefused
      (of_dll (codes "foo.dll")
      (plain_export (codes "bar") ∷ record empty_export { name = codes "foo"; alias_target = nul }
      ∷ []))
      AMD64 (NulInExport 1)
  pub empty_external_name : IsRefused
      (of_dll (codes "foo.dll")
      (plain_export (codes "bar") ∷ record empty_export { name = codes "foo"; ext_name = Some [] }
      ∷ []))
      AMD64 (EmptyName 1)
  -- an empty name comes before a NUL in the other names
  pub empty_name_and_nul : IsRefused
      (of_dll (codes "foo.dll")
      (record empty_export { symbol_name = nul; alias_target = nul } ∷ [])) AMD64
      (EmptyName 0)
  -- a private export is counted
  pub counted : IsRefused
      (of_dll (codes "foo.dll") (record empty_export { private = true } ∷ plain_export [] ∷ []))
      AMD64
      (EmptyName 1)
  -- the first export's fault comes first
  pub nothing_asked : IsRefused
      (of_dll (codes "foo.dll")
      (record empty_export { name = codes "f"; symbol_name = codes "_@8" } ∷ plain_export [] ∷ []))
      AMD64
      (EmptyAskedName 0)
  -- a NUL in another name comes before an empty name to ask for
  pub nul_and_nothing_asked : IsRefused
      (of_dll (codes "foo.dll")
      (record empty_export { name = codes "f"; symbol_name = codes "_@8"; alias_target = nul }
      ∷ [])) AMD64
      (NulInExport 0)
  pub no_name_type : IsRefused (foo_asking (codes "a") (codes "b")) AMD64 (NoNameType 0)
  -- a name type cuts a symbol on I386 alone
  pub no_prefix_on_i386 : refusal (foo_asking (codes "__f") (codes "_f")) I386 Msvc ≡ None
  pub no_prefix_on_armnt : IsRefused (foo_asking (codes "__f") (codes "_f")) ARMNT (NoNameType 0)
  pub no_prefix_on_amd64 : IsRefused (foo_asking (codes "__f") (codes "_f")) AMD64 (NoNameType 0)
  pub no_prefix_on_arm64 : IsRefused (foo_asking (codes "__f") (codes "_f")) ARM64 (NoNameType 0)
  -- this symbol asks for an empty name by undecorate, and not for x by any name type
  pub no_name_type_of_symbol_name : IsRefused
      (of_dll (codes "foo.dll")
      (record empty_export
      { name = codes "f"; symbol_name = codes "_@8"; asked_name = Some (codes "x") } ∷ []))
      AMD64 (NoNameType 0)
  pub nothing_given : IsRefused (foo_asking (codes "a") []) AMD64 (EmptyAskedName 0)
  pub nothing_given_of_prefix : IsRefused (foo_asking (codes "_") []) AMD64 (EmptyAskedName 0)
  pub nul_in_asked_name : IsRefused (foo_asking (codes "a") (codes "a" ++ nul)) AMD64
      (NulInExport 0)
  pub nul_in_asked_name_by_ordinal : IsRefused
      (of_dll (codes "foo.dll")
      (record (plain_export (codes "a")) { asked_name = Some nul; no_name = true } ∷ [])) AMD64
      (NulInExport 0)

-- a symbol that is weak for another
abbrev pub weak_for : List ℕ → List ℕ → Alias
weak_for weak target = record { weak = weak; target = target }

-- the aliases of each export, by the symbol of its short import
abbrev pub aliases_written : DefinitionView → List (List Alias)
aliases_written d =
    map (λ e. aliases_for (short_import_symbol e) e.alias_target) (renamed d).exports

-- what is asked for, and what is weak for what
pub record WorkedMeanings : Type 0 where
  pub asked_on_i386 : Means (codes "LIBRARY foo.dll\nEXPORTS\nfoo\n@bar@8\n_x@8\n?y") I386
      (λ d. asks d I386
      ≡ Name (codes "foo") 0 ∷ Name (codes "@bar@8") 0 ∷ Name (codes "_x@8") 0 ∷ Name (codes "?y") 0
      ∷ [])
  pub undecorated : asks
      (of_dll (codes "foo.dll")
      (record empty_export { name = codes "foo"; symbol_name = codes "_foo@8" } ∷ [])) AMD64
      ≡ Name (codes "foo") 0 ∷ []
  pub given : asks (foo_asking (codes "_F@8") (codes "F")) I386 ≡ Name (codes "F") 0 ∷ []
  pub by_ordinal : Means a_text I386
      (λ d. asks d I386 ≡ Name (codes "f") 0 ∷ Name (codes "_g@8") 0 ∷ Ordinal 7 ∷ [])
  pub alias : Means baz_text AMD64
      (λ d. aliases_written d
      ≡ (weak_for (codes "foo") (codes "baz") ∷ weak_for (codes "__imp_foo") (codes "__imp_baz")
      ∷ []) ∷ [])
  pub own_alias : Means self_text I386
      (λ d. aliases_written d
      ≡ (weak_for (codes "_foo") (codes "foo") ∷ weak_for (codes "__imp__foo") (codes "__imp_foo")
      ∷ []) ∷ [])
  pub no_alias : Means self_text AMD64 (λ d. aliases_written d ≡ [] ∷ [])

-- the header of a short import of foo.dll on AMD64, with the size of its data and the last two
-- fields
abbrev pub header_on_amd64 : ℕ → List ℕ → List ℕ
header_on_amd64 size fields =
    0 ∷ 0 ∷ 0xFF ∷ 0xFF ∷ 0 ∷ 0 ∷ 0x64 ∷ 0x86 ∷ 0 ∷ 0 ∷ 0 ∷ 0 ∷ size ∷ 0 ∷ 0 ∷ 0 ∷ fields

-- bytes of members
pub record WorkedBytes : Type 0 where
  pub record_on_amd64 : Means bar_text AMD64 (λ d. bytes_at d AMD64 3 ≡ Some
      (header_on_amd64 0x0C (0 ∷ 0 ∷ 4 ∷ 0 ∷ []) ++ codes "bar" ++ nul ++ codes "foo.dll" ++ nul))
  pub short_import_with_symbol_name : bytes_at
      (of_dll (codes "foo.dll")
      (record empty_export { name = codes "foo"; symbol_name = codes "_foo@8" } ∷ [])) AMD64 3
      ≡ Some
      (header_on_amd64 0x0F (0 ∷ 0 ∷ 0x0C ∷ 0 ∷ []) ++ codes "_foo@8" ++ nul ++ codes "foo.dll" ++ nul)
  pub short_import_with_asked_name : bytes_at (foo_asking (codes "_F@8") (codes "F@8")) I386 3
      ≡ Some
      (0 ∷ 0 ∷ 0xFF ∷ 0xFF ∷ 0 ∷ 0 ∷ 0x4C ∷ 0x01 ∷ 0 ∷ 0 ∷ 0 ∷ 0 ∷ 0x0D ∷ 0 ∷ 0 ∷ 0 ∷ 0 ∷ 0 ∷ 8 ∷ 0
      ∷ (codes "_F@8" ++ nul ++ codes "foo.dll" ++ nul))
  pub record_on_i386 : Means a_text I386 (λ d. bytes_at d I386 3 ≡ Some
      (0 ∷ 0 ∷ 0xFF ∷ 0xFF ∷ 0 ∷ 0 ∷ 0x4C ∷ 0x01 ∷ 0 ∷ 0 ∷ 0 ∷ 0 ∷ 9 ∷ 0 ∷ 0 ∷ 0 ∷ 0 ∷ 0 ∷ 8 ∷ 0
      ∷ 0x5F ∷ 0x66 ∷ 0 ∷ 0x61 ∷ 0x2E ∷ 0x64 ∷ 0x6C ∷ 0x6C ∷ 0 ∷ []))
  pub decorated_fields : Means a_text I386
      (λ d. option_map last_fields (bytes_at d I386 4) ≡ Some (0 ∷ 0 ∷ 4 ∷ 0 ∷ []))
  pub ordinal_fields : Means a_text I386
      (λ d. option_map last_fields (bytes_at d I386 5) ≡ Some (7 ∷ 0 ∷ 0 ∷ 0 ∷ []))
  pub hint : Means (codes "LIBRARY foo.dll\nEXPORTS\nbar @258") AMD64
      (λ d. option_map last_fields (bytes_at d AMD64 3) ≡ Some (2 ∷ 1 ∷ 4 ∷ 0 ∷ []))
  pub descriptor_header : Means bar_text AMD64
      (λ d. option_map (take 20) (bytes_at d AMD64 0) ≡ Some
      (0x64 ∷ 0x86 ∷ 2 ∷ 0 ∷ 0 ∷ 0 ∷ 0 ∷ 0 ∷ 0x9E ∷ 0 ∷ 0 ∷ 0 ∷ 7 ∷ 0 ∷ 0 ∷ 0 ∷ 0 ∷ 0 ∷ 0 ∷ 0 ∷ []))
  -- the string table ends the file
  pub descriptor_strings : Means bar_text AMD64
      (λ d. option_map (drop 284) (bytes_at d AMD64 0) ≡ Some
      (74 ∷ 0 ∷ 0 ∷ 0
      ∷ (codes "__IMPORT_DESCRIPTOR_foo" ++ nul ++ codes "__NULL_IMPORT_DESCRIPTOR" ++ nul
      ++ 0x7F ∷ (codes "foo_NULL_THUNK_DATA" ++ nul))))
  pub weak_strings : Means baz_text AMD64 (λ d. option_map (drop 150) (bytes_at d AMD64 3) ≡ Some
      (12 ∷ 0 ∷ 0 ∷ 0 ∷ (codes "baz" ++ nul ++ codes "foo" ++ nul)))
  pub weak_address_strings : Means baz_text AMD64
      (λ d. option_map (drop 150) (bytes_at d AMD64 4) ≡ Some
      (24 ∷ 0 ∷ 0 ∷ 0 ∷ (codes "__imp_baz" ++ nul ++ codes "__imp_foo" ++ nul)))

-- a function foo
abbrev pub foo : ExportView
foo = plain_export (codes "foo")

-- the last two fields of the short imports of foo
pub record WorkedFields : Type 0 where
  pub function : fields_of AMD64 foo ≡ Some (0 ∷ 0 ∷ 4 ∷ 0 ∷ [])
  pub is_data : fields_of AMD64 (record foo { is_data = true }) ≡ Some (0 ∷ 0 ∷ 5 ∷ 0 ∷ [])
  pub constant : fields_of AMD64 (record foo { constant = true }) ≡ Some (0 ∷ 0 ∷ 6 ∷ 0 ∷ [])
  pub data_and_constant : fields_of AMD64 (record foo { is_data = true; constant = true })
      ≡ Some (0 ∷ 0 ∷ 5 ∷ 0 ∷ [])
  pub function_by_ordinal : fields_of AMD64 (record foo { no_name = true; ordinal = 1 })
      ≡ Some (1 ∷ 0 ∷ 0 ∷ 0 ∷ [])
  pub data_by_ordinal : fields_of AMD64 (record foo { is_data = true; no_name = true; ordinal = 1 })
      ≡ Some (1 ∷ 0 ∷ 1 ∷ 0 ∷ [])
  pub constant_by_ordinal : fields_of AMD64
      (record foo { constant = true; no_name = true; ordinal = 1 })
      ≡ Some (1 ∷ 0 ∷ 2 ∷ 0 ∷ [])
  pub with_underscore : fields_of I386 (plain_export (codes "_foo")) ≡ Some (0 ∷ 0 ∷ 8 ∷ 0 ∷ [])
