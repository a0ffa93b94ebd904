-- Reading a delayed import by its bytes, whoever wrote it in this form: by the names of sections
-- and symbols, the fields of the descriptor and the relocations (mingw-w64, `delayimp.h`,
-- "ImgDelayDescr"). The reader states the names of sections and the offsets of fields itself, and
-- takes none from the tables.
use Rattle.std.specs.Prelude.{◌≡◌, ℕ, Bool, false, ◌&&◌, ◌==◌, List, [], ◌∷◌, ◌++◌, map, take}
use Rattle.std.specs.Prelude.{bytes_eq, codes, Option, Some, None}
use Rattle.std.specs.Prelude.{is_some, if◌then◌else◌}
use Rattle.std.specs.List.{find}
use Rattle.std.specs.Option.{option_and_then, option_map}
use Rattle.implib.specs.declared.machine.MachineType.{MachineType}
use Rattle.implib.specs.Definition.{DefinitionView}
use Rattle.implib.specs.Formats.Object.{Object, ObjectSection, before_nul, object_in, u32_at}
use Rattle.implib.specs.Import.{Ask, Import, imports_of}
use Rattle.implib.specs.Members.GnuReader.{ask_of_entry, externals_in, relocated_to}
use Rattle.implib.specs.Members.GnuReader.{section_defining}
use Rattle.implib.specs.Members.GnuReader.{section_named, section_of_symbol, symbol_at}
use Rattle.implib.specs.Members.GnuReader.{text_section}
use Rattle.implib.specs.Members.MemberSpec.{MemberView}

-- the section of its own that an object's section is relocated to at an offset
abbrev pub own_section : Object → ℕ → ObjectSection → Option ObjectSection
own_section o offset section = option_and_then
    (λ r. option_and_then (section_of_symbol o) (symbol_at o r.symbol))
    (find (λ r. r.offset == offset) section.relocations)

-- whether that section has this name
abbrev pub leads_to : Object → ℕ → List ℕ → ObjectSection → Bool
leads_to o offset name section =
    elim (own_section o offset section) [ None ↦ false | Some found ↦ bytes_eq found.name name ]

-- whether a section is there and passes a test
abbrev pub passes : (ObjectSection → Bool) → Option ObjectSection → Bool
passes test None = false
passes test (Some section) = test section

-- whether an object defines the symbol that another's section is relocated to at an offset, in a
-- section of a name
abbrev pub is_defined_by : Object → Object → ℕ → List ℕ → ObjectSection → Bool
is_defined_by other o offset name section =
    is_some (option_and_then (section_defining other name) (relocated_to o offset section))

-- The descriptor: its first word is 1, for fields that are relative to the image. At 8 it leads to
-- the handle, in the head's `.data`, and at 12 to the entry.
abbrev pub is_descriptor : Object → Object → ObjectSection → Bool
is_descriptor o head section =
    u32_at section.bytes 0 == 1
    && is_defined_by head o 8 (codes ".data" ++ 0 ∷ 0 ∷ 0 ∷ []) section
    && leads_to o 12 (codes ".didat$5") section

-- The entry leads behind the jump of the stub, which has 6 bytes.
abbrev pub is_entry : Object → ObjectSection → Bool
is_entry o section = u32_at section.bytes 0 == 6 && leads_to o 0 text_section section

-- The stub jumps through the entry; behind the jump it takes the addresses of the entry and the
-- descriptor, and jumps to the code that the head defines. Where its fields are follows from the
-- machine, 0x14C for I386.
abbrev pub is_stub : Object → Object → ObjectSection → Bool
is_stub o head section =
    let narrow : Bool = o.machine == 0x14C in
    bytes_eq (take 2 section.bytes) (0xFF ∷ 0x25 ∷ [])
    && leads_to o 2 (codes ".didat$5") section
    && leads_to o (if narrow then 7 else 9) (codes ".didat$5") section
    && leads_to o (if narrow then 12 else 16) (codes ".didat$2") section
    && is_defined_by head o (if narrow then 17 else 21) text_section section

-- whether an object is a delayed import, with the head
unfoldable pub is_delayed : Object → Object → Bool
is_delayed o head =
    passes (is_descriptor o head) (section_named o (codes ".didat$2"))
    && passes (is_entry o) (section_named o (codes ".didat$5"))
    && passes (is_stub o head) (section_named o text_section)

-- the DLL's name: at 4 the descriptor leads to it, in the tail's `.didat$7`
unfoldable pub delayed_dll : Object → Object → Option (List ℕ)
delayed_dll o tail =
    let symbol : Option (List ℕ) =
    option_and_then (relocated_to o 4) (section_named o (codes ".didat$2")) in
    let name : Option ObjectSection =
    option_and_then (section_defining tail (codes ".didat$7")) symbol in
    option_and_then (λ section. before_nul section.bytes) name

-- what is asked of it: at 16 the descriptor leads to the name table, whose first thunk says it
unfoldable pub delayed_ask : Object → Option Ask
delayed_ask o =
    let table : Option ObjectSection =
    option_and_then (own_section o 16) (section_named o (codes ".didat$2")) in
    option_and_then (λ section. ask_of_entry o section.bytes section.relocations) table

-- the symbols that are declared: those of the entry, and then those of the stub
unfoldable pub delayed_symbols : Object → List (List ℕ)
delayed_symbols o = externals_in o (codes ".didat$5") ++ externals_in o text_section

-- the import from a DLL
abbrev pub delayed_from : Object → List ℕ → Ask → Import
delayed_from o dll ask = record { dll = dll; declared = delayed_symbols o; ask = ask }

-- the import that an object is, with the head and the tail, if it is a delayed one
abbrev pub delayed_import : Object → Object → Object → Option Import
delayed_import o head tail =
    if is_delayed o head then
    option_and_then (λ dll. option_map (delayed_from o dll) (delayed_ask o)) (delayed_dll o tail)
    else None

-- the same by the bytes of the three files
abbrev pub delayed_import_in : List ℕ → List ℕ → List ℕ → Option Import
delayed_import_in own head tail = option_and_then
    (λ o. option_and_then (λ h. option_and_then (λ t. delayed_import o h t) (object_in tail))
    (object_in head))
    (object_in own)

-- What the members of a definition are read as: the last two are the head and the tail, and with
-- these the others, one after the other, are the imports that the definition means.
pub record DelayedReadBack (d : DefinitionView) (machine : MachineType)
    (members : List MemberView) : Type 0 where
  pub exports : List MemberView
  pub head : MemberView
  pub tail : MemberView
  pub all : members ≡ exports ++ (head ∷ tail ∷ [])
  pub read : map (λ m. delayed_import_in m.bytes head.bytes tail.bytes) exports
      ≡ map Some (imports_of machine d)
