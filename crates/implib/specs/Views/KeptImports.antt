-- Views of short imports that are kept as what they say. No promise cites them.
use Rattle.std.specs.Prelude.{◌≡◌, ℕ, ◌+◌, ◌≤◌, ◌==◌, List, [], ◌∷◌, ◌++◌, drop, length, map}
use Rattle.std.specs.Prelude.{if◌then◌else◌, string_bytes, Result, OnOk, false, true}
use Rattle.std.specs.List.{list_any}
use Rattle.implib.specs.declared.error.Error.{Error}
use Rattle.implib.specs.declared.machine.MachineType.{MachineType}
use Rattle.implib.specs.declared.msvc.short_imports.KeptImport.{KeptImport}
use Rattle.implib.specs.Fault.{IfInvalid, MemberTooLong}
use Rattle.implib.specs.Formats.ShortImport.{ShortImport, import_data}
use Rattle.implib.specs.Import.{imp_symbol}
use Rattle.implib.specs.LibraryName.{NamesOfDll}
use Rattle.implib.specs.Machine.{machine_number}
use Rattle.implib.specs.Members.MemberSpec.{MemberSpec, MemberView, member_of}
use Rattle.implib.specs.Members.Members.{is_too_long}
use Rattle.implib.specs.Members.Msvc.{short_import_bytes}
use Rattle.implib.specs.Members.ShortImports.{ShortImportsView}

-- the symbol, which follows the six bytes `__imp_` in that of its address
abbrev pub kept_symbol : KeptImport → List ℕ
kept_symbol k = drop 6 (string_bytes k.address)

-- what it says
abbrev pub kept_import : MachineType → List ℕ → KeptImport → ShortImport
kept_import machine dll k = record {
  version = 0;
  machine = machine_number machine;
  time = 0;
  ordinal = k.ordinal;
  import_type = k.import_type;
  name_type = k.name_type;
  symbol = kept_symbol k;
  dll = dll;
}

-- its archive symbols
abbrev pub kept_symbols : KeptImport → List (List ℕ)
kept_symbols k =
    string_bytes k.address ∷ (if k.import_type == import_data then [] else kept_symbol k ∷ [])

-- the member
abbrev pub kept_view : MachineType → NamesOfDll → KeptImport → MemberView
kept_view machine dll k = record {
  name = dll.linked;
  bytes = short_import_bytes (kept_import machine dll.text k);
  symbols = kept_symbols k;
}

-- what holds of one that is kept for a DLL of this name
pub record IsKept (dll : List ℕ) (k : KeptImport) : Type 0 where
  pub symbol : List ℕ
  pub address : string_bytes k.address ≡ imp_symbol symbol
  pub import_type : k.import_type ≤ 3
  pub name_type : k.name_type ≤ 7
  pub short : 20 + (length symbol + length dll + 2) ≤ 0xFFFF_FFFF

-- the members are put after those that are kept; they are refused only where one is too long
pub record KeepsMembers (specs : List MemberSpec) (old new : ShortImportsView)
    (result : Result (Unit {0}) Error) : Type 0 where
  pub ok : OnOk result (new ≡ record old { members = old.members ++ map member_of specs })
  pub fit : OnOk result (list_any is_too_long specs ≡ false)
  pub too_long : IfInvalid result
      (λ cause. (cause ≡ MemberTooLong) × (list_any is_too_long specs ≡ true))
