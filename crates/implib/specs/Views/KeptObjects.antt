-- Views of exports for GNU's linker that are kept as what their objects say. No promise cites them.
use Rattle.std.specs.Prelude.{◌≡◌, ℕ, ◌+◌, ◌*◌, ◌≤◌, List, [], ◌∷◌, ◌++◌, None, drop, length, map}
use Rattle.std.specs.Prelude.{if◌then◌else◌, string_bytes, Result, OnOk, false, true}
use Rattle.std.specs.List.{AllByRecursion, list_any}
use Rattle.std.specs.Option.{option_map}
use Rattle.implib.specs.declared.error.Error.{Error}
use Rattle.implib.specs.declared.gnu.export_objects.KeptObject.{KeptObject}
use Rattle.implib.specs.declared.machine.MachineType.{MachineType}
use Rattle.implib.specs.Definition.{ExportView}
use Rattle.implib.specs.Fault.{IfInvalid, MemberTooLong}
use Rattle.implib.specs.Formats.Layout.{encoded, encoded_size, string_size}
use Rattle.implib.specs.Formats.Writer.{is_long, layout_of}
use Rattle.implib.specs.Import.{holds, imp_symbol, is_empty_text}
use Rattle.implib.specs.Members.ExportObjects.{ExportObjectsView}
use Rattle.implib.specs.Members.Gnu.{export_name, export_object, head_symbol, stub_bytes}
use Rattle.implib.specs.Members.Gnu.{stub_relocations}
use Rattle.implib.specs.Members.MemberSpec.{MemberSpec, MemberView, member_of}
use Rattle.implib.specs.Members.Members.{is_too_long}

-- the export's name, which follows the six bytes `__imp_` in the symbol of its address
abbrev pub kept_name : KeptObject → List ℕ
kept_name k = drop 6 (string_bytes k.address)

-- the export, as far as its object says it
abbrev pub kept_export : KeptObject → ExportView
kept_export k = record {
  name = kept_name k;
  ext_name = None;
  symbol_name = [];
  asked_name = option_map string_bytes k.asked_name;
  alias_target = [];
  ordinal = k.ordinal;
  no_name = k.no_name;
  is_data = k.is_data;
  private = false;
  constant = false;
}

-- its archive symbols
abbrev pub kept_symbols : KeptObject → List (List ℕ)
kept_symbols k =
    if k.is_data then string_bytes k.address ∷ [] else kept_name k ∷ string_bytes k.address ∷ []

-- the member
abbrev pub kept_view : MachineType → List ℕ → KeptObject → MemberView
kept_view machine linked k = record {
  name = string_bytes k.name;
  bytes = encoded (layout_of (export_object machine linked (kept_export k)));
  symbols = kept_symbols k;
}

-- the size in bytes of the code of an export and of its relocations
abbrev pub stub_size : MachineType → ℕ
stub_size machine = length (stub_bytes machine) + 10 * length (stub_relocations machine 2)

-- the size in bytes of a name in the string table; 0 where its record has it
abbrev pub long_name_size : List ℕ → ℕ
long_name_size name = if is_long name then string_size name else 0

-- the symbol of the address is the name after the six bytes `__imp_`
abbrev pub HasAddress : KeptObject → Type 0
HasAddress k = string_bytes k.address ≡ imp_symbol (kept_name k)

-- what is kept is what the object of an export of this number says
pub record KeepsExport (linked : List ℕ) (number : ℕ) (e : ExportView)
    (k : KeptObject) : Type 0 where
  pub name : string_bytes k.name ≡ export_name linked number
  pub address : string_bytes k.address ≡ imp_symbol e.name
  pub asked_name : option_map string_bytes k.asked_name ≡ e.asked_name
  pub ordinal : k.ordinal ≡ e.ordinal
  pub no_name : k.no_name ≡ e.no_name
  pub is_data : k.is_data ≡ e.is_data

-- what holds of one that is kept for a library of this name
pub record IsKept (machine : MachineType) (linked : List ℕ) (k : KeptObject) : Type 0 where
  pub address : HasAddress k
  pub free : holds 0 (kept_name k) ≡ false
  pub filled : is_empty_text (kept_name k) ≡ false
  pub short : encoded_size (layout_of (export_object machine linked (kept_export k))) ≤ 0xFFFF_FFFF

-- the members are put after those that are kept; they are refused only where one is too long
pub record KeepsObjects (specs : List MemberSpec) (old new : ExportObjectsView)
    (result : Result (Unit {0}) Error) : Type 0 where
  pub ok : OnOk result (new ≡ record old { members = old.members ++ map member_of specs })
  pub fit : OnOk result (list_any is_too_long specs ≡ false)
  pub too_long : IfInvalid result
      (λ cause. (cause ≡ MemberTooLong) × (list_any is_too_long specs ≡ true))

-- what holds of all that is kept for a library of this name, with the symbol of its head
pub record AreKept (machine : MachineType) (linked symbol : List ℕ)
    (objects : List KeptObject) : Type 0 where
  pub head : symbol ≡ head_symbol machine linked
  pub free : holds 0 linked ≡ false
  pub each : AllByRecursion (IsKept machine linked) objects
