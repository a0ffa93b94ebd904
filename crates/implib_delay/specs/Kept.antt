-- Views of delayed exports that are kept as what their objects say. No promise cites them.
use Rattle.std.specs.Prelude.{◌≡◌, ℕ, ◌≤◌, List, [], ◌∷◌, ◌++◌, None, drop, map, string_bytes}
use Rattle.std.specs.Prelude.{Result, IfOk, OnOk, false, true}
use Rattle.std.specs.List.{AllByRecursion, list_any}
use Rattle.std.specs.Option.{option_map}
use Rattle.implib.specs.declared.error.Error.{Error}
use Rattle.implib.specs.declared.machine.MachineType.{MachineType}
use Rattle.implib.specs.Definition.{ExportView}
use Rattle.implib.specs.Fault.{IfInvalid, MemberTooLong}
use Rattle.implib.specs.Formats.Layout.{encoded, encoded_size}
use Rattle.implib.specs.Formats.Writer.{layout_of}
use Rattle.implib.specs.Import.{holds, imp_symbol, is_empty_text}
use Rattle.implib.specs.Members.MemberSpec.{MemberSpec, MemberView, member_of}
use Rattle.implib.specs.Members.Members.{is_too_long}
use Rattle.implib_delay.specs.declared.exports.KeptExport.{KeptExport}
use Rattle.implib_delay.specs.Names.{handle_symbol, name_symbol, tail_symbol}
use Rattle.implib_delay.specs.Objects.{export_object}

-- what kept exports show: what they are for, and their members, in order
pub record DelayedExportsView : Type 0 where
  pub machine : MachineType
  pub linked : List ℕ
  pub members : List MemberView

-- the export's name, which follows the six bytes `__imp_` in the symbol of its entry
abbrev pub kept_name : KeptExport → List ℕ
kept_name k = drop 6 (string_bytes k.address)

-- the export, as far as its object says it
abbrev pub kept_export : KeptExport → ExportView
kept_export k = record {
  name = kept_name k;
  ext_name = None;
  symbol_name = [];
  asked_name = option_map string_bytes k.asked_name;
  alias_target = [];
  ordinal = k.ordinal;
  no_name = k.no_name;
  is_data = false;
  private = false;
  constant = false;
}

-- the member
abbrev pub kept_view : MachineType → List ℕ → KeptExport → MemberView
kept_view machine linked k = record {
  name = string_bytes k.name;
  bytes = encoded (layout_of (export_object machine linked (kept_export k)));
  symbols = kept_name k ∷ string_bytes k.address ∷ [];
}

-- the symbol of the entry is the name after the six bytes `__imp_`
abbrev pub HasAddress : KeptExport → Type 0
HasAddress k = string_bytes k.address ≡ imp_symbol (kept_name k)

-- what is kept is what the object of an export says, with these texts and this size
pub record KeepsExport (name address : List ℕ) (size : ℕ) (e : ExportView)
    (k : KeptExport) : Type 0 where
  pub name_is : string_bytes k.name ≡ name
  pub address_is : string_bytes k.address ≡ address
  pub size_is : k.size ≡ size
  pub asked_name : option_map string_bytes k.asked_name ≡ e.asked_name
  pub ordinal : k.ordinal ≡ e.ordinal
  pub no_name : k.no_name ≡ e.no_name

-- what holds of one that is kept for a library of this name
pub record IsKept (machine : MachineType) (linked : List ℕ) (k : KeptExport) : Type 0 where
  pub address : HasAddress k
  pub free : holds 0 (kept_name k) ≡ false
  pub filled : is_empty_text (kept_name k) ≡ false
  pub sized : k.size ≡ encoded_size (layout_of (export_object machine linked (kept_export k)))
  pub short : k.size ≤ 0xFFFF_FFFF

-- what holds of all that is kept for a library of this name, with the symbols of its head and its
-- tail
pub record AreKept (machine : MachineType) (linked tail dll_name handle : List ℕ)
    (exports : List KeptExport) : Type 0 where
  pub tail_is : tail ≡ tail_symbol machine linked
  pub name_is : dll_name ≡ name_symbol linked
  pub handle_is : handle ≡ handle_symbol linked
  pub free : holds 0 linked ≡ false
  pub each : AllByRecursion (IsKept machine linked) exports

-- the specified members are put after those that are kept; they are refused only where one is too
-- long
pub record KeepsExports (specs : List MemberSpec) (old new : DelayedExportsView)
    (result : Result (Unit {0}) Error) : Type 0 where
  pub ok : OnOk result (new ≡ record old { members = old.members ++ map member_of specs })
  pub fit : OnOk result (list_any is_too_long specs ≡ false)
  pub too_long : IfInvalid result
      (λ cause. (cause ≡ MemberTooLong) × (list_any is_too_long specs ≡ true))

-- the specified members are kept; they are refused only where one is too long
pub record MakesExports (specs : List MemberSpec)
    (result : Result DelayedExportsView Error) : Type 0 where
  pub ok : IfOk result (λ exports. exports.members ≡ map member_of specs)
  pub fit : OnOk result (list_any is_too_long specs ≡ false)
  pub too_long : IfInvalid result
      (λ cause. (cause ≡ MemberTooLong) × (list_any is_too_long specs ≡ true))

-- the specified members, most of them kept; they are refused only where one is too long
pub record MakesDelayed (specs : List MemberSpec)
    (result : Result (List MemberView) Error) : Type 0 where
  pub ok : IfOk result (λ members. members ≡ map member_of specs)
  pub fit : OnOk result (list_any is_too_long specs ≡ false)
  pub too_long : IfInvalid result
      (λ cause. (cause ≡ MemberTooLong) × (list_any is_too_long specs ≡ true))
