-- The members of an export in two lists.
use Rattle.std.proofs.Common.{◌≡◌, ℕ, ◌+◌, ◌<◌, ◌++◌, Bool, true, false, List, [], ◌∷◌, length, drop, if◌then◌else◌, refl, ap, arith, append-nil, Result, Ok, Err}
use Rattle.std.specs.Prelude.{nat_lt, ◌||◌, codes}
use Rattle.std.specs.List.{list_any}
use Rattle.std.proofs.lemmas.List.{length-append}
use Rattle.std.proofs.lemmas.Bool.{le-ltb, ltb-false, or_from, or_parts}
use Rattle.std.proofs.lemmas.List.Folds.{list_any-append}
use Rattle.implib.specs.declared.error.Error.{Error}
use Rattle.implib.specs.declared.error.Error.TheVariants.{Invalid, OutOfMemory}
use Rattle.implib.specs.declared.machine.MachineType.{MachineType}
use Rattle.implib.specs.declared.member.Member.{Member}
use Rattle.implib.specs.Definition.{ExportView}
use Rattle.implib.specs.Fault.{IfInvalid, MemberTooLong}
use Rattle.implib.specs.Formats.Layout.{auxiliary_count, contents_offset, contents_size, encoded_size, record_count, records, string_size, strings_size, symbol_table_offset}
use Rattle.implib.specs.Import.{imp_symbol}
use Rattle.implib.specs.LibraryName.{NamesOfDll}
use Rattle.implib.specs.Members.MemberLists.{alias_specs, has_code, import_specs, is_weak}
use Rattle.implib.specs.Members.MemberSpec.{MemberSpec}
use Rattle.implib.specs.Members.Members.{is_too_long}
use Rattle.implib.specs.Members.MsvcMembers.{export_specs, short_import_spec, weak_address_spec, weak_specs, weak_symbol_spec}
use Rattle.implib.specs.Members.WeakExternal.{weak_object}
use Rattle.implib.specs.Members.ShortImports.{ShortImportsView}
use Rattle.implib.specs.Views.KeptImports.{KeepsMembers}
use Rattle.implib.specs.Views.Making.{PushesAlias, PushesKept, PushesListed, PushesMembers}

-- the size of a weak external
weak_size : (machine : MachineType) (weak target : List ℕ) → encoded_size (weak_object machine weak target) ≡ 60 + 90 + (4 + (0 + (length target + 1) + (length weak + 1)))
unfolding encoded_size symbol_table_offset contents_offset contents_size records record_count auxiliary_count strings_size string_size weak_object
weak_size machine weak target = refl

-- that of an address is longer
length-imp_symbol : (name : List ℕ) → length (imp_symbol name) ≡ 6 + length name
length-imp_symbol name = length-append (codes "__imp_") name

below : (a b : ℕ) → a < b → nat_lt 0xFFFF_FFFF b ≡ false → nat_lt 0xFFFF_FFFF a ≡ false
below a b less fits = grind (arith, ltb-false, le-ltb)

module _ (machine : MachineType) (linked : List ℕ) (e : ExportView) where
  shorter : is_too_long (weak_address_spec machine linked e) ≡ false → is_too_long (weak_symbol_spec machine linked e) ≡ false
  shorter fits = grind (arith, weak_size, length-imp_symbol, below)

  both : is_weak e ≡ true → weak_specs machine linked e ≡ weak_symbol_spec machine linked e ∷ weak_address_spec machine linked e ∷ []
  unfolding weak_specs
  both weak = ap (λ b. if b then weak_symbol_spec machine linked e ∷ weak_address_spec machine linked e ∷ [] else []) weak

  none : is_weak e ≡ false → weak_specs machine linked e ≡ []
  unfolding weak_specs
  none plain = ap (λ b. if b then weak_symbol_spec machine linked e ∷ weak_address_spec machine linked e ∷ [] else []) plain

  kept_of_data : is_weak e ≡ true → has_code e ≡ false → alias_specs machine linked e ≡ weak_address_spec machine linked e ∷ []
  kept_of_data weak data_only = grind (arith, both)

  kept_fit : is_weak e ≡ true → list_any is_too_long (weak_address_spec machine linked e ∷ []) ≡ false → list_any is_too_long (weak_specs machine linked e) ≡ false
  kept_fit weak fits = grind (arith, or_parts, both, or_from, shorter)

  last_true : (a b : Bool) → b ≡ true → (a || b) ≡ true
  last_true true b is = refl
  last_true false b is = is

  kept_long : is_weak e ≡ true → list_any is_too_long (weak_address_spec machine linked e ∷ []) ≡ true → list_any is_too_long (weak_specs machine linked e) ≡ true
  kept_long weak long = grind (arith, both, last_true)

  -- of data the weak external of its address is pushed alone
  pub kept_data : (old new : List Member) (result : Result (Unit {0}) Error) → is_weak e ≡ true → has_code e ≡ false
      → PushesMembers (weak_address_spec machine linked e ∷ []) old new result → PushesKept machine linked e old new result
  kept_data old new (Ok done) weak data_only pushed = grind (arith, kept_of_data, kept_fit)
  kept_data old new (Err (OutOfMemory refused)) weak data_only pushed = record { ok = tt; fit = tt; too_long = tt }
  kept_data old new (Err (Invalid fault)) weak data_only pushed = grind (arith, kept_long)

-- a call that fails
abbrev failed : Error → Result (Unit {0}) Error
failed error = Err error

module _ (machine : MachineType) (dll : NamesOfDll) (e : ExportView) where
  own : is_weak e ≡ false → export_specs machine dll e ≡ short_import_spec machine dll e ∷ []
  own plain = ap (λ t. t ++ short_import_spec machine dll e ∷ []) (none machine dll.linked e plain)

  no_alias : (code : Bool) (specs : List MemberSpec) → specs ≡ [] → (if code then specs else drop 1 specs) ≡ []
  no_alias true specs is = is
  no_alias false specs is = ap (drop 1) is

  any_of_both : (a b : List MemberSpec) → list_any is_too_long (a ++ b) ≡ (list_any is_too_long a || list_any is_too_long b)
  any_of_both a b = list_any-append is_too_long a b

  first_true : (a b : Bool) → a ≡ true → (a || b) ≡ true
  first_true true b is = refl
  first_true false b is = absurd (cc)

  alias_fits : list_any is_too_long (weak_specs machine dll.linked e) ≡ false → is_too_long (short_import_spec machine dll e) ≡ false
      → list_any is_too_long (export_specs machine dll e) ≡ false
  alias_fits weak import_fits = grind (arith, any_of_both, or_from)

  alias_long : list_any is_too_long (weak_specs machine dll.linked e) ≡ true → list_any is_too_long (export_specs machine dll e) ≡ true
  alias_long weak = grind (arith, any_of_both, first_true)

  pub import_long : is_too_long (short_import_spec machine dll e) ≡ true → list_any is_too_long (export_specs machine dll e) ≡ true
  import_long long = grind (arith, any_of_both, last_true, first_true)

  -- an alias whose short import fits is pushed as its weak externals are
  pub alias_of_kept : (old new : List Member) (result : Result (Unit {0}) Error) → is_too_long (short_import_spec machine dll e) ≡ false
      → PushesKept machine dll.linked e old new result → PushesAlias machine dll e old new result
  alias_of_kept old new (Ok done) import_fits pushed = grind (arith, alias_fits)
  alias_of_kept old new (Err (OutOfMemory refused)) import_fits pushed = record { ok = tt; fit = tt; too_long = tt }
  alias_of_kept old new (Err (Invalid fault)) import_fits pushed = grind (arith, alias_long)

  -- and another is refused
  pub alias_refused : (old new : List Member) (error : Error)
      → IfInvalid (failed error) (λ cause. (cause ≡ MemberTooLong) × ((machine : MachineType) (linked : List ℕ) → is_too_long (short_import_spec machine (record { linked = linked; text = dll.text }) e) ≡ true))
      → PushesAlias machine dll e old new (Err error)
  alias_refused old new (OutOfMemory refused) is = record { ok = tt; fit = tt; too_long = tt }
  alias_refused old new (Invalid fault) is = record {
    ok = tt;
    fit = tt;
    too_long = (is.0, import_long (is.1 machine dll.linked));
  }

  import_specs-weak : is_weak e ≡ true → import_specs machine dll e ≡ []
  import_specs-weak weak = ap (λ b. if b then [] else short_import_spec machine dll e ∷ []) weak

  import_specs-own : is_weak e ≡ false → import_specs machine dll e ≡ short_import_spec machine dll e ∷ []
  import_specs-own plain = ap (λ b. if b then [] else short_import_spec machine dll e ∷ []) plain

  alias_specs-none : is_weak e ≡ false → alias_specs machine dll.linked e ≡ []
  alias_specs-none plain = no_alias (has_code e) (weak_specs machine dll.linked e) (none machine dll.linked e plain)

-- an alias changes the list of aliases alone
pub listed_alias : (e : ExportView) (imports : ShortImportsView) (old new : List Member) (result : Result (Unit {0}) Error) → is_weak e ≡ true
    → PushesAlias imports.machine imports.dll e old new result → PushesListed e imports imports old new result
listed_alias e imports old new (Ok done) weak pushed = grind (arith, append-nil, import_specs-weak)
listed_alias e imports old new (Err (OutOfMemory refused)) weak pushed = record { imports_ok = tt; aliases_ok = tt; fit = tt; too_long = tt }
listed_alias e imports old new (Err (Invalid fault)) weak pushed = record { imports_ok = tt; aliases_ok = tt; fit = tt; too_long = pushed.too_long }

-- and another export the imports alone
pub listed_import : (e : ExportView) (old new : ShortImportsView) (aliases : List Member) (result : Result (Unit {0}) Error) → is_weak e ≡ false
    → KeepsMembers (short_import_spec old.machine old.dll e ∷ []) old new result → PushesListed e old new aliases aliases result
listed_import e old new aliases (Ok done) plain kept = grind (arith, import_specs-own, append-nil, alias_specs-none, own)
listed_import e old new aliases (Err (OutOfMemory refused)) plain kept = record { imports_ok = tt; aliases_ok = tt; fit = tt; too_long = tt }
listed_import e old new aliases (Err (Invalid fault)) plain kept = grind (arith, own)
