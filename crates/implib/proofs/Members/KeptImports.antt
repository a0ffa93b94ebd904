-- Short imports that are kept as what they say.
use Rattle.std.proofs.Common.{◌≡◌, ℕ, ◌+◌, ◌≤◌, true, false, List, [], ◌∷◌, ◌++◌, length, drop, map, Option, Some, None, Result, Err, refl, sym, ap, ◌∙◌, arith, length-append}
use Rattle.std.specs.Prelude.{◌||◌, codes, get_or, IfSome, option_map, string_bytes}
use Rattle.std.specs.List.{AllByRecursion, slice_get}
use Rattle.std.specs.Str.{IsCharBoundary}
use Rattle.std.proofs.lemmas.List.{map-append}
use Rattle.std.proofs.lemmas.Option.{slice_get-map}
use Rattle.std.proofs.lemmas.Str.{IsCharBoundary-after_ascii, IsUtf8-string_bytes}
use Rattle.implib.specs.declared.error.Error.{Error}
use Rattle.implib.specs.declared.error.Error.TheVariants.{Invalid, OutOfMemory}
use Rattle.implib.specs.declared.machine.MachineType.{MachineType}
use Rattle.implib.specs.declared.msvc.short_imports.KeptImport.{KeptImport}
use Rattle.implib.specs.Definition.{ExportView}
use Rattle.implib.specs.Fault.{IfInvalid, MemberTooLong}
use Rattle.implib.specs.LibraryName.{NamesOfDll}
use Rattle.implib.specs.Members.Members.{is_too_long}
use Rattle.implib.specs.Members.MemberSpec.{MemberView, member_of}
use Rattle.implib.specs.Members.MsvcMembers.{short_import_spec}
use Rattle.implib.specs.Members.ShortImports.{ShortImportsView}
use Rattle.implib.specs.Views.KeptImports.{IsKept, KeepsMembers, kept_import, kept_symbol, kept_view}
use Rattle.implib.proofs.Link.LinkedMembers.{all_at}
use Rattle.implib.proofs.Members.ShortImport.{length-short_import_bytes}
use Rattle.implib.proofs.Text.Trivia.{AllByRecursion-append}

-- a call that fails
abbrev failed : Error → Result (Unit {0}) Error
failed error = Err error

module _ (dll : List ℕ) (k : KeptImport) (kept : IsKept dll k) where
  -- the symbol of the address is longer by six
  pub length-address : length (string_bytes k.address) ≡ 6 + length kept.symbol
  length-address = ap length kept.address ∙ length-append (codes "__imp_") kept.symbol

  -- the symbol is what follows the prefix
  pub symbol_kept : kept_symbol k ≡ kept.symbol
  symbol_kept = ap (drop 6) kept.address

  -- the prefix may be cut off
  pub boundary : IsCharBoundary (string_bytes k.address) 6
  boundary =
      let last : get_or (string_bytes k.address) 5 0 ≡ 95 = ap (λ text. get_or text 5 0) kept.address in
      IsCharBoundary-after_ascii (string_bytes k.address) 5 (IsUtf8-string_bytes k.address) (omega (arith, length-address)) (omega (arith, last))

  -- the length of the bytes
  pub length_kept : (machine : MachineType) (names : NamesOfDll) → names.text ≡ dll
      → length ((kept_view machine names k).bytes) ≡ 16 + length (string_bytes k.address) + length dll
  length_kept machine names same =
      let whole = length-short_import_bytes (kept_import machine names.text k) in
      let own = ap length symbol_kept in
      let text = ap length same in
      omega (arith, whole, own, text, length-address)

module _ (machine : MachineType) (dll : NamesOfDll) where
  -- what holds of the member at an index, by what is kept there
  pub at_index : (items : List KeptImport) (index : ℕ) (k : KeptImport) (P : MemberView → Type 0)
      → slice_get items index ≡ Some k → P (kept_view machine dll k) → IfSome (slice_get (map (kept_view machine dll) items) index) P
  at_index items index k P found holds = rw (slice_get-map (kept_view machine dll) items index, found) holds

  pub at_none : (items : List KeptImport) (index : ℕ) (P : MemberView → Type 0)
      → slice_get items index ≡ None → IfSome (slice_get (map (kept_view machine dll) items) index) P
  at_none items index P found = rw (slice_get-map (kept_view machine dll) items index, found) tt

  named : (found : Option KeptImport) → IfSome (option_map (kept_view machine dll) found) (λ m. dll.linked ≡ m.name)
  named None = tt
  named (Some k) = refl

  -- each member has the library's name
  pub names_are : (items : List KeptImport) (index : ℕ) → IfSome (slice_get (map (kept_view machine dll) items) index) (λ m. dll.linked ≡ m.name)
  names_are items index = rw (slice_get-map (kept_view machine dll) items index) (named (slice_get items index))

  -- the size of the member at an index
  pub size_at : (items : List KeptImport) (index : ℕ) (k : KeptImport) (address text : ℕ) → AllByRecursion (IsKept dll.text) items → slice_get items index ≡ Some k
      → address ≡ length (string_bytes k.address) → text ≡ length dll.text
      → IfSome (slice_get (map (kept_view machine dll) items) index) (λ m. 16 + address + text ≡ length m.bytes)
  size_at items index k address text all found first second =
      at_index items index k (λ m. 16 + address + text ≡ length m.bytes) found
      (rw (first, second) (sym (length_kept dll.text k (all_at (IsKept dll.text) items index k all found) machine dll refl)))

  -- one import more
  pub kept_more : (e : ExportView) (items more : List KeptImport) (k : KeptImport) → more ≡ items ++ k ∷ []
      → kept_view machine dll k ≡ member_of (short_import_spec machine dll e)
      → map (kept_view machine dll) more ≡ map (kept_view machine dll) items ++ map member_of (short_import_spec machine dll e ∷ [])
  kept_more e items more k is shows = grind (arith, map-append)

  pub all_kept : (items more : List KeptImport) (k : KeptImport) → more ≡ items ++ k ∷ [] → AllByRecursion (IsKept dll.text) items → IsKept dll.text k
      → AllByRecursion (IsKept dll.text) more
  all_kept items more k is all kept = rw is (AllByRecursion-append (IsKept dll.text) items (k ∷ []) all (kept, tt))

  -- one that is too long is refused
  pub keeps_none : (e : ExportView) (old : ShortImportsView) (error : Error)
      → IfInvalid (failed error) (λ cause. (cause ≡ MemberTooLong) × ((machine : MachineType) (linked : List ℕ) → is_too_long (short_import_spec machine (record { linked = linked; text = dll.text }) e) ≡ true))
      → KeepsMembers (short_import_spec machine dll e ∷ []) old old (Err error)
  keeps_none e old (OutOfMemory refused) is = record { ok = tt; fit = tt; too_long = tt }
  keeps_none e old (Invalid fault) is = record {
    ok = tt;
    fit = tt;
    too_long = (is.0, ap (λ b. b || false) (is.1 machine dll.linked));
  }
