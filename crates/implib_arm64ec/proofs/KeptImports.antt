-- Short imports that are kept as what they say.
use Rattle.std.proofs.Common.{◌≡◌, ℕ, zero, suc, ◌+◌, ◌<◌, ◌≤◌, ◌==◌, Bool, true, false, List, [], ◌∷◌, ◌++◌, Option, Ok, length, drop, map, get_or, if◌then◌else◌, refl, sym, ap, subst, ◌∙◌, arith, append_assoc, length-append}
use Rattle.std.specs.Prelude.{codes, slice_range, string_bytes}
use Rattle.std.specs.Str.{IsCharBoundary, IsUtf8}
use Rattle.std.proofs.lemmas.List.{drop_at, get_or-map, take_at}
use Rattle.std.proofs.lemmas.Str.{IsCharBoundary-at_seam, IsUtf8-append}
use Rattle.implib.specs.Definition.{ExportView}
use Rattle.implib.specs.Formats.ShortImport.{ShortImport, import_data}
use Rattle.implib.specs.Import.{imp_symbol}
use Rattle.implib.specs.LibraryName.{NamesOfDll}
use Rattle.implib.specs.Members.MemberSpec.{MemberView}
use Rattle.implib.specs.Members.Msvc.{dll_texts, import_type_of, short_import_size}
use Rattle.implib.specs.Members.NameRules.{holds_nul}
use Rattle.implib.proofs.Members.ShortImport.{length-short_import_bytes}
use Rattle.implib_archive.specs.Sources.{member_at, no_member}
use Rattle.implib_arm64ec.specs.KeptImports.{HasNoImport, HasTexts, IsKeptOf, IsKeptWith, kept_address, kept_auxiliary, kept_import, kept_other, kept_plain, kept_symbol, kept_symbols, kept_third, kept_view, third_with}
use Rattle.implib_arm64ec.specs.LibraryImports.{IsFault, export_fault, spec_fault}
use Rattle.implib_arm64ec.specs.ShortImports.{auxiliary_symbol, import_of, import_symbols, name_type_of, plain_symbol, spec_of, symbol_apart, symbol_of, third_text}
use Rattle.implib_arm64ec.specs.declared.kept_import.KeptImport.{KeptImport}
use Rattle.implib_arm64ec.specs.declared.library.ImportsError.{ImportsError}

-- a part of a text, by where it begins and ends
part : (text a b c : List ℕ) (i j : ℕ) → text ≡ a ++ (b ++ c) → length a ≡ i → length a + length b ≡ j → slice_range text i j ≡ b
part text a b c i j e first last = grind (arith, drop_at, take_at)

-- the parts of a text that is kept, and where it may be cut
module _ (texts : List ℕ) (address_end symbol_end : ℕ) (plain symbol other : List ℕ) (has : HasTexts texts address_end symbol_end plain symbol other) where
  address_size : length (imp_symbol plain) ≡ address_end
  address_size = omega (arith, length-append (codes "__imp_") plain, has.address)

  auxiliary_size : length (auxiliary_symbol plain) ≡ address_end + 4
  auxiliary_size = omega (arith, length-append (codes "__imp_aux_") plain, has.address)

  symbols_size : length (imp_symbol plain ++ auxiliary_symbol plain) ≡ address_end + (address_end + 4)
  symbols_size = omega (arith, length-append (imp_symbol plain) (auxiliary_symbol plain), address_size, auxiliary_size)

  all_size : length ((imp_symbol plain ++ auxiliary_symbol plain) ++ symbol) ≡ symbol_end
  all_size = omega (arith, length-append (imp_symbol plain ++ auxiliary_symbol plain) symbol, symbols_size, has.own, has.address)

  after_symbols : texts ≡ (imp_symbol plain ++ auxiliary_symbol plain) ++ (symbol ++ other)
  after_symbols = has.whole ∙ sym (append_assoc (imp_symbol plain) (auxiliary_symbol plain) (symbol ++ other))

  after_all : texts ≡ ((imp_symbol plain ++ auxiliary_symbol plain) ++ symbol) ++ other
  after_all = after_symbols ∙ sym (append_assoc (imp_symbol plain ++ auxiliary_symbol plain) symbol other)

  pub address_is : slice_range texts 0 address_end ≡ imp_symbol plain
  address_is = part texts [] (imp_symbol plain) (auxiliary_symbol plain ++ (symbol ++ other)) 0 address_end has.whole refl (omega (arith, address_size))

  pub plain_is : slice_range texts 6 address_end ≡ plain
  plain_is = part texts (codes "__imp_") plain (auxiliary_symbol plain ++ (symbol ++ other)) 6 address_end has.whole refl (omega (arith, has.address))

  pub auxiliary_is : slice_range texts address_end (address_end + (address_end + 4)) ≡ auxiliary_symbol plain
  auxiliary_is =
      part texts (imp_symbol plain) (auxiliary_symbol plain) (symbol ++ other) address_end (address_end + (address_end + 4)) has.whole address_size
      (omega (arith, address_size, auxiliary_size))

  pub symbol_is : slice_range texts (address_end + (address_end + 4)) symbol_end ≡ symbol
  symbol_is =
      part texts (imp_symbol plain ++ auxiliary_symbol plain) symbol other (address_end + (address_end + 4)) symbol_end after_symbols symbols_size
      (omega (arith, all_size, length-append (imp_symbol plain ++ auxiliary_symbol plain) symbol))

  pub other_is : drop symbol_end texts ≡ other
  other_is = ap (drop symbol_end) after_all ∙ drop_at ((imp_symbol plain ++ auxiliary_symbol plain) ++ symbol) other symbol_end all_size

  last_text : IsUtf8 (symbol ++ other)
  last_text = IsUtf8-append symbol other has.symbol_text has.other_text

  auxiliary_text : IsUtf8 (auxiliary_symbol plain)
  unfolding lib.Utf8.encode
  auxiliary_text = IsUtf8-append (codes "__imp_aux_") plain (codes "__imp_aux_", (refl, refl)) has.plain_text

  later_text : IsUtf8 (auxiliary_symbol plain ++ (symbol ++ other))
  later_text = IsUtf8-append (auxiliary_symbol plain) (symbol ++ other) auxiliary_text last_text

  pub cut_at_plain : IsCharBoundary texts 6
  cut_at_plain =
      IsCharBoundary-at_seam texts (codes "__imp_") (plain ++ (auxiliary_symbol plain ++ (symbol ++ other))) has.whole
      (IsUtf8-append plain (auxiliary_symbol plain ++ (symbol ++ other)) has.plain_text later_text)

  pub cut_at_symbol : IsCharBoundary texts (address_end + (address_end + 4))
  cut_at_symbol = grind (arith, symbols_size, IsCharBoundary-at_seam, after_symbols, last_text)

  pub cut_at_other : IsCharBoundary texts symbol_end
  cut_at_other = grind (arith, all_size, IsCharBoundary-at_seam, after_all)

-- whether an import is of data, by its import type
data_by_type : (e : ExportView) → (import_type_of e == import_data) ≡ e.is_data
data_by_type e = by_flags e.is_data e.constant
  where
    by_flags : (is_data constant : Bool) → ((if is_data then 1 else if constant then 2 else 0) == 1) ≡ is_data
    by_flags true constant = refl
    by_flags false true = refl
    by_flags false false = refl

-- short imports with the same fields, and lists with the same symbols
abbrev imported : ℕ → ℕ → ℕ → List ℕ → List ℕ → ShortImport
imported ordinal import_type name_type symbol dll = record { version = 0; machine = 0xA641; time = 0; ordinal = ordinal; import_type = import_type; name_type = name_type; symbol = symbol; dll = dll }

same_import : (ordinal ordinal' import_type import_type' name_type name_type' : ℕ) (symbol symbol' dll dll' : List ℕ)
    → ordinal ≡ ordinal' → import_type ≡ import_type' → name_type ≡ name_type' → symbol ≡ symbol' → dll ≡ dll'
    → imported ordinal import_type name_type symbol dll ≡ imported ordinal' import_type' name_type' symbol' dll'
same_import ordinal ordinal' import_type import_type' name_type name_type' symbol symbol' dll dll' o t n s d = rw (o, t, n, s, d) refl

abbrev listed : Bool → List ℕ → List ℕ → List ℕ → List ℕ → List (List ℕ)
listed is_data address plain auxiliary symbol = if is_data then address ∷ [] else address ∷ plain ∷ auxiliary ∷ symbol_apart symbol plain

same_list : (b b' : Bool) (address address' plain plain' auxiliary auxiliary' symbol symbol' : List ℕ)
    → b ≡ b' → address ≡ address' → plain ≡ plain' → auxiliary ≡ auxiliary' → symbol ≡ symbol'
    → listed b address plain auxiliary symbol ≡ listed b' address' plain' auxiliary' symbol'
same_list b b' address address' plain plain' auxiliary auxiliary' symbol symbol' d a p x s = rw (d, a, p, x, s) refl

-- the texts that are kept are these too
regiven : (plain plain' symbol : List ℕ) (third third' : Option (List ℕ)) (k : KeptImport) → plain ≡ plain' → third ≡ third'
    → IsKeptWith plain symbol third k → IsKeptWith plain' symbol third' k
regiven plain plain' symbol third third' k p t given = grind (arith, third)

-- what is kept of an export's texts and numbers is what its short import says
module _ (dll : List ℕ) (e : ExportView) (symbol : List ℕ) (k : KeptImport) (given : IsKeptWith (plain_symbol symbol) symbol (third_text e symbol) k) where
  own : kept_symbol k ≡ symbol
  own = symbol_is (string_bytes k.texts) k.address_end k.symbol_end (plain_symbol symbol) symbol given.other given.texts

  named : kept_plain k ≡ plain_symbol symbol
  named = plain_is (string_bytes k.texts) k.address_end k.symbol_end (plain_symbol symbol) symbol given.other given.texts

  third : kept_third k ≡ third_text e symbol
  third =
      ap (λ (t : List ℕ). third_with k.third t (kept_other k)) named
      ∙ (ap (third_with k.third (plain_symbol symbol)) (other_is (string_bytes k.texts) k.address_end k.symbol_end (plain_symbol symbol) symbol given.other given.texts)
      ∙ given.third_is)

  auxiliary : kept_auxiliary k ≡ auxiliary_symbol (plain_symbol symbol)
  auxiliary = auxiliary_is (string_bytes k.texts) k.address_end k.symbol_end (plain_symbol symbol) symbol given.other given.texts

  address : kept_address k ≡ imp_symbol (plain_symbol symbol)
  address = address_is (string_bytes k.texts) k.address_end k.symbol_end (plain_symbol symbol) symbol given.other given.texts

  says : k.ordinal ≡ e.ordinal → k.import_type ≡ import_type_of e → k.name_type ≡ name_type_of e.no_name (third_text e symbol) → kept_import dll k ≡ import_of dll e symbol
  says ordinal import_type name_type = grind (arith, same_import, own, third)

  lists : k.import_type ≡ import_type_of e → kept_symbols k ≡ import_symbols e symbol
  lists import_type = grind (arith, same_list, data_by_type, address, named, auxiliary, own)

  pub kept_of_export : k.ordinal ≡ e.ordinal → k.import_type ≡ import_type_of e → k.name_type ≡ name_type_of e.no_name (third_text e symbol)
      → symbol_of e ≡ Ok symbol → k.import_type ≤ 3 → k.name_type ≤ 7
      → 22 + (length symbol + length (dll_texts dll (third_text e symbol))) ≤ 0xFFFF_FFFF → IsKeptOf dll e k
  kept_of_export ordinal import_type name_type marked few short size = grind (arith, own, says, lists)

-- the same, by the texts and numbers that were given
pub kept_by : (dll : List ℕ) (e : ExportView) (plain symbol : List ℕ) (third : Option (List ℕ)) (import_type name_type : ℕ) (k : KeptImport)
    → plain ≡ plain_symbol symbol → third ≡ third_text e symbol → IsKeptWith plain symbol third k
    → k.ordinal ≡ e.ordinal → k.import_type ≡ import_type → k.name_type ≡ name_type
    → import_type ≡ import_type_of e → name_type ≡ name_type_of e.no_name third
    → symbol_of e ≡ Ok symbol → import_type ≤ 2 → name_type ≤ 4
    → 22 + (length symbol + length (dll_texts dll third)) ≤ 0xFFFF_FFFF → IsKeptOf dll e k
kept_by dll e plain symbol third import_type name_type k p t given o i n import_is name_is marked few short size =
    let whole = regiven plain (plain_symbol symbol) symbol third (third_text e symbol) k p t given in
    kept_of_export dll e symbol k whole o (i ∙ import_is) (n ∙ (name_is ∙ ap (name_type_of e.no_name) t)) marked (omega (arith, few, i)) (omega (arith, short, n))
    (omega (arith, size, ap (λ x. length (dll_texts dll x)) t))

-- the short import of an export that is not private, whatever the library's name
module _ (dll : NamesOfDll) (index : ℕ) (e : ExportView) (public : e.private ≡ false) where
  not_passed_over : holds_nul e ≡ false → export_fault dll index e ≡ spec_fault index (spec_of dll e)
  not_passed_over free = grind arith

  pub fault_of : (error : ImportsError) → holds_nul e ≡ false → HasNoImport dll.text index e error → IsFault (export_fault dll index e) error
  fault_of error free none = subst (λ f. IsFault f error) (sym (not_passed_over free)) (none dll.linked)

-- what holds of the member at an index, by what is kept there
module _ (dll : NamesOfDll) (items : List KeptImport) (index : ℕ) (d : KeptImport) (within : index < length items) where
  at_index : member_at (map (kept_view dll) items) index ≡ kept_view dll (get_or items index d)
  at_index = get_or-map (kept_view dll) items index d no_member within

  pub size_at : short_import_size (kept_import dll.text (get_or items index d)) ≡ length (member_at (map (kept_view dll) items) index).bytes
  size_at = sym (ap (λ (m : MemberView). length m.bytes) at_index ∙ length-short_import_bytes (kept_import dll.text (get_or items index d)))

pub name_at : (dll : NamesOfDll) (items : List KeptImport) (index : ℕ) → index < length items → dll.linked ≡ (member_at (map (kept_view dll) items) index).name
name_at dll [] index inside = absurd (omega (arith, inside))
name_at dll (k ∷ items) zero inside = refl
name_at dll (k ∷ items) (suc index) inside = name_at dll items index (omega (arith, inside))
