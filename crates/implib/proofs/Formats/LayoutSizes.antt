-- The sizes of the parts of a borrowed layout, and what its symbols are.
use Rattle.std.proofs.Common.{All, ◌≡◌, ℕ, suc, ◌+◌, ◌*◌, ◌<◌, ◌^◌, List, [], ◌∷◌, length, flat_map, map, sum_by, sym, ◌∙◌, ap, arith, refl}
use Rattle.std.specs.List.{AllByRecursion}
use Rattle.std.proofs.lemmas.List.{length-map}
use Rattle.std.proofs.lemmas.List.Elements.{All-from_recursion}
use Rattle.implib.specs.declared.coff.object.Section.{Section}
use Rattle.implib.specs.declared.coff.layout.ObjectLayout.{ObjectLayout as Borrowed}
use Rattle.implib.specs.declared.coff.layout.LayoutSymbol.{LayoutSymbol as BorrowedSymbol}
use Rattle.implib.specs.Formats.Layout.{Fits, FitsAuxiliary, FitsName, FitsSection, FitsSymbol, InRecord, InStringTable, SymbolName, offsets_from, contents, contents_offset, contents_size, header_bytes, encoded_size, record_count, records, section_headers, string_offsets, string_size, string_table, strings_size, symbol_bytes, symbol_table_offset}
use Rattle.implib.specs.Views.Layout.{FitsField, name_view, layout_view, symbol_view}
use Rattle.implib.specs.Formats.Writer.{section_view}
use Rattle.implib.proofs.Formats.Fields.{length-header_bytes}
use Rattle.implib.proofs.Formats.Lengths.{length-viewed_contents}
use Rattle.implib.proofs.Formats.ObjectReading.{headers_long, length-all_symbols}
use Rattle.implib.proofs.Formats.Sums.{flat_map-map}
use Rattle.implib.proofs.Formats.Symbols.{length-string_table}

-- the bytes of a layout are those of its five parts
pub record Sizes (p : Borrowed) : Type 0 where
  pub header : length (header_bytes (layout_view p)) ≡ 20
  pub headers : length (section_headers (20 + 40 * length p.sections.now) (map section_view p.sections.now)) ≡ 40 * length p.sections.now
  pub sections : length (flat_map (λ s. contents (section_view s)) p.sections.now) ≡ sum_by contents_size (map section_view p.sections.now)
  pub symbols : length (flat_map (λ s. symbol_bytes (string_offsets (layout_view p).strings) (symbol_view s)) p.symbols.now) ≡ 18 * sum_by record_count (map symbol_view p.symbols.now)
  pub table : length (string_table (layout_view p).strings) ≡ strings_size (layout_view p).strings
  pub total : encoded_size (layout_view p) ≡ 20 + 40 * length p.sections.now + sum_by contents_size (map section_view p.sections.now) + 18 * sum_by record_count (map symbol_view p.symbols.now) + strings_size (layout_view p).strings

pub headers_place : (p : Borrowed) → contents_offset (layout_view p) ≡ 20 + 40 * length p.sections.now
unfolding contents_offset
headers_place p = ap (λ n. 20 + 40 * n) (length-map p.sections.now section_view)

encoded_size-parts : (p : Borrowed) → encoded_size (layout_view p) ≡ 20 + 40 * length p.sections.now + sum_by contents_size (map section_view p.sections.now) + 18 * sum_by record_count (map symbol_view p.symbols.now) + strings_size (layout_view p).strings
unfolding encoded_size symbol_table_offset contents_offset records
encoded_size-parts p = ap (λ n. 20 + 40 * n + sum_by contents_size (map section_view p.sections.now) + 18 * sum_by record_count (map symbol_view p.symbols.now) + strings_size (layout_view p).strings) (length-map p.sections.now section_view)

pub sizes : (p : Borrowed) → Fits (layout_view p) → encoded_size (layout_view p) < 2 ^ 32 → Sizes p
sizes p fits short = record {
  header = length-header_bytes (layout_view p);
  headers = ap (λ n. length (section_headers n (map section_view p.sections.now))) (sym (headers_place p)) ∙ (headers_long (layout_view p) fits short ∙ ap (λ n. 40 * n) (length-map p.sections.now section_view));
  sections = length-viewed_contents p.sections.now;
  symbols = ap length (sym (flat_map-map (symbol_bytes (string_offsets (layout_view p).strings)) symbol_view p.symbols.now)) ∙ length-all_symbols (layout_view p).strings (layout_view p).symbols fits.symbols;
  table = length-string_table (layout_view p).strings;
  total = encoded_size-parts p;
}

-- what each section and each symbol of a layout that fits is known for

few_relocations_each : (ss : List Section) → AllByRecursion FitsSection (map section_view ss) → AllByRecursion (λ s. length s.relocations.items < 2 ^ 16) ss
few_relocations_each [] all = tt
few_relocations_each (s ∷ ss) all = (all.0.count, few_relocations_each ss all.1)

pub few_relocations : (ss : List Section) → AllByRecursion FitsSection (map section_view ss) → All (λ s. length s.relocations.items < 2 ^ 16) ss
few_relocations ss all = All-from_recursion (λ s. length s.relocations.items < 2 ^ 16) ss (few_relocations_each ss all)

length-offsets_from : (offset : ℕ) (strings : List (List ℕ)) → length (offsets_from offset strings) ≡ length strings
unfolding offsets_from
length-offsets_from offset [] = refl
length-offsets_from offset (text ∷ strings) = ap suc (length-offsets_from (offset + string_size text) strings)

length-string_offsets : (strings : List (List ℕ)) → length (string_offsets strings) ≡ length strings
unfolding string_offsets
length-string_offsets strings = length-offsets_from 4 strings

fits_field : (strings : List (List ℕ)) (name : SymbolName) → FitsName strings name → FitsField (length (string_offsets strings)) name
fits_field strings (InRecord text) fits = fits.1
fits_field strings (InStringTable index) fits = omega (arith, fits, length-string_offsets strings)

symbol_names_each : (strings : List (List ℕ)) (ss : List BorrowedSymbol) → AllByRecursion (FitsSymbol strings) (map symbol_view ss) → AllByRecursion (λ s. FitsField (length (string_offsets strings)) (name_view s.name)) ss
symbol_names_each strings [] all = tt
symbol_names_each strings (s ∷ ss) all = (fits_field strings (name_view s.name) all.0.name, symbol_names_each strings ss all.1)

pub symbol_names : (strings : List (List ℕ)) (ss : List BorrowedSymbol) → AllByRecursion (FitsSymbol strings) (map symbol_view ss) → All (λ s. FitsField (length (string_offsets strings)) (name_view s.name)) ss
symbol_names strings ss all = All-from_recursion (λ s. FitsField (length (string_offsets strings)) (name_view s.name)) ss (symbol_names_each strings ss all)

symbol_auxiliaries_each : (strings : List (List ℕ)) (ss : List BorrowedSymbol) → AllByRecursion (FitsSymbol strings) (map symbol_view ss) → AllByRecursion (λ s. FitsAuxiliary s.aux) ss
symbol_auxiliaries_each strings [] all = tt
symbol_auxiliaries_each strings (s ∷ ss) all = (all.0.aux, symbol_auxiliaries_each strings ss all.1)

pub symbol_auxiliaries : (strings : List (List ℕ)) (ss : List BorrowedSymbol) → AllByRecursion (FitsSymbol strings) (map symbol_view ss) → All (λ s. FitsAuxiliary s.aux) ss
symbol_auxiliaries strings ss all = All-from_recursion (λ s. FitsAuxiliary s.aux) ss (symbol_auxiliaries_each strings ss all)
