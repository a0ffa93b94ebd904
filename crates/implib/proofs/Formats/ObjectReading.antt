-- A layout that fits reads back from its bytes.
use Rattle.std.proofs.Common.{◌≡◌, ℕ, suc, ◌+◌, ◌*◌, ◌<◌, ◌^◌, List, [], ◌∷◌, ◌++◌, Option, None, Some, length, refl, ap, arith, length-append, one-add}
use Rattle.std.specs.List.{AllByRecursion, flat_map, sum_by}
use Rattle.std.proofs.lemmas.List.Sums.{sum_by-cons}
use Rattle.implib.specs.Formats.Object.{ASymbol, Auxiliary, Entry, each_at, entries_at, object_in, object_of_header, section_at}
use Rattle.implib.specs.Formats.Layout.{Fits, FitsAuxiliary, FitsSymbol, HasNoNul, ObjectLayout, LayoutSymbol, SymbolName, auxiliary_bytes, auxiliary_count, contents, contents_offset, contents_size, entries_of, header_bytes, encoded, encoded_size, object_of, record_count, records, section_headers, string_offsets, string_table, strings_size, symbol_bytes, symbol_table_offset}
use Rattle.implib.proofs.Formats.Fields.{header-characteristics, header-machine, header-optional, header-records, header-sections, header-symbol_table_offset, header-time, length-header_bytes}
use Rattle.implib.proofs.Formats.Located.{LocatedAt, bytes_at-located, located_first, located_next, located_whole}
use Rattle.implib.proofs.Formats.Symbols.{length-all_contents, length-record_bytes, length-section_headers, length-string_table, record-auxiliary, record_bytes, sections_read, shown, strings_read, symbol_bytes-parts, symbol_of-record}

-- the entries of a symbol without an auxiliary record, and of one with it

plain_symbol : (bytes : List ℕ) (position : ℕ) (strings : List (List ℕ)) (s : LayoutSymbol) (fits : FitsSymbol strings s) (count : ℕ) (rest : List Entry)
    → AllByRecursion HasNoNul strings → strings_size strings < 2 ^ 32 → auxiliary_count s.aux ≡ 0
    → LocatedAt bytes position (record_bytes strings s)
    → entries_at bytes (string_table strings) (position + 18) 0 count ≡ Some rest
    → entries_at bytes (string_table strings) position 0 (suc count) ≡ Some (ASymbol (shown strings s fits) ∷ rest)
unfolding entries_at
plain_symbol bytes position strings s fits count rest all below plain located others =
    rw (bytes_at-located 18 (length-record_bytes strings s fits) located, symbol_of-record strings s fits all below, record-auxiliary strings s fits, plain, others) refl

auxiliary_symbol : (bytes : List ℕ) (position : ℕ) (strings : List (List ℕ)) (s : LayoutSymbol) (fits : FitsSymbol strings s) (aux : List ℕ) (count : ℕ) (rest : List Entry)
    → AllByRecursion HasNoNul strings → strings_size strings < 2 ^ 32 → auxiliary_count s.aux ≡ 1 → length aux ≡ 18
    → LocatedAt bytes position (record_bytes strings s) → LocatedAt bytes (position + 18) aux
    → entries_at bytes (string_table strings) ((position + 18) + 18) 0 count ≡ Some rest
    → entries_at bytes (string_table strings) position 0 (suc (suc count)) ≡ Some (ASymbol (shown strings s fits) ∷ (Auxiliary aux ∷ rest))
unfolding entries_at
auxiliary_symbol bytes position strings s fits aux count rest all below more long located aux_located others =
    rw (bytes_at-located 18 (length-record_bytes strings s fits) located, symbol_of-record strings s fits all below, record-auxiliary strings s fits, more, bytes_at-located 18 long aux_located, others) refl

-- where a symbol's bytes are, its own record is first, and then its auxiliary record

symbol_parts : (bytes : List ℕ) (position : ℕ) (strings : List (List ℕ)) (s : LayoutSymbol) → LocatedAt bytes position (symbol_bytes (string_offsets strings) s) → LocatedAt bytes position (record_bytes strings s ++ auxiliary_bytes s.aux)
symbol_parts bytes position strings s located = rw (symbol_bytes-parts strings s) at located

record_located : (bytes : List ℕ) (position : ℕ) (strings : List (List ℕ)) (s : LayoutSymbol) → LocatedAt bytes position (symbol_bytes (string_offsets strings) s) → LocatedAt bytes position (record_bytes strings s)
record_located bytes position strings s located = located_first (record_bytes strings s) (auxiliary_bytes s.aux) (symbol_parts bytes position strings s located)

auxiliary_located : (bytes : List ℕ) (position : ℕ) (strings : List (List ℕ)) (s : LayoutSymbol) → FitsSymbol strings s → LocatedAt bytes position (symbol_bytes (string_offsets strings) s) → LocatedAt bytes (position + 18) (auxiliary_bytes s.aux)
auxiliary_located bytes position strings s fits located =
    located_next (record_bytes strings s) (auxiliary_bytes s.aux) 18 (length-record_bytes strings s fits) (symbol_parts bytes position strings s located)

-- the entries of a symbol before those of others
one_symbol : (bytes : List ℕ) (position : ℕ) (strings : List (List ℕ)) (name : SymbolName) (value section class : ℕ) (aux : Option (List ℕ)) (count : ℕ) (rest : List Entry)
    → FitsSymbol strings (record { name = name; value = value; section = section; class = class; aux = aux })
    → AllByRecursion HasNoNul strings → strings_size strings < 2 ^ 32
    → LocatedAt bytes position (symbol_bytes (string_offsets strings) (record { name = name; value = value; section = section; class = class; aux = aux }))
    → entries_at bytes (string_table strings) (position + 18 * record_count (record { name = name; value = value; section = section; class = class; aux = aux })) 0 count ≡ Some rest
    → entries_at bytes (string_table strings) position 0 (record_count (record { name = name; value = value; section = section; class = class; aux = aux }) + count)
    ≡ Some (entries_of strings (record { name = name; value = value; section = section; class = class; aux = aux }) ++ rest)
unfolding record_count auxiliary_count entries_of shown auxiliary_bytes
one_symbol bytes position strings name value section class None count rest fits all below located others =
    rw (one-add count)
    (plain_symbol bytes position strings (record { name = name; value = value; section = section; class = class; aux = None }) fits count rest all below refl
    (record_located bytes position strings (record { name = name; value = value; section = section; class = class; aux = None }) located) others)
one_symbol bytes position strings name value section class (Some aux) count rest fits all below located others =
    let two : 2 + count ≡ suc (suc count) = omega arith in
    let further : position + 36 ≡ (position + 18) + 18 = omega arith in
    rw two
    (auxiliary_symbol bytes position strings (record { name = name; value = value; section = section; class = class; aux = Some aux }) fits aux count rest all below refl fits.aux
    (record_located bytes position strings (record { name = name; value = value; section = section; class = class; aux = Some aux }) located)
    (auxiliary_located bytes position strings (record { name = name; value = value; section = section; class = class; aux = Some aux }) fits located)
    (rw further at others))

pub auxiliary_counted : (aux : Option (List ℕ)) → FitsAuxiliary aux → 18 + length (auxiliary_bytes aux) ≡ 18 * (1 + auxiliary_count aux)
unfolding auxiliary_bytes auxiliary_count
auxiliary_counted None fits = refl
auxiliary_counted (Some aux) fits = ap (λ n. 18 + n) fits

pub length-symbol_bytes : (strings : List (List ℕ)) (s : LayoutSymbol) → FitsSymbol strings s → length (symbol_bytes (string_offsets strings) s) ≡ 18 * record_count s
unfolding record_count
length-symbol_bytes strings s fits = grind (arith, symbol_bytes-parts, length-append, length-record_bytes, auxiliary_counted)

pub length-all_symbols : (strings : List (List ℕ)) (ss : List LayoutSymbol) → AllByRecursion (FitsSymbol strings) ss → length (flat_map (symbol_bytes (string_offsets strings)) ss) ≡ 18 * sum_by record_count ss
length-all_symbols strings [] all = refl
length-all_symbols strings (s ∷ ss) all = grind (arith, length-all_symbols strings ss all.1, length-append, length-symbol_bytes, sum_by-cons)

entries_none : (bytes table : List ℕ) (position : ℕ) → entries_at bytes table position 0 0 ≡ Some []
unfolding entries_at
entries_none bytes table position = refl

entries_read : (bytes : List ℕ) (position : ℕ) (strings : List (List ℕ)) (ss : List LayoutSymbol) → AllByRecursion (FitsSymbol strings) ss → AllByRecursion HasNoNul strings → strings_size strings < 2 ^ 32
    → LocatedAt bytes position (flat_map (symbol_bytes (string_offsets strings)) ss)
    → entries_at bytes (string_table strings) position 0 (sum_by record_count ss) ≡ Some (flat_map (entries_of strings) ss)
entries_read bytes position strings [] all texts below located = entries_none bytes (string_table strings) position
entries_read bytes position strings (s ∷ ss) all texts below located =
    rw (sum_by-cons record_count s ss)
    (one_symbol bytes position strings s.name s.value s.section s.class s.aux (sum_by record_count ss) (flat_map (entries_of strings) ss) all.0 texts below
    (located_first (symbol_bytes (string_offsets strings) s) (flat_map (symbol_bytes (string_offsets strings)) ss) located)
    (entries_read bytes (position + 18 * record_count s) strings ss all.1 texts below
    (located_next (symbol_bytes (string_offsets strings) s) (flat_map (symbol_bytes (string_offsets strings)) ss) (18 * record_count s) (length-symbol_bytes strings s all.0) located)))

-- the layout

module _ (p : ObjectLayout) (fits : Fits p) (short : encoded_size p < 2 ^ 32) where
  places_below : (20 + 40 * length p.sections) + sum_by contents_size p.sections + 18 * sum_by record_count p.symbols + strings_size p.strings < 2 ^ 32
  unfolding encoded_size symbol_table_offset contents_offset records
  places_below = short

  pub headers_long : length (section_headers (contents_offset p) p.sections) ≡ 40 * length p.sections
  unfolding contents_offset
  headers_long = length-section_headers (20 + 40 * length p.sections) p.sections fits.sections (omega (arith, places_below))

  after_header : LocatedAt (encoded p) 20 (section_headers (contents_offset p) p.sections ++ (flat_map contents p.sections ++ (flat_map (symbol_bytes (string_offsets p.strings)) p.symbols ++ string_table p.strings)))
  unfolding encoded
  after_header = located_next (header_bytes p) _ 20 (length-header_bytes p) (located_whole (encoded p))

  header_located : LocatedAt (encoded p) 0 (header_bytes p)
  unfolding encoded
  header_located = located_first (header_bytes p) _ (located_whole (encoded p))

  headers_located : LocatedAt (encoded p) 20 (section_headers (contents_offset p) p.sections)
  headers_located = located_first _ (flat_map contents p.sections ++ (flat_map (symbol_bytes (string_offsets p.strings)) p.symbols ++ string_table p.strings)) after_header

  after_headers : LocatedAt (encoded p) (contents_offset p) (flat_map contents p.sections ++ (flat_map (symbol_bytes (string_offsets p.strings)) p.symbols ++ string_table p.strings))
  unfolding contents_offset
  after_headers = located_next (section_headers (contents_offset p) p.sections) _ (40 * length p.sections) headers_long after_header

  contents_located : LocatedAt (encoded p) (contents_offset p) (flat_map contents p.sections)
  contents_located = located_first (flat_map contents p.sections) _ after_headers

  after_contents : LocatedAt (encoded p) (symbol_table_offset p) (flat_map (symbol_bytes (string_offsets p.strings)) p.symbols ++ string_table p.strings)
  unfolding symbol_table_offset
  after_contents = located_next (flat_map contents p.sections) _ (sum_by contents_size p.sections) (length-all_contents p.sections) after_headers

  symbols_located : LocatedAt (encoded p) (symbol_table_offset p) (flat_map (symbol_bytes (string_offsets p.strings)) p.symbols)
  symbols_located = located_first (flat_map (symbol_bytes (string_offsets p.strings)) p.symbols) _ after_contents

  strings_located : LocatedAt (encoded p) (symbol_table_offset p + 18 * records p) (string_table p.strings)
  unfolding records
  strings_located = located_next (flat_map (symbol_bytes (string_offsets p.strings)) p.symbols) _ (18 * sum_by record_count p.symbols) (length-all_symbols p.strings p.symbols fits.symbols) after_contents

  strings_below : strings_size p.strings < 2 ^ 32
  strings_below = omega (arith, places_below)

  symbols_place_below : symbol_table_offset p < 2 ^ 32
  unfolding symbol_table_offset contents_offset
  symbols_place_below = omega (arith, places_below)

  records_below : records p < 2 ^ 32
  unfolding records
  records_below = omega (arith, places_below)

  all_sections : each_at (section_at (encoded p)) (20 + 0) 40 (length p.sections) ≡ Some p.sections
  unfolding contents_offset
  all_sections = sections_read (encoded p) 20 (contents_offset p) p.sections fits.sections (omega arith) (omega (arith, places_below)) headers_located contents_located

  all_entries : entries_at (encoded p) (string_table p.strings) (symbol_table_offset p) 0 (records p) ≡ Some (flat_map (entries_of p.strings) p.symbols)
  unfolding records
  all_entries = entries_read (encoded p) (symbol_table_offset p) p.strings p.symbols fits.symbols fits.strings strings_below symbols_located

  object_of_header-encoded : object_of_header (encoded p) (header_bytes p) ≡ Some (object_of p)
  unfolding object_of_header object_of
  object_of_header-encoded =
      rw (
        header-symbol_table_offset p symbols_place_below,
        header-records p records_below,
        header-optional p,
        header-sections p fits.count,
        header-machine p fits.machine,
        header-time p,
        header-characteristics p fits.characteristics,
        strings_read (encoded p) (symbol_table_offset p + 18 * records p) p.strings strings_below strings_located,
        all_sections,
        all_entries,
      )
      refl

  -- a layout that fits reads back as itself
  pub object_in-encoded : object_in (encoded p) ≡ Some (object_of p)
  unfolding object_in
  object_in-encoded = rw (bytes_at-located 20 (length-header_bytes p) header_located) object_of_header-encoded

  -- its bytes are as many as its parts say
  pub length-encoded : length (encoded p) ≡ encoded_size p
  unfolding encoded encoded_size symbol_table_offset contents_offset records
  length-encoded = grind (arith, length-append, length-header_bytes, headers_long, length-all_contents, length-all_symbols, length-string_table)
