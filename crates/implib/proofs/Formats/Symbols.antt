-- Sections, names and symbols, read from the bytes that are laid out for them.
use Rattle.std.proofs.Common.{◌≡◌, ℕ, zero, suc, ◌+◌, ◌*◌, ◌-◌, ◌≤◌, ◌<◌, ◌^◌, List, [], ◌∷◌, ◌++◌, Some, length, take, drop, replicate, slice_index, slice_index_or, nat_eq, refl, sym, ◌∙◌, ap, arith, length-append, append_assoc}
use Rattle.std.specs.List.{AllByRecursion, flat_map, sum_by}
use Rattle.std.proofs.lemmas.Bool.{or_parts, false≢true}
use Rattle.std.proofs.lemmas.List.{drop_at, drop_more, get_or-append-add, take_at, length-replicate, take-append-drop}
use Rattle.std.proofs.lemmas.List.Concat.{flat_map-append}
use Rattle.std.proofs.lemmas.List.Elements.{All-from_recursion}
use Rattle.std.proofs.lemmas.List.Sums.{sum_by-append, sum_by-cons}
use Rattle.std.proofs.lemmas.Nat.{from_le_bytes-to_le_bytes_2, from_le_bytes-to_le_bytes_4}
use Rattle.implib.specs.Ascii.{holds}
use Rattle.implib.specs.Formats.Bytes.{u16_bytes, u32_bytes}
use Rattle.implib.specs.Formats.Object.{ObjectSection, ObjectSymbol, before_nul, each_at, name_of, section_at, strings_at, symbol_of, u16_at, u32_at, up_to_nul}
use Rattle.implib.specs.Formats.Layout.{FitsName, FitsSection, FitsSymbol, HasNoNul, InRecord, InStringTable, LayoutSymbol, SymbolName, auxiliary_bytes, contents, contents_size, name_field, name_text, auxiliary_count, section_header, section_headers, string_bytes_of, string_offsets, offsets_from, string_size, string_table, strings_size, symbol_bytes}
use Rattle.implib.proofs.Formats.Bytes.{length-u32_bytes}
use Rattle.implib.proofs.Formats.Fields.{length-relocation_bytes, length-section_header, section_at-located, u16_at-after, u32_at-after}
use Rattle.implib.proofs.Formats.Located.{LocatedAt, bytes_at-located, located_first, located_next}
use Rattle.implib.specs.declared.coff.object.Relocation.{Relocation}
use Rattle.implib.specs.Formats.Layout.{relocation_bytes}

-- the lengths of what is laid out

pub length-relocations : (rs : List Relocation) → length (flat_map relocation_bytes rs) ≡ 10 * length rs
length-relocations [] = refl
length-relocations (r ∷ rs) = omega (arith, length-append (relocation_bytes r) (flat_map relocation_bytes rs), length-relocation_bytes r, length-relocations rs)

pub length-contents : (s : ObjectSection) → length (contents s) ≡ contents_size s
unfolding contents contents_size
length-contents s = omega (arith, length-append s.bytes (flat_map relocation_bytes s.relocations), length-relocations s.relocations)

pub length-all_contents : (ss : List ObjectSection) → length (flat_map contents ss) ≡ sum_by contents_size ss
length-all_contents [] = refl
length-all_contents (s ∷ ss) = omega (arith, length-append (contents s) (flat_map contents ss), length-contents s, length-all_contents ss, sum_by-cons contents_size s ss)

pub length-section_headers : (position : ℕ) (ss : List ObjectSection) → AllByRecursion FitsSection ss → position + sum_by contents_size ss < 2 ^ 32 → length (section_headers position ss) ≡ 40 * length ss
unfolding section_headers
length-section_headers position [] all below = refl
length-section_headers position (s ∷ ss) all below =
    let total : sum_by contents_size (s ∷ ss) ≡ contents_size s + sum_by contents_size ss = sum_by-cons contents_size s ss in
    omega (arith, length-append (section_header position s) (section_headers (position + contents_size s) ss), length-section_header position s all.0 (omega arith), length-section_headers (position + contents_size s) ss all.1 (omega arith))

-- the sections

pub sections_read : (bytes : List ℕ) (header position : ℕ) (ss : List ObjectSection) → AllByRecursion FitsSection ss → 0 < position → position + sum_by contents_size ss < 2 ^ 32 → LocatedAt bytes header (section_headers position ss) → LocatedAt bytes position (flat_map contents ss) → each_at (section_at bytes) header 40 (length ss) ≡ Some ss
unfolding each_at section_headers
sections_read bytes header position [] all above below heads located = refl
sections_read bytes header position (s ∷ ss) all above below heads located =
    let total : sum_by contents_size (s ∷ ss) ≡ contents_size s + sum_by contents_size ss = sum_by-cons contents_size s ss in
    let short : position + contents_size s < 2 ^ 32 = omega arith in
    let others : (position + contents_size s) + sum_by contents_size ss < 2 ^ 32 = omega arith in
    rw (
      section_at-located position s all.0 short bytes header above
          (located_first (section_header position s) (section_headers (position + contents_size s) ss) heads)
          (located_first (contents s) (flat_map contents ss) located),
      sections_read bytes (header + 40) (position + contents_size s) ss all.1 (omega arith) others
          (located_next (section_header position s) (section_headers (position + contents_size s) ss) 40 (length-section_header position s all.0 short) heads)
          (located_next (contents s) (flat_map contents ss) (contents_size s) (length-contents s) located),
    )
    refl

-- texts without NUL

HasNoNul-tail : (n : ℕ) (text : List ℕ) → HasNoNul (n ∷ text) → HasNoNul text
HasNoNul-tail n text none = (or_parts (nat_eq n 0) (holds 0 text) none).1

up_to_nul-zeros : (count : ℕ) → up_to_nul (replicate count 0) ≡ []
unfolding up_to_nul
up_to_nul-zeros zero = refl
up_to_nul-zeros (suc count) = refl

pub up_to_nul-padded : (text : List ℕ) (count : ℕ) → HasNoNul text → up_to_nul (text ++ replicate count 0) ≡ text
unfolding up_to_nul
up_to_nul-padded [] count none = up_to_nul-zeros count
up_to_nul-padded (zero ∷ text) count none = absurd (false≢true (sym none))
up_to_nul-padded (suc n ∷ text) count none = ap (λ t. suc n ∷ t) (up_to_nul-padded text count (HasNoNul-tail (suc n) text none))

pub before_nul-ended : (text rest : List ℕ) → HasNoNul text → before_nul (text ++ (0 ∷ rest)) ≡ Some text
unfolding before_nul
before_nul-ended [] rest none = refl
before_nul-ended (zero ∷ text) rest none = absurd (false≢true (sym none))
before_nul-ended (suc n ∷ text) rest none = rw (before_nul-ended text rest (HasNoNul-tail (suc n) text none)) refl

-- the string table

pub length-strings : (strings : List (List ℕ)) → length (flat_map string_bytes_of strings) ≡ sum_by string_size strings
unfolding string_bytes_of string_size
length-strings [] = refl
length-strings (text ∷ strings) = omega (arith, length-append (text ++ 0 ∷ []) (flat_map string_bytes_of strings), length-append text (0 ∷ []), length-strings strings, sum_by-cons string_size text strings)

pub length-string_table : (strings : List (List ℕ)) → length (string_table strings) ≡ strings_size strings
unfolding string_table strings_size
length-string_table strings = omega (arith, length-append (u32_bytes (4 + sum_by string_size strings)) (flat_map string_bytes_of strings), length-u32_bytes (4 + sum_by string_size strings), length-strings strings)

u32_at-bytes : (n : ℕ) → n < 2 ^ 32 → u32_at (u32_bytes n) 0 ≡ n
unfolding u32_at u32_bytes
u32_at-bytes n below = from_le_bytes-to_le_bytes_4 n below

size_located : (bytes : List ℕ) (position : ℕ) (strings : List (List ℕ)) → LocatedAt bytes position (string_table strings) → LocatedAt bytes position (u32_bytes (strings_size strings))
unfolding string_table
size_located bytes position strings located = located_first (u32_bytes (strings_size strings)) (flat_map string_bytes_of strings) located

pub strings_read : (bytes : List ℕ) (position : ℕ) (strings : List (List ℕ)) → strings_size strings < 2 ^ 32 → LocatedAt bytes position (string_table strings) → strings_at bytes position ≡ Some (string_table strings)
unfolding strings_at
strings_read bytes position strings below located =
    rw (bytes_at-located 4 (length-u32_bytes (strings_size strings)) (size_located bytes position strings located), u32_at-bytes (strings_size strings) below)
    (bytes_at-located (strings_size strings) (length-string_table strings) located)

strings_split : (strings : List (List ℕ)) (index : ℕ) → flat_map string_bytes_of strings ≡ flat_map string_bytes_of (take index strings) ++ flat_map string_bytes_of (drop index strings)
strings_split strings index = ap (flat_map string_bytes_of) (sym (take-append-drop index strings)) ∙ flat_map-append string_bytes_of (take index strings) (drop index strings)

front_length : (strings : List (List ℕ)) (index : ℕ) → length (u32_bytes (strings_size strings) ++ flat_map string_bytes_of (take index strings)) ≡ strings_size (take index strings)
unfolding strings_size
front_length strings index = omega (arith, length-append (u32_bytes (4 + sum_by string_size strings)) (flat_map string_bytes_of (take index strings)), length-u32_bytes (4 + sum_by string_size strings), length-strings (take index strings))

first_string : (text : List ℕ) (rest : List (List ℕ)) → flat_map string_bytes_of (text ∷ rest) ≡ text ++ (0 ∷ flat_map string_bytes_of rest)
unfolding string_bytes_of
first_string text rest = append_assoc text (0 ∷ []) (flat_map string_bytes_of rest)

-- where the string of an index begins
string_offset : List (List ℕ) → ℕ → ℕ
string_offset strings index = strings_size (take index strings)

offsets_from-index : (offset : ℕ) (strings : List (List ℕ)) (index : ℕ) → index < length strings → slice_index (offsets_from offset strings) index ≡ offset + sum_by string_size (take index strings)
unfolding offsets_from
offsets_from-index offset [] index within = absurd (omega (arith, within))
offsets_from-index offset (text ∷ strings) zero within = omega arith
offsets_from-index offset (text ∷ strings) (suc index) within = grind (arith, offsets_from-index (offset + string_size text) strings index (omega (arith, within)), sum_by-cons)

string_offsets-index : (strings : List (List ℕ)) (index : ℕ) → index < length strings → slice_index (string_offsets strings) index ≡ string_offset strings index
unfolding string_offsets string_offset strings_size
string_offsets-index strings index within = offsets_from-index 4 strings index within

-- from its offset on, the string table holds the string, a NUL, and the others
string_at_offset : (strings : List (List ℕ)) (index : ℕ) → index < length strings → drop (string_offset strings index) (string_table strings) ≡ slice_index_or strings index [] ++ (0 ∷ flat_map string_bytes_of (drop (index + 1) strings))
unfolding string_offset string_table
string_at_offset strings index within =
    rw (strings_split strings index, ← append_assoc (u32_bytes (strings_size strings)) (flat_map string_bytes_of (take index strings)) (flat_map string_bytes_of (drop index strings)))
    (drop_at (u32_bytes (strings_size strings) ++ flat_map string_bytes_of (take index strings)) (flat_map string_bytes_of (drop index strings)) (strings_size (take index strings)) (front_length strings index)
    ∙ (ap (flat_map string_bytes_of) (drop_more strings index [] within) ∙ first_string (slice_index_or strings index []) (drop (index + 1) strings)))

-- names

pub length-name_field : (strings : List (List ℕ)) (name : SymbolName) → FitsName strings name → length (name_field (string_offsets strings) name) ≡ 8
unfolding name_field u32_bytes
length-name_field strings (InRecord text) fits = omega (arith, length-append text (replicate (8 - length text) 0), length-replicate {A = ℕ} (8 - length text) 0)
length-name_field strings (InStringTable index) fits = refl

string_has_no_nul : (strings : List (List ℕ)) (index : ℕ) → AllByRecursion HasNoNul strings → index < length strings → HasNoNul (slice_index_or strings index [])
string_has_no_nul strings index all within = All-from_recursion HasNoNul strings all index [] within

sum_by-take : (strings : List (List ℕ)) (index : ℕ) → sum_by string_size (take index strings) ≤ sum_by string_size strings
sum_by-take strings index =
    omega (arith, ap (sum_by string_size) (sym (take-append-drop index strings)), sum_by-append string_size (take index strings) (drop index strings))

string_offset-below : (strings : List (List ℕ)) (index : ℕ) → strings_size strings < 2 ^ 32 → string_offset strings index < 2 ^ 32
unfolding string_offset strings_size
string_offset-below strings index below = omega (arith, sum_by-take strings index)

listed_read : (table : List ℕ) (offset : ℕ) → offset < 2 ^ 32 → name_of table (u32_bytes 0 ++ u32_bytes offset) ≡ before_nul (drop offset table)
unfolding name_of u32_bytes u32_at
listed_read table offset below = ap (λ n. before_nul (drop n table)) (from_le_bytes-to_le_bytes_4 offset below)

in_record_read : (table text : List ℕ) (count : ℕ) → 0 < length text → HasNoNul text → name_of table (text ++ replicate count 0) ≡ Some text
unfolding name_of
in_record_read table [] count some none = absurd (omega (arith, some))
in_record_read table (zero ∷ text) count some none = absurd (false≢true (sym none))
in_record_read table (suc n ∷ text) count some none = ap Some (up_to_nul-padded (suc n ∷ text) count none)

pub name_of-field : (strings : List (List ℕ)) (name : SymbolName) → FitsName strings name → AllByRecursion HasNoNul strings → strings_size strings < 2 ^ 32 → name_of (string_table strings) (name_field (string_offsets strings) name) ≡ Some (name_text strings name)
unfolding name_field name_text
name_of-field strings (InRecord text) fits all below = in_record_read (string_table strings) text (8 - length text) fits.0 fits.2
name_of-field strings (InStringTable index) fits all below = grind (arith, string_offsets-index, listed_read, string_offset, string_offset-below, string_at_offset, before_nul-ended, slice_index_or, string_has_no_nul)

-- symbols

-- the 18 bytes of a symbol's own record
unfoldable pub record_bytes : List (List ℕ) → LayoutSymbol → List ℕ
record_bytes strings s =
    name_field (string_offsets strings) s.name
    ++ (u32_bytes s.value ++ (u16_bytes s.section ++ (u16_bytes 0 ++ (s.class ∷ auxiliary_count s.aux ∷ []))))

pub symbol_bytes-parts : (strings : List (List ℕ)) (s : LayoutSymbol) → symbol_bytes (string_offsets strings) s ≡ record_bytes strings s ++ auxiliary_bytes s.aux
unfolding symbol_bytes record_bytes u16_bytes u32_bytes
symbol_bytes-parts strings s = sym (append_assoc (name_field (string_offsets strings) s.name) _ (auxiliary_bytes s.aux))

slice_index-after : (front rest : List ℕ) (offset : ℕ) → length front ≡ 8 → slice_index (front ++ rest) (8 + offset) ≡ slice_index rest offset
slice_index-after front rest offset e = rw (← e) (get_or-append-add front rest offset 0)

module _ (strings : List (List ℕ)) (s : LayoutSymbol) (fits : FitsSymbol strings s) where
  long : length (name_field (string_offsets strings) s.name) ≡ 8
  long = length-name_field strings s.name fits.name

  pub length-record_bytes : length (record_bytes strings s) ≡ 18
  unfolding record_bytes u16_bytes u32_bytes
  length-record_bytes = length-append (name_field (string_offsets strings) s.name) _ ∙ (rw long refl)

  record-name : take 8 (record_bytes strings s) ≡ name_field (string_offsets strings) s.name
  unfolding record_bytes
  record-name = take_at (name_field (string_offsets strings) s.name) _ 8 long

  record-value : u32_at (record_bytes strings s) 8 ≡ s.value
  unfolding record_bytes u16_bytes u32_bytes u32_at
  record-value = u32_at-after (name_field (string_offsets strings) s.name) _ 0 long ∙ from_le_bytes-to_le_bytes_4 s.value fits.value

  record-section : u16_at (record_bytes strings s) 12 ≡ s.section
  unfolding record_bytes u16_bytes u32_bytes u16_at
  record-section = u16_at-after (name_field (string_offsets strings) s.name) _ 4 long ∙ from_le_bytes-to_le_bytes_2 s.section fits.section

  record-kind : u16_at (record_bytes strings s) 14 ≡ 0
  unfolding record_bytes u16_bytes u32_bytes u16_at
  record-kind = u16_at-after (name_field (string_offsets strings) s.name) _ 6 long

  record-class : slice_index (record_bytes strings s) 16 ≡ s.class
  unfolding record_bytes u16_bytes u32_bytes
  record-class = slice_index-after (name_field (string_offsets strings) s.name) _ 8 long

  pub record-auxiliary : slice_index (record_bytes strings s) 17 ≡ auxiliary_count s.aux
  unfolding record_bytes u16_bytes u32_bytes
  record-auxiliary = slice_index-after (name_field (string_offsets strings) s.name) _ 9 long

  -- the symbol that a reader finds
  unfoldable pub shown : ObjectSymbol
  shown = record { name = name_text strings s.name; value = s.value; section = s.section; kind = 0; class = s.class }

  pub symbol_of-record : AllByRecursion HasNoNul strings → strings_size strings < 2 ^ 32 → symbol_of (string_table strings) (record_bytes strings s) ≡ Some shown
  unfolding symbol_of shown
  symbol_of-record all below = grind (arith, record-name, name_of-field, record-value, record-section, record-kind, record-class)
