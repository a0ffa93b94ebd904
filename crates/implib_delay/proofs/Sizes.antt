-- The sizes of the objects of delayed exports.
use Rattle.std.proofs.Common.{◌≡◌, ℕ, ◌+◌, ◌*◌, ◌-◌, ◌<◌, ◌≤◌, ◌||◌, true, false, Bool, List, [], ◌∷◌, ◌++◌, length, map, take, get_or, refl, sym, ap, ◌∙◌, arith, length-append, if◌then◌else◌, bytes_eq, sum_by}
use Rattle.std.specs.Prelude.{min}
use Rattle.std.specs.List.{fold, list_any}
use Rattle.std.proofs.lemmas.Bool.{cases_Bool, le-ltb, lt-ltb}
use Rattle.std.proofs.lemmas.List.{map-append, take_more}
use Rattle.std.proofs.lemmas.List.Folds.{list_any-append}
use Rattle.std.proofs.lemmas.List.Sums.{sum_by-append}
use Rattle.std.proofs.lemmas.Slice.Eq.{bytes_eq-Decides}
use Rattle.implib.specs.declared.coff.table.SymbolRow.{SymbolRow}
use Rattle.implib.specs.declared.machine.MachineType.{MachineType}
use Rattle.implib.specs.declared.machine.MachineType.TheVariants.{I386, ARMNT, AMD64, ARM64}
use Rattle.implib.specs.Definition.{ExportView}
use Rattle.implib.specs.Formats.Bytes.{u16_bytes}
use Rattle.implib.specs.Formats.Layout.{auxiliary_count, contents_offset, contents_size, encoded_size, record_count, records, string_size, strings_size, symbol_table_offset}
use Rattle.implib.specs.Formats.Writer.{AddedSymbol, is_long, layout_of, long_names, symbol_written, with_long_name, with_name}
use Rattle.implib.specs.Import.{name_asked}
use Rattle.implib.specs.Members.Gnu.{hint_name, thunk}
use Rattle.implib.specs.Members.ImportTables.{relocation, thunk_width, zeros}
use Rattle.implib.specs.Views.Table.{symbol_row}
use Rattle.implib.proofs.Formats.LongNames.{long_names-push}
use Rattle.implib.proofs.Members.KeptLoop.{any_viewed}
use Rattle.implib_delay.specs.Code.{stub_code}
use Rattle.implib_delay.specs.Objects.{export_object, export_sections, export_symbols, mode_of}
use Rattle.implib_delay.specs.Sizes.{added_size, long_name_size}

-- The names in the string table.

-- one name more
with_long_name-long : (names : List (List ℕ)) (name : List ℕ) →
    sum_by string_size (with_long_name names name) ≡ sum_by string_size names + (if list_any (bytes_eq name) names then 0 else long_name_size name)
unfolding with_long_name with_name
with_long_name-long names name = grind (arith, sum_by-append)

-- a long name is among them with one name more where it was, or is that name
among_more : (x name : List ℕ) (names : List (List ℕ)) → is_long x ≡ true → list_any (bytes_eq x) (with_long_name names name) ≡ (list_any (bytes_eq x) names || bytes_eq x name)
unfolding with_long_name with_name
among_more x name names long = grind (arith, cases_Bool, bytes_eq-Decides, list_any-append)

-- a long name is among the long names of symbols where it is that of one of them
among_from : (x : List ℕ) → is_long x ≡ true → (symbols : List AddedSymbol) (names : List (List ℕ)) →
    list_any (bytes_eq x) (fold with_long_name names (map (λ s. s.name) symbols)) ≡ (list_any (bytes_eq x) names || list_any (λ s. bytes_eq x s.name) symbols)
among_from x long [] names = grind arith
among_from x long (s ∷ symbols) names = grind (arith, among_from x long symbols (with_long_name names s.name), among_more)

among_long : (x : List ℕ) → is_long x ≡ true → (symbols : List AddedSymbol) → list_any (bytes_eq x) (long_names symbols) ≡ list_any (λ s. bytes_eq x s.name) symbols
unfolding long_names
among_long x long symbols = among_from x long symbols []

-- what a name adds
adds : (name : List ℕ) (symbols : List AddedSymbol) → (if list_any (bytes_eq name) (long_names symbols) then 0 else long_name_size name) ≡ added_size name symbols
adds name symbols = grind (arith, cases_Bool, among_long)

-- a short name adds nothing
pub adds_short : (name : List ℕ) (others : List AddedSymbol) → length name ≤ 8 → 0 ≡ added_size name others
adds_short name others short = grind (arith, le-ltb)

-- nor does one that is there
pub adds_again : (name : List ℕ) (others : List SymbolRow) → list_any (λ row. bytes_eq name row.name.now) others ≡ true → 0 ≡ added_size name (map symbol_row others)
adds_again name others there =
    let among : list_any (λ s. bytes_eq name s.name) (map symbol_row others) ≡ true = sym (any_viewed symbol_row (λ s. bytes_eq name s.name) others) ∙ there in
    rw among refl

-- a long name that is not there adds its bytes and a NUL
pub adds_first : (name : List ℕ) (others : List SymbolRow) → 8 < length name → list_any (λ row. bytes_eq name row.name.now) others ≡ false → length name + 1 ≡ added_size name (map symbol_row others)
unfolding string_size
adds_first name others long absent =
    let among : list_any (λ s. bytes_eq name s.name) (map symbol_row others) ≡ false = sym (any_viewed symbol_row (λ s. bytes_eq name s.name) others) ∙ absent in
    let is : is_long name ≡ true = lt-ltb 8 (length name) long in
    rw (among, is) refl

pub names_more : (symbols : List AddedSymbol) (s : AddedSymbol) →
    sum_by string_size (long_names (symbols ++ s ∷ [])) ≡ sum_by string_size (long_names symbols) + added_size s.name symbols
names_more symbols s = grind (arith, long_names-push, with_long_name-long, adds)

-- the names of rows and of the next one
pub next_name : (rows : List SymbolRow) (i : ℕ) (d : SymbolRow) → i < length rows →
    sum_by string_size (long_names (map symbol_row (take (i + 1) rows)))
    ≡ sum_by string_size (long_names (map symbol_row (take i rows))) + added_size (get_or rows i d).name.now (map symbol_row (take i rows))
next_name rows i d within =
    ap (λ (x : List SymbolRow). sum_by string_size (long_names (map symbol_row x))) (take_more rows i d within)
    ∙ (ap (λ (x : List AddedSymbol). sum_by string_size (long_names x)) (map-append symbol_row (take i rows) (get_or rows i d ∷ []))
    ∙ names_more (map symbol_row (take i rows)) (symbol_row (get_or rows i d)))

-- The contents of the sections.

thunk_long : (machine : MachineType) (no_name : Bool) (ordinal : ℕ) →
    length (if no_name then u16_bytes ordinal ++ (zeros (thunk_width machine - 3) ++ 0x80 ∷ []) else zeros (thunk_width machine)) + 10 * length (if no_name then [] else relocation machine 0 9 ∷ [])
    ≡ thunk_width machine + (if no_name then 0 else 10)
unfolding u16_bytes
thunk_long I386 true ordinal = refl
thunk_long ARMNT true ordinal = refl
thunk_long AMD64 true ordinal = refl
thunk_long ARM64 true ordinal = refl
thunk_long I386 false ordinal = refl
thunk_long ARMNT false ordinal = refl
thunk_long AMD64 false ordinal = refl
thunk_long ARM64 false ordinal = refl

hint_name_long : (no_name : Bool) (ordinal : ℕ) (asked : List ℕ) →
    length (if no_name then [] else u16_bytes ordinal ++ (asked ++ 0 ∷ [])) ≡ (if no_name then 0 else length asked + 3)
unfolding u16_bytes
hint_name_long true ordinal asked = refl
hint_name_long false ordinal asked = omega (arith, length-append asked (0 ∷ []))

entry_long : (machine : MachineType) → length (6 ∷ zeros (thunk_width machine - 1)) ≡ thunk_width machine
entry_long I386 = refl
entry_long ARMNT = refl
entry_long AMD64 = refl
entry_long ARM64 = refl

-- what the sections of an export hold
pub contents_long : (machine : MachineType) (e : ExportView) →
    sum_by contents_size (export_sections machine e)
    ≡ length (stub_code (mode_of machine)) + 40 + 72 + 2 * thunk_width machine + 10 + (if e.no_name then 0 else 13 + length (name_asked machine e))
unfolding contents_size thunk hint_name
contents_long machine e = grind (arith, entry_long, thunk_long, hint_name_long)

-- The size of an object.

pub object_long : (machine : MachineType) (library : List ℕ) (e : ExportView) →
    encoded_size (layout_of (export_object machine library e))
    ≡ 404 + sum_by contents_size (export_sections machine e) + sum_by string_size (long_names (export_symbols machine library e))
unfolding encoded_size symbol_table_offset contents_offset records strings_size layout_of export_object record_count auxiliary_count symbol_written
object_long machine library e = omega arith

-- sums that stop at a greatest number

pub saturated_more : (sum next : ℕ) {old added counted new : ℕ} → new ≡ min (old + counted) 0xFFFF_FFFF_FFFF_FFFF → counted ≡ added → old ≡ min 0xFFFF_FFFF_FFFF_FFFF sum → next ≡ sum + added
    → new ≡ min 0xFFFF_FFFF_FFFF_FFFF next
saturated_more sum next a b c d = omega (arith, a, b, c, d)

pub sizes_saturated : (contents names : ℕ) {first whole some : ℕ} → whole ≡ min (first + some) 0xFFFF_FFFF_FFFF_FFFF → first ≡ min (404 + contents) 0xFFFF_FFFF_FFFF_FFFF → some ≡ min 0xFFFF_FFFF_FFFF_FFFF names
    → whole ≡ min 0xFFFF_FFFF_FFFF_FFFF (404 + contents + names)
sizes_saturated contents names a b c = omega (arith, a, b, c)
