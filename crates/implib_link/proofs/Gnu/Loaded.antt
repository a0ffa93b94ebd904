-- The memory of a loaded program: what was written, the image, and code beside it, which the loader leaves as it is.
use Rattle.std.proofs.Common.{rules, ◌≡◌, ℕ, ◌+◌, ◌^◌, ◌<◌, ◌≤◌, true, false, List, [], ◌∷◌, ◌++◌, length, Some, refl, sym, subst, inl, inr, arith, ◌∙◌, zero, suc, ◌*◌, map}
use Rattle.std.specs.Prelude.{nat_lt, slice_get}
use Rattle.std.specs.List.{AllByRecursion, list_any}
use Rattle.std.proofs.lemmas.Bool.{cases_Bool, false_from_ne_true, ltb-false, ltb-true}
use Rattle.implib.specs.Import.{Ask}
use Rattle.implib.specs.Link.Image.{AllApart, Range, byte_at, is_in, range_end}
use Rattle.implib.specs.Link.Load.{BytesAt, TableAt, LoadsStrictly, NumberAt, TextAt, ThunkAsksFor, ThunkAt, WholeTableAt}
use Rattle.implib.proofs.Link.Linked.{all_append}
use Rattle.implib.proofs.Link.Loading.{number_once, table_led_to, text_led_to}
use Rattle.implib.proofs.Link.Ranges.{Among, address_bounds, all_among, among_back, located_parts, is_in_from}
use Rattle.implib_link.specs.Directory.{DirectoryAt, Imported, FindsBy, StopsAt, WalkFinds}
use Rattle.implib_link.specs.Gnu.Writing.{Writes, entries_written, ReadsAndWrites}
use Rattle.implib.specs.Members.ImportTables.{zeros, thunk_width}
use Rattle.std.proofs.Math.Nat.{mul-suc, mul-zero}
use Rattle.std.proofs.lemmas.List.{append_assoc, get_or_at, length-append}
use Rattle.implib.specs.declared.machine.MachineType.{MachineType}

-- a range is where an image has bytes
abbrev pub Covers : List Range → Range → Type 0
Covers image r = (a : ℕ) → is_in a r ≡ true → (byte : ℕ) × (byte_at image a ≡ Some byte)

-- the bounds of an address in a range
pub within_bounds : (a : ℕ) (r : Range) → is_in a r ≡ true → (r.start ≤ a) × (a < range_end r)
within_bounds a r within = grind arith

pub byte_within : (image : List Range) (bytes : List ℕ) (a x : ℕ) → BytesAt image a bytes → a ≤ x → x < a + length bytes → (byte : ℕ) × (byte_at image x ≡ Some byte)
unfolding BytesAt
byte_within image [] a x located from below = absurd (omega arith)
byte_within image (b ∷ bytes) a x located from below =
    elim (cases_Bool (nat_lt a x)) [
      | inl is ↦ let later = ltb-true a x is in byte_within image bytes (a + 1) x located.1 (omega arith) (omega arith)
      | inr is ↦ (b, subst (λ n. byte_at image n ≡ Some b) (omega (arith, ltb-false a x is)) located.0)
    ]

pub byte_first : (image : List Range) (bytes : List ℕ) (a : ℕ) → BytesAt image a bytes → 0 < length bytes → (byte : ℕ) × (byte_at image a ≡ Some byte)
byte_first image bytes a located long = byte_within image bytes a a located (omega arith) (omega arith)

-- What a loader writes is where the image has bytes.

entries_cover : (image : List Range) (width : ℕ) (gives : Ask → List ℕ) → ((ask : Ask) → length (gives ask) ≡ width) → (asks : List Ask) (a : ℕ) → TableAt image width a asks →
    AllByRecursion (Covers image) (entries_written width a gives asks)
unfolding TableAt entries_written
entries_cover image width gives wide [] a table = tt
entries_cover image width gives wide (ask ∷ asks) a table = (
  λ x within.
      let bounds = within_bounds x (record { start = a; bytes = gives ask }) within in
      byte_within image table.0.located.bytes a x table.0.located.located bounds.0 (omega (arith, bounds.1, wide ask, table.0.located.count)),
  entries_cover image width gives wide asks (a + width) table.1,
)

pub written_covers : (image : List Range) (width : ℕ) (gives : List ℕ → Ask → List ℕ) → ((dll : List ℕ) (ask : Ask) → length (gives dll ask) ≡ width) → (imports : List Imported) (descriptor : ℕ) (written : List Range) →
    DirectoryAt image width descriptor imports → Writes image width gives descriptor imports written → AllByRecursion (Covers image) written
unfolding DirectoryAt Writes
written_covers image width gives wide [] descriptor written directory writes = subst (AllByRecursion (Covers image)) (sym writes) tt
written_covers image width gives wide (i ∷ imports) descriptor written directory (table, (field, (behind, (is, later)))) =
    grind (arith, written_covers image width gives wide imports (descriptor + 20) behind directory.1 later, number_once image 4 (descriptor + 16) directory.0.plain.addresses table directory.0.plain.addresses_field field, entries_cover, all_append)

-- an address at which a loaded image has a byte is below its end
pub loaded_below : (image written : List Range) (a b : ℕ) → AllByRecursion (λ r. 0 < r.start) image → AllByRecursion (λ r. range_end r < 2 ^ 31) image → AllByRecursion (Covers image) written →
    byte_at (written ++ image) a ≡ Some b → a < 2 ^ 31
loaded_below image [] a b low high covers is = (address_bounds image a b low high is).1
loaded_below image (r ∷ written) a b low high covers is = grind (arith, loaded_below image written a b low high covers.1, address_bounds)

-- So nothing is written into code.

pub holder : (ranges : List Range) (a b : ℕ) → byte_at ranges a ≡ Some b → (r : Range) × (Among r ranges × (is_in a r ≡ true))
unfolding Among
holder [] a b is = cc
holder (r ∷ ranges) a b is = grind (arith, holder ranges a b)

pub not_in_both : (xs ys : List Range) (r s : Range) (a : ℕ) → AllApart (xs ++ ys) → Among r xs → Among s ys → is_in a r ≡ true → is_in a s ≡ true → ⊥
unfolding Among
not_in_both [] ys r s a apart m n first second = absurd m
not_in_both (x ∷ xs) ys r s a apart (inl e) n first second = grind (arith, all_among, among_back)
not_in_both (x ∷ xs) ys r s a apart (inr m) n first second = not_in_both xs ys r s a apart.1 m n first second

pub code_untouched : (image codes written : List Range) (r : Range) (a : ℕ) → AllByRecursion (Covers image) written → AllApart (image ++ codes) → Among r codes → is_in a r ≡ true →
    list_any (is_in a) written ≡ false
code_untouched image codes [] r a covers apart m within = refl
code_untouched image codes (w ∷ written) r a covers apart m within = grind (arith, code_untouched image codes written r a covers.1 apart m within, false_from_ne_true, holder, not_in_both)

-- Bytes of the loaded image are those of memory.

pub byte_front : (xs ys : List Range) (a b : ℕ) → byte_at xs a ≡ Some b → byte_at (xs ++ ys) a ≡ Some b
byte_front [] ys a b is = cc
byte_front (x ∷ xs) ys a b is = grind (arith, byte_front xs ys a b)

-- A directory has one reading.

-- the null descriptor stops a walk
null_stops : (image : List Range) (address : ℕ) → BytesAt image address (zeros 20) → NumberAt image 4 (address + 12) 0
null_stops image address null =
    record { bytes = zeros 4; located = (located_parts image (zeros 4) (zeros 4) (address + 12) (located_parts image (zeros 12) (zeros 8) address null).1).0; count = refl; value = refl }

pub directory_walk : (image : List Range) (width address : ℕ) (imports : List Imported) → DirectoryAt image width address imports → WalkFinds image width address imports
unfolding DirectoryAt WalkFinds
directory_walk image width address [] null = inl (null_stops image address null)
directory_walk image width address (i ∷ imports) directory = grind (arith, directory_walk image width (address + 20) imports directory.1)

pub nonzero : (n m : ℕ) → n ≡ m → 0 < n → m ≡ 0 → ⊥
nonzero n m same above none = omega arith

pub same_imports : (first second : Imported) (firsts seconds : List Imported) → first.dll ≡ second.dll → first.asks ≡ second.asks → firsts ≡ seconds →
    first ∷ firsts ≡ second ∷ seconds
same_imports first second firsts seconds dll asks others = grind arith

stops_once : (image : List Range) (width address : ℕ) (i : Imported) → LoadsStrictly image width address i.dll i.asks → StopsAt image address → ⊥
stops_once image width address i loads (inl no_name) = grind (arith, nonzero loads.plain.name 0 (number_once image 4 (address + 12) loads.plain.name 0 loads.plain.name_field no_name) loads.has_name refl)
stops_once image width address i loads (inr no_addresses) = grind (arith, nonzero loads.plain.addresses 0 (number_once image 4 (address + 16) loads.plain.addresses 0 loads.plain.addresses_field no_addresses) loads.has_addresses refl)

-- both tables ask for the same
same_asks : (image : List Range) (width address : ℕ) (i j : Imported) → LoadsStrictly image width address i.dll i.asks → FindsBy image width address j → i.asks ≡ j.asks
same_asks image width address i j strict step = elim step.table_field [
  | inl field ↦ grind (arith, table_led_to image width address strict.plain.lookups step.table i.asks j.asks strict.plain.lookups_field field strict.plain.lookup_table step.thunks)
  | inr field ↦ grind (arith, table_led_to image width (address + 16) strict.plain.addresses step.table i.asks j.asks strict.plain.addresses_field field strict.plain.address_table step.thunks)
]

pub walk_once : (image : List Range) (width address : ℕ) (imports others : List Imported) →
    DirectoryAt image width address imports → WalkFinds image width address others → imports ≡ others
unfolding DirectoryAt WalkFinds
walk_once image width address [] [] directory walk = refl
walk_once image width address [] (j ∷ others) directory walk = absurd
    (grind (arith, nonzero walk.0.name 0 (number_once image 4 (address + 12) walk.0.name 0 walk.0.name_field (null_stops image address directory)) walk.0.has_name refl))
walk_once image width address (i ∷ imports) [] directory walk = absurd (stops_once image width address i directory.0 walk)
walk_once image width address (i ∷ imports) (j ∷ others) directory walk =
    search (rules, walk_once image width (address + 20) imports others directory.1 walk.1, same_asks image width address i j directory.0 walk.0, same_imports, text_led_to)

-- A loader that reads an image walks its directory once, and writes what the law of loaded programs speaks of.

module _ (image : List Range) (width : ℕ) (gives : List ℕ → Ask → List ℕ) where
  -- what is read is found by a walk, and what is written is what a loader of it writes
  found_by : (n address : ℕ) (written : List Range) → ReadsAndWrites image width gives n address written →
      (found : List Imported) × ((length found ≡ n) × (WalkFinds image width address found × Writes image width gives address found written))
  unfolding ReadsAndWrites WalkFinds Writes
  found_by zero address written reads = ([], (refl, (reads.0, reads.1)))
  found_by (suc n) address written (found, (step, (behind, (is, reads)))) =
      let later = found_by n (address + 20) behind reads in
      (found ∷ later.0, ((omega arith), ((step, later.1.1.0), (step.addresses, (step.addresses_field, (behind, (is, later.1.1.1)))))))

  -- what a walk finds can be read and written
  walk_writes : (address : ℕ) (found : List Imported) → WalkFinds image width address found → (written : List Range) × ReadsAndWrites image width gives (length found) address written
  unfolding ReadsAndWrites WalkFinds
  walk_writes address [] walk = ([], (walk, refl))
  walk_writes address (found ∷ others) walk =
      let later = walk_writes (address + 20) others walk.1 in
      (entries_written width walk.0.addresses (gives found.dll) found.asks ++ later.0, (found, (walk.0, (later.0, (refl, later.1)))))

  pub directory_read : (n address : ℕ) (imports : List Imported) (written : List Range) → DirectoryAt image width address imports → ReadsAndWrites image width gives n address written →
      (n ≡ length imports) × Writes image width gives address imports written
  directory_read n address imports written directory reads = grind (arith, found_by, walk_once)

  pub directory_can_be_read : (address : ℕ) (imports : List Imported) → DirectoryAt image width address imports →
      (written : List Range) × ReadsAndWrites image width gives (length imports) address written
  directory_can_be_read address imports directory = walk_writes address imports (directory_walk image width address imports directory)

-- What a loader writes is at the entries of the address tables, and nowhere else.

-- Ranges in front of others.

-- the bytes of the first range from a position on are located
front_from : (r : Range) (rs : List Range) (bytes front : List ℕ) (a : ℕ) → r.bytes ≡ front ++ bytes → a ≡ r.start + length front → BytesAt (r ∷ rs) a bytes
unfolding BytesAt
front_from r rs [] front a is at = tt
front_from r rs (b ∷ bytes) front a is at =
    grind (arith, length-append, get_or_at, is_in_from, front_from r rs bytes (front ++ b ∷ []) (a + 1) (is ∙ sym (append_assoc front (b ∷ []) bytes)) (rw (length-append front (b ∷ [])) (omega arith)))

front_located : (r : Range) (rs : List Range) → BytesAt (r ∷ rs) r.start r.bytes
front_located r rs = front_from r rs r.bytes [] r.start refl (omega arith)

past_end : (a : ℕ) (r : Range) → range_end r ≤ a → is_in a r ≡ false
past_end a r past = grind arith

-- bytes after the end of the first range are as they are without it
behind_front : (r : Range) (rs : List Range) (bytes : List ℕ) (a : ℕ) → range_end r ≤ a → BytesAt rs a bytes → BytesAt (r ∷ rs) a bytes
unfolding BytesAt
behind_front r rs [] a past located = tt
behind_front r rs (b ∷ bytes) a past located = (rw (past_end a r past) located.0, behind_front r rs bytes (a + 1) (omega arith) located.1)

-- where no written range is, the image is as it was
pub kept_outside : (written ranges : List Range) (a : ℕ) → list_any (is_in a) written ≡ false → byte_at (written ++ ranges) a ≡ byte_at ranges a
kept_outside [] ranges a none = refl
kept_outside (r ∷ written) ranges a none = grind (arith, kept_outside written ranges a)

-- The entries of one table.

-- what is so of both widths of thunks
pub by_width : (P : ℕ → Type 0) → P 4 → P 8 → (machine : MachineType) → P (thunk_width machine)
by_width P narrow wide _ = grind arith

pub plus_none : (n : ℕ) → n + 0 ≡ n
plus_none n = omega arith

pub times_next : (a w n : ℕ) → a + w + w * n ≡ a + w * suc n
times_next a w n = let product : w * suc n ≡ w * n + w = mul-suc w n in omega arith

pub times_none : (a w : ℕ) → a ≡ a + w * 0
times_none a w = let none : w * 0 ≡ 0 = mul-zero w in omega arith

module _ (width : ℕ) where
  pub entry_located : (gives : Ask → List ℕ) → ((ask : Ask) → length (gives ask) ≡ width) → (asks : List Ask) (a : ℕ) (ranges : List Range) (j : ℕ) (ask : Ask) →
      slice_get asks j ≡ Some ask → BytesAt (entries_written width a gives asks ++ ranges) (a + width * j) (gives ask)
  unfolding entries_written
  entry_located gives wide [] a ranges j ask is = cc
  entry_located gives wide (x ∷ asks) a ranges zero ask is =
      grind (arith, times_none a width, front_located (record { start = a; bytes = gives x }) (entries_written width (a + width) gives asks ++ ranges))
  entry_located gives wide (x ∷ asks) a ranges (suc j) ask is =
      let r : Range = record { start = a; bytes = gives x } in
      subst (λ n. BytesAt (r ∷ (entries_written width (a + width) gives asks ++ ranges)) n (gives ask)) (times_next a width j)
      (behind_front r (entries_written width (a + width) gives asks ++ ranges) (gives ask) (a + width + width * j) (omega arith) (entry_located gives wide asks (a + width) ranges j ask is))

  pub behind_entries : (gives : Ask → List ℕ) → ((ask : Ask) → length (gives ask) ≡ width) → (asks : List Ask) (a : ℕ) (ranges : List Range) (position : ℕ) (bytes : List ℕ) →
      a + width * length asks ≤ position → BytesAt ranges position bytes → BytesAt (entries_written width a gives asks ++ ranges) position bytes
  unfolding entries_written
  behind_entries gives wide [] a ranges position bytes past located = located
  behind_entries gives wide (x ∷ asks) a ranges position bytes past located =
      let r : Range = record { start = a; bytes = gives x } in
      grind (arith, behind_front r (entries_written width (a + width) gives asks ++ ranges) bytes position (omega arith) (behind_entries gives wide asks (a + width) ranges position bytes (omega arith) located))

  pub entries_within : (gives : Ask → List ℕ) → ((ask : Ask) → length (gives ask) ≡ width) → (asks : List Ask) (a low high : ℕ) → low ≤ a → a + width * length asks ≤ high →
      AllByRecursion (λ r. (low ≤ r.start) × (range_end r ≤ high)) (entries_written width a gives asks)
  unfolding entries_written
  entries_within gives wide [] a low high above below = tt
  entries_within gives wide (x ∷ asks) a low high above below = grind (arith, entries_within gives wide asks (a + width) low high (omega arith) (omega arith))

-- The tables of all DLLs, one after another.

-- the thunks in the tables of the first few DLLs, with the null thunks that end them
abbrev pub thunks_asked : ℕ → List Imported → ℕ
thunks_asked zero imports = 0
thunks_asked (suc i) [] = 0
thunks_asked (suc i) (p ∷ imports) = length p.asks + 1 + thunks_asked i imports

-- an element of a list that was mapped
pub mapped_at : {X Y : Type 0} (f : X → Y) (xs : List X) (i : ℕ) (y : Y) → slice_get (map f xs) i ≡ Some y → (x : X) × ((slice_get xs i ≡ Some x) × (f x ≡ y))
mapped_at f [] i y is = cc
mapped_at f (x ∷ xs) zero y is = let same : f x ≡ y = cc in (x, (refl, same))
mapped_at f (x ∷ xs) (suc i) y is = mapped_at f xs i y is

-- Memory that keeps the bytes of an image has all that is found in the image.

-- each byte of an image is in memory
unfoldable pub Keeps : List Range → List Range → Type 0
Keeps image memory = (a byte : ℕ) → byte_at image a ≡ Some byte → byte_at memory a ≡ Some byte

module _ (image memory : List Range) (keeps : Keeps image memory) where
  pub bytes_kept : (bytes : List ℕ) (a : ℕ) → BytesAt image a bytes → BytesAt memory a bytes
  unfolding BytesAt Keeps
  bytes_kept [] a located = tt
  bytes_kept (b ∷ bytes) a located = (keeps a b located.0, bytes_kept bytes (a + 1) located.1)

  pub number_kept : (width a n : ℕ) → NumberAt image width a n → NumberAt memory width a n
  number_kept width a n number = record { bytes = number.bytes; located = bytes_kept number.bytes a number.located; count = number.count; value = number.value }

  pub text_kept : (a : ℕ) (text : List ℕ) → TextAt image a text → TextAt memory a text
  text_kept a text found = record { no_nul = found.no_nul; located = bytes_kept (text ++ 0 ∷ []) a found.located }

  pub thunk_kept : (width a : ℕ) (ask : Ask) → ThunkAt image width a ask → ThunkAt memory width a ask
  unfolding ThunkAsksFor
  thunk_kept width a ask found = record { thunk = found.thunk; located = number_kept width a found.thunk found.located; not_zero = found.not_zero; asks = (grind (arith, number_kept, text_kept)) }

  pub table_kept : (width : ℕ) (asks : List Ask) (a : ℕ) → TableAt image width a asks → TableAt memory width a asks
  unfolding TableAt
  table_kept width [] a found = number_kept width a 0 found
  table_kept width (ask ∷ asks) a found = (thunk_kept width a ask found.0, table_kept width asks (a + width) found.1)

  whole_kept : (width : ℕ) (asks : List Ask) (a : ℕ) → WholeTableAt image width a asks → WholeTableAt memory width a asks
  unfolding WholeTableAt
  whole_kept width [] a found = tt
  whole_kept width (ask ∷ asks) a found = grind (arith, number_kept, whole_kept width asks (a + width) found.1)

  loads_kept : (width a : ℕ) (dll : List ℕ) (asks : List Ask) → LoadsStrictly image width a dll asks → LoadsStrictly memory width a dll asks
  loads_kept width a dll asks loads = record {
    plain = grind (arith, number_kept, table_kept, text_kept);
    time = number_kept 4 (a + 4) 0 loads.time;
    forwarder = number_kept 4 (a + 8) 0 loads.forwarder;
    has_lookups = loads.has_lookups;
    has_name = loads.has_name;
    has_addresses = loads.has_addresses;
    whole_lookups = whole_kept width asks loads.plain.lookups loads.whole_lookups;
    whole_addresses = whole_kept width asks loads.plain.addresses loads.whole_addresses;
  }

  pub directory_kept : (width a : ℕ) (imports : List Imported) → DirectoryAt image width a imports → DirectoryAt memory width a imports
  unfolding DirectoryAt
  directory_kept width a [] directory = bytes_kept _ a directory
  directory_kept width a (i ∷ imports) directory = (loads_kept width a i.dll i.asks directory.0, directory_kept width (a + 20) imports directory.1)

  -- what a loader writes that walks the directory in memory is what one writes that walks it in the image
  writes_back : (width : ℕ) (gives : List ℕ → Ask → List ℕ) (imports : List Imported) (a : ℕ) (written : List Range) → DirectoryAt image width a imports → Writes memory width gives a imports written →
      Writes image width gives a imports written
  unfolding DirectoryAt Writes
  writes_back width gives [] a written directory writes = writes
  writes_back width gives (i ∷ imports) a written directory (table, (field, (behind, (is, later)))) =
      let own : ℕ = directory.0.plain.addresses in
      grind (arith, number_once memory 4 (a + 16) own table (number_kept 4 (a + 16) own directory.0.plain.addresses_field) field, writes_back width gives imports (a + 20) behind directory.1 later)

  pub memory_read : (width : ℕ) (gives : List ℕ → Ask → List ℕ) (n a : ℕ) (imports : List Imported) (written : List Range) → DirectoryAt image width a imports → ReadsAndWrites memory width gives n a written →
      (n ≡ length imports) × Writes image width gives a imports written
  memory_read width gives n a imports written directory reads = grind (arith, directory_read, directory_kept, writes_back)

  pub memory_can_be_read : (width : ℕ) (gives : List ℕ → Ask → List ℕ) (a : ℕ) (imports : List Imported) → DirectoryAt image width a imports →
      (written : List Range) × ReadsAndWrites memory width gives (length imports) a written
  memory_can_be_read width gives a imports directory = directory_can_be_read memory width gives a imports (directory_kept width a imports directory)

  pub keeps_written : (written : List Range) → Keeps (written ++ image) (written ++ memory)
  unfolding Keeps
  keeps_written [] a byte is = keeps a byte is
  keeps_written (r ∷ written) a byte is =
      elim (cases_Bool (is_in a r)) [
        | inl within ↦ rw within (rw within at is)
        | inr outside ↦ rw outside (keeps_written written a byte (rw outside at is))
      ]

  writes_once : (width : ℕ) (gives : List ℕ → Ask → List ℕ) (imports : List Imported) (a : ℕ) (first second : List Range) → Writes image width gives a imports first → Writes image width gives a imports second → first ≡ second
  unfolding Writes
  writes_once width gives [] a first second one two = one ∙ sym two
  writes_once width gives (i ∷ imports) a first second (table, (field, (behind, (is, later)))) (other, (other_field, (other_behind, (other_is, other_later)))) = cc (writes_once width gives imports (a + 20) behind other_behind later other_later, number_once image 4 (a + 16) table other field other_field)

  -- a loader that is handed the imports writes what one does that reads them in memory
  pub memory_reads : (width : ℕ) (gives : List ℕ → Ask → List ℕ) (a : ℕ) (imports : List Imported) (written : List Range) → DirectoryAt image width a imports → Writes image width gives a imports written →
      ReadsAndWrites memory width gives (length imports) a written
  memory_reads width gives a imports written directory writes =
      let found = memory_can_be_read width gives a imports directory in
      grind (arith, writes_once width gives imports a found.0 written (memory_read width gives (length imports) a imports found.0 directory found.1).1 writes)
