-- The first of the members that declare a symbol.
use Rattle.std.proofs.Common.{◌≡◌, ℕ, zero, suc, arith, ◌+◌, ◌<◌, List, [], ◌∷◌, ◌++◌, Option, Some, None, append-nil, bytes_eq, get_or, if◌then◌else◌, length, map, take, refl, ap}
use Rattle.std.specs.List.{filter_map}
use Rattle.std.specs.Option.{option_or}
use Rattle.std.proofs.lemmas.Grind.{common_steps}
use Rattle.std.proofs.lemmas.List.{map-append, take_more}
use Rattle.implib_read.specs.Archives.{StoredMember}
use Rattle.implib_read.specs.Classes.{files_of}
use Rattle.implib_read.specs.Files.{File, file_found}
use Rattle.implib_read.specs.Leads.{declared_by_found, first_declarer, offset_if_listed}
use Rattle.implib_read.proofs.MemberClasses.{file_beside}
use Rattle.implib_read.proofs.FirstPlaces.{option_or-assoc, option_or-none}
use Rattle.implib_read.proofs.Gathering.{kept-more}

-- the offset, if two symbols are the same
abbrev if_same : ℕ → List ℕ → List ℕ → Option ℕ
if_same offset s symbol = if bytes_eq s symbol then Some offset else None

listed-more : (offset : ℕ) (ss : List (List ℕ)) (s symbol : List ℕ) → offset_if_listed offset (ss ++ s ∷ []) symbol ≡ option_or (offset_if_listed offset ss symbol) (if_same offset s symbol)
listed-more offset [] s symbol = option_or-none (if_same offset s symbol)
listed-more offset (t ∷ ss) s symbol = grind (arith, option_or-assoc, listed-more offset ss s symbol)

-- the loop over entries goes on past one that declares nothing
pub noted-nothing : {A B : Type 0} (view : A → B) (f : B → Option (List ℕ)) (items : List A) (i : ℕ) (d : A) (offset : ℕ) (symbol : List ℕ) (old so_far : Option ℕ) → i < length items
    → f (view (get_or items i d)) ≡ None → so_far ≡ option_or old (offset_if_listed offset (filter_map f (map view (take i items))) symbol)
    → so_far ≡ option_or old (offset_if_listed offset (filter_map f (map view (take (i + 1) items))) symbol)
noted-nothing view f items i d offset symbol old so_far within none was = cc (append-nil (filter_map f (map view (take i items))), kept-more view f items i d (filter_map f (map view (take i items))) None within none refl)

-- the loop over entries goes on past one that declares a symbol
pub noted-name : {A B : Type 0} (view : A → B) (f : B → Option (List ℕ)) (items : List A) (i : ℕ) (d : A) (offset : ℕ) (s symbol : List ℕ) (old so_far after : Option ℕ) → i < length items
    → f (view (get_or items i d)) ≡ Some s → after ≡ option_or so_far (if bytes_eq s symbol then Some offset else None)
    → so_far ≡ option_or old (offset_if_listed offset (filter_map f (map view (take i items))) symbol)
    → after ≡ option_or old (offset_if_listed offset (filter_map f (map view (take (i + 1) items))) symbol)
noted-name view f items i d offset s symbol old so_far after within some is was =
    let names = filter_map f (map view (take i items)) in
    cc (option_or-assoc old (offset_if_listed offset names symbol) (if_same offset s symbol), listed-more offset names s symbol, kept-more view f items i d names (Some s) within some refl)

-- the loop over names goes on
pub noted-listed : {A : Type 0} (view : A → List ℕ) (items : List A) (i : ℕ) (d : A) (offset : ℕ) (symbol : List ℕ) (old so_far after : Option ℕ) → i < length items
    → after ≡ option_or so_far (if bytes_eq (view (get_or items i d)) symbol then Some offset else None)
    → so_far ≡ option_or old (offset_if_listed offset (map view (take i items)) symbol)
    → after ≡ option_or old (offset_if_listed offset (map view (take (i + 1) items)) symbol)
noted-listed view items i d offset symbol old so_far after within is was = grind (arith, common_steps, option_or-assoc, listed-more, take_more, map-append)

-- items that have the same beside each other
pub beside : {A B M C : Type 0} (f : A → C) (h : M → C) (v : B → M) (xs : List A) (ys : List B) (i : ℕ) (x : A) (y : B) → i < length ys
    → map f xs ≡ map h (map v ys) → f (get_or xs i x) ≡ h (v (get_or ys i y))
beside f h v xs [] i x y within same = absurd (omega (arith, within))
beside f h v [] (b ∷ ys) i x y within same = cc
beside f h v (a ∷ xs) (b ∷ ys) zero x y within same = cc
beside f h v (a ∷ xs) (b ∷ ys) (suc i) x y within same = cc (beside f h v xs ys i x y (omega (arith, within)) (cc))

pub same_length : {A B M C : Type 0} (f : A → C) (h : M → C) (v : B → M) (xs : List A) (ys : List B) → map f xs ≡ map h (map v ys) → length xs ≡ length ys
same_length f h v xs ys same = let long = ap length same in grind (arith, common_steps, long)

-- the offset of a member, if it declares a symbol
abbrev of_member : StoredMember → List ℕ → Option ℕ
of_member m symbol = offset_if_listed m.offset (declared_by_found (file_found m.bytes)) symbol

first_declarer-more : (ms : List StoredMember) (m : StoredMember) (symbol : List ℕ) → first_declarer (ms ++ m ∷ []) symbol ≡ option_or (first_declarer ms symbol) (of_member m symbol)
first_declarer-more [] m symbol = option_or-none (of_member m symbol)
first_declarer-more (x ∷ ms) m symbol = grind (arith, option_or-assoc, first_declarer-more ms m symbol)

-- the loop over members goes on
pub noted-member : {A B : Type 0} (view_member : A → StoredMember) (view_file : B → File) (members : List A) (files : List B) (i : ℕ) (m : A) (f : B) (symbol : List ℕ) (old so_far after : Option ℕ)
    → map view_file files ≡ files_of (map view_member members) → i < length members → f ≡ get_or files i f
    → after ≡ option_or so_far (offset_if_listed (view_member (get_or members i m)).offset (declared_by_found (view_file f)) symbol)
    → so_far ≡ option_or old (first_declarer (map view_member (take i members)) symbol)
    → after ≡ option_or old (first_declarer (map view_member (take (i + 1) members)) symbol)
noted-member view_member view_file members files i m f symbol old so_far after same within item is was = grind (arith, common_steps, file_beside, option_or-assoc, first_declarer-more, take_more, map-append)
