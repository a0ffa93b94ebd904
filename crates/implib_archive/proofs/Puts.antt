-- What a writer has after several calls.
use Rattle.std.proofs.Common.{arith, ◌≡◌, ℕ, ◌+◌, ◌-◌, ◌<◌, List, [], ◌∷◌, ◌++◌, Option, Some, None, Result, Ok, Err, flat_map, get_or, length, take, drop, refl, sym, ap, subst, ◌∙◌, append-nil, append_assoc}
use Rattle.std.specs.Io.KnownBytes.{Appends}
use Rattle.implib.specs.Beginning.{AppendsBeginning}
use Rattle.std.specs.Result.{IsErr}
use Rattle.std.proofs.lemmas.Bool.{true≢false}
use Rattle.std.proofs.lemmas.Grind.{flat_map-append}
use Rattle.std.proofs.lemmas.List.{take_more, take_rest, take-append-drop}
use Rattle.implib.specs.Members.MemberSpec.{MemberView}
use Rattle.implib_archive.specs.Archive.{member_part}
use Rattle.implib_archive.specs.Parts.{padding, part_bytes}
use Rattle.implib_archive.specs.Pushed.{Pushes, header_of}
use Rattle.implib_archive.specs.Written.{AppendsUpTo, Writes}

pub appends_then : (a b c : Option (List ℕ)) (x y : List ℕ) → Appends a b x → Appends b c y → Appends a c (x ++ y)
appends_then None b c x y p q = tt
appends_then (Some xs) None c x y p q = absurd p
appends_then (Some xs) (Some ys) None x y p q = absurd q
appends_then (Some xs) (Some ys) (Some zs) x y p q = q ∙ ap (λ t. t ++ y) p ∙ append_assoc xs x y

pub appends_nothing : (a : Option (List ℕ)) → Appends a a []
appends_nothing None = tt
appends_nothing (Some xs) = sym (append-nil xs)

-- no bytes are a beginning
pub begins_nothing : (a : Option (List ℕ)) (bytes : List ℕ) → AppendsBeginning a a bytes
begins_nothing a bytes = record { taken = []; left = bytes; whole = refl; written = appends_nothing a }

-- a beginning is one of more bytes
pub begins_more : (a b : Option (List ℕ)) (x y : List ℕ) → AppendsBeginning a b x → AppendsBeginning a b (x ++ y)
begins_more a b x y p = record { taken = p.taken; left = p.left ++ y; whole = ap (λ t. t ++ y) p.whole ∙ append_assoc p.taken p.left y; written = p.written }

-- a beginning after bytes
pub begins_then : (a b c : Option (List ℕ)) (x y : List ℕ) → Appends a b x → AppendsBeginning b c y → AppendsBeginning a c (x ++ y)
begins_then a b c x y p q = grind (arith, append_assoc, appends_then)

-- what a call writes after bytes
pub writes_then : {T E : Type 0} (r : Result T E) (a b c : Option (List ℕ)) (x y : List ℕ) → Appends a b x → Writes b c y r → Writes a c (x ++ y) r
writes_then (Ok u) a b c x y p q = appends_then a b c x y p q
writes_then (Err e) a b c x y p q = begins_then a b c x y p q

-- the same bytes
pub writes_as : {T E : Type 0} (r : Result T E) (a b : Option (List ℕ)) {x y : List ℕ} → x ≡ y → Writes a b x r → Writes a b y r
writes_as r a b e q = subst (λ t. Writes a b t r) e q

-- an error, after a beginning
pub writes_err : {T E : Type 0} (r : Result T E) (a b : Option (List ℕ)) (x : List ℕ) → IsErr r → AppendsBeginning a b x → Writes a b x r
writes_err (Ok u) a b x is q = absurd (true≢false (sym is))
writes_err (Err e) a b x is q = q

-- what an empty buffer has after bytes
pub piece_is : {old new bytes slice : List ℕ} → slice ≡ new → Pushes old new bytes → old ≡ [] → slice ≡ bytes
piece_is {old} {new} {bytes} {slice} same pushed empty = same ∙ (pushed.whole ∙ ap (λ t. t ++ bytes) empty)

-- one write more
pub up_to_more : (a b c : Option (List ℕ)) (bytes rest : List ℕ) (count : ℕ) → AppendsUpTo a b bytes rest → Appends b c (take count rest)
    → AppendsUpTo a c bytes (take (length rest - count) (drop count rest))
up_to_more a b c bytes rest count w moved = grind (arith, take-append-drop, append_assoc, take_rest, appends_then)

-- the parts of a list, at one element
module _ {X : Type 0} (f : X → List ℕ) (xs : List X) (i : ℕ) (d : X) (within : i < length xs) where
  more : flat_map f (take (i + 1) xs) ≡ flat_map f (take i xs) ++ f (get_or xs i d)
  more = ap (flat_map f) (take_more xs i d within) ∙ flat_map-append f (take i xs) (get_or xs i d ∷ []) ∙ ap (λ t. flat_map f (take i xs) ++ t) (append-nil (f (get_or xs i d)))

  -- one part more
  pub appends_part : (a b c : Option (List ℕ)) → Appends a b (flat_map f (take i xs)) → Appends b c (f (get_or xs i d)) → Appends a c (flat_map f (take (i + 1) xs))
  appends_part a b c p q = subst (Appends a c) (sym more) (appends_then a b c (flat_map f (take i xs)) (f (get_or xs i d)) p q)

  split : flat_map f xs ≡ (flat_map f (take i xs) ++ f (get_or xs i d)) ++ flat_map f (drop (i + 1) xs)
  split = sym (ap (flat_map f) (take-append-drop (i + 1) xs)) ∙ flat_map-append f (take (i + 1) xs) (drop (i + 1) xs) ∙ ap (λ t. t ++ flat_map f (drop (i + 1) xs)) more

  -- a beginning of one part more
  pub begins_part : (a b c : Option (List ℕ)) → Appends a b (flat_map f (take i xs)) → AppendsBeginning b c (f (get_or xs i d)) → AppendsBeginning a c (flat_map f xs)
  begins_part a b c p q = grind (arith, split, begins_more, begins_then)

-- a header, data and padding are a member's part
pub member_whole : (names : List (List ℕ × ℕ)) (m : MemberView) {header slice bytes : List ℕ} → header ≡ header_of names m → slice ≡ header → bytes ≡ m.bytes
    → slice ++ bytes ++ padding 10 (length bytes) ≡ member_part names m
unfolding member_part part_bytes
member_whole names m {header} {slice} {bytes} headed same data' = grind arith
