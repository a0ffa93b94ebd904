-- The first of the places that define a name.
use Rattle.std.proofs.Common.{arith, ◌≡◌, ℕ, ◌+◌, ◌<◌, List, [], ◌∷◌, ◌++◌, Option, Some, None, bytes_eq, cond, get_or, if◌then◌else◌, length, map, take}
use Rattle.std.proofs.lemmas.Grind.{common_steps}
use Rattle.std.specs.Option.{option_or}
use Rattle.std.proofs.lemmas.List.{map-append, take_more}
use Rattle.std.proofs.lemmas.Slice.Eq.{bytes_eq-Decides}
use Rattle.implib.specs.Formats.Object.{Entry, Object}
use Rattle.implib_read.specs.Files.{File, definer_among, place_in_file}
use Rattle.implib_read.specs.Following.{Place, place_among, place_by_entry}

pub option_or-assoc : {X : Type 0} (a b c : Option X) → option_or (option_or a b) c ≡ option_or a (option_or b c)
option_or-assoc a b c = grind arith

pub option_or-none : {X : Type 0} (a : Option X) → option_or a None ≡ a
option_or-none a = grind arith

pub placed : {X : Type 0} (old : List ℕ → Option X) (name other : List ℕ) (place : X) → old name ≡ None
    → cond (bytes_eq name other) (Some place) (old other) ≡ option_or (old other) (if bytes_eq name other then Some place else None)
placed {X} old name other place none = grind (arith, bytes_eq-Decides, option_or-none)

place_among-more : (o : Object) (name : List ℕ) (es : List Entry) (e : Entry) → place_among o name (es ++ e ∷ []) ≡ option_or (place_among o name es) (place_by_entry o name e)
place_among-more o name [] e = option_or-none (place_by_entry o name e)
place_among-more o name (x ∷ es) e = grind (arith, option_or-assoc, place_among-more o name es e)

definer_among-more : (name : List ℕ) (files : List File) (file : File) → definer_among (files ++ file ∷ []) name ≡ option_or (definer_among files name) (place_in_file file name)
definer_among-more name [] file = option_or-none (place_in_file file name)
definer_among-more name (x ∷ files) file = grind (arith, option_or-assoc, definer_among-more name files file)

-- the loop over entries goes on
pub noted-entry : {A : Type 0} (view : A → Entry) (o : Object) (name : List ℕ) (items : List A) (i : ℕ) (d : A) (before so_far after : Option Place) → i < length items
    → so_far ≡ option_or before (place_among o name (map view (take i items))) → after ≡ option_or so_far (place_by_entry o name (view (get_or items i d)))
    → after ≡ option_or before (place_among o name (map view (take (i + 1) items)))
noted-entry view o name items i d before so_far after within was is = grind (arith, common_steps, option_or-assoc, place_among-more, take_more, map-append)

-- the loop over files goes on
pub noted-file : {A : Type 0} (view : A → File) (name : List ℕ) (items : List A) (i : ℕ) (x : A) (so_far after : Option Place) → i < length items → x ≡ get_or items i x
    → so_far ≡ definer_among (map view (take i items)) name → after ≡ option_or so_far (place_in_file (view x) name)
    → after ≡ definer_among (map view (take (i + 1) items)) name
noted-file view name items i x so_far after within item was is = cc (definer_among-more name (map view (take i items)) (view x), take_more items i x within, map-append view (take i items) (get_or items i x ∷ []))
