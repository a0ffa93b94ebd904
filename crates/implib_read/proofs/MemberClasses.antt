-- Members and their files, beside each other.
use Rattle.std.proofs.Common.{◌≡◌, ℕ, zero, suc, ◌+◌, ◌<◌, List, [], ◌∷◌, ◌++◌, get_or, length, map, take, arith}
use Rattle.std.proofs.lemmas.Grind.{common_steps}
use Rattle.std.proofs.lemmas.List.{map-append, take_more}
use Rattle.implib_read.specs.Archives.{StoredMember}
use Rattle.implib_read.specs.Classes.{Class, MemberRead, class_of_file, files_of, member_read}
use Rattle.implib_read.specs.Files.{File, file_found}
use Rattle.implib_read.specs.Following.{Place}
use Rattle.std.specs.Prelude.{Option}

-- the file of a member is beside it
pub file_beside : {A B : Type 0} (view_member : A → StoredMember) (view_file : B → File) (members : List A) (files : List B) (i : ℕ) (m : A) (f : B) → i < length members
    → map view_file files ≡ files_of (map view_member members) → view_file (get_or files i f) ≡ file_found (view_member (get_or members i m)).bytes
file_beside view_member view_file [] files i m f within same = absurd (omega (arith, within))
file_beside view_member view_file (x ∷ members) [] i m f within same = cc
file_beside view_member view_file (x ∷ members) (y ∷ files) zero m f within same = cc
file_beside view_member view_file (x ∷ members) (y ∷ files) (suc i) m f within same = cc (file_beside view_member view_file members files i m f (omega (arith, within)) (cc))

-- the loop over members goes on
pub class-read : {A B C : Type 0} (view_member : A → StoredMember) (view_file : B → File) (view : C → MemberRead) (defined : List ℕ → Option Place) (members : List A) (files : List B) (i : ℕ) (m : A) (f : B) (so_far next : List C) (x : C) (class : Class)
    → map view_file files ≡ files_of (map view_member members) → i < length members → f ≡ get_or files i f
    → view x ≡ record { name = (view_member (get_or members i m)).name; offset = (view_member (get_or members i m)).offset; class = class }
    → class ≡ class_of_file defined (view_file f) → next ≡ so_far ++ x ∷ [] → map view so_far ≡ map (member_read defined) (map view_member (take i members))
    → map view next ≡ map (member_read defined) (map view_member (take (i + 1) members))
class-read view_member view_file view defined members files i m f so_far next x class same within item seen told pushed was = grind (arith, common_steps, file_beside, map-append, take_more)
