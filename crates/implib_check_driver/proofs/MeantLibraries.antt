-- The library of a definition: it is one, and it is one alone.
use Rattle.std.proofs.Common.{◌≡◌, ◌∙◌, ℕ, List, Option, None, Some, ap, map, refl, sym}
use Rattle.std.specs.Option.{option_map}
use Rattle.implib.specs.Members.MemberSpec.{MemberView}
use Rattle.implib_arm64ec.specs.Library.{members_of}
use Rattle.implib_compare.specs.Meant.{Arm64ecMembersFound, IsArm64ecFile}
use Rattle.implib_read.specs.Archives.{Archive, archive_in}
use Rattle.implib_read.specs.Classes.{library_in, members_read}
use Rattle.implib_read.specs.OwnLibraries.{member_bytes_in}
use Rattle.implib_rules.specs.Options.{LibraryOptionsView}

-- so is one for ARM64EC
pub arm64ec_file_is_read : Arm64ecMembersFound → (definition : List ℕ) (native : Option (List ℕ)) (options : LibraryOptionsView) (file : List ℕ)
    → IsArm64ecFile definition native options file → library_in file ≡ None → ⊥
unfolding library_in
arm64ec_file_is_read found definition native options file is none = by (archive_in file) refl
  where
    there : member_bytes_in file ≡ Some (map (λ (m : MemberView). m.bytes) (members_of is.library))
    there = ap member_bytes_in is.is ∙ found is.library is.accepted

    by : (o : Option Archive) → archive_in file ≡ o → ⊥
    by None at =
        let e : None ≡ Some (map (λ (m : MemberView). m.bytes) (members_of is.library)) =
        sym (ap (option_map (λ a. map (λ m. m.bytes) a.members)) at) ∙ there in
        cc
    by (Some a) at =
        let e : Some (members_read a.members) ≡ None = sym (ap (option_map (λ archive. members_read archive.members)) at) ∙ none in
        cc
