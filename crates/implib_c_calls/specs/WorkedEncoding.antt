-- Encodings worked by hand, and buffers that are read.
use Rattle.std.specs.Prelude.{◌≡◌, ℕ, List, [], ◌∷◌, ◌++◌, None, codes}
use Rattle.implib.specs.Members.MemberSpec.{MemberView}
use Rattle.implib.specs.Worked.Digits.{hex}
use Rattle.implib_c_calls.specs.Encoding.{encoded_members, members_in}

-- a member of one symbol, and one of two symbols without a name and a file
unfoldable pub two_members : List MemberView
two_members =
    record { name = codes "a"; bytes = codes "c"; symbols = codes "b" ∷ [] }
    ∷ record { name = []; bytes = []; symbols = codes "de" ∷ [] ∷ [] }
    ∷ []

-- their encoding
unfoldable pub two_members_bytes : List ℕ
two_members_bytes =
    hex "02 00 00 00 00 00 00 00"
    ++ (hex "01 00 00 00 00 00 00 00 61"
    ++ (hex "01 00 00 00 00 00 00 00"
    ++ (hex "01 00 00 00 00 00 00 00 62"
    ++ (hex "01 00 00 00 00 00 00 00 63"
    ++ (hex "00 00 00 00 00 00 00 00"
    ++ (hex "02 00 00 00 00 00 00 00"
    ++ (hex "02 00 00 00 00 00 00 00 64 65"
    ++ (hex "00 00 00 00 00 00 00 00"
    ++ hex "00 00 00 00 00 00 00 00"))))))))

-- what the encodings are, and what is read of bytes that are none
pub record WorkedEncodings : Type 0 where
  pub two : encoded_members two_members ≡ two_members_bytes
  pub seven_bytes : members_in (hex "00 00 00 00 00 00 00") ≡ None
  pub member_missing : members_in (hex "01 00 00 00 00 00 00 00") ≡ None
  pub name_too_short : members_in (hex "01 00 00 00 00 00 00 00 02 00 00 00 00 00 00 00 61") ≡ None
