-- The lengths of encodings.
use Rattle.std.proofs.Common.{◌≡◌, ℕ, ◌+◌, ◌<◌, ◌^◌, List, Option, None, Some, IfSome, length, flat_map, refl, ◌∙◌, arith, length-append}
use Rattle.std.specs.Option.{SomeIff}
use Rattle.implib.specs.Members.MemberSpec.{MemberView}
use Rattle.implib_c_calls.specs.Encoding.{encoded_list, encoded_member, encoded_members, encoded_number, encoded_text}

pub number_size : (n : ℕ) → length (encoded_number n) ≡ 8
unfolding encoded_number
number_size n = refl

pub text_size : (text : List ℕ) → length (encoded_text text) ≡ 8 + length text
text_size text = omega (arith, length-append (encoded_number (length text)) text, number_size (length text))

pub list_size : {X : Type 0} (f : X → List ℕ) (items : List X) → length (encoded_list f items) ≡ 8 + length (flat_map f items)
list_size f items = omega (arith, length-append (encoded_number (length items)) (flat_map f items), number_size (length items))

pub member_size : (m : MemberView) → length (encoded_member m) ≡ length (encoded_text m.name) + (length (encoded_list encoded_text m.symbols) + length (encoded_text m.bytes))
unfolding encoded_member
member_size m = grind (arith, length-append)

pub members_size : (members : List MemberView) → length (encoded_members members) ≡ 8 + length (flat_map encoded_member members)
unfolding encoded_members
members_size members = list_size encoded_member members

-- a sum that is given where it fits, under another name
pub some_as : (found : Option ℕ) (sum other : ℕ) → SomeIff found (sum < 2 ^ 64) sum → sum ≡ other → IfSome found (λ n. n ≡ other)
some_as None sum other found is = tt
some_as (Some n) sum other found is = found.1 ∙ is
