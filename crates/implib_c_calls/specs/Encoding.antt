-- How members are encoded for C, and how an encoding is read (this project's choice).
use Rattle.std.specs.Prelude.{◌≡◌, ℕ, zero, suc, ◌<◌, ◌^◌, nat_le, List, [], ◌∷◌, ◌++◌, length}
use Rattle.std.specs.Prelude.{take}
use Rattle.std.specs.Prelude.{drop, Option, None, Some, if◌then◌else◌}
use Rattle.std.specs.Int.{w64, from_le_bytes, to_le_bytes}
use Rattle.std.specs.List.{flat_map}
use Rattle.std.specs.Option.{option_and_then, option_map}
use Rattle.implib.specs.Members.MemberSpec.{MemberView}

-- What is written.

-- a number in 8 bytes, the low one first
unfoldable pub encoded_number : ℕ → List ℕ
encoded_number n = to_le_bytes w64 n

-- a text: its length, and its bytes
abbrev pub encoded_text : List ℕ → List ℕ
encoded_text text = encoded_number (length text) ++ text

-- a list: its length, and its items
abbrev pub encoded_list : {X : Type 0} → (X → List ℕ) → List X → List ℕ
encoded_list encoded items = encoded_number (length items) ++ flat_map encoded items

-- a member: its name, the symbols that it is listed for, and its file
unfoldable pub encoded_member : MemberView → List ℕ
encoded_member m =
    encoded_text m.name ++ (encoded_list encoded_text m.symbols ++ encoded_text m.bytes)

-- The members, in order. For example, no members are 8 zero bytes, and a member `a` for the symbol
-- `b` with the file `c` has 43 bytes (WorkedEncoding).
unfoldable pub encoded_members : List MemberView → List ℕ
encoded_members members = encoded_list encoded_member members

-- How it is read. Each reader gives what it finds at the front, and the bytes after it.

-- something, and then what is read after it
unfoldable pub then_in : {X Y : Type 0} → (List ℕ → Option (X × List ℕ)) →
    (X → List ℕ → Option (Y × List ℕ)) → List ℕ → Option (Y × List ℕ)
then_in first next bytes = option_and_then (λ found. next found.0 found.1) (first bytes)

-- nothing more
abbrev pub found : {X : Type 0} → X → List ℕ → Option (X × List ℕ)
found x bytes = Some (x, bytes)

-- An encoding of fewer than 2^64 bytes reads back, whatever follows it, where its numbers have 64
-- bits.
abbrev pub ReadsBack : {X : Type 0} → (X → List ℕ) → (List ℕ → Option (X × List ℕ)) →
    (X → Type 0) → X → List ℕ → Type 0
ReadsBack encoded read Fits x rest =
    Fits x → length (encoded x) < 2 ^ 64 → read (encoded x ++ rest) ≡ Some (x, rest)

-- the number in the first 8 bytes
unfoldable pub number_in : List ℕ → Option (ℕ × List ℕ)
number_in bytes =
    if nat_le 8 (length bytes) then Some (from_le_bytes w64 (take 8 bytes), drop 8 bytes) else None

-- `count` bytes, if there are as many
unfoldable pub bytes_in : ℕ → List ℕ → Option (List ℕ × List ℕ)
bytes_in count bytes =
    if nat_le count (length bytes) then Some (take count bytes, drop count bytes) else None

-- a text, after its length
unfoldable pub text_in : List ℕ → Option (List ℕ × List ℕ)
text_in = then_in number_in bytes_in

-- `count` items
unfoldable pub items_in : {X : Type 0} → (List ℕ → Option (X × List ℕ)) → ℕ → List ℕ →
    Option (List X × List ℕ)
items_in read zero bytes = Some ([], bytes)
items_in read (suc count) bytes = option_and_then
    (λ first. option_map (λ others. (first.0 ∷ others.0, others.1)) (items_in read count first.1))
    (read bytes)

-- a list, after its length
unfoldable pub list_in : {X : Type 0} → (List ℕ → Option (X × List ℕ)) → List ℕ →
    Option (List X × List ℕ)
list_in read = then_in number_in (items_in read)

-- a member: its name, its symbols, its file
unfoldable pub member_in : List ℕ → Option (MemberView × List ℕ)
member_in =
    then_in text_in
    (λ name. then_in (list_in text_in)
    (λ symbols. then_in text_in
    (λ file. found (record { name = name; bytes = file; symbols = symbols }))))

-- the members at the front of a buffer, and what follows them
unfoldable pub members_in : List ℕ → Option (List MemberView × List ℕ)
members_in = list_in member_in

-- an encoding of members reads back so
abbrev pub ReadsMembersBack : List MemberView → List ℕ → Type 0
ReadsMembersBack = ReadsBack encoded_members members_in (λ members. Unit {0})
