-- What the name field of a member's header says, in archives of any maker (the common archive
-- format; PE/COFF specification, "Archive Member Headers"). A name ends at its slash or at the
-- spaces; one that begins with a slash is a number in the long names, or special.
use Rattle.std.specs.Prelude.{ℕ, suc, ◌-◌, Bool, false, ◌&&◌, not, List, [], ◌∷◌, Option, None}
use Rattle.std.specs.Prelude.{Some, bytes_eq, codes, drop, if◌then◌else◌, length, nat_eq, take}
use Rattle.std.specs.Prelude.{take_while}
use Rattle.implib_archive.specs.Reader.{number_in, trimmed}

-- a name: of a linker member, of the long names, the offset of a long name, a text, or special
pub data MemberName : Type 0 where
  LinkerMember : MemberName
  LongNamesMember : MemberName
  NameAt : ℕ → MemberName
  Named : List ℕ → MemberName
  Special : List ℕ → MemberName

-- whether the first byte of a text is this one
abbrev pub begins_with_byte : ℕ → List ℕ → Bool
begins_with_byte byte [] = false
begins_with_byte byte (c ∷ text) = nat_eq c byte

-- a text without the slash at its end, if it has one
unfoldable pub without_slash : List ℕ → List ℕ
without_slash text =
    if begins_with_byte 47 (drop (length text - 1) text) then take (length text - 1) text else text

-- a name that begins with a slash, and the number after that
abbrev pub slash_name : List ℕ → Option ℕ → MemberName
slash_name text (Some offset) = NameAt offset
slash_name text None = Special text

-- What a name field says. For example, `a.o/` and `a.o` name a.o, `/12` the long name at 12, and
-- `/SYM64/` is special.
unfoldable pub member_name : List ℕ → MemberName
member_name field =
    let text = trimmed field in
    if bytes_eq text (codes "/") then LinkerMember
    else if bytes_eq text (codes "//") then LongNamesMember
    else if begins_with_byte 47 text then slash_name text (number_in (drop 1 field))
    else Named (without_slash text)

-- whether a line goes on with a byte: it ends at a NUL, and at a line end
abbrev pub goes_on : ℕ → Bool
goes_on c = not (nat_eq c 0) && not (nat_eq c 10)

-- the places at which lines end, in a text whose first byte is at a place
unfoldable pub ends_from : ℕ → List ℕ → List ℕ
ends_from place [] = []
ends_from place (c ∷ text) =
    if goes_on c then ends_from (suc place) text else place ∷ ends_from (suc place) text

-- The name at the front of the long names from its offset on: up to a NUL, as Microsoft's LIB ends
-- it, or up to a line end, as GNU's archivers do, then without the slash before that.
unfoldable pub long_name_of : List ℕ → List ℕ
long_name_of text =
    let line = take_while goes_on text in
    if begins_with_byte 10 (drop (length line) text) then without_slash line else line
