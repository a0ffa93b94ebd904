-- Which lists of members have no archive, and why: what the formats cannot carry (the PE/COFF
-- specification, "Archive (Library) File Format"; this project's refusals).
use Rattle.std.specs.Prelude.{ℕ, ◌^◌, Bool, List, [], ◌∷◌, Option, None, Some, ◌&&◌, false, true}
use Rattle.std.specs.Prelude.{if◌then◌else◌, is_some, length, nat_eq, nat_le, nat_lt}
use Rattle.std.specs.List.{list_all, list_any}
use Rattle.implib.specs.Members.MemberSpec.{MemberView}
use Rattle.implib_archive.specs.Archive.{first_place, places_from}
use Rattle.implib_archive.specs.declared.kind.Kind.{Kind}
use Rattle.implib_archive.specs.declared.kind.Kind.TheVariants.{Coff, Gnu}
use Rattle.implib_archive.specs.declared.error.Fault.{Fault}
use Rattle.implib_archive.specs.declared.error.Fault.TheVariants.{ArchiveTooLong, EmptyName}
use Rattle.implib_archive.specs.declared.error.Fault.TheVariants.{EmptySymbol, LineEndInName}
use Rattle.implib_archive.specs.declared.error.Fault.TheVariants.{MemberTooLong, NulInName}
use Rattle.implib_archive.specs.declared.error.Fault.TheVariants.{NulInSymbol, TooManyMembers}

-- whether a byte is in a text
abbrev pub has_byte : ℕ → List ℕ → Bool
has_byte byte text = list_any (λ c. nat_eq c byte) text

-- whether a line end ends a long name
abbrev pub ends_at_line_end : Kind → Bool
ends_at_line_end Coff = false
ends_at_line_end Gnu = true

-- what is wrong with a name
unfoldable pub name_refusal : Kind → List ℕ → Option Fault
name_refusal kind name =
    if nat_eq (length name) 0 then Some EmptyName
    else (if has_byte 0 name then Some NulInName
    else (if ends_at_line_end kind && has_byte 10 name then Some LineEndInName else None))

-- what is wrong with a symbol
unfoldable pub symbol_refusal : List ℕ → Option Fault
symbol_refusal symbol =
    if nat_eq (length symbol) 0 then Some EmptySymbol
    else (if has_byte 0 symbol then Some NulInSymbol else None)

-- what is wrong with the first symbol that is refused
unfoldable pub symbols_refusal : List (List ℕ) → Option Fault
symbols_refusal [] = None
symbols_refusal (s ∷ symbols) =
    if is_some (symbol_refusal s) then symbol_refusal s else symbols_refusal symbols

-- what is wrong with a member: its name, its first symbol that is refused, its length
unfoldable pub member_refusal : Kind → MemberView → Option Fault
member_refusal kind m =
    if is_some (name_refusal kind m.name) then name_refusal kind m.name
    else (if is_some (symbols_refusal m.symbols) then symbols_refusal m.symbols
    else (if nat_lt (length m.bytes) (2 ^ 32) then None else Some MemberTooLong))

-- what is wrong with the first member that is refused
unfoldable pub members_refusal : Kind → List MemberView → Option Fault
members_refusal kind [] = None
members_refusal kind (m ∷ members) =
    if is_some (member_refusal kind m) then member_refusal kind m else members_refusal kind members

-- whether there are more members than the second linker member numbers
unfoldable pub has_too_many : Kind → List MemberView → Bool
has_too_many Coff members = nat_le 65535 (length members)
has_too_many Gnu members = false

-- whether every header is at an offset of 4 bytes
unfoldable pub has_short_places : ℕ → List MemberView → Bool
has_short_places place members =
    nat_lt place (2 ^ 32) && list_all (λ p. nat_lt p (2 ^ 32)) (places_from place members)

-- whether the members are too long together, the first of which begins at this offset
unfoldable pub places_refusal : ℕ → List MemberView → Option Fault
places_refusal place members = if has_short_places place members then None else Some ArchiveTooLong

-- The one cause for which there is no archive of the members, if any: the first member that is
-- refused, then their number, then the length of the archive.
unfoldable pub refusal_of : Kind → List MemberView → Option Fault
refusal_of kind members =
    if is_some (members_refusal kind members) then members_refusal kind members
    else (if has_too_many kind members then Some TooManyMembers
    else places_refusal (first_place kind members) members)
