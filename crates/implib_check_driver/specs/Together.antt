-- What several libraries do to each other in one link (this project's choice; docs/CHECK.md,
-- "Together"). A linker takes a symbol from the first library that declares it.
use Rattle.std.specs.Prelude.{◌≡◌, ℕ, ◌+◌, ◌==◌, ◌||◌, Bool, false, List, [], ◌∷◌, ◌++◌}
use Rattle.std.specs.Prelude.{Option, None, Some}
use Rattle.std.specs.Prelude.{bytes_eq, if◌then◌else◌, map, slice_get, unwrap_or}
use Rattle.std.specs.Char.{to_ascii_lowercase}
use Rattle.std.specs.List.{list_any}
use Rattle.std.specs.Option.{is_some, option_and_then, option_or}
use Rattle.implib_read.specs.Classes.{Class, AnImport, AnAlias, Descriptor, NullDescriptor}
use Rattle.implib_read.specs.Classes.{NullThunk, Head, Tail, DelayImport, Other, NotUnderstood}
use Rattle.implib_read.specs.Classes.{MemberRead, library_in}
use Rattle.implib_check_driver.specs.Answer.{AnswerView, no_library}
use Rattle.implib_check_driver.specs.Listing.{doubts}
use Rattle.implib_check_driver.specs.Status.{together_status}
use Rattle.implib_check_driver.specs.declared.together.Claim.{Claim}
use Rattle.implib_compare.specs.Comparison.{has_unread}
use Rattle.implib_compare.specs.Facts.{asked_by, asked_key, text_key}

-- the symbols that a member declares as an import or an alias
abbrev pub symbols_of : Class → List (List ℕ)
symbols_of (AnImport i) = i.imports.declared
symbols_of (AnAlias a) = a.weak ∷ []
symbols_of Descriptor = []
symbols_of NullDescriptor = []
symbols_of NullThunk = []
symbols_of Head = []
symbols_of Tail = []
symbols_of DelayImport = []
symbols_of Other = []
symbols_of NotUnderstood = []

-- What a member makes of its symbols, as bytes: of an import what it asks for, and its DLL, whose
-- capitals do not count; of an alias the other symbol.
abbrev pub made_of : Class → List ℕ
made_of (AnImport i) =
    1 ∷ (asked_key (asked_by i.imports.ask) ++ text_key (map to_ascii_lowercase i.imports.dll))
made_of (AnAlias a) = 2 ∷ text_key a.target
made_of Descriptor = []
made_of NullDescriptor = []
made_of NullThunk = []
made_of Head = []
made_of Tail = []
made_of DelayImport = []
made_of Other = []
made_of NotUnderstood = []

-- a claim: a symbol, what is made of it, and the numbers of the library and of its member, from 0
pub record ClaimView : Type 0 where
  pub symbol : List ℕ
  pub made : List ℕ
  pub library : ℕ
  pub member : ℕ

-- the view of a claim of the program
abbrev pub claim_view : Claim → ClaimView
claim_view c =
    record { symbol = c.symbol.items; made = c.made.items; library = c.library; member = c.member }

-- the claim of a symbol
abbrev pub claim_for : ℕ → ℕ → List ℕ → List ℕ → ClaimView
claim_for library member made symbol =
    record { symbol = symbol; made = made; library = library; member = member }

-- the claims of a member
abbrev pub claims_of : ℕ → ℕ → Class → List ClaimView
claims_of library member class = map (claim_for library member (made_of class)) (symbols_of class)

-- the claims of the members of a library, the first of which has a number, in order
abbrev pub claims_from : ℕ → ℕ → List MemberRead → List ClaimView
claims_from library member [] = []
claims_from library member (m ∷ members) =
    claims_of library member m.class ++ claims_from library (member + 1) members

-- the number of the first claim of a symbol, where the claims count from a number
abbrev pub first_of : ℕ → List ClaimView → List ℕ → Option ℕ
first_of number [] symbol = None
first_of number (c ∷ claims) symbol =
    option_or (if bytes_eq c.symbol symbol then Some number else None)
    (first_of (number + 1) claims symbol)

-- a number, if the claim that has it is another library's than this one, and makes another thing of
-- the symbol
abbrev pub apart : ClaimView → ℕ → ClaimView → Option ℕ
apart c number first =
    if first.library == c.library || bytes_eq first.made c.made then None else Some number

-- the number of the first claim of a claim's symbol, if they clash
abbrev pub clash_of : List ClaimView → ClaimView → Option ℕ
clash_of claims c = option_and_then
    (λ number. option_and_then (apart c number) (slice_get claims number))
    (first_of 0 claims c.symbol)

-- With which first claim each claim clashes, if it does.
abbrev pub clashes : List ClaimView → List (Option ℕ)
clashes claims = map (clash_of claims) claims

-- the claims of libraries, the first of which has a number, in order
abbrev pub claims_of_all : ℕ → List (List MemberRead) → List ClaimView
claims_of_all library [] = []
claims_of_all library (members ∷ libraries) =
    claims_from library 0 members ++ claims_of_all (library + 1) libraries

-- whether a claim of libraries clashes
abbrev pub is_clash : List (List MemberRead) → Bool
is_clash libraries = list_any is_some (clashes (claims_of_all 0 libraries))

-- the members of the libraries that files are
abbrev pub members_of_all : List (List ℕ) → List (List MemberRead)
members_of_all files = map (λ bytes. unwrap_or (library_in bytes) []) files

-- what is said of members of libraries that leave the answer open
abbrev pub doubts_of_all : List (List ℕ) → List (List MemberRead) → List ℕ
doubts_of_all [] libraries = []
doubts_of_all (path ∷ paths) [] = []
doubts_of_all (path ∷ paths) (members ∷ libraries) =
    doubts false path members ++ doubts_of_all paths libraries

-- The answer to libraries in one link: 4 where a member may import what is not read, and 1 where
-- two clash.
pub record IsJoined (paths : List (List ℕ)) (libraries : List (List MemberRead))
    (a : AnswerView) : Type 0 where
  -- the lines of the clashes
  pub clashes : List ℕ
  pub is : a ≡ record {
    status = together_status (list_any has_unread libraries) (is_clash libraries);
    out = clashes;
    err = doubts_of_all paths libraries;
  }

-- the answer to the first of these files that is no library, if one is none
abbrev pub first_none : List (List ℕ) → List (List ℕ) → Option AnswerView
first_none [] files = None
first_none (path ∷ paths) [] = None
first_none (path ∷ paths) (bytes ∷ files) =
    if is_some (library_in bytes) then first_none paths files else Some (no_library path bytes)

-- The answer to files in one link: that of the first that is no library, and else that of the
-- libraries that they are.
abbrev pub IsJoinedAnswer : List (List ℕ) → List (List ℕ) → Option AnswerView → AnswerView → Type 0
IsJoinedAnswer paths files (Some none) a = a ≡ none
IsJoinedAnswer paths files None a = IsJoined paths (members_of_all files) a
