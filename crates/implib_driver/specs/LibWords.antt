-- The words of a command line: as Microsoft's LIB has them (its documentation, and what llvm-lib 19
-- does), or as dlltool.
use Rattle.std.specs.Prelude.{◌≡◌, ℕ, Bool, true, false, not, ◌||◌, List, [], ◌∷◌, ◌++◌, MatchBool}
use Rattle.std.specs.Prelude.{Option, None, Some, Ok, Err, codes, if◌then◌else◌, is_some, nat_eq}
use Rattle.std.specs.List.{ends_with}
use Rattle.std.specs.Str.{bytes_eq}
use Rattle.implib_driver.specs.Request.{holds_text}
use Rattle.implib_options.specs.declared.table.Meaning.TheVariants.{Definition, ExportAs, Flavor}
use Rattle.implib_options.specs.declared.table.Meaning.TheVariants.{Help, Identify, KeepsDecorated}
use Rattle.implib_options.specs.declared.table.Meaning.TheVariants.{ListsMembers, Output}
use Rattle.implib_options.specs.declared.table.Words.TheVariants.{Dlltool, Lib}
use Rattle.implib_options.specs.Given.{GivenView, all, has, last}
use Rattle.implib_options.specs.LibWords.{small}
use Rattle.implib_options.specs.Saying.{FaultView, IsFile, IsFurther, ListsDefinition}
use Rattle.implib_options.specs.Saying.{WantsDefinition, WantsLibrary, WantsOutput}
use Rattle.implib_options.specs.Words.{IsRead, Reading}
use Rattle.implib_rules.specs.Names.{last_part}

-- what options for a library lack, or have too much, by their files: a definition and a file for
-- the library, and no other
abbrev pub lack_for_making : List GivenView → List (List ℕ) → Option FaultView
lack_for_making options (file ∷ files) = Some (IsFile file)
lack_for_making options [] =
    if not (is_some (last Definition options)) then Some WantsDefinition
    else if not (is_some (last Output options)) then Some WantsOutput
    else None

-- the same of options for a list of members: one library, and no definition
abbrev pub lack_for_listing : List GivenView → List (List ℕ) → Option FaultView
lack_for_listing options [] = Some WantsLibrary
lack_for_listing options (file ∷ further ∷ files) = Some (IsFurther further)
lack_for_listing options (file ∷ []) =
    if is_some (last Definition options) then Some ListsDefinition else None

-- what options lack, or have too much, unless they ask for the help
abbrev pub lack_of : List GivenView → Option FaultView
lack_of options =
    if has Help options then None
    else if has ListsMembers options
    then lack_for_listing options (all Identify options)
    else lack_for_making options (all Identify options)

-- whether a name in small letters is LIB's: `lib`, or what ends in `-lib`, with `.exe` or without
abbrev pub is_lib_called : List ℕ → Bool
is_lib_called name =
    if holds_text name (codes "dlltool") then false
    else if bytes_eq name (codes "lib") then true
    else if bytes_eq name (codes "lib.exe") then true
    else ends_with nat_eq name (codes "-lib") || ends_with nat_eq name (codes "-lib.exe")

-- whether the program is called as LIB is, without its directory
abbrev pub is_lib_name : List ℕ → Bool
is_lib_name program = is_lib_called (small (last_part program))

-- What each library that is asked for in LIB's words is made with: Microsoft's flavour; third
-- texts, as by LIB for EXPORTAS and by llvm-lib for `==`; and on I386 decorated words as they are,
-- as `_f@8`.
abbrev pub lib_ways : List GivenView
lib_ways = (Flavor, codes "msvc") ∷ (ExportAs, []) ∷ (KeepsDecorated, []) ∷ []

-- what words of LIB's are read as, with what they lack
pub data IsReadAsLib (words : List (List ℕ)) : Reading → Type 0 where
  whole : (given : List GivenView) → IsRead Lib words (Ok given) → lack_of given ≡ None
      → IsReadAsLib words (Ok (given ++ lib_ways))
  wrong : (fault : FaultView) → IsRead Lib words (Err fault) → IsReadAsLib words (Err fault)
  lacking : (given : List GivenView) (fault : FaultView) → IsRead Lib words (Ok given)
      → lack_of given ≡ Some fault → IsReadAsLib words (Err fault)

-- what words are read as, in LIB's words or in those of dlltool
abbrev pub IsReadBy : Bool → List (List ℕ) → Reading → Type 0
IsReadBy true words reading = IsReadAsLib words reading
IsReadBy false words reading = IsRead Dlltool words reading

-- what the words of a command line are read as, where the program is called so: after a first word
-- `--lib` as LIB's
abbrev pub AreRead : List ℕ → List (List ℕ) → Reading → Type 0
AreRead program [] reading = IsReadBy (is_lib_name program) [] reading
AreRead program (word ∷ words) reading =
    MatchBool (bytes_eq word (codes "--lib")) (IsReadBy true words reading)
    (IsReadBy (is_lib_name program) (word ∷ words) reading)
