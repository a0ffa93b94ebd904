-- What is found, as a line of text (this project's choice; docs/CHECK.md).
--
-- A row of the list has six columns behind the offset, and a seventh, `arm64ec`, for an import for
-- ARM64EC alone: rows for other machines stay as they are, and a library for ARM64EC may have the
-- same import for ARM64.
use Rattle.std.specs.Prelude.{ℕ, ◌/◌, ◌%◌, ◌^◌, ◌-◌, ◌==◌, Bool, true, false, ◌&&◌, not, List, []}
use Rattle.std.specs.Prelude.{◌∷◌, ◌++◌, Option, Some, None, codes, if◌then◌else◌, nat_eq, nat_lt}
use Rattle.std.specs.Fmt.{decimal, digits, format_spec, padded_integral}
use Rattle.std.specs.List.{flat_map, list_any}
use Rattle.std.specs.Option.{option_map_or}
use Rattle.implib.specs.Import.{Ask, Name, Ordinal}
use Rattle.implib_dll.specs.Exports.{Target, Empty, Address, Forwarder}
use Rattle.implib_dll.specs.Imports.{Ask as Asked, ByName, ByOrdinal}
use Rattle.implib_compare.specs.DllCheck.Forwarding.{split_last}
use Rattle.implib_compare.specs.declared.dll_check.forwarder.Stop.{Stop}
use Rattle.implib_compare.specs.declared.dll_check.forwarder.Stop.TheVariants as stop
use Rattle.implib_compare.specs.declared.dll_check.import.Loss.{Loss}
use Rattle.implib_compare.specs.declared.dll_check.import.Loss.TheVariants.{OtherDll, OtherMachine}
use Rattle.implib_compare.specs.declared.dll_check.import.Loss.TheVariants.{NotFound, DataAsFunction}
use Rattle.implib_read.specs.Classes.{Class, AnImport, AnAlias, Descriptor, NullDescriptor}
use Rattle.implib_read.specs.Classes.{NullThunk, Head, Tail, DelayImport, Other, NotUnderstood}
use Rattle.implib_read.specs.Classes.{MemberRead}
use Rattle.implib_read.specs.ShortImports.{arm64ec}
use Rattle.implib_check_driver.specs.Json.{CutApart, Different, Exported, ExportView, FaultOf}
use Rattle.implib_check_driver.specs.Json.{FaultView, FindingView, InDefinition, InLibrary, Clash}
use Rattle.implib_check_driver.specs.Json.{Listed, Lost, LostIn, MisleadingEntry, Missing, NoFile}
use Rattle.implib_check_driver.specs.Json.{NoExports, Unread}
use Rattle.implib_check_driver.specs.Json.{NoIndex, NotOnePart, Searched, SeveralDlls, SideView}
use Rattle.implib_check_driver.specs.Json.{SiteView, StoppedAt, Unasked, UnmetBy, UnmetView}
use Rattle.implib_check_driver.specs.Json.{UnreadableIndex, address_word, kind_word, line_of}
use Rattle.implib_check_driver.specs.Json.{piece_words}

-- whether a byte of a name is shown as it is: visible ASCII, but for the backslash
abbrev pub is_plain : ℕ → Bool
is_plain byte = nat_lt 32 byte && (nat_lt byte 127 && not (byte == 92))

-- a byte of a name: as it is, or `\x` and two digits
abbrev pub shown_byte : ℕ → List ℕ
shown_byte byte =
    if is_plain byte then byte ∷ []
    else codes "\\x" ++ (digits 16 false (byte / 16) ++ digits 16 false (byte % 16))

-- a name, whatever bytes it has
unfoldable pub shown : List ℕ → List ℕ
shown name = flat_map shown_byte name

-- the number of a machine, in four digits at least
unfoldable pub machine_text : ℕ → List ℕ
machine_text number = codes "0x"
    ++ padded_integral (format_spec 32 0 4 4 (2 ^ 64 - 1)) false [] (digits 16 false number)

-- what a DLL is asked for, in words
abbrev pub asked_words : Ask → List ℕ
asked_words (Name name hint) = shown name
asked_words (Ordinal n) = codes "ordinal " ++ decimal n

-- what a member says, in words
unfoldable pub said : Class → List ℕ
said (AnImport i) =
    codes "asks " ++ (shown i.imports.dll ++ (codes " for " ++ (asked_words i.imports.ask
    ++ (codes ", " ++ (kind_word i.kind ++ (codes ", machine " ++ machine_text i.machine))))))
said (AnAlias a) = codes "is an alias of " ++ shown a.target
said Descriptor = codes "says nothing"
said NullDescriptor = codes "says nothing"
said NullThunk = codes "says nothing"
said Head = codes "says nothing"
said Tail = codes "says nothing"
said DelayImport = codes "says nothing"
said Other = codes "says nothing"
said NotUnderstood = codes "says nothing"

-- Where a member is: the library, the member's name, and the offset of its header; or the
-- definition, and the place of the export in it.
unfoldable pub place : SiteView → MemberRead → List ℕ
place (InLibrary path) m =
    path ++ (codes "(" ++ (shown m.name ++ (codes "@0x" ++ (digits 16 false m.offset ++ codes ")"))))
place (InDefinition path None) m = path
place (InDefinition path (Some p)) m =
    path ++ (codes ":" ++ (decimal p.line ++ (codes ":" ++ decimal p.column)))

-- the file
abbrev pub path_of : SiteView → List ℕ
path_of (InLibrary path) = path
path_of (InDefinition path position) = path

-- what a DLL is asked for, in columns of a row
abbrev pub asked_columns : Ask → List ℕ
asked_columns (Name name hint) = codes "name\t" ++ (shown name ++ (codes "\t" ++ decimal hint))
asked_columns (Ordinal n) = codes "ordinal\t\t" ++ decimal n

-- the seventh column of an import
abbrev pub mark_column : ℕ → List ℕ
mark_column machine = if machine == arm64ec then codes "\tarm64ec" else []

-- the columns of an import behind its symbol
unfoldable pub import_columns : Class → List ℕ
import_columns (AnImport i) =
    kind_word i.kind ++ (codes "\t" ++ (asked_columns i.imports.ask ++ mark_column i.machine))
import_columns (AnAlias a) = codes "alias\tsymbol\t" ++ (shown a.target ++ codes "\t")
import_columns Descriptor = []
import_columns NullDescriptor = []
import_columns NullThunk = []
import_columns Head = []
import_columns Tail = []
import_columns DelayImport = []
import_columns Other = []
import_columns NotUnderstood = []

-- the DLL of an import, which an alias has not
unfoldable pub dll_column : Class → List ℕ
dll_column (AnImport i) = shown i.imports.dll
dll_column (AnAlias a) = []
dll_column Descriptor = []
dll_column NullDescriptor = []
dll_column NullThunk = []
dll_column Head = []
dll_column Tail = []
dll_column DelayImport = []
dll_column Other = []
dll_column NotUnderstood = []

-- a row of the list
unfoldable pub row : SideView → List ℕ
row s =
    codes "0x" ++ (digits 16 false s.member.offset ++ (codes "\t" ++ (dll_column s.member.class
    ++ (codes "\t" ++ (shown s.symbol ++ (codes "\t" ++ import_columns s.member.class))))))

-- where an export leads, in two columns
unfoldable pub target_columns : Target → List ℕ
target_columns Empty = codes "\t"
target_columns (Address place kind) = address_word kind ++ (codes "\t0x" ++ digits 16 false place)
target_columns (Forwarder text) = codes "forwarder\t" ++ shown text

-- the position of a name, and the name
unfoldable pub name_columns : Option (ℕ × List ℕ) → List ℕ
name_columns None = codes "\t"
name_columns (Some found) = decimal found.0 ++ (codes "\t" ++ shown found.1)

-- a row of the exports
unfoldable pub export_row : ExportView → List ℕ
export_row e =
    decimal e.ordinal ++ (codes "\t" ++ (target_columns e.target
    ++ (codes "\t" ++ name_columns e.name)))

-- an export, as a sentence names it
unfoldable pub export_named : ExportView → List ℕ
export_named e = named_by e.name e.ordinal
  where
    named_by : Option (ℕ × List ℕ) → ℕ → List ℕ
    named_by (Some found) n = shown found.1 ++ (codes ", ordinal " ++ decimal n)
    named_by None n = codes "ordinal " ++ decimal n

-- what a DLL says against an import that is lost in it
abbrev pub loss_said : Loss → List ℕ
loss_said OtherDll = codes "is another DLL"
loss_said OtherMachine = codes "is for another machine"
loss_said NotFound = codes "does not export that"
loss_said DataAsFunction = codes "has data there, and a function is imported"

-- whether a name has a full stop
abbrev pub has_full_stop : List ℕ → Bool
has_full_stop name = list_any (nat_eq 46) name

-- what a forwarder has before its last full stop
abbrev pub before_last : List ℕ → List ℕ
before_last text = option_map_or (λ parts. parts.0) (split_last text) []

-- the file of the DLL that a forwarder names: without an ending it has `.dll`
unfoldable pub forwarded : List ℕ → List ℕ
forwarded text = shown (before_last text)
    ++ (if has_full_stop (before_last text) then [] else codes ".dll")

-- what is said against the last forwarder of an import
unfoldable pub stopped : List ℕ → Stop → List ℕ
stopped text stop.NoFullStop = codes "which names no DLL"
stopped text stop.NoFile = codes "and no folder has " ++ forwarded text
stopped text stop.Refused = codes "and " ++ (forwarded text ++ codes " is no DLL that can be read")
stopped text stop.NoExports = codes "and " ++ (forwarded text ++ codes " exports nothing")
stopped text stop.OtherMachine =
    codes "and " ++ (forwarded text ++ codes " is for another machine")
stopped text stop.NotExported = codes "and " ++ (forwarded text ++ codes " does not export that")
stopped text stop.DataAsFunction =
    codes "and " ++ (forwarded text ++ codes " has data there, and a function is imported")
stopped text stop.Endless = codes "in a circle, or through 32 others"

-- the last forwarder of an import, and what is said against it
unfoldable pub forwards : List ℕ → Stop → List ℕ
forwards text why = shown text ++ (codes ", " ++ stopped text why)

-- the words for an index
abbrev pub index_words : ℕ → List ℕ
index_words number =
    if number == 1 then codes "the index" else if number == 2 then codes "the second index"
    else codes "the EC index"

-- why a library does not work, or why that is not decided
unfoldable pub fault_text : FaultView → List ℕ
fault_text NoIndex = codes "no index"
fault_text (UnreadableIndex number) = index_words number ++ codes " cannot be read"
fault_text (MisleadingEntry number entry) =
    index_words number ++ (codes " leads " ++ (shown entry.symbol ++ (codes " to 0x"
    ++ (digits 16 false entry.place
    ++ codes ", not to the first member that declares it"))))
fault_text (CutApart m cut) =
    shown cut.symbol ++ (codes ", at 0x" ++ (digits 16 false m.offset ++ (codes ": lld asks for "
    ++ (shown cut.by_lld ++ (codes ", GNU ld for " ++ shown cut.by_gnu)))))
fault_text (NotOnePart part) = codes "no " ++ (piece_words part ++ codes ", or two or more")
fault_text SeveralDlls = codes "imports from two or more DLLs, whose tables are not told apart"

-- what a program asks a DLL for
abbrev pub asked_by_program : Asked → List ℕ
asked_by_program (ByName name hint) = shown name
asked_by_program (ByOrdinal n) = codes "ordinal " ++ decimal n

-- why a program does not find what it imports from a DLL
unfoldable pub unmet_text : UnmetView → List ℕ
unmet_text NoFile = codes "no folder has it"
unmet_text (NoExports path) = path ++ codes " exports nothing"
unmet_text (Unread path) = path ++ codes " is no DLL that can be read"
unmet_text (LostIn path loss (Some ask)) =
    codes "asks for " ++ (asked_by_program ask ++ (codes "; " ++ (path ++ (codes " "
    ++ loss_said loss))))
unmet_text (LostIn path loss None) = path ++ (codes " " ++ loss_said loss)

-- what is found
unfoldable pub finding_text : FindingView → List ℕ
finding_text (Listed side) = row side
finding_text (Different here there) =
    place here.site here.member ++ (codes ": " ++ (shown here.symbol ++ (codes ": "
    ++ (said here.member.class ++ (codes "; " ++ (place there.site there.member ++ (codes ": "
    ++ said there.member.class)))))))
finding_text (Missing here there) =
    place here.site here.member ++ (codes ": " ++ (shown here.symbol ++ (codes ": "
    ++ (said here.member.class ++ (codes "; not so in " ++ path_of there)))))
finding_text (Clash symbol first later) =
    shown symbol ++ (codes ": " ++ (place first.site first.member ++ (codes ": "
    ++ (said first.member.class ++ (codes "; " ++ (place later.site later.member ++ (codes ": "
    ++ said later.member.class)))))))
finding_text (FaultOf path fault) = path ++ (codes ": " ++ fault_text fault)
finding_text (Lost side dll loss) =
    place side.site side.member ++ (codes ": " ++ (shown side.symbol ++ (codes ": "
    ++ (said side.member.class ++ (codes "; " ++ (dll ++ (codes " " ++ loss_said loss)))))))
finding_text (StoppedAt side dll text why) =
    place side.site side.member ++ (codes ": " ++ (shown side.symbol ++ (codes ": "
    ++ (said side.member.class ++ (codes "; " ++ (dll ++ (codes " forwards that to "
    ++ forwards text why)))))))
finding_text (Searched site count) =
    path_of site ++ (codes ": a loader searches for " ++ (decimal count
    ++ codes ", which do not stand at their hints"))
finding_text (Unasked path export) = path ++ (codes ": no import asks for " ++ export_named export)
finding_text (Exported path export) = export_row export
finding_text (UnmetBy program dll unmet) =
    program ++ (codes ": imports from " ++ (shown dll ++ (codes ": " ++ unmet_text unmet)))

-- The line of what is found, as JSON or as text.
unfoldable pub line_in : Bool → FindingView → List ℕ
line_in true f = line_of f
line_in false f = finding_text f ++ codes "\n"
