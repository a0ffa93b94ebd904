-- What is found, as a JSON object (this project's choice; docs/CHECK.md, "JSON").
use Rattle.std.specs.Prelude.{ℕ, ◌+◌, zero, suc, ◌==◌, List, [], ◌++◌, Option, Some, None, codes}
use Rattle.std.specs.Prelude.{drop, if◌then◌else◌, length, take}
use Rattle.std.specs.Option.{option_map}
use Rattle.std.specs.Str.Lossy.{replacement_bytes, utf8_valid_len}
use Rattle.implib.specs.Import.{Ask, Name, Ordinal}
use Rattle.implib_dll.specs.Exports.{Target, Empty, Address, Forwarder}
use Rattle.implib_dll.specs.Imports.{Ask as Asked, ByName, ByOrdinal}
use Rattle.implib_dll.specs.Views.{ask_view, target_view}
use Rattle.implib_dll.specs.declared.section.AddressKind.{AddressKind}
use Rattle.implib_dll.specs.declared.section.AddressKind.TheVariants as address
use Rattle.implib_compare.specs.declared.dll_check.import.Loss.{Loss}
use Rattle.implib_compare.specs.declared.dll_check.import.Loss.TheVariants.{OtherDll, OtherMachine}
use Rattle.implib_compare.specs.declared.dll_check.import.Loss.TheVariants.{NotFound, DataAsFunction}
use Rattle.implib.specs.declared.def.position.Position.{Position}
use Rattle.implib_read.specs.Classes.{Class, AnImport, AnAlias, Descriptor, NullDescriptor}
use Rattle.implib_read.specs.Classes.{NullThunk, Head, Tail, DelayImport, Other, NotUnderstood}
use Rattle.implib_read.specs.Classes.{MemberRead}
use Rattle.implib_read.specs.Archives.{StoredMember}
use Rattle.implib_read.specs.ClassViews.{member_read_view}
use Rattle.implib_read.specs.Cutting.{Cut}
use Rattle.implib_read.specs.CuttingViews.{cut_apart_view}
use Rattle.implib_read.specs.Indexes.{IndexEntry}
use Rattle.implib_read.specs.IndexViews.{index_entry_view}
use Rattle.implib_read.specs.declared.import.ImportKind.{ImportKind}
use Rattle.implib_read.specs.declared.import.ImportKind.TheVariants.{Code, CodeOrConst, Const}
use Rattle.implib_read.specs.declared.import.ImportKind.TheVariants.{Data as OfData, Delayed}
use Rattle.serde_json.specs.Data.{Data, Members, no_members, number, object, put, string, unsigned}
use Rattle.serde_json.specs.Written.{compact_text}
use Rattle.implib_compare.specs.declared.dll_check.forwarder.Stop.{Stop}
use Rattle.implib_compare.specs.declared.dll_check.forwarder.Stop.TheVariants as stop
use Rattle.implib_check_driver.specs.declared.finding.Export.{Export}
use Rattle.implib_check_driver.specs.declared.finding.Fault.{Fault}
use Rattle.implib_check_driver.specs.declared.finding.Fault.TheVariants as fault
use Rattle.implib_check_driver.specs.declared.finding.Finding.{Finding}
use Rattle.implib_check_driver.specs.declared.finding.Finding.TheVariants as finding
use Rattle.implib_check_driver.specs.declared.finding.Side.{Side}
use Rattle.implib_check_driver.specs.declared.finding.Unmet.{Unmet}
use Rattle.implib_check_driver.specs.declared.finding.Unmet.TheVariants as unmet
use Rattle.implib_check_driver.specs.declared.text.Site.{Site}
use Rattle.implib_check_driver.specs.declared.text.Site.TheVariants as site
use Rattle.implib_compare.specs.declared.working.Piece.{Piece}
use Rattle.implib_compare.specs.declared.working.Piece.TheVariants as piece

-- What is found.

-- where an import or an alias is: in the library of a file; or in the definition of a file, and
-- there, if it is written
pub data SiteView : Type 0 where
  InLibrary : List ℕ → SiteView
  InDefinition : List ℕ → Option Position → SiteView

-- an import or an alias, its symbol, and where it is
pub record SideView : Type 0 where
  pub site : SiteView
  pub symbol : List ℕ
  pub member : MemberRead

-- why a library does not work, or why that is not decided
pub data FaultView : Type 0 where
  NoIndex : FaultView
  UnreadableIndex : ℕ → FaultView
  MisleadingEntry : ℕ → IndexEntry → FaultView
  CutApart : StoredMember → Cut → FaultView
  NotOnePart : Piece → FaultView
  SeveralDlls : FaultView

-- an export of a DLL: its ordinal, where it leads, and its name with its position among the names,
-- if it has one
pub record ExportView : Type 0 where
  pub ordinal : ℕ
  pub target : Target
  pub name : Option (ℕ × List ℕ)

-- why a program does not find what it imports from a DLL: no folder has it; its file exports
-- nothing, or is no DLL that can be read; or in the DLL of a file this is lost, of one ask or of all
pub data UnmetView : Type 0 where
  NoFile : UnmetView
  NoExports : List ℕ → UnmetView
  Unread : List ℕ → UnmetView
  LostIn : List ℕ → Loss → Option Asked → UnmetView

-- what is found
pub data FindingView : Type 0 where
  Listed : SideView → FindingView
  Different : SideView → SideView → FindingView
  Missing : SideView → SiteView → FindingView
  Clash : List ℕ → SideView → SideView → FindingView
  FaultOf : List ℕ → FaultView → FindingView
  Lost : SideView → List ℕ → Loss → FindingView
  StoppedAt : SideView → List ℕ → List ℕ → Stop → FindingView
  Searched : SiteView → ℕ → FindingView
  Unasked : List ℕ → ExportView → FindingView
  Exported : List ℕ → ExportView → FindingView
  UnmetBy : List ℕ → List ℕ → UnmetView → FindingView

-- the views of what the program has
abbrev pub site_view : Site → SiteView
site_view (site.Library path) = InLibrary path.now
site_view (site.Definition path position) = InDefinition path.now position

abbrev pub side_view : Side → SideView
side_view s = record {
  site = site_view s.site;
  symbol = s.symbol.now;
  member = member_read_view s.member.now;
}

abbrev pub fault_view : Fault → FaultView
fault_view fault.NoIndex = NoIndex
fault_view (fault.UnreadableIndex index) = UnreadableIndex index
fault_view (fault.MisleadingEntry index entry) = MisleadingEntry index (index_entry_view entry.now)
fault_view (fault.CutApart apart) =
    CutApart (cut_apart_view apart.now).0 (cut_apart_view apart.now).1
fault_view (fault.NotOnePart part) = NotOnePart part
fault_view fault.SeveralDlls = SeveralDlls

abbrev pub export_view : Export → ExportView
export_view e = record {
  ordinal = e.ordinal;
  target = target_view e.target;
  name = option_map (λ found. (found.0, found.1.now)) e.name;
}

abbrev pub unmet_view : Unmet → UnmetView
unmet_view unmet.NoFile = NoFile
unmet_view (unmet.NoExports path) = NoExports path.now
unmet_view (unmet.Unread path) = Unread path.now
unmet_view (unmet.Lost path loss ask) = LostIn path.now loss (option_map ask_view ask)

abbrev pub finding_view : Finding → FindingView
finding_view (finding.Listed side) = Listed (side_view side)
finding_view (finding.Different here there) = Different (side_view here) (side_view there)
finding_view (finding.Missing here there) = Missing (side_view here) (site_view there)
finding_view (finding.Clash symbol here there) = Clash symbol.now (side_view here) (side_view there)
finding_view (finding.Fault path fault) = FaultOf path.now (fault_view fault)
finding_view (finding.Lost side dll loss) = Lost (side_view side) dll.now loss
finding_view (finding.Stopped side dll text why) = StoppedAt (side_view side) dll.now text.now why
finding_view (finding.Searched site count) = Searched (site_view site) count
finding_view (finding.Unasked path export) = Unasked path.now (export_view export)
finding_view (finding.Exported path export) = Exported path.now (export_view export)
finding_view (finding.Unmet program dll unmet) = UnmetBy program.now dll.now (unmet_view unmet)

-- Names and words.

-- A name as text, where at most a number of bytes are no part of UTF-8: each of these becomes
-- U+FFFD.
abbrev pub text_within : ℕ → List ℕ → List ℕ
text_within zero name = []
text_within (suc n) name =
    let front = utf8_valid_len name in
    take front name ++ (if front == length name then []
    else replacement_bytes ++ text_within n (drop (front + 1) name))

-- a name as text
abbrev pub text_of : List ℕ → List ℕ
text_of name = text_within (length name + 1) name

-- the word of a kind
abbrev pub kind_word : ImportKind → List ℕ
kind_word Code = codes "code"
kind_word OfData = codes "data"
kind_word Const = codes "const"
kind_word CodeOrConst = codes "code-or-const"
kind_word Delayed = codes "delayed"

-- the words for a part of import tables
abbrev pub piece_words : Piece → List ℕ
piece_words piece.OfDescriptor = codes "import descriptor"
piece_words piece.OfNullDescriptor = codes "null descriptor"
piece_words piece.OfNullThunk = codes "null thunk"
piece_words piece.OfHead = codes "head"
piece_words piece.OfTail = codes "tail"

-- why an import is lost
abbrev pub loss_words : Loss → List ℕ
loss_words OtherDll = codes "another DLL"
loss_words OtherMachine = codes "another machine"
loss_words NotFound = codes "not exported"
loss_words DataAsFunction = codes "data as a function"

-- why a forwarder leads to nothing
abbrev pub stop_words : Stop → List ℕ
stop_words stop.NoFullStop = codes "no DLL named"
stop_words stop.NoFile = codes "no file"
stop_words stop.Refused = codes "not read"
stop_words stop.NoExports = codes "no export"
stop_words stop.OtherMachine = codes "another machine"
stop_words stop.NotExported = codes "not exported"
stop_words stop.DataAsFunction = codes "data as a function"
stop_words stop.Endless = codes "circle"

-- the word of what is at an address
abbrev pub address_word : AddressKind → List ℕ
address_word address.Code = codes "code"
address_word address.Data = codes "data"
address_word address.Outside = codes "outside"

-- what a member is, in a word
abbrev pub class_word : Class → List ℕ
class_word (AnAlias a) = codes "alias"
class_word (AnImport i) = codes "import"
class_word Descriptor = codes "import"
class_word NullDescriptor = codes "import"
class_word NullThunk = codes "import"
class_word Head = codes "import"
class_word Tail = codes "import"
class_word DelayImport = codes "import"
class_word Other = codes "import"
class_word NotUnderstood = codes "import"

-- what a fault makes of a library, in a word
abbrev pub fault_word : FaultView → List ℕ
fault_word NoIndex = codes "broken"
fault_word (UnreadableIndex index) = codes "broken"
fault_word (MisleadingEntry index entry) = codes "broken"
fault_word (CutApart m cut) = codes "broken"
fault_word (NotOnePart part) = codes "broken"
fault_word SeveralDlls = codes "not decided"

-- what is found, in a word
abbrev pub what_of : FindingView → List ℕ
what_of (Listed side) = class_word side.member.class
what_of (Different here there) = codes "difference"
what_of (Missing here there) = codes "difference"
what_of (Clash symbol here there) = codes "clash"
what_of (FaultOf path fault) = fault_word fault
what_of (Lost side dll loss) = codes "lost"
what_of (StoppedAt side dll text why) = codes "lost"
what_of (Searched site count) = codes "searched"
what_of (Unasked path export) = codes "unasked"
what_of (Exported path export) = codes "export"
what_of (UnmetBy program dll unmet) = codes "unmet"

-- Objects: the fields of a part, with those that are there.

-- a field that is a name, a word, a number
abbrev pub with_name : List ℕ → List ℕ → Members → Members
with_name key name fields = put key (string (text_of name)) fields

abbrev pub with_word : List ℕ → List ℕ → Members → Members
with_word key word fields = put key (string word) fields

abbrev pub with_number : List ℕ → ℕ → Members → Members
with_number key n fields = put key (number (unsigned n)) fields

-- where in a definition an export is
abbrev pub with_position : Option Position → Members → Members
with_position None fields = fields
with_position (Some p) fields =
    with_number (codes "column") p.column (with_number (codes "line") p.line fields)

-- the file of a library or a definition, and where in a definition an export is
abbrev pub with_site : SiteView → Members → Members
with_site (InLibrary path) fields = with_word (codes "library") path fields
with_site (InDefinition path position) fields =
    with_position position (with_word (codes "file") path fields)

-- which member of a library it is; a definition has none
abbrev pub with_member : SiteView → MemberRead → Members → Members
with_member (InLibrary path) m fields =
    with_number (codes "offset") m.offset (with_name (codes "member") m.name fields)
with_member (InDefinition path position) m fields = fields

-- what a DLL is asked for
abbrev pub with_asked : Ask → Members → Members
with_asked (Name name hint) fields =
    with_number (codes "hint") hint (with_name (codes "name") name fields)
with_asked (Ordinal ordinal) fields = with_number (codes "ordinal") ordinal fields

-- what an import or an alias is
abbrev pub with_class : Class → Members → Members
with_class (AnImport i) fields =
    with_number (codes "machine") i.machine
    (with_asked i.imports.ask
    (with_name (codes "dll") i.imports.dll (with_word (codes "kind") (kind_word i.kind) fields)))
with_class (AnAlias a) fields =
    with_name (codes "target") a.target (with_word (codes "kind") (codes "alias") fields)
with_class Descriptor fields = fields
with_class NullDescriptor fields = fields
with_class NullThunk fields = fields
with_class Head fields = fields
with_class Tail fields = fields
with_class DelayImport fields = fields
with_class Other fields = fields
with_class NotUnderstood fields = fields

-- an import or an alias, and where it is
abbrev pub with_side : SideView → Members → Members
with_side s fields = with_class s.member.class
    (with_name (codes "symbol") s.symbol (with_member s.site s.member (with_site s.site fields)))

-- the object of an import or an alias, and that of a file
abbrev pub side_object : SideView → Data
side_object s = object (with_side s no_members)

abbrev pub site_object : SiteView → Data
site_object s = object (with_site s no_members)

-- what two sides have of a symbol
abbrev pub with_sides : List ℕ → Data → Data → Members → Members
with_sides symbol here there fields =
    put (codes "there") there (put (codes "here") here (with_name (codes "symbol") symbol fields))

-- why a library does not work
abbrev pub with_fault : FaultView → Members → Members
with_fault NoIndex fields = with_word (codes "why") (codes "no index") fields
with_fault (UnreadableIndex index) fields =
    with_number (codes "index") index (with_word (codes "why") (codes "unreadable index") fields)
with_fault (MisleadingEntry index entry) fields =
    with_number (codes "offset") entry.place
    (with_name (codes "symbol") entry.symbol
    (with_number (codes "index") index (with_word (codes "why") (codes "entry misleads") fields)))
with_fault (CutApart m cut) fields =
    with_name (codes "gnu") cut.by_gnu
    (with_name (codes "lld") cut.by_lld
    (with_name (codes "symbol") cut.symbol
    (with_number (codes "offset") m.offset
    (with_word (codes "why") (codes "linkers cut differently") fields))))
with_fault (NotOnePart part) fields =
    with_word (codes "part") (piece_words part)
    (with_word (codes "why") (codes "not one part") fields)
with_fault SeveralDlls fields = with_word (codes "why") (codes "several DLLs") fields

-- where an export leads
abbrev pub with_target : Target → Members → Members
with_target Empty fields = fields
with_target (Address place kind) fields =
    with_number (codes "address") place (with_word (codes "kind") (address_word kind) fields)
with_target (Forwarder text) fields =
    with_name (codes "target") text (with_word (codes "kind") (codes "forwarder") fields)

-- the name of an export, and its position, which is the hint by which a loader finds it at once
abbrev pub with_named : Option (ℕ × List ℕ) → Members → Members
with_named None fields = fields
with_named (Some found) fields =
    with_number (codes "hint") found.0 (with_name (codes "name") found.1 fields)

-- an export of the DLL of a file
abbrev pub with_export : List ℕ → ExportView → Members → Members
with_export path e fields =
    with_named e.name (with_target e.target
    (with_number (codes "ordinal") e.ordinal (with_word (codes "file") path fields)))

-- an import that is lost in the DLL of a file
abbrev pub with_loss : SideView → List ℕ → Loss → Members → Members
with_loss side dll loss fields =
    with_side side
    (with_word (codes "dll_file") dll (with_word (codes "why") (loss_words loss) fields))

-- an import that the DLL of a file forwards to nothing: the last forwarder, and why
abbrev pub with_stop : SideView → List ℕ → List ℕ → Stop → Members → Members
with_stop side dll text why fields =
    with_side side
    (with_word (codes "end") (stop_words why)
    (with_name (codes "forwarder") text
    (with_word (codes "dll_file") dll
    (with_word (codes "why") (codes "forwarded to nothing") fields))))

-- what a program asks a DLL for, if that is told
abbrev pub with_ask_of : Option Asked → Members → Members
with_ask_of None fields = fields
with_ask_of (Some (ByName name hint)) fields =
    with_number (codes "hint") hint (with_name (codes "name") name fields)
with_ask_of (Some (ByOrdinal ordinal)) fields = with_number (codes "ordinal") ordinal fields

-- why a program does not find what it imports from a DLL
abbrev pub with_unmet : UnmetView → Members → Members
with_unmet NoFile fields = with_word (codes "why") (codes "no file") fields
with_unmet (NoExports path) fields =
    with_word (codes "dll_file") path (with_word (codes "why") (codes "no export") fields)
with_unmet (Unread path) fields =
    with_word (codes "dll_file") path (with_word (codes "why") (codes "not read") fields)
with_unmet (LostIn path loss ask) fields =
    with_ask_of ask
    (with_word (codes "dll_file") path (with_word (codes "why") (loss_words loss) fields))

-- the file of a program, a DLL that it imports from, and what it does not find there
abbrev pub with_program : List ℕ → List ℕ → UnmetView → Members → Members
with_program program dll unmet fields =
    with_unmet unmet (with_name (codes "dll") dll (with_word (codes "program") program fields))

-- what is found
abbrev pub with_finding : FindingView → Members → Members
with_finding (Listed side) fields = with_side side fields
with_finding (Different here there) fields =
    with_sides here.symbol (side_object here) (side_object there) fields
with_finding (Missing here there) fields =
    with_sides here.symbol (side_object here) (site_object there) fields
with_finding (Clash symbol here there) fields =
    with_sides symbol (side_object here) (side_object there) fields
with_finding (FaultOf path fault) fields =
    with_fault fault (with_word (codes "library") path fields)
with_finding (Lost side dll loss) fields = with_loss side dll loss fields
with_finding (StoppedAt side dll text why) fields = with_stop side dll text why fields
with_finding (Searched site count) fields =
    with_number (codes "count") count (with_site site fields)
with_finding (Unasked path export) fields = with_export path export fields
with_finding (Exported path export) fields = with_export path export fields
with_finding (UnmetBy program dll unmet) fields = with_program program dll unmet fields

-- The object of what is found.
abbrev pub object_of : FindingView → Data
object_of f = object (with_finding f (with_word (codes "what") (what_of f) no_members))

-- The line of what is found: the text of its object, with no space, and a line feed.
abbrev pub line_of : FindingView → List ℕ
line_of f = compact_text (object_of f) ++ codes "\n"
