-- No object of what is found has a float, so that its text is told.
use Rattle.std.proofs.Common.{◌≡◌, ◌∙◌, ℕ, Bool, false, ◌||◌, List, None, Option, Some, ap, codes, refl}
use Rattle.std.specs.Ordering.{match_ordering, nat_cmp}
use Rattle.std.specs.Cmp.Lexicographic.{slice_cmp}
use Rattle.std.specs.declared.cmp.Ordering.{Ordering}
use Rattle.std.specs.declared.cmp.Ordering.TheVariants.{Less, Equal, Greater}
use Rattle.std.proofs.lemmas.Bool.{or_parts}
use Rattle.implib.specs.Import.{Ask, Name, Ordinal}
use Rattle.implib_dll.specs.Exports.{Target, Empty, Address, Forwarder}
use Rattle.implib_dll.specs.Imports.{Ask as Asked, ByName, ByOrdinal}
use Rattle.implib_compare.specs.declared.dll_check.import.Loss.{Loss}
use Rattle.implib.specs.declared.def.position.Position.{Position}
use Rattle.implib_read.specs.Classes.{Class, AnImport, AnAlias, Descriptor, NullDescriptor, NullThunk, Head, Tail, DelayImport, Other, NotUnderstood, MemberRead}
use Rattle.serde_json.specs.Data.{Data, Members, member, no_members, number, put, string, unsigned}
use Rattle.serde_json.specs.Written.{has_float, members_have_float}
use Rattle.implib_compare.specs.declared.dll_check.forwarder.Stop.{Stop}
use Rattle.implib_check_driver.specs.Json.{Clash, CutApart, Different, FaultOf, FaultView, FindingView, InDefinition, InLibrary, Listed, Missing, MisleadingEntry, NoIndex, NotOnePart, SeveralDlls, SideView, SiteView, UnreadableIndex}
use Rattle.implib_check_driver.specs.Json.{LostIn, NoExports, NoFile, Unread, UnmetBy, UnmetView, with_ask_of, with_unmet}
use Rattle.implib_check_driver.specs.Json.{ExportView, Exported, Lost, Searched, StoppedAt, Unasked, address_word, loss_words, stop_words, with_export, with_loss, with_stop, with_named, with_target}
use Rattle.implib_check_driver.specs.Json.{kind_word, object_of, piece_words, side_object, site_object, text_of, what_of, with_asked, with_class, with_fault, with_finding, with_member, with_name, with_number, with_position, with_side, with_sides, with_site, with_word}

neither : (a b : Bool) → a ≡ false → b ≡ false → (a || b) ≡ false
neither a b first second = ap (λ c. c || b) first ∙ second

-- fields among which no float is
abbrev AreFloatless : Members → Type 0
AreFloatless fields = members_have_float fields ≡ false

put_floatless : (key : List ℕ) (d : Data) (fields : Members) → has_float d ≡ false → AreFloatless fields → AreFloatless (put key d fields)
put_floatless key d no_members here others = neither (has_float d) false here refl
put_floatless key d (member l e fields) here others =
    let parts = or_parts (has_float e) (members_have_float fields) others in
    by (slice_cmp nat_cmp key l) parts (put_floatless key d fields here parts.1)
  where
    by : (o : Ordering) → (has_float e ≡ false) × (AreFloatless fields) → AreFloatless (put key d fields)
        → AreFloatless (match_ordering o (member key d (member l e fields)) (member l d fields) (member l e (put key d fields)))
    by Less parts later = neither (has_float d) (has_float e || members_have_float fields) here others
    by Equal parts later = neither (has_float d) (members_have_float fields) here parts.1
    by Greater parts later = neither (has_float e) (members_have_float (put key d fields)) parts.0 later

name_floatless : (key name : List ℕ) (fields : Members) → AreFloatless fields → AreFloatless (with_name key name fields)
name_floatless key name fields others = put_floatless key (string (text_of name)) fields refl others

word_floatless : (key word : List ℕ) (fields : Members) → AreFloatless fields → AreFloatless (with_word key word fields)
word_floatless key word fields others = put_floatless key (string word) fields refl others

number_floatless : (key : List ℕ) (n : ℕ) (fields : Members) → AreFloatless fields → AreFloatless (with_number key n fields)
number_floatless key n fields others = put_floatless key (number (unsigned n)) fields refl others

position_floatless : (position : Option Position) (fields : Members) → AreFloatless fields → AreFloatless (with_position position fields)
position_floatless None fields others = others
position_floatless (Some p) fields others =
    number_floatless (codes "column") p.column (with_number (codes "line") p.line fields) (number_floatless (codes "line") p.line fields others)

site_floatless : (site : SiteView) (fields : Members) → AreFloatless fields → AreFloatless (with_site site fields)
site_floatless (InLibrary path) fields others = word_floatless (codes "library") path fields others
site_floatless (InDefinition path position) fields others =
    position_floatless position (with_word (codes "file") path fields) (word_floatless (codes "file") path fields others)

member_floatless : (site : SiteView) (m : MemberRead) (fields : Members) → AreFloatless fields → AreFloatless (with_member site m fields)
member_floatless (InLibrary path) m fields others =
    number_floatless (codes "offset") m.offset (with_name (codes "member") m.name fields) (name_floatless (codes "member") m.name fields others)
member_floatless (InDefinition path position) m fields others = others

asked_floatless : (ask : Ask) (fields : Members) → AreFloatless fields → AreFloatless (with_asked ask fields)
asked_floatless (Name name hint) fields others =
    number_floatless (codes "hint") hint (with_name (codes "name") name fields) (name_floatless (codes "name") name fields others)
asked_floatless (Ordinal ordinal) fields others = number_floatless (codes "ordinal") ordinal fields others

class_floatless : (class : Class) (fields : Members) → AreFloatless fields → AreFloatless (with_class class fields)
class_floatless (AnImport i) fields others =
    let of_kind = with_word (codes "kind") (kind_word i.kind) fields in
    let of_dll = with_name (codes "dll") i.imports.dll of_kind in
    number_floatless (codes "machine") i.machine (with_asked i.imports.ask of_dll)
    (asked_floatless i.imports.ask of_dll
    (name_floatless (codes "dll") i.imports.dll of_kind (word_floatless (codes "kind") (kind_word i.kind) fields others)))
class_floatless (AnAlias a) fields others =
    name_floatless (codes "target") a.target (with_word (codes "kind") (codes "alias") fields) (word_floatless (codes "kind") (codes "alias") fields others)
class_floatless Descriptor fields others = others
class_floatless NullDescriptor fields others = others
class_floatless NullThunk fields others = others
class_floatless Head fields others = others
class_floatless Tail fields others = others
class_floatless DelayImport fields others = others
class_floatless Other fields others = others
class_floatless NotUnderstood fields others = others

side_floatless : (s : SideView) (fields : Members) → AreFloatless fields → AreFloatless (with_side s fields)
side_floatless s fields others =
    let of_site = with_site s.site fields in
    let of_member = with_member s.site s.member of_site in
    class_floatless s.member.class (with_name (codes "symbol") s.symbol of_member)
    (name_floatless (codes "symbol") s.symbol of_member
    (member_floatless s.site s.member of_site (site_floatless s.site fields others)))

sides_floatless : (symbol : List ℕ) (here there : Data) (fields : Members) → has_float here ≡ false → has_float there ≡ false → AreFloatless fields → AreFloatless (with_sides symbol here there fields)
sides_floatless symbol here there fields first second others =
    let of_symbol = with_name (codes "symbol") symbol fields in
    put_floatless (codes "there") there (put (codes "here") here of_symbol) second
    (put_floatless (codes "here") here of_symbol first (name_floatless (codes "symbol") symbol fields others))

fault_floatless : (fault : FaultView) (fields : Members) → AreFloatless fields → AreFloatless (with_fault fault fields)
fault_floatless NoIndex fields others = word_floatless (codes "why") (codes "no index") fields others
fault_floatless (UnreadableIndex index) fields others =
    number_floatless (codes "index") index (with_word (codes "why") (codes "unreadable index") fields)
    (word_floatless (codes "why") (codes "unreadable index") fields others)
fault_floatless (MisleadingEntry index entry) fields others =
    let why = with_word (codes "why") (codes "entry misleads") fields in
    let of_index = with_number (codes "index") index why in
    number_floatless (codes "offset") entry.place (with_name (codes "symbol") entry.symbol of_index)
    (name_floatless (codes "symbol") entry.symbol of_index
    (number_floatless (codes "index") index why (word_floatless (codes "why") (codes "entry misleads") fields others)))
fault_floatless (CutApart m cut) fields others =
    let why = with_word (codes "why") (codes "linkers cut differently") fields in
    let of_offset = with_number (codes "offset") m.offset why in
    let of_symbol = with_name (codes "symbol") cut.symbol of_offset in
    let of_lld = with_name (codes "lld") cut.by_lld of_symbol in
    name_floatless (codes "gnu") cut.by_gnu of_lld
    (name_floatless (codes "lld") cut.by_lld of_symbol
    (name_floatless (codes "symbol") cut.symbol of_offset
    (number_floatless (codes "offset") m.offset why (word_floatless (codes "why") (codes "linkers cut differently") fields others))))
fault_floatless (NotOnePart part) fields others =
    word_floatless (codes "part") (piece_words part) (with_word (codes "why") (codes "not one part") fields)
    (word_floatless (codes "why") (codes "not one part") fields others)
fault_floatless SeveralDlls fields others = word_floatless (codes "why") (codes "several DLLs") fields others

target_floatless : (target : Target) (fields : Members) → AreFloatless fields → AreFloatless (with_target target fields)
target_floatless Empty fields others = others
target_floatless (Address place kind) fields others =
    number_floatless (codes "address") place (with_word (codes "kind") (address_word kind) fields)
    (word_floatless (codes "kind") (address_word kind) fields others)
target_floatless (Forwarder text) fields others =
    name_floatless (codes "target") text (with_word (codes "kind") (codes "forwarder") fields)
    (word_floatless (codes "kind") (codes "forwarder") fields others)

named_floatless : (name : Option (ℕ × List ℕ)) (fields : Members) → AreFloatless fields → AreFloatless (with_named name fields)
named_floatless None fields others = others
named_floatless (Some found) fields others =
    number_floatless (codes "hint") found.0 (with_name (codes "name") found.1 fields) (name_floatless (codes "name") found.1 fields others)

export_floatless : (path : List ℕ) (e : ExportView) (fields : Members) → AreFloatless fields → AreFloatless (with_export path e fields)
export_floatless path e fields others =
    let of_file = with_word (codes "file") path fields in
    let of_ordinal = with_number (codes "ordinal") e.ordinal of_file in
    named_floatless e.name (with_target e.target of_ordinal)
    (target_floatless e.target of_ordinal
    (number_floatless (codes "ordinal") e.ordinal of_file (word_floatless (codes "file") path fields others)))

loss_floatless : (side : SideView) (dll : List ℕ) (loss : Loss) (fields : Members) → AreFloatless fields → AreFloatless (with_loss side dll loss fields)
loss_floatless side dll loss fields others =
    let why = with_word (codes "why") (loss_words loss) fields in
    side_floatless side (with_word (codes "dll_file") dll why)
    (word_floatless (codes "dll_file") dll why (word_floatless (codes "why") (loss_words loss) fields others))

stop_floatless : (side : SideView) (dll text : List ℕ) (why : Stop) (fields : Members) → AreFloatless fields
    → AreFloatless (with_stop side dll text why fields)
stop_floatless side dll text why fields others =
    let nothing = with_word (codes "why") (codes "forwarded to nothing") fields in
    let file = with_word (codes "dll_file") dll nothing in
    let forwarder = with_name (codes "forwarder") text file in
    side_floatless side (with_word (codes "end") (stop_words why) forwarder)
    (word_floatless (codes "end") (stop_words why) forwarder
    (name_floatless (codes "forwarder") text file
    (word_floatless (codes "dll_file") dll nothing (word_floatless (codes "why") (codes "forwarded to nothing") fields others))))

ask_of_floatless : (ask : Option Asked) (fields : Members) → AreFloatless fields → AreFloatless (with_ask_of ask fields)
ask_of_floatless None fields others = others
ask_of_floatless (Some (ByName name hint)) fields others =
    number_floatless (codes "hint") hint (with_name (codes "name") name fields) (name_floatless (codes "name") name fields others)
ask_of_floatless (Some (ByOrdinal ordinal)) fields others = number_floatless (codes "ordinal") ordinal fields others

unmet_floatless : (unmet : UnmetView) (fields : Members) → AreFloatless fields → AreFloatless (with_unmet unmet fields)
unmet_floatless NoFile fields others = word_floatless (codes "why") (codes "no file") fields others
unmet_floatless (NoExports path) fields others =
    word_floatless (codes "dll_file") path (with_word (codes "why") (codes "no export") fields) (word_floatless (codes "why") (codes "no export") fields others)
unmet_floatless (Unread path) fields others =
    word_floatless (codes "dll_file") path (with_word (codes "why") (codes "not read") fields) (word_floatless (codes "why") (codes "not read") fields others)
unmet_floatless (LostIn path loss ask) fields others =
    let why = with_word (codes "why") (loss_words loss) fields in
    ask_of_floatless ask (with_word (codes "dll_file") path why)
    (word_floatless (codes "dll_file") path why (word_floatless (codes "why") (loss_words loss) fields others))

finding_floatless : (f : FindingView) (fields : Members) → AreFloatless fields → AreFloatless (with_finding f fields)
finding_floatless (Listed side) fields others = side_floatless side fields others
finding_floatless (Different here there) fields others =
    sides_floatless here.symbol (side_object here) (side_object there) fields (side_floatless here no_members refl) (side_floatless there no_members refl) others
finding_floatless (Missing here there) fields others =
    sides_floatless here.symbol (side_object here) (site_object there) fields (side_floatless here no_members refl) (site_floatless there no_members refl) others
finding_floatless (Clash symbol here there) fields others =
    sides_floatless symbol (side_object here) (side_object there) fields (side_floatless here no_members refl) (side_floatless there no_members refl) others
finding_floatless (FaultOf path fault) fields others =
    fault_floatless fault (with_word (codes "library") path fields) (word_floatless (codes "library") path fields others)
finding_floatless (Lost side dll loss) fields others = loss_floatless side dll loss fields others
finding_floatless (StoppedAt side dll text why) fields others = stop_floatless side dll text why fields others
finding_floatless (Searched site count) fields others =
    number_floatless (codes "count") count (with_site site fields) (site_floatless site fields others)
finding_floatless (Unasked path export) fields others = export_floatless path export fields others
finding_floatless (Exported path export) fields others = export_floatless path export fields others
finding_floatless (UnmetBy program dll unmet) fields others =
    let of_program = with_word (codes "program") program fields in
    unmet_floatless unmet (with_name (codes "dll") dll of_program)
    (name_floatless (codes "dll") dll of_program (word_floatless (codes "program") program fields others))

pub object_floatless : (f : FindingView) → has_float (object_of f) ≡ false
object_floatless f =
    finding_floatless f (with_word (codes "what") (what_of f) no_members) (word_floatless (codes "what") (what_of f) no_members refl)
