-- What the program warns of in a definition (this project's choice).
use Rattle.std.specs.Prelude.{◌≡◌, ℕ, ◌==◌, ◌+◌, ◌-◌, ◌≤◌, Bool, true, false, not, ◌&&◌, List, []}
use Rattle.std.specs.Prelude.{◌∷◌, ◌++◌, Option, None, Some, codes, if◌then◌else◌, is_none, is_some}
use Rattle.std.specs.Prelude.{length, nat_eq, nat_lt, slice_get, slice_index, take}
use Rattle.std.specs.Char.{is_ascii_digit}
use Rattle.std.specs.List.{after_first, before_first, list_any}
use Rattle.std.specs.Option.{option_map}
use Rattle.std.specs.Str.{IsUtf8, bytes_eq, str_eq_ignore_ascii_case}
use Rattle.implib.specs.declared.def.position.Position.{Position}
use Rattle.implib.specs.declared.flavor.Flavor.{Flavor}
use Rattle.implib.specs.declared.flavor.Flavor.TheVariants.{Msvc, Gnu}
use Rattle.implib.specs.declared.machine.MachineType.{MachineType}
use Rattle.implib.specs.declared.machine.MachineType.TheVariants.{AMD64, I386}
use Rattle.implib.specs.Ascii.{at_sign, begins_with, question_mark}
use Rattle.implib.specs.Definition.{ExportView}
use Rattle.implib.specs.Import.{is_empty_text}
use Rattle.implib.specs.Machine.{has_leading_underscore}
use Rattle.implib.specs.Text.Heard.{Heard, IsHeard}
use Rattle.implib_rules.specs.declared.places.Place.{Place}
use Rattle.implib_rules.specs.declared.places.Site.{Site}
use Rattle.implib_rules.specs.declared.places.Site.TheVariants as site
use Rattle.implib_rules.specs.declared.warnings.Notice.{Notice}
use Rattle.implib_rules.specs.declared.warnings.Notice.TheVariants as notice
use Rattle.implib_rules.specs.declared.warnings.Warning.{Warning}
use Rattle.implib_rules.specs.declared.warnings.words.Attribute.{Attribute}
use Rattle.implib_rules.specs.declared.warnings.words.Attribute.TheVariants.{Data, Constant}
use Rattle.implib_rules.specs.declared.warnings.words.Attribute.TheVariants.{Private, NoName}
use Rattle.implib_rules.specs.Firsts.{first_declared, first_of_ordinal, first_of_word}
use Rattle.implib_rules.specs.Linked.{NamingView, has_at_sign, is_apart, is_at_sign, is_number}
use Rattle.implib_rules.specs.Linked.{word_of}
use Rattle.implib_rules.specs.Places.{places_in}
use Rattle.implib_rules.specs.Repeats.{repeats}
use Rattle.implib_rules.specs.Options.{LibraryOptionsView}

-- whether a word is an attribute, unless it is quoted
abbrev pub is_attribute : List ℕ → Bool
is_attribute word =
    if bytes_eq word (codes "DATA") then true
    else if bytes_eq word (codes "CONSTANT") then true
    else if bytes_eq word (codes "PRIVATE") then true
    else if bytes_eq word (codes "NONAME") then true
    else false

-- the attribute of a word in letters of any case
abbrev pub attribute_spelled : List ℕ → Option Attribute
attribute_spelled word =
    if str_eq_ignore_ascii_case word (codes "DATA") then Some Data
    else if str_eq_ignore_ascii_case word (codes "CONSTANT") then Some Constant
    else if str_eq_ignore_ascii_case word (codes "PRIVATE") then Some Private
    else if str_eq_ignore_ascii_case word (codes "NONAME") then Some NoName
    else None

-- The attribute that a word would be in capitals, and is not. For example, that of `data` and
-- `Data` is DATA; the name `DATA`, which is in quotes in a definition, has none.
abbrev pub lowered_attribute : List ℕ → Option Attribute
lowered_attribute word = if is_attribute word then None else attribute_spelled word

-- Whether a word begins as an ordinal: with `@` and a digit. For example, `@65536` and `@0x10` do;
-- `@f@8`, which is a name of fastcall, does not.
abbrev pub is_ordinal_like : List ℕ → Bool
is_ordinal_like word =
    nat_lt 1 (length word) && slice_index word 0 == at_sign && is_ascii_digit (slice_index word 1)

-- Whether a word is a name of stdcall: a name that is not C++'s, one `@`, and digits. For example,
-- `f@8` is one, and fastcall's `@f@8`, vectorcall's `f@@8` and C++'s `?f@8` are not.
abbrev pub is_stdcall_word : List ℕ → Bool
is_stdcall_word word =
    has_at_sign word && not (begins_with question_mark word)
    && not (length (before_first is_at_sign word) == 0)
    && is_number (after_first is_at_sign word)

-- what a warning says
pub data NoticeView : Type 0 where
  -- there is no export
  HasNoExport : NoticeView
  -- there are too many members for an archive of Microsoft's kind
  IsOtherKind : NoticeView
  -- the export of this index has the same word, so this one is left out
  IsRepeated : List ℕ → ℕ → NoticeView
  -- the export of this index has the same ordinal
  RepeatsOrdinal : ℕ → ℕ → NoticeView
  -- an attribute of the export of this word is the first word of a line
  OpensLine : Attribute → List ℕ → NoticeView
  -- the name would be an attribute in capitals
  IsLowered : List ℕ → Attribute → NoticeView
  -- the name begins as an ordinal
  IsOrdinalLike : List ℕ → NoticeView
  -- the DLL is asked for a name of stdcall
  IsStdcall : List ℕ → NoticeView
  -- the word after `==` is no export
  IsNotExported : List ℕ → NoticeView
  -- a second `LIBRARY` or `NAME`
  IsSecondHeading : NoticeView
  -- a statement that is of no account for an import library
  IsSkipped : NoticeView
  -- a NUL ends the text, and something follows it
  EndsEarly : NoticeView
  -- the word begins a statement elsewhere, or names what an export asks for, and is a name here
  StandsAlone : List ℕ → NoticeView
  -- an attribute stands behind the name of EXPORTAS
  IsLate : List ℕ → NoticeView
  -- a name begins as a comment of other tools
  IsCommentLike : List ℕ → NoticeView
  -- the symbol is weak for that of an import
  IsWeak : List ℕ → NoticeView

-- the view of a notice of the program
abbrev pub notice_view : Notice → NoticeView
notice_view notice.NoExport = HasNoExport
notice_view notice.OtherKind = IsOtherKind
notice_view (notice.Repeated word first) = IsRepeated word.now first
notice_view (notice.RepeatedOrdinal ordinal first) = RepeatsOrdinal ordinal first
notice_view (notice.OpensLine attribute word) = OpensLine attribute word.now
notice_view (notice.Lowered word attribute) = IsLowered word.now attribute
notice_view (notice.OrdinalLike word) = IsOrdinalLike word.now
notice_view (notice.Stdcall word) = IsStdcall word.now
notice_view (notice.NotExported word) = IsNotExported word.now
notice_view notice.SecondHeading = IsSecondHeading
notice_view notice.Skipped = IsSkipped
notice_view notice.EndsEarly = EndsEarly
notice_view (notice.StandsAlone word) = StandsAlone word.now
notice_view (notice.Late word) = IsLate word.now
notice_view (notice.CommentLike word) = IsCommentLike word.now
notice_view (notice.Weak word) = IsWeak word.now

-- a warning: what it says, and where it is
pub record WarningView : Type 0 where
  pub notice : NoticeView
  pub position : Position

-- the view of a warning of the program
abbrev pub warning_view : Warning → WarningView
warning_view w = record { notice = notice_view w.notice; position = w.position }

-- an index, if it is before another
abbrev pub earlier : Option ℕ → ℕ → Option ℕ
earlier None index = None
earlier (Some first) index = if nat_lt first index then Some first else None

-- an export is left out for an earlier one of its word, by the one that declares the word
abbrev pub repeat_notice : ExportView → Option ℕ → ℕ → Option NoticeView
repeat_notice e first index =
    if e.private then None else option_map (IsRepeated (word_of e)) (earlier first index)

-- an export has the ordinal of an earlier one, by the first of its ordinal; 0 is none
abbrev pub ordinal_notice : ℕ → Option ℕ → ℕ → Option NoticeView
ordinal_notice ordinal first index =
    if ordinal == 0 then None else option_map (RepeatsOrdinal ordinal) (earlier first index)

-- a name would be an attribute in capitals
abbrev pub lowered_notice : List ℕ → Option NoticeView
lowered_notice word = option_map (IsLowered word) (lowered_attribute word)

-- a name begins as an ordinal
abbrev pub ordinal_like_notice : List ℕ → Option NoticeView
ordinal_like_notice word = if is_ordinal_like word then Some (IsOrdinalLike word) else None

-- whether the DLL is asked for a word by an export's import
abbrev pub is_asked_by_word : ExportView → Bool
is_asked_by_word e = not e.private && not e.no_name

-- on I386 without `-k` the DLL is asked for a name of stdcall
abbrev pub stdcall_notice : MachineType → NamingView → ExportView → Option NoticeView
stdcall_notice machine naming e =
    if (has_leading_underscore machine && not naming.kills_at)
    && (is_asked_by_word e && is_empty_text e.alias_target && is_stdcall_word (word_of e))
    then Some (IsStdcall (word_of e)) else None

-- for Microsoft's linker the word after `==` is no export, by the first export of that word
abbrev pub target_notice : Flavor → ExportView → Option ℕ → Option NoticeView
target_notice Gnu e first = None
target_notice Msvc e first =
    if is_none first && is_asked_by_word e && not (is_empty_text e.alias_target)
    then Some (IsNotExported e.alias_target) else None

-- whether GNU's flavour serves GNU `ld` on a machine: its stubs run there
abbrev pub serves_gnu : MachineType → Bool
serves_gnu I386 = true
serves_gnu AMD64 = true
serves_gnu _ = false

-- the notice of a symbol that is weak in a flavour: for GNU's linker there is an object in its place
abbrev pub weak_in : Flavor → ExportView → Option NoticeView
weak_in Gnu e = None
weak_in Msvc e = Some (IsWeak (word_of e))

-- For Microsoft's linker the symbol is weak for that of the import which asks for the word after
-- `==`. GNU `ld` leaves such a symbol undefined (docs/LINKERS.md, `weak-alias`).
abbrev pub weak_notice : LibraryOptionsView → ExportView → Option NoticeView
weak_notice options e =
    if serves_gnu options.machine && not options.naming.exports_as
    && is_apart options.machine options.naming e
    then weak_in options.flavor e else None

-- the name of the DLL is given twice, and neither time on the command line
abbrev pub heading_notice : Option (List ℕ) → Option NoticeView
heading_notice None = Some IsSecondHeading
heading_notice (Some given) = None

-- there is no export
abbrev pub no_export_notice : List ExportView → Option NoticeView
no_export_notice [] = Some HasNoExport
no_export_notice (e ∷ exports) = None

-- Microsoft's second linker member numbers fewer than 65,535 members
abbrev pub other_kind_notice : Flavor → ℕ → Option NoticeView
other_kind_notice Gnu count = None
other_kind_notice Msvc count = if nat_lt count 65535 then None else Some IsOtherKind

-- the warning of a notice at a position
abbrev pub warned : Option NoticeView → Position → List WarningView
warned None position = []
warned (Some notice) position = record { notice = notice; position = position } ∷ []

-- the warnings of what an export asks for; one that is left out asks for nothing
abbrev pub asked_warnings : LibraryOptionsView → List ExportView → Bool → Position → ExportView →
    List WarningView
asked_warnings options exports true position e = []
asked_warnings options exports false position e =
    warned (stdcall_notice options.machine options.naming e) position
    ++ warned (target_notice options.flavor e (first_of_word e.alias_target exports)) position
    ++ warned (weak_notice options e) position

-- the warnings of an export at its position, by its index
abbrev pub warnings_of_export : LibraryOptionsView → List ExportView → ℕ → Position → ExportView →
    List WarningView
warnings_of_export options exports index position e =
    warned (repeat_notice e (first_declared (word_of e) exports) index) position
    ++ warned (ordinal_notice e.ordinal (first_of_ordinal e.ordinal exports) index) position
    ++ warned (lowered_notice (word_of e)) position
    ++ warned (ordinal_like_notice (word_of e)) position
    ++ asked_warnings options exports
    (is_some (repeat_notice e (first_declared (word_of e) exports) index)) position e

-- the warnings of the export of an index, if there is one
abbrev pub if_export : LibraryOptionsView → List ExportView → ℕ → Position → Option ExportView →
    List WarningView
if_export options exports index position None = []
if_export options exports index position (Some e) =
    warnings_of_export options exports index position e

abbrev pub export_notices : LibraryOptionsView → List ExportView → ℕ → Position → List WarningView
export_notices options exports index position =
    if_export options exports index position (slice_get exports index)

-- the word of an export, if there is one
abbrev pub word_if : Option ExportView → List ℕ
word_if None = []
word_if (Some e) = word_of e

-- the word of the export before an index
abbrev pub word_before : List ExportView → ℕ → List ℕ
word_before exports index = if index == 0 then [] else word_if (slice_get exports (index - 1))

-- the warnings at a site, given the number of exports before it
abbrev pub warnings_at_site : LibraryOptionsView → List ExportView → ℕ → Site → Position →
    List WarningView
warnings_at_site options exports index site.Export position =
    export_notices options exports index position
warnings_at_site options exports index (site.Attribute attribute) position =
    warned (Some (OpensLine attribute (word_before exports index))) position
warnings_at_site options exports index site.Heading position =
    warned (heading_notice options.dll) position

-- the warnings at a place, given the number of exports before it
abbrev pub warnings_at : LibraryOptionsView → List ExportView → ℕ → Place → List WarningView
warnings_at options exports index place =
    warnings_at_site options exports index place.site place.position

-- the number of exports up to and including a site
abbrev pub index_after : Site → ℕ → ℕ
index_after site.Export index = index + 1
index_after _ index = index

-- the warnings at places, in their order, given the number of exports before them
unfoldable pub warnings_from : LibraryOptionsView → List ExportView → ℕ → List Place →
    List WarningView
warnings_from options exports index [] = []
warnings_from options exports index (place ∷ places) =
    warnings_at options exports index place
    ++ warnings_from options exports (index_after place.site index) places

-- the position of warnings about a whole text
abbrev pub whole : Position
whole = record { offset = 0; line = 1; column = 1 }

-- the warnings of a definition of these exports and places and this number of members: those about
-- the whole text, and then those at its places, in their order
abbrev pub warnings_of : LibraryOptionsView → List ExportView → List Place → ℕ → List WarningView
warnings_of options exports places count =
    warned (no_export_notice exports) whole
    ++ warned (other_kind_notice options.flavor count) whole
    ++ warnings_from options exports 0 places

-- An export is said to repeat a word exactly where it is left out for one before it that declares
-- the word; and to repeat an ordinal exactly where an export before it has the ordinal, which is
-- not 0.
pub record RepeatsStandBefore : Type 0 where
  pub words : (e : ExportView) (exports : List ExportView) (index : ℕ) →
      is_some (repeat_notice e (first_declared (word_of e) exports) index)
      ≡ repeats (take index exports) e
  pub ordinals : (ordinal : ℕ) (exports : List ExportView) (index : ℕ) →
      is_some (ordinal_notice ordinal (first_of_ordinal ordinal exports) index)
      ≡ (not (ordinal == 0) && list_any (λ e. nat_eq ordinal e.ordinal) (take index exports))

-- each warning is at this offset or after it, and none is before the one that it follows
abbrev pub Ascends : ℕ → List WarningView → Type 0
Ascends offset [] = Unit {0}
Ascends offset (warning ∷ warnings) =
    (offset ≤ warning.position.offset) × Ascends warning.position.offset warnings

-- the warnings of a text are in the order of their offsets
abbrev pub AreInOrder : Type 0
AreInOrder =
    (text : List ℕ) (heard : List Heard) (options : LibraryOptionsView) (exports : List ExportView)
    (count : ℕ) → IsUtf8 text →
    IsHeard text heard → Ascends 0 (warnings_of options exports (places_in text heard) count)
