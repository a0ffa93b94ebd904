-- What the program warns of in the form of a definition's text: what is skipped of it, and what is
-- not (this project's choice).
use Rattle.std.specs.Prelude.{ℕ, ◌+◌, ◌==◌, ◌&&◌, ◌||◌, Bool, true, false, not, List, [], ◌∷◌, ◌++◌}
use Rattle.std.specs.Prelude.{Option, None, Some, codes, drop, if◌then◌else◌, nat_eq}
use Rattle.std.specs.List.{list_any, starts_with}
use Rattle.std.specs.Option.{option_map, option_or}
use Rattle.implib.specs.declared.def.position.Position.{Position}
use Rattle.implib.specs.Ascii.{begins}
use Rattle.implib.specs.Definition.{ExportView}
use Rattle.implib.specs.Text.Position.{after_byte}
use Rattle.implib_rules.specs.declared.plain.Before.{Before}
use Rattle.implib_rules.specs.declared.plain.Before.TheVariants.{SectionStart}
use Rattle.implib_rules.specs.declared.plain.Part.{Part}
use Rattle.implib_rules.specs.declared.plain.Part.TheVariants.{Between, Word, SecondSign, Skipped}
use Rattle.implib_rules.specs.declared.plain.Part.TheVariants.{Ended}
use Rattle.implib_rules.specs.declared.plain.Reading.{Reading}
use Rattle.implib_rules.specs.Library.{without_mark}
use Rattle.implib_rules.specs.Forms.{is_in_quotes}
use Rattle.implib_rules.specs.Plain.{after_all, beginning, begins_word, is_after_name, is_blank}
use Rattle.implib_rules.specs.Plain.{is_line_start, is_of_word, is_space, step_of}
use Rattle.implib_rules.specs.Warnings.{EndsEarly, IsCommentLike, IsLate, IsSkipped, NoticeView}
use Rattle.implib_rules.specs.Warnings.{StandsAlone, WarningView, no_export_notice, warned, whole}

-- a line is skipped; after the first of SECTIONS its lines have no warning of their own
abbrev pub skipped_notice : Before → Before → Option NoticeView
skipped_notice SectionStart SectionStart = None
skipped_notice before after = Some IsSkipped

-- a NUL ends the text, and something follows it
abbrev pub ended_notice : List ℕ → Option NoticeView
ended_notice [] = None
ended_notice (b ∷ rest) = Some EndsEarly

-- the word in front of a text, if it is a keyword of other tools
unfoldable pub keyword_of : List ℕ → Option (List ℕ)
keyword_of text =
    if begins_word (codes "DESCRIPTION") text then Some (codes "DESCRIPTION")
    else if begins_word (codes "STUB") text then Some (codes "STUB")
    else if begins_word (codes "EXETYPE") text then Some (codes "EXETYPE")
    else if begins_word (codes "SECTIONS") text then Some (codes "SECTIONS")
    else if begins_word (codes "EXPORTAS") text then Some (codes "EXPORTAS")
    else None

-- EXPORTAS, after a name in its line
abbrev pub is_export_as_after : Before → List ℕ → Bool
is_export_as_after before text = is_after_name before && begins_word (codes "EXPORTAS") text

-- Such a word stays, and so is a name: the first of its line, or EXPORTAS after a name. For
-- example, the second line of `EXPORTS` and `STUB` is an export; `STUB 'a'` is a statement, which
-- does not stay, and `"STUB"` no keyword.
unfoldable pub alone_notice : Before → List ℕ → Option NoticeView
alone_notice before text =
    if not (is_line_start before) && not (is_export_as_after before text) then None
    else option_map StandsAlone (keyword_of text)

-- the attribute in front of a text, if one is: a keyword, or the `@` of an ordinal
unfoldable pub attribute_in : List ℕ → Option (List ℕ)
attribute_in text =
    if begins_word (codes "DATA") text then Some (codes "DATA")
    else if begins_word (codes "CONSTANT") text then Some (codes "CONSTANT")
    else if begins_word (codes "PRIVATE") text then Some (codes "PRIVATE")
    else if begins_word (codes "NONAME") text then Some (codes "NONAME")
    else if begins (λ b. b == 64) text then Some (codes "@")
    else None

-- what follows the name in front of a text, in quotes or not, and blanks
abbrev pub after_name : List ℕ → List ℕ
after_name text =
    after_all is_blank (if begins (λ b. b == 34) text
    then drop 1 (after_all is_in_quotes (drop 1 text)) else after_all is_of_word text)

-- An attribute follows the name of EXPORTAS, which is in front of the text: llvm-dlltool and
-- llvm-lib end the export with that name. For example, of `EXPORTAS a DATA` it is DATA.
abbrev pub late_notice : List ℕ → Option NoticeView
late_notice text = option_map IsLate (attribute_in (after_name (after_all is_blank (drop 8 text))))

-- what begins a comment of C++ or of a shell, if that is in front of a text
unfoldable pub comment_in : List ℕ → Option (List ℕ)
comment_in text =
    if starts_with nat_eq text (codes "//") then Some (codes "//")
    else if starts_with nat_eq text (codes "#") then Some (codes "#")
    else None

-- the first name of a line begins so
abbrev pub comment_notice : Before → List ℕ → Option NoticeView
comment_notice before text =
    if is_line_start before then option_map IsCommentLike (comment_in text) else None

-- what is said of a word that stays
abbrev pub word_notice : Before → List ℕ → Option NoticeView
word_notice before text = option_or (alone_notice before text) (comment_notice before text)

-- what is said of a byte between lexemes, by the part that is read after it
abbrev pub notice_by : Part → Before → Before → List ℕ → List ℕ → Option NoticeView
notice_by Skipped before after text rest = skipped_notice before after
notice_by Ended before after text rest = ended_notice rest
notice_by Word before after text rest = word_notice before text
notice_by SecondSign before after text rest = late_notice text
notice_by _ before after text rest = None

-- the same of a byte of any part
abbrev pub notice_in : Part → Before → Reading → List ℕ → List ℕ → Option NoticeView
notice_in Between before next text rest = notice_by next.part before next.before text rest
notice_in _ before next text rest = None

-- what is said of a byte, by what is read at it and after it
abbrev pub text_notice : Reading → Reading → List ℕ → List ℕ → Option NoticeView
text_notice reading next text rest = notice_in reading.part reading.before next text rest

-- the position after one more byte
abbrev pub position_after : Position → ℕ → Position
position_after position byte = record {
  offset = position.offset + 1;
  line = (after_byte (position.line, position.column) byte).0;
  column = (after_byte (position.line, position.column) byte).1;
}

-- the warnings of what is left of the bytes, from a position on
unfoldable pub text_warnings_from : Reading → Position → List ℕ → List WarningView
text_warnings_from reading position [] = []
text_warnings_from reading position (b ∷ rest) =
    warned (text_notice reading (step_of reading b (b ∷ rest) rest).reading (b ∷ rest) rest)
    position
    ++ text_warnings_from (step_of reading b (b ∷ rest) rest).reading (position_after position b)
    rest

-- the warnings of the form of a definition of these bytes, in their order
abbrev pub text_warnings : List ℕ → List WarningView
text_warnings bytes = text_warnings_from beginning whole (without_mark bytes)

-- something but white space is in a text
abbrev pub has_something : List ℕ → Bool
has_something text = list_any (λ b. not (is_space b)) text

-- A line of what is left of a text begins with EXPORTS, and something follows that; the rest may
-- begin a line.
unfoldable pub follows_exports : Bool → List ℕ → Bool
follows_exports starts [] = false
follows_exports starts (b ∷ rest) =
    if starts && begins_word (codes "EXPORTS") (b ∷ rest) then has_something (drop 7 (b ∷ rest))
    else follows_exports (b == 10 || (starts && is_space b)) rest

-- The warning, asked for or not, that a definition has no export though something follows EXPORTS.
abbrev pub none_warnings : List ℕ → List ExportView → List WarningView
none_warnings text exports =
    if follows_exports true text then warned (no_export_notice exports) whole else []
