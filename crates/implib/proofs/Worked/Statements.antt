-- The worked texts, by computing.
use Rattle.std.proofs.Common.{arith, ◌≡◌, ℕ, List, true, length, Result, Ok, Err, refl, subst}
use Rattle.std.proofs.lemmas.Str.{IsUtf8-from_is_utf8}
use Rattle.std.specs.Char.{encode_utf8}
use Rattle.std.specs.Str.{chars, is_utf8, trim_end, trim_start}
use Rattle.implib.specs.declared.machine.MachineType.{MachineType}
use Rattle.implib.specs.declared.machine.MachineType.TheVariants.{AMD64}
use Rattle.implib.specs.Definition.{DefinitionView}
use Rattle.implib.specs.Fault.{Cause}
use Rattle.implib.specs.Text.Parses.{Parses, Refuses}
use Rattle.implib.specs.Views.TokenReader.{Refusal, number_of, version_of, at_word, word_read, number_read, version_read, commit_read, sizes_read, sign_read, base_read, name_read, no_name_read, ordinal_read, attribute_read, many, target_read, attributes_read, export_read, exports_read, statement_read, statements_read, made_export, with_statements, read}
use Rattle.implib.specs.Text.Token.{kind_of_word, tokens_of}
use Rattle.implib.specs.Views.Scanner.{lexemes_in, lexemes_within}
use Rattle.implib.specs.Worked.Statements.{WorkedSettings, WorkedExports, WorkedRefusals, WorkedFronts, HasExports, front}
use Rattle.implib.proofs.Text.TokenReader.{Parses-from_read, Refuses-from_read}
use Rattle.implib.proofs.Text.Token.{Lexed-exists}

pub parses : (text : List ℕ) (machine : MachineType) (d : DefinitionView) → is_utf8 text ≡ true → read machine (tokens_of 0 (lexemes_in text)) ≡ Ok d → Parses text machine d
parses text machine d utf8 e = Parses-from_read text (tokens_of 0 (lexemes_in text)) machine d (Lexed-exists text (IsUtf8-from_is_utf8 text utf8)) e

-- the tokens are refused, for this cause
abbrev IsFor : Cause → Result DefinitionView Refusal → Type 0
IsFor cause (Ok d) = ⊥
IsFor cause (Err refusal) = refusal.cause ≡ cause

refused_for : (text : List ℕ) (cause : Cause) (r : Result DefinitionView Refusal) → is_utf8 text ≡ true → read AMD64 (tokens_of 0 (lexemes_in text)) ≡ r → IsFor cause r → Refuses text cause
refused_for text cause (Ok d) utf8 e h = absurd h
refused_for text cause (Err refusal) utf8 e h =
    subst (Refuses text) h (Refuses-from_read text (tokens_of 0 (lexemes_in text)) AMD64 refusal (Lexed-exists text (IsUtf8-from_is_utf8 text utf8)) e)

refuses : (text : List ℕ) (cause : Cause) → is_utf8 text ≡ true → IsFor cause (read AMD64 (tokens_of 0 (lexemes_in text))) → Refuses text cause
refuses text cause utf8 h = refused_for text cause (read AMD64 (tokens_of 0 (lexemes_in text))) utf8 refl h

-- what the computing has to open
unfoldable pub opened : Unit {0}
unfolding chars is_utf8 encode_utf8 trim_end trim_start kind_of_word lexemes_within number_of version_of at_word word_read number_read version_read commit_read sizes_read sign_read base_read name_read no_name_read ordinal_read attribute_read many target_read attributes_read export_read exports_read statement_read statements_read made_export with_statements read
opened = tt

pub worked_settings : WorkedSettings
unfolding opened
worked_settings = record {
  empty = parses _ _ _ refl refl;
  two_sizes = parses _ _ _ refl refl;
  one_size = parses _ _ _ refl refl;
  stack_size = parses _ _ _ refl refl;
  greatest_size = parses _ _ _ refl refl;
  plus_and_zeros = parses _ _ _ refl refl;
  version = parses _ _ _ refl refl;
  lone_major = parses _ _ _ refl refl;
  greatest_version = parses _ _ _ refl refl;
  minor_above_16_bits = parses _ _ _ refl refl;
  greatest_minor = parses _ _ _ refl refl;
  base_above_32_bits = parses _ _ _ refl refl;
  greatest_base = parses _ _ _ refl refl;
  commit_above_32_bits = parses _ _ _ refl refl;
  name = parses _ _ _ refl refl;
  comment_before = parses _ _ _ refl refl;
  quoted_keyword = parses _ _ _ refl refl;
  based = parses _ _ _ refl refl;
  python = parses _ _ _ refl refl;
  last_name_wins = parses _ _ _ refl refl;
  exports_in_two_places = parses _ _ _ refl refl;
}

pub worked_exports : WorkedExports
unfolding opened
worked_exports = grind (arith, parses)

pub worked_refusals : WorkedRefusals
unfolding opened
worked_refusals = grind (arith, refuses)

-- a definition is read, with so many exports
abbrev Counts : ℕ → Result DefinitionView Refusal → Type 0
Counts count (Ok d) = length d.exports ≡ count
Counts count (Err cause) = ⊥

counted : (count n : ℕ) (r : Result DefinitionView Refusal) → is_utf8 (front n) ≡ true → read AMD64 (tokens_of 0 (lexemes_in (front n))) ≡ r → Counts count r → HasExports count n
counted count n (Ok d) utf8 e many = (d, parses (front n) AMD64 d utf8 e, many)
counted count n (Err cause) utf8 e many = absurd many

has_exports : (count n : ℕ) → is_utf8 (front n) ≡ true → Counts count (read AMD64 (tokens_of 0 (lexemes_in (front n)))) → HasExports count n
has_exports count n utf8 many = counted count n (read AMD64 (tokens_of 0 (lexemes_in (front n)))) utf8 refl many

pub worked_fronts : WorkedFronts
unfolding opened
worked_fronts = record {
  no_export = (has_exports 0 0 refl refl, (has_exports 0 7 refl refl, (has_exports 0 8 refl refl, tt)));
  one_export = (has_exports 1 9 refl refl, (has_exports 1 10 refl refl, (has_exports 1 11 refl refl, (has_exports 1 12 refl refl, (has_exports 1 15 refl refl, (has_exports 1 16 refl refl, (has_exports 1 17 refl refl, (has_exports 1 18 refl refl, (has_exports 1 22 refl refl, (has_exports 1 23 refl refl, (has_exports 1 24 refl refl, (has_exports 1 25 refl refl, (has_exports 1 28 refl refl, (has_exports 1 29 refl refl, (has_exports 1 35 refl refl, tt)))))))))))))));
  two_exports = (has_exports 2 30 refl refl, (has_exports 2 31 refl refl, (has_exports 2 32 refl refl, (has_exports 2 33 refl refl, (has_exports 2 34 refl refl, tt)))));
  part_of_directive = (refuses (front 1) _ refl refl, (refuses (front 2) _ refl refl, (refuses (front 3) _ refl refl, (refuses (front 4) _ refl refl, (refuses (front 5) _ refl refl, (refuses (front 6) _ refl refl, tt))))));
  second_sign = refuses _ _ refl refl;
  word_or_ordinal_expected = (refuses (front 13) _ refl refl, (refuses (front 14) _ refl refl, (refuses (front 20) _ refl refl, (refuses (front 21) _ refl refl, (refuses (front 26) _ refl refl, (refuses (front 27) _ refl refl, tt))))));
}
