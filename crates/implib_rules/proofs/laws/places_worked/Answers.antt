use Rattle.std.proofs.Common.{◌≡◌, Ok, refl, subst, true}
use Rattle.std.proofs.lemmas.Str.{IsUtf8-from_is_utf8}
use Rattle.std.specs.Str.{is_utf8}
use Rattle.implib.specs.declared.machine.MachineType.TheVariants.{AMD64}
use Rattle.implib.specs.Definition.{DefinitionView}
use Rattle.implib.specs.Text.Heard.{IsHeard}
use Rattle.implib.specs.Text.Token.{tokens_of}
use Rattle.implib.specs.Views.Hearing.{many_heard, statements_heard}
use Rattle.implib.specs.Views.Scanner.{lexemes_in}
use Rattle.implib.specs.Views.TokenReader.{read}
use Rattle.implib.proofs.Text.ParserAnswers.{heard-from_read}
use Rattle.implib.proofs.Text.Token.{Lexed-exists}
use Rattle.implib.proofs.Worked.Statements.{opened}
use Rattle.implib_rules.specs.Places.{walked}
use Rattle.implib_rules.specs.WorkedWarnings.{lined_heard, lined_text}
use Rattle.implib_rules.proofs.laws.places_worked.Goals as goal

heard : (d : DefinitionView) → is_utf8 lined_text ≡ true → read AMD64 (tokens_of 0 (lexemes_in lined_text)) ≡ Ok d → statements_heard (tokens_of 0 (lexemes_in lined_text)) ≡ lined_heard → IsHeard lined_text lined_heard
heard d utf8 e same = subst (IsHeard lined_text) same (heard-from_read lined_text (tokens_of 0 (lexemes_in lined_text)) AMD64 d (Lexed-exists lined_text (IsUtf8-from_is_utf8 lined_text utf8)) e)

pub returns : goal.returns
unfolding walked opened many_heard statements_heard
returns c = record {
  attributes = refl;
  is_heard = heard _ refl refl refl;
  names = refl;
  lined = refl;
}
