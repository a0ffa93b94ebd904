-- What is heard of the worked texts, by computing.
use Rattle.std.proofs.Common.{◌≡◌, ℕ, List, [], ◌∷◌, Bool, true, false, ◌&&◌, codes, nat_eq, Ok, refl, sym, ap, ◌∙◌}
use Rattle.std.proofs.lemmas.Bool.{false≢true}
use Rattle.std.proofs.lemmas.Str.{IsUtf8-from_is_utf8}
use Rattle.std.specs.Str.{bytes_eq, is_utf8}
use Rattle.implib.specs.declared.def.lexer.TokenKind.TheVariants as kind
use Rattle.implib.specs.declared.def.listener.Role.{Role}
use Rattle.implib.specs.declared.def.listener.Role.TheVariants.{Name, Other}
use Rattle.implib.specs.declared.machine.MachineType.TheVariants.{AMD64}
use Rattle.implib.specs.Definition.{DefinitionView}
use Rattle.implib.specs.Text.Heard.{Heard, IsHeard}
use Rattle.implib.specs.Text.Token.{tokens_of}
use Rattle.implib.specs.Views.Hearing.{many_heard, statements_heard}
use Rattle.implib.specs.Views.Scanner.{lexemes_in}
use Rattle.implib.specs.Views.TokenReader.{read}
use Rattle.implib.specs.Worked.Heard.{WorkedHeard, keyword, name, other}
use Rattle.implib.proofs.Text.HeardNames.{heard_once}
use Rattle.implib.proofs.Text.ParserAnswers.{heard-from_read}
use Rattle.implib.proofs.Text.Token.{Lexed-exists}
use Rattle.implib.proofs.Text.TokenKinds.{is_same}
use Rattle.implib.proofs.Worked.Statements.{opened}

hears : (text : List ℕ) (d : DefinitionView) (heard : List Heard) → is_utf8 text ≡ true → read AMD64 (tokens_of 0 (lexemes_in text)) ≡ Ok d → statements_heard (tokens_of 0 (lexemes_in text)) ≡ heard → IsHeard text heard
hears text d heard utf8 e same = rw (← same) (heard-from_read text (tokens_of 0 (lexemes_in text)) AMD64 d (Lexed-exists text (IsUtf8-from_is_utf8 text utf8)) e)

-- two lists are alike, by their roles, kinds, offsets and values
abbrev same_role : Role → Role → Bool
same_role Name Name = true
same_role Other Other = true
same_role _ _ = false

abbrev same : List Heard → List Heard → Bool
same [] [] = true
same (h ∷ heard) (k ∷ others) =
    (same_role h.role k.role && is_same h.token.kind k.token.kind) && ((nat_eq h.token.at k.token.at && bytes_eq h.token.value k.token.value) && same heard others)
same _ _ = false

-- nothing else is heard of a text
hears_not : (text : List ℕ) (heard others : List Heard) → is_utf8 text ≡ true → IsHeard text heard → same heard heard ≡ true → same heard others ≡ false → ¬ (IsHeard text others)
hears_not text heard others utf8 is alike apart other =
    false≢true (sym apart ∙ ap (same heard) (sym (heard_once text heard others (IsUtf8-from_is_utf8 text utf8) is other)) ∙ alike)

bare : IsHeard (codes "EXPORTS f") (keyword ∷ name (codes "f") 8 ∷ [])
unfolding opened many_heard statements_heard
bare = hears _ _ _ refl refl refl

target : IsHeard (codes "EXPORTS f=f") (keyword ∷ name (codes "f") 8 ∷ other kind.Equal (codes "=") 9 ∷ other kind.Identifier (codes "f") 10 ∷ [])
unfolding opened many_heard statements_heard
target = hears _ _ _ refl refl refl

pub worked_heard : WorkedHeard
unfolding opened many_heard statements_heard
worked_heard = record {
  nothing = hears _ _ _ refl refl refl;
  sizes = hears _ _ _ refl refl refl;
  heading = hears _ _ _ refl refl refl;
  exports = hears _ _ _ refl refl refl;
  two_statements = hears _ _ _ refl refl refl;
  target = target;
  not_the_target = hears_not _ _ _ refl target refl refl;
  bare = bare;
  not_another_role = hears_not _ _ _ refl bare refl refl;
  not_another_kind = hears_not _ _ _ refl bare refl refl;
  not_another_value = hears_not _ _ _ refl bare refl refl;
  not_another_offset = hears_not _ _ _ refl bare refl refl;
  not_too_few = hears_not _ _ _ refl bare refl refl;
  not_the_end = hears_not _ _ _ refl bare refl refl;
}
