use Rattle.std.proofs.Common.{◌<◌, ◌++◌, List, length, map}
use denote.Text.{Utf8}
use denote.Shadow.{shadow}
use Rattle.implib_options.specs.Given.{GivenView, given_view}
use Rattle.implib_options.specs.Saying.{Saying}
use Rattle.implib_options.specs.Words.{AddsLetters, IsLettered}
use Rattle.implib_options.proofs.words.add_letters.Given as goal

abbrev pub invariant-letters : goal.invariant-letters
invariant-letters l = record {
  utf8 : shadow (Utf8 l.text);
  some : 0 < length l.text;
  led : (front : List GivenView) (more : Saying) → IsLettered l.of l.word l.text front more
      → AddsLetters l.of l.word l.letters (map given_view l.initial.given.items) (map given_view l.given.items ++ front) more;
}

abbrev pub decreases-letters : goal.decreases-letters
decreases-letters l = length l.text
