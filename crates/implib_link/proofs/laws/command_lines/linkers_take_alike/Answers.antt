use Rattle.implib_link.proofs.Search.CommandLines.{searches_alike, takes_alike}
use Rattle.implib_link.proofs.laws.command_lines.linkers_take_alike.Goals as goal

pub returns : goal.returns
returns c = record {
  same = λ reads members own taken other first second whole one two. searches_alike reads members own whole taken other first second one two;
  linkers = takes_alike;
}
