use Rattle.implib_link.proofs.Search.CommandLines.{gnu_completes, gnu_searches}
use Rattle.implib_link.proofs.laws.command_lines.command_lines_are_searched.Goals as goal

pub returns : goal.returns
returns c = record {
  gnu = λ reads members inputs taken first none ordered is. gnu_searches reads members inputs taken first none ordered is;
  complete = λ reads members inputs taken first none complete is. gnu_completes reads members inputs taken first none complete is;
}
