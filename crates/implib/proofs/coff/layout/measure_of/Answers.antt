use Rattle.std.proofs.Common.{arith, refl}
use Rattle.std.proofs.lemmas.List.{length-map}
use Rattle.implib.specs.Formats.Layout.{contents_offset, encoded_size, records, strings_size, symbol_table_offset}
use Rattle.implib.specs.Formats.Writer.{section_view}
use Rattle.implib.proofs.coff.layout.measure_of.Goals as goal

pub returns-then-length-clause-refused : goal.returns-then-length-clause-refused
unfolding encoded_size symbol_table_offset contents_offset records strings_size
returns-then-length-clause-refused c = (refl, omega (arith, length-map c.args.layout.now.sections.now section_view))

pub returns-clause-measured : goal.returns-clause-measured
unfolding encoded_size symbol_table_offset contents_offset records strings_size
returns-clause-measured c =
    let size = length-map c.args.layout.now.sections.now section_view in
    record {
      symbol_table_offset = omega (arith, size);
      records = omega (arith, size);
      strings_size = omega (arith, size);
      length = omega (arith, size);
      short = omega (arith, size);
    }
