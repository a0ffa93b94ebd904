use Rattle.implib_libraries.proofs.null_descriptor.headers.null_object.Goals as goal

pub returns : goal.returns
returns c = rw (c.in_ok-add_symbol.ensures.ok, c.in_ok-add_section.ensures.ok, c.new-writer.ensures) at c.written.ensures
