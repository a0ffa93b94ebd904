use Rattle.implib_libraries.proofs.null_descriptor.headers.descriptor_object.Goals as goal

pub returns : goal.returns
returns c = rw (c.in_ok-relocate-3.ensures.ok, c.in_ok-relocate-2.ensures.ok, c.in_ok-relocate.ensures.ok, c.in_ok-add_descriptor_symbols.ensures.ok, c.in_ok-add_section-2.ensures.ok, c.in_ok-add_section.ensures.ok, c.new-writer.ensures, c.deref.ensures.value, c.in_ok-text.ensures) at c.written.ensures
