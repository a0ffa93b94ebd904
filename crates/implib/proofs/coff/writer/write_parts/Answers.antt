use Rattle.std.proofs.Common.{◌≡◌, ◌∙◌, ap, map, refl}
use Rattle.implib.specs.Views.Layout.{layout_view, symbol_view}
use Rattle.implib.specs.Formats.Writer.{added_view, layout_of}
use Rattle.implib.specs.Views.Writer.{writer_state}
use Rattle.implib.proofs.Formats.Written.{layout_same}
use Rattle.implib.proofs.coff.writer.write_parts.Goals as goal
use Rattle.implib.proofs.coff.writer.write_parts.Goals.{After-drop-names-5}

pub encode-requires : goal.encode-requires
encode-requires c =
    rw (layout_same (writer_state c.args.machine c.args.sections.now c.args.symbols.now) c.number.result c.args.sections c.deref.result c.as_slice.result (map added_view c.args.symbols.now)
    c.number.ensures refl refl
    (ap (map symbol_view) c.deref.ensures.value ∙ c.in_ok-names.ensures.symbols)
    (ap (map (λ t. t.now)) c.as_slice.ensures.keys ∙ c.in_ok-names.ensures.strings))
    c.requires

-- the layout that is laid out is that of the parts
same : (c : After-drop-names-5) → layout_view (record { machine = c.number.result; characteristics = 0; sections = c.args.sections; symbols = c.deref.result; strings = c.as_slice.result }) ≡ layout_of (writer_state c.args.machine c.args.sections.now c.args.symbols.now)
same c = layout_same (writer_state c.args.machine c.args.sections.now c.args.symbols.now) c.number.result c.args.sections c.deref.result c.as_slice.result (map added_view c.args.symbols.now)
    c.number.ensures refl refl
    (ap (map symbol_view) c.deref.ensures.value ∙ c.in_ok-names.ensures.symbols)
    (ap (map (λ t. t.now)) c.as_slice.ensures.keys ∙ c.in_ok-names.ensures.strings)

pub returns : goal.returns
returns c = rw (← same c) c.encode.ensures
