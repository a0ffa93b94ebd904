use Rattle.std.proofs.Common.{◌-◌, arith, refl}
use Rattle.std.proofs.lemmas.Result.{err_from_is_err_and}
use Rattle.implib.specs.Formats.Writer.{HasRoomFor}
use Rattle.implib.specs.Views.Writer.{writer_state}
use Rattle.implib.proofs.Formats.WriterSound.{sections_with_relocation-numbered, sections-same, shown_with, sound_relocation}
use Rattle.implib.proofs.coff.writer.ObjectWriter.add_relocation.Goals as goal

pub invariant_of-self : goal.invariant_of-self
invariant_of-self c =
    let e = shown_with c.index_mut-section.result.now c.push.new.self _ c.in_err-push.ensures.items in
    rw (sections-same c.self.inside.sections.items (c.args.section - 1) c.index_mut-section.result.now (record c.index_mut-section.result.now { relocations = c.push.new.self }) c.index_mut-section.ensures.value e)
    c.self.invariant

pub returns-in_err-push-clause-err : goal.returns-in_err-push-clause-err
returns-in_err-push-clause-err c =
    let p = err_from_is_err_and c.from_residual.result c.from_residual.ensures.1 in
    let e = shown_with c.index_mut-section.result.now c.push.new.self _ c.in_err-push.ensures.items in
    rw (p.1, sections-same c.self.inside.sections.items (c.args.section - 1) c.index_mut-section.result.now (record c.index_mut-section.result.now { relocations = c.push.new.self }) c.index_mut-section.ensures.value e)
    c.self.view_is

pub invariant_of-self-2 : goal.invariant_of-self-2
invariant_of-self-2 c =
    let there = rw (← c.self.view_is) at c.requires.section in
    let index = rw (← c.self.view_is) at c.requires.symbol in
    let e = shown_with c.index_mut-section.result.now c.push.new.self _ c.in_ok-push.ensures.items in
    rw (sections_with_relocation-numbered c.self.inside.sections.items c.args.section c.args.relocation c.index_mut-section.result.now (record c.index_mut-section.result.now { relocations = c.push.new.self }) (HasRoomFor c.args.relocation) there c.index_mut-section.ensures.value e)
    (sound_relocation (writer_state c.self.inside.machine c.self.inside.sections.items c.self.inside.symbols.items) c.self.inside.records c.args.section c.args.relocation
    c.self.invariant there index (record { offset = omega arith; symbol = omega arith; kind = omega arith }))

pub returns-clause-ok : goal.returns-clause-ok
returns-clause-ok c =
    let there = rw (← c.self.view_is) at c.requires.section in
    let e = shown_with c.index_mut-section.result.now c.push.new.self _ c.in_ok-push.ensures.items in
    rw (← c.self.view_is, sections_with_relocation-numbered c.self.inside.sections.items c.args.section c.args.relocation c.index_mut-section.result.now (record c.index_mut-section.result.now { relocations = c.push.new.self }) (HasRoomFor c.args.relocation) there c.index_mut-section.ensures.value e)
    refl
