use Rattle.std.proofs.Common.{length, refl, string_bytes}
use Rattle.std.proofs.lemmas.Option.{slice_get_past, slice_get_read}
use Rattle.implib.proofs.Members.KeptObjects.{at_none, size_at}
use Rattle.implib.proofs.gnu.export_objects.ExportObjects.size.Goals as goal

pub returns-in-Some-clause-member : goal.returns-in-Some-clause-member
returns-in-Some-clause-member c =
    let inside = c.self.inside in
    let items = inside.objects.items in
    let look = rw c.deref.ensures.value at c.in-Some.ensures.lookup in
    rw (← c.self.view_is)
    (size_at inside.machine (string_bytes inside.library) items c.args.index c.in-Some.kept.now c.size.result
    c.self.invariant.free c.self.invariant.each (slice_get_read items (length items) c.args.index c.in-Some.kept.now refl look.3.0 look.1)
    (c.size.ensures (string_bytes inside.library) (rw c.as_str.ensures.value c.self.invariant.head)))

pub returns-in-None-clause-member : goal.returns-in-None-clause-member
returns-in-None-clause-member c =
    let inside = c.self.inside in
    let items = inside.objects.items in
    let look = rw c.deref.ensures.value at c.in-None.ensures.lookup in
    rw (← c.self.view_is)
    (at_none inside.machine (string_bytes inside.library) items c.args.index _ (slice_get_past items c.args.index look.3))
