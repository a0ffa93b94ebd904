use Rattle.std.proofs.Common.{ap, length, refl, string_bytes}
use Rattle.std.proofs.lemmas.Option.{slice_get_past, slice_get_read}
use Rattle.implib.proofs.Members.KeptImports.{at_none, size_at}
use Rattle.implib.proofs.msvc.short_imports.ShortImports.size.Goals as goal

pub returns-in-Some-clause-member : goal.returns-in-Some-clause-member
returns-in-Some-clause-member c =
    let inside = c.self.inside in
    let items = inside.imports.items in
    let look = rw c.deref.ensures.value at c.in-Some.ensures.lookup in
    rw (← c.self.view_is)
    (size_at inside.machine (record { linked = string_bytes inside.library; text = string_bytes inside.dll }) items c.args.index
    c.in-Some.kept.now _ _ c.self.invariant (slice_get_read items (length items) c.args.index c.in-Some.kept.now refl look.3.0 look.1) (ap length c.as_str.ensures.value) (ap length c.as_str-in-Some.ensures.value))

pub returns-in-None-clause-member : goal.returns-in-None-clause-member
returns-in-None-clause-member c =
    let inside = c.self.inside in
    let items = inside.imports.items in
    let look = rw c.deref.ensures.value at c.in-None.ensures.lookup in
    rw (← c.self.view_is)
    (at_none inside.machine (record { linked = string_bytes inside.library; text = string_bytes inside.dll }) items c.args.index
    _ (slice_get_past items c.args.index look.3))
