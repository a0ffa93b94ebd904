use Rattle.std.proofs.Common.{◌≡◌, ◌∙◌, ap, length, map, subst, sym, ◌<◌, ◌≤◌, ◌^◌, IfOk, OnOk, Some}
use Rattle.implib.specs.Fault.{IfInvalid, MemberTooLong}
use Rattle.implib.specs.Formats.Object.{object_in}
use Rattle.implib.specs.Formats.Layout.{Fits, encoded, encoded_size}
use Rattle.implib.specs.Formats.Writer.{WriterState, added_view, written_object, layout_of, section_view}
use Rattle.implib.proofs.Formats.WriterLayout.{layout_of-fits, object_of-layout_of}
use Rattle.implib.proofs.Formats.Written.{length_if_ok, read_if_ok, same_holding}
use Rattle.implib.proofs.coff.writer.ObjectWriter.write.Goals as goal
use Rattle.implib.proofs.coff.writer.ObjectWriter.write.Goals.{After-write_parts}

pub write_parts-requires : goal.write_parts-requires
write_parts-requires c =
    subst (λ (h : WriterState). Fits (layout_of h))
    (sym (same_holding c.args.self.now _ c.deref.result.now c.deref-2.result.now
    (ap (λ h. h.machine) c.self.view_is)
    (ap (map section_view) c.deref.ensures.value ∙ ap (λ h. h.sections) c.self.view_is)
    (ap (map added_view) c.deref-2.ensures.value ∙ ap (λ h. h.symbols) c.self.view_is)))
    (layout_of-fits c.args.self.now c.self.inside.records (rw c.self.view_is at c.self.invariant))

-- What is known of the result, fact by fact.

bytes_given : (c : After-write_parts) → IfOk c.write_parts.result (λ bytes. bytes.items ≡ encoded (layout_of c.args.self.now))
bytes_given c =
    subst (λ (h : WriterState). IfOk c.write_parts.result (λ bytes. bytes.items ≡ encoded (layout_of h)))
    (same_holding c.args.self.now _ c.deref.result.now c.deref-2.result.now
    (ap (λ h. h.machine) c.self.view_is)
    (ap (map section_view) c.deref.ensures.value ∙ ap (λ h. h.sections) c.self.view_is)
    (ap (map added_view) c.deref-2.ensures.value ∙ ap (λ h. h.symbols) c.self.view_is))
    c.write_parts.ensures.bytes

short_given : (c : After-write_parts) → OnOk c.write_parts.result (encoded_size (layout_of c.args.self.now) < 2 ^ 32)
short_given c =
    subst (λ (h : WriterState). OnOk c.write_parts.result (encoded_size (layout_of h) < 2 ^ 32))
    (same_holding c.args.self.now _ c.deref.result.now c.deref-2.result.now
    (ap (λ h. h.machine) c.self.view_is)
    (ap (map section_view) c.deref.ensures.value ∙ ap (λ h. h.sections) c.self.view_is)
    (ap (map added_view) c.deref-2.ensures.value ∙ ap (λ h. h.symbols) c.self.view_is))
    c.write_parts.ensures.short

refused_given : (c : After-write_parts) → IfInvalid c.write_parts.result (λ cause. (cause ≡ MemberTooLong) × (2 ^ 32 ≤ encoded_size (layout_of c.args.self.now)))
refused_given c =
    subst (λ (h : WriterState). IfInvalid c.write_parts.result (λ cause. (cause ≡ MemberTooLong) × (2 ^ 32 ≤ encoded_size (layout_of h))))
    (same_holding c.args.self.now _ c.deref.result.now c.deref-2.result.now
    (ap (λ h. h.machine) c.self.view_is)
    (ap (map section_view) c.deref.ensures.value ∙ ap (λ h. h.sections) c.self.view_is)
    (ap (map added_view) c.deref-2.ensures.value ∙ ap (λ h. h.symbols) c.self.view_is))
    c.write_parts.ensures.too_long

read_given : (c : After-write_parts) → IfOk c.write_parts.result (λ bytes. object_in bytes.items ≡ Some (written_object c.args.self.now))
read_given c =
    rw (← object_of-layout_of c.args.self.now)
    (read_if_ok (λ bytes. bytes.items) c.write_parts.result (layout_of c.args.self.now)
    (layout_of-fits c.args.self.now c.self.inside.records (rw c.self.view_is at c.self.invariant))
    (bytes_given c) (short_given c))

length_given : (c : After-write_parts) → IfOk c.write_parts.result (λ bytes. length bytes.items ≡ encoded_size (layout_of c.args.self.now))
length_given c =
    length_if_ok (λ bytes. bytes.items) c.write_parts.result (layout_of c.args.self.now)
    (layout_of-fits c.args.self.now c.self.inside.records (rw c.self.view_is at c.self.invariant))
    (bytes_given c) (short_given c)

pub returns : goal.returns
returns c = search (bytes_given c, short_given c, refused_given c, read_given c, length_given c)
