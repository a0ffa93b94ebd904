use Rattle.std.proofs.Common.{◌≡◌, arith}
use Rattle.std.proofs.lemmas.Str.{IsCharBoundary-after_ascii}
use Rattle.implib.specs.Ascii.{without_first}
use Rattle.implib_arm64ec.specs.Reading.{qualified_name, read}
use Rattle.implib_arm64ec.specs.declared.reading.Reading.TheVariants.{Ends}
use Rattle.implib_arm64ec.proofs.Marks.{EndsInside, begins_first, behind_first, length_behind}
use Rattle.implib_arm64ec.proofs.Read.{qualified_name_end, stops_within}
use Rattle.implib_arm64ec.proofs.names.mark_inside.Goals as goal

inside : (c : goal.In-Ends) → EndsInside c.args.name.now c.in-Ends.length
inside c =
    let name = c.args.name.now in
    let ends : read qualified_name (without_first name) ≡ Ends c.in-Ends.length = grind (arith, c.after_first.ensures, c.in_ok-length.ensures, c.in-Ends.is) in
    behind_first name c.in-Ends.length (qualified_name_end (without_first name) c.in-Ends.length ends)

pub overflow_add-length : goal.overflow_add-length
overflow_add-length c = let found = inside c in omega (arith, found.within)

pub marked_at-requires-clause-within : goal.marked_at-requires-clause-within
marked_at-requires-clause-within c = (inside c).within

pub marked_at-requires-clause-boundary : goal.marked_at-requires-clause-boundary
marked_at-requires-clause-boundary c = grind (arith, inside, IsCharBoundary-after_ascii, c.utf8.name)

pub overflow_add-result : goal.overflow_add-result
overflow_add-result c = grind (arith, stops_within, length_behind, begins_first, c.after_first.ensures, c.in_ok-length.ensures, c.in-Stops.is, c.requires)
