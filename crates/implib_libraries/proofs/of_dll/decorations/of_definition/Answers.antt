use Rattle.std.proofs.Common.{arith, ◌∙◌, ap, map}
use Rattle.std.specs.List.{flat_map}
use Rattle.implib.specs.Definition.{definition_view, export_view}
use Rattle.implib_rules.proofs.Made.{found_in}
use Rattle.implib_libraries.specs.OfDll.Decorations.{of_export}
use Rattle.implib_libraries.proofs.of_dll.decorations.of_definition.Goals as goal

pub returns-clause-are : goal.returns-clause-are
returns-clause-are c =
    let text = c.in-Ok.text.now in
    let definition = definition_view c.in_ok-def.def in
    let found = found_in c.args.bytes.now text c.in_ok-read.read c.in_ok-read.ensures c.in-Ok.ensures in
    record {
      utf8 = found.1;
      definition = definition;
      of_text = grind (arith, c.reading.ensures, c.in_ok-def.ensures.meant);
      are = c.in_ok-of_exports.ensures ∙ ap (λ xs. flat_map of_export (map export_view xs)) c.as_slice.ensures.value;
    }
