use Rattle.std.proofs.Common.{arith, ◌≡◌, ℕ, Bor, List, None, subst}
use Rattle.std.specs.Option.{option_map}
use Rattle.implib.specs.Definition.{DefinitionView, definition_view}
use Rattle.implib.specs.LibraryName.{names_for}
use Rattle.implib.specs.Text.Parses.{Parses}
use Rattle.implib.specs.declared.flavor.Flavor.TheVariants.{Msvc}
use Rattle.implib.specs.declared.machine.MachineType.TheVariants.{AMD64}
use Rattle.implib_arm64ec.specs.LibraryImports.{imports_fault, imports_of}
use Rattle.implib_libraries.specs.Arm64ec.{arm64ec_options}
use Rattle.implib_rules.specs.Library.{DefinitionFor}
use Rattle.implib_rules.specs.Options.{library_options_view}
use Rattle.implib_rules.proofs.Made.{found_in}
use Rattle.implib_libraries.proofs.arm64ec.library_named.Goals as goal

pub returns-in-Ok-ordinary_for-clause-made : goal.returns-in-Ok-ordinary_for-clause-made
returns-in-Ok-ordinary_for-clause-made c =
    let bytes = c.args.bytes.now in
    let options = library_options_view c.args.options.now in
    let native = option_map (λ (text : Bor (List ℕ)). text.now) c.args.native in
    let d = definition_view c.in-Ok-definition_for.def in
    let imports = c.in-Ok-imports_for.imports in
    let found = found_in bytes c.in-Ok.text.now c.in_ok-read.read c.in_ok-read.ensures c.in-Ok.ensures in
    let read : DefinitionFor c.in-Ok.text.now (arm64ec_options options) d = grind (arith, c.arm64ec_options.ensures, c.in-Ok-definition_for.ensures.meant) in
    record {
      utf8 = found.1;
      definition = d;
      of_text = subst (λ t. DefinitionFor t (arm64ec_options options) d) found.0 read;
      written = definition_view c.in-Ok-parse.written;
      parses = subst (λ t. Parses t AMD64 (definition_view c.in-Ok-parse.written)) found.0 c.in-Ok-parse.ensures.parses;
      ordinary = grind (arith, c.as_str.ensures.value, c.in_ok-def.ensures, c.in-Ok-ordinary_for.ensures.made);
      imports = subst (λ (v : DefinitionView). imports ≡ imports_of (names_for Msvc v) v.exports) c.in_ok-def.ensures c.in-Ok-imports_for.ensures.made;
      accepted = subst (λ (v : DefinitionView). imports_fault (names_for Msvc v) v.exports ≡ None) c.in_ok-def.ensures c.in-Ok-imports_for.ensures.accepted;
    }

pub returns-clause-refused : goal.returns-clause-refused
returns-clause-refused c =
    let bytes = c.args.bytes.now in
    let options = library_options_view c.args.options.now in
    let native = option_map (λ (text : Bor (List ℕ)). text.now) c.args.native in
    let d = definition_view c.in-Ok-definition_for.def in
    let found = found_in bytes c.in-Ok.text.now c.in_ok-read.read c.in_ok-read.ensures c.in-Ok.ensures in
    let read : DefinitionFor c.in-Ok.text.now (arm64ec_options options) d = grind (arith, c.arm64ec_options.ensures, c.in-Ok-definition_for.ensures.meant) in
    record {
      utf8 = found.1;
      definition = d;
      of_text = subst (λ t. DefinitionFor t (arm64ec_options options) d) found.0 read;
      refused = grind (arith, c.as_str.ensures.value, c.in_ok-def.ensures, c.in-Err-ordinary_for.ensures.refused);
    }
