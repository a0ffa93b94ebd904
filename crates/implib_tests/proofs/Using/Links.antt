-- What the law of texts gives, as a loader sees it.
use Rattle.std.proofs.Common.{◌+◌, ℕ, List, map, refl, subst, add-zero}
use Rattle.implib.specs.declared.machine.MachineType.{MachineType}
use Rattle.implib.specs.Asked.{exports_of_text}
use Rattle.implib.specs.Link.Image.{image_of}
use Rattle.implib.specs.Import.{Ask}
use Rattle.implib.specs.Members.ImportTables.{thunk_width}
use Rattle.implib.specs.Link.Load.{Loads}
use Rattle.implib.specs.Members.MemberSpec.{MemberView}
use Rattle.implib.specs.Link.Placement.{placed_from}
use Rattle.implib_link.specs.Flavors.Texts.{ask_stated, chosen_stated, LinkInFlavor, flavor_source}
use Rattle.implib_link.specs.Flavors.Program.{OfLinker}
use Rattle.implib.specs.declared.flavor.Flavor.TheVariants.{Gnu}
use Rattle.implib_tests.specs.Using.Callers.{ImportsJustThese}

pub imports_just_these : (text : List ℕ) (machine : MachineType) (members : List MemberView) →
    LinkInFlavor text machine Gnu members → ImportsJustThese text machine members
imports_just_these text machine members given = record {
  library = given.0;
  loads = λ chosen bases objects program.
      let image = image_of machine bases (placed_from bases objects) in
      let links = given.1.1 OfLinker chosen bases objects program in
      let here = links.imports 0 (flavor_source Gnu text given.0 members chosen) refl in
      let asks = map ask_stated (chosen_stated here.parsed (exports_of_text here.parses.statements) chosen) in
      record {
        parsed = here.parsed;
        parses = here.parses;
        loads =
            subst (λ (descriptor : ℕ). Loads image (thunk_width machine) descriptor here.parsed.import_name asks)
            (add-zero bases.descriptors)
            (subst
            (λ (asks : List Ask). Loads image (thunk_width machine) (bases.descriptors + 0) here.parsed.import_name asks)
            here.asks here.imports.loads.plain);
      };
}
