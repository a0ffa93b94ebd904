-- What the two calls promise is what the law asks for.
use Rattle.std.proofs.Common.{[], ◌∷◌, map}
use Rattle.implib.specs.Library.{member_view}
use Rattle.implib.specs.declared.flavor.Flavor.TheVariants.{Gnu}
use Rattle.implib_link.specs.Flavors.Texts.{FlavorSource, IsFlavorSource, flavor_source}
use Rattle.implib_tests.proofs.uses.linked.gnu_members_of_text.Goals as goal

pub returns : goal.returns
returns c = record {
  links = (
    c.in_ok-library.library,
    (
      c.in_ok-library.ensures.ok,
      λ ending chosen bases objects program.
          let source : FlavorSource = flavor_source Gnu c.args.text.now c.in_ok-library.library (map member_view c.in_ok-members.members.items) chosen in
          let is : IsFlavorSource c.args.machine source = record { of_text = c.in_ok-library.ensures.ok; made = c.in_ok-members.ensures.ok } in
          c.texts_link.ensures.links c.args.machine ending bases (source ∷ []) objects (is, tt) program,
    ),
  );
}
