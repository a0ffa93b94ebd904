use Rattle.std.proofs.Common.{map, ◌≡◌, ◌++◌, drop, None}
use Rattle.std.specs.Prelude.{not}
use Rattle.std.specs.List.{filter, flat_map, list_all, list_any}
use Rattle.implib.specs.Definition.{definition_view, export_view}
use Rattle.implib.specs.Import.{public_exports}
use Rattle.implib.specs.LibraryName.{names_for}
use Rattle.implib.specs.Library.{member_view}
use Rattle.implib.specs.Members.MsvcMembers.{export_specs}
use Rattle.implib.specs.Members.Members.{has_u16_ordinal, is_too_long, member_specs}
use Rattle.implib.specs.Members.MemberSpec.{member_of}
use Rattle.implib.specs.Members.NameRules.{names_refusal}
use Rattle.implib.specs.declared.flavor.Flavor.TheVariants.{Msvc}
use Rattle.implib.proofs.msvc.members.build.Given as goal

-- the members so far and those of the exports that are left are all; none so far is too long
abbrev pub invariant-loop-export : goal.invariant-loop-export
invariant-loop-export l =
    let exports = map export_view (drop l.export-index l.def.exports.items) in
    let public = filter (λ e. not e.private) exports in
    let specs = flat_map (export_specs l.machine (names_for Msvc (definition_view l.def))) public in
    record {
      named : names_refusal Msvc l.machine l.export-index exports ≡ None;
      made : map member_view l.members.items ++ map member_of specs
          ≡ map member_of (member_specs (definition_view l.def) l.machine Msvc);
      fit : list_any is_too_long specs ≡ list_any is_too_long (member_specs (definition_view l.def) l.machine Msvc);
      ordinals : list_all has_u16_ordinal public ≡ list_all has_u16_ordinal (public_exports (definition_view l.def));
    }
