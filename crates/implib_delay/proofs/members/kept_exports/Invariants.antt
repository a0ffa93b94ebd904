use Rattle.std.proofs.Common.{map, ◌≡◌, ◌++◌, ◌≤◌, drop, None}
use Rattle.std.specs.Prelude.{not}
use Rattle.std.specs.List.{filter, list_all, list_any}
use Rattle.implib.specs.Definition.{definition_view, export_view}
use Rattle.implib.specs.Import.{public_exports}
use Rattle.implib.specs.LibraryName.{linked_name}
use Rattle.implib.specs.Members.Members.{has_u16_ordinal, is_too_long}
use Rattle.implib.specs.Members.MemberSpec.{member_of}
use Rattle.implib.specs.Members.NameRules.{names_refusal}
use Rattle.implib_delay.specs.Members.{numbered_specs}
use Rattle.implib.specs.declared.flavor.Flavor.TheVariants.{Gnu}
use Rattle.implib_delay.proofs.members.kept_exports.Given as goal

-- the members so far and those of the exports that are left are all; none so far is too long
abbrev pub invariant-loop-export : goal.invariant-loop-export
invariant-loop-export l =
    let exports = map export_view (drop l.export-index l.def.exports.items) in
    let public = filter (λ e. not e.private) exports in
    let dll = linked_name (definition_view l.def) in
    let specs = numbered_specs l.fn.machine dll l.number public in
    let all = numbered_specs l.fn.machine dll 0 (public_exports (definition_view l.def)) in
    record {
      same_machine : l.exports.machine ≡ l.fn.machine;
      same_library : l.exports.linked ≡ dll;
      counted : l.number ≤ l.export-index;
      named : names_refusal Gnu l.fn.machine l.export-index exports ≡ None;
      made : l.exports.members ++ map member_of specs ≡ map member_of all;
      fit : list_any is_too_long specs ≡ list_any is_too_long all;
      ordinals : list_all has_u16_ordinal public ≡ list_all has_u16_ordinal (public_exports (definition_view l.def));
    }
