use Rattle.std.proofs.Common.{ℕ, map, ◌≡◌}
use Rattle.std.specs.List.{list_all, list_any}
use Rattle.implib.specs.Definition.{definition_view, export_view}
use Rattle.implib.specs.Import.{public_exports}
use Rattle.implib.specs.LibraryName.{names_for}
use Rattle.implib.specs.Library.{member_view}
use Rattle.implib.specs.Members.MemberLists.{all_alias_specs, all_import_specs}
use Rattle.implib.specs.Members.Members.{has_u16_ordinal, is_too_long, member_specs}
use Rattle.implib.specs.Members.MemberSpec.{member_of}
use Rattle.implib.specs.declared.flavor.Flavor.TheVariants.{Msvc}
use Rattle.implib.proofs.Members.MembersLoop.{Listed}
use Rattle.implib.proofs.msvc.members.build_lists.Given as goal

-- what is listed, and what the exports that are left list, are all; none so far is too long
abbrev pub invariant-loop-export : goal.invariant-loop-export
invariant-loop-export l =
    let d = definition_view l.fn.def in
    record {
      machine : l.imports.machine ≡ l.fn.machine;
      dll : l.imports.dll ≡ names_for Msvc d;
      index : ℕ;
      listed : Listed l.fn.machine (names_for Msvc d) (map member_of (all_import_specs l.fn.machine d)) (map member_of (all_alias_specs l.fn.machine d))
          (list_any is_too_long (member_specs d l.fn.machine Msvc)) (list_all has_u16_ordinal (public_exports d))
          index l.imports.members (map member_view l.aliases.items) (map export_view l.export-iterator.rest.items);
    }
