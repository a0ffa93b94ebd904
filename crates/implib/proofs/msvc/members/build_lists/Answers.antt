use Rattle.std.proofs.Common.{◌≡◌, ◌∙◌, ◌+◌, ℕ, List, ap, map, rules, subst}
use Rattle.std.proofs.lemmas.Result.{err_from_is_err_and}
use Rattle.std.specs.List.{list_all, list_any}
use Rattle.implib.specs.declared.flavor.Flavor.TheVariants.{Msvc}
use Rattle.implib.specs.Definition.{ExportView, definition_view, export_view}
use Rattle.implib.specs.Import.{public_exports}
use Rattle.implib.specs.Library.{member_view}
use Rattle.implib.specs.LibraryName.{NamesOfDll, names_for}
use Rattle.implib.specs.Members.MemberLists.{all_alias_specs, all_import_specs}
use Rattle.implib.specs.Members.Members.{has_u16_ordinal, is_too_long, member_specs}
use Rattle.implib.specs.Members.MemberSpec.{member_of}
use Rattle.implib.specs.Members.MsvcMembers.{export_specs}
use Rattle.implib.specs.Members.ShortImports.{ShortImportsView}
use Rattle.implib.proofs.Members.MembersLoop.{Listed, cause_of_long, listed_at_first, listed_private, listed_public, lists_refused, long_of_listed}
use Rattle.implib.proofs.msvc.members.build_lists.Goals as goal
use Rattle.implib.proofs.msvc.members.build_lists.Goals.{then-not-export+in_ok-push_listed, else-not-export}

abbrev named : List ℕ → List ℕ → NamesOfDll
named text linked = record { linked = linked; text = text }

pub loop-export-init : goal.loop-export-init
loop-export-init c =
    let d = definition_view c.args.def in
    let machine = c.args.machine in
    let made = c.in_ok-imports.ensures {u = tt} in
    let header = rw (c.as_str.ensures.value, c.requires.library) at (c.in_ok-push_header_members.ensures {u = tt}).fit in
    let none = ap (λ (i : ShortImportsView). i.members) made in
    let all : c.into_iter-export-iterator.result.rest.items ≡ c.args.def.exports.items = search rules in
    record {
      machine = ap (λ (i : ShortImportsView). i.machine) made;
      dll =
          ap (λ (i : ShortImportsView). i.dll) made
          ∙ ap (named d.import_name) c.requires.library;
      index = 0;
      listed =
          rw (none, c.new-aliases.ensures.items, all)
          (listed_at_first d machine c.requires.names header);
    }

pub returns-in_err-push_listed-clause-made : goal.returns-in_err-push_listed-clause-made
returns-in_err-push_listed-clause-made c =
    let d = definition_view c.args.def in
    let machine = c.args.machine in
    let invariant = c.loop-export.invariant in
    let p = err_from_is_err_and c.from_residual-in_err-push_listed.result c.from_residual-in_err-push_listed.ensures.1 in
    let before =
    subst (λ (exports : List ExportView). Listed machine (names_for Msvc d) (map member_of (all_import_specs machine d)) (map member_of (all_alias_specs machine d)) (list_any is_too_long (member_specs d machine Msvc)) (list_all has_u16_ordinal (public_exports d)) invariant.index c.loop-export.imports.members (map member_view c.loop-export.aliases.items) exports)
    (ap (map export_view) c.in-Some.ensures.steps.0) invariant.listed in
    rw (p.1, p.2)
    (lists_refused d machine c.in_err-push_listed.field-0.0
    (cause_of_long c.in_err-push_listed.field-0.0 (list_any is_too_long (export_specs machine (names_for Msvc d) (export_view c.in-Some.export))) (list_any is_too_long (member_specs d machine Msvc))
    (long_of_listed machine (names_for Msvc d) _ _ _ _ invariant.index _ _ (export_view c.in-Some.export) _ c.if-not-export.true before)
    (rw (invariant.machine, invariant.dll) at c.in_err-push_listed.ensures.pushed.too_long)))

pub loop-export-preserved : goal.loop-export-preserved
loop-export-preserved c =
    let machine = c.args.machine in
    let d = definition_view c.args.def in
    let dll = names_for Msvc d in
    let e = export_view c.in-Some.export in
    let others = map export_view c.next.new.self.rest.items in
    let invariant = c.loop-export.invariant in
    let before = subst (λ (exports : List ExportView). Listed machine dll (map member_of (all_import_specs machine d)) (map member_of (all_alias_specs machine d)) (list_any is_too_long (member_specs d machine Msvc)) (list_all has_u16_ordinal (public_exports d)) invariant.index c.loop-export.imports.members (map member_view c.loop-export.aliases.items) exports)
    (ap (map export_view) c.in-Some.ensures.steps.0) invariant.listed in
    elim c.if-not-export.branch [
      | then-not-export+in_ok-push_listed w ↦
          let pushed = rw (invariant.machine, invariant.dll) at (w.in_ok-push_listed.ensures {u = tt}).pushed in
          record {
            machine = rw w.imports-is (ap (λ (i : ShortImportsView). i.machine) pushed.imports_ok);
            dll = rw w.imports-is (ap (λ (i : ShortImportsView). i.dll) pushed.imports_ok);
            index = invariant.index + 1;
            listed =
                rw (w.imports-is, w.aliases-is)
                (listed_public machine dll _ _ _ _ invariant.index _ _ e others _ _ w.if-not-export.true before
                (ap (λ (i : ShortImportsView). i.members) pushed.imports_ok) pushed.aliases_ok pushed.fit
                (w.in_ok-push_listed.ensures {u = tt}).ordinal);
          }
      | else-not-export w ↦
          record {
            machine = rw w.imports-is invariant.machine;
            dll = rw w.imports-is invariant.dll;
            index = invariant.index + 1;
            listed = rw (w.imports-is, w.aliases-is) (listed_private machine dll _ _ _ _ invariant.index _ _ e others w.if-not-export.false before);
          }
    ]
