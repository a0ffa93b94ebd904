use Rattle.std.proofs.Common.{◌≡◌, ◌++◌, ◌∷◌, [], ◌||◌, false, map, ap, ◌∙◌}
use Rattle.std.specs.List.{list_any}
use Rattle.implib.specs.Definition.{definition_view}
use Rattle.implib.specs.Import.{public_exports}
use Rattle.implib.specs.LibraryName.{linked_name, names_for}
use Rattle.implib.specs.declared.flavor.Flavor.TheVariants.{Gnu}
use Rattle.implib.specs.Library.{member_view}
use Rattle.implib.specs.Members.GnuMembers.{head_spec, tail_spec}
use Rattle.implib.specs.Members.OlderSymbols.{numbered_older_specs}
use Rattle.implib.specs.Members.Members.{is_too_long}
use Rattle.implib.specs.Members.MemberSpec.{member_of}
use Rattle.implib.proofs.Members.GnuLoop.{long_turned, made_turned, map-reverse}
use Rattle.implib.proofs.gnu.older.named_members.Goals as goal

pub returns-clause-made : goal.returns-clause-made
returns-clause-made c =
    let machine = c.args.machine in
    let d = definition_view c.args.def.now in
    let dll = linked_name d in
    let tail = tail_spec machine (names_for Gnu d) in
    let built = numbered_older_specs machine dll 0 (public_exports (definition_view c.args.def.now)) in
    let pushed : map member_view c.push_head_and_tail.new.members.items ≡ map member_of built ++ map member_of (head_spec machine dll ∷ tail ∷ []) =
    rw (c.in_ok-members.ensures.made.ok, c.linked_name-library.ensures, c.as_str-2.ensures.value) at c.in_ok-push_head_and_tail.ensures.ok in
    let head_and_tail : list_any is_too_long (head_spec machine dll ∷ tail ∷ []) ≡ false =
    rw (c.linked_name-library.ensures, c.as_str-2.ensures.value) at c.in_ok-push_head_and_tail.ensures.fit in
    record {
      ok =
          ap (map member_view) c.reverse.ensures.items
          ∙ (map-reverse member_view c.push_head_and_tail.new.members.items
          ∙ made_turned (map member_view c.push_head_and_tail.new.members.items) built (head_spec machine dll) tail pushed);
      fit =
          long_turned built (head_spec machine dll) tail
          ∙ (ap (λ b. b || list_any is_too_long (head_spec machine dll ∷ tail ∷ [])) c.in_ok-members.ensures.made.fit ∙ head_and_tail);
      too_long = tt;
    }
