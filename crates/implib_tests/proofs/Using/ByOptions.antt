-- Members of libraries by options are such as the laws of links speak of.
use Rattle.std.proofs.Common.{◌≡◌, Bool, false, ℕ, List, map, refl, ap, sym, ◌∙◌, subst}
use Rattle.std.specs.List.{AllByRecursion, Contains}
use Rattle.implib.specs.declared.flavor.Flavor.{Flavor}
use Rattle.implib.specs.declared.flavor.Flavor.TheVariants.{Gnu, Msvc}
use Rattle.implib.specs.declared.machine.MachineType.{MachineType}
use Rattle.implib.specs.Definition.{DefinitionView, ExportView}
use Rattle.implib.specs.Link.LinkedMembers.{linked_members}
use Rattle.implib.specs.Members.Members.{member_specs}
use Rattle.implib.specs.Members.MemberSpec.{MemberView, member_of}
use Rattle.implib.specs.Renaming.{renamed}
use Rattle.implib.proofs.Link.LinkedMembers.{members_among}
use Rattle.implib.proofs.Members.Renaming.{renamed_twice}
use Rattle.implib_link.specs.Flavors.Program.{IsMadeFor}
use Rattle.implib_link.proofs.Parts.Members.{members_are_part, members_store_none, older_held, older_part, older_stores_none}
use Rattle.implib_rules.specs.ExportAs.{AreMadeFor, definition_made}
use Rattle.implib_rules.specs.Library.{MembersFor}
use Rattle.implib_rules.specs.Linked.{NamingView}
use Rattle.implib_rules.specs.Older.{OlderMembersFor}
use Rattle.implib_rules.specs.Options.{LibraryOptionsView}
use Rattle.implib_tests.specs.Using.Options.{LinkAsOlderPart, LinkAsPart, LinkInPrograms, input_of}

-- all members of a definition are those of its library for GNU's linker
same_members : (naming : NamingView) (definition : DefinitionView) (machine : MachineType) (members : List MemberView) (made : AreMadeFor naming (renamed definition) machine Gnu members) → made.all ≡ members
same_members naming definition machine members made =
    made.made.made ∙ ap (λ (d : DefinitionView). map member_of (member_specs d machine Gnu)) (renamed_twice definition) ∙ sym made.is

pub link_as_part : (bytes : List ℕ) (options : LibraryOptionsView) (members : List MemberView) (chosen : List ℕ) → MembersFor bytes options members → options.flavor ≡ Gnu → LinkAsPart bytes options members chosen
link_as_part bytes options members chosen of_options gnu =
    let d : DefinitionView = of_options.definition in
    let made : AreMadeFor options.naming (renamed d) options.machine Gnu members = subst (λ (f : Flavor). AreMadeFor options.naming (renamed d) options.machine f members) gnu of_options.made_for in
    let same : made.all ≡ members = same_members options.naming d options.machine members made in
    record {
      definition = d;
      of_text = of_options.of_text;
      held = subst (λ ms. AllByRecursion (Contains ms) (linked_members (renamed d) options.machine chosen)) same (members_among (renamed d) options.machine made.all chosen made.made);
      part = members_are_part options.machine (input_of d made.all chosen) made.made;
      stores = members_store_none options.machine (input_of d made.all chosen) made.made;
    }

pub link_as_older_part : (bytes : List ℕ) (options : LibraryOptionsView) (members : List MemberView) (chosen : List ℕ) (older : ExportView → Bool) → OlderMembersFor bytes options members → LinkAsOlderPart bytes options members chosen older
link_as_older_part bytes options members chosen older of_options =
    let d : DefinitionView = of_options.definition in
    record {
      definition = d;
      of_text = of_options.of_text;
      held = older_held options.machine (input_of d members chosen) of_options.made.made;
      part = older_part options.machine (input_of d members chosen) of_options.made.made older;
      stores = older_stores_none options.machine (input_of d members chosen) of_options.made.made older;
    }

-- without third texts the definition is made as it is
made_as_is : (naming : NamingView) (machine : MachineType) (flavor : Flavor) (d : DefinitionView) → naming.exports_as ≡ false → definition_made naming machine flavor d ≡ d
made_as_is naming machine Msvc d none = rw none refl
made_as_is naming machine Gnu d none = refl

pub link_in_programs : (bytes : List ℕ) (options : LibraryOptionsView) (members : List MemberView) (chosen : List ℕ) → MembersFor bytes options members → options.naming.exports_as ≡ false → LinkInPrograms bytes options chosen
link_in_programs bytes options members chosen of_options none =
    let d : DefinitionView = of_options.definition in
    let all : List MemberView = of_options.made_for.all in
    record {
      definition = d;
      of_text = of_options.of_text;
      members = all;
      made = subst (λ (x : DefinitionView). IsMadeFor options.machine (record { flavor = options.flavor; input = record { definition = x; members = all; chosen = chosen } }))
          (made_as_is options.naming options.machine options.flavor (renamed d) none) of_options.made_for.made;
    }
