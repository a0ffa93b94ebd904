-- The library of a text is that of its exports.
use Rattle.std.proofs.Common.{arith, ◌≡◌, ℕ, Bool, false, List, [], Option}
use Rattle.implib.specs.declared.flavor.Flavor.{Flavor}
use Rattle.implib.specs.declared.machine.MachineType.{MachineType}
use Rattle.implib.specs.declared.machine.MachineType.TheVariants.{AMD64}
use Rattle.implib.specs.Definition.{DefinitionView}
use Rattle.implib.specs.Members.MemberSpec.{MemberSpec, MemberView}
use Rattle.implib.specs.Renaming.{renamed}
use Rattle.implib.specs.Text.Parses.{Parses}
use Rattle.implib.proofs.Text.OneReading.{one_definition}
use Rattle.implib_rules.specs.Exports.{MembersOfExports, of_exports}
use Rattle.implib_rules.specs.Library.{MembersFor, definition_text}
use Rattle.implib_rules.specs.LibraryLaws.{LibrariesAreOfExports}
use Rattle.implib_rules.specs.LibraryName.{gnu_library_name, with_library_name}
use Rattle.implib_rules.specs.Linked.{NamingView, linked}
use Rattle.implib_rules.specs.Nameless.{with_ordinals}
use Rattle.implib_rules.specs.Names.{dll_name, is_program, lacks_name, own_name, part_after_last}
use Rattle.implib_rules.specs.Options.{LibraryOptionsView}
use Rattle.implib_rules.specs.Additions.{AdditionsView, extended}
use Rattle.implib_rules.specs.ExportAs.{specs_made}
use Rattle.implib_rules.specs.Repeats.{without_repeats}

-- the members of a definition by the rules, of a DLL of this name
abbrev specs_named : MachineType → NamingView → AdditionsView → Flavor → DefinitionView → List ℕ → List MemberSpec
specs_named machine naming additions flavor d name =
    specs_made naming machine flavor
    (renamed (with_library_name machine flavor (linked machine naming flavor (without_repeats (extended machine naming additions (record d { import_name = name }))))))

-- they are of its exports
of_their_exports : (machine : MachineType) (naming : NamingView) (additions : AdditionsView) (flavor : Flavor) (d : DefinitionView) (name : List ℕ)
    → specs_named machine naming additions flavor d name ≡ specs_named machine naming additions flavor (of_exports d.exports) name
unfolding gnu_library_name
of_their_exports machine naming additions flavor d name = grind arith

-- a name that is given is the DLL's, whatever the text's own
given_name_is : (dll : Option (List ℕ)) (own : List ℕ) (program : Bool) → lacks_name dll [] ≡ false → dll_name dll own program ≡ dll_name dll [] false
unfolding part_after_last
given_name_is dll own program named = grind arith

same_members : (text : List ℕ) (options : LibraryOptionsView) (parsed : DefinitionView) (members others : List MemberView) → Parses (definition_text text) AMD64 parsed
    → MembersFor text options members → MembersOfExports (with_ordinals parsed).exports options others → members ≡ others
same_members text options parsed members others parses first second =
    let meant = first.of_text in
    let own = own_name meant.heard in
    let program = is_program meant.heard in
    let specs = specs_named options.machine options.naming options.additions options.flavor in
    let once = one_definition (definition_text text) first.utf8 AMD64 meant.parsed parsed meant.parses parses in
    cc (first.made_for.is, meant.is, once, given_name_is options.dll own program second.of_exports.named, of_their_exports options.machine options.naming options.additions options.flavor (with_ordinals parsed) (dll_name options.dll [] false), second.made_for.is, second.of_exports.is)

pub libraries_are_of_exports : LibrariesAreOfExports
libraries_are_of_exports text options parsed file other parses first second = cc (same_members text options parsed first.members second.members parses first.members_for second.members_are)
