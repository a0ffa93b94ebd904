-- Views of what the makers of members give: what was specified, or that a member of it is too long.
-- No promise cites them.
use Rattle.std.specs.Prelude.{◌≡◌, ◌<◌, ◌≤◌, ◌^◌, ℕ, true, false, List, ◌++◌, map, Result, IfOk}
use Rattle.std.specs.Prelude.{OnOk}
use Rattle.std.specs.List.{list_any}
use Rattle.std.specs.declared.vec.Vec.{Vec}
use Rattle.implib.specs.declared.error.Error.{Error}
use Rattle.implib.specs.declared.flavor.Flavor.TheVariants.{Msvc}
use Rattle.implib.specs.declared.machine.MachineType.{MachineType}
use Rattle.implib.specs.declared.member.Member.{Member}
use Rattle.implib.specs.declared.msvc.members.MemberLists.{MemberLists}
use Rattle.implib.specs.Definition.{DefinitionView, ExportView}
use Rattle.implib.specs.Fault.{IfInvalid, MemberTooLong}
use Rattle.implib.specs.Formats.Layout.{ObjectLayout, encoded, encoded_size}
use Rattle.implib.specs.Library.{member_view}
use Rattle.implib.specs.LibraryName.{NamesOfDll, names_for}
use Rattle.implib.specs.Members.MemberLists.{alias_specs, all_alias_specs, all_import_specs}
use Rattle.implib.specs.Members.MemberLists.{import_specs}
use Rattle.implib.specs.Members.MemberSpec.{MemberSpec, member_of}
use Rattle.implib.specs.Members.Members.{is_too_long, member_specs}
use Rattle.implib.specs.Members.MsvcMembers.{export_specs, header_specs, weak_specs}
use Rattle.implib.specs.Members.ShortImports.{ShortImportsView}

-- the encoded object; it is refused only where it has 2^32 bytes or more
pub record EncodesObject {A : Type 0} (p : ObjectLayout)
    (result : Result (Vec ℕ A) Error) : Type 0 where
  pub bytes : IfOk result (λ bytes. bytes.items ≡ encoded p)
  pub short : OnOk result (encoded_size p < 2 ^ 32)
  pub too_long : IfInvalid result (λ cause. (cause ≡ MemberTooLong) × (2 ^ 32 ≤ encoded_size p))

-- the specified member; it is refused only where it is too long
pub record MakesMember (spec : MemberSpec) (result : Result Member Error) : Type 0 where
  pub ok : IfOk result (λ m. member_view m ≡ member_of spec)
  pub fit : OnOk result (is_too_long spec ≡ false)
  pub too_long : IfInvalid result (λ cause. (cause ≡ MemberTooLong) × (is_too_long spec ≡ true))

-- the specified members, in order; they are refused only where one is too long
pub record MakesMembers {A : Type 0} (specs : List MemberSpec)
    (result : Result (Vec Member A) Error) : Type 0 where
  pub ok : IfOk result (λ members. map member_view members.items ≡ map member_of specs)
  pub fit : OnOk result (list_any is_too_long specs ≡ false)
  pub too_long : IfInvalid result
      (λ cause. (cause ≡ MemberTooLong) × (list_any is_too_long specs ≡ true))

-- the specified members are put after the old ones; they are refused only where one is too long
pub record PushesMembers (specs : List MemberSpec) (old new : List Member)
    (result : Result (Unit {0}) Error) :
    Type 0 where
  pub ok : OnOk result (map member_view new ≡ map member_view old ++ map member_of specs)
  pub fit : OnOk result (list_any is_too_long specs ≡ false)
  pub too_long : IfInvalid result
      (λ cause. (cause ≡ MemberTooLong) × (list_any is_too_long specs ≡ true))

-- the short import of an export is kept, or its weak externals are put after the old ones where it
-- is an alias; they are refused only where one of the export's members is too long
pub record PushesListed (e : ExportView) (old_imports imports : ShortImportsView)
    (old_aliases aliases : List Member) (result : Result (Unit {0}) Error) : Type 0 where
  pub imports_ok : OnOk result (imports ≡ record old_imports {
    members = old_imports.members
        ++ map member_of (import_specs old_imports.machine old_imports.dll e);
  })
  pub aliases_ok : OnOk result (map member_view aliases
      ≡ map member_view old_aliases
      ++ map member_of (alias_specs old_imports.machine old_imports.dll.linked e))
  pub fit : OnOk result
      (list_any is_too_long (export_specs old_imports.machine old_imports.dll e) ≡ false)
  pub too_long : IfInvalid result (λ cause. (cause ≡ MemberTooLong)
      × (list_any is_too_long (export_specs old_imports.machine old_imports.dll e) ≡ true))

-- the weak externals of an alias are put after the old members; they are refused only where one is
-- too long, also the one that data lacks
pub record PushesKept (machine : MachineType) (linked : List ℕ) (e : ExportView)
    (old new : List Member) (result : Result (Unit {0}) Error) : Type 0 where
  pub ok : OnOk result
      (map member_view new ≡ map member_view old ++ map member_of (alias_specs machine linked e))
  pub fit : OnOk result (list_any is_too_long (weak_specs machine linked e) ≡ false)
  pub too_long : IfInvalid result
      (λ cause. (cause ≡ MemberTooLong)
      × (list_any is_too_long (weak_specs machine linked e) ≡ true))

-- and they are refused, too, where its short import is too long
pub record PushesAlias (machine : MachineType) (dll : NamesOfDll) (e : ExportView)
    (old new : List Member) (result : Result (Unit {0}) Error) : Type 0 where
  pub ok : OnOk result (map member_view new
      ≡ map member_view old ++ map member_of (alias_specs machine dll.linked e))
  pub fit : OnOk result (list_any is_too_long (export_specs machine dll e) ≡ false)
  pub too_long : IfInvalid result
      (λ cause. (cause ≡ MemberTooLong)
      × (list_any is_too_long (export_specs machine dll e) ≡ true))

-- the members of a definition in three lists; they are refused only where one of all its members is
-- too long
pub record MakesLists (d : DefinitionView) (machine : MachineType)
    (result : Result MemberLists Error) : Type 0 where
  pub header : IfOk result
      (λ lists. map member_view lists.header.items
      ≡ map member_of (header_specs machine (names_for Msvc d)))
  pub imports : IfOk result
      (λ lists. lists.imports.members ≡ map member_of (all_import_specs machine d))
  pub aliases : IfOk result
      (λ lists. map member_view lists.aliases.items ≡ map member_of (all_alias_specs machine d))
  pub fit : OnOk result (list_any is_too_long (member_specs d machine Msvc) ≡ false)
  pub too_long : IfInvalid result
      (λ cause. (cause ≡ MemberTooLong)
      × (list_any is_too_long (member_specs d machine Msvc) ≡ true))
