-- What members in order are read as.
use Rattle.std.proofs.Common.{◌≡◌, Bool, true, false, List, [], ◌∷◌, ◌++◌, Some, arith, drop, if◌then◌else◌, length, map, refl, ap, ◌∙◌, subst}
use Rattle.std.specs.Prelude.{not, slice_get}
use Rattle.std.specs.List.{AllByRecursion, filter, flat_map}
use Rattle.std.specs.Option.{option_map}
use Rattle.std.proofs.lemmas.List.{drop-map, length-append, map-append}
use Rattle.implib.specs.declared.flavor.Flavor.TheVariants.{Msvc}
use Rattle.implib.specs.declared.machine.MachineType.{MachineType}
use Rattle.implib.specs.Definition.{DefinitionView, ExportView}
use Rattle.implib.specs.Formats.File.{AnAlias, AnImport, Meaning, declared_by, file_in, meaning_in}
use Rattle.implib.specs.Import.{aliases_for, expected_import, public_exports}
use Rattle.implib.specs.LibraryName.{NamesOfDll, names_for}
use Rattle.implib.specs.Members.Members.{AreMembersOf, member_specs}
use Rattle.implib.specs.Members.MemberSpec.{MemberSpec, MemberView, member_of}
use Rattle.implib.specs.Members.Msvc.{short_import_symbol}
use Rattle.implib.specs.Members.MsvcMembers.{descriptor_spec, export_specs, header_specs, short_import_spec, weak_specs}
use Rattle.implib.specs.Members.ReadBack.{MsvcReadBack, import_written, meanings_written}
use Rattle.implib.specs.Renaming.{renamed}
use Rattle.implib.proofs.Members.Import.{import_written-expected}
use Rattle.implib.proofs.Members.MemberReadings.{map_after}
use Rattle.implib.proofs.Members.NotRefused.{AsksNoOther, exports_ask}
use Rattle.implib.specs.Members.MemberLists.{alias_specs, has_code, import_specs, is_weak, kept_of_alias}
use Rattle.implib_rules.specs.Order.{ReadsInOrder, msvc_specs}

module _ (machine : MachineType) (dll : NamesOfDll) (e : ExportView) where
  length-weak_specs : is_weak e ≡ true → length (weak_specs machine dll.linked e) ≡ 2
  unfolding weak_specs
  length-weak_specs weak = rw weak refl

-- lists that show the same, cut in two and joined
module _ {A M Y : Type 0} (F : A → Y) (G : M → Y) where
  cut : (xs more : List A) (us others : List M) → length xs ≡ length us → map F (xs ++ more) ≡ map G (us ++ others)
      → (map F xs ≡ map G us) × (map F more ≡ map G others)
  cut [] more [] others long same = (refl, same)
  cut [] more (u ∷ us) others long same = absurd (omega (arith, long))
  cut (x ∷ xs) more [] others long same = absurd (omega (arith, long))
  cut (x ∷ xs) more (u ∷ us) others long same = grind (arith, cut xs more us others)

  join : (xs more : List A) (us others : List M) → map F xs ≡ map G us → map F more ≡ map G others
      → map F (xs ++ more) ≡ map G (us ++ others)
  join xs more us others first second = cc (map-append F xs more, map-append G us others)

-- what exports show, by their weak externals and their short imports, in order
module _ {M Y : Type 0} (F : MemberSpec → Y) (G : M → Y) (machine : MachineType) (dll : NamesOfDll) (aliases imports : ExportView → List M)
    (long : (e : ExportView) → length (weak_specs machine dll.linked e) ≡ length (aliases e)) (one : (e : ExportView) → length (imports e) ≡ 1) where
  import_shown : (b : Bool) (e : ExportView) → map F (short_import_spec machine dll e ∷ []) ≡ map G (imports e)
      → map F (if b then [] else short_import_spec machine dll e ∷ []) ≡ map G (if b then [] else imports e)
  import_shown b e same = grind arith

  kept_shown : (code : Bool) (e : ExportView) → map F (weak_specs machine dll.linked e) ≡ map G (aliases e)
      → map F (if code then weak_specs machine dll.linked e else drop 1 (weak_specs machine dll.linked e)) ≡ map G (if code then aliases e else drop 1 (aliases e))
  kept_shown true e same = same
  kept_shown false e same = cc (drop-map F 1 (weak_specs machine dll.linked e), drop-map G 1 (aliases e))

  long_both : (e : ExportView) → length (export_specs machine dll e) ≡ length (aliases e ++ imports e)
  long_both e = grind (arith, length-append)

  pub shown_in_order : (exports : List ExportView)
      → map F (flat_map (export_specs machine dll) exports) ≡ map G (flat_map (λ e. aliases e ++ imports e) exports)
      → (map F (flat_map (import_specs machine dll) exports) ≡ map G (flat_map (λ e. if is_weak e then [] else imports e) exports))
      × (map F (flat_map (alias_specs machine dll.linked) exports) ≡ map G (flat_map (λ e. kept_of_alias e (aliases e)) exports))
  shown_in_order [] same = (refl, refl)
  shown_in_order (e ∷ exports) same =
      let first = cut F G (export_specs machine dll e) (flat_map (export_specs machine dll) exports) (aliases e ++ imports e) (flat_map (λ x. aliases x ++ imports x) exports) (long_both e) same in
      let own = cut F G (weak_specs machine dll.linked e) (short_import_spec machine dll e ∷ []) (aliases e) (imports e) (long e) first.0 in
      let rest = shown_in_order exports first.1 in (
        join F G (import_specs machine dll e) (flat_map (import_specs machine dll) exports) (if is_weak e then [] else imports e) (flat_map (λ x. if is_weak x then [] else imports x) exports) (import_shown (is_weak e) e own.1) rest.0,
        join F G (alias_specs machine dll.linked e) (flat_map (alias_specs machine dll.linked) exports) (kept_of_alias e (aliases e)) (flat_map (λ x. kept_of_alias x (aliases x)) exports) (kept_shown (has_code e) e own.0) rest.1,
      )

-- an alias is two weak externals
module _ (machine : MachineType) (dll : NamesOfDll) where
  -- the aliases that an export's members mean
  abbrev aliases_meant : ExportView → List Meaning
  aliases_meant e = map AnAlias (aliases_for (short_import_symbol e) e.alias_target)

  -- its import
  abbrev import_meant : ExportView → List Meaning
  import_meant e = AnImport (import_written machine dll.text e) ∷ []

  two_each : (b : Bool) (e : ExportView) → is_weak e ≡ b → length (weak_specs machine dll.linked e) ≡ length (aliases_meant e)
  unfolding weak_specs
  two_each b e weak = grind (arith, length-weak_specs)

  import_expected : (b : Bool) (e : ExportView) (exports : List ExportView) → import_written machine dll.text e ≡ expected_import machine dll.text e
      → flat_map (λ x. if is_weak x then [] else import_meant x) exports ≡ map AnImport (map (expected_import machine dll.text) (filter (λ x. not (is_weak x)) exports))
      → (if b then [] else import_meant e) ++ flat_map (λ x. if is_weak x then [] else import_meant x) exports
      ≡ map AnImport (map (expected_import machine dll.text) (if not b then e ∷ filter (λ x. not (is_weak x)) exports else filter (λ x. not (is_weak x)) exports))
  import_expected b e exports same rest = grind arith

  imports_expected : (exports : List ExportView) → AllByRecursion (λ e. e.symbol_name ≡ []) exports → AllByRecursion (AsksNoOther Msvc machine) exports
      → flat_map (λ e. if is_weak e then [] else import_meant e) exports ≡ map AnImport (map (expected_import machine dll.text) (filter (λ e. not (is_weak e)) exports))
  imports_expected [] plain ask = refl
  imports_expected (e ∷ exports) plain ask = cc (import_expected (is_weak e) e exports (import_written-expected machine dll.text e plain.0 ask.0) (imports_expected exports plain.1 ask.1))

  aliases_expected : (exports : List ExportView) → AllByRecursion (λ e. e.symbol_name ≡ []) exports
      → flat_map (λ e. kept_of_alias e (aliases_meant e)) exports ≡ map AnAlias (flat_map (λ e. kept_of_alias e (aliases_for e.name e.alias_target)) exports)
  aliases_expected [] plain = refl
  aliases_expected (e ∷ exports) plain = grind (arith, map-append, aliases_expected exports plain.1)

drop_header : (machine : MachineType) (dll : NamesOfDll) (specs : List MemberSpec) → drop 3 (map member_of (header_specs machine dll ++ specs)) ≡ map member_of specs
unfolding header_specs
drop_header machine dll specs = refl

first_of : (machine : MachineType) (dll : NamesOfDll) (specs : List MemberSpec) → slice_get (map member_of (header_specs machine dll ++ specs)) 0 ≡ Some (member_of (descriptor_spec machine dll))
unfolding header_specs
first_of machine dll specs = refl

-- The members in order are read as what the definition says, if all members are and no export has a symbol name.
pub reads_in_order : (d : DefinitionView) (machine : MachineType) (all members : List MemberView)
    → AreMembersOf d machine Msvc all → MsvcReadBack d machine all → renamed d ≡ d
    → AllByRecursion (λ e. e.symbol_name ≡ []) (public_exports d)
    → members ≡ map member_of (msvc_specs machine d) → ReadsInOrder d machine members
reads_in_order d machine all members made reads once plain is =
    let dll = names_for Msvc d in
    let exports = public_exports d in
    let header = header_specs machine dll in
    let each = flat_map (export_specs machine dll) exports in
    let imports = flat_map (import_specs machine dll) exports in
    let aliases = flat_map (alias_specs machine dll.linked) exports in
    let whole : all ≡ map member_of (header ++ each) = made.made ∙ ap (λ (x : DefinitionView). map member_of (member_specs x machine Msvc)) once in
    let ask : AllByRecursion (AsksNoOther Msvc machine) exports = subst (λ (x : DefinitionView). AllByRecursion (AsksNoOther Msvc machine) (public_exports x)) once (exports_ask d machine Msvc all made) in
    let files = λ (p : MemberSpec). option_map declared_by (file_in (member_of p).bytes) in
    let listed = λ (p : MemberSpec). Some (member_of p).symbols in
    let declared_all : map files (header ++ each) ≡ map listed (header ++ each) =
    cc (map_after (λ (m : MemberView). option_map declared_by (file_in m.bytes)) member_of (header ++ each), whole, reads.declared, map_after (λ (m : MemberView). Some m.symbols) member_of (header ++ each)) in
    let declared_parts = cut files listed header each header each refl declared_all in
    let declared_rest = shown_in_order files listed machine dll (weak_specs machine dll.linked) (λ e. short_import_spec machine dll e ∷ []) (λ e. refl) (λ e. refl) exports declared_parts.1 in
    let declared_members = join files listed header (imports ++ aliases) header (imports ++ aliases) declared_parts.0
    (join files listed imports aliases imports aliases declared_rest.0 declared_rest.1) in
    let mean = λ (p : MemberSpec). meaning_in (member_of p).bytes in
    let meanings_all : map mean each ≡ map Some (flat_map (meanings_written machine dll.text) exports) =
    cc (map_after (λ (m : MemberView). meaning_in m.bytes) member_of each, whole, drop_header machine dll each, reads.meanings, once) in
    let meanings_rest = shown_in_order mean Some machine dll (aliases_meant machine dll) (import_meant machine dll) (λ e. two_each machine dll (is_weak e) e refl) (λ e. refl) exports meanings_all in
    let meanings_members = join mean Some imports aliases (flat_map (λ e. if is_weak e then [] else import_meant machine dll e) exports) (flat_map (λ e. kept_of_alias e (aliases_meant machine dll e)) exports) meanings_rest.0 meanings_rest.1 in
    record {
      declared =
          cc (is, map_after (λ (m : MemberView). option_map declared_by (file_in m.bytes)) member_of (header ++ (imports ++ aliases)), declared_members, map_after (λ (m : MemberView). Some m.symbols) member_of (header ++ (imports ++ aliases)));
      dll =
          cc (is, first_of machine dll (imports ++ aliases), first_of machine dll each, whole, reads.dll);
      meanings =
          cc (is, drop_header machine dll (imports ++ aliases), map_after (λ (m : MemberView). meaning_in m.bytes) member_of (imports ++ aliases), meanings_members, imports_expected machine dll exports plain ask, aliases_expected machine dll exports plain);
    }
