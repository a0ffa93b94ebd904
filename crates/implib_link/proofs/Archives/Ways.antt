-- The whole way for libraries of both flavours, by the laws on it.
use Rattle.std.proofs.Common.{arith, ◌+◌, ◌*◌, Bool, List, ℕ, map, ◌∙◌, ◌≡◌, true, false, [], ◌∷◌, ◌++◌, Option, None, Some, refl, ap, sym, subst, inl, inr}
use Rattle.std.specs.List.{AllByRecursion, Contains, IsDistinct, cons_option, filter, filter_map, flat_map, list_any}
use Rattle.implib.specs.declared.machine.MachineType.{MachineType}
use Rattle.implib.specs.Formats.Object.{Object}
use Rattle.implib.specs.Link.Placement.{Bases, Placed}
use Rattle.implib.specs.Members.ImportTables.{thunk_width}
use Rattle.implib.specs.Members.MemberSpec.{MemberView, MemberSpec, member_of}
use Rattle.implib_archive.specs.declared.kind.Kind.{Kind}
use Rattle.implib_link.specs.Archives.Ways.{AreLinkedFor, CallsArrive, AreCalledAlike, IsBuiltByLld, IsWantedBy, LldArrives, defining, defining_alone, is_short, read_by_lld, short_of_export, shorts_in, SearchesByLld}
use Rattle.implib_link.specs.Search.CommandLines.{Input, SearchesFlavors, given_with, objects_given, others_of}
use Rattle.implib_link.specs.Search.Search.{members_at, Library, archive_of, exports_of, AreTakenIntoAs, PullsIntoAs, TakesIntoAs, claims_of, references_of, unresolved, first_listed, is_listed_for, objects_as, undefined_in}
use Rattle.implib_link.proofs.Search.CommandLines.{takes_of_libraries, taken_as_given}
use Rattle.implib_link.specs.Archives.InBytes.{LinkerMember, HaveArchive, TakesJust}
use Rattle.implib_link.proofs.Archives.InBytes.{takes_just}
use Rattle.implib_link.specs.Flavors.Program.{Ending, FlavorInput, IsMadeFor, ask_in, dll_of, symbol_in, thunks_of, claimed_name, claimed_names}
use Rattle.implib_link.specs.Search.Libraries.{AreGiven, FlavorLibrary, IsFlavorArchive, LinksClosed, archive_of_both, inputs_in, TakesIntoFor, wanted_for, IsMsvcArchive, IsMsvcLibrary, is_short_alias, is_weak_in}
use Rattle.implib_link.proofs.Flavors.Steady.{program_tables_none}
use Rattle.implib_link.proofs.Search.Chosen.{both_made}
use Rattle.implib_link.proofs.Search.BothClosed.{closed_links_of_both}
use Rattle.implib_link.proofs.Search.Taken.{both_given_closes}
use Rattle.implib_link.proofs.Tables.{tables_read, leads_beside, tables_load_in_memory, can_read, program_count, program_entry, program_tables, lld_tables}
use Rattle.implib_link.specs.Tables.{AreTables, Tables, block_of_flavor, tables_at, tables_of_lld}
use Rattle.implib_link.specs.Flavors.Expansion.{expanded_in, is_import_for}
use Rattle.implib.specs.Import.{imp_symbol}
use Rattle.std.specs.Prelude.{bytes_eq, if◌then◌else◌}
use Rattle.std.proofs.lemmas.Bool.{cases_Bool, false_from_ne_true, true≢false}
use Rattle.implib.specs.declared.flavor.Flavor.{Flavor}
use Rattle.implib.specs.declared.flavor.Flavor.TheVariants.{Gnu, Msvc}
use Rattle.implib.specs.Definition.{ExportView}
use Rattle.std.proofs.lemmas.Slice.Eq.{bytes_eq-Decides}
use Rattle.implib.specs.Formats.File.{ObjectFile}
use Rattle.implib.specs.Formats.ShortImport.{ShortImport, ask_of_short_import}
use Rattle.implib.specs.Link.Image.{Range}
use Rattle.implib.specs.LibraryName.{NamesOfDll, linked_dll, names_for}
use Rattle.implib.specs.Members.Members.{member_specs}
use Rattle.implib.specs.Members.ReadBack.{file_of}
use Rattle.implib.specs.Renaming.{renamed}
use Rattle.implib.specs.Members.Msvc.{short_import_symbol, short_import_symbols}
use Rattle.implib.specs.Members.MsvcMembers.{descriptor_spec, export_specs, header_specs, null_descriptor_spec, null_thunk_spec, short_import_spec, weak_specs}
use Rattle.implib.specs.Members.WeakExternal.{weak_spec}
use Rattle.implib.proofs.Members.NotRefused.{Sound, exports_sound, import_name_is_free}
use Rattle.implib.proofs.Members.Import.{name_type_is_ordinal}
use Rattle.implib.proofs.Link.LinkedMembers.{among_contains, among_map}
use Rattle.implib.proofs.Link.Ranges.{Among, all_among, among_back, among_first, among_flat, among_front, among_later}
use Rattle.implib_link.specs.Flavors.LldImports.{IsLldProgram, imp_symbols_of, in_small, short_for, IsAskable, IsImportable, BranchArrivesByThunk}
use Rattle.implib_link.specs.Gnu.Fields.{AllLead}
use Rattle.implib_link.proofs.Flavors.Block.{FitsIn}
use Rattle.implib_link.proofs.Flavors.Expanded.{AskFits}
use Rattle.implib_link.proofs.Flavors.Inputs.{descriptor_at, export_fits, null_at, read_of, short_at, thunk_at}
use Rattle.implib_link.proofs.Flavors.LldPrograms.{lld_calls, lld_count, lld_leads}
use Rattle.implib_link.proofs.Search.Closing.{IsFirstAs, unresolved_from, unresolved_parts}
use Rattle.implib_link.proofs.Search.FlavorGroups.{gnu_there, made_of, msvc_there, HasRole, expands, finds, first_by_role, found, no_gnu, short_libraries, short_members, shorts_alone, shorts_archive}
use Rattle.implib_link.proofs.Search.Lists.{among_any, among_at, among_either, any_among, any_member, contains_among, listed_is, name_as, names_more, none_listed, passes, kept_into, at_index}
use Rattle.implib_link.proofs.Search.Roles.{IsRole, Last, Null, Own, Role, Top, Weak, in_flavor, member, pair, weak_symbol, weak_target}
use Rattle.implib_link.proofs.Search.MsvcMembers.{pair_there, short_of, made_of as short_made}
use Rattle.implib_link.proofs.Search.ArchiveMembers.{in_nothing}
use Rattle.std.proofs.lemmas.Grind.{flat_map-append}
use Rattle.std.proofs.lemmas.Option.{same_Some}
use Rattle.implib_link.proofs.Gnu.Texts.{all_filter}
use Rattle.implib_link.specs.Archives.Files.{ArchiveFile, members_in_files}

pub both_arrive : (machine : MachineType) (ending : Ending) (libraries : List FlavorLibrary) (own : List Object) (taken : List MemberView) (arranged : List FlavorLibrary) (bases : Bases) (objects : List Object) →
    IsFlavorArchive machine libraries → AreGiven machine libraries own → TakesIntoFor machine (archive_of_both libraries) own taken →
    AreLinkedFor machine ending libraries own taken arranged bases objects → CallsArrive machine ending libraries own taken arranged bases objects
both_arrive machine ending libraries own taken arranged bases objects archive given takes linked =
    let closed = both_given_closes machine ending libraries own taken arranged objects archive given takes linked.order linked.others linked.ended in
    let links : LinksClosed machine ending libraries own taken arranged bases objects =
    closed_links_of_both machine ending libraries own taken arranged bases objects archive
    (record { closed = closed; admissible = linked.admissible; lookups = linked.lookups; addresses = linked.addresses; follows = linked.follows }) in
    let inputs : List FlavorInput = inputs_in machine arranged own taken in
    let made : AllByRecursion (IsMadeFor machine) inputs = both_made machine libraries archive arranged linked.order (wanted_for machine own taken) in
    let own_tables : Tables = tables_at machine bases objects (map (block_of_flavor machine) inputs) in
    let tables : AreTables machine own_tables = program_tables machine ending bases inputs objects made links.program in
    record {
      links = links;
      ends = λ gives n written wide reads. (tables_read machine own_tables gives n written tables wide reads).0 ∙ program_count machine bases inputs objects;
      leads = λ image_base codes targets gives n written i j p e can beside wide reads input chosen.
          leads_beside machine image_base own_tables codes targets gives tables (program_tables_none machine ending bases inputs objects made links.program.held.ended) beside n written wide reads (imp_symbol (symbol_in p.flavor e)) (dll_of p)
          (ask_in p.flavor machine e) (bases.addresses + thunk_width machine * thunks_of i inputs) j (program_entry machine bases inputs objects i j p e input chosen) (can_read machine image_base bases (thunks_of i inputs) can);
    }

pub bytes_lead_to_both : (kind : Kind) (linker : LinkerMember) (machine : MachineType) (libraries : List FlavorLibrary) (own : List Object) → HaveArchive kind linker (archive_of_both libraries) →
    IsFlavorArchive machine libraries → AreGiven machine libraries own →
    TakesJust kind linker (archive_of_both libraries) (expanded_in machine) own (λ taken. (ending : Ending) (arranged : List FlavorLibrary) (bases : Bases) (objects : List Object) →
    AreLinkedFor machine ending libraries own taken arranged bases objects → CallsArrive machine ending libraries own taken arranged bases objects)
bytes_lead_to_both kind linker machine libraries own ready archive given =
    takes_just kind linker (archive_of_both libraries) (expanded_in machine) own
    (λ taken. (ending : Ending) (arranged : List FlavorLibrary) (bases : Bases) (objects : List Object) → AreLinkedFor machine ending libraries own taken arranged bases objects →
    CallsArrive machine ending libraries own taken arranged bases objects) ready
    (λ taken takes ending arranged bases objects linked. both_arrive machine ending libraries own taken arranged bases objects archive given takes linked)

-- The archives of a command line.
pub lines_lead_to_both : (machine : MachineType) (ending : Ending) (libraries : List FlavorLibrary) (members : List MemberView) (inputs : List Input) (is_given : MemberView → Bool) (taken : List ℕ) (arranged : List FlavorLibrary)
    (bases : Bases) (objects : List Object) → SearchesFlavors machine libraries members inputs is_given taken → IsFlavorArchive machine libraries →
    AreGiven machine libraries (given_with (expanded_in machine) is_given (objects_given inputs) (members_at members taken)) →
    AreLinkedFor machine ending libraries (given_with (expanded_in machine) is_given (objects_given inputs) (members_at members taken)) (others_of is_given (members_at members taken)) arranged bases objects →
    CallsArrive machine ending libraries (given_with (expanded_in machine) is_given (objects_given inputs) (members_at members taken)) (others_of is_given (members_at members taken)) arranged bases objects
lines_lead_to_both machine ending libraries members inputs is_given taken arranged bases objects searches archive given linked =
    both_arrive machine ending libraries (given_with (expanded_in machine) is_given (objects_given inputs) (members_at members taken)) (others_of is_given (members_at members taken)) arranged bases objects archive given
    (takes_of_libraries (expanded_in machine) (archive_of_both libraries) members inputs is_given taken searches.takes) linked

-- The way for lld, from the bytes of an archive to the DLL.

-- The short import of an export, read in its member's bytes.

is_for : (machine : MachineType) (l : Library) (e : ExportView) → is_import_for machine (short_of_export machine l e) ≡ true
is_for machine l e = grind arith

asks_so : (machine : MachineType) (l : Library) (e : ExportView) → ask_of_short_import (short_of_export machine l e) ≡ ask_in Msvc machine e
asks_so machine l e = rw (name_type_is_ordinal machine e) refl

pub short_is_read : (machine : MachineType) (l : Library) (e : ExportView) → IsMsvcLibrary machine l → Among e (exports_of l) → short_for machine (short_of machine l e).bytes ≡ Some (short_of_export machine l e)
unfolding short_for
short_is_read machine l e made there =
    grind (arith, read_of l.definition machine l.members [] made (short_import_spec machine (names_for Msvc l.definition) e) (short_at l.definition machine l.members [] made e there), is_for machine l e)

-- What lld reads a member as claims what its expansion does.

defines : (names : List (List ℕ)) → filter_map claimed_name (map defining names) ≡ names
defines [] = refl
defines (name ∷ names) = ap (λ t. name ∷ t) (defines names)

read_first : (machine : MachineType) (members : List MemberView) (m : MemberView) → IsFirstAs (expanded_in machine) members m → IsFirstAs (read_by_lld machine) members m
unfolding read_by_lld
read_first machine members m one = grind (arith, by (is_short m.bytes))
  where
    by : (b : Bool) → claimed_names (if b then defining_alone one.object else one.object) ≡ claimed_names one.object
    by b = grind (arith, defines)

-- What is taken of an archive of libraries.
module _ (machine : MachineType) (libraries : List Library) (archive : IsMsvcArchive machine libraries) where
  abbrev in_msvc : List FlavorLibrary
  in_msvc = short_libraries libraries

  abbrev of_all : IsFlavorArchive machine in_msvc
  of_all = shorts_archive machine libraries archive

  -- a member that is taken was found by some name
  record Pulled (m : MemberView) : Type 0 where
    name : List ℕ
    by : first_listed (archive_of libraries) name ≡ Some m

  -- its role
  role_of : (m : MemberView) → Pulled m → HasRole machine (short_libraries libraries) (shorts_archive machine libraries archive) m
  role_of m from = (found machine in_msvc of_all from.name m (ap (λ ms. first_listed ms from.name) (short_members libraries) ∙ from.by)).has

  -- it claims what it is listed for, and each name that it is listed for finds it
  is_first : (m : MemberView) → Pulled m → IsFirstAs (read_by_lld machine) (archive_of libraries) m
  is_first m from = grind (arith, short_members libraries, first_by_role machine in_msvc of_all (expanded_in machine) (is_weak_in machine) (expands machine in_msvc of_all) m (role_of m from), read_first)

  pulled : (own : List Object) (taken : List MemberView) → AreTakenIntoAs (read_by_lld machine) (archive_of libraries) own taken → (m : MemberView) → Among m taken → Pulled m
  unfolding AreTakenIntoAs Among
  pulled own [] turn m held = absurd held
  pulled own (t ∷ taken) turn m (inl same) = record { name = turn.0.0; by = turn.0.1.listed ∙ ap Some (sym same) }
  pulled own (t ∷ taken) turn m (inr held) = pulled own taken turn.1 m held

  -- the short import of a wanted export is taken
  member_taken : (own : List Object) (taken : List MemberView) (l : Library) (e : ExportView) → TakesIntoAs (read_by_lld machine) (archive_of libraries) own taken → IsWantedBy machine libraries own taken l e →
      Among (short_of machine l e) taken
  unfolding claims_of references_of
  member_taken own taken l e takes wanted =
      let name : List ℕ = wanted.name in
      let m : MemberView = short_of machine l e in
      let objects : List Object = objects_as (read_by_lld machine) taken in
      let held : Among l libraries = contains_among l libraries wanted.library in
      let at = at_index e (exports_of l) (contains_among e (exports_of l) wanted.export) in
      let is : first_listed (archive_of libraries) name ≡ Some m = cc (short_members libraries, finds machine in_msvc of_all Msvc l (Own at.0 e) name (among_map (in_flavor Msvc) l libraries held) (at.1, wanted.plain) (contains_among name (short_import_symbols e) wanted.listed)) in
      elim (cases_Bool (list_any (is_listed_for name) taken)) [
        | inl some ↦
            let t = any_member name taken some in
            subst (λ x. Among x taken) (same_Some t.0 m (sym ((is_first t.0 (pulled own taken takes.in_turn t.0 t.1)).first name t.2) ∙ is)) t.1
        | inr none ↦ absurd (takes.ended name m (record {
          named = among_contains name (unresolved (own ++ objects)) (unresolved_from (own ++ objects) name (contains_among name (flat_map undefined_in (own ++ objects)) wanted.left)
              (λ claimed. elim (among_either name (flat_map claimed_names own) (flat_map claimed_names objects) (subst (Among name) (flat_map-append claimed_names own objects) claimed)) [
                | inl here ↦ true≢false (sym (among_any name (flat_map claimed_names own) here) ∙ wanted.unclaimed)
                | inr behind ↦
                    let by = name_as (read_by_lld machine) claimed_names name taken behind in
                    let one = is_first by.member (pulled own taken takes.in_turn by.member by.held) in
                    let same : by.object ≡ one.object = same_Some by.object one.object (sym by.taken ∙ one.read) in
                    none_listed name by.member taken none by.held (subst (Among name) one.claims (subst (λ o. Among name (claimed_names o)) same by.among))
              ]));
          listed = is;
          new = λ has. none_listed name m taken none (contains_among m taken has) (listed_is (archive_of libraries) name m is).1;
        }))
      ]

  -- a short import that is taken is that of an export
  record OfExport (m : MemberView) (r : ShortImport) : Type 0 where
    library : Library
    held : Among library libraries
    export : ExportView
    there : Among export (exports_of library)
    plain : is_short_alias export ≡ false
    is_member : m ≡ short_of machine library export
    is_short_import : r ≡ short_of_export machine library export

  -- an object is read as none
  object_is_none : (l : Library) (p : MemberSpec) (m : MemberView) (o : Object) (r : ShortImport) → IsMsvcLibrary machine l → m ≡ member_of p → Among p (member_specs (renamed l.definition) machine Msvc) →
      file_of p.contents ≡ ObjectFile o → short_for machine m.bytes ≡ Some r → ⊥
  unfolding short_for
  object_is_none l p m o r made same held is short = grind (arith, read_of l.definition machine l.members [] made p held)

  of_export : (m : MemberView) (r : ShortImport) → Pulled m → short_for machine m.bytes ≡ Some r → OfExport m r
  unfolding descriptor_spec null_descriptor_spec null_thunk_spec
  of_export m r from short = let x = role_of m from in by x.library.flavor x.library.library x.role x.held x.is x.same
    where
      by : (flavor : Flavor) (l : Library) (s : Role) → Among (in_flavor flavor l) in_msvc → IsRole in_msvc (in_flavor flavor l) s → m ≡ member machine flavor l s → OfExport m r
      by Gnu l s held is same = absurd (in_nothing l (subst (Among l) (no_gnu libraries) (gnu_there in_msvc l held)))
      by Msvc l Top held is same = absurd (object_is_none l (descriptor_spec machine (names_for Msvc l.definition)) m _ r (made_of machine in_msvc of_all Msvc l held) same (descriptor_at l.definition machine l.members [] (made_of machine in_msvc of_all Msvc l held)) refl short)
      by Msvc l Last held is same = absurd (object_is_none l (null_thunk_spec machine (linked_dll l.definition)) m _ r (made_of machine in_msvc of_all Msvc l held) same (thunk_at l.definition machine l.members [] (made_of machine in_msvc of_all Msvc l held)) refl short)
      by Msvc l Null held is same = absurd (object_is_none l (null_descriptor_spec machine (linked_dll l.definition)) m _ r (made_of machine in_msvc of_all Msvc l held) same (null_at l.definition machine l.members [] (made_of machine in_msvc of_all Msvc l held)) refl short)
      by Msvc l (Weak n e b) held is same =
          let dll : NamesOfDll = names_for Msvc l.definition in
          let p : MemberSpec = weak_spec machine dll.linked (weak_symbol Msvc e b) (weak_target e b) in
          absurd (object_is_none l p m _ r (made_of machine in_msvc of_all Msvc l held) same
          (among_back p (header_specs machine dll) (flat_map (export_specs machine dll) (exports_of l))
          (among_flat (export_specs machine dll) e (exports_of l) p (among_at e (exports_of l) n is.0) (among_front p (weak_specs machine dll.linked e) (short_import_spec machine dll e ∷ [])
          (pair_there machine l (made_of machine in_msvc of_all Msvc l held) e (weak_symbol Msvc e b) (weak_target e b) is.1 (pair e b))))) refl short)
      by Msvc l (Own n e) held is same =
          let there : Among e (exports_of l) = among_at e (exports_of l) n is.0 in
          let read : Some (short_of_export machine l e) ≡ Some r = sym (short_is_read machine l e (made_of machine in_msvc of_all Msvc l held) there) ∙ ap (λ (y : MemberView). short_for machine y.bytes) (sym same) ∙ short in
          record { library = l; held = subst (Among l) (shorts_alone libraries) (msvc_there in_msvc l held); export = e; there = there; plain = is.1; is_member = same; is_short_import = sym (cc) }

  writable : (m : MemberView) (r : ShortImport) → OfExport m r → IsImportable (record { dll = r.dll; asks = ask_of_short_import r ∷ [] })
  unfolding FitsIn AskFits IsAskable
  writable m r of =
      let own = short_made machine libraries archive of.library of.held in
      let fits : AskFits (ask_in Msvc machine of.export) =
      export_fits machine of.export (all_among Sound of.export (exports_of of.library) of.there (exports_sound of.library.definition machine Msvc of.library.members own)) in
      grind (arith, import_name_is_free)

  -- and whose `__imp_` symbol its member is listed for
  lists_imp : (m : MemberView) (r : ShortImport) → OfExport m r → Among (imp_symbol r.symbol) m.symbols
  unfolding Among
  lists_imp m r of = grind arith

  -- Of what is taken: each is such a short import, and no two have one symbol.
  shorts_from : (ms : List MemberView) → ((m : MemberView) → Among m ms → Pulled m) → AllByRecursion (λ r. (m : MemberView) × OfExport m r) (shorts_in machine ms)
  shorts_from [] each = tt
  shorts_from (m ∷ ms) each = by (short_for machine m.bytes) refl (shorts_from ms (λ x held. each x (among_later x m ms held)))
    where
      by : (o : Option ShortImport) → short_for machine m.bytes ≡ o → AllByRecursion (λ r. (x : MemberView) × OfExport x r) (shorts_in machine ms) →
          AllByRecursion (λ r. (x : MemberView) × OfExport x r) (cons_option o (shorts_in machine ms))
      by None is later = later
      by (Some r) is later = ((m, of_export m r (each m (among_first m ms)) is), later)

  module _ (own : List Object) where
    apart_from : (t : MemberView) (r : ShortImport) (from : Pulled t) → short_for machine t.bytes ≡ Some r → (ms : List MemberView) → (Among t ms → ⊥) → ((m : MemberView) → Among m ms → Pulled m) →
        AllByRecursion (λ other. bytes_eq (imp_symbol r.symbol) other ≡ false) (imp_symbols_of (shorts_in machine ms))
    apart_from t r from is [] new each = tt
    apart_from t r from is (m ∷ ms) new each =
        by (short_for machine m.bytes) refl (apart_from t r from is ms (λ held. new (among_later t m ms held)) (λ x held. each x (among_later x m ms held)))
      where
        by : (o : Option ShortImport) → short_for machine m.bytes ≡ o → AllByRecursion (λ other. bytes_eq (imp_symbol r.symbol) other ≡ false) (imp_symbols_of (shorts_in machine ms)) →
            AllByRecursion (λ other. bytes_eq (imp_symbol r.symbol) other ≡ false) (imp_symbols_of (cons_option o (shorts_in machine ms)))
        by None at later = later
        by (Some s) at later = (
          false_from_ne_true (bytes_eq (imp_symbol r.symbol) (imp_symbol s.symbol)) (λ equal.
              let name : List ℕ = imp_symbol r.symbol in
              let same : name ≡ imp_symbol s.symbol = (bytes_eq-Decides name (imp_symbol s.symbol)).0 equal in
              let other = each m (among_first m ms) in
              let first : first_listed (archive_of libraries) name ≡ Some t = (is_first t from).first name (lists_imp t r (of_export t r from is)) in
              let one : Some t ≡ Some m = sym first ∙ (grind (arith, is_first m other, lists_imp m s (of_export m s other at), of_export m s other, name)) in
              new (subst (λ x. Among x (m ∷ ms)) (sym (cc)) (among_first m ms))),
          later,
        )

    shorts_distinct : (taken : List MemberView) → AreTakenIntoAs (read_by_lld machine) (archive_of libraries) own taken → IsDistinct bytes_eq (imp_symbols_of (shorts_in machine taken))
    unfolding AreTakenIntoAs IsDistinct
    shorts_distinct [] turn = tt
    shorts_distinct (t ∷ taken) turn =
        let from : Pulled t = record { name = turn.0.0; by = turn.0.1.listed } in
        by from (short_for machine t.bytes) refl (shorts_distinct taken turn.1)
      where
        by : Pulled t → (o : Option ShortImport) → short_for machine t.bytes ≡ o → IsDistinct bytes_eq (imp_symbols_of (shorts_in machine taken)) →
            IsDistinct bytes_eq (imp_symbols_of (cons_option o (shorts_in machine taken)))
        by from None is later = later
        by from (Some r) is later =
            (apart_from t r from is taken (λ held. turn.0.1.new (among_contains t taken held)) (λ m held. pulled own taken turn.1 m held), later)

    -- Each was wanted.

    abbrev IsWanted : List MemberView → ShortImport → Type 0
    IsWanted full r = (l : Library) × (e : ExportView) × IsWantedBy machine libraries own full l e × (r ≡ short_of_export machine l e)

    short_wanted : (full taken : List MemberView) (t : MemberView) (name : List ℕ) (r : ShortImport) → ((x : MemberView) → Among x taken → Among x full) →
        PullsIntoAs (read_by_lld machine) (archive_of libraries) own taken name t → short_for machine t.bytes ≡ Some r → IsWanted full r
    unfolding claims_of references_of
    short_wanted full taken t name r within pulls short = (
      of.library,
      of.export,
      record {
        library = among_contains of.library libraries of.held;
        export = among_contains of.export (exports_of of.library) of.there;
        plain = of.plain;
        name = name;
        listed = among_contains name (short_import_symbols of.export) (subst (λ (y : MemberView). Among name y.symbols) of.is_member (listed_is (archive_of libraries) name t pulls.listed).1);
        left = grind (arith, among_contains, name, objects, flat_map-append, among_either, parts, among_front, among_back, names_more);
        unclaimed = grind (arith, false_from_ne_true, name, parts, flat_map-append, objects, among_front, any_among);
      },
      of.is_short_import,
    )
      where
        of : OfExport t r
        of = of_export t r (record { name = name; by = pulls.listed }) short

        objects : List MemberView → List Object
        objects ms = objects_as (read_by_lld machine) ms

        parts : Among name (flat_map undefined_in (own ++ objects taken)) × (Among name (flat_map claimed_names (own ++ objects taken)) → ⊥)
        parts = unresolved_parts (own ++ objects taken) name (contains_among name (unresolved (own ++ objects taken)) pulls.named)

    shorts_wanted : (full taken : List MemberView) → ((x : MemberView) → Among x taken → Among x full) → AreTakenIntoAs (read_by_lld machine) (archive_of libraries) own taken → AllByRecursion (IsWanted full) (shorts_in machine taken)
    unfolding AreTakenIntoAs
    shorts_wanted full [] within turn = tt
    shorts_wanted full (t ∷ taken) within turn = by (short_for machine t.bytes) refl (shorts_wanted full taken (λ x held. within x (among_later x t taken held)) turn.1)
      where
        by : (o : Option ShortImport) → short_for machine t.bytes ≡ o → AllByRecursion (IsWanted full) (shorts_in machine taken) → AllByRecursion (IsWanted full) (cons_option o (shorts_in machine taken))
        by None is later = later
        by (Some r) is later = (short_wanted full taken t turn.0.0 r (λ x held. within x (among_later x t taken held)) turn.0.1 is, later)

  -- and of those that are live.
  live_apart : (name : List ℕ) (is_live : ShortImport → Bool) (rs : List ShortImport) → AllByRecursion (λ other. bytes_eq name other ≡ false) (imp_symbols_of rs) →
      AllByRecursion (λ other. bytes_eq name other ≡ false) (imp_symbols_of (filter is_live rs))
  live_apart name is_live [] all = tt
  live_apart name is_live (r ∷ rs) all = grind (arith, live_apart name is_live rs all.1)

  live_distinct : (is_live : ShortImport → Bool) (rs : List ShortImport) → IsDistinct bytes_eq (imp_symbols_of rs) → IsDistinct bytes_eq (imp_symbols_of (filter is_live rs))
  unfolding IsDistinct
  live_distinct is_live [] distinct = tt
  live_distinct is_live (r ∷ rs) distinct = grind (arith, live_distinct is_live rs distinct.1, live_apart (imp_symbol r.symbol) is_live rs distinct.0)

  each_writable : (rs : List ShortImport) → AllByRecursion (λ r. (m : MemberView) × OfExport m r) rs → AllByRecursion (λ r. IsImportable (record { dll = r.dll; asks = ask_of_short_import r ∷ [] })) rs
  each_writable [] all = tt
  each_writable (r ∷ rs) all = (writable all.0.0 r all.0.1, each_writable rs all.1)

  called_alike : AreCalledAlike libraries → (rs : List ShortImport) → AllByRecursion (λ r. (m : MemberView) × OfExport m r) rs → (r s : ShortImport) → Contains rs r → Contains rs s → in_small r.dll ≡ in_small s.dll → r.dll ≡ s.dll
  called_alike alike rs all r s first second same =
      let two = all_among (λ x. (m : MemberView) × OfExport m x) s rs (contains_among s rs second) all in
      grind (arith, all_among (λ x. (m : MemberView) × OfExport m x) r rs (contains_among r rs first) all, among_contains)

  is_program : AreCalledAlike libraries → (own : List Object) (taken : List MemberView) → TakesIntoAs (read_by_lld machine) (archive_of libraries) own taken → (is_live : ShortImport → Bool) (descriptors addresses : ℕ) (image : List Range) (linked : List Placed) →
      IsBuiltByLld machine descriptors addresses (filter is_live (shorts_in machine taken)) image linked → IsLldProgram machine descriptors addresses (filter is_live (shorts_in machine taken)) image linked
  is_program alike own taken takes is_live descriptors addresses image linked built = grind (arith, all_filter, shorts_from, pulled, writable, each_writable, live_distinct, shorts_distinct, called_alike)

  pub lld_arrives : AreCalledAlike libraries → (own : List Object) (taken : List MemberView) → TakesIntoAs (read_by_lld machine) (archive_of libraries) own taken → LldArrives machine libraries own taken
  lld_arrives alike own taken takes = record {
    shorts = short_taken;
    wanted = λ r held. all_among (IsWanted own taken) r (shorts_in machine taken) (contains_among r (shorts_in machine taken) held) (shorts_wanted own taken taken (λ x there. there) takes.in_turn);
    program = is_program alike own taken takes;
    loaded = λ is_live descriptors addresses image linked built image_base codes targets memory gives steady at n written wide reads.
        let program = is_program alike own taken takes is_live descriptors addresses image linked built in
        let kept : List ShortImport = filter is_live (shorts_in machine taken) in
        let loaded = tables_load_in_memory machine image_base (tables_of_lld machine descriptors addresses kept image linked) codes targets memory gives (lld_tables machine descriptors addresses kept image linked program) steady at n written wide reads in
        record {
          count = loaded.0 ∙ lld_count machine descriptors addresses kept image linked program;
          loads = loaded.1;
          leads = λ l e wanted live can.
              subst (λ ask. AllLead machine image_base linked codes (written ++ memory) (imp_symbol (short_import_symbol e)) (gives l.definition.import_name ask)) (asks_so machine l e)
              (lld_leads machine descriptors addresses kept image linked program image_base codes targets memory gives steady at n written wide reads (short_of_export machine l e) (live_taken is_live l e wanted live) can);
          calls = λ l e wanted live can c d offset after caller held thunk has near.
              subst (λ ask. BranchArrivesByThunk machine image_base (written ++ memory) (c.position + offset) after (gives l.definition.import_name ask)) (asks_so machine l e)
              (lld_calls machine descriptors addresses kept image linked program image_base codes targets memory gives steady at n written wide reads (short_of_export machine l e) d
              (live_taken is_live l e wanted live) can held thunk c offset after caller has near);
        };
  }
    where
      short_taken : (l : Library) (e : ExportView) → IsWantedBy machine libraries own taken l e → Contains (shorts_in machine taken) (short_of_export machine l e)
      short_taken l e wanted =
          among_contains (short_of_export machine l e) (shorts_in machine taken)
          (kept_into (λ (m : MemberView). short_for machine m.bytes) taken (short_of_export machine l e) (short_of machine l e) (member_taken own taken l e takes wanted)
          (short_is_read machine l e (short_made machine libraries archive l (contains_among l libraries wanted.library)) (contains_among e (exports_of l) wanted.export)))

      live_taken : (is_live : ShortImport → Bool) (l : Library) (e : ExportView) → IsWantedBy machine libraries own taken l e → is_live (short_of_export machine l e) ≡ true →
          Contains (filter is_live (shorts_in machine taken)) (short_of_export machine l e)
      live_taken is_live l e wanted live =
          among_contains (short_of_export machine l e) (filter is_live (shorts_in machine taken))
          (passes is_live (short_of_export machine l e) (shorts_in machine taken) (contains_among (short_of_export machine l e) (shorts_in machine taken) (short_taken l e wanted)) live)

pub bytes_lead_to_lld_calls : (kind : Kind) (linker : LinkerMember) (machine : MachineType) (libraries : List Library) (own : List Object) → HaveArchive kind linker (archive_of libraries) → IsMsvcArchive machine libraries → AreCalledAlike libraries →
    TakesJust kind linker (archive_of libraries) (read_by_lld machine) own (LldArrives machine libraries own)
bytes_lead_to_lld_calls kind linker machine libraries own ready archive alike = grind (arith, takes_just, lld_arrives)

-- What lld takes of a command line's files arrives.

pub files_lead_to_lld : (machine : MachineType) (libraries : List Library) (files : List ArchiveFile) (own : List Object) (is_given : MemberView → Bool) (taken : List MemberView) →
    SearchesByLld machine libraries (members_in_files files) own is_given taken → IsMsvcArchive machine libraries → AreCalledAlike libraries →
    LldArrives machine libraries (given_with (read_by_lld machine) is_given own taken) (others_of is_given taken)
files_lead_to_lld machine libraries files own is_given taken s archive alike =
    let reads = read_by_lld machine in
    let given = given_with reads is_given own taken in
    lld_arrives machine libraries archive alike given (others_of is_given taken)
    (subst (λ ms. TakesIntoAs reads ms given (others_of is_given taken)) s.libraries_are (taken_as_given reads (members_in_files files) own s.whole is_given taken s.first s.searches))
