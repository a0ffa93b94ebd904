-- Names that stand for others, by computing and by the law.
use Rattle.std.proofs.Common.{◌≡◌, ℕ, ◌+◌, Bool, true, List, [], ◌∷◌, ◌++◌, codes, Option, None, Some, refl, ◌∙◌, subst, arith, inl, inr, if◌then◌else◌}
use Rattle.std.specs.Prelude.{◌&&◌, ◌==◌, bytes_eq, drop, slice_get, take}
use Rattle.std.specs.List.{Contains, list_all}
use Rattle.std.proofs.lemmas.Bool.{and_from, eq-eqb, eqb-true}
use Rattle.implib.specs.declared.machine.MachineType.TheVariants.{AMD64}
use Rattle.implib.specs.Formats.Constants.{amd64_rel32, class_external}
use Rattle.implib.specs.Formats.File.{is_defined_external}
use Rattle.implib.specs.Formats.Layout.{encoded_size}
use Rattle.implib.specs.Formats.Object.{ASymbol, Auxiliary, Entry, ObjectSymbol}
use Rattle.implib.specs.Import.{Ordinal}
use Rattle.implib.specs.Link.Image.{image_of}
use Rattle.implib.specs.Link.Placement.{Placed}
use Rattle.implib.specs.Link.Resolution.{definitions_of, first_address}
use Rattle.implib.specs.Members.GnuMembers.{alias_specs}
use Rattle.implib.specs.Members.Members.{refusal, renamed_refusal}
use Rattle.implib.specs.Members.WeakExternal.{weak_object}
use Rattle.implib.proofs.Link.Definitions.{same_text}
use Rattle.implib_link.specs.Flavors.LldImports.{IsLldProgram, imp_symbols_of, IsAskable, IsThunk, placed_thunk, thunk_section}
use Rattle.implib_link.specs.Gnu.Aliases.{StandsFor}
use Rattle.implib_link.specs.Gnu.Fields.{HasDirectCall, StubAt, AreLinkedBeside, DefinesIn, LinkedCode, placed_code, ranges_of_codes, HasBranch, HasInstruction, Names}
use Rattle.implib_link.specs.Flavors.Program.{has_tables}
use Rattle.implib_link.specs.Parts.{IsProgramOfParts}
use Rattle.implib_link.specs.Tables.{AreSteady, AreTables, Table, Tables, tables_of_lld}
use Rattle.implib_link.proofs.Parts.Members.{parts_steady}
use Rattle.implib_link.proofs.Parts.Programs.{parts_tables}
use Rattle.implib_link.proofs.Search.Lists.{contains_among, each_of}
use Rattle.implib_link.proofs.Tables.{other_leads, stub_called_otherwise, tables_end_in_memory, thunk_called_otherwise, lld_tables}
use Rattle.implib_link_instances.specs.Worked.Programs.{code_of_thunk, lld_image_on, linked_code, linked_thunk, mid_on, object_section, shorts_on, taken_address, symbol_of_class}
use Rattle.implib_link_instances.specs.Worked.Parts.{asking, gnu_bases, gnu_image, start_code, stub_code, table_at, zoo_parts, zoo_tables}
use Rattle.implib_link_instances.specs.Worked.OtherNames.{HoldsOfSome, eight_zeros, other_tables, WorkedAlternateNames, WorkedOtherNames, lld_other_address, lld_other_code, lld_other_codes, lld_other_linked, lld_other_memory, lld_other_targets, other_address, other_codes, other_linked, other_memory, other_objects, other_placed, other_start, other_targets}
use Rattle.implib_link_instances.proofs.Worked.Programs.{relocated_by, relocated_test, alike, lld_opened, lld_pieces, meet_test, meets_up, takes_outside, admissible_by, all_claim_none, distinct_by, instruction_by, opened}
use Rattle.implib_link_instances.proofs.Worked.Parts.{all_apart, all_apart_test, is_apart, zoo_are, zoo_stores}

-- A name that nothing defines is taken to be at one address; it stands for another where that is there.

defined_at : ℕ → List ℕ → LinkedCode → Entry → Bool
defined_at address other d (Auxiliary bytes) = true
defined_at address other d (ASymbol t) = if is_defined_external t && ((t.section == d.number) && bytes_eq other t.name) then address == d.position + t.value else true

found_at : ℕ → Option ℕ → Bool
found_at address None = true
found_at address (Some n) = address == n

module _ (outside : List ℕ → ℕ) (linked : List Placed) (codes : List LinkedCode) (name other : List ℕ) (none : definitions_of name linked ≡ []) where
  taken_by_name : (c : LinkedCode) (index : ℕ) → Names c.from index name → taken_address outside linked c.from (slice_get c.from.object.entries index) ≡ outside name
  taken_by_name c index names = grind arith

  stands_in_tables : found_at (outside name) (first_address (definitions_of other linked)) ≡ true → (c : LinkedCode) (index address : ℕ) → Names c.from index name → first_address (definitions_of other linked) ≡ Some address →
      taken_address outside linked c.from (slice_get c.from.object.entries index) ≡ address
  unfolding found_at
  stands_in_tables entry c index address names found = taken_by_name c index names ∙ eqb-true (outside name) address (rw found at entry)

  stands_in_code : list_all (λ (d : LinkedCode). list_all (defined_at (outside name) other d) d.from.object.entries) codes ≡ true → (c d : LinkedCode) (index : ℕ) (t : ObjectSymbol) → Contains codes d → Names c.from index name → DefinesIn d t → t.name ≡ other →
      taken_address outside linked c.from (slice_get c.from.object.entries index) ≡ d.position + t.value
  unfolding defined_at
  stands_in_code code c d index t d_held names defines named =
      grind (arith, contains_among d codes d_held, defined_at (outside name) other d (ASymbol t), defined_at (outside name) other d, contains_among (ASymbol t) d.from.object.entries defines.held, same_text other, taken_by_name c index names, each_of, defines, eq-eqb, and_from, eqb-true)

  stands_by : found_at (outside name) (first_address (definitions_of other linked)) ≡ true → list_all (λ (d : LinkedCode). list_all (defined_at (outside name) other d) d.from.object.entries) codes ≡ true →
      StandsFor linked codes (λ c index. taken_address outside linked c.from (slice_get c.from.object.entries index)) name other
  stands_by entry code = record {
    tables = λ c index address held names found. stands_in_tables entry c index address names found;
    code = λ c d index t held d_held names defines named. stands_in_code code c d index t d_held names defines named;
  }

-- GNU ld's program.

program : IsProgramOfParts AMD64 gnu_bases zoo_parts other_objects
unfolding opened refusal renamed_refusal alias_specs encoded_size weak_object has_tables
program = grind (arith, distinct_by, all_claim_none, admissible_by)

image_is : image_of AMD64 gnu_bases other_linked ≡ gnu_image
unfolding opened refusal renamed_refusal alias_specs encoded_size weak_object has_tables
image_is = refl

steady : AreSteady AMD64 other_linked
steady = parts_steady AMD64 gnu_bases zoo_parts other_objects program zoo_stores

beside : AreLinkedBeside AMD64 0x1_4000_0000 gnu_image other_linked other_codes other_targets
unfolding opened refusal renamed_refusal alias_specs encoded_size weak_object relocated_test meets_up meet_test is_apart all_apart_test
beside = record {
  held = ((0, omega arith, refl), ((5, omega arith, refl), tt));
  sections = (refl, (refl, tt));
  ends = (omega arith, (omega arith, tt));
  apart = all_apart (gnu_image ++ ranges_of_codes other_codes) refl;
  relocated = grind (arith, relocated_by AMD64 0x1_4000_0000 (other_targets other_start) 0x1000 other_start.code start_code.bytes refl, relocated_by AMD64 0x1_4000_0000 (other_targets stub_code) 0x1030 stub_code.code stub_code.bytes refl);
  resolved = takes_outside other_address other_linked other_codes refl;
}

entry_stands : StandsFor other_linked other_codes other_targets (codes "__imp_zoo_oped") (codes "__imp_zoo_open")
unfolding opened refusal renamed_refusal alias_specs encoded_size weak_object found_at defined_at
entry_stands = stands_by other_address other_linked other_codes (codes "__imp_zoo_oped") (codes "__imp_zoo_open") refl refl refl

bare_stands : StandsFor other_linked other_codes other_targets (codes "zoo_oped") (codes "zoo_open")
unfolding opened refusal renamed_refusal alias_specs encoded_size weak_object found_at defined_at
bare_stands = stands_by other_address other_linked other_codes (codes "zoo_oped") (codes "zoo_open") refl refl refl

through_entry : HasInstruction AMD64 other_start 5 (0xFF ∷ 0x15 ∷ []) [] (codes "__imp_zoo_oped")
unfolding opened
through_entry =
    instruction_by amd64_rel32 11 (0 ∷ 0 ∷ 0 ∷ 0 ∷ [])
    (record { symbol = symbol_of_class (codes "__imp_zoo_oped") 0 class_external; target = refl; undefined = refl; named = refl }) (0, (omega arith, (refl, refl))) refl refl refl

called : HasDirectCall AMD64 (placed_code other_start) 13 (codes "zoo_oped")
unfolding opened
called = record {
  front = take 13 other_start.code.bytes;
  back = drop 18 other_start.code.bytes;
  instructions = refl;
  here = refl;
  index = 13;
  before = take 1 other_start.code.relocations;
  behind = drop 2 other_start.code.relocations;
  relocated = refl;
  aside_before = (inl (omega arith), tt);
  aside_behind = (inr (omega arith), (inr (omega arith), tt));
  symbol = record { name = codes "zoo_oped"; value = 0; section = 0; kind = 0x20; class = class_external };
  target = refl;
  undefined = refl;
  named = refl;
}

abbrev zoo_symbol : ObjectSymbol
zoo_symbol = symbol_of_class (codes "zoo_open") 1 class_external

defines : DefinesIn stub_code zoo_symbol
unfolding opened
defines = record { held = (1, omega arith, refl); external = refl; here = refl }

abbrev tables : Tables
tables = record { image = gnu_image; linked = other_linked; directory = 0x3000; tables = zoo_tables 0x3060 0x3070 }

are_tables : AreTables AMD64 tables
are_tables = subst (λ rs. AreTables AMD64 (record { image = rs; linked = other_linked; directory = 0x3000; tables = zoo_tables 0x3060 0x3070 })) image_is (parts_tables AMD64 gnu_bases zoo_parts other_objects zoo_are program)

abbrev zoo_table : Table
zoo_table = table_at (codes "zoo.dll") 0x3070 (asking (codes "zoo_open") 0 (codes "__imp_zoo_open") ∷ [])

stub_is : StubAt AMD64 other_linked (placed_code stub_code) zoo_symbol 0x3070
unfolding opened refusal renamed_refusal alias_specs encoded_size weak_object
stub_is = record { bytes = refl; relocations = refl; begins = refl; symbol = ASymbol (symbol_of_class (codes "__imp_zoo_open") 5 class_external); held = refl; placed = refl }

pub worked_other_names : WorkedOtherNames
unfolding opened refusal renamed_refusal alias_specs encoded_size weak_object
worked_other_names =
    record {
      program = program;
      image = image_is;
      steady = steady;
      beside = beside;
      entry = entry_stands;
      bare = bare_stands;
      through_entry = through_entry;
      call = called;
      defines = defines;
      stub = stub_is;
      arrive = λ gives n written wide reads. (
        other_leads AMD64 0x1_4000_0000 tables other_codes other_targets gives are_tables steady beside n written wide reads 1 0 zoo_table (asking (codes "zoo_open") 0 (codes "__imp_zoo_open")) (codes "__imp_zoo_open") (codes "__imp_zoo_oped") refl refl refl tt entry_stands,
        stub_called_otherwise AMD64 0x1_4000_0000 tables other_codes other_targets other_memory gives are_tables steady (inl (beside, refl)) n written wide reads 1 0 zoo_table (asking (codes "zoo_open") 0 (codes "__imp_zoo_open")) (codes "__imp_zoo_open") refl refl refl tt
            stub_code zoo_symbol (1, omega arith, refl) stub_is other_start 13 (codes "zoo_oped") (0, omega arith, refl) defines bare_stands called tt,
      );
    }

-- lld's program.

lld_program : IsLldProgram AMD64 0x2000 0x2068 (shorts_on AMD64) (lld_image_on AMD64) lld_other_linked
unfolding lld_opened IsAskable
lld_program = record {
  writable = (record { name = refl; asks = (omega arith, tt) }, (record { name = refl; asks = ((omega arith, refl), tt) }, (record { name = refl; asks = ((omega arith, refl), tt) }, tt)));
  distinct = distinct_by (imp_symbols_of (shorts_on AMD64)) refl;
  agree = grind (arith, alike);
  before = other_placed ∷ [];
  behind = placed_thunk AMD64 (mid_on AMD64) ∷ [];
  placed = refl;
  none_before = (refl, (refl, (refl, tt)));
  none_behind = (refl, (refl, (refl, tt)));
  lookups = 0x2040;
  hints = 0x2090;
  names = 0x209E;
  pieces = lld_pieces AMD64 tt;
  starts = (omega arith, tt);
  ends = (omega arith, tt);
}

lld_steady : AreSteady AMD64 lld_other_linked
unfolding lld_opened
lld_steady = refl

lld_beside : AreLinkedBeside AMD64 0x1_4000_0000 (lld_image_on AMD64) lld_other_linked lld_other_codes lld_other_targets
unfolding lld_opened relocated_test meets_up meet_test is_apart all_apart_test
lld_beside =
    grind (arith, all_apart (lld_image_on AMD64 ++ ranges_of_codes lld_other_codes) refl, relocated_by AMD64 0x1_4000_0000 (lld_other_targets lld_other_code) 0x1000 (object_section AMD64) (linked_code AMD64) refl, relocated_by AMD64 0x1_4000_0000 (lld_other_targets (code_of_thunk AMD64)) 0x1020 (thunk_section AMD64) (linked_thunk AMD64) refl, takes_outside lld_other_address lld_other_linked lld_other_codes refl)

lld_entry_stands : StandsFor lld_other_linked lld_other_codes lld_other_targets (codes "__imp_gea") (codes "__imp_gee")
unfolding lld_opened found_at defined_at
lld_entry_stands = stands_by lld_other_address lld_other_linked lld_other_codes (codes "__imp_gea") (codes "__imp_gee") refl refl refl

lld_bare_stands : StandsFor lld_other_linked lld_other_codes lld_other_targets (codes "mad") (codes "mid")
unfolding lld_opened found_at defined_at
lld_bare_stands = stands_by lld_other_address lld_other_linked lld_other_codes (codes "mad") (codes "mid") refl refl refl

branch_is : HasBranch AMD64 lld_other_code 14 0 (codes "mad")
branch_is = record {
  type = amd64_rel32;
  field = record {
    symbol = 3;
    alone = refl;
    inside = omega arith;
    names = record { symbol = symbol_of_class (codes "mad") 0 class_external; target = refl; undefined = refl; named = refl };
  };
  counts = (0, (omega arith, (refl, refl)));
  within = omega arith;
}

thunk_is : IsThunk AMD64 (code_of_thunk AMD64) (mid_on AMD64)
thunk_is = record { from = refl; number = refl }

pub worked_alternate_names : WorkedAlternateNames
unfolding lld_opened
worked_alternate_names =
    let lld : Tables = tables_of_lld AMD64 0x2000 0x2068 (shorts_on AMD64) (lld_image_on AMD64) lld_other_linked in
    let are = lld_tables AMD64 0x2000 0x2068 (shorts_on AMD64) (lld_image_on AMD64) lld_other_linked lld_program in
    record {
      program = lld_program;
      steady = lld_steady;
      beside = lld_beside;
      entry = lld_entry_stands;
      bare = lld_bare_stands;
      through_entry = instruction_by amd64_rel32 2 (0 ∷ 0 ∷ 0 ∷ 0 ∷ [])
          (record { symbol = symbol_of_class (codes "__imp_gea") 0 class_external; target = refl; undefined = refl; named = refl }) (0, (omega arith, (refl, refl))) refl refl refl;
      branch = branch_is;
      thunk = thunk_is;
      arrive = λ gives n written wide reads. (
        other_leads AMD64 0x1_4000_0000 lld lld_other_codes lld_other_targets gives are lld_steady lld_beside n written wide reads 1 0
            (table_at (codes "alpha.dll") 0x2080 (asking (codes "gee") 258 (codes "__imp_gee") ∷ [])) (asking (codes "gee") 258 (codes "__imp_gee")) (codes "__imp_gee") (codes "__imp_gea") refl refl refl tt lld_entry_stands,
        thunk_called_otherwise AMD64 0x1_4000_0000 lld lld_other_codes lld_other_targets lld_other_memory gives are lld_steady (inl (lld_beside, refl)) n written wide reads 0 0
            (table_at (codes "beta.dll") 0x2068 (record { ask = Ordinal 7; symbol = Some (codes "__imp_mid") } ∷ asking (codes "zeta") 5 (codes "__imp_zeta") ∷ [])) (record { ask = Ordinal 7; symbol = Some (codes "__imp_mid") }) refl refl tt
            (mid_on AMD64) (code_of_thunk AMD64) refl (1, omega arith, refl) thunk_is lld_other_code 14 0 (codes "mad") (0, omega arith, refl) lld_bare_stands branch_is tt,
      );
    }

-- What holds of all holds of these.

pub holds_of_some : HoldsOfSome
unfolding opened refusal renamed_refusal alias_specs encoded_size weak_object lld_opened
holds_of_some =
    let ends = tables_end_in_memory AMD64 0x1_4000_0000 other_tables other_codes other_targets other_memory eight_zeros are_tables steady (inl (beside, refl)) in
    record {
      where_loaded = λ holds. holds AMD64 0x1_4000_0000 other_tables other_codes other_targets other_memory eight_zeros are_tables steady (inl (beside, refl)) 2 ends.0 (λ dll ask. refl) ends.1;
      of_entries = λ holds. holds 1 0 zoo_table (asking (codes "zoo_open") 0 (codes "__imp_zoo_open")) (codes "__imp_zoo_open") refl refl refl tt;
      of_stubs = λ holds. holds 1 0 zoo_table (asking (codes "zoo_open") 0 (codes "__imp_zoo_open")) (codes "__imp_zoo_open") refl refl refl tt stub_code zoo_symbol (1, omega arith, refl) stub_is;
      of_thunks = λ holds.
          holds 0 0 (table_at (codes "beta.dll") 0x2068 (record { ask = Ordinal 7; symbol = Some (codes "__imp_mid") } ∷ asking (codes "zeta") 5 (codes "__imp_zeta") ∷ []))
          (record { ask = Ordinal 7; symbol = Some (codes "__imp_mid") }) refl refl tt (mid_on AMD64) (code_of_thunk AMD64) refl (1, omega arith, refl) thunk_is;
    }
