-- Tables of short imports with a third text, by computing and by the laws.
use Rattle.std.proofs.Common.{◌≡◌, ℕ, zero, suc, ◌+◌, ◌*◌, List, [], ◌∷◌, ◌++◌, codes, map, Some, refl, ap, sym, subst, arith, inl}
use Rattle.std.specs.Prelude.{slice_get}
use Rattle.std.specs.List.{AllByRecursion}
use Rattle.implib.specs.declared.machine.MachineType.TheVariants.{AMD64}
use Rattle.implib.specs.Formats.Constants.{amd64_rel32, class_external}
use Rattle.implib.specs.Link.Resolution.{definitions_of}
use Rattle.implib.proofs.Link.LinkedMembers.{among_contains}
use Rattle.implib.proofs.Link.Ranges.{Among}
use Rattle.implib_link.specs.Flavors.LldImports.{IsAskable, IsImportable, built, built_bytes, IsThunk, thunk_section}
use Rattle.implib_link.specs.Gnu.Fields.{AreLinkedBeside, ranges_of_codes, HasBranch}
use Rattle.implib_link.specs.Tables.{AreSteady, AreTables, DefineEntries, Table, TableEntry, Tables, imported_by_table}
use Rattle.implib_link.proofs.Flavors.LldImports.{built_pieces}
use Rattle.implib_link.proofs.Tables.{tables_lead_in_memory, thunk_called_in_memory, pieces_tables}
use Rattle.implib_link_instances.specs.Worked.Parts.{asking, table_at, PiecesAsk, WorkedThirdTexts, block_asking, third_code, third_codes, third_feed, third_image, third_linked, third_memory, third_section, third_tables, third_targets, third_thunk, third_written}
use Rattle.implib_link_instances.specs.Worked.Programs.{symbol_of_class}
use Rattle.implib_link_instances.proofs.Worked.Programs.{relocated_by, relocated_test, lld_opened, meet_test, meets_up, instruction_by}
use Rattle.implib_link_instances.proofs.Worked.Parts.{all_apart, all_apart_test, is_apart}

written : built_bytes AMD64 0x2000 (map imported_by_table third_tables) ≡ third_written
unfolding lld_opened
written = refl

pieces : PiecesAsk (codes "hay")
unfolding lld_opened Among
pieces =
    built_pieces AMD64 0x2000 (map imported_by_table third_tables) third_image (tt, tt)
    (among_contains (built AMD64 0x2000 (map imported_by_table third_tables)) third_image (inl (ap (λ bytes. record { start = 0x2000; bytes = bytes }) written)))

importable : AllByRecursion IsImportable (map imported_by_table third_tables)
unfolding IsAskable
importable = (record { name = refl; asks = ((omega arith, refl), ((omega arith, refl), tt)) }, tt)

abbrev zoo_table : Table
zoo_table = table_at (codes "zoo.dll") 0x2040 (asking (codes "hay") 0 (codes "__imp_feed") ∷ asking (codes "pat") 3 (codes "__imp_pat") ∷ [])

-- an entry of the table, by its number
by_entry : (x : Table) (own e : TableEntry) (symbol name : List ℕ) (j : ℕ) → zoo_table ≡ x → slice_get zoo_table.entries j ≡ Some own → slice_get x.entries j ≡ Some e → own.symbol ≡ Some symbol → e.symbol ≡ Some name →
    definitions_of symbol third_linked ≡ record { name = symbol; address = Some (0x2040 + 8 * j) } ∷ [] → definitions_of name third_linked ≡ record { name = name; address = Some (x.address + 8 * j) } ∷ []
by_entry x own e symbol name j table own_at at own_named named defined = grind arith

feed_defined : definitions_of (codes "__imp_feed") third_linked ≡ record { name = codes "__imp_feed"; address = Some 0x2040 } ∷ []
unfolding lld_opened
feed_defined = refl

pat_defined : definitions_of (codes "__imp_pat") third_linked ≡ record { name = codes "__imp_pat"; address = Some 0x2048 } ∷ []
unfolding lld_opened
pat_defined = refl

define : DefineEntries AMD64 third_linked third_tables
define zero zero x e name is asked named =
    let table : zoo_table ≡ x = cc in
    by_entry x (asking (codes "hay") 0 (codes "__imp_feed")) e (codes "__imp_feed") name 0 table refl asked refl named feed_defined
define zero (suc zero) x e name is asked named =
    let table : zoo_table ≡ x = cc in
    by_entry x (asking (codes "pat") 3 (codes "__imp_pat")) e (codes "__imp_pat") name 1 table refl asked refl named pat_defined
define zero (suc (suc j)) x e name is asked named =
    let table : zoo_table ≡ x = cc in
    let none : slice_get zoo_table.entries (suc (suc j)) ≡ Some e = subst (λ (y : Table). slice_get y.entries (suc (suc j)) ≡ Some e) (sym table) asked in
    cc
define (suc i) j x e name is asked named = cc

abbrev own : Tables
own = record { image = third_image; linked = third_linked; directory = 0x2000; tables = third_tables }

tables : AreTables AMD64 own
tables = pieces_tables AMD64 third_image third_linked 0x2000 0x2028 0x2040 0x2058 0x2064 (block_asking (codes "hay") ∷ []) (omega arith, tt) (omega arith, tt) importable pieces define

steady : AreSteady AMD64 third_linked
unfolding lld_opened
steady = refl

beside : AreLinkedBeside AMD64 0x1_4000_0000 third_image third_linked third_codes third_targets
unfolding lld_opened relocated_test meets_up meet_test is_apart all_apart_test
beside =
    grind (arith, all_apart (third_image ++ ranges_of_codes third_codes) refl, relocated_by AMD64 0x1_4000_0000 (third_targets third_code) 0x1000 third_section third_code.bytes refl, relocated_by AMD64 0x1_4000_0000 (third_targets third_thunk) 0x1020 (thunk_section AMD64) third_thunk.bytes refl)

call : HasBranch AMD64 third_code 7 0 (codes "feed")
call = record {
  type = amd64_rel32;
  field = record {
    symbol = 2;
    alone = refl;
    inside = omega arith;
    names = record { symbol = symbol_of_class (codes "feed") 0 class_external; target = refl; undefined = refl; named = refl };
  };
  counts = (0, (omega arith, (refl, refl)));
  within = omega arith;
}

thunk_is : IsThunk AMD64 third_thunk third_feed
thunk_is = record { from = refl; number = refl }

pub worked_third_texts : WorkedThirdTexts
unfolding lld_opened
worked_third_texts = record {
  written = written;
  pieces = pieces;
  tables = tables;
  steady = steady;
  beside = beside;
  through_entry = instruction_by amd64_rel32 1 (0 ∷ 0 ∷ 0 ∷ 0 ∷ [])
      (record { symbol = symbol_of_class (codes "__imp_feed") 0 class_external; target = refl; undefined = refl; named = refl }) (0, (omega arith, (refl, refl))) refl refl refl;
  call = call;
  arrive = λ gives n written wide reads. (
    tables_lead_in_memory AMD64 0x1_4000_0000 own third_codes third_targets third_memory gives tables steady (inl (beside, refl)) n written wide reads 0 0 zoo_table (asking (codes "hay") 0 (codes "__imp_feed")) (codes "__imp_feed") refl refl refl tt,
    thunk_called_in_memory AMD64 0x1_4000_0000 own third_codes third_targets third_memory gives tables steady (inl (beside, refl)) n written wide reads 0 0 zoo_table (asking (codes "hay") 0 (codes "__imp_feed")) refl refl tt
        third_feed third_thunk refl (1, omega arith, refl) thunk_is third_code 7 0 (0, omega arith, refl) call tt,
  );
}
