-- Programs of lld, by what is proved of any import tables: fields and branches lead, by the short imports.
use Rattle.std.proofs.Common.{arith, rules, ◌≡◌, ℕ, ◌+◌, ◌*◌, List, ◌++◌, length, map, refl, sym, ◌∙◌, subst}
use Rattle.std.specs.List.{Contains}
use Rattle.std.proofs.lemmas.List.{length-map}
use Rattle.implib.specs.declared.machine.MachineType.{MachineType}
use Rattle.implib.specs.Formats.ShortImport.{ShortImport, ask_of_short_import}
use Rattle.implib.specs.Import.{Ask, imp_symbol}
use Rattle.implib.specs.Link.Image.{Range}
use Rattle.implib.specs.Link.Placement.{Placed}
use Rattle.implib.specs.Members.ImportTables.{thunk_width}
use Rattle.implib_link.specs.Flavors.LldImports.{IsLldProgram, dll_of_group, grouped, BranchArrivesByThunk, IsThunk}
use Rattle.implib_link.specs.Gnu.Fields.{LinkedCode, CanBranch, AllLead, HasBranch}
use Rattle.implib_link.specs.Gnu.Moves.{AreInMemory}
use Rattle.implib_link.specs.Gnu.Writing.{ReadsAndWrites}
use Rattle.implib_link.specs.Tables.{AreSteady, AreTables, Block, CanReadFrom, Table, block_of_group, entry_of_short, tables_of_lld}
use Rattle.implib_link.proofs.Flavors.LldImports.{grouped_holds, in_place, get_map, only}
use Rattle.implib_link.proofs.Search.Lists.{contains_among}
use Rattle.implib_link.proofs.Tables.{entry_leads, thunk_called_in_memory, HasEntry, block_entry, entries_until, packed_count, reads_further, lld_tables}
use Rattle.implib.proofs.Link.LinkedMembers.{all_at}

module _ (machine : MachineType) (descriptors addresses : ℕ) (taken : List ShortImport) (image : List Range) (linked : List Placed)
    (program : IsLldProgram machine descriptors addresses taken image linked) where
  abbrev tables : AreTables machine (tables_of_lld machine descriptors addresses taken image linked)
  tables = lld_tables machine descriptors addresses taken image linked program

  in_table : (r : ShortImport) → Contains taken r → (n : ℕ) × ((j : ℕ) × HasEntry (tables_of_lld machine descriptors addresses taken image linked) (imp_symbol r.symbol) r.dll (ask_of_short_import r) (addresses + thunk_width machine * n) j)
  in_table r holds =
      let at = in_place r (grouped taken) (grouped_holds r taken (contains_among r taken holds)) in
      let b : Block = block_of_group at.group in
      let same : r.dll ≡ dll_of_group at.group = grind (arith, only machine descriptors addresses taken image linked program, all_at) in (
        entries_until at.i (map block_of_group (grouped taken)),
        (
          at.j,
          subst (λ dll. HasEntry (tables_of_lld machine descriptors addresses taken image linked) (imp_symbol r.symbol) dll (ask_of_short_import r) (addresses + thunk_width machine * entries_until at.i (map block_of_group (grouped taken))) at.j)
              (sym same)
              (block_entry machine image linked descriptors addresses (map block_of_group (grouped taken)) at.i at.j b (entry_of_short r) (imp_symbol r.symbol) (get_map block_of_group (grouped taken) at.i at.group at.its_group)
              (get_map entry_of_short at.group at.j r at.is) refl),
        ),
      )

  -- as many tables as DLLs
  pub lld_count : length (tables_of_lld machine descriptors addresses taken image linked).tables ≡ length (grouped taken)
  lld_count = packed_count (thunk_width machine) (map block_of_group (grouped taken)) addresses ∙ length-map (grouped taken) block_of_group

  module _ (image_base : ℕ) (codes : List LinkedCode) (targets : LinkedCode → ℕ → ℕ) (memory : List Range) (gives : List ℕ → Ask → List ℕ)
      (steady : AreSteady machine linked) (at : AreInMemory machine image_base image linked codes targets memory) where
    pub lld_leads : (n : ℕ) (written : List Range) → ((dll : List ℕ) (ask : Ask) → length (gives dll ask) ≡ thunk_width machine) → ReadsAndWrites memory (thunk_width machine) gives n descriptors written →
        (r : ShortImport) → Contains taken r → CanReadFrom machine image_base addresses →
        AllLead machine image_base linked codes (written ++ memory) (imp_symbol r.symbol) (gives r.dll (ask_of_short_import r))
    lld_leads n written wide reads r holds can =
        search (rules, in_table r holds, entry_leads machine image_base (tables_of_lld machine descriptors addresses taken image linked) codes targets memory gives tables steady, reads_further)

    pub lld_calls : (n : ℕ) (written : List Range) → ((dll : List ℕ) (ask : Ask) → length (gives dll ask) ≡ thunk_width machine) → ReadsAndWrites memory (thunk_width machine) gives n descriptors written →
        (r : ShortImport) (d : LinkedCode) → Contains taken r → CanReadFrom machine image_base addresses → Contains codes d → IsThunk machine d r → (c : LinkedCode) (offset after : ℕ) → Contains codes c →
        HasBranch machine c offset after r.symbol → CanBranch machine (c.position + offset) d.position →
        BranchArrivesByThunk machine image_base (written ++ memory) (c.position + offset) after (gives r.dll (ask_of_short_import r))
    lld_calls n written wide reads r d holds can held thunk c offset after caller has near =
        let own = in_table r holds in
        let x : Table = own.1.1.table in
        subst (λ dll. BranchArrivesByThunk machine image_base (written ++ memory) (c.position + offset) after (gives dll (ask_of_short_import r))) own.1.1.of_dll
        (subst (λ ask. BranchArrivesByThunk machine image_base (written ++ memory) (c.position + offset) after (gives x.dll ask)) own.1.1.of_ask
        (thunk_called_in_memory machine image_base (tables_of_lld machine descriptors addresses taken image linked) codes targets memory gives tables steady at n written wide reads
        own.1.1.i own.1.0 x own.1.1.entry own.1.1.is own.1.1.asked (subst (CanReadFrom machine image_base) (sym own.1.1.at) (reads_further machine image_base addresses own.0 can))
        r d own.1.1.symbol held thunk c offset after caller has near))
