-- The programs that hold addresses as numbers, by computing.
use Rattle.std.proofs.Common.{◌≡◌, ℕ, ◌+◌, ◌^◌, ◌%◌, Bool, true, false, List, [], ◌∷◌, codes, refl, inl, inr, arith}
use Rattle.std.specs.Prelude.{◌&&◌, ◌==◌, if◌then◌else◌}
use Rattle.std.specs.List.{list_all}
use Rattle.std.proofs.lemmas.Bool.{and_from, eq-eqb, eqb-true, ne_eqb}
use Rattle.implib.specs.declared.coff.object.Relocation.{Relocation}
use Rattle.implib.specs.declared.machine.MachineType.{MachineType}
use Rattle.implib.specs.declared.machine.MachineType.TheVariants.{I386, ARMNT, AMD64, ARM64}
use Rattle.implib.specs.Formats.Constants.{amd64_rel32, class_external}
use Rattle.implib.specs.Machine.{is_32bit}
use Rattle.implib.specs.Link.Image.{Range}
use Rattle.implib.proofs.Link.Ranges.{apart_as_they_rise}
use Rattle.implib_link.specs.Flavors.LldImports.{IsLldProgram, placed_thunk, thunk_section}
use Rattle.implib_link.specs.Gnu.Fields.{field_width, AreLinkedBeside, LinkedCode, field_at, range_of_code, ranges_of_codes, Names, IsRebased, table_places}
use Rattle.implib_link.specs.Gnu.Moves.{AreMoved}
use Rattle.implib_link.specs.Gnu.Stored.{AreFurtherHeld, AreStoredInMemory, HoldsFurther, amd64_addr32nb, arm64_add, arm64_addr32nb, arm64_pageoffset_12a, i386_dir32nb}
use Rattle.implib_link.specs.Stub.{bits_of, with_bits}
use Rattle.implib_link_instances.specs.Worked.Programs.{linked_thunk, lld_image_on, mid_on, shorts_on, tables_on, addresses_on, symbol_of_class}
use Rattle.implib_link_instances.specs.Worked.Stored.{WorkedHolding, WorkedHoldings, held_at, held_linked, held_section, holding_codes, holding_memory, holding_moved_memory, holding_placed, holding_places, holding_targets, mid_name, mid_thunk, mid_thunk_at, picking_at, picking_linked, picking_section, placed_holding, unwind_at, unwind_linked, unwind_section}
use Rattle.implib_link.proofs.Gnu.Fields.{alone_among}
use Rattle.implib_link.proofs.Search.Lists.{contains_among, each_of}
use Rattle.implib_link_instances.proofs.Worked.Programs.{lld_opened, disjoint, meet_test, takes_outside, lld_program, all_needed, both_equal, only_absolute, rebased_by, relocated_by, relocated_test, instruction_by}
use Rattle.implib_link_instances.proofs.Worked.Lemmas.{NotThumb, image_base, number, whole_type}

-- Fields of further types, by computing.

is_relative : MachineType → ℕ → Bool
is_relative I386 type = type == i386_dir32nb
is_relative ARMNT type = false
is_relative AMD64 type = type == amd64_addr32nb
is_relative ARM64 type = type == arm64_addr32nb

is_added : MachineType → ℕ → ℕ → Bool
is_added I386 type old = false
is_added ARMNT type old = false
is_added AMD64 type old = false
is_added ARM64 type old = (type == arm64_pageoffset_12a) && (bits_of 22 10 old == arm64_add)

pub field_further : MachineType → ℕ → ℕ → ℕ → (ℕ → ℕ) → (ℕ → ℕ) → Bool
unfolding is_relative is_added
field_further machine type image_base target old new =
    if is_relative machine type then new 4 == (old 4 + target) % 2 ^ 32
    else if is_added machine type (old 4)
    then (with_bits 10 12 0 (new 4) == with_bits 10 12 0 (old 4)) && (bits_of 10 12 (new 4) == (image_base + target + bits_of 10 12 (old 4)) % 4096)
    else true

pub holds_further : (machine : MachineType) (type image_base target : ℕ) (old new : ℕ → ℕ) → field_further machine type image_base target old new ≡ true → HoldsFurther machine type image_base target old new
unfolding field_further is_relative is_added
holds_further I386 type image_base target old new test = record {
  relative = λ is. let here : (type == i386_dir32nb) ≡ true = eq-eqb type i386_dir32nb is in eqb-true (new 4) ((old 4 + target) % 2 ^ 32) (rw here at test);
  added = λ is t a. cc;
}
holds_further ARMNT type image_base target old new test = record { relative = λ is. absurd is; added = λ is t a. cc }
holds_further AMD64 type image_base target old new test = record {
  relative = λ is. let here : (type == amd64_addr32nb) ≡ true = eq-eqb type amd64_addr32nb is in eqb-true (new 4) ((old 4 + target) % 2 ^ 32) (rw here at test);
  added = λ is t a. cc;
}
holds_further ARM64 type image_base target old new test = record {
  relative = λ is. let here : (type == arm64_addr32nb) ≡ true = eq-eqb type arm64_addr32nb is in eqb-true (new 4) ((old 4 + target) % 2 ^ 32) (rw here at test);
  added = λ is t a. grind (arith, ne_eqb, and_from, eq-eqb, both_equal);
}

abbrev each_further : MachineType → ℕ → (LinkedCode → ℕ → ℕ) → LinkedCode → Relocation → Bool
unfolding field_further
each_further machine image_base targets c r = field_further machine r.kind image_base (targets c r.symbol) (field_at c.code.bytes r.offset) (field_at c.bytes r.offset)

unfoldable pub further_test : MachineType → ℕ → List LinkedCode → (LinkedCode → ℕ → ℕ) → Bool
unfolding field_further is_relative is_added
further_test machine image_base codes targets = list_all (λ (c : LinkedCode). list_all (each_further machine image_base targets c) c.code.relocations) codes

pub further_by : (machine : MachineType) (image_base : ℕ) (codes : List LinkedCode) (targets : LinkedCode → ℕ → ℕ) → further_test machine image_base codes targets ≡ true → AreFurtherHeld machine image_base codes targets
unfolding further_test
further_by machine image_base codes targets test c held r alone inside =
    let one = each_of (λ (x : LinkedCode). list_all (each_further machine image_base targets x) x.code.relocations) c codes test (contains_among c codes held) in
    holds_further machine r.kind image_base (targets c r.symbol) (field_at c.code.bytes r.offset) (field_at c.bytes r.offset)
    (each_of (each_further machine image_base targets c) r c.code.relocations one (alone_among machine c.code.relocations r.offset (field_width machine r.kind) r alone))

-- The three programs.

pub holding_program : (machine : MachineType) → NotThumb machine → IsLldProgram machine 0x2000 (addresses_on machine) (shorts_on machine) (lld_image_on machine) (holding_placed machine)
unfolding lld_opened
holding_program ARMNT none = absurd none
holding_program machine is = let other = lld_program machine is in
    record {
      writable = other.writable;
      distinct = other.distinct;
      agree = other.agree;
      before = placed_holding machine ∷ [];
      behind = placed_thunk machine (mid_on machine) ∷ [];
      placed = refl;
      none_before = (refl, (refl, (refl, tt)));
      none_behind = (refl, (refl, (refl, tt)));
      lookups = other.lookups;
      hints = other.hints;
      names = other.names;
      pieces = other.pieces;
      starts = (omega arith, tt);
      ends = (omega arith, tt);
    }

pub holding_beside : (machine : MachineType) → NotThumb machine → AreLinkedBeside machine (image_base machine) (lld_image_on machine) (holding_placed machine) (holding_codes machine) (holding_targets machine)
unfolding lld_opened relocated_test meet_test
holding_beside ARMNT none = absurd none
holding_beside machine _ = record {
  held = ((0, omega arith, refl), ((2, omega arith, refl), ((0, omega arith, refl), ((0, omega arith, refl), tt))));
  sections = (refl, (refl, (refl, (refl, tt))));
  ends = (omega arith, (omega arith, (omega arith, (omega arith, tt))));
  apart = ((disjoint (record { start = 0x2000; bytes = tables_on machine }) (range_of_code (picking_at machine)) (inr (omega arith)), (disjoint (record { start = 0x2000; bytes = tables_on machine }) (range_of_code (mid_thunk_at machine)) (inr (omega arith)), (disjoint (record { start = 0x2000; bytes = tables_on machine }) (range_of_code (held_at machine)) (inl (omega arith)), (disjoint (record { start = 0x2000; bytes = tables_on machine }) (range_of_code (unwind_at machine)) (inl (omega arith)), tt)))), apart_as_they_rise (2 ^ 31) (ranges_of_codes (holding_codes machine)) refl);
  relocated = (
    relocated_by machine (image_base machine) (holding_targets machine (picking_at machine)) 0x1000 (picking_section machine) (picking_linked machine) refl,
    (
      relocated_by machine (image_base machine) (holding_targets machine (mid_thunk_at machine)) (mid_thunk machine) (thunk_section machine) (linked_thunk machine) refl,
      (
        relocated_by machine (image_base machine) (holding_targets machine (held_at machine)) 0x3000 (held_section machine) (held_linked machine) refl,
        (
          relocated_by machine (image_base machine) (holding_targets machine (unwind_at machine)) 0x3010 (unwind_section machine) (unwind_linked machine) refl,
          tt,
        ),
      ),
    ),
  );
  resolved = takes_outside (λ name. mid_thunk machine) (holding_placed machine) (holding_codes machine) refl;
}

pub holding_further : (machine : MachineType) → NotThumb machine → AreFurtherHeld machine (image_base machine) (holding_codes machine) (holding_targets machine)
unfolding lld_opened further_test
holding_further ARMNT none = absurd none
holding_further machine _ = further_by machine (image_base machine) (holding_codes machine) (holding_targets machine) refl

mid_names : (machine : MachineType) → Names (placed_holding machine) 3 (mid_name machine)
mid_names machine = record { symbol = symbol_of_class (mid_name machine) 0 class_external; target = refl; undefined = refl; named = refl }

-- in memory at the base that it was linked for, or at another
holding_at : (machine : MachineType) → NotThumb machine → (base : ℕ) (memory : List Range) → AreStoredInMemory machine base (lld_image_on machine) (holding_placed machine) (holding_codes machine) (holding_targets machine) memory → WorkedHolding machine base memory (if is_32bit machine then 4 else 8)
unfolding lld_opened
holding_at ARMNT none base memory at = absurd none
holding_at machine is base memory at = record {
  program = holding_program machine is;
  steady = refl;
  at = at;
  thunk = record { from = refl; number = refl };
  pointer = grind (arith, whole_type machine, mid_names machine);
}

worked : (machine : MachineType) → NotThumb machine → WorkedHolding machine (image_base machine) (holding_memory machine) (if is_32bit machine then 4 else 8)
worked machine is = holding_at machine is (image_base machine) (holding_memory machine) (inl (holding_beside machine is, (holding_further machine is, refl)))

-- I386's moved.

i386_fronts : List Range
i386_fronts = record { start = 0x1002; bytes = 0x54 ∷ 0x20 ∷ 0 ∷ 0x10 ∷ [] } ∷ record { start = 0x1008; bytes = 0x5C ∷ 0x20 ∷ 0 ∷ 0x10 ∷ [] } ∷ record { start = 0x100D; bytes = 0x12 ∷ 0x10 ∷ 0 ∷ 0x10 ∷ [] } ∷ record { start = 0x1014; bytes = 0x50 ∷ 0x20 ∷ 0 ∷ 0x10 ∷ [] } ∷ record { start = 0x3004; bytes = 0x12 ∷ 0x10 ∷ 0 ∷ 0x10 ∷ [] } ∷ []

i386_rebased : IsRebased 0x40_0000 0x1000_0000 (holding_places I386) (holding_memory I386) (holding_moved_memory I386)
unfolding lld_opened i386_fronts
i386_rebased = rebased_by 0x40_0000 0x1000_0000 i386_fronts (holding_memory I386) (apart_as_they_rise (2 ^ 31) i386_fronts refl) ((0x402054, (number (holding_memory I386) 4 0x1002 0x402054 (0x54 ∷ 0x20 ∷ 0x40 ∷ 0 ∷ []) refl refl refl, refl)), ((0x40205C, (number (holding_memory I386) 4 0x1008 0x40205C (0x5C ∷ 0x20 ∷ 0x40 ∷ 0 ∷ []) refl refl refl, refl)), ((0x401012, (number (holding_memory I386) 4 0x100D 0x401012 (0x12 ∷ 0x10 ∷ 0x40 ∷ 0 ∷ []) refl refl refl, refl)), ((0x402050, (number (holding_memory I386) 4 0x1014 0x402050 (0x50 ∷ 0x20 ∷ 0x40 ∷ 0 ∷ []) refl refl refl, refl)), ((0x401012, (number (holding_memory I386) 4 0x3004 0x401012 (0x12 ∷ 0x10 ∷ 0x40 ∷ 0 ∷ []) refl refl refl, refl)), tt)))))

i386_moved : AreMoved I386 0x40_0000 0x1000_0000 (lld_image_on I386) (holding_placed I386) (holding_codes I386) (holding_targets I386) (holding_places I386) (holding_moved_memory I386)
unfolding lld_opened
i386_moved = record {
  beside = holding_beside I386 tt;
  within = ((omega arith, (omega arith, (omega arith, tt))), ((omega arith, tt), ((omega arith, tt), (tt, tt))));
  needed = λ c r width address entry held m is symbol placed. all_needed I386 (holding_codes I386) c r width held m is;
  only = λ a byte is covered. only_absolute a (table_places I386 (holding_placed I386)) (holding_places I386) covered;
  rebased = i386_rebased;
}

i386_moved_worked : WorkedHolding I386 0x1000_0000 (holding_moved_memory I386) 4
i386_moved_worked = holding_at I386 tt 0x1000_0000 (holding_moved_memory I386) (inr (0x40_0000, (holding_places I386, (tt, (i386_moved, (holding_further I386 tt, λ c d r width s t held d_held m is at undefined defines named. all_needed I386 (holding_codes I386) c r width held m is))))))

amd64_zeta : Names (placed_holding AMD64) 1 (codes "__imp_zeta")
amd64_zeta = record { symbol = symbol_of_class (codes "__imp_zeta") 0 class_external; target = refl; undefined = refl; named = refl }

pub worked_holdings : WorkedHoldings
unfolding lld_opened
worked_holdings = record {
  i386 = worked I386 tt;
  i386_moved = i386_moved_worked;
  amd64 = worked AMD64 tt;
  arm64 = worked ARM64 tt;
  amd64_lea = record {
    type = amd64_rel32;
    field = record { symbol = 3; alone = refl; inside = omega arith; names = mid_names AMD64 };
    counts = (0, (omega arith, (refl, refl)));
    within = omega arith;
  };
  amd64_handler = record { type = amd64_addr32nb; field = record { symbol = 3; alone = refl; inside = omega arith; names = mid_names AMD64 }; relative = refl; empty = refl };
  arm64_page = record { field = record { symbol = 3; alone = refl; inside = omega arith; names = mid_names ARM64 }; empty = refl };
  arm64_add = record { field = record { symbol = 3; alone = refl; inside = omega arith; names = mid_names ARM64 }; adds = refl; empty = refl };
  amd64_call = instruction_by amd64_rel32 1 (0 ∷ 0 ∷ 0 ∷ 0 ∷ []) amd64_zeta (0, (omega arith, (refl, refl))) refl refl refl;
}
