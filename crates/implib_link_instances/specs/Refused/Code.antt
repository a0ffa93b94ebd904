-- What does not arrive, and what is no such stub. A record `RefusedX` has for each field of `X`
-- what this field refuses: mostly no memory, or memory of `nop`s.
use Rattle.std.specs.Prelude.{List, [], codes, ℕ, ◌∷◌}
use Rattle.implib.specs.declared.machine.MachineType.TheVariants.{AMD64, ARM64}
use Rattle.implib.specs.Formats.Constants.{class_external}
use Rattle.implib.specs.Link.Image.{Range}
use Rattle.implib.specs.Link.Placement.{Addresses, At, Placed, Unplaced}
use Rattle.implib.specs.Members.Gnu.{section}
use Rattle.implib.specs.Members.ImportTables.{table_flags, zeros}
use Rattle.implib_link.specs.Flavors.LldImports.{BranchArrivesByThunk}
use Rattle.implib_link.specs.Gnu.Fields.{DirectCallArrives, PlacedCode, Resolves, StubAt}
use Rattle.implib_link.specs.Gnu.Fields.{LinkedCode, AllLeadTo, AreKept, BranchArrives, BranchStays}
use Rattle.implib_link.specs.Gnu.Fields.{InstructionArrives, OperandArrives, PairArrives}
use Rattle.implib_link.specs.Gnu.Fields.{JumpArrives, PointerArrives}
use Rattle.implib_link.specs.Gnu.Stored.{HoldAddress, HoldsFurther, IsFurtherHeld, PointsTo}
use Rattle.implib_link.specs.Gnu.Stored.{SumArrives, amd64_addr32nb, arm64_pageoffset_12a}
use Rattle.implib_link_instances.specs.Worked.Operands.{field, imp_open, passing_at}
use Rattle.implib_link_instances.specs.Worked.Programs.{code_object, symbol_of_class}
use Rattle.implib_link_instances.specs.Worked.Stored.{holding_codes, mid_name}

abbrev pub base : ℕ
base = 0x1_4000_0000

abbrev pub nops : List Range
nops = record { start = 0x1000; bytes = 0x90 ∷ 0x90 ∷ 0x90 ∷ 0x90 ∷ 0x90 ∷ 0x90 ∷ 0x90 ∷ 0x90 ∷ [] }
    ∷ []

-- at 0 a number that leads 65,532 bytes back; and at 16 `adrp x8, -0x1000` and `ldr x8, [x8]`: to
-- what is in front of the image
abbrev pub back : List Range
back = record { start = 0; bytes = 0 ∷ 0 ∷ 0xFF ∷ 0xFF ∷ [] } ∷ []

abbrev pub page_back : List Range
page_back =
    record { start = 16; bytes = 0xE8 ∷ 0xFF ∷ 0xFF ∷ 0xF0 ∷ 8 ∷ 1 ∷ 0x40 ∷ 0xF9 ∷ [] } ∷ []

abbrev pub one : List ℕ
one = 0 ∷ []

pub record RefusedJumpArrives : Type 0 where
  pub there : JumpArrives AMD64 8 base [] 0x1000 [] → ⊥
  pub whole : JumpArrives AMD64 8 base [] 0x1000 [] → ⊥
  pub reads : JumpArrives AMD64 8 base nops 0x1000 [] → ⊥
  pub located : JumpArrives AMD64 8 base [] 0x1000 one → ⊥

pub record RefusedDirectCallArrives : Type 0 where
  pub here : DirectCallArrives AMD64 base [] 0x1000 [] → ⊥
  pub whole : DirectCallArrives AMD64 base [] 0x1000 [] → ⊥
  pub leads : DirectCallArrives AMD64 base nops 0x1000 [] → ⊥
  pub jumps : DirectCallArrives AMD64 base [] 0x1000 [] → ⊥

pub record RefusedPairArrives : Type 0 where
  pub adrp_there : PairArrives base [] [] 16 20 0 0 (codes "f") [] → ⊥
  pub is_adrp : PairArrives base [] nops 0x1000 0x1000 0 0 (codes "f") [] → ⊥
  pub load_there : PairArrives base [] [] 16 20 0 0 (codes "f") [] → ⊥
  pub is_load : PairArrives base [] nops 0x1000 0x1000 0 0 (codes "f") [] → ⊥
  pub own : PairArrives base [] [] 16 20 0 0 (codes "f") [] → ⊥
  pub leads : PairArrives base [] page_back 16 20 0 0 (codes "f") [] → ⊥
  pub located : PairArrives base [] [] 16 20 0 0 (codes "f") one → ⊥

pub record RefusedSumArrives : Type 0 where
  pub adrp_there : SumArrives base [] 16 20 0 0 0 → ⊥
  pub is_adrp : SumArrives base nops 0x1000 0x1000 0 0 0 → ⊥
  pub add_there : SumArrives base [] 16 20 0 0 0 → ⊥
  pub is_add : SumArrives base nops 0x1000 0x1000 0 0 0 → ⊥
  pub leads : SumArrives base page_back 16 20 0 0 0 → ⊥

pub record RefusedOperandArrives : Type 0 where
  pub there : OperandArrives AMD64 base [] [] 0 0 (codes "f") [] → ⊥
  pub own : OperandArrives AMD64 base [] [] 0 0 (codes "f") [] → ⊥
  pub leads : OperandArrives AMD64 base [] back 0 0 (codes "f") [] → ⊥
  pub located : OperandArrives AMD64 base [] [] 0 0 (codes "f") one → ⊥

pub record RefusedInstructionArrives : Type 0 where
  pub four : InstructionArrives AMD64 base [] [] 0 [] [] (codes "f") [] → ⊥
  pub there : InstructionArrives AMD64 base [] [] 0 [] [] (codes "f") [] → ⊥
  pub own : InstructionArrives AMD64 base [] [] 0 [] [] (codes "f") [] → ⊥
  pub leads : InstructionArrives AMD64 base [] back 0 [] [] (codes "f") [] → ⊥
  pub located : InstructionArrives AMD64 base [] [] 0 [] [] (codes "f") one → ⊥

pub record RefusedPointerArrives : Type 0 where
  pub own : PointerArrives AMD64 base [] [] 0 (codes "f") [] → ⊥
  pub there : PointerArrives AMD64 base [] [] 0 (codes "f") [] → ⊥
  pub located : PointerArrives AMD64 base [] [] 0 (codes "f") one → ⊥

pub record RefusedBranchArrives : Type 0 where
  pub there : BranchArrives AMD64 base [] 0 0 0 → ⊥
  pub leads : BranchArrives AMD64 base back 0 0 0 → ⊥

pub record RefusedBranchArrivesByThunk : Type 0 where
  pub leads : BranchArrivesByThunk AMD64 base [] 0 0 [] → ⊥
  pub jumps : BranchArrivesByThunk AMD64 base [] 0 0 [] → ⊥

-- `nop`s are no `bl`
pub record RefusedBranchStays : Type 0 where
  pub there : BranchStays ARM64 [] 0 0 → ⊥
  pub same : BranchStays ARM64 nops 0x1000 0 → ⊥

pub record RefusedPointsTo : Type 0 where
  pub there : PointsTo AMD64 base [] 0 (λ a. Unit {0}) → ⊥
  pub reached : PointsTo AMD64 base [] 0 (λ a. ⊥) → ⊥

-- the fields of the worked code, where nothing is in memory
pub record RefusedAllLeadTo : Type 0 where
  pub operands : AllLeadTo AMD64 base [] (passing_at AMD64 ∷ []) [] (imp_open AMD64) (codes "f") []
      → ⊥
  pub instructions : AllLeadTo AMD64 base [] (passing_at AMD64 ∷ []) [] (imp_open AMD64) (codes "f")
      [] → ⊥
  pub pairs : AllLeadTo ARM64 base [] (passing_at ARM64 ∷ []) [] (imp_open ARM64) (codes "f") [] → ⊥
  pub pointers : AllLeadTo AMD64 base [] (passing_at AMD64 ∷ []) [] (imp_open AMD64) (codes "f") []
      → ⊥

pub record RefusedHoldAddress : Type 0 where
  pub whole : HoldAddress AMD64 base (holding_codes AMD64) [] (mid_name AMD64) 0 → ⊥
  pub relative : HoldAddress AMD64 base (holding_codes AMD64) [] (mid_name AMD64) 0 → ⊥
  pub sums : HoldAddress ARM64 base (holding_codes ARM64) [] (mid_name ARM64) 0 → ⊥

-- from 0 in the place of the image's base, and with another offset in its page
pub record RefusedHoldsFurther : Type 0 where
  pub relative : HoldsFurther AMD64 amd64_addr32nb base 0x1020 (λ w. 0) (λ w. 0x4000_1020) → ⊥
  pub added : HoldsFurther ARM64 arm64_pageoffset_12a base 0x102C (λ w. 0x9100_0000)
      (λ w. 0x9100_B400) → ⊥

-- code without bytes, in an object with three symbols, of which the third is undefined
abbrev pub empty_code : PlacedCode
empty_code = record {
  from = record {
    object = code_object (symbol_of_class (codes "f") 1 class_external
        ∷ symbol_of_class (codes "g") 1 class_external
        ∷ symbol_of_class (codes "h") 0 class_external
        ∷ []);
    section_addresses = Unplaced ∷ [];
  };
  number = 1;
  code = section (codes ".text") table_flags [] [];
  position = 0x1000;
}

abbrev pub nowhere : Placed
nowhere = record { object = code_object []; section_addresses = [] }

pub record RefusedStubAt : Type 0 where
  pub bytes : StubAt AMD64 [] empty_code (symbol_of_class (codes "f") 1 class_external) 0 → ⊥
  pub relocations : StubAt AMD64 [] empty_code (symbol_of_class (codes "f") 1 class_external) 0 → ⊥
  pub begins : StubAt AMD64 [] empty_code
      (record (symbol_of_class (codes "f") 1 class_external) { value = 8 }) 0 → ⊥
  pub held : StubAt AMD64 [] (record empty_code { from = nowhere })
      (symbol_of_class (codes "f") 1 class_external) 0 → ⊥
  pub placed : StubAt AMD64 [] empty_code (symbol_of_class (codes "f") 1 class_external) 0 → ⊥

-- `f` at 0x1000 of its own object; and an object that leaves it to others
abbrev pub placed_f : PlacedCode
placed_f = record empty_code {
  from = record { object = empty_code.from.object; section_addresses = At Addresses 0x1000 ∷ [] };
}

abbrev pub asking_f : PlacedCode
asking_f = record empty_code {
  from = record {
    object = code_object (symbol_of_class (codes "f") 0 class_external ∷ []);
    section_addresses = Unplaced ∷ [];
  };
}

pub record RefusedResolves : Type 0 where
  pub tables : Resolves [] (placed_f ∷ []) (λ c index. 0) → ⊥
  pub code : Resolves [] (asking_f ∷ empty_code ∷ []) (λ c index. 0) → ⊥

-- code of one byte at 0x1000; and code with a field for an address from the image's base
abbrev pub one_code : LinkedCode
one_code = record {
  from = nowhere;
  number = 1;
  code = section (codes ".text") table_flags one [];
  position = 0x1000;
  bytes = one;
}

pub record RefusedFields : Type 0 where
  pub are_kept : AreKept AMD64 (one_code ∷ []) [] → ⊥
  pub is_further_held : IsFurtherHeld AMD64 0x1000 (λ index. 0x10)
      (section (codes ".text") table_flags (zeros 4) (field 0 0 amd64_addr32nb ∷ []))
      (0x11 ∷ 0 ∷ 0 ∷ 0 ∷ []) → ⊥
