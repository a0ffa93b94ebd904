-- What does not arrive, by computing.
use Rattle.std.proofs.Common.{List, None, Option, Some, [], ap, append-nil, arith, codes, length, refl, sym, ℕ, ◌*◌, ◌+◌, ◌++◌, ◌<◌, ◌∙◌, ◌∷◌, ◌≡◌}
use Rattle.implib.specs.declared.machine.MachineType.TheVariants.{AMD64, ARM64}
use Rattle.implib.specs.Formats.Constants.{class_external}
use Rattle.implib.specs.Formats.Object.{ASymbol}
use Rattle.implib.specs.Link.Resolution.{symbol_address}
use Rattle.implib.specs.Link.Load.{BytesAt, NumberAt, number_in}
use Rattle.implib.proofs.Link.Loading.{number_once}
use Rattle.implib_link.specs.Gnu.Fields.{direct_leads, branch_leads, operand_leads}
use Rattle.implib_link.specs.Stub.{adrp_immediate, bits_of, jump_reads, ldr_immediate, page, plus_signed, with_adrp, with_bits}
use Rattle.implib_link.proofs.Gnu.Loaded.{byte_first}
use Rattle.implib_link_instances.proofs.Worked.Lemmas.{are_located, differ, number, same_bytes, value}
use Rattle.implib_link_instances.proofs.Worked.Programs.{passing_fields}
use Rattle.implib_link_instances.proofs.Worked.Stored.{worked_holdings}
use Rattle.implib_link_instances.specs.Refused.Code.{RefusedAllLeadTo, RefusedBranchArrives, RefusedBranchArrivesByThunk, RefusedBranchStays, RefusedDirectCallArrives, RefusedFields, RefusedHoldAddress, RefusedHoldsFurther, RefusedInstructionArrives, RefusedOperandArrives, RefusedPairArrives, RefusedPointerArrives, RefusedPointsTo, RefusedResolves, RefusedJumpArrives, RefusedStubAt, RefusedSumArrives, asking_f, back, empty_code, nops, one, one_code, page_back, placed_f}
use Rattle.implib_link_instances.specs.Worked.Operands.{field, passing_at}
use Rattle.implib_link_instances.specs.Worked.Programs.{symbol_of_class}
use Rattle.implib_link_instances.specs.Worked.Stored.{held_at, picking_at, unwind_at}
use Rattle.implib_link.specs.Gnu.Stored.{amd64_addr32nb}

-- nothing is in no memory
pub nothing_there : (bytes : List ℕ) (a : ℕ) → 0 < length bytes → BytesAt [] a bytes → ⊥
nothing_there bytes a some located = let first = byte_first [] bytes a located some in let is : None ≡ Some first.0 = first.1 in cc

nothing_at : (bytes : List ℕ) (a n : ℕ) → length bytes ≡ n → 0 < n → BytesAt [] a bytes → ⊥
nothing_at bytes a n whole some located = nothing_there bytes a (omega arith) located

pub absent : (a width n : ℕ) → 0 < width → NumberAt [] width a n → ⊥
absent a width n some there = nothing_at there.bytes a width there.count some there.located

-- `nop`s are no such code
no_code : (reads : List ℕ → Option ℕ) (found code : List ℕ) (target : ℕ) → BytesAt nops 0x1000 found → BytesAt nops 0x1000 code → length found ≡ length code → reads code ≡ None → reads found ≡ Some target → ⊥
no_code reads found code target here there whole none is =
    let same : found ≡ code = same_bytes nops found code 0x1000 here there whole in
    let no : None ≡ Some target = sym none ∙ ap reads (sym same) ∙ is in
    cc

abbrev four : List ℕ
four = 0x90 ∷ 0x90 ∷ 0x90 ∷ 0x90 ∷ []

abbrev five : List ℕ
five = 0x90 ∷ four

abbrev six : List ℕ
six = 0x90 ∷ five

abbrev seven : List ℕ
seven = 0x90 ∷ six

abbrev eight : List ℕ
eight = 0x90 ∷ seven

nop : (n : ℕ) → NumberAt nops 4 0x1000 n → n ≡ 0x9090_9090
nop n there = number_once nops 4 0x1000 n 0x9090_9090 there (number nops 4 0x1000 0x9090_9090 four refl refl refl)

pub refused_jump_arrives : RefusedJumpArrives
refused_jump_arrives = record {
  there = λ x. nothing_at x.code 0x1000 8 x.whole (omega arith) x.there;
  whole = λ x. nothing_at x.code 0x1000 8 x.whole (omega arith) x.there;
  reads = λ x. no_code (jump_reads AMD64 0x1_4000_1000) x.code eight (0x1_4000_0000 + x.entry) x.there (are_located nops eight 0x1000 refl) x.whole refl x.reads;
  located = λ x. nothing_there one x.entry (omega arith) x.located;
}

pub refused_direct_call_arrives : RefusedDirectCallArrives
refused_direct_call_arrives = record {
  here = λ x. nothing_at x.instruction 0x1000 5 x.whole (omega arith) x.here;
  whole = λ x. nothing_at x.instruction 0x1000 5 x.whole (omega arith) x.here;
  leads = λ x. no_code (direct_leads AMD64 0x1_4000_1000) x.instruction five (0x1_4000_0000 + x.stub) x.here (are_located nops five 0x1000 refl) x.whole refl x.leads;
  jumps = λ x. nothing_at x.jumps.code x.stub 8 x.jumps.whole (omega arith) x.jumps.there;
}

-- where ARM64's pages are
adrp_back : NumberAt page_back 4 16 0xF0FF_FFE8
adrp_back = number page_back 4 16 0xF0FF_FFE8 (0xE8 ∷ 0xFF ∷ 0xFF ∷ 0xF0 ∷ []) refl refl refl

load_back : NumberAt page_back 4 20 0xF940_0108
load_back = number page_back 4 20 0xF940_0108 (8 ∷ 1 ∷ 0x40 ∷ 0xF9 ∷ []) refl refl refl

in_front : (adrp load entry : ℕ) → adrp ≡ 0xF0FF_FFE8 → load ≡ 0xF940_0108 → plus_signed 21 4096 (adrp_immediate adrp) (page 0x1_4000_0010 * 4096) + ldr_immediate load ≡ 0x1_4000_0000 + entry → ⊥
in_front adrp load entry first second is =
    let led : 0x1_3FFF_F000 ≡ 0x1_4000_0000 + entry =
    sym (ap (λ n. plus_signed 21 4096 (adrp_immediate n) (page 0x1_4000_0010 * 4096) + ldr_immediate 0xF940_0108) first) ∙ (sym (ap (λ n. plus_signed 21 4096 (adrp_immediate adrp) (page 0x1_4000_0010 * 4096) + ldr_immediate n) second) ∙ is) in
    omega arith

pub refused_pair_arrives : RefusedPairArrives
refused_pair_arrives = record {
  adrp_there = λ x. absent 16 4 x.adrp (omega arith) x.adrp_there;
  is_adrp = λ x. differ 0 0x9000_0010 (sym (sym (ap (with_adrp 0) (nop x.adrp x.adrp_there)) ∙ x.is_adrp)) (omega arith);
  load_there = λ x. absent 20 4 x.load (omega arith) x.load_there;
  is_load = λ x. differ 0 0x9080_0090 (sym (sym (ap (with_bits 10 12 0) (nop x.load x.load_there)) ∙ x.is_load)) (omega arith);
  own = λ x. let none : [] ≡ record { name = codes "f"; address = Some x.entry } ∷ [] = x.own in cc;
  leads = λ x. in_front x.adrp x.load x.entry (number_once page_back 4 16 x.adrp 0xF0FF_FFE8 x.adrp_there adrp_back) (number_once page_back 4 20 x.load 0xF940_0108 x.load_there load_back) x.leads;
  located = λ x. nothing_there one x.entry (omega arith) x.located;
}

pub refused_sum_arrives : RefusedSumArrives
refused_sum_arrives = record {
  adrp_there = λ x. absent 16 4 x.adrp (omega arith) x.adrp_there;
  is_adrp = λ x. differ 0 0x9000_0010 (sym (sym (ap (with_adrp 0) (nop x.adrp x.adrp_there)) ∙ x.is_adrp)) (omega arith);
  add_there = λ x. absent 20 4 x.add (omega arith) x.add_there;
  is_add = λ x. differ 0 0x9080_0090 (sym (sym (ap (with_bits 10 12 0) (nop x.add x.add_there)) ∙ x.is_add)) (omega arith);
  leads = λ x.
      let first : x.adrp ≡ 0xF0FF_FFE8 = number_once page_back 4 16 x.adrp 0xF0FF_FFE8 x.adrp_there adrp_back in
      let second : x.add ≡ 0xF940_0108 = number_once page_back 4 20 x.add 0xF940_0108 x.add_there load_back in
      differ 0x1_3FFF_F000 0x1_4000_0000
      (sym (ap (λ n. plus_signed 21 4096 (adrp_immediate n) (page 0x1_4000_0010 * 4096) + bits_of 10 12 0xF940_0108) first) ∙ (sym (ap (λ n. plus_signed 21 4096 (adrp_immediate x.adrp) (page 0x1_4000_0010 * 4096) + bits_of 10 12 n) second) ∙ x.leads))
      (omega arith);
}

-- the number that leads back
led_back : (n : ℕ) → NumberAt back 4 0 n → n ≡ 0xFFFF_0000
led_back n there = number_once back 4 0 n 0xFFFF_0000 there (number back 4 0 0xFFFF_0000 (0 ∷ 0 ∷ 0xFF ∷ 0xFF ∷ []) refl refl refl)

before : (entry : ℕ) → Some 0x1_3FFF_0004 ≡ Some (0x1_4000_0000 + entry) → ⊥
before entry is = let same : 0x1_3FFF_0004 ≡ 0x1_4000_0000 + entry = value 0x1_3FFF_0004 (0x1_4000_0000 + entry) is in omega arith

pub refused_operand_arrives : RefusedOperandArrives
refused_operand_arrives = record {
  there = λ x. absent 0 4 x.number (omega arith) x.there;
  own = λ x. let none : [] ≡ record { name = codes "f"; address = Some x.entry } ∷ [] = x.own in cc;
  leads = λ x. before x.entry (sym (ap (operand_leads AMD64 0x1_4000_0000 0) (led_back x.number x.there)) ∙ x.leads);
  located = λ x. nothing_there one x.entry (omega arith) x.located;
}

sized : (xs : List ℕ) → length xs ≡ 4 → length (xs ++ []) ≡ 4
sized xs is = ap length (append-nil xs) ∙ is

pub refused_instruction_arrives : RefusedInstructionArrives
refused_instruction_arrives = record {
  four = λ x. nothing_at (x.field ++ []) 0 4 (sized x.field x.four) (omega arith) x.there;
  there = λ x. nothing_at (x.field ++ []) 0 4 (sized x.field x.four) (omega arith) x.there;
  own = λ x. let none : [] ≡ record { name = codes "f"; address = Some x.entry } ∷ [] = x.own in cc;
  leads = λ x.
      let whole : x.field ++ [] ≡ 0 ∷ 0 ∷ 0xFF ∷ 0xFF ∷ [] = same_bytes back (x.field ++ []) (0 ∷ 0 ∷ 0xFF ∷ 0xFF ∷ []) 0 x.there (are_located back (0 ∷ 0 ∷ 0xFF ∷ 0xFF ∷ []) 0 refl) (sized x.field x.four) in
      before x.entry (sym (ap (λ f. operand_leads AMD64 0x1_4000_0000 0 (number_in f)) (sym (append-nil x.field) ∙ whole)) ∙ x.leads);
  located = λ x. nothing_there one x.entry (omega arith) x.located;
}

pub refused_pointer_arrives : RefusedPointerArrives
refused_pointer_arrives = record {
  own = λ x. let none : [] ≡ record { name = codes "f"; address = Some x.entry } ∷ [] = x.own in cc;
  there = λ x. absent 0 8 (0x1_4000_0000 + x.entry) (omega arith) x.there;
  located = λ x. nothing_there one x.entry (omega arith) x.located;
}

pub refused_branch_arrives : RefusedBranchArrives
refused_branch_arrives = record {
  there = λ x. absent 0 4 x.number (omega arith) x.there;
  leads = λ x. before 0 (sym (ap (branch_leads AMD64 0x1_4000_0000 0) (led_back x.number x.there)) ∙ x.leads);
}

pub refused_branch_arrives_by_thunk : RefusedBranchArrivesByThunk
refused_branch_arrives_by_thunk = record {
  leads = λ x. absent 0 4 x.leads.number (omega arith) x.leads.there;
  jumps = λ x. nothing_at x.jumps.code x.thunk 6 x.jumps.whole (omega arith) x.jumps.there;
}

pub refused_branch_stays : RefusedBranchStays
refused_branch_stays = record {
  there = λ x. absent 0 4 x.number (omega arith) x.there;
  same = λ x. differ 0 0x9000_0000 (sym (sym (ap (with_bits 0 26 0) (nop x.number x.there)) ∙ x.same)) (omega arith);
}

pub refused_points_to : RefusedPointsTo
refused_points_to = record {
  there = λ x. absent 0 8 (0x1_4000_0000 + x.target) (omega arith) x.there;
  reached = λ x. x.reached;
}

pub refused_all_lead_to : RefusedAllLeadTo
refused_all_lead_to = record {
  operands = λ x. let own = x.operands (passing_at AMD64) 19 1 (0, omega arith, refl) passing_fields.amd64_operand in absent 0x1013 4 own.number (omega arith) own.there;
  instructions = λ x. let own = x.instructions (passing_at AMD64) 11 (0xFF ∷ 0x15 ∷ []) [] (0, omega arith, refl) passing_fields.amd64_call in nothing_there (0xFF ∷ 0x15 ∷ (own.field ++ [])) 0x100B (omega arith) own.there;
  pairs = λ x. let own = x.pairs (passing_at ARM64) (passing_at ARM64) 12 16 refl (0, omega arith, refl) (0, omega arith, refl) passing_fields.arm64_page passing_fields.arm64_offset in absent 0x100C 4 own.adrp (omega arith) own.adrp_there;
  pointers = λ x. let own = x.pointers (passing_at AMD64) 52 (omega arith) (0, omega arith, refl) passing_fields.amd64_pointer in absent 0x1034 8 (0x1_4000_0000 + own.entry) (omega arith) own.there;
}

pub refused_hold_address : RefusedHoldAddress
refused_hold_address = record {
  whole = λ x. absent 0x3008 8 0x1_4000_0000 (omega arith) (x.whole (held_at AMD64) 8 (omega arith) (2, omega arith, refl) worked_holdings.amd64.pointer);
  relative = λ x. absent 0x3018 4 0 (omega arith) (x.relative (unwind_at AMD64) 8 (3, omega arith, refl) worked_holdings.amd64_handler);
  sums = λ x.
      let own = x.sums (picking_at ARM64) (picking_at ARM64) 28 32 refl (0, omega arith, refl) (0, omega arith, refl) worked_holdings.arm64_page worked_holdings.arm64_add in
      absent 0x101C 4 own.adrp (omega arith) own.adrp_there;
}

pub refused_holds_further : RefusedHoldsFurther
refused_holds_further = record {
  relative = λ x. let is : 0x4000_1020 ≡ 0x1020 = x.relative refl in differ 0x1020 0x4000_1020 (sym is) (omega arith);
  added = λ x. let is : 0x2D ≡ 0x2C = (x.added refl refl refl).1 in differ 0x2C 0x2D (sym is) (omega arith);
}

pub refused_stub_at : RefusedStubAt
refused_stub_at = record {
  bytes = λ x. differ 0 8 (ap length x.bytes) (omega arith);
  relocations = λ x. differ 0 1 (ap length x.relocations) (omega arith);
  begins = λ x. differ 0 8 (sym x.begins) (omega arith);
  held = λ x. let none : None ≡ Some x.symbol = x.held in cc;
  placed = λ x.
      let both : Some (ASymbol (symbol_of_class (codes "h") 0 class_external)) ≡ Some x.symbol = x.held in
      let same : ASymbol (symbol_of_class (codes "h") 0 class_external) ≡ x.symbol = cc in
      let none : None ≡ Some 0 = ap (symbol_address [] empty_code.from) same ∙ x.placed in
      cc;
}

pub refused_resolves : RefusedResolves
refused_resolves = record {
  tables = λ x. differ 0 0x1000 (x.tables placed_f 0 0x1000 (ASymbol (symbol_of_class (codes "f") 1 class_external)) (0, omega arith, refl) refl refl) (omega arith);
  code = λ x.
      differ 0 0x1000
      (x.code asking_f empty_code 0 (symbol_of_class (codes "f") 0 class_external) (symbol_of_class (codes "f") 1 class_external) (0, omega arith, refl) (1, omega arith, refl) refl refl
      (record { held = (0, omega arith, refl); external = refl; here = refl }) refl) (omega arith);
}

pub refused_fields : RefusedFields
refused_fields = record {
  are_kept = λ x. nothing_there one 0x1000 (omega arith) (x one_code 0 1 (0, omega arith, refl) refl);
  is_further_held = λ x. let is : 0x11 ≡ 0x10 = (x (field 0 0 amd64_addr32nb) refl (omega arith)).relative refl in differ 0x10 0x11 (sym is) (omega arith);
}
