-- lld's thunks in memory jump through their entries.
use Rattle.std.proofs.Common.{◌≡◌, ℕ, ◌+◌, List, [], ◌∷◌, ◌++◌, length, take, drop, Some, refl, ap, sym, ◌∙◌, subst, arith}
use Rattle.std.specs.Prelude.{false}
use Rattle.std.specs.List.{Contains, list_any}
use Rattle.std.proofs.lemmas.List.{length-append}
use Rattle.implib.specs.declared.machine.MachineType.{MachineType}
use Rattle.implib.specs.declared.machine.MachineType.TheVariants.{I386, ARMNT, AMD64, ARM64}
use Rattle.implib.specs.Formats.Constants.{amd64_rel32, class_external, i386_dir32}
use Rattle.implib.specs.Formats.Object.{ObjectSection, ObjectSymbol, section_numbered}
use Rattle.implib.specs.Formats.ShortImport.{ShortImport}
use Rattle.implib.specs.Import.{imp_symbol}
use Rattle.implib.specs.Link.Image.{Range}
use Rattle.implib.specs.Link.Load.{BytesAt, number_in}
use Rattle.implib.specs.Link.Placement.{Placed}
use Rattle.implib.proofs.Link.LinkedMembers.{among_contains}
use Rattle.implib.proofs.Link.Ranges.{among_first}
use Rattle.implib_link.specs.Flavors.LldImports.{IsThunk, ThunkArrives, thunk_code, thunk_relocations, thunk_section}
use Rattle.implib_link.specs.Gnu.Fields.{DefinesIn, LinkedCode, MeetsAlone, field_at, meets, AllLead, AreKept, InstructionArrives, IsOperand, Names, PairArrives}
use Rattle.implib_link.specs.Stub.{adrp_immediate, bits_of, jump_reads, ldr_immediate, plus_signed, with_adrp, with_bits}
use Rattle.implib_link.specs.Tables.{CanReadFrom}
use Rattle.implib_link.proofs.Gnu.Fields.{four_of, pair_read}
use Rattle.implib_link.proofs.Gnu.Operands.{arm64_jump}

amd64_jump : (address : ℕ) (field : List ℕ) → length field ≡ 4 → jump_reads AMD64 address (0xFF ∷ 0x25 ∷ (field ++ [])) ≡ Some (plus_signed 32 1 (number_in field) (address + 6))
amd64_jump address field four = grind (arith, four_of field four)

-- a thunk's section
pub thunk_is : (machine : MachineType) (d : LinkedCode) (r : ShortImport) → IsThunk machine d r → section_numbered d.from.object.sections d.number ≡ Some d.code → d.code ≡ thunk_section machine
thunk_is machine d r thunk here = grind arith

thunk_names : (machine : MachineType) (d : LinkedCode) (r : ShortImport) → IsThunk machine d r → Names d.from 1 (imp_symbol r.symbol)
thunk_names machine d r thunk =
    subst (λ (p : Placed). Names p 1 (imp_symbol r.symbol)) (sym thunk.from)
    (record { symbol = record { name = imp_symbol r.symbol; value = 0; section = 0; kind = 0; class = class_external }; target = refl; undefined = refl; named = refl })

-- the bare name, which it defines
abbrev pub bare_symbol : ShortImport → ObjectSymbol
bare_symbol r = record { name = r.symbol; value = 0; section = 1; kind = 0; class = class_external }

pub thunk_defines : (machine : MachineType) (d : LinkedCode) (r : ShortImport) → IsThunk machine d r → DefinesIn d (bare_symbol r)
thunk_defines machine d r thunk = grind (arith, among_contains, among_first)

module _ (image_base : ℕ) (linked : List Placed) (codes : List LinkedCode) (memory : List Range) (r : ShortImport) (bytes : List ℕ) (d : LinkedCode) (held : Contains codes d) where
  x86_thunk : (machine : MachineType) → length (thunk_code machine) ≡ 6 → (x : InstructionArrives machine image_base linked memory (d.position + 0) (0xFF ∷ 0x25 ∷ []) [] (imp_symbol r.symbol) bytes) →
      jump_reads machine (image_base + d.position) (0xFF ∷ 0x25 ∷ (x.field ++ [])) ≡ Some (image_base + x.entry) → ThunkArrives machine image_base memory d.position bytes
  x86_thunk machine size x reads = grind (arith, length-append)

  x86_arrives : (machine : MachineType) (type : ℕ) → length (thunk_code machine) ≡ 6 → IsThunk machine d r → d.code ≡ thunk_section machine →
      MeetsAlone machine (thunk_relocations machine 1) 0 6 (record { offset = 2; symbol = 1; kind = type }) → take 6 (thunk_code machine) ≡ 0xFF ∷ 0x25 ∷ 0 ∷ 0 ∷ 0 ∷ 0 ∷ [] →
      IsOperand machine type 0 (number_in (0 ∷ 0 ∷ 0 ∷ 0 ∷ [])) → AllLead machine image_base linked codes memory (imp_symbol r.symbol) bytes →
      InstructionArrives machine image_base linked memory (d.position + 0) (0xFF ∷ 0x25 ∷ []) [] (imp_symbol r.symbol) bytes
  x86_arrives machine type size thunk own alone code counts lead =
      lead.instructions d 0 (0xFF ∷ 0x25 ∷ []) [] held (record {
        type = type;
        symbol = 1;
        alone = subst (λ (s : ObjectSection). MeetsAlone machine s.relocations 0 6 (record { offset = 2; symbol = 1; kind = type })) (sym own) alone;
        names = thunk_names machine d r thunk;
        field = 0 ∷ 0 ∷ 0 ∷ 0 ∷ [];
        four = refl;
        code = subst (λ (s : ObjectSection). take 6 (drop 0 s.bytes) ≡ 0xFF ∷ 0x25 ∷ 0 ∷ 0 ∷ 0 ∷ 0 ∷ []) (sym own) code;
        counts = counts;
      })

  pub thunk_arrives : (machine : MachineType) (addresses : ℕ) → CanReadFrom machine image_base addresses → IsThunk machine d r → d.code ≡ thunk_section machine →
      AllLead machine image_base linked codes memory (imp_symbol r.symbol) bytes → AreKept machine codes memory → ThunkArrives machine image_base memory d.position bytes
  thunk_arrives I386 addresses can thunk own lead kept =
      let x = x86_arrives I386 i386_dir32 refl thunk own refl refl (refl, refl) lead in
      x86_thunk I386 refl x (((let f = four_of x.field x.four in subst (λ xs. jump_reads I386 ((image_base + d.position)) (0xFF ∷ 0x25 ∷ (xs ++ [])) ≡ Some (number_in xs)) (sym f.is) refl)) ∙ x.leads)
  thunk_arrives ARMNT addresses can thunk own lead kept = absurd can
  thunk_arrives AMD64 addresses can thunk own lead kept =
      let x = x86_arrives AMD64 amd64_rel32 refl thunk own refl refl (0, (omega arith, (refl, refl))) lead in
      x86_thunk AMD64 refl x (amd64_jump (image_base + d.position) x.field x.four ∙ ap (λ a. Some (plus_signed 32 1 (number_in x.field) a)) (omega arith) ∙ x.leads)
  thunk_arrives ARM64 addresses can thunk own lead kept =
      let code : d.code.bytes ≡ thunk_code ARM64 = ap (λ (s : ObjectSection). s.bytes) own in
      let page_code : field_at d.code.bytes 0 4 ≡ 0x9000_0010 = ap (λ xs. field_at xs 0 4) code in
      let load_code : field_at d.code.bytes 4 4 ≡ 0xF940_0210 = ap (λ xs. field_at xs 4 4) code in
      let names = thunk_names ARM64 d r thunk in
      let x : PairArrives image_base linked memory (d.position + 0) (d.position + 4) (field_at d.code.bytes 0 4) (field_at d.code.bytes 4 4) (imp_symbol r.symbol) bytes =
      lead.pairs d d 0 4 refl held held (record {
        field = grind arith;
        empty = ap adrp_immediate page_code;
      }) (record {
        field = grind arith;
        eight = ap (bits_of 30 2) load_code;
        empty = ap ldr_immediate load_code;
      }) in
      let branch : BytesAt memory (d.position + 8) (0 ∷ 2 ∷ 0x1F ∷ 0xD6 ∷ []) =
      subst (BytesAt memory (d.position + 8)) (ap (λ xs. take 4 (drop 8 xs)) code)
      (kept d 8 4 held (subst (λ rs. list_any (meets ARM64 8 4) rs ≡ false) (sym (ap (λ (s : ObjectSection). s.relocations) own)) refl)) in
      let plain : d.position + 0 ≡ d.position = omega arith in
      let read = pair_read (jump_reads ARM64) 0x9000_0010 0xF940_0210 (0 ∷ 2 ∷ 0x1F ∷ 0xD6 ∷ []) arm64_jump image_base linked memory d.position (field_at d.code.bytes 0 4) (field_at d.code.bytes 4 4) (imp_symbol r.symbol) bytes
      (ap (with_adrp 0) page_code) (ap (with_bits 10 12 0) load_code)
      (subst (λ a. PairArrives image_base linked memory a (d.position + 4) (field_at d.code.bytes 0 4) (field_at d.code.bytes 4 4) (imp_symbol r.symbol) bytes) plain x) branch in
      record { code = read.code; there = read.there; whole = read.whole; entry = read.entry; reads = read.leads; located = read.located }
