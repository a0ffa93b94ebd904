-- What instances share: numbers that differ, bytes in images, and what no list has.
use Rattle.std.proofs.Common.{Bool, List, None, Option, Some, [], ap, arith, false, inl, inr, length, refl, sym, true, ℕ, ◌+◌, ◌<◌, ◌∙◌, ◌∷◌, ◌≡◌}
use Rattle.std.specs.Prelude.{if◌then◌else◌, nat_eq, slice_get, ◌&&◌}
use Rattle.implib.proofs.Link.Ranges.{Among}
use Rattle.implib.specs.Link.Image.{Range, byte_at}
use Rattle.implib.specs.Link.Load.{BytesAt, NumberAt, number_in}
use Rattle.implib.specs.Link.Resolution.{SymbolDefinition}
use Rattle.implib_link.proofs.Search.Lists.{contains_among}
use Rattle.implib_link_instances.specs.Worked.Operands.{or_else}
use Rattle.std.proofs.lemmas.Bool.{and_parts, eqb-true, or_parts, true≢false}
use Rattle.std.specs.List.{Contains, list_any}
use Rattle.implib.specs.declared.machine.MachineType.{MachineType}
use Rattle.implib.specs.declared.machine.MachineType.TheVariants.{AMD64, ARM64, ARMNT, I386}
use Rattle.implib.specs.Formats.Constants.{i386_dir32}
use Rattle.implib.specs.Machine.{is_32bit}
use Rattle.implib.specs.Link.Placement.{Bases}
use Rattle.implib_link_instances.specs.Worked.Programs.{touching_4, touching_8}
use Rattle.implib_link.specs.Gnu.Fields.{amd64_addr64, arm64_addr64}
use Rattle.implib_link.specs.Gnu.Stored.{amd64_addr32nb, arm64_addr32nb, i386_dir32nb}

-- numbers that are not equal
pub differ : (n m : ℕ) → n ≡ m → n < m → ⊥
differ n m same less = omega arith

-- whether bytes are in an image
abbrev pub is_byte : Option ℕ → ℕ → Bool
is_byte None n = false
is_byte (Some m) n = nat_eq m n

abbrev pub is_each_located : List Range → ℕ → List ℕ → Bool
is_each_located image a [] = true
is_each_located image a (byte ∷ bytes) = is_byte (byte_at image a) byte && is_each_located image (a + 1) bytes

pub is_the_byte : (o : Option ℕ) (n : ℕ) → is_byte o n ≡ true → o ≡ Some n
is_the_byte None n is = cc
is_the_byte (Some m) n is = ap Some (eqb-true m n is)

pub are_located : (image : List Range) (bytes : List ℕ) (a : ℕ) → is_each_located image a bytes ≡ true → BytesAt image a bytes
unfolding BytesAt
are_located image [] a is = tt
are_located image (byte ∷ bytes) a is =
    let parts = and_parts (is_byte (byte_at image a) byte) (is_each_located image (a + 1) bytes) is in
    (is_the_byte (byte_at image a) byte parts.0, are_located image bytes (a + 1) parts.1)

pub number : (image : List Range) (width a n : ℕ) (bytes : List ℕ) → is_each_located image a bytes ≡ true → length bytes ≡ width → number_in bytes ≡ n → NumberAt image width a n
number image width a n bytes is count value = record { bytes = bytes; located = are_located image bytes a is; count = count; value = value }

pub value : (a b : ℕ) → Some a ≡ Some b → a ≡ b
value a b is = ap (λ o. or_else o 0) is

-- the same bytes, where as many are at one address
pub same_bytes : (memory : List Range) (xs ys : List ℕ) (a : ℕ) → BytesAt memory a xs → BytesAt memory a ys → length xs ≡ length ys → xs ≡ ys
unfolding BytesAt
same_bytes memory [] [] a first second long = refl
same_bytes memory [] (y ∷ ys) a first second long = absurd (omega arith)
same_bytes memory (x ∷ xs) [] a first second long = absurd (omega arith)
same_bytes memory (x ∷ xs) (y ∷ ys) a first second long = grind (arith, same_bytes memory xs ys (a + 1) first.1 second.1 (omega arith))

none_passes_among : {X : Type 0} (p : X → Bool) (x : X) (xs : List X) → list_any p xs ≡ false → Among x xs → p x ≡ true → ⊥
unfolding Among
none_passes_among p x [] none held is = absurd held
none_passes_among p x (y ∷ xs) none (inl e) is = true≢false (sym is ∙ ap p e ∙ (or_parts (p y) (list_any p xs) none).0)
none_passes_among p x (y ∷ xs) none (inr held) is = none_passes_among p x xs (or_parts (p y) (list_any p xs) none).1 held is

-- no element of a list passes a test
pub none_passes : {X : Type 0} (p : X → Bool) (x : X) (xs : List X) → list_any p xs ≡ false → Contains xs x → p x ≡ true → ⊥
none_passes p x xs none held is = none_passes_among p x xs none (contains_among x xs held) is

pub none_in : {X : Type 0} (x : X) → Contains [] x → ⊥
none_in x held = none_passes (λ y. true) x [] refl held refl

pub none_at : {X : Type 0} (i : ℕ) (x : X) → slice_get [] i ≡ Some x → ⊥
none_at i x is = cc

pub no_definition : (d : SymbolDefinition) → [] ≡ d ∷ [] → ⊥
no_definition d is = cc

-- Machines. A lemma whose last clause is of `machine` computes at each machine that is left.

abbrev pub IsWide : MachineType → Type 0
IsWide AMD64 = Unit {0}
IsWide ARM64 = Unit {0}
IsWide _ = ⊥

abbrev pub IsX86 : MachineType → Type 0
IsX86 I386 = Unit {0}
IsX86 AMD64 = Unit {0}
IsX86 _ = ⊥

abbrev pub NotThumb : MachineType → Type 0
NotThumb ARMNT = ⊥
NotThumb _ = Unit {0}

-- the types of fields: an address whole, and one from the image's base
abbrev pub whole_type : MachineType → ℕ
whole_type I386 = i386_dir32
whole_type AMD64 = amd64_addr64
whole_type _ = arm64_addr64

abbrev pub based_type : MachineType → ℕ
based_type I386 = i386_dir32nb
based_type AMD64 = amd64_addr32nb
based_type _ = arm64_addr32nb

-- where a worked program is linked for, and its tables
abbrev pub image_base : MachineType → ℕ
image_base machine = if is_32bit machine then 0x40_0000 else 0x1_4000_0000

abbrev pub touching : MachineType → Bases
touching machine = if is_32bit machine then touching_4 else touching_8
