-- Libraries of one DLL for GNU's linker are kept apart by their digits, and GNU `ld` finds those for Microsoft's.
use Rattle.std.proofs.Common.{◌≡◌, ◌≢◌, ◌∙◌, ℕ, zero, suc, ◌/◌, ◌%◌, ◌==◌, Bool, true, false, not, List, [], ◌∷◌, ◌++◌, None, Some, ap, append_assoc, arith, codes, get_or, if◌then◌else◌, length, map, refl, sym, take, drop}
use Rattle.std.specs.List.{list_all}
use Rattle.std.proofs.lemmas.Bool.{and_parts, true≢false}
use Rattle.std.proofs.lemmas.List.{append_cancel_left, length-take-le, map-append}
use Rattle.std.proofs.Math.Seq.{take-append_seam}
use Rattle.hex.specs.Hex.{encode_lower, encode_with, lower_digits}
use Rattle.hex.proofs.HexLemmas.{length-encode_with}
use Rattle.md5.specs.Md5.{md5}
use Rattle.md5.proofs.StandardFacts.{length-md5}
use Rattle.implib.specs.declared.flavor.Flavor.{Flavor}
use Rattle.implib.specs.declared.flavor.Flavor.TheVariants.{Msvc, Gnu}
use Rattle.implib.specs.declared.machine.MachineType.{MachineType}
use Rattle.implib.specs.Ascii.{underscore}
use Rattle.implib.specs.Definition.{DefinitionView}
use Rattle.implib.specs.Import.{is_empty_text}
use Rattle.implib.specs.Link.LinkedMembers.{IsPrefixOf, member_prefix}
use Rattle.implib.specs.Members.Gnu.{mangled_name, without_full_stop}
use Rattle.implib.specs.Members.MsvcObjects.{descriptor_symbol}
use Rattle.implib.proofs.LibraryNames.{base_of_named}
use Rattle.implib_rules.specs.Library.{DefinitionFor}
use Rattle.implib_rules.specs.LibraryLaws.{IsFoundByGnu}
use Rattle.implib_rules.specs.LibraryName.{exports_taken, gnu_library_name, has_gnu_linker, if_filled, with_library_name, without_ending}
use Rattle.implib_rules.specs.Options.{LibraryOptionsView}

filled : (text : List ℕ) → is_empty_text text ≡ false → if_filled text ≡ Some text
filled text is = ap (λ b. if b then None else Some text) is

-- a definition with the name of its library
named_of : (machine : MachineType) (flavor : Flavor) (d whole : DefinitionView) → flavor ≡ Msvc → has_gnu_linker machine ≡ true → whole ≡ with_library_name machine flavor d → is_empty_text (without_ending whole.import_name) ≡ false
    → whole.library_name ≡ Some (without_ending whole.import_name)
named_of machine flavor d whole msvc links is text = grind (arith, filled)

-- GNU `ld` finds the library of a text
pub found_of_text : (text : List ℕ) (options : LibraryOptionsView) (d : DefinitionView) → DefinitionFor text options d → options.flavor ≡ Msvc
    → has_gnu_linker options.machine ≡ true → is_empty_text (without_ending d.import_name) ≡ false → IsFoundByGnu d
unfolding descriptor_symbol
found_of_text text options d meant msvc links filled = grind (arith, filled, named_of, base_of_named)

other : (b : Bool) (d : ℕ) → not b ≡ true → (if b then underscore else d) ≡ d
other b d is = grind (arith, true≢false)

-- digits have no full stop
no_stop : (digits : List ℕ) (index : ℕ) → list_all (λ d. not (d == 0x2E)) digits ≡ true → without_full_stop (get_or digits index 0) ≡ get_or digits index 0
no_stop [] index all = refl
no_stop (d ∷ digits) zero all =
    other (d == 0x2E) d (and_parts (not (d == 0x2E)) (list_all (λ x. not (x == 0x2E)) digits) all).0
no_stop (d ∷ digits) (suc index) all =
    no_stop digits index (and_parts (not (d == 0x2E)) (list_all (λ x. not (x == 0x2E)) digits) all).1

digits_kept : (bytes : List ℕ) → map without_full_stop (encode_lower bytes) ≡ encode_lower bytes
unfolding encode_with
digits_kept [] = refl
digits_kept (b ∷ bytes) =
    let high = no_stop lower_digits (b / 16) refl in
    let low = no_stop lower_digits (b % 16) refl in
    let rest = map without_full_stop (encode_lower bytes) in
    cc (high, low, digits_kept bytes)

-- the digits of a library
abbrev digits_of : DefinitionView → List ℕ
digits_of d = encode_lower (take 8 (md5 (exports_taken d.exports)))

sixteen : (d : DefinitionView) → length (digits_of d) ≡ 16
sixteen d = grind (arith, length-take-le, length-md5, length-encode_with)

-- what the names of its members begin with: the DLL's name, and then the digits
prefix_of : (machine : MachineType) (d : DefinitionView) → member_prefix (with_library_name machine Gnu d) ≡ mangled_name d.import_name ++ (0x5F ∷ (digits_of d ++ codes "_a_"))
unfolding mangled_name gnu_library_name
prefix_of machine d = grind (arith, map-append, digits_kept, append_assoc)

-- the first sixteen bytes of digits and more
first_sixteen : (d : DefinitionView) (more : List ℕ) → take 16 (digits_of d ++ more) ≡ digits_of d
first_sixteen d more = ap (λ n. take n (digits_of d ++ more)) (sym (sixteen d)) ∙ take-append_seam (digits_of d) more

named_by : (d : DefinitionView) → gnu_library_name d ≡ d.import_name ++ (0x5F ∷ digits_of d)
unfolding gnu_library_name
named_by d = refl

-- two libraries of one DLL have one name where what the members of one are named by begins the other's
pub apart : (machine : MachineType) (first second : DefinitionView) → first.import_name ≡ second.import_name → gnu_library_name first ≢ gnu_library_name second
    → IsPrefixOf (member_prefix (with_library_name machine Gnu first)) (member_prefix (with_library_name machine Gnu second)) → ⊥
apart machine first second dll other begins =
    let front = mangled_name first.import_name in
    let one = 0x5F ∷ (digits_of first ++ codes "_a_") in
    let two = 0x5F ∷ (digits_of second ++ codes "_a_") in
    let joined : front ++ two ≡ front ++ (one ++ begins.0) =
    ap (λ n. mangled_name n ++ two) dll ∙ sym (prefix_of machine second) ∙ begins.1 ∙ ap (λ p. p ++ begins.0) (prefix_of machine first) ∙ append_assoc front one begins.0 in
    let digits : digits_of second ++ codes "_a_" ≡ digits_of first ++ (codes "_a_" ++ begins.0) =
    ap (drop 1) (append_cancel_left front two (one ++ begins.0) joined) ∙ append_assoc (digits_of first) (codes "_a_") begins.0 in
    let same : digits_of first ≡ digits_of second =
    sym (first_sixteen first (codes "_a_" ++ begins.0)) ∙ ap (take 16) (sym digits) ∙ first_sixteen second (codes "_a_") in
    other (named_by first ∙ ap (λ n. n ++ (0x5F ∷ digits_of first)) dll ∙ ap (λ t. second.import_name ++ (0x5F ∷ t)) same ∙ sym (named_by second))
