-- Tables take nothing that they do not list: by the test of each row.
use Rattle.std.proofs.Common.{arith, ◌≡◌, ◌≢◌, ℕ, ◌==◌, true, List, [], ◌∷◌, Option, Some, None, refl, sym, if◌then◌else◌}
use Rattle.std.proofs.lemmas.Bool.{cases_Bool, eqb-true, false_from_ne_true}
use Rattle.std.proofs.lemmas.Bool.Decides.{Decides-eqb}
use Rattle.std.proofs.lemmas.Option.{none-some}
use Rattle.std.proofs.lemmas.Slice.Eq.{bytes_eq-Decides, ends_is}
use Rattle.std.specs.List.{ends_with}
use Rattle.std.specs.Prelude.{bytes_eq, codes, length, nat_eq, take, ◌++◌, ◌-◌}
use Rattle.implib.specs.declared.def.lexer.TokenKind.{TokenKind}
use Rattle.implib.specs.declared.def.lexer.TokenKind.TheVariants.{Identifier, KwBase, KwConstant, KwData, KwExports, KwHeapsize, KwLibrary, KwName, KwNoname, KwPrivate, KwStacksize, KwVersion}
use Rattle.implib.specs.declared.flavor.Flavor.{Flavor}
use Rattle.implib.specs.declared.flavor.Flavor.TheVariants.{Msvc, Gnu}
use Rattle.implib.specs.declared.machine.MachineType.{MachineType}
use Rattle.implib.specs.declared.machine.MachineType.TheVariants.{I386, ARMNT, AMD64, ARM64}
use Rattle.implib.specs.Conversions.{flavor_named, machine_named, machine_numbered}
use Rattle.implib.specs.Members.Gnu.{mangled_name}
use Rattle.implib.specs.Members.MsvcObjects.{base_name}
use Rattle.implib.specs.Text.Token.{kind_of_word}
use Rattle.implib.specs.Worked.Rules.{IsCutFrom, TakeNothingElse, only_flavor_name, only_name, only_number, only_word}

-- a row of a table by names, and one of a table by numbers: what it answers has exactly its own name or number
name_row : {X : Type 0} (name own : List ℕ) (a x : X) (others : Option X) (only : X → List ℕ) → only a ≡ own →
    (others ≡ Some x → name ≡ only x) →
    (if bytes_eq name own then Some a else others) ≡ Some x → name ≡ only x
name_row name own a x others only known behind found = grind (arith, cases_Bool, bytes_eq-Decides)

number_row : {X : Type 0} (number own : ℕ) (a x : X) (others : Option X) (only : X → ℕ) → only a ≡ own →
    (others ≡ Some x → number ≡ only x) →
    (if number == own then Some a else others) ≡ Some x → number ≡ only x
number_row number own a x others only known behind found = grind (arith, cases_Bool, eqb-true)

machine_names : (name : List ℕ) (machine : MachineType) → machine_named name ≡ Some machine → name ≡ only_name machine
machine_names name machine found =
    name_row name (codes "I386") I386 machine _ only_name refl
    (λ f. name_row name (codes "ARMNT") ARMNT machine _ only_name refl
    (λ f. name_row name (codes "AMD64") AMD64 machine _ only_name refl
    (λ f. name_row name (codes "ARM64") ARM64 machine None only_name refl (λ f. absurd (none-some machine f)) f) f) f) found

machine_numbers : (number : ℕ) (machine : MachineType) → machine_numbered number ≡ Some machine →
    number ≡ only_number machine
machine_numbers number machine found = grind (arith, number_row, none-some)

flavor_names : (name : List ℕ) (flavor : Flavor) → flavor_named name ≡ Some flavor → name ≡ only_flavor_name flavor
flavor_names name flavor found =
    name_row name (codes "msvc") Msvc flavor _ only_flavor_name refl
    (λ f. name_row name (codes "gnu") Gnu flavor None only_flavor_name refl (λ f. absurd (none-some flavor f)) f) found

-- a row of the keywords
word_row : (word own : List ℕ) (a : TokenKind) (others kind : TokenKind) → only_word a ≡ own →
    (others ≡ kind → word ≡ only_word kind) →
    (if bytes_eq word own then a else others) ≡ kind → word ≡ only_word kind
word_row word own a others kind known behind found = grind (arith, cases_Bool, bytes_eq-Decides)

words : (word : List ℕ) (kind : TokenKind) → kind_of_word word ≡ kind → kind ≢ Identifier → word ≡ only_word kind
unfolding kind_of_word
words word kind found known =
    word_row word (codes "BASE") KwBase _ kind refl
    (λ f. word_row word (codes "CONSTANT") KwConstant _ kind refl
    (λ f. word_row word (codes "DATA") KwData _ kind refl
    (λ f. word_row word (codes "EXPORTS") KwExports _ kind refl
    (λ f. word_row word (codes "HEAPSIZE") KwHeapsize _ kind refl
    (λ f. word_row word (codes "LIBRARY") KwLibrary _ kind refl
    (λ f. word_row word (codes "NAME") KwName _ kind refl
    (λ f. word_row word (codes "NONAME") KwNoname _ kind refl
    (λ f. word_row word (codes "PRIVATE") KwPrivate _ kind refl
    (λ f. word_row word (codes "STACKSIZE") KwStacksize _ kind refl
    (λ f. word_row word (codes "VERSION") KwVersion Identifier kind refl (λ f. absurd (known (sym f)))
    f) f) f) f) f) f) f) f) f) f) found

suffix : (dll end : List ℕ) → ends_with nat_eq dll end ≡ true → dll ≡ take (length dll - length end) dll ++ end
suffix dll end is = (ends_is Decides-eqb dll end _ refl).0 is

-- with each of the two endings, and with neither
cut : (dll : List ℕ) → IsCutFrom dll (base_name dll)
unfolding base_name
cut dll = grind (arith, cases_Bool, suffix)

kept : (byte : ℕ) → byte ≢ 0x2E → mangled_name (byte ∷ []) ≡ byte ∷ []
unfolding mangled_name
kept byte differs = grind (arith, false_from_ne_true, eqb-true)

pub take_nothing_else : TakeNothingElse
take_nothing_else = grind (arith, machine_names, machine_numbers, flavor_names, words, cut, kept)
