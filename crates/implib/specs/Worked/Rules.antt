-- What tables take and nothing else: every name, number, word, ending and byte that a table does
-- not list is left as it is, or refused. Tables that list one more contradict this.
use Rattle.std.specs.Prelude.{◌≡◌, ◌≢◌, ℕ, ◌⊎◌, List, [], ◌∷◌, ◌++◌, Some, codes}
use Rattle.implib.specs.declared.def.lexer.TokenKind.{TokenKind}
use Rattle.implib.specs.declared.def.lexer.TokenKind.TheVariants.{Identifier, KwBase, KwConstant}
use Rattle.implib.specs.declared.def.lexer.TokenKind.TheVariants.{KwData, KwExports, KwHeapsize}
use Rattle.implib.specs.declared.def.lexer.TokenKind.TheVariants.{KwLibrary, KwName, KwNoname}
use Rattle.implib.specs.declared.def.lexer.TokenKind.TheVariants.{KwPrivate, KwStacksize, KwVersion}
use Rattle.implib.specs.declared.flavor.Flavor.{Flavor}
use Rattle.implib.specs.declared.flavor.Flavor.TheVariants.{Msvc, Gnu}
use Rattle.implib.specs.declared.machine.MachineType.{MachineType}
use Rattle.implib.specs.declared.machine.MachineType.TheVariants.{I386, ARMNT, AMD64, ARM64}
use Rattle.implib.specs.Conversions.{flavor_named, machine_named, machine_numbered}
use Rattle.implib.specs.Members.Gnu.{mangled_name}
use Rattle.implib.specs.Members.MsvcObjects.{base_name}
use Rattle.implib.specs.Text.Token.{kind_of_word}

-- the one name of a machine, its one number, and the one name of a flavour
abbrev pub only_name : MachineType → List ℕ
only_name I386 = codes "I386"
only_name ARMNT = codes "ARMNT"
only_name AMD64 = codes "AMD64"
only_name ARM64 = codes "ARM64"

abbrev pub only_number : MachineType → ℕ
only_number I386 = 0x14C
only_number ARMNT = 0x1C4
only_number AMD64 = 0x8664
only_number ARM64 = 0xAA64

abbrev pub only_flavor_name : Flavor → List ℕ
only_flavor_name Msvc = codes "msvc"
only_flavor_name Gnu = codes "gnu"

-- the one word of a keyword's kind; none for other kinds
abbrev pub only_word : TokenKind → List ℕ
only_word KwBase = codes "BASE"
only_word KwConstant = codes "CONSTANT"
only_word KwData = codes "DATA"
only_word KwExports = codes "EXPORTS"
only_word KwHeapsize = codes "HEAPSIZE"
only_word KwLibrary = codes "LIBRARY"
only_word KwName = codes "NAME"
only_word KwNoname = codes "NONAME"
only_word KwPrivate = codes "PRIVATE"
only_word KwStacksize = codes "STACKSIZE"
only_word KwVersion = codes "VERSION"
only_word _ = []

-- nothing is cut off a DLL's name but a last `.dll` or `.exe`
abbrev pub IsCutFrom : List ℕ → List ℕ → Type 0
IsCutFrom dll base = (dll ≡ base) ⊎ ((dll ≡ base ++ codes ".dll") ⊎ (dll ≡ base ++ codes ".exe"))

-- tables take nothing else
pub record TakeNothingElse : Type 0 where
  pub machine_names : (name : List ℕ) (machine : MachineType) → machine_named name ≡ Some machine →
      name ≡ only_name machine
  pub machine_numbers : (number : ℕ) (machine : MachineType) →
      machine_numbered number ≡ Some machine →
      number ≡ only_number machine
  pub flavor_names : (name : List ℕ) (flavor : Flavor) → flavor_named name ≡ Some flavor →
      name ≡ only_flavor_name flavor
  pub keywords : (word : List ℕ) (kind : TokenKind) → kind_of_word word ≡ kind → kind ≢ Identifier →
      word ≡ only_word kind
  pub base_names : (dll : List ℕ) → IsCutFrom dll (base_name dll)
  pub mangled_bytes : (byte : ℕ) → byte ≢ 0x2E → mangled_name (byte ∷ []) ≡ byte ∷ []
