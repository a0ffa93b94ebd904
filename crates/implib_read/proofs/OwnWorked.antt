-- Libraries beside definitions, computed.
use Rattle.std.proofs.Common.{◌≡◌, ◌∙◌, ℕ, Bool, true, false, List, [], ◌∷◌, None, Some, ap, bytes_eq, codes, map, refl, sym}
use Rattle.std.specs.List.{filter_map}
use Rattle.std.specs.Option.{option_map}
use Rattle.std.proofs.lemmas.Bool.{true≢false}
use Rattle.implib.specs.Formats.File.{Meaning}
use Rattle.implib.specs.Import.{Ask, Import, Name, Ordinal}
use Rattle.implib.specs.Members.ReadBack.{alias_among, import_among}
use Rattle.implib_read.specs.Classes.{MemberRead}
use Rattle.implib_read.specs.WorkedOwn.{WorkedOwnGnuLibraries, WorkedOwnLibraries}
use Rattle.implib_read.proofs.WorkedBytes.{worked_libraries}

-- what is read tells the meanings
one_meaning : (m : Meaning) (ms : List Meaning) → Some m ∷ [] ≡ map Some ms → m ∷ [] ≡ ms
one_meaning m [] same = cc
one_meaning m (x ∷ []) same = cc
one_meaning m (x ∷ y ∷ ms) same = cc

two_meanings : (m n : Meaning) (ms : List Meaning) → Some m ∷ Some n ∷ [] ≡ map Some ms → m ∷ n ∷ [] ≡ ms
two_meanings m n [] same = cc
two_meanings m n (x ∷ []) same = cc
two_meanings m n (x ∷ y ∷ []) same = cc
two_meanings m n (x ∷ y ∷ z ∷ ms) same = cc

no_meaning : (ms : List Meaning) → None ∷ [] ≡ map Some ms → ⊥
no_meaning [] same = cc
no_meaning (m ∷ ms) same = cc

-- whether the first import asks for a name
by_name : Ask → Bool
by_name (Name name hint) = true
by_name (Ordinal ordinal) = false

first_by_name : List Import → Bool
first_by_name [] = false
first_by_name (i ∷ imports) = by_name i.ask

pub worked_own_libraries : WorkedOwnLibraries
unfolding first_by_name by_name
worked_own_libraries = record {
  llvm = record {
    classes = _;
    found = ap (option_map (map (λ (m : MemberRead). m.class))) worked_libraries.llvm;
    means = record { header = refl; meanings = _ ∷ _ ∷ _ ∷ []; read = refl; imports = refl; aliases = refl; kinds = refl; machines = refl };
  };
  none = record { header = refl; meanings = []; read = refl; imports = refl; aliases = refl; kinds = refl; machines = refl };
  with_alias = record { header = refl; meanings = _ ∷ _ ∷ _ ∷ []; read = refl; imports = refl; aliases = refl; kinds = refl; machines = refl };
  no_header = λ l. let same = l.header in cc;
  not_read = λ l. no_meaning l.meanings l.read;
  other_import = λ l. absurd (true≢false (sym (ap first_by_name (ap (filter_map import_among) (one_meaning _ l.meanings l.read) ∙ l.imports))));
  other_alias = λ l. let same = ap (filter_map alias_among) (two_meanings _ _ l.meanings l.read) ∙ l.aliases in cc;
  other_kind = λ l. let same = l.kinds in cc;
  untold_kind = λ l. let same = l.kinds in cc;
  other_machine = λ l. absurd (true≢false (sym l.machines));
}

-- the symbol of the first import
first_symbol : List Import → List (List ℕ)
first_symbol [] = []
first_symbol (i ∷ imports) = i.declared

is_bar : List (List ℕ) → Bool
is_bar [] = false
is_bar (s ∷ ss) = bytes_eq s (codes "__imp_bar")

pub worked_own_gnu_libraries : WorkedOwnGnuLibraries
unfolding first_symbol is_bar
worked_own_gnu_libraries = record {
  dlltool = record {
    classes = _;
    found = ap (option_map (map (λ (m : MemberRead). m.class))) worked_libraries.dlltool;
    means = record { header = refl; meanings = _ ∷ []; read = refl; imports = refl; aliases = refl };
  };
  ld = record {
    classes = _;
    found = ap (option_map (map (λ (m : MemberRead). m.class))) worked_libraries.ld;
    means = record { header = refl; meanings = _ ∷ _ ∷ []; read = refl; imports = refl; aliases = refl };
  };
  none = record { header = refl; meanings = []; read = refl; imports = refl; aliases = refl };
  with_alias = record { header = refl; meanings = _ ∷ _ ∷ _ ∷ []; read = refl; imports = refl; aliases = refl };
  backwards = record { header = refl; meanings = _ ∷ _ ∷ []; read = refl; imports = refl; aliases = refl };
  no_header = λ l. let same = l.header in cc;
  not_read = λ l. no_meaning l.meanings l.read;
  forwards = λ l. absurd (true≢false (sym (ap (λ is. is_bar (first_symbol is)) (ap (filter_map import_among) (two_meanings _ _ l.meanings l.read) ∙ l.imports))));
  other_alias = λ l. let same = ap (filter_map alias_among) (two_meanings _ _ l.meanings l.read) ∙ l.aliases in cc;
}
