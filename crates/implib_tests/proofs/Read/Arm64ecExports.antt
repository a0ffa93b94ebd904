-- The short imports of all exports of a library are read as the imports that the exports mean.
use Rattle.std.proofs.Common.{◌≡◌, ◌∙◌, ℕ, ◌+◌, ◌<◌, ◌≤◌, ◌^◌, Bool, true, false, ◌||◌, List, [], ◌∷◌, ◌++◌, None, Some, Option, Result, Ok, Err, ap, drop, if◌then◌else◌, map, nat_le, refl, subst, sym, take}
use Rattle.std.specs.Prelude.{◌==◌, unwrap_or}
use Rattle.std.specs.List.{AllByRecursion}
use Rattle.std.proofs.lemmas.Bool.{leb-true, true≢false}
use Rattle.std.proofs.lemmas.List.{take-append-drop}
use Rattle.std.proofs.lemmas.List.Folds.{list_any-append}
use Rattle.implib.specs.Ascii.{begins_with, question_mark, without_first}
use Rattle.implib.specs.Definition.{ExportView, given_name}
use Rattle.implib.specs.Import.{holds, is_alias, is_empty_text}
use Rattle.implib.specs.LibraryName.{NamesOfDll}
use Rattle.implib.specs.Members.MemberSpec.{MemberView}
use Rattle.implib.specs.Members.Msvc.{short_import_size, short_import_symbol, symbol_or_name}
use Rattle.implib.specs.Members.NameRules.{holds_nul}
use Rattle.implib_arm64ec.specs.LibraryImports.{exports_fault, first_of_both, imports_of, members_made, spec_fault}
use Rattle.implib_arm64ec.specs.Marks.{inner_mark, mark, mark_position, marked_behind, marked_inside, number_sign, without_mark_at}
use Rattle.implib_arm64ec.specs.Reading.{qualified_name, read}
use Rattle.implib_arm64ec.specs.ShortImports.{import_of, is_function, name_apart, name_given, plain_symbol, spec_with, symbol_of, third_text}
use Rattle.implib_arm64ec.specs.declared.library.ImportsFault.{ImportsFault}
use Rattle.implib_arm64ec.specs.declared.library.ImportsFault.TheVariants.{NulInDllName, NulInExport}
use Rattle.implib_arm64ec.specs.declared.reading.Reading.{Reading}
use Rattle.implib_arm64ec.specs.declared.reading.Reading.TheVariants.{Ends, Stops}
use Rattle.implib_read.specs.Classes.{AnImport, Class, class_of_file}
use Rattle.implib_read.specs.Files.{file_found}
use Rattle.implib_read.specs.Following.{Place}
use Rattle.implib_tests.specs.Read.Arm64ecImports.{ImportsAreRead, imports_meant, meant_by}
use Rattle.implib_tests.proofs.Read.Arm64ecImports.{short_imports_are_read}

-- Texts that hold no NUL.

none_or : (a b : Bool) → (a || b) ≡ false → (a ≡ false) × (b ≡ false)
none_or true b is = absurd (true≢false is)
none_or false b is = (refl, is)

both_free : (xs ys : List ℕ) → holds 0 xs ≡ false → holds 0 ys ≡ false → holds 0 (xs ++ ys) ≡ false
both_free xs ys first second =
    list_any-append (λ b. b == 0) xs ys ∙ (ap (λ a. a || holds 0 ys) first ∙ second)

pieces_free : (n : ℕ) (text : List ℕ) → holds 0 text ≡ false → (holds 0 (take n text) ≡ false) × (holds 0 (drop n text) ≡ false)
pieces_free n text free =
    none_or (holds 0 (take n text)) (holds 0 (drop n text))
    (sym (list_any-append (λ b. b == 0) (take n text) (drop n text)) ∙ (ap (holds 0) (take-append-drop n text) ∙ free))

-- a name with its mark
behind_free : (name symbol : List ℕ) (reading : Reading) → marked_behind name reading ≡ Ok symbol → holds 0 name ≡ false → holds 0 symbol ≡ false
behind_free name symbol (Stops place) is free = absurd (cc)
behind_free name symbol (Ends n) is free =
    let pieces = pieces_free (n + 1) name free in
    let same : (take (n + 1) name ++ inner_mark) ++ drop (n + 1) name ≡ symbol = cc in
    subst (λ (x : List ℕ). holds 0 x ≡ false) same
    (both_free (take (n + 1) name ++ inner_mark) (drop (n + 1) name) (both_free (take (n + 1) name) inner_mark pieces.0 refl) pieces.1)

inside_free : (name symbol : List ℕ) (found : Option ℕ) → marked_inside name found ≡ Ok symbol → holds 0 name ≡ false → holds 0 symbol ≡ false
inside_free name symbol (Some place) is free = let same : name ≡ symbol = cc in subst (λ (x : List ℕ). holds 0 x ≡ false) same free
inside_free name symbol None is free = behind_free name symbol (read qualified_name (without_first name)) is free

mark_by : (empty sign question : Bool) (name symbol : List ℕ) (inside : Result (List ℕ) ℕ) → (inside ≡ Ok symbol → holds 0 symbol ≡ false) → holds 0 name ≡ false
    → (if empty then Err 0 else if sign then Ok name else if question then inside else Ok (number_sign ∷ name)) ≡ Ok symbol → holds 0 symbol ≡ false
mark_by true sign question name symbol inside kept free is = absurd (cc)
mark_by false true question name symbol inside kept free is = let same : name ≡ symbol = cc in subst (λ (x : List ℕ). holds 0 x ≡ false) same free
mark_by false false true name symbol inside kept free is = kept is
mark_by false false false name symbol inside kept free is = let same : number_sign ∷ name ≡ symbol = cc in subst (λ (x : List ℕ). holds 0 x ≡ false) same free

mark_free : (name symbol : List ℕ) → mark name ≡ Ok symbol → holds 0 name ≡ false → holds 0 symbol ≡ false
mark_free name symbol is free =
    mark_by (is_empty_text name) (begins_with number_sign name) (begins_with question_mark name) name symbol (marked_inside name (mark_position name))
    (λ e. inside_free name symbol (mark_position name) e free) free is

-- and a symbol without it
around_free : (name rest : List ℕ) (place : ℕ) → holds 0 name ≡ false → holds 0 rest ≡ false
    → holds 0 (unwrap_or (if is_empty_text rest then None else Some (take place name ++ rest)) name) ≡ false
around_free name [] place free none = free
around_free name (c ∷ rest) place free none = both_free (take place name) (c ∷ rest) (pieces_free place name free).0 none

without_free : (name : List ℕ) (found : Option ℕ) → holds 0 name ≡ false → holds 0 (unwrap_or (without_mark_at name found) name) ≡ false
without_free name None free = free
without_free name (Some place) free = around_free name (drop (place + 3) name) place free (pieces_free (place + 3) name free).1

plain_by : (sign question : Bool) (name rest : List ℕ) (found : Option (List ℕ)) → holds 0 name ≡ false → holds 0 rest ≡ false → holds 0 (unwrap_or found name) ≡ false
    → holds 0 (unwrap_or (if sign then Some rest else if question then found else None) name) ≡ false
plain_by true question name rest found free less kept = less
plain_by false true name rest found free less kept = kept
plain_by false false name rest found free less kept = free

first_free : (name : List ℕ) → holds 0 name ≡ false → holds 0 (without_first name) ≡ false
first_free [] free = refl
first_free (c ∷ name) free = (none_or (c == 0) (holds 0 name) free).1

plain_free : (symbol : List ℕ) → holds 0 symbol ≡ false → holds 0 (plain_symbol symbol) ≡ false
plain_free symbol free =
    plain_by (begins_with number_sign symbol) (begins_with question_mark symbol) symbol (without_first symbol) (without_mark_at symbol (mark_position symbol))
    free (first_free symbol free) (without_free symbol (mark_position symbol) free)

-- What an export without a NUL has.

record Free (e : ExportView) : Type 0 where
  name : holds 0 (short_import_symbol e) ≡ false
  target : holds 0 e.alias_target ≡ false
  asked : holds 0 (given_name e) ≡ false

named_free : (symbol name : List ℕ) → holds 0 symbol ≡ false → holds 0 name ≡ false → holds 0 (symbol_or_name symbol name) ≡ false
named_free [] name first second = second
named_free (c ∷ symbol) name first second = first

free_of : (e : ExportView) → holds_nul e ≡ false → Free e
free_of e none =
    let outer = none_or (holds 0 e.name || holds 0 e.symbol_name || holds 0 e.alias_target) (holds 0 (given_name e)) none in
    let inner = none_or (holds 0 e.name || holds 0 e.symbol_name) (holds 0 e.alias_target) outer.0 in
    let names = none_or (holds 0 e.name) (holds 0 e.symbol_name) inner.0 in
    record { name = named_free e.symbol_name e.name names.1 names.0; target = inner.1; asked = outer.1 }

symbol_free : (function : Bool) (name symbol : List ℕ) → (if function then mark name else Ok name) ≡ Ok symbol → holds 0 name ≡ false → holds 0 symbol ≡ false
symbol_free true name symbol is free = mark_free name symbol is free
symbol_free false name symbol is free = let same : name ≡ symbol = cc in subst (λ (x : List ℕ). holds 0 x ≡ false) same free

apart_free : (e : ExportView) (symbol : List ℕ) (given : Option (List ℕ)) → holds 0 symbol ≡ false → holds 0 (unwrap_or given []) ≡ false
    → holds 0 (unwrap_or (name_apart e symbol given) symbol) ≡ false
apart_free e symbol (Some name) free kept = kept
apart_free e symbol None free kept = by (is_function e)
  where
    by : (b : Bool) → holds 0 (unwrap_or (if b then Some (plain_symbol symbol) else None) symbol) ≡ false
    by true = plain_free symbol free
    by false = free

given_free : (e : ExportView) (asked : Option (List ℕ)) → holds 0 e.alias_target ≡ false → holds 0 (unwrap_or asked []) ≡ false → holds 0 (unwrap_or (name_given e asked) []) ≡ false
given_free e (Some name) target kept = kept
given_free e None target kept = by (is_alias e.alias_target (short_import_symbol e))
  where
    by : (b : Bool) → holds 0 (unwrap_or (if b then Some e.alias_target else None) []) ≡ false
    by true = target
    by false = refl

third_free : (e : ExportView) (symbol : List ℕ) → Free e → holds 0 symbol ≡ false → holds 0 (unwrap_or (third_text e symbol) symbol) ≡ false
third_free e symbol none free = by e.no_name
  where
    by : (b : Bool) → holds 0 (unwrap_or (if b then None else name_apart e symbol (name_given e e.asked_name)) symbol) ≡ false
    by true = free
    by false = apart_free e symbol (name_given e e.asked_name) free (given_free e e.asked_name none.target none.asked)

-- Each export.

fits : (n : ℕ) (fault : ImportsFault) → (if nat_le n 0xFFFF_FFFF then None else Some fault) ≡ None → n ≤ 0xFFFF_FFFF
fits n fault is = by (nat_le n 0xFFFF_FFFF) refl is
  where
    by : (b : Bool) → nat_le n 0xFFFF_FFFF ≡ b → (if b then None else Some fault) ≡ None → n ≤ 0xFFFF_FFFF
    by true small none = leb-true n 0xFFFF_FFFF small
    by false large none = absurd (cc)

class_of : (List ℕ → Option Place) → MemberView → Class
class_of defined m = class_of_file defined (file_found m.bytes)

one_read : (defined : List ℕ → Option Place) (dll : NamesOfDll) (index : ℕ) (e : ExportView) (symbol : Result (List ℕ) ℕ) → symbol_of e ≡ symbol → holds 0 dll.text ≡ false → Free e
    → e.ordinal < 2 ^ 16 → spec_fault index (spec_with dll e symbol) ≡ None
    → map (class_of defined) (members_made (spec_with dll e symbol)) ≡ map AnImport (meant_by dll.text e symbol)
unfolding class_of
one_read defined dll index e (Err place) is text none ordinal accepted = refl
one_read defined dll index e (Ok symbol) is text none ordinal accepted =
    let free = symbol_free (is_function e) (short_import_symbol e) symbol is none.name in
    ap (λ c. c ∷ []) (short_imports_are_read defined dll.text e symbol (record {
      symbol_free = free;
      dll_free = text;
      third_free = third_free e symbol none free;
      ordinal = ordinal;
      size = fits (short_import_size (import_of dll.text e symbol)) _ accepted;
    }))

export_read : (defined : List ℕ → Option Place) (dll : NamesOfDll) (index : ℕ) (e : ExportView) (hidden nul : Bool) → holds_nul e ≡ nul → holds 0 dll.text ≡ false → e.ordinal < 2 ^ 16
    → (if hidden then None else if nul then Some (NulInExport index) else spec_fault index (spec_with dll e (symbol_of e))) ≡ None
    → map (class_of defined) (if hidden then [] else members_made (spec_with dll e (symbol_of e)))
    ≡ map AnImport (if hidden then [] else meant_by dll.text e (symbol_of e))
export_read defined dll index e true nul is text ordinal accepted = refl
export_read defined dll index e false true is text ordinal accepted = absurd (cc)
export_read defined dll index e false false is text ordinal accepted = one_read defined dll index e (symbol_of e) refl text (free_of e is) ordinal accepted

map_both : {X Y : Type 0} (f : X → Y) (xs ys : List X) → map f (xs ++ ys) ≡ map f xs ++ map f ys
map_both f [] ys = refl
map_both f (x ∷ xs) ys = ap (λ more. f x ∷ more) (map_both f xs ys)

none_of_both : (one later : Option ImportsFault) → first_of_both one later ≡ None → (one ≡ None) × (later ≡ None)
none_of_both (Some fault) later is = absurd (cc)
none_of_both None later is = (refl, is)

exports_read : (defined : List ℕ → Option Place) (dll : NamesOfDll) (index : ℕ) (exports : List ExportView) → holds 0 dll.text ≡ false → AllByRecursion (λ e. e.ordinal < 2 ^ 16) exports
    → exports_fault dll index exports ≡ None → map (class_of defined) (imports_of dll exports) ≡ map AnImport (imports_meant dll.text exports)
unfolding imports_of exports_fault
exports_read defined dll index [] text ordinals accepted = refl
exports_read defined dll index (e ∷ exports) text ordinals accepted =
    let both = none_of_both _ (exports_fault dll (index + 1) exports) accepted in
    let one = export_read defined dll index e e.private (holds_nul e) refl text ordinals.0 both.0 in
    let made = if e.private then [] else members_made (spec_with dll e (symbol_of e)) in
    let meant = if e.private then [] else meant_by dll.text e (symbol_of e) in
    map_both (class_of defined) made (imports_of dll exports)
    ∙ (ap (λ xs. xs ++ map (class_of defined) (imports_of dll exports)) one
    ∙ (ap (λ xs. map AnImport meant ++ xs) (exports_read defined dll (index + 1) exports text ordinals.1 both.1)
    ∙ sym (map_both AnImport meant (imports_meant dll.text exports))))

accepted_by : (linked text : Bool) (others : Option ImportsFault) → (if linked || text then Some NulInDllName else others) ≡ None → (text ≡ false) × (others ≡ None)
accepted_by true text others is = absurd (cc)
accepted_by false true others is = absurd (cc)
accepted_by false false others is = (refl, is)

pub imports_are_read : ImportsAreRead
unfolding class_of
imports_are_read defined dll exports ordinals accepted =
    let both = accepted_by (holds 0 dll.linked) (holds 0 dll.text) (exports_fault dll 0 exports) accepted in
    exports_read defined dll 0 exports both.0 ordinals both.1
