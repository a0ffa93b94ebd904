-- What the exports of a text ask for, and those that give a name.
use Rattle.std.proofs.Common.{arith, ◌≡◌, ℕ, Bool, true, false, ◌||◌, ◌&&◌, if◌then◌else◌, ◌⊎◌, inl, inr, List, [], ◌∷◌, map, Option, Some, None, refl, ap, ◌∙◌}
use Rattle.std.specs.Prelude.{◌==◌, not, slice_index, option_map, unwrap_or}
use Rattle.std.specs.List.{AllByRecursion}
use Rattle.std.proofs.lemmas.Bool.{eqb-true}
use Rattle.implib.specs.declared.flavor.Flavor.{Flavor}
use Rattle.implib.specs.declared.flavor.Flavor.TheVariants.{Msvc, Gnu}
use Rattle.implib.specs.declared.machine.MachineType.{MachineType}
use Rattle.implib.specs.declared.machine.MachineType.TheVariants.{I386, ARMNT, AMD64, ARM64}
use Rattle.implib.specs.Asked.{AskForGivenNames, AsksFor, AsksForGiven, AsksForWords, EachAsksForItsWord, external_word}
use Rattle.implib.specs.Definition.{DefinitionView, ExportView}
use Rattle.implib.specs.Text.Grammar.{Export}
use Rattle.implib.specs.Import.{Name, Ordinal, holds, at_sign, name_asked, underscore}
use Rattle.implib.specs.Underscore.{asked_name}
use Rattle.implib.specs.Ascii.{begins_with, without_first}
use Rattle.implib.specs.Text.Meaning.{export_meaning}
use Rattle.implib.specs.Ascii.{question_mark}
use Rattle.implib.specs.Underscore.{decorated}
use Rattle.implib.specs.Members.NameRules.{asked_in}
use Rattle.implib.specs.Members.Msvc.{asked_by_short_import}
use Rattle.implib.specs.Members.MemberSpec.{MemberView}
use Rattle.implib.specs.Members.Members.{AreMembersOf}
use Rattle.implib.specs.Text.Parses.{Parses}
use Rattle.implib.specs.Renaming.{renamed_export, name_to_link}
use Rattle.implib.proofs.Members.Import.{ask_written-expected}
use Rattle.implib.proofs.Members.NotRefused.{AsksNoOther, exports_ask, given_asked}

-- a name that has no underscore before it, or that is decorated, is asked for as it is
kept : (begins has : Bool) (name : List ℕ) → begins ≡ false ⊎ has ≡ true → (if begins && not has then without_first name else name) ≡ name
kept true true name why = refl
kept true false name (inl why) = cc
kept true false name (inr why) = cc
kept false has name why = refl

-- a name that begins with `?` does not begin with `_`
question_first : (name : List ℕ) → (slice_index name 0 == question_mark) ≡ true → begins_with underscore name ≡ false
question_first [] question = refl
question_first (b ∷ name) question = let same : b ≡ 63 = eqb-true b 63 question in rw same refl

-- the word is asked for, whether or not it was decorated
asked_on_i386 : (question has : Bool) (word : List ℕ) → (slice_index word 0 == question_mark) ≡ question → holds at_sign word ≡ has →
    asked_name I386 (if not (question || has) then underscore ∷ word else word) ≡ word
asked_on_i386 true has word question held = kept (begins_with underscore word) (holds at_sign word) word (inl (question_first word question))
asked_on_i386 false true word question held = kept (begins_with underscore word) (holds at_sign word) word (inr held)
asked_on_i386 false false word question held = rw held refl

-- the word is asked for by the name that it gives an export
word_asked : (machine : MachineType) (word : List ℕ) → asked_name machine (decorated machine word) ≡ word
word_asked I386 word = asked_on_i386 (slice_index word 0 == question_mark) (holds at_sign word) word refl refl
word_asked ARMNT word = refl
word_asked AMD64 word = refl
word_asked ARM64 word = refl

-- the name to link by is the word's, with a target or without
linked_by_word : (machine : MachineType) (word : List ℕ) (target : Option (List ℕ)) →
    name_to_link (option_map (λ t. decorated machine word) target) (decorated machine (unwrap_or target word)) ≡ decorated machine word
linked_by_word machine word None = refl
linked_by_word machine word (Some target) = refl

pub expected_word : (machine : MachineType) (e : Export) → asked_name machine (renamed_export (export_meaning machine e)).name ≡ external_word e
expected_word machine e = ap (asked_name machine) (linked_by_word machine e.word e.target) ∙ word_asked machine e.word

name_asked_in : (no_name : Bool) (ordinal : ℕ) (written expected : List ℕ) → no_name ≡ false →
    (if no_name then Ordinal ordinal else Name written ordinal) ≡ (if no_name then Ordinal ordinal else Name expected ordinal) → written ≡ expected
name_asked_in true ordinal written expected by_name same = cc
name_asked_in false ordinal written expected by_name same = cc

-- a short import without a symbol name asks for what is expected
asked_by_short_import-expected : (machine : MachineType) (e : ExportView) → e.symbol_name ≡ [] → AsksNoOther Msvc machine e → e.no_name ≡ false →
    asked_by_short_import machine e ≡ name_asked machine e
asked_by_short_import-expected machine e plain asks by_name =
    name_asked_in e.no_name e.ordinal (asked_by_short_import machine e) (name_asked machine e) by_name (ask_written-expected machine e plain asks)

-- in either flavour
asked_in_each : (machine : MachineType) (e : Export) (flavor : Flavor) → (renamed_export (export_meaning machine e)).no_name ≡ false →
    asked_in flavor machine (renamed_export (export_meaning machine e)) ≡ external_word e
asked_in_each machine e Msvc by_name = asked_by_short_import-expected machine (renamed_export (export_meaning machine e)) refl (λ named. refl) by_name ∙ expected_word machine e
asked_in_each machine e Gnu by_name = expected_word machine e

asks_for_word : (machine : MachineType) (e : Export) → AsksFor machine (renamed_export (export_meaning machine e)) (external_word e)
asks_for_word machine e = record { expected = λ by_name. expected_word machine e; in_each_flavor = asked_in_each machine e }

each_asks : (machine : MachineType) (exports : List Export) → EachAsksForItsWord machine (map renamed_export (map (export_meaning machine) exports)) exports
each_asks machine [] = tt
each_asks machine (e ∷ exports) = (asks_for_word machine e, each_asks machine exports)

-- each export of a parsed definition asks for its word
pub asks_for_words : (text : List ℕ) (machine : MachineType) (definition : DefinitionView) (parsed : Parses text machine definition) → AsksForWords text machine definition parsed
asks_for_words text machine definition parsed = grind (arith, each_asks)

asks_for_given : (flavor : Flavor) (machine : MachineType) (e : ExportView) → AsksNoOther flavor machine e → AsksForGiven flavor machine e
asks_for_given flavor machine e asks = grind (arith, given_asked)

each_asks_for_given : (flavor : Flavor) (machine : MachineType) (exports : List ExportView) → AllByRecursion (AsksNoOther flavor machine) exports →
    AllByRecursion (AsksForGiven flavor machine) exports
each_asks_for_given flavor machine [] ask = tt
each_asks_for_given flavor machine (e ∷ exports) ask = (asks_for_given flavor machine e ask.0, each_asks_for_given flavor machine exports ask.1)

-- each export of a definition that has members asks for the name that it gives
pub ask_for_given_names : (flavor : Flavor) (machine : MachineType) (d : DefinitionView) (members : List MemberView) → AreMembersOf d machine flavor members →
    AskForGivenNames flavor machine d
ask_for_given_names flavor machine d members made = grind (arith, each_asks_for_given, exports_ask)
