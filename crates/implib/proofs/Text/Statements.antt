-- No statement, whole or begun, wants the end of the text.
use Rattle.std.proofs.Common.{◌≢◌, ℕ, Bool, true, false, List, [], ◌∷◌, ◌++◌, Option, Some, None, refl}
use Rattle.std.specs.List.{flat_map, AllByRecursion}
use Rattle.implib.specs.declared.def.lexer.TokenKind.TheVariants.{Eof, Comma, Equal, EqualEqual, KwBase, KwConstant, KwData, KwExports, KwHeapsize, KwNoname, KwPrivate, KwStacksize, KwVersion}
use Rattle.implib.specs.Text.Grammar.{Attribute, Joined, Apart, Data, Constant, Private, Alias, Export, Region, Heap, Stack, Statement, Exports, Sizes, Nameless, Named, Version, Terminal, Of, Word, Later, no_name_terminals, attribute_terminals, target_terminals, export_terminals, exports_terminals, region_kind, commit_terminals, base_terminals, statement_terminals, terminals, at_sign}
use Rattle.implib.specs.Text.SyntaxError.{PartialStatement, ToSize, ToSecondSize, ToBaseSign, ToBase, ToVersion, ToTarget, ToAlias, ToOrdinal, partial_terminals, bare}
use Rattle.implib.proofs.Text.StartsWith.{WantsNoEof}
use Rattle.implib.proofs.Text.TokenKinds.{differs}

abbrev pub NoneWantsEof : List Terminal → Type 0
NoneWantsEof wanted = AllByRecursion WantsNoEof wanted

pub NoneWantsEof-append : (a b : List Terminal) → NoneWantsEof a → NoneWantsEof b → NoneWantsEof (a ++ b)
NoneWantsEof-append [] b h k = k
NoneWantsEof-append (w ∷ a) b h k = (h.0, NoneWantsEof-append a b h.1 k)

no_name_ends : (no_name : Bool) → NoneWantsEof (no_name_terminals no_name)
no_name_ends true = (differs KwNoname Eof refl, tt)
no_name_ends false = tt

attribute_ends : (a : Attribute) → NoneWantsEof (attribute_terminals a)
attribute_ends (Joined n no_name) = (tt, no_name_ends no_name)
attribute_ends (Apart n no_name) = (tt, (tt, no_name_ends no_name))
attribute_ends Data = (differs KwData Eof refl, tt)
attribute_ends Constant = (differs KwConstant Eof refl, tt)
attribute_ends Private = (differs KwPrivate Eof refl, tt)
attribute_ends (Alias value) = (differs EqualEqual Eof refl, (tt, tt))

attributes_ends : (items : List Attribute) → NoneWantsEof (flat_map attribute_terminals items)
attributes_ends [] = tt
attributes_ends (a ∷ items) = NoneWantsEof-append (attribute_terminals a) (flat_map attribute_terminals items) (attribute_ends a) (attributes_ends items)

target_ends : (target : Option (List ℕ)) → NoneWantsEof (target_terminals target)
target_ends None = tt
target_ends (Some value) = (differs Equal Eof refl, (tt, tt))

module _ (name : List ℕ → Terminal) (ends : (word : List ℕ) → WantsNoEof (name word)) where
  export_ends : (e : Export) → NoneWantsEof (export_terminals name e)
  export_ends e = (ends e.word, NoneWantsEof-append (target_terminals e.target) (flat_map attribute_terminals e.attributes) (target_ends e.target) (attributes_ends e.attributes))

later_ends : (items : List Export) → NoneWantsEof (exports_terminals Later items)
later_ends [] = tt
later_ends (e ∷ items) = NoneWantsEof-append (export_terminals Later e) (exports_terminals Later items) (export_ends Later (λ word. tt) e) (later_ends items)

exports_end_not : (items : List Export) → NoneWantsEof (exports_terminals Word items)
exports_end_not [] = tt
exports_end_not (e ∷ items) = NoneWantsEof-append (export_terminals Word e) (exports_terminals Later items) (export_ends Word (λ word. tt) e) (later_ends items)

commit_ends : (commit : Option ℕ) → NoneWantsEof (commit_terminals commit)
commit_ends None = tt
commit_ends (Some n) = (differs Comma Eof refl, (tt, tt))

base_ends : (base : Option ℕ) → NoneWantsEof (base_terminals base)
base_ends None = tt
base_ends (Some n) = (differs KwBase Eof refl, (differs Equal Eof refl, (tt, tt)))

region_ends : (region : Region) → region_kind region ≢ Eof
region_ends Heap = differs KwHeapsize Eof refl
region_ends Stack = differs KwStacksize Eof refl

statement_ends : (s : Statement) → NoneWantsEof (statement_terminals s)
statement_ends (Exports items) = (differs KwExports Eof refl, exports_end_not items)
statement_ends (Sizes region reserve commit) = (region_ends region, (tt, commit_ends commit))
statement_ends Nameless = (tt, tt)
statement_ends (Named name base) = (tt, (tt, base_ends base))
statement_ends (Version major minor) = (differs KwVersion Eof refl, (tt, tt))

pub statements_want_no_end : (statements : List Statement) → NoneWantsEof (terminals statements)
statements_want_no_end [] = tt
statements_want_no_end (s ∷ statements) = NoneWantsEof-append (statement_terminals s) (terminals statements) (statement_ends s) (statements_want_no_end statements)

begun_ends : (items : List Export) (e : Export) (begun : Terminal) → WantsNoEof begun → NoneWantsEof (exports_terminals Word (items ++ e ∷ []) ++ begun ∷ [])
begun_ends items e begun h = NoneWantsEof-append (exports_terminals Word (items ++ e ∷ [])) (begun ∷ []) (exports_end_not (items ++ e ∷ [])) (h, tt)

pub started_wants_no_end : (partial : PartialStatement) → NoneWantsEof (partial_terminals partial)
started_wants_no_end (ToSize region) = (region_ends region, tt)
started_wants_no_end (ToSecondSize region n) = (region_ends region, (tt, (differs Comma Eof refl, tt)))
started_wants_no_end (ToBaseSign name) = (tt, (tt, (differs KwBase Eof refl, tt)))
started_wants_no_end (ToBase name) = (tt, (tt, (differs KwBase Eof refl, (differs Equal Eof refl, tt))))
started_wants_no_end ToVersion = (differs KwVersion Eof refl, tt)
started_wants_no_end (ToTarget exports word) = (differs KwExports Eof refl, begun_ends exports (bare word) (Of Equal) (differs Equal Eof refl))
started_wants_no_end (ToAlias exports last) = (differs KwExports Eof refl, begun_ends exports last (Of EqualEqual) (differs EqualEqual Eof refl))
started_wants_no_end (ToOrdinal exports last) = (differs KwExports Eof refl, begun_ends exports last (Word (at_sign ∷ [])) tt)
