-- What is read one part after another is the whole that a reader gives.
use Rattle.std.proofs.Common.{arith, ◌≡◌, ℕ, ◌++◌, true, List, [], ◌∷◌, map, Option, Some, None, Ok, Err, refl, sym, ap, ◌∙◌, append_assoc, ◌⊎◌, inl, inr}
use Rattle.std.proofs.lemmas.List.{append-nil}
use Rattle.std.specs.List.{fold}
use Rattle.implib.specs.declared.def.lexer.Token.{Token}
use Rattle.implib.specs.declared.def.lexer.TokenKind.{TokenKind}
use Rattle.implib.specs.declared.def.lexer.TokenKind.TheVariants.{Identifier, KwExports, KwLibrary, KwName, KwVersion}
use Rattle.implib.specs.declared.machine.MachineType.{MachineType}
use Rattle.implib.specs.Definition.{DefinitionView, ExportView, empty_definition}
use Rattle.implib.specs.Text.Grammar.{Attribute, Export, Heap, Named, Nameless, Region, Sizes, Stack, Statement, Version, region_kind}
use Rattle.implib.specs.Text.Meaning.{exports_in}
use Rattle.implib.specs.Views.Parser.{TakesFirst, all_put, one_put, put, settings_put, with_export}
use Rattle.implib.specs.Views.TokenReader.{◌>>=◌, Reader, Refusal, attributes_read, base_read, definition_from, name_by, name_read, named_from, read, some_statement, statements_read, with_statements, export_of, export_read, exports_from, exports_read, made_export, named_export, sizes_read, statement_read, target_read, version_read, with_attribute, with_settings, with_statement}
use Rattle.implib.specs.Text.Token.{TokenView, token_view}
use Rattle.implib.proofs.Text.ParserLoops.{err_is, ok_is}

-- two lists that are equal begin alike
same_first : {x y : TokenView} {xs ys : List TokenView} → x ∷ xs ≡ y ∷ ys → x ≡ y
same_first e = cc

-- what was looked at is what is taken
pub taken : (before : List TokenView) (token : Token) (given : Option Token) (after : List TokenView) → (rest : List TokenView) × (before ≡ token_view token ∷ rest) → TakesFirst before given after → before ≡ token_view token ∷ after
taken before token None after first takes = absurd cc
taken before token (Some other) after first takes = takes ∙ ap (λ (t : TokenView). t ∷ after) (same_first (sym takes ∙ first.1))

-- an export is its names and then its attributes
pub export_put : (machine : MachineType) (exports : List ExportView) (word : List ℕ) (target : Option (List ℕ)) (read : Reader (List Attribute)) (e : ExportView) (rest : List TokenView)
    → all_put with_attribute (named_export machine word target) read ≡ Ok (e, rest) → one_put (with_export machine) exports (read >>= export_of word target) ≡ Ok (true, exports ++ e ∷ [], rest)
unfolding made_export
export_put machine exports word target (Ok items) e rest h = ap (λ (x : ExportView × List TokenView). Ok (true, exports ++ x.0 ∷ [], x.1)) (ok_is h)
export_put machine exports word target (Err refusal) e rest h = absurd cc

-- an export, from its first token on
pub export_reads : (machine : MachineType) (exports : List ExportView) (tokens : List TokenView) (token : TokenView) (after_name after_target rest : List TokenView) (target : Option (List ℕ)) (e : ExportView)
    → tokens ≡ token ∷ after_name → token.kind ≡ Identifier → target_read after_name ≡ Ok (target, after_target)
    → all_put with_attribute (named_export machine token.value target) (attributes_read after_target) ≡ Ok (e, rest)
    → one_put (with_export machine) exports (export_read tokens) ≡ Ok (true, exports ++ e ∷ [], rest)
unfolding export_read
export_reads machine exports tokens token after_name after_target rest target e starts kind targeted made = grind (arith, export_put)

-- a statement without exports leaves them
with_statement-settings : (machine : MachineType) (d : DefinitionView) (s : Statement) → exports_in s ≡ [] → with_statement machine d s ≡ with_settings d s
with_statement-settings machine d s none = grind (arith, append-nil)

-- and what it read is the definition with its settings
put_settled : (machine : MachineType) (d : DefinitionView) (s : Statement) (rest : List TokenView) → exports_in s ≡ [] → put (with_statement machine) d (Some s, rest) ≡ Ok (true, with_settings d s, rest)
put_settled machine d s rest none = ap (λ (e : DefinitionView). Ok (true, e, rest)) (with_statement-settings machine d s none)

pub sizes_reads : (region : Region) (machine : MachineType) (d : DefinitionView) (tokens : List TokenView) (token : TokenView) (after rest : List TokenView) (sizes : ℕ × Option ℕ)
    → tokens ≡ token ∷ after → token.kind ≡ region_kind region → sizes_read after ≡ Ok (sizes, rest)
    → one_put (with_statement machine) d (statement_read tokens) ≡ Ok (true, with_settings d (Sizes region sizes.0 sizes.1), rest)
unfolding statement_read
sizes_reads Heap machine d tokens token after rest sizes starts kind read = rw (starts, kind, read) (put_settled machine d (Sizes Heap sizes.0 sizes.1) rest refl)
sizes_reads Stack machine d tokens token after rest sizes starts kind read = rw (starts, kind, read) (put_settled machine d (Sizes Stack sizes.0 sizes.1) rest refl)

pub version_reads : (machine : MachineType) (d : DefinitionView) (tokens : List TokenView) (token : TokenView) (after rest : List TokenView) (version : ℕ × ℕ)
    → tokens ≡ token ∷ after → token.kind ≡ KwVersion → version_read after ≡ Ok (version, rest)
    → one_put (with_statement machine) d (statement_read tokens) ≡ Ok (true, with_settings d (Version version.0 version.1), rest)
unfolding statement_read
version_reads machine d tokens token after rest version starts kind read = rw (starts, kind, read) (put_settled machine d (Version version.0 version.1) rest refl)

-- the exports that are pushed are those of the statement
fold-with_export : (machine : MachineType) (exports : List ExportView) (items : List Export) → fold (with_export machine) exports items ≡ exports ++ map (made_export machine) items
fold-with_export machine exports [] = sym (append-nil exports)
fold-with_export machine exports (e ∷ items) = fold-with_export machine (exports ++ made_export machine e ∷ []) items ∙ append_assoc exports (made_export machine e ∷ []) (map (made_export machine) items)

exports_put : (machine : MachineType) (d : DefinitionView) (read : Reader (List Export)) (exports : List ExportView) (rest : List TokenView) → all_put (with_export machine) d.exports read ≡ Ok (exports, rest)
    → one_put (with_statement machine) d (read >>= exports_from) ≡ Ok (true, record d { exports = exports }, rest)
exports_put machine d (Ok items) exports rest h = grind (arith, fold-with_export, ok_is)
exports_put machine d (Err refusal) exports rest h = absurd cc

pub exports_reads : (machine : MachineType) (d : DefinitionView) (tokens : List TokenView) (token : TokenView) (after : List TokenView) (exports : List ExportView) (rest : List TokenView)
    → tokens ≡ token ∷ after → token.kind ≡ KwExports → all_put (with_export machine) d.exports (exports_read after) ≡ Ok (exports, rest)
    → one_put (with_statement machine) d (statement_read tokens) ≡ Ok (true, record d { exports = exports }, rest)
unfolding statement_read
exports_reads machine d tokens token after exports rest starts kind read = rw (starts, kind) (exports_put machine d (exports_read after) exports rest read)

-- a name is a statement without exports
named_put : (machine : MachineType) (d : DefinitionView) (name : List ℕ) (read : Reader (Option ℕ)) (e : DefinitionView) (rest : List TokenView) → settings_put d (read >>= named_from name) ≡ Ok (e, rest)
    → one_put (with_statement machine) d ((read >>= named_from name) >>= some_statement) ≡ Ok (true, e, rest)
named_put machine d name (Ok base) e rest h = put_settled machine d (Named name base.0) base.1 refl ∙ ap (λ (x : DefinitionView × List TokenView). Ok (true, x.0, x.1)) (ok_is h)
named_put machine d name (Err refusal) e rest h = absurd cc

name_put : (machine : MachineType) (d : DefinitionView) (kind : TokenKind) (token : TokenView) (after : List TokenView) (e : DefinitionView) (rest : List TokenView) → settings_put d (name_by kind token after) ≡ Ok (e, rest)
    → one_put (with_statement machine) d (name_by kind token after >>= some_statement) ≡ Ok (true, e, rest)
name_put machine d Identifier token after e rest h = named_put machine d token.value (base_read after) e rest h
name_put machine d kind token after e rest h = put_settled machine d Nameless (token ∷ after) refl ∙ ap (λ (x : DefinitionView × List TokenView). Ok (true, x.0, x.1)) (ok_is h)

name_from : (machine : MachineType) (d : DefinitionView) (tokens : List TokenView) (e : DefinitionView) (rest : List TokenView) → settings_put d (name_read tokens) ≡ Ok (e, rest)
    → one_put (with_statement machine) d (name_read tokens >>= some_statement) ≡ Ok (true, e, rest)
unfolding name_read
name_from machine d [] e rest h = put_settled machine d Nameless [] refl ∙ ap (λ (x : DefinitionView × List TokenView). Ok (true, x.0, x.1)) (ok_is h)
name_from machine d (token ∷ after) e rest h = name_put machine d token.kind token after e rest h

pub name_reads : (machine : MachineType) (d : DefinitionView) (tokens : List TokenView) (token : TokenView) (after : List TokenView) (e : DefinitionView) (rest : List TokenView)
    → tokens ≡ token ∷ after → (token.kind ≡ KwName) ⊎ (token.kind ≡ KwLibrary) → settings_put d (name_read after) ≡ Ok (e, rest)
    → one_put (with_statement machine) d (statement_read tokens) ≡ Ok (true, e, rest)
unfolding statement_read
name_reads machine d tokens token after e rest starts (inl kind) read = rw (starts, kind) (name_from machine d after e rest read)
name_reads machine d tokens token after e rest starts (inr kind) read = rw (starts, kind) (name_from machine d after e rest read)

-- what is read of all statements is the definition that the tokens give
read_ok : (machine : MachineType) (read : Reader (List Statement)) (e : DefinitionView) (rest : List TokenView) → all_put (with_statement machine) empty_definition read ≡ Ok (e, rest) → (read >>= definition_from machine) ≡ Ok e
unfolding with_statements
read_ok machine (Ok statements) e rest h = ap (λ (x : DefinitionView × List TokenView). Ok x.0) (ok_is h)
read_ok machine (Err refusal) e rest h = absurd cc

read_err : (machine : MachineType) (read : Reader (List Statement)) (refusal : Refusal) → all_put (with_statement machine) empty_definition read ≡ Err refusal → (read >>= definition_from machine) ≡ Err refusal
read_err machine (Ok statements) refusal h = absurd cc
read_err machine (Err other) refusal h = ap Err (err_is h)

pub definition_read : (machine : MachineType) (tokens : List TokenView) (e : DefinitionView) (rest : List TokenView) → all_put (with_statement machine) empty_definition (statements_read tokens) ≡ Ok (e, rest) → read machine tokens ≡ Ok e
unfolding read
definition_read machine tokens e rest h = read_ok machine (statements_read tokens) e rest h

pub definition_refused : (machine : MachineType) (tokens : List TokenView) (refusal : Refusal) → all_put (with_statement machine) empty_definition (statements_read tokens) ≡ Err refusal → read machine tokens ≡ Err refusal
unfolding read
definition_refused machine tokens refusal h = read_err machine (statements_read tokens) refusal h
