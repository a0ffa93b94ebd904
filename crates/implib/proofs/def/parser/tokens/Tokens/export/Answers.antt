use Rattle.std.proofs.Common.{◌≡◌, ◌++◌, ◌∷◌, [], map}
use Rattle.std.proofs.lemmas.List.{map_push}
use Rattle.implib.specs.Definition.{export_view}
use Rattle.implib.specs.Views.Parser.{value_of, with_export}
use Rattle.implib.specs.Views.TokenReader.{export_read}
use Rattle.implib.specs.Text.Token.{token_view}
use Rattle.implib.proofs.Text.HeardSteps.{export_hears, export_hears_end, export_hears_other, item_of}
use Rattle.implib.proofs.Text.ParserSteps.{export_reads, taken}
use Rattle.implib.proofs.def.parser.tokens.Tokens.export.Goals as goal

pub returns-in_ok-push-in-Identifier-clause-read : goal.returns-in_ok-push-in-Identifier-clause-read
returns-in_ok-push-in-Identifier-clause-read g c =
    let token = c.in-Some.token in
    let pushed : map export_view c.push.new.self.items ≡ map export_view c.args.exports.now.items ++ export_view c.attributes.new.export ∷ [] = rw c.in_ok-push-in-Identifier.ensures.items (map_push export_view c.args.exports.now.items c.attributes.new.export) in
    let starts = taken c.args.self.now token c.take.result c.take.new.self c.in-Some.ensures.first (rw c.in-Some.ensures.unchanged at c.take.ensures) in
    rw pushed (export_reads c.args.machine (map export_view c.args.exports.now.items) c.args.self.now (token_view token) c.take.new.self c.target.new.self c.attributes.new.self (value_of c.in_ok-target-in-Identifier.target) (export_view c.attributes.new.export)
    starts c.in-Identifier.is c.in_ok-target-in-Identifier.ensures.read (rw c.in_ok-export-in-Identifier.ensures at c.in_ok-attributes-in-Identifier.ensures.read))

pub returns-in_ok-push-in-Identifier-clause-heard : goal.returns-in_ok-push-in-Identifier-clause-heard
returns-in_ok-push-in-Identifier-clause-heard g c = λ start.
    let token = c.in-Some.token in
    let exports = map export_view c.args.exports.now.items in
    let starts = taken c.args.self.now token c.take.result c.take.new.self c.in-Some.ensures.first (rw c.in-Some.ensures.unchanged at c.take.ensures) in
    let found = item_of (with_export c.args.machine) exports _ _ (export_read c.args.self.now) (returns-in_ok-push-in-Identifier-clause-read g c) in
    export_hears (g.L.Listener.has_heard start c.args.listener.now) (g.L.Listener.has_heard start c.hear.new.self) (g.L.Listener.has_heard start c.attributes.new.listener) c.args.self.now (token_view token) c.take.new.self c.attributes.new.self found.0 starts found.1
    (c.hear.ensures start) (λ total t. c.attributes.ensures.heard start total (c.target.ensures.heard start total t))

pub returns-in_default-clause-heard : goal.returns-in_default-clause-heard
returns-in_default-clause-heard g c = λ start. export_hears_end (g.L.Listener.has_heard start c.args.listener.now) c.args.self.now c.in_default.ensures.first

pub returns-in_default-kind-clause-heard : goal.returns-in_default-kind-clause-heard
returns-in_default-kind-clause-heard g c = λ start.
    export_hears_other (g.L.Listener.has_heard start c.args.listener.now) c.args.self.now (token_view c.in-Some.token) c.in-Some.ensures.first.0 c.in-Some.ensures.first.1 c.in_default-kind.not-Identifier
