use Rattle.std.proofs.Common.{◌≡◌, ◌≢◌, ◌⊎◌, inl, inr, map, refl, rules, Ok, true}
use Rattle.implib.specs.declared.def.lexer.TokenKind.{TokenKind}
use Rattle.implib.specs.declared.def.lexer.TokenKind.TheVariants.{Eof, KwExports, KwHeapsize, KwLibrary, KwName, KwStacksize, KwVersion}
use Rattle.implib.specs.Definition.{definition_view, export_view}
use Rattle.implib.specs.Text.Grammar.{Heap, Stack}
use Rattle.implib.specs.Text.Token.{token_view}
use Rattle.implib.specs.Views.Hearing.{HearsOthers}
use Rattle.implib.specs.Views.Parser.{one_put}
use Rattle.implib.specs.Views.TokenReader.{statement_read, with_statement}
use Rattle.implib.proofs.Text.HeardSteps.{exports_hears, other_hears, statement_hears_end, statement_hears_eof}
use Rattle.implib.proofs.Text.ParserSteps.{exports_reads, name_reads, sizes_reads, taken, version_reads}
use Rattle.implib.proofs.Text.TokenKinds.{not_at}
use Rattle.implib.proofs.def.parser.tokens.Tokens.statement.Goals as goal
use Rattle.implib.proofs.def.parser.tokens.Tokens.statement.Goals.{in-KwExports+in_ok-exports-in-KwExports, in-KwHeapsize+in_ok-reserve-in-KwHeapsize, in-KwStacksize+in_ok-reserve-in-KwStacksize, in-KwName+in_ok-set_name-in-KwName, in-KwVersion+in_ok-major-in-KwVersion}

pub returns-clause-read : goal.returns-clause-read
returns-clause-read g c =
    let d = definition_view c.args.def.now in
    let token = token_view c.in-Some.token in
    let starts = taken c.args.self.now c.in-Some.token c.advance.result c.advance.new.self c.in-Some.ensures.first (rw c.in-Some.ensures.unchanged at c.advance.ensures.first) in
    elim c.match-token.branch [
      | in-KwExports+in_ok-exports-in-KwExports w ↦ rw (w.def-is, w.self-is)
          (exports_reads c.args.machine d c.args.self.now token c.advance.new.self (map export_view w.exports.new.exports.items) w.exports.new.self starts w.in-KwExports.is w.in_ok-exports-in-KwExports.ensures.read)
      | in-KwHeapsize+in_ok-reserve-in-KwHeapsize w ↦ rw (w.def-is, w.self-is, w.unwrap_or-def.ensures)
          (sizes_reads Heap c.args.machine d c.args.self.now token c.advance.new.self w.sizes.new.self (w.in_ok-reserve-in-KwHeapsize.reserve, w.in_ok-reserve-in-KwHeapsize.commit) starts w.in-KwHeapsize.is w.in_ok-reserve-in-KwHeapsize.ensures.read)
      | in-KwStacksize+in_ok-reserve-in-KwStacksize w ↦ rw (w.def-is, w.self-is, w.unwrap_or-def-in-KwStacksize.ensures)
          (sizes_reads Stack c.args.machine d c.args.self.now token c.advance.new.self w.sizes-in-KwStacksize.new.self (w.in_ok-reserve-in-KwStacksize.reserve, w.in_ok-reserve-in-KwStacksize.commit) starts w.in-KwStacksize.is w.in_ok-reserve-in-KwStacksize.ensures.read)
      | in-KwName+in_ok-set_name-in-KwName w ↦ rw (w.def-is, w.self-is)
          (name_reads c.args.machine d c.args.self.now token c.advance.new.self (definition_view w.set_name.new.def) w.set_name.new.self starts w.in-KwName.is w.in_ok-set_name-in-KwName.ensures.read)
      | in-KwVersion+in_ok-major-in-KwVersion w ↦ rw (w.def-is, w.self-is)
          (version_reads c.args.machine d c.args.self.now token c.advance.new.self w.version.new.self (w.in_ok-major-in-KwVersion.major, w.in_ok-major-in-KwVersion.minor) starts w.in-KwVersion.is w.in_ok-major-in-KwVersion.ensures.read)
    ]

pub returns-clause-heard : goal.returns-clause-heard
returns-clause-heard g c = λ start.
    let before = g.L.Listener.has_heard start c.args.listener.now in
    let begun = g.L.Listener.has_heard start c.advance.new.listener in
    let tokens = c.args.self.now in
    let token = token_view c.in-Some.token in
    let after = c.advance.new.self in
    let starts = taken tokens c.in-Some.token c.advance.result after c.in-Some.ensures.first (rw c.in-Some.ensures.unchanged at c.advance.ensures.first) in
    let begins : HearsOthers before tokens begun after = rw c.in-Some.ensures.unchanged at c.advance.ensures.heard start in
    let d = definition_view c.args.def.now in
    let e = definition_view c.match-token.def in
    let put : one_put (with_statement c.args.machine) d (statement_read tokens) ≡ Ok (true, e, c.match-token.self) = returns-clause-read g c in
    elim c.match-token.branch [
      | in-KwExports+in_ok-exports-in-KwExports w ↦ rw w.listener-is
          (exports_hears c.args.machine d e before (g.L.Listener.has_heard start w.exports.new.listener) tokens token after w.exports.new.self starts (rw w.self-is at put) begun w.in-KwExports.is begins (w.in_ok-exports-in-KwExports.ensures.heard start))
      | in-KwHeapsize+in_ok-reserve-in-KwHeapsize w ↦ rw w.listener-is
          (other_hears c.args.machine d e before (g.L.Listener.has_heard start w.sizes.new.listener) tokens token after w.sizes.new.self starts (rw w.self-is at put) (not_at token.kind KwHeapsize KwExports w.in-KwHeapsize.is refl) (λ total t. w.sizes.ensures.heard start total (begins total t)))
      | in-KwStacksize+in_ok-reserve-in-KwStacksize w ↦ rw w.listener-is
          (other_hears c.args.machine d e before (g.L.Listener.has_heard start w.sizes-in-KwStacksize.new.listener) tokens token after w.sizes-in-KwStacksize.new.self starts (rw w.self-is at put) (not_at token.kind KwStacksize KwExports w.in-KwStacksize.is refl) (λ total t. w.sizes-in-KwStacksize.ensures.heard start total (begins total t)))
      | in-KwName+in_ok-set_name-in-KwName w ↦ rw w.listener-is
          (other_hears c.args.machine d e before (g.L.Listener.has_heard start w.set_name.new.listener) tokens token after w.set_name.new.self starts (rw w.self-is at put) (no_exports token.kind w.in-KwName.is) (λ total t. w.set_name.ensures.heard start total (begins total t)))
      | in-KwVersion+in_ok-major-in-KwVersion w ↦ rw w.listener-is
          (other_hears c.args.machine d e before (g.L.Listener.has_heard start w.version.new.listener) tokens token after w.version.new.self starts (rw w.self-is at put) (not_at token.kind KwVersion KwExports w.in-KwVersion.is refl) (λ total t. w.version.ensures.heard start total (begins total t)))
    ]
  where
    no_exports : (kind : TokenKind) → (kind ≡ KwName) ⊎ (kind ≡ KwLibrary) → kind ≢ KwExports
    no_exports kind (inl is) = not_at kind KwName KwExports is refl
    no_exports kind (inr is) = not_at kind KwLibrary KwExports is refl

pub returns-in_default-clause-heard : goal.returns-in_default-clause-heard
returns-in_default-clause-heard g c = λ start. statement_hears_end (g.L.Listener.has_heard start c.args.listener.now) c.args.self.now c.in_default.ensures.first

pub returns-then-eq-clause-heard : goal.returns-then-eq-clause-heard
returns-then-eq-clause-heard g c = λ start.
    let kind : c.in-Some.token.kind ≡ Eof = search rules in
    statement_hears_eof (g.L.Listener.has_heard start c.args.listener.now) c.args.self.now (token_view c.in-Some.token) c.in-Some.ensures.first.0 c.in-Some.ensures.first.1 kind
