use Rattle.std.proofs.Common.{◌≡◌, ◌∙◌, ℕ, ◌-◌, ap, arith, drop, length, take}
use Rattle.std.specs.List.{fold}
use Rattle.std.proofs.lemmas.List.{drop_min, take_min}
use Rattle.implib.specs.declared.def.position.Position.{Position}
use Rattle.implib.specs.Text.Position.{after_byte, line_and_column, position_at}
use Rattle.implib.proofs.Text.Advanced.{advanced_to, column_within, left, left_shorter, line_within, take_shorter, whole_rest}
use Rattle.implib.proofs.def.position.Position.advanced.Goals as goal

pub overflow_add-line : goal.overflow_add-line
overflow_add-line c =
    let at : c.args.self.line ≡ (position_at c.args.bytes.now c.args.self.offset).line = ap (λ p. p.line) c.requires.at in
    let below = line_within c.args.bytes.now c.args.self.offset in
    let front = take c.min.result c.args.bytes.now in
    let fewer = left_shorter front c.min-2.result in
    let shorter = take_shorter c.min.result c.args.bytes.now in
    let here = c.loop-byte.invariant.lines in
    let test = c.loop-byte-test.true in
    omega (arith, at, below, fewer, shorter, here, test)

pub overflow_add-column : goal.overflow_add-column
overflow_add-column c =
    let at : c.args.self.column ≡ (position_at c.args.bytes.now c.args.self.offset).column = ap (λ p. p.column) c.requires.at in
    let below = column_within c.args.bytes.now c.args.self.offset in
    let front = take c.min.result c.args.bytes.now in
    let fewer = left_shorter front c.min-2.result in
    let shorter = take_shorter c.min.result c.args.bytes.now in
    let here = c.loop-byte.invariant.columns in
    let test = c.loop-byte-test.true in
    omega (arith, at, below, fewer, shorter, here, test)

abbrev position_of : ℕ → ℕ × ℕ → Position
position_of offset place = record { offset = offset; line = place.0; column = place.1 }

pub returns : goal.returns
returns c =
    let text = c.args.bytes.now in
    let from = c.args.self in
    let front = take c.min.result text in
    let rest = take (length front - c.min-2.result) (drop c.min-2.result front) in
    let front_is : front ≡ take c.args.offset text = ap (λ n. take n text) c.min.ensures ∙ take_min c.args.offset text in
    let rest_is : rest ≡ drop from.offset front =
    left front c.min-2.result ∙ ap (λ n. drop n front) c.min-2.ensures ∙ drop_min from.offset front in
    let start : (from.line, from.column) ≡ line_and_column (take from.offset text) = ap (λ p. (p.line, p.column)) c.requires.at in
    ap (position_of c.args.offset)
    (c.loop-byte.invariant.place
    ∙ ap (fold after_byte (from.line, from.column)) (whole_rest c.loop-byte.byte-index rest c.loop-byte-test.false)
    ∙ ap (λ s. fold after_byte s rest) start
    ∙ advanced_to text front rest from.offset c.args.offset c.requires.order front_is rest_is)
