use Rattle.std.proofs.Common.{◌≡◌, ◌∙◌, ◌+◌, ◌-◌, ◌<◌, ◌||◌, List, ℕ, ap, sym, suc, length, drop, take, false, add-one}
use Rattle.std.proofs.Math.Seq.{drop-cons, take-length}
use Rattle.std.proofs.lemmas.List.{length-drop}
use Rattle.implib_driver.specs.Request.{begins_with, holds_text}
use Rattle.implib_driver.proofs.request.holds_text.Goals as goal

-- a text that does not begin at a place is within what follows, or nowhere
passed : (name text : List ℕ) (place : ℕ) → place < length name → begins_with (drop place name) text ≡ false
    → holds_text (drop place name) text ≡ holds_text (drop (place + 1) name) text
passed name text place below none =
    let split = drop-cons name place 0 below in
    ap (λ l. holds_text l text) split
    ∙ ap (λ b. b || holds_text (drop (suc place) name) text) (ap (λ l. begins_with l text) (sym split) ∙ none)
    ∙ ap (λ n. holds_text (drop n name) text) (sym (add-one place))

-- all that follows a place
whole : (name : List ℕ) (place : ℕ) → take (length name - place) (drop place name) ≡ drop place name
whole name place = ap (λ n. take n (drop place name)) (sym (length-drop place name)) ∙ take-length (drop place name)

pub loop-start-preserved : goal.loop-start-preserved
loop-start-preserved c =
    c.loop-start.invariant
    ∙ passed c.args.name.now c.args.text.now c.loop-start.start c.loop-start-test.true
    (ap (λ l. begins_with l c.args.text.now) (sym (whole c.args.name.now c.loop-start.start)) ∙ sym c.starts_with.ensures.value ∙ c.if-starts_with.false)
