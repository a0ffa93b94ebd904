use Rattle.std.proofs.Common.{◌≡◌, ◌^◌, ◌∙◌, ap, arith, false, is_some, length, nat_lt, refl, sym, true}
use Rattle.std.proofs.lemmas.Bool.{le-ltb, lt-ltb}
use Rattle.implib_archive.specs.Refusal.{member_refusal, name_refusal}
use Rattle.implib_archive.specs.Sources.{member_at}
use Rattle.implib_archive.proofs.refusal.member_refusal.Goals as goal

pub returns-then-is_some : goal.returns-then-is_some
unfolding member_refusal
returns-then-is_some g c = grind (arith, is_some, c.name_refusal-of_name.ensures, c.as_bytes.ensures.value, c.name.ensures, c.is_some.ensures, c.if-is_some.true)

pub returns-then-is_some-2 : goal.returns-then-is_some-2
unfolding member_refusal
returns-then-is_some-2 g c = grind (arith, is_some, c.name_refusal-of_name.ensures, c.as_bytes.ensures.value, c.name.ensures, c.is_some.ensures, c.if-is_some.false, c.symbols_refusal-of_symbols.ensures, c.is_some-2.ensures, c.if-is_some-2.true)

pub returns-then-size : goal.returns-then-size
unfolding member_refusal
returns-then-size g c =
    let of_name = c.name_refusal-of_name.ensures ∙ ap (name_refusal c.args.kind) (c.as_bytes.ensures.value ∙ c.name.ensures) in
    let passed = sym (ap is_some of_name) ∙ (sym c.is_some.ensures ∙ c.if-is_some.false) in
    let of_symbols = c.symbols_refusal-of_symbols.ensures in
    let passed_too = sym (ap is_some of_symbols) ∙ (sym c.is_some-2.ensures ∙ c.if-is_some-2.false) in
    let long : nat_lt (length (member_at (g.S.Members.members c.args.source.now) c.args.index).bytes) (2 ^ 32) ≡ false = le-ltb _ _ (omega (arith, c.size.ensures)) in
    rw (passed, passed_too, long) refl

pub returns : goal.returns
unfolding member_refusal
returns g c =
    let of_name = c.name_refusal-of_name.ensures ∙ ap (name_refusal c.args.kind) (c.as_bytes.ensures.value ∙ c.name.ensures) in
    let passed = sym (ap is_some of_name) ∙ (sym c.is_some.ensures ∙ c.if-is_some.false) in
    let of_symbols = c.symbols_refusal-of_symbols.ensures in
    let passed_too = sym (ap is_some of_symbols) ∙ (sym c.is_some-2.ensures ∙ c.if-is_some-2.false) in
    let short : nat_lt (length (member_at (g.S.Members.members c.args.source.now) c.args.index).bytes) (2 ^ 32) ≡ true = lt-ltb _ _ (omega (arith, c.size.ensures)) in
    rw (passed, passed_too, short) refl
