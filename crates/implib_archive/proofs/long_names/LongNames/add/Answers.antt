use Rattle.std.proofs.Common.{◌∙◌, ◌+◌, ap, arith, length, refl, sym, is_some}
use Rattle.implib_archive.specs.Archive.{is_long}
use Rattle.implib_archive.specs.Pushed.{shown}
use Rattle.implib_archive.proofs.Listed.{inserted_new, listed_key}
use Rattle.implib_archive.proofs.Named.{measured_long, measured_more, measured_same, offset_found, with_name-found, with_name-short}
use Rattle.implib_archive.proofs.long_names.LongNames.add.Goals as goal

pub returns-then-self : goal.returns-then-self
returns-then-self c = λ names m. measured_long c.args.kind names c.args.name.now c.if-self.true m

pub returns-then-not-is_long : goal.returns-then-not-is_long
returns-then-not-is_long c = λ names m. grind (arith, measured_same, with_name-short, c.is_long.ensures, c.as_bytes.ensures.value, c.if-not-is_long.true)

pub returns-then-contains_key : goal.returns-then-contains_key
returns-then-contains_key c = λ names m. grind (arith, is_some, offset_found, measured_same, with_name-found, c.contains_key.ensures, c.if-contains_key.true, c.if-self.false)

pub returns : goal.returns
returns c = λ names m.
    let entries = c.args.self.now.offsets.entries in
    let absent = sym (listed_key c.args.name _ (λ x. refl) entries) ∙ (sym c.contains_key.ensures ∙ c.if-contains_key.false) in
    let new = ap is_some (sym (offset_found c.args.name _ (λ x. refl) entries)) ∙ (sym c.contains_key.ensures ∙ c.if-contains_key.false) in
    let long = sym (c.is_long.ensures ∙ ap is_long c.as_bytes.ensures.value) ∙ c.if-not-is_long.false in
    measured_more c.args.kind names c.args.name.now (omega (arith, c.if-self.false)) long new
    (ap shown c.in_ok-insert.ensures.entries ∙ inserted_new c.args.name c.args.self.now.size _ (λ x. refl) entries absent)
    (ap (λ t. c.args.self.now.size + (length c.args.name.now + length t)) c.name_end.ensures.value) m
