use Rattle.std.proofs.Common.{◌≡◌, ◌∙◌, ap, false, length, map, nat_lt, refl, sym, true}
use Rattle.std.proofs.lemmas.Bool.{le-ltb, lt-ltb}
use Rattle.implib.specs.Formats.Layout.{InStringTable}
use Rattle.implib.proofs.Formats.LongNames.{insert_key_text, name_location-long, name_location-short, position_key, with_long_name-long, with_long_name-short}
use Rattle.implib.proofs.coff.writer.name_of.Goals as goal

pub returns-in_ok-index-clause-strings : goal.returns-in_ok-index-clause-strings
returns-in_ok-index-clause-strings c =
    let long : nat_lt 8 (length c.args.text.now) ≡ true = lt-ltb 8 (length c.args.text.now) c.if-text-gt-LONGEST_IN_RECORD.true in
    ap (map (λ t. t.now)) c.in_ok-index.ensures.keys
    ∙ (insert_key_text c.args.text _ (λ x. refl) c.args.strings.now.keys
    ∙ sym (with_long_name-long (map (λ t. t.now) c.args.strings.now.keys) c.args.text.now long))

pub returns-in_ok-index-clause-name : goal.returns-in_ok-index-clause-name
returns-in_ok-index-clause-name c =
    let long : nat_lt 8 (length c.args.text.now) ≡ true = lt-ltb 8 (length c.args.text.now) c.if-text-gt-LONGEST_IN_RECORD.true in
    rw (
      ap (map (λ t. t.now)) c.in_ok-index.ensures.keys,
      insert_key_text c.args.text _ (λ x. refl) c.args.strings.now.keys,
      ← with_long_name-long (map (λ t. t.now) c.args.strings.now.keys) c.args.text.now long,
      name_location-long (map (λ t. t.now) c.args.strings.now.keys) c.args.text.now long,
    )
    (ap InStringTable (c.in_ok-index.ensures.index ∙ position_key c.args.text _ (λ x. refl) c.args.strings.now.keys))

pub returns-else-text-gt-LONGEST_IN_RECORD-clause-strings : goal.returns-else-text-gt-LONGEST_IN_RECORD-clause-strings
returns-else-text-gt-LONGEST_IN_RECORD-clause-strings c =
    let short : nat_lt 8 (length c.args.text.now) ≡ false = le-ltb 8 (length c.args.text.now) c.if-text-gt-LONGEST_IN_RECORD.false in
    sym (with_long_name-short (map (λ t. t.now) c.args.strings.now.keys) c.args.text.now short)

pub returns-else-text-gt-LONGEST_IN_RECORD-clause-name : goal.returns-else-text-gt-LONGEST_IN_RECORD-clause-name
returns-else-text-gt-LONGEST_IN_RECORD-clause-name c =
    let short : nat_lt 8 (length c.args.text.now) ≡ false = le-ltb 8 (length c.args.text.now) c.if-text-gt-LONGEST_IN_RECORD.false in
    sym (name_location-short (map (λ t. t.now) c.args.strings.now.keys) c.args.text.now short)
