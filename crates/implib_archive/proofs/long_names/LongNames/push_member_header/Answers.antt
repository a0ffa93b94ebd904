use Rattle.std.proofs.Common.{arith, ◌∙◌, ◌++◌, ap, codes, decimal, sym}
use Rattle.implib_archive.specs.Archive.{is_long}
use Rattle.implib_archive.specs.Parts.{header_bytes}
use Rattle.implib_archive.specs.Pushed.{shown}
use Rattle.implib_archive.proofs.Appended.{on_as}
use Rattle.implib_archive.proofs.Named.{label_with, name_field-long, name_field-short}
use Rattle.implib_archive.proofs.long_names.LongNames.push_member_header.Goals as goal

pub returns-then-is_long : goal.returns-then-is_long
returns-then-is_long c =
    let names = shown c.args.self.now.offsets.entries in
    let name = c.args.name.now in
    let long = sym (c.is_long.ensures ∙ ap is_long c.as_bytes.ensures.value) ∙ c.if-is_long.true in
    let text = ap (λ t. codes "/" ++ t) (c.as_bytes-offset.ensures.value ∙ c.format.ensures.text ∙ ap decimal c.offset_of.ensures) ∙ name_field-long names name long in
    on_as _ _ _ (ap (λ l. header_bytes l c.args.size) (label_with names name c.label_of.ensures text)) c.push_header.ensures

pub returns-else-is_long : goal.returns-else-is_long
returns-else-is_long c = grind (arith, name_field-short, on_as, label_with, c.is_long.ensures, c.as_bytes.ensures.value, c.if-is_long.false, c.as_bytes-else-is_long.ensures.value, c.label_of-else-is_long.ensures, c.push_header-else-is_long.ensures)
