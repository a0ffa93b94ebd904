use Rattle.std.proofs.Common.{◌∙◌, ap, map, refl}
use Rattle.implib.specs.Formats.Writer.{with_name}
use Rattle.implib.proofs.Formats.LongNames.{insert_key_text}
use Rattle.implib_read.proofs.identity.add_name.Goals as goal

pub returns : goal.returns
unfolding with_name
returns c = ap (map (λ t. t.now)) c.in_ok-insert.ensures.keys ∙ insert_key_text c.args.name _ (λ x. refl) c.args.names.now.keys
