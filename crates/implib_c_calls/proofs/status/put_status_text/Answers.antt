use Rattle.std.proofs.Common.{arith}
use Rattle.implib_c_calls.proofs.Fill.{text_ended}
use Rattle.implib_c_calls.proofs.status.put_status_text.Goals as goal

pub returns-then-end-buffer-clause-text : goal.returns-then-end-buffer-clause-text
returns-then-end-buffer-clause-text c = grind (arith, text_ended, c.copy_from_slice.ensures.after, c.as_bytes.ensures.value, c.if-end-buffer.true, c.status_text-text.ensures.text)
