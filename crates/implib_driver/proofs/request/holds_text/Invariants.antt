use Rattle.std.proofs.Common.{◌≡◌, drop}
use Rattle.implib_driver.specs.Request.{holds_text}
use Rattle.implib_driver.proofs.request.holds_text.Given as goal

abbrev pub invariant-loop-start : goal.invariant-loop-start
invariant-loop-start l = holds_text l.name l.text ≡ holds_text (drop l.start l.name) l.text
