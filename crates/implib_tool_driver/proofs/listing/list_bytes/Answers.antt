use Rattle.std.proofs.Common.{arith, refl, rules, ◌+◌, length}
use Rattle.std.proofs.lemmas.List.{take_all}
use Rattle.implib_tool_driver.specs.Listing.{byte_listing}
use Rattle.implib_tool_driver.proofs.Running.{passes_as, passes_more, passes_nothing}
use Rattle.implib_tool_driver.proofs.Shown.{lines_more, whole_line}
use Rattle.implib_tool_driver.proofs.listing.list_bytes.Goals as goal

pub loop-start-init : goal.loop-start-init
loop-start-init g c = record { within = search rules; first = refl; listed = passes_nothing _ }

pub loop-start-preserved : goal.loop-start-preserved
loop-start-preserved g c =
    let bytes = c.args.bytes.now in
    let start = c.loop-start.start in
    let more = lines_more (byte_listing (length bytes)) start (start + 16) bytes (search rules) (search rules) in
    let listed = passes_as _ _ _ _ (cc (whole_line bytes start c.loop-start.invariant.first (search rules), more)) (passes_more _ _ _ _ _ c.loop-start.invariant.listed c.list_whole_line.ensures) in
    record { within = search rules; first = omega (arith, c.loop-start.invariant.first); listed = listed }

pub returns-then-start-bytes : goal.returns-then-start-bytes
returns-then-start-bytes g c =
    let bytes = c.args.bytes.now in
    passes_as _ _ _ _ (cc (lines_more (byte_listing (length bytes)) c.loop-start.start (length bytes) bytes (search rules) (search rules), take_all (length bytes) bytes (omega arith)))
    (passes_more _ _ _ _ _ c.loop-start.invariant.listed c.list_line.ensures)
