use Rattle.std.proofs.Common.{◌≡◌, length}
use Rattle.implib_tool_driver.proofs.Running.{passes_as, passes_more}
use Rattle.implib_tool_driver.proofs.Shown.{head_joined}
use Rattle.implib_tool_driver.proofs.listing.list_member.Goals as goal

pub returns : goal.returns
returns g c =
    let whole = passes_more _ _ _ _ _ c.list_head.ensures (passes_more _ _ _ _ _ c.list_symbols.ensures c.list_bytes.ensures) in
    let count : c.len.result ≡ length c.args.member.now.bytes.items = cc (c.len.ensures, c.as_slice-2.ensures.len, c.as_slice-2.ensures.value) in
    passes_as _ _ _ _ (head_joined _ _ _) (rw (c.as_str.ensures.value, count, c.as_slice.ensures.value, c.as_slice-2.ensures.value) at whole)
