use Rattle.std.proofs.Common.{◌≡◌, ◌&&◌, drop}
use Rattle.std.specs.List.{list_all}
use Rattle.implib_tool_driver.specs.Listing.{is_plain}
use Rattle.implib_tool_driver.proofs.listing.are_plain.Given as goal

-- what was found, and what is found in the rest, is what is found in all
abbrev pub invariant-loop-byte : goal.invariant-loop-byte
invariant-loop-byte l = (l.plain && list_all is_plain (drop l.byte-index l.name)) ≡ list_all is_plain l.fn.name
