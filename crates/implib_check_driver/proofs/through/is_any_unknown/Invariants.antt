use Rattle.std.proofs.Common.{◌≡◌, drop, map}
use Rattle.std.specs.List.{list_any}
use Rattle.std.specs.Option.{option_map}
use Rattle.implib_compare.specs.DllCheck.Forwarding.{is_unknown}
use Rattle.implib_compare.specs.DllCheck.ForwardingViews.{end_view}
use Rattle.implib_check_driver.proofs.through.is_any_unknown.Given as goal

-- one of those that are left is unknown where one of all is
abbrev pub invariant-loop-end : goal.invariant-loop-end
invariant-loop-end l =
    list_any is_unknown (map (option_map end_view) (drop l.end-index l.ends)) ≡ list_any is_unknown (map (option_map end_view) l.ends)
