use Rattle.std.proofs.Common.{◌≡◌, drop, map}
use Rattle.implib_compare.specs.DllCheck.Forwarding.{known_in}
use Rattle.implib_compare.specs.DllCheck.ForwardingViews.{known_view}
use Rattle.implib_compare.proofs.dll_check.forwarder.in_named.Given as goal

-- the DLL is among those that are left
abbrev pub invariant-loop-dll : goal.invariant-loop-dll
invariant-loop-dll l =
    known_in (map known_view (drop l.dll-index l.beside.others.now)) l.name ≡ known_in (map known_view l.beside.others.now) l.name
