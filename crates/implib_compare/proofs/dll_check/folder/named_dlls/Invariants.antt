use Rattle.std.proofs.Common.{◌≡◌, map, take}
use Rattle.implib_compare.specs.DllCheck.ForwardingViews.{known_view}
use Rattle.implib_compare.specs.DllCheck.Folders.{loaded_view}
use Rattle.implib_compare.proofs.dll_check.folder.named_dlls.Given as goal

abbrev pub invariant-loop-one : goal.invariant-loop-one
invariant-loop-one l = map known_view l.dlls.items ≡ map loaded_view (take l.one-index l.loaded)
