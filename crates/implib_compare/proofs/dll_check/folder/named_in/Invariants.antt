use Rattle.std.proofs.Common.{◌≡◌, drop, map}
use Rattle.std.specs.List.{find}
use Rattle.std.specs.String.{string_bytes}
use Rattle.implib_compare.specs.DllCheck.Folders.{is_file_of}
use Rattle.implib_compare.proofs.dll_check.folder.named_in.Given as goal

-- the file is among those that are left
abbrev pub invariant-loop-name : goal.invariant-loop-name
invariant-loop-name l =
    find (is_file_of l.known) (map string_bytes (drop l.name-index l.names)) ≡ find (is_file_of l.known) (map string_bytes l.names)
