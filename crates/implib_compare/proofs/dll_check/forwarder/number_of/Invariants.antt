use Rattle.std.proofs.Common.{◌≡◌, ◌%◌, ◌^◌, drop, fold, take_while}
use Rattle.implib_compare.specs.DllCheck.Forwarding.{is_digit, number_of, with_digit}
use Rattle.implib_compare.proofs.dll_check.forwarder.number_of.Given as goal

-- the number so far, with the digits that are left, is that of all
abbrev pub invariant-loop-byte : goal.invariant-loop-byte
invariant-loop-byte l =
    fold with_digit l.number (take_while is_digit (drop l.byte-index l.text)) % 2 ^ 32 ≡ number_of l.text % 2 ^ 32
