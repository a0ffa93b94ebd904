use Rattle.std.proofs.Common.{◌≡◌, ℕ, ◌*◌, ◌-◌, ◌/◌, Bool, length}
use Rattle.implib_dll.specs.Imports.{descriptor_count, first_end, is_null_descriptor}
use Rattle.implib_dll.proofs.imports.descriptor_count.Given as goal

abbrev pub invariant-loop-number : goal.invariant-loop-number
invariant-loop-number l =
    let ends : ℕ → Bool = λ number. is_null_descriptor l.table (20 * number) in
    first_end ends l.number (length l.table / 20 - l.number) ≡ descriptor_count l.table
