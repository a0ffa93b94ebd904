use Rattle.std.proofs.Common.{◌≡◌, ℕ, ◌*◌, ◌-◌, ◌/◌, Bool, length}
use Rattle.implib_dll.specs.Imports.{first_end, is_null_thunk, thunk_count, thunk_size}
use Rattle.implib_dll.proofs.imports.thunk_count.Given as goal

abbrev pub invariant-loop-number : goal.invariant-loop-number
invariant-loop-number l =
    let ends : ℕ → Bool = λ number. is_null_thunk l.is_pe32_plus l.table (thunk_size l.is_pe32_plus * number) in
    first_end ends l.number (length l.table / thunk_size l.is_pe32_plus - l.number) ≡ thunk_count l.is_pe32_plus l.table
