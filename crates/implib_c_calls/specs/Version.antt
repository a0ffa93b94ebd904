-- The version of the functions for C (this project's choice): the number of include/implib.h, which
-- grows with every change of the functions, their statuses and what these say.
use Rattle.std.specs.Prelude.{ℕ}

-- the version
abbrev pub version : ℕ
version = 14
