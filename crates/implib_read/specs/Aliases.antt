-- Weak externals.
use Rattle.std.specs.Prelude.{◌==◌, Option, Some, None, if◌then◌else◌}
use Rattle.implib.specs.Formats.Constants.{class_weak_external}
use Rattle.implib.specs.Formats.Object.{Entry, ASymbol, Auxiliary, ObjectSymbol}

-- the weak external that an entry is
abbrev pub weak_symbol : Entry → Option ObjectSymbol
weak_symbol (ASymbol s) = if s.class == class_weak_external then Some s else None
weak_symbol (Auxiliary bytes) = None
