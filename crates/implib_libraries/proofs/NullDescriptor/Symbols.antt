-- The symbols of the two objects are texts of a byte or more, without a NUL.
use Rattle.std.proofs.Common.{◌≡◌, ℕ, ◌<◌, false, List, length, arith}
use Rattle.implib.specs.Import.{holds}
use Rattle.implib.specs.Members.MsvcObjects.{descriptor_symbol, null_thunk_symbol}
use Rattle.implib.proofs.Members.MsvcObjects.{holds-descriptor_symbol}
use Rattle.implib_libraries.specs.NullDescriptor.Named.{named_null_symbol}

pub holds-named_null_symbol : (library : List ℕ) → holds 0 library ≡ false → holds 0 (named_null_symbol library) ≡ false
unfolding named_null_symbol descriptor_symbol
holds-named_null_symbol library free = holds-descriptor_symbol library free

pub filled-named_null_symbol : (library : List ℕ) → 0 < length (named_null_symbol library)
unfolding named_null_symbol
filled-named_null_symbol library = omega arith

pub filled-descriptor_symbol : (library : List ℕ) → 0 < length (descriptor_symbol library)
unfolding descriptor_symbol
filled-descriptor_symbol library = omega arith

pub filled-null_thunk_symbol : (library : List ℕ) → 0 < length (null_thunk_symbol library)
unfolding null_thunk_symbol
filled-null_thunk_symbol library = omega arith
