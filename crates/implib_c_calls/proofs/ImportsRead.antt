-- The rows of a library that is read.
use Rattle.std.proofs.Common.{arith, ◌≡◌, ℕ, All, List, Some, map}
use Rattle.std.proofs.lemmas.Simd.{map-map}
use Rattle.implib_read.specs.Classes.{library_in}
use Rattle.implib_read.specs.ClassViews.{member_read_view}
use Rattle.implib_read.specs.declared.class.MemberRead.{MemberRead}
use Rattle.implib_c_calls.specs.Given.{IsEncoding}
use Rattle.implib_c_calls.specs.Imports.{Fits, encoded_rows}
use Rattle.implib_c_calls.specs.ImportsAnswer.{EncodesImports, row_of_found}

-- the rows of its members are encoded
pub encodes_library : (library bytes : List ℕ) (members : List MemberRead) → Some (map member_read_view members) ≡ library_in library → IsEncoding encoded_rows (All Fits) (map row_of_found members) bytes → EncodesImports library bytes
encodes_library library bytes members is encodes = grind (arith, map, map-map)
