-- What imports of a library come to in a DLL, worked by hand, with their encodings byte by byte,
-- and buffers that are read. The DLL is for I386, is called `w.dll` in its export directory, and
-- exports `alpha` and `beta` at ordinal 5, a variable at 6, nothing at 7, `gamma`, a forwarder, at
-- 8, and a function at 9.
use Rattle.std.specs.Prelude.{◌≡◌, ℕ, List, [], ◌∷◌, ◌++◌, None, codes}
use Rattle.implib.specs.Import.{Ask, Name, Ordinal}
use Rattle.implib.specs.Worked.Digits.{hex}
use Rattle.implib_dll.specs.WorkedFiles.{worked_exports}
use Rattle.implib_read.specs.Classes.{AnImport, Class, Descriptor, MemberRead}
use Rattle.implib_read.specs.declared.import.ImportKind.TheVariants.{Code}
use Rattle.implib_c_calls.specs.DllCheck.{DllTold, dll_told, dll_told_in, encoded_dll_told}

-- a member
abbrev pub member_of : Class → MemberRead
member_of class = record { name = codes "m"; offset = 8; class = class }

-- a function of a DLL, for a machine
abbrev pub function_of : List ℕ → Ask → ℕ → MemberRead
function_of dll ask machine = member_of (AnImport (record {
  imports = record { dll = dll; declared = []; ask = ask };
  kind = Code;
  machine = machine;
}))

-- a descriptor, and functions: one at its hint, one at another, of another DLL, for another
-- machine, of no export, and where the DLL has a variable
abbrev pub members : List MemberRead
members =
    member_of Descriptor
    ∷ function_of (codes "W.DLL") (Name (codes "alpha") 0) 0x14C
    ∷ function_of (codes "w") (Name (codes "beta") 0) 0x14C
    ∷ function_of (codes "v.dll") (Ordinal 9) 0x14C
    ∷ function_of (codes "w.dll") (Ordinal 8) 0x8664
    ∷ function_of (codes "w.dll") (Ordinal 7) 0x14C
    ∷ function_of (codes "w.dll") (Ordinal 6) 0x14C
    ∷ []

-- what is told of them: of the fifth index no import asks
abbrev pub worked_told : DllTold
worked_told = record { members = 0 ∷ 1 ∷ 2 ∷ 3 ∷ 4 ∷ 5 ∷ 6 ∷ []; unasked = 4 ∷ [] }

-- what is told of one member and two indexes, and its encoding
abbrev pub small_told : DllTold
small_told = record { members = 5 ∷ []; unasked = 0 ∷ 0x1234 ∷ [] }

unfoldable pub small_told_bytes : List ℕ
small_told_bytes =
    hex "01 00 00 00 00 00 00 00 05 00 00 00 00 00 00 00"
    ++ (hex "02 00 00 00 00 00 00 00"
    ++ hex "00 00 00 00 00 00 00 00 34 12 00 00 00 00 00 00")

-- what is told, the numbers of what members come to, and the names of DLLs
pub record WorkedDllTold : Type 0 where
  pub told : dll_told worked_exports [] members ≡ worked_told
  -- by another name no import is of the DLL, but one that was of no other
  pub renamed : dll_told worked_exports (codes "V") members
      ≡ record { members = 0 ∷ 3 ∷ 3 ∷ 1 ∷ 3 ∷ 3 ∷ 3 ∷ []; unasked = 0 ∷ 1 ∷ 3 ∷ [] }

-- the encodings, and what is read of bytes that are none
pub record WorkedDllToldBytes : Type 0 where
  pub small : encoded_dll_told small_told ≡ small_told_bytes
  pub none_read : dll_told_in (hex "01 00 00 00 00 00 00 00 05 00 00 00 00 00 00 00") ≡ None

-- all of them
pub record WorkedDllChecks : Type 0 where
  pub told : WorkedDllTold
  pub bytes : WorkedDllToldBytes
