-- Whether libraries work, worked by hand.
use Rattle.std.specs.Prelude.{◌≡◌, ℕ, true, false, List, [], ◌∷◌, None, Some, codes}
use Rattle.implib.specs.declared.flavor.Flavor.TheVariants.{Gnu}
use Rattle.implib_read.specs.Archives.{Part, StoredMember}
use Rattle.implib_read.specs.Classes.{Head}
use Rattle.implib_read.specs.MemberNames.{LinkerMember, LongNamesMember, MemberName, Named}
use Rattle.implib_compare.specs.declared.working.Working.TheVariants.{Broken, NotDecided, Works}
use Rattle.implib_compare.specs.Working.{both_work, first_misleads, has_whole_tables, linker_member}
use Rattle.implib_compare.specs.Working.{misled, second_misleads}
use Rattle.implib_compare.specs.Working.{works_of}
use Rattle.implib_compare.specs.Worked.{member}

-- a part with one byte of data
abbrev pub part : MemberName → ℕ → Part
part name byte = record { offset = 8; name = name; contents = byte ∷ [] }

-- the front of an archive: two linker members, long names, and a member
abbrev pub front : List Part
front = part LinkerMember 1 ∷ part LinkerMember 2 ∷ part LongNamesMember 3
    ∷ part (Named (codes "a.o")) 4 ∷ []

-- A short import of `f` from d.dll, by its name, on AMD64, and its header at 0x48. It declares
-- `__imp_f` and `f`.
abbrev pub short_import : List StoredMember
short_import = record {
  name = codes "d.dll";
  offset = 0x48;
  bytes = 0 ∷ 0 ∷ 0xFF ∷ 0xFF ∷ 0 ∷ 0 ∷ 0x64 ∷ 0x86 ∷ 0 ∷ 0 ∷ 0 ∷ 0 ∷ 8 ∷ 0 ∷ 0 ∷ 0 ∷ 0 ∷ 0 ∷ 4 ∷ 0 ∷ codes "f\0d.dll\0";
} ∷ []

-- Which data the linker members have, where indexes mislead, and which libraries work.
pub record WorkedWorking : Type 0 where
  pub first : linker_member 0 front ≡ Some (1 ∷ [])
  pub second : linker_member 1 front ≡ Some (2 ∷ [])
  pub third : linker_member 2 front ≡ None
  -- `g` misleads, which nothing declares
  pub undeclared : first_misleads short_import (0 ∷ 0 ∷ 0 ∷ 1 ∷ 0 ∷ 0 ∷ 0 ∷ 0x48 ∷ codes "g\0") ≡ Some (record { symbol = codes "g"; place = 0x48 } ∷ [])
  -- a second entry of `f` is passed over, but not where the first misleads; `g` has a first entry
  -- of its own
  pub passed_over : first_misleads short_import (0 ∷ 0 ∷ 0 ∷ 2 ∷ 0 ∷ 0 ∷ 0 ∷ 0x48 ∷ 0 ∷ 0 ∷ 0 ∷ 0x49 ∷ codes "f\0f\0") ≡ Some []
  pub first_counts : first_misleads short_import (0 ∷ 0 ∷ 0 ∷ 2 ∷ 0 ∷ 0 ∷ 0 ∷ 0x49 ∷ 0 ∷ 0 ∷ 0 ∷ 0x48 ∷ codes "f\0f\0")
      ≡ Some (record { symbol = codes "f"; place = 0x49 } ∷ [])
  pub other_symbol : first_misleads short_import (0 ∷ 0 ∷ 0 ∷ 2 ∷ 0 ∷ 0 ∷ 0 ∷ 0x48 ∷ 0 ∷ 0 ∷ 0 ∷ 0x48 ∷ codes "f\0g\0")
      ≡ Some (record { symbol = codes "g"; place = 0x48 } ∷ [])
  pub second_passed_over : second_misleads short_import (1 ∷ 0 ∷ 0 ∷ 0 ∷ 0x48 ∷ 0 ∷ 0 ∷ 0 ∷ 2 ∷ 0 ∷ 0 ∷ 0 ∷ 1 ∷ 0 ∷ 2 ∷ 0 ∷ codes "f\0f\0") ≡ Some []
  pub second_counts : second_misleads short_import (1 ∷ 0 ∷ 0 ∷ 0 ∷ 0x48 ∷ 0 ∷ 0 ∷ 0 ∷ 2 ∷ 0 ∷ 0 ∷ 0 ∷ 2 ∷ 0 ∷ 1 ∷ 0 ∷ codes "f\0f\0")
      ≡ Some (record { symbol = codes "f"; place = 0 } ∷ [])
  -- indexes mislead without a first one
  pub no_first_index : misled None (Some (Some [])) ≡ true
  -- import tables
  pub no_tail : has_whole_tables Gnu (member Head ∷ []) ≡ false
  -- a library without an import
  pub empty : works_of false false 0 false ≡ Works
  -- of two libraries
  pub both_open : both_work NotDecided Works ≡ NotDecided
  pub first_broken : both_work Broken Works ≡ Broken
  pub second_open : both_work Works NotDecided ≡ NotDecided
