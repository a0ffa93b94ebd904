-- Readings of delayed imports worked by hand: of the objects of foo.dll, and of objects that are
-- none.
use Rattle.std.specs.Prelude.{◌≡◌, List, [], ◌∷◌, ◌++◌, Option, None, Some, ℕ, bytes_eq, codes, map}
use Rattle.std.specs.Prelude.{if◌then◌else◌}
use Rattle.implib.specs.Formats.Layout.{ObjectLayout, object_of}
use Rattle.implib.specs.Formats.Object.{ObjectSection}
use Rattle.implib.specs.Import.{Import, Name, Ordinal}
use Rattle.implib.specs.Worked.Objects.{zeros}
use Rattle.implib_delay.specs.Reader.{delayed_import}
use Rattle.implib_delay.specs.WorkedObjects.{by_name64, by_ordinal32}
use Rattle.implib_delay.specs.WorkedObjects.{head32, head64, tail32, tail64}

-- a section with other bytes, if it has this name
abbrev pub other_bytes : List ℕ → List ℕ → ObjectSection → ObjectSection
other_bytes name bytes s = if bytes_eq s.name name then record s { bytes = bytes } else s

-- a section without relocations, if it has this name
abbrev pub no_relocations : List ℕ → ObjectSection → ObjectSection
no_relocations name s = if bytes_eq s.name name then record s { relocations = [] } else s

-- a layout with other bytes in the sections of a name
abbrev pub with_bytes : List ℕ → List ℕ → ObjectLayout → ObjectLayout
with_bytes name bytes p = record p { sections = map (other_bytes name bytes) p.sections }

-- a layout without relocations in the sections of a name
abbrev pub without_relocations : List ℕ → ObjectLayout → ObjectLayout
without_relocations name p = record p { sections = map (no_relocations name) p.sections }

-- an object with AMD64's head and tail
abbrev pub read64 : ObjectLayout → Option Import
read64 p = delayed_import (object_of p) (object_of head64) (object_of tail64)

abbrev pub read32 : ObjectLayout → Option Import
read32 p = delayed_import (object_of p) (object_of head32) (object_of tail32)

-- what is read
pub record WorkedReadings : Type 0 where
  pub name_on_amd64 : read64 by_name64 ≡ Some (record {
    dll = codes "foo.dll";
    declared = codes "__imp_bar" ∷ codes "bar" ∷ [];
    ask = Name (codes "bar") 258;
  })
  pub ordinal_on_i386 : read32 by_ordinal32 ≡ Some (record {
    dll = codes "foo.dll";
    declared = codes "__imp__bar" ∷ codes "_bar" ∷ [];
    ask = Ordinal 258;
  })
  -- a descriptor of addresses, an entry that is bound, a stub that does not jump through it
  pub of_addresses : read64 (with_bytes (codes ".didat$2") (zeros 32) by_name64) ≡ None
  pub bound_entry : read64 (with_bytes (codes ".didat$5") (zeros 8) by_name64) ≡ None
  pub other_code : read64 (with_bytes (codes ".text" ++ zeros 3) (zeros 25) by_name64) ≡ None
  -- relocations that are not there
  pub loose_descriptor : read64 (without_relocations (codes ".didat$2") by_name64) ≡ None
  pub loose_entry : read64 (without_relocations (codes ".didat$5") by_name64) ≡ None
  pub loose_stub : read64 (without_relocations (codes ".text" ++ zeros 3) by_name64) ≡ None
  -- the head of another machine, and a tail without the DLL's name
  pub other_head : delayed_import (object_of by_name64) (object_of head32) (object_of tail64) ≡ None
  pub other_tail : delayed_import (object_of by_name64) (object_of head64) (object_of head64) ≡ None
