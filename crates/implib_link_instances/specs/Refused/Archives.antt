-- What no search in bytes takes, and what does not arrive. A record `RefusedX` has for each field
-- of `X` what this field refuses.
use Rattle.std.specs.Prelude.{List, [], codes, map, ℕ, ◌++◌, ◌∷◌}
use Rattle.implib.specs.declared.machine.MachineType.TheVariants.{AMD64}
use Rattle.implib.specs.Formats.Object.{Object, object_in}
use Rattle.implib.specs.Members.MemberSpec.{MemberView}
use Rattle.implib.specs.Members.Msvc.{short_import_symbols}
use Rattle.implib_archive.specs.Worked.{worked_members}
use Rattle.implib_archive.specs.declared.kind.Kind.TheVariants.{Coff, Gnu}
use Rattle.implib_link.specs.Flavors.Program.{OfMember}
use Rattle.implib_link.specs.Archives.Ways.{CallsArrive, IsWantedBy, LldArrives, defining}
use Rattle.implib_link.specs.Archives.Files.{HasMembersAs}
use Rattle.implib_link.specs.Archives.InBytes.{First, Second, AreHeadersOf, AreMembersAt}
use Rattle.implib_link.specs.Archives.InBytes.{IsHeaderOf, IsSearchOf, LeadsToFirst, TakesJust}
use Rattle.implib_link.specs.Image.Files.{DataDirectory}
use Rattle.implib_link.specs.Image.Laws.{IsInDirectory}
use Rattle.implib_link.specs.Search.Search.{wanting}
use Rattle.implib_link_instances.specs.Archives.Files.{libquit}
use Rattle.implib_link_instances.specs.Archives.WorkedWays.{both, own as calling_both}
use Rattle.implib_link_instances.specs.Archives.WorkedWays.{lld_libraries, lld_taken}
use Rattle.implib_link_instances.specs.Refused.Links.{f_library, for_gnu, listing, own, exportless}
use Rattle.implib_link_instances.specs.Refused.Links.{f_export, range_at}
use Rattle.implib_link_instances.specs.Worked.Search.{short_named}
use Rattle.implib_link_instances.specs.Worked.Programs.{program_objects, touching_8}
use Rattle.implib_link.specs.Search.Libraries.{archive_of_both}
use Rattle.implib_link.specs.Flavors.Expansion.{expanded_in}

pub record RefusedIsHeaderOf : Type 0 where
  pub header_is : IsHeaderOf [] (listing ∷ []) 8 listing → ⊥
  pub member_is : IsHeaderOf (8 ∷ []) [] 8 listing → ⊥

-- a member with the header and the byte of another one in its bytes
abbrev pub with_header_in : List MemberView
with_header_in = record {
  name = codes "a.o";
  bytes = codes "x.o/            0           0     0     644     1         `\n" ++ 7 ∷ [];
  symbols = [];
} ∷ []

-- the member in the bytes of one; no member; none where nothing is; and one of which nothing holds
pub record RefusedAreMembersAt : Type 0 where
  pub located : AreMembersAt Gnu with_header_in (68 ∷ []) (λ found. Unit {0}) → ⊥
  pub at : AreMembersAt Gnu [] (8 ∷ []) (λ found. Unit {0}) → ⊥
  pub read : AreMembersAt Gnu [] (9999 ∷ []) (λ found. Unit {0}) → ⊥
  pub holds : AreMembersAt Gnu [] [] (λ found. ⊥) → ⊥

-- a member of none; and nothing, though `f` asks for a member
pub record RefusedIsSearchOf : Type 0 where
  pub at : IsSearchOf Gnu First [] object_in [] (listing ∷ []) → ⊥
  pub takes : IsSearchOf Gnu First worked_members object_in own [] → ⊥

-- a member without a name, which is read as a linker member, that is listed for a name
abbrev pub nameless_for : List ℕ → List MemberView
nameless_for name = record { name = []; bytes = 1 ∷ []; symbols = name ∷ [] } ∷ []

-- such a member that is listed for a name which a NUL cuts to `f`; and one that is listed for `f`
pub record RefusedLeadsToFirst : Type 0 where
  pub somewhere : LeadsToFirst Gnu First (nameless_for (codes "f" ++ 0 ∷ codes "g")) (codes "f") → ⊥
  pub read : LeadsToFirst Gnu First (nameless_for (codes "f")) (codes "f") → ⊥

-- a library's name that is left, and more DLLs in the image than are imported
pub record RefusedCallsArrive : Type 0 where
  pub links : CallsArrive AMD64 OfMember (for_gnu f_library) [] [] [] touching_8 own → ⊥
  pub ends : CallsArrive AMD64 OfMember [] [] [] [] touching_8 (program_objects AMD64) → ⊥

-- an object that defines what the export's short import does
abbrev pub defining_f : List Object
defining_f = record (wanting []) { entries = map defining (short_import_symbols f_export) } ∷ []

-- an export of no library; of a library that has none; an alias; one whose symbols nothing leaves,
-- but another name or none; and one that is given
pub record RefusedIsWantedBy : Type 0 where
  pub library : IsWantedBy AMD64 [] own [] f_library f_export → ⊥
  pub export : IsWantedBy AMD64 (exportless ∷ []) own [] exportless f_export → ⊥
  pub plain : IsWantedBy AMD64 (f_library ∷ []) own [] f_library
      (record f_export { alias_target = codes "g" }) → ⊥
  pub listed : IsWantedBy AMD64 (f_library ∷ []) (wanting (codes "g" ∷ []) ∷ []) [] f_library
      f_export → ⊥
  pub left : IsWantedBy AMD64 (f_library ∷ []) [] [] f_library f_export → ⊥
  pub unclaimed : IsWantedBy AMD64 (f_library ∷ []) defining_f [] f_library f_export → ⊥

-- short imports of one DLL that is called in two ways, which make no program
abbrev pub ways_taken : List MemberView
ways_taken =
    short_named (codes "Beta.dll") (codes "gee") ∷ short_named (codes "beta.dll") (codes "mid") ∷ []

-- a short import that is wanted and not taken, and one that is taken and not wanted
pub record RefusedLldArrives : Type 0 where
  pub shorts : LldArrives AMD64 (f_library ∷ []) own [] → ⊥
  pub wanted : LldArrives AMD64 lld_libraries [] lld_taken → ⊥
  pub program : LldArrives AMD64 [] [] ways_taken → ⊥

abbrev pub at_0x1000 : DataDirectory
at_0x1000 = record { address = 0x1000; size = 8 }

pub record RefusedIsInDirectory : Type 0 where
  pub from : IsInDirectory at_0x1000 (range_at 0x0FFF) → ⊥
  pub to : IsInDirectory at_0x1000 (range_at 0x1009) → ⊥

-- no archive; one of one member; and of a member without symbols
pub record RefusedHasMembersAs : Type 0 where
  pub located : HasMembersAs Gnu [] [] → ⊥
  pub read : HasMembersAs Gnu [] (listing ∷ []) → ⊥
  pub ordered : HasMembersAs Gnu libquit [] → ⊥

pub record RefusedInBytes : Type 0 where
  pub are_headers_of : AreHeadersOf [] [] (8 ∷ []) [] → ⊥
  pub takes_just : TakesJust Coff Second (archive_of_both both) (expanded_in AMD64) calling_both (λ found. ⊥) → ⊥
