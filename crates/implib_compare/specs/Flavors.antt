-- For which linker a library is (this project's choice).
use Rattle.std.specs.Prelude.{Bool, true, false, List, if◌then◌else◌}
use Rattle.std.specs.List.{list_any}
use Rattle.implib.specs.declared.flavor.Flavor.{Flavor}
use Rattle.implib.specs.declared.flavor.Flavor.TheVariants.{Gnu, Msvc}
use Rattle.implib_read.specs.Classes.{Class, AnImport, AnAlias, Descriptor, NullDescriptor}
use Rattle.implib_read.specs.Classes.{NullThunk, Head, Tail, DelayImport, Other, NotUnderstood}
use Rattle.implib_read.specs.Classes.{MemberRead}
use Rattle.implib_read.specs.declared.import.ImportKind.{ImportKind}
use Rattle.implib_read.specs.declared.import.ImportKind.TheVariants.{Code, CodeOrConst, Const, Data}
use Rattle.implib_read.specs.declared.import.ImportKind.TheVariants.{Delayed}

-- whether a kind tells code from a constant, as those of short imports alone do
abbrev pub tells_code : ImportKind → Bool
tells_code Code = true
tells_code Data = false
tells_code Const = true
tells_code CodeOrConst = false
tells_code Delayed = false

-- whether a member is one for Microsoft's linker: of its import tables, or a short import that is
-- no data
abbrev pub is_for_msvc : Class → Bool
is_for_msvc (AnImport i) = tells_code i.kind
is_for_msvc (AnAlias a) = false
is_for_msvc Descriptor = true
is_for_msvc NullDescriptor = true
is_for_msvc NullThunk = true
is_for_msvc Head = false
is_for_msvc Tail = false
is_for_msvc DelayImport = false
is_for_msvc Other = false
is_for_msvc NotUnderstood = false

-- the flavour of a library
abbrev pub flavor_of : List MemberRead → Flavor
flavor_of members = if list_any (λ m. is_for_msvc m.class) members then Msvc else Gnu
