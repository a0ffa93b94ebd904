-- For which machine and linker a definition is compared with a library (this project's choice).
use Rattle.std.specs.Prelude.{◌==◌, ◌&&◌, ◌||◌, Bool, false, true, List, [], ◌∷◌, Option, None}
use Rattle.std.specs.Prelude.{Some, if◌then◌else◌, is_none, is_some, unwrap_or}
use Rattle.std.specs.List.{list_any}
use Rattle.implib.specs.declared.flavor.Flavor.{Flavor}
use Rattle.implib.specs.declared.flavor.Flavor.TheVariants.{Gnu, Msvc}
use Rattle.implib.specs.declared.machine.MachineType.{MachineType}
use Rattle.implib.specs.declared.machine.MachineType.TheVariants.{AMD64}
use Rattle.implib.specs.Conversions.{machine_numbered}
use Rattle.implib_read.specs.Classes.{Class, AnImport, AnAlias, Descriptor, NullDescriptor}
use Rattle.implib_read.specs.Classes.{NullThunk, Head, Tail, DelayImport, Other, NotUnderstood}
use Rattle.implib_read.specs.Classes.{MemberRead}
use Rattle.implib_read.specs.ShortImports.{arm64ec}
use Rattle.implib_rules.specs.Additions.{no_additions}
use Rattle.implib_rules.specs.Options.{LibraryOptionsView}
use Rattle.implib_compare.specs.Flavors.{flavor_of}
use Rattle.implib_check_driver.specs.Calls.{CheckView, DefineView}

-- the machine of an import, if it is known
abbrev pub machine_of_class : Class → Option MachineType
machine_of_class (AnImport i) = machine_numbered i.machine
machine_of_class (AnAlias a) = None
machine_of_class Descriptor = None
machine_of_class NullDescriptor = None
machine_of_class NullThunk = None
machine_of_class Head = None
machine_of_class Tail = None
machine_of_class DelayImport = None
machine_of_class Other = None
machine_of_class NotUnderstood = None

-- The machine of a library: that of the first import with a known one. A library without one asks
-- for nothing on any machine, so it is as good as one for AMD64.
abbrev pub machine_of : List MemberRead → MachineType
machine_of [] = AMD64
machine_of (m ∷ members) = unwrap_or (machine_of_class m.class) (machine_of members)

-- whether a member imports for ARM64EC
abbrev pub is_arm64ec : Class → Bool
is_arm64ec (AnImport i) = i.machine == arm64ec
is_arm64ec (AnAlias a) = false
is_arm64ec Descriptor = false
is_arm64ec NullDescriptor = false
is_arm64ec NullThunk = false
is_arm64ec Head = false
is_arm64ec Tail = false
is_arm64ec DelayImport = false
is_arm64ec Other = false
is_arm64ec NotUnderstood = false

-- whether a library has an import for ARM64EC
abbrev pub has_arm64ec : List MemberRead → Bool
has_arm64ec members = list_any (λ m. is_arm64ec m.class) members

-- Whether the library of a definition is one for ARM64EC: a call names that, or no machine, and the
-- library has an import for it.
abbrev pub is_for_arm64ec : CheckView → List MemberRead → Bool
is_for_arm64ec check members = check.arm64ec || (is_none check.machine && has_arm64ec members)

-- whether GNU's flavour is named
abbrev pub is_for_gnu : Option Flavor → Bool
is_for_gnu (Some Gnu) = true
is_for_gnu (Some Msvc) = false
is_for_gnu None = false

-- Whether a call asks for what the library is not made with: for ARM64EC what GNU's linker alone
-- has, and for another machine a native definition.
abbrev pub is_unfit : CheckView → List MemberRead → Bool
is_unfit check members =
    if is_for_arm64ec check members then check.older_symbols || is_for_gnu check.flavor
    else is_some check.native

-- The flavour that is named, and else that of the library; but GNU's where older symbols are asked
-- for, which it alone has.
abbrev pub flavor_for : Option Flavor → Bool → List MemberRead → Flavor
flavor_for named older members = unwrap_or named (if older then Gnu else flavor_of members)

-- What the library of a definition is made for, to be compared with a library: what a call names,
-- and else the machine and the flavour of the library.
abbrev pub options_for : CheckView → List MemberRead → LibraryOptionsView
options_for check members = record {
  machine = unwrap_or check.machine (machine_of members);
  flavor = flavor_for check.flavor check.older_symbols members;
  dll = check.dll;
  naming = check.naming;
  additions = no_additions;
}

-- What the definition of a library is read for: what a call names, and else the machine and the
-- flavour of the library.
abbrev pub options_of : DefineView → List MemberRead → LibraryOptionsView
options_of define members = record {
  machine = unwrap_or define.machine (machine_of members);
  flavor = flavor_for define.flavor define.older_symbols members;
  dll = None;
  naming = record {
    is_plain = define.is_plain;
    kills_at = false;
    exports_as = false;
    keeps_decorated = false;
  };
  additions = no_additions;
}
