-- What a call of the program is about.
use Rattle.std.specs.Prelude.{ℕ, Bool, List, Option, length, map, nat_lt}
use Rattle.std.specs.Option.{option_map}
use Rattle.std.specs.String.{string_bytes}
use Rattle.implib.specs.declared.flavor.Flavor.{Flavor}
use Rattle.implib.specs.declared.machine.MachineType.{MachineType}
use Rattle.implib_rules.specs.Linked.{NamingView, naming_view}
use Rattle.implib_check_driver.specs.declared.call.Check.{Check}
use Rattle.implib_check_driver.specs.declared.call.Define.{Define}

-- a library, and the definition or the DLL that it is compared with
pub record CheckView : Type 0 where
  pub library : List ℕ
  pub definition : List ℕ
  -- the machine, if one is named, for ARM64EC ARM64, and whether that is the machine
  pub machine : Option MachineType
  pub arm64ec : Bool
  -- the file of the native definition, if one is given
  pub native : Option (List ℕ)
  -- the flavour, if one is named
  pub flavor : Option Flavor
  -- the DLL's name, before the definition's own
  pub dll : Option (List ℕ)
  -- how names are read on I386
  pub naming : NamingView
  -- whether addresses have their older symbols too
  pub older_symbols : Bool
  -- whether the exports of a DLL that no import asks for are listed
  pub lists_unasked : Bool
  -- the folders in whose DLLs forwarders are followed
  pub folders : List (List ℕ)

-- the view of a comparison of the program
abbrev pub check_view : Check → CheckView
check_view c = record {
  library = c.library.now;
  definition = c.definition.now;
  machine = c.machine;
  arm64ec = c.arm64ec;
  native = option_map (λ text. text.now) c.native;
  flavor = c.flavor;
  dll = option_map (λ text. text.now) c.dll;
  naming = naming_view c.naming;
  older_symbols = c.older_symbols;
  lists_unasked = c.lists_unasked;
  folders = map string_bytes c.folders.now;
}

-- a library whose definition is asked for
pub record DefineView : Type 0 where
  pub library : List ℕ
  -- the machine and the flavour, if they are named
  pub machine : Option MachineType
  pub flavor : Option Flavor
  -- whether symbols on I386 are words as they are
  pub is_plain : Bool
  -- whether addresses have their older symbols too
  pub older_symbols : Bool

-- the view of what the program is asked
abbrev pub define_view : Define → DefineView
define_view d = record {
  library = d.library.now;
  machine = d.machine;
  flavor = d.flavor;
  is_plain = d.is_plain;
  older_symbols = d.older_symbols;
}

-- whether forwarders are followed
abbrev pub is_searching : CheckView → Bool
is_searching c = nat_lt 0 (length c.folders)
