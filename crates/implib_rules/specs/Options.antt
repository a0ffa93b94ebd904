-- View: what a library is made for, as a record.
use Rattle.std.specs.Prelude.{ℕ, List, Option, option_map}
use Rattle.implib.specs.declared.flavor.Flavor.{Flavor}
use Rattle.implib.specs.declared.machine.MachineType.{MachineType}
use Rattle.implib_rules.specs.declared.options.LibraryOptions.{LibraryOptions}
use Rattle.implib_rules.specs.Additions.{AdditionsView, additions_view}
use Rattle.implib_rules.specs.Linked.{NamingView, naming_view}

-- for which machine, linker and DLL a library is made, and how names are read
pub record LibraryOptionsView : Type 0 where
  pub machine : MachineType
  pub flavor : Flavor
  -- the DLL's name, before the definition's own
  pub dll : Option (List ℕ)
  -- how names are read on I386, and how a short import names what Microsoft's linker asks for
  pub naming : NamingView
  -- what is added to the exports
  pub additions : AdditionsView

-- the view of the options
abbrev pub library_options_view : LibraryOptions → LibraryOptionsView
library_options_view o = record {
  machine = o.machine;
  flavor = o.flavor;
  dll = option_map (λ text. text.now) o.dll;
  naming = naming_view o.naming;
  additions = additions_view o.additions;
}
