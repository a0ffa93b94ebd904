-- The names that no text gives: symbol names, asked names, and the library's name.
use Rattle.std.specs.Prelude.{◌≡◌, Bool, None, is_none, true}
use Rattle.std.specs.List.{list_all}
use Rattle.implib.specs.Definition.{DefinitionView}
use Rattle.implib.specs.Members.ReadBack.{has_no_symbol_names}
use Rattle.implib.specs.Renaming.{renamed}

-- whether no export gives an asked name
abbrev pub has_no_asked_names : DefinitionView → Bool
has_no_asked_names d = list_all (λ e. is_none e.asked_name) d.exports

-- no export of the definition has a symbol name or gives an asked name, nor does one under its name
-- to link by;
-- and the library has no name of its own
pub record LacksSymbolNames (d : DefinitionView) : Type 0 where
  pub parsed : has_no_symbol_names d ≡ true
  pub asks_as_parsed : has_no_asked_names d ≡ true
  pub asks_as_renamed : has_no_asked_names (renamed d) ≡ true
  pub renamed : has_no_symbol_names (renamed d) ≡ true
  pub library_name : d.library_name ≡ None
