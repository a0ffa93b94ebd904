-- What options add to exports, worked by hand; the symbols and names are those of GNU dlltool 2.40.
use Rattle.std.specs.Prelude.{◌≡◌, ℕ, List, [], ◌∷◌, true, false, None, Some, codes, map}
use Rattle.implib.specs.declared.machine.MachineType.{MachineType}
use Rattle.implib.specs.declared.machine.MachineType.TheVariants.{I386, AMD64}
use Rattle.implib.specs.declared.flavor.Flavor.TheVariants.{Gnu}
use Rattle.implib.specs.Definition.{ExportView, empty_export}
use Rattle.implib.specs.Import.{name_asked}
use Rattle.implib_rules.specs.Additions.{AdditionsView, extended_exports, no_additions}
use Rattle.implib_rules.specs.Linked.{NamingView, linked_exports}
use Rattle.implib_rules.specs.WorkedNames.{killing, line, plain, usual}

-- `symbol`, `F@8`, `@g@8`, `a == b` and one that is private
abbrev pub exports : List ExportView
exports = line (codes "symbol") [] ∷ line (codes "F@8") [] ∷ line (codes "@g@8") []
    ∷ line (codes "a") (codes "b")
    ∷ record (line (codes "hidden") []) { private = true } ∷ []

-- a datum by its ordinal
abbrev pub datum : ExportView
datum = record (line (codes "d") []) { ordinal = 7; no_name = true; is_data = true }

-- a constant with its ordinal
abbrev pub fixed : ExportView
fixed = record (line (codes "c") []) { ordinal = 9; constant = true }

-- what is added
abbrev pub with_prefix : AdditionsView
with_prefix =
    record { prefix = Some (codes "prefix"); underscore = false; stdcall_underscore = false }

abbrev pub with_underscore : AdditionsView
with_underscore = record { prefix = None; underscore = true; stdcall_underscore = false }

abbrev pub with_stdcall_underscore : AdditionsView
with_stdcall_underscore = record { prefix = None; underscore = false; stdcall_underscore = true }

abbrev pub with_both : AdditionsView
with_both = record { prefix = Some (codes "p"); underscore = true; stdcall_underscore = false }

-- for GNU's linker: the symbols of exports, and the names that they ask for
abbrev pub symbols : MachineType → NamingView → AdditionsView → List ExportView → List (List ℕ)
symbols machine naming a exports =
    map (λ e. e.name)
    (linked_exports machine naming Gnu (extended_exports machine naming a exports))

abbrev pub names : MachineType → NamingView → AdditionsView → List ExportView → List (List ℕ)
names machine naming a exports =
    map (name_asked machine)
    (linked_exports machine naming Gnu (extended_exports machine naming a exports))

-- what is added to these exports
pub record AdditionsWorked : Type 0 where
  pub nothing : extended_exports I386 usual no_additions exports ≡ exports
  pub prefix_symbols : symbols I386 usual with_prefix exports
      ≡ codes "_symbol" ∷ codes "_F@8" ∷ codes "@g@8" ∷ codes "_a" ∷ codes "_hidden"
      ∷ codes "_prefix_symbol" ∷ codes "_prefix_F@8" ∷ codes "_prefix@g@8" ∷ codes "_prefix_a" ∷ []
  pub prefix_names : names I386 usual with_prefix exports
      ≡ codes "symbol" ∷ codes "F@8" ∷ codes "@g@8" ∷ codes "b" ∷ codes "hidden"
      ∷ codes "symbol" ∷ codes "F@8" ∷ codes "@g@8" ∷ codes "b" ∷ []
  pub prefix_plain : symbols I386 plain with_prefix (line (codes "symbol") [] ∷ [])
      ≡ codes "symbol" ∷ codes "prefixsymbol" ∷ []
  pub prefix_amd64 : symbols AMD64 usual with_prefix (line (codes "symbol") [] ∷ [])
      ≡ codes "symbol" ∷ codes "prefixsymbol" ∷ []
  pub prefix_datum : extended_exports AMD64 usual with_prefix (datum ∷ [])
      ≡ datum ∷ record empty_export {
        name = codes "prefixd";
        alias_target = codes "d";
        ordinal = 7;
        no_name = true;
        is_data = true;
      } ∷ []
  pub prefix_constant : extended_exports AMD64 usual with_prefix (fixed ∷ [])
      ≡ fixed ∷ record empty_export {
        name = codes "prefixc";
        alias_target = codes "c";
        ordinal = 9;
        constant = true;
      } ∷ []
  pub underscores : names AMD64 usual with_underscore exports
      ≡ codes "_symbol" ∷ codes "_F@8" ∷ codes "@g@8" ∷ codes "b" ∷ codes "_hidden" ∷ []
  pub underscored_symbols : symbols AMD64 usual with_underscore exports
      ≡ codes "symbol" ∷ codes "F@8" ∷ codes "@g@8" ∷ codes "a" ∷ codes "hidden" ∷ []
  pub stdcall_underscores : names I386 usual with_stdcall_underscore exports
      ≡ codes "symbol" ∷ codes "_F@8" ∷ codes "@g@8" ∷ codes "b" ∷ codes "hidden" ∷ []
  pub killed_underscores : names I386 killing with_underscore exports
      ≡ codes "_symbol" ∷ codes "_F" ∷ codes "g" ∷ codes "b" ∷ codes "_hidden" ∷ []
  pub both : names AMD64 usual with_both (line (codes "symbol") [] ∷ [])
      ≡ codes "_symbol" ∷ codes "_symbol" ∷ []
