use Rattle.std.proofs.Common.{◌≡◌, ◌++◌, drop, map}
use Rattle.std.specs.Option.{option_map}
use Rattle.std.specs.String.{string_bytes}
use Rattle.implib.specs.declared.flavor.Flavor.TheVariants.{Msvc}
use Rattle.implib.specs.Definition.{export_view}
use Rattle.implib_rules.specs.Linked.{alias_symbol, naming_view}
use Rattle.implib_rules.proofs.aliases.alias_symbols.Given as goal

-- the symbols so far, and those of the exports that are left, are all
abbrev pub invariant-loop-export : goal.invariant-loop-export
invariant-loop-export l =
    map (option_map string_bytes) l.symbols.items
    ++ map (alias_symbol l.lookups.machine (naming_view l.lookups.naming) Msvc (map export_view l.exports)) (map export_view (drop l.export-index l.exports))
    ≡ map (alias_symbol l.lookups.machine (naming_view l.lookups.naming) Msvc (map export_view l.exports)) (map export_view l.exports)
