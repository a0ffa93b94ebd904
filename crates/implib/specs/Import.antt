-- What a program imports by a definition: of which DLL, under which symbols, asking for what.
-- Nothing here knows a byte of a file, nor for whose linker the files are.
use Rattle.std.specs.Prelude.{ℕ, Bool, true, false, ◌&&◌, not, List, [], ◌∷◌, ◌++◌, map}
use Rattle.std.specs.Prelude.{if◌then◌else◌, codes, bytes_eq, unwrap_or}
use Rattle.std.specs.List.{filter, flat_map}
use Rattle.implib.specs.declared.machine.MachineType.{MachineType}
pub use Rattle.implib.specs.Ascii.{at_sign, holds, underscore}
use Rattle.implib.specs.Definition.{DefinitionView, ExportView}
use Rattle.implib.specs.Renaming.{renamed}
use Rattle.implib.specs.Underscore.{asked_name}

-- what is asked of the DLL: an ordinal, or a name with a hint where to look for it
-- (PE/COFF specification, "Import Lookup Table" and "Hint/Name Table")
pub data Ask : Type 0 where
  Ordinal : ℕ → Ask
  Name : List ℕ → ℕ → Ask

-- an import: the DLL, its symbols, and what is asked of the DLL
pub record Import : Type 0 where
  pub dll : List ℕ
  pub declared : List (List ℕ)
  pub ask : Ask

-- the symbol of the address that the loader fills in
abbrev pub imp_symbol : List ℕ → List ℕ
imp_symbol name = codes "__imp_" ++ name

-- the symbols of an import: its address, and for what is no data the name itself
abbrev pub import_symbols : Bool → List ℕ → List (List ℕ)
import_symbols is_data name = imp_symbol name ∷ (if is_data then [] else name ∷ [])

-- The name that an export asks for: the one that it gives, whole, or else its own without the
-- underscore of I386. For example, on I386 `_bar` asks for bar, and for baz where it gives that.
abbrev pub name_asked : MachineType → ExportView → List ℕ
name_asked machine e = unwrap_or e.asked_name (asked_name machine e.name)

-- what an export asks for
abbrev pub expected_ask : MachineType → ExportView → Ask
expected_ask machine e =
    if e.no_name then Ordinal e.ordinal else Name (name_asked machine e) e.ordinal

-- The import that an export means. For example, `bar` of foo.dll on AMD64 declares `__imp_bar` and
-- `bar`, and asks foo.dll for the name bar with the hint 0.
abbrev pub expected_import : MachineType → List ℕ → ExportView → Import
expected_import machine dll e = record {
  dll = dll;
  declared = import_symbols e.is_data e.name;
  ask = expected_ask machine e;
}

-- a weak external: a symbol that another one replaces where nothing defines it (PE/COFF
-- specification, "Auxiliary Format 3: Weak Externals")
pub record Alias : Type 0 where
  pub weak : List ℕ
  pub target : List ℕ

-- whether a text is empty
abbrev pub is_empty_text : List ℕ → Bool
is_empty_text [] = true
is_empty_text (first ∷ rest) = false

-- whether a symbol is weak for an alias target: there is one, and it is another symbol
abbrev pub is_alias : List ℕ → List ℕ → Bool
is_alias target symbol = not (is_empty_text target) && not (bytes_eq target symbol)

-- The aliases of a symbol for a target: of the name, and of its address. For example, foo for the
-- target baz:
-- `foo` is weak for `baz`, and `__imp_foo` for `__imp_baz`.
abbrev pub aliases_for : List ℕ → List ℕ → List Alias
aliases_for symbol target =
    if is_alias target symbol then
    record { weak = symbol; target = target }
    ∷ record { weak = imp_symbol symbol; target = imp_symbol target }
    ∷ []
    else []

-- the exports that are not private
abbrev pub public_exports : DefinitionView → List ExportView
public_exports d = filter (λ e. not e.private) d.exports

-- the imports that a definition means, in its order
abbrev pub imports_of : MachineType → DefinitionView → List Import
imports_of machine d = map (expected_import machine d.import_name) (public_exports (renamed d))

-- the aliases that a definition means, in its order
abbrev pub aliases_of : DefinitionView → List Alias
aliases_of d = flat_map (λ e. aliases_for e.name e.alias_target) (public_exports (renamed d))
