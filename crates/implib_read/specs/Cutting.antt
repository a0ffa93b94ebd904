-- By which short imports linkers ask a DLL for different names (docs/LINKERS.md, `cut-prefix`).
use Rattle.std.specs.Prelude.{ℕ, List, Option, None, Some, bytes_eq, if◌then◌else◌}
use Rattle.std.specs.List.{filter_map}
use Rattle.std.specs.Option.{option_and_then, option_map}
use Rattle.implib.specs.Formats.GnuReading.{ask_by_gnu}
use Rattle.implib.specs.Formats.ShortImport.{ShortImport}
use Rattle.implib.specs.Import.{Ask, Name, Ordinal}
use Rattle.implib_read.specs.Archives.{StoredMember}
use Rattle.implib_read.specs.ShortImports.{WithExported, ask_of_found, short_import_found}

-- a symbol, and the names that lld and GNU `ld` ask its DLL for
pub record Cut : Type 0 where
  pub symbol : List ℕ
  pub by_lld : List ℕ
  pub by_gnu : List ℕ

-- the names of two asks, if they differ
abbrev pub cut_of : List ℕ → Option Ask → Ask → Option Cut
cut_of symbol (Some (Name lld hint)) (Name gnu other) =
    if bytes_eq lld gnu then None else Some (record { symbol = symbol; by_lld = lld; by_gnu = gnu })
cut_of symbol (Some (Name lld hint)) (Ordinal ordinal) = None
cut_of symbol (Some (Ordinal number)) ask = None
cut_of symbol None ask = None

-- the same, where a name that is given as a third text is not cut
abbrev pub cut_with : ShortImport → Option Ask → Option (List ℕ) → Option Cut
cut_with fields ask (Some name) = None
cut_with fields ask None = cut_of fields.symbol ask (ask_by_gnu fields)

-- The names that linkers ask for by a short import, if they differ. For example, for AMD64 by `__f`
-- without its prefix lld asks for `_f`, and GNU `ld` for `__f`.
abbrev pub cut_by_short_import : WithExported → Option Cut
cut_by_short_import r = cut_with r.fields (ask_of_found r) r.exported

-- the names that linkers ask for by a member, if they differ, and the member
abbrev pub cut_by_member : StoredMember → Option (StoredMember × Cut)
cut_by_member m =
    option_map (λ c. (m, c)) (option_and_then cut_by_short_import (short_import_found m.bytes))

-- the members by which linkers ask for different names, in order
abbrev pub cut_apart : List StoredMember → List (StoredMember × Cut)
cut_apart members = filter_map cut_by_member members
