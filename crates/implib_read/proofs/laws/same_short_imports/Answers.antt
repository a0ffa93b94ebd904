use Rattle.std.proofs.Common.{◌≡◌, ℕ, ◌==◌, Bool, true, false, List, [], ◌∷◌, drop, Option, Some, None, if◌then◌else◌, ap, ◌∙◌}
use Rattle.std.specs.Option.{option_map}
use Rattle.implib.specs.Formats.ShortImport.{ShortImport, is_short_import, short_import_from, short_import_header_size, short_import_in, short_import_with, text_in}
use Rattle.implib_read.specs.ShortImports.{WithExported, fields_with, found_from, found_with, import_name_exportas, last_text, no_text, short_import_found}
use Rattle.implib_read.proofs.laws.same_short_imports.Goals as goal

-- a short import of these fields alone
alone : ShortImport → WithExported
alone r = record { fields = r; exported = None }

with_dll : (bytes symbol : List ℕ) (dll : Option (List ℕ × List ℕ)) (r : ShortImport) → short_import_with bytes symbol dll ≡ Some r
    → (r.name_type == import_name_exportas) ≡ false → found_with bytes symbol dll ≡ Some (alone r)
unfolding alone
with_dll bytes symbol None r is other = cc
with_dll bytes symbol (Some (dll, byte ∷ rest)) r is other = cc
with_dll bytes symbol (Some (dll, [])) r is other =
    let same : fields_with bytes symbol dll ≡ r = cc in
    let no_export = ap (λ f. f.name_type == import_name_exportas) same ∙ other in
    ap (λ b. option_map (λ e. record { fields = fields_with bytes symbol dll; exported = e }) (if b then last_text (text_in []) else no_text [])) no_export
    ∙ ap (λ f. Some (alone f)) same

with_symbol : (bytes : List ℕ) (symbol : Option (List ℕ × List ℕ)) (r : ShortImport) → short_import_from bytes symbol ≡ Some r
    → (r.name_type == import_name_exportas) ≡ false → found_from bytes symbol ≡ Some (alone r)
unfolding alone
with_symbol bytes None r is other = cc
with_symbol bytes (Some (symbol, rest)) r is other = with_dll bytes symbol (text_in rest) r is other

with_header : (bytes : List ℕ) (header : Bool) (r : ShortImport)
    → (if header then short_import_from bytes (text_in (drop short_import_header_size bytes)) else None) ≡ Some r
    → (r.name_type == import_name_exportas) ≡ false
    → (if header then found_from bytes (text_in (drop short_import_header_size bytes)) else None) ≡ Some (alone r)
with_header bytes false r is other = cc
with_header bytes true r is other = with_symbol bytes (text_in (drop short_import_header_size bytes)) r is other

pub returns : goal.returns
unfolding short_import_in short_import_found alone
returns c = λ bytes r is other. with_header bytes (is_short_import bytes) r is other
