use Rattle.std.proofs.Common.{◌≡◌, ◌∙◌, ◌++◌, ℕ, Bool, true, false, List, ap, append-nil, append_assoc, sym}
use Rattle.std.specs.List.{flat_map}
use Rattle.implib.specs.Import.{imp_symbol, import_symbols}
use Rattle.implib_compare.specs.Facts.{listed_key}
use Rattle.implib_compare.proofs.keys.push_symbols.Goals as goal

-- the symbols of data
of_data : (old new name : List ℕ) (is_data : Bool) → is_data ≡ true → new ≡ old ++ listed_key (imp_symbol name) → new ≡ old ++ flat_map listed_key (import_symbols is_data name)
of_data old new name is_data is pushed =
    pushed
    ∙ ap (λ l. old ++ l) (sym (append-nil (listed_key (imp_symbol name))))
    ∙ ap (λ b. old ++ flat_map listed_key (import_symbols b name)) (sym is)

-- the symbols of code
of_code : (old one new name : List ℕ) (is_data : Bool) → is_data ≡ false → one ≡ old ++ listed_key (imp_symbol name) → new ≡ one ++ listed_key name
    → new ≡ old ++ flat_map listed_key (import_symbols is_data name)
of_code old one new name is_data is first second =
    second
    ∙ ap (λ l. l ++ listed_key name) first
    ∙ append_assoc old (listed_key (imp_symbol name)) (listed_key name)
    ∙ ap (λ l. old ++ (listed_key (imp_symbol name) ++ l)) (sym (append-nil (listed_key name)))
    ∙ ap (λ b. old ++ flat_map listed_key (import_symbols b name)) (sym is)

pub returns-then-is_data : goal.returns-then-is_data
returns-then-is_data c = of_data c.args.key.now.items c.push_parts.new.key.items c.args.symbol.now c.args.is_data c.if-is_data.true c.in_ok-push_parts.ensures

pub returns : goal.returns
returns c =
    of_code c.args.key.now.items c.push_parts.new.key.items c.push_parts-2.new.key.items c.args.symbol.now c.args.is_data c.if-is_data.false c.in_ok-push_parts.ensures c.in_ok-push_parts-2.ensures
