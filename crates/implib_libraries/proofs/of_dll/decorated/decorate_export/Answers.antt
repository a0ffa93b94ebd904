use Rattle.std.proofs.Common.{◌≡◌, subst, sym, true}
use Rattle.std.proofs.lemmas.Str.{IsUtf8-string_bytes}
use Rattle.std.specs.Str.{IsUtf8}
use Rattle.std.specs.String.{string_bytes}
use Rattle.implib_rules.specs.Linked.{naming_view}
use Rattle.implib_libraries.specs.OfDll.Decorated.{is_decorated}
use Rattle.implib_libraries.proofs.OfDll.Symbols.{word_utf8}
use Rattle.implib_libraries.proofs.of_dll.decorated.decorate_export.Goals as goal

pub give_word-requires : goal.give_word-requires
give_word-requires c =
    let name = string_bytes c.args.export.now.name in
    let symbol = c.in-Some.symbol.now in
    subst IsUtf8 (sym c.word_naming.ensures)
    (word_utf8 (naming_view c.args.naming) name symbol (IsUtf8-string_bytes c.args.export.now.name)
    (subst (λ n. is_decorated n symbol ≡ true) c.as_bytes.ensures.value c.in-Some.ensures.decorated))
