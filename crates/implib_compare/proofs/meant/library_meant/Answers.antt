use Rattle.std.proofs.Common.{ap, subst, sym, ◌++◌, ◌∙◌, List, ℕ}
use Rattle.implib_rules.specs.Library.{IsLibrary}
use Rattle.implib_rules.specs.Options.{library_options_view}
use Rattle.implib_compare.proofs.meant.library_meant.Goals as goal

pub returns-in-Ok-clause-library : goal.returns-in-Ok-clause-library
returns-in-Ok-clause-library c =
    let written = c.in-Ok.ensures.written in
    subst (IsLibrary c.args.definition.now (library_options_view c.args.options.now))
    (sym (written.written ∙ ap (λ (xs : List ℕ). xs ++ written.file) c.new-file.ensures.items))
    written.is_library
