-- What holds of the grammar.
use Rattle.std.specs.Prelude.{◌≡◌, List}
use Rattle.implib_options.specs.declared.table.Words.{Words}
use Rattle.implib_options.specs.Saying.{Text}
use Rattle.implib_options.specs.Words.{IsRead, Reading}

-- what words are read as is one thing
abbrev pub HaveOneReading : Type 0
HaveOneReading = (of : Words) (words : List Text) (one other : Reading) → IsRead of words one
    → IsRead of words other → one ≡ other
