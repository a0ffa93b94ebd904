-- What the code's values stand for.
use Rattle.std.specs.Prelude.{List, ◌++◌}
use Rattle.implib_arm64ec.specs.declared.nonterminal.Nonterminal.{Nonterminal}
use Rattle.implib_arm64ec.specs.declared.production.Production.{Production}

-- the parts that are to come
abbrev pub production : Production → List Nonterminal
production p = p.parts.now ++ p.then.now
