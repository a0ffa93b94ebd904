-- What a caller sees of an alias.
use Rattle.implib.specs.Import.{Alias}
use Rattle.implib_read.specs.declared.alias.AliasFound.{AliasFound}

abbrev pub alias_view : AliasFound → Alias
alias_view a = record { weak = a.weak.now; target = a.target.now }
