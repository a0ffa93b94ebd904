use Rattle.std.proofs.Common.{string_bytes}
use Rattle.implib.proofs.Members.KeptImports.{names_are}
use Rattle.implib.proofs.msvc.short_imports.ShortImports.name.Goals as goal

pub returns-clause-member : goal.returns-clause-member
returns-clause-member c =
    let inside = c.self.inside in
    rw (← c.self.view_is, c.as_str.ensures.value)
    (names_are inside.machine (record { linked = string_bytes inside.library; text = string_bytes inside.dll }) inside.imports.items c.args._index)
