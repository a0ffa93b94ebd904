use Rattle.std.proofs.Common.{refl}
use Rattle.implib_delay.proofs.objects.export_symbols.Goals as goal

pub returns : goal.returns
returns c = rw (c.symbol.ensures, c.symbol-2.ensures, c.symbol-3.ensures, c.symbol-4.ensures, c.symbol-5.ensures, c.symbol-6.ensures, c.symbol-7.ensures, c.symbol-8.ensures, c.symbol-9.ensures, c.symbol-10.ensures, c.as_str.ensures.value, c.requires.tail, c.requires.name, c.requires.handle, c.requires.address) refl
