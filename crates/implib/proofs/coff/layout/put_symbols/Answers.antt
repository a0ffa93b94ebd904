use Rattle.std.proofs.Common.{arith, get_or, length}
use Rattle.implib.specs.Formats.Layout.{symbol_bytes}
use Rattle.implib.specs.Views.Layout.{symbol_view}
use Rattle.implib.proofs.Formats.Defaults.{no_symbol}
use Rattle.implib.proofs.Formats.Lengths.{length-one_symbol}
use Rattle.implib.proofs.Formats.Pass.{puts_room}
use Rattle.implib.proofs.coff.layout.put_symbols.Goals as goal

pub put_symbol-requires-clause-room : goal.put_symbol-requires-clause-room
put_symbol-requires-clause-room c =
    omega (
      arith,
      puts_room (λ s. symbol_bytes c.args.offsets.now (symbol_view s)) c.args.symbols.now c.loop-symbol.symbol-index no_symbol c.loop-symbol-test.true c.requires.room c.loop-symbol.invariant,
      length-one_symbol c.args.offsets.now (length c.args.offsets.now) (symbol_view (get_or c.args.symbols.now c.loop-symbol.symbol-index no_symbol)) (c.requires.fits c.loop-symbol.symbol-index no_symbol c.loop-symbol-test.true),
    )
