use Rattle.implib_libraries.proofs.NullDescriptor.Symbols.{filled-named_null_symbol, holds-named_null_symbol}
use Rattle.implib_libraries.proofs.null_descriptor.headers.null_member.Goals as goal

pub null_object-requires : goal.null_object-requires
null_object-requires c =
    rw (c.requires.null) (filled-named_null_symbol c.args.library.now, holds-named_null_symbol c.args.library.now c.requires.library_text)
