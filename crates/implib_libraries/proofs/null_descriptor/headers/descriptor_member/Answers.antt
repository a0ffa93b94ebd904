use Rattle.implib.proofs.Members.MsvcObjects.{holds-descriptor_symbol, holds-null_thunk_symbol}
use Rattle.implib_libraries.proofs.NullDescriptor.Symbols.{filled-descriptor_symbol, filled-named_null_symbol, filled-null_thunk_symbol, holds-named_null_symbol}
use Rattle.implib_libraries.proofs.null_descriptor.headers.descriptor_member.Goals as goal

pub descriptor_object-requires-clause-symbol : goal.descriptor_object-requires-clause-symbol
descriptor_object-requires-clause-symbol c =
    rw (c.requires.symbol) (filled-descriptor_symbol c.args.library.now, holds-descriptor_symbol c.args.library.now c.requires.library_text)

pub descriptor_object-requires-clause-null : goal.descriptor_object-requires-clause-null
descriptor_object-requires-clause-null c =
    rw (c.requires.null) (filled-named_null_symbol c.args.library.now, holds-named_null_symbol c.args.library.now c.requires.library_text)

pub descriptor_object-requires-clause-null_thunk : goal.descriptor_object-requires-clause-null_thunk
descriptor_object-requires-clause-null_thunk c =
    rw (c.requires.null_thunk) (filled-null_thunk_symbol c.args.library.now, holds-null_thunk_symbol c.args.library.now c.requires.library_text)
