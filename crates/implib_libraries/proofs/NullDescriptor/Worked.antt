-- The objects that were worked by hand, by computing.
use Rattle.std.proofs.Common.{refl}
use Rattle.implib.specs.Formats.Writer.{layout_of, long_names, name_location, symbol_written, with_long_name, with_name}
use Rattle.implib.specs.Members.MsvcObjects.{base_name, descriptor_symbol, null_thunk_symbol}
use Rattle.implib_libraries.specs.NullDescriptor.Named.{named_descriptor, named_descriptor_spec, named_null, named_null_spec, named_null_symbol}
use Rattle.implib_libraries.specs.NullDescriptor.Worked as worked
use Rattle.implib_libraries.specs.NullDescriptor.Worked.{WorkedHeaders}

pub worked_headers : WorkedHeaders
unfolding layout_of long_names name_location symbol_written with_long_name with_name base_name descriptor_symbol null_thunk_symbol named_descriptor named_descriptor_spec named_null named_null_spec named_null_symbol worked.descriptor_on_amd64 worked.descriptor_on_i386
worked_headers = record {
  descriptor_on_amd64 = refl;
  descriptor_on_i386 = refl;
  null_on_amd64 = refl;
  null_on_i386 = refl;
  null_on_arm64 = refl;
  listed_descriptor = refl;
  listed_null = refl;
}
