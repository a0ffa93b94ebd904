-- The worked short imports of a library, by computing.
use Rattle.std.proofs.Common.{refl}
use Rattle.implib_arm64ec.specs.LibraryImports.{exports_fault, imports_of}
use Rattle.implib_arm64ec.specs.Reading.{read}
use Rattle.implib_arm64ec.specs.WorkedLibraryImports.{WorkedLibraryImports}

pub worked_library_imports : WorkedLibraryImports
unfolding exports_fault imports_of read
worked_library_imports = record { symbols = refl; none = refl; nul_in_dll = refl; nul_in_library = refl; nul_in_export = refl; first_fault = refl }
