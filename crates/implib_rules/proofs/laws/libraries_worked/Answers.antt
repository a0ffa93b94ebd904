use Rattle.std.proofs.Common.{rules}
use Rattle.hex.specs.Hex.{encode_with}
use Rattle.md5.specs.Md5.{block_words, rounds, compress, hash_after, digest_bytes, md5}
use Rattle.implib_rules.specs.LibraryName.{gnu_library_name}
use Rattle.implib_rules.specs.Names.{part_after_last}
use Rattle.implib_rules.specs.Repeats.{without_repeated}
use Rattle.implib_rules.specs.WorkedLibraryNames.{GnuLibrariesNamed}
use Rattle.implib_rules.proofs.laws.libraries_worked.Goals as goal

gnu : GnuLibrariesNamed
unfolding encode_with block_words rounds compress hash_after digest_bytes md5 gnu_library_name
gnu = search rules

pub returns : goal.returns
unfolding part_after_last without_repeated
returns c = search (rules, gnu)
