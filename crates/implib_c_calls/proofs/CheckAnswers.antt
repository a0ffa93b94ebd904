-- What is told of a library beside that of a definition.
use Rattle.std.proofs.Common.{◌≡◌, ℕ, List, Option, None, Some, refl, ap, sym}
use Rattle.std.specs.Option.{IsSome}
use Rattle.implib_compare.specs.Comparison.{verdict}
use Rattle.implib_compare.proofs.Matching.{verdict_means}
use Rattle.implib_read.specs.Archives.{Archive, archive_in}
use Rattle.implib_read.specs.Classes.{MemberRead, library_in}
use Rattle.implib_rules.specs.declared.library.Refusal.{Refusal}
use Rattle.implib_rules.specs.declared.library.Refusal.TheVariants as refusal
use Rattle.implib_rules.specs.Library.{IsLibrary, IsRefusalOfBytes}
use Rattle.implib_rules.specs.Options.{LibraryOptionsView}
use Rattle.implib_c_calls.specs.Check.{ToldFits, encoded_told, told_of, verdict_number}
use Rattle.implib_c_calls.specs.CheckAnswer.{ComparesSo, EncodesCheck}
use Rattle.implib_c_calls.specs.Given.{IsEncoding}
use Rattle.implib_c_calls.specs.LibraryWith.{IsWithin}
use Rattle.implib_c_calls.proofs.Within.{refusal_within}

-- a refusal of a text is within it
pub within_bytes : (text : List ℕ) (options : LibraryOptionsView) (why : Refusal) → IsRefusalOfBytes text options why → IsWithin text why
within_bytes text options (refusal.Archive fault) is = tt
within_bytes text options why is = refusal_within text options why is

-- what is told of a library beside that of a definition is encoded
pub encodes_check : (archive : Archive) (members meant : List MemberRead) (text : List ℕ) (options : LibraryOptionsView) (file bytes : List ℕ) → IsLibrary text options file → Some meant ≡ library_in file
    → IsEncoding encoded_told ToldFits (told_of archive members meant) bytes → EncodesCheck archive members text options bytes
encodes_check archive members meant text options file bytes is read encodes = record {
  verdict = verdict members meant;
  on = record { file = file; is_library = is; meant = meant; read = sym read; is = refl; means = verdict_means members meant };
  encodes = encodes;
}

-- and this is what is told of the library that is read
pub compares_so : (library text : List ℕ) (options : LibraryOptionsView) (archive : Archive) (members : List MemberRead) (bytes : List ℕ) → Some archive ≡ archive_in library → Some members ≡ library_in library
    → (encodes : EncodesCheck archive members text options bytes) → ComparesSo library text options (told_of archive members encodes.on.meant)
compares_so library text options archive members bytes is_archive read encodes = record {
  archive = archive;
  members = members;
  is_archive = sym is_archive;
  read = sym read;
  verdict = encodes.verdict;
  on = encodes.on;
  is = refl;
  verdict_is = ap verdict_number (sym encodes.on.is);
}

-- some library is read
pub some_read : {A : Type 0} (found : A) (read : Option A) → Some found ≡ read → IsSome read
some_read found (Some other) is = refl
some_read found None is = cc
