-- A member before it is encoded: its name, its file, and the symbols that an archive lists for it.
use Rattle.std.specs.Prelude.{ℕ, List}
use Rattle.implib.specs.Members.Msvc.{short_import_size, short_import_bytes}
use Rattle.implib.specs.Formats.Layout.{ObjectLayout, encoded, encoded_size}
use Rattle.implib.specs.Formats.ShortImport.{ShortImport}

-- what a member shows
pub record MemberView : Type 0 where
  pub name : List ℕ
  pub bytes : List ℕ
  pub symbols : List (List ℕ)

-- what a member's file is: a short import, or an object
pub data Contents : Type 0 where
  AShortImport : ShortImport → Contents
  AnObject : ObjectLayout → Contents

-- the specification of a member: its name, its file before encoding, and its archive symbols
pub record MemberSpec : Type 0 where
  pub name : List ℕ
  pub contents : Contents
  pub symbols : List (List ℕ)

-- the size in bytes of a member's file
abbrev pub file_size : Contents → ℕ
file_size (AShortImport r) = short_import_size r
file_size (AnObject p) = encoded_size p

-- a member's file
abbrev pub file_bytes : Contents → List ℕ
file_bytes (AShortImport r) = short_import_bytes r
file_bytes (AnObject p) = encoded p

-- a member, encoded
abbrev pub member_of : MemberSpec → MemberView
member_of p = record { name = p.name; bytes = file_bytes p.contents; symbols = p.symbols }
