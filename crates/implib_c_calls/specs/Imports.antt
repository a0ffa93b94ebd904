-- What a library of any maker imports, row by row, how the rows are encoded for C, and how an
-- encoding is read (this project's choice). What the members of a library are for is
-- `implib_read`'s `library_in`.
use Rattle.std.specs.Prelude.{ℕ, ◌<◌, ◌^◌, List, [], ◌++◌, Option, map}
use Rattle.std.specs.Option.{option_map}
use Rattle.implib.specs.Import.{Ask, Name, Ordinal}
use Rattle.implib_read.specs.Classes.{AnAlias, AnImport, Class, DelayImport, Descriptor, Head}
use Rattle.implib_read.specs.Classes.{Imported, MemberRead, NotUnderstood, NullDescriptor}
use Rattle.implib_read.specs.Classes.{NullThunk, Other, Tail, library_in}
use Rattle.implib_read.specs.declared.import.ImportKind.{ImportKind}
use Rattle.implib_read.specs.declared.import.ImportKind.TheVariants.{Code, CodeOrConst, Const, Data}
use Rattle.implib_read.specs.declared.import.ImportKind.TheVariants.{Delayed}
use Rattle.implib_read.specs.Symbols.{linked_symbol}
use Rattle.implib_c_calls.specs.Encoding.{encoded_list, encoded_number, encoded_text, found}
use Rattle.implib_c_calls.specs.Encoding.{list_in, number_in, text_in, then_in}

-- A member of a library: what it is for, the offset of its header in the library, and what it
-- imports. The rest is 0 or empty where it imports nothing.
pub record Row : Type 0 where
  pub kind : ℕ
  pub offset : ℕ
  pub dll : List ℕ
  pub symbol : List ℕ
  pub machine : ℕ
  pub by_name : ℕ
  pub asked : List ℕ
  pub number : ℕ

-- the number of a kind of imports; those of other members are 5 to 9
abbrev pub kind_number : ImportKind → ℕ
kind_number Code = 1
kind_number Data = 2
kind_number Const = 3
kind_number CodeOrConst = 4
kind_number Delayed = 10

-- 1 where a name is asked for, and 0 where an ordinal is
abbrev pub by_name_of : Ask → ℕ
by_name_of (Name name hint) = 1
by_name_of (Ordinal ordinal) = 0

-- the name that is asked for, if one is
abbrev pub name_of : Ask → List ℕ
name_of (Name name hint) = name
name_of (Ordinal ordinal) = []

-- the hint of the name that is asked for, or the ordinal
abbrev pub number_of : Ask → ℕ
number_of (Name name hint) = hint
number_of (Ordinal ordinal) = ordinal

-- an import
abbrev pub import_row : ℕ → Imported → Row
import_row offset i = record {
  kind = kind_number i.kind;
  offset = offset;
  dll = i.imports.dll;
  symbol = linked_symbol i.imports.declared;
  machine = i.machine;
  by_name = by_name_of i.imports.ask;
  asked = name_of i.imports.ask;
  number = number_of i.imports.ask;
}

-- an alias, by the names of its two symbols
abbrev pub alias_row : ℕ → List ℕ → List ℕ → Row
alias_row offset weak target = record {
  kind = 5;
  offset = offset;
  dll = [];
  symbol = weak;
  machine = 0;
  by_name = 1;
  asked = target;
  number = 0;
}

-- a member of another kind
abbrev pub other_row : ℕ → ℕ → Row
other_row kind offset = record {
  kind = kind;
  offset = offset;
  dll = [];
  symbol = [];
  machine = 0;
  by_name = 0;
  asked = [];
  number = 0;
}

-- a member that is for this: 6 for a part of the import tables, 7 for one of delayed imports, 8 for
-- another object, and 9 for what is not understood
abbrev pub row_with : ℕ → Class → Row
row_with offset (AnImport i) = import_row offset i
row_with offset (AnAlias a) = alias_row offset a.weak a.target
row_with offset Descriptor = other_row 6 offset
row_with offset NullDescriptor = other_row 6 offset
row_with offset NullThunk = other_row 6 offset
row_with offset Head = other_row 6 offset
row_with offset Tail = other_row 6 offset
row_with offset DelayImport = other_row 7 offset
row_with offset Other = other_row 8 offset
row_with offset NotUnderstood = other_row 9 offset

-- a member
abbrev pub row_of : MemberRead → Row
row_of m = row_with m.offset m.class

-- The rows of the library in these bytes: one for each member, in order. There are none where the
-- bytes are no archive.
abbrev pub rows_of : List ℕ → Option (List Row)
rows_of bytes = option_map (map row_of) (library_in bytes)

-- What is written.

-- a row: its fields, in order
unfoldable pub encoded_row : Row → List ℕ
encoded_row r =
    encoded_number r.kind
    ++ (encoded_number r.offset
    ++ (encoded_text r.dll
    ++ (encoded_text r.symbol
    ++ (encoded_number r.machine
    ++ (encoded_number r.by_name
    ++ (encoded_text r.asked
    ++ encoded_number r.number))))))

-- the rows, in order
unfoldable pub encoded_rows : List Row → List ℕ
encoded_rows rows = encoded_list encoded_row rows

-- How it is read. Each reader gives what it finds at the front, and the bytes after it.

-- a row
unfoldable pub row_in : List ℕ → Option (Row × List ℕ)
row_in =
    then_in number_in
    (λ kind. then_in number_in
    (λ offset. then_in text_in
    (λ dll. then_in text_in
    (λ symbol. then_in number_in
    (λ machine. then_in number_in
    (λ by_name. then_in text_in
    (λ asked. then_in number_in
    (λ number. found (record {
      kind = kind;
      offset = offset;
      dll = dll;
      symbol = symbol;
      machine = machine;
      by_name = by_name;
      asked = asked;
      number = number;
    })))))))))

-- the rows at the front of a buffer, and what follows them
unfoldable pub rows_in : List ℕ → Option (List Row × List ℕ)
rows_in = list_in row_in

-- the numbers have 64 bits
pub record Fits (r : Row) : Type 0 where
  pub kind : r.kind < 2 ^ 64
  pub offset : r.offset < 2 ^ 64
  pub machine : r.machine < 2 ^ 64
  pub by_name : r.by_name < 2 ^ 64
  pub number : r.number < 2 ^ 64
