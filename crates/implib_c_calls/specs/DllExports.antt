-- What a DLL exports, ordinal by ordinal, how that is encoded for C, and how an encoding is read
-- (this project's choice). What is in the file of a DLL is `implib_dll`'s `exports_in`.
use Rattle.std.specs.Prelude.{ℕ, ◌<◌, ◌^◌, All, List, [], ◌++◌, Option, map}
use Rattle.implib_dll.specs.Exports.{Address, Empty, Exports, Forwarder, Target}
use Rattle.implib_dll.specs.Rows.{Row, rows_of}
use Rattle.implib_dll.specs.declared.section.AddressKind.{AddressKind}
use Rattle.implib_dll.specs.declared.section.AddressKind.TheVariants.{Code, Data, Outside}
use Rattle.implib_c_calls.specs.Encoding.{encoded_list, encoded_number, encoded_text, found}
use Rattle.implib_c_calls.specs.Encoding.{list_in, number_in, text_in, then_in}

-- An ordinal: what it leads to, and its names in the order of the name table. The address is 0 and
-- the forwarder empty where it leads to no such thing.
pub record ExportRow : Type 0 where
  pub ordinal : ℕ
  pub kind : ℕ
  pub address : ℕ
  pub forwarder : List ℕ
  pub names : List (List ℕ)

-- A DLL: the number of its machine, the name in its export directory, and its ordinals from the
-- first on.
pub record DllRows : Type 0 where
  pub machine : ℕ
  pub dll : List ℕ
  pub rows : List ExportRow

-- the number of what is at an address: 3 where it is in no section
abbrev pub address_number : AddressKind → ℕ
address_number Code = 1
address_number Data = 2
address_number Outside = 3

-- the number of a target: 0 where the ordinal leads nowhere, 4 for an export of another DLL
abbrev pub target_number : Target → ℕ
target_number Empty = 0
target_number (Address address kind) = address_number kind
target_number (Forwarder text) = 4

-- the address of a target, from the image's base
abbrev pub target_address : Target → ℕ
target_address Empty = 0
target_address (Address address kind) = address
target_address (Forwarder text) = 0

-- the text of a forwarder, as `NTDLL.RtlAllocateHeap`
abbrev pub target_forwarder : Target → List ℕ
target_forwarder Empty = []
target_forwarder (Address address kind) = []
target_forwarder (Forwarder text) = text

-- an ordinal
abbrev pub export_row : Row → ExportRow
export_row r = record {
  ordinal = r.ordinal;
  kind = target_number r.target;
  address = target_address r.target;
  forwarder = target_forwarder r.target;
  names = r.names;
}

-- a DLL
abbrev pub dll_rows : Exports → DllRows
dll_rows e = record { machine = e.machine; dll = e.dll; rows = map export_row (rows_of e) }

-- What is written.

-- an ordinal: its fields, in order
unfoldable pub encoded_export : ExportRow → List ℕ
encoded_export r =
    encoded_number r.ordinal
    ++ (encoded_number r.kind
    ++ (encoded_number r.address
    ++ (encoded_text r.forwarder ++ encoded_list encoded_text r.names)))

-- a DLL: its fields, in order
unfoldable pub encoded_dll : DllRows → List ℕ
encoded_dll d =
    encoded_number d.machine ++ (encoded_text d.dll ++ encoded_list encoded_export d.rows)

-- How it is read. Each reader gives what it finds at the front, and the bytes after it.

-- an ordinal
unfoldable pub export_row_in : List ℕ → Option (ExportRow × List ℕ)
export_row_in =
    then_in number_in
    (λ ordinal. then_in number_in
    (λ kind. then_in number_in
    (λ address. then_in text_in
    (λ forwarder. then_in (list_in text_in)
    (λ names. found (record {
      ordinal = ordinal;
      kind = kind;
      address = address;
      forwarder = forwarder;
      names = names;
    }))))))

-- a DLL at the front of a buffer, and what follows it
unfoldable pub dll_in : List ℕ → Option (DllRows × List ℕ)
dll_in =
    then_in number_in
    (λ machine. then_in text_in
    (λ dll. then_in (list_in export_row_in)
    (λ rows. found (record { machine = machine; dll = dll; rows = rows }))))

-- the numbers of an ordinal have 64 bits
pub record ExportFits (r : ExportRow) : Type 0 where
  pub ordinal : r.ordinal < 2 ^ 64
  pub kind : r.kind < 2 ^ 64
  pub address : r.address < 2 ^ 64

-- the numbers of a DLL have 64 bits
pub record DllFits (d : DllRows) : Type 0 where
  pub machine : d.machine < 2 ^ 64
  pub rows : All ExportFits d.rows
