-- An encoding of what a DLL exports reads back.
use Rattle.std.proofs.Common.{ℕ, ◌≤◌, All, List, length, refl}
use Rattle.implib_c_calls.specs.DllExports.{DllRows, ExportFits, ExportRow, DllFits, dll_in, encoded_dll, encoded_export, export_row_in}
use Rattle.implib_c_calls.specs.Encoding.{ReadsBack, encoded_list, encoded_text, list_in, text_in}
use Rattle.implib_c_calls.proofs.ReadBack.{front_long, last_back, list_back_where, number_long, texts_back, then_number, then_text}

export_back : (r : ExportRow) (rest : List ℕ) → ReadsBack encoded_export export_row_in ExportFits r rest
unfolding export_row_in encoded_export
export_back r rest fit below =
    then_number _ r.ordinal _ rest fit.ordinal below (λ below.
    then_number _ r.kind _ rest fit.kind below (λ below.
    then_number _ r.address _ rest fit.address below (λ below.
    then_text _ r.forwarder _ rest below (λ below.
    last_back (encoded_list encoded_text) (list_in text_in) (λ names. Unit {0}) texts_back _ r.names rest tt below refl))))

export_long : (r : ExportRow) → 1 ≤ length (encoded_export r)
unfolding encoded_export
export_long r = front_long _ _ (number_long r.ordinal)

pub dll_back : (d : DllRows) (rest : List ℕ) → ReadsBack encoded_dll dll_in DllFits d rest
unfolding dll_in encoded_dll
dll_back d rest fit below =
    then_number _ d.machine _ rest fit.machine below (λ below.
    then_text _ d.dll _ rest below (λ below.
    last_back (encoded_list encoded_export) (list_in export_row_in) (All ExportFits) (list_back_where encoded_export export_row_in ExportFits export_back export_long) _ d.rows rest fit.rows below refl))
