-- An encoding of what is told of a library beside a DLL reads back.
use Rattle.std.proofs.Common.{ℕ, ◌<◌, ◌^◌, All, List, refl}
use Rattle.implib_c_calls.specs.DllCheck.{DllTold, DllToldFits, dll_told_in, encoded_dll_told}
use Rattle.implib_c_calls.specs.Encoding.{ReadsBack, encoded_list, encoded_number, list_in, number_in}
use Rattle.implib_c_calls.proofs.ReadBack.{last_back, list_back_where, number_back, number_long, then_back}

numbers_back : (ns : List ℕ) (rest : List ℕ) → ReadsBack (encoded_list encoded_number) (list_in number_in) (All (λ n. n < 2 ^ 64)) ns rest
numbers_back = list_back_where encoded_number number_in (λ n. n < 2 ^ 64) (λ n rest fit below. number_back n rest fit) number_long

pub dll_told_back : (t : DllTold) (rest : List ℕ) → ReadsBack encoded_dll_told dll_told_in DllToldFits t rest
unfolding dll_told_in encoded_dll_told
dll_told_back t rest fit below =
    then_back (encoded_list encoded_number) (list_in number_in) (All (λ n. n < 2 ^ 64)) numbers_back _ t.members _ rest fit.members below (λ below.
    last_back (encoded_list encoded_number) (list_in number_in) (All (λ n. n < 2 ^ 64)) numbers_back _ t.unasked rest fit.unasked below refl)
