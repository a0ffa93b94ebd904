use Rattle.std.proofs.Common.{◌≡◌, ℕ, ◌+◌, ◌*◌, ◌++◌, ◌%◌, List, ap, arith, flat_map, length, sym}
use Rattle.std.proofs.lemmas.List.{length-map}
use Rattle.implib_archive.specs.Archive.{strings_of}
use Rattle.implib_archive.specs.Parts.{header_bytes, u16_le, u32_le}
use Rattle.implib_archive.specs.Pushed.{shown}
use Rattle.implib_archive.proofs.Appended.{pushes_as}
use Rattle.implib_archive.proofs.Behind.{begins_behind, begins_first, begins_longer, begins_padded, begins_put, begins_whole, behind_padded, behind_pushed, behind_put, behind_then}
use Rattle.implib_archive.proofs.Puts.{writes_err}
use Rattle.implib_arm64ec.specs.Archive.{ec_index, ec_label, ec_part}
use Rattle.implib_arm64ec.proofs.Accepted.{length-ec_index}
use Rattle.implib_arm64ec.proofs.ec_index.write_index.Goals as goal

pub returns-in_err-write_numbers : goal.returns-in_err-write_numbers
unfolding ec_index ec_part
returns-in_err-write_numbers g c =
    let entries = shown c.args.entries.now in
    let numbers = flat_map (λ (e : List ℕ × ℕ). u16_le e.1) entries in
    let count : length entries ≡ length c.args.entries.now = length-map c.args.entries.now (λ e. (e.0.now, e.1)) in
    let size = 4 + 2 * length c.args.entries.now + c.strings_size.result in
    let long : length (ec_index entries) ≡ size = omega (arith, length-ec_index entries, count, c.strings_size.ensures, c.requires.short) in
    let header = pushes_as (ap (λ l. header_bytes l (size + size % 2)) c.index_label.ensures) c.in_ok-push_header.ensures in
    let counted = behind_pushed (g.W.Write.contents c.args.writer.now) (pushes_as (ap u32_le (sym count)) c.in_ok-push_u32_le.ensures) in
    writes_err c.from_residual-in_err-write_numbers.result _ _ _ c.from_residual-in_err-write_numbers.ensures.0
    (begins_first _ _ (ec_part entries) c.requires.empty (begins_padded _ _ ec_label 0 size (ec_index entries) long header
    (begins_longer _ _ _ (u32_le (length entries) ++ numbers) (strings_of entries) (begins_behind _ _ _ numbers counted c.in_err-write_numbers.ensures))))

pub returns-in_err-write_strings : goal.returns-in_err-write_strings
unfolding ec_index ec_part
returns-in_err-write_strings g c =
    let entries = shown c.args.entries.now in
    let numbers = flat_map (λ (e : List ℕ × ℕ). u16_le e.1) entries in
    let count : length entries ≡ length c.args.entries.now = length-map c.args.entries.now (λ e. (e.0.now, e.1)) in
    let size = 4 + 2 * length c.args.entries.now + c.strings_size.result in
    let long : length (ec_index entries) ≡ size = omega (arith, length-ec_index entries, count, c.strings_size.ensures, c.requires.short) in
    let header = pushes_as (ap (λ l. header_bytes l (size + size % 2)) c.index_label.ensures) c.in_ok-push_header.ensures in
    let counted = behind_pushed (g.W.Write.contents c.args.writer.now) (pushes_as (ap u32_le (sym count)) c.in_ok-push_u32_le.ensures) in
    let numbered = behind_then _ _ _ counted c.in_ok-write_numbers.ensures in
    writes_err c.from_residual-in_err-write_strings.result _ _ _ c.from_residual-in_err-write_strings.ensures.0
    (begins_first _ _ (ec_part entries) c.requires.empty (begins_padded _ _ ec_label 0 size (ec_index entries) long header
    (begins_behind _ _ _ (strings_of entries) numbered c.in_err-write_strings.ensures)))

pub returns-in_err-push_padding : goal.returns-in_err-push_padding
unfolding ec_index ec_part
returns-in_err-push_padding g c =
    let entries = shown c.args.entries.now in
    let numbers = flat_map (λ (e : List ℕ × ℕ). u16_le e.1) entries in
    let count : length entries ≡ length c.args.entries.now = length-map c.args.entries.now (λ e. (e.0.now, e.1)) in
    let size = 4 + 2 * length c.args.entries.now + c.strings_size.result in
    let long : length (ec_index entries) ≡ size = omega (arith, length-ec_index entries, count, c.strings_size.ensures, c.requires.short) in
    let header = pushes_as (ap (λ l. header_bytes l (size + size % 2)) c.index_label.ensures) c.in_ok-push_header.ensures in
    let counted = behind_pushed (g.W.Write.contents c.args.writer.now) (pushes_as (ap u32_le (sym count)) c.in_ok-push_u32_le.ensures) in
    let numbered = behind_then _ _ _ counted c.in_ok-write_numbers.ensures in
    let named = behind_then _ _ _ numbered c.in_ok-write_strings.ensures in
    writes_err c.from_residual-in_err-push_padding.result _ _ _ c.from_residual-in_err-push_padding.ensures.0
    (begins_first _ _ (ec_part entries) c.requires.empty (begins_padded _ _ ec_label 0 size (ec_index entries) long header (begins_whole named)))

pub returns-in_err-put : goal.returns-in_err-put
unfolding ec_index ec_part
returns-in_err-put g c =
    let entries = shown c.args.entries.now in
    let numbers = flat_map (λ (e : List ℕ × ℕ). u16_le e.1) entries in
    let count : length entries ≡ length c.args.entries.now = length-map c.args.entries.now (λ e. (e.0.now, e.1)) in
    let size = 4 + 2 * length c.args.entries.now + c.strings_size.result in
    let long : length (ec_index entries) ≡ size = omega (arith, length-ec_index entries, count, c.strings_size.ensures, c.requires.short) in
    let header = pushes_as (ap (λ l. header_bytes l (size + size % 2)) c.index_label.ensures) c.in_ok-push_header.ensures in
    let counted = behind_pushed (g.W.Write.contents c.args.writer.now) (pushes_as (ap u32_le (sym count)) c.in_ok-push_u32_le.ensures) in
    let numbered = behind_then _ _ _ counted c.in_ok-write_numbers.ensures in
    let named = behind_then _ _ _ numbered c.in_ok-write_strings.ensures in
    let whole = behind_padded _ _ ec_label 0 size (ec_index entries) long header named c.in_ok-push_padding.ensures in
    writes_err c.from_residual-in_err-put.result _ _ _ c.from_residual-in_err-put.ensures.0
    (begins_put _ _ _ c.requires.empty whole c.as_slice.ensures.value c.in_err-put.ensures)

pub returns : goal.returns
unfolding ec_index ec_part
returns g c =
    let entries = shown c.args.entries.now in
    let numbers = flat_map (λ (e : List ℕ × ℕ). u16_le e.1) entries in
    let count : length entries ≡ length c.args.entries.now = length-map c.args.entries.now (λ e. (e.0.now, e.1)) in
    let size = 4 + 2 * length c.args.entries.now + c.strings_size.result in
    let long : length (ec_index entries) ≡ size = omega (arith, length-ec_index entries, count, c.strings_size.ensures, c.requires.short) in
    let header = pushes_as (ap (λ l. header_bytes l (size + size % 2)) c.index_label.ensures) c.in_ok-push_header.ensures in
    let counted = behind_pushed (g.W.Write.contents c.args.writer.now) (pushes_as (ap u32_le (sym count)) c.in_ok-push_u32_le.ensures) in
    let numbered = behind_then _ _ _ counted c.in_ok-write_numbers.ensures in
    let named = behind_then _ _ _ numbered c.in_ok-write_strings.ensures in
    let whole = behind_padded _ _ ec_label 0 size (ec_index entries) long header named c.in_ok-push_padding.ensures in
    behind_put _ _ _ c.requires.empty whole c.as_slice.ensures.value c.in_ok-put.ensures
