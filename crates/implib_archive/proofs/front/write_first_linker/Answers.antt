use Rattle.std.proofs.Common.{◌≡◌, ℕ, ◌+◌, ◌*◌, ◌++◌, ◌%◌, List, ap, arith, flat_map, length, sym}
use Rattle.std.proofs.lemmas.List.{length-map}
use Rattle.implib_archive.specs.Archive.{first_linker, linker_label, place_of, strings_of}
use Rattle.implib_archive.specs.Parts.{header_bytes, u32_be}
use Rattle.implib_archive.specs.Pushed.{shown}
use Rattle.implib_archive.proofs.Appended.{pushes_as}
use Rattle.implib_archive.proofs.Behind.{begins_behind, begins_longer, begins_padded, begins_whole, behind_err, behind_padded, behind_pushed, behind_then}
use Rattle.implib_archive.proofs.Sized.{length-first_linker}
use Rattle.implib_archive.proofs.front.write_first_linker.Goals as goal

pub returns-in_err-write_entry_places : goal.returns-in_err-write_entry_places
unfolding first_linker
returns-in_err-write_entry_places g c =
    let entries = shown c.args.entries.now in
    let places = c.args.places.now in
    let count : length entries ≡ length c.args.entries.now = length-map c.args.entries.now (λ e. (e.0.now, e.1)) in
    let size = 4 + 4 * length c.args.entries.now + c.strings_size.result in
    let long : length (first_linker places entries) ≡ size = omega (arith, length-first_linker places entries, count, c.strings_size.ensures, c.requires.short) in
    let header = pushes_as (ap (λ l. header_bytes l (size + size % 2)) c.linker_label.ensures) c.in_ok-push_header.ensures in
    let counted = behind_pushed (g.W.Write.contents c.args.writer.now) (pushes_as (ap u32_be (sym count)) c.in_ok-push_u32_be.ensures) in
    behind_err c.from_residual-in_err-write_entry_places.result _ _ _ _ _ c.from_residual-in_err-write_entry_places.ensures.0
    (begins_padded _ _ linker_label 0 size (first_linker places entries) long header
    (begins_longer _ _ _ (u32_be (length entries) ++ flat_map (λ (e : List ℕ × ℕ). u32_be (place_of places e.1)) entries) (strings_of entries) (begins_behind _ _ _ (flat_map (λ (e : List ℕ × ℕ). u32_be (place_of places e.1)) entries) counted c.in_err-write_entry_places.ensures)))

pub returns-in_err-write_strings : goal.returns-in_err-write_strings
unfolding first_linker
returns-in_err-write_strings g c =
    let entries = shown c.args.entries.now in
    let places = c.args.places.now in
    let count : length entries ≡ length c.args.entries.now = length-map c.args.entries.now (λ e. (e.0.now, e.1)) in
    let size = 4 + 4 * length c.args.entries.now + c.strings_size.result in
    let long : length (first_linker places entries) ≡ size = omega (arith, length-first_linker places entries, count, c.strings_size.ensures, c.requires.short) in
    let header = pushes_as (ap (λ l. header_bytes l (size + size % 2)) c.linker_label.ensures) c.in_ok-push_header.ensures in
    let counted = behind_pushed (g.W.Write.contents c.args.writer.now) (pushes_as (ap u32_be (sym count)) c.in_ok-push_u32_be.ensures) in
    let placed = behind_then _ _ _ counted c.in_ok-write_entry_places.ensures in
    behind_err c.from_residual-in_err-write_strings.result _ _ _ _ _ c.from_residual-in_err-write_strings.ensures.0
    (begins_padded _ _ linker_label 0 size (first_linker places entries) long header
    (begins_behind _ _ _ (strings_of entries) placed c.in_err-write_strings.ensures))

pub returns-in_err-push_padding : goal.returns-in_err-push_padding
unfolding first_linker
returns-in_err-push_padding g c =
    let entries = shown c.args.entries.now in
    let places = c.args.places.now in
    let count : length entries ≡ length c.args.entries.now = length-map c.args.entries.now (λ e. (e.0.now, e.1)) in
    let size = 4 + 4 * length c.args.entries.now + c.strings_size.result in
    let long : length (first_linker places entries) ≡ size = omega (arith, length-first_linker places entries, count, c.strings_size.ensures, c.requires.short) in
    let header = pushes_as (ap (λ l. header_bytes l (size + size % 2)) c.linker_label.ensures) c.in_ok-push_header.ensures in
    let counted = behind_pushed (g.W.Write.contents c.args.writer.now) (pushes_as (ap u32_be (sym count)) c.in_ok-push_u32_be.ensures) in
    let placed = behind_then _ _ _ counted c.in_ok-write_entry_places.ensures in
    let named = behind_then _ _ _ placed c.in_ok-write_strings.ensures in
    behind_err c.from_residual-in_err-push_padding.result _ _ _ _ _ c.from_residual-in_err-push_padding.ensures.0
    (begins_padded _ _ linker_label 0 size (first_linker places entries) long header
    (begins_whole named))

pub returns : goal.returns
unfolding first_linker
returns g c =
    let entries = shown c.args.entries.now in
    let places = c.args.places.now in
    let count : length entries ≡ length c.args.entries.now = length-map c.args.entries.now (λ e. (e.0.now, e.1)) in
    let size = 4 + 4 * length c.args.entries.now + c.strings_size.result in
    let long : length (first_linker places entries) ≡ size = omega (arith, length-first_linker places entries, count, c.strings_size.ensures, c.requires.short) in
    let header = pushes_as (ap (λ l. header_bytes l (size + size % 2)) c.linker_label.ensures) c.in_ok-push_header.ensures in
    let counted = behind_pushed (g.W.Write.contents c.args.writer.now) (pushes_as (ap u32_be (sym count)) c.in_ok-push_u32_be.ensures) in
    let placed = behind_then _ _ _ counted c.in_ok-write_entry_places.ensures in
    let named = behind_then _ _ _ placed c.in_ok-write_strings.ensures in
    behind_padded _ _ linker_label 0 size (first_linker places entries) long header named c.in_ok-push_padding.ensures
