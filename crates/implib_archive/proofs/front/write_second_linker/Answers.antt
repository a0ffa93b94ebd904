use Rattle.std.proofs.Common.{◌≡◌, ℕ, ◌+◌, ◌*◌, ◌++◌, ◌%◌, List, ap, arith, flat_map, length, sym}
use Rattle.std.proofs.lemmas.List.{length-map}
use Rattle.implib_archive.specs.Archive.{linker_label, second_linker, strings_of}
use Rattle.implib_archive.specs.Parts.{header_bytes, u16_le, u32_le}
use Rattle.implib_archive.specs.Pushed.{shown}
use Rattle.implib_archive.proofs.Appended.{pushes_as}
use Rattle.implib_archive.proofs.Behind.{begins_behind, begins_longer, begins_padded, begins_so_far, begins_whole, behind_err, behind_padded, behind_pushed, behind_then}
use Rattle.implib_archive.proofs.Sized.{length-second_linker}
use Rattle.implib_archive.proofs.front.write_second_linker.Goals as goal

pub returns-in_err-write_places : goal.returns-in_err-write_places
unfolding second_linker
returns-in_err-write_places g c =
    let sorted = shown c.args.sorted.now in
    let places = c.args.places.now in
    let count : length sorted ≡ length c.args.sorted.now = length-map c.args.sorted.now (λ e. (e.0.now, e.1)) in
    let size = 8 + 4 * length places + 2 * length c.args.sorted.now + c.strings_size.result in
    let long : length (second_linker places sorted) ≡ size = omega (arith, length-second_linker places sorted, count, c.strings_size.ensures, c.requires.short) in
    let header = pushes_as (ap (λ l. header_bytes l (size + size % 2)) c.linker_label.ensures) c.in_ok-push_header.ensures in
    let counted = behind_pushed (g.W.Write.contents c.args.writer.now) c.in_ok-push_u32_le.ensures in
    behind_err c.from_residual-in_err-write_places.result _ _ _ _ _ c.from_residual-in_err-write_places.ensures.0
    (begins_padded _ _ linker_label 0 size (second_linker places sorted) long header
    (begins_longer _ _ _ (u32_le (length places) ++ flat_map u32_le places ++ u32_le (length sorted) ++ flat_map (λ (e : List ℕ × ℕ). u16_le e.1) sorted) (strings_of sorted) (begins_longer _ _ _ (u32_le (length places) ++ flat_map u32_le places ++ u32_le (length sorted)) (flat_map (λ (e : List ℕ × ℕ). u16_le e.1) sorted) (begins_longer _ _ _ (u32_le (length places) ++ flat_map u32_le places) (u32_le (length sorted)) (begins_behind _ _ _ (flat_map u32_le places) counted c.in_err-write_places.ensures)))))

pub returns-in_err-push_u32_le-2 : goal.returns-in_err-push_u32_le-2
unfolding second_linker
returns-in_err-push_u32_le-2 g c =
    let sorted = shown c.args.sorted.now in
    let places = c.args.places.now in
    let count : length sorted ≡ length c.args.sorted.now = length-map c.args.sorted.now (λ e. (e.0.now, e.1)) in
    let size = 8 + 4 * length places + 2 * length c.args.sorted.now + c.strings_size.result in
    let long : length (second_linker places sorted) ≡ size = omega (arith, length-second_linker places sorted, count, c.strings_size.ensures, c.requires.short) in
    let header = pushes_as (ap (λ l. header_bytes l (size + size % 2)) c.linker_label.ensures) c.in_ok-push_header.ensures in
    let counted = behind_pushed (g.W.Write.contents c.args.writer.now) c.in_ok-push_u32_le.ensures in
    let placed = behind_then _ _ _ counted c.in_ok-write_places.ensures in
    behind_err c.from_residual-in_err-push_u32_le-2.result _ _ _ _ _ c.from_residual-in_err-push_u32_le-2.ensures.0
    (begins_padded _ _ linker_label 0 size (second_linker places sorted) long header
    (begins_longer _ _ _ (u32_le (length places) ++ flat_map u32_le places ++ u32_le (length sorted) ++ flat_map (λ (e : List ℕ × ℕ). u16_le e.1) sorted) (strings_of sorted) (begins_longer _ _ _ (u32_le (length places) ++ flat_map u32_le places ++ u32_le (length sorted)) (flat_map (λ (e : List ℕ × ℕ). u16_le e.1) sorted) (begins_so_far _ _ (u32_le (length sorted)) placed))))

pub returns-in_err-write_numbers : goal.returns-in_err-write_numbers
unfolding second_linker
returns-in_err-write_numbers g c =
    let sorted = shown c.args.sorted.now in
    let places = c.args.places.now in
    let count : length sorted ≡ length c.args.sorted.now = length-map c.args.sorted.now (λ e. (e.0.now, e.1)) in
    let size = 8 + 4 * length places + 2 * length c.args.sorted.now + c.strings_size.result in
    let long : length (second_linker places sorted) ≡ size = omega (arith, length-second_linker places sorted, count, c.strings_size.ensures, c.requires.short) in
    let header = pushes_as (ap (λ l. header_bytes l (size + size % 2)) c.linker_label.ensures) c.in_ok-push_header.ensures in
    let counted = behind_pushed (g.W.Write.contents c.args.writer.now) c.in_ok-push_u32_le.ensures in
    let placed = behind_then _ _ _ counted c.in_ok-write_places.ensures in
    let listed = behind_then _ _ _ placed (behind_pushed _ (pushes_as (ap u32_le (sym count)) c.in_ok-push_u32_le-2.ensures)) in
    behind_err c.from_residual-in_err-write_numbers.result _ _ _ _ _ c.from_residual-in_err-write_numbers.ensures.0
    (begins_padded _ _ linker_label 0 size (second_linker places sorted) long header
    (begins_longer _ _ _ (u32_le (length places) ++ flat_map u32_le places ++ u32_le (length sorted) ++ flat_map (λ (e : List ℕ × ℕ). u16_le e.1) sorted) (strings_of sorted) (begins_behind _ _ _ (flat_map (λ (e : List ℕ × ℕ). u16_le e.1) sorted) listed c.in_err-write_numbers.ensures)))

pub returns-in_err-write_strings : goal.returns-in_err-write_strings
unfolding second_linker
returns-in_err-write_strings g c =
    let sorted = shown c.args.sorted.now in
    let places = c.args.places.now in
    let count : length sorted ≡ length c.args.sorted.now = length-map c.args.sorted.now (λ e. (e.0.now, e.1)) in
    let size = 8 + 4 * length places + 2 * length c.args.sorted.now + c.strings_size.result in
    let long : length (second_linker places sorted) ≡ size = omega (arith, length-second_linker places sorted, count, c.strings_size.ensures, c.requires.short) in
    let header = pushes_as (ap (λ l. header_bytes l (size + size % 2)) c.linker_label.ensures) c.in_ok-push_header.ensures in
    let counted = behind_pushed (g.W.Write.contents c.args.writer.now) c.in_ok-push_u32_le.ensures in
    let placed = behind_then _ _ _ counted c.in_ok-write_places.ensures in
    let listed = behind_then _ _ _ placed (behind_pushed _ (pushes_as (ap u32_le (sym count)) c.in_ok-push_u32_le-2.ensures)) in
    let numbered = behind_then _ _ _ listed c.in_ok-write_numbers.ensures in
    behind_err c.from_residual-in_err-write_strings.result _ _ _ _ _ c.from_residual-in_err-write_strings.ensures.0
    (begins_padded _ _ linker_label 0 size (second_linker places sorted) long header
    (begins_behind _ _ _ (strings_of sorted) numbered c.in_err-write_strings.ensures))

pub returns-in_err-push_padding : goal.returns-in_err-push_padding
unfolding second_linker
returns-in_err-push_padding g c =
    let sorted = shown c.args.sorted.now in
    let places = c.args.places.now in
    let count : length sorted ≡ length c.args.sorted.now = length-map c.args.sorted.now (λ e. (e.0.now, e.1)) in
    let size = 8 + 4 * length places + 2 * length c.args.sorted.now + c.strings_size.result in
    let long : length (second_linker places sorted) ≡ size = omega (arith, length-second_linker places sorted, count, c.strings_size.ensures, c.requires.short) in
    let header = pushes_as (ap (λ l. header_bytes l (size + size % 2)) c.linker_label.ensures) c.in_ok-push_header.ensures in
    let counted = behind_pushed (g.W.Write.contents c.args.writer.now) c.in_ok-push_u32_le.ensures in
    let placed = behind_then _ _ _ counted c.in_ok-write_places.ensures in
    let listed = behind_then _ _ _ placed (behind_pushed _ (pushes_as (ap u32_le (sym count)) c.in_ok-push_u32_le-2.ensures)) in
    let numbered = behind_then _ _ _ listed c.in_ok-write_numbers.ensures in
    let named = behind_then _ _ _ numbered c.in_ok-write_strings.ensures in
    behind_err c.from_residual-in_err-push_padding.result _ _ _ _ _ c.from_residual-in_err-push_padding.ensures.0
    (begins_padded _ _ linker_label 0 size (second_linker places sorted) long header
    (begins_whole named))

pub returns : goal.returns
unfolding second_linker
returns g c =
    let sorted = shown c.args.sorted.now in
    let places = c.args.places.now in
    let count : length sorted ≡ length c.args.sorted.now = length-map c.args.sorted.now (λ e. (e.0.now, e.1)) in
    let size = 8 + 4 * length places + 2 * length c.args.sorted.now + c.strings_size.result in
    let long : length (second_linker places sorted) ≡ size = omega (arith, length-second_linker places sorted, count, c.strings_size.ensures, c.requires.short) in
    let header = pushes_as (ap (λ l. header_bytes l (size + size % 2)) c.linker_label.ensures) c.in_ok-push_header.ensures in
    let counted = behind_pushed (g.W.Write.contents c.args.writer.now) c.in_ok-push_u32_le.ensures in
    let placed = behind_then _ _ _ counted c.in_ok-write_places.ensures in
    let listed = behind_then _ _ _ placed (behind_pushed _ (pushes_as (ap u32_le (sym count)) c.in_ok-push_u32_le-2.ensures)) in
    let numbered = behind_then _ _ _ listed c.in_ok-write_numbers.ensures in
    let named = behind_then _ _ _ numbered c.in_ok-write_strings.ensures in
    behind_padded _ _ linker_label 0 size (second_linker places sorted) long header named c.in_ok-push_padding.ensures
