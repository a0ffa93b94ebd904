use Rattle.std.proofs.Common.{arith}
use Rattle.implib.specs.Formats.Layout.{contents, encoded, string_offsets, symbol_bytes}
use Rattle.implib.specs.Views.Layout.{layout_view, symbol_view}
use Rattle.implib.specs.Formats.Writer.{section_view}
use Rattle.implib.proofs.Formats.Pass.{puts_both}
use Rattle.implib.proofs.Formats.LayoutSizes.{few_relocations, headers_place, sizes, symbol_auxiliaries, symbol_names}
use Rattle.implib.proofs.Formats.Sums.{flat_map-map}
use Rattle.implib.proofs.coff.layout.put_object.Goals as goal

pub put_file_header-requires-clause-room : goal.put_file_header-requires-clause-room
put_file_header-requires-clause-room c = let s = sizes c.args.layout.now c.requires.fits c.requires.measured.short in omega (arith, s)

pub put_section_headers-requires-clause-room : goal.put_section_headers-requires-clause-room
put_section_headers-requires-clause-room c = let s = sizes c.args.layout.now c.requires.fits c.requires.measured.short in omega (arith, s)

pub put_section_headers-requires-clause-short : goal.put_section_headers-requires-clause-short
put_section_headers-requires-clause-short c = let s = sizes c.args.layout.now c.requires.fits c.requires.measured.short in omega (arith, s)

pub put_section_headers-requires-clause-count : goal.put_section_headers-requires-clause-count
put_section_headers-requires-clause-count c = few_relocations c.args.layout.now.sections.now c.requires.fits.sections

pub put_contents-requires : goal.put_contents-requires
put_contents-requires c = let s = sizes c.args.layout.now c.requires.fits c.requires.measured.short in omega (arith, s)

pub put_symbols-requires-clause-room : goal.put_symbols-requires-clause-room
put_symbols-requires-clause-room c =
    let s = sizes c.args.layout.now c.requires.fits c.requires.measured.short in
    rw c.requires.offsets (omega (arith, s))

pub put_symbols-requires-clause-fits : goal.put_symbols-requires-clause-fits
put_symbols-requires-clause-fits c =
    rw c.requires.offsets (symbol_names (layout_view c.args.layout.now).strings c.args.layout.now.symbols.now c.requires.fits.symbols)

pub put_symbols-requires-clause-aux : goal.put_symbols-requires-clause-aux
put_symbols-requires-clause-aux c =
    symbol_auxiliaries (layout_view c.args.layout.now).strings c.args.layout.now.symbols.now c.requires.fits.symbols

pub put_string_table-requires-clause-room : goal.put_string_table-requires-clause-room
put_string_table-requires-clause-room c =
    let s = sizes c.args.layout.now c.requires.fits c.requires.measured.short in
    let symbols = rw c.requires.offsets at c.put_symbols.ensures.left in
    omega (arith, s, symbols)

pub returns : goal.returns
unfolding encoded
returns c =
    rw (
      headers_place c.args.layout.now,
      flat_map-map contents section_view c.args.layout.now.sections.now,
      flat_map-map (symbol_bytes (string_offsets (layout_view c.args.layout.now).strings)) symbol_view c.args.layout.now.symbols.now,
      ← c.requires.offsets,
    )
    (puts_both c.put_file_header.ensures
    (puts_both c.put_section_headers.ensures
    (puts_both c.put_contents.ensures
    (puts_both c.put_symbols.ensures c.put_string_table.ensures))))
