-- What is read past the end of a list.
use Rattle.std.proofs.Common.{ℕ, List, []}
use Rattle.std.specs.Prelude.{None}
use Rattle.std.specs.Borrow.{Bor}
use Rattle.implib.specs.declared.coff.object.Place.TheVariants.{Undefined}
use Rattle.implib.specs.declared.coff.object.Relocation.{Relocation}
use Rattle.implib.specs.declared.coff.layout.LayoutSymbol.{LayoutSymbol}
use Rattle.implib.specs.declared.coff.layout.SymbolName.TheVariants.{InRecord}
use Rattle.implib.specs.declared.coff.table.SectionRow.{SectionRow}
use Rattle.implib.specs.declared.coff.table.SymbolRow.{SymbolRow}

abbrev pub no_text : Bor (List ℕ)
no_text = record { ref_ptr = (0, 0); now = [] }

abbrev pub no_symbol : LayoutSymbol
no_symbol = record { name = InRecord no_text; value = 0; section = 0; class = 0; aux = None }

abbrev pub no_relocation : Relocation
no_relocation = record { offset = 0; symbol = 0; kind = 0 }

abbrev pub no_section_row : SectionRow
no_section_row = record { name = []; flags = 0; bytes = no_text; relocations = record { ref_ptr = (0, 0); now = [] } }

abbrev pub no_symbol_row : SymbolRow
no_symbol_row = record { name = no_text; place = Undefined; class = 0; aux = None }
