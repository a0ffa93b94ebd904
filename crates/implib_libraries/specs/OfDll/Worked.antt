-- What meets the premises of the law, worked by hand, and what does not.
use Rattle.std.specs.Prelude.{◌≡◌, true, false, [], ◌∷◌, Some, codes}
use Rattle.implib.specs.declared.flavor.Flavor.TheVariants.{Msvc, Gnu}
use Rattle.implib.specs.declared.machine.MachineType.TheVariants.{AMD64, I386}
use Rattle.implib.specs.Import.{Import, Ordinal}
use Rattle.implib_dll.specs.WorkedFiles.{named, worked_exports}
use Rattle.implib_libraries.specs.FromDll.Laws.{Fits}
use Rattle.implib_rules.specs.Additions.{no_additions}
use Rattle.implib_rules.specs.Linked.{NamingView}
use Rattle.implib_rules.specs.Options.{LibraryOptionsView}
use Rattle.implib_libraries.specs.OfDll.Libraries.{AsksForWords, GnuReadsAs, ReadsAs, words_differ}

-- names as they are read without an option
abbrev pub usual : NamingView
usual = record { is_plain = false; kills_at = false; exports_as = false; keeps_decorated = false }

-- for Microsoft's linker on AMD64, and for GNU's on I386 with symbols as they are written
abbrev pub for_msvc : LibraryOptionsView
for_msvc = record {
  machine = AMD64;
  flavor = Msvc;
  dll = Some (codes "w.dll");
  naming = usual;
  additions = no_additions;
}

abbrev pub for_gnu : LibraryOptionsView
for_gnu = record {
  machine = I386;
  flavor = Gnu;
  dll = Some (codes "w.dll");
  naming = record usual { is_plain = true };
  additions = no_additions;
}

-- an import
abbrev pub an_import : Import
an_import = record { dll = codes "w.dll"; declared = []; ask = Ordinal 1 }

-- What meets the premises, and what does not.
pub record WorkedPremises : Type 0 where
  pub fits : Fits worked_exports
  pub fits_largest : Fits (record worked_exports { base = 0xFFFF_FFFF })
  pub msvc : AsksForWords for_msvc
  pub gnu : AsksForWords for_gnu
  -- words that differ; a name that stands twice, and one that is the word of an ordinal without a
  -- name
  pub differ : words_differ worked_exports ≡ true
  pub differ_unnamed : words_differ (record worked_exports { names = [] }) ≡ true
  pub twice : words_differ
      (record worked_exports { names = named (codes "b") 0 ∷ named (codes "b") 1 ∷ [] }) ≡ false
  pub taken : words_differ (record worked_exports { names = named (codes "ord_6") 0 ∷ [] }) ≡ false
  -- no members are read as an import, and for GNU's linker none as nothing
  pub unread : ReadsAs Msvc [] (an_import ∷ []) → ⊥
  pub no_head : GnuReadsAs [] [] → ⊥
