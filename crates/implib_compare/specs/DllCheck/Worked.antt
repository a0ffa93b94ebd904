-- Verdicts and names of DLLs worked by hand, and near misses.
use Rattle.std.specs.Prelude.{◌≡◌, true, false, [], ◌∷◌, None, Some, codes}
use Rattle.implib.specs.Import.{Ordinal, Name}
use Rattle.implib_dll.specs.declared.section.AddressKind.TheVariants.{Code, Data}
use Rattle.implib_dll.specs.Exports.{Exports, Address}
use Rattle.implib_dll.specs.WorkedFiles.{named, worked_exports}
use Rattle.implib_compare.specs.DllCheck.DllName.{loader_name}
use Rattle.implib_compare.specs.DllCheck.Missing.{missing}
use Rattle.implib_compare.specs.DllCheck.Verdict.{verdict_of}

-- the names in the wrong order
abbrev pub falling : Exports
falling = record worked_exports { names = named (codes "beta") 0 ∷ named (codes "alpha") 1 ∷ [] }

-- What imports come to.
pub record WorkedVerdicts : Type 0 where
  -- a name that a search misses, as the names do not rise, and finds at its hint
  pub missed : verdict_of falling (Name (codes "alpha") 0) true
      ≡ record { target = None; at_once = false; fits_kind = true }
  pub not_missed : verdict_of falling (Name (codes "alpha") 1) true
      ≡ record { target = Some (Address 0x2004 Data); at_once = true; fits_kind = true }
  -- by ordinal: a function as data, and none
  pub code_as_data : verdict_of worked_exports (Ordinal 5) true
      ≡ record { target = Some (Address 0x1000 Code); at_once = true; fits_kind = true }
  pub past : verdict_of worked_exports (Ordinal 10) false
      ≡ record { target = None; at_once = true; fits_kind = true }
  -- a name that a search misses is asked for in vain
  pub in_vain : missing falling (Name (codes "alpha") 0 ∷ []) ≡ 0 ∷ 1 ∷ 3 ∷ 4 ∷ []
  -- names of DLLs
  pub capitals : loader_name (codes "KERNEL32.DLL") ≡ codes "kernel32.dll"
  pub no_ending : loader_name (codes "Kernel32") ≡ codes "kernel32.dll"
  pub other_ending : loader_name (codes "winspool.DRV") ≡ codes "winspool.drv"
  pub ends_in_a_full_stop : loader_name (codes "a.") ≡ codes "a."
