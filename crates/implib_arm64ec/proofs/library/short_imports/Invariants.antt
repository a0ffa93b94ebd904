use Rattle.std.proofs.Common.{map, ◌++◌, ◌≡◌, drop}
use Rattle.std.specs.List.{AllByRecursion}
use Rattle.implib.specs.Definition.{export_view}
use Rattle.implib_arm64ec.specs.KeptImports.{IsKept, kept_view}
use Rattle.implib_arm64ec.specs.LibraryImports.{exports_fault, imports_of}
use Rattle.implib_arm64ec.proofs.library.short_imports.Given as goal

-- the members of the exports so far and of the others are those of all, and no export so far is refused
abbrev pub invariant-loop-index : goal.invariant-loop-index
invariant-loop-index l = record {
  made : map (kept_view (record { linked = l.library; text = l.dll })) l.imports.items
      ++ imports_of (record { linked = l.library; text = l.dll }) (drop l.index (map export_view l.exports))
      ≡ imports_of (record { linked = l.library; text = l.dll }) (map export_view l.exports);
  kept : AllByRecursion (IsKept l.dll) l.imports.items;
  passed : exports_fault (record { linked = l.library; text = l.dll }) l.index (drop l.index (map export_view l.exports))
      ≡ exports_fault (record { linked = l.library; text = l.dll }) 0 (map export_view l.exports);
}
