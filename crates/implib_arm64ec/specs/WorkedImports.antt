-- Short imports worked out apart from the program: their bytes, and their symbols in the order of
-- the member's, as llvm-dlltool 19 writes them; and what is read of them.
use Rattle.std.specs.Prelude.{◌≡◌, ℕ, true, [], ◌∷◌, ◌++◌, List, Some, None, Result, Ok}
use Rattle.std.specs.Prelude.{Err, codes}
use Rattle.implib.specs.Definition.{ExportView, empty_export}
use Rattle.implib.specs.LibraryName.{NamesOfDll}
use Rattle.implib.specs.Members.MemberSpec.{MemberSpec, file_bytes}
use Rattle.implib.specs.Worked.Digits.{hex}
use Rattle.implib_arm64ec.specs.Reader.{import_in}
use Rattle.implib_arm64ec.specs.ShortImports.{spec_of}

-- what a member that is made has of something
abbrev pub of_made : {X : Type 0} → (MemberSpec → X) → Result MemberSpec ℕ → Result X ℕ
of_made part (Ok spec) = Ok (part spec)
of_made part (Err place) = Err place

-- the names of t.dll
abbrev pub t_dll : NamesOfDll
t_dll = record { linked = codes "t.dll"; text = codes "t.dll" }

abbrev pub bytes_made : ExportView → Result (List ℕ) ℕ
bytes_made e = of_made (λ spec. file_bytes spec.contents) (spec_of t_dll e)

abbrev pub symbols_made : ExportView → Result (List (List ℕ)) ℕ
symbols_made e = of_made (λ spec. spec.symbols) (spec_of t_dll e)

-- the bytes of the short imports of t.dll
pub record WorkedImports : Type 0 where
  -- `#mang`
  pub marked : bytes_made (record empty_export { name = codes "#mang" })
      ≡ Ok (hex "00 00 ff ff 00 00 41 a6 00 00 00 00 11 00 00 00 00 00 10 00"
      ++ (codes "#mang" ++ 0 ∷ (codes "t.dll" ++ 0 ∷ (codes "mang" ++ 0 ∷ []))))
  -- `?cpph@@$$hYAHPEAX@Z`
  pub marked_cplusplus : bytes_made (record empty_export { name = codes "?cpph@@$$hYAHPEAX@Z" })
      ≡ Ok (hex "00 00 ff ff 00 00 41 a6 00 00 00 00 2b 00 00 00 00 00 10 00"
      ++ (codes "?cpph@@$$hYAHPEAX@Z" ++ 0
      ∷ (codes "t.dll" ++ 0 ∷ (codes "?cpph@@YAHPEAX@Z" ++ 0 ∷ []))))
  -- `a EXPORTAS b`
  pub exported_as : bytes_made
      (record empty_export { name = codes "a"; asked_name = Some (codes "b") })
      ≡ Ok (hex "00 00 ff ff 00 00 41 a6 00 00 00 00 0b 00 00 00 00 00 10 00"
      ++ (codes "#a" ++ 0 ∷ (codes "t.dll" ++ 0 ∷ (codes "b" ++ 0 ∷ []))))
  -- `f @7`
  pub hinted : bytes_made (record empty_export { name = codes "f"; ordinal = 7 })
      ≡ Ok (hex "00 00 ff ff 00 00 41 a6 00 00 00 00 0b 00 00 00 07 00 10 00"
      ++ (codes "#f" ++ 0 ∷ (codes "t.dll" ++ 0 ∷ (codes "f" ++ 0 ∷ []))))
  -- `d == e DATA`
  pub variable_alias : bytes_made
      (record empty_export { name = codes "d"; alias_target = codes "e"; is_data = true })
      ≡ Ok (hex "00 00 ff ff 00 00 41 a6 00 00 00 00 0a 00 00 00 00 00 11 00"
      ++ (codes "d" ++ 0 ∷ (codes "t.dll" ++ 0 ∷ (codes "e" ++ 0 ∷ []))))
  -- `d @3 NONAME DATA`
  pub variable_by_ordinal : bytes_made
      (record empty_export { name = codes "d"; ordinal = 3; no_name = true; is_data = true })
      ≡ Ok (hex "00 00 ff ff 00 00 41 a6 00 00 00 00 08 00 00 00 03 00 01 00"
      ++ (codes "d" ++ 0 ∷ (codes "t.dll" ++ 0 ∷ [])))
  -- `?v@@3HA DATA`
  pub variable_never_marked : bytes_made
      (record empty_export { name = codes "?v@@3HA"; is_data = true })
      ≡ Ok (hex "00 00 ff ff 00 00 41 a6 00 00 00 00 0e 00 00 00 00 00 05 00"
      ++ (codes "?v@@3HA" ++ 0 ∷ (codes "t.dll" ++ 0 ∷ [])))
  -- `c @3 NONAME CONSTANT`
  pub constant_by_ordinal : bytes_made
      (record empty_export { name = codes "c"; ordinal = 3; no_name = true; constant = true })
      ≡ Ok (hex "00 00 ff ff 00 00 41 a6 00 00 00 00 08 00 00 00 03 00 02 00"
      ++ (codes "c" ++ 0 ∷ (codes "t.dll" ++ 0 ∷ [])))
  -- `c == g CONSTANT`
  pub constant_alias : bytes_made
      (record empty_export { name = codes "c"; alias_target = codes "g"; constant = true })
      ≡ Ok (hex "00 00 ff ff 00 00 41 a6 00 00 00 00 0a 00 00 00 00 00 12 00"
      ++ (codes "c" ++ 0 ∷ (codes "t.dll" ++ 0 ∷ (codes "g" ++ 0 ∷ []))))

-- their symbols
pub record WorkedSymbols : Type 0 where
  pub marked : symbols_made (record empty_export { name = codes "#mang" })
      ≡ Ok (codes "__imp_mang" ∷ codes "mang" ∷ codes "__imp_aux_mang" ∷ codes "#mang" ∷ [])
  pub variable_never_marked : symbols_made
      (record empty_export { name = codes "?v@@3HA"; is_data = true })
      ≡ Ok (codes "__imp_?v@@3HA" ∷ [])
  -- a mark that the definition writes, where none is made: it is off in the names
  pub marked_variable : symbols_made (record empty_export { name = codes "#d"; is_data = true })
      ≡ Ok (codes "__imp_d" ∷ [])
  pub marked_constant : symbols_made (record empty_export { name = codes "#c"; constant = true })
      ≡ Ok (codes "__imp_c" ∷ codes "c" ∷ codes "__imp_aux_c" ∷ codes "#c" ∷ [])
  pub marked_cplusplus_constant : symbols_made
      (record empty_export { name = codes "?cpq@@$$hYAHPEAX@Z"; constant = true })
      ≡ Ok (codes "__imp_?cpq@@YAHPEAX@Z" ∷ codes "?cpq@@YAHPEAX@Z"
      ∷ codes "__imp_aux_?cpq@@YAHPEAX@Z"
      ∷ codes "?cpq@@$$hYAHPEAX@Z" ∷ [])

-- bytes that are none: of another machine, and with a text too many or too few
pub record WorkedReadings : Type 0 where
  pub of_arm64 : import_in (hex "00 00 ff ff 00 00 64 aa 00 00 00 00 08 00 00 00 00 00 04 00" ++ (codes "f" ++ 0 ∷ (codes "t.dll" ++ 0 ∷ [])))
      ≡ None
  pub third_by_name : import_in (hex "00 00 ff ff 00 00 41 a6 00 00 00 00 0a 00 00 00 00 00 04 00"
      ++ (codes "f" ++ 0 ∷ (codes "t.dll" ++ 0 ∷ (codes "g" ++ 0 ∷ []))))
      ≡ None
  pub no_third : import_in (hex "00 00 ff ff 00 00 41 a6 00 00 00 00 08 00 00 00 00 00 10 00" ++ (codes "f" ++ 0 ∷ (codes "t.dll" ++ 0 ∷ [])))
      ≡ None
