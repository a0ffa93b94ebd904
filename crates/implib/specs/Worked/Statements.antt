-- Texts with what they mean or why they are refused, worked by hand.
use Rattle.std.specs.Prelude.{◌≡◌, ℕ, true, List, [], ◌∷◌, ◌++◌, length, take, Some, codes}
use Rattle.std.specs.List.{AllByRecursion}
use Rattle.implib.specs.declared.def.lexer.TokenKind.TheVariants as kind
use Rattle.implib.specs.declared.machine.MachineType.TheVariants.{I386, AMD64}
use Rattle.implib.specs.Definition.{DefinitionView, ExportView, empty_definition, empty_export}
use Rattle.implib.specs.Fault.{UnknownDirective, ExpectedIdentifier, ExpectedEqual, ExpectedInteger}
use Rattle.implib.specs.Fault.{InvalidOrdinal, LoneAt}
use Rattle.implib.specs.Text.Parses.{Parses, Refuses}

-- an export that has a name and nothing else
abbrev pub plain_export : List ℕ → ExportView
plain_export name = record empty_export { name = name }

-- a definition that has exports and nothing else
abbrev pub of_exports : List ExportView → DefinitionView
of_exports exports = record empty_definition { exports = exports }

-- a definition that has an import name and nothing else
abbrev pub of_name : List ℕ → DefinitionView
of_name name = record empty_definition { import_name = name }

-- a vertical tab
abbrev pub vertical_tab : List ℕ
vertical_tab = 11 ∷ []

-- statements, one after another
pub record WorkedSettings : Type 0 where
  pub empty : Parses [] AMD64 empty_definition
  pub two_sizes : Parses (codes "HEAPSIZE 1,2") AMD64
      (record empty_definition { heap_reserve = 1; heap_commit = 2 })
  pub one_size : Parses (codes "HEAPSIZE 1") AMD64 (record empty_definition { heap_reserve = 1 })
  pub stack_size : Parses (codes "STACKSIZE 1,2") AMD64
      (record empty_definition { stack_reserve = 1; stack_commit = 2 })
  pub greatest_size : Parses (codes "HEAPSIZE 18446744073709551615") AMD64
      (record empty_definition { heap_reserve = 18446744073709551615 })
  pub plus_and_zeros : Parses (codes "HEAPSIZE +0007") AMD64
      (record empty_definition { heap_reserve = 7 })
  pub version : Parses (codes "VERSION 1.2") AMD64
      (record empty_definition { major_image_version = 1; minor_image_version = 2 })
  pub lone_major : Parses (codes "VERSION 1") AMD64
      (record empty_definition { major_image_version = 1 })
  pub greatest_version : Parses (codes "VERSION 4294967295.0") AMD64
      (record empty_definition { major_image_version = 4294967295 })
  pub minor_above_16_bits : Parses (codes "VERSION 1.70000") AMD64
      (record empty_definition { major_image_version = 1; minor_image_version = 70000 })
  pub greatest_minor : Parses (codes "VERSION 1.4294967295") AMD64
      (record empty_definition { major_image_version = 1; minor_image_version = 4294967295 })
  pub base_above_32_bits : Parses (codes "NAME a.exe BASE=5368709120") AMD64
      (record empty_definition { import_name = codes "a.exe"; image_base = 5368709120 })
  pub greatest_base : Parses (codes "LIBRARY a.dll BASE=18446744073709551615") I386
      (record empty_definition { import_name = codes "a.dll"; image_base = 18446744073709551615 })
  pub commit_above_32_bits : Parses (codes "STACKSIZE 4294967296,8589934592") AMD64
      (record empty_definition { stack_reserve = 4294967296; stack_commit = 8589934592 })
  pub name : Parses (codes "NAME foo") AMD64 (of_name (codes "foo"))
  pub comment_before : Parses (codes ";\n; comment\nLIBRARY foo.dll") AMD64
      (of_name (codes "foo.dll"))
  pub quoted_keyword : Parses (codes "LIBRARY \"NAME\"") AMD64 (of_name (codes "NAME"))
  pub based : Parses (codes "NAME a.exe BASE=4096") AMD64
      (record empty_definition { import_name = codes "a.exe"; image_base = 4096 })
  pub python : Parses
      (codes ";\n; Definition file of python310.dll\n;\nLIBRARY \"python310.dll\"\nEXPORTS\n"
      ++ codes "PyAIter_Check\nPyByteArray_Type DATA") AMD64
      (record empty_definition {
        exports = plain_export (codes "PyAIter_Check")
            ∷ record empty_export { name = codes "PyByteArray_Type"; is_data = true }
            ∷ [];
        import_name = codes "python310.dll";
      })
  pub last_name_wins : Parses (codes "NAME a.exe BASE=4096\nLIBRARY") AMD64 empty_definition
  pub exports_in_two_places : Parses (codes "EXPORTS\na\nLIBRARY x\nEXPORTS\nb") AMD64
      (record empty_definition {
        exports = plain_export (codes "a")
            ∷ plain_export (codes "b")
            ∷ [];
        import_name = codes "x";
      })

-- exports with their attributes
pub record WorkedExports : Type 0 where
  pub joined_ordinal : Parses (codes "EXPORTS\nfoo @10 NONAME") AMD64
      (of_exports (record empty_export { name = codes "foo"; ordinal = 10; no_name = true } ∷ []))
  pub no_ordinal : Parses (codes "EXPORTS\nfoo @70000") AMD64
      (of_exports (plain_export (codes "foo") ∷ plain_export (codes "@70000") ∷ []))
  pub apart_ordinal : Parses (codes "EXPORTS\n\tf@8 @ 1 NONAME DATA ; x") I386
      (of_exports (record empty_export
      { name = codes "f@8"; ordinal = 1; no_name = true; is_data = true }
      ∷ []))
  pub quoted_ordinal : Parses (codes "EXPORTS f @ \"7\"") AMD64
      (of_exports (record empty_export { name = codes "f"; ordinal = 7 } ∷ []))
  pub signed_ordinal : Parses (codes "EXPORTS f @+5") AMD64
      (of_exports (record empty_export { name = codes "f"; ordinal = 5 } ∷ []))
  pub first_name : Parses (codes "EXPORTS @5") AMD64 (of_exports (plain_export (codes "@5") ∷ []))
  pub last_ordinal_wins : Parses (codes "EXPORTS f @5 NONAME @6") AMD64
      (of_exports (record empty_export { name = codes "f"; ordinal = 6; no_name = true } ∷ []))
  pub last_alias_wins : Parses (codes "EXPORTS\nf == g == h") AMD64
      (of_exports (record empty_export { name = codes "f"; alias_target = codes "h" } ∷ []))
  pub target_and_alias : Parses (codes "LIBRARY foo.dll\nEXPORTS\nfoo = bar == baz") AMD64
      (record empty_definition {
        exports = record empty_export {
          name = codes "bar";
          ext_name = Some (codes "foo");
          alias_target = codes "baz";
        } ∷ [];
        import_name = codes "foo.dll";
      })
  pub decorated_names : Parses (codes "LIBRARY foo.dll\nEXPORTS\nfoo\n@bar@8\n_x@8\n?y") I386
      (record empty_definition {
        exports = plain_export (codes "_foo")
            ∷ plain_export (codes "@bar@8")
            ∷ plain_export (codes "_x@8")
            ∷ plain_export (codes "?y")
            ∷ [];
        import_name = codes "foo.dll";
      })
  pub flags : Parses (codes "EXPORTS\na DATA\nb CONSTANT\nc PRIVATE") AMD64 (of_exports
      (record empty_export { name = codes "a"; is_data = true }
      ∷ record empty_export { name = codes "b"; constant = true }
      ∷ record empty_export { name = codes "c"; private = true }
      ∷ []))
  pub greatest_ordinal : Parses (codes "EXPORTS f @65535") AMD64
      (of_exports (record empty_export { name = codes "f"; ordinal = 65535 } ∷ []))
  pub no_keywords : Parses
      (codes "EXPORTS\nCONST\nSECTIONS\nDESCRIPTION\nIMPORTS\nEXPORT\nBASED\ndata DATA") AMD64
      (of_exports
      (plain_export (codes "CONST")
      ∷ plain_export (codes "SECTIONS")
      ∷ plain_export (codes "DESCRIPTION")
      ∷ plain_export (codes "IMPORTS")
      ∷ plain_export (codes "EXPORT")
      ∷ plain_export (codes "BASED")
      ∷ record empty_export { name = codes "data"; is_data = true }
      ∷ []))
  pub signs_in_names : Parses (codes "EXPORTS\na+b $c [d] e.f") AMD64
      (of_exports
      (plain_export (codes "a+b")
      ∷ plain_export (codes "$c")
      ∷ plain_export (codes "[d]")
      ∷ plain_export (codes "e.f")
      ∷ []))
  pub decorated_target : Parses (codes "EXPORTS\nf = @g@4") I386
      (of_exports (record empty_export { name = codes "@g@4"; ext_name = Some (codes "_f") } ∷ []))

-- texts that are refused
pub record WorkedRefusals : Type 0 where
  pub word : Refuses (codes "foo") (UnknownDirective (codes "foo"))
  pub comma : Refuses (codes ",") (UnknownDirective (codes ","))
  pub no_name_without_ordinal : Refuses (codes "EXPORTS foo NONAME")
      (UnknownDirective (codes "NONAME"))
  pub second_target : Refuses (codes "EXPORTS\nfoo = bar =") (UnknownDirective (codes "="))
  pub missing_size : Refuses (codes "HEAPSIZE 1,") (ExpectedIdentifier kind.Eof)
  pub size_too_great : Refuses (codes "HEAPSIZE 18446744073709551616") ExpectedInteger
  pub negative_size : Refuses (codes "HEAPSIZE -1") ExpectedInteger
  pub sign_alone : Refuses (codes "HEAPSIZE +") ExpectedInteger
  pub three_numbers : Refuses (codes "VERSION 1.2.3") ExpectedInteger
  pub no_major : Refuses (codes "VERSION .1") ExpectedInteger
  pub no_minor : Refuses (codes "VERSION 1.") ExpectedInteger
  pub minor_too_great : Refuses (codes "VERSION 1.4294967296") ExpectedInteger
  pub base_too_great : Refuses (codes "NAME x BASE=18446744073709551616") ExpectedInteger
  pub commit_too_great : Refuses (codes "STACKSIZE 1,18446744073709551616") ExpectedInteger
  pub description : Refuses (codes "DESCRIPTION \"x\"") (UnknownDirective (codes "DESCRIPTION"))
  pub sections : Refuses (codes "SECTIONS") (UnknownDirective (codes "SECTIONS"))
  pub base_without_sign : Refuses (codes "NAME x BASE 5") (ExpectedEqual kind.Identifier)
  pub base_without_number : Refuses (codes "NAME x BASE=") (ExpectedIdentifier kind.Eof)
  pub alias_without_word : Refuses
      (codes " " ++ vertical_tab ++ codes "EXPORTS D " ++ vertical_tab ++ codes "===")
      (ExpectedIdentifier kind.Equal)
  pub lone_at : Refuses (codes "EXPORTS 8= @") LoneAt
  pub word_for_ordinal : Refuses (codes "EXPORTS\nf @ x") (InvalidOrdinal (codes "x"))
  pub number_for_ordinal : Refuses (codes "EXPORTS f @ 65536") (InvalidOrdinal (codes "65536"))
  pub sign_for_ordinal : Refuses (codes "EXPORTS f @ =") (InvalidOrdinal (codes "="))
  pub end_for_ordinal : Refuses (codes "EXPORTS\nf @") (ExpectedIdentifier kind.Eof)

-- the first n bytes of one text
abbrev pub front : ℕ → List ℕ
front n = take n (codes "EXPORTS\nfoo = bar == baz @ 1 NONAME")

-- the front of n bytes means a definition with `count` exports
abbrev pub HasExports : ℕ → ℕ → Type 0
HasExports count n =
    (definition : DefinitionView) × Parses (front n) AMD64 definition
    × (length definition.exports ≡ count)

-- every front of that text, by its length
pub record WorkedFronts : Type 0 where
  pub no_export : AllByRecursion (HasExports 0) (0 ∷ 7 ∷ 8 ∷ [])
  pub one_export : AllByRecursion (HasExports 1)
      (9 ∷ 10 ∷ 11 ∷ 12 ∷ 15 ∷ 16 ∷ 17 ∷ 18 ∷ 22 ∷ 23 ∷ 24 ∷ 25 ∷ 28 ∷ 29 ∷ 35 ∷ [])
  pub two_exports : AllByRecursion (HasExports 2) (30 ∷ 31 ∷ 32 ∷ 33 ∷ 34 ∷ [])
  pub part_of_directive : AllByRecursion (λ n. Refuses (front n) (UnknownDirective (front n)))
      (1 ∷ 2 ∷ 3 ∷ 4 ∷ 5 ∷ 6 ∷ [])
  pub second_sign : Refuses (front 19) (UnknownDirective (codes "="))
  pub word_or_ordinal_expected : AllByRecursion
      (λ n. Refuses (front n) (ExpectedIdentifier kind.Eof))
      (13 ∷ 14 ∷ 20 ∷ 21 ∷ 26 ∷ 27 ∷ [])
