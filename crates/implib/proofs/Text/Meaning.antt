-- Gathering statements one by one gives what they mean.
use Rattle.std.proofs.Common.{arith, ◌≡◌, List, [], ◌∷◌, ◌++◌, map, refl, sym, ap, ◌∙◌, append_assoc, append-nil}
use Rattle.std.proofs.Math.Path.{fun_ext}
use Rattle.std.proofs.lemmas.List.{map-append}
use Rattle.std.specs.List.{flat_map, fold}
use Rattle.implib.specs.declared.machine.MachineType.{MachineType}
use Rattle.implib.specs.Definition.{DefinitionView, ExportView, empty_definition}
use Rattle.implib.specs.Text.Grammar.{Attribute, Export, Statement}
use Rattle.implib.specs.Text.Meaning.{last_or, ordinal_in, no_name_in, is_data_in, constant_in, private_in, alias_in, exports_in, export_meaning, import_name_in, image_base_in, stack_reserve_in, stack_commit_in, heap_reserve_in, heap_commit_in, major_in, minor_in, meaning}
use Rattle.implib.specs.Views.TokenReader.{with_attribute, named_export, made_export, with_statement, with_statements}

-- an export after attributes, each setting that of the last
abbrev attributed : ExportView → List Attribute → ExportView
attributed e items = record {
  name = e.name;
  ext_name = e.ext_name;
  symbol_name = e.symbol_name;
  asked_name = e.asked_name;
  alias_target = last_or e.alias_target alias_in items;
  ordinal = last_or e.ordinal ordinal_in items;
  no_name = last_or e.no_name no_name_in items;
  is_data = last_or e.is_data is_data_in items;
  private = last_or e.private private_in items;
  constant = last_or e.constant constant_in items;
}

attributes_gathered : (items : List Attribute) (e : ExportView) → fold with_attribute e items ≡ attributed e items
attributes_gathered [] e = refl
attributes_gathered (a ∷ items) e = attributes_gathered items (with_attribute e a)

made_is : (machine : MachineType) (e : Export) → made_export machine e ≡ export_meaning machine e
unfolding made_export
made_is machine e = attributes_gathered e.attributes (named_export machine e.word e.target)

-- a definition after statements: their exports, and each setting that of the last
abbrev gathered : MachineType → DefinitionView → List Statement → List ExportView → DefinitionView
gathered machine d items exports = record {
  exports = exports;
  import_name = last_or d.import_name import_name_in items;
  library_name = d.library_name;
  image_base = last_or d.image_base image_base_in items;
  stack_reserve = last_or d.stack_reserve stack_reserve_in items;
  stack_commit = last_or d.stack_commit stack_commit_in items;
  heap_reserve = last_or d.heap_reserve heap_reserve_in items;
  heap_commit = last_or d.heap_commit heap_commit_in items;
  major_image_version = last_or d.major_image_version major_in items;
  minor_image_version = last_or d.minor_image_version minor_in items;
  major_os_version = d.major_os_version;
  minor_os_version = d.minor_os_version;
}

one_more : (machine : MachineType) (front : List ExportView) (s : Statement) (items : List Statement)
    → (front ++ map (made_export machine) (exports_in s)) ++ map (made_export machine) (flat_map exports_in items) ≡ front ++ map (made_export machine) (flat_map exports_in (s ∷ items))
one_more machine front s items = grind (arith, append_assoc, map-append)

statements_gathered : (machine : MachineType) (items : List Statement) (d : DefinitionView)
    → fold (with_statement machine) d items ≡ gathered machine d items (d.exports ++ map (made_export machine) (flat_map exports_in items))
statements_gathered machine [] d = ap (λ (es : List ExportView). gathered machine d [] es) (sym (append-nil d.exports))
statements_gathered machine (s ∷ items) d =
    statements_gathered machine items (with_statement machine d s)
    ∙ ap (λ (es : List ExportView). gathered machine d (s ∷ items) es) (one_more machine d.exports s items)

pub with_statements-meaning : (machine : MachineType) (items : List Statement) → with_statements machine empty_definition items ≡ meaning machine items
unfolding with_statements
with_statements-meaning machine items = grind (arith, statements_gathered, fun_ext, made_is)
