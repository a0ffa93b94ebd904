-- What statements mean: the definition that they make (docs/GRAMMAR.md, "Statements").
use Rattle.std.specs.Prelude.{ℕ, Bool, true, false, List, [], ◌∷◌, map, Option, Some, None}
use Rattle.std.specs.Prelude.{unwrap_or, option_map}
use Rattle.std.specs.List.{flat_map}
use Rattle.implib.specs.declared.machine.MachineType.{MachineType}
use Rattle.implib.specs.Underscore.{decorated}
use Rattle.implib.specs.Definition.{DefinitionView, ExportView}
use Rattle.implib.specs.Text.Grammar.{Attribute, Joined, Apart, Data, Constant, Private, Alias}
use Rattle.implib.specs.Text.Grammar.{Export, Heap, Stack, Statement, Exports, Sizes, Nameless}
use Rattle.implib.specs.Text.Grammar.{Named, Version}

-- What the last of the items that set it sets, and old where none does. For example, of `@5 NONAME
-- @6` the ordinal is 6, and `NONAME` stays.
abbrev pub last_or : {A B : Type 0} → B → (A → Option B) → List A → B
last_or old set [] = old
last_or old set (item ∷ items) = last_or (unwrap_or (set item) old) set items

-- the ordinal that an attribute sets
abbrev pub ordinal_in : Attribute → Option ℕ
ordinal_in (Joined n no_name) = Some n
ordinal_in (Apart n no_name) = Some n
ordinal_in _ = None

-- a flag is set, and never set back
abbrev pub flag : Bool → Option Bool
flag true = Some true
flag false = None

-- an ordinal's `NONAME`
abbrev pub no_name_in : Attribute → Option Bool
no_name_in (Joined n no_name) = flag no_name
no_name_in (Apart n no_name) = flag no_name
no_name_in _ = None

-- the flags of `DATA`, `CONSTANT` and `PRIVATE`
abbrev pub is_data_in : Attribute → Option Bool
is_data_in Data = Some true
is_data_in _ = None

abbrev pub constant_in : Attribute → Option Bool
constant_in Constant = Some true
constant_in _ = None

abbrev pub private_in : Attribute → Option Bool
private_in Private = Some true
private_in _ = None

-- what the name is an alias for
abbrev pub alias_in : Attribute → Option (List ℕ)
alias_in (Alias value) = Some value
alias_in _ = None

-- the name to link by: the target where there is one, and else the first word
abbrev pub inner_name : Export → List ℕ
inner_name e = unwrap_or e.target e.word

-- What an export means. For example, `foo = bar == baz` has the name bar, the external name foo and
-- the alias target baz, on AMD64.
abbrev pub export_meaning : MachineType → Export → ExportView
export_meaning machine e = record {
  name = decorated machine (inner_name e);
  ext_name = option_map (λ target. decorated machine e.word) e.target;
  symbol_name = [];
  asked_name = None;
  alias_target = last_or [] alias_in e.attributes;
  ordinal = last_or 0 ordinal_in e.attributes;
  no_name = last_or false no_name_in e.attributes;
  is_data = last_or false is_data_in e.attributes;
  private = last_or false private_in e.attributes;
  constant = last_or false constant_in e.attributes;
}

-- the exports of a statement
abbrev pub exports_in : Statement → List Export
exports_in (Exports exports) = exports
exports_in _ = []

-- the import name that a statement sets: `NAME` or `LIBRARY` alone sets an empty one
abbrev pub import_name_in : Statement → Option (List ℕ)
import_name_in Nameless = Some []
import_name_in (Named name base) = Some name
import_name_in _ = None

-- the image base that a statement sets: a name without a base sets 0
abbrev pub image_base_in : Statement → Option ℕ
image_base_in Nameless = Some 0
image_base_in (Named name base) = Some (unwrap_or base 0)
image_base_in _ = None

-- the sizes in bytes that a statement sets; a missing size to commit is 0
abbrev pub stack_reserve_in : Statement → Option ℕ
stack_reserve_in (Sizes Stack reserve commit) = Some reserve
stack_reserve_in _ = None

abbrev pub stack_commit_in : Statement → Option ℕ
stack_commit_in (Sizes Stack reserve commit) = Some (unwrap_or commit 0)
stack_commit_in _ = None

abbrev pub heap_reserve_in : Statement → Option ℕ
heap_reserve_in (Sizes Heap reserve commit) = Some reserve
heap_reserve_in _ = None

abbrev pub heap_commit_in : Statement → Option ℕ
heap_commit_in (Sizes Heap reserve commit) = Some (unwrap_or commit 0)
heap_commit_in _ = None

-- the image version
abbrev pub major_in : Statement → Option ℕ
major_in (Version major minor) = Some major
major_in _ = None

abbrev pub minor_in : Statement → Option ℕ
minor_in (Version major minor) = Some minor
minor_in _ = None

-- The definition that statements make: all exports in order, and of each setting the last. For
-- example, after `NAME a.exe BASE=4096` a statement `LIBRARY` leaves an empty name and the base 0.
abbrev pub meaning : MachineType → List Statement → DefinitionView
meaning machine statements = record {
  exports = map (export_meaning machine) (flat_map exports_in statements);
  import_name = last_or [] import_name_in statements;
  library_name = None;
  image_base = last_or 0 image_base_in statements;
  stack_reserve = last_or 0 stack_reserve_in statements;
  stack_commit = last_or 0 stack_commit_in statements;
  heap_reserve = last_or 0 heap_reserve_in statements;
  heap_commit = last_or 0 heap_commit_in statements;
  major_image_version = last_or 0 major_in statements;
  minor_image_version = last_or 0 minor_in statements;
  major_os_version = 0;
  minor_os_version = 0;
}
