-- Names that are wanted beside those of objects, by hand: `bar` and `__imp_queue` by a list, in the
-- place of the object of Worked/Closed that leaves them to others; and programs of Worked/Programs
-- with a list in front.
use Rattle.std.specs.Prelude.{◌≡◌, ℕ, List, [], ◌∷◌, codes}
use Rattle.implib.specs.declared.machine.MachineType.TheVariants.{I386, AMD64}
use Rattle.implib.specs.Formats.Constants.{class_external}
use Rattle.implib.specs.Formats.Object.{ASymbol, Object}
use Rattle.implib_link.specs.Flavors.Program.{IsProgram, claimed_names}
use Rattle.implib_link.specs.Search.Libraries.{archive_of_both, TakesIntoFor}
use Rattle.implib_link.specs.Search.Search.{unresolved, wanting}
use Rattle.implib_link_instances.specs.Worked.BothFlavors.{with_far, closed_taken}
use Rattle.implib_link_instances.specs.Worked.Programs.{both_inputs, code_object, program_objects}
use Rattle.implib_link_instances.specs.Worked.Programs.{symbol_of_class, touching_4, touching_8}

-- an object that names nothing of the libraries
abbrev pub quiet : Object
quiet = code_object (
    symbol_of_class (codes "main") 1 class_external
    ∷ symbol_of_class (codes "stack") 1 class_external
    ∷ symbol_of_class (codes "printf") 0 class_external
    ∷ [])

-- as with `-u bar -u __imp_queue`
abbrev pub listed_names : List (List ℕ)
listed_names = codes "bar" ∷ codes "__imp_queue" ∷ []

abbrev pub with_names : List Object
with_names = wanting listed_names ∷ quiet ∷ []

-- a common block of 8 bytes, which is no name that is left to others
abbrev pub common_bar : Object
common_bar = record (wanting []) {
  entries = ASymbol (record {
    name = codes "bar";
    value = 8;
    section = 0;
    kind = 0;
    class = class_external;
  }) ∷ [];
}

-- The list's names are wanted in front of the object's, but for `stack`, which the object has; for
-- them a linker takes the members of Worked/Closed. A common block claims its name. Programs with a
-- list in front are programs.
pub record WorkedWanting : Type 0 where
  pub alone : unresolved (quiet ∷ []) ≡ codes "printf" ∷ []
  pub wanted : unresolved with_names ≡ codes "bar" ∷ codes "__imp_queue" ∷ codes "printf" ∷ []
  pub had : unresolved (wanting (codes "stack" ∷ codes "baz" ∷ []) ∷ quiet ∷ [])
      ≡ codes "baz" ∷ codes "printf" ∷ []
  pub none : claimed_names (wanting listed_names) ≡ []
  pub common : claimed_names common_bar ≡ codes "bar" ∷ []
  pub takes : TakesIntoFor AMD64 (archive_of_both with_far) with_names closed_taken
  pub amd64 : IsProgram AMD64 touching_8 (both_inputs AMD64)
      (wanting listed_names ∷ program_objects AMD64)
  pub i386 : IsProgram I386 touching_4 (both_inputs I386)
      (wanting (codes "_open" ∷ []) ∷ program_objects I386)
