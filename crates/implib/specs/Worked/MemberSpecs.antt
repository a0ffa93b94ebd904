-- All members of one definition, worked by hand: foo.dll with the function bar, which is another
-- name for baz.
use Rattle.std.specs.Prelude.{◌≡◌, ℕ, true, List, [], ◌∷◌, ◌++◌, codes}
use Rattle.implib.specs.declared.flavor.Flavor.TheVariants.{Msvc, Gnu}
use Rattle.implib.specs.declared.machine.MachineType.{MachineType}
use Rattle.implib.specs.Definition.{DefinitionView, empty_definition}
use Rattle.implib.specs.LibraryName.{names_for}
use Rattle.implib.specs.Members.MemberLists.{all_alias_specs, all_import_specs}
use Rattle.implib.specs.Members.MemberSpec.{AnObject, AShortImport, Contents, MemberSpec}
use Rattle.implib.specs.Members.Members.{member_specs}
use Rattle.implib.specs.Members.MsvcMembers.{header_specs}
use Rattle.implib.specs.Renaming.{renamed}
use Rattle.implib.specs.Worked.Machines.{Numbers, numbers}
use Rattle.implib.specs.Worked.Objects.{descriptor, function, head, null_descriptor, null_thunk}
use Rattle.implib.specs.Worked.Objects.{tail, weak}
use Rattle.implib.specs.Worked.Tables.{bar, foo_dll}

-- the definition
abbrev pub definition : DefinitionView
definition = record empty_definition {
  import_name = foo_dll;
  exports = record bar { alias_target = codes "baz" } ∷ [];
}

-- a member of one archive symbol
abbrev pub member : List ℕ → Contents → List ℕ → MemberSpec
member name contents symbol = record { name = name; contents = contents; symbols = symbol ∷ [] }

-- the short import of bar
abbrev pub short_import_of_bar : Numbers → Contents
short_import_of_bar n = AShortImport (record {
  version = 0;
  machine = n.machine;
  time = 0;
  ordinal = 0;
  import_type = 0;
  name_type = 1;
  symbol = codes "bar";
  dll = foo_dll;
})

-- the weak externals of bar and of its address
abbrev pub weak_bar : Numbers → Contents
weak_bar n = AnObject (weak n (codes "baz") (codes "bar"))

abbrev pub weak_address : Numbers → Contents
weak_address n = AnObject (weak n (codes "__imp_baz") (codes "__imp_bar"))

-- the header members for Microsoft's linker
abbrev pub header_member_specs : Numbers → List MemberSpec
header_member_specs n =
    member foo_dll (AnObject (descriptor n)) (codes "__IMPORT_DESCRIPTOR_foo")
    ∷ member foo_dll (AnObject (null_descriptor n)) (codes "__NULL_IMPORT_DESCRIPTOR")
    ∷ member foo_dll (AnObject (null_thunk n)) (0x7F ∷ codes "foo_NULL_THUNK_DATA")
    ∷ []

-- the members for Microsoft's linker
abbrev pub msvc_member_specs : Numbers → List MemberSpec
msvc_member_specs n =
    header_member_specs n
    ++ member foo_dll (weak_bar n) (codes "bar")
    ∷ member foo_dll (weak_address n) (codes "__imp_bar")
    ∷ record {
      name = foo_dll;
      contents = short_import_of_bar n;
      symbols = codes "__imp_bar" ∷ codes "bar" ∷ [];
    }
    ∷ []

-- the members for GNU's linker
abbrev pub gnu_member_specs : Numbers → List MemberSpec
gnu_member_specs n =
    member (codes "foo_dll_a_t.o") (AnObject (tail n)) n.iname
    ∷ member (codes "foo_dll_a_h.o") (AnObject (head n)) n.head
    ∷ record {
      name = codes "foo_dll_a_s00000.o";
      contents = AnObject (function n);
      symbols = codes "bar" ∷ codes "__imp_bar" ∷ [];
    }
    ∷ member (codes "foo_dll_a_x00000.o") (weak_address n) (codes "__imp_bar")
    ∷ member (codes "foo_dll_a_w00000.o") (weak_bar n) (codes "bar")
    ∷ []

-- The members of the definition on a machine.
pub record WorkedMemberSpecs (machine : MachineType) : Type 0 where
  pub for_microsoft : member_specs (renamed definition) machine Msvc
      ≡ msvc_member_specs (numbers machine)
  pub for_gnu : member_specs (renamed definition) machine Gnu ≡ gnu_member_specs (numbers machine)

-- a definition of bar, again another name for baz, of the datum var, another name for vaz, of own,
-- whose target is itself, and of the constant fixed, another name for own
abbrev pub definition_of_lists : DefinitionView
definition_of_lists = record empty_definition {
  import_name = foo_dll;
  exports = record bar { alias_target = codes "baz" }
      ∷ record bar { name = codes "var"; alias_target = codes "vaz"; is_data = true }
      ∷ record bar { name = codes "own"; alias_target = codes "own" }
      ∷ record bar { name = codes "fixed"; alias_target = codes "own"; constant = true }
      ∷ record bar { name = codes "hidden"; alias_target = codes "baz"; private = true }
      ∷ [];
}

-- the short import of own
abbrev pub short_import_of_own : Numbers → Contents
short_import_of_own n = AShortImport (record {
  version = 0;
  machine = n.machine;
  time = 0;
  ordinal = 0;
  import_type = 0;
  name_type = 1;
  symbol = codes "own";
  dll = foo_dll;
})

-- Its members in three lists on a machine.
pub record WorkedLists (machine : MachineType) : Type 0 where
  pub header : header_specs machine (names_for Msvc (renamed definition_of_lists))
      ≡ header_member_specs (numbers machine)
  pub imports : all_import_specs machine (renamed definition_of_lists)
      ≡ record {
        name = foo_dll;
        contents = short_import_of_own (numbers machine);
        symbols = codes "__imp_own" ∷ codes "own" ∷ [];
      } ∷ []
  pub aliases : all_alias_specs machine (renamed definition_of_lists)
      ≡ member foo_dll (weak_bar (numbers machine)) (codes "bar")
      ∷ member foo_dll (weak_address (numbers machine)) (codes "__imp_bar")
      ∷ member foo_dll (AnObject (weak (numbers machine) (codes "__imp_vaz") (codes "__imp_var")))
      (codes "__imp_var")
      ∷ member foo_dll (AnObject (weak (numbers machine) (codes "__imp_own") (codes "__imp_fixed")))
      (codes "__imp_fixed")
      ∷ []
