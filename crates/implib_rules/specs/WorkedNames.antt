-- Symbols, asked names, names of DLLs and aliases worked by hand.
use Rattle.std.specs.Prelude.{◌≡◌, ℕ, List, [], ◌∷◌, true, false, None, Some, codes, map}
use Rattle.implib.specs.declared.def.lexer.TokenKind.{TokenKind}
use Rattle.implib.specs.declared.def.lexer.TokenKind.TheVariants.{Identifier, KwExports, KwLibrary}
use Rattle.implib.specs.declared.def.lexer.TokenKind.TheVariants.{KwName}
use Rattle.implib.specs.declared.def.listener.Role.TheVariants.{Other}
use Rattle.implib.specs.declared.flavor.Flavor.{Flavor}
use Rattle.implib.specs.declared.flavor.Flavor.TheVariants.{Msvc, Gnu}
use Rattle.implib.specs.declared.machine.MachineType.{MachineType}
use Rattle.implib.specs.declared.machine.MachineType.TheVariants.{I386, ARMNT, AMD64, ARM64}
use Rattle.implib.specs.Definition.{DefinitionView, ExportView, empty_definition, empty_export}
use Rattle.implib.specs.Import.{name_asked}
use Rattle.implib.specs.Text.Heard.{Heard}
use Rattle.implib_rules.specs.Linked.{NamingView, linked, linked_export, linked_exports}
use Rattle.implib_rules.specs.Linked.{symbol_linked}
use Rattle.implib_rules.specs.Machines.{machine_called}
use Rattle.implib_rules.specs.Nameless.{with_ordinals}
use Rattle.implib_rules.specs.Names.{dll_name, is_program, lacks_name, own_name}
use Rattle.implib_rules.specs.Order.{library_specs}

-- the rules without an option
abbrev pub usual : NamingView
usual = record { is_plain = false; kills_at = false; exports_as = false; keeps_decorated = false }

-- the rules of `-k`
abbrev pub killing : NamingView
killing = record { is_plain = false; kills_at = true; exports_as = false; keeps_decorated = false }

-- the rules of `--no-leading-underscore`
abbrev pub plain : NamingView
plain = record { is_plain = true; kills_at = false; exports_as = false; keeps_decorated = false }

-- the rules of both
abbrev pub plain_and_killing : NamingView
plain_and_killing =
    record { is_plain = true; kills_at = true; exports_as = false; keeps_decorated = false }

-- the rules of LIB
abbrev pub decorated : NamingView
decorated = record { is_plain = false; kills_at = false; exports_as = true; keeps_decorated = true }

-- the export of a word, with another after `==` or with an empty one
abbrev pub line : List ℕ → List ℕ → ExportView
line word target = record empty_export { name = word; alias_target = target }

-- an export as it is linked where there is no other
abbrev pub linked_alone : MachineType → NamingView → Flavor → ExportView → ExportView
linked_alone machine naming flavor e = linked_export machine naming flavor (e ∷ []) e

-- in GNU's flavour the export of a word, with another after `==` or with an empty one, has this
-- symbol and asks for this name
pub record Links (machine : MachineType) (naming : NamingView)
    (word target symbol asked : List ℕ) : Type 0 where
  pub symbol_is : (linked_alone machine naming Gnu (line word target)).name ≡ symbol
  pub asked_is : name_asked machine (linked_alone machine naming Gnu (line word target)) ≡ asked
  pub target_gone : (linked_alone machine naming Gnu (line word target)).alias_target ≡ []

-- what exports are linked by, and what they ask for
pub record ExportsLinked : Type 0 where
  pub c : Links I386 usual (codes "f") [] (codes "_f") (codes "f")
  pub stdcall : Links I386 usual (codes "F@8") [] (codes "_F@8") (codes "F@8")
  pub stdcall_killed : Links I386 killing (codes "F@8") [] (codes "_F@8") (codes "F")
  pub c_of_lib : Links I386 decorated (codes "f") [] (codes "_f") (codes "f")
  pub stdcall_of_lib : Links I386 decorated (codes "_F@8") [] (codes "_F@8") (codes "_F@8")
  pub bare_stdcall_of_lib : Links I386 decorated (codes "F@8") [] (codes "F@8") (codes "F@8")
  pub last_at_sign_of_lib : Links I386 decorated (codes "F@") [] (codes "F@") (codes "F@")
  pub asked_of_lib : Links I386 decorated (codes "f") (codes "g@4") (codes "_f") (codes "g@4")
  pub fastcall : Links I386 usual (codes "@G@8") [] (codes "@G@8") (codes "@G@8")
  pub fastcall_killed : Links I386 killing (codes "@G@8") [] (codes "@G@8") (codes "G")
  pub vectorcall : Links I386 usual (codes "N@@8") [] (codes "N@@8") (codes "N@@8")
  pub vectorcall_killed : Links I386 killing (codes "N@@8") [] (codes "N@@8") (codes "N")
  pub underscored : Links I386 usual (codes "_I@8") [] (codes "__I@8") (codes "_I@8")
  pub underscored_killed : Links I386 killing (codes "_I@8") [] (codes "__I@8") (codes "_I")
  pub cpp_killed : Links I386 killing (codes "?x@8") [] (codes "?x@8") (codes "?x@8")
  pub letters_killed : Links I386 killing (codes "O@ab") [] (codes "_O@ab") (codes "O")
  pub fastcall_at_the_second : Links I386 killing (codes "@G@8@4") [] (codes "@G@8@4") (codes "G")
  pub lone_killed : Links I386 killing (codes "@8") [] (codes "@8") (codes "@8")
  pub plain_kept : Links I386 plain (codes "_J") [] (codes "_J") (codes "_J")
  pub plain_killed : Links I386 plain_and_killing (codes "F@8") [] (codes "F@8") (codes "F")
  pub amd64_kept : Links AMD64 killing (codes "F@8") [] (codes "F@8") (codes "F@8")
  pub other : Links AMD64 usual (codes "a") (codes "b") (codes "a") (codes "b")
  pub other_underscored : Links I386 usual (codes "a") (codes "b") (codes "_a") (codes "b")
  pub other_not_killed : Links I386 killing (codes "a@4") (codes "a@4") (codes "_a@4") (codes "a@4")
  pub c_given : (linked_alone I386 usual Msvc (line (codes "f") [])).asked_name ≡ Some (codes "f")
  pub plain_given : (linked_alone I386 plain Msvc (line (codes "_J") [])).asked_name
      ≡ Some (codes "_J")
  pub other_given : (linked_alone ARM64 usual Gnu (line (codes "a") (codes "b"))).asked_name
      ≡ Some (codes "b")
  pub own_not_given : (linked_alone AMD64 killing Msvc (line (codes "F@8") [])).asked_name ≡ None
  pub target_not_given : (linked_alone ARMNT usual Gnu (line (codes "a") (codes "a"))).asked_name
      ≡ None
  pub by_name : symbol_linked I386 usual (line (codes "f") []) ≡ codes "_f"
  pub by_external_name : symbol_linked I386 usual
      (record (line (codes "f") []) { ext_name = Some (codes "g") }) ≡ codes "_g"
  pub external : linked_alone I386 usual Gnu
      (record (line (codes "f") []) { ext_name = Some (codes "g") })
      ≡ record empty_export { name = codes "_g"; asked_name = Some (codes "g") }
  pub external_of_other : linked_alone AMD64 usual Gnu
      (record (line (codes "f") (codes "h")) { ext_name = Some (codes "g") })
      ≡ record empty_export { name = codes "g"; asked_name = Some (codes "h") }

-- an import as it is linked: of this symbol, and asking for this name
abbrev pub an_import : List ℕ → List ℕ → ExportView
an_import symbol asked = record empty_export { name = symbol; asked_name = Some asked }

-- an import as it is linked that asks for its symbol and gives no name
abbrev pub a_plain_import : List ℕ → ExportView
a_plain_import symbol = record empty_export { name = symbol }

-- an alias as it is linked: of this symbol, and weak for that one
abbrev pub an_alias : List ℕ → List ℕ → ExportView
an_alias symbol target =
    record empty_export { name = symbol; alias_target = target; asked_name = Some symbol }

-- what exports with `==` are linked as, and what they add
pub record AliasesLinked : Type 0 where
  pub target_added : linked_exports AMD64 usual Msvc (line (codes "a") (codes "b") ∷ [])
      ≡ an_alias (codes "a") (codes "?b") ∷ an_import (codes "?b") (codes "b") ∷ []
  pub underscored : linked_exports I386 usual Msvc
      (line (codes "strcasecmp") (codes "_stricmp") ∷ [])
      ≡ an_alias (codes "_strcasecmp") (codes "?_stricmp")
      ∷ an_import (codes "?_stricmp") (codes "_stricmp") ∷ []
  pub killed : linked_exports I386 killing Msvc (line (codes "a@4") (codes "F@8") ∷ [])
      ≡ an_alias (codes "_a@4") (codes "?F@8") ∷ an_import (codes "?F@8") (codes "F@8") ∷ []
  -- whatever else asks for the name, under its own word or another
  pub exported : linked_exports AMD64 usual Msvc
      (line (codes "a") (codes "b") ∷ line (codes "b") [] ∷ [])
      ≡ an_alias (codes "a") (codes "?b") ∷ a_plain_import (codes "b")
      ∷ an_import (codes "?b") (codes "b") ∷ []
  pub exchanged : linked_exports AMD64 usual Msvc
      (line (codes "a") (codes "b") ∷ line (codes "b") (codes "a") ∷ [])
      ≡ an_alias (codes "a") (codes "?b") ∷ an_alias (codes "b") (codes "?a")
      ∷ an_import (codes "?b") (codes "b") ∷ an_import (codes "?a") (codes "a") ∷ []
  pub shared : linked_exports AMD64 usual Msvc
      (line (codes "a") (codes "b") ∷ line (codes "c") (codes "b") ∷ [])
      ≡ an_alias (codes "a") (codes "?b") ∷ an_alias (codes "c") (codes "?b")
      ∷ an_import (codes "?b") (codes "b") ∷ []
  -- an export has the symbol
  pub taken : linked_exports ARMNT usual Msvc
      (line (codes "a") (codes "b") ∷ line (codes "?b") [] ∷ [])
      ≡ an_import (codes "a") (codes "b") ∷ a_plain_import (codes "?b") ∷ []
  pub external : linked_exports AMD64 usual Msvc
      (record (line (codes "x") (codes "b")) { ext_name = Some (codes "a") } ∷ [])
      ≡ an_alias (codes "a") (codes "?b") ∷ an_import (codes "?b") (codes "b") ∷ []
  -- data has another symbol than code
  pub of_data : linked_exports AMD64 usual Msvc
      (record (line (codes "a") (codes "b")) { is_data = true; ordinal = 3 } ∷ [])
      ≡ record (an_alias (codes "a") (codes "@b")) { is_data = true; ordinal = 3 }
      ∷ record (an_import (codes "@b") (codes "b")) { is_data = true } ∷ []
  pub of_constant : linked_exports AMD64 usual Msvc
      (record (line (codes "a") (codes "b")) { constant = true } ∷ [])
      ≡ record (an_alias (codes "a") (codes "@b")) { constant = true }
      ∷ record (an_import (codes "@b") (codes "b")) { constant = true } ∷ []
  pub shared_with_data : linked_exports AMD64 usual Msvc
      (line (codes "a") (codes "b") ∷ record (line (codes "c") (codes "b")) { is_data = true } ∷ [])
      ≡ an_alias (codes "a") (codes "?b")
      ∷ record (an_alias (codes "c") (codes "@b")) { is_data = true }
      ∷ an_import (codes "?b") (codes "b")
      ∷ record (an_import (codes "@b") (codes "b")) { is_data = true } ∷ []
  -- where short imports can have third texts, the first import by name that asks for the word
  pub asked_first : linked_exports I386 (record killing { exports_as = true }) Msvc
      (line (codes "F@4") [] ∷ line (codes "a") (codes "F") ∷ line (codes "F@8") [] ∷ [])
      ≡ an_import (codes "_F@4") (codes "F") ∷ an_alias (codes "_a") (codes "_F@4")
      ∷ an_import (codes "_F@8") (codes "F") ∷ []
  pub itself : linked_exports AMD64 usual Msvc (line (codes "X") (codes "X") ∷ [])
      ≡ a_plain_import (codes "X") ∷ []
  pub without_prefix : linked_exports I386 usual Msvc (line (codes "f@8") (codes "f@8") ∷ [])
      ≡ an_import (codes "_f@8") (codes "f@8") ∷ []
  pub undecorated : linked_exports I386 usual Msvc (line (codes "X@4") (codes "X") ∷ [])
      ≡ an_import (codes "_X@4") (codes "X") ∷ []
  pub not_undecorated : linked_exports I386 usual Msvc (line (codes "X@4") (codes "_X") ∷ [])
      ≡ an_alias (codes "_X@4") (codes "?_X") ∷ an_import (codes "?_X") (codes "_X") ∷ []
  -- a name type cuts a word's symbol on I386 alone
  pub cut_on_i386 : linked_exports I386 plain Msvc (line (codes "__f") (codes "_f") ∷ [])
      ≡ an_import (codes "__f") (codes "_f") ∷ []
  pub uncut_on_armnt : linked_exports ARMNT usual Msvc (line (codes "__f") (codes "_f") ∷ [])
      ≡ an_alias (codes "__f") (codes "?_f") ∷ an_import (codes "?_f") (codes "_f") ∷ []
  pub uncut_on_arm64 : linked_exports ARM64 usual Msvc (line (codes "f@8") (codes "f") ∷ [])
      ≡ an_alias (codes "f@8") (codes "?f") ∷ an_import (codes "?f") (codes "f") ∷ []
  pub as_symbol : linked_exports I386 usual Msvc (line (codes "swab") (codes "_swab") ∷ [])
      ≡ an_import (codes "_swab") (codes "_swab") ∷ []
  pub by_ordinal : linked_exports AMD64 usual Msvc
      (record (line (codes "a") (codes "b")) { no_name = true; ordinal = 5 } ∷ [])
      ≡ record (an_import (codes "a") (codes "b")) { no_name = true; ordinal = 5 } ∷ []
  pub private : linked_exports AMD64 usual Msvc
      (record (line (codes "a") (codes "b")) { private = true } ∷ [])
      ≡ record (an_import (codes "a") (codes "b")) { private = true } ∷ []
  pub gnu : linked_exports AMD64 usual Gnu (line (codes "a") (codes "b") ∷ [])
      ≡ an_import (codes "a") (codes "b") ∷ []
  -- an alias of an export without a name, first or last, and one of an export of both
  pub of_ordinals : (with_ordinals (record empty_definition {
    exports = line (codes "g") (codes "f")
        ∷ record (line (codes "f") []) { no_name = true; ordinal = 5 }
        ∷ record (line (codes "h") (codes "f")) { is_data = true } ∷ line (codes "i") (codes "j")
        ∷ line (codes "j") [] ∷ record (line (codes "j") []) { no_name = true; ordinal = 6 } ∷ [];
  })).exports
      ≡ record (line (codes "g") []) { no_name = true; ordinal = 5 }
      ∷ record (line (codes "f") []) { no_name = true; ordinal = 5 }
      ∷ record (line (codes "h") []) { no_name = true; ordinal = 5; is_data = true }
      ∷ line (codes "i") (codes "j") ∷ line (codes "j") []
      ∷ record (line (codes "j") []) { no_name = true; ordinal = 6 } ∷ []

-- a definition with an alias of an export, one of a name that is none, and one of data
abbrev pub with_aliases : DefinitionView
with_aliases = record empty_definition {
  import_name = codes "zoo.dll";
  exports = line (codes "a") (codes "b") ∷ line (codes "b") [] ∷ line (codes "d") (codes "c")
      ∷ line (codes "e") []
      ∷ record (line (codes "f") (codes "g")) { is_data = true } ∷ [];
}

-- a definition with an alias of a constant, and with a constant
abbrev pub with_constants : DefinitionView
with_constants = record empty_definition {
  import_name = codes "zoo.dll";
  exports = record (line (codes "a") (codes "b")) { constant = true }
      ∷ record (line (codes "c") []) { constant = true } ∷ [];
}

-- the archive symbols of their members, in order
pub record MembersInOrder : Type 0 where
  pub msvc : map (λ p. p.symbols) (library_specs (linked AMD64 usual Msvc with_aliases) AMD64 Msvc)
      ≡ (codes "__IMPORT_DESCRIPTOR_zoo" ∷ [])
      ∷ (codes "__NULL_IMPORT_DESCRIPTOR" ∷ [])
      ∷ ((0x7F ∷ codes "zoo_NULL_THUNK_DATA") ∷ [])
      ∷ (codes "__imp_b" ∷ codes "b" ∷ [])
      ∷ (codes "__imp_e" ∷ codes "e" ∷ [])
      ∷ (codes "__imp_?b" ∷ codes "?b" ∷ [])
      ∷ (codes "__imp_?c" ∷ codes "?c" ∷ [])
      ∷ (codes "__imp_@g" ∷ [])
      ∷ (codes "a" ∷ [])
      ∷ (codes "__imp_a" ∷ [])
      ∷ (codes "d" ∷ [])
      ∷ (codes "__imp_d" ∷ [])
      ∷ (codes "__imp_f" ∷ [])
      ∷ []
  pub constants : map (λ p. p.symbols)
      (library_specs (linked AMD64 usual Msvc with_constants) AMD64 Msvc)
      ≡ (codes "__IMPORT_DESCRIPTOR_zoo" ∷ [])
      ∷ (codes "__NULL_IMPORT_DESCRIPTOR" ∷ [])
      ∷ ((0x7F ∷ codes "zoo_NULL_THUNK_DATA") ∷ [])
      ∷ (codes "__imp_c" ∷ codes "c" ∷ [])
      ∷ (codes "__imp_@b" ∷ codes "@b" ∷ [])
      ∷ (codes "__imp_a" ∷ [])
      ∷ []

-- a token that is heard
abbrev pub heard : TokenKind → List ℕ → Heard
heard kind value = record { role = Other; token = record { kind = kind; value = value; at = 0 } }

-- what is heard of `LIBRARY`, `NAME a` and `LIBRARY b`, and of `LIBRARY a` and `NAME b`
abbrev pub three_headings : List Heard
three_headings =
    heard KwLibrary (codes "LIBRARY") ∷ heard KwName (codes "NAME") ∷ heard Identifier (codes "a")
    ∷ heard KwLibrary (codes "LIBRARY") ∷ heard Identifier (codes "b") ∷ []

abbrev pub two_headings : List Heard
two_headings =
    heard KwLibrary (codes "LIBRARY") ∷ heard Identifier (codes "a")
    ∷ heard KwName (codes "NAME") ∷ heard Identifier (codes "b") ∷ []

-- what is heard of `LIBRARY EXPORTS c`, and of `LIBRARY "" NAME b`
abbrev pub heading_alone : List Heard
heading_alone =
    heard KwLibrary (codes "LIBRARY") ∷ heard KwExports (codes "EXPORTS")
    ∷ heard Identifier (codes "c") ∷ []

abbrev pub empty_heading : List Heard
empty_heading =
    heard KwLibrary (codes "LIBRARY") ∷ heard Identifier [] ∷ heard KwName (codes "NAME")
    ∷ heard Identifier (codes "b") ∷ []

-- names of DLLs
pub record DllsNamed : Type 0 where
  pub library : dll_name None (codes "zoo") false ≡ codes "zoo.dll"
  pub program : dll_name None (codes "zoo") true ≡ codes "zoo.exe"
  pub ended : dll_name None (codes "zoo.drv") false ≡ codes "zoo.drv"
  pub ended_in_a_stop : dll_name None (codes "zoo.") false ≡ codes "zoo."
  pub below : dll_name None (codes "d.e/zoo") false ≡ codes "zoo.dll"
  pub below_backslash : dll_name None (codes "d\\e/f\\zoo") false ≡ codes "zoo.dll"
  pub given : dll_name (Some (codes "d/zoo")) (codes "a.dll") false ≡ codes "zoo"
  pub given_program : dll_name (Some (codes "d\\zoo")) (codes "a") true ≡ codes "zoo"
  pub mixed_directories : dll_name None (codes "d\\e/f\\zoo.ocx") false ≡ codes "zoo.ocx"
  pub none : lacks_name None [] ≡ true
  pub directory : lacks_name None (codes "zoo/") ≡ true
  pub given_directory : lacks_name (Some (codes "d\\")) (codes "zoo") ≡ true
  pub given_for_none : lacks_name (Some (codes "zoo")) [] ≡ false
  pub first_of_three : own_name three_headings ≡ codes "a"
  pub program_of_three : is_program three_headings ≡ true
  pub first_of_two : own_name two_headings ≡ codes "a"
  pub library_of_two : is_program two_headings ≡ false
  pub none_of_a_heading_alone : own_name heading_alone ≡ []
  pub behind_an_empty_heading : own_name empty_heading ≡ codes "b"
  pub program_behind_an_empty_heading : is_program empty_heading ≡ true
  pub unheaded_text : own_name
      (heard KwExports (codes "EXPORTS") ∷ heard Identifier (codes "c") ∷ []) ≡ []

-- which machine a name is of
pub record MachinesNamed : Type 0 where
  pub i386 : machine_called (codes "i386") ≡ Some I386
  pub x86 : machine_called (codes "x86") ≡ Some I386
  pub i386_64 : machine_called (codes "i386:x86-64") ≡ Some AMD64
  pub amd64 : machine_called (codes "amd64") ≡ Some AMD64
  pub x64 : machine_called (codes "x64") ≡ Some AMD64
  pub x86_64 : machine_called (codes "x86_64") ≡ Some AMD64
  pub arm : machine_called (codes "arm") ≡ Some ARMNT
  pub armnt : machine_called (codes "armnt") ≡ Some ARMNT
  pub arm64 : machine_called (codes "arm64") ≡ Some ARM64
  pub aarch64 : machine_called (codes "aarch64") ≡ Some ARM64
  -- others, as capitals, a longer one and none
  pub capitals : machine_called (codes "X64") ≡ None
  pub arm64ec : machine_called (codes "arm64ec") ≡ None
  pub empty : machine_called [] ≡ None
