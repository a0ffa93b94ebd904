-- Libraries beside definitions, worked by hand.
use Rattle.std.specs.Prelude.{ℕ, true, List, [], ◌∷◌, ◌++◌, codes}
use Rattle.implib.specs.declared.machine.MachineType.TheVariants.{AMD64, ARM64, I386}
use Rattle.implib.specs.Definition.{DefinitionView}
use Rattle.implib.specs.Import.{Ask, Name, Ordinal}
use Rattle.implib.specs.Worked.Members.{of_dll}
use Rattle.implib.specs.Worked.Statements.{plain_export}
use Rattle.implib_read.specs.Classes.{Class, AnAlias, Descriptor, Head, NullDescriptor, NullThunk}
use Rattle.implib_read.specs.Classes.{Other, Tail}
use Rattle.implib_read.specs.OwnLibraries.{IsGnuLibraryOf, IsMsvcLibraryOf, ReadsAsGnuLibrary}
use Rattle.implib_read.specs.OwnLibraries.{ReadsAsMsvcLibrary}
use Rattle.implib_read.specs.WorkedLibraries.{of_foo, worked_dlltool, worked_ld, worked_llvm}
use Rattle.implib_read.specs.declared.import.ImportKind.{ImportKind}
use Rattle.implib_read.specs.declared.import.ImportKind.TheVariants.{Code, CodeOrConst, Const}

-- foo.dll with bar, the data baz, and qux by its ordinal 5: what `worked_llvm` was made of
abbrev pub foo : DefinitionView
foo = of_dll (codes "foo.dll")
    (plain_export (codes "bar")
    ∷ record (plain_export (codes "baz")) { is_data = true }
    ∷ record (plain_export (codes "qux")) { ordinal = 5; no_name = true } ∷ [])

-- foo.dll with bar alone, and without exports
abbrev pub foo_with_bar : DefinitionView
foo_with_bar = of_dll (codes "foo.dll") (plain_export (codes "bar") ∷ [])

abbrev pub foo_of_none : DefinitionView
foo_of_none = of_dll (codes "foo.dll") []

-- foo.dll with bar, which is an alias of baz too
abbrev pub foo_with_alias : DefinitionView
foo_with_alias = of_dll (codes "foo.dll")
    (record (plain_export (codes "bar")) { alias_target = codes "baz" } ∷ [])

-- the first three members, and further ones
abbrev pub headed : List Class → List Class
headed others = Descriptor ∷ NullDescriptor ∷ NullThunk ∷ others

-- bar of foo.dll, which is asked for this
abbrev pub bar_asking : Ask → Class
bar_asking ask = of_foo Code (codes "__imp_bar" ∷ codes "bar" ∷ []) ask

-- bar of foo.dll of a kind, by its name
abbrev pub bar_of : ImportKind → Class
bar_of kind = of_foo kind (codes "__imp_bar" ∷ codes "bar" ∷ []) (Name (codes "bar") 0)

-- an alias
abbrev pub alias : List ℕ → List ℕ → Class
alias weak target = AnAlias (record { weak = weak; target = target })

-- Which members are a library of a definition, and which are none.
pub record WorkedOwnLibraries : Type 0 where
  pub llvm : ReadsAsMsvcLibrary foo AMD64 worked_llvm
  pub none : IsMsvcLibraryOf foo_of_none I386 (headed [])
  pub with_alias : IsMsvcLibraryOf foo_with_alias AMD64
      (headed (alias (codes "bar") (codes "baz") ∷ alias (codes "__imp_bar") (codes "__imp_baz")
      ∷ bar_asking (Name (codes "bar") 0) ∷ []))
  -- the first three in another order; another object; bar by an ordinal; an alias too many; a
  -- constant for code, code that is not told from it, another machine
  pub no_header : IsMsvcLibraryOf foo_of_none AMD64 (Descriptor ∷ NullThunk ∷ NullDescriptor ∷ []) →
      ⊥
  pub not_read : IsMsvcLibraryOf foo_of_none AMD64 (headed (Other ∷ [])) → ⊥
  pub other_import : IsMsvcLibraryOf foo_with_bar AMD64 (headed (bar_asking (Ordinal 0) ∷ [])) → ⊥
  pub other_alias : IsMsvcLibraryOf foo_with_bar AMD64
      (headed (alias (codes "bar") (codes "baz") ∷ bar_asking (Name (codes "bar") 0) ∷ [])) → ⊥
  pub other_kind : IsMsvcLibraryOf foo_with_bar AMD64 (headed (bar_of Const ∷ [])) → ⊥
  pub untold_kind : IsMsvcLibraryOf foo_with_bar AMD64 (headed (bar_of CodeOrConst ∷ [])) → ⊥
  pub other_machine : IsMsvcLibraryOf foo_with_bar ARM64 (headed (bar_of Code ∷ [])) → ⊥

-- foo.dll with bar by the hint 6: what `worked_dlltool` was made of
abbrev pub foo_by_dlltool : DefinitionView
foo_by_dlltool = of_dll (codes "foo.dll") (record (plain_export (codes "bar")) { ordinal = 6 } ∷ [])

-- foo.dll with bar by the hint 3, and qux by its ordinal 5: what `worked_ld` was made of
abbrev pub foo_by_ld : DefinitionView
foo_by_ld = of_dll (codes "foo.dll")
    (record (plain_export (codes "bar")) { ordinal = 3 }
    ∷ record (plain_export (codes "qux")) { ordinal = 5; no_name = true } ∷ [])

-- bar and qux, each by its name with the hint 0, and foo.dll with both
abbrev pub bar_and_qux : DefinitionView
bar_and_qux =
    of_dll (codes "foo.dll") (plain_export (codes "bar") ∷ plain_export (codes "qux") ∷ [])

abbrev pub by_name : List ℕ → Class
by_name name = of_foo CodeOrConst ((codes "__imp_" ++ name) ∷ name ∷ []) (Name name 0)

-- Which members are a library of a definition for GNU's linker, and which are none.
pub record WorkedOwnGnuLibraries : Type 0 where
  pub dlltool : ReadsAsGnuLibrary foo_by_dlltool AMD64 worked_dlltool
  pub ld : ReadsAsGnuLibrary foo_by_ld AMD64 worked_ld
  pub none : IsGnuLibraryOf foo_of_none I386 (Tail ∷ Head ∷ [])
  pub with_alias : IsGnuLibraryOf foo_with_alias AMD64
      (Tail ∷ Head ∷ by_name (codes "bar") ∷ alias (codes "__imp_bar") (codes "__imp_baz")
      ∷ alias (codes "bar") (codes "baz") ∷ [])
  pub backwards : IsGnuLibraryOf bar_and_qux AMD64
      (Tail ∷ Head ∷ by_name (codes "qux") ∷ by_name (codes "bar") ∷ [])
  -- the head first; another object; the exports from the first to the last; an alias too many
  pub no_header : IsGnuLibraryOf foo_of_none AMD64 (Head ∷ Tail ∷ []) → ⊥
  pub not_read : IsGnuLibraryOf foo_of_none AMD64 (Tail ∷ Head ∷ Other ∷ []) → ⊥
  pub forwards : IsGnuLibraryOf bar_and_qux AMD64
      (Tail ∷ Head ∷ by_name (codes "bar") ∷ by_name (codes "qux") ∷ []) → ⊥
  pub other_alias : IsGnuLibraryOf foo_with_bar AMD64
      (Tail ∷ Head ∷ by_name (codes "bar") ∷ alias (codes "bar") (codes "baz") ∷ []) → ⊥
