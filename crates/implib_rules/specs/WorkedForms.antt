-- Quotes without their ends and wrong ordinals, worked by hand.
use Rattle.std.specs.Prelude.{◌≡◌, ℕ, List, [], ◌∷◌, ◌++◌, None, Some, codes}
use Rattle.implib.specs.declared.def.lexer.TokenKind.{TokenKind}
use Rattle.implib.specs.declared.def.lexer.TokenKind.TheVariants.{EqualEqual, Identifier, KwData}
use Rattle.implib.specs.declared.def.lexer.TokenKind.TheVariants.{KwExports, KwLibrary}
use Rattle.implib.specs.declared.def.listener.Role.{Role}
use Rattle.implib.specs.declared.def.listener.Role.TheVariants.{Name, Other}
use Rattle.implib.specs.Text.Heard.{Heard}
use Rattle.implib_rules.specs.declared.form.Problem.TheVariants.{NoOrdinal, SecondOrdinal}
use Rattle.implib_rules.specs.Forms.{misplaced_in, open_quote}

-- a `"`
abbrev pub quote : List ℕ
quote = 34 ∷ []

-- a token that is heard, at an offset
abbrev pub said : Role → TokenKind → List ℕ → ℕ → Heard
said role kind value at =
    record { role = role; token = record { kind = kind; value = value; at = at } }

-- `EXPORTS` and f in the next line
abbrev pub opened : List Heard
opened = said Other KwExports (codes "EXPORTS") 0 ∷ said Name Identifier (codes "f") 8 ∷ []

-- the quotes that are not closed in their lines, and the ordinals that are wrong
pub record MalformedWorked : Type 0 where
  pub closed_later : open_quote (codes "EXPORTS\n" ++ quote ++ codes "a\nb" ++ quote) ≡ Some 8
  pub at_the_end : open_quote (codes "EXPORTS\na\n" ++ quote ++ codes "b") ≡ Some 10
  pub closed : open_quote (codes "LIBRARY " ++ quote ++ codes "zoo" ++ quote ++ codes "\nEXPORTS\n"
      ++ quote ++ quote ++ codes "\n") ≡ None
  pub second_open : open_quote (quote ++ codes "a" ++ quote ++ codes " " ++ quote ++ codes "b\n")
      ≡ Some 4
  pub in_comment : open_quote (codes "; " ++ quote ++ codes "\nEXPORTS\na") ≡ None
  pub in_word : open_quote (codes "EXPORTS\na" ++ quote ++ codes "b\n") ≡ None
  pub after_nul : open_quote (codes "EXPORTS a " ++ 0 ∷ quote) ≡ None
  pub after_attribute : misplaced_in (codes "EXPORTS\nf DATA @65536")
      (opened ++ said Other KwData (codes "DATA") 10 ∷ said Name Identifier (codes "@65536") 15
      ∷ [])
      ≡ Some (record { problem = NoOrdinal; word = codes "@65536"; at = 15 })
  -- `f @ 1 @2`, `f @1` and `g @2`, `f == @1 @2`
  pub apart : misplaced_in (codes "EXPORTS\nf @ 1 @2")
      (opened ++ said Other Identifier (codes "@") 10 ∷ said Other Identifier (codes "1") 12
      ∷ said Other Identifier (codes "@2") 14 ∷ [])
      ≡ Some (record { problem = SecondOrdinal; word = codes "@2"; at = 14 })
  pub of_two : misplaced_in (codes "EXPORTS\nf @1 g @2")
      (opened ++ said Other Identifier (codes "@1") 10 ∷ said Name Identifier (codes "g") 13
      ∷ said Other Identifier (codes "@2") 15 ∷ []) ≡ None
  pub target : misplaced_in (codes "EXPORTS\nf == @1 @2")
      (opened ++ said Other EqualEqual (codes "==") 10 ∷ said Other Identifier (codes "@1") 13
      ∷ said Other Identifier (codes "@2") 16 ∷ []) ≡ None
  pub of_library : misplaced_in (codes "EXPORTS\nf @1 LIBRARY @2")
      (opened ++ said Other Identifier (codes "@1") 10 ∷ said Other KwLibrary (codes "LIBRARY") 13
      ∷ said Other Identifier (codes "@2") 21 ∷ []) ≡ None
  -- the first one counts
  pub first : misplaced_in (codes "EXPORTS\nf @1 @2 @65536")
      (opened ++ said Other Identifier (codes "@1") 10 ∷ said Other Identifier (codes "@2") 13
      ∷ said Name Identifier (codes "@65536") 16 ∷ [])
      ≡ Some (record { problem = SecondOrdinal; word = codes "@2"; at = 13 })
