-- Lookups worked by hand, and near misses.
use Rattle.std.specs.Prelude.{◌≡◌, true, false, List, [], ◌∷◌, Some, None, codes}
use Rattle.implib_dll.specs.declared.rows.Oddity.TheVariants.{PastTable, AtEmpty}
use Rattle.implib_dll.specs.declared.section.AddressKind.TheVariants.{Code, Data}
use Rattle.implib_dll.specs.Exports.{Exports, NameEntry, Address, Forwarder}
use Rattle.implib_dll.specs.Lookup.{by_name, by_ordinal, names_rise, ordinal_of, position_of}
use Rattle.implib_dll.specs.Rows.{oddity_of}
use Rattle.implib_dll.specs.WorkedFiles.{named, worked_exports}

-- three names that rise
abbrev pub rising : List NameEntry
rising = named (codes "alpha") 0 ∷ named (codes "beta") 1 ∷ named (codes "gamma") 2 ∷ []

-- two names in the wrong order
abbrev pub falling : List NameEntry
falling = named (codes "beta") 0 ∷ named (codes "alpha") 1 ∷ []

-- two names in the order of a dictionary
abbrev pub without_case : List NameEntry
without_case = named (codes "alpha") 0 ∷ named (codes "Beta") 1 ∷ []

-- a name twice
abbrev pub twice : List NameEntry
twice = named (codes "b") 0 ∷ named (codes "b") 1 ∷ []

-- the exports with these names
abbrev pub with_names : List NameEntry → Exports
with_names names = record worked_exports { names = names }

-- What lookups find.
pub record WorkedLookups : Type 0 where
  -- a right hint, one too low, one too high, the number of names, and the last of 16 bits
  pub rise : names_rise rising ≡ true
  pub hint_right : position_of rising (codes "beta") 1 ≡ Some 1
  pub hint_low : position_of rising (codes "beta") 0 ≡ Some 1
  pub hint_high : position_of rising (codes "beta") 2 ≡ Some 1
  pub hint_past : position_of rising (codes "beta") 3 ≡ Some 1
  pub hint_last : position_of rising (codes "gamma") 65535 ≡ Some 2
  -- a name that begins one, and one that is begun by one
  pub shorter : position_of rising (codes "bet") 1 ≡ None
  pub longer : position_of rising (codes "betas") 1 ≡ None
  pub nothing : position_of [] (codes "beta") 0 ≡ None
  -- a listed name that is not found, unless its hint is right
  pub fall : names_rise falling ≡ false
  pub missed : position_of falling (codes "alpha") 0 ≡ None
  pub found_by_hint : position_of falling (codes "alpha") 1 ≡ Some 1
  pub found_first : position_of falling (codes "beta") 0 ≡ Some 0
  pub case_misses : position_of without_case (codes "Beta") 0 ≡ None
  pub case_falls : names_rise without_case ≡ false
  -- a name twice: each by its hint
  pub twice_falls : names_rise twice ≡ false
  pub twice_first : position_of twice (codes "b") 0 ≡ Some 0
  pub twice_second : position_of twice (codes "b") 1 ≡ Some 1
  -- bytes are unsigned: 0x7A is below 0xC3
  pub unsigned : names_rise (named (0x7A ∷ []) 0 ∷ named (0xC3 ∷ []) 1 ∷ []) ≡ true
  -- by a name: an address, its alias, a forwarder, and no such name
  pub by_first : by_name worked_exports (codes "alpha") 0 ≡ Some (Address 0x1000 Code)
  pub by_alias : by_name worked_exports (codes "beta") 0 ≡ Some (Address 0x1000 Code)
  pub by_forwarder : by_name worked_exports (codes "gamma") 2 ≡ Some (Forwarder (codes "K.f"))
  pub by_none : by_name worked_exports (codes "delta") 0 ≡ None
  -- a name at a hole, at the last index, and at the number of targets
  pub at_hole : by_name (with_names (named (codes "h") 2 ∷ [])) (codes "h") 0 ≡ None
  pub at_last : by_name (with_names (named (codes "h") 4 ∷ [])) (codes "h") 0
      ≡ Some (Address 0x1000 Code)
  pub past : by_name (with_names (named (codes "h") 5 ∷ [])) (codes "h") 0 ≡ None
  pub odd_hole : oddity_of worked_exports.targets 2 ≡ Some AtEmpty
  pub odd_past : oddity_of worked_exports.targets 5 ≡ Some PastTable
  pub not_odd : oddity_of worked_exports.targets 4 ≡ None
  -- by an ordinal, with base 5: the one before, each, and the one behind
  pub ordinal_4 : by_ordinal worked_exports 4 ≡ None
  pub ordinal_5 : by_ordinal worked_exports 5 ≡ Some (Address 0x1000 Code)
  pub ordinal_6 : by_ordinal worked_exports 6 ≡ Some (Address 0x2004 Data)
  pub ordinal_7 : by_ordinal worked_exports 7 ≡ None
  pub ordinal_8 : by_ordinal worked_exports 8 ≡ Some (Forwarder (codes "K.f"))
  pub ordinal_9 : by_ordinal worked_exports 9 ≡ Some (Address 0x1000 Code)
  pub ordinal_10 : by_ordinal worked_exports 10 ≡ None
  -- base 65,535: only the first export has an ordinal of 16 bits
  pub high_first : by_ordinal (record worked_exports { base = 65535 }) 65535
      ≡ Some (Address 0x1000 Code)
  pub high_second : ordinal_of 65535 1 ≡ 65536
  -- the largest base: ordinals go on from 0
  pub wraps : ordinal_of 0xFFFFFFFF 1 ≡ 0
  pub wrapped : by_ordinal (record worked_exports { base = 0xFFFFFFFF }) 0
      ≡ Some (Address 0x2004 Data)
