-- Warnings that are appended to others.
use Rattle.std.proofs.Common.{◌≡◌, ◌∙◌, ℕ, ◌+◌, ◌<◌, ◌≤◌, List, ◌++◌, Option, ap, append-nil, append_assoc, arith, drop, get_or, length, sym}
use Rattle.std.proofs.Math.ListN.{drop_of_length-le}
use Rattle.std.proofs.lemmas.List.{drop_more}
use Rattle.implib.specs.declared.def.position.Position.{Position}
use Rattle.implib.specs.Definition.{ExportView}
use Rattle.implib_rules.specs.declared.places.Place.{Place}
use Rattle.implib_rules.specs.declared.places.Site.{Site}
use Rattle.implib_rules.specs.Options.{LibraryOptionsView}
use Rattle.implib_rules.specs.Warnings.{NoticeView, WarningView, index_after, warned, warnings_at, warnings_from}

-- a notice that is another
pub said_as : (before after : List WarningView) (notice other : Option NoticeView) (position : Position) → notice ≡ other
    → after ≡ before ++ warned notice position → after ≡ before ++ warned other position
said_as before after notice other position same is = is ∙ ap (λ n. before ++ warned n position) same

-- some and then others
pub said_then : (start middle end first second : List WarningView) → middle ≡ start ++ first → end ≡ middle ++ second → end ≡ start ++ (first ++ second)
said_then start middle end first second one other = other ∙ ap (λ t. t ++ second) one ∙ append_assoc start first second

-- the warnings at the places from an index on are those at the one there and those from the next on
pub place_passed : (options : LibraryOptionsView) (exports : List ExportView) (all said more : List WarningView) (index next : ℕ) (places : List Place) (at : ℕ)
    (d place : Place) → at < length places → place ≡ get_or places at d → all ≡ said ++ warnings_from options exports index (drop at places)
    → more ≡ said ++ warnings_at options exports index place → next ≡ index_after place.site index
    → all ≡ more ++ warnings_from options exports next (drop (at + 1) places)
unfolding warnings_from
place_passed options exports all said more index next places at d place within is before pushed counted = grind (arith, drop_more, append_assoc)

-- after the last place there are none
pub places_passed : (options : LibraryOptionsView) (exports : List ExportView) (all said : List WarningView) (index : ℕ) (places : List Place) (at : ℕ)
    → length places ≤ at → all ≡ said ++ warnings_from options exports index (drop at places) → said ≡ all
unfolding warnings_from
places_passed options exports all said index places at end before =
    sym (before ∙ ap (λ t. said ++ warnings_from options exports index t) (drop_of_length-le places end) ∙ append-nil said)

-- an export more at most
pub index_below : (at : Site) (index : ℕ) → index_after at index ≤ index + 1
index_below at index = grind arith
