-- Lemmas on what is said.
use Rattle.std.proofs.Common.{◌≡◌, ℕ, ◌+◌, ◌<◌, List, [], ◌∷◌, ◌++◌, Option, None, Some, length, take, get_or, map, sym, ap, subst, ◌∙◌, append_assoc, append-nil}
use Rattle.std.proofs.lemmas.List.{map-append, take_more}
use Rattle.implib_driver.specs.Reports.{Line, Says, Warns}
use Rattle.implib_driver.specs.Program.{warning_lines}
use Rattle.implib_rules.specs.declared.warnings.Warning.{Warning}
use Rattle.implib_rules.specs.Warnings.{WarningView, warning_view}

-- nothing is said
pub says_none : (said : Option (List Line)) → Says said said []
says_none None = tt
says_none (Some said) = sym (append-nil said)

-- more is said
pub says_more : (first second third : Option (List Line)) (lines more : List Line) → Says first second lines → Says second third more → Says first third (lines ++ more)
says_more None second third lines more says after = tt
says_more (Some first) None third lines more says after = absurd says
says_more (Some first) (Some second) None lines more says after = absurd after
says_more (Some first) (Some second) (Some third) lines more says after = after ∙ ap (λ t. t ++ more) says ∙ append_assoc first lines more

-- one more warning is said
pub warned_more : (before middle after : Option (List Line)) (path lines : List ℕ) (warnings : List Warning) (index : ℕ) (default : Warning) → index < length warnings
    → Says before middle (warning_lines path lines (map warning_view (take index warnings)))
    → Says middle after (Warns path (warning_view (get_or warnings index default)) lines ∷ [])
    → Says before after (warning_lines path lines (map warning_view (take (index + 1) warnings)))
warned_more before middle after path lines warnings index default within said says =
    let line : WarningView → Line = λ w. Warns path w lines in
    let item = get_or warnings index default in
    let more : take (index + 1) warnings ≡ take index warnings ++ item ∷ [] = take_more warnings index default within in
    let split : map line (map warning_view (take (index + 1) warnings)) ≡ map line (map warning_view (take index warnings)) ++ line (warning_view item) ∷ [] =
    ap (λ t. map line (map warning_view t)) more
    ∙ ap (map line) (map-append warning_view (take index warnings) (item ∷ []))
    ∙ map-append line (map warning_view (take index warnings)) (warning_view item ∷ [])
    in
    subst (λ t. Says before after t) (sym split)
    (says_more before middle after (map line (map warning_view (take index warnings))) (line (warning_view item) ∷ []) said says)
