-- Warnings that are said one by one.
use Rattle.std.proofs.Common.{arith, ◌≡◌, ℕ, ◌+◌, ◌<◌, ◌≤◌, List, [], ◌∷◌, ◌++◌, length, map, flat_map, take, get_or, sym, ap, ◌∙◌, append-nil, append_assoc}
use Rattle.std.proofs.lemmas.Grind.{flat_map-append}
use Rattle.std.proofs.lemmas.List.{length-map, map-append, take_all, take_more}
use Rattle.std.proofs.lemmas.List.Elements.{All-push}
use Rattle.implib_archive.specs.Pushed.{Pushes}
use Rattle.implib_archive.proofs.Appended.{pushes_as, pushes_then}
use Rattle.implib_rules.specs.declared.warnings.Warning.{Warning}
use Rattle.implib_rules.specs.Warnings.{WarningView, warning_view}
use Rattle.implib_c_calls.specs.Encoding.{encoded_number}
use Rattle.implib_c_calls.specs.Warnings.{Fits, Said, encoded_said, encoded_warnings, warned_of}
use Rattle.implib_c_calls.specs.WarningsAnswer.{IsEncodingOf, PushesWarning, PushesWarnings}

-- after their number alone none is said
pub pushes_none : (mark count : ℕ) (new mid : List ℕ) → new ≡ [] → Pushes new mid (encoded_number count) → PushesWarnings mark count [] [] mid
pushes_none mark count new mid none pushes = grind (arith, pushes_as, append-nil)

module _ (mark : ℕ) (warnings : List Warning) (index : ℕ) {old mid : List ℕ} (first : PushesWarnings mark (length warnings) (map warning_view (take index warnings)) old mid) where
  -- one warning more
  pub pushes_one : {new : List ℕ} → (some : Warning) → index < length warnings → PushesWarning mark (warning_view (get_or warnings index some)) mid new
      → PushesWarnings mark (length warnings) (map warning_view (take (index + 1) warnings)) old new
  pushes_one some within one =
      let item : Warning = get_or warnings index some in
      let front : List ℕ = encoded_number (length warnings) in
      let before : List WarningView = map warning_view (take index warnings) in
      let more : take (index + 1) warnings ≡ take index warnings ++ item ∷ [] = take_more warnings index some within in
      let all : map (warned_of mark) (map warning_view (take (index + 1) warnings)) ≡ map (warned_of mark) before ++ map (warned_of mark) (warning_view item ∷ []) = grind (arith, map, take, map-append) in
      record {
        said = first.said ++ one.said ∷ [];
        are = map-append (λ (s : Said). s.warned) first.said (one.said ∷ [])
            ∙ (ap (λ t. t ++ one.said.warned ∷ []) first.are ∙ (ap (λ t. map (warned_of mark) before ++ t) one.is ∙ sym all));
        fit = All-push Fits first.said one.said first.fit one.fit;
        pushes = pushes_as
            (append_assoc front (flat_map encoded_said first.said) (encoded_said one.said)
            ∙ ap (λ t. front ++ t) (ap (λ t. flat_map encoded_said first.said ++ t) (sym (append-nil (encoded_said one.said))) ∙ sym (flat_map-append encoded_said first.said (one.said ∷ []))))
            (pushes_then first.pushes one.pushes);
      }

-- all warnings
pub encodes_all : (mark : ℕ) (warnings : List Warning) (index : ℕ) (bytes : List ℕ) → PushesWarnings mark (length warnings) (map warning_view (take index warnings)) [] bytes → length warnings ≤ index
    → IsEncodingOf mark (map warning_view warnings) bytes
unfolding encoded_warnings
encodes_all mark warnings index bytes done past = grind (arith, map, take_all, length, length-map, flat_map)
