-- Lemmas on the documents of a text.
use Rattle.std.proofs.Common.{length-drop, rules, ◌≡◌, ◌≢◌, ◌⊎◌, inl, inr, ℕ, zero, suc, ◌+◌, ◌-◌, ◌<◌, ◌≤◌, List, [], ◌∷◌, ◌++◌, length, take, drop, get_or, refl, sym, ap, subst, ◌∙◌, append_assoc, append-nil, arith, length-append, length-take, take-append-drop}
use Rattle.std.proofs.lemmas.Grind.{common_steps, get_or_head, get_or_tail}
use Rattle.std.proofs.lemmas.Bool.{cases_eq, cases_Bool}
use Rattle.std.proofs.lemmas.List.{take_more, take-append-le, get_or-append-add, get_or_append_left, drop_more, drop_all, take_at, drop_at, append_cancel_left, drop-drop}
use Rattle.std.proofs.lemmas.Slice.Eq.{bytes_eq-Decides}
use Rattle.std.proofs.lemmas.Str.{IsCharBoundary-end, IsCharBoundary-after_ascii}
use Rattle.std.specs.Prelude.{codes}
use Rattle.std.specs.Str.{IsCharBoundary, IsUtf8, bytes_eq}
use Rattle.implib_tool_driver.specs.Documents.{IsSeparator, LineBeginsAfter, Separates, IsUndivided, Divides, HasOneParting, Documents}
use Rattle.implib_tool_driver.specs.Views.{IsLineAt}

-- a line begins at the position, and no separating line begins before it
pub record LineStart (text : List ℕ) (start : ℕ) : Type 0 where
  pub within : start ≤ length text
  pub begins : start < length text → LineBeginsAfter (take start text)
  pub passed : (before line after : List ℕ) → Separates text before line after → start ≤ length before

separator_length : (line : List ℕ) → IsSeparator line → 0 < length line
separator_length line s = grind arith

-- ---- the positions of a separating line

-- it has no line end in it
byte_in_line : (text before line after : List ℕ) → Separates text before line after → (k : ℕ) → k < length line → get_or text (length before + k) 0 ≢ 10
byte_in_line text before line after s k h = grind (arith, get_or_head, get_or_tail, s.whole, get_or-append-add before (line ++ after) k 0, get_or_append_left line after 0 k h)

length_text : (text before line after : List ℕ) → Separates text before line after → length text ≡ length before + (length line + length after)
length_text text before line after s = ap length s.whole ∙ length-append before (line ++ after) ∙ ap (λ n. length before + n) (length-append line after)

byte_after_line : (text before line after : List ℕ) → Separates text before line after → length before + length line < length text → get_or text (length before + length line) 0 ≡ 10
byte_after_line text before line after s h = grind (arith, s.whole, length-append, get_or-append-add line after 0 0, get_or-append-add before (line ++ after) (length line) 0, s.ends)

-- the byte before a line is a line end
byte_before : (text before rest : List ℕ) → text ≡ before ++ rest → LineBeginsAfter before → 0 < length before → get_or text (length before - 1) 0 ≡ 10
byte_before text before rest whole begins h = grind (arith, common_steps)

-- ---- a separating line of the front of a text, and of the text

-- where the front ends as a line does, its separating lines are the text's
separates_more : (document more before line after : List ℕ) → LineBeginsAfter document → Separates document before line after → Separates (document ++ more) before line (after ++ more)
separates_more document more before line after begins s =
    let within = byte_in_line document before line after s (length line - 1) in
    grind (arith, within, append_assoc, length_text document before line after s, separator_length line s.separator, byte_before document document [] (sym (append-nil document)) begins)

-- a separating line that begins in the front is in it, where the front ends as a line does
separates_front : (document more before line after : List ℕ) → LineBeginsAfter document → Separates (document ++ more) before line after → length before < length document
    → Separates document before line (drop (length before + length line) document)
separates_front document more before line after begins s inside =
    let n : ℕ = length before + length line in
    let last = byte_before (document ++ more) document more refl begins in
    let within = byte_in_line (document ++ more) before line after s (length document - 1 - length before) in
    let ended = byte_after_line (document ++ more) before line after s in
    let front = take_at (before ++ line) after n (length-append before line) in
    let whole = append_assoc before line (drop n document) in
    let here = get_or_append_left document more 0 n in
    grind (arith, last, within, ended, front, whole, here, append_assoc before line after, take-append-le n document more, take-append-drop n document, length-append document more, drop_more document n 0)

-- a text's first separating line is where it divides
divides_first : (text document rest before line after : List ℕ) → Divides text document rest → Separates text before line after → length document ≤ length before
divides_first text document rest before line after d s =
    grind (arith, d.undivided before line, separates_front document (d.line ++ d.after) before line after d.separates.begins (subst (λ t. Separates t before line after) d.separates.whole s))

-- ---- a text has one parting

same_document : (text document rest document' rest' : List ℕ) → Divides text document rest → Divides text document' rest' → document ≡ document'
same_document text document rest document' rest' d d' =
    let low = divides_first text document rest document' d'.line d'.after d d'.separates in
    let high = divides_first text document' rest' document d.line d.after d' d.separates in
    grind (arith, low, high, take_at document (d.line ++ d.after) (length document) refl, take_at document' (d'.line ++ d'.after) (length document') refl)

same_divided : (text document rest document' rest' : List ℕ) → Divides text document rest → Divides text document' rest' → rest ≡ rest'
same_divided text document rest document' rest' d d' = grind (arith, same_document text document rest document' rest' d d', append_cancel_left document (d.line ++ d.after) (d'.line ++ d'.after))

-- a document before the documents of the rest
pub documents_more : (text document rest : List ℕ) (documents : List (List ℕ)) → Divides text document rest → Documents rest documents → Documents text (document ∷ documents)
documents_more text document rest documents d p = grind arith

-- two partings of a text are one
pub same_documents : (text : List ℕ) (documents documents' : List (List ℕ)) → Documents text documents → Documents text documents' → documents ≡ documents'
same_documents text [] documents' p p' = absurd p
same_documents text (document ∷ documents) [] p p' = absurd p'
same_documents text (document ∷ []) (document' ∷ documents') p p' = grind arith
same_documents text (document ∷ next ∷ documents) (document' ∷ []) p p' = absurd (p'.1 document p.1.line p.1.after (rw p'.0 at p.1.separates))
same_documents text (document ∷ next ∷ documents) (document' ∷ next' ∷ documents') p p' =
    let rest_is : p.0 ≡ p'.0 = same_divided text document p.0 document' p'.0 p.1 p'.1 in
    cc (same_document text document p.0 document' p'.0 p.1 p'.1, same_documents p.0 (next ∷ documents) (next' ∷ documents') p.2 (rw rest_is p'.2))

-- ---- a text, line by line

pub start_first : (text : List ℕ) → LineStart text 0
start_first text = search (rules, arith)

line_here : (text before line after : List ℕ) (start end next : ℕ) → Separates text before line after → IsLineAt text start end next → length before ≡ start → take (end - start) (drop start text) ≡ line
line_here text before line after start end next s at here =
    let within = byte_in_line text before line after s (end - length before) in
    let ended = byte_after_line text before line after s in
    grind (arith, within, ended, drop_at before (line ++ after) start here, take_at line after (end - start), length_text text before line after s, at.line (length before + length line))

-- past a line that does not separate
passed_next : (text : List ℕ) (start end next : ℕ) → LineStart text start → IsLineAt text start end next → ¬ (IsSeparator (take (end - start) (drop start text))) → (before line after : List ℕ) → Separates text before line after → next ≤ length before
passed_next text start end next l at plain before line after s =
    let ended = byte_before text before (line ++ after) s.whole s.begins in
    let here = line_here text before line after start end next s at in
    grind (arith, ended, here, l.passed before line after s, length_text text before line after s, separator_length line s.separator, plain, at.ends, at.line (length before - 1))

pub next_boundary : (text : List ℕ) (start end next : ℕ) → IsUtf8 text → IsLineAt text start end next → IsCharBoundary text next
next_boundary text start end next utf8 at = grind (arith, IsCharBoundary-end, IsCharBoundary-after_ascii)

pub start_next : (text : List ℕ) (start end next : ℕ) → LineStart text start → IsLineAt text start end next → ¬ (IsSeparator (take (end - start) (drop start text))) → LineStart text next
start_next text start end next l at plain = grind (arith, passed_next text start end next l at plain, take_more text end 0, at.ends)

-- the line at a position separates
pub divides_here : (text : List ℕ) (start end next : ℕ) → LineStart text start → start < length text → IsLineAt text start end next → IsSeparator (take (end - start) (drop start text)) → Divides text (take start text) (drop next text)
divides_here text start end next l room at separator = record {
  line = take (end - start) (drop start text);
  after = drop end text;
  separates = record {
    whole = grind (arith, take-append-drop start text, take-append-drop (end - start) (drop start text), drop-drop (end - start) start text, at.after);
    separator = separator;
    begins = l.begins room;
    ends = grind (arith, at.ends, drop_all end text, drop_more text end 0);
  };
  follows = grind (arith, at.ends, drop_all end text, drop_all next text, drop_more text end 0);
  undivided = λ before line after s.
      let more = separates_more (take start text) (drop start text) before line after (l.begins room) s in
      let whole = take-append-drop start text in
      grind (arith, more, whole, length_text (take start text) before line after s, l.passed before line (after ++ drop start text), length-take start text, separator_length line s.separator);
}

-- no line separates where each position was passed
pub undivided_past : (text : List ℕ) (start : ℕ) → LineStart text start → length text ≤ start → IsUndivided text
undivided_past text start l done before line after s = grind (arith, length_text text before line after s, l.passed before line after s, separator_length line s.separator)

-- ---- a text has a parting

-- a line that begins at a position ends somewhere
line_from : (text : List ℕ) (fuel start : ℕ) → start + fuel ≡ length text → (end : ℕ) × (next : ℕ) × IsLineAt text start end next
line_from text zero start h = (start, start, grind arith)
line_from text (suc fuel) start h =
    let more = line_from text fuel (start + 1) (omega arith) in
    elim (cases_eq (get_or text start 0) 10) [
      | inl here ↦ (start, start + 1, grind arith)
      | inr there ↦ (more.0, more.1, grind (arith, more.2))
    ]

-- whether a line separates
separator_or_not : (line : List ℕ) → IsSeparator line ⊎ ¬ (IsSeparator line)
separator_or_not line = grind (arith, bytes_eq-Decides line (codes "---"), bytes_eq-Decides line (codes "---\r"), cases_Bool (bytes_eq line (codes "---")), cases_Bool (bytes_eq line (codes "---\r")))

-- from a position on, a text divides or does not
divided_from : (text : List ℕ) (fuel start : ℕ) → length text ≤ start + fuel → LineStart text start → IsUndivided text ⊎ ((document : List ℕ) × (rest : List ℕ) × Divides text document rest)
divided_from text zero start h l = inl (undivided_past text start l (omega arith))
divided_from text (suc fuel) start h l =
    let at = line_from text (length text - start) start (omega (arith, l.within)) in
    elim (separator_or_not (take (at.0 - start) (drop start text))) [
      | inl separator ↦
          let room : start < length text = omega (arith, separator_length (take (at.0 - start) (drop start text)) separator, length-take (at.0 - start) (drop start text), length-drop start text) in
          inr (take start text, drop at.1 text, divides_here text start at.0 at.1 l room at.2 separator)
      | inr plain ↦ divided_from text fuel at.1 (grind (arith, at.2)) (start_next text start at.0 at.1 l at.2 plain)
    ]

parting_from : (fuel : ℕ) (text : List ℕ) → length text < fuel → (documents : List (List ℕ)) × Documents text documents
parting_from zero text h = absurd (omega arith)
parting_from (suc fuel) text h = elim (divided_from text (length text) 0 (omega arith) (start_first text)) [
  | inl whole ↦ (text ∷ [], (refl, whole))
  | inr (document, rest, d) ↦
      let more = parting_from fuel rest (grind (arith, length_text text document d.line d.after d.separates, separator_length d.line d.separates.separator)) in
      (document ∷ more.0, documents_more text document rest more.0 d more.1)
]

-- each text has one parting
pub parting : (text : List ℕ) → (documents : List (List ℕ)) × Documents text documents
parting text = parting_from (length text + 1) text (omega arith)

pub one_parting : (text : List ℕ) → HasOneParting text
one_parting text = record {
  documents = (parting text).0;
  divided = (parting text).1;
  only = λ others p. same_documents text others (parting text).0 p (parting text).1;
}
