-- The lengths of what is laid out for a borrowed layout.
use Rattle.std.proofs.Common.{◌≡◌, ℕ, ◌+◌, ◌-◌, ◌<◌, List, [], ◌∷◌, ◌++◌, length, map, flat_map, sum_by, take, get_or, replicate, add-zero, append_assoc, length-append, ap, sym, ◌∙◌, arith, refl}
use Rattle.implib.specs.declared.coff.object.Section.{Section}
use Rattle.implib.specs.Formats.Layout.{InRecord, InStringTable, LayoutSymbol, SymbolName, auxiliary_bytes, contents, contents_size, name_field, section_header, section_headers, string_bytes_of, string_size, symbol_bytes}
use Rattle.implib.specs.Views.Layout.{FitsField}
use Rattle.implib.specs.Formats.Writer.{section_view}
use Rattle.implib.specs.Formats.Object.{ObjectSection}
use Rattle.implib.specs.Formats.Bytes.{u16_bytes, u32_bytes}
use Rattle.implib.specs.Formats.Pass.{Puts, Written}
use Rattle.implib.proofs.Formats.Pass.{puts_both, puts_same}
use Rattle.std.proofs.lemmas.List.{append-nil, length-replicate, map-append, take_more}
use Rattle.std.proofs.lemmas.List.Sums.{sum_by-cons}
use Rattle.implib.proofs.Formats.Sums.{flat_map-map}
use Rattle.implib.proofs.Formats.Symbols.{length-all_contents, length-strings}
use Rattle.std.specs.Borrow.{Bor}

pub length-viewed_contents : (ss : List Section) → length (flat_map (λ s. contents (section_view s)) ss) ≡ sum_by contents_size (map section_view ss)
length-viewed_contents ss = sym (ap length (flat_map-map contents section_view ss)) ∙ length-all_contents (map section_view ss)

pub length-viewed_strings : (ss : List (Bor (List ℕ))) → length (flat_map (λ text. string_bytes_of text.now) ss) ≡ sum_by string_size (map (λ text. text.now) ss)
length-viewed_strings ss = sym (ap length (flat_map-map string_bytes_of (λ text. text.now) ss)) ∙ length-strings (map (λ text. text.now) ss)

length-field : (offsets : List ℕ) (count : ℕ) (name : SymbolName) → FitsField count name → length (name_field offsets name) ≡ 8
unfolding name_field u32_bytes
length-field offsets count (InRecord text) fits = omega (arith, length-append text (replicate (8 - length text) 0), length-replicate {A = ℕ} (8 - length text) 0)
length-field offsets count (InStringTable index) fits = refl

-- a symbol's own record has 18 bytes
pub length-one_symbol : (offsets : List ℕ) (count : ℕ) (s : LayoutSymbol) → FitsField count s.name → length (symbol_bytes offsets s) ≡ 18 + length (auxiliary_bytes s.aux)
unfolding symbol_bytes u16_bytes u32_bytes
length-one_symbol offsets count s fits = length-append (name_field offsets s.name) _ ∙ (rw (length-field offsets count s.name fits) (omega arith))

-- the header of one section more
section_headers-push : (position : ℕ) (ss : List ObjectSection) (s : ObjectSection) → section_headers position (ss ++ s ∷ []) ≡ section_headers position ss ++ section_header (position + sum_by contents_size ss) s
unfolding section_headers
section_headers-push position [] s = append-nil (section_header position s) ∙ ap (λ n. section_header n s) (sym (add-zero position))
section_headers-push position (x ∷ ss) s = grind (arith, section_headers-push (position + contents_size x) ss s, append_assoc, sum_by-cons)

pub headers_more : (position : ℕ) (ss : List Section) (i : ℕ) (d : Section) → {a b c : Written} → i < length ss
    → Puts a b (section_headers position (map section_view (take i ss)))
    → Puts b c (section_header (position + sum_by contents_size (map section_view (take i ss))) (section_view (get_or ss i d)))
    → Puts a c (section_headers position (map section_view (take (i + 1) ss)))
headers_more position ss i d within before chunk =
    puts_same (section_headers position (map section_view (take (i + 1) ss)))
    (sym (ap (λ t. section_headers position (map section_view t)) (take_more ss i d within)
    ∙ (ap (section_headers position) (map-append section_view (take i ss) (get_or ss i d ∷ []))
    ∙ section_headers-push position (map section_view (take i ss)) (section_view (get_or ss i d)))))
    (puts_both before chunk)
