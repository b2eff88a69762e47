-- Parts are read from their spelling.
use Rattle.std.proofs.Common.{◌≡◌, ℕ, ◌<◌, Bool, true, false, not, eqb, leb, List, [], ◌∷◌, ◌++◌, refl, sym, ap, ◌∙◌, inl, inr, arith, append_assoc, append-nil}
use Rattle.std.proofs.lemmas.Bool.{leb-true, le-leb}
use Rattle.std.proofs.lemmas.Bool.Decides.{eqb_tells}
use Rattle.std.proofs.lemmas.List.Folds.{list_all-append}
use Rattle.std.specs.List.{list_all}
use Rattle.if1_graph.specs.LineParts.{is_blank, is_line_byte, Part, Word, Quoted, Broken, InWord, InQuotes, BehindQuotes, parts_from, parts_of}
use Rattle.if1_graph.specs.Spelling.{is_visible, is_quotable, part_text, after_blanks, spaced}
use Rattle.if1_graph.proofs.Decimals.{and_true, and_parts, each_so}

-- a part that its spelling gives back
abbrev pub IsPlain : Part → Type 0
IsPlain (Word []) = ⊥
IsPlain (Word (c ∷ w)) = (eqb c 34 ≡ false) × (list_all is_visible (c ∷ w) ≡ true)
IsPlain (Quoted t) = list_all is_quotable t ≡ true
IsPlain Broken = ⊥

abbrev pub ArePlain : List Part → Type 0
ArePlain [] = Unit {0}
ArePlain (p ∷ ps) = IsPlain p × ArePlain ps

pub both_plain : (ps qs : List Part) → ArePlain ps → ArePlain qs → ArePlain (ps ++ qs)
both_plain [] qs a b = b
both_plain (p ∷ ps) qs a b = (a.0, both_plain ps qs a.1 b)

-- ---- bytes

below : (k c : ℕ) → k < c → eqb c k ≡ false
below k c h = elim (eqb_tells c k) [ inl p ↦ absurd (omega (arith, h, p.1)) | inr p ↦ p.0 ]

pub visible_no_blank : (c : ℕ) → is_visible c ≡ true → is_blank c ≡ false
visible_no_blank c h =
    let low = leb-true 33 c (and_parts (leb 33 c) (leb c 126) h).0 in
    rw (below 32 c (omega (arith, low)), below 9 c (omega (arith, low))) refl

pub visible_line_byte : (c : ℕ) → is_visible c ≡ true → is_line_byte c ≡ true
visible_line_byte c h =
    let e = and_parts (leb 33 c) (leb c 126) h in
    rw (below 9 c (omega (arith, leb-true 33 c e.0)), le-leb 32 c (omega (arith, leb-true 33 c e.0)), e.1) refl

quotable_line_byte : (c : ℕ) → is_quotable c ≡ true → is_line_byte c ≡ true
quotable_line_byte c h = (and_parts (is_line_byte c) (not (eqb c 34)) h).0

not_true : (b : Bool) → not b ≡ true → b ≡ false
not_true true e = absurd cc
not_true false e = refl

quotable_no_quote : (c : ℕ) → is_quotable c ≡ true → eqb c 34 ≡ false
quotable_no_quote c h = not_true (eqb c 34) (and_parts (is_line_byte c) (not (eqb c 34)) h).1

part_bytes : (p : Part) → IsPlain p → list_all is_line_byte (part_text p) ≡ true
part_bytes (Word []) h = absurd h
part_bytes (Word (c ∷ w)) h = each_so is_visible is_line_byte visible_line_byte (c ∷ w) h.1
part_bytes (Quoted t) h = list_all-append is_line_byte t (34 ∷ []) ∙ and_true _ _ (each_so is_quotable is_line_byte quotable_line_byte t h) refl
part_bytes Broken h = absurd h

behind_bytes : (ps : List Part) → ArePlain ps → list_all is_line_byte (after_blanks ps) ≡ true
behind_bytes [] h = refl
behind_bytes (p ∷ ps) h = list_all-append is_line_byte (part_text p) (after_blanks ps) ∙ and_true _ _ (part_bytes p h.0) (behind_bytes ps h.1)

-- the spelling has no byte that a line may not have
pub spaced_bytes : (ps : List Part) → ArePlain ps → list_all is_line_byte (spaced ps) ≡ true
spaced_bytes [] h = refl
spaced_bytes (p ∷ ps) h = behind_bytes (p ∷ ps) h

-- ---- parts

word_ends : (v : List ℕ) (ps : List Part) → parts_from (InWord v) (after_blanks ps) ≡ Word v ∷ parts_of (after_blanks ps)
word_ends v [] = refl
word_ends v (p ∷ ps) = refl

word_goes : (v w : List ℕ) (ps : List Part) → list_all is_visible w ≡ true → parts_from (InWord v) (w ++ after_blanks ps) ≡ Word (v ++ w) ∷ parts_of (after_blanks ps)
word_goes v [] ps h = word_ends v ps ∙ ap (λ u. Word u ∷ parts_of (after_blanks ps)) (sym (append-nil v))
word_goes v (c ∷ w) ps h =
    let e = and_parts (is_visible c) (list_all is_visible w) h in
    let here : parts_from (InWord v) ((c ∷ w) ++ after_blanks ps) ≡ parts_from (InWord (v ++ c ∷ [])) (w ++ after_blanks ps) = rw (visible_no_blank c e.0) refl in
    here
    ∙ word_goes (v ++ c ∷ []) w ps e.1
    ∙ ap (λ u. Word u ∷ parts_of (after_blanks ps)) (append_assoc v (c ∷ []) w)

quotes_end : (v : List ℕ) (ps : List Part) → parts_from (BehindQuotes v) (after_blanks ps) ≡ Quoted v ∷ parts_of (after_blanks ps)
quotes_end v [] = refl
quotes_end v (p ∷ ps) = refl

quotes_go : (v t : List ℕ) (ps : List Part) → list_all is_quotable t ≡ true → parts_from (InQuotes v) ((t ++ 34 ∷ []) ++ after_blanks ps) ≡ Quoted (v ++ t) ∷ parts_of (after_blanks ps)
quotes_go v [] ps h = quotes_end v ps ∙ ap (λ u. Quoted u ∷ parts_of (after_blanks ps)) (sym (append-nil v))
quotes_go v (c ∷ t) ps h =
    let e = and_parts (is_quotable c) (list_all is_quotable t) h in
    let here : parts_from (InQuotes v) (((c ∷ t) ++ 34 ∷ []) ++ after_blanks ps) ≡ parts_from (InQuotes (v ++ c ∷ [])) ((t ++ 34 ∷ []) ++ after_blanks ps) = rw (quotable_no_quote c e.0) refl in
    here
    ∙ quotes_go (v ++ c ∷ []) t ps e.1
    ∙ ap (λ u. Quoted u ∷ parts_of (after_blanks ps)) (append_assoc v (c ∷ []) t)

first_part : (p : Part) (ps : List Part) → IsPlain p → parts_of (part_text p ++ after_blanks ps) ≡ p ∷ parts_of (after_blanks ps)
first_part (Word []) ps h = absurd h
first_part (Word (c ∷ w)) ps h =
    let e = and_parts (is_visible c) (list_all is_visible w) h.1 in
    rw (visible_no_blank c e.0, h.0) (word_goes (c ∷ []) w ps e.1)
first_part (Quoted t) ps h = quotes_go [] t ps h
first_part Broken ps h = absurd h

behind_parts : (ps : List Part) → ArePlain ps → parts_of (after_blanks ps) ≡ ps
behind_parts [] h = refl
behind_parts (p ∷ ps) h = first_part p ps h.0 ∙ ap (λ qs. p ∷ qs) (behind_parts ps h.1)

pub spaced_parts : (ps : List Part) → ArePlain ps → parts_of (spaced ps) ≡ ps
spaced_parts [] h = refl
spaced_parts (p ∷ ps) h = behind_parts (p ∷ ps) h
