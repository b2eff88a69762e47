-- Lists of numbers as they are read.
use Rattle.std.proofs.Common.{◌≡◌, ℕ, suc, ◌+◌, ◌-◌, ◌≤◌, ◌<◌, Bool, true, false, cond, not, List, [], ◌∷◌, ◌++◌, take, drop, length, Option, Some, None, option_map, unwrap_or, refl, sym, ap, ◌∙◌, arith, append_assoc, append-nil, eqb}
use Rattle.std.proofs.lemmas.List.{drop-drop, drop_more, drop_all}
use Rattle.std.specs.Prelude.{slice_range}
use Rattle.std.specs.List.{prefix_len}
use Rattle.if1_graph.specs.LineParts.{Part, word_of, ◌>>=◌}
use Rattle.if1_graph.specs.Numbers.{numeral, numerals, pieces}
use Rattle.if1_graph.specs.Pragmas.{is_pragma_word, labels_in, labels_of}
use Rattle.if1_graph.specs.Places.{is_in_piece, added, behind}
use Rattle.if1_graph.specs.Reading.{numbers_first}

pub added_more : (got ls : List ℕ) (more : Option (List ℕ)) → added got (option_map (λ ns. ls ++ ns) more) ≡ added (got ++ ls) more
added_more got ls None = refl
added_more got ls (Some ns) = ap Some (sym (append_assoc got ls ns))

behind_more : (got : List ℕ) (n : ℕ) (more : Option (List ℕ × List Part)) → behind got (option_map (λ (r : List ℕ × List Part). (n ∷ r.0, r.1)) more) ≡ behind (got ++ n ∷ []) more
behind_more got n None = refl
behind_more got n (Some r) = ap (λ ns. Some (ns, r.1)) (sym (append_assoc got (n ∷ []) r.0))

-- one number more, in parts
pub numbers_more : (got : List ℕ) (p : Part) (ps : List Part) (n : ℕ) → is_pragma_word (word_of p) ≡ false → numeral 0 (word_of p) ≡ Some n
    → behind got (numbers_first (p ∷ ps)) ≡ behind (got ++ n ∷ []) (numbers_first ps)
numbers_more got p ps n e f = rw (e, f) (behind_more got n (numbers_first ps))

-- ---- pieces between commas

abbrev from_comma : List ℕ → List (List ℕ)
from_comma [] = []
from_comma (c ∷ s) = pieces [] s

abbrev piece_then : List ℕ → ℕ → List ℕ → List (List ℕ)
piece_then w n s = (w ++ take n s) ∷ from_comma (drop n s)

one_plus : (n : ℕ) → suc n ≡ 1 + n
one_plus n = omega arith

piece_more : (c n : ℕ) (w s : List ℕ) → piece_then (w ++ c ∷ []) n s ≡ piece_then w (1 + n) (c ∷ s)
piece_more c n w s =
    ap (λ v. v ∷ from_comma (drop n s)) (append_assoc w (c ∷ []) (take n s))
    ∙ ap (λ k. piece_then w k (c ∷ s)) (one_plus n)

at_comma : (b : Bool) (c n : ℕ) (w s : List ℕ) → pieces (w ++ c ∷ []) s ≡ piece_then (w ++ c ∷ []) n s
    → cond b (w ∷ pieces [] s) (pieces (w ++ c ∷ []) s) ≡ piece_then w (cond (not b) (1 + n) 0) (c ∷ s)
at_comma true c n w s ih = ap (λ v. v ∷ pieces [] s) (sym (append-nil w))
at_comma false c n w s ih = ih ∙ piece_more c n w s

in_piece : (w s : List ℕ) → pieces w s ≡ piece_then w (prefix_len is_in_piece s) s
in_piece w [] = ap (λ v. v ∷ []) (sym (append-nil w))
in_piece w (c ∷ s) = at_comma (eqb c 44) c (prefix_len is_in_piece s) w s (in_piece (w ++ c ∷ []) s)

piece_at : (text : List ℕ) (from n : ℕ) → n ≡ prefix_len is_in_piece (drop from text)
    → pieces [] (drop from text) ≡ slice_range text from (from + n) ∷ from_comma (drop (from + n) text)
piece_at text from n e =
    let width : n ≡ from + n - from = omega arith in
    in_piece [] (drop from text)
    ∙ ap (λ k. piece_then [] k (drop from text)) (sym e)
    ∙ ap (λ k. take k (drop from text) ∷ from_comma (drop n (drop from text))) width
    ∙ ap (λ s. slice_range text from (from + n) ∷ from_comma s) (drop-drop n from text)

pub no_piece : (got text : List ℕ) (from n least : ℕ) → n ≡ prefix_len is_in_piece (drop from text)
    → numeral least (slice_range text from (from + n)) ≡ None → added got (numerals least (pieces [] (drop from text))) ≡ None
no_piece got text from n least e h = rw (piece_at text from n e, h) refl

pub last_piece : (got text : List ℕ) (from n least v : ℕ) → n ≡ prefix_len is_in_piece (drop from text)
    → numeral least (slice_range text from (from + n)) ≡ Some v → from + n ≡ length text
    → added got (numerals least (pieces [] (drop from text))) ≡ Some (got ++ v ∷ [])
last_piece got text from n least v e h l = let a : length text ≤ from + n = omega (arith, l) in rw (piece_at text from n e, drop_all (from + n) text a, h) refl

pub one_piece : (got text : List ℕ) (from n least v : ℕ) → n ≡ prefix_len is_in_piece (drop from text)
    → numeral least (slice_range text from (from + n)) ≡ Some v → from + n < length text
    → added got (numerals least (pieces [] (drop from text))) ≡ added (got ++ v ∷ []) (numerals least (pieces [] (drop (from + n + 1) text)))
one_piece got text from n least v e h l = rw (piece_at text from n e, drop_more text (from + n) 0 l, h) (added_more got (v ∷ []) (numerals least (pieces [] (drop (from + n + 1) text))))

-- ---- labels of pragmas

labels_step : (got new : List ℕ) (ls more : Option (List ℕ)) → added got ls ≡ Some new → added got (ls >>= λ xs. option_map (λ ys. xs ++ ys) more) ≡ added new more
labels_step got new None more e = absurd cc
labels_step got new (Some xs) more e = added_more got xs more ∙ ap (λ g. added g more) (ap (λ o. unwrap_or o []) e)

pub labels_more : (got new : List ℕ) (p : Part) (ps : List Part) → added got (labels_in (word_of p)) ≡ Some new → added got (labels_of (p ∷ ps)) ≡ added new (labels_of ps)
labels_more got new p ps e = labels_step got new (labels_in (word_of p)) (labels_of ps) e
