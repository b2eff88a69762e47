-- A line is split from left to right, part by part.
use Rattle.std.proofs.Common.{◌≡◌, ℕ, suc, ◌+◌, ◌-◌, ◌≤◌, ◌<◌, Bool, true, false, cond, not, List, [], ◌∷◌, ◌++◌, take, drop, length, get_or, refl, sym, ap, ◌∙◌, subst, arith, true≢false, append_assoc, append-nil, eqb}
use Rattle.std.proofs.lemmas.List.{drop-drop, drop_more, drop_all, length-drop, take_all}
use Rattle.std.proofs.Math.Seq.{drop-length}
use Rattle.std.proofs.lemmas.List.Sums.{prefix_len-le-length}
use Rattle.std.specs.Prelude.{slice_range}
use Rattle.std.specs.List.{prefix_len}
use Rattle.if1_graph.specs.LineParts.{is_blank, Part, Word, Quoted, Broken, Between, InWord, InQuotes, BehindQuotes, parts_from, parts_of}
use Rattle.if1_graph.specs.Places.{is_in_word, is_in_quotes, is_part_end}

one_plus : (n : ℕ) → suc n ≡ 1 + n
one_plus n = omega arith

-- ---- words

abbrev word_then : List ℕ → ℕ → List ℕ → List Part
word_then w n s = Word (w ++ take n s) ∷ parts_of (drop n s)

one_more : (c n : ℕ) (w s : List ℕ) → word_then (w ++ c ∷ []) n s ≡ word_then w (1 + n) (c ∷ s)
one_more c n w s =
    ap (λ v. Word v ∷ parts_of (drop n s)) (append_assoc w (c ∷ []) (take n s))
    ∙ ap (λ k. word_then w k (c ∷ s)) (one_plus n)

at_blank : (b : Bool) (c n : ℕ) (w s : List ℕ) → is_blank c ≡ b → parts_from (InWord (w ++ c ∷ [])) s ≡ word_then (w ++ c ∷ []) n s
    → cond b (Word w ∷ parts_from Between s) (parts_from (InWord (w ++ c ∷ [])) s) ≡ word_then w (cond (not b) (1 + n) 0) (c ∷ s)
at_blank true c n w s e ih = rw (e, append-nil w) refl
at_blank false c n w s e ih = ih ∙ one_more c n w s

-- a word goes on up to the next blank
in_word : (w s : List ℕ) → parts_from (InWord w) s ≡ word_then w (prefix_len is_in_word s) s
in_word w [] = ap (λ v. Word v ∷ []) (sym (append-nil w))
in_word w (c ∷ s) = at_blank (is_blank c) c (prefix_len is_in_word s) w s refl (in_word (w ++ c ∷ []) s)

word_read : (c : ℕ) (t : List ℕ) → is_blank c ≡ false → eqb c 34 ≡ false
    → parts_of (c ∷ t) ≡ word_then [] (prefix_len is_in_word (c ∷ t)) (c ∷ t)
word_read c t b q = rw (b, q) (in_word (c ∷ []) t ∙ ap (λ k. word_then [] k (c ∷ t)) (one_plus (prefix_len is_in_word t)))

-- the same by places
pub word_at : (line : List ℕ) (from n : ℕ) → from < length line → is_blank (get_or line from 0) ≡ false → eqb (get_or line from 0) 34 ≡ false
    → n ≡ prefix_len is_in_word (drop from line) → parts_of (drop from line) ≡ Word (slice_range line from (from + n)) ∷ parts_of (drop (from + n) line)
word_at line from n h b q e =
    let c = get_or line from 0 in
    let s : drop from line ≡ c ∷ drop (from + 1) line = drop_more line from 0 h in
    let width : n ≡ from + n - from = omega arith in
    subst (λ (t : List ℕ). parts_of t ≡ word_then [] (prefix_len is_in_word t) t) (sym s) (word_read c (drop (from + 1) line) b q)
    ∙ ap (λ k. word_then [] k (drop from line)) (sym e)
    ∙ ap (λ k. Word (take k (drop from line)) ∷ parts_of (drop n (drop from line))) width
    ∙ ap (λ t. Word (slice_range line from (from + n)) ∷ parts_of t) (drop-drop n from line)

-- it has a byte, and ends within the line
pub word_ends : (line : List ℕ) (from n : ℕ) → from < length line → is_blank (get_or line from 0) ≡ false
    → n ≡ prefix_len is_in_word (drop from line) → (from < from + n) × (from + n ≤ length line)
word_ends line from n h b e =
    let c = get_or line from 0 in
    let s : drop from line ≡ c ∷ drop (from + 1) line = drop_more line from 0 h in
    let one : prefix_len is_in_word (drop from line) ≡ 1 + prefix_len is_in_word (drop (from + 1) line) = rw (s, b) refl in
    (omega (arith, one, e), omega (arith, e, h, prefix_len-le-length is_in_word (drop from line), length-drop from line))

-- ---- texts in quotes

abbrev closed : List ℕ → List ℕ → List Part
closed w [] = Broken ∷ []
closed w (c ∷ s) = parts_from (BehindQuotes w) s

abbrev quoted_then : List ℕ → ℕ → List ℕ → List Part
quoted_then w n s = closed (w ++ take n s) (drop n s)

quoted_more : (c n : ℕ) (w s : List ℕ) → quoted_then (w ++ c ∷ []) n s ≡ quoted_then w (1 + n) (c ∷ s)
quoted_more c n w s =
    ap (λ v. closed v (drop n s)) (append_assoc w (c ∷ []) (take n s))
    ∙ ap (λ k. quoted_then w k (c ∷ s)) (one_plus n)

at_quote : (b : Bool) (c n : ℕ) (w s : List ℕ) → parts_from (InQuotes (w ++ c ∷ [])) s ≡ quoted_then (w ++ c ∷ []) n s
    → cond b (parts_from (BehindQuotes w) s) (parts_from (InQuotes (w ++ c ∷ [])) s) ≡ quoted_then w (cond (not b) (1 + n) 0) (c ∷ s)
at_quote true c n w s ih = ap (λ v. parts_from (BehindQuotes v) s) (sym (append-nil w))
at_quote false c n w s ih = ih ∙ quoted_more c n w s

-- a text in quotes goes on up to the next quote
in_quotes : (w s : List ℕ) → parts_from (InQuotes w) s ≡ quoted_then w (prefix_len is_in_quotes s) s
in_quotes w [] = refl
in_quotes w (c ∷ s) = at_quote (eqb c 34) c (prefix_len is_in_quotes s) w s (in_quotes (w ++ c ∷ []) s)

behind_true : (w s : List ℕ) → is_part_end s ≡ true → parts_from (BehindQuotes w) s ≡ Quoted w ∷ parts_of s
behind_true w [] e = refl
behind_true w (c ∷ s) e = rw e refl

behind_false : (w s : List ℕ) → is_part_end s ≡ false → parts_from (BehindQuotes w) s ≡ Broken ∷ []
behind_false w [] e = absurd (true≢false e)
behind_false w (c ∷ s) e = rw e refl

-- the same by places
quoted_at : (line : List ℕ) (from n : ℕ) → from < length line → get_or line from 0 ≡ 34 → n ≡ prefix_len is_in_quotes (drop (from + 1) line)
    → parts_of (drop from line) ≡ closed (slice_range line (from + 1) (from + 1 + n)) (drop (from + 1 + n) line)
quoted_at line from n h q e =
    let s : drop from line ≡ 34 ∷ drop (from + 1) line = drop_more line from 0 h ∙ ap (λ c. c ∷ drop (from + 1) line) q in
    let width : n ≡ from + 1 + n - (from + 1) = omega arith in
    ap parts_of s
    ∙ in_quotes [] (drop (from + 1) line)
    ∙ ap (λ k. quoted_then [] k (drop (from + 1) line)) (sym e)
    ∙ ap (λ k. closed (take k (drop (from + 1) line)) (drop n (drop (from + 1) line))) width
    ∙ ap (closed (slice_range line (from + 1) (from + 1 + n))) (drop-drop n (from + 1) line)

pub quoted_closed : (line : List ℕ) (from n : ℕ) → from < length line → get_or line from 0 ≡ 34 → n ≡ prefix_len is_in_quotes (drop (from + 1) line)
    → from + 1 + n < length line → is_part_end (drop (from + 1 + n + 1) line) ≡ true
    → parts_of (drop from line) ≡ Quoted (slice_range line (from + 1) (from + 1 + n)) ∷ parts_of (drop (from + 1 + n + 1) line)
quoted_closed line from n h q e i p =
    let w = slice_range line (from + 1) (from + 1 + n) in
    quoted_at line from n h q e
    ∙ ap (closed w) (drop_more line (from + 1 + n) 0 i)
    ∙ behind_true w (drop (from + 1 + n + 1) line) p

pub quoted_broken : (line : List ℕ) (from n : ℕ) → from < length line → get_or line from 0 ≡ 34 → n ≡ prefix_len is_in_quotes (drop (from + 1) line)
    → from + 1 + n < length line → is_part_end (drop (from + 1 + n + 1) line) ≡ false
    → parts_of (drop from line) ≡ Broken ∷ parts_of (drop (length line) line)
quoted_broken line from n h q e i p =
    let w = slice_range line (from + 1) (from + 1 + n) in
    quoted_at line from n h q e
    ∙ ap (closed w) (drop_more line (from + 1 + n) 0 i)
    ∙ behind_false w (drop (from + 1 + n + 1) line) p
    ∙ ap (λ s. Broken ∷ parts_of s) (sym (drop-length line))

pub quoted_open : (line : List ℕ) (from n : ℕ) → from < length line → get_or line from 0 ≡ 34 → n ≡ prefix_len is_in_quotes (drop (from + 1) line)
    → length line ≤ from + 1 + n → parts_of (drop from line) ≡ Broken ∷ parts_of (drop (length line) line)
quoted_open line from n h q e i =
    let w = slice_range line (from + 1) (from + 1 + n) in
    quoted_at line from n h q e
    ∙ ap (closed w) (drop_all (from + 1 + n) line i)
    ∙ ap (λ s. Broken ∷ parts_of s) (sym (drop-length line))

-- the bytes of a slice to the end of the line
pub counted : (p : ℕ → Bool) (line : List ℕ) (from n : ℕ) → n ≡ prefix_len p (take (length line - from) (drop from line)) → n ≡ prefix_len p (drop from line)
counted p line from n e = e ∙ ap (prefix_len p) (take_all (length line - from) (drop from line) (omega (arith, length-drop from line)))

pub counted_within : (p : ℕ → Bool) (line : List ℕ) (from n : ℕ) → from ≤ length line → n ≡ prefix_len p (take (length line - from) (drop from line)) → from + n ≤ length line
counted_within p line from n h e = omega (arith, h, counted p line from n e, prefix_len-le-length p (drop from line), length-drop from line)
