-- A text is split into its lines.
use Rattle.std.proofs.Common.{◌≡◌, ℕ, suc, ◌+◌, ◌-◌, ◌≤◌, ◌<◌, Bool, true, false, cond, not, List, [], ◌∷◌, ◌++◌, map, take, drop, length, get_or, Option, Some, None, if◌then◌else◌, true≢false, inl, inr, refl, sym, ap, ◌∙◌, arith, append_assoc, append-nil, eqb}
use Rattle.std.proofs.lemmas.List.{drop-drop, drop_more, drop_all, length-drop, length-take, take_more, get_or-drop}
use Rattle.std.proofs.lemmas.Bool.Decides.{eqb_tells}
use Rattle.std.proofs.lemmas.List.Elements.{All-head, All-tail}
use Rattle.std.specs.Prelude.{slice_range, All}
use Rattle.std.specs.List.{prefix_len, list_all}
use Rattle.if1_graph.specs.TextLines.{is_in_line, without_return, last_line, lines_from, lines_in}
use Rattle.if1_graph.specs.LineParts.{is_line_byte}
use Rattle.if1_graph.specs.Reading.{line_of, line_begun}
use Rattle.if1_graph.specs.Spelling.{line_text, text_of, IsSpelled}
use Rattle.if1_graph.specs.declared.line.Line.{Line}
use Rattle.if1_graph.proofs.Decimals.{and_parts}
use Rattle.if1_graph.proofs.RoundTrip.{written_reads}

one_plus : (n : ℕ) → suc n ≡ 1 + n
one_plus n = omega arith

abbrev ended : List ℕ → List ℕ → List (List ℕ)
ended w [] = last_line w
ended w (c ∷ s) = without_return w ∷ lines_in s

abbrev line_then : List ℕ → ℕ → List ℕ → List (List ℕ)
line_then w n s = ended (w ++ take n s) (drop n s)

line_more : (c n : ℕ) (w s : List ℕ) → line_then (w ++ c ∷ []) n s ≡ line_then w (1 + n) (c ∷ s)
line_more c n w s =
    ap (λ v. ended v (drop n s)) (append_assoc w (c ∷ []) (take n s))
    ∙ ap (λ k. line_then w k (c ∷ s)) (one_plus n)

at_feed : (b : Bool) (c n : ℕ) (w s : List ℕ) → lines_from (w ++ c ∷ []) s ≡ line_then (w ++ c ∷ []) n s
    → cond b (without_return w ∷ lines_in s) (lines_from (w ++ c ∷ []) s) ≡ line_then w (cond (not b) (1 + n) 0) (c ∷ s)
at_feed true c n w s ih = ap (λ v. without_return v ∷ lines_in s) (sym (append-nil w))
at_feed false c n w s ih = ih ∙ line_more c n w s

in_line : (w s : List ℕ) → lines_from w s ≡ line_then w (prefix_len is_in_line s) s
in_line w [] = ap last_line (sym (append-nil w))
in_line w (c ∷ s) = at_feed (eqb c 10) c (prefix_len is_in_line s) w s (in_line (w ++ c ∷ []) s)

line_at : (text : List ℕ) (from n : ℕ) → n ≡ prefix_len is_in_line (drop from text)
    → lines_in (drop from text) ≡ ended (slice_range text from (from + n)) (drop (from + n) text)
line_at text from n e =
    let width : n ≡ from + n - from = omega arith in
    in_line [] (drop from text)
    ∙ ap (λ k. line_then [] k (drop from text)) (sym e)
    ∙ ap (λ k. ended (take k (drop from text)) (drop n (drop from text))) width
    ∙ ap (ended (slice_range text from (from + n))) (drop-drop n from text)

-- a line with a line feed
pub line_fed : (text : List ℕ) (from n : ℕ) → n ≡ prefix_len is_in_line (drop from text) → from + n < length text
    → lines_in (drop from text) ≡ without_return (slice_range text from (from + n)) ∷ lines_in (drop (from + n + 1) text)
line_fed text from n e h = line_at text from n e ∙ ap (ended (slice_range text from (from + n))) (drop_more text (from + n) 0 h)

has_bytes : (w : List ℕ) → 0 < length w → last_line w ≡ w ∷ []
has_bytes [] h = absurd (omega (arith, h))
has_bytes (c ∷ w) h = refl

-- the last line, without one
pub line_last : (text : List ℕ) (from n : ℕ) → n ≡ prefix_len is_in_line (drop from text) → from < length text → from + n ≡ length text
    → lines_in (drop from text) ≡ slice_range text from (from + n) ∷ lines_in (drop (from + n) text)
line_last text from n e i h =
    let all : drop (from + n) text ≡ [] = drop_all (from + n) text (omega (arith, h)) in
    let some : 0 < length (slice_range text from (from + n)) = omega (arith, i, h, length-take (from + n - from) (drop from text), length-drop from text) in
    line_at text from n e
    ∙ ap (ended (slice_range text from (from + n))) all
    ∙ has_bytes (slice_range text from (from + n)) some
    ∙ ap (λ s. slice_range text from (from + n) ∷ lines_in s) (sym all)

-- ---- the carriage return

with_return : (w : List ℕ) → without_return (w ++ 13 ∷ []) ≡ w
with_return [] = refl
with_return (c ∷ []) = refl
with_return (c ∷ d ∷ w) = ap (λ v. c ∷ v) (with_return (d ∷ w))

other_end : (w : List ℕ) (d : ℕ) → eqb d 13 ≡ false → without_return (w ++ d ∷ []) ≡ w ++ d ∷ []
other_end [] d h = rw h refl
other_end (c ∷ []) d h = rw h refl
other_end (c ∷ b ∷ w) d h = ap (λ v. c ∷ v) (other_end (b ∷ w) d h)

-- a slice is its front and its last byte
last_byte : (text : List ℕ) (from end : ℕ) → from < end → end ≤ length text → slice_range text from end ≡ slice_range text from (end - 1) ++ get_or text (end - 1) 0 ∷ []
last_byte text from end h l =
    let k = end - 1 - from in
    let size : end - from ≡ k + 1 = omega (arith, h) in
    let place : from + k ≡ end - 1 = omega (arith, h) in
    let inside : k < length (drop from text) = omega (arith, h, l, length-drop from text) in
    ap (λ n. take n (drop from text)) size
    ∙ take_more (drop from text) k 0 inside
    ∙ ap (λ c. take k (drop from text) ++ c ∷ []) (get_or-drop from text k 0 ∙ ap (λ n. get_or text n 0) place)

pub returned : (text : List ℕ) (from end : ℕ) → from < end → end ≤ length text → get_or text (end - 1) 0 ≡ 13
    → slice_range text from (end - 1) ≡ without_return (slice_range text from end)
returned text from end h l e =
    sym (with_return (slice_range text from (end - 1)))
    ∙ ap (λ c. without_return (slice_range text from (end - 1) ++ c ∷ [])) (sym e)
    ∙ ap without_return (sym (last_byte text from end h l))

pub not_returned : (text : List ℕ) (from end : ℕ) → from < end → end ≤ length text → (get_or text (end - 1) 0 ≡ 13 → ⊥)
    → slice_range text from end ≡ without_return (slice_range text from end)
not_returned text from end h l e =
    last_byte text from end h l
    ∙ sym (other_end (slice_range text from (end - 1)) (get_or text (end - 1) 0) (elim (eqb_tells (get_or text (end - 1) 0) 13) [ inl p ↦ absurd (e p.1) | inr p ↦ p.0 ]))
    ∙ ap without_return (sym (last_byte text from end h l))

pub nothing_returned : (text : List ℕ) (from end : ℕ) → end ≤ from → slice_range text from end ≡ without_return (slice_range text from end)
nothing_returned text from end h = let none : end - from ≡ 0 = omega (arith, h) in rw none refl

-- ---- a written text

no_line_byte : (c k : ℕ) → is_line_byte c ≡ true → is_line_byte k ≡ false → eqb c k ≡ false
no_line_byte c k h e = elim (eqb_tells c k) [ inl p ↦ absurd (true≢false (sym h ∙ ap is_line_byte p.1 ∙ e)) | inr p ↦ p.0 ]

pub same_line : (s : List ℕ) → list_all is_line_byte s ≡ true → without_return s ≡ s
same_line [] h = refl
same_line (c ∷ []) h = rw (no_line_byte c 13 (and_parts (is_line_byte c) true h).0 refl) refl
same_line (c ∷ d ∷ s) h = ap (λ t. c ∷ t) (same_line (d ∷ s) (and_parts (is_line_byte c) (list_all is_line_byte (d ∷ s)) h).1)

goes : (v s r : List ℕ) → list_all is_line_byte s ≡ true → lines_from v (s ++ 10 ∷ r) ≡ without_return (v ++ s) ∷ lines_in r
goes v [] r h = ap (λ u. without_return u ∷ lines_in r) (sym (append-nil v))
goes v (c ∷ s) r h =
    let e = and_parts (is_line_byte c) (list_all is_line_byte s) h in
    let here : lines_from v ((c ∷ s) ++ 10 ∷ r) ≡ lines_from (v ++ c ∷ []) (s ++ 10 ∷ r) = rw (no_line_byte c 10 e.0 refl) refl in
    here ∙ goes (v ++ c ∷ []) s r e.1 ∙ ap (λ u. without_return u ∷ lines_in r) (append_assoc v (c ∷ []) s)

tested : (b : Bool) (x : Option Line) (l : Line) → (if b then x else None) ≡ Some l → b ≡ true
tested true x l e = refl
tested false x l e = absurd cc

pub spelled_bytes : (l : Line) → IsSpelled l → list_all is_line_byte (line_text l) ≡ true
spelled_bytes l h = tested (list_all is_line_byte (line_text l)) (line_begun (line_text l)) l (written_reads l h)

pub text_lines : (ls : List Line) → All IsSpelled ls → lines_in (text_of ls) ≡ map line_text ls
text_lines [] h = refl
text_lines (l ∷ ls) h =
    let bytes = spelled_bytes l (All-head IsSpelled l ls h) in
    goes [] (line_text l) (text_of ls) bytes
    ∙ ap (λ s. s ∷ lines_in (text_of ls)) (same_line (line_text l) bytes)
    ∙ ap (λ ss. line_text l ∷ ss) (text_lines ls (All-tail IsSpelled l ls h))

pub all_read : (ls : List Line) → All IsSpelled ls → map line_of (map line_text ls) ≡ map Some ls
all_read [] h = refl
all_read (l ∷ ls) h = ap (λ r. r ∷ map line_of (map line_text ls)) (written_reads l (All-head IsSpelled l ls h)) ∙ ap (λ rs. Some l ∷ rs) (all_read ls (All-tail IsSpelled l ls h))
