-- Pragmas and lists of numbers are read from their spelling.
use Rattle.std.proofs.Common.{◌≡◌, ℕ, ◌<◌, ◌^◌, Bool, true, false, ◌&&◌, eqb, leb, ltb, List, [], ◌∷◌, ◌++◌, map, length, Option, Some, None, option_map, refl, sym, ap, subst, ◌∙◌, inl, inr, arith, append_assoc, append-nil}
use Rattle.std.specs.Prelude.{decimal}
use Rattle.std.specs.Char.{is_ascii_digit}
use Rattle.std.specs.List.{list_all}
use Rattle.std.proofs.lemmas.Bool.{leb-true, le-leb, ltb-true}
use Rattle.std.proofs.lemmas.Bool.Decides.{eqb_tells}
use Rattle.std.proofs.lemmas.List.Folds.{list_all-append}
use Rattle.if1_graph.specs.LineParts.{Part, Word}
use Rattle.if1_graph.specs.Numbers.{numerals, pieces, number_list, rising}
use Rattle.if1_graph.specs.Pragmas.{is_pragma, is_pragma_word, has_key, name_after, labels_of, named, preceded, takes_in}
use Rattle.if1_graph.specs.Reading.{numbers_first}
use Rattle.if1_graph.specs.Spelling.{number, is_visible, after_commas, commas, name_part, take_part, before_part, node_pragmas, are_numbers, rises_from, AreBefore, IsName}
use Rattle.if1_graph.proofs.Decimals.{and_true, and_parts, decimal_digits, decimal_visible, numeral_is, begins}
use Rattle.if1_graph.proofs.Rising.{rising_is}
use Rattle.if1_graph.proofs.Spelled.{IsPlain, ArePlain, both_plain}

-- ---- a list with commas

no_digit : (k c : ℕ) → k < 48 → is_ascii_digit c ≡ true → eqb c k ≡ false
no_digit k c l h =
    let low = leb-true 48 c (and_parts (leb 48 c) (leb c 57) h).0 in
    elim (eqb_tells c k) [ inl p ↦ absurd (omega (arith, low, l, p.1)) | inr p ↦ p.0 ]

piece_goes : (v w s : List ℕ) → list_all is_ascii_digit w ≡ true → pieces v (w ++ s) ≡ pieces (v ++ w) s
piece_goes v [] s h = ap (λ u. pieces u s) (sym (append-nil v))
piece_goes v (c ∷ w) s h =
    let e = and_parts (is_ascii_digit c) (list_all is_ascii_digit w) h in
    let here : pieces v ((c ∷ w) ++ s) ≡ pieces (v ++ c ∷ []) (w ++ s) = rw (no_digit 44 c (omega arith) e.0) refl in
    here ∙ piece_goes (v ++ c ∷ []) w s e.1 ∙ ap (λ u. pieces u s) (append_assoc v (c ∷ []) w)

numbers_apart : (n : ℕ) (ns : List ℕ) → are_numbers (n ∷ ns) ≡ true → (n < 2 ^ 32) × (are_numbers ns ≡ true)
numbers_apart n ns h = let e = and_parts (ltb n (2 ^ 32)) (are_numbers ns) h in (ltb-true n (2 ^ 32) e.0, e.1)

comma_pieces : (v ns : List ℕ) → are_numbers ns ≡ true → pieces v (after_commas ns) ≡ v ∷ map decimal ns
comma_pieces v [] h = refl
comma_pieces v (n ∷ ns) h =
    let e = numbers_apart n ns h in
    ap (λ ps. v ∷ ps) (piece_goes [] (decimal n) (after_commas ns) (decimal_digits n e.0) ∙ comma_pieces (decimal n) ns e.1)

numerals_are : (k : ℕ) (ns : List ℕ) → are_numbers ns ≡ true → rises_from k ns ≡ true → numerals 1 (map decimal ns) ≡ Some ns
numerals_are k [] h r = refl
numerals_are k (n ∷ ns) h r =
    let e = numbers_apart n ns h in
    let f = and_parts (ltb k n) (rises_from n ns) r in
    rw (numeral_is 1 n (omega (arith, ltb-true k n f.0)) e.0, numerals_are n ns e.1 f.1) refl

list_is : (n : ℕ) (ns : List ℕ) → AreBefore (n ∷ ns) → number_list 1 (commas (n ∷ ns)) ≡ Some (n ∷ ns)
list_is n ns h =
    let b = and_parts (are_numbers (n ∷ ns)) (rises_from 0 (n ∷ ns)) h in
    let e = numbers_apart n ns b.0 in
    ap (numerals 1) (piece_goes [] (decimal n) (after_commas ns) (decimal_digits n e.0) ∙ comma_pieces (decimal n) ns e.1)
    ∙ numerals_are 0 (n ∷ ns) b.0 b.1

-- ---- words of pragmas

long : (a b c d : ℕ) (w : List ℕ) → leb 4 (length (a ∷ b ∷ c ∷ d ∷ w)) ≡ true
long a b c d w = le-leb 4 (length (a ∷ b ∷ c ∷ d ∷ w)) (omega arith)

pragma_word : (a b : ℕ) (w : List ℕ) → is_pragma_word (37 ∷ a ∷ b ∷ 61 ∷ w) ≡ true
pragma_word a b w = rw (long 37 a b 61 w) refl

key_is : (k l a b : ℕ) (w : List ℕ) → has_key k l (37 ∷ a ∷ b ∷ 61 ∷ w) ≡ (eqb a k && eqb b l)
key_is k l a b w = rw (long 37 a b 61 w) refl

same : (o : Option (List ℕ)) → option_map (λ (ns : List ℕ). ns) o ≡ o
same None = refl
same (Some ns) = refl

-- the pragma of a name, before others
pragmas_named : (name : List ℕ) (ps : List Part) → list_all is_pragma (name_part name ++ ps) ≡ list_all is_pragma ps
pragmas_named [] ps = refl
pragmas_named (c ∷ name) ps = rw (pragma_word 110 97 (c ∷ name)) refl

name_named : (name : List ℕ) (ps : List Part) → name_after [] (name_part name ++ ps) ≡ name_after name ps
name_named [] ps = refl
name_named (c ∷ name) ps = rw (key_is 110 97 110 97 (c ∷ name)) refl

labels_named : (name : List ℕ) (ps : List Part) → labels_of (name_part name ++ ps) ≡ labels_of ps
labels_named [] ps = refl
labels_named (c ∷ name) ps = rw (key_is 98 102 110 97 (c ∷ name)) (same (labels_of ps))

takes_named : (name : List ℕ) (ps : List Part) → takes_in (name_part name ++ ps) ≡ takes_in ps
takes_named [] ps = refl
takes_named (c ∷ name) ps = rw (key_is 116 107 110 97 (c ∷ name)) refl

-- that of a list
pragmas_before : (ns : List ℕ) → list_all is_pragma (before_part ns) ≡ true
pragmas_before [] = refl
pragmas_before (n ∷ ns) = rw (pragma_word 98 102 (commas (n ∷ ns))) refl

name_before : (name ns : List ℕ) → name_after name (before_part ns) ≡ name
name_before name [] = refl
name_before name (n ∷ ns) = rw (key_is 110 97 98 102 (commas (n ∷ ns))) refl

labels_before : (ns : List ℕ) → AreBefore ns → labels_of (before_part ns) ≡ Some ns
labels_before [] h = refl
labels_before (n ∷ ns) h = rw (key_is 98 102 98 102 (commas (n ∷ ns)), list_is n ns h) (ap Some (append-nil (n ∷ ns)))

-- ---- what a line's pragmas say

named_pragmas : (name : List ℕ) (ps : List Part) → list_all is_pragma ps ≡ true → name_after name ps ≡ name → named (name_part name ++ ps) ≡ Some name
named_pragmas name ps h e = rw (pragmas_named name ps, h) (ap Some (name_named name ps ∙ e))

pub named_alone : (name : List ℕ) → named (name_part name) ≡ Some name
named_alone name = ap named (sym (append-nil (name_part name))) ∙ named_pragmas name [] refl refl

pub named_node : (name ns : List ℕ) → named (node_pragmas name ns) ≡ Some name
named_node name ns = named_pragmas name (before_part ns) (pragmas_before ns) (name_before name ns)

pub named_edge : (name : List ℕ) (takes : Bool) → named (name_part name ++ take_part takes) ≡ Some name
named_edge name true = named_pragmas name (take_part true) refl refl
named_edge name false = named_pragmas name (take_part false) refl refl

pub takes_edge : (name : List ℕ) (takes : Bool) → takes_in (name_part name ++ take_part takes) ≡ takes
takes_edge name true = takes_named name (take_part true)
takes_edge name false = takes_named name (take_part false)

pub preceded_node : (name ns : List ℕ) → AreBefore ns → preceded (node_pragmas name ns) ≡ Some ns
preceded_node name ns h =
    ap (option_map rising) (labels_named name (before_part ns) ∙ labels_before ns h)
    ∙ ap Some (rising_is 0 ns (and_parts (are_numbers ns) (rises_from 0 ns) h).1)

-- ---- numbers up to the pragmas

no_pragma_at : (b : Bool) (c k l : ℕ) (r : Bool) → eqb c k ≡ false → (b && (eqb c k) && r) ≡ false
no_pragma_at true c k l r e = rw e refl
no_pragma_at false c k l r e = refl

no_pragma : (n : ℕ) → n < 2 ^ 32 → is_pragma_word (decimal n) ≡ false
no_pragma n h =
    let b = begins n h in
    let e = no_digit 37 b.first (omega arith) (and_parts (is_ascii_digit b.first) (list_all is_ascii_digit b.more) b.digits).0 in
    ap is_pragma_word b.is ∙ no_pragma_at (leb 4 (length (b.first ∷ b.more))) b.first 37 0 _ e

none_first : (name ns : List ℕ) → numbers_first (node_pragmas name ns) ≡ Some ([], node_pragmas name ns)
none_first [] [] = refl
none_first [] (n ∷ ns) = rw (pragma_word 98 102 (commas (n ∷ ns))) refl
none_first (c ∷ name) ns = rw (pragma_word 110 97 (c ∷ name)) refl

pub numbers_are : (xs name ns : List ℕ) → are_numbers xs ≡ true → numbers_first (map number xs ++ node_pragmas name ns) ≡ Some (xs, node_pragmas name ns)
numbers_are [] name ns h = none_first name ns
numbers_are (a ∷ xs) name ns h =
    let e = numbers_apart a xs h in
    rw (no_pragma a e.0, numeral_is 0 a (omega arith) e.0, numbers_are xs name ns e.1) refl

-- ---- parts that their spelling gives back

pub number_plain : (n : ℕ) → n < 2 ^ 32 → IsPlain (number n)
number_plain n h =
    let b = begins n h in
    let e = no_digit 34 b.first (omega arith) (and_parts (is_ascii_digit b.first) (list_all is_ascii_digit b.more) b.digits).0 in
    subst (λ (w : List ℕ). IsPlain (Word w)) (sym b.is) (e, subst (λ (w : List ℕ). list_all is_visible w ≡ true) b.is (decimal_visible n h))

pub numbers_plain : (ns : List ℕ) → are_numbers ns ≡ true → ArePlain (map number ns)
numbers_plain [] h = tt
numbers_plain (n ∷ ns) h = let e = numbers_apart n ns h in (number_plain n e.0, numbers_plain ns e.1)

pub name_plain : (name : List ℕ) → IsName name → ArePlain (name_part name)
name_plain [] h = tt
name_plain (c ∷ name) h = ((refl, h), tt)

pub take_plain : (takes : Bool) → ArePlain (take_part takes)
take_plain true = ((refl, refl), tt)
take_plain false = tt

commas_visible : (ns : List ℕ) → are_numbers ns ≡ true → list_all is_visible (after_commas ns) ≡ true
commas_visible [] h = refl
commas_visible (n ∷ ns) h =
    let e = numbers_apart n ns h in
    list_all-append is_visible (decimal n) (after_commas ns) ∙ and_true _ _ (decimal_visible n e.0) (commas_visible ns e.1)

before_plain : (ns : List ℕ) → AreBefore ns → ArePlain (before_part ns)
before_plain [] h = tt
before_plain (n ∷ ns) h = let b = and_parts (are_numbers (n ∷ ns)) (rises_from 0 (n ∷ ns)) h in ((refl, commas_visible (n ∷ ns) b.0), tt)

pub pragmas_plain : (name ns : List ℕ) → IsName name → AreBefore ns → ArePlain (node_pragmas name ns)
pragmas_plain name ns a b = both_plain (name_part name) (before_part ns) (name_plain name a) (before_plain ns b)
