-- What is read has a spelling.
use Rattle.std.proofs.Common.{◌≡◌, ℕ, zero, suc, ◌≤◌, ◌<◌, ◌^◌, inl, inr, Bool, true, false, cond, not, ◌&&◌, ◌||◌, eqb, leb, ltb, true≢false, List, [], ◌∷◌, ◌++◌, drop, length, Option, Some, None, option_map, unwrap_or, if◌then◌else◌, refl, sym, ap, subst, ◌∙◌, arith}
use Rattle.std.specs.Prelude.{slice_index}
use Rattle.std.specs.List.{list_all}
use Rattle.std.proofs.lemmas.Bool.{leb-true, le-leb, lt-ltb, eqb-false}
use Rattle.std.proofs.lemmas.List.Folds.{list_all-append}
use Rattle.if1_graph.specs.LineParts.{◌>>=◌, is_blank, is_line_byte, Part, Word, Quoted, Broken, Place, Between, InWord, InQuotes, BehindQuotes, word_of, parts_from, parts_of}
use Rattle.if1_graph.specs.Numbers.{is_row, row_value, in_32_bits, at_least, numeral, numerals, pieces, number_list, number_first, rising}
use Rattle.if1_graph.specs.Entries.{entry_form, entry_numbers, basic_code}
use Rattle.if1_graph.specs.Pragmas.{is_pragma, has_key, renamed, name_after, labels_in, labels_of, named, preceded, takes_in}
use Rattle.if1_graph.specs.Reading.{quoted_first, numbers_first, entry_line, node_line, edge_line, literal_line, typed_name, function_line, import_line, graph_line, close_line, letter_first, line_by, line_begun, line_of}
use Rattle.if1_graph.specs.Spelling.{is_visible, is_quotable, are_numbers, rises_from, IsLabel, IsName, IsQuotable, AreBefore, AreEntryNumbers, IsSpelled}
use Rattle.if1_graph.specs.declared.line.EntryForm.{EntryForm}
use Rattle.if1_graph.specs.declared.line.EntryForm.TheVariants as form
use Rattle.if1_graph.specs.declared.line.Line.{Line}
use Rattle.if1_graph.specs.declared.line.Line.TheVariants as line
use Rattle.if1_graph.proofs.Decimals.{and_true, and_parts, each_so}
use Rattle.if1_graph.proofs.Rising.{Above, Rises, In, rising_rises, from_rising}

-- ---- parts

abbrev IsSound : Part → Type 0
IsSound (Word w) = list_all is_visible w ≡ true
IsSound (Quoted t) = list_all is_quotable t ≡ true
IsSound Broken = Unit {0}

abbrev Sound : List Part → Type 0
Sound [] = Unit {0}
Sound (p ∷ ps) = IsSound p × Sound ps

abbrev IsSoundAt : Place → Type 0
IsSoundAt Between = Unit {0}
IsSoundAt (InWord w) = list_all is_visible w ≡ true
IsSoundAt (InQuotes t) = list_all is_quotable t ≡ true
IsSoundAt (BehindQuotes t) = list_all is_quotable t ≡ true

or_false : (a b : Bool) → (a || b) ≡ false → (a ≡ false) × (b ≡ false)
or_false true b e = absurd cc
or_false false b e = (refl, e)

above_blank : (c : ℕ) → leb 32 c ≡ true → eqb c 32 ≡ false → leb 33 c ≡ true
above_blank c h e = le-leb 33 c (omega (arith, leb-true 32 c h, eqb-false c 32 e))

visible_at : (t : Bool) (c : ℕ) → eqb c 9 ≡ t → is_line_byte c ≡ true → is_blank c ≡ false → is_visible c ≡ true
visible_at true c e h b = absurd (true≢false (sym e ∙ (or_false (eqb c 32) (eqb c 9) b).1))
visible_at false c e h b =
    let p = and_parts (leb 32 c) (leb c 126) (sym (ap (λ (t : Bool). t || (leb 32 c && leb c 126)) e) ∙ h) in
    and_true (leb 33 c) (leb c 126) (above_blank c p.0 (or_false (eqb c 32) (eqb c 9) b).0) p.1

more_of : (p : ℕ → Bool) (w : List ℕ) (c : ℕ) → list_all p w ≡ true → p c ≡ true → list_all p (w ++ c ∷ []) ≡ true
more_of p w c h e = list_all-append p w (c ∷ []) ∙ and_true (list_all p w) (list_all p (c ∷ [])) h (and_true (p c) true e refl)

between : (b q : Bool) (xs ys zs : List Part) → Sound xs → Sound ys → (b ≡ false → Sound zs) → Sound (cond b xs (cond q ys zs))
between true q xs ys zs a d e = a
between false true xs ys zs a d e = d
between false false xs ys zs a d e = e refl

either : (b : Bool) (xs ys : List Part) → Sound xs → (b ≡ false → Sound ys) → Sound (cond b xs ys)
either true xs ys a d = a
either false xs ys a d = d refl

parts_sound : (p : Place) (s : List ℕ) → IsSoundAt p → list_all is_line_byte s ≡ true → Sound (parts_from p s)
parts_sound Between [] h b = tt
parts_sound (InWord w) [] h b = (h, tt)
parts_sound (InQuotes w) [] h b = (tt, tt)
parts_sound (BehindQuotes w) [] h b = (h, tt)
parts_sound Between (c ∷ s) h b =
    let e = and_parts (is_line_byte c) (list_all is_line_byte s) b in
    between (is_blank c) (eqb c 34) (parts_from Between s) (parts_from (InQuotes []) s) (parts_from (InWord (c ∷ [])) s)
    (parts_sound Between s tt e.1)
    (parts_sound (InQuotes []) s refl e.1)
    (λ f. parts_sound (InWord (c ∷ [])) s (and_true (is_visible c) true (visible_at (eqb c 9) c refl e.0 f) refl) e.1)
parts_sound (InWord w) (c ∷ s) h b =
    let e = and_parts (is_line_byte c) (list_all is_line_byte s) b in
    either (is_blank c) (Word w ∷ parts_from Between s) (parts_from (InWord (w ++ c ∷ [])) s)
    (h, parts_sound Between s tt e.1)
    (λ f. parts_sound (InWord (w ++ c ∷ [])) s (more_of is_visible w c h (visible_at (eqb c 9) c refl e.0 f)) e.1)
parts_sound (InQuotes w) (c ∷ s) h b =
    let e = and_parts (is_line_byte c) (list_all is_line_byte s) b in
    either (eqb c 34) (parts_from (BehindQuotes w) s) (parts_from (InQuotes (w ++ c ∷ [])) s)
    (parts_sound (BehindQuotes w) s h e.1)
    (λ f. parts_sound (InQuotes (w ++ c ∷ [])) s (more_of is_quotable w c h (and_true (is_line_byte c) (not (eqb c 34)) e.0 (ap not f))) e.1)
parts_sound (BehindQuotes w) (c ∷ s) h b =
    let e = and_parts (is_line_byte c) (list_all is_line_byte s) b in
    either (is_blank c) (Quoted w ∷ parts_from Between s) (Broken ∷ []) (h, parts_sound Between s tt e.1) (λ f. (tt, tt))

-- ---- what is read in turn

bound : {A B : Type 0} (o : Option A) (f : A → Option B) (b : B) → (o >>= f) ≡ Some b → (a : A) × (o ≡ Some a) × (f a ≡ Some b)
bound None f b e = absurd cc
bound (Some a) f b e = (a, refl, e)

some_is : {A : Type 0} (a b : A) → Some a ≡ Some b → a ≡ b
some_is a b e = ap (λ o. unwrap_or o a) e

if_some : {A : Type 0} (b : Bool) (x : Option A) (a : A) → (if b then x else None) ≡ Some a → (b ≡ true) × (x ≡ Some a)
if_some true x a e = (refl, e)
if_some false x a e = absurd cc

mapped : {A B : Type 0} (f : A → B) (o : Option A) (b : B) → option_map f o ≡ Some b → (a : A) × (o ≡ Some a) × (f a ≡ b)
mapped f None b e = absurd cc
mapped f (Some a) b e = (a, refl, some_is (f a) b e)

-- ---- numbers

numeral_in : (least : ℕ) (w : List ℕ) (n : ℕ) → numeral least w ≡ Some n → (least ≤ n) × (n < 2 ^ 32)
numeral_in least w n e =
    let v = row_value w in
    let a = if_some (is_row w) (in_32_bits v >>= at_least least) n e in
    let b = bound (in_32_bits v) (at_least least) n a.1 in
    let c = if_some (leb v 4294967295) (Some v) b.0 b.1 in
    let d = if_some (leb least b.0) (Some b.0) n b.2 in
    let x : v ≡ b.0 = some_is v b.0 c.1 in
    let y : b.0 ≡ n = some_is b.0 n d.1 in
    (omega (arith, leb-true least b.0 d.0, y), omega (arith, leb-true v 4294967295 c.0, x, y))

record Read (least : ℕ) (r : ℕ × List Part) : Type 0 where
  low : least ≤ r.0
  high : r.0 < 2 ^ 32
  rest : Sound r.1

number_in : (least : ℕ) (ps : List Part) (r : ℕ × List Part) → Sound ps → number_first least ps ≡ Some r → Read least r
number_in least [] r h e = absurd cc
number_in least (p ∷ ps) r h e =
    let m = mapped (λ n. (n, ps)) (numeral least (word_of p)) r e in
    let k = numeral_in least (word_of p) m.0 m.1 in
    subst (λ (r : ℕ × List Part). Read least r) m.2 (record { low = k.0; high = k.1; rest = h.1 })

quoted_in : (ps : List Part) (r : List ℕ × List Part) → Sound ps → quoted_first ps ≡ Some r → IsQuotable r.0 × Sound r.1
quoted_in [] r h e = absurd cc
quoted_in (Word w ∷ ps) r h e = absurd cc
quoted_in (Quoted t ∷ ps) r h e = subst (λ (r : List ℕ × List Part). IsQuotable r.0 × Sound r.1) (some_is (t, ps) r e) (h.0, h.1)
quoted_in (Broken ∷ ps) r h e = absurd cc

-- ---- pragmas

all_drop : (p : ℕ → Bool) (n : ℕ) (xs : List ℕ) → list_all p xs ≡ true → list_all p (drop n xs) ≡ true
all_drop p zero xs h = h
all_drop p (suc n) [] h = refl
all_drop p (suc n) (x ∷ xs) h = all_drop p n xs (and_parts (p x) (list_all p xs) h).1

word_sound : (p : Part) → IsSound p → list_all is_visible (word_of p) ≡ true
word_sound (Word w) h = h
word_sound (Quoted t) h = refl
word_sound Broken h = refl

renamed_sound : (b : Bool) (old w : List ℕ) → list_all is_visible old ≡ true → list_all is_visible w ≡ true → list_all is_visible (cond b (drop 4 w) old) ≡ true
renamed_sound true old w a h = all_drop is_visible 4 w h
renamed_sound false old w a h = a

name_sound : (old : List ℕ) (ps : List Part) → list_all is_visible old ≡ true → Sound ps → list_all is_visible (name_after old ps) ≡ true
name_sound old [] a h = a
name_sound old (p ∷ ps) a h = name_sound (renamed old (word_of p)) ps (renamed_sound (has_key 110 97 (word_of p)) old (word_of p) a (word_sound p h.0)) h.1

named_in : (ps : List Part) (name : List ℕ) → Sound ps → named ps ≡ Some name → IsName name
named_in ps name h e =
    let a = if_some (list_all is_pragma ps) (Some (name_after [] ps)) name e in
    subst (λ (n : List ℕ). IsName n) (some_is (name_after [] ps) name a.1) (name_sound [] ps refl h)

-- ---- labels

abbrev is_label : ℕ → Bool
is_label n = leb 1 n && ltb n (2 ^ 32)

label_is : (n : ℕ) → 1 ≤ n → n < 2 ^ 32 → is_label n ≡ true
label_is n a b = and_true (leb 1 n) (ltb n (2 ^ 32)) (le-leb 1 n a) (lt-ltb n (2 ^ 32) b)

numerals_in : (ws : List (List ℕ)) (ns : List ℕ) → numerals 1 ws ≡ Some ns → list_all is_label ns ≡ true
numerals_in [] ns e = subst (λ (ns : List ℕ). list_all is_label ns ≡ true) (some_is [] ns e) refl
numerals_in (w ∷ ws) ns e =
    let a = bound (numeral 1 w) (λ n. option_map (λ ns. n ∷ ns) (numerals 1 ws)) ns e in
    let m = mapped (λ ns. a.0 ∷ ns) (numerals 1 ws) ns a.2 in
    let k = numeral_in 1 w a.0 a.1 in
    subst (λ (ns : List ℕ). list_all is_label ns ≡ true) m.2 (and_true (is_label a.0) (list_all is_label m.0) (label_is a.0 k.0 k.1) (numerals_in ws m.0 m.1))

labels_in_at : (b : Bool) (t : List ℕ) (ls : List ℕ) → (cond b (number_list 1 t) (Some [])) ≡ Some ls → list_all is_label ls ≡ true
labels_in_at true t ls e = numerals_in (pieces [] t) ls e
labels_in_at false t ls e = subst (λ (ns : List ℕ). list_all is_label ns ≡ true) (some_is [] ls e) refl

labels_sound : (ps : List Part) (ls : List ℕ) → labels_of ps ≡ Some ls → list_all is_label ls ≡ true
labels_sound [] ls e = subst (λ (ns : List ℕ). list_all is_label ns ≡ true) (some_is [] ls e) refl
labels_sound (p ∷ ps) ls e =
    let a = bound (labels_in (word_of p)) (λ ls. option_map (λ more. ls ++ more) (labels_of ps)) ls e in
    let m = mapped (λ more. a.0 ++ more) (labels_of ps) ls a.2 in
    subst (λ (ns : List ℕ). list_all is_label ns ≡ true) m.2
    (list_all-append is_label a.0 m.0 ∙ and_true (list_all is_label a.0) (list_all is_label m.0) (labels_in_at (has_key 98 102 (word_of p)) (drop 4 (word_of p)) a.0 a.1) (labels_sound ps m.0 m.1))

member_so : (p : ℕ → Bool) (xs : List ℕ) (x : ℕ) → list_all p xs ≡ true → In x xs → p x ≡ true
member_so p [] x h i = elim i [ ]
member_so p (y ∷ ys) x h (inl e) = ap p e ∙ (and_parts (p y) (list_all p ys) h).0
member_so p (y ∷ ys) x h (inr i) = member_so p ys x (and_parts (p y) (list_all p ys) h).1 i

all_so : (p : ℕ → Bool) (xs : List ℕ) → ((x : ℕ) → In x xs → p x ≡ true) → list_all p xs ≡ true
all_so p [] f = refl
all_so p (x ∷ xs) f = and_true (p x) (list_all p xs) (f x (inl refl)) (all_so p xs (λ y i. f y (inr i)))

rises_so : (k : ℕ) (ns : List ℕ) → Above k ns → rises_from k ns ≡ true
rises_so k [] h = refl
rises_so k (n ∷ ns) h = and_true (ltb k n) (rises_from n ns) (lt-ltb k n h.0) (rises_so n ns h.1)

from_0 : (ns : List ℕ) → Rises ns → list_all is_label ns ≡ true → Above 0 ns
from_0 [] r h = tt
from_0 (n ∷ ns) r h = (leb-true 1 n (and_parts (leb 1 n) (ltb n (2 ^ 32)) (and_parts (is_label n) (list_all is_label ns) h).0).0, r)

rising_before : (ls : List ℕ) → list_all is_label ls ≡ true → AreBefore (rising ls)
rising_before ls h =
    let labels : list_all is_label (rising ls) ≡ true = all_so is_label (rising ls) (λ x i. member_so is_label ls x h (from_rising x ls i)) in
    and_true (are_numbers (rising ls)) (rises_from 0 (rising ls))
    (each_so is_label (λ n. ltb n (2 ^ 32)) (λ n e. (and_parts (leb 1 n) (ltb n (2 ^ 32)) e).1) (rising ls) labels)
    (rises_so 0 (rising ls) (from_0 (rising ls) (rising_rises ls) labels))

preceded_in : (ps : List Part) (ns : List ℕ) → preceded ps ≡ Some ns → AreBefore ns
preceded_in ps ns e =
    let m = mapped rising (labels_of ps) ns e in
    subst (λ (ns : List ℕ). AreBefore ns) m.2 (rising_before m.0 (labels_sound ps m.0 m.1))

-- ---- numbers up to the pragmas

numbers_at : (b : Bool) (p : Part) (ps : List Part) (r : List ℕ × List Part) → IsSound p → Sound ps
    → ((q : List ℕ × List Part) → numbers_first ps ≡ Some q → (are_numbers q.0 ≡ true) × Sound q.1)
    → (cond b (Some ([], p ∷ ps)) (numeral 0 (word_of p) >>= λ n. option_map (λ more. (n ∷ more.0, more.1)) (numbers_first ps))) ≡ Some r
    → (are_numbers r.0 ≡ true) × Sound r.1
numbers_at true p ps r h k ih e = subst (λ (r : List ℕ × List Part). (are_numbers r.0 ≡ true) × Sound r.1) (some_is ([], p ∷ ps) r e) (refl, (h, k))
numbers_at false p ps r h k ih e =
    let a = bound (numeral 0 (word_of p)) (λ n. option_map (λ more. (n ∷ more.0, more.1)) (numbers_first ps)) r e in
    let m = mapped (λ more. (a.0 ∷ more.0, more.1)) (numbers_first ps) r a.2 in
    let n = numeral_in 0 (word_of p) a.0 a.1 in
    let i = ih m.0 m.1 in
    subst (λ (r : List ℕ × List Part). (are_numbers r.0 ≡ true) × Sound r.1) m.2
    (and_true (ltb a.0 (2 ^ 32)) (are_numbers m.0.0) (lt-ltb a.0 (2 ^ 32) n.1) i.0, i.1)

numbers_in : (ps : List Part) (r : List ℕ × List Part) → Sound ps → numbers_first ps ≡ Some r → (are_numbers r.0 ≡ true) × Sound r.1
numbers_in [] r h e = subst (λ (r : List ℕ × List Part). (are_numbers r.0 ≡ true) × Sound r.1) (some_is ([], []) r e) (refl, tt)
numbers_in (p ∷ ps) r h e = numbers_at (is_pragma p) p ps r h.0 h.1 (λ q f. numbers_in ps q h.1 f) e

-- ---- lines

node_spelled : (ps : List Part) (l : Line) → Sound ps → node_line ps ≡ Some l → IsSpelled l
node_spelled ps l h e =
    let a = bound (number_first 1 ps) _ l e in
    let x = number_in 1 ps a.0 h a.1 in
    let b = bound (number_first 0 a.0.1) _ l a.2 in
    let y = number_in 0 a.0.1 b.0 x.rest b.1 in
    let c = bound (named b.0.1) _ l b.2 in
    let d = bound (preceded b.0.1) _ l c.2 in
    subst IsSpelled (some_is (line.Node a.0.0 b.0.0 d.0 c.0) l d.2) ((x.low, x.high), y.high, preceded_in b.0.1 d.0 d.1, named_in b.0.1 c.0 y.rest c.1)

edge_spelled : (ps : List Part) (l : Line) → Sound ps → edge_line ps ≡ Some l → IsSpelled l
edge_spelled ps l h e =
    let a = bound (number_first 0 ps) _ l e in
    let x = number_in 0 ps a.0 h a.1 in
    let b = bound (number_first 1 a.0.1) _ l a.2 in
    let y = number_in 1 a.0.1 b.0 x.rest b.1 in
    let c = bound (number_first 0 b.0.1) _ l b.2 in
    let z = number_in 0 b.0.1 c.0 y.rest c.1 in
    let d = bound (number_first 1 c.0.1) _ l c.2 in
    let u = number_in 1 c.0.1 d.0 z.rest d.1 in
    let f = bound (number_first 1 d.0.1) _ l d.2 in
    let v = number_in 1 d.0.1 f.0 u.rest f.1 in
    let g = bound (named f.0.1) _ l f.2 in
    subst IsSpelled (some_is (line.Edge a.0.0 b.0.0 c.0.0 d.0.0 f.0.0 (takes_in f.0.1) g.0) l g.2)
    (x.high, (y.low, y.high), z.high, (u.low, u.high), (v.low, v.high), named_in f.0.1 g.0 v.rest g.1)

literal_spelled : (ps : List Part) (l : Line) → Sound ps → literal_line ps ≡ Some l → IsSpelled l
literal_spelled ps l h e =
    let a = bound (number_first 0 ps) _ l e in
    let x = number_in 0 ps a.0 h a.1 in
    let b = bound (number_first 1 a.0.1) _ l a.2 in
    let y = number_in 1 a.0.1 b.0 x.rest b.1 in
    let c = bound (number_first 1 b.0.1) _ l b.2 in
    let z = number_in 1 b.0.1 c.0 y.rest c.1 in
    let d = bound (quoted_first c.0.1) _ l c.2 in
    let q = quoted_in c.0.1 d.0 z.rest d.1 in
    let g = bound (named d.0.1) _ l d.2 in
    subst IsSpelled (some_is (line.Literal a.0.0 b.0.0 c.0.0 d.0.0 g.0) l g.2)
    (x.high, (y.low, y.high), (z.low, z.high), q.0, named_in d.0.1 g.0 q.1 g.1)

close_spelled : (ps : List Part) (l : Line) → Sound ps → close_line ps ≡ Some l → IsSpelled l
close_spelled ps l h e =
    let a = bound (number_first 1 ps) _ l e in
    let x = number_in 1 ps a.0 h a.1 in
    let b = bound (number_first 0 a.0.1) _ l a.2 in
    let y = number_in 0 a.0.1 b.0 x.rest b.1 in
    let c = bound (number_first 0 b.0.1) _ l b.2 in
    let z = number_in 0 b.0.1 c.0 y.rest c.1 in
    let d = bound (numbers_first c.0.1) _ l c.2 in
    let q = numbers_in c.0.1 d.0 z.rest d.1 in
    let f = bound (named d.0.1) _ l d.2 in
    let g = bound (preceded d.0.1) _ l f.2 in
    subst IsSpelled (some_is (line.Close a.0.0 b.0.0 c.0.0 d.0.0 g.0 f.0) l g.2)
    ((x.low, x.high), y.high, z.high, q.0, preceded_in d.0.1 g.0 g.1, named_in d.0.1 f.0 q.1 f.1)

-- T
record ReadNumbers (f : EntryForm) (r : (ℕ × ℕ) × List Part) : Type 0 where
  fit : AreEntryNumbers (Some f) r.0.0 r.0.1
  rest : Sound r.1

entry_in : (f : EntryForm) (ps : List Part) (r : (ℕ × ℕ) × List Part) → Sound ps → entry_numbers f ps ≡ Some r → ReadNumbers f r
entry_in form.OneLabel ps r h e =
    let a = bound (number_first 1 ps) _ r e in
    let x = number_in 1 ps a.0 h a.1 in
    subst (λ (r : (ℕ × ℕ) × List Part). ReadNumbers form.OneLabel r) (some_is ((a.0.0, 0), a.0.1) r a.2) (record { fit = ((x.low, x.high), refl); rest = x.rest })
entry_in form.Basic ps r h e =
    let a = bound (number_first 0 ps) _ r e in
    let x = number_in 0 ps a.0 h a.1 in
    let b = bound (basic_code a.0) _ r a.2 in
    let c = if_some (leb a.0.0 6) (Some a.0) b.0 b.1 in
    let same = some_is a.0 b.0 c.1 in
    subst (λ (r : (ℕ × ℕ) × List Part). ReadNumbers form.Basic r) (some_is ((b.0.0, 0), b.0.1) r b.2)
    (subst (λ (q : ℕ × List Part). ReadNumbers form.Basic ((q.0, 0), q.1)) same (record { fit = (leb-true a.0.0 6 c.0, refl); rest = x.rest }))
entry_in form.Member ps r h e =
    let a = bound (number_first 1 ps) _ r e in
    let x = number_in 1 ps a.0 h a.1 in
    let b = bound (number_first 0 a.0.1) _ r a.2 in
    let y = number_in 0 a.0.1 b.0 x.rest b.1 in
    subst (λ (r : (ℕ × ℕ) × List Part). ReadNumbers form.Member r) (some_is ((a.0.0, b.0.0), b.0.1) r b.2) (record { fit = ((x.low, x.high), y.high); rest = y.rest })
entry_in form.Function ps r h e =
    let a = bound (number_first 0 ps) _ r e in
    let x = number_in 0 ps a.0 h a.1 in
    let b = bound (number_first 1 a.0.1) _ r a.2 in
    let y = number_in 1 a.0.1 b.0 x.rest b.1 in
    subst (λ (r : (ℕ × ℕ) × List Part). ReadNumbers form.Function r) (some_is ((a.0.0, b.0.0), b.0.1) r b.2) (record { fit = (x.high, (y.low, y.high)); rest = y.rest })

entry_spelled : (ps : List Part) (l : Line) → Sound ps → entry_line ps ≡ Some l → IsSpelled l
entry_spelled ps l h e =
    let a = bound (number_first 1 ps) _ l e in
    let x = number_in 1 ps a.0 h a.1 in
    let b = bound (number_first 0 a.0.1) _ l a.2 in
    let y = number_in 0 a.0.1 b.0 x.rest b.1 in
    let c = bound (entry_form b.0.0) _ l b.2 in
    let d = bound (entry_numbers c.0 b.0.1) _ l c.2 in
    let n = entry_in c.0 b.0.1 d.0 y.rest d.1 in
    let g = bound (named d.0.1) _ l d.2 in
    subst IsSpelled (some_is (line.Entry a.0.0 b.0.0 d.0.0.0 d.0.0.1 g.0) l g.2)
    ((x.low, x.high), y.high, subst (λ (f : Option EntryForm). AreEntryNumbers f d.0.0.0 d.0.0.1) (sym c.1) n.fit, named_in d.0.1 g.0 n.rest g.1)

-- X, G, I
typed_in : (ps : List Part) (f : ℕ × List ℕ) → Sound ps → typed_name ps ≡ Some f → IsLabel f.0 × IsQuotable f.1
typed_in ps f h e =
    let a = bound (number_first 1 ps) _ f e in
    let x = number_in 1 ps a.0 h a.1 in
    let b = bound (quoted_first a.0.1) _ f a.2 in
    let q = quoted_in a.0.1 b.0 x.rest b.1 in
    let c = if_some (list_all is_pragma b.0.1) (Some (a.0.0, b.0.0)) f b.2 in
    subst (λ (f : ℕ × List ℕ). IsLabel f.0 × IsQuotable f.1) (some_is (a.0.0, b.0.0) f c.1) ((x.low, x.high), q.0)

function_spelled : (exported : Bool) (ps : List Part) (l : Line) → Sound ps → function_line exported ps ≡ Some l → IsSpelled l
function_spelled exported ps l h e =
    let a = bound (typed_name ps) _ l e in
    subst IsSpelled (some_is (line.Function exported a.0.0 a.0.1) l a.2) (typed_in ps a.0 h a.1)

import_spelled : (ps : List Part) (l : Line) → Sound ps → import_line ps ≡ Some l → IsSpelled l
import_spelled ps l h e =
    let a = bound (typed_name ps) _ l e in
    subst IsSpelled (some_is (line.Import a.0.0 a.0.1) l a.2) (typed_in ps a.0 h a.1)

graph_at : (b : Bool) (ps rest : List Part) (l : Line) → Sound ps → Sound rest → cond b (option_map line.Subgraph (named rest)) (function_line false ps) ≡ Some l → IsSpelled l
graph_at true ps rest l h k e =
    let m = mapped line.Subgraph (named rest) l e in
    subst IsSpelled m.2 (named_in rest m.0 k m.1)
graph_at false ps rest l h k e = function_spelled false ps l h e

graph_spelled : (ps : List Part) (l : Line) → Sound ps → graph_line ps ≡ Some l → IsSpelled l
graph_spelled ps l h e =
    let a = bound (number_first 0 ps) _ l e in
    let x = number_in 0 ps a.0 h a.1 in
    graph_at (eqb a.0.0 0) ps a.0.1 l h x.rest a.2

-- by the letter
chosen : (P : Type 0) (b : Bool) (x y : Option Line) (l : Line) → (x ≡ Some l → P) → (y ≡ Some l → P) → cond b x y ≡ Some l → P
chosen P true x y l f g e = f e
chosen P false x y l f g e = g e

by_spelled : (c : ℕ) (ps : List Part) (l : Line) → Sound ps → line_by c ps ≡ Some l → IsSpelled l
by_spelled c ps l h =
    chosen (IsSpelled l) (eqb c 84) _ _ l (entry_spelled ps l h)
    (chosen (IsSpelled l) (eqb c 78) _ _ l (node_spelled ps l h)
    (chosen (IsSpelled l) (eqb c 69) _ _ l (edge_spelled ps l h)
    (chosen (IsSpelled l) (eqb c 76) _ _ l (literal_spelled ps l h)
    (chosen (IsSpelled l) (eqb c 88) _ _ l (function_spelled true ps l h)
    (chosen (IsSpelled l) (eqb c 71) _ _ l (graph_spelled ps l h)
    (chosen (IsSpelled l) (eqb c 73) _ _ l (import_spelled ps l h)
    (chosen (IsSpelled l) (eqb c 125) _ None l (close_spelled ps l h) (λ e. absurd cc))))))))

letter_in : (ps : List Part) (r : ℕ × List Part) → Sound ps → letter_first ps ≡ Some r → Sound r.1
letter_in [] r h e = absurd cc
letter_in (p ∷ ps) r h e =
    let a = if_some (eqb (length (word_of p)) 1) (Some (slice_index (word_of p) 0, ps)) r e in
    subst (λ (r : ℕ × List Part). Sound r.1) (some_is (slice_index (word_of p) 0, ps) r a.1) h.1

letters_spelled : (ps : List Part) (l : Line) → Sound ps → (letter_first ps >>= λ letter. line_by letter.0 letter.1) ≡ Some l → IsSpelled l
letters_spelled ps l h e =
    let a = bound (letter_first ps) (λ letter. line_by letter.0 letter.1) l e in
    by_spelled a.0.0 a.0.1 l (letter_in ps a.0 h a.1) a.2

begun_spelled : (s : List ℕ) (l : Line) → list_all is_line_byte s ≡ true → line_begun s ≡ Some l → IsSpelled l
begun_spelled [] l h e = subst IsSpelled (some_is line.Blank l e) tt
begun_spelled (c ∷ s) l h e =
    let b = and_parts (is_line_byte c) (list_all is_line_byte s) h in
    chosen (IsSpelled l) (is_blank c) (line_begun s) _ l (begun_spelled s l b.1)
    (chosen (IsSpelled l) (eqb c 67) (Some line.Blank) _ l (λ f. subst IsSpelled (some_is line.Blank l f) tt)
    (chosen (IsSpelled l) (eqb c 123) (Some (line.Open s)) _ l (λ f. subst IsSpelled (some_is (line.Open s) l f) b.1)
    (letters_spelled (parts_of (c ∷ s)) l (parts_sound Between (c ∷ s) tt h)))) e

pub read_spelled : (s : List ℕ) (l : Line) → line_of s ≡ Some l → IsSpelled l
read_spelled s l e =
    let a = if_some (list_all is_line_byte s) (line_begun s) l e in
    begun_spelled s l a.0 a.1
