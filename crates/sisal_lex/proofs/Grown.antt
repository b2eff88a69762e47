-- The texts in quotes, item by item.
use Rattle.std.proofs.Common.{◌≡◌, ℕ, zero, suc, ◌+◌, ◌-◌, ◌≤◌, ◌<◌, false, nat_eq, List, [], ◌∷◌, ◌++◌, drop, length, get_or, Option, Some, None, refl, sym, ◌∙◌, ap, arith, append_assoc, add_assoc, zero-add, add-zero, drop-cons, take, if◌then◌else◌}
use Rattle.std.proofs.Math.Seq.{take-length}
use Rattle.std.proofs.lemmas.List.{drop-drop, length-drop}
use Rattle.sisal_lex.specs.Quotes.{item, items, byte_more, item_more, then_items}
use Rattle.sisal_lex.specs.declared.quotes.Item.{Item}
use Rattle.sisal_lex.specs.declared.quotes.Codes.{Codes}

-- a text with more characters before it, of so many bytes
abbrev pub grown : List ℕ → ℕ → Option Codes → Option Codes
grown cs n None = None
grown cs n (Some t) = Some (record { codes = cs ++ t.codes; bytes = n + t.bytes })

pub grown-nothing : (o : Option Codes) → grown [] 0 o ≡ o
grown-nothing None = refl
grown-nothing (Some t) = rw zero-add

pub grown-grown : (cs ds : List ℕ) (m n : ℕ) (o : Option Codes) → grown cs m (grown ds n o) ≡ grown (cs ++ ds) (m + n) o
grown-grown cs ds m n None = refl
grown-grown cs ds m n (Some t) = simp (append_assoc, add_assoc)

byte_more-grown : (k : ℕ) (o : Option Codes) → byte_more (grown [] k o) ≡ grown [] (suc k) o
byte_more-grown k None = refl
byte_more-grown k (Some t) = let e : k + t.bytes + 1 ≡ suc k + t.bytes = omega arith in rw e

-- the bytes of an item that was taken before decide nothing
pub skip_items : (s : List ℕ) (k : ℕ) → items s k ≡ grown [] k (items (drop k s) 0)
skip_items [] zero = refl
skip_items [] (suc k) = refl
skip_items (b ∷ s) zero = sym (grown-nothing (items (b ∷ s) 0))
skip_items (b ∷ s) (suc k) = ap byte_more (skip_items s k) ∙ byte_more-grown k (items (drop k s) 0)

item_more-grown : (code k : ℕ) (o : Option Codes) → item_more code (grown [] k o) ≡ grown (code ∷ []) (k + 1) o
item_more-grown code k None = refl
item_more-grown code k (Some t) = let e : k + t.bytes + 1 ≡ k + 1 + t.bytes = omega arith in rw e

drop_more : (b : ℕ) (s : List ℕ) (n : ℕ) → 1 ≤ n → drop (n - 1) s ≡ drop n (b ∷ s)
drop_more b s zero h = absurd (omega arith)
drop_more b s (suc k) h = let e : suc k - 1 ≡ k = omega arith in ap (λ n. drop n s) e

-- an item at the head of a text, and what comes after it
pub first_item : (b : ℕ) (s : List ℕ) (one : Item) → nat_eq b 34 ≡ false → item 34 (b ∷ s) ≡ Some one → 1 ≤ one.bytes
    → items (b ∷ s) 0 ≡ grown (one.code ∷ []) one.bytes (items (drop one.bytes (b ∷ s)) 0)
first_item b s one other is some =
    let k = one.bytes - 1 in
    let back : one.bytes - 1 + 1 ≡ one.bytes = omega arith in
    ap (λ t. if t then Some (record { codes = []; bytes = 1 }) else then_items (item 34 (b ∷ s)) (items s)) other
    ∙ ap (λ o. then_items o (items s)) is
    ∙ ap (item_more one.code) (skip_items s k)
    ∙ item_more-grown one.code k (items (drop k s) 0)
    ∙ ap (λ n. grown (one.code ∷ []) n (items (drop k s) 0)) back
    ∙ ap (λ r. grown (one.code ∷ []) one.bytes (items r 0)) (drop_more b s one.bytes some)

-- what `&text[at..]` lends
pub rest_is : (at : ℕ) (text : List ℕ) → take (length text - at) (drop at text) ≡ drop at text
rest_is at text = ap (λ n. take n (drop at text)) (sym (length-drop at text)) ∙ take-length (drop at text)

-- the same after the items before it
pub next_item : (cs text : List ℕ) (at : ℕ) (one : Item) → at < length text → nat_eq (get_or text at 0) 34 ≡ false → item 34 (drop at text) ≡ Some one → 1 ≤ one.bytes
    → grown cs at (items (drop at text) 0) ≡ grown (cs ++ one.code ∷ []) (at + one.bytes) (items (drop (at + one.bytes) text) 0)
next_item cs text at one inside other is some =
    let e : drop at text ≡ get_or text at 0 ∷ drop (suc at) text = drop-cons text at 0 inside in
    let first = first_item (get_or text at 0) (drop (suc at) text) one other (sym (ap (item 34) e) ∙ is) some in
    ap (λ r. grown cs at (items r 0)) e
    ∙ ap (grown cs at) first
    ∙ ap (λ r. grown cs at (grown (one.code ∷ []) one.bytes (items (drop one.bytes r) 0))) (sym e)
    ∙ grown-grown cs (one.code ∷ []) at one.bytes (items (drop one.bytes (drop at text)) 0)
    ∙ ap (λ r. grown (cs ++ one.code ∷ []) (at + one.bytes) (items r 0)) (drop-drop one.bytes at text)
