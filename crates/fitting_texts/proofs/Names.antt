-- The names of a text: each is spelled in its own way, by characters that stand in a text of lines.
use Rattle.std.proofs.Common.{◌≡◌, ℕ, zero, suc, Bool, true, false, ◌&&◌, ◌||◌, List, [], ◌∷◌, ◌++◌, All, Some, slice_get, bytes_eq, length, refl, sym, ap, subst, ◌∙◌, arith, if◌then◌else◌, Ok, Err, nat_lt, ◌⊎◌, inl, inr, IsTrue}
use Rattle.std.proofs.lemmas.Bool.Decides.{nat_tests}
use Rattle.std.proofs.lemmas.Slice.Eq.{bytes_eq-Decides}
use Rattle.std.proofs.lemmas.List.Elements.{All-nil, All-cons, All-head, All-tail, All-push}
use Rattle.std.specs.Prelude.{fold, Result}
use Rattle.std.specs.List.{list_any, list_all}
use Rattle.std.specs.Char.{is_ascii_lowercase}
use Rattle.sisal_lex.specs.declared.head.Lexeme.{Lexeme}
use Rattle.sisal_lex.specs.declared.head.Lexeme.TheVariants as lexeme
use Rattle.sisal_lex.specs.declared.fault.LexFault.{LexFault}
use Rattle.sisal_lex.specs.declared.fault.LexFault.TheVariants as fault
use Rattle.sisal_lex.specs.declared.token.Tokens.{Tokens}
use Rattle.sisal_lex.specs.Names.{Lexed, used, used_by, with_names}
use Rattle.sisal_lex.specs.Sound.{is_folded, is_in_folded, AreFolded}
use Rattle.sisal_lex.specs.Tokens.{tokens_of, named, lexed}
use Rattle.fitting_units.specs.Leaves.{AreNamesOnce}
use Rattle.if1_graph.specs.Spelling.{is_visible, is_quotable, IsName, IsQuotable}
use Rattle.bound_trees.proofs.Told.{SoundLexeme, AreSoundLexemes, lexed_sound}

true_false : true ≡ false → ⊥
true_false e = cc

nowhere : (i : ℕ) (s : List ℕ) → slice_get [] i ≡ Some s → ⊥
nowhere zero s e = cc
nowhere (suc i) s e = cc

itself : (s : List ℕ) → bytes_eq s s ≡ true
itself s = (bytes_eq-Decides s s).1 refl

-- a place of a list with one more at its end
place : (names : List (List ℕ)) (name : List ℕ) (i : ℕ) (s : List ℕ) → slice_get (names ++ name ∷ []) i ≡ Some s → (slice_get names i ≡ Some s) ⊎ ((i ≡ length names) × (s ≡ name))
place [] name zero s h = inr (refl, cc)
place [] name (suc i) s h = absurd (nowhere i s h)
place (n ∷ ns) name zero s h = inl h
place (n ∷ ns) name (suc i) s h = elim (place ns name i s h) [ inl a ↦ inl a | inr b ↦ inr (ap suc b.0, b.1) ]

-- a name that is not among these stands at no place
absent : (name : List ℕ) (names : List (List ℕ)) (i : ℕ) → list_any (bytes_eq name) names ≡ false → slice_get names i ≡ Some name → ⊥
absent name [] i e h = cc
absent name (n ∷ ns) i e h = by (bytes_eq name n) refl e (λ j. absent name ns j) i h
  where
    by : (b : Bool) → bytes_eq name n ≡ b → b || list_any (bytes_eq name) ns ≡ false → ((j : ℕ) → list_any (bytes_eq name) ns ≡ false → slice_get ns j ≡ Some name → ⊥) → (i : ℕ) → slice_get (n ∷ ns) i ≡ Some name → ⊥
    by true q e rest i h = cc
    by false q e rest zero h = let same : n ≡ name = cc in true_false (sym (subst (λ m. bytes_eq name m ≡ true) (sym same) (itself name)) ∙ q)
    by false q e rest (suc i) h = rest i e h

one_more : (names : List (List ℕ)) (name : List ℕ) → AreNamesOnce names → list_any (bytes_eq name) names ≡ false → AreNamesOnce (names ++ name ∷ [])
one_more names name once e i j s h g = elim (place names name i s h) [
  | inl a ↦ elim (place names name j s g) [
    | inl b ↦ once i j s a b
    | inr b ↦ absurd (absent name names i e (subst (λ x. slice_get names i ≡ Some x) b.1 a))
  ]
  | inr a ↦ elim (place names name j s g) [
    | inl b ↦ absurd (absent name names j e (subst (λ x. slice_get names j ≡ Some x) a.1 b))
    | inr b ↦ a.0 ∙ sym b.0
  ]
]

record AreRight (names : List (List ℕ)) : Type 0 where
  once : AreNamesOnce names
  folded : AreFolded names

used_right : (names : List (List ℕ)) (name : List ℕ) → AreRight names → IsTrue (is_folded name) → AreRight (used names name)
used_right names name h f = by (list_any (bytes_eq name) names) refl
  where
    by : (b : Bool) → list_any (bytes_eq name) names ≡ b → AreRight (if b then names else names ++ name ∷ [])
    by true e = h
    by false e = record { once = one_more names name h.once e; folded = All-push (λ (n : List ℕ). IsTrue (is_folded n)) names name h.folded f }

all_right : (ls : List Lexed) (names : List (List ℕ)) → AreSoundLexemes ls → AreRight names → AreRight (fold (λ ns l. used_by ns l.lexeme) names ls)
all_right [] names s h = h
all_right (l ∷ ls) names s h = all_right ls (used_by names l.lexeme) s.1 (by l.lexeme s.0)
  where
    by : (x : Lexeme) → SoundLexeme x → AreRight (used_by names x)
    by (lexeme.Named name) f = used_right names name h f
    by (lexeme.Plain k) f = h

named_right : (r : Result (List Lexed) LexFault) (t : Tokens) → ((ls : List Lexed) → r ≡ Ok ls → AreSoundLexemes ls) → named r ≡ Ok t → AreRight t.names
named_right (Ok ls) t s e =
    let q : with_names ls ≡ t = cc in
    subst (λ (u : Tokens). AreRight u.names) q (all_right ls [] (s ls refl) (record { once = λ i j s h g. absurd (nowhere i s h); folded = All-nil (λ (n : List ℕ). IsTrue (is_folded n)) }))
named_right (Err f) t s e = cc

tokens_right : (text : List ℕ) (t : Tokens) → tokens_of text ≡ Ok t → AreRight t.names
tokens_right text t e = by (nat_lt 4194304 (length text)) e
  where
    by : (b : Bool) → (if b then Err fault.TooLong else named (lexed text 1 0)) ≡ Ok t → AreRight t.names
    by true e = cc
    by false e = named_right (lexed text 1 0) t (λ ls h. (lexed_sound text 1 0 ls h).sound) e

pub names_once : (text : List ℕ) (t : Tokens) → tokens_of text ≡ Ok t → AreNamesOnce t.names
names_once text t e = (tokens_right text t e).once

-- ---- characters

small : (b : ℕ) → is_ascii_lowercase b ≡ true → is_in_folded b ≡ true
small b h = grind (arith, nat_tests)

seen : (b : ℕ) → is_in_folded b ≡ true → is_visible b ≡ true
seen b h = grind (arith, nat_tests)

quoted : (b : ℕ) → is_in_folded b ≡ true → is_quotable b ≡ true
quoted b h = grind (arith, nat_tests)

all_so : (p q : ℕ → Bool) → ((b : ℕ) → p b ≡ true → q b ≡ true) → (s : List ℕ) → list_all p s ≡ true → list_all q s ≡ true
all_so p q f [] h = refl
all_so p q f (b ∷ s) h = by (p b) refl (all_so p q f s) h
  where
    by : (t : Bool) → p b ≡ t → (list_all p s ≡ true → list_all q s ≡ true) → t && list_all p s ≡ true → q b && list_all q s ≡ true
    by true e rest h = ap (λ t. t && list_all q s) (f b e) ∙ rest h
    by false e rest h = cc

folded_name : (s : List ℕ) → is_folded s ≡ true → list_all is_in_folded s ≡ true
folded_name [] h = refl
folded_name (b ∷ s) h = by (is_ascii_lowercase b) refl h
  where
    by : (t : Bool) → is_ascii_lowercase b ≡ t → t && list_all is_in_folded s ≡ true → is_in_folded b && list_all is_in_folded s ≡ true
    by true e h = ap (λ t. t && list_all is_in_folded s) (small b e) ∙ h
    by false e h = cc

each_so : (p : ℕ → Bool) → ((b : ℕ) → is_in_folded b ≡ true → p b ≡ true) → (names : List (List ℕ)) → AreFolded names → All (λ (n : List ℕ). IsTrue (list_all p n)) names
each_so p f [] h = All-nil (λ (n : List ℕ). IsTrue (list_all p n))
each_so p f (n ∷ ns) h =
    All-cons (λ (n : List ℕ). IsTrue (list_all p n)) n ns (all_so is_in_folded p f n (folded_name n (All-head (λ (n : List ℕ). IsTrue (is_folded n)) n ns h)))
    (each_so p f ns (All-tail (λ (n : List ℕ). IsTrue (is_folded n)) n ns h))

pub names_visible : (text : List ℕ) (t : Tokens) → tokens_of text ≡ Ok t → All IsName t.names
names_visible text t e = each_so is_visible seen t.names (tokens_right text t e).folded

pub names_quotable : (text : List ℕ) (t : Tokens) → tokens_of text ≡ Ok t → All IsQuotable t.names
names_quotable text t e = each_so is_quotable quoted t.names (tokens_right text t e).folded
