-- Rows of tokens of a text: each keeps to what a token of a text does, and there are no more than a text has bytes.
use Rattle.std.proofs.Common.{ℕ, suc, ◌≤◌, List, [], ◌∷◌, ◌++◌, length, arith}
use Rattle.std.proofs.lemmas.List.{length-append}
use Rattle.sisal_tree.specs.declared.expr.FieldValue.{FieldValue}
use Rattle.sisal_grammar.specs.declared.value.Placed.{Placed}
use Rattle.sisal_grammar.specs.Phrases.{many, semi_fv}
use Rattle.sisal_grammar.specs.Spells as grammar
use Rattle.sisal_grammar.specs.Spells.{Spells}
use Rattle.bound_trees.specs.Tokens.{IsOfText}

abbrev pub AreTold : ℕ → List Placed → Type 0
AreTold names [] = Unit {0}
AreTold names (t ∷ ts) = (IsOfText names t.kind × (length (t ∷ ts) ≤ 4194304)) × AreTold names ts

pub left : (names : ℕ) (xs ys : List Placed) → AreTold names (xs ++ ys) → AreTold names xs
left names [] ys p = tt
left names (x ∷ xs) ys p =
    let few = p.0.1 in let all = length-append xs ys in
    ((p.0.0, omega (arith, few, all)), left names xs ys p.1)

pub right : (names : ℕ) (xs ys : List Placed) → AreTold names (xs ++ ys) → AreTold names ys
right names [] ys p = p
right names (x ∷ xs) ys p = right names xs ys p.1

-- ---- the fields of a record, each of which has a token

a_field : (ts : List Placed) (f : FieldValue) → Spells semi_fv ts f → 1 ≤ length ts
a_field _ _ (grammar.semi_fv_is {t = t} {ts = ts} i p) = omega arith

pub fields_counted : (ts : List Placed) (l : List FieldValue) → Spells (many semi_fv) ts l → length l ≤ length ts
fields_counted _ _ grammar.nothing = omega arith
fields_counted _ _ (grammar.more {ts = ts} {us = us} {a = a} {l = l} p q) =
    let one = a_field ts a p in let rest = fields_counted us l q in let all = length-append ts us in omega (arith, one, rest, all)

pub fields_few : (names : ℕ) (u : Placed) (us vs ws : List Placed) (l : List FieldValue) → AreTold names (u ∷ (us ++ (vs ++ ws))) → length l ≤ length vs → suc (length l) ≤ 4194304
fields_few names u us vs ws l p h =
    let few = p.0.1 in let all = length-append us (vs ++ ws) in let some = length-append vs ws in omega (arith, few, all, some, h)
