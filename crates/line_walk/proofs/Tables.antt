-- Tables by place, and what is carried to the ports of changed fields.
use Rattle.std.proofs.Common.{◌≡◌, ◌≢◌, ◌<◌, ◌≤◌, ◌⊎◌, inl, inr, ℕ, zero, suc, ◌+◌, ◌-◌, Bool, true, false, nat_eq, min, List, [], ◌∷◌, ◌++◌, length, get_or, set, drop, replicate, Option, Some, None, refl, sym, ap, ap₂, ◌∙◌, arith, if◌then◌else◌}
use Rattle.std.proofs.lemmas.List.{drop_more, drop_all}
use Rattle.std.proofs.lemmas.Bool.{eq-eqb, ne_eqb}
use mathlib.Core.Logic.{dite}
use native.Mathlib.Decide.{dec_le}
use Rattle.typed_tree.specs.declared.expr.Choice.{Choice}
use Rattle.lowering.specs.declared.feed.Carried.{Carried}
use Rattle.lowering.specs.Choices.{tag_named}
use Rattle.lower_nodes.specs.Rows.{tags_named}
use Rattle.line_types.specs.Traces.{at_place, changed}
use Rattle.line_walk.specs.Met.{port_of, ports, carried_ports}

table : {X : Type 0} → (ℕ → X) → ℕ → ℕ → List X
table f p zero = []
table f p (suc n) = f p ∷ table f (suc p) n

table_same : {X : Type 0} (f g : ℕ → X) (p n : ℕ) → ((q : ℕ) → p ≤ q → g q ≡ f q) → table g p n ≡ table f p n
unfolding table
table_same f g p zero h = refl
table_same f g p (suc n) h = ap₂ (λ x xs. x ∷ xs) (h p (omega arith)) (table_same f g (suc p) n (λ q le. h q (omega (arith, le))))

-- one more place is known
table_set : {X : Type 0} (f g : ℕ → X) (x : ℕ) (w : X) → g x ≡ w → ((q : ℕ) → q ≢ x → g q ≡ f q) → (p n : ℕ) → p ≤ x → table g p n ≡ set (table f p n) (x - p) w
unfolding table
table_set f g x w at other p zero le = refl
table_set f g x w at other p (suc n) le = dite (dec_le x p) here (later (table_set f g x w at other (suc p) n))
  where
    here : x ≤ p → g p ∷ table g (suc p) n ≡ set (f p ∷ table f (suc p) n) (x - p) w
    here ge =
        let same : p ≡ x = omega (arith, le, ge) in
        let none : 0 ≡ x - p = omega (arith, le, ge) in
        ap₂ (λ y ys. y ∷ ys) (ap g same ∙ at) (table_same f g (suc p) n (λ q lq. other q (omega (arith, lq, ge))))
        ∙ ap (λ k. set (f p ∷ table f (suc p) n) k w) none

    later : (suc p ≤ x → table g (suc p) n ≡ set (table f (suc p) n) (x - suc p) w) → (x ≤ p → ⊥) → g p ∷ table g (suc p) n ≡ set (f p ∷ table f (suc p) n) (x - p) w
    later rest gt =
        let up : suc p ≤ x = omega (arith, le, gt) in
        let down : suc (x - suc p) ≡ x - p = omega (arith, up) in
        ap₂ (λ y ys. y ∷ ys) (other p (omega (arith, up))) (rest up) ∙ ap (λ k. set (f p ∷ table f (suc p) n) k w) down

table_put : {X : Type 0} (f g : ℕ → X) (x : ℕ) (w : X) → g x ≡ w → ((q : ℕ) → q ≢ x → g q ≡ f q) → (n : ℕ) → table g 0 n ≡ set (table f 0 n) x w
table_put f g x w at other n =
    let e : x - 0 ≡ x = omega arith in
    table_set f g x w at other 0 n (omega arith) ∙ ap (λ k. set (table f 0 n) k w) e

table_const : {X : Type 0} (a : X) (p n : ℕ) → table (λ q. a) p n ≡ replicate n a
unfolding table
table_const a p zero = refl
table_const a p (suc n) = ap (λ xs. a ∷ xs) (table_const a (suc p) n)

ports_is : (p n : ℕ) (xs : List ℕ) (cs : List Carried) → ports p n xs cs ≡ table (λ q. port_of q xs cs) p n
unfolding table
ports_is p zero xs cs = refl
ports_is p (suc n) xs cs = ap (λ k. port_of p xs cs ∷ k) (ports_is (suc p) n xs cs)

port_none : (q : ℕ) (xs : List ℕ) (cs : List Carried) → (xs ≡ []) ⊎ (cs ≡ []) → port_of q xs cs ≡ None
port_none q [] cs h = refl
port_none q (x ∷ xs) [] h = refl
port_none q (x ∷ xs) (c ∷ cs) (inl e) = absurd cc
port_none q (x ∷ xs) (c ∷ cs) (inr e) = absurd cc

pub no_port : (n left : ℕ) (xs : List ℕ) (cs : List Carried) → left ≡ min (length xs) (length cs) → replicate n None ≡ ports 0 n (drop left xs) (drop left cs)
no_port n left xs cs e =
    sym (ports_is 0 n (drop left xs) (drop left cs) ∙ table_same (λ q. None) (λ q. port_of q (drop left xs) (drop left cs)) 0 n (λ q le. port_none q (drop left xs) (drop left cs) ends) ∙ table_const None 0 n)
  where
    ends : (drop left xs ≡ []) ⊎ (drop left cs ≡ [])
    ends = dite (dec_le (length xs) left) (λ le. inl (drop_all left xs le)) (λ gt. inr (drop_all left cs (omega (arith, e, gt))))

at_this : (x : ℕ) (xs : List ℕ) (c : Carried) (cs : List Carried) → port_of x (x ∷ xs) (c ∷ cs) ≡ Some c
at_this x xs c cs = ap (λ (b : Bool). if b then Some c else port_of x xs cs) (eq-eqb x x refl)

at_other : (x : ℕ) (xs : List ℕ) (c : Carried) (cs : List Carried) (q : ℕ) → q ≢ x → port_of q (x ∷ xs) (c ∷ cs) ≡ port_of q xs cs
at_other x xs c cs q ne = ap (λ (b : Bool). if b then Some c else port_of q xs cs) (ne_eqb x q (λ e. ne (sym e)))

pub one_port : (n : ℕ) (xs : List ℕ) (cs : List Carried) (left : ℕ) (c d : Carried) → left < length xs → left < length cs → c ≡ get_or cs left d
    → set (ports 0 n (drop (left + 1) xs) (drop (left + 1) cs)) (get_or xs left 0) (Some c) ≡ ports 0 n (drop left xs) (drop left cs)
one_port n xs cs left c d lx lc is =
    let x = get_or xs left 0 in
    let us = drop (left + 1) xs in
    let vs = drop (left + 1) cs in
    sym
    (ap₂ (ports 0 n) (drop_more xs left 0 lx) (drop_more cs left d lc ∙ ap (λ k. k ∷ vs) (sym is))
    ∙ ports_is 0 n (x ∷ us) (c ∷ vs)
    ∙ table_put (λ q. port_of q us vs) (λ q. port_of q (x ∷ us) (c ∷ vs)) x (Some c) (at_this x us c vs) (at_other x us c vs) n
    ∙ ap (λ k. set k x (Some c)) (sym (ports_is 0 n us vs)))

-- ---- what is carried to the ports, in order

one_place : (p : ℕ) (xs : List ℕ) (cs : List Carried) (os : List (Option Carried)) → carried_ports (port_of p xs cs ∷ os) ≡ at_place p xs cs ++ carried_ports os
one_place p [] cs os = refl
one_place p (x ∷ xs) [] os = refl
one_place p (x ∷ xs) (c ∷ cs) os = by (nat_eq x p) (one_place p xs cs os)
  where
    by : (b : Bool) → carried_ports (port_of p xs cs ∷ os) ≡ at_place p xs cs ++ carried_ports os
        → carried_ports ((if b then Some c else port_of p xs cs) ∷ os) ≡ (if b then c ∷ [] else at_place p xs cs) ++ carried_ports os
    by true h = refl
    by false h = h

pub ports_changed : (p n : ℕ) (xs : List ℕ) (cs : List Carried) → carried_ports (ports p n xs cs) ≡ changed p n xs cs
ports_changed p zero xs cs = refl
ports_changed p (suc n) xs cs = one_place p xs cs (ports (suc p) n xs cs) ∙ ap (λ l. at_place p xs cs ++ l) (ports_changed (suc p) n xs cs)

-- ---- the first tags of arms

tags_from : (p n i : ℕ) (cs : List Choice) → i < n → get_or (tags_named p n cs) i 0 ≡ tag_named (p + i) cs
tags_from p zero i cs lt = absurd (omega (arith, lt))
tags_from p (suc n) zero cs lt = let e : p ≡ p + 0 = omega arith in ap (λ k. tag_named k cs) e
tags_from p (suc n) (suc i) cs lt =
    let e : suc p + i ≡ p + suc i = omega arith in
    tags_from (suc p) n i cs (omega (arith, lt)) ∙ ap (λ k. tag_named k cs) e

pub tag_of_arm : (n i : ℕ) (cs : List Choice) → i < n → get_or (tags_named 0 n cs) i 0 ≡ tag_named i cs
tag_of_arm n i cs lt = let e : 0 + i ≡ i = omega arith in tags_from 0 n i cs lt ∙ ap (λ k. tag_named k cs) e

-- a list of nothing
pub nothing_more : (n : ℕ) → replicate n None ++ None ∷ [] ≡ replicate {A = Option Carried} (n + 1) None
nothing_more zero = refl
nothing_more (suc m) = let step : suc m + 1 ≡ suc (m + 1) = omega arith in ap (λ l. None ∷ l) (nothing_more m) ∙ ap (λ k. replicate k None) (sym step)

pub blank_length : (n : ℕ) → length (replicate {A = Option Carried} n None) ≡ n
blank_length zero = refl
blank_length (suc n) = ap suc (blank_length n)
