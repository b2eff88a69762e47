-- The claimed items of a tree, against those that count a firing.
use Rattle.std.proofs.Common.{◌≡◌, ℕ, suc, ◌+◌, ◌≤◌, Bool, true, false, List, [], ◌∷◌, length, Option, inl, inr, refl, sym, ap, ◌∙◌, arith}
use Rattle.graph_meaning.specs.Entered.{Entered, NoNode, SimpleNode, WholeNode, Steps, Left, Unshown, GraphStep, SliceStep, Item, Node, Entry, Slice, Leave, Inside, IsSlice, StepsHave, OfStep, OfSlices, After, AfterSteps, total, total_steps, total_slices}
use Rattle.graph_meaning.proofs.ItemSums.{Number, total-zero, parts-zero}
use Rattle.graph_meaning.proofs.ItemsOnce.{pick}
use Rattle.run_states.specs.Standing.{Test}
use Rattle.run_tables.proofs.Trees.{HasFew, StepsFew}

-- so much for each item that counts a firing at its claim
abbrev pub pays : ℕ → Item → ℕ
pays each (Node l) = each
pays each (Entry true l k) = each
pays each (Entry false l k) = 0
pays each (Slice l k r) = 0
pays each (Leave l) = 0
pays each (Inside l k i) = pays each i

abbrev pub claimed : Test → Number
claimed c i w = pick (c i) 1

abbrev pub paid : ℕ → Test → Number
paid each c i w = pick (c i) (pays each i)

-- what the first items of a step come after: a step with a graph, or slices
data Place : Type 0 where
  a_graph : Item → ℕ → ℕ → Entered → Place
  some_slices : ℕ → ℕ → List (Option ℕ) → Place

abbrev Stood : Place → Item → Type 0
Stood (a_graph entry l k inner) j = OfStep entry l k inner j
Stood (some_slices l k cs) j = OfSlices l k cs j

at-most-one : (b : Bool) → pick b 1 ≤ 1
at-most-one true = omega arith
at-most-one false = omega arith

back : (a b : Bool) → (a ≡ true → b ≡ true) → b ≡ false → a ≡ false
back false b h e = refl
back true b h e = absurd (clash (sym (h refl) ∙ e))
  where
    clash : true ≡ false → ⊥
    clash e = cc

none-picked : (b : Bool) → b ≡ false → pick b 1 ≡ 0
none-picked b e = ap (λ z. pick z 1) e

slices-most : (c : Test) (l k r : ℕ) (cs : List (Option ℕ)) → total_slices (claimed c) l k r cs ≤ length cs
slices-most c l k r [] = omega arith
slices-most c l k r (x ∷ cs) = omega (arith, at-most-one (c (Slice l k r)), slices-most c l k (suc r) cs)

slice-none : (c : Test) (l k r : ℕ) (cs : List (Option ℕ)) → ((q : ℕ) → c (Slice l k q) ≡ false) → (i : Item) (w : Option ℕ) → IsSlice l k r cs i w → c i ≡ false
slice-none c l k r [] none i w h = absurd h
slice-none c l k r (x ∷ cs) none i w (inl h) = ap c h.0 ∙ none r
slice-none c l k r (x ∷ cs) none i w (inr h) = slice-none c l k (suc r) cs none i w h

-- where something was not claimed, nothing was that comes after it in the later steps
steps-none : (slices b l k : ℕ) (c : Test) (p : Steps) (before : Item → Type 0) → StepsFew slices b p → ((i j : Item) → AfterSteps p l k before i j → c i ≡ true → c j ≡ true)
    → (j : Item) → before j → c j ≡ false → (i : Item) (w : Option ℕ) → StepsHave l k p i w → c i ≡ false
steps-none slices b l k c Left before few closed j bj not i w h = back (c i) (c j) (closed i j (h.0, bj)) not
steps-none slices b l k c Unshown before few closed j bj not i w h = absurd h
steps-none slices b l k c (GraphStep true inner next) before few closed j bj not i w (inl h) = back (c i) (c j) (closed i j (inl (h.0, bj))) not
steps-none slices b l k c (GraphStep true inner next) before few closed j bj not i w (inr (inl h)) =
    let entry = back (c (Entry true l k)) (c j) (closed (Entry true l k) j (inl (refl, bj))) not in
    back (c i) (c (Entry true l k)) (closed i (Entry true l k) (inr (inl (h.0, h.1, inl refl)))) entry
steps-none slices b l k c (GraphStep true inner next) before few closed j bj not i w (inr (inr h)) =
    let entry = back (c (Entry true l k)) (c j) (closed (Entry true l k) j (inl (refl, bj))) not in
    steps-none slices (slices + 2) l (suc k) c next (OfStep (Entry true l k) l k inner) few.1 (λ x y a. closed x y (inr (inr a))) (Entry true l k) (inl refl) entry i w h
steps-none slices b l k c (GraphStep false inner next) before few closed j bj not i w (inl h) = back (c i) (c j) (closed i j (inl (h.0, bj))) not
steps-none slices b l k c (GraphStep false inner next) before few closed j bj not i w (inr (inl h)) =
    let entry = back (c (Entry false l k)) (c j) (closed (Entry false l k) j (inl (refl, bj))) not in
    back (c i) (c (Entry false l k)) (closed i (Entry false l k) (inr (inl (h.0, h.1, inl refl)))) entry
steps-none slices b l k c (GraphStep false inner next) before few closed j bj not i w (inr (inr h)) =
    let entry = back (c (Entry false l k)) (c j) (closed (Entry false l k) j (inl (refl, bj))) not in
    steps-none slices few.0 l (suc k) c next (OfStep (Entry false l k) l k inner) few.3 (λ x y a. closed x y (inr (inr a))) (Entry false l k) (inl refl) entry i w h
steps-none slices b l k c (SliceStep cs next) before few closed j bj not i w (inl h) =
    slice-none c l k 0 cs (λ q. back (c (Slice l k q)) (c j) (closed (Slice l k q) j (inl (q, refl, bj))) not) i w h
steps-none slices b l k c (SliceStep [] next) before few closed j bj not i w (inr h) = absurd (let x = few.0 in omega (arith, x))
steps-none slices b l k c (SliceStep (x ∷ cs) next) before few closed j bj not i w (inr h) =
    let slice = back (c (Slice l k 0)) (c j) (closed (Slice l k 0) j (inl (0, refl, bj))) not in
    steps-none slices 2 l (suc k) c next (OfSlices l k (x ∷ cs)) few.2 (λ y z a. closed y z (inr a)) (Slice l k 0) (x, inl (refl, refl)) slice i w h

-- where an entry was not claimed, nothing was inside
inside-none : (c : Test) (l k : ℕ) (inner : Entered) (entry : Item) → ((i : Item) → c (Inside l k i) ≡ true → c entry ≡ true) → c entry ≡ false → total inner (claimed (λ i. c (Inside l k i))) ≡ 0
inside-none c l k inner entry closed e = total-zero inner (claimed (λ i. c (Inside l k i))) (λ i w h. none-picked (c (Inside l k i)) (back (c (Inside l k i)) (c entry) (closed i) e))

later-none : (slices b l k : ℕ) (c : Test) (p : Steps) (before : Item → Type 0) → StepsFew slices b p → ((i j : Item) → AfterSteps p l k before i j → c i ≡ true → c j ≡ true) → (j : Item) → before j → c j ≡ false → total_steps p l k (claimed c) ≡ 0
later-none slices b l k c p before few closed j bj e = parts-zero p l k (claimed c) (λ i w h. none-picked (c i) (steps-none slices b l k c p before few closed j bj e i w h))

simple-sum : (b : Bool) (n a p : ℕ) → a ≤ p → pick b 1 + a ≤ pick b (n + 3) + p
simple-sum true n a p le = omega (arith, le)
simple-sum false n a p le = omega (arith, le)

node-sum : (b : Bool) (n a d e p q r : ℕ) → a ≤ p → d ≤ (n + 2) + q → e ≤ r → (b ≡ false → a ≡ 0) → (b ≡ false → d ≡ 0) → pick b 1 + (a + (d + e)) ≤ pick b (n + 3) + (p + (q + r))
node-sum true n a d e p q r x y z u v = omega (arith, x, y, z)
node-sum false n a d e p q r x y z u v = let s = u refl in let t = v refl in omega (arith, s, t, z)

turn-sum : (x : Bool) (n b a d p q : ℕ) → a ≤ p → d ≤ (n + 2) + q → (x ≡ false → a ≡ 0) → (x ≡ false → d ≡ 0) → pick x 1 + (a + d) ≤ b + (pick x (n + 3) + (p + q))
turn-sum true n b a d p q x y u v = omega (arith, x, y)
turn-sum false n b a d p q x y u v = let s = u refl in let t = v refl in omega (arith, s, t)

module _ (slices : ℕ) where
  mutual
    -- of a graph no more items were claimed than are paid for
    pub graph-paid : (c : Test) (g f : Entered) → HasFew slices f → ((i j : Item) → After g f i j → c i ≡ true → c j ≡ true) → total f (claimed c) ≤ total f (paid (slices + 3) c)
    graph-paid c g NoNode few closed = omega arith
    graph-paid c g (SimpleNode l ws rest) few closed =
        simple-sum (c (Node l)) slices (total rest (claimed c)) (total rest (paid (slices + 3) c)) (graph-paid c g rest few (λ i j a. closed i j (inr a)))
    graph-paid c g (WholeNode l ws inner next rest) few closed =
        node-sum (c (Node l)) slices (total inner (claimed (λ i. c (Inside l 0 i)))) (total_steps next l 1 (claimed c)) (total rest (claimed c))
        (total inner (paid (slices + 3) (λ i. c (Inside l 0 i)))) (total_steps next l 1 (paid (slices + 3) c)) (total rest (paid (slices + 3) c))
        (graph-paid (λ i. c (Inside l 0 i)) inner inner few.0 (λ i j a. closed (Inside l 0 i) (Inside l 0 j) (inr (inl (i, refl, inr (j, refl, a))))))
        (steps-paid c next l 1 (slices + 2) (a_graph (Node l) l 0 inner) few.1 (λ i j a. closed i j (inr (inr (inl a)))))
        (graph-paid c g rest few.2 (λ i j a. closed i j (inr (inr (inr a)))))
        (inside-none c l 0 inner (Node l) (λ i. closed (Inside l 0 i) (Node l) (inr (inl (i, refl, inl refl)))))
        (later-none slices (slices + 2) l 1 c next (OfStep (Node l) l 0 inner) few.1 (λ x y a. closed x y (inr (inr (inl a)))) (Node l) (inl refl))

    steps-paid : (c : Test) (p : Steps) (l k b : ℕ) (before : Place) → StepsFew slices b p → ((i j : Item) → AfterSteps p l k (Stood before) i j → c i ≡ true → c j ≡ true)
        → total_steps p l k (claimed c) ≤ b + total_steps p l k (paid (slices + 3) c)
    steps-paid c Left l k b before few closed = let x = at-most-one (c (Leave l)) in omega (arith, x, few)
    steps-paid c Unshown l k b before few closed = omega arith
    steps-paid c (GraphStep true inner next) l k b before few closed =
        turn-sum (c (Entry true l k)) slices b (total inner (claimed (λ i. c (Inside l k i)))) (total_steps next l (suc k) (claimed c))
        (total inner (paid (slices + 3) (λ i. c (Inside l k i)))) (total_steps next l (suc k) (paid (slices + 3) c))
        (graph-paid (λ i. c (Inside l k i)) inner inner few.0 (λ i j a. closed (Inside l k i) (Inside l k j) (inr (inl (i, refl, inr (j, refl, a))))))
        (steps-paid c next l (suc k) (slices + 2) (a_graph (Entry true l k) l k inner) few.1 (λ i j a. closed i j (inr (inr a))))
        (inside-none c l k inner (Entry true l k) (λ i. closed (Inside l k i) (Entry true l k) (inr (inl (i, refl, inl refl)))))
        (later-none slices (slices + 2) l (suc k) c next (OfStep (Entry true l k) l k inner) few.1 (λ x y a. closed x y (inr (inr a))) (Entry true l k) (inl refl))
    steps-paid c (GraphStep false inner next) l k b before few closed =
        let first = graph-paid (λ i. c (Inside l k i)) inner inner few.2 (λ i j a. closed (Inside l k i) (Inside l k j) (inr (inl (i, refl, inr (j, refl, a))))) in
        let later = steps-paid c next l (suc k) few.0 (a_graph (Entry false l k) l k inner) few.3 (λ i j a. closed i j (inr (inr a))) in
        let one = at-most-one (c (Entry false l k)) in
        let le = few.1 in
        omega (arith, first, later, one, le)
    steps-paid c (SliceStep cs next) l k b before few closed =
        let own = slices-most c l k 0 cs in
        let later = steps-paid c next l (suc k) 2 (some_slices l k cs) few.2 (λ i j a. closed i j (inr a)) in
        let le = few.1 in
        omega (arith, own, later, le)
