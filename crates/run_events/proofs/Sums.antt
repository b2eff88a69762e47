-- Sums over the nodes of live graphs, where one node changes, or a graph comes or goes.
use Rattle.std.proofs.Common.{◌≡◌, ℕ, zero, suc, ◌+◌, ◌<◌, List, [], ◌∷◌, Option, Some, None, inl, inr, refl, sym, ap, ◌∙◌, subst, arith}
use native.Mathlib.Decide.{ℕ_discrete}
use Rattle.graph_meaning.specs.Entered.{IsIn}
use Rattle.run_states.specs.Standing.{State, Live, Table, with_state, put}
use Rattle.run_states.specs.Leasing.{StandsOnce}
use Rattle.run_states.proofs.Leasing.{no-sum, same-sum, moved-here, moved-later, moved-before}
use Rattle.run_states.proofs.Lookups.{put-same, put-other}
use Rattle.run_events.specs.Sums.{PerNode, nodes_sum, graph_sum, table_sum, IsSumMoved, AreAllSumsKept}

pub nodes-same : (φ ψ : ℕ → ℕ) (ls : List ℕ) → ((m : ℕ) → IsIn m ls → ψ m ≡ φ m) → nodes_sum ψ ls ≡ nodes_sum φ ls
nodes-same φ ψ [] h = refl
nodes-same φ ψ (l ∷ ls) h = same-sum (ψ l) (φ l) (nodes_sum ψ ls) (nodes_sum φ ls) (h l (inl refl)) (nodes-same φ ψ ls (λ m i. h m (inr i)))

pub nodes-none : (φ : ℕ → ℕ) (ls : List ℕ) → ((m : ℕ) → IsIn m ls → φ m ≡ 0) → nodes_sum φ ls ≡ 0
nodes-none φ [] h = refl
nodes-none φ (l ∷ ls) h = no-sum (φ l) (nodes_sum φ ls) (h l (inl refl)) (nodes-none φ ls (λ m i. h m (inr i)))

-- what is counted of one label changes
nodes-moved : (φ ψ : ℕ → ℕ) (l : ℕ) (ls : List ℕ) → StandsOnce l ls → ((m : ℕ) → ¬ (m ≡ l) → ψ m ≡ φ m) → nodes_sum ψ ls + φ l ≡ nodes_sum φ ls + ψ l
nodes-moved φ ψ l [] once h = absurd once
nodes-moved φ ψ l (m ∷ ms) (inl once) h =
    moved-here (ψ m) (φ m) (nodes_sum ψ ms) (nodes_sum φ ms) (ψ l) (φ l) (ap ψ (sym once.0)) (ap φ (sym once.0)) (nodes-same φ ψ ms (λ n i. h n (λ e. once.1 (subst (λ z. IsIn z ms) e i))))
nodes-moved φ ψ l (m ∷ ms) (inr once) h =
    moved-later (ψ m) (φ m) (nodes_sum ψ ms) (nodes_sum φ ms) (ψ l) (φ l) (h m (λ e. once.0 (sym e))) (nodes-moved φ ψ l ms once.1 h)

-- ---- tables

places-same : (φ ψ : PerNode) (table other : Table) (n : ℕ) → ((h : ℕ) → h < n → graph_sum (ψ h) (other h) ≡ graph_sum (φ h) (table h)) → table_sum ψ other n ≡ table_sum φ table n
places-same φ ψ table other zero s = refl
places-same φ ψ table other (suc n) s =
    same-sum (table_sum ψ other n) (table_sum φ table n) (graph_sum (ψ n) (other n)) (graph_sum (φ n) (table n)) (places-same φ ψ table other n (λ h lt. s h (omega (arith, lt)))) (s n (omega arith))

graph-same : (φ ψ : Live → ℕ → ℕ) (o : Option Live) → ((y : Live) (m : ℕ) → o ≡ Some y → IsIn m y.labels → ψ y m ≡ φ y m) → graph_sum ψ o ≡ graph_sum φ o
graph-same φ ψ None h = refl
graph-same φ ψ (Some y) h = nodes-same (φ y) (ψ y) y.labels (λ m i. h y m refl i)

module _ (φ ψ : PerNode) (table : Table) (f l : ℕ) (x : Live) (s : State) (at : table f ≡ Some x) (once : StandsOnce l x.labels) (others : (h : ℕ) (y : Live) (m : ℕ) → ¬ (h ≡ f) → ψ h y m ≡ φ h y m)
    (labels : (m : ℕ) → ¬ (m ≡ l) → ψ f (with_state x l s) m ≡ φ f x m)
  where
    abbrev now : Table
    now = put table f (Some (with_state x l s))

    other-place : (h : ℕ) → ¬ (h ≡ f) → graph_sum (ψ h) (now h) ≡ graph_sum (φ h) (table h)
    other-place h ne = ap (graph_sum (ψ h)) (put-other table f (Some (with_state x l s)) h ne) ∙ graph-same (φ h) (ψ h) (table h) (λ y m e i. others h y m ne)

    this-place : graph_sum (ψ f) (now f) + φ f x l ≡ graph_sum (φ f) (table f) + ψ f (with_state x l s) l
    this-place =
        ap (λ o. graph_sum (ψ f) o + φ f x l) (put-same table f (Some (with_state x l s)))
        ∙ (nodes-moved (φ f x) (ψ f (with_state x l s)) l x.labels once labels
        ∙ ap (λ o. graph_sum (φ f) o + ψ f (with_state x l s) l) (sym at))

    moved-to : (n : ℕ) → f < n → table_sum ψ now n + φ f x l ≡ table_sum φ table n + ψ f (with_state x l s) l
    moved-to zero lt = absurd (omega (arith, lt))
    moved-to (suc n) lt = go (ℕ_discrete n f) (moved-to n)
      where
        below : (f n : ℕ) → f < suc n → ¬ (f ≡ n) → f < n
        below f n lt ne = omega (arith, lt, ne)

        go : Dec (n ≡ f) → (f < n → table_sum ψ now n + φ f x l ≡ table_sum φ table n + ψ f (with_state x l s) l) → table_sum ψ now (suc n) + φ f x l ≡ table_sum φ table (suc n) + ψ f (with_state x l s) l
        go (yes e) rec =
            moved-later (table_sum ψ now n) (table_sum φ table n) (graph_sum (ψ n) (now n)) (graph_sum (φ n) (table n)) (ψ f (with_state x l s) l) (φ f x l)
            (places-same φ ψ table now n (λ h below. other-place h (λ q. omega (arith, below, q, e))))
            (subst (λ z. graph_sum (ψ z) (now z) + φ f x l ≡ graph_sum (φ z) (table z) + ψ f (with_state x l s) l) (sym e) this-place)
        go (no ne) rec =
            moved-before (table_sum ψ now n) (table_sum φ table n) (graph_sum (ψ n) (now n)) (graph_sum (φ n) (table n)) (ψ f (with_state x l s) l) (φ f x l) (rec (below f n lt (λ q. ne (sym q)))) (other-place n ne)

pub sum-moved : IsSumMoved
sum-moved φ ψ table f l n x s at once lt others labels = moved-to φ ψ table f l x s at once others labels n lt

pub sums-kept : AreAllSumsKept
sums-kept φ ψ table =
    record {
      counted = λ same n. places-same φ ψ table table n (λ h lt. graph-same (φ h) (ψ h) (table h) (λ y m e i. same h y m e i));
      added = λ g y vacant none n. places-same φ φ table (put table g (Some y)) n (λ h lt. added g y vacant none h (ℕ_discrete h g));
      left = λ g y at none n. places-same φ φ table (put table g None) n (λ h lt. left g y at none h (ℕ_discrete h g));
    }
  where
    added : (g : ℕ) (y : Live) → table g ≡ None → ((m : ℕ) → IsIn m y.labels → φ g y m ≡ 0) → (h : ℕ) → Dec (h ≡ g) → graph_sum (φ h) (put table g (Some y) h) ≡ graph_sum (φ h) (table h)
    added g y vacant none h (yes e) =
        subst (λ z. graph_sum (φ z) (put table g (Some y) z) ≡ graph_sum (φ z) (table z)) (sym e)
        (ap (graph_sum (φ g)) (put-same table g (Some y)) ∙ (nodes-none (φ g y) y.labels none ∙ sym (ap (graph_sum (φ g)) vacant)))
    added g y vacant none h (no ne) = ap (graph_sum (φ h)) (put-other table g (Some y) h ne)

    left : (g : ℕ) (y : Live) → table g ≡ Some y → ((m : ℕ) → IsIn m y.labels → φ g y m ≡ 0) → (h : ℕ) → Dec (h ≡ g) → graph_sum (φ h) (put table g None h) ≡ graph_sum (φ h) (table h)
    left g y at none h (yes e) =
        subst (λ z. graph_sum (φ z) (put table g None z) ≡ graph_sum (φ z) (table z)) (sym e)
        (ap (graph_sum (φ g)) (put-same table g None) ∙ sym (ap (graph_sum (φ g)) at ∙ nodes-none (φ g y) y.labels none))
    left g y at none h (no ne) = ap (graph_sum (φ h)) (put-other table g None h ne)
