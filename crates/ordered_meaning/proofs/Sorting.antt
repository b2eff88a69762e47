-- The nodes of a graph in which no node waits for itself have an order: by rising rank.
use Rattle.std.proofs.Common.{◌≡◌, ◌≢◌, ℕ, ◌<◌, ◌≤◌, leb, Bool, true, false, if◌then◌else◌, List, [], ◌∷◌, Some, inl, inr, ◌⊎◌, refl, sym, ap, subst, arith}
use Rattle.std.proofs.lemmas.Bool.{leb-true, leb-false}
use Rattle.graph_meaning.specs.Entered.{IsIn}
use Rattle.graph_meaning.specs.Demand.{Vertex, Net, EachNode, IsLabel, LabelsOnce, IsOrderly, at_label, waits}
use Rattle.graph_meaning.proofs.Finding.{all-found}
use Rattle.graph_meaning.proofs.Ranks.{net-ranked}
use Rattle.ordered_meaning.specs.Orders.{IsAlong, IsInOrder}
use Rattle.ordered_meaning.proofs.Shuffled.{Shuffled, same, swapped, under, joined, back, each-shuffled, label-shuffled, once-shuffled, each-mapped}

module _ (rank : ℕ → ℕ) where
  abbrev inserted : Vertex → List Vertex → List Vertex
  inserted v [] = v ∷ []
  inserted v (w ∷ ws) = if leb (rank v.label) (rank w.label) then v ∷ w ∷ ws else w ∷ inserted v ws

  abbrev ranked_up : List Vertex → List Vertex
  ranked_up [] = []
  ranked_up (v ∷ vs) = inserted v (ranked_up vs)

  abbrev From : ℕ → List Vertex → Type 0
  From r vs = EachNode (λ w. r ≤ rank w.label) vs

  abbrev Rising : List Vertex → Type 0
  Rising [] = Unit {0}
  Rising (v ∷ vs) = From (rank v.label) vs × Rising vs

  from-more : (r s : ℕ) → r ≤ s → (vs : List Vertex) → From s vs → From r vs
  from-more r s le vs h = each-mapped (λ w. s ≤ rank w.label) (λ w. r ≤ rank w.label) (λ w x. omega (arith, le, x)) vs h

  inserted-shuffled : (v : Vertex) (ws : List Vertex) → Shuffled (inserted v ws) (v ∷ ws)
  inserted-shuffled v [] = same (v ∷ [])
  inserted-shuffled v (w ∷ ws) = go (leb (rank v.label) (rank w.label)) (inserted-shuffled v ws)
    where
      go : (b : Bool) → Shuffled (inserted v ws) (v ∷ ws) → Shuffled (if b then v ∷ w ∷ ws else w ∷ inserted v ws) (v ∷ w ∷ ws)
      go true h = same (v ∷ w ∷ ws)
      go false h = joined (w ∷ inserted v ws) (w ∷ v ∷ ws) (v ∷ w ∷ ws) (under w (inserted v ws) (v ∷ ws) h) (swapped w v ws)

  inserted-rises : (v : Vertex) (ws : List Vertex) → Rising ws → Rising (inserted v ws)
  inserted-rises v [] h = (tt, tt)
  inserted-rises v (w ∷ ws) h = go (leb (rank v.label) (rank w.label)) refl (inserted-rises v ws h.1)
    where
      go : (b : Bool) → leb (rank v.label) (rank w.label) ≡ b → Rising (inserted v ws) → Rising (if b then v ∷ w ∷ ws else w ∷ inserted v ws)
      go true e k = let le = leb-true (rank v.label) (rank w.label) e in ((le, from-more (rank v.label) (rank w.label) le ws h.0), h)
      go false e k =
          let lt = leb-false (rank v.label) (rank w.label) e in
          (each-shuffled (λ x. rank w.label ≤ rank x.label) (v ∷ ws) (inserted v ws) (back (inserted v ws) (v ∷ ws) (inserted-shuffled v ws)) (omega (arith, lt), h.0), k)

  up-shuffled : (vs : List Vertex) → Shuffled (ranked_up vs) vs
  up-shuffled [] = same []
  up-shuffled (v ∷ vs) = joined (inserted v (ranked_up vs)) (v ∷ ranked_up vs) (v ∷ vs) (inserted-shuffled v (ranked_up vs)) (under v (ranked_up vs) vs (up-shuffled vs))

  up-rises : (vs : List Vertex) → Rising (ranked_up vs)
  up-rises [] = tt
  up-rises (v ∷ vs) = inserted-rises v (ranked_up vs) (up-rises vs)

  label-from : (r : ℕ) (vs : List Vertex) → From r vs → (n : ℕ) → IsLabel vs n → r ≤ rank n
  label-from r [] h n i = absurd i
  label-from r (v ∷ vs) h n (inl e) = subst (λ z. r ≤ rank z) (sym e) h.0
  label-from r (v ∷ vs) h n (inr i) = label-from r vs h.1 n i

  abbrev Waits : List ℕ → List Vertex → Vertex → Type 0
  Waits before vs v = (n : ℕ) → IsIn n (waits v) → (IsIn n before ⊎ IsLabel vs n) × (rank n < rank v.label)

  rises-along : (before : List ℕ) (vs : List Vertex) → Rising vs → EachNode (Waits before vs) vs → LabelsOnce vs → ((n : ℕ) → IsIn n before → IsLabel vs n → ⊥) → IsAlong before vs
  rises-along before [] rises h once fresh = tt
  rises-along before (v ∷ vs) rises h once fresh = (
    (λ n i. first n (h.0 n i).1 (h.0 n i).0),
    (λ i. fresh v.label i (inl refl)),
    rises-along (v.label ∷ before) vs rises.1 (each-mapped (Waits before (v ∷ vs)) (Waits (v.label ∷ before) vs) (λ w x n i. (moved n (x n i).0, (x n i).1)) vs h.1) once.1 apart,
  )
    where
      first : (n : ℕ) → rank n < rank v.label → IsIn n before ⊎ IsLabel (v ∷ vs) n → IsIn n before
      first n lt (inl i) = i
      first n lt (inr (inl e)) = let f = ap rank e in absurd (omega (arith, lt, f))
      first n lt (inr (inr i)) = let le = label-from (rank v.label) vs rises.0 n i in absurd (omega (arith, lt, le))

      moved : (n : ℕ) → IsIn n before ⊎ IsLabel (v ∷ vs) n → IsIn n (v.label ∷ before) ⊎ IsLabel vs n
      moved n (inl i) = inl (inr i)
      moved n (inr (inl e)) = inl (inl e)
      moved n (inr (inr i)) = inr i

      apart : (n : ℕ) → IsIn n (v.label ∷ before) → IsLabel vs n → ⊥
      apart n (inl e) i = once.0 (subst (IsLabel vs) e i)
      apart n (inr h) i = fresh n h (inr i)

both : (P Q : Vertex → Type 0) (vs : List Vertex) → EachNode P vs → EachNode Q vs → EachNode (λ v. P v × Q v) vs
both P Q [] a b = tt
both P Q (v ∷ vs) a b = ((a.0, b.0), both P Q vs a.1 b.1)

pub sorted : (net : Net) → IsOrderly net → EachNode (λ v. v.label ≢ 0) net.nodes → (vs : List Vertex) × IsInOrder net vs
sorted net orderly named =
    let r = net-ranked net orderly in
    let vs = ranked_up r.rank net.nodes in
    let s = up-shuffled r.rank net.nodes in
    let b = back vs net.nodes s in
    let all : (n : ℕ) → IsLabel net.nodes n → IsLabel vs n = label-shuffled net.nodes vs b in
    let waiting = each-mapped (λ v. ((n : ℕ) → IsIn n (waits v) → IsLabel net.nodes n) × ((n : ℕ) → IsIn n (waits v) → r.rank n < r.rank v.label)) (Waits r.rank [] vs) (λ v h n i. (inr (all n (h.0 n i)), h.1 n i)) net.nodes
    (both (λ v. (n : ℕ) → IsIn n (waits v) → IsLabel net.nodes n) (λ v. (n : ℕ) → IsIn n (waits v) → r.rank n < r.rank v.label) net.nodes orderly.named r.falls) in (
      vs,
      record {
        nodes = each-shuffled (λ v. (v.label ≢ 0) × (at_label net.nodes v.label ≡ Some v)) net.nodes vs b (both (λ v. v.label ≢ 0) (λ v. at_label net.nodes v.label ≡ Some v) net.nodes named (all-found net.nodes orderly.once));
        all = all;
        along = rises-along r.rank [] vs (up-rises r.rank net.nodes) (each-shuffled (Waits r.rank [] vs) net.nodes vs b waiting) (once-shuffled net.nodes vs b orderly.once) (λ n h i. h);
      },
    )
