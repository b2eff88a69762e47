-- The nodes of a graph in another order.
use Rattle.std.proofs.Common.{◌≡◌, ◌≢◌, ℕ, zero, suc, Bool, true, false, if◌then◌else◌, List, [], ◌∷◌, Some, None, inl, inr, refl, sym, ap, ◌∙◌, subst, eqb}
use Rattle.std.proofs.lemmas.Bool.{eq-eqb, eqb-true}
use Rattle.graph_meaning.specs.Entered.{IsIn}
use Rattle.graph_meaning.specs.Demand.{Vertex, Net, Network, EachNode, IsLabel, LabelsOnce, IsOrderly, AreOrderly, at_label, data_labels}
use Rattle.ordered_meaning.specs.Orders.{IsAlong, IsInOrder, AreInOrder}

pub data Shuffled : List Vertex → List Vertex → Type 0 where
  same : (vs : List Vertex) → Shuffled vs vs
  swapped : (v w : Vertex) (vs : List Vertex) → Shuffled (v ∷ w ∷ vs) (w ∷ v ∷ vs)
  under : (v : Vertex) (vs ws : List Vertex) → Shuffled vs ws → Shuffled (v ∷ vs) (v ∷ ws)
  joined : (vs ws xs : List Vertex) → Shuffled vs ws → Shuffled ws xs → Shuffled vs xs

pub back : (vs ws : List Vertex) → Shuffled vs ws → Shuffled ws vs
back _ _ (same vs) = same vs
back _ _ (swapped v w vs) = swapped w v vs
back _ _ (under v vs ws s) = under v ws vs (back vs ws s)
back _ _ (joined vs ws xs s t) = joined xs ws vs (back ws xs t) (back vs ws s)

pub each-shuffled : (P : Vertex → Type 0) (vs ws : List Vertex) → Shuffled vs ws → EachNode P vs → EachNode P ws
each-shuffled P _ _ (same vs) h = h
each-shuffled P _ _ (swapped v w vs) h = (h.1.0, (h.0, h.1.1))
each-shuffled P _ _ (under v vs ws s) h = (h.0, each-shuffled P vs ws s h.1)
each-shuffled P _ _ (joined vs ws xs s t) h = each-shuffled P ws xs t (each-shuffled P vs ws s h)

pub label-shuffled : (vs ws : List Vertex) → Shuffled vs ws → (n : ℕ) → IsLabel vs n → IsLabel ws n
label-shuffled _ _ (same vs) n h = h
label-shuffled _ _ (swapped v w vs) n (inl e) = inr (inl e)
label-shuffled _ _ (swapped v w vs) n (inr (inl e)) = inl e
label-shuffled _ _ (swapped v w vs) n (inr (inr h)) = inr (inr h)
label-shuffled _ _ (under v vs ws s) n (inl e) = inl e
label-shuffled _ _ (under v vs ws s) n (inr h) = inr (label-shuffled vs ws s n h)
label-shuffled _ _ (joined vs ws xs s t) n h = label-shuffled ws xs t n (label-shuffled vs ws s n h)

pub once-shuffled : (vs ws : List Vertex) → Shuffled vs ws → LabelsOnce vs → LabelsOnce ws
once-shuffled _ _ (same vs) h = h
once-shuffled _ _ (swapped v w vs) h = (not-w, ((λ i. h.0 (inr i)), h.1.1))
  where
    not-w : IsLabel (v ∷ vs) w.label → ⊥
    not-w (inl e) = h.0 (inl (sym e))
    not-w (inr i) = h.1.0 i
once-shuffled _ _ (under v vs ws s) h = ((λ i. h.0 (label-shuffled ws vs (back vs ws s) v.label i)), once-shuffled vs ws s h.1)
once-shuffled _ _ (joined vs ws xs s t) h = once-shuffled ws xs t (once-shuffled vs ws s h)

pub each-mapped : (P Q : Vertex → Type 0) → ((v : Vertex) → P v → Q v) → (vs : List Vertex) → EachNode P vs → EachNode Q vs
each-mapped P Q f [] h = tt
each-mapped P Q f (v ∷ vs) h = (f v h.0, each-mapped P Q f vs h.1)

-- ---- an order is all nodes

-- a node of this label, and the others
pick : (vs : List Vertex) (l : ℕ) → IsLabel vs l → (x : Vertex) × (rest : List Vertex) × (x.label ≡ l) × Shuffled vs (x ∷ rest)
pick [] l h = absurd h
pick (v ∷ vs) l (inl e) = (v, vs, sym e, same (v ∷ vs))
pick (v ∷ vs) l (inr h) =
    let p = pick vs l h in
    (p.0, v ∷ p.1, p.2, joined (v ∷ vs) (v ∷ p.0 ∷ p.1) (p.0 ∷ v ∷ p.1) (under v vs (p.0 ∷ p.1) p.3) (swapped v p.0 p.1))

-- what came before does not come again
along-fresh : (before : List ℕ) (vs : List Vertex) → IsAlong before vs → (n : ℕ) → IsIn n before → IsLabel vs n → ⊥
along-fresh before [] along n h i = i
along-fresh before (v ∷ vs) along n h (inl e) = along.1 (subst (λ z. IsIn z before) e h)
along-fresh before (v ∷ vs) along n h (inr i) = along-fresh (v.label ∷ before) vs along.2 n (inr h) i

pub along-once : (before : List ℕ) (vs : List Vertex) → IsAlong before vs → LabelsOnce vs
along-once before [] along = tt
along-once before (v ∷ vs) along = ((λ i. along-fresh (v.label ∷ before) vs along.2 v.label (inl refl) i), along-once (v.label ∷ before) vs along.2)

first-at : (w : Vertex) (ws : List Vertex) (x : Vertex) → at_label (w ∷ ws) x.label ≡ Some x → x.label ≡ w.label → w ≡ x
first-at w ws x e l = only w x (sym (ap (λ b. if b then Some w else at_label ws x.label) (eq-eqb w.label x.label (sym l))) ∙ e)
  where
    only : (a b : Vertex) → Some a ≡ Some b → a ≡ b
    only a b e = cc

other-at : (w : Vertex) (ws : List Vertex) (x : Vertex) → at_label (w ∷ ws) x.label ≡ Some x → (w.label ≡ x.label → ⊥) → at_label ws x.label ≡ Some x
other-at w ws x e ne = go (eqb w.label x.label) refl e
  where
    go : (b : Bool) → eqb w.label x.label ≡ b → (if b then Some w else at_label ws x.label) ≡ Some x → at_label ws x.label ≡ Some x
    go true f h = absurd (ne (eqb-true w.label x.label f))
    go false f h = h

others-at : (w : Vertex) (ws xs : List Vertex) → EachNode (λ v. at_label (w ∷ ws) v.label ≡ Some v) xs → (IsLabel xs w.label → ⊥) → EachNode (λ v. at_label ws v.label ≡ Some v) xs
others-at w ws [] h fresh = tt
others-at w ws (x ∷ xs) h fresh = (other-at w ws x h.0 (λ e. fresh (inl e)), others-at w ws xs h.1 (λ i. fresh (inr i)))

no-node : (v : Vertex) → None ≡ Some v → ⊥
no-node v e = absurd cc

all-shuffled : (ws vs : List Vertex) → LabelsOnce ws → EachNode (λ v. at_label ws v.label ≡ Some v) vs → ((n : ℕ) → IsLabel ws n → IsLabel vs n) → LabelsOnce vs → Shuffled vs ws
all-shuffled [] [] once at all single = same []
all-shuffled [] (v ∷ vs) once at all single = absurd (no-node v at.0)
all-shuffled (w ∷ ws) vs once at all single =
    let p = pick vs w.label (all w.label (inl refl)) in
    let there = each-shuffled (λ v. at_label (w ∷ ws) v.label ≡ Some v) vs (p.0 ∷ p.1) p.3 at in
    let alone = once-shuffled vs (p.0 ∷ p.1) p.3 single in
    let is : w ≡ p.0 = first-at w ws p.0 there.0 p.2 in
    let rest = all-shuffled ws p.1 once.1 (others-at w ws p.1 there.1 (λ i. alone.0 (subst (IsLabel p.1) (sym p.2) i))) (λ n i. other n i p.0 p.1 p.2 (label-shuffled vs (p.0 ∷ p.1) p.3 n (all n (inr i)))) alone.1 in
    joined vs (p.0 ∷ p.1) (w ∷ ws) p.3 (subst (λ z. Shuffled (p.0 ∷ p.1) (z ∷ ws)) (sym is) (under p.0 p.1 ws rest))
  where
    other : (n : ℕ) → IsLabel ws n → (x : Vertex) (xs : List Vertex) → x.label ≡ w.label → IsLabel (x ∷ xs) n → IsLabel xs n
    other n i x xs e (inl f) = absurd (once.0 (subst (IsLabel ws) (f ∙ e) i))
    other n i x xs e (inr j) = j

-- an order as the proofs take it
pub record IsListed (net : Net) (vs : List Vertex) : Type 0 where
  pub shuffled : Shuffled vs net.nodes
  pub labelled : EachNode (λ v. (l : ℕ) × (v.label ≡ suc l) × (at_label net.nodes (suc l) ≡ Some v)) vs
  pub along : IsAlong [] vs
  pub results : (n : ℕ) → IsIn n (data_labels net.results) → IsLabel vs n

pub listed : (net : Net) (vs : List Vertex) → IsOrderly net → IsInOrder net vs → IsListed net vs
listed net vs orderly order =
    record {
      shuffled = all-shuffled net.nodes vs orderly.once (each-mapped _ (λ v. at_label net.nodes v.label ≡ Some v) (λ v h. h.1) vs order.nodes) order.all (along-once [] vs order.along);
      labelled = each-mapped _ (λ v. (l : ℕ) × (v.label ≡ suc l) × (at_label net.nodes (suc l) ≡ Some v)) (λ v h. at v v.label refl h) vs order.nodes;
      along = order.along;
      results = λ n i. order.all n (orderly.results_named n i);
    }
  where
    at : (v : Vertex) (l : ℕ) → v.label ≡ l → (v.label ≢ 0) × (at_label net.nodes v.label ≡ Some v) → (l : ℕ) × (v.label ≡ suc l) × (at_label net.nodes (suc l) ≡ Some v)
    at v zero e h = absurd (h.0 e)
    at v (suc l) e h = (l, e, ap (at_label net.nodes) (sym e) ∙ h.1)

pub all-listed : (u : Network) (order : ℕ → List Vertex) → AreOrderly u → AreInOrder u order → (g : ℕ) → IsListed (u g) (order g)
all-listed u order orderly ok g = listed (u g) (order g) (orderly g) (ok g)
