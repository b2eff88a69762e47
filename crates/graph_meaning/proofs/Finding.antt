-- Nodes by their labels.
use Rattle.std.proofs.Common.{◌≡◌, ℕ, Bool, true, false, List, [], ◌∷◌, Some, inl, inr, refl, sym, ap, ◌∙◌, subst, eqb, T, if◌then◌else◌}
use Rattle.std.proofs.lemmas.Bool.{eq-eqb}
use Rattle.std.proofs.Math.Facts.{eqb_yes}
use Rattle.graph_meaning.specs.Demand.{Vertex, at_label, IsLabel, LabelsOnce, EachNode}

-- a node is found by its label
eqb-sound : (a b : ℕ) → eqb a b ≡ true → a ≡ b
eqb-sound a b e = eqb_yes (subst T (sym e) tt)

eqb-other : (a b : ℕ) → (a ≡ b → ⊥) → eqb a b ≡ false
eqb-other a b n = go (eqb a b) (eqb-sound a b)
  where
    go : (c : Bool) → (c ≡ true → a ≡ b) → c ≡ false
    go true h = absurd (n (h refl))
    go false h = refl

pub label-found : (vs : List Vertex) (l : ℕ) (v : Vertex) → at_label vs l ≡ Some v → IsLabel vs l
label-found [] l v e = absurd cc
label-found (w ∷ vs) l v e = go (eqb w.label l) (eqb-sound w.label l) (label-found vs l v) e
  where
    go : (b : Bool) → (b ≡ true → w.label ≡ l) → (at_label vs l ≡ Some v → IsLabel vs l) → (if b then Some w else at_label vs l) ≡ Some v → IsLabel (w ∷ vs) l
    go true h k x = inl (sym (h refl))
    go false h k x = inr (k x)

later-found : (w : Vertex) (vs : List Vertex) → (IsLabel vs w.label → ⊥) → (xs : List Vertex) → EachNode (λ v. at_label vs v.label ≡ Some v) xs → EachNode (λ v. at_label (w ∷ vs) v.label ≡ Some v) xs
later-found w vs fresh [] h = tt
later-found w vs fresh (x ∷ xs) h = (
  ap (λ b. if b then Some w else at_label vs x.label) (eqb-other w.label x.label (λ e. fresh (subst (IsLabel vs) (sym e) (label-found vs x.label x h.0)))) ∙ h.0,
  later-found w vs fresh xs h.1,
)

pub all-found : (vs : List Vertex) → LabelsOnce vs → EachNode (λ v. at_label vs v.label ≡ Some v) vs
all-found [] h = tt
all-found (w ∷ vs) h =
    (ap (λ b. if b then Some w else at_label vs w.label) (eq-eqb w.label w.label refl), later-found w vs h.0 vs (all-found vs h.1))
