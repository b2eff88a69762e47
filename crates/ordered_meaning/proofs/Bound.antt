-- What is bound after some of the nodes.
use Rattle.std.proofs.Common.{◌≡◌, ℕ, zero, suc, ◌-◌, eqb, Bool, true, false, if◌then◌else◌, List, [], ◌∷◌, ◌++◌, get_or, Some, None, inl, inr, ◌⊎◌, refl, sym, ap, subst}
use Rattle.std.proofs.lemmas.Bool.{eq-eqb, eqb-true, eqb-false}
use Rattle.graph_meaning.specs.Carried.{Carried, Unfilled}
use Rattle.graph_meaning.specs.Entered.{IsIn}
use Rattle.graph_meaning.specs.Demand.{Source, Port, Fixed, Vertex, data_labels, IsLabel}
use Rattle.ordered_meaning.specs.Ordered.{Bindings, Inputs, Fired, bound, ReadsAll, Tally, Total, Rest, NodesYield}

pub same-some : {A : Type 0} (a b : A) → Some a ≡ Some b → a ≡ b
same-some a b e = cc

pub none-some : {A : Type 0} (a : A) → None ≡ Some a → ⊥
none-some a e = absurd cc

-- what the last node of a label gives, and what stood before it
pub bound-now : (label : ℕ) (rs : List Carried) (env : Bindings) (l p : ℕ) → l ≡ label → bound (Fired label rs env) l p ≡ Some (get_or rs (p - 1) Unfilled)
bound-now label rs env l p e = ap (λ b. if b then Some (get_or rs (p - 1) Unfilled) else bound env l p) (eq-eqb l label e)

pub bound-before : (label : ℕ) (rs : List Carried) (env : Bindings) (l p : ℕ) → (l ≡ label → ⊥) → bound (Fired label rs env) l p ≡ bound env l p
bound-before label rs env l p ne = go (eqb l label) refl
  where
    go : (b : Bool) → eqb l label ≡ b → (if b then Some (get_or rs (p - 1) Unfilled) else bound env l p) ≡ bound env l p
    go true e = absurd (ne (eqb-true l label e))
    go false e = refl

-- which of the two it is
pub bound-by : (label : ℕ) (rs : List Carried) (env : Bindings) (l p : ℕ) (k : Carried) → bound (Fired label rs env) l p ≡ Some k → ((l ≡ label) × (k ≡ get_or rs (p - 1) Unfilled)) ⊎ ((l ≡ label → ⊥) × (bound env l p ≡ Some k))
bound-by label rs env l p k h = go (eqb l label) refl h
  where
    go : (b : Bool) → eqb l label ≡ b → (if b then Some (get_or rs (p - 1) Unfilled) else bound env l p) ≡ Some k → ((l ≡ label) × (k ≡ get_or rs (p - 1) Unfilled)) ⊎ ((l ≡ label → ⊥) × (bound env l p ≡ Some k))
    go true e h = inl (eqb-true l label e, sym (same-some (get_or rs (p - 1) Unfilled) k h))
    go false e h = inr (eqb-false l label e, h)

-- the inputs of the graph and the outputs of these nodes are bound
abbrev pub Tells : List ℕ → Bindings → Type 0
Tells before env = ((p : ℕ) → (k : Carried) × (bound env 0 p ≡ Some k)) × ((l p : ℕ) → IsIn l before → (k : Carried) × (bound env l p ≡ Some k))

pub tells-inputs : (ins : List Carried) → Tells [] (Inputs ins)
tells-inputs ins = ((λ p. (get_or ins (p - 1) Unfilled, refl)), λ l p h. absurd h)

-- what is bound stays so, if by another value
pub still-bound : (label : ℕ) (rs : List Carried) (env : Bindings) (l p : ℕ) → (k : Carried) × (bound env l p ≡ Some k) → (k : Carried) × (bound (Fired label rs env) l p ≡ Some k)
still-bound label rs env l p x = go (eqb l label)
  where
    go : (b : Bool) → (k : Carried) × ((if b then Some (get_or rs (p - 1) Unfilled) else bound env l p) ≡ Some k)
    go true = (get_or rs (p - 1) Unfilled, refl)
    go false = x

pub tells-outputs : (label : ℕ) (rs : List Carried) (before : List ℕ) (env : Bindings) → Tells before env → Tells (label ∷ before) (Fired label rs env)
tells-outputs label rs before env t = ((λ p. still-bound label rs env 0 p (t.0 p)), all)
  where
    all : (l p : ℕ) → IsIn l (label ∷ before) → (k : Carried) × (bound (Fired label rs env) l p ≡ Some k)
    all l p (inl e) = (get_or rs (p - 1) Unfilled, bound-now label rs env l p e)
    all l p (inr h) = still-bound label rs env l p (t.1 l p h)

-- the labels of these nodes are added
abbrev pub labels_after : List ℕ → List Vertex → List ℕ
labels_after before [] = before
labels_after before (v ∷ vs) = labels_after (v.label ∷ before) vs

pub tells-after : (T : Tally) (rest : Rest T) (g : ℕ) (before : List ℕ) (vs : List Vertex) (env after : Bindings) (c : Total T) → Tells before env → NodesYield T rest g env vs after c → Tells (labels_after before vs) after
tells-after T rest g before [] env after c t h = subst (Tells before) (sym h.0) t
tells-after T rest g before (v ∷ vs) env after c t h = tells-after T rest g (v.label ∷ before) vs (Fired v.label h.0 env) after h.2 (tells-outputs v.label h.0 before env t) h.4

pub label-after : (before : List ℕ) (vs : List Vertex) (n : ℕ) → IsLabel vs n ⊎ IsIn n before → IsIn n (labels_after before vs)
label-after before [] n (inl h) = absurd h
label-after before [] n (inr h) = h
label-after before (v ∷ vs) n (inl (inl e)) = label-after (v.label ∷ before) vs n (inr (inl e))
label-after before (v ∷ vs) n (inl (inr h)) = label-after (v.label ∷ before) vs n (inl h)
label-after before (v ∷ vs) n (inr h) = label-after (v.label ∷ before) vs n (inr (inr h))

pub in-left : (n : ℕ) (a b : List ℕ) → IsIn n a → IsIn n (a ++ b)
in-left n [] b h = absurd h
in-left n (x ∷ a) b (inl e) = inl e
in-left n (x ∷ a) b (inr h) = inr (in-left n a b h)

-- what is read of these nodes is bound
pub read-bound : (before : List ℕ) (env : Bindings) → Tells before env → (os : List Source) → ((n : ℕ) → IsIn n (data_labels os) → IsIn n before) → (ks : List Carried) × ReadsAll env os ks
read-bound before env t [] h = ([], tt)
read-bound before env t (Fixed c ∷ os) h = let r = read-bound before env t os h in (c ∷ r.0, (refl, r.1))
read-bound before env t (Port zero p ∷ os) h = let r = read-bound before env t os h in let x = t.0 p in (x.0 ∷ r.0, (x.1, r.1))
read-bound before env t (Port (suc l) p ∷ os) h = let r = read-bound before env t os (λ n i. h n (inr i)) in let x = t.1 (suc l) p (h (suc l) (inl refl)) in (x.0 ∷ r.0, (x.1, r.1))
