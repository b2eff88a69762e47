-- What is known is bound.
use Rattle.std.proofs.Common.{◌≡◌, ℕ, zero, suc, ◌-◌, List, [], ◌∷◌, get_or, Some, inl, inr, refl, sym, subst}
use Rattle.run_code.specs.Carried.{Carried, Unfilled}
use Rattle.run_code.specs.Demand.{Source, Port, Fixed, Vertex}
use Rattle.run_code.proofs.Bound.{bound-now, still-bound}
use Rattle.run_code.specs.Ordered.{Bindings, Fired, Inputs, NodesYield, ReadsAll, Rest, Tally, Total, bound}
use Rattle.run_code.specs.Known.{Known, Knows, KnowsAll, known_after}

-- the inputs and what is known are bound
abbrev pub Tells : Known → Bindings → Type 0
Tells known env = ((p : ℕ) → (k : Carried) × (bound env 0 p ≡ Some k)) × ((l p : ℕ) → Knows known l p → (k : Carried) × (bound env l p ≡ Some k))

pub tells-inputs : (ins : List Carried) → Tells [] (Inputs ins)
tells-inputs ins = ((λ p. (get_or ins (p - 1) Unfilled, refl)), λ l p h. absurd h)

pub tells-bound : (l w : ℕ) (rs : List Carried) (known : Known) (env : Bindings) → Tells known env → Tells ((l, w) ∷ known) (Fired l rs env)
tells-bound l w rs known env t = ((λ p. still-bound l rs env 0 p (t.0 p)), all)
  where
    all : (label port : ℕ) → Knows ((l, w) ∷ known) label port → (k : Carried) × (bound (Fired l rs env) label port ≡ Some k)
    all label port (inl x) = (get_or rs (port - 1) Unfilled, bound-now l rs env label port x.0)
    all label port (inr h) = still-bound l rs env label port (t.1 label port h)

pub read-known : (known : Known) (env : Bindings) → Tells known env → (os : List Source) → KnowsAll known os → (ks : List Carried) × ReadsAll env os ks
read-known known env t [] h = ([], tt)
read-known known env t (Fixed c ∷ os) h = let r = read-known known env t os h in (c ∷ r.0, (refl, r.1))
read-known known env t (Port zero p ∷ os) h = let r = read-known known env t os h in let x = t.0 p in (x.0 ∷ r.0, (x.1, r.1))
read-known known env t (Port (suc l) p ∷ os) h = let r = read-known known env t os h.1 in let x = t.1 (suc l) p h.0 in (x.0 ∷ r.0, (x.1, r.1))

pub tells-after : (T : Tally) (width : Vertex → ℕ) (rest : Rest T) (g : ℕ) (known : Known) (vs : List Vertex) (env after : Bindings) (c : Total T) → Tells known env → NodesYield T rest g env vs after c → Tells (known_after width known vs) after
tells-after T width rest g known [] env after c t h = subst (Tells known) (sym h.0) t
tells-after T width rest g known (v ∷ vs) env after c t h = tells-after T width rest g ((v.label, width v) ∷ known) vs (Fired v.label h.0 env) after h.2 (tells-bound v.label (width v) h.0 known env t) h.4
