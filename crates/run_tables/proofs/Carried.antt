-- What the ports of a live graph carry, of nodes that are done.
use Rattle.std.proofs.Common.{◌≡◌, ℕ, zero, suc, ◌+◌, ◌-◌, List, [], ◌∷◌, get_or, Some, inl, inr, refl, sym, subst, arith}
use Rattle.if1_graph.specs.declared.op.Simple.{Simple}
use Rattle.graph_meaning.specs.Carried.{Carried, Unfilled}
use Rattle.graph_meaning.specs.NodeValues.{Shape, op}
use Rattle.graph_meaning.specs.Entered.{IsIn}
use Rattle.graph_meaning.specs.Demand.{Source, Port, Fixed, Plain, Vertex, Network, Cut, at_label, data_labels}
use Rattle.graph_meaning.specs.Plain.{Carries, fixed, input, output, CarryAll, no_port, port, Outputs, simple}
use Rattle.graph_meaning.proofs.PlainDepths.{all-on}
use Rattle.graph_meaning.proofs.PlainValues.{operands-given}
use Rattle.run_states.specs.Standing.{State, Done}
use Rattle.run_states.specs.Phases.{Results, Operands}
use Rattle.run_states.specs.Values.{OutputsOf}
use Rattle.run_states.proofs.Deeper.{carries-on}
use Rattle.run_tables.specs.Known.{IsKnownAs}

module _ (cut : Cut) (u : Network) (h : ℕ) (is : List Carried) (states : ℕ → State) (known : (l : ℕ) (v : Vertex) → at_label (u h).nodes l ≡ Some v → IsKnownAs cut u h is l v (states l)) where
  -- these nodes are done
  abbrev AreDone : List ℕ → Type 0
  AreDone ls = (n : ℕ) → IsIn n ls → (v : Vertex) × (at_label (u h).nodes n ≡ Some v) × (states n ≡ Done)

  outputs-of : (l : ℕ) (v : Vertex) → at_label (u h).nodes l ≡ Some v → states l ≡ Done → (rs : List Carried) × OutputsOf u h is v rs
  outputs-of l v at e = subst (IsKnownAs cut u h is l v) e (known l v at)

  both : (o : Source) (os : List Source) → (c : Carried) × (d : ℕ) × Carries u d h is o c → (cs : List Carried) × (d : ℕ) × CarryAll u d h is os cs → (cs : List Carried) × (d : ℕ) × CarryAll u d h is (o ∷ os) cs
  both o os a b =
      let d = a.1 + b.1 in
      (a.0 ∷ b.0, d, port d h is o os a.0 b.0 (carries-on u a.1 h is o a.0 a.2 d (omega arith)) (all-on u b.1 h is os b.0 b.2 d (omega arith)))

  one-output : (l p : ℕ) → (v : Vertex) × (at_label (u h).nodes (suc l) ≡ Some v) × (states (suc l) ≡ Done) → (c : Carried) × (d : ℕ) × Carries u d h is (Port (suc l) p) c
  one-output l p w =
      let o = outputs-of (suc l) w.0 w.1 w.2 in
      (get_or o.0 (p - 1) Unfilled, o.1.0, output o.1.0 h is l p w.0 o.1.1 o.0 w.1 o.1.2 o.1.3)

  pub all-carried : (os : List Source) → AreDone (data_labels os) → (ks : List Carried) × (d : ℕ) × CarryAll u d h is os ks
  all-carried [] done = ([], 0, no_port 0 h is)
  all-carried (Fixed c ∷ os) done = both (Fixed c) os (c, 0, fixed 0 h is c) (all-carried os done)
  all-carried (Port zero p ∷ os) done = both (Port zero p) os (get_or is (p - 1) Unfilled, 0, input 0 h is p) (all-carried os done)
  all-carried (Port (suc l) p ∷ os) done = both (Port (suc l) p) os (one-output l p (done (suc l) (inl refl))) (all-carried os (λ n i. done n (inr i)))

  pub operands-of : (v : Vertex) → AreDone (data_labels v.ins) → (ks : List Carried) × Operands u h is v ks
  operands-of v done = let a = all-carried v.ins done in (a.0, operands-given u a.1 h is v.ins a.0 a.2)

  pub results-of : AreDone (data_labels (u h).results) → (rs : List Carried) × Results u h is rs
  results-of done = let a = all-carried (u h).results done in (a.0, operands-given u a.1 h is (u h).results a.0 a.2)

  pub fired : (v : Vertex) (row : Simple) (shape : Shape) → v.kind ≡ Plain row shape → AreDone (data_labels v.ins) → (rs : List Carried) × OutputsOf u h is v rs
  fired v row shape e done =
      let a = all-carried v.ins done in
      (op row shape a.0, (a.1, a.0, a.2, subst (λ k. Outputs u a.1 k a.0 (op row shape a.0)) (sym e) (simple a.1 row shape a.0)))
