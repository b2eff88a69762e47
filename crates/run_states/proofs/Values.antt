-- What is read off the ports of a live graph are the values of the meaning.
use Rattle.std.proofs.Common.{◌≡◌, ℕ, zero, suc, ◌+◌, Bool, true, false, List, [], ◌∷◌, map, inl, inr, refl, sym, subst, arith}
use Rattle.graph_meaning.specs.Carried.{Carried}
use Rattle.graph_meaning.specs.NodeValues.{Shape, op}
use Rattle.if1_graph.specs.declared.op.Simple.{Simple}
use Rattle.graph_meaning.specs.Entered.{IsIn}
use Rattle.graph_meaning.specs.Forms.{Form, Next, Enter, Iterate, Leave as Leaves, Stage, next_of, first, follow, gather}
use Rattle.graph_meaning.specs.Demand.{Source, Port, Fixed, Plain, Whole, Vertex, Network, data_labels}
use Rattle.graph_meaning.specs.Plain.{is_deeper, Carries, fixed, input, output, CarryAll, no_port, port, Outputs, simple, whole, Leads, leaves, enters as enters_plain, enters_deeper, iterates as iterates_plain}
use Rattle.graph_meaning.proofs.PlainDepths.{all-on}
use Rattle.graph_meaning.proofs.PlainValues.{operands-stand, operands-given, rows-stand}
use Rattle.run_states.specs.Phases.{Results, Operands, Comes, skips, begins, enters, iterates}
use Rattle.run_states.specs.Values.{OutputsOf, read, AreThere}
use Rattle.run_states.proofs.Deeper.{carries-on, leads-on}

module _ (u : Network) (g : ℕ) (ins : List Carried) (outs : ℕ → List Carried) where
  one-read : (o : Source) → AreThere u g ins outs (data_labels (o ∷ [])) → (d : ℕ) × Carries u d g ins o (read ins outs o)
  one-read (Fixed c) h = (0, fixed 0 g ins c)
  one-read (Port zero p) h = (0, input 0 g ins p)
  one-read (Port (suc l) p) h =
      let x = h (suc l) (inl refl) in
      let o = x.2 in
      (o.0, output o.0 g ins l p x.0 o.1 (outs (suc l)) x.1 o.2 o.3)

  both-read : (o : Source) (os : List Source) → (d : ℕ) × Carries u d g ins o (read ins outs o) → (d : ℕ) × CarryAll u d g ins os (map (read ins outs) os) → (d : ℕ) × CarryAll u d g ins (o ∷ os) (map (read ins outs) (o ∷ os))
  both-read o os a b =
      let d = a.0 + b.0 in
      (d, port d g ins o os (read ins outs o) (map (read ins outs) os) (carries-on u a.0 g ins o (read ins outs o) a.1 d (omega arith)) (all-on u b.0 g ins os (map (read ins outs) os) b.1 d (omega arith)))

  -- what is read off the ports of nodes whose outputs are there
  pub all-read : (os : List Source) → AreThere u g ins outs (data_labels os) → (d : ℕ) × CarryAll u d g ins os (map (read ins outs) os)
  all-read [] h = (0, no_port 0 g ins)
  all-read (Fixed c ∷ os) h = both-read (Fixed c) os (0, fixed 0 g ins c) (all-read os h)
  all-read (Port zero p ∷ os) h = both-read (Port zero p) os (0, input 0 g ins p) (all-read os h)
  all-read (Port (suc l) p ∷ os) h =
      both-read (Port (suc l) p) os (one-read (Port (suc l) p) (λ n i. h n (only n i))) (all-read os (λ n i. h n (inr i)))
    where
      only : (n : ℕ) → IsIn n (suc l ∷ []) → IsIn n (suc l ∷ data_labels os)
      only n (inl e) = inl e
      only n (inr e) = absurd e

  -- a simple node that fires gives its outputs
  pub simple-fires : (v : Vertex) (row : Simple) (shape : Shape) → v.kind ≡ Plain row shape → AreThere u g ins outs (data_labels v.ins) → OutputsOf u g ins v (op row shape (map (read ins outs) v.ins))
  simple-fires v row shape is h =
      let a = all-read v.ins h in
      (a.0, map (read ins outs) v.ins, a.1, subst (λ k. Outputs u a.0 k (map (read ins outs) v.ins) (op row shape (map (read ins outs) v.ins))) (sym is) (simple a.0 row shape (map (read ins outs) v.ins)))

  -- what a compound node is entered with are its operands
  pub operands-read : (v : Vertex) → AreThere u g ins outs (data_labels v.ins) → Operands u g ins v (map (read ins outs) v.ins)
  operands-read v h = let a = all-read v.ins h in operands-given u a.0 g ins v.ins (map (read ins outs) v.ins) a.1

  -- and the results of a graph are read so
  pub results-read : AreThere u g ins outs (data_labels (u g).results) → Results u g ins (map (read ins outs) (u g).results)
  results-read h = let a = all-read (u g).results h in operands-given u a.0 g ins (u g).results (map (read ins outs) (u g).results) a.1

module _ (u : Network) (form : Form) (ks rs : List Carried) where
  entered-leads : (t : Bool) (g : ℕ) (ins : List Carried) (stage : Stage) (ms : List Carried) → Results u g ins ms → (d : ℕ) × Leads u d form ks (follow form ks stage ms) rs → (d : ℕ) × Leads u d form ks (Enter t g ins stage) rs
  entered-leads t g ins stage ms res b = go (is_deeper form t) refl
    where
      go : (deeper : Bool) → is_deeper form t ≡ deeper → (d : ℕ) × Leads u d form ks (Enter t g ins stage) rs
      go false e =
          let d = res.0 + b.0 in
          (d, enters_plain d form ks t g ins stage ms rs e (operands-stand u res.0 d (omega arith) g ins (u g).results ms res.1) (leads-on u b.0 form ks (follow form ks stage ms) rs b.1 d (omega arith)))
      go true e =
          let d = res.0 + b.0 in
          (suc d, enters_deeper d form ks t g ins stage ms rs e (operands-stand u res.0 d (omega arith) g ins (u g).results ms res.1) (leads-on u b.0 form ks (follow form ks stage ms) rs b.1 d (omega arith)))

  -- from what a node did so far to all that it does
  pub comes-leads : (k : ℕ) (next : Next) → Comes u form ks k next → (d : ℕ) × Leads u d form ks next rs → (d : ℕ) × Leads u d form ks (next_of (first form ks)) rs
  comes-leads k next (skips qs e) b = (b.0, subst (λ f. Leads u b.0 form ks (next_of f) rs) (sym e) b.1)
  comes-leads k next (begins g ins stage ms e res) b = let a = entered-leads false g ins stage ms res b in (a.0, subst (λ f. Leads u a.0 form ks (next_of f) rs) (sym e) a.1)
  comes-leads k next (enters n t g ins stage ms c res) b = comes-leads n (Enter t g ins stage) c (entered-leads t g ins stage ms res b)
  comes-leads k next (iterates n g row rows ms lists c res) b =
      let d = res.0 + b.0 in
      comes-leads n (Iterate g row rows ms) c (d, iterates_plain d form ks g row rows ms lists rs (rows-stand u res.0 d (omega arith) g (row ∷ rows) lists res.1) (leads-on u b.0 form ks (gather form ks ms lists) rs b.1 d (omega arith)))

-- a compound node that leaves gives its outputs
pub whole-leaves : (u : Network) (g : ℕ) (ins : List Carried) (v : Vertex) (form : Form) (ks rs : List Carried) (k : ℕ) → v.kind ≡ Whole form → Operands u g ins v ks → Comes u form ks k (Leaves rs) → OutputsOf u g ins v rs
whole-leaves u g ins v form ks rs k is given c =
    let a = comes-leads u form ks rs k (Leaves rs) c (0, leaves 0 form ks rs) in
    let d = a.0 + given.0 in
    (d, ks, operands-stand u given.0 d (omega arith) g ins v.ins ks given.1, subst (λ z. Outputs u d z ks rs) (sym is) (whole d form ks rs (leads-on u a.0 form ks (next_of (first form ks)) rs a.1 d (omega arith))))
