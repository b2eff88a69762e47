-- In a ready unit with sound marks each taker is the last user of its port.
use Rattle.std.proofs.Common.{◌≡◌, ◌≢◌, ℕ, zero, suc, ◌&&◌, ◌⊎◌, inl, inr, Bool, true, false, List, map, drop, Option, Some, None, option_map, Contains, All, refl, sym, ap, ◌∙◌, subst, eqb, ◌==◌}
use Rattle.std.proofs.lemmas.Bool.{eqb-true, eqb-false}
use Rattle.std.proofs.lemmas.List.Elements.{All-contains}
use Rattle.graph_meaning.specs.Edge.{Edge}
use Rattle.graph_meaning.specs.Graph.{Graph}
use Rattle.graph_meaning.specs.Graph.TheViews.{out-Graph}
use Rattle.graph_meaning.specs.Node.{Node}
use Rattle.graph_meaning.specs.Origin.{Origin}
use Rattle.graph_meaning.specs.Origin.TheVariants as origin
use Rattle.graph_meaning.specs.Unit1.{Unit1}
use Rattle.graph_meaning.specs.Want.{Want}
use Rattle.graph_meaning.specs.Formed.{IsGraph, want_at}
use Rattle.graph_meaning.specs.Ports.{ArePortsRight}
use Rattle.graph_meaning.specs.Ready.{IsReady}
use Rattle.graph_meaning.specs.Units.{node_at, edge_into, width, results, Place, places, number_of, ends}
use Rattle.graph_meaning.specs.Sound.{IsSound}
use Rattle.graph_meaning.specs.Orders.{Precedes}
use Rattle.graph_meaning.proofs.Taken.{taker-last, taken-alone, sound-in-order}
use Rattle.graph_meaning.specs.Forms as form
use Rattle.graph_meaning.specs.Demand.{Port, Kind, Plain, Whole, Vertex, WaitsFor, at_label}
use Rattle.graph_meaning.specs.Networks.{source_from, source_by, source_at, sources, ins_of, vertex_of, net_of, network}
use Rattle.graph_meaning.specs.StorageUnits.{takes}
use Rattle.graph_meaning.proofs.Lists.{found-in}
use Rattle.graph_meaning.proofs.Numbers.{found-by-number}
use Rattle.graph_meaning.proofs.Units.{same-number, at-node, units-orderly}
use Rattle.graph_meaning.proofs.UnitWaits.{waits}
use Rattle.ordered_meaning.specs.Taking.{first_port, Fills, IsTakenThere, AreMarksSound, marks_of, AreUnitMarksSound, AreUnitTakersLast}
use Rattle.ordered_meaning.proofs.Taking.{taken-last}

both-true : (a b : Bool) → a && b ≡ true → (a ≡ true) × (b ≡ true)
both-true true true e = (refl, refl)
both-true true false e = absurd cc
both-true false b e = absurd cc

module _ (u : Unit1) (g : Graph) where
  -- an edge from this output leads to this port
  pub record Edged (l i a b : ℕ) : Type 0 where
    pub edge : Edge
    pub found : edge_into g l i ≡ Some edge
    pub there : Contains (out-Graph g).edges edge
    pub node : edge.node ≡ l
    pub port : edge.port ≡ i
    pub from : edge.from ≡ origin.Port a b

  from-port : (w : Option Want) (ty : ℕ) (o : Origin) (a b : ℕ) → source_from u w ty o ≡ Port a b → o ≡ origin.Port a b
  from-port w ty (origin.Port n p) a b e = cc
  from-port w ty (origin.Lit text) a b e = absurd cc

  pub edged : (l i a b : ℕ) → source_at u g l i ≡ Port a b → Edged l i a b
  edged l i a b e = go (edge_into g l i) refl e
    where
      go : (o : Option Edge) → edge_into g l i ≡ o → source_by u (want_at g l i) o ≡ Port a b → Edged l i a b
      go None is e = absurd cc
      go (Some x) is e =
          let f = found-in (λ e. (e.node == l) && (e.port == i)) (out-Graph g).edges x is in
          let s = both-true (x.node == l) (x.port == i) f.1 in
          record { edge = x; found = is; there = f.0; node = same-number x.node l s.0; port = same-number x.port i s.1; from = from-port (want_at g l i) x.ty x.from a b e }

  pub at-sources : (l first count i a b : ℕ) → Fills i (sources u g l first count) first a b → source_at u g l i ≡ Port a b
  at-sources l first zero i a b h = absurd h
  at-sources l first (suc count) i a b (inl h) = ap (source_at u g l) (sym h.0) ∙ h.1
  at-sources l first (suc count) i a b (inr h) = at-sources l (suc first) count i a b h

  pub at-ins : (l : ℕ) (k : Kind) (i a b : ℕ) → Fills i (ins_of u g l k) (first_port k) a b → source_at u g l i ≡ Port a b
  at-ins l (Plain row shape) i a b h = at-sources l 1 (width g l) i a b h
  at-ins l (Whole (form.Call f)) i a b h = go (width g l) h
    where
      go : (w : ℕ) → Fills i (drop 1 (sources u g l 1 w)) 2 a b → source_at u g l i ≡ Port a b
      go zero h = absurd h
      go (suc w) h = at-sources l 2 w i a b h
  at-ins l (Whole (form.Select s gs n)) i a b h = at-sources l 1 (width g l) i a b h
  at-ins l (Whole (form.TagCase gs n)) i a b h = at-sources l 1 (width g l) i a b h
  at-ins l (Whole (form.LoopA x t y r n)) i a b h = at-sources l 1 (width g l) i a b h
  at-ins l (Whole (form.LoopB x t y r n)) i a b h = at-sources l 1 (width g l) i a b h
  at-ins l (Whole (form.ForAll x y r m n)) i a b h = at-sources l 1 (width g l) i a b h

  abbrev nodes-of : List Vertex
  nodes-of = map (vertex_of u g) (out-Graph g).nodes

  vertex-edged : (v : Vertex) (i a b : ℕ) → at_label nodes-of v.label ≡ Some v → Fills i v.ins (first_port v.kind) a b → Edged v.label i a b
  vertex-edged v i a b is h = go (node_at (out-Graph g).nodes v.label) (sym (at-node u g (out-Graph g).nodes v.label) ∙ is)
    where
      same : (n : Node) → Some (vertex_of u g n) ≡ Some v → vertex_of u g n ≡ v
      same n e = cc

      go : (o : Option Node) → option_map (vertex_of u g) o ≡ Some v → Edged v.label i a b
      go None e = absurd cc
      go (Some n) e =
          let x = same n e in
          let at = subst (λ (w : Vertex). Fills i w.ins (first_port w.kind) a b) (sym x) h in
          subst (λ (w : Vertex). Edged w.label i a b) x (edged (vertex_of u g n).label i a b (at-ins (vertex_of u g n).label (vertex_of u g n).kind i a b at))

  pub taken-edge : (l i a b : ℕ) (x : Edged l i a b) → marks_of g l i ≡ true → x.edge.takes ≡ true
  taken-edge l i a b x t = sym (ap takes x.found) ∙ t

module _ (u : Unit1) (p : Place) (ready : IsReady u) (sound : IsSound u) (there : Contains (places u) p) where
  precedes : (l m : ℕ) → Precedes p.graph l m → WaitsFor (nodes-of u p.graph) m l
  precedes l m before =
      waits u p (All-contains (IsGraph u) (places u) p ready.formed.graphs there) (All-contains (λ p. All (ArePortsRight u p) (ends p.graph)) (places u) p ready.ports there) before

  -- the taker waits for the node of another edge from its port
  waiting : (l i m j a b : ℕ) (x : Edged u p.graph l i a b) (y : Edged u p.graph m j a b) → x.edge.takes ≡ true → l ≢ 0 → (l ≡ m → i ≡ j → ⊥) → WaitsFor (nodes-of u p.graph) l m
  waiting l i m j a b x y t ne other =
      subst (λ z. WaitsFor (nodes-of u p.graph) z m) x.node (subst (λ z. WaitsFor (nodes-of u p.graph) x.edge.node z) y.node
      (precedes y.edge.node x.edge.node
      (taker-last u p x.edge y.edge sound there x.there y.there t (y.from ∙ sym x.from) (λ (s : y.edge ≡ x.edge). other (sym x.node ∙ (sym (ap (λ (e : Edge). e.node) s) ∙ y.node)) (sym x.port ∙ (sym (ap (λ (e : Edge). e.port) s) ∙ y.port))) (λ z. ne (sym x.node ∙ z))).0))

  here : AreMarksSound (net_of u p.graph) (marks_of p.graph)
  here =
      record {
        last = λ a b v i t w j node at. last a b v i t w j (vertex-edged u p.graph w j a b node at) (eqb v.label w.label) refl (eqb i j) refl;
        no_result = λ a b v i t j at. no-result a b v i t j (edged u p.graph 0 j a b (at-sources u p.graph 0 1 (results p.graph) j a b at));
        alone = λ i j a b at t also. alone i j a b (edged u p.graph 0 i a b (at-sources u p.graph 0 1 (results p.graph) i a b at)) t (edged u p.graph 0 j a b (at-sources u p.graph 0 1 (results p.graph) j a b also));
      }
    where
      not-zero : (l n : ℕ) → l ≡ suc n → l ≡ 0 → ⊥
      not-zero l n a b = cc

      last : (a b : ℕ) (v : Vertex) (i : ℕ) (t : IsTakenThere (net_of u p.graph) (marks_of p.graph) a b v i) (w : Vertex) (j : ℕ) → Edged u p.graph w.label j a b → (s : Bool) → eqb v.label w.label ≡ s → (r : Bool) → eqb i j ≡ r
          → ((v.label ≡ w.label) × (i ≡ j)) ⊎ WaitsFor (nodes-of u p.graph) v.label w.label
      last a b v i t w j y true s true r = inl (eqb-true v.label w.label s, eqb-true i j r)
      last a b v i t w j y false s r q =
          let x = vertex-edged u p.graph v i a b t.node t.fills in
          inr (waiting v.label i w.label j a b x y (taken-edge u p.graph v.label i a b x t.takes) (not-zero v.label t.labelled.0 t.labelled.1) (λ e f. eqb-false v.label w.label s e))
      last a b v i t w j y true s false r =
          let x = vertex-edged u p.graph v i a b t.node t.fills in
          inr (waiting v.label i w.label j a b x y (taken-edge u p.graph v.label i a b x t.takes) (not-zero v.label t.labelled.0 t.labelled.1) (λ e f. eqb-false i j r f))

      no-result : (a b : ℕ) (v : Vertex) (i : ℕ) (t : IsTakenThere (net_of u p.graph) (marks_of p.graph) a b v i) (j : ℕ) → Edged u p.graph 0 j a b → WaitsFor (nodes-of u p.graph) v.label 0
      no-result a b v i t j y =
          let x = vertex-edged u p.graph v i a b t.node t.fills in
          waiting v.label i 0 j a b x y (taken-edge u p.graph v.label i a b x t.takes) (not-zero v.label t.labelled.0 t.labelled.1) (λ e f. not-zero v.label t.labelled.0 t.labelled.1 e)

      alone : (i j a b : ℕ) (x : Edged u p.graph 0 i a b) → marks_of p.graph 0 i ≡ true → (y : Edged u p.graph 0 j a b) → i ≡ j
      alone i j a b x t y =
          let s = taken-alone u p x.edge y.edge sound there x.there y.there (taken-edge u p.graph 0 i a b x t) (y.from ∙ sym x.from) (y.node ∙ sym x.node) in
          sym x.port ∙ (sym (ap (λ (e : Edge). e.port) s) ∙ y.port)

pub unit-marks : AreUnitMarksSound
unit-marks u p ready sound there =
    subst (λ net. AreMarksSound net (marks_of p.graph)) (sym (found-by-number u ready.formed p there)) (here u p ready sound there)

pub unit-takers : AreUnitTakersLast
unit-takers u p vs ready sound there order =
    taken-last (network u (number_of p)) vs (marks_of p.graph) (units-orderly u ready (sound-in-order u sound) (number_of p)) order (unit-marks u p ready sound there)
