-- Values belong to their types along a run.
use Rattle.std.proofs.Common.{◌≡◌, ℕ, zero, suc, ◌-◌, ◌≤◌, List, ◌∷◌, get_or, option_map, Option, Some, None, Contains, refl, sym, ap, subst, ◌∙◌, arith, ◌==◌}
use Rattle.std.specs.Prelude.{slice_get}
use Rattle.if1_graph.specs.declared.graph.Edge.{Edge}
use Rattle.if1_graph.specs.declared.graph.Graph.TheViews.{out-Graph}
use Rattle.if1_graph.specs.declared.graph.Node.{Node}
use Rattle.if1_graph.specs.declared.graph.Origin.TheVariants as origin
use Rattle.if1_graph.specs.declared.graph.Unit1.{Unit1}
use Rattle.if1_graph.specs.Formed.{IsOrigin, want_at}
use Rattle.if1_graph.specs.Ready.{IsReady}
use Rattle.if1_graph.specs.Typing.{IsGiven, FitsInput}
use Rattle.if1_graph.specs.Types.{Sort, sort_at}
use Rattle.if1_graph.specs.Units.{label_of, node_at, Place, places, number_of}
use Rattle.if1_marks.proofs.Lists.{found-in}
use Rattle.if1_marks.proofs.Tests.{same-number}
use Rattle.graph_meaning.specs.Carried.{Carried, Unfilled}
use Rattle.graph_meaning.specs.Forms.{Form, Next, next_of, first, follow, gather}
use Rattle.graph_meaning.specs.Demand.{Source, Port, Fixed, Kind, Vertex, Net, at_label}
use Rattle.graph_meaning.specs.Networks.{kind_of, vertex_of, net_of, network, source_at}
use Rattle.graph_meaning.specs.Plain.{Carries, fixed, input, output, CarryAll, no_port, port, Outputs, simple, whole, Leads, leaves, enters, enters_deeper, iterates, MeanAll, no_row, a_row}
use Rattle.graph_meaning.proofs.Units.{at-node}
use Rattle.unit_laws.specs.Typed.{Belongs, Fills, InputsBelong, valued}
use Rattle.unit_laws.specs.Laws.{ArePortsTyped, AreNodesTyped, AreResultsTyped}
use Rattle.unit_laws.proofs.TypeLists.{some-same}
use Rattle.unit_laws.proofs.TypedEdges.{edge-formed, valued-is, wanted-here, port-gives, SourceGives, Leaving}
use Rattle.unit_laws.proofs.TypedPlans.{EachInputs, EachResults, Plan, SourceAt, AllGive, net-found, results-belong}
use Rattle.unit_laws.proofs.TypedNodePlans.{KindGoes, OutputsFor, node-goes}

fixed-same : (c d : Carried) → Fixed c ≡ Fixed d → c ≡ d
fixed-same c d e = cc

source-same : (a b : Source) → Some a ≡ Some b → a ≡ b
source-same a b e = cc

no-fixed : (l p : ℕ) (c : Carried) → Port l p ≡ Fixed c → ⊥
no-fixed l p c e = cc

-- a fact among greater types
pub record Up (A : Type 0) : Type 1 where
  pub holds : A

module _ (u : Unit1) (ready : IsReady u) where
  -- what something fixed carries
  carries-fixed : (m k : ℕ) (ins : List Carried) (o : Source) (d : Carried) → Carries (network u) m k ins o d → (c : Carried) → o ≡ Fixed c → d ≡ c
  carries-fixed _ _ _ _ _ (fixed m k ins d) c e = fixed-same d c e
  carries-fixed _ _ _ _ _ (input m k ins p) c e = absurd (no-fixed zero p c e)
  carries-fixed _ _ _ _ _ (output m k ins l p v ks rs f a b) c e = absurd (no-fixed (suc l) p c e)

  -- the node of a label
  pub record IsNodeAt (p : Place) (l : ℕ) (v : Vertex) : Type 0 where
    pub node : Node
    pub inside : Contains (out-Graph p.graph).nodes node
    pub label : label_of node ≡ suc l
    pub is : vertex_of u p.graph node ≡ v

  pub node-of : (p : Place) (l : ℕ) (v : Vertex) → at_label (net_of u p.graph).nodes (suc l) ≡ Some v → IsNodeAt p l v
  node-of p l v e = go (node_at (out-Graph p.graph).nodes (suc l)) refl (sym (at-node u p.graph (out-Graph p.graph).nodes (suc l)) ∙ e)
    where
      go : (o : Option Node) → node_at (out-Graph p.graph).nodes (suc l) ≡ o → option_map (vertex_of u p.graph) o ≡ Some v → IsNodeAt p l v
      go None f h = absurd cc
      go (Some n) f h =
          let r = found-in (λ n. label_of n == suc l) (out-Graph p.graph).nodes n f in
          record { node = n; inside = r.0; label = same-number (label_of n) (suc l) r.1; is = some-same (vertex_of u p.graph n) v h }

  module _ (p : Place) (place : Contains (places u) p) where
    -- ports count from 1
    port-from-one : (l q : ℕ) (s : Sort) → Leaving u ready p place l q s → 1 ≤ q
    port-from-one l q s x = label-of x.edge (x.there, x.from)
      where
        label-of : (e : Edge) → Contains (out-Graph p.graph).edges e × (e.from ≡ origin.Port l q) → 1 ≤ q
        label-of e h = (subst (IsOrigin u p.graph e) h.1 (edge-formed u ready p place e h.0).source).1.0

    leaving-given : (l q : ℕ) (s : Sort) → Leaving u ready p place l q s → IsGiven u p (origin.Port l q) s
    leaving-given l q s x = x.given

    input-belongs : (ins : List Carried) → InputsBelong u p ins → (q : ℕ) (s : Sort) → 1 ≤ q → FitsInput u p.graph p.home q s → Belongs s (get_or ins (q - 1) Unfilled)
    input-belongs ins h zero s le f = absurd (omega (arith, le))
    input-belongs ins h (suc i) s le f = let less : suc i - 1 ≡ i = omega arith in subst (λ q. Belongs s (get_or ins q Unfilled)) (sym less) (h i s f)

    output-belongs : (n : Node) (inside : Contains (out-Graph p.graph).nodes n) (l : ℕ) → label_of n ≡ suc l → (rs : List Carried) → OutputsFor u ready p place n inside rs → (q : ℕ) (s : Sort) → 1 ≤ q → Leaving u ready p place (suc l) q s → Belongs s (get_or rs (q - 1) Unfilled)
    output-belongs n inside l e rs h zero s le x = absurd (omega (arith, le))
    output-belongs n inside l e rs h (suc i) s le x =
        let less : suc i - 1 ≡ i = omega arith in
        subst (λ q. Belongs s (get_or rs q Unfilled)) (sym less) (h.typed i s (subst (λ m. Leaving u ready p place m (suc i) s) (sym e) x))

    -- one port before others
    joined : (m k : ℕ) (ins : List Carried) (o : Source) (os : List Source) (c : Carried) (cs : List Carried) → Carries (network u) m k ins o c → ((s : Sort) → SourceGives u ready p place o s → Belongs s c) → AllGive u ready p place os cs → AllGive u ready p place (o ∷ os) (c ∷ cs)
    joined m k ins o os c cs a here rest = record { count = ap suc rest.count; fills = fill; fixed = fix }
      where
        fill : (at : ℕ → Option Sort) → ((i : ℕ) (s : Sort) → at i ≡ Some s → SourceAt u ready p place (o ∷ os) i s) → Fills at (c ∷ cs)
        fill at x zero s f = here s (x 0 s f)
        fill at x (suc i) s f = rest.fills (λ i. at (suc i)) (λ i s g. x (suc i) s g) i s f

        fix : (i : ℕ) (d : Carried) → slice_get (o ∷ os) i ≡ Some (Fixed d) → get_or (c ∷ cs) i Unfilled ≡ d
        fix zero d f = carries-fixed m k ins o c a d (source-same o (Fixed d) f)
        fix (suc i) d f = rest.fixed i d f

  mutual
    carries-right : (m k : ℕ) (ins : List Carried) (o : Source) (c : Carried) → Carries (network u) m k ins o c → (p : Place) (place : Contains (places u) p) → network u k ≡ net_of u p.graph → InputsBelong u p ins → (s : Sort) → SourceGives u ready p place o s → Up (Belongs s c)
    carries-right _ _ _ _ _ (fixed m k ins c) p place e h s x = record { holds = x }
    carries-right _ _ _ _ _ (input m k ins q) p place e h s x = record { holds = input-belongs p place ins h q s (port-from-one p place zero q s x) (leaving-given p place zero q s x) }
    carries-right _ _ _ _ _ (output m k ins l q v ks rs f a b) p place e h s x =
        let n = node-of p l v (subst (λ (z : Net). at_label z.nodes (suc l) ≡ Some v) e f) in
        let give = (all-right m k ins v.ins ks a p place e h).holds in
        let goes = node-goes u ready p place n.node n.inside ks (kind_of u p.graph n.node) refl (subst (λ (z : Vertex). AllGive u ready p place z.ins ks) (sym n.is) give) in
        let out = outputs-right m v.kind ks rs b (OutputsFor u ready p place n.node n.inside) (subst (λ (z : Vertex). KindGoes u z.kind ks (OutputsFor u ready p place n.node n.inside)) n.is goes) in
        record { holds = output-belongs p place n.node n.inside l n.label rs out q s (port-from-one p place (suc l) q s x) x }

    pub all-right : (m k : ℕ) (ins : List Carried) (os : List Source) (cs : List Carried) → CarryAll (network u) m k ins os cs → (p : Place) (place : Contains (places u) p) → network u k ≡ net_of u p.graph → InputsBelong u p ins → Up (AllGive u ready p place os cs)
    all-right _ _ _ _ _ (no_port m k ins) p place e h = record { holds = record { count = refl; fills = λ at x i s f. absurd (x i s f); fixed = λ i c f. absurd cc } }
    all-right _ _ _ _ _ (port m k ins o os c cs a b) p place e h =
        record { holds = joined p place m k ins o os c cs a (λ s x. (carries-right m k ins o c a p place e h s x).holds) (all-right m k ins os cs b p place e h).holds }

    outputs-right : (m : ℕ) (kind : Kind) (ks rs : List Carried) → Outputs (network u) m kind ks rs → (Outs : List Carried → Type 0) → KindGoes u kind ks Outs → Outs rs
    outputs-right _ _ _ _ (simple m row shape ks) Outs g = g.holds
    outputs-right _ _ _ _ (whole m form ks rs a) Outs g = leads-right m form ks (next_of (first form ks)) rs a Outs g.plan g.begins

    leads-right : (m : ℕ) (form : Form) (ks : List Carried) (next : Next) (rs : List Carried) → Leads (network u) m form ks next rs → (Outs : List Carried → Type 0) (plan : Plan u form ks Outs) → plan.Goes next → Outs rs
    leads-right _ _ _ _ _ (leaves m form ks rs) Outs plan g = plan.leaves rs g
    leads-right _ _ _ _ _ (enters m form ks t k ins stage ms rs d a b) Outs plan g =
        let e = plan.enters t k ins stage g in
        let x = plan.entered k ins stage e in
        let give = (all-right m k ins (network u k).results ms a x.at x.there x.net x.inputs).holds in
        let r = results-belong u ready x.at x.there ms (subst (λ (z : Net). AllGive u ready x.at x.there z.results ms) x.net give) in
        leads-right m form ks (follow form ks stage ms) rs b Outs plan (plan.follows k ins stage e ms r)
    leads-right _ _ _ _ _ (enters_deeper m form ks t k ins stage ms rs d a b) Outs plan g =
        let e = plan.enters t k ins stage g in
        let x = plan.entered k ins stage e in
        let give = (all-right m k ins (network u k).results ms a x.at x.there x.net x.inputs).holds in
        let r = results-belong u ready x.at x.there ms (subst (λ (z : Net). AllGive u ready x.at x.there z.results ms) x.net give) in
        leads-right m form ks (follow form ks stage ms) rs b Outs plan (plan.follows k ins stage e ms r)
    leads-right _ _ _ _ _ (iterates m form ks k row rows ms lists rs a b) Outs plan g =
        let e = plan.iterates k row rows ms g in
        let x = plan.iterated k (row ∷ rows) ms e in
        leads-right m form ks (gather form ks ms lists) rs b Outs plan (plan.gathers k (row ∷ rows) ms e lists (rows-right m k (row ∷ rows) lists a x.at x.there x.net x.inputs).holds)

    pub rows-right : (m k : ℕ) (rows lists : List (List Carried)) → MeanAll (network u) m k rows lists → (p : Place) (place : Contains (places u) p) → network u k ≡ net_of u p.graph → EachInputs u p rows → Up (EachResults u p lists)
    rows-right _ _ _ _ (no_row m k) p place e h = record { holds = tt }
    rows-right _ _ _ _ (a_row m k ins rs rows lists a b) p place e h = record {
      holds = (
        results-belong u ready p place rs (subst (λ (z : Net). AllGive u ready p place z.results rs) e (all-right m k ins (network u k).results rs a p place e h.0).holds),
        (rows-right m k rows lists b p place e h.1).holds,
      );
    }

-- ---- the laws

pub ports-typed : ArePortsTyped
ports-typed u ready p place n ins h l q s e c x =
    (carries-right u ready n (number_of p) ins (source_at u p.graph l q) c x p place (net-found u ready p place) h s (port-gives u ready p place l q s e)).holds

-- an edge to a port that takes values leaves the port from which it comes
leaving-edge : (u : Unit1) (ready : IsReady u) (p : Place) (place : Contains (places u) p) (l q : ℕ) (s : Sort) (e : Edge) → Contains (out-Graph p.graph).edges e → e.from ≡ origin.Port l q → valued (want_at p.graph e.node e.port) (sort_at u.types e.ty) ≡ Some s → Leaving u ready p place l q s
leaving-edge u ready p place l q s e c from f =
    let v = valued-is u ready p place (want_at p.graph e.node e.port) (sort_at u.types e.ty) s f in
    let w = wanted-here u ready p place e c v.0 in
    record { edge = e; there = c; from = from; sort = v.1; given = subst (λ o. IsGiven u p o s) from (subst (IsGiven u p e.from) (some-same w.0 s (sym w.1 ∙ v.1)) w.2.given) }

pub nodes-typed : AreNodesTyped
nodes-typed u ready p place n ins h m inside ks rs a b =
    let give = (all-right u ready n (number_of p) ins (vertex_of u p.graph m).ins ks a p place (net-found u ready p place) h).holds in
    let out = outputs-right u ready n (kind_of u p.graph m) ks rs b (OutputsFor u ready p place m inside) (node-goes u ready p place m inside ks (kind_of u p.graph m) refl give) in
    record { count = out.long; typed = λ i s e there from f. out.typed i s (leaving-edge u ready p place (label_of m) (suc i) s e there from f) }

pub results-typed : AreResultsTyped
results-typed u ready p place n ins h rs m =
    results-belong u ready p place rs (subst (λ (z : Net). AllGive u ready p place z.results rs) (net-found u ready p place) (all-right u ready n (number_of p) ins (network u (number_of p)).results rs m p place (net-found u ready p place) h).holds)
