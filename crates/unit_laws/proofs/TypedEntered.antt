-- Along a run each graph is entered with inputs of its types.
use Rattle.std.proofs.Common.{◌≡◌, ℕ, suc, List, [], ◌∷◌, Some, Contains, inl, inr, refl, sym, ap, subst, ◌∙◌}
use Rattle.if1_graph.specs.declared.graph.Unit1.{Unit1}
use Rattle.if1_graph.specs.Ready.{IsReady}
use Rattle.if1_graph.specs.Units.{Place, places, number_of}
use Rattle.if1_marks.proofs.Lists.{here-or-there, in-none}
use Rattle.graph_meaning.specs.Carried.{Carried}
use Rattle.graph_meaning.specs.Forms.{Form, Next, Enter, Iterate}
use Rattle.graph_meaning.specs.Demand.{Whole, Vertex, Net, at_label}
use Rattle.graph_meaning.specs.Networks.{kind_of, network}
use Rattle.graph_meaning.specs.Plain.{CarryAll}
use Rattle.unit_laws.specs.Typed.{InputsBelong, IsEntered}
use Rattle.unit_laws.specs.Entering.{Does, at_first, after_graph, after_rows, IsEnteredFrom, itself, by_node, by_row}
use Rattle.unit_laws.specs.Laws.{AreEnteredTyped}
use Rattle.unit_laws.proofs.TypedPlans.{EachInputs, AllGive, net-found, results-belong}
use Rattle.unit_laws.proofs.TypedNodePlans.{Going, KindGoes, OutputsFor, node-goes}
use Rattle.unit_laws.proofs.TypedRuns.{node-of, all-right, rows-right}

module _ (u : Unit1) (ready : IsReady u) where
  -- whatever a node does goes by its plan
  does-right : (n : ℕ) (form : Form) (ks : List Carried) (Outs : List Carried → Type 0) (plan : Going u form ks Outs) (next : Next) → Does (network u) n form ks next → plan.plan.Goes next
  does-right n form ks Outs g _ at_first = g.begins
  does-right n form ks Outs g _ (after_graph {turn = t} {g = k} {ins = ins} {stage = stage} rs d a) =
      let e = g.plan.enters t k ins stage (does-right n form ks Outs g (Enter t k ins stage) d) in
      let x = g.plan.entered k ins stage e in
      let give = (all-right u ready n k ins (network u k).results rs a x.at x.there x.net x.inputs).holds in
      g.plan.follows k ins stage e rs (results-belong u ready x.at x.there rs (subst (λ (z : Net). AllGive u ready x.at x.there z.results rs) x.net give))
  does-right n form ks Outs g _ (after_rows {g = k} {row = row} {rows = rows} {ms = ms} lists d a) =
      let e = g.plan.iterates k row rows ms (does-right n form ks Outs g (Iterate k row rows ms) d) in
      let x = g.plan.iterated k (row ∷ rows) ms e in
      g.plan.gathers k (row ∷ rows) ms e lists (rows-right u ready n k (row ∷ rows) lists a x.at x.there x.net x.inputs).holds

  pub record Planned (form : Form) (ks : List Carried) : Type 1 where
    pub outs : List Carried → Type 0
    pub going : Going u form ks outs

  -- the plan of a node of an entered graph
  node-plan : (n k : ℕ) (ins : List Carried) (x : IsEntered u k ins) (l : ℕ) (v : Vertex) (form : Form) (ks : List Carried) → at_label (network u k).nodes (suc l) ≡ Some v → v.kind ≡ Whole form → CarryAll (network u) n k ins v.ins ks → Planned form ks
  node-plan n k ins x l v form ks e f a =
      let m = node-of u ready x.at l v (subst (λ (z : Net). at_label z.nodes (suc l) ≡ Some v) x.net e) in
      let give = (all-right u ready n k ins v.ins ks a x.at x.there x.net x.inputs).holds in
      let goes = node-goes u ready x.at x.there m.node m.inside ks (kind_of u x.at.graph m.node) refl (subst (λ (z : Vertex). AllGive u ready x.at x.there z.ins ks) (sym m.is) give) in
      record { outs = OutputsFor u ready x.at x.there m.node m.inside; going = subst (λ q. KindGoes u q ks (OutputsFor u ready x.at x.there m.node m.inside)) (ap (λ (z : Vertex). z.kind) m.is ∙ f) goes }

  one-row : (at : Place) (rows : List (List Carried)) (given : List Carried) → EachInputs u at rows → Contains rows given → InputsBelong u at given
  one-row at [] given h c = in-none given c
  one-row at (row ∷ rows) given h c =
      elim (here-or-there row rows given c) [
        | inl e ↦ subst (InputsBelong u at) e h.0
        | inr later ↦ one-row at rows given h.1 later
      ]

  entered-right : (p : Place) → Contains (places u) p → (n : ℕ) (ins : List Carried) → InputsBelong u p ins → (k : ℕ) (others : List Carried) → IsEnteredFrom (network u) n (number_of p) ins k others → IsEntered u k others
  entered-right p place n ins h _ _ itself = record { at = p; there = place; net = net-found u ready p place; inputs = h }
  entered-right p place n ins h _ _ (by_node {k = k} {others = others} l v form ks turn g given stage w e f a d) =
      let x = entered-right p place n ins h k others w in
      let q = node-plan n k others x l v form ks e f a in
      q.going.plan.entered g given stage (q.going.plan.enters turn g given stage (does-right n form ks q.outs q.going (Enter turn g given stage) d))
  entered-right p place n ins h _ _ (by_row {k = k} {others = others} l v form ks g row rows ms given w e f a d c) =
      let x = entered-right p place n ins h k others w in
      let q = node-plan n k others x l v form ks e f a in
      let y = q.going.plan.iterated g (row ∷ rows) ms (q.going.plan.iterates g row rows ms (does-right n form ks q.outs q.going (Iterate g row rows ms) d)) in
      record { at = y.at; there = y.there; net = y.net; inputs = one-row y.at (row ∷ rows) given y.inputs c }

pub entered-typed : AreEnteredTyped
entered-typed u ready p place n ins h k others w = entered-right u ready p place n ins h k others w
