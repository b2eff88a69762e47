-- What fills ports is right, by the edges that are found there.
use Rattle.std.proofs.Common.{◌≡◌, ℕ, zero, suc, ◌≤◌, ◌&&◌, ◌==◌, Bool, true, false, List, [], ◌∷◌, map, length, slice_get, slice_index, slice_index_or, Option, Some, None, AllPairs, Contains, refl, sym, ap, ◌∙◌, subst, arith}
use Rattle.std.specs.List.Sorted.{IsStrictlyIncreasing}
use Rattle.std.proofs.lemmas.List.{length-map}
use Rattle.std.proofs.lemmas.List.Elements.{All-contains}
use Rattle.std.proofs.lemmas.Option.{get_or_from_slice_get, slice_get_within}
use Rattle.if1_graph.specs.declared.graph.Edge.{Edge}
use Rattle.if1_graph.specs.declared.graph.Graph.{Graph}
use Rattle.if1_graph.specs.declared.graph.Graph.TheViews.{out-Graph}
use Rattle.if1_graph.specs.declared.graph.Origin.TheVariants as origin
use Rattle.if1_graph.specs.declared.graph.Unit1.{Unit1}
use Rattle.if1_graph.specs.Formed.{IsOrigin, want_at}
use Rattle.if1_graph.specs.Normal.{IsNormal, IsNormalGraph, Precedes}
use Rattle.if1_graph.specs.Ports.{IsThere, IsUpTo, inputs, outputs}
use Rattle.if1_graph.specs.Ready.{IsReady}
use Rattle.if1_graph.specs.Units.{Place, edge_into, label_of, number_of, places}
use Rattle.if1_marks.proofs.Tests.{same-number}
use Rattle.if1_order.proofs.Members.{contains_got, got_contained}
use Rattle.graph_meaning.proofs.Lists.{found-in}
use Rattle.graph_meaning.specs.Networks.{kind_of, source_by, source_from}
use Rattle.graph_meaning.specs.StorageUnits.{carries_aggregate, storage_of, takes, test_in}
use Rattle.unit_laws.proofs.TypedEdges.{edge-formed, edge-there, found-edge}
use Rattle.unit_plan.proofs.Found.{place-found}
use Rattle.unit_plan.proofs.Outputs.{outputs-known}
use Rattle.unit_plan.specs.Plans.{outputs_in}
use Rattle.run_cells.specs.declared.cell.Cell.{Cell}
use Rattle.run_code.specs.Made.{Plan}
use Rattle.made_store.specs.Settings.{Shares}
use Rattle.graph_meaning.specs.Carried.{Unfilled}
use Rattle.graph_meaning.specs.Demand.{Fixed}
use Rattle.plan_data.specs.declared.plan.PlanData.{PlanData}
use Rattle.plan_data.specs.Parts.{IsBelow, literal_in}
use Rattle.plan_data.specs.Stands.{IsFed}
use Rattle.plan_builder.specs.declared.outlets.Outlets.{Outlets}
use Rattle.plan_builder.specs.Feeds.{HasLiterals, IsInput, IsSource}
use Rattle.plan_builder.specs.Laws.{AreOfGraph}
use Rattle.plan_builder.specs.Outlets.{AreLaid, cells_of}
use Rattle.storage_flags.specs.Flags.{AreFlags}
use Rattle.storage_flags.proofs.Found.{marks-tell}
use Rattle.port_feeds.specs.declared.filled.Filled.{Filled}
use Rattle.port_feeds.specs.Filled.{IsGraphOf, IsPort, IsTold}

-- ---- sources

mapped-at : {A : Type 0} (f : A → ℕ) (xs : List A) (k : ℕ) (a : A) → slice_get xs k ≡ Some a → slice_index (map f xs) k ≡ f a
mapped-at f [] k a e = absurd (let x : None ≡ Some a = e in cc)
mapped-at f (x ∷ xs) zero a e = let s : x ≡ a = cc in ap f s
mapped-at f (x ∷ xs) (suc k) a e = mapped-at f xs k a e

up-to : (o : Option ℕ) (n q : ℕ) → o ≡ Some n → IsUpTo o q → q ≤ n
up-to None n q e h = absurd (let x : None ≡ Some n = e in cc)
up-to (Some m) n q e h = let s : m ≡ n = cc in omega (arith, s, h)

no-more : (b : Bool) → b && false ≡ false
no-more true = refl
no-more false = refl

turned : (a b : Bool) → a && b ≡ b && a
turned true true = refl
turned true false = refl
turned false true = refl
turned false false = refl

module _ (u : Unit1) (ready : IsReady u) (p : Place) (there : Contains (places u) p) where
  -- an edge comes from an output or input that is there
  from-there : (x : Outlets) → AreOfGraph u p x → (e : Edge) → Contains (out-Graph p.graph).edges e → (m q : ℕ) → e.from ≡ origin.Port m q → IsSource x m q
  from-there x of e c zero q from = let o = subst (λ y. IsOrigin u p.graph e y) from (edge-formed u ready p there e c).source in o.1.0
  from-there x of e c (suc m) q from =
      let nodes = (out-Graph p.graph).nodes in
      let o = subst (λ y. IsOrigin u p.graph e y) from (edge-formed u ready p there e c).source in
      let t = subst (IsThere u p) from (edge-there u ready p there e c) in
      let inside = found-in (λ n. label_of n == suc m) nodes t.0 t.1 in
      let k = got_contained nodes t.0 inside.0 in
      let within = slice_get_within nodes k.0 t.0 k.1 in
      let long = ap length of.labels ∙ length-map nodes label_of in
      let labelled = ap (λ z. slice_index z k.0) of.labels ∙ (mapped-at label_of nodes k.0 t.0 k.1 ∙ same-number (label_of t.0) (suc m) inside.1) in
      let wide = ap (λ z. slice_index z k.0) of.widths ∙ mapped-at (λ n. outputs_in u (kind_of u p.graph n)) nodes k.0 t.0 k.1 in
      let up = up-to (outputs u p.graph t.0) (outputs_in u (kind_of u p.graph t.0)) q (outputs-known u ready p there t.0 inside.0) t.2 in
      (k.0, (omega (arith, within, long), labelled), o.1.0, omega (arith, up, wide))

  -- one from the boundary comes from an input of the graph
  input-there : (e : Edge) → Contains (out-Graph p.graph).edges e → (q : ℕ) → e.from ≡ origin.Port 0 q → IsUpTo (inputs u p) q
  input-there e c q from = subst (IsThere u p) from (edge-there u ready p there e c)

  -- ---- what is known of ports

  none-aggregate : (l port : ℕ) → edge_into p.graph l port ≡ None → (storage_of u).is_aggregate (number_of p) l port ≡ false
  none-aggregate l port none =
      ap (λ o. test_in o (λ g. carries_aggregate u (edge_into g l port))) (place-found u ready.formed p there) ∙ ap (carries_aggregate u) none

  told-none : (l port : ℕ) (f : Filled) → edge_into p.graph l port ≡ None → f.takes ≡ false → f.consumed ≡ false → f.aggregate ≡ false → IsTold (storage_of u) (number_of p) l port f
  told-none l port f none t c a =
      record {
        takes = t ∙ sym (ap (λ o. test_in o (λ g. takes (edge_into g l port))) (place-found u ready.formed p there) ∙ ap takes none);
        consumed = c ∙ sym (ap (λ b. (storage_of u).is_given (number_of p) l port && b) (none-aggregate l port none) ∙ no-more ((storage_of u).is_given (number_of p) l port));
        aggregate = a ∙ sym (none-aggregate l port none);
      }

  told-some : (l port i : ℕ) (e : Edge) (f : Filled) (aggregates consumed : List (List Bool)) → edge_into p.graph l port ≡ Some e → slice_get (out-Graph p.graph).edges i ≡ Some e
      → AreFlags u (storage_of u).is_aggregate aggregates → AreFlags u (λ k l port. (storage_of u).is_aggregate k l port && (storage_of u).is_given k l port) consumed
      → f.takes ≡ e.takes → f.consumed ≡ slice_index_or (slice_index_or consumed (number_of p) []) i false → f.aggregate ≡ slice_index_or (slice_index_or aggregates (number_of p) []) i false
      → IsTold (storage_of u) (number_of p) l port f
  told-some l port i e f aggregates consumed some at flags consumers t c a =
      record {
        takes = t ∙ sym (marks-tell u ready.formed p there l port e some);
        consumed = c ∙ (get_or_from_slice_get (slice_index_or consumed (number_of p) []) i ((storage_of u).is_aggregate (number_of p) l port && (storage_of u).is_given (number_of p) l port) false (consumers p there l port i e some at) ∙ turned ((storage_of u).is_aggregate (number_of p) l port) ((storage_of u).is_given (number_of p) l port));
        aggregate = a ∙ get_or_from_slice_get (slice_index_or aggregates (number_of p) []) i ((storage_of u).is_aggregate (number_of p) l port) false (flags p there l port i e some at);
      }

-- ---- order

module _ (u : Unit1) (normal : IsNormal u) (g : Graph) (x : Outlets) (of : IsGraphOf u g x) where
  normal-at : IsNormalGraph u of.0
  normal-at = All-contains (IsNormalGraph u) (places u) of.0 normal of.1

  pub edges-in-order : AllPairs Precedes (out-Graph g).edges
  edges-in-order = subst (λ h. AllPairs Precedes (out-Graph h).edges) of.2 normal-at.edges

  pub nodes-in-order : IsStrictlyIncreasing (map label_of (out-Graph g).nodes)
  nodes-in-order = subst (λ h. IsStrictlyIncreasing (map label_of (out-Graph h).nodes)) of.2 normal-at.nodes

-- ---- ports

module _ (u : Unit1) (ready : IsReady u) (g : Graph) (x : Outlets) (of : IsGraphOf u g x) where
  pub source-there : (i : ℕ) (e : Edge) → slice_get (out-Graph g).edges i ≡ Some e → (m q : ℕ) → e.from ≡ origin.Port m q → IsSource x m q
  source-there i e at m q from =
      subst (λ h. Contains (out-Graph h).edges e → IsSource x m q) of.2 (λ c. from-there u ready of.0 of.1 x of.3 e c m q from) (contains_got (out-Graph g).edges i e at)

  pub right-none : (cs : List Cell) (l port : ℕ) (f : Filled) → edge_into g l port ≡ None
      → ((D : PlanData) (P : Plan) (S : Shares) (n : ℕ) → literal_in D 0 ≡ Unfilled → IsFed D P S n f.feed (Fixed Unfilled)) → ((cells : ℕ) → IsBelow cells f.feed) → ((many : Option ℕ) → IsInput many f.feed)
      → f.takes ≡ false → f.consumed ≡ false → f.aggregate ≡ false → IsPort u g x cs l port f
  right-none cs l port f none fed below input t c a =
      record {
        fed = λ D P S n formed lits laid. subst (λ o. IsFed D P S n f.feed (source_by u (want_at g l port) o)) (sym none) (fed D P S n formed);
        below = below (cells_of x.widths x.order);
        there = λ p h same. input (inputs u p);
        told = subst (λ h. edge_into h l port ≡ None → IsTold (storage_of u) (out-Graph h).number l port f) of.2 (λ none. told-none u ready of.0 of.1 l port f none t c a) none;
      }

  pub right-some : (cs : List Cell) (l port i : ℕ) (e : Edge) (f : Filled) (aggregates consumed : List (List Bool)) → edge_into g l port ≡ Some e → slice_get (out-Graph g).edges i ≡ Some e
      → AreFlags u (storage_of u).is_aggregate aggregates → AreFlags u (λ k l port. (storage_of u).is_aggregate k l port && (storage_of u).is_given k l port) consumed
      → ((D : PlanData) (P : Plan) (S : Shares) (n : ℕ) → HasLiterals cs D → AreLaid P x (P.nodes n) → IsFed D P S n f.feed (source_from u (want_at g e.node e.port) e.ty e.from))
      → IsBelow (cells_of x.widths x.order) f.feed → ((many : Option ℕ) → ((q : ℕ) → e.from ≡ origin.Port 0 q → IsUpTo many q) → IsInput many f.feed)
      → f.takes ≡ e.takes → f.consumed ≡ slice_index_or (slice_index_or consumed (out-Graph g).number []) i false → f.aggregate ≡ slice_index_or (slice_index_or aggregates (out-Graph g).number []) i false
      → IsPort u g x cs l port f
  right-some cs l port i e f aggregates consumed some at flags consumers fed below input t c a =
      let s = subst (λ h. edge_into h l port ≡ Some e → (e.node ≡ l) × (e.port ≡ port)) of.2 (λ some. let r = found-edge u ready of.0 of.1 l port e some in (r.1, r.2)) some in
      let w = ap (λ n. want_at g n e.port) s.0 ∙ ap (want_at g l) s.1 in
      record {
        fed = λ D P S n formed lits laid.
            subst (λ o. IsFed D P S n f.feed (source_by u (want_at g l port) o)) (sym some)
            (subst (λ w. IsFed D P S n f.feed (source_from u w e.ty e.from)) w (fed D P S n lits laid));
        below = below;
        there = λ p h same. input (inputs u p) (λ q from. input-there u ready p h e (subst (λ h. Contains (out-Graph h).edges e) (sym same) (contains_got (out-Graph g).edges i e at)) q from);
        told =
            subst (λ h. edge_into h l port ≡ Some e → slice_get (out-Graph h).edges i ≡ Some e → f.consumed ≡ slice_index_or (slice_index_or consumed (out-Graph h).number []) i false → f.aggregate ≡ slice_index_or (slice_index_or aggregates (out-Graph h).number []) i false → IsTold (storage_of u) (out-Graph h).number l port f) of.2
            (λ some at c a. told-some u ready of.0 of.1 l port i e f aggregates consumed some at flags consumers t c a) some at c a;
      }
