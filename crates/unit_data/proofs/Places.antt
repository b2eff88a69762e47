-- The graphs of a unit by their numbers, and numbers of none.
use Rattle.std.proofs.Common.{◌≡◌, ◌==◌, ◌∙◌, ℕ, suc, ◌<◌, ◌≤◌, List, [], map, length, get_or, slice_get, option_map, Option, Some, None, Contains, Bor, refl, sym, ap, subst, arith}
use Rattle.std.proofs.lemmas.List.{get_or-map, length-map}
use Rattle.std.proofs.lemmas.Option.{get_or_from_slice_get, slice_get-map}
use Rattle.if1_graph.specs.declared.graph.Graph.{Graph}
use Rattle.if1_graph.specs.declared.graph.Unit1.{Unit1}
use Rattle.if1_graph.specs.Normal.{IsNormal}
use Rattle.if1_graph.specs.Ready.{IsReady}
use Rattle.if1_graph.specs.Units.{Place, number_of, places}
use Rattle.if1_marks.proofs.Tests.{same-number}
use Rattle.graph_meaning.proofs.Lists.{found-in}
use Rattle.graph_meaning.specs.Networks.{net_at}
use Rattle.plan_data.specs.Settings.{result_modes}
use Rattle.output_marks.specs.FiringOrderOrders.{order_by, vertices_in}
use Rattle.output_marks.proofs.Numbered.{number-at}
use Rattle.unit_laws.proofs.TypedChoices.{got-below}
use Rattle.plan_nodes.proofs.Found.{number-within, place-found}
use Rattle.plan_nodes.specs.Plans.{Tables, place_of, plain_in, plain_of, plan_of}
use Rattle.output_marks.specs.Graphs.{lent, unit_graphs}
use Rattle.graph_inputs.specs.declared.inputs.Inputs.{Inputs}
use Rattle.graph_inputs.specs.Inputs.{inputs_of}
use Rattle.plan_nodes.specs.Shares.{shares_of}
use Rattle.run_store.specs.Ports.{modes_of}
use Rattle.plan_data.specs.declared.plan.PlanData.{PlanData}
use Rattle.plan_data.specs.Stands.{AreFed}
use Rattle.plan_nodes.proofs.Made.{nothing-is}
use Rattle.plan_nodes.specs.Made.{AreMade}
use Rattle.unit_data.specs.Facts.{plain_found}
use Rattle.unit_data.specs.Graphs.{IsGraphAt}

module _ (u : Unit1) (ready : IsReady u) where
  pub none-first : place_of u 0 ≡ None
  none-first = go (place_of u 0) refl
    where
      go : (o : Option Place) → place_of u 0 ≡ o → place_of u 0 ≡ None
      go None e = e
      go (Some p) e =
          let x = found-in (λ p. number_of p == 0) (places u) p e in
          let same = same-number (number_of p) 0 x.1 in
          let low = (number-within u ready.formed p x.0).0 in
          absurd (omega (arith, same, low))

  module _ (normal : IsNormal u) where
    pub none-past : (g : ℕ) → suc (length (places u)) ≤ g → place_of u g ≡ None
    none-past g le = go (place_of u g) refl
      where
        go : (o : Option Place) → place_of u g ≡ o → place_of u g ≡ None
        go None e = e
        go (Some p) e =
            let x = found-in (λ p. number_of p == g) (places u) p e in
            let same = same-number (number_of p) g x.1 in
            let at = number-at u ready.formed normal p x.0 in
            let low = x.0.1 in
            absurd (omega (arith, same, at, low, le))

-- ---- the graph of a number

module _ (u : Unit1) (ready : IsReady u) (normal : IsNormal u) where
  -- one of those that are lent in the order of the places
  pub graph-there-at : (gs : List (Bor Graph)) → lent gs ≡ unit_graphs u → (i : ℕ) (r : Bor Graph) → i < length gs → r ≡ get_or gs i r
      → (p : Place) × (slice_get (places u) i ≡ Some p) × Contains (places u) p × (p.graph ≡ r.now) × (number_of p ≡ suc i)
  graph-there-at gs are i r lt is =
      let long = sym (length-map gs (λ (g : Bor Graph). g.now)) ∙ (ap length are ∙ length-map (places u) (λ (p : Place). p.graph)) in
      let low : i < length (places u) = omega (arith, lt, long) in
      let x = got-below (places u) i low in
      let place : Contains (places u) x.0 = (i, low, get_or_from_slice_get (places u) i x.0 x.0 x.1) in
      let here : get_or (lent gs) i r.now ≡ r.now = get_or-map (λ (g : Bor Graph). g.now) gs i r r.now lt ∙ ap (λ (g : Bor Graph). g.now) (sym is) in
      let there : get_or (unit_graphs u) i r.now ≡ x.0.graph = get_or-map (λ (p : Place). p.graph) (places u) i x.0 r.now low ∙ ap (λ (p : Place). p.graph) (get_or_from_slice_get (places u) i x.0 x.0 x.1) in
      (x.0, x.1, place, sym there ∙ (ap (λ (hs : List Graph). get_or hs i r.now) (sym are) ∙ here), number-at u ready.formed normal x.0 place)

  -- as many of its inputs as are found are no multiples
  pub plain-is : (xs : List Inputs) → xs ≡ map (inputs_of u) (places u) → (i : ℕ) (p : Place) → slice_get (places u) i ≡ Some p → Contains (places u) p → plain_of u (number_of p) ≡ plain_found (slice_get xs i)
  plain-is xs are i p at place =
      ap plain_in (place-found u ready.formed p place)
      ∙ sym (ap plain_found (ap (λ ys. slice_get ys i) are ∙ (slice_get-map (inputs_of u) (places u) i ∙ ap (option_map (inputs_of u)) at)))

-- ---- a number of no graph

module _ (D : PlanData) (u : Unit1) (os : ℕ → List ℕ) (t : Tables) (g : ℕ) (none : place_of u g ≡ None) where
  no-order : order_by u os g ≡ []
  no-order = ap (λ o. vertices_in u o (os g)) none

  no-results : (plan_of u (order_by u os) t).results g ≡ []
  no-results = ap (λ o. (net_at u o).results) none

  made : AreMade D u (order_by u os) t g (order_by u os g) [] []
  made = subst (λ vs. AreMade D u (order_by u os) t g vs [] []) (sym no-order) (nothing-is D u (order_by u os) t g)

  fed : AreFed D (plan_of u (order_by u os) t) (shares_of u (order_by u os)) g [] ((plan_of u (order_by u os) t).results g)
  fed = subst (AreFed D (plan_of u (order_by u os) t) (shares_of u (order_by u os)) g []) (sym no-results) tt

  moded : result_modes (plan_of u (order_by u os) t) (shares_of u (order_by u os)) g ≡ []
  moded = ap (modes_of ((shares_of u (order_by u os)).takes g 0) ((shares_of u (order_by u os)).copies g 0) 1) no-results

  pub none-there : IsGraphAt D u os t g None
  none-there = record { nodes = made; results = fed; modes = moded; refolded = refl; cells = 0; within = omega arith; below = tt; ends = tt }

  pub empty-there : g ≡ 0 → IsGraphAt D u os t g (Some (record { nodes = []; results = []; collects = []; refolded = 0 }))
  empty-there zero = record { nodes = made; results = fed; modes = moded; refolded = sym zero; cells = 0; within = omega arith; below = tt; ends = tt }
