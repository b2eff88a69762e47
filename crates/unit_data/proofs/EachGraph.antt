-- A graph, and a loop over all graphs of a unit.
use Rattle.std.proofs.Common.{◌≡◌, ◌∙◌, ℕ, ◌+◌, ◌<◌, ◌++◌, Bool, List, [], ◌∷◌, map, length, get_or, slice_get, slice_index_or, Some, None, All, Contains, inl, inr, refl, sym, ap, subst, arith}
use Rattle.std.proofs.lemmas.Bool.{cases_lt}
use Rattle.std.proofs.lemmas.List.{get_or_append_left, get_or_push, length-append, length_push}
use Rattle.std.proofs.lemmas.Option.{get_or_from_slice_get, slice_get-get_or, slice_get_within}
use Rattle.if1_graph.specs.declared.graph.Graph.{Graph}
use Rattle.if1_graph.specs.declared.graph.Graph.TheViews.{out-Graph}
use Rattle.if1_graph.specs.declared.graph.Unit1.{Unit1}
use Rattle.if1_graph.specs.Ready.{IsReady}
use Rattle.if1_graph.specs.Units as units
use Rattle.if1_graph.specs.Units.{Place, number_of, places}
use Rattle.graph_meaning.specs.Carried.{Unfilled}
use Rattle.graph_meaning.specs.Networks.{sources}
use Rattle.graph_meaning.specs.StorageUnits.{storage_of}
use Rattle.step_code.specs.Cell.{Cell}
use Rattle.step_code.specs.Cell.TheVariants as cell
use Rattle.step_code.specs.Held.{held}
use Rattle.run_store.specs.Stored.{owned_in}
use Rattle.run_code.specs.Made.{Plan}
use Rattle.plan_data.specs.Settings.{Shares}
use Rattle.step_code.specs.declared.step.Collect.{Collect}
use Rattle.output_marks.specs.FiringOrderOrders.{order_by}
use Rattle.plan_nodes.proofs.Found.{net-is}
use Rattle.plan_nodes.specs.Plans.{Tables, plan_of}
use Rattle.plan_nodes.specs.Shares.{shares_of}
use Rattle.plan_data.specs.declared.plan.PlanData.{PlanData}
use Rattle.plan_data.specs.declared.plan.PlanGraph.{PlanGraph}
use Rattle.plan_data.specs.declared.plan.PlanNode.{PlanNode}
use Rattle.plan_data.specs.Parts.{IsBelow, literal_in}
use Rattle.plan_builder.proofs.Extents.{outputs-inside}
use Rattle.plan_builder.specs.Feeds.{HasLiterals}
use Rattle.plan_builder.specs.Outlets.{AreLaid, cells_of}
use Rattle.plan_nodes.specs.Filled.{Filled}
use Rattle.plan_nodes.specs.PortFeedsFilled.{AreFilled, AreTold}
use Rattle.plan_nodes.specs.Made.{AreMade}
use Rattle.plan_nodes.specs.Ports.{port_by}
use Rattle.unit_data.proofs.Known.{laid}
use Rattle.unit_data.proofs.Results.{ports-below, ports-fed, results-moded}
use Rattle.unit_data.specs.declared.facts.GraphFacts.{GraphFacts}
use Rattle.unit_data.specs.Facts.{AreGraphFacts}
use Rattle.unit_data.specs.Graphs.{AreAllBelow, AreGraphsAt, GoesOn, IsBegun, IsGraphAt}

-- ---- a graph

-- what was found for the results of this graph
pub record AreResultsFound (D : PlanData) (u : Unit1) (g : Graph) (K : GraphFacts) (cells : List Cell) (xs : List Filled) : Type 0 where
  pub filled : (P : Plan) (S : Shares) → literal_in D 0 ≡ Unfilled → HasLiterals cells D → AreLaid P K.outlets (P.nodes (out-Graph g).number)
      → AreFilled D P S (storage_of u) (out-Graph g).number 0 1 xs (sources u g 0 1 (units.width g 0))
  pub told : AreTold (storage_of u) (out-Graph g).number 0 1 xs
  pub below : All (λ x. IsBelow (cells_of K.outlets.widths K.outlets.order) x.feed) xs

module _ (D : PlanData) (u : Unit1) (ready : IsReady u) (os : ℕ → List ℕ) (t : Tables) (p : Place) (place : Contains (places u) p) (K : GraphFacts) (facts : AreGraphFacts u p K) (ordered : K.outlets.order ≡ os (number_of p))
    (cells : List Cell) (marks : List Bool) (on : GoesOn cells marks D) (begun : IsBegun D) (ns : List PlanNode) (cs : List Collect) (xs : List Filled) where
  abbrev P : Plan
  P = plan_of u (order_by u os) t

  abbrev S : Shares
  S = shares_of u (order_by u os)

  abbrev most : ℕ
  most = cells_of K.outlets.widths K.outlets.order

  own-graph : AreMade D u (order_by u os) t (number_of p) (order_by u os (number_of p)) ns cs → AreAllBelow (cells_of K.outlets.widths K.outlets.order) ns → AreResultsFound D u p.graph K cells xs
      → IsGraphAt D u os t (number_of p) (Some (record { nodes = ns; results = map port_by xs; collects = cs; refolded = number_of p }))
  own-graph made below found =
      let lies = laid u ready os t p place K facts ordered in
      let filled : AreFilled D P S (storage_of u) (number_of p) 0 1 xs (P.results (number_of p)) =
      subst (λ net. AreFilled D P S (storage_of u) (number_of p) 0 1 xs net.results) (sym (net-is u ready p place)) (found.filled P S begun on.literals lies) in
      let fed = ports-fed D P S (storage_of u) (number_of p) 0 1 xs (P.results (number_of p)) filled in
      record {
        nodes = made;
        results = fed;
        modes = results-moded u (order_by u os) (number_of p) D t xs fed found.told;
        refolded = refl;
        cells = most;
        within = outputs-inside D P S (number_of p) K.outlets ns (P.nodes (number_of p)) made.nodes lies;
        below = below;
        ends = ports-below most xs found.below;
      }

  pub graph-there : (g : Graph) → p.graph ≡ g → AreMade D u (order_by u os) t (number_of p) (order_by u os (number_of p)) ns cs → AreAllBelow (cells_of K.outlets.widths K.outlets.order) ns → AreResultsFound D u g K cells xs
      → IsGraphAt D u os t (number_of p) (Some (record { nodes = ns; results = map port_by xs; collects = cs; refolded = (out-Graph g).number }))
  graph-there g e made below found =
      subst (λ (h : Graph). IsGraphAt D u os t (number_of p) (Some (record { nodes = ns; results = map port_by xs; collects = cs; refolded = (out-Graph h).number }))) e
      (own-graph made below (subst (λ h. AreResultsFound D u h K cells xs) (sym e) found))

-- ---- all graphs

-- the graphs of the first numbers are made, as many as there are lists so far
pub record AreGraphsDone (u : Unit1) (orders : List (List ℕ)) (many : ℕ) (xs : List PlanGraph) (literals : List Cell) (marks : List Bool) : Type 0 where
  pub long : length xs ≡ many
  pub some : 0 < length literals
  pub begun : (D : PlanData) → GoesOn literals marks D → IsBegun D
  pub made : (D : PlanData) (t : Tables) → GoesOn literals marks D → AreGraphsAt D u (λ g. slice_index_or orders g []) t xs

-- the first literal is put first
first-begun : (D : PlanData) → HasLiterals (cell.Unfilled ∷ []) D → IsBegun D
first-begun D h = ap (λ cs. owned_in (held (get_or cs 0 cell.Empty))) h.1

pub none-done : (u : Unit1) (orders : List (List ℕ)) (literals : List Cell) (marks : List Bool) (many : ℕ) (xs : List PlanGraph) → literals ≡ cell.Unfilled ∷ [] → many ≡ 0 → xs ≡ [] → AreGraphsDone u orders many xs literals marks
none-done u orders literals marks many xs e zero none =
    record {
      long = ap length none ∙ sym zero;
      some = let one = ap length e in omega (arith, one);
      begun = λ D h. first-begun D (subst (λ cs. HasLiterals cs D) e h.literals);
      made = λ D t h. subst (AreGraphsAt D u (λ g. slice_index_or orders g []) t) (sym none) (λ g x at. absurd (let z : None ≡ Some x = at in cc));
    }

append-none : {A : Type 0} (xs : List A) → (xs ++ []) ≡ xs
append-none [] = refl
append-none (x ∷ xs) = ap (λ ys. x ∷ ys) (append-none xs)

-- data with just these goes on from them
pub goes-on : (D : PlanData) (cs : List Cell) (ms : List Bool) → D.literals ≡ cs → D.marks ≡ ms → GoesOn cs ms D
goes-on D cs ms e f = record { literals = ([], e ∙ sym (append-none cs)); marks = ([], f ∙ sym (append-none ms)) }

module _ (u : Unit1) (orders : List (List ℕ)) where
  pub graph-done : (many : ℕ) (xs : List PlanGraph) (mid_literals literals : List Cell) (mid_marks marks : List Bool) (order : List ℕ) (x : PlanGraph) (ys : List PlanGraph) → AreGraphsDone u orders many xs mid_literals mid_marks
      → ((D : PlanData) → GoesOn literals marks D → GoesOn mid_literals mid_marks D) → order ≡ slice_index_or orders (length xs) []
      → ((D : PlanData) (os : ℕ → List ℕ) (t : Tables) → GoesOn literals marks D → IsBegun D → order ≡ os (length xs) → IsGraphAt D u os t (length xs) (Some x)) → ys ≡ xs ++ x ∷ []
      → AreGraphsDone u orders (many + 1) ys literals marks
  graph-done many xs mid_literals literals mid_marks marks order x ys was kept is makes e =
      record {
        long = ap length e ∙ (length_push xs x ∙ omega (arith, was.long));
        some =
            let D : PlanData = record { graphs = []; sizes = []; extents = []; entries = []; params = []; literals = literals; marks = marks } in
            let less = (kept D (goes-on D literals marks refl refl)).literals in
            let long = ap length less.1 in
            let both = length-append mid_literals less.0 in
            let some = was.some in
            omega (arith, long, both, some);
        begun = λ D h. was.begun D (kept D h);
        made = λ D t h g y at. one D t h g y (ap (λ zs. slice_get zs g) (sym e) ∙ at);
      }
    where
      one : (D : PlanData) (t : Tables) → GoesOn literals marks D → (g : ℕ) (y : PlanGraph) → slice_get (xs ++ x ∷ []) g ≡ Some y → IsGraphAt D u (λ g. slice_index_or orders g []) t g (Some y)
      one D t h g y at =
          let lt : g < length (xs ++ x ∷ []) = slice_get_within (xs ++ x ∷ []) g y at in
          let long = length_push xs x in
          elim (cases_lt g (length xs)) [
            | inl less ↦ was.made D t (kept D h) g y (slice_get-get_or xs g y less ∙ ap Some (sym (get_or_append_left xs (x ∷ []) y g less) ∙ get_or_from_slice_get (xs ++ x ∷ []) g y y at))
            | inr ge ↦
                let eq : length xs ≡ g = omega (arith, lt, long, ge) in
                let same : x ≡ y = sym (get_or_push xs x y g eq) ∙ get_or_from_slice_get (xs ++ x ∷ []) g y y at in
                subst (λ z. IsGraphAt D u (λ g. slice_index_or orders g []) t g (Some z)) same
                (subst (λ k. IsGraphAt D u (λ g. slice_index_or orders g []) t k (Some x)) eq (makes D (λ g. slice_index_or orders g []) t h (was.begun D (kept D h)) is))
          ]
