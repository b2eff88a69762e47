-- What is known of a node, by what was found for it.
use Rattle.std.proofs.Common.{◌≡◌, ◌∙◌, ℕ, zero, suc, ◌<◌, ◌++◌, Bool, List, [], ◌∷◌, map, length, get_or, slice_get, slice_index, Some, None, Contains, refl, sym, ap, subst, arith, append_assoc}
use Rattle.std.proofs.lemmas.List.{get_or_default, length-map}
use Rattle.std.proofs.lemmas.Option.{get_or_from_slice_get, slice_get_within}
use Rattle.if1_graph.specs.declared.graph.Graph.{Graph}
use Rattle.if1_graph.specs.declared.graph.Graph.TheViews.{out-Graph}
use Rattle.if1_graph.specs.declared.graph.Node.{Node}
use Rattle.if1_graph.specs.declared.graph.Unit1.{Unit1}
use Rattle.if1_graph.specs.declared.op.Simple.{Simple}
use Rattle.if1_graph.specs.Ready.{IsReady}
use Rattle.if1_graph.specs.Units as units
use Rattle.if1_graph.specs.Units.{Place, label_of, number_of, places}
use Rattle.graph_meaning.specs.Carried.{Unfilled}
use Rattle.graph_meaning.specs.Demand.{Plain}
use Rattle.graph_meaning.specs.NodeValues.{Shape}
use Rattle.graph_meaning.specs.Networks.{kind_of, sources}
use Rattle.graph_meaning.specs.Storage.{Storage}
use Rattle.graph_meaning.specs.StorageUnits.{is_taken_on, storage_of, test_in}
use Rattle.step_code.specs.Cell.{Cell}
use Rattle.run_code.specs.Made.{Plan}
use Rattle.plan_data.specs.Settings.{Shares}
use Rattle.may_take.specs.Ports.{has}
use Rattle.output_marks.specs.FiringOrderOrders.{order_by}
use Rattle.plan_nodes.proofs.Found.{place-found}
use Rattle.plan_nodes.specs.Plans.{Tables, outputs_in, plan_of}
use Rattle.plan_nodes.specs.Shares.{shares_of}
use Rattle.plan_nodes.specs.Counts.{AreOutputsTold}
use Rattle.plan_data.specs.declared.plan.PlanData.{PlanData}
use Rattle.plan_data.specs.declared.plan.Work.{Work}
use Rattle.plan_data.specs.declared.plan.Work.TheVariants as work
use Rattle.plan_data.specs.Parts.{literal_in}
use Rattle.plan_data.specs.Parts as parts
use Rattle.plan_builder.proofs.Units.{outlets-laid}
use Rattle.plan_builder.specs.Feeds.{HasLiterals}
use Rattle.plan_builder.specs.Outlets.{AreLaid}
use Rattle.plan_nodes.specs.PortFeedsFilled.{AreFilled, AreTold}
use Rattle.plan_nodes.specs.Tasks.{IsCallOrWhole, task_kind}
use Rattle.plan_nodes.specs.Tables as works
use Rattle.output_marks.specs.Marks as marks
use Rattle.plan_nodes.specs.declared.parts.NodeParts.{NodeParts}
use Rattle.plan_nodes.specs.Made.{AreOutputsMarked, IsOfNode}
use Rattle.unit_data.specs.declared.facts.GraphFacts.{GraphFacts}
use Rattle.unit_data.specs.Facts.{AreFactsAt, AreGraphFacts}
use Rattle.unit_data.specs.Graphs.{HasMarks}

-- ---- the outlets of a graph

module _ (u : Unit1) (ready : IsReady u) (os : ℕ → List ℕ) (t : Tables) (p : Place) (place : Contains (places u) p) (K : GraphFacts) (facts : AreGraphFacts u p K) (ordered : K.outlets.order ≡ os (number_of p)) where
  abbrev pub own_plan : Plan
  own_plan = plan_of u (order_by u os) t

  pub laid : AreLaid (plan_of u (order_by u os) t) K.outlets ((plan_of u (order_by u os) t).nodes (number_of p))
  laid = outlets-laid u os t p K.outlets ready place facts.outlets facts.own ordered

-- a place of the order is that of a node
pub place-inside : (u : Unit1) (g : Graph) (K : GraphFacts) → works.IsGraphOf u g → AreFactsAt u g K → (k : ℕ) → Contains K.outlets.order k → k < length (out-Graph g).nodes
place-inside u g K here known k c =
    let F = known here.0 here.1 here.2 in
    let lt = (F.outlets.inside k).0 c in
    let long : length K.outlets.labels ≡ length (out-Graph here.0.graph).nodes = ap length F.own.labels ∙ length-map (out-Graph here.0.graph).nodes label_of in
    let same : length (out-Graph here.0.graph).nodes ≡ length (out-Graph g).nodes = ap (λ (h : Graph). length (out-Graph h).nodes) here.2 in
    omega (arith, lt, long, same)

pub item-inside : (u : Unit1) (g : Graph) (K : GraphFacts) → works.IsGraphOf u g → AreFactsAt u g K → (items : List ℕ) (i : ℕ) → items ≡ K.outlets.order → i < length items → get_or items i 0 < length (out-Graph g).nodes
item-inside u g K here known items i e lt =
    let k = get_or items i 0 in
    place-inside u g K here known k (subst (λ xs. Contains xs k) e (i, lt, get_or_default items i k 0 lt))

-- ---- marks

pub marks-behind : (D : PlanData) (old new more : List Bool) → new ≡ old ++ more → HasMarks new D → HasMarks old D
marks-behind D old new more e h = (more ++ h.0, h.1 ∙ (ap (λ ms. ms ++ h.0) e ∙ append_assoc old more h.0))

-- those of a simple node
pub plain-marked : (u : Unit1) (ready : IsReady u) (D : PlanData) (g : Graph) (label width : ℕ) (row : Simple) (shape : Shape) (new : List Bool) (first : ℕ) → marks.AreTold u g label width row new first → HasMarks new D
    → (p : Place) → Contains (places u) p → p.graph ≡ g → (n : Node) → Contains (out-Graph g).nodes n → label_of n ≡ label → kind_of u g n ≡ Plain row shape
    → AreOutputsMarked (storage_of u) (number_of p) label D.marks width first (kind_of u g n)
plain-marked u ready D g label width row shape new first told has p place same n inside is kind =
    subst (AreOutputsMarked (storage_of u) (number_of p) label D.marks width first) (sym kind)
    (subst (λ ms. AreOutputsTold (storage_of u) (number_of p) label ms width first row) (sym has.1) (told ready p place same n inside is shape kind has.0))

-- a Call or compound node has none
pub whole-marked : (s : Storage) (g l : ℕ) (ms : List Bool) (w first : ℕ) (x : Work) → IsCallOrWhole x → AreOutputsMarked s g l ms w first (parts.kind_of x w)
whole-marked s g l ms w first (work.Plain row shape writes copies) h = absurd h
whole-marked s g l ms w first (work.Call f) h = tt
whole-marked s g l ms w first (work.Select e gs) h = tt
whole-marked s g l ms w first (work.TagCase gs) h = tt
whole-marked s g l ms w first (work.LoopA p) h = tt
whole-marked s g l ms w first (work.LoopB p) h = tt
whole-marked s g l ms w first (work.ForAll e b r m) h = tt

-- ---- all of it

some-same : {A : Type 0} (a b : A) → Some a ≡ Some b → a ≡ b
some-same a b e = cc

mapped-at : {A : Type 0} (f : A → ℕ) (xs : List A) (k : ℕ) (a : A) → slice_get xs k ≡ Some a → slice_index (map f xs) k ≡ f a
mapped-at f [] k a e = absurd (let x : None ≡ Some a = e in cc)
mapped-at f (x ∷ xs) zero a e = ap f (some-same x a e)
mapped-at f (x ∷ xs) (suc k) a e = mapped-at f xs k a e

got-in : {A : Type 0} (xs : List A) (k : ℕ) (a : A) → slice_get xs k ≡ Some a → Contains xs a
got-in xs k a e = (k, slice_get_within xs k a e, get_or_from_slice_get xs k a a e)

-- what was found for the node at a place of this graph
pub record IsFound (D : PlanData) (u : Unit1) (g : Graph) (K : GraphFacts) (cells : List Cell) (k l : ℕ) (x : NodeParts) : Type 0 where
  pub label : (n : Node) → slice_get (out-Graph g).nodes k ≡ Some n → l ≡ label_of n
  pub kind : (n : Node) → slice_get (out-Graph g).nodes k ≡ Some n → kind_of u g n ≡ task_kind x.task (outputs_in u (kind_of u g n))
  pub width : x.width ≡ slice_index K.outlets.widths k
  pub filled : (P : Plan) (S : Shares) → literal_in D 0 ≡ Unfilled → HasLiterals cells D → AreLaid P K.outlets (P.nodes (out-Graph g).number)
      → AreFilled D P S (storage_of u) (out-Graph g).number l 1 x.ports (sources u g l 1 (units.width g l))
  pub told : AreTold (storage_of u) (out-Graph g).number l 1 x.ports
  pub joined : x.joined ≡ has K.joined l
  pub marked : (p : Place) (n : Node) → Contains (places u) p → p.graph ≡ g → Contains (out-Graph g).nodes n → label_of n ≡ l → kind_of u g n ≡ task_kind x.task x.width
      → AreOutputsMarked (storage_of u) (number_of p) l D.marks x.width x.marks (kind_of u g n)

module _ (D : PlanData) (u : Unit1) (ready : IsReady u) (os : ℕ → List ℕ) (t : Tables) (p : Place) (place : Contains (places u) p) (K : GraphFacts) (facts : AreGraphFacts u p K) (ordered : K.outlets.order ≡ os (number_of p))
    (cells : List Cell) (has_cells : HasLiterals cells D) (unfilled : literal_in D 0 ≡ Unfilled) (k label : ℕ) (x : NodeParts) (n : Node) (at : slice_get (out-Graph p.graph).nodes k ≡ Some n) where
  own-node : IsFound D u p.graph K cells k label x → IsOfNode D u (order_by u os) t p n x
  own-node h =
      let wide : x.width ≡ outputs_in u (kind_of u p.graph n) =
      h.width ∙ (ap (λ ws. slice_index ws k) facts.own.widths ∙ mapped-at (λ m. outputs_in u (kind_of u p.graph m)) (out-Graph p.graph).nodes k n at) in
      let kind : kind_of u p.graph n ≡ task_kind x.task x.width = h.kind n at ∙ ap (task_kind x.task) (sym wide) in
      let is = h.label n at in
      let inside = got-in (out-Graph p.graph).nodes k n at in
      record {
        place = place;
        node = inside;
        kind = sym kind;
        width = wide;
        filled = subst (λ l. AreFilled D (plan_of u (order_by u os) t) (shares_of u (order_by u os)) (storage_of u) (number_of p) l 1 x.ports (sources u p.graph l 1 (units.width p.graph l))) is
            (h.filled (plan_of u (order_by u os) t) (shares_of u (order_by u os)) unfilled has_cells (laid u ready os t p place K facts ordered));
        told = subst (λ l. AreTold (storage_of u) (number_of p) l 1 x.ports) is h.told;
        joined = h.joined ∙ (facts.joined label ∙ (ap (is_taken_on p.graph) is ∙ sym (ap (λ o. test_in o (λ g. is_taken_on g (label_of n))) (place-found u ready.formed p place))));
        marks = subst (λ l. AreOutputsMarked (storage_of u) (number_of p) l D.marks x.width x.marks (kind_of u p.graph n)) is (h.marked p n place refl inside (sym is) kind);
      }

  -- so it is known of the node of the place
  pub node-known : (g : Graph) → p.graph ≡ g → IsFound D u g K cells k label x → IsOfNode D u (order_by u os) t p n x
  node-known g e h = own-node (subst (λ g. IsFound D u g K cells k label x) (sym e) h)
