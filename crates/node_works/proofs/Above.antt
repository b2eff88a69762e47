-- The graphs inside a node of a ready unit have greater numbers, and what it calls is a function of the unit.
use Rattle.std.proofs.Common.{◌≡◌, ℕ, zero, suc, ◌<◌, List, [], ◌∷◌, map, drop, length, get_or, slice_get, All, Contains, Option, Some, None, inl, inr, refl, sym, ap, subst, arith}
use Rattle.std.proofs.lemmas.List.Elements.{All-map}
use Rattle.std.proofs.lemmas.Option.{slice_get-get_or}
use Rattle.if1_graph.specs.declared.graph.Graph.{Graph}
use Rattle.if1_graph.specs.declared.graph.Graph.TheViews.{out-Graph}
use Rattle.if1_graph.specs.declared.graph.Node.{Node, out-Node}
use Rattle.if1_graph.specs.declared.graph.Unit1.{Unit1}
use Rattle.if1_graph.specs.declared.op.Compound.{Compound}
use Rattle.if1_graph.specs.declared.op.Compound.TheVariants as compound
use Rattle.if1_graph.specs.declared.op.Simple.{Simple}
use Rattle.if1_graph.specs.declared.op.Simple.TheVariants as simple
use Rattle.if1_graph.specs.Ops.{compound_at, simple_at}
use Rattle.if1_graph.specs.Ports.{IsAssociation, carried, tags_of}
use Rattle.if1_graph.specs.Ready.{IsReady}
use Rattle.if1_graph.specs.Types.{Member}
use Rattle.if1_graph.specs.Units.{Place, label_of, number_of, places}
use Rattle.graph_meaning.specs.Demand.{Kind, Plain, Whole}
use Rattle.graph_meaning.specs.Entered.{IsIn}
use Rattle.graph_meaning.specs.Forms as form
use Rattle.graph_meaning.specs.Networks.{form_of, kind_as, kind_of, number_or_zero, part as part_number, simple_kind}
use Rattle.plan_data.specs.declared.plan.Work.TheVariants as work
use Rattle.unit_laws.proofs.TypedCalls.{called}
use Rattle.unit_laws.proofs.TypedParts.{compound-filled}
use Rattle.unit_plan.proofs.Found.{part-rises}
use Rattle.unit_plan.specs.Plans.{functions_of}
use Rattle.node_works.specs.declared.task.Task.{Task}
use Rattle.node_works.specs.declared.task.Task.TheVariants as task
use Rattle.node_works.specs.Tables.{IsGraphOf}
use Rattle.node_works.specs.Tasks.{IsTaskAbove, IsTaskCalling, task_kind}

-- ---- of kinds

abbrev pub IsKindAbove : ℕ → Kind → Type 0
IsKindAbove k (Plain row shape) = Unit {0}
IsKindAbove k (Whole (form.Call f)) = Unit {0}
IsKindAbove k (Whole (form.Select s gs w)) = (k < s) × All (λ g. k < g) gs
IsKindAbove k (Whole (form.TagCase gs w)) = All (λ g. k < g) gs
IsKindAbove k (Whole (form.LoopA i t b r w)) = (k < i) × (k < t) × (k < b) × (k < r)
IsKindAbove k (Whole (form.LoopB i t b r w)) = (k < i) × (k < t) × (k < b) × (k < r)
IsKindAbove k (Whole (form.ForAll e b r m w)) = (k < e) × (k < b) × (k < r)

abbrev pub IsKindCalling : List ℕ → Kind → Type 0
IsKindCalling fs (Whole (form.Call f)) = IsIn f fs
IsKindCalling fs _ = Unit {0}

-- ---- of tasks

pub task-above : (k w : ℕ) (t : Task) → IsKindAbove k (task_kind t w) → IsTaskAbove k t
task-above k w (task.Plain row shape) h = tt
task-above k w (task.Whole (work.Plain row shape writes copies)) h = tt
task-above k w (task.Whole (work.Call f)) h = tt
task-above k w (task.Whole (work.Select s gs)) h = h
task-above k w (task.Whole (work.TagCase gs)) h = h
task-above k w (task.Whole (work.LoopA p)) h = h
task-above k w (task.Whole (work.LoopB p)) h = h
task-above k w (task.Whole (work.ForAll g b r m)) h = h

pub task-calls : (fs : List ℕ) (w : ℕ) (t : Task) → IsKindCalling fs (task_kind t w) → IsTaskCalling fs t
task-calls fs w (task.Plain row shape) h = tt
task-calls fs w (task.Whole (work.Plain row shape writes copies)) h = tt
task-calls fs w (task.Whole (work.Call f)) h = h
task-calls fs w (task.Whole (work.Select s gs)) h = tt
task-calls fs w (task.Whole (work.TagCase gs)) h = tt
task-calls fs w (task.Whole (work.LoopA p)) h = tt
task-calls fs w (task.Whole (work.LoopB p)) h = tt
task-calls fs w (task.Whole (work.ForAll g b r m)) h = tt

-- ---- of a unit

-- the arms of a TagCase are among its graphs
arms-below : (tags : Option (List Member)) (n : ℕ) (list : List ℕ) → IsAssociation compound.TagCase tags n list → All (λ arm. arm < n) list
arms-below (Some tags) n list h = h.0
arms-below None n list h = h

dropped : (xs : List Graph) (k : ℕ) (d : Graph) → k < length (drop 1 xs) → slice_get xs (suc k) ≡ Some (get_or (drop 1 xs) k d)
dropped [] k d lt = absurd (omega (arith, lt))
dropped (x ∷ xs) k d lt = slice_get-get_or xs k d lt

in-functions : (gs : List Graph) (k : ℕ) (f : Graph) → slice_get gs k ≡ Some f → IsIn (out-Graph f).number (map (λ g. (out-Graph g).number) gs)
in-functions [] k f e = absurd (let x : None ≡ Some f = e in cc)
in-functions (g ∷ gs) zero f e = inl (let x : g ≡ f = cc in ap (λ z. (out-Graph z).number) (sym x))
in-functions (g ∷ gs) (suc k) f e = inr (in-functions gs k f e)

module _ (u : Unit1) (ready : IsReady u) (p : Place) (place : Contains (places u) p) (n : Node) (inside : Contains (out-Graph p.graph).nodes n) where
  abbrev gs : List Graph
  gs = (out-Node n).subs

  abbrev g : ℕ
  g = number_of p

  rises : (k : ℕ) (s : Graph) → slice_get gs k ≡ Some s → g < (out-Graph s).number
  rises k s e = (part-rises u ready p place n inside k s e).0

  -- a graph that is there
  there : (k : ℕ) → k < length gs → (o : Option Graph) → slice_get gs k ≡ o → g < number_or_zero o
  there k lt (Some s) e = rises k s e
  there k lt None e = gone gs k lt e
    where
      gone : (xs : List Graph) (k : ℕ) → k < length xs → slice_get xs k ≡ None → g < 0
      gone [] k lt e = absurd (omega (arith, lt))
      gone (x ∷ xs) zero lt e = absurd (let y : Some x ≡ None = e in cc)
      gone (x ∷ xs) (suc k) lt e = gone xs k (omega (arith, lt)) e

  part-above : (k : ℕ) → k < length gs → g < part_number gs k
  part-above k lt = there k lt (slice_get gs k) refl

  form-above : (c : Compound) → compound_at (out-Node n).op ≡ Some c → IsKindAbove g (Whole (form_of c gs (out-Node n).assoc))
  form-above compound.Select is =
      let many = (compound-filled u ready p place n inside compound.Select is).parts in (
        part-above 0 (omega (arith, many)),
        All-map (λ h. g < h) (λ h. (out-Graph h).number) (drop 1 gs) (λ k d lt. rises (suc k) (get_or (drop 1 gs) k d) (dropped gs k d lt)),
      )
  form-above compound.TagCase is =
      let filled = compound-filled u ready p place n inside compound.TagCase is in
      let below = arms-below (tags_of (carried u p.graph (label_of n) 1)) (length gs) (out-Node n).assoc filled.list in
      All-map (λ h. g < h) (part_number gs) (out-Node n).assoc (λ k d lt. part-above (get_or (out-Node n).assoc k d) (below k d lt))
  form-above compound.LoopA is =
      let many = (compound-filled u ready p place n inside compound.LoopA is).parts in
      (part-above 0 (omega (arith, many)), part-above 1 (omega (arith, many)), part-above 2 (omega (arith, many)), part-above 3 (omega (arith, many)))
  form-above compound.LoopB is =
      let many = (compound-filled u ready p place n inside compound.LoopB is).parts in
      (part-above 0 (omega (arith, many)), part-above 1 (omega (arith, many)), part-above 2 (omega (arith, many)), part-above 3 (omega (arith, many)))
  form-above compound.ForAll is =
      let many = (compound-filled u ready p place n inside compound.ForAll is).parts in
      (part-above 0 (omega (arith, many)), part-above 1 (omega (arith, many)), part-above 2 (omega (arith, many)))

  simple-above : (o : Simple) → IsKindAbove g (simple_kind u p.graph (label_of n) o)
  simple-above simple.Call = tt
  simple-above _ = tt

  pub kind-above : IsKindAbove g (kind_of u p.graph n)
  kind-above = go (compound_at (out-Node n).op) (simple_at (out-Node n).op) refl
    where
      go : (c : Option Compound) (o : Option Simple) → compound_at (out-Node n).op ≡ c → IsKindAbove g (kind_as u p.graph n c o)
      go (Some c) o e = form-above c e
      go None (Some o) e = simple-above o
      go None None e = tt

  simple-calls : (o : Simple) → compound_at (out-Node n).op ≡ None → simple_at (out-Node n).op ≡ Some o → IsKindCalling (functions_of u) (simple_kind u p.graph (label_of n) o)
  simple-calls simple.Call none is =
      let c = called u ready p place n inside is none in
      subst (λ f. IsIn f (functions_of u)) (sym c.number) (in-functions u.graphs c.index c.function c.at)
  simple-calls _ none is = tt

  form-calls : (c : Compound) → IsKindCalling (functions_of u) (Whole (form_of c gs (out-Node n).assoc))
  form-calls compound.Select = tt
  form-calls compound.TagCase = tt
  form-calls compound.LoopA = tt
  form-calls compound.LoopB = tt
  form-calls compound.ForAll = tt

  pub kind-calls : IsKindCalling (functions_of u) (kind_of u p.graph n)
  kind-calls = go (compound_at (out-Node n).op) (simple_at (out-Node n).op) refl refl
    where
      go : (c : Option Compound) (o : Option Simple) → compound_at (out-Node n).op ≡ c → simple_at (out-Node n).op ≡ o → IsKindCalling (functions_of u) (kind_as u p.graph n c o)
      go (Some c) o e f = form-calls c
      go None (Some o) e f = simple-calls o e f
      go None None e f = tt

-- ---- of a graph of the unit

module _ (u : Unit1) (ready : IsReady u) (g : Graph) (here : IsGraphOf u g) (n : Node) (inside : Contains (out-Graph g).nodes n) (w : ℕ) (t : Task) (is : kind_of u g n ≡ task_kind t w) where
  pub graph-above : IsTaskAbove (out-Graph g).number t
  graph-above =
      task-above (out-Graph g).number w t
      (subst (IsKindAbove (out-Graph g).number) is
      (subst (λ g. Contains (out-Graph g).nodes n → IsKindAbove (out-Graph g).number (kind_of u g n)) here.2 (λ c. kind-above u ready here.0 here.1 n c) inside))

  pub graph-calls : IsTaskCalling (functions_of u) t
  graph-calls =
      task-calls (functions_of u) w t
      (subst (IsKindCalling (functions_of u)) is
      (subst (λ g. Contains (out-Graph g).nodes n → IsKindCalling (functions_of u) (kind_of u g n)) here.2 (λ c. kind-calls u ready here.0 here.1 n c) inside))
