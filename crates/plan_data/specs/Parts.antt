-- What stands in the data of a plan, and how many steps and cells graphs take by it.
use Rattle.std.specs.Prelude.{◌≡◌, ℕ, suc, ◌+◌, ◌-◌, ◌^◌, ◌<◌, ◌≤◌, max, Bool, true, false, List, [], ◌∷◌, map, length, get_or, slice_get, Option, Some, None}
use Rattle.made_store.specs.Carried.{Carried, Unfilled}
use Rattle.made_store.specs.Forms as form
use Rattle.made_store.specs.Demand.{Kind}
use Rattle.made_store.specs.Demand as demand
use Rattle.step_code.specs.Operands.{shape_of}
use Rattle.made_store.specs.Stored.{Mode, Looks, Copies, Takes, owned_in}
use Rattle.step_code.specs.Cell.TheVariants as cell
use Rattle.step_code.specs.Held.{held}
use Rattle.step_code.specs.declared.step.Collect.{Collect}
use Rattle.step_code.specs.declared.step.Collect.TheVariants as collect
use Rattle.plan_data.specs.declared.plan.Feed.{Feed}
use Rattle.plan_data.specs.declared.plan.Feed.TheVariants as feed
use Rattle.plan_data.specs.declared.plan.Handled.{Handled}
use Rattle.plan_data.specs.declared.plan.Handled.TheVariants as handled
use Rattle.plan_data.specs.declared.plan.LoopParts.{LoopParts}
use Rattle.plan_data.specs.declared.plan.Port.{Port}
use Rattle.plan_data.specs.declared.plan.Work.{Work}
use Rattle.plan_data.specs.declared.plan.Work.TheVariants as work
use Rattle.plan_data.specs.declared.plan.PlanNode.{PlanNode}
use Rattle.plan_data.specs.declared.plan.PlanGraph.{PlanGraph}
use Rattle.plan_data.specs.declared.plan.PlanData.{PlanData}

-- ---- graphs by their numbers

abbrev pub table_of : List ℕ → ℕ → ℕ
table_of ns g = get_or ns g 0

abbrev pub nodes_of : Option PlanGraph → List PlanNode
nodes_of None = []
nodes_of (Some g) = g.nodes

abbrev pub results_of : Option PlanGraph → List Port
results_of None = []
results_of (Some g) = g.results

abbrev pub collects_of : Option PlanGraph → List Collect
collects_of None = []
collects_of (Some g) = g.collects

-- where there is no graph of this number, the number itself
abbrev pub refolded_of : (graph : ℕ) → Option PlanGraph → ℕ
refolded_of n None = n
refolded_of n (Some g) = g.refolded

-- what a node does, with so many outputs
abbrev pub kind_of : Work → (width : ℕ) → Kind
kind_of (work.Plain row shape writes copies) w = demand.Plain row (shape_of shape)
kind_of (work.Call f) w = demand.Whole (form.Call f)
kind_of (work.Select s gs) w = demand.Whole (form.Select s gs w)
kind_of (work.TagCase gs) w = demand.Whole (form.TagCase gs w)
kind_of (work.LoopA p) w = demand.Whole (form.LoopA p.init p.test p.body p.returns w)
kind_of (work.LoopB p) w = demand.Whole (form.LoopB p.init p.test p.body p.returns w)
kind_of (work.ForAll g b r m) w = demand.Whole (form.ForAll g b r m w)

-- ---- ports

abbrev pub mode_by : Handled → Mode
mode_by handled.Looks = Looks
mode_by handled.Copies = Copies
mode_by handled.Takes = Takes

abbrev pub mode_of : Port → Mode
mode_of x = mode_by x.handled

abbrev pub picks_by : Handled → Bool
picks_by handled.Copies = true
picks_by _ = false

-- what fills a port of a compound node is copied for its parts
abbrev pub picks_of : Port → Bool
picks_of x = picks_by x.handled

-- so many are
abbrev pub count_true : List Bool → ℕ
count_true [] = 0
count_true (true ∷ bs) = suc (count_true bs)
count_true (false ∷ bs) = count_true bs

-- its parts are given what it copies or takes
abbrev pub gives_by : Handled → Mode
gives_by handled.Looks = Looks
gives_by _ = Takes

abbrev pub first_given : List Port → Mode
first_given [] = Looks
first_given (x ∷ xs) = gives_by x.handled

-- outputs stand below so many cells
abbrev pub IsBelow : (cells : ℕ) → Feed → Type 0
IsBelow cells (feed.Output c) = c < cells
IsBelow cells _ = Unit {0}

abbrev pub AreBelow : (cells : ℕ) → List Port → Type 0
AreBelow cells [] = Unit {0}
AreBelow cells (x ∷ xs) = IsBelow cells x.feed × AreBelow cells xs

-- last values are of less than so many
abbrev pub IsColumnBelow : (many : ℕ) → Collect → Type 0
IsColumnBelow many (collect.Final j) = j < many
IsColumnBelow many _ = Unit {0}

abbrev pub AreColumnsBelow : (many : ℕ) → List Collect → Type 0
AreColumnsBelow many [] = Unit {0}
AreColumnsBelow many (c ∷ cs) = IsColumnBelow many c × AreColumnsBelow many cs

-- a compound node
abbrev pub IsWhole : Work → Type 0
IsWhole (work.Plain row shape writes copies) = ⊥
IsWhole (work.Call f) = ⊥
IsWhole _ = Unit {0}

-- of what fills these ports so many are copied to cells of their own, for the parts of a compound node
abbrev pub own_copies : Work → List Port → ℕ
own_copies (work.Plain row shape writes copies) xs = 0
own_copies (work.Call f) xs = 0
own_copies _ xs = count_true (map picks_of xs)

module _ (D : PlanData) where
  abbrev pub size_in : ℕ → ℕ
  size_in = table_of D.sizes

  abbrev pub extent_in : ℕ → ℕ
  extent_in = table_of D.extents

  abbrev pub graph_nodes : ℕ → List PlanNode
  graph_nodes g = nodes_of (slice_get D.graphs g)

  abbrev pub graph_results : ℕ → List Port
  graph_results g = results_of (slice_get D.graphs g)

  abbrev pub graph_collects : ℕ → List Collect
  graph_collects g = collects_of (slice_get D.graphs g)

  abbrev pub graph_refolded : ℕ → ℕ
  graph_refolded g = refolded_of g (slice_get D.graphs g)

  abbrev pub literal_in : ℕ → Carried
  literal_in n = owned_in (held (get_or D.literals n cell.Empty))

  -- ---- how many steps

  abbrev pub arms_steps : List ℕ → ℕ
  arms_steps [] = 0
  arms_steps (g ∷ gs) = suc (size_in g) + arms_steps gs

  abbrev pub loop_steps : LoopParts → ℕ
  loop_steps p = suc (size_in p.init) + (suc (size_in p.body) + (suc (size_in p.test) + suc (size_in (graph_refolded p.returns))))

  abbrev pub work_steps : Work → ℕ
  work_steps (work.Plain row shape writes copies) = 1
  work_steps (work.Call f) = 1
  work_steps (work.Select s gs) = 2 + (suc (size_in s) + arms_steps gs)
  work_steps (work.TagCase gs) = 2 + suc (arms_steps gs)
  work_steps (work.LoopA p) = 2 + suc (loop_steps p)
  work_steps (work.LoopB p) = 2 + loop_steps p
  work_steps (work.ForAll g b r m) = 2 + (suc (size_in g) + (suc (size_in b) + suc (suc (size_in (graph_refolded r)))))

  abbrev pub nodes_steps : List PlanNode → ℕ
  nodes_steps [] = 0
  nodes_steps (n ∷ ns) = work_steps n.work + nodes_steps ns

  -- ---- how many cells

  abbrev pub greatest_of : List ℕ → ℕ
  greatest_of [] = 0
  greatest_of (g ∷ gs) = max (extent_in g) (greatest_of gs)

  abbrev pub loop_cells : LoopParts → ℕ
  loop_cells p =
      max (extent_in p.init)
      (length (graph_results p.init) + (length (graph_collects p.returns) + max (extent_in p.test) (max (extent_in p.body) (extent_in (graph_refolded p.returns)))))

  abbrev pub for_all_cells : (generator body returns : ℕ) → ℕ
  for_all_cells g b r =
      max (extent_in g)
      (length (graph_results g) + (length (graph_collects r) + max (suc (length (graph_results g)) + extent_in b) (extent_in (graph_refolded r))))

  abbrev pub work_cells : Work → ℕ
  work_cells (work.Plain row shape writes copies) = 0
  work_cells (work.Call f) = 0
  work_cells (work.Select s gs) = max (extent_in s) (greatest_of gs)
  work_cells (work.TagCase gs) = suc (greatest_of gs)
  work_cells (work.LoopA p) = loop_cells p
  work_cells (work.LoopB p) = loop_cells p
  work_cells (work.ForAll g b r m) = for_all_cells g b r

  abbrev pub nodes_cells : List PlanNode → ℕ
  nodes_cells [] = 0
  nodes_cells (n ∷ ns) = max (n.width + (own_copies n.work n.ins + work_cells n.work)) (n.width + nodes_cells ns)

  -- ---- what fits

  -- what a loop collects are loop values
  abbrev pub DoColumnsFit : Work → Type 0
  DoColumnsFit (work.LoopA p) = AreColumnsBelow (length (graph_results p.init)) (graph_collects p.returns)
  DoColumnsFit (work.LoopB p) = AreColumnsBelow (length (graph_results p.init)) (graph_collects p.returns)
  DoColumnsFit _ = Unit {0}

  abbrev pub AreNodesBelow : (cells : ℕ) → List PlanNode → Type 0
  AreNodesBelow cells [] = Unit {0}
  AreNodesBelow cells (n ∷ ns) = AreBelow cells n.ins × DoColumnsFit n.work × AreNodesBelow cells ns

  -- The tables have room for what each graph takes, outputs stand in the cells of their graph, and the block of each function can be
  -- counted.
  pub record IsFormed : Type 0 where
    pub sizes : (g : ℕ) → size_in g ≡ nodes_steps (graph_nodes g)
    pub extents : (g : ℕ) → nodes_cells (graph_nodes g) ≤ extent_in g
    pub nodes : (g : ℕ) → AreNodesBelow (extent_in g) (graph_nodes g)
    pub results : (g : ℕ) → AreBelow (extent_in g) (graph_results g)
    pub rooms : (f : ℕ) → table_of D.params f + extent_in f ≤ 2 ^ 32 - 1
    pub marks : length D.marks ≤ 2 ^ 32 - 1
    pub unfilled : literal_in 0 ≡ Unfilled
