-- Tables and levels of plans in which the graphs inside a graph have greater numbers.
use Rattle.std.specs.Prelude.{◌≡◌, ℕ, ◌+◌, ◌<◌, ◌≤◌, List, []}
use Rattle.run_laws.specs.Forms as form
use Rattle.run_laws.specs.Demand.{EachNode, Kind, Network, Plain, Vertex, Whole}
use Rattle.run_laws.specs.Made.{IsSized, Plan}
use Rattle.run_made.specs.Plans.{All, CanLay, IsRight, Weighing}

-- so it is of each graph inside a node, and of those that do returns on what is collected
abbrev pub InnersAre : Plan → (ℕ → Type 0) → Kind → Type 0
InnersAre P Q (Plain row shape) = Unit {0}
InnersAre P Q (Whole (form.Call f)) = Unit {0}
InnersAre P Q (Whole (form.Select s gs w)) = Q s × All Q gs
InnersAre P Q (Whole (form.TagCase gs w)) = All Q gs
InnersAre P Q (Whole (form.LoopA i t b r w)) = Q i × Q t × Q b × Q (P.refolded r)
InnersAre P Q (Whole (form.LoopB i t b r w)) = Q i × Q t × Q b × Q (P.refolded r)
InnersAre P Q (Whole (form.ForAll e b r m w)) = Q e × Q b × Q (P.refolded r)

-- the plan with these tables, and its functions behind one another
abbrev pub with_sizes : Plan → (size extent : ℕ → ℕ) → Plan
with_sizes P size extent =
    record {
      nodes = P.nodes;
      results = P.results;
      width = P.width;
      picks = P.picks;
      collects = P.collects;
      refolded = P.refolded;
      params = P.params;
      entry = P.entry;
      size = size;
      extent = extent;
    }

-- tables that are right at each graph are there, where numbers rise inside and no graph has a greater number than these
abbrev pub AreTablesThere : Type 0
AreTablesThere = (P : Plan) (count : ℕ) → ((g : ℕ) → EachNode (λ v. InnersAre P (λ h. g < h) v.kind) (P.nodes g)) → ((g : ℕ) → count ≤ g → P.nodes g ≡ [])
    → (size : ℕ → ℕ) × (extent : ℕ → ℕ) × ((g : ℕ) → IsSized (with_sizes P size extent) g)

-- and so many levels are enough
abbrev pub AreLevelsEnough : Type 0
AreLevelsEnough = (P : Plan) (W : Weighing) (u : Network) (order : ℕ → List Vertex) (functions : List ℕ) (count : ℕ) → ((g : ℕ) → g < count → IsRight P W u order functions (λ h. (g < h) × (h < count)) g)
    → (n g : ℕ) → g < count → count ≤ n + g → CanLay P W u order functions n g
