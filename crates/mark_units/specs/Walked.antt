-- The pass that makes the marks of graphs one after another.
use Rattle.std.specs.Prelude.{◌≡◌, ℕ, suc, ◌≤◌, Bool, List, ◌++◌, map, drop, All, Contains}
use Rattle.std.specs.List.{flat_map}
use Rattle.if1_graph.specs.declared.graph.Graph.{Graph}
use Rattle.if1_graph.specs.declared.graph.Node.{Node}
use Rattle.if1_graph.specs.declared.graph.Unit1.{Unit1}
use Rattle.if1_graph.specs.Units.{Home, Inside, Place, levels, each_from, places_of}
use Rattle.marks_made.specs.Units.{is_candidate, each_graph, with_graphs, marked_at}
use Rattle.marks_made.specs.Laws.{IsMarkable}
use Rattle.may_take.specs.Looked.{flags_at, node_places, node_levels}
use Rattle.take_marks.specs.Made.{IsInShape}
use Rattle.mark_units.specs.declared.begin.Pass.{Pass}
use Rattle.mark_units.specs.declared.note.Note.{Note}
use Rattle.mark_units.specs.Notes.{AreNotes}

abbrev pub AllFlags : Type 0
AllFlags = List (List Bool)

-- the flags that come next are those of the graphs at these places, which are such that marks can be made
pub record AreNext (u : Unit1) (ps : List Place) (flags rest : AllFlags) : Type 0 where
  pub are : flags ≡ map (flags_at u) ps ++ rest
  pub shapes : (p : Place) → Contains ps p → IsInShape p.graph
  pub markable : (p : Place) → Contains ps p → IsMarkable p.graph (is_candidate u p)

-- the pass went by these places
pub record WentBy (u : Unit1) (ps : List Place) (flags rest : AllFlags) (old new : Pass) : Type 0 where
  pub left : drop new.at flags ≡ rest
  pub added : List Note
  pub notes : new.notes ≡ old.notes ++ added
  pub are : AreNotes u ps added

-- ---- a graph, the nodes of a graph, one of them, and graphs one after another

abbrev pub part_places : Unit1 → ℕ → (ℕ → Home) → ℕ → List Graph → List Place
part_places u more home k gs = each_from (λ k s. places_of more (home k) s) k gs

pub record GraphNext (g : Graph) (flags : AllFlags) : Type 0 where
  pub unit : Unit1
  pub more : ℕ
  pub home : Home
  pub rest : AllFlags
  pub deep : levels g ≤ more
  pub next : AreNext unit (places_of more home g) flags rest

abbrev pub GraphMarked : Graph → AllFlags → Pass → Pass → Graph → Type 0
GraphMarked g flags old new r =
    (u : Unit1) (more : ℕ) (home : Home) (rest : AllFlags) → levels g ≤ more → AreNext u (places_of more home g) (drop old.at flags) rest →
    (r ≡ marked_at u more home g) × WentBy u (places_of more home g) flags rest old new

pub record NodesNext (ns : List Node) (flags : AllFlags) : Type 0 where
  pub unit : Unit1
  pub more : ℕ
  pub outer : Graph
  pub rest : AllFlags
  pub deep : All (λ n. node_levels n ≤ suc more) ns
  pub next : AreNext unit (flat_map (node_places more outer) ns) flags rest

abbrev pub marked_node : Unit1 → ℕ → Graph → Node → Node
marked_node u more g n = with_graphs (λ n k s. marked_at u more (Inside g n k) s) n

abbrev pub NodesMarked : List Node → AllFlags → Pass → Pass → List Node → Type 0
NodesMarked ns flags old new rs =
    (u : Unit1) (more : ℕ) (g : Graph) (rest : AllFlags) → All (λ n. node_levels n ≤ suc more) ns → AreNext u (flat_map (node_places more g) ns) (drop old.at flags) rest →
    (rs ≡ map (marked_node u more g) ns) × WentBy u (flat_map (node_places more g) ns) flags rest old new

pub record NodeNext (n : Node) (flags : AllFlags) : Type 0 where
  pub unit : Unit1
  pub more : ℕ
  pub outer : Graph
  pub rest : AllFlags
  pub deep : node_levels n ≤ suc more
  pub next : AreNext unit (node_places more outer n) flags rest

abbrev pub NodeMarked : Node → AllFlags → Pass → Pass → Node → Type 0
NodeMarked n flags old new r =
    (u : Unit1) (more : ℕ) (g : Graph) (rest : AllFlags) → node_levels n ≤ suc more → AreNext u (node_places more g n) (drop old.at flags) rest →
    (r ≡ marked_node u more g n) × WentBy u (node_places more g n) flags rest old new

pub record PartsNext (gs : List Graph) (flags : AllFlags) : Type 0 where
  pub unit : Unit1
  pub more : ℕ
  pub home : ℕ → Home
  pub first : ℕ
  pub rest : AllFlags
  pub deep : All (λ s. levels s ≤ more) gs
  pub next : AreNext unit (part_places unit more home first gs) flags rest

abbrev pub marked_parts : Unit1 → ℕ → (ℕ → Home) → ℕ → List Graph → List Graph
marked_parts u more home k gs = each_graph (λ k s. marked_at u more (home k) s) k gs

abbrev pub PartsMarked : List Graph → AllFlags → Pass → Pass → List Graph → Type 0
PartsMarked gs flags old new rs =
    (u : Unit1) (more : ℕ) (home : ℕ → Home) (k : ℕ) (rest : AllFlags) → All (λ s. levels s ≤ more) gs → AreNext u (part_places u more home k gs) (drop old.at flags) rest →
    (rs ≡ marked_parts u more home k gs) × WentBy u (part_places u more home k gs) flags rest old new
