-- A graph and the graphs inside it, with where each stands.
use Rattle.std.specs.Prelude.{◌≡◌, ℕ, [], List, Option, Some, None, slice_get, get_or, All, Contains}
use Rattle.if1_graph.specs.declared.graph.Edge.{Edge}
use Rattle.if1_graph.specs.declared.graph.Graph.{Graph}
use Rattle.if1_graph.specs.declared.graph.Graph.TheViews.{out-Graph}
use Rattle.if1_graph.specs.declared.graph.Node.{Node, out-Node}
use Rattle.if1_graph.specs.Units.{ends}
use Rattle.if1_order.specs.Within.{IsPart}
use Rattle.if1_typing.specs.declared.site.Content.{Content}
use Rattle.if1_typing.specs.declared.site.Content.TheVariants.{Any}
use Rattle.if1_typing.specs.declared.site.Frame.{Frame}
use Rattle.if1_typing.specs.declared.site.Site.TheVariants as site
use Rattle.if1_typing.specs.Tables.{Table, number}
use Rattle.if1_typing.specs.Sites.{Around, around_in, site_at}
use Rattle.if1_typing.specs.Ends.{IsLaid, FindsWrong, IsWrong}

abbrev pub function_around : Table → Graph → Around
function_around t g = record { site = site.Function (number t (out-Graph g).fun); inputs = []; parts = [] }

-- a graph where it stands is this one, or stands inside it
pub data IsInside (t : Table) : Around → Graph → Around → Graph → Type 0 where
  itself : {a : Around} {g : Graph} → IsInside t a g a g
  deeper : {a d : Around} {g s h : Graph} (n : Node) (k : ℕ) → Contains (out-Graph g).nodes n → slice_get (out-Node n).subs k ≡ Some s →
      IsInside t (around_in t g n k) s d h → IsInside t a g d h

-- ---- graphs whose ports are right

abbrev pub IsLaidInside : Graph → Type 0
IsLaidInside g = (h : Graph) → IsPart g h → IsLaid h

abbrev pub AreLaid : List Graph → Type 0
AreLaid gs = (g : Graph) → Contains gs g → IsLaidInside g

-- ---- all right, or one wrong

abbrev pub AllRight : Table → Around → Graph → Type 0
AllRight t a g = (d : Around) (h : Graph) → IsInside t a g d h → FindsWrong t d h None

-- a graph of this number inside this one has a node or a boundary with wrong types
abbrev pub SomeWrong : Table → Around → Graph → ℕ × ℕ → Type 0
SomeWrong t a g at =
    (d : Around) × (h : Graph) × IsInside t a g d h × ((out-Graph h).number ≡ at.0) × Contains (ends h) at.1 × IsWrong t d h at.1

-- the graph at a place in a node, by the contents of the arms and the edges into the node
abbrev pub part_around : Option Frame → List Content → List Edge → List Graph → ℕ → Around
part_around f cs es gs k = record { site = site_at f (get_or cs k Any) k; inputs = es; parts = gs }

abbrev pub PartsRight : Table → Option Frame → List Content → List Edge → List Graph → Type 0
PartsRight t f cs es gs = (k : ℕ) (s : Graph) → slice_get gs k ≡ Some s → AllRight t (part_around f cs es gs k) s

abbrev pub PartsWrong : Table → Option Frame → List Content → List Edge → List Graph → ℕ × ℕ → Type 0
PartsWrong t f cs es gs at = (k : ℕ) × (s : Graph) × (slice_get gs k ≡ Some s) × SomeWrong t (part_around f cs es gs k) s at

abbrev pub NodeRight : Table → Graph → Node → Type 0
NodeRight t g n = (k : ℕ) (s : Graph) → slice_get (out-Node n).subs k ≡ Some s → AllRight t (around_in t g n k) s

abbrev pub NodeWrong : Table → Graph → Node → ℕ × ℕ → Type 0
NodeWrong t g n at = (k : ℕ) × (s : Graph) × (slice_get (out-Node n).subs k ≡ Some s) × SomeWrong t (around_in t g n k) s at

abbrev pub NodesRight : Table → Graph → List Node → Type 0
NodesRight t g ns = All (NodeRight t g) ns

abbrev pub NodesWrong : Table → Graph → List Node → ℕ × ℕ → Type 0
NodesWrong t g ns at = (n : Node) × Contains ns n × NodeWrong t g n at

abbrev pub FunctionsRight : Table → List Graph → Type 0
FunctionsRight t gs = All (λ g. AllRight t (function_around t g) g) gs

abbrev pub FunctionsWrong : Table → List Graph → ℕ × ℕ → Type 0
FunctionsWrong t gs at = (g : Graph) × Contains gs g × SomeWrong t (function_around t g) g at
