-- The types of what leads into one node or boundary of a graph, tested by numbers.
use Rattle.std.specs.Prelude.{◌≡◌, ℕ, zero, suc, ◌==◌, ◌&&◌, ◌||◌, not, ◌⊎◌, Bool, true, false, List, map, All, Contains, Option, Some, None, is_some, option_map}
use Rattle.std.specs.List.{list_all}
use Rattle.if1_graph.specs.declared.graph.Graph.{Graph}
use Rattle.if1_graph.specs.declared.graph.Graph.TheViews.{out-Graph}
use Rattle.if1_graph.specs.declared.graph.Node.{Node, out-Node}
use Rattle.if1_graph.specs.declared.graph.Edge.{Edge}
use Rattle.if1_graph.specs.declared.graph.Origin.{Origin}
use Rattle.if1_graph.specs.declared.graph.Origin.TheVariants.{Port, Lit}
use Rattle.if1_graph.specs.declared.op.Compound.{Compound}
use Rattle.if1_graph.specs.declared.op.Compound.TheVariants as compound
use Rattle.if1_graph.specs.declared.op.Part.{Part}
use Rattle.if1_graph.specs.declared.op.Part.TheVariants as part
use Rattle.if1_graph.specs.declared.op.Simple.{Simple}
use Rattle.if1_graph.specs.declared.op.Simple.TheVariants.{RangeGenerate, AScatter, AGather, FinalValue, Reduce}
use Rattle.if1_graph.specs.declared.row.Use.{Use}
use Rattle.if1_graph.specs.declared.row.Want.{Want}
use Rattle.if1_graph.specs.declared.row.Want.TheVariants as want
use Rattle.if1_graph.specs.Tables.{◌>>=◌}
use Rattle.if1_graph.specs.Ops.{simple_at, compound_at}
use Rattle.if1_graph.specs.Rows.{operand_of, output_of}
use Rattle.if1_graph.specs.Units.{label_of, node_at, edges_into, ends}
use Rattle.if1_graph.specs.Typing.{giving_part}
use Rattle.if1_types.specs.Forms.{sort_form_at}
use Rattle.if1_fits.specs.Views.{value_of, arguments_in}
use Rattle.if1_ports.specs.Ends.{IsInOrder}
use Rattle.if1_typing.specs.declared.site.Site.{Site}
use Rattle.if1_typing.specs.declared.site.Site.TheVariants as site
use Rattle.if1_typing.specs.declared.node.Doing.{Doing}
use Rattle.if1_typing.specs.Tables.{Table, number}
use Rattle.if1_typing.specs.Fed.{AreOrdered, fits_in, result_number}
use Rattle.if1_typing.specs.Sites.{Around, tags_at, input_fits_at, result_fits_at}
use Rattle.if1_typing.specs.Agree.{AreAgreed, Disagrees}

-- what a node does; nothing is the boundary
abbrev pub doing_of : Node → Doing
doing_of n = record { compound = compound_at (out-Node n).op; simple = simple_at (out-Node n).op }

-- ---- what a port wants

abbrev pub operand_fits : Table → List Edge → Option (Use × Want) → ℕ → Bool
operand_fits t es None n = false
operand_fits t es (Some operand) n = fits_in t es operand.1 n

abbrev pub compound_fits : Table → Compound → ℕ → ℕ → Bool
compound_fits t compound.TagCase (suc zero) n = is_some (tags_at t n)
compound_fits t c port n = is_some (value_of t.keys n)

abbrev pub node_fits : Table → List Edge → Option Compound → Option Simple → ℕ → ℕ → Bool
node_fits t es (Some c) op port n = compound_fits t c port n
node_fits t es None (Some op) port n = operand_fits t es (operand_of op port) n
node_fits t es None None port n = false

-- by the edges into the node, or the boundary
abbrev pub is_wanted : Table → Site → List Graph → Option Doing → List Edge → ℕ → ℕ → Bool
is_wanted t s gs (Some d) es port n = node_fits t es d.compound d.simple port n
is_wanted t s gs None es port n = result_fits_at t s gs port n

-- ---- what a source gives

abbrev pub output_as : Table → List Edge → Option Want → ℕ → Bool
output_as t es None n = false
output_as t es (Some w) n = fits_in t es w n

abbrev pub output_fits : Table → Graph → Node → Option Compound → Option Simple → ℕ → ℕ → Bool
output_fits t g m (Some c) op port n = result_number t (out-Node m).subs (giving_part c) port == n
output_fits t g m None (Some op) port n = output_as t (edges_into g (label_of m)) (output_of op port) n
output_fits t g m None None port n = false

abbrev pub node_gives : Table → Graph → Option Node → ℕ → ℕ → Bool
node_gives t g None port n = false
node_gives t g (Some m) port n = output_fits t g m (compound_at (out-Node m).op) (simple_at (out-Node m).op) port n

abbrev pub is_given : Table → Around → Graph → Origin → ℕ → Bool
is_given t a g (Lit text) n = true
is_given t a g (Port zero port) n = input_fits_at t a.site a.inputs a.parts port n
is_given t a g (Port (suc l) port) n = node_gives t g (node_at (out-Graph g).nodes (suc l)) port n

-- ---- an edge

abbrev pub want_of : Option Simple → ℕ → Option Want
want_of op port = op >>= λ op. operand_of op port >>= λ operand. Some operand.1

abbrev pub is_name_for : Table → Option Want → ℕ → Bool
is_name_for t (Some want.Reduction) l = t.is_function l
is_name_for t _ l = false

-- the name of a reduction, of any function type
abbrev pub is_function_name : Table → Option Doing → Edge → Bool
is_function_name t d e = is_name_for t (d >>= λ d. want_of d.simple e.port) e.ty

abbrev pub is_sorted : Table → Around → Graph → Option Doing → List Edge → Edge → ℕ → Bool
is_sorted t a g d es e n = not (n == 0) && (is_wanted t a.site a.parts d es e.port n && is_given t a g e.from n)

abbrev pub is_typed : Table → Around → Graph → Option Doing → List Edge → Edge → Bool
is_typed t a g d es e = is_function_name t d e || is_sorted t a g d es e (number t e.ty)

abbrev pub are_typed : Table → Around → Graph → Option Doing → List Edge → List Edge → Bool
are_typed t a g d into es = list_all (is_typed t a g d into) es

-- ---- ends

abbrev pub is_generator : Site → Bool
is_generator (site.Part i) = is_part i.part
  where
    is_part : Part → Bool
    is_part part.Generator = true
    is_part _ = false
is_generator _ = false

abbrev pub is_returns : Site → Bool
is_returns (site.Part i) = is_part i.part
  where
    is_part : Part → Bool
    is_part part.Returns = true
    is_part _ = false
is_returns _ = false

abbrev pub stands_right : Site → Option Simple → Bool
stands_right s (Some RangeGenerate) = is_generator s
stands_right s (Some AScatter) = is_generator s
stands_right s (Some AGather) = is_returns s
stands_right s (Some FinalValue) = is_returns s
stands_right s (Some (Reduce grouping)) = is_returns s
stands_right s _ = true

abbrev pub is_header_typed : Table → Site → Bool
is_header_typed t (site.Function f) = is_some (arguments_in (sort_form_at t.keys f))
is_header_typed t _ = true

abbrev pub is_end_typed : Table → Site → Option Doing → Bool
is_end_typed t s (Some d) = stands_right s d.simple
is_end_typed t s None = is_header_typed t s

-- all that leads into a node or boundary has the right type
abbrev pub is_right_as : Table → Around → Graph → ℕ → Option Doing → Bool
is_right_as t a g l d = is_end_typed t a.site d && are_typed t a g d (edges_into g l) (edges_into g l)

abbrev pub is_right : Table → Around → Graph → ℕ → Bool
is_right t a g l = is_right_as t a g l (option_map doing_of (node_at (out-Graph g).nodes l))

-- ---- graphs whose ports are right

-- nodes and edges stand in order, in the graphs of nodes too, and each edge leads to the boundary or to a node that is there
pub record IsLaid (g : Graph) : Type 0 where
  pub order : IsInOrder g
  pub inside : All (λ n. AreOrdered (out-Node n).subs) (out-Graph g).nodes
  pub leads : All (λ e. (e.node ≡ 0) ⊎ Contains (map label_of (out-Graph g).nodes) e.node) (out-Graph g).edges

-- a node or the boundary is wrong
abbrev pub IsWrong : Table → Around → Graph → ℕ → Type 0
IsWrong t a g l = (is_right t a g l ≡ false) ⊎ Disagrees t (out-Graph g).edges l

-- all is right, or a node or the boundary is wrong
abbrev pub FindsWrong : Table → Around → Graph → Option ℕ → Type 0
FindsWrong t a g None = All (λ l. is_right t a g l ≡ true) (ends g) × AreAgreed t (out-Graph g).edges
FindsWrong t a g (Some l) = Contains (ends g) l × IsWrong t a g l
