-- The inputs and results of a graph by where it stands, by number.
use Rattle.std.specs.Prelude.{ℕ, zero, suc, ◌-◌, ◌==◌, ◌&&◌, nat_le, Bool, false, List, Option, Some, None, is_some, option_map, if◌then◌else◌}
use Rattle.if1_graph.specs.declared.graph.Edge.{Edge}
use Rattle.if1_graph.specs.declared.graph.Graph.{Graph}
use Rattle.if1_graph.specs.declared.graph.Node.{Node, out-Node}
use Rattle.if1_graph.specs.declared.op.Compound.{Compound}
use Rattle.if1_graph.specs.declared.op.Compound.TheVariants as compound
use Rattle.if1_graph.specs.declared.op.Part.{Part}
use Rattle.if1_graph.specs.declared.op.Part.TheVariants as part
use Rattle.if1_graph.specs.Tables.{◌>>=◌}
use Rattle.if1_graph.specs.Ops.{compound_at}
use Rattle.if1_graph.specs.Parts.{part_at}
use Rattle.if1_graph.specs.Units.{label_of, edges_into, greatest}
use Rattle.if1_graph.specs.Ports.{results_at}
use Rattle.if1_types.specs.Forms.{sort_form_at}
use Rattle.if1_fits.specs.declared.kind.Kind.TheVariants as kind
use Rattle.if1_fits.specs.Views.{value_of, many_of, tags_of, value_is, listed_at, arguments_in, results_in, are_same}
use Rattle.if1_ports.specs.Fed.{ports_of}
use Rattle.if1_typing.specs.declared.site.Content.{Content}
use Rattle.if1_typing.specs.declared.site.Content.TheVariants.{Any}
use Rattle.if1_typing.specs.declared.site.Frame.{Frame}
use Rattle.if1_typing.specs.declared.site.Inner.{Inner}
use Rattle.if1_typing.specs.declared.site.Site.{Site}
use Rattle.if1_typing.specs.declared.site.Site.TheVariants as site
use Rattle.if1_typing.specs.Tables.{Table}
use Rattle.if1_typing.specs.Fed.{carried_in, result_number}
use Rattle.if1_typing.specs.Contents.{content_from, content_fits}

-- where a graph stands, the edges into the node around it, and the graphs of that node
pub record Around : Type 0 where
  pub site : Site
  pub inputs : List Edge
  pub parts : List Graph

-- ---- inputs

-- in returns: the elements and results of a ForAll, the loop values of a loop, as multiples
abbrev pub returned_fits : Table → Compound → ℕ → List Graph → ℕ → ℕ → Bool
returned_fits t compound.ForAll first gs m n =
    if nat_le m first then result_number t gs 0 m == n
    else are_same (value_of t.keys (result_number t gs 1 (m - first))) (many_of t.keys n)
returned_fits t c first gs m n = are_same (value_of t.keys (result_number t gs 0 m)) (many_of t.keys n)

-- after the inputs of the node, counted from 1
abbrev pub own_input_fits : Table → Compound → Part → ℕ → List Graph → ℕ → ℕ → Bool
own_input_fits t compound.ForAll part.Body first gs m n = are_same (many_of t.keys (result_number t gs 0 m)) (value_of t.keys n)
own_input_fits t c part.Body first gs m n = result_number t gs 0 m == n
own_input_fits t c part.Test first gs m n = result_number t gs 0 m == n
own_input_fits t c part.Returns first gs m n = returned_fits t c first gs m n
own_input_fits t c _ first gs m n = false

-- those of the node, and the content of a tag in an arm
abbrev pub node_input_fits : Table → Part → Content → List Edge → ℕ → ℕ → Bool
node_input_fits t part.Arm c es (suc zero) n = content_fits c (value_of t.keys n)
node_input_fits t p c es port n = carried_in t es port == n

abbrev pub part_input_fits : Table → Inner → List Edge → List Graph → ℕ → ℕ → Bool
part_input_fits t i es gs port n =
    if nat_le port i.width then node_input_fits t i.part i.content es port n
    else own_input_fits t i.compound i.part i.first gs (port - i.width) n

abbrev pub input_fits_at : Table → Site → List Edge → List Graph → ℕ → ℕ → Bool
input_fits_at t (site.Function f) es gs port n = are_same (listed_at t.keys (arguments_in (sort_form_at t.keys f)) port) (value_of t.keys n)
input_fits_at t (site.Part i) es gs port n = part_input_fits t i es gs port n
input_fits_at t site.Nowhere es gs port n = false

-- what an input of the graph gives
abbrev pub input_fits : Table → Around → ℕ → ℕ → Bool
input_fits t a port n = input_fits_at t a.site a.inputs a.parts port n

-- ---- results

-- a value, of the type of another graph's result
abbrev pub is_same_result : Table → List Graph → ℕ → ℕ → ℕ → Bool
is_same_result t gs k port n = is_some (value_of t.keys n) && (result_number t gs k port == n)

abbrev pub part_result_fits : Table → Compound → Part → List Graph → ℕ → ℕ → Bool
part_result_fits t c part.Selector gs port n = value_is t.keys n kind.Integer
part_result_fits t c part.Test gs port n = value_is t.keys n kind.Boolean
part_result_fits t c part.Generator gs port n = is_some (many_of t.keys n)
part_result_fits t c part.Alternative gs port n = is_same_result t gs 1 port n
part_result_fits t c part.Arm gs port n = is_same_result t gs 0 port n
part_result_fits t compound.ForAll part.Body gs port n = is_some (value_of t.keys n)
part_result_fits t c part.Body gs port n = is_same_result t gs 0 port n
part_result_fits t c part.Initialization gs port n = is_some (value_of t.keys n)
part_result_fits t c part.Returns gs port n = is_some (value_of t.keys n)

abbrev pub result_fits_at : Table → Site → List Graph → ℕ → ℕ → Bool
result_fits_at t (site.Function f) gs port n = are_same (listed_at t.keys (results_in (sort_form_at t.keys f)) port) (value_of t.keys n)
result_fits_at t (site.Part i) gs port n = part_result_fits t i.compound i.part gs port n
result_fits_at t site.Nowhere gs port n = false

-- what the boundary of the graph wants
abbrev pub result_fits : Table → Around → ℕ → ℕ → Bool
result_fits t a port n = result_fits_at t a.site a.parts port n

-- ---- the graphs inside a node

-- the tags of the union that a value is
abbrev pub tags_at : Table → ℕ → Option ℕ
tags_at t n = value_of t.keys n >>= tags_of t.keys

-- what the graphs in a node depend on of the node, by the edges into it
abbrev pub frame_as : Table → List Edge → Node → Compound → Frame
frame_as t es n c = record {
  compound = c;
  width = greatest (ports_of es);
  first = results_at (out-Node n).subs 0;
  tags = tags_at t (carried_in t es 1);
}

abbrev pub frame_by : Table → List Edge → Node → Option Frame
frame_by t es n = option_map (frame_as t es n) (compound_at (out-Node n).op)

abbrev pub frame_in : Table → Graph → Node → Option Frame
frame_in t g n = frame_by t (edges_into g (label_of n)) n

abbrev pub content_in : Table → Option Frame → List ℕ → ℕ → Content
content_in t None list k = Any
content_in t (Some f) list k = content_from t.keys Any f.tags list k

abbrev pub site_as : Frame → Option Part → Content → Site
site_as f None content = site.Nowhere
site_as f (Some p) content =
    site.Part (record { compound = f.compound; part = p; width = f.width; first = f.first; content = content })

abbrev pub site_at : Option Frame → Content → ℕ → Site
site_at None content k = site.Nowhere
site_at (Some f) content k = site_as f (part_at f.compound k) content

-- the graph at a place in a node of a graph
abbrev pub around_in : Table → Graph → Node → ℕ → Around
around_in t g n k = record {
  site = site_at (frame_in t g n) (content_in t (frame_in t g n) (out-Node n).assoc k) k;
  inputs = edges_into g (label_of n);
  parts = (out-Node n).subs;
}
