-- What is known of a unit and of each of its graphs, for the data of its nodes.
use Rattle.std.specs.Prelude.{◌≡◌, ◌&&◌, ℕ, map, Option, Some, None, Contains}
use Rattle.if1_graph.specs.declared.graph.Graph.{Graph}
use Rattle.if1_graph.specs.declared.graph.Graph.TheViews.{out-Graph}
use Rattle.if1_graph.specs.declared.graph.Unit1.{Unit1}
use Rattle.if1_graph.specs.Units.{Place, places}
use Rattle.graph_meaning.specs.StorageUnits.{is_taken_on, storage_of}
use Rattle.may_take.specs.Ports.{has}
use Rattle.output_marks.specs.Flags.{AreFlags}
use Rattle.graph_inputs.specs.declared.inputs.Inputs.{Inputs}
use Rattle.graph_inputs.specs.Inputs.{inputs_of}
use Rattle.plan_builder.specs.Laws.{AreOfGraph}
use Rattle.plan_builder.specs.Outlets.{AreOutlets}
use Rattle.plan_nodes.specs.Tables.{AreTablesOf, output_label}
use Rattle.output_marks.specs.Outputs.{AreAggregates}
use Rattle.unit_data.specs.declared.facts.Facts.{Facts}
use Rattle.unit_data.specs.declared.facts.GraphFacts.{GraphFacts}

-- all of it is so of the unit
pub record AreFacts (u : Unit1) (F : Facts) : Type 0 where
  pub tables : AreTablesOf u F.tables
  pub aggregates : AreFlags u (storage_of u).is_aggregate F.aggregates.items
  pub consumed : AreFlags u (λ k l port. (storage_of u).is_aggregate k l port && (storage_of u).is_given k l port) F.consumed.items
  pub inputs : F.inputs ≡ map (inputs_of u) (places u)

-- and of the graph of a place
pub record AreGraphFacts (u : Unit1) (p : Place) (F : GraphFacts) : Type 0 where
  pub outlets : AreOutlets F.outlets
  pub own : AreOfGraph u p F.outlets
  pub types : F.types ≡ map (output_label p.graph) (out-Graph p.graph).nodes
  pub joined : (l : ℕ) → has F.joined l ≡ is_taken_on p.graph l
  pub outputs : AreAggregates u.types p.graph F.outputs

-- at each place of the unit where this graph stands
abbrev pub AreFactsAt : Unit1 → Graph → GraphFacts → Type 0
AreFactsAt u g F = (p : Place) → Contains (places u) p → p.graph ≡ g → AreGraphFacts u p F

-- how many inputs of a returns are no multiples, where its inputs are found
abbrev pub plain_found : Option Inputs → Option ℕ
plain_found None = None
plain_found (Some x) = x.plain
