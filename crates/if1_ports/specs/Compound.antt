-- The ports of compound nodes, and of the graphs inside them, by numbers.
use Rattle.std.specs.Prelude.{ℕ, ◌+◌, ◌==◌, ◌&&◌, max, Bool, true, nat_le, nat_lt, List, length, drop, Option, Some, None}
use Rattle.std.specs.List.{list_all}
use Rattle.if1_graph.specs.declared.op.Compound.{Compound}
use Rattle.if1_graph.specs.declared.op.Compound.TheVariants as compound
use Rattle.if1_graph.specs.declared.op.Part.{Part}
use Rattle.if1_graph.specs.declared.op.Part.TheVariants as part
use Rattle.if1_graph.specs.declared.graph.Graph.{Graph}
use Rattle.if1_graph.specs.Ports.{least_width, results_at, most_results}
use Rattle.if1_graph.specs.Parts.{part_at}
use Rattle.if1_ports.specs.declared.fed.Fed.{Fed}
use Rattle.if1_ports.specs.declared.around.Around.{Around}
use Rattle.if1_ports.specs.declared.around.Bounds.{Bounds}
use Rattle.if1_ports.specs.Outlines.{tags_in}
use Rattle.if1_ports.specs.Counts.{are_counted}
use Rattle.if1_ports.specs.Simple.{at_least}

abbrev pub counts_parts : Compound → ℕ → Bool
counts_parts compound.ForAll n = n == 3
counts_parts compound.Select n = nat_le 2 n
counts_parts compound.TagCase n = nat_le 1 n
counts_parts compound.LoopA n = n == 4
counts_parts compound.LoopB n = n == 4

abbrev pub fits_tags : Option ℕ → List ℕ → Bool
fits_tags None list = true
fits_tags (Some n) list = length list == n

abbrev pub is_associated : Compound → Option ℕ → ℕ → List ℕ → Bool
is_associated compound.TagCase tags parts list = list_all (λ arm. nat_lt arm parts) list && fits_tags tags list
is_associated c tags parts list = are_counted 0 list && (length list == parts)

abbrev pub is_compound_filled : Fed → Compound → ℕ → List ℕ → Bool
is_compound_filled f c parts list =
    counts_parts c parts && at_least f (least_width c) && is_associated c (tags_in f.carries) parts list

-- ---- the graphs inside a node

-- what the ports of the graphs in a compound node depend on of the node
abbrev pub around_of : Compound → ℕ → List Graph → Around
around_of c k gs = record {
  compound = c;
  width = k;
  first = results_at gs 0;
  second = results_at gs 1;
  most = most_results gs;
  most_later = most_results (drop 1 gs);
}

abbrev pub returned_inputs : Compound → Around → ℕ
returned_inputs compound.ForAll a = a.width + a.first + a.second
returned_inputs c a = a.width + a.first

abbrev pub inputs_in : Around → Part → ℕ
inputs_in a part.Test = a.width + a.first
inputs_in a part.Body = a.width + a.first
inputs_in a part.Returns = returned_inputs a.compound a
inputs_in a _ = a.width

abbrev pub body_results : Compound → Around → ℕ → ℕ
body_results compound.ForAll a own = own
body_results c a own = a.first

abbrev pub results_in : Around → Part → ℕ → ℕ
results_in a part.Selector own = 1
results_in a part.Test own = 1
results_in a part.Alternative own = a.most_later
results_in a part.Arm own = a.most
results_in a part.Generator own = max 1 own
results_in a part.Body own = body_results a.compound a own
results_in a part.Initialization own = own
results_in a part.Returns own = own

-- how many inputs a graph has, where this is known, and how many results it must have
abbrev pub bounds_as : Around → Option Part → ℕ → Bounds
bounds_as a None own = record { inputs = None; results = own }
bounds_as a (Some p) own = record { inputs = Some (inputs_in a p); results = results_in a p own }

abbrev pub bounds_at : Option Around → ℕ → ℕ → Bounds
bounds_at None k own = record { inputs = None; results = own }
bounds_at (Some a) k own = bounds_as a (part_at a.compound k) own
