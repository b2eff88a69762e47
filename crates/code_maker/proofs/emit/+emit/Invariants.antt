use Rattle.std.proofs.Common.{◌+◌, ◌-◌, ◌*◌, ◌^◌, ◌≤◌, drop}
use Rattle.run_code.specs.Made.{Plan, arms_code, graph_code}
use Rattle.plan_data.specs.Settings.{Cells_of, Shares}
use Rattle.plan_data.specs.Settled.{arms_settings, graph_settings}
use Rattle.plan_data.specs.Parts.{AreNodesBelow, arms_steps, extent_in, greatest_of, nodes_cells, nodes_steps}
use Rattle.plan_data.specs.Stands.{Stands}
use Rattle.code_maker.specs.declared.draft.Draft.{Draft}
use Rattle.code_maker.specs.Grows.{Grows}
use Rattle.code_maker.specs.Makes.{NodesMade}
use Rattle.code_maker.specs.Seats.{at_seats}
use Rattle.code_maker.proofs.emit.+emit.Given as goal

abbrev pub decreases-emit_graph : goal.decreases-emit_graph
decreases-emit_graph l = 10 * l.levels

abbrev pub decreases-emit_node : goal.decreases-emit_node
decreases-emit_node l = 10 * l.levels + 9

abbrev pub decreases-emit_whole : goal.decreases-emit_whole
decreases-emit_whole l = 10 * l.levels + 8

abbrev pub decreases-emit_parts : goal.decreases-emit_parts
decreases-emit_parts l = 10 * l.levels + 7

abbrev pub decreases-emit_select : goal.decreases-emit_select
decreases-emit_select l = 10 * l.levels + 6

abbrev pub decreases-emit_tag : goal.decreases-emit_tag
decreases-emit_tag l = 10 * l.levels + 6

abbrev pub decreases-emit_loop : goal.decreases-emit_loop
decreases-emit_loop l = 10 * l.levels + 6

abbrev pub decreases-emit_for_all : goal.decreases-emit_for_all
decreases-emit_for_all l = 10 * l.levels + 6

abbrev pub decreases-emit_arms : goal.decreases-emit_arms
decreases-emit_arms l = 10 * l.levels + 5

abbrev pub decreases-emit_first : goal.decreases-emit_first
decreases-emit_first l = 10 * l.levels + 5

abbrev pub decreases-emit_turns : goal.decreases-emit_turns
decreases-emit_turns l = 10 * l.levels + 5

abbrev pub decreases-emit_rows : goal.decreases-emit_rows
decreases-emit_rows l = 10 * l.levels + 5

abbrev pub decreases-emit_arm : goal.decreases-emit_arm
decreases-emit_arm l = 10 * l.levels + 4

-- what was made, whatever is made of the nodes that are left
abbrev pub invariant-emit_graph-loop-node : goal.invariant-emit_graph-loop-node
invariant-emit_graph-loop-node l =
    record {
      below : AreNodesBelow l.plan (extent_in l.plan l.graph) (drop l.node-index l.nodes);
      steps : l.here + nodes_steps l.plan (drop l.node-index l.nodes) ≤ 2 ^ 32 - 1;
      cells : l.cell + nodes_cells l.plan (drop l.node-index l.nodes) ≤ 2 ^ 32 - 1;
      made : (P : Plan) (S : Shares) (keep hold : Cells_of) → Stands l.plan P S → (new : Draft)
          → NodesMade l.plan l.room (l.levels - 1) P S keep hold l.args l.graph l.lo (drop l.node-index l.nodes) l.here l.cell l.draft new
          → NodesMade l.plan l.room (l.levels - 1) P S keep hold l.args l.graph l.lo l.nodes l.place l.lo l.initial.draft new;
    }

abbrev pub invariant-emit_arms-loop-arm : goal.invariant-emit_arms-loop-arm
invariant-emit_arms-loop-arm l =
    record {
      steps : l.here + arms_steps l.plan (drop l.arm-index l.arms) ≤ 2 ^ 32 - 1;
      cells : l.up + greatest_of l.plan (drop l.arm-index l.arms) ≤ 2 ^ 32 - 1;
      made : (P : Plan) (S : Shares) (keep hold : Cells_of) → Stands l.plan P S → (new : Draft)
          → Grows l.plan P l.draft new (arms_code P (graph_code P l.levels) l.room (at_seats l.plan l.args) (drop l.arm-index l.arms) l.here l.width l.next l.lo l.up) (arms_settings P S (graph_settings P S l.levels) keep hold (at_seats l.plan l.args) (drop l.arm-index l.arms) l.up)
          → Grows l.plan P l.initial.draft new (arms_code P (graph_code P l.levels) l.room (at_seats l.plan l.args) l.arms l.place l.width l.next l.lo l.up) (arms_settings P S (graph_settings P S l.levels) keep hold (at_seats l.plan l.args) l.arms l.up);
    }
