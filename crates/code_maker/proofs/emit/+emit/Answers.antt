use Rattle.std.proofs.Common.{◌≡◌, suc, ◌+◌, ◌-◌, ◌^◌, [], ◌∷◌, ◌++◌, length, get_or, slice_get, drop, refl, sym, ap, ◌∙◌, subst, arith, max}
use Rattle.std.proofs.lemmas.List.{drop_more}
use Rattle.std.proofs.lemmas.Result.{on_ok_weaker}
use Rattle.std.proofs.Math.Nat.{le-max_left, le-max_right}
use Rattle.run_code.specs.Made.{arms_code, graph_code}
use Rattle.plan_data.specs.Settled.{arms_settings, graph_settings}
use Rattle.code_maker.specs.Grows.{ArePairs, Grows}
use Rattle.code_maker.specs.Makes.{ArmMade, NodesMade, PartsMade}
use Rattle.code_maker.specs.Seats.{at_seats}
use Rattle.plan_data.specs.declared.plan.PlanNode.{PlanNode}
use Rattle.plan_data.specs.Parts.{collects_of, nodes_of, refolded_of, results_of, table_of}
use Rattle.plan_data.specs.Parts as parts
use Rattle.code_maker.specs.Seats.{cells_from, first_seat, stand_from}
use Rattle.code_maker.proofs.Emitting.{arm-made, arm-more, call-made, fire-made, first-made, for-all-made, loop-made, node-more, nodes-none, rows-made, select-made, tag-made, turns-made, whole-made}
use Rattle.code_maker.proofs.Standing.{below-more, columns-more, many-copied, results-below}
use Rattle.code_maker.proofs.Growing.{grows-none}
use Rattle.code_maker.proofs.Reading.{drop-all}
use Rattle.plan_data.specs.Stands.{AreNodes}
use Rattle.graph_meaning.specs.Forms as form
use Rattle.graph_meaning.specs.Demand.{Whole}
use Rattle.code_maker.proofs.emit.+emit.Goals as goal

pub emit_arm-returns : goal.emit_arm-returns
emit_arm-returns t c =
    on_ok_weaker c.add_move.result
    (λ e. arm-made c.args.plan.now c.requires.formed c.args.room c.args.levels c.args.args.now c.args.graph c.args.place c.args.width c.args.next c.args.lo c.args.up c.args.draft.now c.emit_graph.new.draft c.add_move.new.draft c.results_in-ports.result.now
    (c.results_in-ports.ensures ∙ ap (λ x. results_of (slice_get x c.args.graph)) c.as_slice.ensures) c.in_ok-emit_graph.ensures e)
    c.add_move.ensures

pub emit_first-returns : goal.emit_first-returns
emit_first-returns t c =
    on_ok_weaker c.add_begin.result
    (λ e. first-made c.args.plan.now c.requires.formed c.args.room c.args.levels c.args.own.now c.args.parts c.args.place c.args.starts c.args.mid c.args.draft.now c.emit_graph.new.draft c.add_begin.new.draft c.results_in-ports.result.now c.collects_in-collects.result.now
    (c.results_in-ports.ensures ∙ ap (λ x. results_of (slice_get x c.args.parts.init)) c.as_slice-graphs.ensures) (c.collects_in-collects.ensures ∙ ap (λ x. collects_of (slice_get x c.args.parts.returns)) c.as_slice-graphs.ensures)
    c.in_ok-emit_graph.ensures e)
    c.add_begin.ensures

pub emit_rows-returns : goal.emit_rows-returns
emit_rows-returns t c =
    on_ok_weaker c.add_put.result
    (λ e. rows-made c.args.plan.now c.requires.formed c.args.room c.args.levels c.args.lent.now c.args.body c.args.returns c.args.place c.args.turns c.args.into c.args.up c.args.draft.now c.emit_graph.new.draft c.add_put.new.draft c.results_in-ports.result.now c.collects_in-collects.result.now
    (c.results_in-ports.ensures ∙ ap (λ x. results_of (slice_get x c.args.body)) c.as_slice-graphs.ensures) (c.collects_in-collects.ensures ∙ ap (λ x. collects_of (slice_get x c.args.returns)) c.as_slice-graphs.ensures)
    c.in_ok-emit_graph.ensures e)
    c.add_put.ensures

pub emit_turns-returns : goal.emit_turns-returns
emit_turns-returns t c =
    let plan = c.args.plan.now in
    on_ok_weaker c.add_test.result
    (λ e. turns-made plan c.requires.formed c.args.room c.args.levels c.args.lent.now c.args.parts c.args.turn c.args.tests c.args.leave c.args.width c.args.next c.args.lo c.args.mid c.args.top
    c.args.draft.now c.emit_graph.new.draft c.add_keep.new.draft c.emit_graph-2.new.draft c.add_test.new.draft c.results_in-values.result.now c.collects_in-collects.result.now c.first_seat-told.result
    (c.results_in-values.ensures ∙ ap (λ x. results_of (slice_get x c.args.parts.body)) c.as_slice-graphs.ensures) (c.collects_in-collects.ensures ∙ ap (λ x. collects_of (slice_get x c.args.parts.returns)) c.as_slice-graphs.ensures)
    (c.first_seat-told.ensures ∙ ap (first_seat c.args.lent.now c.args.top) (c.results_in.ensures ∙ ap (λ x. results_of (slice_get x c.args.parts.test)) c.as_slice-graphs.ensures))
    c.in_ok-emit_graph.ensures c.in_ok-add_keep.ensures c.in_ok-emit_graph-2.ensures e)
    c.add_test.ensures

pub emit_select-returns : goal.emit_select-returns
emit_select-returns t c =
    let plan = c.args.plan.now in
    on_ok_weaker c.emit_arms.result
    (λ e. select-made plan c.requires.formed c.args.room c.args.levels c.args.own.now c.args.selector c.args.arms.now c.args.place (c.args.place + c.number_at.result + 1) c.args.width c.args.next c.args.lo c.args.mid
    c.args.draft.now c.emit_graph.new.draft c.add_branch.new.draft c.emit_arms.new.draft c.first_seat-chosen.result
    (c.first_seat-chosen.ensures ∙ ap (first_seat c.args.own.now c.args.mid) (c.results_in-ports.ensures ∙ ap (λ x. results_of (slice_get x c.args.selector)) c.as_slice.ensures))
    (let n : c.number_at.result ≡ table_of plan.sizes c.args.selector = c.number_at.ensures ∙ ap (λ x. table_of x c.args.selector) c.as_slice-2.ensures in omega (arith, n))
    c.in_ok-emit_graph.ensures c.in_ok-add_branch.ensures e)
    c.emit_arms.ensures

pub emit_tag-returns : goal.emit_tag-returns
emit_tag-returns t c =
    let plan = c.args.plan.now in
    on_ok_weaker c.emit_arms.result
    (λ e. tag-made plan c.requires.formed c.args.room c.args.levels c.args.own.now c.as_slice.result.now c.head_of-from.result c.args.arms.now (parts.mode_by c.args.union) c.args.place (c.args.place + 1) c.args.width c.args.next c.args.lo c.args.mid (c.args.mid + 1)
    c.args.draft.now c.add_tag.new.draft c.emit_arms.new.draft (omega arith) (omega arith) (c.as_slice.ensures ∙ c.in_ok-inputs.ensures) c.head_of-from.ensures c.in_ok-add_tag.ensures e)
    c.emit_arms.ensures

pub emit_arms-loop-arm-preserved : goal.emit_arms-loop-arm-preserved
emit_arms-loop-arm-preserved t c =
    let plan = c.args.plan.now in
    let arms = c.args.arms.now in
    let i = c.loop-arm.arm-index in
    let g = get_or arms i 0 in
    let gs = drop (i + 1) arms in
    let inv = c.loop-arm.invariant in
    let e : drop i arms ≡ g ∷ gs = drop_more arms i 0 c.loop-arm-test.true in
    let n : c.number_at.result ≡ table_of plan.sizes g = c.number_at.ensures ∙ ap (λ x. table_of x g) c.as_slice.ensures in
    let steps = inv.steps in
    let cells = inv.cells in
    let size = ap (parts.arms_steps plan) e in
    let extent = ap (parts.greatest_of plan) e in
    let second = le-max_right (table_of plan.extents g) (parts.greatest_of plan gs) in
    record {
      steps = omega (arith, steps, size, n);
      cells = omega (arith, cells, extent, second);
      made = λ P S keep hold stands new rest.
          inv.made P S keep hold stands new
          (subst (λ q. Grows plan P c.loop-arm.draft new (arms_code P (graph_code P c.args.levels) c.args.room (at_seats plan c.args.args.now) q c.loop-arm.here c.args.width c.args.next c.args.lo c.args.up) (arms_settings P S (graph_settings P S c.args.levels) keep hold (at_seats plan c.args.args.now) q c.args.up)) (sym e)
          (arm-more plan c.requires.formed c.args.room c.args.levels P S keep hold stands c.args.args.now g gs c.loop-arm.here (c.loop-arm.here + (c.number_at.result + 1)) c.args.width c.args.next c.args.lo c.args.up c.loop-arm.draft c.emit_arm.new.draft new (omega (arith, n)) c.in_ok-emit_arm.ensures rest));
    }

pub emit_arms-returns : goal.emit_arms-returns
emit_arms-returns t c =
    λ P S keep hold stands.
    let plan = c.args.plan.now in
    let xs = at_seats plan c.args.args.now in
    let d = c.loop-arm.draft in
    c.loop-arm.invariant.made P S keep hold stands d
    (subst (λ q. Grows plan P d d (arms_code P (graph_code P c.args.levels) c.args.room xs q c.loop-arm.here c.args.width c.args.next c.args.lo c.args.up) (arms_settings P S (graph_settings P S c.args.levels) keep hold xs q c.args.up))
    (sym (drop-all c.loop-arm.arm-index c.args.arms.now c.loop-arm-test.false)) (grows-none plan P d))

pub emit_graph-loop-node-preserved : goal.emit_graph-loop-node-preserved
emit_graph-loop-node-preserved t c =
    let plan = c.args.plan.now in
    let nodes = c.nodes_in-nodes.result.now in
    let i = c.loop-node.node-index in
    let n : PlanNode = c.node-item.result in
    let ns = drop (i + 1) nodes in
    let inv = c.loop-node.invariant in
    let e : drop i nodes ≡ n ∷ ns = drop_more nodes i n c.loop-node-test.true ∙ ap (λ x. x ∷ ns) (sym c.node-item.is) in
    let below = subst (parts.AreNodesBelow plan (parts.extent_in plan c.args.graph)) e inv.below in
    let steps = inv.steps in
    let cells = inv.cells in
    let size = ap (parts.nodes_steps plan) e in
    let extent = ap (parts.nodes_cells plan) e in
    let second = le-max_right (n.width + (parts.own_copies n.work n.ins + parts.work_cells plan n.work)) (n.width + parts.nodes_cells plan ns) in
    let w : c.work_steps-here.result ≡ parts.work_steps plan n.work = c.work_steps-here.ensures in
    record {
      below = below.2;
      steps = omega (arith, steps, size, w);
      cells = omega (arith, cells, extent, second);
      made = λ P S keep hold stands new rest.
          inv.made P S keep hold stands new
          (subst (λ q. NodesMade plan c.args.room (c.args.levels - 1) P S keep hold c.args.args.now c.args.graph c.args.lo q c.loop-node.here c.loop-node.cell c.loop-node.draft new) (sym e)
          (node-more plan c.requires.formed c.args.room (c.args.levels - 1) P S keep hold stands c.args.args.now c.args.graph c.args.lo n ns c.loop-node.here c.loop-node.cell (c.loop-node.here + c.work_steps-here.result) (c.loop-node.cell + n.width) c.loop-node.draft c.emit_node.new.draft new
          (ap (λ q. c.loop-node.here + q) w) refl c.in_ok-emit_node.ensures rest));
    }

pub emit_graph-returns : goal.emit_graph-returns
emit_graph-returns t c =
    λ P S keep hold stands.
    let plan = c.args.plan.now in
    let xs = at_seats plan c.args.args.now in
    let d = c.loop-node.draft in
    let nodes = c.nodes_in-nodes.result.now in
    let i = c.loop-node.node-index in
    let below = c.args.levels - 1 in
    let some = c.if-levels-eq0.false in
    let up : c.args.levels ≡ suc below = omega (arith, some) in
    let nodes_are : nodes ≡ parts.graph_nodes plan c.args.graph = c.nodes_in-nodes.ensures ∙ ap (λ x. nodes_of (slice_get x c.args.graph)) c.as_slice.ensures in
    let are : AreNodes plan P S c.args.graph nodes (P.nodes c.args.graph) = subst (λ q. AreNodes plan P S c.args.graph q (P.nodes c.args.graph)) (sym nodes_are) (stands.nodes c.args.graph) in
    let pairs : ArePairs plan P c.args.graph nodes (P.nodes c.args.graph) = subst (λ q. ArePairs plan P c.args.graph q (P.nodes c.args.graph)) (sym nodes_are) (λ n v h. h) in
    let rest = subst (λ q. NodesMade plan c.args.room below P S keep hold c.args.args.now c.args.graph c.args.lo q c.loop-node.here c.loop-node.cell d d) (sym (drop-all i nodes c.loop-node-test.false))
    (nodes-none plan c.requires.formed c.args.room below P S keep hold c.args.args.now c.args.graph c.args.lo c.loop-node.here c.loop-node.cell d) in
    subst (λ n. Grows plan P c.args.draft.now d (graph_code P n c.args.room xs c.args.graph c.args.place c.args.lo) (graph_settings P S n keep hold xs c.args.graph c.args.lo)) (sym up)
    (c.loop-node.invariant.made P S keep hold stands d rest (P.nodes c.args.graph) [] [] are pairs)

pub emit_graph-emit_node-requires : goal.emit_graph-emit_node-requires
emit_graph-emit_node-requires t c =
    let plan = c.args.plan.now in
    let nodes = c.nodes_in-nodes.result.now in
    let i = c.loop-node.node-index in
    let n : PlanNode = c.node-item.result in
    let ns = drop (i + 1) nodes in
    let inv = c.loop-node.invariant in
    let e : drop i nodes ≡ n ∷ ns = drop_more nodes i n c.loop-node-test.true ∙ ap (λ x. x ∷ ns) (sym c.node-item.is) in
    let below = subst (parts.AreNodesBelow plan (parts.extent_in plan c.args.graph)) e inv.below in
    let steps = inv.steps in
    let cells = inv.cells in
    let size = ap (parts.nodes_steps plan) e in
    let extent = ap (parts.nodes_cells plan) e in
    let first = le-max_left (n.width + (parts.own_copies n.work n.ins + parts.work_cells plan n.work)) (n.width + parts.nodes_cells plan ns) in
    let room = c.requires.cells in
    let some = c.if-levels-eq0.false in (
      omega (arith, c.decreases, some),
      (c.requires.formed, (below-more (parts.extent_in plan c.args.graph) (2 ^ 32 - c.args.lo) n.ins (omega (arith, room)) below.0, (below.1, (omega (arith, steps, size), omega (arith, cells, extent, first))))),
    )

pub emit_node-returns-in-Plain : goal.emit_node-returns-in-Plain
emit_node-returns-in-Plain t c =
    let plan = c.args.plan.now in
    on_ok_weaker c.add_plain.result
    (λ e. fire-made plan c.requires.formed c.args.room c.args.levels c.args.node.now c.args.args.now c.args.first c.in-Plain.row c.in-Plain.shape c.in-Plain.written c.in-Plain.counted c.args.place c.args.lo c.args.draft.now c.add_plain.new.draft
    c.args.node.now.ins refl c.in-Plain.is e)
    c.add_plain.ensures

pub emit_node-returns-in_ok-listed-in-Call : goal.emit_node-returns-in_ok-listed-in-Call
emit_node-returns-in_ok-listed-in-Call t c =
    let plan = c.args.plan.now in
    let f = c.in-Call.function in
    let inputs : c.number_at-inputs.result ≡ table_of plan.params f = c.number_at-inputs.ensures ∙ ap (λ x. table_of x f) c.as_slice-in-Call.ensures in
    let cells : c.number_at.result ≡ table_of plan.extents f = c.number_at.ensures ∙ ap (λ x. table_of x f) c.as_slice-in-Call-2.ensures in
    on_ok_weaker c.add_call.result
    (λ e. call-made plan c.requires.formed c.args.room c.args.levels c.args.node.now c.args.args.now c.args.first c.in-Call.function c.number_at-entry.result (c.number_at-inputs.result + c.number_at.result) c.args.place c.args.lo c.args.draft.now c.add_call.new.draft
    c.as_slice-ports.result.now (c.as_slice-ports.ensures ∙ c.in_ok-listed-in-Call.ensures) c.in-Call.is (c.number_at-entry.ensures ∙ ap (λ x. table_of x c.in-Call.function) c.as_slice.ensures) (omega (arith, inputs, cells)) e)
    c.add_call.ensures

pub emit_whole-returns : goal.emit_whole-returns
emit_whole-returns t c =
    let plan = c.args.plan.now in
    on_ok_weaker c.emit_parts.result
    (λ e. whole-made plan c.requires.formed c.args.room c.args.levels c.args.node.now c.args.args.now c.as_slice.result.now (parts.mode_by c.first_given.result) c.args.first c.args.place c.args.lo (c.args.lo + c.args.node.now.width) c.copied-many.result
    (c.args.place + c.work_steps.result) (c.args.lo + c.args.node.now.width + c.copied-many.result) c.args.draft.now c.add_count.new.draft c.add_copies.new.draft c.emit_parts.new.draft c.as_slice-ports.result.now (c.as_slice-ports.ensures ∙ c.in_ok-listed.ensures) c.requires.whole
    refl c.copied-many.ensures (ap (λ q. c.args.place + q) c.work_steps.ensures) refl c.first_given.ensures (c.as_slice.ensures ∙ c.in_ok-own.ensures) (c.in_ok-add_count.ensures plan) c.in_ok-add_copies.ensures e)
    c.emit_parts.ensures

pub emit_whole-add_copies-requires-clause-many : goal.emit_whole-add_copies-requires-clause-many
emit_whole-add_copies-requires-clause-many t c = c.copied-many.ensures ∙ sym (many-copied c.as_slice-ports.result.now)

pub emit_loop-returns : goal.emit_loop-returns
emit_loop-returns t c =
    let plan = c.args.plan.now in
    let p = c.args.parts in
    let n = length c.results_in.result.now in
    let k = length c.collects_in-collects.result.now in
    let cs_are = c.collects_in-collects.ensures ∙ ap (λ x. collects_of (slice_get x p.returns)) c.as_slice-graphs.ensures in
    let ri : c.number_at.result ≡ table_of plan.sizes p.init = c.number_at.ensures ∙ ap (λ x. table_of x p.init) c.as_slice-sizes.ensures in
    let rb : c.number_at-2.result ≡ table_of plan.sizes p.body = c.number_at-2.ensures ∙ ap (λ x. table_of x p.body) c.as_slice-sizes.ensures in
    let rt : c.number_at-3.result ≡ table_of plan.sizes p.test = c.number_at-3.ensures ∙ ap (λ x. table_of x p.test) c.as_slice-sizes.ensures in
    let begun = c.args.place + c.number_at.result + 1 in
    let turn = begun + c.one_if.result in
    let tests = turn + c.number_at-2.result + 1 in
    let leave = tests + c.number_at-3.result + 1 in
    let top = c.args.mid + n + k in
    on_ok_weaker c.emit_arm.result
    (λ e. loop-made plan c.requires.formed c.args.room c.args.levels c.args.early c.args.own.now c.as_slice-turned.result.now c.as_slice-folds.result.now p c.args.place c.args.width c.args.next c.args.lo c.args.mid n k begun c.starts_at-starts.result turn tests leave top
    c.args.draft.now c.emit_first.new.draft c.add_early.new.draft c.emit_turns.new.draft c.emit_arm.new.draft
    (ap length (c.results_in.ensures ∙ ap (λ x. results_of (slice_get x p.init)) c.as_slice-graphs.ensures)) (ap length cs_are) (omega (arith, ri)) (ap (λ q. begun + q) c.one_if.ensures) (omega (arith, rb)) (omega (arith, rt)) c.starts_at-starts.ensures (omega arith)
    (c.as_slice-turned.ensures ∙ c.in_ok-lent.ensures) (c.as_slice-folds.ensures ∙ (c.in_ok-all.ensures ∙ ap (λ q. c.args.own.now ++ stand_from q (c.args.mid + n) c.args.mid) cs_are))
    c.in_ok-emit_first.ensures (c.in_ok-add_early.ensures plan) c.in_ok-emit_turns.ensures
    (subst (λ q. ArmMade plan c.args.room c.args.levels c.as_slice-folds.result.now q leave c.args.width c.args.next c.args.lo top c.emit_turns.new.draft c.emit_arm.new.draft) (c.refolded_in-last.ensures ∙ ap (λ x. refolded_of p.returns (slice_get x p.returns)) c.as_slice-graphs.ensures) e))
    c.emit_arm.ensures

pub emit_loop-with_stand-requires-clause-columns : goal.emit_loop-with_stand-requires-clause-columns
emit_loop-with_stand-requires-clause-columns t c =
    let plan = c.args.plan.now in
    let p = c.args.parts in
    let N = length (parts.graph_results plan p.init) in
    let m = le-max_right (parts.extent_in plan p.init) (N + (length (parts.graph_collects plan p.returns) + max (parts.extent_in plan p.test) (max (parts.extent_in plan p.body) (parts.extent_in plan (parts.graph_refolded plan p.returns))))) in
    let cells = c.requires.cells in
    columns-more N (2 ^ 32 - c.args.mid) c.collects_in-collects.result.now (omega (arith, m, cells))
    (subst (parts.AreColumnsBelow N) (sym (c.collects_in-collects.ensures ∙ ap (λ x. collects_of (slice_get x p.returns)) c.as_slice-graphs.ensures)) c.requires.columns)

pub emit_for_all-returns : goal.emit_for_all-returns
emit_for_all-returns t c =
    let plan = c.args.plan.now in
    let g = c.args.generator in
    let r = c.args.returns in
    let n = length c.results_in-ports.result.now in
    let k = length c.collects_in-collects.result.now in
    let ports_are = c.results_in-ports.ensures ∙ ap (λ x. results_of (slice_get x g)) c.as_slice-graphs.ensures in
    let cs_are = c.collects_in-collects.ensures ∙ ap (λ x. collects_of (slice_get x r)) c.as_slice-graphs.ensures in
    let rg : c.number_at.result ≡ table_of plan.sizes g = c.number_at.ensures ∙ ap (λ x. table_of x g) c.as_slice-sizes.ensures in
    let rb : c.number_at-2.result ≡ table_of plan.sizes c.args.body = c.number_at-2.ensures ∙ ap (λ x. table_of x c.args.body) c.as_slice-sizes.ensures in
    let turn = c.args.place + c.number_at.result + 1 in
    let turns = turn + c.number_at-2.result + 1 in
    let top = c.args.mid + n + k in
    let up : top + 1 ≡ suc top = omega arith in
    on_ok_weaker c.emit_arm.result
    (λ e. for-all-made plan c.requires.formed c.args.room c.args.levels c.args.own.now c.as_slice-turned.result.now c.as_slice.result.now c.as_slice-folds.result.now g c.args.body r c.args.place c.args.width c.args.next c.args.lo c.args.mid n k turn turns (turns + 1) top (c.args.mid + n) (top + 1 + n)
    c.args.draft.now c.emit_graph.new.draft c.add_spread.new.draft c.emit_rows.new.draft c.add_each.new.draft c.emit_arm.new.draft c.results_in-ports.result.now c.collects_in-collects.result.now ports_are cs_are
    (ap length ports_are) (ap length cs_are) (omega (arith, rg)) (omega (arith, rb)) (omega arith) (omega arith) refl (omega arith)
    (c.as_slice-turned.ensures ∙ (c.in_ok-lent.ensures ∙ ap (λ q. c.args.own.now ++ cells_from q n) up)) (c.as_slice.ensures ∙ c.in_ok-listed.ensures) (c.as_slice-folds.ensures ∙ c.in_ok-all.ensures)
    c.in_ok-emit_graph.ensures c.in_ok-add_spread.ensures c.in_ok-emit_rows.ensures (λ P o lives owns. c.in_ok-add_each.ensures plan P o lives owns c.requires.formed)
    (subst (λ q. ArmMade plan c.args.room c.args.levels c.as_slice-folds.result.now q (turns + 1) c.args.width c.args.next c.args.lo top c.add_each.new.draft c.emit_arm.new.draft) (c.refolded_in-last.ensures ∙ ap (λ x. refolded_of r (slice_get x r)) c.as_slice-graphs.ensures) e))
    c.emit_arm.ensures

-- ---- what the results of a graph are read of

pub emit_arm-add_move-requires-clause-below : goal.emit_arm-add_move-requires-clause-below
emit_arm-add_move-requires-clause-below t c =
    results-below c.args.plan.now c.requires.formed c.args.graph c.args.up c.requires.cells c.results_in-ports.result.now (c.results_in-ports.ensures ∙ ap (λ x. results_of (slice_get x c.args.graph)) c.as_slice.ensures)

pub emit_first-add_begin-requires-clause-below : goal.emit_first-add_begin-requires-clause-below
emit_first-add_begin-requires-clause-below t c =
    results-below c.args.plan.now c.requires.formed c.args.parts.init c.args.mid c.requires.cells c.results_in-ports.result.now (c.results_in-ports.ensures ∙ ap (λ x. results_of (slice_get x c.args.parts.init)) c.as_slice-graphs.ensures)

pub emit_for_all-add_spread-requires-clause-below : goal.emit_for_all-add_spread-requires-clause-below
emit_for_all-add_spread-requires-clause-below t c =
    let plan = c.args.plan.now in
    let g = c.args.generator in
    let N = length (parts.graph_results plan g) in
    let m = le-max_left (parts.extent_in plan g) (N + (length (parts.graph_collects plan c.args.returns) + max (suc N + parts.extent_in plan c.args.body) (parts.extent_in plan (parts.graph_refolded plan c.args.returns)))) in
    let cells = c.requires.cells in
    results-below plan c.requires.formed g c.args.mid (omega (arith, m, cells)) c.results_in-ports.result.now (c.results_in-ports.ensures ∙ ap (λ x. results_of (slice_get x g)) c.as_slice-graphs.ensures)

pub emit_rows-add_put-requires-clause-below : goal.emit_rows-add_put-requires-clause-below
emit_rows-add_put-requires-clause-below t c =
    results-below c.args.plan.now c.requires.formed c.args.body c.args.up c.requires.cells c.results_in-ports.result.now (c.results_in-ports.ensures ∙ ap (λ x. results_of (slice_get x c.args.body)) c.as_slice-graphs.ensures)

pub emit_select-first_seat-chosen-requires : goal.emit_select-first_seat-chosen-requires
emit_select-first_seat-chosen-requires t c =
    let plan = c.args.plan.now in
    let m = le-max_left (parts.extent_in plan c.args.selector) (parts.greatest_of plan c.args.arms.now) in
    let cells = c.requires.cells in
    results-below plan c.requires.formed c.args.selector c.args.mid (omega (arith, m, cells)) c.results_in-ports.result.now (c.results_in-ports.ensures ∙ ap (λ x. results_of (slice_get x c.args.selector)) c.as_slice.ensures)

pub emit_turns-add_keep-requires-clause-below : goal.emit_turns-add_keep-requires-clause-below
emit_turns-add_keep-requires-clause-below t c =
    results-below c.args.plan.now c.requires.formed c.args.parts.body c.args.top c.requires.body_cells c.results_in-values.result.now (c.results_in-values.ensures ∙ ap (λ x. results_of (slice_get x c.args.parts.body)) c.as_slice-graphs.ensures)

pub emit_turns-first_seat-told-requires : goal.emit_turns-first_seat-told-requires
emit_turns-first_seat-told-requires t c =
    results-below c.args.plan.now c.requires.formed c.args.parts.test c.args.top c.requires.test_cells c.results_in.result.now (c.results_in.ensures ∙ ap (λ x. results_of (slice_get x c.args.parts.test)) c.as_slice-graphs.ensures)

-- ---- one form each

pub emit_parts-returns-in-Select : goal.emit_parts-returns-in-Select
emit_parts-returns-in-Select t c =
    let plan = c.args.plan.now in
    on_ok_weaker c.emit_select.result
    (λ e. subst (λ x. PartsMade plan c.args.room c.args.levels (parts.mode_by c.args.union) c.args.own.now (parts.kind_of x c.args.width) c.args.place c.args.width c.args.next c.args.lo c.args.mid c.args.draft.now c.emit_select.new.draft) (sym c.in-Select.is)
    (subst (λ q. PartsMade plan c.args.room c.args.levels (parts.mode_by c.args.union) c.args.own.now (Whole (form.Select c.in-Select.selector q c.args.width)) c.args.place c.args.width c.args.next c.args.lo c.args.mid c.args.draft.now c.emit_select.new.draft) c.as_slice-chosen.ensures (e (parts.mode_by c.args.union))))
    c.emit_select.ensures

pub emit_parts-returns-in-TagCase : goal.emit_parts-returns-in-TagCase
emit_parts-returns-in-TagCase t c =
    let plan = c.args.plan.now in
    on_ok_weaker c.emit_tag.result
    (λ e. subst (λ x. PartsMade plan c.args.room c.args.levels (parts.mode_by c.args.union) c.args.own.now (parts.kind_of x c.args.width) c.args.place c.args.width c.args.next c.args.lo c.args.mid c.args.draft.now c.emit_tag.new.draft) (sym c.in-TagCase.is)
    (subst (λ q. PartsMade plan c.args.room c.args.levels (parts.mode_by c.args.union) c.args.own.now (Whole (form.TagCase q c.args.width)) c.args.place c.args.width c.args.next c.args.lo c.args.mid c.args.draft.now c.emit_tag.new.draft) c.as_slice-tagged.ensures e))
    c.emit_tag.ensures

pub emit_parts-returns-in-LoopA : goal.emit_parts-returns-in-LoopA
emit_parts-returns-in-LoopA t c =
    let plan = c.args.plan.now in
    on_ok_weaker c.emit_loop.result
    (λ e. subst (λ x. PartsMade plan c.args.room c.args.levels (parts.mode_by c.args.union) c.args.own.now (parts.kind_of x c.args.width) c.args.place c.args.width c.args.next c.args.lo c.args.mid c.args.draft.now c.emit_loop.new.draft) (sym c.in-LoopA.is) (e (parts.mode_by c.args.union)))
    c.emit_loop.ensures

pub emit_parts-returns-in-LoopB : goal.emit_parts-returns-in-LoopB
emit_parts-returns-in-LoopB t c =
    let plan = c.args.plan.now in
    on_ok_weaker c.emit_loop-in-LoopB.result
    (λ e. subst (λ x. PartsMade plan c.args.room c.args.levels (parts.mode_by c.args.union) c.args.own.now (parts.kind_of x c.args.width) c.args.place c.args.width c.args.next c.args.lo c.args.mid c.args.draft.now c.emit_loop-in-LoopB.new.draft) (sym c.in-LoopB.is) (e (parts.mode_by c.args.union)))
    c.emit_loop-in-LoopB.ensures

pub emit_parts-returns-in-ForAll : goal.emit_parts-returns-in-ForAll
emit_parts-returns-in-ForAll t c =
    let plan = c.args.plan.now in
    on_ok_weaker c.emit_for_all.result
    (λ e. subst (λ x. PartsMade plan c.args.room c.args.levels (parts.mode_by c.args.union) c.args.own.now (parts.kind_of x c.args.width) c.args.place c.args.width c.args.next c.args.lo c.args.mid c.args.draft.now c.emit_for_all.new.draft) (sym c.in-ForAll.is)
    (e (parts.mode_by c.args.union) c.in-ForAll.field-3))
    c.emit_for_all.ensures
