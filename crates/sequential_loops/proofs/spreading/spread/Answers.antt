use Rattle.std.proofs.Common.{◌≡◌, ◌+◌, List, length, subst, refl, ap, ◌∙◌, arith}
use Rattle.graph_meaning.specs.Forms.{first_spoiled}
use Rattle.run_code.specs.Machine.{spreads}
use Rattle.run_cells.specs.declared.cell.Cell.{Cell}
use Rattle.run_cells.specs.Held.{heap_of}
use Rattle.step_code.specs.declared.code.Operand.{Operand}
use Rattle.step_code.specs.declared.step.Collect.{Collect}
use Rattle.sequential.specs.declared.machine.Machine.{Machine}
use Rattle.sequential.specs.Loading.{seen_of}
use Rattle.sequential_loops.specs.Laying.{IsLaid}
use Rattle.sequential_loops.specs.Moving.{LoadsMoved}
use Rattle.sequential_loops.specs.Spreading.{by_obstacle, LoadsKept, spread_cells}
use Rattle.sequential_loops.proofs.SpreadSteps.{spread-goes, spread-fails}
use Rattle.sequential_loops.proofs.spreading.spread.Goals as goal

pub spread_out-requires : goal.spread_out-requires
spread_out-requires c =
    let to = c.requires.to in
    let long = c.requires.long in
    let counted = c.requires.counted in
    let loaded = c.in_ok-load_moved-in-None.ensures.long in
    let list = ap length c.operands_from-operands.ensures in
    let these = ap length c.collects_from.ensures in
    let size = c.in_ok-load_moved-in-None.ensures.size in
    omega (arith, to, long, counted, loaded, list, these, size)

pub returns-in_ok-spread_out-in-None-clause-does : goal.returns-in_ok-spread_out-in-None-clause-does
returns-in_ok-spread_out-in-None-clause-does c =
    let m = c.args.machine.now in
    let a = c.args in
    let code = a.code.now in
    let loaded = c.load_moved.new.loaded.items in
    let mid = c.load_moved.new.cells.items in
    let now = c.spread_out.new.cells.items in
    let new : Machine = record { pc = a.turns; base = m.base; cells = c.spread_out.new.cells; calls = m.calls; fires = m.fires; copies = c.load_moved.new.copies; results = c.spread_out.new.loaded } in
    let decided = subst (λ (xs : List Cell). spreads (first_spoiled (seen_of code m.base (heap_of xs) c.operands_from-operands.result.now)) (seen_of code m.base (heap_of xs) c.operands_from-operands.result.now) a.turns ≡ by_obstacle c.obstacle_to-obstacle.result a.turns) c.as_slice.ensures.value (c.obstacle_to-obstacle.ensures a.turns) in
    let leads = subst (λ (os : List Operand). spreads (first_spoiled (seen_of code m.base (heap_of m.cells.items) os)) (seen_of code m.base (heap_of m.cells.items) os) a.turns ≡ by_obstacle c.obstacle_to-obstacle.result a.turns) c.operands_from-operands.ensures decided in
    spread-goes code a.limit m new a.froms a.many a.collects a.count a.to a.turns a.out a.width a.next loaded mid (leads ∙ ap (λ o. by_obstacle o a.turns) c.in-None.is) c.requires.long c.requires.counted
    (subst (λ (os : List Operand). LoadsMoved code m.base a.to ((a.many + a.count) + 1) os m.cells.items loaded mid m.copies c.load_moved.new.copies) c.operands_from-operands.ensures c.in_ok-load_moved-in-None.ensures.loads)
    (subst (λ (zs : List Collect). IsLaid (m.base + a.to) (length loaded + (length zs + 1)) (spread_cells loaded zs) (heap_of mid) (heap_of now)) c.collects_from.ensures c.in_ok-spread_out-in-None.ensures.laid)
    refl refl (record { base = refl; calls = refl })

pub returns-in_ok-load_kept-in-Some-clause-does : goal.returns-in_ok-load_kept-in-Some-clause-does
returns-in_ok-load_kept-in-Some-clause-does c =
    let m = c.args.machine.now in
    let a = c.args in
    let code = a.code.now in
    let loaded = c.load_kept.new.loaded.items in
    let mid = c.load_kept.new.cells.items in
    let new : Machine = record { pc = a.next; base = m.base; cells = c.spoil.new.cells; calls = m.calls; fires = m.fires; copies = c.load_kept.new.copies; results = c.load_kept.new.loaded } in
    let decided = subst (λ (xs : List Cell). spreads (first_spoiled (seen_of code m.base (heap_of xs) c.operands_from-operands.result.now)) (seen_of code m.base (heap_of xs) c.operands_from-operands.result.now) a.turns ≡ by_obstacle c.obstacle_to-obstacle.result a.turns) c.as_slice.ensures.value (c.obstacle_to-obstacle.ensures a.turns) in
    let leads = subst (λ (os : List Operand). spreads (first_spoiled (seen_of code m.base (heap_of m.cells.items) os)) (seen_of code m.base (heap_of m.cells.items) os) a.turns ≡ by_obstacle c.obstacle_to-obstacle.result a.turns) c.operands_from-operands.ensures decided in
    spread-fails code a.limit m new a.froms a.many a.collects a.count a.to a.turns a.out a.width a.next c.in-Some.cause loaded mid (leads ∙ ap (λ o. by_obstacle o a.turns) c.in-Some.is)
    (subst (λ (os : List Operand). LoadsKept code m.base os m.cells.items loaded mid m.copies c.load_kept.new.copies) c.operands_from-operands.ensures c.in_ok-load_kept-in-Some.ensures.loads)
    c.spoil.ensures.heap refl refl (record { base = refl; calls = refl })
