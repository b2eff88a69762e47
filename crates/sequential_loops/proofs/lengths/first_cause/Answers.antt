use Rattle.std.proofs.Common.{◌≡◌, ◌+◌, ◌-◌, ◌≤◌, List, drop, length, ap, ◌∙◌, subst, arith}
use Rattle.loop_folds.specs.Elements.{or_else}
use Rattle.graph_meaning.specs.Forms.{first_spoiled}
use Rattle.run_cells.specs.Held.{heap_of}
use Rattle.step_code.specs.declared.code.Operand.{Operand}
use Rattle.sequential.specs.Loading.{AreInside, seen_of}
use Rattle.sequential_loops.proofs.Lists.{drop-next, drop-all}
use Rattle.sequential_loops.proofs.lengths.first_cause.Goals as goal

pub cause_of-requires : goal.cause_of-requires
cause_of-requires c =
    let l = c.loop-place in
    (subst (AreInside c.args.code.now (length c.args.cells.now - c.args.base)) (drop-next c.args.operands.now l.place c.operand_at-operand.result c.operand_at-operand.ensures) l.invariant.inside).0

pub returns-in-Some : goal.returns-in-Some
returns-in-Some c =
    let l = c.loop-place in
    let code = c.args.code.now in
    let h = heap_of c.args.cells.now in
    let os = c.args.operands.now in
    let a = c.operand_at-operand.result in
    let rest = seen_of code c.args.base h (drop (l.place + 1) os) in
    let same = subst (λ (zs : List Operand). first_spoiled (seen_of code c.args.base h zs) ≡ first_spoiled (seen_of code c.args.base h os)) (drop-next os l.place a c.operand_at-operand.ensures) l.invariant.same in
    ap (λ z. or_else z (first_spoiled rest)) c.in-Some.ensures ∙ same

pub loop-place-preserved : goal.loop-place-preserved
loop-place-preserved c =
    let l = c.loop-place in
    let code = c.args.code.now in
    let h = heap_of c.args.cells.now in
    let os = c.args.operands.now in
    let a = c.operand_at-operand.result in
    let split = drop-next os l.place a c.operand_at-operand.ensures in
    let rest = seen_of code c.args.base h (drop (l.place + 1) os) in
    let same = subst (λ (zs : List Operand). first_spoiled (seen_of code c.args.base h zs) ≡ first_spoiled (seen_of code c.args.base h os)) split l.invariant.same in
    record {
      end = l.invariant.end;
      inside = (subst (AreInside code (length c.args.cells.now - c.args.base)) split l.invariant.inside).1;
      same = ap (λ z. or_else z (first_spoiled rest)) c.in-None.ensures ∙ same;
    }

pub returns : goal.returns
returns c =
    let l = c.loop-place in
    let os = c.args.operands.now in
    let no = c.loop-place-test.false in
    let end = l.invariant.end in
    let over : length os ≤ l.place = omega (arith, no, end) in
    subst (λ (zs : List Operand). first_spoiled (seen_of c.args.code.now c.args.base (heap_of c.args.cells.now) zs) ≡ first_spoiled (seen_of c.args.code.now c.args.base (heap_of c.args.cells.now) os)) (drop-all os l.place over) l.invariant.same
