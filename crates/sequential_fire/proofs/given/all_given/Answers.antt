use Rattle.std.proofs.Common.{◌≡◌, ◌≤◌, ◌++◌, ◌+◌, map, drop, length, sym, ap, ◌∙◌, subst, arith}
use Rattle.flow_value.specs.Lent.{operand_value}
use Rattle.graph_meaning.specs.Carried.{Carried}
use Rattle.run_store.specs.Stored as stored
use Rattle.run_cells.specs.Held.{heap_of}
use Rattle.step_code.specs.declared.code.Operand.{Operand}
use Rattle.step_code.specs.Reading.{operand_in, mode_in}
use Rattle.sequential.specs.Loading.{AreInside, seen_of}
use Rattle.sequential.proofs.LoadSteps.{drop-at, drop-none}
use Rattle.sequential_fire.specs.Given.{given_as, given_from, all_given}
use Rattle.sequential_fire.proofs.GivenRows.{given-more, append-nothing, longer}
use Rattle.sequential_fire.proofs.given.all_given.Goals as goal

pub sight-requires : goal.sight-requires
sight-requires c =
    let l = c.loop-place in
    let split = drop-at c.args.operands.now l.place c.operand_at-operand.result c.operand_at-operand.ensures in
    (subst (AreInside c.args.code.now _) split l.invariant.inside).0

pub loop-place-preserved : goal.loop-place-preserved
loop-place-preserved c =
    let l = c.loop-place in
    let split = drop-at c.args.operands.now l.place c.operand_at-operand.result c.operand_at-operand.ensures in
    record {
      grown = longer l.ins.items c.push.new.self.items c.in_ok-one.one l.place c.in_ok-push.ensures.items l.invariant.grown;
      end = l.invariant.end;
      inside = (subst (AreInside c.args.code.now _) split l.invariant.inside).1;
      all = given-more c.args.row l.place (reading c.operand_at-operand.result) (seen_of c.args.code.now c.args.base (heap_of c.args.cells.now) (drop (l.place + 1) c.args.operands.now)) l.ins.items c.push.new.self.items c.in_ok-one.one c.wanted_at.result
          (all_given c.args.row (seen_of c.args.code.now c.args.base (heap_of c.args.cells.now) c.args.operands.now)) c.wanted_at.ensures (c.in_ok-one.ensures ∙ ap (given_as c.wanted_at.result) c.sight.ensures) c.in_ok-push.ensures.items
          (subst (λ os. map operand_value l.ins.items ++ given_from l.place c.args.row (seen_of c.args.code.now c.args.base (heap_of c.args.cells.now) os) ≡ all_given c.args.row (seen_of c.args.code.now c.args.base (heap_of c.args.cells.now) c.args.operands.now)) split l.invariant.all);
    }
  where
    reading : Operand → Carried
    reading a = stored.seen (heap_of c.args.cells.now) c.args.base (mode_in c.args.code.now a) (operand_in c.args.code.now a)

pub returns-clause-given : goal.returns-clause-given
returns-clause-given c =
    let l = c.loop-place in
    let os = c.args.operands.now in
    let no = c.loop-place-test.false in
    let end = l.invariant.end in
    let over : length os ≤ l.place = omega (arith, no, end) in
    sym (append-nothing (map operand_value l.ins.items))
    ∙ subst (λ xs. map operand_value l.ins.items ++ given_from l.place c.args.row (seen_of c.args.code.now c.args.base (heap_of c.args.cells.now) xs) ≡ all_given c.args.row (seen_of c.args.code.now c.args.base (heap_of c.args.cells.now) os)) (drop-none os l.place over) l.invariant.all
