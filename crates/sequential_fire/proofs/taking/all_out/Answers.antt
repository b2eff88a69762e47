use Rattle.std.proofs.Common.{◌≡◌, ◌<◌, ◌++◌, ◌+◌, map, drop, get_or, length, sym, ◌∙◌, subst, arith}
use Rattle.flow_value.specs.Lent.{operand_value}
use Rattle.graph_meaning.specs.Carried.{Unfilled}
use Rattle.sequential.proofs.MoveSteps.{as-long, same-behind}
use Rattle.sequential_fire.specs.Given.{given_from, all_given}
use Rattle.sequential_fire.proofs.Counts.{split-at, none-behind}
use Rattle.sequential_fire.proofs.GivenRows.{given-more, append-nothing, longer}
use Rattle.sequential_fire.proofs.TakeSteps.{held-there}
use Rattle.sequential_fire.proofs.taking.all_out.Goals as goal

pub loop-place-preserved : goal.loop-place-preserved
loop-place-preserved c =
    let l = c.loop-place in
    let old = c.args.loaded.now.items in
    let row = c.args.row in
    let lt = c.loop-place-test.true in
    let end = l.invariant.end in
    let inside : l.place < length old = omega (arith, lt, end) in
    record {
      grown = longer l.ins.items c.push.new.self.items c.in_ok-one.one l.place c.in_ok-push.ensures.items l.invariant.grown;
      end = l.invariant.end;
      long = c.cell_out-cell.ensures.long ∙ l.invariant.long;
      others = c.cell_out-cell.ensures.others ∙ same-behind l.loaded.items old l.place l.invariant.others;
      all = λ ks are.
          let same = as-long old ks are in
          let split = split-at ks l.place Unfilled (omega (arith, inside, same)) in
          given-more row l.place (get_or ks l.place Unfilled) (drop (l.place + 1) ks) l.ins.items c.push.new.self.items c.in_ok-one.one c.wanted_at.result (all_given row ks) c.wanted_at.ensures
          (c.in_ok-one.ensures (get_or ks l.place Unfilled) (held-there old l.loaded.items ks l.place c.cell_out-cell.result are inside l.invariant.others c.cell_out-cell.ensures.value)) c.in_ok-push.ensures.items
          (subst (λ xs. map operand_value l.ins.items ++ given_from l.place row xs ≡ all_given row ks) split (l.invariant.all ks are));
    }

pub returns-clause-given : goal.returns-clause-given
returns-clause-given c = λ ks are.
    let l = c.loop-place in
    let old = c.args.loaded.now.items in
    let row = c.args.row in
    let no = c.loop-place-test.false in
    let end = l.invariant.end in
    let same = as-long old ks are in
    sym (append-nothing (map operand_value l.ins.items))
    ∙ subst (λ xs. map operand_value l.ins.items ++ given_from l.place row xs ≡ all_given row ks) (none-behind ks l.place (omega (arith, no, end, same))) (l.invariant.all ks are)
