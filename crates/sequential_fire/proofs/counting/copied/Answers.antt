use Rattle.std.proofs.Common.{◌≡◌, ◌≤◌, ◌+◌, ◌-◌, drop, length, sym, ap, ◌∙◌, subst, arith}
use Rattle.graph_meaning.specs.Storage.{capped}
use Rattle.run_store.specs.Stored as stored
use Rattle.run_cells.specs.Held.{heap_of}
use Rattle.step_code.specs.Reading.{operand_in, mode_in}
use Rattle.sequential.specs.Loading.{AreInside, modes_of, seen_of}
use Rattle.sequential.proofs.LoadSteps.{drop-at, drop-none, capped-most}
use Rattle.sequential_fire.proofs.Counts.{capped-more, capped-end}
use Rattle.sequential_fire.proofs.counting.copied.Goals as goal

pub copied_of-requires : goal.copied_of-requires
copied_of-requires c =
    let l = c.loop-place in
    let split = drop-at c.args.operands.now l.place c.operand_at-operand.result c.operand_at-operand.ensures in
    (subst (AreInside c.args.code.now (length c.args.cells.now - c.args.base)) split l.invariant.inside).0

pub loop-place-preserved : goal.loop-place-preserved
loop-place-preserved c =
    let l = c.loop-place in
    let code = c.args.code.now in
    let h = heap_of c.args.cells.now in
    let b = c.args.base in
    let os = c.args.operands.now in
    let a = c.operand_at-operand.result in
    let rest = drop (l.place + 1) os in
    let split = drop-at os l.place a c.operand_at-operand.ensures in
    let x = stored.copied_as (mode_in code a) (stored.seen h b (mode_in code a) (operand_in code a)) in
    let y = stored.copied (modes_of code rest) (seen_of code b h rest) in
    let e = c.saturating_add-sum.ensures ∙ ap (λ z. capped (l.sum + z)) c.copied_of.ensures in
    record {
      end = l.invariant.end;
      small = subst (λ n. n ≤ 18446744073709551615) (sym e) (capped-most (l.sum + capped x));
      inside = (subst (AreInside code (length c.args.cells.now - b)) split l.invariant.inside).1;
      total = ap (λ s. capped (s + y)) e ∙ (capped-more l.sum x y ∙ subst (λ xs. capped (l.sum + stored.copied (modes_of code xs) (seen_of code b h xs)) ≡ capped (stored.copied (modes_of code os) (seen_of code b h os))) split l.invariant.total);
    }

pub returns : goal.returns
returns c =
    let l = c.loop-place in
    let code = c.args.code.now in
    let h = heap_of c.args.cells.now in
    let b = c.args.base in
    let os = c.args.operands.now in
    let no = c.loop-place-test.false in
    let end = l.invariant.end in
    let over : length os ≤ l.place = omega (arith, no, end) in
    capped-end l.sum (capped (stored.copied (modes_of code os) (seen_of code b h os))) l.invariant.small
    (subst (λ xs. capped (l.sum + stored.copied (modes_of code xs) (seen_of code b h xs)) ≡ capped (stored.copied (modes_of code os) (seen_of code b h os))) (drop-none os l.place over) l.invariant.total)
