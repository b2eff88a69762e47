use Rattle.std.proofs.Common.{◌<◌, ◌≤◌, ◌+◌, ◌-◌, drop, length, ◌∙◌, subst, sym, arith}
use Rattle.run_store.specs.Stored as stored
use Rattle.run_cells.specs.Held.{heap_of}
use Rattle.step_code.specs.Reading.{operand_in, mode_in}
use Rattle.sequential.specs.Inside.{IsInside}
use Rattle.sequential.specs.Loading.{AreInside, AreApart, IsPartly}
use Rattle.sequential.proofs.LoadSteps.{goes, ends, drop-at, drop-none, one-longer, capped-most}
use Rattle.sequential.proofs.loading.load.Goals as goal

pub brought-requires : goal.brought-requires
brought-requires c =
    let l = c.loop-place in
    let split = drop-at c.args.operands.now l.place c.operand_at-operand.result c.operand_at-operand.ensures in
    let inside = subst (AreInside c.args.code.now (length c.args.cells.now.items - c.args.base)) split l.invariant.inside in
    subst (λ n. IsInside c.args.code.now (n - c.args.base) c.operand_at-operand.result) (sym l.invariant.size) inside.0

pub loop-place-preserved : goal.loop-place-preserved
loop-place-preserved c =
    let l = c.loop-place in
    let code = c.args.code.now in
    let os = c.args.operands.now in
    let a = c.operand_at-operand.result in
    let rest = drop (l.place + 1) os in
    let split = drop-at os l.place a c.operand_at-operand.ensures in
    let inside = subst (AreInside code (length c.args.cells.now.items - c.args.base)) split l.invariant.inside in
    let apart = subst (AreApart code) split l.invariant.apart in
    record {
      end = l.invariant.end;
      size = c.in_ok-cell.ensures.size ∙ l.invariant.size;
      long = one-longer c.put_behind.new.list.items l.loaded.items c.in_ok-cell.cell l.place c.in_ok-put_behind.ensures l.invariant.long;
      small = subst (λ n. n ≤ 18446744073709551615) (sym c.in_ok-cell.ensures.copies) (capped-most (l.copies + stored.copied_as (mode_in code a) (stored.seen (heap_of l.cells.items) c.args.base (mode_in code a) (operand_in code a))));
      inside = inside.1;
      apart = apart.1;
      loads = λ h w low r.
          subst (λ xs. IsPartly code c.args.base os rest h xs c.brought.new.cells.items c.args.copies.now c.brought.new.copies) (sym c.in_ok-put_behind.ensures)
          (goes code c.args.base os rest a h l.loaded.items l.cells.items c.brought.new.cells.items c.in_ok-cell.cell c.args.copies.now l.copies c.brought.new.copies
          (subst (λ xs. IsPartly code c.args.base os xs h l.loaded.items l.cells.items c.args.copies.now l.copies) split (l.invariant.loads h w low r))
          c.in_ok-cell.ensures.value c.in_ok-cell.ensures.left c.in_ok-cell.ensures.copies apart.0);
    }

pub returns-clause-loads : goal.returns-clause-loads
returns-clause-loads c = λ h w low r.
    let l = c.loop-place in
    let os = c.args.operands.now in
    let no = c.loop-place-test.false in
    let end = l.invariant.end in
    let over : length os ≤ l.place = omega (arith, no, end) in
    let most = l.invariant.small in
    let small : l.copies < 18446744073709551616 = omega (arith, most) in
    ends c.args.code.now c.args.base os h l.loaded.items l.cells.items c.args.copies.now l.copies small
    (subst (λ xs. IsPartly c.args.code.now c.args.base os xs h l.loaded.items l.cells.items c.args.copies.now l.copies) (drop-none os l.place over) (l.invariant.loads h w low r))
