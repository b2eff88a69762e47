use Rattle.std.proofs.Common.{rules, w64, Fits, refl, ◌<◌, ◌≤◌, ◌+◌, ◌-◌, drop, length, ◌∙◌, subst, sym, arith}
use Rattle.run_store.specs.Stored as stored
use Rattle.run_cells.specs.Held.{heap_of}
use Rattle.step_code.specs.Reading.{operand_in, mode_in}
use Rattle.sequential.specs.Inside.{IsInside}
use Rattle.sequential.specs.Loading.{AreInside, AreApart}
use Rattle.sequential.proofs.LoadSteps.{drop-at, drop-none, capped-most}
use Rattle.step_code.specs.Reading.{AreClear}
use Rattle.sequential_loops.specs.Keeping.{ArePartlyOver}
use Rattle.sequential_loops.proofs.OverSteps.{over-begins, over-goes, over-ends}
use Rattle.sequential_loops.proofs.keeping.bring_over.Goals as goal

pub bring_to-requires : goal.bring_to-requires
bring_to-requires c =
    let l = c.loop-place in
    let split = drop-at c.args.operands.now l.place c.operand_at-operand.result c.operand_at-operand.ensures in
    let inside = subst (AreInside c.args.code.now (length c.args.cells.now.items - c.args.base)) split l.invariant.inside in
    let room = c.requires.room in
    let test = c.loop-place-test.true in
    let end = l.invariant.end in
    let size = l.invariant.size in
    record {
      inside = subst (λ n. IsInside c.args.code.now (n - c.args.base) c.operand_at-operand.result) (sym l.invariant.size) inside.0;
      room = omega (arith, room, test, end, size);
    }

pub loop-place-init : goal.loop-place-init
loop-place-init c =
    let fits : Fits w64 c.args.copies.now = search rules in
    let lt = fits.fits in
    record {
      end = refl;
      size = refl;
      small = omega (arith, lt);
      inside = c.requires.inside;
      apart = c.requires.apart;
      clear = c.requires.clear;
      over = λ h w low r. over-begins c.args.code.now c.args.base c.args.from (length c.args.operands.now) c.args.operands.now h c.args.cells.now.items c.args.copies.now c.requires.clear w low r;
    }

pub loop-place-preserved : goal.loop-place-preserved
loop-place-preserved c =
    let l = c.loop-place in
    let code = c.args.code.now in
    let os = c.args.operands.now in
    let a = c.operand_at-operand.result in
    let rest = drop (l.place + 1) os in
    let split = drop-at os l.place a c.operand_at-operand.ensures in
    let inside = subst (AreInside code (length c.args.cells.now.items - c.args.base)) split l.invariant.inside in
    let apart = subst (AreApart code) split l.invariant.apart in
    let clear = subst (AreClear c.args.from (length os)) split l.invariant.clear in
    let test = c.loop-place-test.true in
    let end = l.invariant.end in
    let few : l.place < length os = omega (arith, test, end) in
    record {
      end = l.invariant.end;
      size = c.in_ok-bring_to.ensures.size ∙ l.invariant.size;
      small = subst (λ n. n ≤ 18446744073709551615) (sym c.in_ok-bring_to.ensures.copies) (capped-most (l.copies + stored.copied_as (mode_in code a) (stored.seen (heap_of l.cells.items) c.args.base (mode_in code a) (operand_in code a))));
      inside = inside.1;
      apart = apart.1;
      clear = clear.1;
      over = λ h w low r.
          over-goes code c.args.base c.args.from (length os) os rest a l.place h l.cells.items c.bring_to.new.cells.items c.args.copies.now l.copies c.bring_to.new.copies
          (subst (λ xs. ArePartlyOver code c.args.base c.args.from (length os) os xs l.place h l.cells.items c.args.copies.now l.copies) split (l.invariant.over h w low r))
          clear.0 few c.in_ok-bring_to.ensures.brings c.in_ok-bring_to.ensures.copies apart.0;
    }

pub returns-clause-over : goal.returns-clause-over
returns-clause-over c = λ h w low r.
    let l = c.loop-place in
    let os = c.args.operands.now in
    let no = c.loop-place-test.false in
    let end = l.invariant.end in
    let le : length os ≤ l.place = omega (arith, no, end) in
    let most = l.invariant.small in
    let small : l.copies < 18446744073709551616 = omega (arith, most) in
    over-ends c.args.code.now c.args.base c.args.from (length os) os l.place h l.cells.items c.args.copies.now l.copies le small
    (subst (λ xs. ArePartlyOver c.args.code.now c.args.base c.args.from (length os) os xs l.place h l.cells.items c.args.copies.now l.copies) (drop-none os l.place le) (l.invariant.over h w low r))
