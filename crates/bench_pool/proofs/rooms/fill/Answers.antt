use Rattle.std.proofs.Common.{refl, ap, ◌∙◌, arith}
use Rattle.bench_pool.proofs.Filled.{begins, is_unwritten, goes_on, all_written}
use Rattle.bench_pool.proofs.rooms.fill.Goals as goal

pub loop-i-init : goal.loop-i-init
loop-i-init c = let b = begins c.args.places c.args.part.now.part.places c.requires.unwritten in (refl, refl, refl, b)

pub write-requires : goal.write-requires
write-requires c = record { unwritten = is_unwritten c.args.places c.loop-i.part.part.places c.loop-i.i c.loop-i.invariant.3 c.loop-i-test.true }

pub loop-i-preserved : goal.loop-i-preserved
loop-i-preserved c =
    let v = c.loop-i.invariant in
    let w = c.write.ensures.written in (
      c.write.ensures.number ∙ v.0,
      ap (λ p. p.start) w ∙ v.1,
      ap (λ p. p.from) w ∙ v.2,
      goes_on c.args.places c.loop-i.part.part.places c.loop-i.i v.3 c.loop-i-test.true c.write.new.self.part.places _ (ap (λ p. p.places) w),
    )

pub returns-clause-written : goal.returns-clause-written
returns-clause-written c = let stop = c.loop-i-test.false in all_written c.args.places c.loop-i.part.part.places c.loop-i.i c.loop-i.invariant.3 (omega arith)
