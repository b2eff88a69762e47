use Rattle.std.proofs.Common.{refl, arith}
use Rattle.flow_value.proofs.Rows.{slides, slid_is, slid_open, slides_on, settles}
use Rattle.flow_value.proofs.row.Row.settle.Goals as goal

pub loop-place-init : goal.loop-place-init
loop-place-init g c = slides c.args.self.now c.requires (omega (arith, c.if-self-gt0.true))

pub read-item-requires : goal.read-item-requires
read-item-requires g c = slid_is c.args.self.now c.loop-place.self c.loop-place.place c.loop-place.invariant (omega (arith, c.loop-place-test.true))

pub write-requires : goal.write-requires
write-requires g c = rw c.read-item.ensures.1 (slid_open c.args.self.now c.loop-place.self c.loop-place.place c.loop-place.invariant (omega (arith, c.loop-place-test.true)))

pub loop-place-preserved : goal.loop-place-preserved
loop-place-preserved g c =
    rw (c.write.ensures, c.read-item.ensures.1) (slides_on c.args.self.now c.loop-place.self c.loop-place.place c.loop-place.invariant (omega (arith, c.loop-place-test.true)) c.read-item.result c.read-item.ensures.0)

pub returns-after-loop-place : goal.returns-after-loop-place
returns-after-loop-place g c = let made = settles c.args.self.now c.loop-place.self c.loop-place.place c.loop-place.invariant (omega (arith, c.loop-place-test.false)) in (made.0, made.1, refl)
