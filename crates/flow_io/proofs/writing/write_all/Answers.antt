use Rattle.std.proofs.Common.{List, ℕ, take, arith, subst}
use Rattle.flow_io.specs.Bytes.{AddsOn}
use Rattle.flow_io.proofs.Bytes.{adds_more, take-rest}
use Rattle.flow_io.proofs.writing.write_all.Goals as goal

pub loop-from-preserved : goal.loop-from-preserved
loop-from-preserved g c =
    let taken = g.O.Sink.taken in
    let bytes : List ℕ = c.args.bytes.now in
    let from : ℕ = c.loop-from.from in
    let n : ℕ = c.in_ok-from.field-0 in
    let step = subst (λ (ys : List ℕ). AddsOn (taken c.loop-from.to) (take n ys) (taken c.write.new.self)) (take-rest from bytes) c.in_ok-from.ensures.bytes in
    record {
      within = grind (arith, c.in_ok-from.ensures.count);
      taken = adds_more (taken c.args.to.now) (taken c.loop-from.to) (taken c.write.new.self) bytes from n c.loop-from.invariant.taken step;
      no_fault = cc (c.in_ok-from.ensures.no_fault, c.loop-from.invariant.no_fault);
    }
