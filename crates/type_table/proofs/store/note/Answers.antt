use Rattle.std.proofs.Common.{◌≡◌, ◌∙◌, arith, refl}
use Rattle.type_table.proofs.Members.{noted_step, noted_elsewhere}
use Rattle.type_table.proofs.store.note.Goals as goal

pub loop-at-preserved : goal.loop-at-preserved
loop-at-preserved c = record {
  within = omega arith;
  here = noted_step c.loop-at.places c.insert.new.self _ _ _ _ _ _ (omega arith) refl (omega arith) c.in_ok-insert.ensures.updates c.loop-at.invariant.here;
  others = λ k name ne. noted_elsewhere c.loop-at.places c.insert.new.self _ _ _ c.in_ok-insert.ensures.updates k name ne ∙ c.loop-at.invariant.others k name ne;
}
