use Rattle.std.proofs.Common.{sym, ap, ◌∙◌}
use Rattle.run_code.specs.Collections.{put_in}
use Rattle.run_store.specs.Stored as stored
use Rattle.step_code.specs.Laid.{collect_in}
use Rattle.sequential.specs.Agrees.{owned_all}
use Rattle.sequential_loops.proofs.PutRows.{put-sifted}
use Rattle.sequential_loops.proofs.putting.put.Goals as goal

pub returns-in_ok-more-in-Sifts-clause-value : goal.returns-in_ok-more-in-Sifts-clause-value
returns-in_ok-more-in-Sifts-clause-value c = λ m there.
    let row = owned_all c.args.row.now.items in
    c.in_ok-more-in-Sifts.ensures.value m there ∙ (ap stored.Owns (sym (put-sifted c.in-Sifts.place c.in-Sifts.mask row m)) ∙ ap (λ z. stored.Owns (put_in (collect_in z) row m)) (sym c.in-Sifts.is))
