use Rattle.std.proofs.Common.{◌∙◌, sym, ap}
use Rattle.run_code.specs.Collections.{put_in}
use Rattle.run_store.specs.Stored as stored
use Rattle.step_code.specs.Laid.{collect_in}
use Rattle.sequential.specs.Agrees.{owned_all}
use Rattle.sequential_loops.proofs.PutRows.{put-sifted}
use Rattle.sequential_loops.proofs.rows.is_put_in_place.Goals as goal

pub returns-in-Sifts-clause-put : goal.returns-in-Sifts-clause-put
returns-in-Sifts-clause-put c = λ pushed m there.
    c.is_sifted.ensures.put pushed m there
    ∙ (ap stored.Owns (sym (put-sifted c.in-Sifts.from c.in-Sifts.mask (owned_all c.args.row.now) m))
    ∙ ap (λ z. stored.Owns (put_in (collect_in z) (owned_all c.args.row.now) m)) (sym c.in-Sifts.is))
