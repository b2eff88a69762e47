use Rattle.std.proofs.Common.{refl}
use Rattle.std.proofs.lemmas.Result.{on_ok_weaker}
use Rattle.code_maker.proofs.Adding.{count-grows}
use Rattle.code_maker.proofs.steps.add_count.Goals as goal

pub returns : goal.returns
returns c =
    on_ok_weaker c.add.result
    (λ e D P o lives owns. count-grows D P c.args.draft.now _ o lives owns e refl refl refl)
    c.add.ensures.ok
