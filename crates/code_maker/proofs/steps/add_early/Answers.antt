use Rattle.std.proofs.Common.{if◌then◌else◌, [], ◌∷◌, sym, subst}
use Rattle.std.proofs.lemmas.Result.{on_ok_weaker}
use Rattle.run_code.specs.Made.{line}
use Rattle.run_code.specs.Steps.{Count}
use Rattle.plan_data.specs.Settled.{setting}
use Rattle.code_maker.specs.Grows.{Grows}
use Rattle.code_maker.proofs.steps.add_early.Goals as goal

pub returns-then-early : goal.returns-then-early
returns-then-early c =
    on_ok_weaker c.add_count.result
    (λ e D P o lives owns. subst (λ b. Grows D P c.args.draft.now c.add_count.new.draft (if b then line o Count ∷ [] else []) (if b then setting [] [] lives owns ∷ [] else [])) (sym c.if-early.true) (e D P o lives owns))
    c.add_count.ensures
