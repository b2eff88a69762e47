use Rattle.std.proofs.Common.{take, length, sym, ◌∙◌, ap}
use Rattle.sisal_grammar.specs.Sorts.{args}
use Rattle.sisal_grammar.specs.declared.action.Action.TheVariants.{Rest}
use Rattle.sisal_depth.specs.Sizes.{grown}
use Rattle.sisal_depth.proofs.step.grow.Goals as goal

pub returns-in-Rest : goal.returns-in-Rest
returns-in-Rest c =
    c.rest.ensures ∙ (ap (λ n. grown Rest (take n c.args.sizes.now)) c.arity-count.ensures
    ∙ ap (λ a. grown a (take (length (args c.args.action)) c.args.sizes.now)) (sym c.in-Rest.is))
