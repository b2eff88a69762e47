use Rattle.std.proofs.Common.{refl}
use Rattle.code_maker.proofs.Emitting.{code-knit, code-made, code-told}
use Rattle.code_maker.proofs.make.code_of.Goals as goal

pub returns-clause-made : goal.returns-clause-made
returns-clause-made c = code-made c.args.plan c.args.levels c.args.functions.now c.in_ok-draft.draft _ refl refl refl refl refl refl c.in_ok-draft.ensures

pub returns-clause-told : goal.returns-clause-told
returns-clause-told c = code-told c.args.plan c.args.levels c.args.functions.now c.in_ok-draft.draft _ refl refl refl refl refl refl c.in_ok-draft.ensures

pub returns-clause-knit : goal.returns-clause-knit
returns-clause-knit c = code-knit c.args.plan c.args.levels c.args.functions.now c.in_ok-draft.draft _ refl refl refl refl refl refl c.in_ok-draft.ensures
