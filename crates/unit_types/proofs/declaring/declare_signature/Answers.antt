use Rattle.unit_types.proofs.Numbered.{numbered_more}
use Rattle.unit_types.proofs.Owning.{owned_more}
use Rattle.unit_types.proofs.declaring.declare_signature.Goals as goal

pub returns-in-Global-clause-numbers : goal.returns-in-Global-clause-numbers
returns-in-Global-clause-numbers c = numbered_more (λ s. s.name) _ _ _ _ _ c.give.result c.give.ensures.functions c.give.ensures.numbers

pub returns-in-Defined-clause-numbers : goal.returns-in-Defined-clause-numbers
returns-in-Defined-clause-numbers c = numbered_more (λ s. s.name) _ _ _ _ _ c.give-in-Defined.result c.give-in-Defined.ensures.functions c.give-in-Defined.ensures.numbers

pub returns-in-Global-clause-own : goal.returns-in-Global-clause-own
returns-in-Global-clause-own c = owned_more (λ s. s.name) c.args.spellings.now c.args.declaring.now.numbers c.args.declaring.now.functions _ c.args.signature c.give.result c.give.ensures.functions c.give.ensures.free

pub returns-in-Defined-clause-own : goal.returns-in-Defined-clause-own
returns-in-Defined-clause-own c = owned_more (λ s. s.name) c.args.spellings.now c.args.declaring.now.numbers c.args.declaring.now.functions _ c.args.signature c.give-in-Defined.result c.give-in-Defined.ensures.functions c.give-in-Defined.ensures.free
