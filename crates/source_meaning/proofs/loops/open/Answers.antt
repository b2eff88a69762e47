use Rattle.std.proofs.Common.{ap}
use Rattle.meaning.specs.Timed.{plus}
use Rattle.source_meaning.specs.Slots.{slot_values}
use Rattle.source_meaning.specs.Pending.{rest}
use Rattle.source_meaning.proofs.Laws.{moves_same, passes_back}
use Rattle.source_meaning.proofs.Walks.{opened}
use Rattle.source_meaning.proofs.loops.open.Goals as goal

pub returns-in_ok-going-in-Count-clause-limit : goal.returns-in_ok-going-in-Count-clause-limit
returns-in_ok-going-in-Count-clause-limit c = λ g p.
    let old = c.args.state.now in
    passes_back c.args.limit _ _
    (moves_same _ _ (λ n. ap (λ x. plus old.steps (opened n p c.args.parts (rest n p old.frames.items) old.names (slot_values old.names c.args.bounds) x)) c.in-Count.is))
    (c.in_ok-going-in-Count.ensures.limit g p)
