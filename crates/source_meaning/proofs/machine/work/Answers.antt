use Rattle.std.proofs.Common.{◌≡◌, [], ◌∷◌, sym, ap, subst, ◌∙◌}
use Rattle.value_ops.specs.Operations.{op_value}
use Rattle.meaning.specs.Timed.{plus, Passes}
use Rattle.source_meaning.specs.Slots.{slot_values}
use Rattle.source_meaning.specs.Pending.{rest}
use Rattle.source_meaning.proofs.Wholes.{before_work}
use Rattle.source_meaning.proofs.machine.work.Goals as goal

pub returns-in_ok-v-in-Apply-clause-same : goal.returns-in_ok-v-in-Apply-clause-same
returns-in_ok-v-in-Apply-clause-same c g n p =
    let q : c.in_ok-v-in-Apply.v ≡ op_value c.in-Apply.op.now (slot_values c.args.state.now.names c.args.slots) =
    c.in_ok-v-in-Apply.ensures ∙ ap (λ e. op_value c.in-Apply.op.now (slot_values e c.args.slots)) c.as_slice.ensures in
    ap (λ w. before_work n p c.args.state.now.steps c.args.state.now.frames.items c.args.state.now.names w (slot_values c.args.state.now.names c.args.slots)) c.in-Apply.is
    ∙ ap (λ v. plus c.args.state.now.steps (rest n p c.args.state.now.frames.items c.args.state.now.names (v ∷ []))) (sym q)

pub returns-in_ok-going-in-Span-clause-limit : goal.returns-in_ok-going-in-Span-clause-limit
returns-in_ok-going-in-Span-clause-limit c g p =
    subst (λ w. Passes c.args.limit (λ n. before_work n p c.args.state.now.steps c.args.state.now.frames.items c.args.state.now.names w (slot_values c.args.state.now.names c.args.slots))) (sym c.in-Span.is)
    (c.in_ok-going-in-Span.ensures.limit g p)
