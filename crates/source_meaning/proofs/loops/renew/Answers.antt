use Rattle.std.proofs.Common.{◌≡◌, ◌++◌, take, drop, ap, ◌∙◌}
use Rattle.meaning.specs.Meaning.{renew}
use Rattle.source_meaning.proofs.Laws.{moves_same, moves_on}
use Rattle.source_meaning.proofs.Turns.{renew_is}
use Rattle.source_meaning.proofs.loops.renew.Goals as goal

pub returns-clause-moves : goal.returns-clause-moves
returns-clause-moves c = λ p.
    let old = c.args.state.now in
    let r = c.args.round in
    let names : c.renew_names.new.names ≡ take r.mark old.names ++ renew r.parts.form.now.renewed (drop c.greater-height.result old.names) (drop r.mark (take c.greater-height.result old.names)) =
    c.renew_names.ensures ∙ ap (λ ds. take r.mark old.names ++ renew ds (drop c.greater-height.result old.names) (drop r.mark (take c.greater-height.result old.names))) c.as_slice-renewed.ensures in
    moves_on _ _ _
    (moves_same _ _ (λ n. renew_is n p r c.greater-height.result old.steps old.frames.items old.names c.renew_names.new.names c.greater-height.ensures.second c.greater-height.ensures.first names))
    (c.in_ok-begin_round.ensures.moves p)
