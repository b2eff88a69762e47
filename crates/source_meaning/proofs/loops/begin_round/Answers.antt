use Rattle.std.proofs.Common.{[], refl, ap, ◌∙◌}
use Rattle.meaning.specs.Timed.{plus, andthen}
use Rattle.source_meaning.specs.Slots.{given_values}
use Rattle.source_meaning.specs.Pending.{rest, finish}
use Rattle.source_meaning.proofs.Wholes.{whole}
use Rattle.meaning.specs.Meaning.{meanings}
use Rattle.source_meaning.specs.declared.state.After.TheVariants as after
use Rattle.source_meaning.proofs.Walks.{whole_is}
use Rattle.source_meaning.proofs.Turns.{start_moves}
use Rattle.source_meaning.proofs.loops.begin_round.Goals as goal

pub returns-clause-moves : goal.returns-clause-moves
returns-clause-moves c = λ p.
    let s = c.args.state.now.steps in
    let new = c.list.new.self in
    start_moves p c.args.round s c.args.state.now.frames.items c.args.state.now.names (λ n. whole n p new.steps new.frames.items new.names (given_values new.given))
    (λ n. whole_is n p new.steps s new.frames.items new.frames.items new.names c.args.state.now.names (given_values new.given) [] c.list.ensures.steps refl c.list.ensures.names c.in_ok-list.ensures.given
    ∙ ap (plus s) (c.in_ok-list.ensures.means n p c.args.state.now.names)
    ∙ ap (λ es. plus s (andthen (meanings n p es c.args.state.now.names) (finish n p (after.Kept c.args.round) (rest n p c.args.state.now.frames.items) c.args.state.now.names))) c.as_slice-values.ensures)
