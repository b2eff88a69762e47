use Rattle.source_meaning.specs.Slots.{given_values}
use Rattle.source_meaning.proofs.Laws.{moves_same}
use Rattle.source_meaning.proofs.Parts.{along_frame, along_frame_limit}
use Rattle.source_meaning.proofs.machine.advance.Goals as goal

pub returns-in_ok-going-in-Listing-clause-moves : goal.returns-in_ok-going-in-Listing-clause-moves
returns-in_ok-going-in-Listing-clause-moves c = λ g. along_frame c.args.program.now c.args.state.now.steps c.args.state.now.frames.items c.args.state.now.names (given_values c.args.state.now.given) _ _ _ c.in-Listing.is (c.in_ok-going-in-Listing.ensures.moves g)

pub returns-in_ok-going-in-Listing-clause-limit : goal.returns-in_ok-going-in-Listing-clause-limit
returns-in_ok-going-in-Listing-clause-limit c = λ g. along_frame_limit c.args.limit c.args.program.now c.args.state.now.steps c.args.state.now.frames.items c.args.state.now.names (given_values c.args.state.now.given) _ _ c.in-Listing.is (c.in_ok-going-in-Listing.ensures.limit g)

pub returns-in_ok-going-in-Operating-clause-moves : goal.returns-in_ok-going-in-Operating-clause-moves
returns-in_ok-going-in-Operating-clause-moves c = λ g. along_frame c.args.program.now c.args.state.now.steps c.args.state.now.frames.items c.args.state.now.names (given_values c.args.state.now.given) _ _ _ c.in-Operating.is (moves_same _ _ (λ n. c.in_ok-going-in-Operating.ensures.same g n c.args.program.now))

pub returns-in_ok-going-in-Operating-clause-limit : goal.returns-in_ok-going-in-Operating-clause-limit
returns-in_ok-going-in-Operating-clause-limit c = λ g. along_frame_limit c.args.limit c.args.program.now c.args.state.now.steps c.args.state.now.frames.items c.args.state.now.names (given_values c.args.state.now.given) _ _ c.in-Operating.is (c.in_ok-going-in-Operating.ensures.limit g c.args.program.now)
