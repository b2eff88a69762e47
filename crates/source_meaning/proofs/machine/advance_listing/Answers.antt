use Rattle.std.proofs.Common.{rules, ◌≡◌, ◌+◌, List, [], ◌∷◌, ◌++◌, refl, ap}
use Rattle.flow_value.specs.declared.value.Val.{Val}
use Rattle.source_meaning.specs.declared.state.Listing.{Listing}
use Rattle.source_meaning.specs.declared.state.Frame.TheVariants as frame
use Rattle.meaning.specs.Timed.{andthen, plus}
use Rattle.source_meaning.specs.Slots.{given_values}
use Rattle.meaning.specs.Meaning.{meaning}
use Rattle.source_meaning.specs.Pending.{Program, rest, frame_rest}
use Rattle.source_meaning.proofs.Wholes.{before}
use Rattle.source_meaning.proofs.Laws.{moves_same, moves_on}
use Rattle.source_meaning.proofs.Rests.{nil_of}
use Rattle.source_meaning.proofs.Parts.{listing_step, listing_last}
use Rattle.source_meaning.proofs.machine.advance_listing.Goals as goal

pub returns-in_ok-part-in-Some-clause-moves : goal.returns-in_ok-part-in-Some-clause-moves
returns-in_ok-part-in-Some-clause-moves c = λ g. (
    let p : Program = c.args.program.now in
    let env : List Val = c.args.state.now.names in
    let next : Listing = record { after = c.args.listing.after; left = c.in-Some.left; done = c.add_values.new.items } in
    let h : c.args.listing.left.now ≡ c.in-Some.e.now ∷ c.in-Some.left.now = search rules in
    let hd : c.add_values.new.items ≡ c.args.listing.done ++ given_values c.args.state.now.given = search rules in
    let ht : c.part.new.state.steps ≡ c.args.state.now.steps + 1 = search rules in
    moves_same _ _ (λ n.
    let m = c.in_ok-part-in-Some.ensures.means n p in
    let hb : plus 1 (rest n p c.part.new.state.frames.items c.part.new.state.names (given_values c.part.new.state.given)) ≡ andthen (meaning n p c.in-Some.e.now env) (frame_rest n p (rest n p c.args.state.now.frames.items) (frame.Listing next) env) = search (rules, m) in
    listing_step n p c.args.listing next (rest n p c.args.state.now.frames.items) env (given_values c.args.state.now.given) c.in-Some.e.now c.args.state.now.steps c.part.new.state.steps _ h refl hd ht hb))

pub returns-in_ok-going-in-None-clause-moves : goal.returns-in_ok-going-in-None-clause-moves
returns-in_ok-going-in-None-clause-moves c = λ g. (
    let p : Program = c.args.program.now in
    let h : c.args.listing.left.now ≡ [] = nil_of _ c.in-None.ensures.cases in
    let hd : c.add_values.new.items ≡ c.args.listing.done ++ given_values c.args.state.now.given = search rules in
    moves_on _ (λ n. before n p c.args.state.now.steps c.args.state.now.frames.items c.args.state.now.names c.args.listing.after c.add_values.new.items) _
    (moves_same _ _ (λ n. ap (plus c.args.state.now.steps) (listing_last n p c.args.listing (rest n p c.args.state.now.frames.items) c.args.state.now.names (given_values c.args.state.now.given) c.add_values.new.items h hd)))
    (c.in_ok-going-in-None.ensures.moves g))
