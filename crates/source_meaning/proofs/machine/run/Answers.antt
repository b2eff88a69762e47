use Rattle.std.proofs.Common.{rules, ◌≡◌, [], refl, sym, ap}
use Rattle.source_meaning.specs.Slots.{given_values}
use Rattle.source_meaning.proofs.Wholes.{whole}
use Rattle.source_meaning.proofs.Laws.{moves_same, moves_on, moves_to, passes_back}
use Rattle.source_meaning.proofs.Parts.{taken}
use Rattle.source_meaning.proofs.machine.run.Goals as goal

pub loop-frame-init : goal.loop-frame-init
loop-frame-init c = record { moves = moves_same _ _ (λ n. refl); bound = λ h. h }

pub loop-frame-preserved : goal.loop-frame-preserved
loop-frame-preserved c =
    let t = taken c.args.program.now c.loop-frame.state.steps c.loop-frame.state.frames.items c.pop.new.self.items c.in-Some.frame c.loop-frame.state.names (given_values c.loop-frame.state.given) c.in-Some.ensures.items in
    record {
      moves = moves_on _ _ _ c.loop-frame.invariant.moves (moves_on _ _ _ t (c.in_ok-advance.ensures.moves c.in-On.is));
      bound = λ h. c.in_ok-advance.ensures.bound (c.loop-frame.invariant.bound h);
    }

pub returns-in-Limit-clause-limit : goal.returns-in-Limit-clause-limit
returns-in-Limit-clause-limit c = λ g. (
    let t = taken c.args.program.now c.loop-frame.state.steps c.loop-frame.state.frames.items c.pop.new.self.items c.in-Some.frame c.loop-frame.state.names (given_values c.loop-frame.state.given) c.in-Some.ensures.items in
    passes_back c.args.limit _ _ c.loop-frame.invariant.moves (passes_back c.args.limit _ _ t (c.in_ok-advance.ensures.limit c.in-Limit.is)))

pub returns-clause-moves : goal.returns-clause-moves
returns-clause-moves c = λ g.
    (let e : c.loop-frame.state.frames.items ≡ [] = search rules in
    moves_to _ _ _ c.loop-frame.invariant.moves (λ n. ap (λ fs. whole n c.args.program.now c.loop-frame.state.steps fs c.loop-frame.state.names (given_values c.loop-frame.state.given)) (sym e)))
