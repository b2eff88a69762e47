use Rattle.std.proofs.Common.{ℕ, ◌+◌, ◌<◌, arith, le_refl, sym, ap, ◌∙◌, subst}
use Rattle.fire_lock.specs.Passes.{PassView}
use Rattle.fire_lock.specs.History.{own}
use Rattle.fire_lock.proofs.Told.{may_play, step_told, step_adds}
use Rattle.fire_lock.proofs.lock.FireLock.step.Goals as goal

pub play-reply-requires-clause-turn : goal.play-reply-requires-clause-turn
play-reply-requires-clause-turn g c = let t = c.take_turn-before.ensures.turn in let p = c.pass.inside in let v = p.seat.me.0 in let is = c.pass.view_is in (
  t.0,
  t.1,
  ap (λ v. v.turn) t.2.view,
  subst (λ (n : ℕ). g.M.Machine.can t.0.machine n c.args.event) (sym c.pass.invariant.0)
      (may_play g.M.Machine.starts g.M.Machine.plays g.M.Machine.can g.M.Machine.fits g.met.M.Machine.may c.args.self.now.start v _ t.0.machine c.args.event t.2
      (ap (λ p. p.start) is ∙ c.requires.lock.1) c.pass.invariant.3.2
      (subst (λ (q : PassView g.row.M.Denot g.row.M-Event.Denot g.row.M-Reply.Denot). g.M.Machine.fits (own q.from (q.from + 1) q.seen) c.args.event) (sym is) c.requires.fits)),
)

pub returns-clause-step : goal.returns-clause-step
returns-clause-step g c = let v = c.pass.inside.seat.me.0 in let t = c.take_turn-before.ensures.turn in let played = c.play-reply.ensures.played in let is = c.pass.view_is in
    step_told g.M.Machine.starts g.M.Machine.plays c.pass.inside.seat.table_id c.announce.new.seat.table_id c.args.self.now.start c.args.pass.now v _ _ t.0.machine _ _ _ is
    (c.announce.ensures.lock ∙ (c.play-reply.ensures.lock ∙ c.take_turn-before.ensures.lock)) t.2 (ap (λ p. p.start) is ∙ c.requires.lock.1) c.pass.invariant.0
    played.0 played.1 played.2 played.3 (ap (λ m. m.0) c.announce.ensures.same ∙ c.play-reply.ensures.view)

pub returns-clause-mine : goal.returns-clause-mine
returns-clause-mine g c = let is = c.pass.view_is in
    step_adds g.M.Machine.starts g.M.Machine.plays _ c.args.pass.now _ _ _ c.args.pass.now.until (subst (λ (p : PassView g.row.M.Denot g.row.M-Event.Denot g.row.M-Reply.Denot). p.from < p.until) is c.pass.invariant.3.2) (le_refl c.args.pass.now.until) (returns-clause-step g c)

pub returns-clause-least : goal.returns-clause-least
returns-clause-least g c = let some_numbers = subst (λ (p : PassView g.row.M.Denot g.row.M-Event.Denot g.row.M-Reply.Denot). p.from < p.until) c.pass.view_is c.pass.invariant.3.2 in
    step_adds g.M.Machine.starts g.M.Machine.plays _ c.args.pass.now _ _ _ (c.args.pass.now.from + 1) (omega arith) (omega arith) (returns-clause-step g c)
