use Rattle.std.proofs.Common.{rules, refl, sym, ap, ◌∙◌, subst}
use Rattle.fire_lock.specs.Rules.{Sat, Rests, Turn}
use Rattle.fire_lock.proofs.Takes.{takes_it}
use Rattle.fire_lock.proofs.lock.FireLock.take_turn.Goals as goal

pub compare_exchange-found-requires : goal.compare_exchange-found-requires
compare_exchange-found-requires g c = let same = c.loop.invariant.1 in (
  search rules,
  search rules,
  takes_it g.M.Machine.starts g.M.Machine.plays _ _ _ _ c.loop.seat.me c.loop.word _ c.if-word-eq0.true refl
      (ap (λ m. m.1) same ∙ c.requires.rests.0)
      (subst (λ (m : Sat g.row.M.Denot g.row.M-Event.Denot g.row.M-Reply.Denot). Rests m.0) (sym same) c.requires.rests.1),
)

pub returns-then-found-word-clause-turn : goal.returns-then-found-word-clause-turn
returns-then-found-word-clause-turn g c = let t = c.compare_exchange-found.ensures.2.0 c.if-found-word.true in
    (t.0, t.1, subst (λ (m : Sat g.row.M.Denot g.row.M-Event.Denot g.row.M-Reply.Denot). Turn g.M.Machine.starts g.M.Machine.plays m.0 c.compare_exchange-found.new.seat.me.0 t.0.machine) c.loop.invariant.1 t.2)
