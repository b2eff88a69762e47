use Rattle.std.proofs.Common.{◌≡◌, ℕ, List, sym, ap, ◌∙◌, subst}
use mathlib.Core.Option.{some-injective}
use Rattle.fire_lock.specs.declared.entry.Entry.{Entry}
use Rattle.fire_lock.specs.History.{own, Reached}
use Rattle.fire_lock.proofs.Closes.{closes_it}
use Rattle.fire_lock.proofs.lock.FireLock.close.Goals as goal

pub returns-clause-reached : goal.returns-clause-reached
returns-clause-reached g c = let v = c.pass.inside.seat.me.0 in
    let f = closes_it g.M.Machine.starts g.M.Machine.plays c.self.inside.table.shared.key.passes _ c.pass.inside.seat.id v _ _ c.pass.invariant.3
    (ap (λ p. p.from) c.pass.view_is ∙ c.requires.all.0)
    (ap (λ p. p.until) c.pass.view_is ∙ (c.requires.all.1 ∙ sym (ap (λ l. l.passes) c.self.view_is)))
    c.close_with-closed.ensures.values.2 in
    let same : f.0 ≡ c.take-machine.result = some-injective _ _ (sym f.1 ∙ c.take-machine.ensures.value) in
    subst (λ (z : g.row.M.Denot × List (Entry g.row.M-Event.Denot g.row.M-Reply.Denot) × g.row.M.Denot). Reached g.M.Machine.plays z.0 z.1 z.2)
    (λ i. ((c.self.view_is i).start, (c.pass.view_is i).seen, (same i).machine)) f.3

pub returns-clause-all : goal.returns-clause-all
returns-clause-all g c = let v = c.pass.inside.seat.me.0 in
    let f = closes_it g.M.Machine.starts g.M.Machine.plays c.self.inside.table.shared.key.passes _ c.pass.inside.seat.id v _ _ c.pass.invariant.3
    (ap (λ p. p.from) c.pass.view_is ∙ c.requires.all.0)
    (ap (λ p. p.until) c.pass.view_is ∙ (c.requires.all.1 ∙ sym (ap (λ l. l.passes) c.self.view_is)))
    c.close_with-closed.ensures.values.2 in
    subst (λ (z : ℕ × List (Entry g.row.M-Event.Denot g.row.M-Reply.Denot)). own 0 z.0 z.1 ≡ z.1)
    (λ i. ((c.self.view_is i).passes, (c.pass.view_is i).seen)) f.4
