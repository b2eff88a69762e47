use Rattle.std.proofs.Common.{rules, ◌≡◌, ℕ, List, [], ◌∷◌, ◌++◌, Some, None, get_or, sym, refl, ap, ◌∙◌, subst}
use Rattle.atomic_table.specs.Table.{rest}
use Rattle.fire_lock.specs.declared.view.Place.{Place}
use Rattle.fire_lock.specs.History.{entry}
use Rattle.fire_lock.proofs.lock.FireLock.play.Goals as goal

pub slot_mut-place-requires : goal.slot_mut-place-requires
slot_mut-place-requires g c = let t = c.requires.turn in (search rules, (t.0, t.1 ∙ ap (λ l. (0, t.0) ∷ rest l) (sym t.1)))

pub enter-requires-clause-turn : goal.enter-requires-clause-turn
enter-requires-clause-turn g c = let t = c.requires.turn in
    let same : c.slot_mut-place.result.now ≡ t.0 = ap (λ (l : List (ℕ × Place g.row.M.Denot g.row.M-Event.Denot g.row.M-Reply.Denot)). (get_or l 0 (0, t.0)).1) (sym c.slot_mut-place.ensures.value ∙ t.1) in (
      t.0.machine,
      record { machine = c.play-reply.new.self; played = Some (record { event = c.of-said.result; reply = c.of.result }) },
      record { event = c.of-said.result; reply = c.of.result },
      ap (λ l. (0, record { machine = c.play-reply.new.self; played = Some (record { event = c.of-said.result; reply = c.of.result }) }) ∷ l) (ap rest t.1),
      t.2,
      refl,
      subst (λ (z : g.row.M.Denot × ℕ × g.row.M-Event.Denot × g.row.M-Reply.Denot). g.M.Machine.plays z.0 z.1 z.2 z.3 c.play-reply.new.self)
          (λ i. ((same i).machine, c.requires.live.0 i, sym c.of-said.ensures i, sym c.of.ensures i)) c.play-reply.ensures,
    )

pub returns-clause-view : goal.returns-clause-view
returns-clause-view g c = let v = c.args.seat.now.me.0 in
    c.enter.ensures.view _ _ (ap (λ l. (0, record { machine = c.play-reply.new.self; played = Some (record { event = c.of-said.result; reply = c.of.result }) }) ∷ l) (ap rest c.requires.turn.1)) refl
    ∙ (λ i. record v { seen = v.seen ++ entry (sym c.requires.live.0 i) (c.of-said.ensures i) (c.of.ensures i) ∷ []; turn = None })
