-- A seat takes its turn: it learns all that was entered, and has the machine.
use Rattle.std.proofs.Common.{◌≡◌, ℕ, ◌+◌, ◌*◌, ◌%◌, eqb, eq-eqb, ne_eqb, List, [], ◌∷◌, ◌++◌, length, get_or, set, sym, refl, ap, ◌∙◌, subst, arith, unwrap_or, None, Some}
use mathlib.Core.Logic.{dite}
use mathlib.Core.Option.{none}
use native.Mathlib.Decide.{ℕ_discrete}
use lib.ListN.{get_elem?}
use lib.Seq.{set-get_or}
use prog.Atomic.{either}
use Rattle.atomic_table.specs.Table.{step, keeps, takes, stepped, Allows}
use Rattle.atomic_table.proofs.Lists.{set_again, set_here}
use Rattle.fire_lock.specs.declared.entry.Entry.{Entry}
use Rattle.fire_lock.specs.declared.view.View.{View}
use Rattle.fire_lock.specs.declared.view.Place.{Place}
use Rattle.fire_lock.specs.History.{Continues, Reached}
use Rattle.fire_lock.specs.Rules.{Sat, Rests, Fits, Kept, takes_turn}
use Rattle.fire_lock.proofs.Lists.{here_below, not_none}
use Rattle.fire_lock.proofs.Owned.{seen_all}
use Rattle.fire_lock.proofs.Seats.{seats_stay, single_set}

module _ {M E R : Type 0} (starts : M → Type 0) (plays : M → ℕ → E → R → M → Type 0) (passes : ℕ) (origin : M) where
  pub takes_it : (slots id : ℕ) (me : Sat M E R) (old new : ℕ) → old % 2 ≡ 0 → new ≡ old + 1 → me.1 ≡ [] → Rests me.0
      → Allows (Kept starts plays passes origin) slots id me 0 (λ n. either (eqb n old) new n) (takes_turn starts plays (step slots 0 old new none) me)
  takes_it slots id me old new even up empty rests s b wide at small =
      let v : View M E R = me.0 in let x : ℕ = get_or s.words 0 0 in let bit = b.bit in let len : ℕ = length b.log in
      let word : x ≡ (2 * len + b.held) % 18446744073709551616 = ap (λ (l : List ℕ). get_or l 0 0) b.words in
      dite (ℕ_discrete x old)
      (λ hit. let fit = b.each id v at in
      let free : b.held ≡ 0 = omega arith in
      let next : new ≡ (2 * len + 1) % 18446744073709551616 = omega arith in
      let home = b.home free in let p : Place M E R = home.0 in
      let w : View M E R = record v { seen = v.seen ++ fit.seen.0; turn = Some p.machine; halves = None } in (
        w,
        takes 0 p,
        ap (λ l. get_elem? l 0) home.1,
        subst (λ t. Kept starts plays passes origin (stepped s 0 (either t new x) id me.1 w (takes 0 p))) (sym (eq-eqb x old hit)) (record {
          log = b.log;
          now = b.now;
          held = 1;
          holder = id;
          counts = b.counts;
          words = ap (λ l. set l 0 new) b.words ∙ ap (λ n. n ∷ b.counts) next;
          bit = omega arith;
          began = b.began;
          led = b.led;
          home = λ z. absurd (omega arith);
          owner = λ _. (w, set_here s.views id w (here_below s.views id v at), ap Some home.2, rests.2);
          each = seats_stay (Fits b.log origin b.now 1 id passes) s.views id w
              (record {
                seen = subst (λ (l : List (Entry E R)). Continues v.from v.until l b.log) (sym fit.seen.1) (seen_all v.from v.until b.log);
                start = fit.start;
                turn = λ m e. (refl, refl, sym (ap (λ o. unwrap_or o p.machine) e) ∙ home.2, fit.seen.1);
                halves = λ h e. not_none None h refl e;
                until = fit.until;
              })
              (λ j y other e. let f = b.each j y e in record {
                seen = f.seen;
                start = f.start;
                turn = λ m e. let t = f.turn m e in let one = t.0 in absurd (omega arith);
                halves = f.halves;
                until = f.until;
              });
          single = single_set s.views id v w at (λ n q. q) b.single;
          all = b.all;
        }),
        (
          (λ _. (
            p,
            ap (λ l. (0, p) ∷ l) empty,
            record {
              between = fit.seen.0;
              others = fit.seen.2;
              view = refl;
              led = λ z e. (
                subst starts (sym (fit.start z e)) b.began,
                subst (λ (y : M × List (Entry E R) × M). Reached plays y.0 y.1 y.2) (λ i. (sym (fit.start z e) i, sym fit.seen.1 i, sym home.2 i)) b.led,
              );
            },
          )),
          λ miss. absurd (miss hit),
        ),
      ))
      (λ miss. (
        v,
        keeps,
        tt,
        subst (λ t. Kept starts plays passes origin (stepped s 0 (either t new x) id me.1 v keeps)) (sym (ne_eqb x old miss))
            (subst (Kept starts plays passes origin) (λ i. record { words = sym (set-get_or s.words 0 0) i; homes = s.homes; views = sym (set_again s.views id v at) i }) b),
        ((λ hit. absurd (miss hit)), λ _. refl),
      ))
