-- A seat enters its event, and gives the machine back.
use Rattle.std.proofs.Common.{◌≡◌, ℕ, zero, suc, ◌+◌, ◌*◌, ◌%◌, ◌<◌, List, [], ◌∷◌, ◌++◌, length, get_or, set, sym, refl, ap, ◌∙◌, subst, arith, length-append, le_refl, unwrap_or, Option, None, Some}
use mathlib.Core.Option.{none, some}
use Rattle.atomic_table.specs.Table.{step, keeps, gives, put_back, rest, Allows}
use Rattle.atomic_table.proofs.Lists.{set_again}
use Rattle.fire_lock.specs.declared.entry.Entry.{Entry}
use Rattle.fire_lock.specs.declared.view.View.{View}
use Rattle.fire_lock.specs.declared.view.Place.{Place}
use Rattle.fire_lock.specs.declared.view.Played.{Played}
use Rattle.fire_lock.specs.History.{entry, Continues}
use Rattle.fire_lock.specs.Rules.{Sat, Fits, Kept, enters}
use Rattle.fire_lock.proofs.Lists.{set_one, not_none}
use Rattle.fire_lock.proofs.Owned.{own_append, own_one, seen_all, goes_on, reached_more}
use Rattle.fire_lock.proofs.Seats.{seats_stay, single_set}

module _ {M E R : Type 0} (starts : M → Type 0) (plays : M → ℕ → E → R → M → Type 0) (passes : ℕ) (origin : M) where
  pub enters_it : (slots : ℕ) → slots ≡ 1 → (id : ℕ) (me : Sat M E R) (m : M) (p : Place M E R) (q : Played E R) → me.1 ≡ (0, p) ∷ [] → me.0.turn ≡ Some m → p.played ≡ Some q
      → plays m me.0.from q.event.value q.reply.value p.machine → me.0.halves ≡ None → me.0.from < me.0.until
      → Allows (Kept starts plays passes origin) slots id me 0 (λ n. (n + 1) % 18446744073709551616) (enters (step slots 0 1 0 none) me)
  enters_it slots sole id me m p q holds on last played single_view some_numbers s b wide at small =
      let v : View M E R = me.0 in let fit = b.each id v at in let t = fit.turn m on in let one = t.0 in
      let new : Entry E R = entry v.from q.event.value q.reply.value in
      let w : View M E R = record v { seen = v.seen ++ new ∷ []; turn = None } in
      let len : ℕ = length b.log in let more : length (b.log ++ new ∷ []) ≡ len + 1 = length-append b.log (new ∷ []) in
      let x : ℕ = get_or s.words 0 0 in let word : x ≡ (2 * len + b.held) % 18446744073709551616 = ap (λ (l : List ℕ). get_or l 0 0) b.words in
      let next : (x + 1) % 18446744073709551616 ≡ (2 * length (b.log ++ new ∷ []) + 0) % 18446744073709551616 = omega arith in (
        w,
        gives,
        tt,
        record {
          log = b.log ++ new ∷ [];
          now = p.machine;
          held = 0;
          holder = 0;
          counts = b.counts;
          words = ap (λ l. set l 0 ((x + 1) % 18446744073709551616)) b.words ∙ ap (λ n. n ∷ b.counts) next;
          bit = omega arith;
          began = b.began;
          led = reached_more plays origin b.log b.now v.from q.event.value q.reply.value p.machine b.led (subst (λ k. plays k v.from q.event.value q.reply.value p.machine) t.2 played);
          home = λ _. (p, ap (put_back s.homes) holds ∙ set_one s.homes (some p) (wide ∙ sole), refl);
          owner = λ z. absurd (omega arith);
          each = seats_stay (Fits (b.log ++ new ∷ []) origin p.machine 0 0 passes) s.views id w
              (record {
                seen = subst (λ (l : List (Entry E R)). Continues v.from v.until (l ++ new ∷ []) (b.log ++ new ∷ [])) (sym t.3) (seen_all v.from v.until (b.log ++ new ∷ []));
                start = fit.start;
                turn = λ k e. not_none None k refl e;
                halves = λ h e. not_none v.halves h single_view e;
                until = fit.until;
              })
              (λ j y other found. let f = b.each j y found in record {
                seen = goes_on y.from y.until y.seen b.log v.from q.event.value q.reply.value (λ z. other (b.single j id v.from y v found at z (le_refl v.from, some_numbers))) f.seen;
                start = f.start;
                turn = λ k e. let u = f.turn k e in absurd (other (u.1 ∙ sym t.1));
                halves = f.halves;
                until = f.until;
              });
          single = single_set s.views id v w at (λ n z. z) b.single;
          all = let u = fit.until in own_append 0 passes b.log (new ∷ []) ∙ (λ i. b.all i ++ own_one 0 passes v.from q.event.value q.reply.value (omega arith) (omega arith) i);
        },
        (
          ap rest holds,
          λ p' q' here said. let same : p ≡ p' = ap (λ (l : List (ℕ × Place M E R)). (get_or l 0 (0, p)).1) (sym holds ∙ here) in
              let told : q ≡ q' = ap (λ (o : Option (Played E R)). unwrap_or o q) (sym last ∙ (ap (λ (y : Place M E R). y.played) same ∙ said)) in
              λ i. record v { seen = v.seen ++ entry v.from (told i).event.value (told i).reply.value ∷ []; turn = None },
        ),
      )

  -- the words that count sleepers and news are free
  pub counts_it : (slots id word : ℕ) → 0 < word → (me : Sat M E R) (f : ℕ → ℕ) → Allows (Kept starts plays passes origin) slots id me word f (λ _ m. m ≡ me)
  counts_it slots id zero some_word me f s b wide at small = absurd (omega arith)
  counts_it slots id (suc k) some_word me f s b wide at small = let n : ℕ = f (get_or s.words (suc k) 0) in (
    me.0,
    keeps,
    tt,
    subst (λ (vs : List (View M E R)). Kept starts plays passes origin record { words = set s.words (suc k) n; homes = s.homes; views = vs }) (sym (set_again s.views id me.0 at))
        (record {
          log = b.log;
          now = b.now;
          held = b.held;
          holder = b.holder;
          counts = set b.counts k n;
          words = ap (λ l. set l (suc k) n) b.words;
          bit = b.bit;
          began = b.began;
          led = b.led;
          home = b.home;
          owner = b.owner;
          each = b.each;
          single = b.single;
          all = b.all;
        }),
    refl,
  )
