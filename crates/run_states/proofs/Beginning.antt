-- A run begins.
use Rattle.std.proofs.Common.{◌≡◌, ℕ, true, false, [], length, Some, None, refl, sym, ap, ◌∙◌, subst, arith}
use native.Mathlib.Decide.{ℕ_discrete}
use Rattle.graph_meaning.specs.Histories.{IsOn, is_claimed, is_made}
use Rattle.graph_meaning.specs.Demand.{tree}
use Rattle.graph_meaning.proofs.Ranks.{ranked}
use Rattle.run_states.specs.Standing.{Waiting, Within, Live, LiveStands, TableStands, AreBusy, put}
use Rattle.run_states.specs.Phases.{entered_live}
use Rattle.run_states.specs.Laws.{DoRunsBegin}
use Rattle.run_states.proofs.Lookups.{put-same, put-other, some-same}
use Rattle.run_states.proofs.Entering.{entered-lives}
use Rattle.run_states.proofs.Runs.{not-all-made}

pub begins : DoRunsBegin
begins cut u g ins limit is-cut orderly busy =
    record { legal = tt; on = on; stands = stands; busy = all-busy; made = λ i. refl; within = omega arith }
  where
    x : Live
    x = entered_live cut u g ins []

    only : (f : ℕ) (y : Live) → put (λ f. None) 0 (Some (entered_live cut u g ins [])) f ≡ Some y → (f ≡ 0) × (y ≡ entered_live cut u g ins [])
    only f y is = go (ℕ_discrete f 0)
      where
        none-some : None ≡ Some y → ⊥
        none-some q = cc

        go : Dec (f ≡ 0) → (f ≡ 0) × (y ≡ entered_live cut u g ins [])
        go (yes e) = (e, some-same y (entered_live cut u g ins []) (sym is ∙ (ap (put (λ f. None) 0 (Some (entered_live cut u g ins []))) e ∙ put-same (λ f. None) 0 (Some (entered_live cut u g ins [])))))
        go (no n) = absurd (none-some (sym (put-other (λ f. None) 0 (Some (entered_live cut u g ins [])) f n) ∙ is))

    never : {P : Type 0} → false ≡ true → P
    never q = absurd (clash q)
      where
        clash : false ≡ true → ⊥
        clash q = cc

    not-within : (k h : ℕ) → Waiting ≡ Within k h → ⊥
    not-within k h q = cc

    stands : TableStands (λ n. tree cut n u g ins) (is_claimed []) (is_made []) (put (λ f. None) 0 (Some (entered_live cut u g ins []))) 0
    stands =
        record {
          first = (entered_live cut u g ins [], put-same (λ f. None) 0 (Some (entered_live cut u g ins [])), refl);
          made_claimed = λ i q. never q;
          lives = λ f y is. subst (λ z. LiveStands (is_claimed []) (is_made []) z) (sym (only f y is).1) (entered-lives cut u is-cut (ranked u orderly) g ins [] (is_claimed []) (is_made []) (λ i q. never q) (λ i. refl));
          top = λ f y is p. ap (λ z. z.run) (only f y is).1;
          once = λ f h y z a b e. (only f y a).0 ∙ sym (only h z b).0;
          child = λ f y l k h is i st. absurd (not-within k h (sym (ap (λ z. z.states l) (only f y is).1) ∙ st));
          parent = λ f y l k p is e. absurd (let a = ap length (sym e ∙ ap (λ z. z.path) (only f y is).1) in omega (arith, a));
          deepest = 0;
          depth = λ f y is. let a = ap (λ z. length z.path) (only f y is).1 in omega (arith, a);
        }

    all-busy : AreBusy (put (λ f. None) 0 (Some (entered_live cut u g ins [])))
    all-busy f y is n = absurd (n (ap (λ z. z.path) (only f y is).1))

    on : IsOn (λ n. tree cut n u g ins) limit []
    on k e = not-all-made (λ n. tree cut n u g ins) (is_claimed []) (is_made []) (put (λ f. None) 0 (Some (entered_live cut u g ins []))) 0 stands all-busy busy e.1
