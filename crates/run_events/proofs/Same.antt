-- Where leases stay.
use Rattle.std.proofs.Common.{◌≡◌, ℕ, ◌+◌, ◌*◌, sym, ap, ◌∙◌, arith}
use Rattle.run_states.specs.Standing.{State, Waiting, Claimed, Within, GoingOn, Done}
use Rattle.run_states.specs.Storing.{Store, IsAtWork}
use Rattle.run_states.specs.Leasing.{ports_with}
use Rattle.run_states.proofs.Leasing.{same-with}
use Rattle.run_events.specs.Leases.{Lent, times, slices_in, all_of_node, DoIdleNodesLeaseNothing, AreLeasesSame}
use Rattle.run_events.proofs.Few.{all_as}
use Rattle.run_events.proofs.Sums.{sums-kept}

nothing : (a : ℕ) → 0 + (0 * a + 0) ≡ 0
nothing a = omega arith

idle-as : (key : ℕ) (stores : ℕ → Store) (lent : Lent) (f l : ℕ) (s : State) → ¬ IsAtWork s → all_as key stores lent f l s ≡ 0
idle-as key stores lent f l Waiting n = nothing (ports_with key (stores f) ((stores f).reads l) + times key (lent.to_slices f l))
idle-as key stores lent f l Claimed n = absurd (n tt)
idle-as key stores lent f l (Within k g) n = absurd (n tt)
idle-as key stores lent f l (GoingOn k os) n = absurd (n tt)
idle-as key stores lent f l Done n = nothing (ports_with key (stores f) ((stores f).reads l) + times key (lent.to_slices f l))

pub idle-nothing : DoIdleNodesLeaseNothing
idle-nothing key stores lent f x l n = idle-as key stores lent f l (x.states l) n

module _ (key : ℕ) (stores others : ℕ → Store) (lent : Lent) (f l : ℕ) where
  abbrev was : ℕ
  was = ports_with key (stores f) ((stores f).reads l)

  abbrev is : ℕ
  is = ports_with key (others f) ((others f).reads l)

  same-as : (s : State) → (IsAtWork s → ports_with key (others f) ((others f).reads l) ≡ ports_with key (stores f) ((stores f).reads l)) → all_as key others lent f l s ≡ all_as key stores lent f l s
  same-as Waiting h = nothing (is + times key (lent.to_slices f l)) ∙ sym (nothing (was + times key (lent.to_slices f l)))
  same-as Claimed h = ap (λ p. p + (0 * (p + times key (lent.to_slices f l)) + times key (lent.scattered f l))) (h tt)
  same-as (Within k g) h = ap (λ p. p + (0 * (p + times key (lent.to_slices f l)) + times key (lent.scattered f l))) (h tt)
  same-as (GoingOn k os) h = ap (λ p. p + (slices_in os * (p + times key (lent.to_slices f l)) + times key (lent.scattered f l))) (h tt)
  same-as Done h = nothing (is + times key (lent.to_slices f l)) ∙ sym (nothing (was + times key (lent.to_slices f l)))

pub leases-same : AreLeasesSame
leases-same key table stores others lent same n =
    (sums-kept (all_of_node key stores lent) (all_of_node key others lent) table).counted
    (λ f x l at i.
    same-as key stores others lent f l (x.states l)
    (λ work. let s = same f x l at i work in ap (ports_with key (others f)) s.0 ∙ same-with key (stores f) (others f) ((stores f).reads l) s.1)) n
