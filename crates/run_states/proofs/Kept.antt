-- Each claim and each finish keeps what a table stands for, and who is busy.
use Rattle.std.proofs.Common.{◌≡◌, ℕ, Some, None, sym, ap, ◌∙◌, subst, []}
use native.Mathlib.Decide.{ℕ_discrete}
use Rattle.run_states.specs.Standing.{Live, Table, IsBusy, AreBusy, with_state, put}
use Rattle.run_states.specs.Events.{IsClaimKept, AreAllFinishesKept, IsClosingKept, IsBusyKept}
use Rattle.run_states.proofs.Lookups.{put-same, put-other, some-same, some-none}
use Rattle.run_states.proofs.Events.{claims, finishes_simple, finishes_leave, enters_first, enters_next, finishes_slice, goes_on}
use Rattle.run_states.proofs.Closing.{close}

pub claim-kept : IsClaimKept
claim-kept run c m table root f l x e stands own ready = claims run c m table root f l x e stands own.found own.inside own.outer own.own ready

pub finishes-kept : AreAllFinishesKept
finishes-kept run c m table root f l x e stands own was =
    record {
      simple_node = finishes_simple run c m table root f l x e stands own.found own.inside own.outer own.own was;
      first_graph = enters_first run c m table root f l x e stands own.found own.inside own.outer own.own was;
      next_graph = enters_next run c m table root f l x e stands own.found own.inside own.outer own.own was;
      a_slice = finishes_slice run c m table root f l x e stands own.found own.inside own.outer own.own was;
      goes_on = goes_on run c m table root f l x e stands own.found own.inside own.outer own.own was;
      leaving = finishes_leave run c m table root f l x e stands own.found own.inside own.outer own.own was;
    }

pub closing-kept : IsClosingKept
closing-kept run c m table root f l k g x y os stands at in-x state at-y done goes all-open some =
    close run c m table root f l k g x y os stands at in-x state at-y done goes all-open some

-- ---- who is busy

put-busy : (table : Table) (f : ℕ) (x : Live) → AreBusy table → (¬ (x.path ≡ []) → IsBusy x) → AreBusy (put table f (Some x))
put-busy table f x busy own g y is not-first = go (ℕ_discrete g f)
  where
    go : Dec (g ≡ f) → IsBusy y
    go (yes e) =
        let same : x ≡ y = some-same x y (sym (ap (put table f (Some x)) e ∙ put-same table f (Some x)) ∙ is) in
        subst IsBusy same (own (λ p. not-first (sym (ap (λ z. z.path) same) ∙ p)))
    go (no ne) = busy g y (sym (put-other table f (Some x) g ne) ∙ is) not-first

left-busy : (table : Table) (g : ℕ) → AreBusy table → AreBusy (put table g None)
left-busy table g busy f y is not-first = go (ℕ_discrete f g)
  where
    go : Dec (f ≡ g) → IsBusy y
    go (yes e) = some-none y is (ap (put table g None) e ∙ put-same table g None)
    go (no ne) = busy f y (sym (put-other table g None f ne) ∙ is) not-first

pub busy-kept : IsBusyKept
busy-kept table f l x s busy own = (
  put-busy table f (with_state x l s) busy own,
  (λ g y is. put-busy (put table g (Some y)) f (with_state x l s) (put-busy table g y busy (λ n. is)) own),
  λ g. put-busy (put table g None) f (with_state x l s) (left-busy table g busy) own,
)
