-- Runs of a range beside the machine of the laws, step by step.
use Rattle.std.proofs.Common.{◌≡◌, ℕ, zero, suc, ◌+◌, ◌<◌, ◌≤◌, inl, inr, List, length, refl, sym, ap, ◌∙◌, subst, arith}
use Rattle.graph_meaning.specs.Carried.{Carried}
use Rattle.run_store.specs.Stored as stored
use Rattle.run_store.specs.Whole.{rests, walks}
use Rattle.run_cells.specs.Held.{heap_of}
use Rattle.step_code.specs.declared.code.Code.{Code}
use Rattle.step_code.specs.declared.step.Step.{Step}
use Rattle.step_code.specs.declared.step.Step.TheVariants as step
use Rattle.sequential.specs.declared.machine.Machine.{Machine}
use Rattle.sequential.specs.declared.machine.Turn.{Turn}
use Rattle.sequential.specs.declared.machine.Turn.TheVariants as turn
use Rattle.sequential.specs.Agrees.{Answers, DoesForAll}
use Rattle.sequential.specs.Loading.{AreLentBelow}
use Rattle.sequential_run.specs.declared.went.Went.TheVariants as went
use Rattle.sequential_run.specs.Kinds.{IsEach}
use Rattle.sequential_run.specs.Passing.{Passes, IsJoined, IsLed}
use Rattle.sequential_run.specs.Runs.{goes, Reaches, Stops}
use Rattle.sequential_run.specs.Seen.{IsSilent, seen_written}
use Rattle.sequential_run.specs.Whole as whole
use Rattle.sequential_run.specs.Writes.{ReachesWriting, writes_at}
use Rattle.sequential_run.proofs.Deciding.{writing-more}
use Rattle.sequential_run.proofs.Falling.{follows}
use Rattle.sequential_run.proofs.Going.{answers-here}
use Rattle.sequential_run.proofs.Passed.{silent-none}
use Rattle.sequential_run.proofs.WroteSteps.{IsBehind, wrote-here}
use Rattle.sequential_range.specs.Ranges.{IsBefore, Leads, IsDecided, IsBegun, ReachesFirst, rests_there, walks_on}

-- an Each is done at once with no step before it
each-joins-none : (x : Step) → IsEach x → IsJoined x → ⊥
each-joins-none (step.One o a out) is joins = absurd is
each-joins-none (step.Two o a b out) is joins = absurd is
each-joins-none (step.Int i out) is joins = absurd is
each-joins-none (step.Cells o i j out) is joins = absurd is
each-joins-none (step.Number o i l n out) is joins = absurd is
each-joins-none (step.Element ins i p out kept k) is joins = absurd is
each-joins-none (step.Replace ins i p e out kept k) is joins = absurd is
each-joins-none (step.Fire row x shape ins n out w kept k) is joins = absurd is
each-joins-none (step.Sparse row g ins n out copies) is joins = absurd is
each-joins-none step.Count is joins = absurd is
each-joins-none (step.Bring a out next) is joins = absurd is
each-joins-none (step.Move froms n out w next) is joins = absurd is
each-joins-none (step.Tag a ts n content keeps out w next) is joins = absurd is
each-joins-none (step.Branch a ts n out w next) is joins = absurd is
each-joins-none (step.Test a turn leave out w next) is joins = absurd is
each-joins-none (step.Keep begins cs k froms n out next) is joins = absurd is
each-joins-none (step.Carry begins cs froms n out next) is joins = absurd is
each-joins-none (step.Spread froms n cs k to turns out w next) is joins = absurd is
each-joins-none (step.Each ms n from count kept turn leave) is joins = joins
each-joins-none (step.Add cs k froms n out next) is joins = absurd is
each-joins-none (step.Push cs froms i out next) is joins = absurd is
each-joins-none (step.Call entry size cells args n out w) is joins = absurd is
each-joins-none (step.Return froms n) is joins = absurd is

module _ (code : Code) (limit each base last : ℕ) where
  same-on : (s t : stored.Stored) → stored.Onward s ≡ stored.Onward t → s ≡ t
  same-on s t e = cc

  -- the range does not end here
  abbrev pub IsFree : stored.Stored → Type 0
  IsFree s = IsBefore code each base last s → ⊥

  -- ---- what is decided

  before-not : (o : stored.StoredOutcome) → ((v : stored.Stored) → o ≡ stored.Onward v → ⊥) → (s t : stored.Stored) → Reaches code limit s t → goes code limit s ≡ o → IsFree s → IsBefore code each base last t → ⊥
  before-not o none _ _ (rests s) e free b = free b
  before-not o none _ _ (walks s v t e' r) e free b = none v (sym e ∙ e')

  limit-not : (o : stored.StoredOutcome) → ((v : stored.Stored) → o ≡ stored.Onward v → ⊥) → (o ≡ stored.AtLimit → ⊥) → (s t : stored.Stored) → Reaches code limit s t → goes code limit s ≡ o → goes code limit t ≡ stored.AtLimit → ⊥
  limit-not o none not _ _ (rests s) e at = not (sym e ∙ at)
  limit-not o none not _ _ (walks s v t e' r) e at = none v (sym e ∙ e')

  -- where the range does not end, the machine of the laws goes on or is at the limit
  neither : (o : stored.StoredOutcome) → ((v : stored.Stored) → o ≡ stored.Onward v → ⊥) → (o ≡ stored.AtLimit → ⊥) → (s : stored.Stored) → IsDecided code limit each base last s → IsFree s → goes code limit s ≡ o → ⊥
  neither o none not s (inl x) free e = before-not o none s x.0 x.1.reaches e free x.2
  neither o none not s (inr x) free e = limit-not o none not s x.0 x.1.reaches e x.2

  pub not-stuck : (s : stored.Stored) → IsDecided code limit each base last s → IsFree s → goes code limit s ≡ stored.Stuck → ⊥
  not-stuck s d free e = neither stored.Stuck (λ v x. cc) (λ x. cc) s d free e

  pub not-finished : (s : stored.Stored) → IsDecided code limit each base last s → IsFree s → (rs : List Carried) (f c : ℕ) → goes code limit s ≡ stored.Finished rs f c → ⊥
  not-finished s d free rs f c e = neither (stored.Finished rs f c) (λ v x. cc) (λ x. cc) s d free e

  leads-later : (u s t : stored.Stored) → goes code limit s ≡ stored.Onward u → Reaches code limit s t → ((w : stored.Stored) → Reaches code limit s w → Reaches code limit w t → AreLentBelow w.base w.heap) → (s ≡ t → ⊥) → Leads code limit u t
  leads-later u _ _ e (rests s) lent away = absurd (away refl)
  leads-later u _ _ e (walks s v t e' r) lent away = record { reaches = subst (λ z. Reaches code limit z t) (same-on v u (sym e' ∙ e)) r; lent = λ w a b. lent w (walks s u w e a) b }

  decided-later : (s u : stored.Stored) → goes code limit s ≡ stored.Onward u → IsDecided code limit each base last s → IsFree s → IsDecided code limit each base last u
  decided-later s u e (inl x) free = inl (x.0, leads-later u s x.0 e x.1.reaches x.1.lent (λ same. free (subst (IsBefore code each base last) (sym same) x.2)), x.2)
  decided-later s u e (inr x) free = inr (x.0, leads-later u s x.0 e x.1.reaches x.1.lent (λ same. let y : stored.Onward u ≡ stored.AtLimit = sym e ∙ (ap (goes code limit) same ∙ x.2) in cc), x.2)

  lent-here : (s : stored.Stored) → IsDecided code limit each base last s → AreLentBelow s.base s.heap
  lent-here s (inl x) = x.1.lent s (rests s) x.1.reaches
  lent-here s (inr x) = x.1.lent s (rests s) x.1.reaches

  -- ---- beside a step of this machine

  module _ (m new : Machine) (s : stored.Stored) (b : IsBegun code limit each base last m s) where
    pub answered : (t : Turn) → DoesForAll code limit (whole.step_at code m.pc) m t new → Answers (goes code limit s) t new
    answered t does = let a = b.at in answers-here code limit m new s t a (does s.heap a.within (subst (λ z. AreLentBelow z s.heap) a.base (lent-here s b.decided)))

    module _ (free : IsFree s) where
      pub record Onwards : Type 0 where
        pub state : stored.Stored
        pub step : goes code limit s ≡ stored.Onward state
        pub begun : IsBegun code limit each base last new state

      pub goes-on : Answers (goes code limit s) turn.Goes new → Onwards
      goes-on a = go (goes code limit s) refl a
        where
          go : (o : stored.StoredOutcome) → goes code limit s ≡ o → Answers o turn.Goes new → Onwards
          go stored.Stuck e a = absurd (not-stuck s b.decided free e)
          go (stored.Onward u) e a = record { state = u; step = e; begun = record { at = a; decided = decided-later s u e b.decided free } }
          go (stored.Finished rs f c) e a = absurd a
          go stored.AtLimit e a = absurd a

      pub behind-goes : Answers (goes code limit s) turn.Goes new → IsBehind code (goes code limit s) (heap_of new.cells.items)
      behind-goes a = go (goes code limit s) refl a
        where
          go : (o : stored.StoredOutcome) → goes code limit s ≡ o → Answers o turn.Goes new → IsBehind code o (heap_of new.cells.items)
          go stored.Stuck e a = absurd (not-stuck s b.decided free e)
          go (stored.Onward u) e a = a.within
          go (stored.Finished rs f c) e a = absurd a
          go stored.AtLimit e a = absurd a

      -- it does not leave its block
      pub never-ends : Answers (goes code limit s) turn.Ends new → ⊥
      never-ends a = go (goes code limit s) refl a
        where
          go : (o : stored.StoredOutcome) → goes code limit s ≡ o → Answers o turn.Ends new → ⊥
          go stored.Stuck e a = not-stuck s b.decided free e
          go (stored.Onward u) e a = a
          go (stored.Finished rs f c) e a = not-finished s b.decided free rs f c e
          go stored.AtLimit e a = a

      pub stops : (r : stored.Stored) → Reaches code limit r s → Answers (goes code limit s) turn.Over new → Stops code limit r
      stops r reach a = go (goes code limit s) refl a
        where
          go : (o : stored.StoredOutcome) → goes code limit s ≡ o → Answers o turn.Over new → Stops code limit r
          go stored.Stuck e a = absurd (not-stuck s b.decided free e)
          go (stored.Onward u) e a = absurd a
          go (stored.Finished rs f c) e a = absurd a
          go stored.AtLimit e a = (s, reach, e)

  -- ---- where it goes on

  first-more : (s t u : stored.Stored) → ReachesFirst code limit each base last s t → IsFree t → goes code limit t ≡ stored.Onward u → ReachesFirst code limit each base last s u
  first-more _ _ u (rests_there s) free e = walks_on s u u free e (rests_there u)
  first-more _ _ u (walks_on s v t away e' b) free e = walks_on s v u away e' (first-more v t u b free e)

  pub first-reaches : (s t : stored.Stored) → ReachesFirst code limit each base last s t → Reaches code limit s t
  first-reaches _ _ (rests_there s) = rests s
  first-reaches _ _ (walks_on s v t away e b) = walks s v t e (first-reaches v t b)

  -- the range ends in no state in which the machine stands
  abbrev pub AreFree : Machine → Type 0
  AreFree m = (s : stored.Stored) → IsBegun code limit each base last m s → IsFree s

  -- where a run from a beginning stands beside the machine, and what it wrote
  pub record Came (r : stored.Stored) (m : Machine) (k : ℕ) : Type 0 where
    pub state : stored.Stored
    pub reaches : ReachesFirst code limit each base last r state
    pub begun : IsBegun code limit each base last m state
    pub writing : ReachesWriting code limit r state k

  pub record Passed (old new : Machine) : Type 0 where
    pub can : whole.CanStep code new
    pub state : stored.Stored
    pub begun : IsBegun code limit each base last new state
    pub fall : whole.to_come code limit new ≤ whole.to_come code limit old
    pub on : (r : stored.Stored) (k : ℕ) → Came r old k → Came r new k

  pub record Stepped (old new : Machine) : Type 0 where
    pub can : whole.CanStep code new
    pub state : stored.Stored
    pub begun : IsBegun code limit each base last new state
    pub less : whole.to_come code limit new < whole.to_come code limit old
    pub next : (r : stored.Stored) (k : ℕ) (x : Came r old k) → Came r new (k + writes_at code limit x.state)
    pub behind : (u : stored.Stored) → IsBegun code limit each base last old u → IsBehind code (goes code limit u) (heap_of new.cells.items)

  pub stepped : (old new : Machine) → whole.CanStep code old → AreFree old → (s : stored.Stored) → IsBegun code limit each base last old s → DoesForAll code limit (whole.step_at code old.pc) old turn.Goes new
      → whole.cells_after (whole.step_at code old.pc) old ≤ length new.cells.items → Stepped old new
  stepped old new can free s b does cells =
      let on = goes-on old new s b (free s b) (answered old new s b turn.Goes does) in
      let f = follows code can.blocks limit old new can.stands can.whole s on.state b.at on.step on.begun.at cells in
      record {
        can = record { blocks = can.blocks; whole = can.whole; stands = f.stands_there };
        state = on.state;
        begun = on.begun;
        less = f.less;
        next = λ r k x.
            let y = goes-on old new x.state x.begun (free x.state x.begun) (answered old new x.state x.begun turn.Goes does) in
            record { state = y.state; reaches = first-more r x.state y.state x.reaches (free x.state x.begun) y.step; begun = y.begun; writing = writing-more code limit r x.state y.state k x.writing y.step };
        behind = λ u c. behind-goes old new u c (free u c) (answered old new u c turn.Goes does);
      }

  -- what a step writes is seen behind it
  pub wrote : (old new : Machine) → whole.CanStep code old → (u : stored.Stored) → IsBegun code limit each base last old u → IsBehind code (goes code limit u) (heap_of new.cells.items)
      → writes_at code limit u ≡ seen_written code (whole.step_at code old.pc) old.base (heap_of new.cells.items)
  wrote old new can u b behind = wrote-here code limit (can.blocks.room old.pc) old u (heap_of new.cells.items) b.at (can.whole.ready old.pc can.stands.there) behind

  more-none : (k w : ℕ) → w ≡ 0 → k + w ≡ k
  more-none k w e = omega (arith, e)

  -- a silent step writes nothing
  silent-on : (old new : Machine) → whole.CanStep code old → IsSilent (whole.step_at code old.pc) → Stepped old new → (r : stored.Stored) (k : ℕ) → Came r old k → Came r new k
  silent-on old new can silent step r k x =
      let none = wrote old new can x.state x.begun (step.behind x.state x.begun) ∙ silent-none code (whole.step_at code old.pc) old.base (heap_of new.cells.items) silent in
      subst (Came r new) (more-none k (writes_at code limit x.state) none) (step.next r k x)

  -- a step that is done at once with one before it begins no iteration
  joined-free : IsEach (whole.step_at code each) → (m : Machine) → IsJoined (whole.step_at code m.pc) → AreFree m
  joined-free is m joins s b before =
      let there : m.pc ≡ each = sym b.at.pc ∙ before.here in
      each-joins-none (whole.step_at code each) is (subst (λ p. IsJoined (whole.step_at code p)) there joins)

  pub passed : IsEach (whole.step_at code each) → (n : ℕ) (old new : Machine) → whole.CanStep code old → (s : stored.Stored) → IsBegun code limit each base last old s → Passes code limit n old new → Passed old new
  passed is zero old new can s b e = subst (Passed old) e (record { can = can; state = s; begun = b; fall = omega arith; on = λ r k x. x })
  passed is (suc n) old new can s b p =
      let m = p.2 in
      let one = stepped old m can (joined-free is old p.1) s b p.3.0 p.3.1 in
      let rest = passed is n m new one.can one.state one.begun p.4 in
      let less = one.less in
      let fall = rest.fall in
      record {
        can = rest.can;
        state = rest.state;
        begun = rest.begun;
        fall = omega (arith, less, fall);
        on = λ r k x. rest.on r k (silent-on old m can p.0 one r k x);
      }

  pub record LedOn (old new : Machine) : Type 0 where
    pub can : whole.CanStep code new
    pub state : stored.Stored
    pub begun : IsBegun code limit each base last new state
    pub less : whole.to_come code limit new < whole.to_come code limit old
    pub on : (r : stored.Stored) (k : ℕ) → Came r old k → Came r new k

  -- through one silent step, or several at once
  pub led-on : IsEach (whole.step_at code each) → (old new : Machine) → whole.CanStep code old → AreFree old → (s : stored.Stored) → IsBegun code limit each base last old s → IsLed code limit went.Goes old new → LedOn old new
  led-on is old new can free s b l =
      let m = l.1 in
      let one = stepped old m can free s b l.2.0 l.2.1 in
      let rest = passed is l.3 m new one.can one.state one.begun l.4 in
      let less = one.less in
      let fall = rest.fall in
      record {
        can = rest.can;
        state = rest.state;
        begun = rest.begun;
        less = omega (arith, less, fall);
        on = λ r k x. rest.on r k (silent-on old m can l.0 one r k x);
      }
