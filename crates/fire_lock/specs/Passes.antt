-- Locks and passes as contracts see them.
use Rattle.std.specs.Prelude.{◌≡◌, ℕ, ◌-◌, List, [], ◌∷◌, ◌++◌, Option, Some}
use Rattle.atomic_table.specs.Seated.{TableId}
use Rattle.fire_lock.specs.declared.entry.Entry.{Entry}
use Rattle.fire_lock.specs.History.{entry, own, longer, Continues, Reached}

-- which lock it is, how many numbers its passes have together, and the machine that it was made with
pub record LockView (M : Type 0) : Type 0 where
  pub id : TableId
  pub passes : ℕ
  pub start : M

-- the lock that it is a pass of and its machine at the start, its numbers, from the first up to and without the second, and the beginning of the history that it has seen
pub record PassView (M E R : Type 0) : Type 0 where
  pub lock : TableId
  pub start : Option M
  pub from : ℕ
  pub until : ℕ
  pub seen : List (Entry E R)

module _ {M E R : Type 0} where
  -- it is a pass of this lock
  abbrev pub Of : LockView M → PassView M E R → Type 0
  Of l v = (v.lock ≡ l.id) × (v.start ≡ Some l.start)

  -- it is the same pass, which may have seen more
  abbrev pub Same : PassView M E R → PassView M E R → Type 0
  Same v w = w ≡ record v { seen = w.seen }

  -- the pass of a new lock
  abbrev pub whole : LockView M → PassView M E R
  whole l = record { lock = l.id; start = Some l.start; from = 0; until = l.passes; seen = [] }

  -- all its numbers but the greatest
  abbrev pub without_greatest : PassView M E R → PassView M E R
  without_greatest v = record v { until = v.until - 1 }

  -- its greatest number alone
  abbrev pub greatest : PassView M E R → PassView M E R
  greatest v = record v { from = v.until - 1 }

  -- the numbers of both and the longer of what they have seen, in which each finds what it had seen, and after that no entry of its own
  pub record Joined (v w x : PassView M E R) : Type 0 where
    pub both : x ≡ record v { until = w.until; seen = longer v.seen w.seen }
    pub first : Continues v.from v.until v.seen x.seen
    pub second : Continues w.from w.until w.seen x.seen

  module _ (starts : M → Type 0) (plays : M → ℕ → E → R → M → Type 0) where
    -- The history went on with entries of other passes, and then with this event, under the least number of the pass. The reply is the machine's at this place of the history, which began with the machine s.
    pub record Stepped (s : M) (v : PassView M E R) (e : E) (r : R) (w : PassView M E R) : Type 0 where
      pub between : List (Entry E R)
      pub others : own v.from v.until between ≡ []
      pub entered : w ≡ record v { seen = (v.seen ++ between) ++ entry v.from e r ∷ [] }
      pub before : M
      pub after : M
      pub began : starts s
      pub led : Reached plays s (v.seen ++ between) before
      pub replied : plays before v.from e r after
