-- The rule of the lock's table, and what each kind of step tells the seat that steps.
-- Word 0 is twice the length of the history, and one more while a seat has its turn. Words 1 to 3 count sleepers and news, and the rule says nothing of them. The one slot holds the machine.
use Rattle.std.specs.Prelude.{◌≡◌, ℕ, ◌+◌, ◌-◌, ◌*◌, ◌%◌, ◌<◌, ◌≤◌, List, [], ◌∷◌, ◌++◌, length, None, Some}
use mathlib.Core.Option.{some}
use lib.ListN.{get_elem?}
use Rattle.atomic_table.specs.Table.{State, Me, Step}
use Rattle.atomic_table.specs.Seated.{TableId}
use Rattle.fire_lock.specs.declared.entry.Entry.{Entry}
use Rattle.fire_lock.specs.declared.view.View.{View}
use Rattle.fire_lock.specs.declared.view.Halves.{Halves}
use Rattle.fire_lock.specs.declared.view.Place.{Place}
use Rattle.fire_lock.specs.declared.view.Played.{Played}
use Rattle.fire_lock.specs.History.{entry, own, longer, Continues, Reached}
use Rattle.fire_lock.specs.Passes.{PassView}

-- a seat's view and what it holds
abbrev pub Sat : Type 0 → Type 0 → Type 0 → Type 0
Sat M E R = Me (Place M E R) (View M E R)

module _ {M E R : Type 0} where
  -- a seat's view, as contracts show it
  abbrev pub shown : TableId → View M E R → PassView M E R
  shown id v = record { lock = id; start = v.start; from = v.from; until = v.until; seen = v.seen }

  -- the number is one of the seat's
  abbrev pub In : View M E R → ℕ → Type 0
  In v n = (v.from ≤ n) × (n < v.until)

  -- a seat between two calls
  abbrev pub Rests : View M E R → Type 0
  Rests v = (v.turn ≡ None) × (v.halves ≡ None) × (v.from < v.until)

  abbrev pub first : ℕ → M → View M E R
  first passes m = record { from = 0; until = passes; seen = []; start = Some m; turn = None; halves = None }

  abbrev pub spent : View M E R
  spent = record { from = 0; until = 0; seen = []; start = None; turn = None; halves = None }

  abbrev pub cut_left : View M E R → View M E R
  cut_left v = record v { until = v.until - 1 }

  abbrev pub cut_right : View M E R → View M E R
  cut_right v = record v { from = v.until - 1 }

  abbrev pub glued : View M E R → View M E R → View M E R
  glued v w = record v { until = w.until; seen = longer v.seen w.seen; halves = Some (record { middle = v.until; first = v.seen; second = w.seen }) }

  -- what a view was joined from lives on in it
  abbrev pub LivesOn : View M E R → Halves E R → Type 0
  LivesOn v h = Continues v.from h.middle h.first v.seen × Continues h.middle v.until h.second v.seen

  -- what is true of each view: j is the seat's index, holder that of the seat with the turn
  pub record Fits (log : List (Entry E R)) (origin now : M) (held holder passes j : ℕ) (v : View M E R) : Type 0 where
    pub seen : Continues v.from v.until v.seen log
    pub start : (m : M) → v.start ≡ Some m → m ≡ origin
    pub turn : (m : M) → v.turn ≡ Some m → (held ≡ 1) × (j ≡ holder) × (m ≡ now) × (v.seen ≡ log)
    pub halves : (h : Halves E R) → v.halves ≡ Some h → LivesOn v h
    pub until : v.until ≤ passes

  -- the rule
  module _ (starts : M → Type 0) (plays : M → ℕ → E → R → M → Type 0) (passes : ℕ) (origin : M) where
    pub record Kept (s : State (Place M E R) (View M E R)) : Type 0 where
      pub log : List (Entry E R)
      pub now : M
      pub held : ℕ
      pub holder : ℕ
      pub counts : List ℕ
      pub words : s.words ≡ ((2 * length log + held) % 18446744073709551616) ∷ counts
      pub bit : held < 2
      pub began : starts origin
      pub led : Reached plays origin log now
      pub home : held ≡ 0 → (p : Place M E R) × (s.homes ≡ some p ∷ []) × (p.machine ≡ now)
      pub owner : held ≡ 1 → (v : View M E R) × (get_elem? s.views holder ≡ some v) × (v.turn ≡ Some now) × (v.from < v.until)
      pub each : (j : ℕ) (v : View M E R) → get_elem? s.views j ≡ some v → Fits log origin now held holder passes j v
      pub single : (i j n : ℕ) (v w : View M E R) → get_elem? s.views i ≡ some v → get_elem? s.views j ≡ some w → In v n → In w n → i ≡ j
      pub all : own 0 passes log ≡ log

  -- a seat takes its turn with the machine m: it has seen all that was entered
  pub record Turn (starts : M → Type 0) (plays : M → ℕ → E → R → M → Type 0) (v w : View M E R) (m : M) : Type 0 where
    pub between : List (Entry E R)
    pub others : own v.from v.until between ≡ []
    pub view : w ≡ record v { seen = v.seen ++ between; turn = Some m; halves = None }
    pub led : (s : M) → v.start ≡ Some s → starts s × Reached plays s (v.seen ++ between) m

  abbrev pub stays : Step (Place M E R) → Sat M E R → ℕ → Sat M E R → Type 0
  stays st me found me' = me' ≡ me

  abbrev pub takes_turn : (M → Type 0) → (M → ℕ → E → R → M → Type 0) → Step (Place M E R) → Sat M E R → ℕ → Sat M E R → Type 0
  takes_turn starts plays st me found me' =
      (found ≡ st.first → (p : Place M E R) × (me'.1 ≡ (0, p) ∷ []) × Turn starts plays me.0 me'.0 p.machine)
      × (¬ (found ≡ st.first) → me' ≡ me)

  -- what was played last, as the slot has it, enters the history
  abbrev pub enters : Step (Place M E R) → Sat M E R → ℕ → Sat M E R → Type 0
  enters st me found me' = (me'.1 ≡ [])
      × ((p : Place M E R) (q : Played E R) → me.1 ≡ (0, p) ∷ [] → p.played ≡ Some q → me'.0 ≡ record me.0 { seen = me.0.seen ++ entry me.0.from q.event.value q.reply.value ∷ []; turn = None })

  abbrev pub settles : Step (Place M E R) → Sat M E R → ℕ → Sat M E R → Type 0
  settles st me found me' = (me' ≡ (record me.0 { halves = None }, me.1)) × ((h : Halves E R) → me.0.halves ≡ Some h → LivesOn me.0 h)
