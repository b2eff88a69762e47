-- A log of what is entered one after another, with its first entry first, as a history, which has its last entry first.
use Rattle.std.specs.Prelude.{◌≡◌, ℕ, List, [], ◌∷◌, ◌++◌, map, ◌↔◌}
use Rattle.std.specs.List.{list_any}
use Rattle.fire_lock.specs.declared.entry.Entry.{Entry}
use Rattle.fire_lock.specs.History.{Reached}
use Rattle.graph_meaning.specs.Entered.{Item}
use Rattle.graph_meaning.specs.Histories.{Run, Event, History, Legal, Allowed, claims, finishes, makes, is_claimed, is_finished, is_made}

-- these, one after another, entered before what was there
abbrev pub onto : List Event → History → History
onto [] h = h
onto (e ∷ es) h = onto es (e ∷ h)

-- The word that turns one into the other: the history of a log, and the log of a history. What a lock's log tells is mapped to
-- events first, so it is `turned (map tell log)`.
abbrev pub turned : List Event → History
turned es = onto es []

pub record AreLogsTurned : Type 0 where
  -- the last entry of a log is the first of its history
  pub last_first : (log : List Event) (e : Event) → turned (log ++ e ∷ []) ≡ e ∷ turned log
  -- what was entered later stands before
  pub joined : (log later : List Event) → turned (log ++ later) ≡ turned later ++ turned log
  -- the word turns back
  pub twice : (log : List Event) → turned (turned log) ≡ log

-- ---- a log as a lock has it

abbrev pub event_of : {R : Type 0} → Entry Event R → Event
event_of e = e.event

-- the history of a log
abbrev pub history_of : {R : Type 0} → List (Entry Event R) → History
history_of log = turned (map event_of log)

-- histories as a machine: an event that is allowed is entered, whatever its number and its reply
abbrev pub enters : {R : Type 0} → Run → ℕ → History → ℕ → Event → R → History → Type 0
enters run limit h number e reply k = Allowed run limit h e × (k ≡ e ∷ h)

-- So a log leads there from the empty history exactly to its own history, where that is legal.
abbrev pub AreLegalLogs : Type 0
AreLegalLogs = (run : Run) (limit : ℕ) (log : List (Entry Event ℕ)) (h : History)
    → Reached (enters run limit) [] log h ↔ ((h ≡ history_of log) × Legal run limit (history_of log))

-- what was claimed, finished or made by the history is what an entry of the log claims, finishes or makes
pub record AreTestsSame (log : List Event) (i : Item) : Type 0 where
  pub claimed : is_claimed (turned log) i ≡ list_any (λ e. claims e i) log
  pub finished : is_finished (turned log) i ≡ list_any (λ e. finishes e i) log
  pub made : is_made (turned log) i ≡ list_any (λ e. makes e i) log

abbrev pub AreAllTestsSame : Type 0
AreAllTestsSame = (log : List Event) (i : Item) → AreTestsSame log i
