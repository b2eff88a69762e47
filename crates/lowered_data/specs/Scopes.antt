-- Names in force. Each is kept by the level of the graph in which its port is, 0 for that of the function, so that nothing changes
-- where a graph inside begins.
use Rattle.std.specs.Prelude.{◌≡◌, ◌≤◌, ℕ, ◌-◌, List, [], ◌∷◌, ◌++◌, map, take, length}
use Rattle.lowering.specs.declared.feed.Feed.{Feed}
use Rattle.lowering.specs.declared.feed.Feed.TheVariants.{Port}
use Rattle.lowering.specs.declared.feed.Wire.{Wire}
use Rattle.lowering.specs.Feeds.{wire, into}

-- the names as they are seen from the graph under way, and how many were in force where each graph began
pub record Scopes : Type 0 where
  pub here : List Wire
  pub marks : List ℕ

abbrev pub scopes : List Wire → List ℕ → Scopes
scopes here marks = record { here = here; marks = marks }

abbrev pub with_names : Scopes → List Wire → Scopes
with_names s ws = scopes (s.here ++ ws) s.marks

-- inside a graph that begins
abbrev pub entered : Scopes → Scopes
entered s = scopes (map into s.here) (s.marks ++ length s.here ∷ [])

abbrev pub first_names : ℕ → Scopes → Scopes
first_names n s = scopes (take n s.here) s.marks

-- in a graph inside, maybe with more names
pub record IsInside (s : Scopes) : Type 0 where
  pub before : Scopes
  pub more : List Wire
  pub is : s ≡ with_names (entered before) more

-- ---- as they are kept

abbrev pub seen_feed : ℕ → Feed → Feed
seen_feed level (Port at n p) = Port (level - at) n p
seen_feed level f = f

abbrev pub seen : ℕ → Wire → Wire
seen level w = wire (seen_feed level w.feed) w.ty

abbrev pub IsAround : ℕ → Feed → Type 0
IsAround level (Port at n p) = at ≤ level
IsAround level f = Unit {0}
