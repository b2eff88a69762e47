-- The ports of nodes, by what is known of each.
use Rattle.std.specs.Prelude.{ℕ, suc, ◌+◌, ◌-◌, ◌&&◌, ◌||◌, not, Bool, false, List, [], ◌∷◌, slice_get, Option, Some, None}
use Rattle.if1_graph.specs.declared.op.Simple.{Simple}
use Rattle.if1_graph.specs.declared.op.Simple.TheVariants as simple
use Rattle.plan_data.specs.declared.plan.Feed.TheVariants as feed
use Rattle.plan_data.specs.declared.plan.Port.{Port}
use Rattle.port_feeds.specs.declared.filled.Filled.{Filled}
use Rattle.plan_builder.specs.declared.ways.Reading.{Reading}
use Rattle.plan_builder.specs.declared.ways.Reading.TheVariants as reading
use Rattle.plan_builder.specs.Nodes.{given_by, handled_by}
use Rattle.plan_builder.specs.Ways.{multiple_by}

-- ---- of simple nodes and Calls, and of compound nodes

abbrev pub port_by : Filled → Port
port_by f = record { feed = f.feed; handled = handled_by f.takes f.consumed }

abbrev pub given_port_by : Filled → Port
given_port_by f = record { feed = f.feed; handled = given_by f.takes (f.consumed && not f.takes) }

-- ---- of nodes that do a returns, where so many inputs are no multiples

-- the collection of this number in place of what fills the port: a last value, or what is taken too where it has no parts
abbrev pub last_by : (plain number : ℕ) → Filled → Port
last_by plain k f = record { feed = feed.Input (plain + k); handled = handled_by f.takes f.consumed }

abbrev pub collected_by : (plain number : ℕ) → Filled → Port
collected_by plain k f = record { feed = feed.Input (plain + k); handled = handled_by (f.takes || not f.aggregate) f.consumed }

abbrev pub if_multiple : {A : Type 0} → Option ℕ → (multiple plain : A) → A
if_multiple (Some j) a b = a
if_multiple None a b = b

abbrev pub whole_by : (plain number : ℕ) → Filled → Port
whole_by plain k f = if_multiple (multiple_by plain f.feed) (collected_by plain k f) (port_by f)

abbrev pub number_after : (plain number : ℕ) → Filled → ℕ
number_after plain k f = if_multiple (multiple_by plain f.feed) (suc k) k

-- a last value alone
abbrev pub last_ports : (plain number : ℕ) → List Filled → List Port
last_ports plain k [] = []
last_ports plain k (f ∷ fs) = last_by plain k f ∷ []

-- kept values, behind what stands before a multiple and its mask
abbrev pub kept_ports : (plain number : ℕ) → List Filled → List Port
kept_ports plain k (f ∷ x ∷ y ∷ fs) = port_by f ∷ collected_by plain k x ∷ []
kept_ports plain k (f ∷ fs) = collected_by plain k f ∷ []
kept_ports plain k [] = []

-- each multiple whole
abbrev pub whole_ports : (plain number : ℕ) → List Filled → List Port
whole_ports plain k [] = []
whole_ports plain k (f ∷ fs) = whole_by plain k f ∷ whole_ports plain (number_after plain k f) fs

abbrev pub read_ports : Reading → (plain number : ℕ) → List Filled → List Port
read_ports (reading.Last j) plain k fs = last_ports plain k fs
read_ports (reading.Kept j q) plain k fs = kept_ports plain k fs
read_ports reading.Whole plain k fs = whole_ports plain k fs

-- a last value is passed on
abbrev pub row_read : Reading → Simple → Simple
row_read (reading.Last j) row = simple.NoOp
row_read _ row = row

-- ---- what is told of them

abbrev pub has_left : Option Filled → Bool
has_left None = false
has_left (Some f) = f.aggregate && not f.takes

abbrev pub has_whole : Option Filled → Bool
has_whole None = false
has_whole (Some f) = f.aggregate

-- an aggregate fills this port and is not taken
abbrev pub left_at : List Filled → (port : ℕ) → Bool
left_at fs port = has_left (slice_get fs (port - 1))

abbrev pub told_in : List Filled → Simple → Bool
told_in fs simple.FinalValue = left_at fs 1
told_in fs simple.AGather = left_at fs 2
told_in fs (simple.Reduce grouping) = left_at fs 2
told_in fs simple.AFill = has_whole (slice_get fs 2)
told_in fs row = false
