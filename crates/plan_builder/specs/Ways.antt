-- How the nodes of a returns read multiples, by what fills their ports.
use Rattle.std.specs.Prelude.{ℕ, ◌-◌, ltb, if◌then◌else◌, Bool, false, List, [], ◌∷◌, Option, Some, None}
use Rattle.if1_graph.specs.declared.op.Simple.{Simple}
use Rattle.if1_graph.specs.declared.op.Simple.TheVariants as simple
use Rattle.graph_meaning.specs.Demand.{Source}
use Rattle.firing_order.specs.Returns.{Way, Lasts, Keeping, Wholly}
use Rattle.plan_data.specs.declared.plan.Feed.{Feed}
use Rattle.plan_data.specs.declared.plan.Feed.TheVariants as feed
use Rattle.plan_data.specs.declared.plan.Port.{Port}
use Rattle.plan_builder.specs.declared.ways.Reading.{Reading}
use Rattle.plan_builder.specs.declared.ways.Reading.TheVariants as reading

-- the way of the node of these sources; what stands before a multiple and its mask stays
abbrev pub read_by : Reading → List Source → Way
read_by (reading.Last j) os = Lasts j
read_by (reading.Kept j q) (o ∷ x ∷ y ∷ []) = Keeping (o ∷ []) j q
read_by (reading.Kept j q) os = Keeping [] j q
read_by reading.Whole os = Wholly

-- the port of a node's own multiple
abbrev pub multiple_port : Simple → ℕ
multiple_port simple.FinalValue = 1
multiple_port row = 2

abbrev pub multiple_by : (plain : ℕ) → Feed → Option ℕ
multiple_by plain (feed.Input i) = if ltb i plain then None else Some (i - plain)
multiple_by plain _ = None

abbrev pub last_by : Option ℕ → Reading
last_by (Some j) = reading.Last j
last_by None = reading.Whole

abbrev pub kept_by : (copies : Bool) → Option ℕ → Option ℕ → Reading
kept_by false (Some j) (Some q) = reading.Kept j q
kept_by _ _ _ = reading.Whole

abbrev pub behind_by : (copies : Bool) → Option ℕ → Option ℕ → Option ℕ → Reading
behind_by copies None x y = kept_by copies x y
behind_by copies (Some i) x y = reading.Whole

abbrev pub reading_by : (plain : ℕ) → (copies : Bool) → Simple → List Port → Reading
reading_by plain copies simple.FinalValue (x ∷ []) = last_by (multiple_by plain x.feed)
reading_by plain copies simple.FinalValue (x ∷ y ∷ []) = kept_by copies (multiple_by plain x.feed) (multiple_by plain y.feed)
reading_by plain copies simple.AGather (o ∷ x ∷ y ∷ []) = behind_by copies (multiple_by plain o.feed) (multiple_by plain x.feed) (multiple_by plain y.feed)
reading_by plain copies (simple.Reduce grouping) (o ∷ x ∷ y ∷ []) = behind_by copies (multiple_by plain o.feed) (multiple_by plain x.feed) (multiple_by plain y.feed)
reading_by plain copies row xs = reading.Whole
