-- What simple nodes write and copy, by their rows.
use Rattle.std.specs.Prelude.{◌≡◌, ℕ, ◌-◌, ◌≤◌, ◌&&◌, if◌then◌else◌, Bool, true, false, List, get_or, length}
use Rattle.if1_graph.specs.declared.op.Simple.{Simple}
use Rattle.if1_graph.specs.declared.op.Simple.TheVariants as simple
use Rattle.graph_meaning.specs.Carried.{Carried}
use Rattle.graph_meaning.specs.Storage.{Storage, is_consumed_at, is_left, leaves_at}
use Rattle.step_code.specs.Stored.{Mode, copied}
use Rattle.step_code.specs.declared.step.Counted.{Counted}
use Rattle.step_code.specs.declared.step.Counted.TheVariants as counted
use Rattle.step_code.specs.declared.step.Written.{Written}
use Rattle.step_code.specs.declared.step.Written.TheVariants as written
use Rattle.step_code.specs.Reading.{so_many}

abbrev pub written_by_row : Simple → (joined : Bool) → Written
written_by_row simple.ABuild joined = written.Elements
written_by_row simple.AFill joined = written.Elements
written_by_row simple.AGather joined = written.Elements
written_by_row (simple.Reduce grouping) joined = written.Catenated
written_by_row simple.ACatenate joined = if joined then written.Nothing else written.Elements
written_by_row row joined = written.Nothing

abbrev pub counted_by_row : Simple → (told : Bool) → (marks : ℕ) → Counted
counted_by_row simple.FinalValue told marks = if told then counted.Last else counted.Nothing
counted_by_row simple.AGather told marks = if told then counted.Elements else counted.Nothing
counted_by_row (simple.Reduce grouping) told marks = if told then counted.Elements else counted.Nothing
counted_by_row simple.AFill told marks = if told then counted.Filling else counted.Nothing
counted_by_row simple.AElement told marks = counted.Outputs marks
counted_by_row simple.FirstValue told marks = counted.Outputs marks
counted_by_row simple.RElements told marks = counted.Outputs marks
counted_by_row row told marks = counted.Operands

-- ---- what is told of a node's edges

-- Of a node that collects, whether the multiple's port has an aggregate that is not taken, and of an AFill whether what fills it is one.
abbrev pub told_by : Storage → (graph node : ℕ) → Simple → Bool
told_by s g l simple.FinalValue = is_left s g l 1
told_by s g l simple.AGather = is_left s g l 2
told_by s g l (simple.Reduce grouping) = is_left s g l 2
told_by s g l simple.AFill = s.is_aggregate g l 3
told_by s g l row = false

-- Of a node that hands out what an aggregate has, whether this output is an aggregate, and of a record's elements one that is used.
abbrev pub hands_out : Storage → (graph node : ℕ) → Simple → (port : ℕ) → Bool
hands_out s g l simple.AElement port = s.is_made g l port
hands_out s g l simple.FirstValue port = s.is_made g l port
hands_out s g l simple.RElements port = s.is_made g l port && s.is_used g l port
hands_out s g l row port = false

-- the marks from one on say so of each output
abbrev pub AreMarked : Storage → (graph node : ℕ) → List Bool → (width first : ℕ) → Simple → Type 0
AreMarked s g l marks w first row = (port : ℕ) → 1 ≤ port → port ≤ w → get_or (so_many first w marks) (port - 1) true ≡ hands_out s g l row port

abbrev pub AreOutputsTold : Storage → (graph node : ℕ) → List Bool → (width first : ℕ) → Simple → Type 0
AreOutputsTold s g l marks w first simple.AElement = AreMarked s g l marks w first simple.AElement
AreOutputsTold s g l marks w first simple.FirstValue = AreMarked s g l marks w first simple.FirstValue
AreOutputsTold s g l marks w first simple.RElements = AreMarked s g l marks w first simple.RElements
AreOutputsTold s g l marks w first row = Unit {0}

abbrev pub IsTold : Storage → (graph node : ℕ) → List Bool → (width : ℕ) → (told : Bool) → (first : ℕ) → Simple → Type 0
IsTold s g l marks w told first row = (told ≡ told_by s g l row) × AreOutputsTold s g l marks w first row

-- ---- how a node is fired

-- One that hands out what an aggregate has gives as many outputs as it is wide. Where nothing is told of edges, the modes copy what the
-- row consumes and does not take.
abbrev pub IsFiredSo : Storage → (graph node : ℕ) → List Mode → (width : ℕ) → (operands outputs : List Carried) → Simple → Type 0
IsFiredSo s g l ms w ks rs simple.FinalValue = Unit {0}
IsFiredSo s g l ms w ks rs simple.AGather = Unit {0}
IsFiredSo s g l ms w ks rs (simple.Reduce grouping) = Unit {0}
IsFiredSo s g l ms w ks rs simple.AFill = Unit {0}
IsFiredSo s g l ms w ks rs simple.AElement = length rs ≡ w
IsFiredSo s g l ms w ks rs simple.FirstValue = length rs ≡ w
IsFiredSo s g l ms w ks rs simple.RElements = length rs ≡ w
IsFiredSo s g l ms w ks rs row = copied ms ks ≡ leaves_at (λ port. is_consumed_at row port && is_left s g l port) 1 ks
