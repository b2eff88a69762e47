-- What the evaluator does first, as a task, and what comes of its state.
use Rattle.std.specs.Prelude.{◌≡◌, ℕ, ◌*◌, ◌-◌, ◌+◌, List, [], map, length, take, drop}
use Rattle.flow_value.specs.declared.value.Val.{Val}
use Rattle.flow_value.specs.declared.cause.Cause.TheVariants as cause
use Rattle.typed_tree.specs.declared.expr.TypedExpr.{TypedExpr}
use Rattle.typed_tree.specs.declared.expr.TypedKind.{TypedKind}
use Rattle.typed_tree.specs.declared.expr.Case.{Case}
use Rattle.typed_tree.specs.declared.program.Function.{Function}
use Rattle.meaning.specs.declared.words.Test.TheVariants as test
use Rattle.meaning.specs.declared.sources.Places.{Places}
use Rattle.source_meaning.specs.declared.slots.Slot.{Slot}
use Rattle.source_meaning.specs.declared.slots.Given.{Given}
use Rattle.source_meaning.specs.declared.state.Walked.{Walked}
use Rattle.source_meaning.specs.declared.state.Walk.{Walk}
use Rattle.source_meaning.specs.declared.state.Turned.{Turned}
use Rattle.source_meaning.specs.declared.state.Round.{Round}
use Rattle.source_meaning.specs.declared.state.After.{After}
use Rattle.source_meaning.specs.declared.state.Work.{Work}
use Rattle.source_meaning.specs.declared.state.Frame.{Frame}
use Rattle.source_meaning.specs.declared.state.State.{State}
use Rattle.meaning.specs.Timed.{Timed, given, plus, andthen, Passes}
use Rattle.meaning.specs.Words.{failed}
use Rattle.meaning.specs.Meaning.{all_of, body_of, arm_at, over, results_of, meaning, kind_meaning, meanings, definitions}
use Rattle.source_meaning.specs.Slots.{slot_values, given_values}
use Rattle.source_meaning.specs.Pending.{Program, Rest, walked_body, walk, spanned, initial_gives, tested, ended, finish, operate, frame_rest, rest, load}

-- what comes of something, for each program and at each depth
abbrev pub Outcome : Type 0
Outcome = Program → ℕ → Timed (List Val)

-- something to do: what comes of it, by what is left behind it and the values of the names
abbrev pub Task : Type 0
Task = Program → ℕ → Rest → List Val → Timed (List Val)

-- ---- expressions

abbrev pub expr_task : TypedExpr → Task
expr_task e p n k env = andthen (meaning n p e env) (k env)

-- an expression of this kind, of so many results
abbrev pub kind_task : TypedKind → ℕ → Task
kind_task x results p n k env = andthen (kind_meaning n p x results env) (k env)

-- definitions and the values behind them
abbrev pub let_task : List (List TypedExpr) → List TypedExpr → Task
let_task ds es p n k env = andthen (body_of (map (map (meaning n p)) ds) (map (meaning n p) es) env) (k env)

-- a `for initial` with these definitions in its first part
abbrev pub initial_task : Turned → List (List TypedExpr) → Task
initial_task t first p n k env = andthen (initial_gives n p t (map (map (meaning n p)) first) env) (k env)

-- the arm at a place, with the content of the union
abbrev pub arm_task : Case → ℕ → List (List TypedExpr) → ℕ → Val → Task
arm_task c results arms place v p n k env = andthen (arm_at c results (map all_of (map (map (meaning n p)) arms)) place v env) (k env)

-- ---- calls

-- `error(explicit)` for each of so many results, with a step for each
abbrev pub stub_task : ℕ → Task
stub_task results p n k env = andthen (plus results (given (failed results cause.Explicit))) (k env)

-- the results of a function with these arguments
abbrev pub function_task : Function → List Val → Task
function_task f vs p n k env = andthen (results_of (length f.results) f.body (meaning n p) vs) (k env)

-- ---- frames

-- expressions, and what comes after their values
abbrev pub list_task : List TypedExpr → After → Task
list_task es a p n k env = andthen (meanings n p es env) (finish n p a k env)

-- operands, and what they are for
abbrev pub operand_task : List TypedExpr → Work → Task
operand_task es w p n k env = andthen (meanings n p es env) (operate n p w k env)

-- definitions, and then expressions where their names are in force
abbrev pub define_task : List (List TypedExpr) → List TypedExpr → After → Task
define_task ds es a p n k env = andthen (definitions n p ds env) (list_task es a p n k)

-- what comes after the values of a list
abbrev pub after_task : After → List Val → Task
after_task a vs p n k env = finish n p a k env vs

-- what these operands are for
abbrev pub work_task : Work → List Slot → Task
work_task w slots p n k env = operate n p w k env (slot_values env slots)

-- a frame that is given these values
abbrev pub frame_task : Frame → Given → Task
frame_task f g p n k env = frame_rest n p k f env (given_values g)

-- an expression, whose values go to a frame
abbrev pub part_task : Frame → TypedExpr → Task
part_task f e p n k env = andthen (meaning n p e env) (frame_rest n p k f env)

-- ---- loops

-- the places that are left of a loop over generators
abbrev pub walk_task : Walk → Task
walk_task w p n k env = walk n p w k env w.clauses.items

-- a whole loop over generators with these bounds
abbrev pub span_task : Walked → List Slot → Task
span_task w bounds p n k env = spanned n p w k env (slot_values env bounds)

-- the same where the generators have so many places, or an error
abbrev pub places_task : Walked → List Slot → Places → Task
places_task w bounds x p n k env = andthen (over w.form.now w.results (walked_body n p w) (slot_values env bounds) x env) (k env)

-- a turn of a `for initial`, and what follows
abbrev pub turn_task : Round → Task
turn_task r p n k env = tested n p r.parts k (take r.mark env) r.clauses.items (drop r.mark env) test.Yes

-- the end of a `for initial`
abbrev pub end_task : Round → Task
end_task r p n k env = ended r.parts k (take r.mark env) r.clauses.items

-- ---- the state

-- what comes of the work that is left, the steps so far left out
abbrev pub future : State → Outcome
future s p n = rest n p s.frames.items s.names (given_values s.given)

-- the same where a task comes first, in place of the values given
abbrev pub future_by : Task → State → Outcome
future_by t s p n = t p n (rest n p s.frames.items) s.names

-- with so many steps more
abbrev pub later : ℕ → Outcome → Outcome
later k a p n = plus k (a p n)

-- what comes of a state, the steps so far included
abbrev pub outcome : State → Outcome
outcome s = later s.steps (future s)

abbrev pub outcome_by : Task → State → Outcome
outcome_by t s = later s.steps (future_by t s)

-- the values given, with the steps so far
abbrev pub answer : State → ℕ → Timed (List Val)
answer s n = plus s.steps (given (given_values s.given))

abbrev pub Same : Outcome → Outcome → Type 0
Same a b = (n : ℕ) (p : Program) → a p n ≡ b p n

-- whatever comes of it takes more steps than the limit
abbrev pub Exceeds : ℕ → Outcome → Type 0
Exceeds limit a = (p : Program) → Passes limit (a p)

-- the later state does a task before the work of the earlier one, and no values are given yet
abbrev pub Puts : Task → State → State → Type 0
Puts t old new = (n : ℕ) (p : Program) (env : List Val) → rest n p new.frames.items env [] ≡ t p n (rest n p old.frames.items) env

-- by this the evaluator ends
abbrev pub fuel : ℕ → State → ℕ
fuel limit s = 8 * (limit - s.steps) + load s.frames.items
