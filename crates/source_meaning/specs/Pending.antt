-- What the definition says of the work that is left.
use Rattle.std.specs.Prelude.{◌≡◌, ℕ, sum_by, pos, Bool, true, false, List, [], ◌∷◌, ◌++◌, map, Option, Some, None, fold, length, take, drop}
use Rattle.flow_value.specs.declared.value.Val.{Val}
use Rattle.flow_value.specs.declared.value.Val.TheViews.{out-Val}
use Rattle.flow_value.specs.declared.cause.Cause.{Cause}
use Rattle.value_ops.specs.Operations.{op_value}
use Rattle.loop_folds.specs.Clauses.{ClauseCells}
use Rattle.typed_tree.specs.declared.expr.TypedExpr.{TypedExpr}
use Rattle.typed_tree.specs.declared.program.Function.{Function}
use Rattle.meaning.specs.declared.words.Test.{Test}
use Rattle.meaning.specs.declared.words.Test.TheVariants as test
use Rattle.source_meaning.specs.declared.state.Walked.{Walked}
use Rattle.source_meaning.specs.declared.state.Walk.{Walk}
use Rattle.source_meaning.specs.declared.state.Turned.{Turned}
use Rattle.source_meaning.specs.declared.state.After.{After}
use Rattle.source_meaning.specs.declared.state.After.TheVariants as after
use Rattle.source_meaning.specs.declared.state.Work.{Work}
use Rattle.source_meaning.specs.declared.state.Work.TheVariants as work
use Rattle.source_meaning.specs.declared.state.Frame.{Frame}
use Rattle.source_meaning.specs.declared.state.Frame.TheVariants as frame
use Rattle.meaning.specs.Timed.{Timed, given, plus, andthen}
use Rattle.meaning.specs.Words.{value_at, failed, test_of, goes_on}
use Rattle.source_meaning.specs.Slots.{slot_values}
use Rattle.meaning.specs.Sources.{places_of, lower_of}
use Rattle.meaning.specs.Rows.{with_row, with_rows, made}
use Rattle.meaning.specs.Meaning.{Gives, all_of, defined, body_of, chosen, arm_of, each, environments, at_place, over, renew, turned, looped, members, calls, meaning, meanings, definitions}

abbrev pub Program : Type 0
Program = List Function

-- what comes of the values of the names and the values given
abbrev pub Rest : Type 0
Rest = List Val → List Val → Timed (List Val)

-- ---- loops over generators

abbrev pub walked_body : ℕ → Program → Walked → Gives
walked_body n p w = body_of (map (map (meaning n p)) w.defs.now) (map (meaning n p) w.values.now)

-- the loop goes on with the places that are left, where these are its clauses so far
abbrev pub walk : ℕ → Program → Walk → Rest → List Val → List ClauseCells → Timed (List Val)
walk n p w k env fs =
    andthen (each (at_place (walked_body n p w.parts)) (environments w.parts.form.now.sources (slot_values env w.bounds) env w.count w.left))
    (λ rows. plus (length w.parts.form.now.clauses) (k env (made (lower_of (slot_values env w.bounds)) (with_rows w.parts.form.now.clauses fs rows))))

-- the loop begins, with these bounds
abbrev pub spanned : ℕ → Program → Walked → Rest → Rest
spanned n p w k env bs = plus (length w.form.now.sources) (andthen (over w.form.now w.results (walked_body n p w) bs (places_of w.form.now.sources bs) env) (k env))

-- ---- `for initial`

abbrev pub turned_next : ℕ → Program → Turned → List Val → Gives
turned_next n p t = turned t.form.now (map (map (meaning n p)) t.defs.now)

-- the whole loop, with the definitions of its first part
abbrev pub initial_gives : ℕ → Program → Turned → List (List Gives) → Gives
initial_gives n p t first env =
    andthen (defined first env) (λ all. looped n t.form.now t.results (meanings n p t.test.now) (turned_next n p t) (meanings n p t.values.now) env (drop (length env) all))

-- the loop ends, where these are its clauses
abbrev pub ended : Turned → Rest → List Val → List ClauseCells → Timed (List Val)
ended t k env fs = plus (length t.form.now.clauses) (k env (made (pos 1) fs))

abbrev pub closed : Turned → Rest → List Val → List ClauseCells → Option Cause → Timed (List Val)
closed t k env fs None = ended t k env fs
closed t k env fs (Some c) = k env (failed t.results c)

-- the loop goes on, where these are the values of the names around it, its clauses so far and its loop names
abbrev pub round : ℕ → Program → Turned → Bool → Rest → List Val → List ClauseCells → List Val → Timed (List Val)
round n p t is_tested k env fs l =
    andthen (members n is_tested t.form.now.is_until (meanings n p t.test.now) (turned_next n p t) env l)
    (λ s. andthen (each (λ m. meanings n p t.values.now (env ++ m)) s.lists) (λ rows. closed t k env (with_rows t.form.now.clauses fs rows) s.failure))

-- after a test
abbrev pub tested : ℕ → Program → Turned → Rest → List Val → List ClauseCells → List Val → Test → Timed (List Val)
tested n p t k env fs l test.Yes = plus 1 (andthen (turned_next n p t env l) (λ m. round n p t true k env fs m))
tested n p t k env fs l test.No = ended t k env fs
tested n p t k env fs l (test.Failed c) = k env (failed t.results c)

-- after the values of the clauses before a turn
abbrev pub collected : ℕ → Program → Turned → Bool → Rest → List Val → List ClauseCells → List Val → Timed (List Val)
collected n p t true k env fs l = andthen (meanings n p t.test.now (env ++ l)) (λ ts. tested n p t k env fs l (goes_on t.form.now.is_until (test_of ts)))
collected n p t false k env fs l = tested n p t k env fs l test.Yes

-- the first of some definitions has an expression
abbrev pub StartsFull : List (List TypedExpr) → Type 0
StartsFull [] = Unit {0}
StartsFull (d ∷ ds) = d ≡ [] → ⊥

-- ---- frames

abbrev pub finish : ℕ → Program → After → Rest → Rest
finish n p (after.Bind ds) k env vs = andthen (definitions n p ds.now (env ++ vs)) (λ e. k e [])
finish n p (after.Unbind m) k env vs = k (take m env) vs
finish n p (after.Enter f) k env vs = andthen (calls n p f vs) (k env)
finish n p (after.Leave saved) k env vs = k saved vs
finish n p (after.Choose a b results) k env vs = andthen (chosen results (test_of vs) (meanings n p a.now env) (meanings n p b.now env)) (k env)
finish n p (after.Pick c arms results) k env vs = andthen (arm_of c.now results (map all_of (map (map (meaning n p)) arms.now)) (out-Val (value_at vs 0)) env) (k env)
finish n p after.Pass k env vs = k env vs
finish n p (after.Next w) k env vs = walk n p w k (take w.mark env) (with_row w.parts.form.now.clauses w.clauses.items vs)
finish n p (after.Start r) k env vs = round n p r.parts r.is_tested k (take r.mark env) r.clauses.items (drop r.mark env)
finish n p (after.Kept r) k env vs = collected n p r.parts r.is_tested k (take r.mark env) (with_row r.parts.form.now.clauses r.clauses.items vs) (drop r.mark env)
finish n p (after.Tested r) k env vs = tested n p r.parts k (take r.mark env) r.clauses.items (drop r.mark env) (goes_on r.parts.form.now.is_until (test_of vs))
finish n p (after.Renew r) k env vs =
    round n p r.parts true k (take r.mark env) r.clauses.items (renew r.parts.form.now.renewed (drop r.height env) (drop r.mark (take r.height env)))

abbrev pub operate : ℕ → Program → Work → Rest → Rest
operate n p (work.Apply op) k env vs = k env (op_value op.now vs ∷ [])
operate n p (work.Span w) k env vs = spanned n p w k env vs

abbrev pub frame_rest : ℕ → Program → Rest → Frame → Rest
frame_rest n p k (frame.Listing f) env vs = andthen (meanings n p f.left.now env) (λ ws. finish n p f.after k env ((f.done ++ vs) ++ ws))
frame_rest n p k (frame.Operating f) env vs = andthen (meanings n p f.left.now env) (λ ws. operate n p f.work k env ((slot_values env f.slots ++ vs) ++ ws))

abbrev pub last : Rest
last env vs = given vs

-- what comes of them by the work that is left, the last frame first
abbrev pub rest : ℕ → Program → List Frame → Rest
rest n p fs = fold (frame_rest n p) last fs

-- ---- how long it can go on

-- how many frames more may come of a frame before a step is counted
abbrev pub weight : After → ℕ
weight (after.Bind ds) = 2
weight (after.Unbind m) = 1
weight (after.Enter f) = 2
weight (after.Leave saved) = 1
weight (after.Choose a b results) = 2
weight (after.Pick c arms results) = 2
weight after.Pass = 1
weight (after.Next w) = 1
weight (after.Start r) = 3
weight (after.Kept r) = 2
weight (after.Tested r) = 1
weight (after.Renew r) = 3

-- A definition of which an expression is still to come takes a step before the next one begins.
abbrev pub bind_weight : List TypedExpr → ℕ
bind_weight [] = 2
bind_weight (e ∷ es) = 1

abbrev pub listing_weight : After → List TypedExpr → ℕ
listing_weight (after.Bind ds) left = bind_weight left
listing_weight a left = weight a

abbrev pub frame_weight : Frame → ℕ
frame_weight (frame.Listing f) = listing_weight f.after f.left.now
frame_weight (frame.Operating f) = 1

abbrev pub load : List Frame → ℕ
load fs = sum_by frame_weight fs
