-- What an expression gives, from the frames that it is begun with.
use Rattle.std.proofs.Common.{◌≡◌, ℕ, pos, Bool, List, [], ◌++◌, map, length, take, drop, Option, Some, None, sym, ap, ◌∙◌}
use Rattle.std.proofs.Math.Seq.{take-append_seam}
use Rattle.flow_value.specs.declared.value.Val.{Val}
use Rattle.flow_value.specs.declared.cause.Cause.{Cause}
use Rattle.loop_folds.specs.Clauses.{ClauseCells}
use Rattle.typed_tree.specs.declared.expr.TypedExpr.{TypedExpr}
use Rattle.source_meaning.specs.declared.state.Turned.{Turned}
use Rattle.source_meaning.specs.declared.state.Round.{Round}
use Rattle.source_meaning.specs.declared.state.After.TheVariants as after
use Rattle.meaning.specs.Timed.{Timed, given, plus, andthen}
use Rattle.meaning.specs.Words.{failed}
use Rattle.meaning.specs.Rows.{no_rows, with_rows, made}
use Rattle.meaning.specs.Meaning.{body_of, each, folded, Members, members, unless_failed, looped, meaning, meanings, definitions}
use Rattle.source_meaning.specs.Pending.{Program, Rest, turned_next, initial_gives, closed, round, finish}
use Rattle.source_meaning.proofs.Laws.{given_then, then_then, plus_then, joined}
use Rattle.source_meaning.proofs.Rests.{defined_then}

-- definitions and the values behind them, after which the names are cut off
pub let_is : (n : ℕ) (p : Program) (m : ℕ) (k : Rest) (ds : List (List TypedExpr)) (es : List TypedExpr) (env : List Val) → m ≡ length env
    → andthen (definitions n p ds env) (λ e. andthen (meanings n p es e) (finish n p (after.Unbind m) k e))
    ≡ andthen (body_of (map (map (meaning n p)) ds) (map (meaning n p) es) env) (k env)
let_is n p m k ds es env h =
    defined_then (map (map (meaning n p)) ds) env (λ e. andthen (meanings n p es e) (λ vs. k (take m e) vs)) (λ e. andthen (meanings n p es e) (k env))
    (λ us. ap (λ x. andthen (meanings n p es (env ++ us)) (k x)) (ap (λ i. take i (env ++ us)) h ∙ take-append_seam env us))
    ∙ sym (then_then (definitions n p ds env) (meanings n p es) (k env))

-- the end of a loop
closed_is : (t : Turned) (k : Rest) (env : List Val) (rows : List (List Val)) (o : Option Cause)
    → andthen (unless_failed t.results o (folded t.form.now.clauses (pos 1) rows)) (k env) ≡ closed t k env (with_rows t.form.now.clauses (no_rows t.form.now.clauses) rows) o
closed_is t k env rows None =
    let vs : List Val = made (pos 1) (with_rows t.form.now.clauses (no_rows t.form.now.clauses) rows) in
    plus_then (length t.form.now.clauses) (given vs) (k env) ∙ ap (plus (length t.form.now.clauses)) (given_then vs (k env))
closed_is t k env rows (Some c) = given_then (failed t.results c) (k env)

-- a whole loop is a round with no clause's value yet
loop_is : (n : ℕ) (p : Program) (t : Turned) (k : Rest) (env l : List Val)
    → andthen (looped n t.form.now t.results (meanings n p t.test.now) (turned_next n p t) (meanings n p t.values.now) env l) (k env)
    ≡ round n p t t.form.now.is_first k env (no_rows t.form.now.clauses) l
loop_is n p t k env l =
    let V : List Val → Timed (List Val) = λ m. meanings n p t.values.now (env ++ m) in
    let G : Members → List (List Val) → Timed (List Val) = λ s rows. unless_failed t.results s.failure (folded t.form.now.clauses (pos 1) rows) in
    let H : Members → List (List Val) → Timed (List Val) = λ s rows. closed t k env (with_rows t.form.now.clauses (no_rows t.form.now.clauses) rows) s.failure in
    joined (members n t.form.now.is_first t.form.now.is_until (meanings n p t.test.now) (turned_next n p t) env l) (λ s. andthen (each V s.lists) (G s)) (k env) (λ s. andthen (each V s.lists) (H s))
    (λ s. joined (each V s.lists) (G s) (k env) (H s) (λ rows. closed_is t k env rows s.failure))

-- a loop, begun with the definitions of its first part
pub start_is : (n : ℕ) (p : Program) (r : Round) (k : Rest) (first : List (List TypedExpr)) (env : List Val) → r.mark ≡ length env → r.is_tested ≡ r.parts.form.now.is_first → r.clauses.items ≡ no_rows r.parts.form.now.clauses
    → andthen (definitions n p first env) (λ e. andthen (meanings n p [] e) (finish n p (after.Start r) k e)) ≡ andthen (initial_gives n p r.parts (map (map (meaning n p)) first) env) (k env)
start_is n p r k first env hm hf hc =
    let t : Turned = r.parts in
    let L : List Val → Timed (List Val) = λ l. looped n t.form.now t.results (meanings n p t.test.now) (turned_next n p t) (meanings n p t.values.now) env l in
    let R : Bool → List Val → List ClauseCells → List Val → Timed (List Val) = λ b e fs l. round n p t b k e fs l in
    defined_then (map (map (meaning n p)) first) env (λ e. andthen (meanings n p [] e) (finish n p (after.Start r) k e)) (λ e. andthen (L (drop (length env) e)) (k env))
    (λ us.
    given_then [] (finish n p (after.Start r) k (env ++ us))
    ∙ ap (λ m. R r.is_tested (take m (env ++ us)) r.clauses.items (drop m (env ++ us))) hm
    ∙ ap (λ e. R r.is_tested e r.clauses.items (drop (length env) (env ++ us))) (take-append_seam env us)
    ∙ ap (λ b. R b env r.clauses.items (drop (length env) (env ++ us))) hf
    ∙ ap (λ fs. R t.form.now.is_first env fs (drop (length env) (env ++ us))) hc
    ∙ sym (loop_is n p t k env (drop (length env) (env ++ us))))
    ∙ sym (then_then (definitions n p first env) (λ e. L (drop (length env) e)) (k env))
