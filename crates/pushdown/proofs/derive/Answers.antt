use Rattle.std.proofs.Common.{◌≡◌, ◌<◌, ◌≤◌, ◌∷◌, List, [], ℕ, ◌++◌, ◌+◌, Bool, true, false, Ok, sym, ◌∙◌, ap, take, length, arith, get_or}
use Rattle.pushdown.specs.declared.Symbol.{Symbol}
use Rattle.pushdown.specs.declared.Symbol.TheVariants.{Rule}
use Rattle.pushdown.specs.Grammar.{Derives}
use Rattle.pushdown.specs.Table.{Proper, IsEnd}
use Rattle.pushdown.specs.declared.Step.{Step}
use Rattle.pushdown.specs.declared.Step.TheVariants.{Read, Open}
use Rattle.pushdown.specs.Engine.{Opens, IsSettled, Wants, FirstBad}
use Rattle.pushdown.specs.Rows.{rows_of, grammar_in, table_in}
use Rattle.pushdown.proofs.RowTests.{right, starts_proper}
use Rattle.pushdown.proofs.Engine.{wants_none, begins_some, accepts, refuses_end, first_bad, first_bad_end, wants_all}
use Rattle.std.proofs.lemmas.List.{take_more}
use Rattle.pushdown.proofs.derive.Goals as goal

pub loop-k-init : goal.loop-k-init
loop-k-init c = rw (c.in_ok-put.ensures, c.new-wanted.ensures, c.new-steps.ensures.items) (wants_none (grammar_in c.args.tables.now) (table_in c.args.tables.now) (Rule 0 ∷ []) (starts_proper (rows_of c.args.tables.now) c.requires.starts))

pub returns-then-not-branch-clause-err : goal.returns-then-not-branch-clause-err
returns-then-not-branch-clause-err c =
    let answer : c.read_token.result ≡ Ok false = c.in_ok-read_token.was ∙ ap (λ x. Ok x) c.if-not-branch.true in
    let before : List ℕ = take c.loop-k.k c.args.tokens.now in
    first_bad (grammar_in c.args.tables.now) (table_in c.args.tables.now) (right (rows_of c.args.tables.now) c.requires.right) (Rule 0 ∷ []) c.args.tokens.now c.loop-k.steps.items c.loop-k.wanted c.loop-k.k (omega (arith, c.loop-k-test.true)) c.loop-k.invariant (c.read_token.ensures.refused answer (Rule 0 ∷ []) before c.loop-k.invariant)

pub loop-k-preserved : goal.loop-k-preserved
loop-k-preserved c =
    let answer : c.read_token.result ≡ Ok true = c.in_ok-read_token.was ∙ ap (λ x. Ok x) c.if-not-branch.false in
    let before : List ℕ = take c.loop-k.k c.args.tokens.now in
    let lt : c.loop-k.k < length c.args.tokens.now = omega (arith, c.loop-k-test.true) in
    rw (take_more c.args.tokens.now c.loop-k.k 0 lt) (c.read_token.ensures.read answer (Rule 0 ∷ []) before c.loop-k.invariant)

pub returns-in-None-clause-ok : goal.returns-in-None-clause-ok
returns-in-None-clause-ok c =
    let w : Wants (grammar_in c.args.tables.now) (table_in c.args.tables.now) (Rule 0 ∷ []) c.args.tokens.now c.loop-k.steps.items c.loop-k.wanted = wants_all (grammar_in c.args.tables.now) (table_in c.args.tables.now) (Rule 0 ∷ []) c.args.tokens.now c.loop-k.steps.items c.loop-k.wanted c.loop-k.k (omega (arith, c.loop-k-test.false)) c.loop-k.invariant in
    let o : (ps : List Step) × (c.settle.new.steps.items ≡ c.loop-k.steps.items ++ ps) × Opens (grammar_in c.args.tables.now) (table_in c.args.tables.now) 0 c.loop-k.wanted ps c.settle.new.wanted = c.in_ok-settle.ensures.opens in
    let none : c.settle.new.wanted ≡ [] = c.in-None.ensures in
    rw o.1 (accepts (grammar_in c.args.tables.now) (table_in c.args.tables.now) (Rule 0 ∷ []) c.args.tokens.now c.loop-k.steps.items c.loop-k.wanted o.0 w (rw none at o.2))

pub returns-clause-err : goal.returns-clause-err
returns-clause-err c =
    let w : Wants (grammar_in c.args.tables.now) (table_in c.args.tables.now) (Rule 0 ∷ []) c.args.tokens.now c.loop-k.steps.items c.loop-k.wanted = wants_all (grammar_in c.args.tables.now) (table_in c.args.tables.now) (Rule 0 ∷ []) c.args.tokens.now c.loop-k.steps.items c.loop-k.wanted c.loop-k.k (omega (arith, c.loop-k-test.false)) c.loop-k.invariant in
    let o : (ps : List Step) × (c.settle.new.steps.items ≡ c.loop-k.steps.items ++ ps) × Opens (grammar_in c.args.tables.now) (table_in c.args.tables.now) 0 c.loop-k.wanted ps c.settle.new.wanted = c.in_ok-settle.ensures.opens in
    let some : (rest : List Symbol) × (c.settle.new.wanted ≡ c.in-Some.field-0 ∷ rest) = c.in-Some.ensures in
    let long : 0 < length c.settle.new.wanted = rw some.1 (omega arith) in
    first_bad_end (grammar_in c.args.tables.now) (table_in c.args.tables.now) (right (rows_of c.args.tables.now) c.requires.right) (Rule 0 ∷ []) c.args.tokens.now c.loop-k.steps.items c.loop-k.wanted c.settle.new.wanted o.0 w o.2 c.in_ok-settle.ensures.settled long
