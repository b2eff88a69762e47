use Rattle.std.proofs.Common.{◌≡◌, ◌<◌, ◌∷◌, List, [], ℕ, ◌++◌, arith, Some, sym, ◌∙◌, ap, append_assoc}
use Rattle.pushdown.specs.declared.Symbol.{Symbol}
use Rattle.pushdown.specs.declared.Symbol.TheVariants.{Rule}
use Rattle.pushdown.specs.Grammar.{Grammar}
use Rattle.pushdown.specs.Table.{lead}
use Rattle.pushdown.specs.declared.Step.{Step}
use Rattle.pushdown.specs.declared.Step.TheVariants.{Read, Open}
use Rattle.pushdown.specs.Engine.{Opens}
use Rattle.pushdown.specs.Rows.{rows_of, grammar_in, table_in}
use Rattle.pushdown.proofs.RowTests.{bounded, right}
use Rattle.pushdown.proofs.Engine.{falls, opens_more}
use Rattle.pushdown.proofs.settle.Goals as goal

pub body-requires-clause-bounds : goal.body-requires-clause-bounds
body-requires-clause-bounds c = bounded (rows_of c.args.tables.now) c.requires.right

pub body-requires-clause-within : goal.body-requires-clause-within
body-requires-clause-within c = ((right (rows_of c.args.tables.now) c.requires.right).made c.in-Some-Rule.rule c.args.class c.in-Some.production (sym (c.in-Some.ensures))).0

pub loop-rule-smaller : goal.loop-rule-smaller
loop-rule-smaller c =
    let p : ℕ = c.in-Some.production in
    let n : ℕ = c.in-Some-Rule.rule in
    let front : (rest : List Symbol) × (c.loop-rule.wanted ≡ Rule n ∷ rest) = rw c.in-Some-Rule.field-0-is at c.in-Some-Rule.ensures in
    let chosen : (table_in c.args.tables.now).choose n c.args.class ≡ Some p = sym (c.in-Some.ensures) in
    let m : (p < (grammar_in c.args.tables.now).productions) × ((grammar_in c.args.tables.now).head p ≡ n) = (right (rows_of c.args.tables.now) c.requires.right).made n c.args.class p chosen in
    let now : c.put.new.self ≡ (grammar_in c.args.tables.now).body p ++ front.0 = c.in_ok-put.ensures ∙ (ap (λ x. x ++ c.skip.new.self) c.body.ensures ∙ ap (λ x. (grammar_in c.args.tables.now).body p ++ x) (c.skip.ensures (Rule n) front.0 front.1)) in
    rw (now, front.1) (falls (grammar_in c.args.tables.now) (table_in c.args.tables.now) (right (rows_of c.args.tables.now) c.requires.right) n p front.0 m.0 m.1)

pub loop-rule-preserved : goal.loop-rule-preserved
loop-rule-preserved c =
    let p : ℕ = c.in-Some.production in
    let n : ℕ = c.in-Some-Rule.rule in
    let front : (rest : List Symbol) × (c.loop-rule.wanted ≡ Rule n ∷ rest) = rw c.in-Some-Rule.field-0-is at c.in-Some-Rule.ensures in
    let chosen : (table_in c.args.tables.now).choose n c.args.class ≡ Some p = sym (c.in-Some.ensures) in
    let now : c.put.new.self ≡ (grammar_in c.args.tables.now).body p ++ front.0 = c.in_ok-put.ensures ∙ (ap (λ x. x ++ c.skip.new.self) c.body.ensures ∙ ap (λ x. (grammar_in c.args.tables.now).body p ++ x) (c.skip.ensures (Rule n) front.0 front.1)) in
    let old : (ps : List Step) × (c.loop-rule.steps.items ≡ c.args.steps.now.items ++ ps) × Opens (grammar_in c.args.tables.now) (table_in c.args.tables.now) c.args.class c.args.wanted.now ps c.loop-rule.wanted = c.loop-rule.invariant in
    let o : Opens (grammar_in c.args.tables.now) (table_in c.args.tables.now) c.args.class c.args.wanted.now old.0 (Rule n ∷ front.0) = rw front.1 at old.2 in (
      old.0 ++ (Open p ∷ []),
      (c.in_ok-push.ensures.items ∙ (ap (λ x. x ++ (Open p ∷ [])) old.1 ∙ append_assoc c.args.steps.now.items old.0 (Open p ∷ []))),
      rw now (opens_more (grammar_in c.args.tables.now) (table_in c.args.tables.now) (right (rows_of c.args.tables.now) c.requires.right) c.args.class n p c.args.wanted.now old.0 front.0 o chosen),
    )
