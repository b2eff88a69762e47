use Rattle.std.proofs.Common.{rules, ◌≡◌, true, false, [], ◌∷◌, refl, sym, ap, subst, ◌∙◌}
use Rattle.meaning.specs.Meaning.{definitions}
use Rattle.source_meaning.specs.Pending.{StartsFull}
use Rattle.source_meaning.proofs.Rests.{nil_of}
use Rattle.source_meaning.proofs.Follows.{no_names}
use Rattle.source_meaning.proofs.finish.pending.Goals as goal

pub loop-def-init : goal.loop-def-init
loop-def-init c = λ n p env. refl

pub loop-def-preserved : goal.loop-def-preserved
loop-def-preserved c = λ n p env.
    let d : c.in-Some.def.now ≡ [] = search rules in
    let l : c.loop-def.left.now ≡ [] ∷ c.in-Some.rest.now = c.in-Some.ensures.cases.0 ∙ ap (λ x. x ∷ c.in-Some.rest.now) d in
    sym (no_names n p c.in-Some.rest.now env) ∙ ap (λ x. definitions n p x env) (sym l) ∙ c.loop-def.invariant n p env

pub returns-then-not-is_empty-clause-same : goal.returns-then-not-is_empty-clause-same
returns-then-not-is_empty-clause-same c = c.loop-def.invariant

pub returns-then-not-is_empty-clause-first : goal.returns-then-not-is_empty-clause-first
returns-then-not-is_empty-clause-first c =
    subst StartsFull (sym c.in-Some.ensures.cases.0) (λ e. (let q : false ≡ true = sym c.if-not-is_empty.true ∙ c.is_empty.ensures.1 e in cc))

pub returns-clause-same : goal.returns-clause-same
returns-clause-same c = c.loop-def.invariant

pub returns-clause-first : goal.returns-clause-first
returns-clause-first c = subst StartsFull (sym (nil_of _ c.in_default.ensures.cases)) tt
