use Rattle.std.proofs.Common.{◌≡◌, ◌++◌, [], ◌∷◌, ◌+◌, ◌-◌, replicate, ap, ◌∙◌, arith}
use Rattle.std.proofs.lemmas.List.{replicate_more}
use Rattle.value_ops.specs.Operand.{value_of}
use Rattle.value_ops.proofs.makers.repeated.Goals as goal

pub returns : goal.returns
returns c =
    let v = value_of c.args.v in
    let n = c.args.count in
    let test = c.if-count-eq0.false in
    let whole : n - 1 + 1 ≡ n = omega (arith, test) in
    let made : c.in_ok-items.items ≡ replicate (n - 1) v = c.in_ok-items.ensures ∙ ap (replicate (n - 1)) c.seen.ensures in
    let last : c.in_ok-kept.field-0 ≡ v = c.in_ok-kept.ensures in
    c.in_ok-add.ensures.ok ∙ (ap (λ xs. xs ++ c.in_ok-kept.field-0 ∷ []) made
    ∙ (ap (λ w. replicate (n - 1) v ++ w ∷ []) last ∙ (replicate_more (n - 1) v ∙ ap (λ k. replicate k v) whole)))
