use Rattle.std.proofs.Common.{◌≡◌, ◌∙◌, ◌+◌, ◌++◌, ◌∷◌, [], ℕ, Bool, suc, map, sym, ap, arith, append_assoc}
use Rattle.if1_graph.specs.Ports.{count_from}
use Rattle.output_marks.specs.Outputs.{has_output}
use Rattle.output_marks.proofs.Lists.{next-port}
use Rattle.output_marks.proofs.marks.add_each.Goals as goal

pub loop-place-preserved : goal.loop-place-preserved
loop-place-preserved c =
    let f : ℕ → Bool = has_output c.args.outputs.now c.args.label in
    let i = c.loop-place.place in
    let old = c.args.marks.now in
    let next : 1 + i ≡ i + 1 = omega arith in
    let up : suc i ≡ i + 1 = omega arith in
    let has : c.has.result ≡ f (1 + i) = c.has.ensures ∙ sym (ap f next) in
    c.in_ok-add.ensures.ok
    ∙ (ap (λ xs. xs ++ c.has.result ∷ []) c.loop-place.invariant
    ∙ (append_assoc old (map f (count_from 1 i)) (c.has.result ∷ [])
    ∙ (ap (λ b. old ++ (map f (count_from 1 i) ++ b ∷ [])) has
    ∙ (ap (λ xs. old ++ xs) (next-port f 1 i) ∙ ap (λ n. old ++ map f (count_from 1 n)) up))))
