use Rattle.std.proofs.Common.{[], ◌∷◌, ◌++◌, ◌+◌, ◌∙◌, ap, sym, map, drop, append_assoc}
use Rattle.unit_types.proofs.Lists.{cut}
use Rattle.unit_types.proofs.header.add_types.Goals as goal

pub loop-one-preserved : goal.loop-one-preserved
loop-one-preserved c =
    let named = c.args.named.now in
    let i = c.loop-one._one-index in
    ap (λ l. l ++ map (λ n. c.args.ty) (drop (i + 1) named)) c.in_ok-add.ensures.ok
    ∙ append_assoc c.loop-one.params (c.args.ty ∷ []) (map (λ n. c.args.ty) (drop (i + 1) named))
    ∙ ap (λ l. c.loop-one.params ++ map (λ n. c.args.ty) l) (sym (cut named i (record { name = 0; line = 0 }) c.loop-one-test.true))
    ∙ c.loop-one.invariant
