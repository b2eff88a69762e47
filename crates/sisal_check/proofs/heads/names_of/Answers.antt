use Rattle.std.proofs.Common.{◌≡◌, ◌<◌, ◌^◌, ◌+◌, [], ◌∷◌, ◌++◌, All, drop, sym, ap, subst, ◌∙◌, append_assoc}
use Rattle.std.proofs.lemmas.List.Elements.{All-push}
use Rattle.typing_laws.specs.Forming.{fields_of}
use Rattle.unit_types.proofs.Lists.{cut_at}
use Rattle.sisal_check.proofs.heads.names_of.Goals as goal

pub loop-v-preserved : goal.loop-v-preserved
loop-v-preserved c =
    let vs = c.args.vs.now in
    let i = c.loop-v.v-index in
    let here : drop i vs ≡ c.v-item.result ∷ drop (i + 1) vs = cut_at vs i c.v-item.result c.loop-v-test.true c.v-item.is in
    let more : c.add.new.self ≡ c.loop-v.names ++ c.name_of.result ∷ [] = c.in_ok-add.ensures.ok in
    record {
      names = ap (λ l. l ++ fields_of (drop (i + 1) vs)) more
          ∙ append_assoc c.loop-v.names (c.name_of.result ∷ []) (fields_of (drop (i + 1) vs))
          ∙ ap (λ n. c.loop-v.names ++ (n ∷ fields_of (drop (i + 1) vs))) c.name_of.ensures.is
          ∙ ap (λ l. c.loop-v.names ++ fields_of l) (sym here)
          ∙ c.loop-v.invariant.names;
      small = subst (All (λ x. x < 2 ^ 32)) (sym more) (All-push (λ x. x < 2 ^ 32) c.loop-v.names c.name_of.result c.loop-v.invariant.small c.name_of.ensures.small);
    }
