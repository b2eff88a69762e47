use Rattle.std.proofs.Common.{◌≡◌, ◌+◌, ◌∷◌, ◌++◌, [], List, sym, ap, subst, ◌∙◌, drop, get_or, append_assoc}
use Rattle.sisal_tree.specs.declared.unit.Named.{Named}
use Rattle.typed_tree.specs.Typing.{names_of}
use Rattle.unit_types.proofs.Lists.{cut}
use Rattle.unit_types.proofs.Names.{twice_in, more_before}
use Rattle.unit_types.proofs.name_set.first_twice.Goals as goal

pub returns-then-not-branch-clause-twice : goal.returns-then-not-branch-clause-twice
returns-then-not-branch-clause-twice c = λ before e.
    let names = c.args.names.now in
    let i = c.loop-named.named-index in
    let n = get_or names i (record { name = 0; line = 0 }) in
    let here : drop i names ≡ n ∷ drop (i + 1) names = cut names i (record { name = 0; line = 0 }) c.loop-named-test.true in
    twice_in before names (drop (i + 1) names) c.loop-named.seen n
    (subst (λ l. (xs : List Named) × (names_of xs ≡ c.loop-named.seen) × (xs ++ l ≡ before ++ names)) here (c.loop-named.invariant.named before e))
    (c.in_ok-add.ensures.old c.if-not-branch.true)

pub loop-named-preserved : goal.loop-named-preserved
loop-named-preserved c =
    let names = c.args.names.now in
    let i = c.loop-named.named-index in
    let n = get_or names i (record { name = 0; line = 0 }) in
    let here : drop i names ≡ n ∷ drop (i + 1) names = cut names i (record { name = 0; line = 0 }) c.loop-named-test.true in
    let added : c.add.new.self ≡ c.loop-named.seen ++ n.name ∷ [] = c.in_ok-add.ensures.new c.if-not-branch.false in
    record {
      names = ap (λ s. s ++ names_of (drop (i + 1) names)) added ∙ append_assoc c.loop-named.seen (n.name ∷ []) (names_of (drop (i + 1) names))
          ∙ ap (λ l. c.loop-named.seen ++ names_of l) (sym here) ∙ c.loop-named.invariant.names;
      named = λ before e.
          let r = more_before (before ++ names) (drop (i + 1) names) c.loop-named.seen n
          (subst (λ l. (xs : List Named) × (names_of xs ≡ c.loop-named.seen) × (xs ++ l ≡ before ++ names)) here (c.loop-named.invariant.named before e)) in
          (r.0, r.1 ∙ sym added, r.2);
    }
