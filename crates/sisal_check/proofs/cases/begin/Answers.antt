use Rattle.std.proofs.Common.{◌≡◌, ◌≤◌, ◌<◌, Some, [], ◌∷◌, length, get_or, refl, sym, ap, subst, ◌∙◌, arith}
use Rattle.type_rules.specs.Parts.{tags_at}
use Rattle.sisal_check.proofs.Members.{members_of, one_of_one}
use Rattle.sisal_check.proofs.cases.begin.Goals as goal

pub returns-in-Some-clause-begins : goal.returns-in-Some-clause-begins
returns-in-Some-clause-begins c =
    let types = c.args.walk.now.types in
    let l = c.as_slice.result.now in
    let one : length l ≡ 1 = ap length c.as_slice.ensures ∙ c.requires in
    let least : 1 ≤ length l = omega (arith, one) in
    let below : length l < 2 = omega (arith, one) in
    let subject : c.args.subject.now.types ≡ get_or l 0 0 ∷ [] = sym c.as_slice.ensures ∙ one_of_one l least below in
    let m = members_of _ _ c.in-Some.ensures.arms in
    record {
      union = c.in-Some.choices.union;
      members = m.0;
      is_subject = subject ∙ ap (λ n. n ∷ []) (sym c.in-Some.ensures.union);
      is_union = subst (λ n. tags_at types n ≡ Some m.0) (sym c.in-Some.ensures.union) m.1;
      name = refl;
      chosen_union = refl;
      chosen_arms = m.2;
      results = c.new-in-Some.ensures;
      types = refl;
      even = refl;
    }
