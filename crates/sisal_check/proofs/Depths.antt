-- A group of generators is no deeper than the groups among which it stands.
use Rattle.std.proofs.Common.{◌≡◌, ℕ, ◌<◌, ◌≤◌, List, length, get_or, arith, refl, ap}
use denote.Param.Weighed.{most, at_most}
use Rattle.sisal_tree.specs.declared.expr.Generator.{Generator}
use Rattle.sisal_tree.specs.declared.expr.ExprKind.TheShapes.{weighed-Loop-Product-0-at-1}

abbrev pub of_group : (Generator → ℕ) → List Generator → ℕ
of_group μ g = weighed-Loop-Product-0-at-1.weight Generator μ g

of_group_is : (μ : Generator → ℕ) (g : List Generator) → of_group μ g ≡ most μ g
of_group_is μ g = refl

pub among_groups : (μ : Generator → ℕ) (gs : List (List Generator)) (i : ℕ) (g : List Generator) → i < length gs → g ≡ get_or gs i g
    → most μ g ≤ most (of_group μ) gs
among_groups μ gs i g h is =
    let within : of_group μ (get_or gs i g) ≤ most (of_group μ) gs = at_most (of_group μ) gs i g h in
    let same : of_group μ (get_or gs i g) ≡ most μ (get_or gs i g) = of_group_is μ (get_or gs i g) in
    let that : most μ g ≡ most μ (get_or gs i g) = ap (most μ) is in
    omega arith
