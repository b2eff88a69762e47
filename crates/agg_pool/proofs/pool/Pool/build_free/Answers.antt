use Rattle.std.proofs.Common.{◌++◌, ◌∷◌, ◌+◌, ◌<◌, [], ℕ, List, length, is_some, arith, sym, subst, ap, length-set}
use Rattle.agg_pool.specs.Tables.{IsTable, used}
use Rattle.agg_pool.specs.Pools.{PoolView}
use Rattle.agg_pool.proofs.Tables.{puts}
use Rattle.agg_pool.proofs.pool.Pool.build_free.Goals as goal

pub invariant_of-self : goal.invariant_of-self
invariant_of-self c =
    let slots = c.self.inside.entries.items in
    let free = c.pop-2.new.self.items in
    let number = c.in-Some-pop.number in
    let o = c.replace-old.new.dest in
    let inv = c.self.invariant in
    let before : IsTable slots (free ++ number ∷ []) = subst (λ (l : List ℕ). IsTable slots l) c.in-Some-pop.ensures.items inv.0 in
    let after = puts slots free number o (ap is_some c.replace-old.ensures.after) before in
    let long = length-set slots number o in
    let boxes = c.in-Some.ensures.cases in
    let keys = c.in-Some-pop.ensures.cases in
    let one = inv.1 in
    let two = inv.2 in
    let three = inv.3 in
    let four = inv.4 in
    let all = inv.0.all in
    let few = subst (λ (v : PoolView). used v.entries + v.spare < length v.entries) (sym c.self.view_is) c.requires.free in
    let room = c.pop.ensures.capacity in
    let room' = c.pop-2.ensures.capacity in
    (after.0, omega arith, omega arith, omega arith, omega arith)
