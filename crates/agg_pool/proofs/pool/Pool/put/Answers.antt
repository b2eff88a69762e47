use Rattle.std.proofs.Common.{◌<◌, ℕ, [], ◌∷◌, ◌++◌, List, Option, Some, None, is_some, length, arith, subst, ap, ap₂, ◌∙◌, length-set}
use Rattle.std.proofs.lemmas.List.{get_or-set_same}
use Rattle.flow_value.specs.declared.value.Val.{Val}
use Rattle.agg_pool.specs.declared.entry.Entry.{Entry}
use Rattle.agg_pool.specs.declared.entry.Entry.TheVariants as entry
use Rattle.agg_pool.specs.Tables.{IsTable}
use Rattle.agg_pool.proofs.Tables.{puts}
use Rattle.agg_pool.proofs.pool.Pool.put.Goals as goal

-- src/pool.rt:87:5
pub invariant_of-self : goal.invariant_of-self
invariant_of-self c =
    let slots = c.self.inside.entries.items in
    let free = c.pop-2.new.self.items in
    let number = c.in-Some-pop.number in
    let o = c.replace-old.new.dest in
    let inv = c.self.invariant in
    let before : IsTable slots (free ++ number ∷ []) = subst (λ (l : List ℕ). IsTable slots l) c.in-Some-pop.ensures.items inv.0 in
    let after = puts slots free number o (ap is_some c.replace-old.ensures.after) before in
    let long = length-set slots number o in
    let spare = c.in-Some.ensures.cases in
    let keys = c.in-Some-pop.ensures.cases in
    let one = inv.1 in
    let two = inv.2 in
    let three = inv.3 in
    let four = inv.4 in
    let room = c.pop.ensures.capacity in
    let room' = c.pop-2.ensures.capacity in
    (after.0, omega arith, omega arith, omega arith, omega arith)

pub returns-clause-now : goal.returns-clause-now
returns-clause-now c =
    let slots = c.self.inside.entries.items in
    let free = c.pop-2.new.self.items in
    let number = c.in-Some-pop.number in
    let o = c.replace-old.new.dest in
    let inv = c.self.invariant in
    let before : IsTable slots (free ++ number ∷ []) = subst (λ (l : List ℕ). IsTable slots l) c.in-Some-pop.ensures.items inv.0 in
    let near : number < length slots = (puts slots free number o (ap is_some c.replace-old.ensures.after) before).2 in
    let whole : Val → ℕ → Option Entry = λ v out. Some (entry.Whole (record { value = v; out = out; id = c.new.result.id })) in
    let is = c.replace-old.ensures.after ∙ ap₂ whole (c.new.ensures.value ∙ c.replace.ensures.after) c.new.ensures.none_out in
    (c.new.result.id, get_or-set_same slots number o None near ∙ is)
