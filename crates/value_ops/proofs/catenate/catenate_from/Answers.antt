use Rattle.std.proofs.Common.{◌≡◌, ◌≢◌, ◌∷◌, [], map, ap, ◌∙◌, rules}
use mir.Syntax.{w64}
use mir.Val.{SFits}
use Rattle.std.proofs.lemmas.Int.{to_z-of_z}
use Rattle.flow_value.specs.declared.value.Val.{Val}
use Rattle.flow_value.specs.declared.value.Val.TheVariants as val
use Rattle.value_ops.specs.Arity.{unless_errors}
use Rattle.value_ops.specs.Operand.{value_of, items_of, array_of}
use Rattle.value_ops.specs.Aggregates.{catenated}
use Rattle.value_ops.proofs.Joinings.{several-values, catenated-arrays, catenated-streams}
use Rattle.value_ops.proofs.catenate.catenate_from.Goals as goal

pub returns-in-Ok-Array : goal.returns-in-Ok-Array
returns-in-Ok-Array c =
    let vs = map value_of c.args.rest.items in
    let several : c.args.rest.items ≢ [] = search (rules, c.if-is_empty.ensures) in
    let none : (w : Val) → unless_errors vs w ≡ w = search (rules, c.in_default-no_errors.ensures.no_error, c.as_slice.ensures.value) in
    let first : value_of c.args.first ≡ val.Arr (array_of c.in-Ok-Array.a) = search (rules, c.in-Ok-Array.ensures.list) in
    let whole = ap (λ v. catenated (v ∷ vs)) first ∙ catenated-arrays vs (several-values _ several) none (array_of c.in-Ok-Array.a) in
    let fits : SFits w64 c.in-Ok-Array.a.lo = search rules in
    rw whole (simp to_z-of_z at c.join.ensures)

pub returns-in-Ok-Stream : goal.returns-in-Ok-Stream
returns-in-Ok-Stream c =
    let vs = map value_of c.args.rest.items in
    let several : c.args.rest.items ≢ [] = search (rules, c.if-is_empty.ensures) in
    let none : (w : Val) → unless_errors vs w ≡ w = search (rules, c.in_default-no_errors.ensures.no_error, c.as_slice.ensures.value) in
    let first : value_of c.args.first ≡ val.Stream (items_of c.in-Ok-Stream.items) = search (rules, c.in-Ok-Stream.ensures.list) in
    let whole = ap (λ v. catenated (v ∷ vs)) first ∙ catenated-streams vs (several-values _ several) none (items_of c.in-Ok-Stream.items) in
    rw whole c.join-in-Ok-Stream.ensures
