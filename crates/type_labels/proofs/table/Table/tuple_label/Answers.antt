use Rattle.std.proofs.Common.{◌≡◌, ◌-◌, suc, drop, get_or, subst, arith}
use Rattle.std.proofs.Math.Seq.{drop-cons}
use Rattle.lowering.specs.Types.{labelled, label_within}
use Rattle.type_labels.specs.Functions.{tuple_by}
use Rattle.type_labels.proofs.Tuples.{member_needed}
use Rattle.type_labels.proofs.table.Table.tuple_label.Goals as goal

pub returns-in-Err-clause-too_many : goal.returns-in-Err-clause-too_many
returns-in-Err-clause-too_many c = λ is.
    let past = c.in-Err.ensures.too_many is in
    let tys = c.args.tys.now in
    let at = c.loop-at.at in
    let some = c.loop-at-test.true in
    let inv = c.loop-at.invariant in
    let inside = inv.inside in
    let next : at ≡ suc (at - 1) = omega (arith, some) in
    let cons = drop-cons tys (at - 1) 0 (omega (arith, some, inside)) in
    let type = label_within c.args.types.now c.args.names.now c.args.depth in
    let rest = subst (λ k. tuple_by type (drop k tys) c.args.self.now ≡ labelled c.loop-at.rest c.loop-at.self) next inv.made in
    let grown = member_needed c.args.types.now c.args.names.now c.args.depth (at - 1) tys (get_or tys (at - 1) 0) c.args.self.now (labelled c.loop-at.rest c.loop-at.self) cons rest in
    omega (arith, past, grown)
