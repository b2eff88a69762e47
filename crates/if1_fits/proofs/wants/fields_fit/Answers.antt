use Rattle.std.proofs.Common.{◌≡◌, ◌∙◌, suc, ◌+◌, ◌-◌, Some, true, false, sym, ap, arith}
use Rattle.if1_fits.specs.Views.{value_of, are_same, carried_at}
use Rattle.if1_fits.specs.Tests.{fields_fit}
use Rattle.if1_fits.proofs.Walks.{fields_on, fields_stop, fields_end}
use Rattle.if1_fits.proofs.wants.fields_fit.Goals as goal

pub returns-in_default : goal.returns-in_default
returns-in_default c =
    let ks = c.args.sorts.now.shapes in
    let at = carried_at c.args.sorts.now.labels c.args.sorts.now.numbers c.args.edges.now in
    let is : c.loop-left.left ≡ suc (c.loop-left.left - 1) = omega (arith, c.loop-left-test.true) in
    sym (ap (λ count. fields_fit ks at count c.args.fields 1) (sym c.length-count.ensures.members) ∙ c.loop-left.invariant.same
    ∙ fields_end ks at c.loop-left.rest c.loop-left.left (c.loop-left.left - 1) (c.length-count.result - c.loop-left.left + 1) is (sym c.in_default.ensures.form))

pub returns-then-not-are_same : goal.returns-then-not-are_same
returns-then-not-are_same c =
    let ks = c.args.sorts.now.shapes in
    let at = carried_at c.args.sorts.now.labels c.args.sorts.now.numbers c.args.edges.now in
    let port = c.length-count.result - c.loop-left.left + 1 in
    let is : c.loop-left.left ≡ suc (c.loop-left.left - 1) = omega (arith, c.loop-left-test.true) in
    let found : are_same (Some c.in-Member.ty) (value_of ks (at port)) ≡ false =
    ap (are_same (Some c.in-Member.ty)) (sym (c.value_of-carried.ensures ∙ ap (value_of ks) c.carried_at.ensures)) ∙ sym c.if-not-are_same.ensures in
    sym (ap (λ count. fields_fit ks at count c.args.fields 1) (sym c.length-count.ensures.members) ∙ c.loop-left.invariant.same
    ∙ fields_stop ks at c.loop-left.rest c.loop-left.left (c.loop-left.left - 1) port c.in-Member.ty c.in-Member.others is (sym c.in-Member.ensures.form) found)

pub loop-left-preserved : goal.loop-left-preserved
loop-left-preserved c =
    let ks = c.args.sorts.now.shapes in
    let at = carried_at c.args.sorts.now.labels c.args.sorts.now.numbers c.args.edges.now in
    let port = c.length-count.result - c.loop-left.left + 1 in
    let is : c.loop-left.left ≡ suc (c.loop-left.left - 1) = omega (arith, c.loop-left-test.true) in
    let next : suc port ≡ c.length-count.result - (c.loop-left.left - 1) + 1 = omega (arith, c.loop-left-test.true, c.loop-left.invariant.within) in
    let found : are_same (Some c.in-Member.ty) (value_of ks (at port)) ≡ true =
    ap (are_same (Some c.in-Member.ty)) (sym (c.value_of-carried.ensures ∙ ap (value_of ks) c.carried_at.ensures)) ∙ sym c.if-not-are_same.ensures in
    record {
      within = omega (arith, c.loop-left.invariant.within);
      same =
          c.loop-left.invariant.same
          ∙ fields_on ks at c.loop-left.rest c.loop-left.left (c.loop-left.left - 1) port c.in-Member.ty c.in-Member.others is (sym c.in-Member.ensures.form) found
          ∙ ap (fields_fit ks at (c.loop-left.left - 1) c.in-Member.others) next;
    }

pub returns : goal.returns
returns c =
    let ks = c.args.sorts.now.shapes in
    let at = carried_at c.args.sorts.now.labels c.args.sorts.now.numbers c.args.edges.now in
    let done : c.loop-left.left ≡ 0 = omega (arith, c.loop-left-test.false) in
    sym (ap (λ count. fields_fit ks at count c.args.fields 1) (sym c.length-count.ensures.members) ∙ c.loop-left.invariant.same
    ∙ ap (λ left. fields_fit ks at left c.loop-left.rest (c.length-count.result - c.loop-left.left + 1)) done)
