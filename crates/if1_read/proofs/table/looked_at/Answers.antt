use Rattle.std.proofs.Common.{◌≡◌, ℕ, ◌<◌, List, None, length, get_or, slice_index, refl, sym, ap, subst, ◌∙◌, below_more, arith}
use Rattle.std.specs.List.Sorted.{IsStrictlyIncreasing}
use Rattle.if1_graph.specs.declared.graph.TypeEntry.{TypeEntry}
use Rattle.if1_read.specs.Least.{earlier, found}
use Rattle.if1_read.proofs.Looking.{looked_more, looked_all, right_at}
use Rattle.if1_read.proofs.table.looked_at.Goals as goal

pub loop-place-preserved : goal.loop-place-preserved
loop-place-preserved c =
    let once = c.args.once.now in
    let inv = c.loop-place.invariant in
    let place = c.loop-place.place in
    let e = c.index-as_slice-place.result in
    let kind = c.unknown-kind.result in
    let short : place < length once.types = omega (arith, c.loop-place-test.true, c.len-place-end.ensures) in
    record {
      clean = λ h. inv.clean (c.after-first.ensures.clean h);
      types = λ h is up.
          let kind_is = c.unknown-kind.ensures once.types (c.as_slice.ensures ∙ is) (subst IsStrictlyIncreasing (sym c.as_slice.ensures) up) in
          below_more _ _ (inv.types (c.after-first.ensures.clean h) is up)
          (λ d. right_at once.types c.as_slice-in-loop-place.result.now place e d kind c.as_slice-in-loop-place.ensures short c.index-as_slice-place.is kind_is (c.after-first.ensures.none h));
      found = λ es is lines ls up.
          let kind_is = c.unknown-kind.ensures once.types (c.as_slice.ensures ∙ ls) (subst IsStrictlyIncreasing (sym c.as_slice.ensures) up) in
          let line : c.line_at.result ≡ slice_index once.lines place = c.line_at.ensures ∙ ap (λ (xs : List ℕ). slice_index xs place) c.as_slice-in-loop-place-2.ensures in
          let at : e ≡ get_or once.types place e = c.index-as_slice-place.is ∙ ap (λ (xs : List TypeEntry). get_or xs place e) c.as_slice-in-loop-place.ensures in
          c.after-first.ensures.found
          ∙ (ap (λ (n : ℕ). earlier c.loop-place.first (found n kind)) line
          ∙ looked_more once.types es once.lines once.first c.loop-place.first place e kind is lines short at kind_is (inv.found es is lines ls up));
    }

pub returns-clause-found : goal.returns-clause-found
returns-clause-found c = λ es is lines ls up.
    let once = c.args.once.now in
    looked_all once.types es once.first c.loop-place.first c.loop-place.place is (omega (arith, c.loop-place-test.false, c.len-place-end.ensures)) (c.loop-place.invariant.found es is lines ls up)
