use Rattle.std.proofs.Common.{◌≡◌, ◌≤◌, ◌<◌, ◌+◌, ◌^◌, ℕ, List, ◌∷◌, ◌++◌, Some, map, drop, length, get_or, slice_get, refl, sym, ap, subst, ◌∙◌, below_more, arith}
use Rattle.std.proofs.lemmas.Option.{slice_get_read, get_or_from_slice_get}
use Rattle.typed_tree.specs.declared.program.Function.{Function}
use Rattle.lowering.specs.Types.{header_need}
use Rattle.line_types.specs.Traces.{body_need}
use Rattle.unit_labels.proofs.Numbers.{few-functions}
use Rattle.unit_labels.proofs.Steps.{next, step-callee, step-table, step-within}
use Rattle.unit_labels.proofs.functions.enter_headers.Goals as goal

pub overflow_cast-place : goal.overflow_cast-place
overflow_cast-place c =
    let fs = c.args.program.now.functions in
    let i = c.loop-place.place in
    let f = c.index-functions-place.result in
    let inside : i + 1 ≤ length fs = omega (arith, c.loop-place-test.true, ap length c.as_slice-functions.ensures) in
    let is : f ≡ get_or fs i f = c.index-functions-place.is ∙ ap (λ (l : List Function). get_or l i f) c.as_slice-functions.ensures in
    let small : (get_or fs i f).name < 2 ^ 32 = subst (λ (g : Function). g.name < 2 ^ 32) is c.name_of.ensures.small in
    let below = below_more (λ (k : ℕ). (get_or fs k f).name < 2 ^ 32) i (λ k l. c.loop-place.invariant.names k f l) small in
    let few : i + 1 ≤ 2 ^ 32 = few-functions c.args.program.now c.requires.fits f (2 ^ 32) (i + 1) inside below in
    omega (arith, few)

pub enter_header-requires-clause-there : goal.enter_header-requires-clause-there
enter_header-requires-clause-there c =
    let xs = c.as_slice-functions.result.now in
    let f = c.index-functions-place.result in
    ap (λ (l : List Function). slice_get l c.loop-place.place) (sym c.as_slice-functions.ensures)
    ∙ slice_get_read xs (length xs) c.loop-place.place f refl c.loop-place-test.true c.index-functions-place.is

pub loop-place-preserved : goal.loop-place-preserved
loop-place-preserved c =
    let p = c.args.program.now in
    let fs = p.functions in
    let xs = c.as_slice-functions.result.now in
    let i = c.loop-place.place in
    let f = c.index-functions-place.result in
    let cons : drop i fs ≡ f ∷ drop (i + 1) fs =
    subst (λ (l : List Function). drop i l ≡ f ∷ drop (i + 1) l) c.as_slice-functions.ensures (next xs i f c.loop-place-test.true c.index-functions-place.is) in
    let there : slice_get fs i ≡ Some f =
    ap (λ (l : List Function). slice_get l i) (sym c.as_slice-functions.ensures) ∙ slice_get_read xs (length xs) i f refl c.loop-place-test.true c.index-functions-place.is in
    let old = c.loop-place.labels in
    let new = c.enter_header.new.labels in
    let left = λ (gs : List Function). map (header_need p) gs ++ map (body_need p) fs in
    record {
      entered = c.in-Ok.ensures.entered;
      needs = step-callee fs i f old.needs new.needs cons c.in-Ok.ensures.needs ∙ c.loop-place.invariant.needs;
      table = step-table (header_need p) left (λ g gs. refl) fs i f old.table new.table cons c.in-Ok.ensures.table ∙ c.loop-place.invariant.table;
      within = step-within (header_need p) left (λ g gs. refl) fs i f old.table new.table cons c.in-Ok.ensures.table c.in-Ok.ensures.entered.few ∙ c.loop-place.invariant.within;
      names = λ j d below. below_more (λ (k : ℕ). (get_or fs k d).name < 2 ^ 32) i (λ k l. c.loop-place.invariant.names k d l)
          (subst (λ (g : Function). g.name < 2 ^ 32) (sym (get_or_from_slice_get fs i f d there)) c.name_of.ensures.small) j below;
    }
