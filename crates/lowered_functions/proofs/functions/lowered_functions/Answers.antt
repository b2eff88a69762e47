use Rattle.std.proofs.Common.{◌≡◌, ◌∙◌, ◌+◌, ◌∷◌, [], List, ap, sym, subst, drop, refl, arith, append-nil}
use Rattle.std.proofs.lemmas.List.{drop_all}
use Rattle.typed_tree.specs.declared.program.Function.{Function}
use Rattle.lowering.specs.Graphs.{size}
use Rattle.lowered_data.proofs.Lists.{rest_is}
use Rattle.lowered_functions.proofs.Running.{Going, begun, fits, goes-on, one}
use Rattle.lowered_functions.proofs.functions.lowered_functions.Goals as goal

pub loop-function-init : goal.loop-function-init
loop-function-init c =
    let p = c.args.program.now in
    subst (λ (fs : List Function). Going p fs 1 c.in_ok-lowered.lowered) (sym c.as_slice-functions.ensures) (begun p 1 c.in_ok-lowered.lowered c.requires.within refl c.in_ok-lowered.ensures)

pub lowered_function-requires : goal.lowered_function-requires
lowered_function-requires c =
    let next = c.loop-function.invariant.next in
    let few = c.loop-function.invariant.few in
    omega (arith, next, few)

pub next_number-number-requires : goal.next_number-number-requires
next_number-number-requires c =
    let p = c.args.program.now in
    let f = c.function-item.result in
    let i = c.loop-function.function-index in
    let fs = c.as_slice-functions.result.now in
    let h : Going p (f ∷ drop (i + 1) fs) c.loop-function.number c.loop-function.lowered =
    subst (λ (l : List Function). Going p l c.loop-function.number c.loop-function.lowered) (rest_is fs i f c.loop-function-test.true c.function-item.is) c.loop-function.invariant in
    let same : size c.in_ok-one.one ≡ size (one p f c.loop-function.number) = ap size c.in_ok-one.ensures in
    let few = fits p f (drop (i + 1) fs) c.loop-function.number c.loop-function.lowered h in
    omega (arith, same, few)

pub loop-function-preserved : goal.loop-function-preserved
loop-function-preserved c =
    let p = c.args.program.now in
    let f = c.function-item.result in
    let i = c.loop-function.function-index in
    let fs = c.as_slice-functions.result.now in
    let h : Going p (f ∷ drop (i + 1) fs) c.loop-function.number c.loop-function.lowered =
    subst (λ (l : List Function). Going p l c.loop-function.number c.loop-function.lowered) (rest_is fs i f c.loop-function-test.true c.function-item.is) c.loop-function.invariant in
    goes-on p f (drop (i + 1) fs) c.loop-function.number c.loop-function.lowered h c.next_number-number.result c.in_ok-one.one c.add.new.self c.in_ok-one.ensures c.next_number-number.ensures c.in_ok-add.ensures.ok

pub returns : goal.returns
returns c =
    let p = c.args.program.now in
    let i = c.loop-function.function-index in
    let fs = c.as_slice-functions.result.now in
    let done = c.loop-function.lowered in
    let h : Going p [] c.loop-function.number done =
    subst (λ (l : List Function). Going p l c.loop-function.number done) (drop_all i fs c.loop-function-test.false) c.loop-function.invariant in
    sym (h.all ∙ append-nil done)
