use Rattle.std.proofs.Common.{◌≡◌, ◌+◌, ◌∷◌, drop, get_or, sym, ap, ◌∙◌, subst, arith}
use Rattle.std.proofs.lemmas.List.{drop_more}
use Rattle.run_code.specs.Made.{functions_lines}
use Rattle.plan_data.specs.Settled.{functions_settings}
use Rattle.plan_data.specs.Parts.{arms_steps, table_of}
use Rattle.code_maker.specs.Grows.{Grows}
use Rattle.code_maker.proofs.Emitting.{function-more}
use Rattle.code_maker.proofs.Growing.{grows-none}
use Rattle.code_maker.proofs.Reading.{drop-all}
use Rattle.code_maker.proofs.make.draft_of.Goals as goal

pub loop-function-preserved : goal.loop-function-preserved
loop-function-preserved c =
    let plan = c.args.plan.now in
    let fs = c.args.functions.now in
    let i = c.loop-function.function-index in
    let f = get_or fs i 0 in
    let rest = drop (i + 1) fs in
    let inv = c.loop-function.invariant in
    let e : drop i fs ≡ f ∷ rest = drop_more fs i 0 c.loop-function-test.true in
    let n : c.number_at.result ≡ table_of plan.sizes f = c.number_at.ensures ∙ ap (λ x. table_of x f) c.as_slice.ensures in
    let steps = inv.steps in
    let size = ap (arms_steps plan) e in
    record {
      steps = omega (arith, steps, size, n);
      made = λ P S stands new more.
          inv.made P S stands new
          (subst (λ q. Grows plan P c.loop-function.draft new (functions_lines P c.args.levels q c.loop-function.place) (functions_settings P S c.args.levels q)) (sym e)
          (function-more plan c.requires.formed c.args.levels P S stands f rest c.loop-function.place (c.loop-function.place + (c.number_at.result + 1)) c.loop-function.draft c.emit_function.new.draft new (omega (arith, n)) c.in_ok-emit_function.ensures more));
    }

pub returns : goal.returns
returns c =
    λ P S stands.
    let plan = c.args.plan.now in
    let d = c.loop-function.draft in
    c.loop-function.invariant.made P S stands d
    (subst (λ q. Grows plan P d d (functions_lines P c.args.levels q c.loop-function.place) (functions_settings P S c.args.levels q)) (sym (drop-all c.loop-function.function-index c.args.functions.now c.loop-function-test.false)) (grows-none plan P d))
