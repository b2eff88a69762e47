use Rattle.std.proofs.Common.{◌≡◌, ◌∙◌, refl, sym, Option, Some, None, drop, rules, arith}
use Rattle.std.specs.Option.{option_copied}
use Rattle.value_text.specs.Tokens.{sign_in}
use Rattle.value_text.specs.Faults.{type_at}
use Rattle.value_text.specs.Surveying.{look}
use Rattle.value_text.proofs.Joins.{parts_more}
use Rattle.value_text.proofs.survey.+survey.Goals as goal

pub parts-loop-count-preserved : goal.parts-loop-count-preserved
parts-loop-count-preserved t c =
    let text = c.args.text.now in
    let ty = option_copied c.args.ty in
    let open_yet : sign_in c.args.close (drop c.loop-count.at text) ≡ None = search rules in
    let read : look c.args.levels (type_at ty c.args.fields.now c.loop-count.count) (drop c.loop-count.at text) ≡ Some (c.in_ok-inside.inside, drop c.in_ok-inside.behind text) = search rules in
    let step = parts_more (look c.args.levels) ty c.args.fields.now c.args.close c.args.most c.loop-count.count c.loop-count.misfit c.in_ok-inside.inside (drop c.loop-count.at text) (drop c.in_ok-inside.behind text) c.loop-count-test.true open_yet read in
    record {
      within = omega arith;
      rest_to_come = rw (c.first-misfit.ensures, ← c.skip-at.ensures) (sym step ∙ c.loop-count.invariant.rest_to_come);
    }
