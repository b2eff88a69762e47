use Rattle.std.proofs.Common.{◌≡◌, ℕ, [], Some, sym, ap, ◌∙◌}
use Rattle.lowering.specs.Types.{basics, needs, table}
use Rattle.lowering.specs.TooMany.{types_over}
use Rattle.line_types.specs.Traces.{lines_of}
use Rattle.line_labels.specs.Needs.{added}
use Rattle.unit_labels.specs.Entered.{callees, bodies_over, with_all, all_over}
use Rattle.unit_labels.proofs.Steps.{passed}
use Rattle.unit_labels.proofs.Whole.{whole, all-traced, over-traced}
use Rattle.unit_labels.proofs.program.labels_of.Goals as goal

pub enter_headers-requires-clause-entered : goal.enter_headers-requires-clause-entered
enter_headers-requires-clause-entered c = c.in-Ok.ensures.entered c.args.program.now

pub returns-in-Ok-enter_bodies-clause-labels : goal.returns-in-Ok-enter_bodies-clause-labels
returns-in-Ok-enter_bodies-clause-labels c =
    let p = c.args.program.now in
    let l = c.enter_bodies.new.labels in
    let start = c.in-Ok.ensures in
    let headers = c.in-Ok-enter_headers.ensures in
    let bodies = c.in-Ok-enter_bodies.ensures in
    let made : l.table ≡ table p = bodies.table ∙ (headers.table ∙ (ap (with_all p) start.table ∙ all-traced c.tables_are_traced.ensures p)) in
    let met : l.needs ≡ added (added [] (callees 0 p.functions)) (lines_of p.types p.functions) =
    bodies.needs ∙ ap (λ k. added k (lines_of p.types p.functions)) (headers.needs ∙ ap (λ k. added k (callees 0 p.functions)) start.needs) in
    whole p c.lines_are_traced.ensures l bodies.entered made met

pub returns-in-Ok-enter_bodies-clause-within : goal.returns-in-Ok-enter_bodies-clause-within
returns-in-Ok-enter_bodies-clause-within c =
    let p = c.args.program.now in
    let headers = c.in-Ok-enter_headers.ensures in
    over-traced c.faults_are_traced.ensures p ∙ (sym (headers.within ∙ ap (all_over p) c.in-Ok.ensures.table) ∙ c.in-Ok-enter_bodies.ensures.within)

pub returns-in-Err-enter_bodies-clause-too_many : goal.returns-in-Err-enter_bodies-clause-too_many
returns-in-Err-enter_bodies-clause-too_many c =
    let p = c.args.program.now in
    let headers = c.in-Ok-enter_headers.ensures in
    let P : ℕ → Type 0 = λ line. bodies_over p c.enter_headers.new.labels.table ≡ Some line in
    let Q : ℕ → Type 0 = λ line. types_over (needs p) basics ≡ Some line in
    passed P Q (λ line h. over-traced c.faults_are_traced.ensures p ∙ (sym (headers.within ∙ ap (all_over p) c.in-Ok.ensures.table) ∙ h)) c.in-Err-enter_bodies.fault c.in-Err-enter_bodies.ensures.too_many

pub returns-in-Err-clause-too_many : goal.returns-in-Err-clause-too_many
returns-in-Err-clause-too_many c =
    let p = c.args.program.now in
    let P : ℕ → Type 0 = λ line. all_over p c.in-Ok.labels.table ≡ Some line in
    let Q : ℕ → Type 0 = λ line. types_over (needs p) basics ≡ Some line in
    passed P Q (λ line h. over-traced c.faults_are_traced.ensures p ∙ (sym (ap (all_over p) c.in-Ok.ensures.table) ∙ h)) c.in-Err.fault c.in-Err.ensures.too_many
