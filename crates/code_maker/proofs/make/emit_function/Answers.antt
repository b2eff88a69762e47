use Rattle.std.proofs.Common.{◌≡◌, ◌+◌, slice_get, ap, ◌∙◌, arith}
use Rattle.std.proofs.lemmas.Result.{on_ok_weaker}
use Rattle.plan_data.specs.Parts.{results_of, table_of}
use Rattle.code_maker.proofs.Emitting.{function-made}
use Rattle.code_maker.proofs.Standing.{results-below}
use Rattle.code_maker.proofs.make.emit_function.Goals as goal

pub add_return-requires-clause-below : goal.add_return-requires-clause-below
add_return-requires-clause-below c =
    let plan = c.args.plan.now in
    let f = c.args.function in
    let p : c.number_at-params.result ≡ table_of plan.params f = c.number_at-params.ensures ∙ ap (λ x. table_of x f) c.as_slice.ensures in
    let room = c.requires.formed.rooms f in
    results-below plan c.requires.formed f c.number_at-params.result (omega (arith, p, room)) c.results_in-ports.result.now (c.results_in-ports.ensures ∙ ap (λ x. results_of (slice_get x f)) c.as_slice-3.ensures)

pub returns : goal.returns
returns c =
    let plan = c.args.plan.now in
    let f = c.args.function in
    let p : c.number_at-params.result ≡ table_of plan.params f = c.number_at-params.ensures ∙ ap (λ x. table_of x f) c.as_slice.ensures in
    let x : c.number_at.result ≡ table_of plan.extents f = c.number_at.ensures ∙ ap (λ q. table_of q f) c.as_slice-2.ensures in
    on_ok_weaker c.add_return.result
    (λ e. function-made plan c.requires.formed c.args.levels f (c.number_at-params.result + c.number_at.result) c.number_at-params.result c.args.place c.as_slice-args.result.now c.args.draft.now c.emit_graph.new.draft c.add_return.new.draft c.results_in-ports.result.now
    (c.results_in-ports.ensures ∙ ap (λ q. results_of (slice_get q f)) c.as_slice-3.ensures) (omega (arith, p, x)) p (c.as_slice-args.ensures ∙ c.in_ok-inputs.ensures) c.in_ok-emit_graph.ensures e)
    c.add_return.ensures
