use Rattle.std.proofs.Common.{◌≡◌, ◌∙◌, [], ◌++◌, Some, map, drop, slice_get, ap, sym}
use Rattle.std.specs.Vec.Iter.{into_iter_items}
use Rattle.std.proofs.lemmas.List.{append-nil, nil_from_length}
use Rattle.std.proofs.lemmas.Option.{slice_get-get_or}
use Rattle.lowered_units.specs.Listed.{listing}
use Rattle.lowered_units.specs.Units.{function_listings}
use Rattle.unit_build.proofs.Functions.{no-listings}
use Rattle.unit_build.proofs.maker.Maker.graphs_of.Goals as goal

pub returns-in_default : goal.returns-in_default
returns-in_default c =
    let p = c.args.self.now.program.now in
    let here = map listing c.loop-place.graphs in
    let rest = drop c.loop-place.place p.functions in
    let none : into_iter_items c.loop-place.left ≡ [] = nil_from_length _ (sym c.loop-place.left.rest.ok.0 ∙ c.in_default.ensures.cases.0) in
    sym (append-nil here)
    ∙ (ap (λ l. here ++ l) (sym (no-listings p c.loop-place.place c.loop-place.number rest) ∙ ap (function_listings p c.loop-place.place c.loop-place.number rest) (sym none))
    ∙ c.loop-place.invariant.graphs)

pub put_function-requires-clause-there : goal.put_function-requires-clause-there
put_function-requires-clause-there c =
    let place = c.loop-place.place in
    let function = c.index-functions-place.result in
    ap (λ l. slice_get l place) (sym c.as_slice-functions.ensures)
    ∙ (slice_get-get_or c.as_slice-functions.result.now place function c.loop-place-test.true ∙ ap Some (sym c.index-functions-place.is))
