use Rattle.std.proofs.Common.{◌+◌, ◌∷◌, [], List, ℕ, map, drop, subst}
use Rattle.std.specs.Prelude.{slice_index}
use Rattle.std.proofs.lemmas.List.{drop_more, drop_all}
use Rattle.if1_graph.specs.declared.op.Simple.TheVariants as simple
use Rattle.lowering.specs.declared.feed.Wire.{Wire}
use Rattle.lowering.specs.Operations.{all_lowered, row_lowered}
use Rattle.lowering.specs.Programs.{stub}
use Rattle.lowered_data.specs.States.{IsMade}
use Rattle.lower_nodes.proofs.Walks.{Going, goes_on, ended}
use Rattle.lowered_functions.proofs.Ending.{begun-with}
use Rattle.lowered_functions.proofs.functions.stubs.Goals as goal

pub loop-place-init : goal.loop-place-init
loop-place-init c = λ env. begun-with (all_lowered (map stub c.args.types.now) env) c.args.made.now c.new-values.result c.new-values.ensures

pub loop-place-preserved : goal.loop-place-preserved
loop-place-preserved c = λ env.
    let ts = c.args.types.now in
    let i = c.loop-place.place in
    let t = slice_index ts i in
    let f = all_lowered (map stub ts) env in
    let begun : Going f (all_lowered (map stub (t ∷ drop (i + 1) ts)) env) c.args.made.now c.loop-place.made c.loop-place.values =
    subst (λ (us : List ℕ). Going f (all_lowered (map stub us) env) c.args.made.now c.loop-place.made c.loop-place.values) (drop_more ts i 0 c.loop-place-test.true) (c.loop-place.invariant env) in
    let one : IsMade (stub t env) c.loop-place.made c.row.new.made c.in_ok-error.error =
    subst (λ (ws : List Wire). IsMade (row_lowered simple.Error ws (t ∷ [])) c.loop-place.made c.row.new.made c.in_ok-error.error) c.new.ensures c.in_ok-error.ensures in
    goes_on f (stub t) (map stub (drop (i + 1) ts)) env c.args.made.now c.loop-place.made c.row.new.made c.loop-place.values c.in_ok-error.error c.append.new.wires begun one c.in_ok-append.ensures

pub returns : goal.returns
returns c = λ env.
    let ts = c.args.types.now in
    let f = all_lowered (map stub ts) env in
    ended f env c.args.made.now c.loop-place.made c.loop-place.values
    (subst (λ (us : List ℕ). Going f (all_lowered (map stub us) env) c.args.made.now c.loop-place.made c.loop-place.values) (drop_all c.loop-place.place ts c.loop-place-test.false) (c.loop-place.invariant env))
