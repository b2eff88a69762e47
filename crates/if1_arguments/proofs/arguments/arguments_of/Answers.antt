use Rattle.std.proofs.Common.{◌≡◌, map, Option, Some, None, option_map, sym, ap, ◌∙◌}
use Rattle.std.proofs.lemmas.Result.{IfOk-weaker}
use Rattle.if1_graph.specs.declared.graph.Graph.TheViews.{out-Graph}
use Rattle.if1_types.specs.Parameters.{params_at as numbered_params}
use Rattle.if1_valid.specs.Params.{function_in}
use Rattle.if1_arguments.specs.Arguments.{AreArgumentsOf}
use Rattle.if1_arguments.specs.Numbered.{numbered}
use Rattle.if1_arguments.proofs.Functions.{arguments_are, arguments_there}
use Rattle.if1_arguments.proofs.arguments.arguments_of.Goals as goal

pub unreachable-requires-in-None : goal.unreachable-requires-in-None
unreachable-requires-in-None c =
    let u = c.args.unit.now in
    let s = c.args.sorts.now in
    let label = sym c.in-Some.is ∙ (c.label_of.ensures ∙ ap (λ gs. option_map (λ g. (out-Graph g).fun) (function_in gs c.args.function)) c.as_slice.ensures) in
    let none = sym c.in-None.is ∙ (c.in_ok-parameters.ensures ∙ ap (λ ts. numbered_params ts s c.in-Some.label) c.as_slice-2.ensures) in
    arguments_there u s c.requires.ready c.requires.numbers c.args.function c.in-Some.label c.requires.there label none

pub returns : goal.returns
returns c =
    let u = c.args.unit.now in
    let s = c.args.sorts.now in
    let label = sym c.in-Some.is ∙ (c.label_of.ensures ∙ ap (λ gs. option_map (λ g. (out-Graph g).fun) (function_in gs c.args.function)) c.as_slice.ensures) in
    let found = sym c.in-Some-2.is ∙ (c.in_ok-parameters.ensures ∙ ap (λ ts. numbered_params ts s c.in-Some.label) c.as_slice-2.ensures) in
    IfOk-weaker c.numbers_of.result (λ ns. ns ≡ map (λ p. p.ty) c.as_slice-in-Some-2.result.now) (AreArgumentsOf u c.args.function (numbered s.shapes))
    (λ ns e. arguments_are u s c.requires.ready c.requires.numbers c.args.function c.in-Some.label c.in-Some-2.parameters ns c.requires.there label found (e ∙ ap (map (λ p. p.ty)) c.as_slice-in-Some-2.ensures))
    c.numbers_of.ensures
