use Rattle.std.proofs.Common.{◌≡◌, ◌∙◌, List, MatchOption, sym, ap, subst}
use Rattle.if1_graph.specs.declared.graph.Graph.{Graph}
use Rattle.if1_graph.specs.declared.graph.TypeEntry.{TypeEntry}
use Rattle.if1_graph.specs.Types.{sort_at}
use Rattle.if1_ports.specs.Outlines.{types_in, outline_of}
use Rattle.if1_ports.specs.Names.{callees_in, callee_of}
use Rattle.if1_ports.specs.Fed.{Types}
use Rattle.if1_ports.specs.Inside.{AreInOrder, FunctionsRight, FunctionsWrong}
use Rattle.if1_ports.proofs.Known.{types_by, callees_by}
use Rattle.if1_ports.proofs.EachPlace.{all_in_order, found_unit}
use Rattle.if1_ports.proofs.units.wrong_ports.Goals as goal

pub wrong_functions-requires : goal.wrong_functions-requires
wrong_functions-requires c =
    subst (λ (gs : List Graph). AreInOrder gs) (sym c.as_slice-3.ensures) (all_in_order c.args.unit.now c.requires.formed c.requires.normal)

pub returns : goal.returns
returns c =
    let u = c.args.unit.now in
    let t = types_in c.in_ok-types.types in
    let d = callees_in c.in_ok-names.names in
    let e : t ≡ types_by u = λ j l. (c.in_ok-types.ensures l ∙ ap (λ (ts : List TypeEntry). outline_of (sort_at ts l)) c.as_slice.ensures) j in
    let f : d ≡ callees_by u =
    λ j text. (c.in_ok-names.ensures text ∙ ap (λ (gs : List Graph). callee_of t gs text) c.as_slice-2.ensures ∙ ap (λ (t : Types). callee_of t u.graphs text) e) j in
    found_unit u t d e f c.requires.formed c.requires.normal c.in_ok-found.found
    (subst (λ (gs : List Graph). MatchOption c.in_ok-found.found (FunctionsRight t d gs) (FunctionsWrong t d gs)) c.as_slice-3.ensures c.in_ok-found.ensures)
