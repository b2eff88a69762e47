use Rattle.std.proofs.Common.{List, MatchOption, sym, subst}
use Rattle.if1_graph.specs.declared.graph.Graph.{Graph}
use Rattle.if1_typing.specs.Tables.{table_of}
use Rattle.if1_typing.specs.Inside.{AreLaid, FunctionsRight, FunctionsWrong}
use Rattle.if1_typing.proofs.EachPlace.{all_laid, found_unit}
use Rattle.if1_typing.proofs.units.wrong_type.Goals as goal

pub wrong_functions-requires : goal.wrong_functions-requires
wrong_functions-requires c =
    subst (λ (gs : List Graph). AreLaid gs) (sym c.as_slice.ensures) (all_laid c.args.unit.now c.requires.formed c.requires.normal c.requires.ports)

pub returns : goal.returns
returns c =
    let u = c.args.unit.now in
    let t = table_of c.args.known.now in
    found_unit u t c.requires.known c.requires.formed c.in_ok-found.found
    (subst (λ (gs : List Graph). MatchOption c.in_ok-found.found (FunctionsRight t gs) (FunctionsWrong t gs)) c.as_slice.ensures c.in_ok-found.ensures)
