use Rattle.std.proofs.Common.{◌∙◌, ap, sym, subst, arith}
use Rattle.lowering.specs.Types.{table}
use Rattle.lowered_units.specs.Units.{function_listings}
use Rattle.type_labels.specs.Lines.{lines_from}
use Rattle.unit_build.specs.Readiness.{AreReady}
use Rattle.unit_build.proofs.Blocks.{lines-entries}
use Rattle.unit_build.proofs.Readiness.{functions-ready, functions-few}
use Rattle.unit_build.proofs.unit.unit_of.Goals as goal

pub imports-requires : goal.imports-requires
imports-requires c = let few = functions-few c.args.program.now c.requires.fits c.requires.within in omega (arith, few)

pub graphs_of-requires-clause-few : goal.graphs_of-requires-clause-few
graphs_of-requires-clause-few c = let few = functions-few c.args.program.now c.requires.fits c.requires.within in omega (arith, few)

pub graphs_of-requires-clause-ready : goal.graphs_of-requires-clause-ready
graphs_of-requires-clause-ready c =
    let p = c.args.program.now in
    subst (AreReady p 1) (sym c.requires.functions) (functions-ready p c.requires.fits c.requires.within)

pub returns : goal.returns
returns c =
    let p = c.args.program.now in
    record {
      types = c.in_ok-types.ensures ∙ (ap (lines_from 1) c.requires.labels.table ∙ lines-entries p 1 (table p));
      imports = c.in_ok-imports.ensures;
      graphs = c.in_ok-graphs.ensures ∙ ap (λ ms. function_listings p 0 1 p.functions ms) c.requires.functions;
    }
