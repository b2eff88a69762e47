use Rattle.sisal_parse.proofs.Faults.{deep_fault, spelled_of}
use Rattle.sisal_parse.proofs.units.outline_within.Goals as goal

pub returns-then-deepest-gt-MOST_DEPTH-clause-too_deep : goal.returns-then-deepest-gt-MOST_DEPTH-clause-too_deep
returns-then-deepest-gt-MOST_DEPTH-clause-too_deep c =
    deep_fault c.args.steps.now c.args.tokens.now c.in_ok-deepest.deepest.depth c.in_ok-deepest.deepest.line c.requires.derived c.in_ok-deepest.ensures.depth c.in_ok-deepest.ensures.line c.if-deepest-gt-MOST_DEPTH.true

pub returns-clause-spelled : goal.returns-clause-spelled
returns-clause-spelled c = spelled_of c.args.steps.now c.args.tokens.now c.in_ok-outline.outline c.requires.derived c.in_ok-outline.ensures
