use Rattle.std.proofs.Common.{◌≡◌, map, drop}
use Rattle.lowering.specs.Types.{with_needs}
use Rattle.lowering.specs.TooMany.{types_over}
use Rattle.line_types.specs.Traces.{body_need, lines_of}
use Rattle.line_labels.specs.Needs.{added}
use Rattle.unit_labels.specs.Entered.{AreEntered}
use Rattle.unit_labels.proofs.functions.enter_bodies.Given as goal

-- what is still to be entered decides the whole
abbrev pub invariant-loop-function : goal.invariant-loop-function
invariant-loop-function l =
    let left = map (body_need l.program) (drop l.function-index l.program.functions) in
    let all = map (body_need l.program) l.program.functions in
    record {
      entered : AreEntered l.program l.labels;
      needs : added l.labels.needs (lines_of l.program.types (drop l.function-index l.program.functions)) ≡ added l.fn.labels.needs (lines_of l.program.types l.program.functions);
      table : with_needs left l.labels.table ≡ with_needs all l.fn.labels.table;
      within : types_over left l.labels.table ≡ types_over all l.fn.labels.table;
    }
