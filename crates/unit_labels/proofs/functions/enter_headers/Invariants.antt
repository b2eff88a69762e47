use Rattle.std.proofs.Common.{◌≡◌, ◌<◌, ◌^◌, ℕ, ◌++◌, map, drop, get_or}
use Rattle.typed_tree.specs.declared.program.Function.{Function}
use Rattle.lowering.specs.Types.{header_need, with_needs}
use Rattle.lowering.specs.TooMany.{types_over}
use Rattle.line_types.specs.Traces.{body_need, traced_needs}
use Rattle.line_labels.specs.Needs.{added}
use Rattle.unit_labels.specs.Entered.{AreEntered, callees}
use Rattle.unit_labels.proofs.functions.enter_headers.Given as goal

-- what is still to be entered decides the whole
abbrev pub invariant-loop-place : goal.invariant-loop-place
invariant-loop-place l =
    let left = map (header_need l.program) (drop l.place l.program.functions) ++ map (body_need l.program) l.program.functions in
    record {
      entered : AreEntered l.program l.labels;
      needs : added l.labels.needs (callees l.place (drop l.place l.program.functions)) ≡ added l.fn.labels.needs (callees 0 l.program.functions);
      table : with_needs left l.labels.table ≡ with_needs (traced_needs l.program) l.fn.labels.table;
      within : types_over left l.labels.table ≡ types_over (traced_needs l.program) l.fn.labels.table;
      names : (i : ℕ) (d : Function) → i < l.place → (get_or l.program.functions i d).name < 2 ^ 32;
    }
