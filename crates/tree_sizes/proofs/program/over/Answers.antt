use Rattle.std.proofs.Common.{◌≡◌, ◌∙◌, ◌+◌, ◌≤◌, true, false, length, drop, drop_of_length-le, sym, ap, arith}
use Rattle.lowered_sizes.specs.Programs.{function_sized, sizes_over}
use Rattle.tree_sizes.proofs.Kept.{graphs-kept, largest-kept, ports-kept}
use Rattle.tree_sizes.proofs.Whole.{exceeds, line_if, over-step}
use Rattle.tree_sizes.proofs.program.over.Goals as goal

pub loop-function-preserved : goal.loop-function-preserved
loop-function-preserved c = λ p h.
    let forms = c.args.types.now in
    let fs = c.args.functions.now in
    let f = c.function-item.result in
    let i = c.loop-function.function-index in
    let inv = c.loop-function.invariant p h in
    let g = inv.0 in
    let q = inv.1 in
    let s = function_sized forms f in
    let r = c.sizes_of-sizes.result in
    let kept = c.sizes_of-sizes.ensures in
    let graphs = c.deeper-graphs.ensures g s.graphs inv.2 (graphs-kept r s kept) in
    let ports = c.deeper-all.ensures q s.ports inv.3 (ports-kept r s kept) in
    let no : exceeds s g q ≡ false = sym (c.is_over.ensures s.largest (g + s.graphs) (q + s.ports) (largest-kept r s kept) graphs ports) ∙ c.if-is_over.false in (
      g + s.graphs,
      q + s.ports,
      graphs,
      ports,
      inv.4 ∙ over-step forms fs i f g q c.loop-function-test.true c.function-item.is
          ∙ ap (λ b. line_if b f.line (sizes_over forms (drop (i + 1) fs) (g + s.graphs) (q + s.ports))) no,
    )

pub returns-then-is_over : goal.returns-then-is_over
returns-then-is_over c = λ p h.
    let forms = c.args.types.now in
    let fs = c.args.functions.now in
    let f = c.function-item.result in
    let i = c.loop-function.function-index in
    let inv = c.loop-function.invariant p h in
    let g = inv.0 in
    let q = inv.1 in
    let s = function_sized forms f in
    let r = c.sizes_of-sizes.result in
    let kept = c.sizes_of-sizes.ensures in
    let graphs = c.deeper-graphs.ensures g s.graphs inv.2 (graphs-kept r s kept) in
    let ports = c.deeper-all.ensures q s.ports inv.3 (ports-kept r s kept) in
    let yes : exceeds s g q ≡ true = sym (c.is_over.ensures s.largest (g + s.graphs) (q + s.ports) (largest-kept r s kept) graphs ports) ∙ c.if-is_over.true in
    sym (
    inv.4 ∙ over-step forms fs i f g q c.loop-function-test.true c.function-item.is
    ∙ ap (λ b. line_if b f.line (sizes_over forms (drop (i + 1) fs) (g + s.graphs) (q + s.ports))) yes
    )

pub returns : goal.returns
returns c = λ p h.
    let inv = c.loop-function.invariant p h in
    let fs = c.args.functions.now in
    let over : length fs ≤ c.loop-function.function-index = omega (arith, c.loop-function-test.false) in
    sym (inv.4 ∙ ap (λ l. sizes_over c.args.types.now l inv.0 inv.1) (drop_of_length-le fs over))
