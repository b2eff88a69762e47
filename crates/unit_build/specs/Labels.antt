-- The labels of a program: those of what its lines carry, and of the types of its functions.
use Rattle.std.specs.Prelude.{◌≡◌, refl, ℕ, List, Some, Contains, slice_get}
use Rattle.typed_tree.specs.declared.program.Function.{Function}
use Rattle.typed_tree.specs.declared.program.Program.{Program}
use Rattle.lowering.specs.declared.feed.Carried.{Carried}
use Rattle.lowering.specs.declared.feed.Carried.TheVariants.{Callee}
use Rattle.lowering.specs.Graphs.{graph_lines}
use Rattle.lowering.specs.Programs.{functions_lowered}
use Rattle.lowering.specs.Types.{table, label_of, header_label}
use Rattle.line_labels.specs.declared.labels.Labels.{Labels}
use Rattle.line_labels.specs.Labels.{label_in}

-- what the lines of the unit of a program carry
pub unit_lines : Program → List Carried
unit_lines p = graph_lines (functions_lowered p)

pub unit_lines-is : (p : Program) → unit_lines p ≡ graph_lines (functions_lowered p)
unfolding unit_lines
unit_lines-is p = refl

pub record AreLabelsOf (p : Program) (ls : Labels) : Type 0 where
  pub lines : (c : Carried) → Contains (unit_lines p) c → label_in ls c ≡ label_of p c
  pub headers : (place : ℕ) (f : Function) → slice_get p.functions place ≡ Some f → label_in ls (Callee place) ≡ header_label p f
  pub table : ls.table ≡ table p
