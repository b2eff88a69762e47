-- A text has as many lines as bytes at most, and its graphs are no more than its lines.
use Rattle.std.proofs.Common.{◌≡◌, ℕ, ◌≤◌, Bool, List, [], map, length, Option, Some, ap, arith}
use Rattle.std.specs.Prelude.{filter}
use Rattle.std.proofs.lemmas.List.{length-map}
use Rattle.std.proofs.lemmas.List.Sums.{length-filter, count_by-le-length}
use Rattle.if1_graph.specs.declared.line.Line.{Line}
use Rattle.if1_graph.specs.declared.graph.Graph.{Graph}
use Rattle.if1_graph.specs.declared.graph.TypeEntry.{TypeEntry}
use Rattle.if1_graph.specs.Reads.{is_of_graph}
use Rattle.if1_graph.specs.Units.{sizes}
use Rattle.if1_read.specs.declared.judge.Known.{Known}
use Rattle.if1_read.specs.declared.machine.Machine.{Machine}
use Rattle.if1_read.specs.Known.{IsTableSound}
use Rattle.if1_read.specs.Putting.{AreSorted}
use Rattle.if1_read.specs.Stands.{Runs, LevelEnds}
use Rattle.if1_read.proofs.Fewer.{unit_few}
use Rattle.if1_read.proofs.Going.{runs_to_functions}
use Rattle.if1_read.proofs.Itself.{all_themselves}
use Rattle.if1_read.proofs.Naming.{named_unit, named_fits}

no_more : {A : Type 0} (p : A → Bool) (xs : List A) → length (filter p xs) ≤ length xs
no_more p xs = omega (arith, length-filter p xs, count_by-le-length p xs)

-- the lines of graphs are some of the lines
pub lines_few : (os : List (Option Line)) (es : List TypeEntry) (gs : List Line) → AreSorted os es gs → length gs ≤ length os
lines_few os es gs sorted =
    omega (arith, ap length sorted.sorts.lines, no_more is_of_graph sorted.lines, ap length sorted.are, length-map sorted.lines (λ l. Some l))

pub graphs_few : (k : Known) (m : Machine) (gs : List Line) (read : List Graph) → IsTableSound k.table → Runs k gs m → m.outer.items ≡ [] →
    LevelEnds k m.level.graphs m.level.part read → sizes read ≤ length gs
graphs_few k m gs read sound runs closed ends =
    unit_few (named_unit k) gs m.imports read
    (runs_to_functions k gs m read sound runs closed ends (named_unit k) (named_fits k) read (all_themselves read)).gives
