-- A line opens one compound node at most.
use Rattle.std.proofs.Common.{ℕ, suc, ◌-◌, ◌≤◌, ◌==◌, Bool, true, false, if◌then◌else◌, arith}
use Rattle.if1_graph.specs.declared.line.Line.{Line}
use Rattle.if1_graph.specs.declared.line.Line.TheVariants as line
use Rattle.if1_read.specs.declared.read.Spot.{Spot}
use Rattle.if1_read.specs.Sorting.{spot_next}

either : (n : ℕ) (b : Bool) (s t : Spot) → s.depth ≤ n → t.depth ≤ n → (if b then s else t).depth ≤ n
either n true s t x y = x
either n false s t x y = y

pub shallow_next : (l : Line) (s : Spot) → (spot_next l s).depth ≤ suc s.depth
shallow_next (line.Function exported fun name) s = either (suc s.depth) (s.depth == 0) (record { depth = s.depth; reading = true }) s (omega arith) (omega arith)
shallow_next (line.Import ty name) s = either (suc s.depth) (s.depth == 0) (record { depth = s.depth; reading = false }) s (omega arith) (omega arith)
shallow_next (line.Subgraph name) s = either (suc s.depth) (s.depth == 0) s (record { depth = s.depth; reading = true }) (omega arith) (omega arith)
shallow_next (line.Open rest) s = either (suc s.depth) s.reading (record { depth = suc s.depth; reading = false }) s (omega arith) (omega arith)
shallow_next (line.Close label op count assoc before name) s =
    either (suc s.depth) (s.depth == 0) s (record { depth = s.depth - 1; reading = true }) (omega arith) (omega arith)
shallow_next line.Blank s = omega arith
shallow_next (line.Entry label code first second name) s = omega arith
shallow_next (line.Node label op before name) s = omega arith
shallow_next (line.Edge source out node port ty takes name) s = omega arith
shallow_next (line.Literal node port ty text name) s = omega arith
