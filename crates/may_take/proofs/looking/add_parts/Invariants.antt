use Rattle.std.proofs.Common.{◌≡◌, ◌≤◌, ◌++◌, ℕ, suc, IsTrue, map, take, drop}
use Rattle.std.specs.Vec.Iter.{into_iter_items}
use Rattle.if1_graph.specs.declared.graph.Node.{out-Node}
use Rattle.if1_graph.specs.Units.{Inside, each_from, places_of}
use Rattle.may_take.specs.Uses.{Tells}
use Rattle.may_take.specs.Looked.{does_ask, flags_by, node_levels}
use Rattle.may_take.proofs.looking.add_parts.Given as goal

abbrev pub invariant-loop-place : goal.invariant-loop-place
invariant-loop-place l = record {
  left : into_iter_items l.rest ≡ drop l.place l.fn.parts.items;
  inside : Tells l.unit l.functions → IsTrue (does_ask l.functions.asked) → (more : ℕ) → node_levels l.node ≤ suc more →
      l.inside.items ≡ l.initial.inside.items ++ map (flags_by l.functions.asked l.unit) (each_from (λ k s. places_of more (Inside l.graph l.node k) s) 0 (take l.place (out-Node l.node).subs));
}
