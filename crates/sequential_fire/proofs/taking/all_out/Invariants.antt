use Rattle.std.proofs.Common.{◌≡◌, ◌++◌, List, map, drop, length}
use Rattle.flow_value.specs.Lent.{operand_value}
use Rattle.graph_meaning.specs.Carried.{Carried}
use Rattle.sequential_fire.specs.Given.{given_from, all_given}
use Rattle.sequential_fire.specs.Outputs.{AreHeld}
use Rattle.sequential_fire.proofs.taking.all_out.Given as goal

abbrev pub invariant-loop-place : goal.invariant-loop-place
invariant-loop-place l =
    record {
      grown : length l.ins.items ≡ l.place;
      end : l.place-end ≡ length l.fn.loaded.items;
      long : length l.loaded.items ≡ length l.fn.loaded.items;
      others : drop l.place l.loaded.items ≡ drop l.place l.fn.loaded.items;
      all : (ks : List Carried) → AreHeld l.fn.loaded.items ks → map operand_value l.ins.items ++ given_from l.place l.row (drop l.place ks) ≡ all_given l.row ks;
    }
