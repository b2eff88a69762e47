use Rattle.std.proofs.Common.{◌≡◌, length, take}
use Rattle.marks_made.specs.Ways.{Links}
use Rattle.if1_reach.specs.Nets.{IsNet, with_links}
use Rattle.if1_reach.proofs.nets.link_all.Given as goal

abbrev pub invariant-loop-label : goal.invariant-loop-label
invariant-loop-label l =
    record {
      net : (links : Links) → IsNet l.labels l.fn.lists.items links → IsNet l.labels l.lists.items (with_links links (take l.label-index l.from) l.to);
      fit : length l.lists.items ≡ length l.labels;
    }
