use Rattle.std.proofs.Common.{◌≡◌, ◌-◌, ◌≤◌, length}
use Rattle.gapped.specs.Spread.{spread}
use Rattle.plan_data.specs.declared.plan.PlanData.{PlanData}
use Rattle.plan_builder.specs.Feeds.{HasLiterals}
use Rattle.port_feeds.specs.Filled.{ArePorts}
use Rattle.port_feeds.proofs.filled.ports_of.Given as goal

abbrev pub decreases-loop-place : goal.decreases-loop-place
decreases-loop-place l = l.width - l.place

abbrev pub invariant-loop-place : goal.invariant-loop-place
invariant-loop-place l =
    record {
      long : length (spread l.none l.gaps l.ports) ≡ l.place;
      up : l.place ≤ l.width;
      even : length l.gaps ≡ length l.ports;
      kept : (D : PlanData) → HasLiterals l.literals D → HasLiterals l.fn.literals D;
      right : ArePorts l.unit l.graph l.outlets l.literals l.label 1 (spread l.none l.gaps l.ports);
    }
