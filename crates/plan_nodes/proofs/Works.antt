-- What Calls and compound nodes do.
use Rattle.std.proofs.Common.{◌≡◌, Some, None}
use Rattle.plan_data.specs.declared.plan.Work.{Work}
use Rattle.plan_data.specs.declared.plan.Work.TheVariants as work
use Rattle.plan_data.specs.Parts.{IsWhole}
use Rattle.node_works.specs.Tasks.{IsCallOrWhole}
use Rattle.plan_nodes.specs.Nodes.{callee_in}

-- what calls nothing is a compound node
pub whole-if : (y : Work) → IsCallOrWhole y → callee_in y ≡ None → IsWhole y
whole-if (work.Plain row shape writes copies) c e = absurd c
whole-if (work.Call f) c e = absurd (let x : Some f ≡ None = e in cc)
whole-if (work.Select a gs) c e = tt
whole-if (work.TagCase gs) c e = tt
whole-if (work.LoopA a) c e = tt
whole-if (work.LoopB a) c e = tt
whole-if (work.ForAll a b d m) c e = tt
