-- Runs of the code that is made of a unit are decided.
use Rattle.std.proofs.Common.{inl, refl}
use Rattle.if1_marks.proofs.Taken.{sound-in-order}
use Rattle.graph_meaning.specs.StorageUnits.{storage_of}
use Rattle.seen_store.proofs.Made.{seen-decided}
use Rattle.unit_plan.proofs.Right.{plans-right}
use Rattle.unit_plan.proofs.Weights.{picks-marked, plans-decided, weights-alike, writes-recorded}
use Rattle.unit_plan.specs.Plans.{functions_of, levels_of, plan_of}
use Rattle.unit_plan.specs.Shares.{shares_of, weighing}
use Rattle.plan_shares.proofs.Right.{shares-right}
use Rattle.plan_shares.specs.Runs.{AreUnitPlansMarked, AreUnitRunsDecided, AreUnitSeenRunsDecided, AreUnitWritesRecorded}

pub plans-marked : AreUnitPlansMarked
plans-marked u order t ready sound along tables =
    record { right = plans-right u order t ready sound along tables; shared = shares-right u order t ready sound along; picks = λ g v. picks-marked (storage_of u) g v v.kind; as_many = λ g. inl refl }

pub runs-decided : AreUnitRunsDecided
runs-decided u order t limit ready sound along tables f ins in_f as_many = plans-decided u order t limit ready sound along tables (shares-right u order t ready sound along) f ins in_f as_many

pub writes-of-units : AreUnitWritesRecorded
writes-of-units u order t limit ready sound along tables f ins rs c copies sum in_f as_many ends =
    writes-recorded u order t limit ready sound along tables (shares-right u order t ready sound along) f ins rs c copies sum in_f as_many ends

pub runs-seen : AreUnitSeenRunsDecided
runs-seen u order t limit seen hidden facts ready sound along tables made f ins in_f as_many =
    seen-decided u (plan_of u order t) (shares_of u order) (weighing u order t) order (functions_of u) (levels_of u) limit seen hidden facts ready sound along
    (plans-right u order t ready sound along tables) (shares-right u order t ready sound along) (weights-alike u order t ready (sound-in-order u sound)) made f ins in_f as_many
