-- Runs of code by the marks of a unit.
use Rattle.graph_meaning.specs.StorageUnits.{storage_of}
use Rattle.made_store.proofs.UnitWeights.{unit-weights}
use Rattle.made_store.proofs.Units.{made-unit-decided}
use Rattle.made_store.specs.Marked.{AreMarkedRunsDecided}
use Rattle.made_store.specs.UnitWeights.{marked_shares}
use Rattle.made_store.specs.Weights.{by_modes}

pub marked-decided : AreMarkedRunsDecided
marked-decided u P more owns has puts order functions n limit ready sound inorder apart plan f ins in_f as_many =
    let S = marked_shares (storage_of u) more owns has puts in
    made-unit-decided u P S (by_modes P S (storage_of u)) order functions n limit ready sound inorder plan.right plan.shared (unit-weights u P more owns has puts apart plan.picks plan.as_many) f ins in_f as_many
