-- Every graph of a ready unit has one end.
use Rattle.graph_meaning.specs.Laws.{HaveUnitsOneEnd}
use Rattle.graph_meaning.specs.Networks.{network}
use Rattle.graph_meaning.proofs.Theorems.{meant-where-costed, runs-confluent, runs-never-stuck}
use Rattle.graph_meaning.proofs.Units.{units-orderly}

pub units-one-end : HaveUnitsOneEnd
units-one-end cut u g ins limit is_cut ready orders =
    let orderly = units-orderly u ready orders in
    record {
      meant = λ c n e. meant-where-costed cut (network u) g ins c n is_cut orderly e;
      confluent = runs-confluent cut (network u) g ins limit is_cut orderly;
      never_stuck = runs-never-stuck cut (network u) g ins limit is_cut orderly;
    }
