-- The shares of a unit are right.
use Rattle.std.proofs.Common.{refl}
use Rattle.plan_shares.proofs.Clauses.{kinds-shared, read-there, shares-last, shares-owned}
use Rattle.plan_shares.proofs.Graphs.{each-all}
use Rattle.plan_shares.proofs.Owning.{owned-there}
use Rattle.plan_shares.specs.Laws.{AreUnitSharesRight}
use Rattle.unit_plan.specs.Plans.{plan_of}

pub shares-right : AreUnitSharesRight
shares-right u order t ready sound along g =
    record {
      there = (read-there u order t ready along g).0;
      results_there = (read-there u order t ready along g).1;
      last = shares-last u order t ready sound along g;
      owned = (shares-owned u order t ready sound along g).0;
      results_owned = (shares-owned u order t ready sound along g).1;
      has_owned = λ p e. owned-there u order g p e;
      kinds = kinds-shared u order t ready sound along g;
      inputs = each-all _ (λ v ks. refl) ((plan_of u order t).nodes g);
      results = λ ks. refl;
    }
