use Rattle.std.proofs.Common.{inr, sym, subst}
use Rattle.std.proofs.lemmas.Result.{on_ok_weaker}
use Rattle.type_rules.specs.Folds.{IsUnmade}
use Rattle.typing_laws.proofs.Used.{made_used}
use Rattle.breaking_laws.specs.Parts.{BrokenMade}
use Rattle.breaking_laws.proofs.PMade.{unmade_refused, deep_refused}
use Rattle.sisal_check.proofs.Looped.{unmade_by, deep_by}
use Rattle.sisal_check.proofs.Forms.{faults_weaker}
use Rattle.sisal_check.proofs.clauses.fold.Goals as goal

pub returns-in_ok-keep-in-Ok-clause-used : goal.returns-in_ok-keep-in-Ok-clause-used
returns-in_ok-keep-in-Ok-clause-used c = λ g. made_used g c.args.walk.now.types c.clause.new.types _ _ c.args.value c.in-Ok.kept c.in-Ok.ensures.made

pub returns-in-Err-clause-breaks : goal.returns-in-Err-clause-breaks
returns-in-Err-clause-breaks c =
    faults_weaker c.refuse.result _ _ (λ rule line q. λ g groups from. unmade_by g c.args.walk.now.types groups from c.args.c.now c.args.value c.in-Err.refused rule line c.holds.ensures c.in-Err.ensures.refused q) c.refuse.ensures.breaks

pub returns-in-Err-clause-deep : goal.returns-in-Err-clause-deep
returns-in-Err-clause-deep c =
    on_ok_weaker c.refuse.result (λ q. λ is. inr (λ g groups from. deep_by g c.args.walk.now.types groups from c.args.c.now c.args.value c.in-Err.refused c.holds.ensures c.in-Err.ensures.refused q.0)) c.refuse.ensures.deep
