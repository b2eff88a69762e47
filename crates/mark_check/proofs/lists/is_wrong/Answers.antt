use Rattle.std.proofs.Common.{refl}
use Rattle.mark_check.proofs.Wrong.{wrong-there, wrong-absent}
use Rattle.mark_check.proofs.lists.is_wrong.Goals as goal

pub returns-in-Some : goal.returns-in-Some
returns-in-Some c = λ g w.
    let r = wrong-there g c.args.labels.now c.args.lists.now w c.args.at c.in-Some.place c.args.label c.requires.at c.in-Some.ensures in (
      (λ x. r.0 (c.leads_back.ensures.0 x)),
      (λ x. c.leads_back.ensures.1 (r.1 x)),
    )

pub returns-in-None : goal.returns-in-None
returns-in-None c = λ g w. ((λ x. wrong-absent g c.args.labels.now c.args.lists.now w c.args.at c.args.label c.in-None.ensures), (λ x. refl))
