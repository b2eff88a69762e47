use Rattle.if1_components.proofs.Toured.{popped-in}
use Rattle.if1_components.proofs.tour.popped.Goals as goal

pub returns-clause-tour : goal.returns-clause-tour
returns-clause-tour c =
    record {
      met = c.requires.met;
      next = c.requires.next;
      path = (popped-in c.args.places c.args.tour.now.path c.pop.new.self c.pop.result c.requires.path c.pop.ensures).0;
      order = c.requires.order;
    }

pub returns-clause-there : goal.returns-clause-there
returns-clause-there c = (popped-in c.args.places c.args.tour.now.path c.pop.new.self c.pop.result c.requires.path c.pop.ensures).1
