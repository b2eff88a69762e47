use Rattle.std.proofs.Common.{subst, sym, length, MatchOption}
use Rattle.if1_order.specs.Walks.{Leads}
use Rattle.if1_reach.specs.Searches.{IsWay}
use Rattle.if1_reach.proofs.Labelled.{no-start, no-end, no-path, path-of, all-inside}
use Rattle.if1_reach.proofs.paths.path_by.Goals as goal

pub returns-in_default : goal.returns-in_default
returns-in_default c = λ links w linked. no-start c.args.labels.now c.args.lists.now links c.requires.rising w linked c.args.from c.args.to c.in_default.ensures

pub returns-in_default-place_of : goal.returns-in_default-place_of
returns-in_default-place_of c = λ links w linked. no-end c.args.labels.now c.args.lists.now links c.requires.rising w linked c.args.from c.args.to c.in_default-place_of.ensures

pub labelled-requires : goal.labelled-requires
labelled-requires c =
    all-inside c.args.lists.now (length c.args.labels.now) c.in-Some.source c.in-Some-place_of.target c.in-Some-2.places c.as_slice.result.now c.requires.inside c.requires.fit c.in-Some-place_of.ensures.0
    (subst (λ o. MatchOption o (¬ Leads c.args.lists.now c.in-Some.source c.in-Some-place_of.target) (IsWay c.args.lists.now c.in-Some.source c.in-Some-place_of.target)) c.in-Some-2.is c.in_ok-places.ensures)
    c.as_slice.ensures

pub returns-in_ok-found-in-Some-2 : goal.returns-in_ok-found-in-Some-2
returns-in_ok-found-in-Some-2 c = λ links w linked.
    path-of c.args.labels.now c.args.lists.now links w c.args.from c.args.to c.in-Some.source c.in-Some-place_of.target c.in-Some.ensures c.in-Some-place_of.ensures c.as_slice.result.now c.in_ok-found-in-Some-2.found
    (subst (IsWay c.args.lists.now c.in-Some.source c.in-Some-place_of.target) (sym c.as_slice.ensures)
    (subst (λ o. MatchOption o (¬ Leads c.args.lists.now c.in-Some.source c.in-Some-place_of.target) (IsWay c.args.lists.now c.in-Some.source c.in-Some-place_of.target)) c.in-Some-2.is c.in_ok-places.ensures))
    c.in_ok-found-in-Some-2.ensures

pub returns-in-None : goal.returns-in-None
returns-in-None c = λ links w linked.
    no-path c.args.labels.now c.args.lists.now links c.requires.rising w linked c.args.from c.args.to c.in-Some.source c.in-Some-place_of.target c.in-Some.ensures c.in-Some-place_of.ensures
    (subst (λ o. MatchOption o (¬ Leads c.args.lists.now c.in-Some.source c.in-Some-place_of.target) (IsWay c.args.lists.now c.in-Some.source c.in-Some-place_of.target)) c.in-None.is c.in_ok-places.ensures)
