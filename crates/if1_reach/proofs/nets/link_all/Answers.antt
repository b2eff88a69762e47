use Rattle.std.proofs.Common.{◌+◌, take, subst, refl, ◌∙◌}
use Rattle.std.proofs.lemmas.List.{take_more, take_all}
use Rattle.marks_made.specs.Ways.{Links}
use Rattle.if1_reach.specs.Nets.{IsNet, with_links}
use Rattle.if1_reach.proofs.Links.{links-start, links-next, joined-fit}
use Rattle.if1_reach.proofs.nets.link_all.Goals as goal

pub loop-label-init : goal.loop-label-init
loop-label-init c = record { net = links-start c.args.labels.now c.args.lists.now.items c.args.to (take 0 c.args.from.now) refl; fit = c.requires.fit }

pub loop-label-preserved : goal.loop-label-preserved
loop-label-preserved c =
    record {
      net = links-next c.args.labels.now c.requires.rising c.args.lists.now.items c.loop-label.lists.items c.join.new.lists.items c.args.to _ (take c.loop-label.label-index c.args.from.now) (take (c.loop-label.label-index + 1) c.args.from.now)
          c.in_ok-join.ensures (take_more c.args.from.now c.loop-label.label-index 0 c.loop-label-test.true) c.loop-label.invariant.net;
      fit = joined-fit c.args.labels.now _ c.args.to c.loop-label.lists.items c.join.new.lists.items c.in_ok-join.ensures ∙ c.loop-label.invariant.fit;
    }

pub returns-clause-net : goal.returns-clause-net
returns-clause-net c =
    subst (λ ks. (links : Links) → IsNet c.args.labels.now c.args.lists.now.items links → IsNet c.args.labels.now c.loop-label.lists.items (with_links links ks c.args.to))
    (take_all c.loop-label.label-index c.args.from.now c.loop-label-test.false) c.loop-label.invariant.net
