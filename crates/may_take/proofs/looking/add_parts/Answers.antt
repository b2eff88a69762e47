use Rattle.std.proofs.Common.{◌≡◌, ◌∙◌, ◌<◌, ◌≤◌, ◌&&◌, ◌++◌, ◌∷◌, List, drop, get_or, length, map, sym, ap, subst}
use Rattle.std.proofs.lemmas.List.{take_all}
use Rattle.std.specs.Vec.Iter.{into_iter_items}
use Rattle.if1_graph.specs.declared.graph.Graph.{Graph}
use Rattle.if1_graph.specs.declared.graph.Graph.TheViews.{out-Graph}
use Rattle.if1_graph.specs.declared.graph.Node.{out-Node}
use Rattle.if1_graph.specs.Units.{Inside, each_from, places_of}
use Rattle.if1_order.specs.Within.{whole}
use Rattle.if1_marks.specs.Given.{is_consuming}
use Rattle.if1_marks.specs.Owned.{users}
use Rattle.may_take.specs.Owned.{is_owned_at}
use Rattle.may_take.specs.Looked.{flags_by, is_asked, IsLooked}
use Rattle.may_take.proofs.Steps.{here, part-at, less-left, part-more}
use Rattle.may_take.proofs.looking.add_parts.Goals as goal

pub add_part-requires-clause-laid : goal.add_part-requires-clause-laid
add_part-requires-clause-laid c =
    let s = c.part_graph-item.result in
    c.requires.laid s (here c.as_slice-part_graph-items.result.now (out-Node c.args.node.now).subs c.loop-place.place s c.as_slice-part_graph-items.ensures c.loop-place-test.true c.part_graph-item.is) s whole

pub add_part-requires-clause-fit : goal.add_part-requires-clause-fit
add_part-requires-clause-fit c =
    let subs = (out-Node c.args.node.now).subs in
    let s = c.part_graph-item.result in
    (part-at c.args.unit.now c.args.functions.now subs c.args.parts.items c.loop-place.place s c.in-Some.part (into_iter_items c.next.new.self) c.requires.looked
    (sym c.loop-place.invariant.left ∙ c.in-Some.ensures.items)
    (subst (λ gs. c.loop-place.place < length gs) c.as_slice-part_graph-items.ensures c.loop-place-test.true)
    (c.part_graph-item.is ∙ ap (λ (gs : List Graph). get_or gs c.loop-place.place s) c.as_slice-part_graph-items.ensures)).fit

pub loop-place-preserved : goal.loop-place-preserved
loop-place-preserved c =
    let u = c.args.unit.now in
    let f = c.args.functions.now in
    let g = c.args.graph.now in
    let n = c.args.node.now in
    let s = c.part_graph-item.result in
    let k = c.loop-place.place in
    let r = c.in-Some.part in
    let d : drop k c.args.parts.items ≡ r ∷ into_iter_items c.next.new.self = sym c.loop-place.invariant.left ∙ c.in-Some.ensures.items in
    let lt : k < length (out-Node n).subs = subst (λ gs. k < length gs) c.as_slice-part_graph-items.ensures c.loop-place-test.true in
    let at : s ≡ get_or (out-Node n).subs k s = c.part_graph-item.is ∙ ap (λ (gs : List Graph). get_or gs k s) c.as_slice-part_graph-items.ensures in
    let seen : IsLooked u f s r = part-at u f (out-Node n).subs c.args.parts.items k s r (into_iter_items c.next.new.self) c.requires.looked d lt at in
    record {
      left = less-left c.args.parts.items k r (into_iter_items c.next.new.self) d;
      inside = λ tells asks more deep.
          part-more u f g n c.args.parts.items c.requires.looked c.args.how.now c.requires.how tells asks more k s r
          lt at deep seen
          c.args.inside.now.items c.loop-place.inside.items c.add_part.new.inside.items (c.loop-place.invariant.inside tells asks more deep)
          (subst (λ st. c.add_part.new.inside.items ≡ c.loop-place.inside.items ++ (map (λ e. is_asked f.asked (is_consuming u s e) && is_owned_at st s (users s e.from) e.from) (out-Graph s).edges ∷ r.inside.items)) c.site_of-site.ensures
          (c.in_ok-add_part.ensures (is_consuming u s) (seen.consuming tells)));
    }

pub returns : goal.returns
returns c = λ tells asks more deep.
    let u = c.args.unit.now in
    let g = c.args.graph.now in
    let n = c.args.node.now in
    c.loop-place.invariant.inside tells asks more deep
    ∙ ap (λ gs. c.args.inside.now.items ++ map (flags_by c.args.functions.now.asked u) (each_from (λ k s. places_of more (Inside g n k) s) 0 gs))
    (take_all c.loop-place.place (out-Node n).subs (subst (λ gs. length gs ≤ c.loop-place.place) c.as_slice-part_graph-items.ensures c.loop-place-test.false))
