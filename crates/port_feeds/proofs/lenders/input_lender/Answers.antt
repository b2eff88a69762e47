use Rattle.std.proofs.Common.{◌≡◌, ◌∙◌, ◌&&◌, false, [], AllPairs, ap, subst, sym, option_and_then, slice_get, slice_index_or}
use Rattle.std.specs.Option.{option_copied}
use Rattle.if1_graph.specs.declared.graph.Graph.TheViews.{out-Graph}
use Rattle.if1_graph.specs.Units.{edge_into, label_of}
use Rattle.if1_graph.specs.Normal.{Precedes}
use Rattle.port_feeds.specs.Found.{edge_found, if_leading}
use Rattle.port_feeds.specs.Lenders.{aggregate_from, does_own, part_in, unless_owned}
use Rattle.port_feeds.proofs.Lending.{in-order, lends}
use Rattle.port_feeds.proofs.lenders.input_lender.Goals as goal

pub place_of-found-requires : goal.place_of-found-requires
place_of-found-requires c =
    subst (AllPairs Precedes) (sym c.as_slice-edges.ensures) (in-order c.args.unit.now c.unit-whole.ensures.ready.formed c.unit-whole.ensures.normal c.args.outer.now c.args.node.now c.requires.here)

pub returns : goal.returns
returns c = λ g.
    let u = c.args.unit.now in
    let outer = c.args.outer.now in
    let n = c.args.node.now in
    let l = label_of n in
    let port = c.args.port in
    let i = c.place_of-found.result in
    let types = c.as_slice.ensures ∙ ap (λ v. v.types) c.unit-whole.ensures.unit in
    let at : option_and_then (if_leading l port) (slice_get (out-Graph outer).edges i) ≡ edge_into outer l port = subst (λ es. option_and_then (if_leading l port) (slice_get es i) ≡ edge_found es l port) c.as_slice-edges.ensures c.place_of-found.ensures in
    let edge = c.edge_at-edge.ensures ∙ (ap (λ es. option_and_then (if_leading l port) (slice_get es i)) c.as_slice-edges.ensures ∙ at) in
    let found = option_copied c.edge_at-edge.result in
    let lent = c.aggregate_from.ensures ∙ (ap (λ ts. aggregate_from ts found) types ∙ ap (aggregate_from u.types) edge) in
    let flag = slice_index_or (slice_index_or c.args.consumed.now (out-Graph outer).number []) i false in
    let owned = c.both-owned.ensures ∙ (ap (λ b. b && c.flag_at.result) (c.does_own.ensures ∙ ap does_own c.part_in.ensures) ∙ ap (λ b. does_own (part_in n c.args.place) && b) c.flag_at.ensures) in
    c.unless_owned.ensures ∙ (ap (λ b. unless_owned b c.aggregate_from.result) owned ∙ (ap (unless_owned (does_own (part_in n c.args.place) && flag)) lent ∙ lends u c.unit-whole.ensures.ready.formed c.unit-whole.ensures.normal outer n c.requires.here c.args.place port g c.args.consumed.now i c.requires.rows at))
