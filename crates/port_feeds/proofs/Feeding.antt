-- What lends an input is the source of the operand at its place.
use Rattle.std.proofs.Common.{◌≡◌, ℕ, Bool, true, false, if◌then◌else◌, Option, Some, None, refl, ap}
use Rattle.if1_graph.specs.declared.graph.Edge.{Edge}
use Rattle.if1_graph.specs.declared.graph.Origin.{Origin}
use Rattle.if1_graph.specs.declared.graph.Origin.TheVariants as origin
use Rattle.if1_graph.specs.declared.graph.Unit1.{Unit1}
use Rattle.if1_graph.specs.declared.row.Want.{Want}
use Rattle.if1_graph.specs.Formed.{want_at}
use Rattle.if1_graph.specs.Units.{Inside, edge_into, label_of}
use Rattle.if1_marks.specs.Aggregates.{is_aggregate}
use Rattle.if1_marks.specs.Owned.{is_owned}
use Rattle.graph_meaning.specs.Demand.{Port as Out}
use Rattle.graph_meaning.specs.Networks.{source_by, source_from}
use Rattle.port_feeds.specs.declared.lenders.Lender.{Lender}
use Rattle.port_feeds.specs.Lenders.{aggregate_from, port_left, unless_owned, DoLendersFeed}

left-from : (u : Unit1) (w : Option Want) (ty : ℕ) (from : Origin) (x : Lender) → port_left from ≡ Some x → source_from u w ty from ≡ Out x.node x.port
left-from u w ty (origin.Port l port) x h =
    let same : (let y : Lender = record { node = l; port = port } in y) ≡ x = cc in
    ap (λ (y : Lender). Out y.node y.port) same
left-from u w ty (origin.Lit text) x h = absurd cc

by-edge : (u : Unit1) (w : Option Want) (o : Option Edge) (x : Lender) → aggregate_from u.types o ≡ Some x → source_by u w o ≡ Out x.node x.port
by-edge u w None x h = absurd cc
by-edge u w (Some e) x h = go (is_aggregate u.types e.ty) h
  where
    go : (a : Bool) → (if a then port_left e.from else None) ≡ Some x → source_from u w e.ty e.from ≡ Out x.node x.port
    go true h = left-from u w e.ty e.from x h
    go false h = absurd cc

lent-only : (b : Bool) (o : Option Lender) (x : Lender) → unless_owned b o ≡ Some x → (b ≡ false) × (o ≡ Some x)
lent-only true o x h = absurd cc
lent-only false o x h = (refl, h)

pub lenders-feed : DoLendersFeed
lenders-feed u outer n k port g x h =
    let parts = lent-only (is_owned u (record { graph = g; home = Inside outer n k }) (origin.Port 0 port)) (aggregate_from u.types (edge_into outer (label_of n) port)) x h in
    record { source = by-edge u (want_at outer (label_of n) port) (edge_into outer (label_of n) port) x parts.1; lent = parts.0 }
