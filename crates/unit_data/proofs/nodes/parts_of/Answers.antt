use Rattle.std.proofs.Common.{◌&&◌, Bool, List, slice_index, sym, ap, subst}
use Rattle.graph_meaning.specs.StorageUnits.{storage_of}
use Rattle.output_marks.specs.Flags.{AreFlags}
use Rattle.plan_nodes.specs.declared.parts.NodeParts.{NodeParts}
use Rattle.unit_data.proofs.Known.{IsFound, node-known}
use Rattle.unit_data.proofs.nodes.parts_of.Goals as goal

pub ports_of-requires-clause-place : goal.ports_of-requires-clause-place
ports_of-requires-clause-place c = let h = c.requires.here in (h.0, h.1, h.2, (c.requires.known h.0 h.1 h.2).own)

pub ports_of-requires-clause-flags : goal.ports_of-requires-clause-flags
ports_of-requires-clause-flags c =
    let u = c.args.unit.now in
    subst (λ (rows : List (List Bool)). AreFlags u (storage_of u).is_aggregate rows) (sym c.as_slice-3.ensures.value) c.requires.facts.aggregates

pub ports_of-requires-clause-consumers : goal.ports_of-requires-clause-consumers
ports_of-requires-clause-consumers c =
    let u = c.args.unit.now in
    subst (λ (rows : List (List Bool)). AreFlags u (λ k l port. (storage_of u).is_aggregate k l port && (storage_of u).is_given k l port) rows) (sym c.as_slice-4.ensures.value) c.requires.facts.consumed

pub returns-clause-parts : goal.returns-clause-parts
returns-clause-parts c = λ D os t p n on begun place same ordered at.
    let u = c.args.unit.now in
    let g = c.args.graph.now in
    let K = c.args.known.now in
    let k = c.args.place in
    let l = c.label_at-label.result in
    let x : NodeParts =
    record { task = c.in_ok-task.task; width = slice_index c.as_slice-2.result.now k; ports = c.in_ok-ports.ports; joined = c.has-joined.result; marks = c.in_ok-first.first } in
    let found : IsFound D u g K c.ports_of.new.literals k l x =
    record {
      label = c.label_at-label.ensures;
      kind = λ m e. c.in_ok-task.ensures.kind m e;
      width = ap (λ ws. slice_index ws k) c.as_slice-2.ensures;
      filled = λ P S begun has laid. c.in_ok-ports.ensures.filled D P S begun has laid;
      told = c.in_ok-ports.ensures.told;
      joined = c.has-joined.ensures;
      marked = λ q m place same inside is kind. c.in_ok-first.ensures.told D q m on.marks place same inside is kind;
    } in
    node-known D u c.unit-whole.ensures.ready os t p place K (c.requires.known p place same) ordered c.ports_of.new.literals on.literals begun k l x n at g same found
