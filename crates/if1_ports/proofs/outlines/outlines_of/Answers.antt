use Rattle.std.proofs.Common.{◌∙◌, ℕ, List, Option, map, ap}
use Rattle.std.proofs.lemmas.List.{take_all}
use Rattle.if1_graph.specs.declared.graph.TypeEntry.{TypeEntry}
use Rattle.if1_graph.specs.Kinds.{kind_at}
use Rattle.if1_graph.specs.Tables.{◌>>=◌}
use Rattle.if1_graph.specs.Types.{sort_at, sort_of}
use Rattle.if1_ports.specs.declared.outline.Outline.{Outline}
use Rattle.if1_ports.specs.Outlines.{outline_at, outline_of}
use Rattle.if1_ports.proofs.Tables.{outline_rows}
use Rattle.if1_ports.proofs.outlines.outlines_of.Goals as goal

pub returns : goal.returns
returns c = λ l.
    let ts = c.args.types.now in
    let f = λ (l : ℕ). outline_of (sort_at ts l) in
    let whole = take_all c.loop-entry.entry-index ts c.loop-entry-test.false in
    ap (λ (ls : List ℕ). outline_at ls c.loop-entry.rows l) (c.loop-entry.invariant.0 ∙ ap (map (λ (e : TypeEntry). e.label)) whole)
    ∙ ap (λ (os : List Outline). outline_at (map (λ (e : TypeEntry). e.label) ts) os l) (c.loop-entry.invariant.1 ∙ ap (map (λ (e : TypeEntry). f e.label)) whole)
    ∙ outline_rows f l ts (λ e. ap (λ (m : Option TypeEntry). outline_of (m >>= λ e. sort_of ts l e (kind_at e.code))) e)
