use Rattle.std.proofs.Common.{◌≡◌, ◌∙◌, ◌==◌, ◌&&◌, ℕ, Bool, List, nat_eq, sym, ap, refl, if◌then◌else◌, Option, Some, None, is_some}
use Rattle.std.specs.Map.{lookup}
use Rattle.indexmap.specs.IndexMap.{get_by}
use Rattle.indexmap.proofs.CallerLemmas.{insert_entry-new}
use Rattle.if1_graph.specs.Tables.{or_else}
use Rattle.if1_ports.proofs.Tables.{lookup_push, not_there}
use Rattle.if1_typing.specs.Tables.{table_of}
use Rattle.if1_typing.specs.Given.{noted_at}
use Rattle.if1_typing.proofs.Noted.{sound_more}
use Rattle.if1_typing.proofs.Seeing.{seen_again, seen_more}
use Rattle.if1_typing.proofs.given.note.Goals as goal

abbrev one : ℕ → ℕ → ℕ → Bool → ℕ → ℕ → Option (ℕ × Bool)
one node port n gives l p = if (l == node) && (p == port) then Some (n, gives) else None

-- what the new map has noted
each : (c : goal.In_ok-insert) (l p : ℕ) → noted_at c.insert.new.self l p ≡ or_else (noted_at c.args.map.now l p) (one c.args.node c.args.port c.args.number c.node_gives-gives.result l p)
each c l p =
    let node = c.args.node in
    let port = c.args.port in
    let n = c.args.number in
    let gives = c.node_gives-gives.result in
    let old = c.args.map.now in
    let none : get_by (λ k. nat_eq node k.0 && nat_eq port k.1) old ≡ None = not_there _ (sym c.contains_key.ensures ∙ c.if-contains_key.false) in
    let entries = c.in_ok-insert.ensures.entries ∙ insert_entry-new (λ a b. nat_eq a.0 b.0 && nat_eq a.1 b.1) old (node, port) (n, gives) none in
    ap (lookup (λ k. nat_eq l k.0 && nat_eq p k.1)) entries ∙ lookup_push (λ k. nat_eq l k.0 && nat_eq p k.1) old.entries (node, port) (n, gives)

pub returns-clause-sound : goal.returns-clause-sound
returns-clause-sound c =
    sound_more (table_of c.args.known.now) c.args.graph.now c.args.map.now c.insert.new.self c.args.node c.args.port c.args.number c.node_gives-gives.result c.requires.sound
    c.node_gives-gives.ensures (each c)

pub returns-clause-seen : goal.returns-clause-seen
returns-clause-seen c = λ es e from is seen.
    seen_more (table_of c.args.known.now) es e c.args.map.now c.args.node c.args.port from c.insert.new.self c.args.number c.node_gives-gives.result is seen (each c)

pub returns-then-contains_key-clause-seen : goal.returns-then-contains_key-clause-seen
returns-then-contains_key-clause-seen c = λ es e from is seen.
    seen_again (table_of c.args.known.now) es e c.args.map.now c.args.node c.args.port from (sym c.contains_key.ensures ∙ c.if-contains_key.true) seen
