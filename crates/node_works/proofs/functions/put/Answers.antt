use Rattle.std.proofs.Common.{◌≡◌, ◌∙◌, sym, ap, subst, bytes_eq, if◌then◌else◌, Some, None}
use Rattle.std.specs.Map.{lookup}
use Rattle.indexmap.specs.IndexMap.{get_by}
use Rattle.indexmap.proofs.CallerLemmas.{insert_entry-new}
use Rattle.if1_graph.specs.Tables.{or_else}
use Rattle.if1_ports.proofs.Tables.{lookup_push, same_bytes, not_there}
use Rattle.node_works.proofs.functions.put.Goals as goal

pub returns : goal.returns
returns c =
    let key = c.in_ok-from_slice.field-0 in
    let old = c.args.functions.now in
    let none : get_by (λ k. bytes_eq c.args.name.now k.items) old ≡ None = not_there _ (sym c.contains_key.ensures ∙ c.if-contains_key.false) in
    let absent : get_by (λ k. bytes_eq key.items k.items) old ≡ None =
    subst (λ n. get_by (λ k. bytes_eq n k.items) old ≡ None) (sym c.in_ok-from_slice.ensures.items) none in
    λ text.
    ap (lookup (λ k. bytes_eq text k.items)) (c.in_ok-insert.ensures.entries ∙ insert_entry-new (λ a b. bytes_eq a.items b.items) old key c.args.callee absent)
    ∙ lookup_push (λ k. bytes_eq text k.items) old.entries key c.args.callee
    ∙ ap (λ b. or_else (get_by (λ k. bytes_eq text k.items) old) (if b then Some c.args.callee else None))
    (same_bytes text key.items ∙ ap (λ n. bytes_eq n text) c.in_ok-from_slice.ensures.items)
