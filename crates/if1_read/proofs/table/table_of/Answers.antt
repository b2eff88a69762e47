use Rattle.std.proofs.Common.{List, sym, ap, subst, ◌∙◌}
use Rattle.std.specs.List.Sorted.{IsStrictlyIncreasing}
use Rattle.if1_graph.specs.declared.graph.TypeEntry.{TypeEntry}
use Rattle.if1_read.specs.Entries.{entries_of}
use Rattle.if1_read.specs.Marks.{labels_in}
use Rattle.if1_read.specs.Spread.{AreTrue}
use Rattle.if1_read.proofs.Looking.{table_first, table_found}
use Rattle.if1_read.proofs.Truly.{marked_real}
use Rattle.if1_read.proofs.TypeLabels.{table_made}
use Rattle.if1_read.proofs.table.table_of.Goals as goal

pub returns-clause-table : goal.returns-clause-table
returns-clause-table c = λ clean.
    let once = c.in_ok-once.once in
    table_made (record { types = once.types; labels = once.labels; reals = c.in_ok-reals.reals }) (entries_of c.args.entries.items) (entries_of c.sort_by_label.new.entries.items)
    c.in_ok-sort_by_label.ensures.arranged (c.in_ok-once.ensures.all (c.looked_at-first.ensures.clean clean))
    (c.looked_at-first.ensures.types clean c.in_ok-once.ensures.labels c.in_ok-once.ensures.rising)

pub returns-clause-real : goal.returns-clause-real
returns-clause-real c = λ l h.
    let once = c.in_ok-once.once in
    let is = c.as_slice.ensures ∙ (c.in_ok-once.ensures.labels ∙ sym (ap labels_in c.as_slice-2.ensures)) in
    let up = subst IsStrictlyIncreasing (sym c.as_slice.ensures) c.in_ok-once.ensures.rising in
    marked_real once.types c.in_ok-reals.reals (subst (λ (ts : List TypeEntry). AreTrue ts c.in_ok-reals.reals) c.as_slice-2.ensures (c.in_ok-reals.ensures.real is up)) l h

pub returns-clause-first : goal.returns-clause-first
returns-clause-first c =
    table_first c.args.entries.items c.sort_by_label.new.entries.items c.in_ok-sort_by_label.ensures.same c.in_ok-sort_by_label.ensures.rising c.in_ok-once.once.types c.in_ok-once.ensures.types

pub returns-clause-found : goal.returns-clause-found
returns-clause-found c =
    let once = c.in_ok-once.once in
    let es = c.sort_by_label.new.entries.items in
    table_found c.args.entries.items es c.in_ok-sort_by_label.ensures.same c.in_ok-sort_by_label.ensures.rising once.types c.in_ok-once.ensures.types c.args.first once.first c.looked_at-first.result
    c.in_ok-once.ensures.found (c.looked_at-first.ensures.found _ c.in_ok-once.ensures.types c.in_ok-once.ensures.lines c.in_ok-once.ensures.labels c.in_ok-once.ensures.rising)
