use Rattle.std.proofs.Common.{suc, refl, sym, ap, ap₂, ◌∙◌, arith, vec_items}
use Rattle.lowering.specs.Types.{labelled, enter, entry}
use Rattle.type_labels.specs.Keys.{entries_of}
use Rattle.type_labels.proofs.Places.{same, tells, entered}
use Rattle.type_labels.proofs.table.Table.insert.Goals as goal

pub returns-clause-ok : goal.returns-clause-ok
returns-clause-ok c =
    let v = c.args.key in
    let e = entry v.0 v.1 v.2 v.3.items in
    let ks = c.self.inside.entries.keys in
    let made = entered vec_items (same vec_items v) e (tells vec_items v) ks v refl in
    ap (enter e) (sym c.self.view_is) ∙ made
    ∙ ap₂ (λ n l. labelled n (entries_of vec_items l)) (ap suc (sym c.in_ok-place.ensures.index) ∙ omega arith) (sym c.in_ok-place.ensures.keys)
