use Rattle.std.proofs.Common.{◌≡◌, ◌<◌, ◌+◌, ℕ, suc, length, sym, ap, subst, ◌∙◌, arith, vec_items}
use Rattle.std.proofs.lemmas.List.{length-map}
use Rattle.lowering.specs.Types.{Table, labelled, enter, entry}
use Rattle.lowering.specs.TooMany.{most_types}
use Rattle.type_labels.specs.Keys.{entries_of}
use Rattle.type_labels.proofs.Places.{of, same, tells, at_place, not_there}
use Rattle.type_labels.proofs.table.Table.find.Goals as goal

pub returns-in-Some-clause-ok : goal.returns-in-Some-clause-ok
returns-in-Some-clause-ok c =
    let v = c.args.key.now in
    let e = entry v.0 v.1 v.2 v.3.items in
    let ks = c.self.inside.entries.keys in
    let made = at_place vec_items (same vec_items v) e (tells vec_items v) ks c.in-Some.place c.in-Some.ensures.index in
    let next : suc c.in-Some.place ≡ c.in-Some.place + 1 = omega arith in
    ap (enter e) (sym c.self.view_is) ∙ made ∙ ap (λ (n : ℕ). labelled n (entries_of vec_items ks)) next ∙ ap (labelled (c.in-Some.place + 1)) c.self.view_is

pub returns-in-None-clause-too_many : goal.returns-in-None-clause-too_many
returns-in-None-clause-too_many c =
    let v = c.args.key.now in
    let e = entry v.0 v.1 v.2 v.3.items in
    let ks = c.self.inside.entries.keys in
    let made = not_there vec_items (same vec_items v) e (tells vec_items v) ks c.in-None.ensures.index in
    let long : length (entries_of vec_items ks) ≡ 65535 = ap length c.self.view_is ∙ c.requires in
    subst (λ (ts : Table). most_types < length (enter e ts).table) c.self.view_is (omega (arith, made, length-map ks (of vec_items), long))
