use Rattle.std.proofs.Common.{◌≡◌, ◌∙◌, ◌∷◌, [], List, drop, ap, sym, append-nil}
use Rattle.std.proofs.lemmas.List.{take_rest}
use Rattle.std.proofs.lemmas.Result.{on_ok_weaker}
use Rattle.lowering.specs.declared.feed.Wire.{Wire}
use Rattle.lowering.specs.Feeds.{outside, outsides, distinct}
use Rattle.lowered_data.specs.Parts.{union_last}
use Rattle.lowered_data.proofs.Lists.{first_of, uses_append}
use Rattle.lowered_data.proofs.keys.Keys.add_union_last.Goals as goal

pub returns-in_ok-add_all-in-len1-up : goal.returns-in_ok-add_all-in-len1-up
returns-in_ok-add_all-in-len1-up c =
    let ks = c.args.self.now in
    let ws = c.args.wires.now in
    let u = c.union-item.result in
    let rest = drop 1 ws in
    let split : ws ≡ u ∷ rest = first_of ws u c.in-len1-up.len_at_least c.union-item.is in
    let added : c.add_all.new.self ≡ distinct ks (outsides rest) = c.in_ok-add_all-in-len1-up.ensures ∙ ap (λ (us : List Wire). distinct ks (outsides us)) (take_rest ws 1) in
    let one : distinct c.add_all.new.self (outside u.ty u.feed) ≡ distinct c.add_all.new.self (outsides (u ∷ [])) = ap (distinct c.add_all.new.self) (sym (append-nil (outside u.ty u.feed))) in
    on_ok_weaker c.add_outside.result
    (λ e. e ∙ one ∙ ap (λ (k : List Wire). distinct k (outsides (u ∷ []))) added ∙ sym (uses_append ks rest (u ∷ [])) ∙ ap (λ (us : List Wire). distinct ks (outsides (union_last us))) (sym split))
    c.add_outside.ensures
