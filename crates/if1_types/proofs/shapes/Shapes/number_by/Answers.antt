use Rattle.std.proofs.Common.{◌≡◌, ◌∙◌, sym, ap, subst, suc, ◌≤◌, length, ◌++◌, ◌∷◌, [], position, arith}
use Rattle.std.specs.Map.{keys_of}
use Rattle.std.proofs.lemmas.List.{length-append, length-map}
use Rattle.if1_types.specs.Shapes.{key_eq, tree_at, key_tree, trees_in, members_in, IsKept, IsLater, Stands}
use Rattle.if1_types.proofs.Keeping.{stands_found, stands_last, later_one, IsAdded, added, added_counted}
use Rattle.if1_types.proofs.shapes.Shapes.number_by.Goals as goal

pub number_after-found-requires : goal.number_after-found-requires
number_after-found-requires c =
    let kept : IsKept c.args.self.now (trees_in c.args.self.now) = subst (λ ks. IsKept ks (trees_in ks)) c.self.view_is c.self.invariant.kept in
    let s = stands_found c.args.self.now (trees_in c.args.self.now) (c.args.kind, c.args.first, c.args.second) c.in-Some.place kept (c.in-Some.ensures.index ∙ ap (λ ks. position (key_eq (c.args.kind, c.args.first, c.args.second)) ks) c.self.view_is) in
    omega (arith, s.within, c.requires.room)

pub number_after-number-requires : goal.number_after-number-requires
number_after-number-requires c =
    omega (arith, c.requires.room, c.len.ensures.len, length-map c.self.inside.keys.entries (λ e. e.0), c.self.invariant.kept.count, ap length (ap trees_in c.self.view_is))

pub returns-in-Some-clause-number : goal.returns-in-Some-clause-number
returns-in-Some-clause-number c =
    let kept : IsKept c.args.self.now (trees_in c.args.self.now) = subst (λ ks. IsKept ks (trees_in ks)) c.self.view_is c.self.invariant.kept in
    let s = stands_found c.args.self.now (trees_in c.args.self.now) (c.args.kind, c.args.first, c.args.second) c.in-Some.place kept (c.in-Some.ensures.index ∙ ap (λ ks. position (key_eq (c.args.kind, c.args.first, c.args.second)) ks) c.self.view_is) in
    subst (λ n. Stands (trees_in c.args.self.now) n (key_tree (trees_in c.args.self.now) (c.args.kind, c.args.first, c.args.second))) (sym c.number_after-found.ensures) s

more : (c : goal.In_ok-insert) → IsAdded c.self.inside.keys.entries c.insert.new.self.entries (c.args.kind, c.args.first, c.args.second)
more c =
    let same = ap trees_in c.self.view_is in
    added c.self.inside.keys.entries c.insert.new.self.entries (c.args.kind, c.args.first, c.args.second) _ c.self.invariant.kept
    (subst (λ ts. c.args.first ≤ length ts) (sym same) c.requires.first)
    (subst (λ ts. c.args.second ≤ length ts) (sym same) c.requires.second)
    (sym c.in_default.ensures.index) c.in_ok-insert.ensures.entries

pub invariant_of-self-2 : goal.invariant_of-self-2
invariant_of-self-2 c = record {
  kept = (more c).kept;
  counted =
      added_counted c.self.inside.keys.entries c.insert.new.self.entries (c.args.kind, c.args.first, c.args.second) c.members_over-members.result c.self.invariant (more c)
      (sym c.in_default.ensures.index) c.in_ok-insert.ensures.entries
      (c.members_over-members.ensures (tree_at (trees_in c.args.self.now) c.args.first) ∙ sym (ap (λ ts. members_in (key_tree ts (c.args.kind, c.args.first, c.args.second))) (ap trees_in c.self.view_is)));
}

pub returns-clause-number : goal.returns-clause-number
returns-clause-number c =
    let same = ap trees_in c.self.view_is in
    let ts = trees_in c.args.self.now in
    let t = key_tree ts (c.args.kind, c.args.first, c.args.second) in
    let number : c.number_after-number.result ≡ suc (length ts) =
    c.number_after-number.ensures ∙ ap suc (c.len.ensures.len ∙ sym (length-map c.self.inside.keys.entries (λ e. e.0)) ∙ sym c.self.invariant.kept.count ∙ ap length same) in
    let trees : trees_in (keys_of c.insert.new.self.entries) ≡ ts ++ t ∷ [] =
    (more c).trees ∙ ap (λ ts. ts ++ key_tree ts (c.args.kind, c.args.first, c.args.second) ∷ []) same in
    subst (λ n. Stands (trees_in (keys_of c.insert.new.self.entries)) n t) (sym number) (subst (λ us. Stands us (suc (length ts)) t) (sym trees) (stands_last ts t))

pub returns-clause-later : goal.returns-clause-later
returns-clause-later c =
    let same = ap trees_in c.self.view_is in
    let ts = trees_in c.args.self.now in
    let t = key_tree ts (c.args.kind, c.args.first, c.args.second) in
    let trees : trees_in (keys_of c.insert.new.self.entries) ≡ ts ++ t ∷ [] =
    (more c).trees ∙ ap (λ ts. ts ++ key_tree ts (c.args.kind, c.args.first, c.args.second) ∷ []) same in
    subst (IsLater ts) (sym trees) (later_one ts t)

pub returns-clause-grows : goal.returns-clause-grows
returns-clause-grows c =
    let same = ap trees_in c.self.view_is in
    let ts = trees_in c.args.self.now in
    let t = key_tree ts (c.args.kind, c.args.first, c.args.second) in
    let trees : trees_in (keys_of c.insert.new.self.entries) ≡ ts ++ t ∷ [] =
    (more c).trees ∙ ap (λ ts. ts ++ key_tree ts (c.args.kind, c.args.first, c.args.second) ∷ []) same in
    omega (arith, ap length trees, length-append ts (t ∷ []))
