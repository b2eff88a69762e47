use Rattle.std.proofs.Common.{◌≡◌, ◌∙◌, ◌&&◌, ℕ, nat_eq, sym, ap, refl, Some, None, List, [], ◌∷◌, ◌++◌, length}
use Rattle.std.specs.Option.{option_copied}
use Rattle.std.specs.Map.{lookup}
use Rattle.indexmap.specs.IndexMap.{get_by}
use Rattle.indexmap.proofs.CallerLemmas.{insert_entry-new}
use Rattle.if1_reach.proofs.Noted.{lookup-push, group-begun}
use Rattle.if1_reach.proofs.users.group_of.Goals as goal

pub returns-in-Some : goal.returns-in-Some
returns-in-Some c =
    let e : get_by (λ k. nat_eq c.args.node k.0 && nat_eq c.args.port k.1) c.args.users.now.groups ≡ Some c.in-Some.group.now = sym c.in-Some.ensures.value in
    (c.requires, e, c.requires.there c.args.node c.args.port c.in-Some.group.now e, λ l p. refl)

pub returns : goal.returns
returns c =
    let node = c.args.node in
    let port = c.args.port in
    let old = c.args.users.now.groups in
    let none : get_by (λ k. nat_eq node k.0 && nat_eq port k.1) old ≡ None = sym c.get.ensures.value ∙ ap option_copied c.in_default.is in
    let entries = c.in_ok-insert.ensures.entries ∙ insert_entry-new (λ a b. nat_eq a.0 b.0 && nat_eq a.1 b.1) old (node, port) (length c.as_slice-group.result.now) none in
    group-begun c.args.users.now (record { groups = c.insert.new.self; lists = c.push.new.self }) node port (length c.as_slice-group.result.now) c.requires none
    (ap length c.as_slice-group.ensures.value) (c.in_ok-push.ensures.items ∙ ap (λ (x : List ℕ). c.args.users.now.lists.items ++ x ∷ []) c.new.ensures)
    (λ l p. ap (lookup (λ k. nat_eq l k.0 && nat_eq p k.1)) entries ∙ lookup-push (λ k. nat_eq l k.0 && nat_eq p k.1) old.entries (node, port) (length c.as_slice-group.result.now))
