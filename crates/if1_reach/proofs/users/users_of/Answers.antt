use Rattle.std.proofs.Common.{◌≡◌, ◌∙◌, sym, ap, subst, Some, [], length, slice_index_or, ◌<◌}
use Rattle.if1_reach.specs.Users.{users_in, group_users, group_at}
use Rattle.if1_reach.proofs.users.users_of.Goals as goal

pub list_at-requires : goal.list_at-requires
list_at-requires c =
    subst (λ xs. c.in-Some.group.now < length xs) (sym c.as_slice.ensures.value) (c.requires.there c.in-Port.node c.in-Port.port c.in-Some.group.now (sym c.in-Some.ensures.value))

pub returns-in-Some : goal.returns-in-Some
returns-in-Some c = λ es has.
    let e : group_at c.args.users.now c.in-Port.node c.in-Port.port ≡ Some c.in-Some.group.now = sym c.in-Some.ensures.value in
    c.list_at.ensures
    ∙ (ap (λ xs. slice_index_or xs c.in-Some.group.now []) c.as_slice.ensures.value
    ∙ (sym (ap (group_users c.args.users.now.lists.items) e)
    ∙ (has.are c.in-Port.node c.in-Port.port ∙ ap (users_in es) (sym c.in-Port.is))))

pub returns-in-None : goal.returns-in-None
returns-in-None c = λ es has.
    sym (ap (group_users c.args.users.now.lists.items) (sym c.in-None.ensures.value)) ∙ (has.are c.in-Port.node c.in-Port.port ∙ ap (users_in es) (sym c.in-Port.is))
