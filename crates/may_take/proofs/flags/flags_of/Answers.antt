use Rattle.std.proofs.Common.{◌∙◌, ◌≤◌, ◌&&◌, List, [], map, ap, subst, length, if◌then◌else◌}
use Rattle.if1_graph.specs.declared.graph.Edge.{Edge}
use Rattle.if1_graph.specs.declared.graph.Graph.TheViews.{out-Graph}
use Rattle.std.proofs.lemmas.List.{take_all}
use Rattle.if1_marks.specs.Owned.{users}
use Rattle.if1_reach.specs.Users.{HasUsers}
use Rattle.may_take.specs.Looked.{is_asked}
use Rattle.may_take.specs.Owned.{stand_of, reads_users, is_owned_at}
use Rattle.may_take.proofs.Owning.{users-read}
use Rattle.may_take.proofs.Steps.{flag-more}
use Rattle.may_take.proofs.flags.flags_of.Goals as goal

pub loop-index-preserved : goal.loop-index-preserved
loop-index-preserved c = λ k flags.
    let g = c.args.graph.now in
    let e = c.index-edges-index.result in
    let st = stand_of c.args.site in
    let read = if reads_users st then (out-Graph g).edges else [] in
    let us = c.users_of.ensures read (subst (λ es. HasUsers es c.in_ok-users.users) (c.edges_read.ensures ∙ ap (λ (es : List Edge). if reads_users st then es else []) c.as_slice-edges.ensures) c.in_ok-users.ensures) in
    flag-more c.args.asked g st k c.args.consuming.now c.as_slice-edges.result.now c.as_slice-edges.ensures flags
    c.loop-index.index e c.loop-index-test.true c.index-edges-index.is c.loop-index.flags c.add.new.self c.is_flagged.result c.is_owned_at-owned.result
    (c.loop-index.invariant k flags)
    (c.is_owned_at-owned.ensures ∙ (ap (λ us. is_owned_at st g us e.from) us ∙ users-read st g e.from))
    c.is_flagged.ensures c.in_ok-add.ensures.ok

pub returns : goal.returns
returns c = λ k flags.
    let g = c.args.graph.now in
    c.loop-index.invariant k flags
    ∙ ap (map (λ e. is_asked c.args.asked (k e) && is_owned_at (stand_of c.args.site) g (users g e.from) e.from))
    (take_all c.loop-index.index (out-Graph g).edges (subst (λ es. length es ≤ c.loop-index.index) c.as_slice-edges.ensures c.loop-index-test.false))
