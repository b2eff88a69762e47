use Rattle.std.proofs.Common.{◌≡◌, sym, ap, subst, ◌∙◌}
use Rattle.value_names.specs.Scopes.{not_yet, under_old}
use Rattle.unit_types.proofs.Lists.{if_ok_weaker, on_ok_from}
use Rattle.typing_laws.specs.Defining.{targets_in}
use Rattle.typing_laws.specs.Looping.{IsAround}
use Rattle.sisal_check.proofs.Turned.{begun, begun_is, begun_around, begun_height, places_are}
use Rattle.sisal_check.proofs.turns.begin.Goals as goal

pub returns-clause-around : goal.returns-clause-around
returns-clause-around c =
    let s = c.args.started.now in
    let xs = targets_in c.args.ds.now in
    let n = c.args.walk.now.names in
    let is : c.begin_turn.new.self ≡ not_yet c.args.first xs (under_old c.args.first s.targets s.types n) =
    begun c.args.first s.targets c.as_slice.result.now xs c.as_slice-3.result.now s.types c.as_slice-2.result.now n c.begin_turn.new.self c.in_ok-begin_turn.ensures c.as_slice.ensures c.as_slice-2.ensures
    (c.as_slice-3.ensures ∙ c.in_ok-targets.ensures) in
    on_ok_from c.renewed.result (subst (IsAround n) (sym is) (begun_around c.args.first s.targets s.types xs n))

pub returns-clause-names : goal.returns-clause-names
returns-clause-names c =
    let s = c.args.started.now in
    let xs = targets_in c.args.ds.now in
    let n = c.args.walk.now.names in
    let is : c.begin_turn.new.self ≡ not_yet c.args.first xs (under_old c.args.first s.targets s.types n) =
    begun c.args.first s.targets c.as_slice.result.now xs c.as_slice-3.result.now s.types c.as_slice-2.result.now n c.begin_turn.new.self c.in_ok-begin_turn.ensures c.as_slice.ensures c.as_slice-2.ensures
    (c.as_slice-3.ensures ∙ c.in_ok-targets.ensures) in
    on_ok_from c.renewed.result (λ below. is ∙ begun_is c.args.first s.targets s.types xs n below)

pub returns-clause-renewed : goal.returns-clause-renewed
returns-clause-renewed c =
    let s = c.args.started.now in
    let xs = targets_in c.args.ds.now in
    let n = c.args.walk.now.names in
    let is : c.begin_turn.new.self ≡ not_yet c.args.first xs (under_old c.args.first s.targets s.types n) =
    begun c.args.first s.targets c.as_slice.result.now xs c.as_slice-3.result.now s.types c.as_slice-2.result.now n c.begin_turn.new.self c.in_ok-begin_turn.ensures c.as_slice.ensures c.as_slice-2.ensures
    (c.as_slice-3.ensures ∙ c.in_ok-targets.ensures) in
    if_ok_weaker c.renewed.result (λ places p. places_are c.args.first s.targets xs c.as_slice-4.result.now s.types n c.begin_turn.new.self places is (c.as_slice-4.ensures ∙ c.in_ok-targets.ensures) p) c.renewed.ensures

pub returns-clause-height : goal.returns-clause-height
returns-clause-height c =
    let s = c.args.started.now in
    let xs = targets_in c.args.ds.now in
    let n = c.args.walk.now.names in
    let is : c.begin_turn.new.self ≡ not_yet c.args.first xs (under_old c.args.first s.targets s.types n) =
    begun c.args.first s.targets c.as_slice.result.now xs c.as_slice-3.result.now s.types c.as_slice-2.result.now n c.begin_turn.new.self c.in_ok-begin_turn.ensures c.as_slice.ensures c.as_slice-2.ensures
    (c.as_slice-3.ensures ∙ c.in_ok-targets.ensures) in
    on_ok_from c.renewed.result (ap (λ k. k.height) is ∙ begun_height c.args.first s.targets s.types xs n)
