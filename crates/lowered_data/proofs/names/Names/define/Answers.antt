use Rattle.std.proofs.Common.{◌+◌, ◌∷◌, [], List, ◌∙◌, ap, sym, drop, append-nil, append_assoc}
use Rattle.std.proofs.lemmas.List.{drop_all}
use Rattle.lowering.specs.declared.feed.Wire.{Wire}
use Rattle.lowered_data.specs.Scopes.{Scopes, scopes, with_names}
use Rattle.lowered_data.proofs.Lists.{rest_is}
use Rattle.lowered_data.proofs.names.Names.define.Goals as goal

pub loop-w-preserved : goal.loop-w-preserved
loop-w-preserved c =
    let ws = c.args.wires.now in
    let s = c.loop-w.self in
    let rest = drop (c.loop-w.w-index + 1) ws in
    ap (λ (k : Scopes). with_names k rest) c.in_ok-define_one.ensures
    ∙ ap (λ (h : List Wire). scopes h s.marks) (append_assoc s.here (c.w-item.result ∷ []) rest)
    ∙ ap (with_names s) (sym (rest_is ws c.loop-w.w-index c.w-item.result c.loop-w-test.true c.w-item.is))
    ∙ c.loop-w.invariant

pub returns : goal.returns
returns c =
    let s = c.loop-w.self in
    ap (λ (h : List Wire). scopes h s.marks) (sym (append-nil s.here))
    ∙ ap (with_names s) (sym (drop_all c.loop-w.w-index c.args.wires.now c.loop-w-test.false)) ∙ c.loop-w.invariant
