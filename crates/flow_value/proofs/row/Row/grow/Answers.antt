use Rattle.std.proofs.Common.{ap, ◌∙◌, length, arith}
use Rattle.flow_value.specs.Rows.{items_of}
use Rattle.flow_value.proofs.Rows.{count_is}
use Rattle.flow_value.proofs.row.Row.grow.Goals as goal

pub hold-requires-clause-len : goal.hold-requires-clause-len
hold-requires-clause-len g c =
    ap length c.reserve.ensures.items ∙ ap length c.into_vec-vec.ensures ∙ ap (λ r. length (items_of r)) c.replace.ensures.value ∙ count_is c.args.self.now c.requires.0

pub hold-requires-in-Err-clause-len : goal.hold-requires-in-Err-clause-len
hold-requires-in-Err-clause-len g c =
    ap length c.reserve.ensures.items ∙ ap length c.into_vec-vec.ensures ∙ ap (λ r. length (items_of r)) c.replace.ensures.value ∙ count_is c.args.self.now c.requires.0

pub returns-in-Ok-clause-room : goal.returns-in-Ok-clause-room
returns-in-Ok-clause-room g c = λ _.
    let held = c.hold.ensures.row in
    let long = ap length c.into_vec-vec.ensures ∙ ap (λ r. length (items_of r)) c.replace.ensures.value ∙ count_is c.args.self.now c.requires.0 in
    omega (arith, held.2, held.3, c.hold.ensures.room, c.in-Ok.ensures.ok, c.reserve.ensures.len, c.into_vec-vec.result.ok.0, long, c.if-len-more.false)
