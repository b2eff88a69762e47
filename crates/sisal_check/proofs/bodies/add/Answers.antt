use Rattle.std.proofs.Common.{refl, ◌∙◌}
use Rattle.typed_tree.specs.declared.program.Function.{Function}
use Rattle.sisal_check.proofs.Whole.{first_more, same_head}
use Rattle.sisal_check.proofs.bodies.add.Goals as goal

pub returns-clause-heads : goal.returns-clause-heads
returns-clause-heads c = λ at first.
    let s = c.args.header.now in
    let f : Function = record { line = s.line; name = s.name; parameters = c.in_ok-from_slice.field-0; params = c.in_ok-from_slice-2.field-0; results = c.in_ok-from_slice-3.field-0; body = c.args.body } in
    first_more c.args.given.now.functions.now c.args.all.now c.add.new.self f s at
    (same_head f s refl refl (c.in_ok-from_slice.ensures ∙ c.as_slice.ensures) (c.in_ok-from_slice-2.ensures ∙ c.as_slice-2.ensures) (c.in_ok-from_slice-3.ensures ∙ c.as_slice-3.ensures))
    c.in_ok-add.ensures.ok first
