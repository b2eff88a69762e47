use Rattle.std.proofs.Common.{◌≡◌, ◌∙◌, sym, ◌≤◌, length}
use Rattle.source_meaning.proofs.Renewals.{all_taken_off}
use Rattle.source_meaning.proofs.loops.renew_names.Goals as goal

pub returns : goal.returns
returns c =
    let h : (length c.loop-v.names ≤ c.args.height) × (c.last_above.new.names ≡ c.loop-v.names) = c.in_default.ensures in
    h.1 ∙ sym (all_taken_off c.args.mark c.args.height c.args.renewed.now c.loop-v.names c.requires h.0) ∙ c.loop-v.invariant
