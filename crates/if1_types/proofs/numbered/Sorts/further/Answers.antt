use Rattle.std.proofs.Common.{ℕ, List, slice_get, sym, ap, ◌∙◌}
use Rattle.if1_types.proofs.numbered.Sorts.further.Goals as goal

pub returns-in-Some-clause-on : goal.returns-in-Some-clause-on
returns-in-Some-clause-on c = c.args.self.now.further c.args.list c.in-Some.skip (ap (λ (ss : List ℕ). slice_get ss c.args.list) (sym c.as_slice.ensures) ∙ sym c.skip_at.ensures ∙ c.in-Some.is)
