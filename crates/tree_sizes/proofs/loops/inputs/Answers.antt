use Rattle.std.proofs.Common.{◌∙◌, sym, ap}
use Rattle.lowered_sizes.specs.Counting.{capped_sizes}
use Rattle.lowered_sizes.specs.Forms.{generators_sized}
use Rattle.tree_sizes.proofs.loops.inputs.Goals as goal

pub returns : goal.returns
returns c = λ s e. c.generators.ensures ∙ ap (λ l. capped_sizes (generators_sized l)) c.as_slice.ensures ∙ ap capped_sizes (sym e)
