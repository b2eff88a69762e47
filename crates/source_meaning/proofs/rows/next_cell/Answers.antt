use Rattle.std.proofs.Common.{◌∙◌, ap, sym, drop}
use Rattle.loop_folds.specs.Masks.{keep_of}
use Rattle.meaning.specs.Words.{value_at}
use Rattle.source_meaning.proofs.AddedRows.{second_value, two_dropped, masked_span}
use Rattle.source_meaning.proofs.rows.next_cell.Goals as goal

pub returns-in_default : goal.returns-in_default
returns-in_default c =
    let vs = c.args.left.now in
    record {
      value = c.next_value-v.ensures.value;
      said = c.keep.ensures ∙ ap (keep_of c.args.masking) (c.next_value-mask.ensures.value ∙ ap (λ k. value_at k 0) c.next_value-v.ensures.left ∙ second_value vs);
      left = c.next_value-mask.ensures.left ∙ ap (drop 1) c.next_value-v.ensures.left ∙ two_dropped vs ∙ ap (λ k. drop k vs) (sym (masked_span c.args.masking c.in_default.not-All));
    }
