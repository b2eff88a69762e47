use Rattle.std.proofs.Common.{sym, subst, slice_index}
use Rattle.std.proofs.lemmas.Bool.{eqb-true, eq-eqb}
use Rattle.if1_components.specs.Components.{AreComponents}
use Rattle.mark_check.specs.Entries.{AreCyclesOf}
use Rattle.mark_check.proofs.Wrong.{never-back, parts-back}
use Rattle.mark_check.proofs.lists.leads_back.Goals as goal

pub returns-in-Nowhere : goal.returns-in-Nowhere
returns-in-Nowhere c = (
  (λ x. absurd cc),
  (λ v. absurd (never-back c.args.lists.now c.args.from c.args.to (subst (AreCyclesOf c.args.lists.now) c.in-Nowhere.is c.requires.cycles) c.requires.linked v)),
)

pub returns-in-Numbered : goal.returns-in-Numbered
returns-in-Numbered c =
    let r = parts-back c.args.lists.now c.as_slice-numbers.result.now c.args.from c.args.to
    (subst (AreComponents c.args.lists.now) (sym c.as_slice-numbers.ensures) (subst (AreCyclesOf c.args.lists.now) c.in-Numbered.is c.requires.cycles))
    c.requires.from c.requires.to c.requires.linked in (
      (λ x. r.0 (eqb-true (slice_index c.as_slice-numbers.result.now c.args.from) (slice_index c.as_slice-numbers.result.now c.args.to) x)),
      (λ v. eq-eqb (slice_index c.as_slice-numbers.result.now c.args.from) (slice_index c.as_slice-numbers.result.now c.args.to) (r.1 v)),
    )
