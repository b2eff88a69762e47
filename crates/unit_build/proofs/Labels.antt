-- Labels that are kept for whatever the lines and the headers of a program carry are its labels.
use Rattle.std.proofs.Common.{◌≡◌, ℕ, Some, slice_get, sym, ap, ◌∙◌}
use Rattle.std.specs.Prelude.{All, Contains}
use Rattle.std.proofs.lemmas.List.Elements.{All-contains}
use Rattle.typed_tree.specs.declared.program.Function.{Function}
use Rattle.typed_tree.specs.declared.program.Program.{Program}
use Rattle.lowering.specs.declared.feed.Carried.{Carried}
use Rattle.lowering.specs.declared.feed.Carried.TheVariants.{Callee}
use Rattle.lowering.specs.Types.{Labelled, table, labelled, carried_label, callee_label}
use Rattle.line_labels.specs.declared.labels.Labels.{Labels}
use Rattle.line_labels.specs.Labels.{label_in}
use Rattle.unit_build.specs.Labels.{unit_lines, AreLabelsOf}

module _ (p : Program) (l : Labels) where
  abbrev IsLabelled : Carried → Type 0
  IsLabelled c = carried_label p.types p.names p.functions c l.table ≡ labelled (label_in l c) l.table

  pub labels-of : l.table ≡ table p → All IsLabelled l.needs → ((c : Carried) → Contains (unit_lines p) c → Contains l.needs c)
      → ((place : ℕ) (f : Function) → slice_get p.functions place ≡ Some f → Contains l.needs (Callee place)) → AreLabelsOf p l
  labels-of e h lines headers = record {
    lines = λ c i. label c (lines c i);
    headers = λ place f there. label (Callee place) (headers place f there) ∙ ap (λ o. (callee_label p.types p.names o (table p)).label) there;
    table = e;
  }
    where
      label : (c : Carried) → Contains l.needs c → label_in l c ≡ (carried_label p.types p.names p.functions c (table p)).label
      label c i =
          sym (ap (λ (x : Labelled). x.label) (All-contains IsLabelled l.needs c h i))
          ∙ ap (λ t. (carried_label p.types p.names p.functions c t).label) e
