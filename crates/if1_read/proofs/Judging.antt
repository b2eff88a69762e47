-- A literal by the entry of its type.
use Rattle.std.proofs.Common.{◌≡◌, ℕ, List, Option, Some, ap, subst, ◌∙◌}
use Rattle.std.proofs.lemmas.Option.{same_Some}
use Rattle.if1_graph.specs.declared.graph.TypeEntry.{TypeEntry}
use Rattle.if1_graph.specs.declared.row.Want.{Want}
use Rattle.if1_graph.specs.Kinds.{kind_at, basic_at}
use Rattle.if1_graph.specs.Types.{entry_at}
use Rattle.if1_graph.specs.Formed.{IsLiteralFor}
use Rattle.if1_graph.specs.Normal.{canonical_as}
use Rattle.if1_read.specs.declared.judge.Known.{Known}
use Rattle.if1_read.specs.declared.judge.Judged.{Judged}
use Rattle.if1_read.specs.declared.judge.Judged.TheVariants.{Right, Wrong}
use Rattle.if1_read.specs.Known.{IsJudgedAs, IsJudged}

pub judged : (k : Known) (w : Option Want) (ty : ℕ) (text : List ℕ) (e : TypeEntry) (j : Judged) → Some e ≡ entry_at k.table.types ty →
    IsJudgedAs k.names w text (kind_at e.code) (basic_at e.first) j → IsJudged k w ty text j
judged k w ty text e (Right t) is h =
    λ clear. (
      λ gs named d found. subst (λ (x : TypeEntry). IsLiteralFor gs w text (kind_at x.code) (basic_at x.first)) (same_Some e d (is ∙ found)) (h.0 gs named),
      h.1 ∙ ap (λ (o : Option TypeEntry). canonical_as w o text) is,
    )
judged k w ty text e (Wrong kind) is h = tt
