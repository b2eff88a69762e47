use Rattle.std.proofs.Common.{◌≡◌, ℕ, ◌<◌, length, get_or, drop}
use Rattle.if1_typing.specs.declared.site.Content.TheVariants.{Any}
use Rattle.if1_typing.specs.Contents.{content_from}
use Rattle.if1_typing.proofs.contents.arm_contents.Given as goal

abbrev pub invariant-loop-arm : goal.invariant-loop-arm
invariant-loop-arm l = record {
  count : length l.contents.items ≡ l.arms;
  same :
      (k : ℕ) → k < l.arms → content_from l.known.sorts.shapes (get_or l.contents.items k Any) l.rest (drop l.arm-index l.list) k
      ≡ content_from l.known.sorts.shapes Any l.fn.tags l.list k;
}
