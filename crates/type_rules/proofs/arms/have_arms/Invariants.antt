use Rattle.std.proofs.Common.{◌≡◌, drop}
use Rattle.type_rules.specs.Arms.{have_arms}
use Rattle.type_rules.proofs.arms.have_arms.Given as goal

-- the tags that are left decide
abbrev pub invariant-loop-tag : goal.invariant-loop-tag
invariant-loop-tag l = have_arms l.types l.union l.arms.entries (drop l.tag-index l.tags) ≡ have_arms l.types l.union l.arms.entries l.tags
