use Rattle.std.proofs.Common.{◌≡◌, None, drop}
use Rattle.type_rules.specs.Arms.{gives_arm}
use Rattle.type_rules.proofs.arms.content_of.Given as goal

-- the tags that are left decide, and the first one gave a content
abbrev pub invariant-loop-tag : goal.invariant-loop-tag
invariant-loop-tag l = record {
  rest : gives_arm l.types l.union l.arm l.line l.content l.arms.entries (drop l.tag-index l.tags) ≡ gives_arm l.types l.union l.arm l.line None l.initial.arms.entries l.tags;
  first : l.content ≡ None → l.tag-index ≡ 0;
}
