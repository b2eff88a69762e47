use Rattle.std.proofs.Common.{◌≡◌, ◌++◌}
use Rattle.type_rules.specs.Arms.{choices_of}
use Rattle.type_rules.proofs.arms.Choices.into_choices.Given as goal

-- the choices so far, with those to come, are all
abbrev pub invariant-loop-tag : goal.invariant-loop-tag
invariant-loop-tag l = l.choices ++ choices_of l.tag-iterator ≡ choices_of l.fn.self.arms.entries
