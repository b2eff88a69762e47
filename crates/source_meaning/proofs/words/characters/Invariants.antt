use Rattle.std.proofs.Common.{◌≡◌, ◌++◌, map, drop}
use Rattle.flow_value.specs.declared.value.Val.TheVariants as val
use Rattle.source_meaning.proofs.words.characters.Given as goal

-- the characters so far, and those to come, are those of the text
abbrev pub invariant-loop-code : goal.invariant-loop-code
invariant-loop-code l = l.values ++ map val.Char (drop l.code-index l.text) ≡ map val.Char l.text
