use Rattle.std.proofs.Common.{◌≡◌, drop}
use Rattle.value_text.specs.Tokens.{bytes_in}
use Rattle.value_text.proofs.token.word.Given as goal

abbrev pub invariant-loop-c : goal.invariant-loop-c
invariant-loop-c l = bytes_in l.word (drop l.fn.from l.text) ≡ bytes_in (drop l.c-index l.word) (drop l.at l.text)
