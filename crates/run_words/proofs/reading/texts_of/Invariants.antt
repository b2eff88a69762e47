use Rattle.std.proofs.Common.{◌≡◌, take}
use Rattle.run_words.specs.Commands.{bytes_of}
use Rattle.run_words.proofs.reading.texts_of.Given as goal

-- the words so far
abbrev pub invariant-loop-word : goal.invariant-loop-word
invariant-loop-word l = l.texts ≡ bytes_of (take l.word-index l.words)
