use Rattle.std.proofs.Common.{◌≡◌, ◌+◌, length}
use Rattle.run_words.specs.Commands.{bytes_of}
use Rattle.run_words.specs.Options.{no_options}
use Rattle.run_words.specs.Reading.{reads, AnOption}
use Rattle.run_words.proofs.reading.read_options.Given as goal

-- What is still to be read decides the whole, and the next word is word `place`.
abbrev pub invariant-loop-word : goal.invariant-loop-word
invariant-loop-word l = record {
  decides : reads (bytes_of l.words) l.runner AnOption no_options 2 ≡ reads (bytes_of l.rest) l.runner AnOption l.given l.place;
  counted : l.place + length l.rest ≡ length l.words + 2;
}

abbrev pub decreases-loop-word : goal.decreases-loop-word
decreases-loop-word l = length l.rest
