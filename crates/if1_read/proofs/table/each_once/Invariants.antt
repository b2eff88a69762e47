use Rattle.std.proofs.Common.{◌≡◌, None}
use Rattle.if1_read.specs.Entries.{entries_of}
use Rattle.if1_read.specs.Marks.{labels_in}
use Rattle.if1_read.proofs.Onely.{RisesTo, Turn, lines_of}
use Rattle.if1_read.proofs.table.each_once.Given as goal

abbrev pub invariant-loop-line : goal.invariant-loop-line
invariant-loop-line l = record {
  labels : l.once.labels ≡ labels_in l.once.types;
  rise : RisesTo l.last l.once.labels;
  clean : l.once.first ≡ None → l.fn.first ≡ None;
  all : l.once.first ≡ None → l.once.types ≡ entries_of l.yielded;
  turn : Turn (λ e. e.label) l.fn.first l.yielded l.last l.once.first l.once.types;
  lines : l.once.lines ≡ lines_of (λ e. e.label) l.yielded;
}
