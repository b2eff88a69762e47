-- What is wrong with a literal that was judged, if anything.
use Rattle.std.specs.Prelude.{Option, Some, None}
use Rattle.if1_read.specs.declared.fault.Kind.{Kind}
use Rattle.if1_read.specs.declared.judge.Judged.{Judged}
use Rattle.if1_read.specs.declared.judge.Judged.TheVariants.{Right, Wrong}

abbrev pub verdict : Judged → Option Kind
verdict (Right text) = None
verdict (Wrong kind) = Some kind
