-- Numbers of types as one fact, and refusals for want of memory.
use Rattle.std.proofs.Common.{◌≡◌, List, IfErr, subst, sym}
use Rattle.std.specs.Prelude.{Result, Ok, Err, IsErrAnd}
use Rattle.if1_graph.specs.declared.fault.If1Fault.{If1Fault}
use Rattle.if1_graph.specs.declared.fault.If1Fault.TheVariants as fault
use Rattle.if1_graph.specs.declared.graph.TypeEntry.{TypeEntry}
use Rattle.if1_types.specs.declared.numbered.Sorts.{Sorts}
use Rattle.if1_types.specs.Shapes.{HasKeys}
use Rattle.if1_types.specs.Tables.{labels_in, AreSorts}
use Rattle.if1_types.specs.Forms.{Stand, AreOnce, AreRead}
use Rattle.if1_types.specs.Numbering.{IsNumbering}

pub numbering : (ts : List TypeEntry) (s : Sorts) → s.labels ≡ labels_in ts → AreSorts ts s.labels s.numbers → Stand ts s.shapes s.labels s.numbers → AreOnce s.shapes →
    AreRead s.shapes → HasKeys s.shapes → IsNumbering ts s
numbering ts s labels sorts stand once read keys = record { labels = labels; sorts = sorts; stand = stand; once = once; read = read; keys = keys }

pub given_up : {A : Type 0} (P : If1Fault → Type 0) (r : Result A If1Fault) → IsErrAnd r (λ e. e ≡ fault.NoMemory) → P fault.NoMemory → IfErr r P
given_up P (Ok a) h p = tt
given_up P (Err e) h p = subst P (sym h) p
