-- What is written is read again.
use Rattle.if1_graph.specs.declared.graph.Unit1.{Unit1}
use Rattle.if1_graph.specs.Lines.{if1_text}
use Rattle.if1_graph.specs.Normal.{IsNormal}
use Rattle.if1_graph.specs.Reads.{ReadsIf1}
use Rattle.if1_graph.specs.Ready.{IsReady}

-- the canonical text of a valid unit in normal order is a text that gives this unit
abbrev pub WrittenIsRead : Type 0
WrittenIsRead = (u : Unit1) → IsReady u → IsNormal u → ReadsIf1 (if1_text u) u
