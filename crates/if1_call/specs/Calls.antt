-- What the canonical text of an IF1 text is, and why there is none.
use Rattle.std.specs.Prelude.{◌≡◌, ℕ, List}
use Rattle.if1_graph.specs.declared.fault.If1Fault.{If1Fault}
use Rattle.if1_graph.specs.declared.fault.If1Fault.TheVariants as fault
use Rattle.if1_graph.specs.declared.graph.Unit1.{Unit1}
use Rattle.if1_graph.specs.Lines.{if1_text}
use Rattle.if1_graph.specs.Reads.{ReadsIf1}
use Rattle.if1_graph.specs.Ready.{IsReady}
use Rattle.if1_marks.specs.Sound.{IsSound}
use Rattle.if1_read.specs.Faults.{IsFaultOf}
use Rattle.if1_valid.specs.Refused.{IsRefused}
use Rattle.mark_check.specs.Marks.{IsFirstFault}
use Rattle.mark_check.specs.declared.marks.MarkFault.TheVariants as mark

-- the canonical text of the unit that a text gives, which is valid and has sound marks
pub record IsCanonicalOf (text canonical : List ℕ) : Type 0 where
  pub unit : Unit1
  pub read : ReadsIf1 text unit
  pub ready : IsReady unit
  pub sound : IsSound unit
  pub is : canonical ≡ if1_text unit

-- the text gives a unit that is not valid, and this is the reason
pub record IsInvalid (text : List ℕ) (f : If1Fault) : Type 0 where
  pub unit : Unit1
  pub read : ReadsIf1 text unit
  pub refused : IsRefused unit f

-- the text gives a valid unit whose marks are not sound, and this is their first fault
pub record HasBadMark (text : List ℕ) (graph node port reader : ℕ) : Type 0 where
  pub unit : Unit1
  pub read : ReadsIf1 text unit
  pub ready : IsReady unit
  pub first : IsFirstFault unit (mark.BadMark graph node port reader)
  pub unsound : ¬ IsSound unit

-- why a text has no canonical text: a fault of its lines, of its unit, or of the unit's marks
abbrev pub IsRefusedFor : List ℕ → If1Fault → Type 0
IsRefusedFor text (fault.Ports graph node) = IsInvalid text (fault.Ports graph node)
IsRefusedFor text (fault.TypeOf graph node) = IsInvalid text (fault.TypeOf graph node)
IsRefusedFor text (fault.Cycle graph node) = IsInvalid text (fault.Cycle graph node)
IsRefusedFor text (fault.Marks graph node port reader) = HasBadMark text graph node port reader
IsRefusedFor text fault.NoMemory = Unit {0}
IsRefusedFor text f = IsFaultOf text f
