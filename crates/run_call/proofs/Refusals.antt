-- A text whose unit has marks that are not sound.
use Rattle.std.proofs.Common.{◌≡◌, ℕ, List, Result, Ok, Err, IfErr, IsErrAnd, refl}
use Rattle.if1_graph.specs.declared.fault.If1Fault.{If1Fault}
use Rattle.if1_graph.specs.declared.graph.Unit1.{Unit1}
use Rattle.if1_graph.specs.Reads.{ReadsIf1}
use Rattle.if1_graph.specs.Ready.{IsReady}
use Rattle.if1_marks.specs.Sound.{IsSound}
use Rattle.mark_check.specs.declared.marks.MarkFault.{MarkFault}
use Rattle.mark_check.specs.Marks.{IsFirstFault, IsBad, as_fault}
use Rattle.if1_call.specs.Calls.{IsRefusedFor}
use Rattle.if1_call.proofs.Refusals.{unsound_text}

pub unsound_unit : {A : Type 0} (u : Unit1) (f : MarkFault) (r : Result A If1Fault) → IsFirstFault u f → (IsBad f → ¬ IsSound u) → IsErrAnd r (λ e. e ≡ as_fault f)
    → IfErr r (λ e. (text : List ℕ) → ReadsIf1 text u → IsReady u → IsRefusedFor text e)
unsound_unit u f (Ok a) first unsound is = tt
unsound_unit u f (Err e) first unsound is = λ text read ready. unsound_text text u u f e read (refl, ready) first unsound is
