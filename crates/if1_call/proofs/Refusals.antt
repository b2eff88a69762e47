-- A text whose unit has marks that are not sound.
use Rattle.std.proofs.Common.{◌≡◌, ℕ, List, Result, Ok, Err, IfErr, IsErrAnd, sym, subst}
use Rattle.if1_graph.specs.declared.fault.If1Fault.{If1Fault}
use Rattle.if1_graph.specs.declared.graph.Unit1.{Unit1}
use Rattle.if1_graph.specs.Reads.{ReadsIf1}
use Rattle.if1_graph.specs.Ready.{IsReady}
use Rattle.if1_marks.specs.Sound.{IsSound}
use Rattle.mark_check.specs.declared.marks.MarkFault.{MarkFault}
use Rattle.mark_check.specs.declared.marks.MarkFault.TheVariants.{BadMark, NoMemory}
use Rattle.mark_check.specs.Marks.{IsFirstFault, IsBad, as_fault}
use Rattle.if1_call.specs.Calls.{IsRefusedFor}

-- the unit as it was read, and as it was found ready
pub unsound_text : (text : List ℕ) (u v : Unit1) (f : MarkFault) (e : If1Fault) → ReadsIf1 text u → (v ≡ u) × IsReady u → IsFirstFault v f → (IsBad f → ¬ IsSound v) → e ≡ as_fault f → IsRefusedFor text e
unsound_text text u v f e read ready first unsound is = subst (IsRefusedFor text) (sym is) (go f first unsound)
  where
    go : (f : MarkFault) → IsFirstFault v f → (IsBad f → ¬ IsSound v) → IsRefusedFor text (as_fault f)
    go NoMemory first unsound = tt
    go (BadMark graph node port reader) first unsound =
        record {
          unit = u;
          read = read;
          ready = ready.1;
          first = subst (λ z. IsFirstFault z (BadMark graph node port reader)) ready.0 first;
          unsound = subst (λ z. ¬ IsSound z) ready.0 (unsound tt);
        }

pub unsound_result : {A : Type 0} (text : List ℕ) (u v : Unit1) (f : MarkFault) (r : Result A If1Fault) → ReadsIf1 text u → (v ≡ u) × IsReady u → IsFirstFault v f → (IsBad f → ¬ IsSound v) → IsErrAnd r (λ e. e ≡ as_fault f) → IfErr r (IsRefusedFor text)
unsound_result text u v f (Ok a) read ready first unsound is = tt
unsound_result text u v f (Err e) read ready first unsound is = unsound_text text u v f e read ready first unsound is
