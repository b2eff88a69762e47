-- A typed program has one unit of graphs.
use Rattle.std.proofs.Common.{◌≡◌, ◌∙◌, ℕ, Bool, true, false, List, Option, Some, None, sym}
use Rattle.sisal_top.specs.Compiled.{IsCompiled, PrintsBy}
use Rattle.sisal_top.specs.OneText.{IsOneText}
use Rattle.lowering.specs.TooMany.{too_many}
use Rattle.lowered_units.specs.Laws.{IsOneUnit}
use Rattle.typed_tree.specs.declared.program.Program.{Program}
use Rattle.answer_laws.specs.Laws.{AreGraphsOnce}

pub within_either : (o : Option ℕ) (line : ℕ) → o ≡ None → o ≡ Some line → ⊥
within_either o line a b = let e : None ≡ Some line = sym a ∙ b in cc

pub compiled : (dot why code : Bool) (p : Program) (t : List ℕ) → dot ≡ false → why ≡ false → code ≡ false → PrintsBy dot why code p t → IsCompiled p t
compiled true why code p t d w k x = cc
compiled false true code p t d w k x = cc
compiled false false true p t d w k x = cc
compiled false false false p t d w k x = x

pub graphs_once : IsOneUnit → IsOneText → AreGraphsOnce
graphs_once units texts = record {
  units = λ p u v a b. units p u v a.translated b.translated;
  texts = λ p set s t d w k a b. texts p s t (compiled set.dot set.why set.code p s d w k a) (compiled set.dot set.why set.code p t d w k b);
  within = λ p u line a b. within_either (too_many p) line a.within b;
}
