use Rattle.std.proofs.Common.{◌≡◌, ◌-◌, ℕ, suc, true, false, take, length}
use Rattle.typing_laws.specs.Judged.{IsUsedIn}
use Rattle.typing_laws.specs.Looping.{AllMade}
use Rattle.breaking_laws.specs.Parts.{BrokenMade}
use Rattle.sisal_check.specs.Walked.{given_of, folds_of}
use Rattle.sisal_check.proofs.clauses.made_of.Given as goal

abbrev pub invariant-loop-place : goal.invariant-loop-place
invariant-loop-place l = record {
  used : IsUsedIn (given_of l.given) l.fn.walk.types l.walk.types;
  names : l.walk.names ≡ l.fn.walk.names;
  made : l.made.is_deep ≡ false → AllMade l.walk.types (take l.place l.cs) l.is_masked (take l.place l.values) (folds_of l.made);
  some : l.made.is_deep ≡ false → length l.made.types ≡ l.place;
  deep : l.made.is_deep ≡ true → (groups : ℕ) → BrokenMade (given_of l.given) l.fn.walk.types (suc groups) l.line l.cs l.values 4 l.line;
}

abbrev pub decreases-loop-place : goal.decreases-loop-place
decreases-loop-place l = length l.cs - l.place
