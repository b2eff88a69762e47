-- The Each of a ForAll in code: where it counts, and that it keeps its count.
use Rattle.std.proofs.Common.{◌≡◌, ℕ, suc, true, if◌then◌else◌, get_or, ◌-◌, ap, ◌∙◌, arith}
use Rattle.std.proofs.lemmas.Bool.{lt-ltb}
use Rattle.run_code.specs.Coded.{ForAllIs, Layout, the_for_all}
use Rattle.run_code.specs.Steps as steps
use Rattle.step_code.specs.declared.code.Code.{Code}
use Rattle.step_code.specs.declared.step.Step.{Step}
use Rattle.step_code.specs.declared.step.Step.TheVariants as step
use Rattle.step_code.specs.Laid.{handling_in, step_in}
use Rattle.step_code.specs.Reading.{so_many}
use Rattle.run_ranges.specs.Ranges.{count_of, iterations_of}
use Rattle.run_code.specs.Cells.{Operand}
use Rattle.graph_meaning.specs.Carried.{Carried}
use Rattle.std.proofs.Common.{List}

-- the step at the Each of a ForAll
pub each-of : (X : Layout) (room : ℕ) (args : List Operand) (generator body returns m : ℕ) (own : List Carried → List Carried → ℕ) (w a b lo : ℕ) (is : ForAllIs X room args generator body returns m own w a b lo)
    → (let r = iterations_of X room args generator body returns m own w a b lo is in (leave : ℕ) × (X.code r.each ≡ steps.Each r.multiples r.first (count_of r) r.turn leave))
each-of X room _ _ _ _ _ _ _ _ _ _ (the_for_all args generator body returns m own w a b lo picks mid n k made turns turn turned leave left other nodes results cs extra lists nexts lasts for_body for_returns
    start generating spreads_are made_weighs lists_many cs_many each_is body_lent turning adds turn_weighs turn_many within refolds returns_lent returning hands) = (leave, each_is)

-- what is kept of a step that counts in this cell
pub record IsCounting (code : Code) (x : Step) (n from count turn leave : ℕ) : Type 0 where
  pub ms : ℕ
  pub kept : ℕ
  pub is : x ≡ step.Each ms n from count kept turn leave

pub counting-is : (code : Code) (x : Step) (n from count turn leave : ℕ) → step_in code x ≡ steps.Each n from count turn leave → IsCounting code x n from count turn leave
counting-is code (step.One o a out) n from count turn leave e = absurd cc
counting-is code (step.Two o a b out) n from count turn leave e = absurd cc
counting-is code (step.Int i out) n from count turn leave e = absurd cc
counting-is code (step.Cells o i j out) n from count turn leave e = absurd cc
counting-is code (step.Number o i l k out) n from count turn leave e = absurd cc
counting-is code (step.Element ins i p out kept k) n from count turn leave e = absurd cc
counting-is code (step.Replace ins i p v out kept k) n from count turn leave e = absurd cc
counting-is code (step.Fire row x shape ins k out w kept c) n from count turn leave e = absurd cc
counting-is code (step.Sparse row g ins k out copies) n from count turn leave e = absurd cc
counting-is code step.Count n from count turn leave e = absurd cc
counting-is code (step.Bring a out next) n from count turn leave e = absurd cc
counting-is code (step.Move froms k out w next) n from count turn leave e = absurd cc
counting-is code (step.Tag a ts k content keeps out w next) n from count turn leave e = absurd cc
counting-is code (step.Branch a ts k out w next) n from count turn leave e = absurd cc
counting-is code (step.Test a turn' leave' out w next) n from count turn leave e = absurd cc
counting-is code (step.Keep begins cs k froms m out next) n from count turn leave e = absurd cc
counting-is code (step.Carry begins cs froms m out next) n from count turn leave e = absurd cc
counting-is code (step.Spread froms m cs k to turns out w next) n from count turn leave e = absurd cc
counting-is code (step.Each ms k from' count' kept turn' leave') n from count turn leave e = record { ms = ms; kept = kept; is = go }
  where
    go : step.Each ms k from' count' kept turn' leave' ≡ step.Each ms n from count kept turn leave
    go = cc
counting-is code (step.Add cs k froms m out next) n from count turn leave e = absurd cc
counting-is code (step.Push cs froms i out next) n from count turn leave e = absurd cc
counting-is code (step.Call entry size cells args m out w) n from count turn leave e = absurd cc
counting-is code (step.Return froms m) n from count turn leave e = absurd cc

-- the count is kept
pub count-kept : (code : Code) (x : Step) (n from count turn leave : ℕ) → IsCounting code x n from count turn leave → (handling_in code x).keeps count ≡ true
count-kept code x n from count turn leave h =
    ap (λ y. (handling_in code y).keeps count) h.is ∙ ap (λ c. if c then true else get_or (so_many h.kept n code.marks) (count - suc count) true) (lt-ltb count (suc count) (omega arith))
