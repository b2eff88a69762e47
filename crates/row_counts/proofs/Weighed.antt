-- What rows say is what is written and copied by the definition of record.
use Rattle.std.proofs.Common.{◌≡◌, ℕ, suc, ◌+◌, ◌-◌, ◌<◌, ◌≤◌, ◌&&◌, if◌then◌else◌, Bool, true, false, List, [], ◌∷◌, drop, length, get_or, Option, Some, None, refl, sym, ap, ◌∙◌, arith}
use Rattle.if1_graph.specs.Ops.{reducer_at}
use Rattle.if1_graph.specs.declared.op.Reducer.{Reducer}
use Rattle.if1_graph.specs.declared.op.Reducer.TheVariants as reducer
use Rattle.if1_graph.specs.declared.op.Simple.{Simple}
use Rattle.if1_graph.specs.declared.op.Simple.TheVariants as simple
use Rattle.graph_meaning.specs.Carried.{Carried, Many, Name, Spoiled, Unfilled, Value}
use Rattle.graph_meaning.specs.Storage.{Storage, catenation_written, copied_by, elements_of, filled_copied, is_left, kept_of, last_copied, leaves_at, leaves_of, reduction_written, written_by}
use Rattle.step_code.specs.Stored.{Mode}
use Rattle.step_code.specs.declared.code.Code.{Code}
use Rattle.step_code.specs.declared.step.Counted.TheVariants as counted
use Rattle.step_code.specs.Laid.{copied_at, filling, joined, joined_by, last_leaves, written_at}
use Rattle.step_code.specs.Reading.{so_many}
use Rattle.row_counts.specs.Counts.{IsFiredSo, IsTold, counted_by_row, written_by_row}

-- ---- writes

reduction-is : (s : Storage) (r : Option Reducer) (rs : List Carried) → joined_by r rs ≡ reduction_written s r rs
reduction-is s (Some reducer.Sum) rs = refl
reduction-is s (Some reducer.Product) rs = refl
reduction-is s (Some reducer.Least) rs = refl
reduction-is s (Some reducer.Greatest) rs = refl
reduction-is s (Some reducer.Catenate) rs = refl
reduction-is s None rs = refl

joined-is : (s : Storage) (ks rs : List Carried) → joined ks rs ≡ catenation_written s ks rs
joined-is s [] rs = refl
joined-is s (Name text ∷ ks) rs = reduction-is s (reducer_at text) rs
joined-is s (Value v ∷ ks) rs = refl
joined-is s (Many vs ∷ ks) rs = refl
joined-is s (Spoiled c ∷ ks) rs = refl
joined-is s (Unfilled ∷ ks) rs = refl

catenate-is : (b j : Bool) (ks rs : List Carried) → b ≡ j → written_at (written_by_row simple.ACatenate j) ks rs ≡ (if b then 0 else elements_of rs)
catenate-is b true ks rs e = ap (λ x. if x then 0 else elements_of rs) (sym e)
catenate-is b false ks rs e = ap (λ x. if x then 0 else elements_of rs) (sym e)

pub written-is : (s : Storage) (g l : ℕ) (row : Simple) (j : Bool) → s.is_joined g l ≡ j → (ks rs : List Carried) → written_at (written_by_row row j) ks rs ≡ written_by s g l row ks rs
written-is s g l simple.ABuild j e ks rs = refl
written-is s g l simple.AFill j e ks rs = refl
written-is s g l simple.AGather j e ks rs = refl
written-is s g l (simple.Reduce grouping) j e ks rs = joined-is s ks rs
written-is s g l simple.ACatenate j e ks rs = catenate-is (s.is_joined g l) j ks rs e
written-is s g l (simple.One a) j e ks rs = refl
written-is s g l (simple.Two a) j e ks rs = refl
written-is s g l simple.NoOp j e ks rs = refl
written-is s g l simple.Error j e ks rs = refl
written-is s g l simple.Call j e ks rs = refl
written-is s g l simple.AReplace j e ks rs = refl
written-is s g l simple.AAddH j e ks rs = refl
written-is s g l simple.AAddL j e ks rs = refl
written-is s g l simple.ARemH j e ks rs = refl
written-is s g l simple.ARemL j e ks rs = refl
written-is s g l simple.ASetL j e ks rs = refl
written-is s g l simple.AAdjust j e ks rs = refl
written-is s g l simple.ALimL j e ks rs = refl
written-is s g l simple.ALimH j e ks rs = refl
written-is s g l simple.ASize j e ks rs = refl
written-is s g l simple.AIsEmpty j e ks rs = refl
written-is s g l simple.RestValues j e ks rs = refl
written-is s g l simple.RBuild j e ks rs = refl
written-is s g l simple.RReplace j e ks rs = refl
written-is s g l simple.RangeGenerate j e ks rs = refl
written-is s g l simple.AScatter j e ks rs = refl
written-is s g l simple.AElement j e ks rs = refl
written-is s g l simple.FirstValue j e ks rs = refl
written-is s g l simple.RElements j e ks rs = refl
written-is s g l simple.FinalValue j e ks rs = refl

-- ---- copies

leaves-same : (p q : ℕ → Bool) (i : ℕ) (rs : List Carried) → ((k : ℕ) → i ≤ k → k < i + length rs → p k ≡ q k) → leaves_at p i rs ≡ leaves_at q i rs
leaves-same p q i [] h = refl
leaves-same p q i (r ∷ rs) h =
    ap (λ b. (if b then leaves_of r else 0) + leaves_at p (suc i) rs) (h i (omega arith) (omega arith))
    ∙ ap (λ x. (if q i then leaves_of r else 0) + x) (leaves-same p q (suc i) rs (λ k a b. h k (omega (arith, a)) (omega (arith, b))))

outputs-are : (p q : ℕ → Bool) (rs : List Carried) → ((port : ℕ) → 1 ≤ port → port ≤ length rs → p port ≡ q port) → leaves_at p 1 rs ≡ leaves_at q 1 rs
outputs-are p q rs h = leaves-same p q 1 rs (λ k a b. h k a (omega (arith, b)))

last-is : (s : Storage) (g l : ℕ) (code : Code) (ms : List Mode) (w : ℕ) (t b : Bool) (ks rs : List Carried) → b ≡ t
    → copied_at code (if t then counted.Last else counted.Nothing) ms w ks rs ≡ (if b then last_leaves ks rs else 0)
last-is s g l code ms w true b ks rs e = ap (λ x. if x then last_leaves ks rs else 0) (sym e)
last-is s g l code ms w false b ks rs e = ap (λ x. if x then last_leaves ks rs else 0) (sym e)

last-by : (s : Storage) (g l : ℕ) (b : Bool) (ks rs : List Carried) → is_left s g l 1 ≡ b → (if is_left s g l 1 then last_leaves ks rs else 0) ≡ last_copied s g l ks rs
last-by s g l b [] rs e = refl
last-by s g l b (m ∷ []) rs e = refl
last-by s g l b (m ∷ k ∷ ks) rs e = refl

kept-is : (code : Code) (ms : List Mode) (w : ℕ) (t b : Bool) (ks rs : List Carried) → b ≡ t
    → copied_at code (if t then counted.Elements else counted.Nothing) ms w ks rs ≡ (if b then kept_of (drop 1 ks) else 0)
kept-is code ms w true b ks rs e = ap (λ x. if x then kept_of (drop 1 ks) else 0) (sym e)
kept-is code ms w false b ks rs e = ap (λ x. if x then kept_of (drop 1 ks) else 0) (sym e)

filled-is : (code : Code) (ms : List Mode) (w : ℕ) (t b : Bool) (ks rs : List Carried) → b ≡ t
    → copied_at code (if t then counted.Filling else counted.Nothing) ms w ks rs ≡ (if b then filling ks rs else 0)
filled-is code ms w true b ks rs e = ap (λ x. if x then filling ks rs else 0) (sym e)
filled-is code ms w false b ks rs e = ap (λ x. if x then filling ks rs else 0) (sym e)

none-either : (b : Bool) (n : ℕ) → n ≡ 0 → (if b then n else 0) ≡ 0
none-either true n e = e
none-either false n e = refl

filled-by : (s : Storage) (g l : ℕ) (ks rs : List Carried) → (if s.is_aggregate g l 3 then filling ks rs else 0) ≡ filled_copied s g l ks rs
filled-by s g l [] rs = none-either (s.is_aggregate g l 3) 0 refl
filled-by s g l (a ∷ []) rs = none-either (s.is_aggregate g l 3) 0 refl
filled-by s g l (a ∷ b ∷ []) rs = none-either (s.is_aggregate g l 3) 0 refl
filled-by s g l (a ∷ b ∷ c ∷ []) rs = refl
filled-by s g l (a ∷ b ∷ c ∷ d ∷ ks) rs = none-either (s.is_aggregate g l 3) 0 refl

within-width : (bits : List Bool) (test : ℕ → Bool) (first w : ℕ) (rs : List Carried) → ((port : ℕ) → 1 ≤ port → port ≤ w → get_or (so_many first w bits) (port - 1) true ≡ test port) → length rs ≡ w
    → (port : ℕ) → 1 ≤ port → port ≤ length rs → get_or (so_many first w bits) (port - 1) true ≡ test port
within-width bits test first w rs h long port a b = h port a (omega (arith, long, b))

pub counted-is : (s : Storage) (g l : ℕ) (code : Code) (ms : List Mode) (w : ℕ) (ks rs : List Carried) (told : Bool) (marks : ℕ) (row : Simple) → IsTold s g l code.marks w told marks row → IsFiredSo s g l ms w ks rs row
    → copied_at code (counted_by_row row told marks) ms w ks rs ≡ copied_by s g l row ks rs
counted-is s g l code ms w ks rs told marks simple.FinalValue e f = last-is s g l code ms w told (is_left s g l 1) ks rs (sym e.0) ∙ last-by s g l told ks rs (sym e.0)
counted-is s g l code ms w ks rs told marks simple.AGather e f = kept-is code ms w told (is_left s g l 2) ks rs (sym e.0)
counted-is s g l code ms w ks rs told marks (simple.Reduce grouping) e f = kept-is code ms w told (is_left s g l 2) ks rs (sym e.0)
counted-is s g l code ms w ks rs told marks simple.AFill e f = filled-is code ms w told (s.is_aggregate g l 3) ks rs (sym e.0) ∙ filled-by s g l ks rs
counted-is s g l code ms w ks rs told marks simple.AElement e f = outputs-are (λ port. get_or (so_many marks w code.marks) (port - 1) true) (s.is_made g l) rs (within-width code.marks (s.is_made g l) marks w rs e.1 f)
counted-is s g l code ms w ks rs told marks simple.FirstValue e f = outputs-are (λ port. get_or (so_many marks w code.marks) (port - 1) true) (s.is_made g l) rs (within-width code.marks (s.is_made g l) marks w rs e.1 f)
counted-is s g l code ms w ks rs told marks simple.RElements e f = outputs-are (λ port. get_or (so_many marks w code.marks) (port - 1) true) (λ port. s.is_made g l port && s.is_used g l port) rs (within-width code.marks (λ port. s.is_made g l port && s.is_used g l port) marks w rs e.1 f)
counted-is s g l code ms w ks rs told marks (simple.One a) e f = f
counted-is s g l code ms w ks rs told marks (simple.Two a) e f = f
counted-is s g l code ms w ks rs told marks simple.NoOp e f = f
counted-is s g l code ms w ks rs told marks simple.Error e f = f
counted-is s g l code ms w ks rs told marks simple.Call e f = f
counted-is s g l code ms w ks rs told marks simple.AReplace e f = f
counted-is s g l code ms w ks rs told marks simple.AAddH e f = f
counted-is s g l code ms w ks rs told marks simple.AAddL e f = f
counted-is s g l code ms w ks rs told marks simple.ARemH e f = f
counted-is s g l code ms w ks rs told marks simple.ARemL e f = f
counted-is s g l code ms w ks rs told marks simple.ASetL e f = f
counted-is s g l code ms w ks rs told marks simple.AAdjust e f = f
counted-is s g l code ms w ks rs told marks simple.ALimL e f = f
counted-is s g l code ms w ks rs told marks simple.ALimH e f = f
counted-is s g l code ms w ks rs told marks simple.ASize e f = f
counted-is s g l code ms w ks rs told marks simple.AIsEmpty e f = f
counted-is s g l code ms w ks rs told marks simple.RestValues e f = f
counted-is s g l code ms w ks rs told marks simple.RBuild e f = f
counted-is s g l code ms w ks rs told marks simple.RReplace e f = f
counted-is s g l code ms w ks rs told marks simple.RangeGenerate e f = f
counted-is s g l code ms w ks rs told marks simple.AScatter e f = f
counted-is s g l code ms w ks rs told marks simple.ABuild e f = f
counted-is s g l code ms w ks rs told marks simple.ACatenate e f = f
