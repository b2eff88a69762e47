-- What the steps of made code add.
use Rattle.std.proofs.Common.{◌≡◌, ℕ, List, map, get_or, refl, ap, ◌∙◌, subst}
use Rattle.made_store.specs.Carried.{Carried}
use Rattle.made_store.specs.Made.{OfInputs, OfNode, OfNothing, OfResults, OfRows, Origin, Plan, functions_lines}
use Rattle.made_store.specs.Plans.{Weighing, adds, last_line}
use Rattle.made_store.specs.Stored.{Mode, copied}
use Rattle.made_store.specs.Settled.{functions_settings, handling_of}
use Rattle.step_code.specs.declared.code.Code.{Code}
use Rattle.step_code.specs.declared.step.Counted.{Counted}
use Rattle.step_code.specs.declared.step.Counted.TheVariants as counted
use Rattle.step_code.specs.declared.step.Step.{Step}
use Rattle.step_code.specs.declared.step.Step.TheVariants as step
use Rattle.step_code.specs.declared.step.Written.TheVariants as written
use Rattle.step_code.specs.Laid.{copied_at, copied_in, counted_by, handling_in, row_of, step_in, written_in}
use Rattle.step_code.specs.Reading.{gapped, mode_in, modes_in}
use Rattle.code_maker.specs.PlanData.{PlanData}
use Rattle.code_maker.specs.Work.TheVariants as work
use Rattle.code_maker.specs.Parts.{mode_of}
use Rattle.code_maker.specs.Grows.{IsTold}
use Rattle.code_weights.specs.Laws.{AreCodeCopiesOfPlans, AreCodeWritesOfPlans}
use Rattle.code_weights.specs.Weights.{AddsSame, AreCopiesTold, AreWritesTold, CopiesSame, IsCopiedSo, IsWrittenSo}

counted-same : (code : Code) (c : Counted) (ms ns : List Mode) (w : ℕ) (ks rs : List Carried) → copied ms ks ≡ copied ns ks → copied_at code c ms w ks rs ≡ copied_at code c ns w ks rs
counted-same code counted.Nothing ms ns w ks rs e = refl
counted-same code counted.Operands ms ns w ks rs e = e
counted-same code (counted.Outputs bits) ms ns w ks rs e = refl
counted-same code counted.Elements ms ns w ks rs e = refl
counted-same code counted.Last ms ns w ks rs e = refl
counted-same code counted.Filling ms ns w ks rs e = refl

module _ (D : PlanData) (P : Plan) (W : Weighing) (code : Code) where
  -- ---- a step

  module _ (right : AreWritesTold D P W) where
    writes-so : (x : Step) (ms : List Mode) (o : Origin) → IsTold D P x ms o → AddsSame (step_in code x) (written_in code x) (adds W o)
    writes-so (step.Fire row writes shape i n out w kept copies) ms (OfNode g v) told =
        let here : IsWrittenSo D P W g v (work.Plain row told.1 writes copies) = subst (IsWrittenSo D P W g v) told.3 (right g told.0 v told.2) in
        λ ks rs long. here ks rs
    writes-so (step.Fire row writes shape i n out w kept copies) ms (OfInputs g v) told = absurd told
    writes-so (step.Fire row writes shape i n out w kept copies) ms (OfResults g) told = absurd told
    writes-so (step.Fire row writes shape i n out w kept copies) ms (OfRows b r) told = absurd told
    writes-so (step.Fire row writes shape i n out w kept copies) ms OfNothing told = absurd told
    writes-so (step.One op a out) ms o told = absurd told
    writes-so (step.Two op a b out) ms o told = absurd told
    writes-so (step.Int i out) ms o told = absurd told
    writes-so (step.Cells op i j out) ms o told = absurd told
    writes-so (step.Number op i l n out) ms o told = absurd told
    writes-so (step.Element ins i p out kept k) ms o told = absurd told
    writes-so (step.Replace ins i p e out kept k) ms o told = absurd told
    writes-so (step.Carry begins cs froms n out next) ms o told = tt
    writes-so (step.Sparse row g i n out copies) ms (OfNode gr v) told =
        let here : IsWrittenSo D P W gr v (work.Plain (row_of row) told.1 written.Nothing (counted_by copies)) = subst (IsWrittenSo D P W gr v) told.3 (right gr told.0 v told.2) in
        λ ks rs long. here ks rs
    writes-so (step.Sparse row g i n out copies) ms (OfInputs gr v) told = absurd told
    writes-so (step.Sparse row g i n out copies) ms (OfResults gr) told = absurd told
    writes-so (step.Sparse row g i n out copies) ms (OfRows b r) told = absurd told
    writes-so (step.Sparse row g i n out copies) ms OfNothing told = absurd told
    writes-so step.Count ms o told = tt
    writes-so (step.Bring a out next) ms o told = tt
    writes-so (step.Move froms n out w next) ms o told = tt
    writes-so (step.Tag a ts n content keeps out w next) ms o told = tt
    writes-so (step.Branch a ts n out w next) ms o told = tt
    writes-so (step.Test a turn leave out w next) ms o told = tt
    writes-so (step.Keep begins cs k froms n out next) ms o told = tt
    writes-so (step.Spread froms n cs k to turns out w next) ms o told = tt
    writes-so (step.Each multiples n from count kept turn leave) ms o told = tt
    writes-so (step.Add cs k froms n out next) ms o told = tt
    writes-so (step.Push cs froms i out next) ms o told = tt
    writes-so (step.Call entry size room args n out w) ms o told = tt
    writes-so (step.Return froms n) ms o told = tt

  module _ (right : AreCopiesTold D P W) (marks : code.marks ≡ D.marks) where
    copies-so : (x : Step) (ms : List Mode) (o : Origin) → IsTold D P x ms o → CopiesSame (step_in code x) (handling_in code x).modes ms (copied_in code x) (adds W o)
    copies-so (step.Fire row writes shape i n out w kept copies) ms (OfNode g v) told =
        let m = told.0 in
        let here : IsCopiedSo D P W g v m (work.Plain row told.1 writes copies) = subst (IsCopiedSo D P W g v m) told.3 (right g m v told.2) in
        λ ks rs same long.
        counted-same code copies (modes_in code i n) ms w ks rs same
        ∙ (ap (λ q. copied_at code copies q w ks rs) told.5 ∙ (ap (λ q. copied_at code copies (map mode_of m.ins) q ks rs) told.4 ∙ here code marks ks rs (long ∙ told.4)))
    copies-so (step.Fire row writes shape i n out w kept copies) ms (OfInputs g v) told = absurd told
    copies-so (step.Fire row writes shape i n out w kept copies) ms (OfResults g) told = absurd told
    copies-so (step.Fire row writes shape i n out w kept copies) ms (OfRows b r) told = absurd told
    copies-so (step.Fire row writes shape i n out w kept copies) ms OfNothing told = absurd told
    copies-so (step.One op a out) ms o told = absurd told
    copies-so (step.Two op a b out) ms o told = absurd told
    copies-so (step.Int i out) ms o told = absurd told
    copies-so (step.Cells op i j out) ms o told = absurd told
    copies-so (step.Number op i l n out) ms o told = absurd told
    copies-so (step.Element ins i p out kept k) ms o told = absurd told
    copies-so (step.Replace ins i p e out kept k) ms o told = absurd told
    copies-so (step.Carry begins cs froms n out next) ms o told = tt
    copies-so (step.Sparse row g i n out copies) ms (OfNode gr v) told =
        let m = told.0 in
        let here : IsCopiedSo D P W gr v m (work.Plain (row_of row) told.1 written.Nothing (counted_by copies)) = subst (IsCopiedSo D P W gr v m) told.3 (right gr m v told.2) in
        λ ks rs same long.
        counted-same code (counted_by copies) (map (mode_in code) (gapped code g i n)) ms 1 ks rs same
        ∙ (ap (λ q. copied_at code (counted_by copies) q 1 ks rs) told.5 ∙ (ap (λ q. copied_at code (counted_by copies) (map mode_of m.ins) q ks rs) told.4 ∙ here code marks ks rs (long ∙ told.4)))
    copies-so (step.Sparse row g i n out copies) ms (OfInputs gr v) told = absurd told
    copies-so (step.Sparse row g i n out copies) ms (OfResults gr) told = absurd told
    copies-so (step.Sparse row g i n out copies) ms (OfRows b r) told = absurd told
    copies-so (step.Sparse row g i n out copies) ms OfNothing told = absurd told
    copies-so step.Count ms o told = tt
    copies-so (step.Bring a out next) ms o told = tt
    copies-so (step.Move froms n out w next) ms o told = tt
    copies-so (step.Tag a ts n content keeps out w next) ms o told = tt
    copies-so (step.Branch a ts n out w next) ms o told = tt
    copies-so (step.Test a turn leave out w next) ms o told = tt
    copies-so (step.Keep begins cs k froms n out next) ms o told = tt
    copies-so (step.Spread froms n cs k to turns out w next) ms o told = tt
    copies-so (step.Each multiples n from count kept turn leave) ms o told = tt
    copies-so (step.Add cs k froms n out next) ms o told = tt
    copies-so (step.Push cs froms i out next) ms o told = tt
    copies-so (step.Call entry size room args n out w) ms o told = tt
    copies-so (step.Return froms n) ms o told = tt

pub writes-of-plans : AreCodeWritesOfPlans
writes-of-plans D P S W levels functions code told right pc =
    writes-so D P W code right (get_or code.steps pc (step.Return 0 0)) (handling_of (functions_settings P S levels functions) pc).modes (get_or (functions_lines P levels functions 0) pc last_line).origin (told.steps pc)

pub copies-of-plans : AreCodeCopiesOfPlans
copies-of-plans D P S W levels functions code told right pc =
    copies-so D P W code right told.marks (get_or code.steps pc (step.Return 0 0)) (handling_of (functions_settings P S levels functions) pc).modes (get_or (functions_lines P levels functions 0) pc last_line).origin (told.steps pc)
