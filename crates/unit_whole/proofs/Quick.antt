-- Quick code is whole where the other is.
use Rattle.std.proofs.Common.{◌≡◌, ℕ, zero, suc, ◌+◌, ◌<◌, ◌≤◌, ◌⊎◌, inl, inr, List, [], ◌∷◌, length, get_or, refl, sym, ap, ◌∙◌, subst, arith}
use Rattle.step_code.specs.declared.code.Code.{Code}
use Rattle.step_code.specs.declared.code.Operand.{Operand}
use Rattle.step_code.specs.declared.code.Operand.TheVariants as operand
use Rattle.step_code.specs.declared.step.Step.{Step}
use Rattle.step_code.specs.declared.step.Step.TheVariants as step
use Rattle.step_code.specs.Reading.{gapped, listed, so_many}
use Rattle.quick_code.specs.Quick.{Names, RunsSame, with_steps}
use Rattle.sequential.specs.Inside.{IsInside}
use Rattle.sequential.specs.Loading.{AreInside}
use Rattle.sequential_run.specs.Ready.{AreCollected, AreListed, AreSpread, IsReady}
use Rattle.sequential_run.specs.Whole.{AreAhead, Blocks, IsCalled, IsNext, IsWhole, Leads, step_at}
use Rattle.unit_whole.specs.Laws.{IsQuickCodeWhole}

module _ (code : Code) (ys : List Step) where
  abbrev quick : Code
  quick = with_steps code ys

  -- ---- the same lists

  one-inside : (room : ℕ) (a : Operand) → IsInside code room a → IsInside (with_steps code ys) room a
  one-inside room (operand.Literal n) h = h
  one-inside room (operand.Looks i) h = h
  one-inside room (operand.Copies i) h = h
  one-inside room (operand.Takes i) h = h
  one-inside room (operand.LooksAt r) h = (h.0, record { begins = h.1.begins; hops = h.1.hops })
  one-inside room (operand.CopiesOf r) h = (h.0, record { begins = h.1.begins; hops = h.1.hops })

  all-inside : (room : ℕ) (os : List Operand) → AreInside code room os → AreInside (with_steps code ys) room os
  all-inside room [] h = tt
  all-inside room (a ∷ os) h = (one-inside room a h.0, all-inside room os h.1)

  listed-as : (room i n : ℕ) → AreListed code room i n → AreListed (with_steps code ys) room i n
  listed-as room i n h = record { listed_there = h.listed_there; long = h.long; inside = all-inside room (listed code i n) h.inside; apart = h.apart }

  spread-as : (room g i n : ℕ) → AreSpread code room g i n → AreSpread (with_steps code ys) room g i n
  spread-as room g i n h = record { listed_there = h.listed_there; numbers_there = h.numbers_there; inside = all-inside room (gapped code g i n) h.inside; apart = h.apart }

  collected-as : (room i n : ℕ) → AreCollected code room i n → AreCollected (with_steps code ys) room i n
  collected-as room i n h = record { collected = h.collected; counted_long = h.counted_long }

  ready-as : (room : ℕ) (x : Step) → IsReady code room x → IsReady (with_steps code ys) room x
  ready-as room (step.One op a out) h = (one-inside room a h.0, h.1)
  ready-as room (step.Two op a b out) h = (one-inside room a h.0, one-inside room b h.1, h.2)
  ready-as room (step.Int i out) h = h
  ready-as room (step.Cells op i j out) h = h
  ready-as room (step.Number op i l n out) h = h
  ready-as room (step.Element ins i p out kept k) h = (listed-as room ins 2 h.0, h.1, h.2, h.3)
  ready-as room (step.Replace ins i p e out kept k) h = (listed-as room ins 3 h.0, h.1, h.2, h.3)
  ready-as room (step.Carry begins cs froms n out next) h = (listed-as room froms n h.0, h.1, h.2)
  ready-as room (step.Fire row x shape ins n out w kept k) h = (listed-as room ins n h.0, h.1, h.2, h.3)
  ready-as room (step.Sparse row g ins n out copies) h = (spread-as room g ins n h.0, h.1)
  ready-as room step.Count h = tt
  ready-as room (step.Bring a out next) h = (one-inside room a h.0, h.1)
  ready-as room (step.Move froms n out w next) h = (listed-as room froms n h.0, h.1, h.2)
  ready-as room (step.Tag a ts n content keeps out w next) h = (one-inside room a h.0, h.1, h.2, h.3, h.4)
  ready-as room (step.Branch a ts n out w next) h = (one-inside room a h.0, h.1, h.2, h.3)
  ready-as room (step.Test a turn leave out w next) h = (one-inside room a h.0, h.1, h.2)
  ready-as room (step.Keep begins cs k froms n out next) h = (listed-as room froms n h.0, collected-as room cs k h.1, h.2, h.3, h.4)
  ready-as room (step.Spread froms n cs k to turns out w next) h = (listed-as room froms n h.0, collected-as room cs k h.1, h.2, h.3)
  ready-as room (step.Each ms n from count kept turn leave) h = (listed-as room ms n h.0, h.1, h.2, h.3)
  ready-as room (step.Add cs k froms n out next) h = (listed-as room froms n h.0, collected-as room cs k h.1, h.2, h.3, h.4)
  ready-as room (step.Push cs froms i out next) h = ((listed-as room froms 1 h.0.0, collected-as room cs 1 h.0.1, h.0.2, h.0.3, h.0.4), h.1, h.2)
  ready-as room (step.Call entry size cells args n out w) h = (listed-as room args n h.0, h.1, h.2)
  ready-as room (step.Return froms n) h = listed-as room froms n h

  -- ---- the same places

  module _ (B : Blocks) (long : length ys ≡ length code.steps) where
    next-as : (pc t : ℕ) → IsNext code B pc t → IsNext (with_steps code ys) B pc t
    next-as pc t h = let there = h.there in record { there = omega (arith, there, long); room = h.room; gives = h.gives }

    ahead-as : (pc : ℕ) (ts : List ℕ) → AreAhead code B pc ts → AreAhead (with_steps code ys) B pc ts
    ahead-as pc [] h = tt
    ahead-as pc (t ∷ ts) h = ((h.0.0, next-as pc t h.0.1), ahead-as pc ts h.1)

    leads-as : (pc : ℕ) (x : Step) → Leads code B pc x → Leads (with_steps code ys) B pc x
    leads-as pc (step.One op a out) h = next-as pc (suc pc) h
    leads-as pc (step.Two op a b out) h = next-as pc (suc pc) h
    leads-as pc (step.Int i out) h = next-as pc (suc pc) h
    leads-as pc (step.Cells op i j out) h = next-as pc (suc pc) h
    leads-as pc (step.Number op i l n out) h = next-as pc (suc pc) h
    leads-as pc (step.Element ins i p out kept k) h = next-as pc (suc pc) h
    leads-as pc (step.Replace ins i p e out kept k) h = next-as pc (suc pc) h
    leads-as pc (step.Carry begins cs froms n out next) h = (h.0, next-as pc next h.1)
    leads-as pc (step.Fire row x shape ins n out w kept k) h = next-as pc (suc pc) h
    leads-as pc (step.Sparse row g ins n out copies) h = next-as pc (suc pc) h
    leads-as pc step.Count h = next-as pc (suc pc) h
    leads-as pc (step.Bring a out next) h = (h.0, next-as pc next h.1)
    leads-as pc (step.Move froms n out w next) h = (h.0, next-as pc next h.1)
    leads-as pc (step.Tag a ts n content keeps out w next) h = (ahead-as pc (so_many ts n code.targets) h.0, (h.1.0, next-as pc next h.1.1))
    leads-as pc (step.Branch a ts n out w next) h = (ahead-as pc (so_many ts n code.targets) h.0, (h.1.0, next-as pc next h.1.1))
    leads-as pc (step.Test a turn leave out w next) h = (next-as pc turn h.0, (h.1.0, next-as pc leave h.1.1), (h.2.0, next-as pc next h.2.1))
    leads-as pc (step.Keep begins cs k froms n out next) h = (h.0, next-as pc next h.1)
    leads-as pc (step.Spread froms n cs k to turns out w next) h = ((h.0.0, next-as pc turns h.0.1), (h.1.0, next-as pc next h.1.1))
    leads-as pc (step.Each ms n from count kept turn leave) h = (next-as pc turn h.0, (h.1.0, next-as pc leave h.1.1))
    leads-as pc (step.Add cs k froms n out next) h = (h.0, next-as pc next h.1)
    leads-as pc (step.Push cs froms i out next) h = (h.0, next-as pc next h.1)
    leads-as pc (step.Call entry size cells args n out w) h =
        let there = h.there in
        record { behind = next-as pc (suc pc) h.behind; size_is = h.size_is; there = omega (arith, there, long); room = h.room; gives = h.gives; results = h.results }
    leads-as pc (step.Return froms n) h = h

  -- ---- a step that names what another one reads

  names-ready : (room : ℕ) (x y : Step) → Names code x y → IsReady code room x → IsReady code room y
  names-ready room (step.Fire row w shape ins n out width kept k) (step.One op a out') e h =
      let i = subst (AreInside code room) e.0 h.0.inside in
      let fits = h.2 in
      let o = e.1 in
      let w = e.2 in
      (i.0, omega (arith, fits, o, w))
  names-ready room (step.Fire row w shape ins n out width kept k) (step.Two op a b out') e h =
      let i = subst (AreInside code room) e.0 h.0.inside in
      let fits = h.2 in
      let o = e.1 in
      let w = e.2 in
      (i.0, i.1.0, omega (arith, fits, o, w))
  names-ready room (step.Fire row w shape ins n out width kept k) (step.Int i out') e h =
      let x = subst (AreInside code room) e.0 h.0.inside in
      let fits = h.2 in
      let o = e.1 in
      let w = e.2 in
      (x.0, omega (arith, fits, o, w))
  names-ready room (step.Fire row w shape ins n out width kept k) (step.Cells op i j out') e h =
      let x = subst (AreInside code room) e.0 h.0.inside in
      let fits = h.2 in
      let o = e.1 in
      let w = e.2 in
      (x.0, x.1.0, omega (arith, fits, o, w))
  names-ready room (step.Fire row w shape ins n out width kept k) (step.Number op i l m out') e h =
      let x = subst (AreInside code room) e.0 h.0.inside in
      let fits = h.2 in
      let o = e.2 in
      let w = e.3 in
      (x.0, x.1.0, e.1, omega (arith, fits, o, w))
  names-ready room (step.Fire row w s js m to width kq q) (step.Element ins i p out kept k) e h =
      let r = subst (IsReady code room) e.0 h in
      let fits = r.2 in
      (r.0, e.1, e.2, omega (arith, fits))
  names-ready room (step.Fire row w s js m to width kq q) (step.Replace ins i p v out kept k) e h =
      let r = subst (IsReady code room) e.0 h in
      let fits = r.2 in
      (r.0, e.1, e.2, omega (arith, fits))
  names-ready room (step.Keep b ds m ps q to t) (step.Carry begins cs froms n out next) e h =
      let r = subst (IsReady code room) e.0 h in
      let fits = r.4 in
      (r.0, e.1, omega (arith, fits))
  names-ready room (step.Add ds m ps q to t) (step.Push cs froms i out next) e h = (subst (IsReady code room) e.0 h, e.1, e.2)
  names-ready room (step.Move froms n out w next) (step.Bring a out' next') e h =
      let i = subst (AreInside code room) e.0 h.0.inside in
      let fits = h.2 in
      let o = e.1 in
      let w = e.2 in
      (i.0, omega (arith, fits, o, w))
  names-ready room x y e h = absurd e

  names-leads : (B : Blocks) (pc : ℕ) (x y : Step) → Names code x y → Leads code B pc x → Leads code B pc y
  names-leads B pc (step.Fire row w shape ins n out width kept k) (step.One op a out') e h = h
  names-leads B pc (step.Fire row w shape ins n out width kept k) (step.Two op a b out') e h = h
  names-leads B pc (step.Fire row w shape ins n out width kept k) (step.Int i out') e h = h
  names-leads B pc (step.Fire row w shape ins n out width kept k) (step.Cells op i j out') e h = h
  names-leads B pc (step.Fire row w shape ins n out width kept k) (step.Number op i l m out') e h = h
  names-leads B pc (step.Fire row w s js m to width kq q) (step.Element ins i p out kept k) e h = subst (Leads code B pc) e.0 h
  names-leads B pc (step.Fire row w s js m to width kq q) (step.Replace ins i p v out kept k) e h = subst (Leads code B pc) e.0 h
  names-leads B pc (step.Keep b ds m ps q to t) (step.Carry begins cs froms n out next) e h = subst (Leads code B pc) e.0 h
  names-leads B pc (step.Add ds m ps q to t) (step.Push cs froms i out next) e h = subst (Leads code B pc) e.0 h
  names-leads B pc (step.Move froms n out w next) (step.Bring a out' next') e h =
      let same = e.3 in
      let lt = h.0 in
      (omega (arith, lt, same), subst (λ z. IsNext code B pc z) (sym same) h.1)
  names-leads B pc x y e h = absurd e

  -- ---- the whole

  whole-as : (B : Blocks) → length ys ≡ length code.steps
      → ((pc : ℕ) → (get_or ys pc (step.Return 0 0) ≡ get_or code.steps pc (step.Return 0 0)) ⊎ Names code (get_or code.steps pc (step.Return 0 0)) (get_or ys pc (step.Return 0 0)))
      → IsWhole code B → IsWhole (with_steps code ys) B
  whole-as B long so h =
      let few = h.few in
      record {
        few = omega (arith, few, long);
        ready = λ pc lt. ready-as (B.room pc) (get_or ys pc (step.Return 0 0)) (ready-at pc (so pc) (h.ready pc (omega (arith, lt, long))));
        leads = λ pc lt. leads-as B long pc (get_or ys pc (step.Return 0 0)) (leads-at pc (so pc) (h.leads pc (omega (arith, lt, long))));
      }
    where
      ready-at : (pc : ℕ) → (get_or ys pc (step.Return 0 0) ≡ get_or code.steps pc (step.Return 0 0)) ⊎ Names code (get_or code.steps pc (step.Return 0 0)) (get_or ys pc (step.Return 0 0))
          → IsReady code (B.room pc) (get_or code.steps pc (step.Return 0 0)) → IsReady code (B.room pc) (get_or ys pc (step.Return 0 0))
      ready-at pc (inl e) r = subst (IsReady code (B.room pc)) (sym e) r
      ready-at pc (inr e) r = names-ready (B.room pc) (get_or code.steps pc (step.Return 0 0)) (get_or ys pc (step.Return 0 0)) e r

      leads-at : (pc : ℕ) → (get_or ys pc (step.Return 0 0) ≡ get_or code.steps pc (step.Return 0 0)) ⊎ Names code (get_or code.steps pc (step.Return 0 0)) (get_or ys pc (step.Return 0 0))
          → Leads code B pc (get_or code.steps pc (step.Return 0 0)) → Leads code B pc (get_or ys pc (step.Return 0 0))
      leads-at pc (inl e) r = subst (Leads code B pc) (sym e) r
      leads-at pc (inr e) r = names-leads B pc (get_or code.steps pc (step.Return 0 0)) (get_or ys pc (step.Return 0 0)) e r

pub quick-whole : IsQuickCodeWhole
quick-whole code quick B runs h = subst (λ c. IsWhole c B) (sym runs.lists) (whole-as code quick.steps B runs.long runs.quick h)
