-- A made step goes on in its block.
use Rattle.std.proofs.Common.{◌≡◌, ℕ, suc, ◌+◌, ◌<◌, ◌≤◌, List, [], ◌∷◌, map, length, refl, sym, ap, ◌∙◌, subst, arith}
use Rattle.std.proofs.lemmas.List.{length-map}
use Rattle.flow_value.specs.declared.operands.Shape.{Shape}
use Rattle.if1_graph.specs.declared.op.Simple.{Simple}
use Rattle.graph_meaning.specs.Demand.{Vertex}
use Rattle.graph_meaning.specs.Entered.{IsIn}
use Rattle.run_code.specs.Coded.{Layout}
use Rattle.run_code.specs.Made.{Origin, Plan, functions_size, room_of}
use Rattle.run_laws.specs.Inside as inside
use Rattle.run_store.specs.Stored.{Mode}
use Rattle.made_store.specs.Settings.{Shares}
use Rattle.step_code.specs.declared.code.Code.{Code}
use Rattle.step_code.specs.declared.step.Counted.{Counted}
use Rattle.step_code.specs.declared.step.Step.{Step}
use Rattle.step_code.specs.declared.step.Step.TheVariants as step
use Rattle.step_code.specs.declared.step.Written.{Written}
use Rattle.step_code.specs.Reading.{listed, operand_in}
use Rattle.plan_data.specs.declared.plan.PlanData.{PlanData}
use Rattle.plan_data.specs.declared.plan.PlanNode.{PlanNode}
use Rattle.plan_data.specs.declared.plan.Work.TheVariants as work
use Rattle.plan_data.specs.Parts.{graph_nodes}
use Rattle.plan_data.specs.Stands.{Stands}
use Rattle.told_rows.specs.Grows.{IsPair}
use Rattle.unit_whole.specs.Blocks.{function_at}
use Rattle.unit_whole.specs.Even.{IsEven}
use Rattle.sequential_run.specs.Whole.{AreAhead, Blocks, IsAhead, IsCalled, IsNext, Leads}
use Rattle.unit_whole.proofs.Ready.{IsKnown, called-so}
use Rattle.unit_whole.specs.Laws.{blocks_by}
use Rattle.unit_whole.specs.Seen.{IsSeenOf}

module _ (D : PlanData) (P : Plan) (S : Shares) (functions : List ℕ) (stands : Stands D P S) (even : IsEven P functions)
    (seen : (g : ℕ) (n : PlanNode) (v : Vertex) → IsPair (graph_nodes D g) (P.nodes g) n v → (row : Simple) (shape : Shape) (writes : Written) (copies : Counted) → n.work ≡ work.Plain row shape writes copies → IsSeenOf writes v.ins (P.width v))
    (X : Layout) (code : Code) (f begin pc : ℕ) (params : (f : ℕ) → X.params f ≡ P.params f) (entries : (f : ℕ) → X.entry f ≡ P.entry f) (functions_are : (f : ℕ) → IsIn f X.functions → IsIn f functions)
    (entry_once : (f h : ℕ) → IsIn f functions → IsIn h functions → P.entry f ≡ P.entry h → f ≡ h)
    (long : length code.steps ≡ functions_size P functions) (from : begin ≤ pc) (before : pc < begin + suc (P.size f)) (ends : begin + suc (P.size f) ≤ functions_size P functions)
    (same : (t : ℕ) → begin ≤ t → t < begin + suc (P.size f) → function_at P functions 0 t ≡ f)
    (entered : (f : ℕ) → IsIn f functions → (P.entry f < functions_size P functions) × (function_at P functions 0 (P.entry f) ≡ f)) where
  abbrev B : Blocks
  B = blocks_by P functions

  abbrev end : ℕ
  end = begin + suc (P.size f)

  here : function_at P functions 0 pc ≡ f
  here = same pc from before

  next : (t : ℕ) → begin ≤ t → t < begin + suc (P.size f) → IsNext code (blocks_by P functions) pc t
  next t le lt =
      let at = same t le lt ∙ sym here in
      record { there = omega (arith, lt, ends, long); room = ap (room_of P) at; gives = ap (λ h. length (P.results h)) at }

  ahead : (t : ℕ) → inside.IsAhead (begin + suc (P.size f)) pc t → IsAhead code (blocks_by P functions) pc t
  ahead t h = let lt = h.0 in (lt, next t (omega (arith, lt, from)) h.1)

  all-ahead : (ts : List ℕ) → inside.AreAhead (begin + suc (P.size f)) pc ts → AreAhead code (blocks_by P functions) pc ts
  all-ahead [] h = tt
  all-ahead (t ∷ ts) h = (ahead t h.0, all-ahead ts h.1)

  behind : suc pc < begin + suc (P.size f) → IsNext code (blocks_by P functions) pc (suc pc)
  behind lt = next (suc pc) (omega (arith, from)) lt

  pub leads : (x : Step) (o : Origin) (ms : List Mode) → IsKnown D P S functions stands even seen X code (room_of P f) begin (begin + suc (P.size f)) pc (length (P.results f)) params entries functions_are entry_once x o ms → Leads code (blocks_by P functions) pc x
  leads (step.One op a out) o ms h = absurd h.knit
  leads (step.Two op a b out) o ms h = absurd h.knit
  leads (step.Bring a out t) o ms h = absurd h.knit
  leads (step.Int i out) o ms h = absurd h.knit
  leads (step.Cells op i j out) o ms h = absurd h.knit
  leads (step.Number op i l n out) o ms h = absurd h.knit
  leads (step.Element ins i p out kept k) o ms h = absurd h.knit
  leads (step.Replace ins i p e out kept k) o ms h = absurd h.knit
  leads (step.Carry begins cs froms n out next) o ms h = absurd h.knit
  leads (step.Push cs froms i out next) o ms h = absurd h.knit
  leads step.Count o ms h = behind h.stays
  leads (step.Fire row x shape ins n out w kept k) o ms h = let s = h.stays in behind s.2
  leads (step.Sparse row g ins n out copies) o ms h = let s = h.stays in behind s.2
  leads (step.Move froms n out w t) o ms h = let s = h.stays in ahead t s.2
  leads (step.Tag a ts n content keeps out w t) o ms h = let s = h.stays in (all-ahead _ s.1, ahead t s.4)
  leads (step.Branch a ts n out w t) o ms h = let s = h.stays in (all-ahead _ s.1, ahead t s.3)
  leads (step.Test a turn leave out w t) o ms h = let s = h.stays in (next turn s.1 s.2, ahead leave s.3, ahead t s.5)
  leads (step.Keep begins cs k froms n out t) o ms h = let s = h.stays in ahead t s.2
  leads (step.Spread froms n cs k to turns out w t) o ms h = let s = h.stays in (ahead turns s.2, ahead t s.4)
  leads (step.Each many n from' count kept turn leave) o ms h = let s = h.stays in (next turn s.2 s.3, ahead leave s.4)
  leads (step.Add cs k froms n out t) o ms h = let s = h.stays in ahead t s.2
  leads (step.Call entry size new args n out w) o ms h =
      let s = h.stays in
      let c = called-so D P S functions stands even seen o entry w new h.steady h.knit.1 in
      let at = entered c.function c.is_in in
      let entry_is = c.entry_is in
      let there = at.0 in
      let function_is : function_at P functions 0 entry ≡ c.function = ap (function_at P functions 0) c.entry_is ∙ at.1 in
      let own : room_of P (function_at P functions 0 pc) ≡ room_of P f = ap (room_of P) here in
      let other : room_of P (function_at P functions 0 entry) ≡ room_of P c.function = ap (room_of P) function_is in
      let size_is = s.1 in
      let outs = s.3 in
      let cells = c.room_is in
      record {
        behind = behind s.4;
        size_is = size_is ∙ sym own;
        there = omega (arith, entry_is, there, long);
        room = omega (arith, other, cells);
        gives = ap (λ h. length (P.results h)) function_is ∙ sym c.gives;
        results = omega (arith, outs, own);
      }
  leads (step.Return froms n) o ms h = sym (length-map (listed code froms n) (operand_in code)) ∙ (h.steady ∙ sym (ap (λ h. length (P.results h)) here))
