-- The code of a unit is whole.
use Rattle.std.proofs.Common.{◌≡◌, ℕ, suc, ◌+◌, ◌-◌, ◌^◌, ◌<◌, ◌≤◌, List, [], ◌∷◌, length, get_or, refl, sym, ap, ◌∙◌, subst, arith}
use Rattle.if1_graph.specs.declared.graph.Unit1.{Unit1}
use Rattle.if1_graph.specs.Ready.{IsReady}
use Rattle.if1_marks.proofs.Taken.{sound-in-order}
use Rattle.if1_marks.specs.Sound.{IsSound}
use Rattle.graph_meaning.specs.Carried.{Carried}
use Rattle.graph_meaning.specs.Demand.{Vertex}
use Rattle.graph_meaning.specs.Entered.{IsIn}
use Rattle.graph_meaning.specs.Networks.{network}
use Rattle.graph_meaning.specs.StorageUnits.{storage_of}
use Rattle.run_code.specs.Coded.{Layout}
use Rattle.run_code.specs.Machine.{Weigh}
use Rattle.run_code.specs.Made.{Line, Plan, arms_size, functions_lines, functions_size, room_of}
use Rattle.run_code.specs.Steps as steps
use Rattle.run_laws.specs.Inside.{Stays}
use Rattle.run_made.specs.Plans.{IsRightPlan, Weighing, laid, last_line}
use Rattle.run_store.specs.Effects.{reads_of}
use Rattle.run_store.specs.Refines.{IsWeighed}
use Rattle.run_store.specs.Stored.{Handling, Mode}
use Rattle.made_store.proofs.Units.{made-last, made-stored}
use Rattle.made_store.specs.Last.{AreTakenLast}
use Rattle.made_store.specs.Settings.{Shares}
use Rattle.made_store.specs.Settled.{functions_settings, handling_of}
use Rattle.told_rows.proofs.Right.{plans-right}
use Rattle.told_rows.proofs.Weights.{weights-alike}
use Rattle.told_rows.specs.Plans.{Tables, functions_of, levels_of, plan_of}
use Rattle.told_rows.specs.Shares.{shares_of, weighing}
use Rattle.plan_shares.proofs.Right.{shares-right}
use Rattle.step_code.specs.declared.code.Code.{Code}
use Rattle.step_code.specs.declared.step.Step.{Step}
use Rattle.step_code.specs.declared.step.Step.TheVariants as step
use Rattle.step_code.specs.Laid.{handling_in, step_in}
use Rattle.plan_data.specs.declared.plan.PlanData.{PlanData}
use Rattle.plan_data.specs.Parts.{arms_steps, size_in}
use Rattle.unit_whole.proofs.Blocks.{places-in-blocks}
use Rattle.unit_whole.proofs.Nodes.{plans-even}
use Rattle.unit_whole.specs.Blocks.{IsInBlock, function_at}
use Rattle.unit_whole.specs.Even.{IsEven, IsStepEven}
use Rattle.sequential_run.specs.Ready.{IsReady as IsStepReady}
use Rattle.sequential_run.specs.Whole.{IsWhole, Leads}
use Rattle.unit_whole.proofs.Leads.{leads}
use Rattle.unit_whole.proofs.Quick.{quick-whole}
use Rattle.unit_whole.proofs.Ready.{IsChoosing, IsKnown, ready}
use Rattle.unit_whole.proofs.Seen.{nodes-seen}
use Rattle.unit_whole.proofs.Taking.{read-last}
use Rattle.unit_whole.specs.Laws.{AreUnitCodesEntered, AreUnitCodesWhole, IsMadeOfData, blocks_by}

-- the tables count the same steps
arms-as : (D : PlanData) (P : Plan) → ((g : ℕ) → P.size g ≡ size_in D g) → (fs : List ℕ) → functions_size P fs ≡ arms_steps D fs
arms-as D P same [] = refl
arms-as D P same (f ∷ fs) = let a = same f in let b = arms-as D P same fs in omega (arith, a, b)

-- a step that chooses adds nothing
choosing-so : (weigh : Weigh) (H : Handling) (pc : ℕ) (x : steps.Step) → IsWeighed weigh H pc x → IsChoosing H.modes x
choosing-so weigh H pc (steps.Fire row shape ins out w) h = tt
choosing-so weigh H pc steps.Count h = tt
choosing-so weigh H pc (steps.Move froms out w next) h = tt
choosing-so weigh H pc (steps.Tag union ts content out w next) h = h
choosing-so weigh H pc (steps.Branch sel ts out w next) h = h
choosing-so weigh H pc (steps.Test test turn leave out w next) h = h
choosing-so weigh H pc (steps.Keep begins cs froms out next) h = tt
choosing-so weigh H pc (steps.Spread froms cs to turns out w next) h = tt
choosing-so weigh H pc (steps.Each n from count turn leave) h = tt
choosing-so weigh H pc (steps.Add cs froms out next) h = tt
choosing-so weigh H pc (steps.Call entry size args out w) h = tt
choosing-so weigh H pc (steps.Return froms) h = tt

module _ (D : PlanData) (u : Unit1) (order : (graph : ℕ) → List Vertex) (t : Tables) (code : Code) (ready_unit : IsReady u) (sound : IsSound u) (is : IsMadeOfData D u order t code) where
  abbrev P : Plan
  P = plan_of u order t

  abbrev S : Shares
  S = shares_of u order

  abbrev W : Weighing
  W = weighing u order t

  abbrev fs : List ℕ
  fs = functions_of u

  abbrev n : ℕ
  n = levels_of u

  abbrev X : Layout
  X = laid P W (network u) order fs n

  abbrev line_at : ℕ → Line
  line_at pc = get_or (functions_lines P n fs 0) pc last_line

  abbrev handling : ℕ → Handling
  handling = handling_of (functions_settings P S n fs)

  abbrev here : ℕ → Step
  here pc = get_or code.steps pc (step.Return 0 0)

  right : IsRightPlan P W (network u) order fs n
  right = plans-right u order t ready_unit sound is.in_order is.tables

  even : IsEven P fs
  even = plans-even u order t ready_unit is.in_order

  abbrev InBlock : ℕ → Line → Type 0
  InBlock pc l = IsInBlock P W (network u) order fs n pc l

  block : (pc : ℕ) → pc < functions_size P fs → IsInBlock P W (network u) order fs n pc (line_at pc)
  block = (places-in-blocks P W (network u) order fs n right even).0

  entered : (f : ℕ) → IsIn f fs → (P.entry f < functions_size P fs) × (function_at P fs 0 (P.entry f) ≡ f)
  entered = (places-in-blocks P W (network u) order fs n right even).1

  long : length code.steps ≡ functions_size P fs
  long = is.knit.long ∙ (places-in-blocks P W (network u) order fs n right even).2

  entry-once : (f h : ℕ) → IsIn f fs → IsIn h fs → P.entry f ≡ P.entry h → f ≡ h
  entry-once f h in_f in_h e = sym (entered f in_f).1 ∙ (ap (function_at P fs 0) e ∙ (entered h in_h).1)

  last : (pc : ℕ) → AreTakenLast (handling pc).modes (reads_of (X.code pc))
  last = made-last P S W (network u) order fs n right (shares-right u order t ready_unit sound is.in_order)

  weighed : (pc : ℕ) → IsWeighed X.weigh (handling pc) pc (X.code pc)
  weighed pc = ((made-stored P S W (network u) order fs n (storage_of u) right (shares-right u order t ready_unit sound is.in_order) (weights-alike u order t ready_unit (sound-in-order u sound))).handled pc).weighed

  known : (pc : ℕ) (b : IsInBlock P W (network u) order fs n pc (line_at pc))
      → IsKnown D P S fs is.stands even (nodes-seen D u order t ready_unit is.in_order is.written) X code (room_of P b.function) b.begin (b.begin + suc (P.size b.function)) pc (length (P.results b.function)) (λ f. refl) (λ f. refl) (λ f i. i)
      entry-once (here pc) (line_at pc).origin (handling pc).modes
  known pc b =
      let e : step_in code (here pc) ≡ (line_at pc).step = is.made.steps pc in
      record {
        stays = subst (Stays X (room_of P b.function) b.begin (b.begin + suc (P.size b.function)) pc) (sym e) b.stays;
        steady = subst (IsStepEven P fs (length (P.results b.function)) (line_at pc).origin) (sym e) b.even;
        knit = is.knit.steps pc;
        told = is.told.steps pc;
        last = read-last (handling_in code (here pc)).modes (handling pc).modes (reads_of (step_in code (here pc))) (is.made.modes pc) (subst (λ x. AreTakenLast (handling pc).modes (reads_of x)) (sym e) (last pc));
        modes = is.made.modes pc;
        choosing = subst (IsChoosing (handling pc).modes) (sym e) (choosing-so X.weigh (handling pc) pc (X.code pc) (weighed pc));
        keeps = λ c. is.made.keeps pc c;
      }

  ready-at : (pc : ℕ) (b : IsInBlock P W (network u) order fs n pc (line_at pc)) → IsStepReady code (room_of P (function_at P fs 0 pc)) (here pc)
  ready-at pc b =
      subst (λ f. IsStepReady code (room_of P f) (here pc)) (sym (b.same pc b.from b.before))
      (ready D P S fs is.stands even (nodes-seen D u order t ready_unit is.in_order is.written) X code (room_of P b.function) b.begin (b.begin + suc (P.size b.function)) pc (length (P.results b.function)) (λ f. refl) (λ f. refl) (λ f i. i) entry-once
      (here pc) (line_at pc).origin (handling pc).modes (known pc b))

  leads-at : (pc : ℕ) (b : IsInBlock P W (network u) order fs n pc (line_at pc)) → Leads code (blocks_by P fs) pc (here pc)
  leads-at pc b =
      leads D P S fs is.stands even (nodes-seen D u order t ready_unit is.in_order is.written) X code b.function b.begin pc (λ f. refl) (λ f. refl) (λ f i. i) entry-once long b.from b.before b.ends b.same entered
      (here pc) (line_at pc).origin (handling pc).modes (known pc b)

  pub code-whole : IsWhole code (blocks_by P fs)
  code-whole =
      let few = is.few in
      let many = arms-as D P is.stands.sizes fs in
      record {
        few = omega (arith, few, many, long);
        ready = λ pc lt. ready-at pc (block pc (omega (arith, lt, long)));
        leads = λ pc lt. leads-at pc (block pc (omega (arith, lt, long)));
      }

pub codes-whole : AreUnitCodesWhole
codes-whole D u order t code ready_unit sound is = code-whole D u order t code ready_unit sound is

pub codes-entered : AreUnitCodesEntered
codes-entered D u order t code quick ready_unit sound is runs f room in_f wide =
    let P = plan_of u order t in
    let at = entered D u order t code ready_unit sound is f in_f in
    let long_is = long D u order t code ready_unit sound is in
    let same = runs.long in
    let there = at.0 in
    let own : room_of P (function_at P (functions_of u) 0 (t.entry f)) ≡ room_of P f = ap (room_of P) at.1 in
    record {
      blocks = blocks_by P (functions_of u);
      whole_code = quick-whole code quick (blocks_by P (functions_of u)) runs (code-whole D u order t code ready_unit sound is);
      there = omega (arith, there, long_is, same);
      wide = omega (arith, own, wide);
    }
