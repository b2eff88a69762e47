-- The numbers of a made step are inside.
use Rattle.std.proofs.Common.{◌≡◌, ℕ, zero, suc, ◌+◌, ◌-◌, ◌<◌, ◌≤◌, ltb, if◌then◌else◌, Bool, true, false, List, [], ◌∷◌, ◌++◌, map, length, get_or, inl, inr, refl, sym, ap, ◌∙◌, subst, arith}
use Rattle.std.proofs.lemmas.Bool.{ltb-true}
use Rattle.std.proofs.lemmas.List.{length-map}
use Rattle.flow_value.specs.declared.cause.Cause.TheVariants as cause
use Rattle.flow_value.specs.declared.operands.Shape.{Shape}
use Rattle.if1_graph.specs.Rows.{row_of}
use Rattle.if1_graph.specs.declared.op.Simple.{Simple}
use Rattle.graph_meaning.specs.Carried.{Carried, Spoiled}
use Rattle.graph_meaning.specs.Demand.{EachNode, Kind, Plain, Source, Vertex, Whole}
use Rattle.graph_meaning.specs.Entered.{IsIn}
use Rattle.graph_meaning.specs.Forms as form
use Rattle.graph_meaning.specs.Laws.{outputs_by}
use Rattle.graph_meaning.specs.NodeValues as node
use Rattle.node_ops.specs.Operands.{shape_of}
use Rattle.run_code.specs.Cells as cells
use Rattle.run_code.specs.Cells.{At, Lit, cells_at}
use Rattle.run_code.specs.Coded.{Layout, Places, operand}
use Rattle.run_code.specs.Collections.{AreWithin}
use Rattle.run_code.specs.Made.{OfInputs, OfNode, OfNothing, OfResults, OfRows, Origin, Plan, room_of}
use Rattle.run_code.specs.Steps as steps
use Rattle.run_laws.specs.Inside.{AreCells, Stays}
use Rattle.run_store.specs.Effects.{reads_of}
use Rattle.run_store.specs.Stored.{Copies, Looks, Mode, Takes, copied, mode_at}
use Rattle.made_store.specs.Last.{AreTakenLast}
use Rattle.made_store.specs.Settings.{Shares}
use Rattle.step_code.specs.declared.code.Code.{Code}
use Rattle.step_code.specs.declared.code.Operand.{Operand}
use Rattle.step_code.specs.declared.code.Operand.TheVariants as operand
use Rattle.step_code.specs.declared.step.Counted.{Counted}
use Rattle.step_code.specs.declared.step.Step.{Step}
use Rattle.step_code.specs.declared.step.Step.TheVariants as step
use Rattle.step_code.specs.declared.step.Written.{Written}
use Rattle.step_code.specs.declared.step.Written.TheVariants as written
use Rattle.step_code.specs.Laid.{collect_in, collects_in, handling_in, step_in, taken_all}
use Rattle.step_code.specs.Reading.{listed, marked, mode_in, modes_in, operand_in, operands_in, so_many}
use Rattle.plan_data.specs.declared.plan.PlanData.{PlanData}
use Rattle.plan_data.specs.declared.plan.PlanNode.{PlanNode}
use Rattle.plan_data.specs.declared.plan.Work.TheVariants as work
use Rattle.plan_data.specs.Parts.{extent_in, graph_nodes, kind_of, table_of}
use Rattle.plan_data.specs.Stands.{AreNodes, IsNode, Stands}
use Rattle.told_rows.specs.Grows.{AreNamed, IsKnit, IsPair, IsPlain, IsRoomOf, IsTold, IsToldOf, read_as}
use Rattle.told_rows.specs.Seats.{looked_at}
use Rattle.unit_whole.specs.Even.{IsCalledFor, IsEven, IsFiredFor, IsKindEven, IsStepEven}
use Rattle.sequential.specs.Inside.{IsInside, IsUncopied}
use Rattle.sequential.specs.Loading.{AreApart, AreInside}
use Rattle.sequential_run.specs.Outputs.{IsWide}
use Rattle.sequential_run.specs.Iterating.{AllUncopied}
use Rattle.sequential_run.specs.Putting.{AreColumns, AreSpared}
use Rattle.sequential_run.specs.Ready.{AreCollected, AreListed, IsReady}
use Rattle.sequential_run.specs.Seen.{IsFirstKept, IsSeen}
use Rattle.unit_whole.proofs.Operands.{all-sparing, apart-so, fixed-named, listed-so, looked-apart, looked-are, looked-inside, looked-long, looked-uncopied, modes-long, one-inside, operands-long, so-long}
use Rattle.unit_whole.proofs.Taking.{front-last}
use Rattle.unit_whole.specs.Seen.{IsSeenOf}

-- ---- nodes that stand at the same place

pub pair-each : (Q : Vertex → Type 0) (ns : List PlanNode) (vs : List Vertex) (n : PlanNode) (v : Vertex) → IsPair ns vs n v → EachNode Q vs → Q v
pair-each Q [] vs n v h e = absurd h
pair-each Q (m ∷ ms) [] n v h e = absurd h
pair-each Q (m ∷ ms) (w ∷ ws) n v (inl h) e = subst Q (sym h.1) e.0
pair-each Q (m ∷ ms) (w ∷ ws) n v (inr h) e = pair-each Q ms ws n v h e.1

pub pair-node : (D : PlanData) (P : Plan) (S : Shares) (g : ℕ) (ns : List PlanNode) (vs : List Vertex) (n : PlanNode) (v : Vertex) → IsPair ns vs n v → AreNodes D P S g ns vs → IsNode D P S g n v
pair-node D P S g [] vs n v h a = absurd h
pair-node D P S g (m ∷ ms) [] n v h a = absurd h
pair-node D P S g (m ∷ ms) (w ∷ ws) n v (inl h) a = subst (λ x. IsNode D P S g x v) (sym h.0) (subst (λ y. IsNode D P S g m y) (sym h.1) a.0)
pair-node D P S g (m ∷ ms) (w ∷ ws) n v (inr h) a = pair-node D P S g ms ws n v h a.1

-- ---- what is chosen by is not copied

-- a step that chooses copies nothing
abbrev pub IsChoosing : List Mode → steps.Step → Type 0
IsChoosing ms (steps.Tag union ts content out w next) = (ks : List Carried) → copied ms ks ≡ 0
IsChoosing ms (steps.Branch sel ts out w next) = (ks : List Carried) → copied ms ks ≡ 0
IsChoosing ms (steps.Test test turn leave out w next) = (ks : List Carried) → copied ms ks ≡ 0
IsChoosing ms x = Unit {0}

-- the leaf of an error multiple would be copied
no-copies : (ms : List Mode) → ((ks : List Carried) → copied ms ks ≡ 0) → mode_at ms ≡ Copies → ⊥
no-copies [] h e = clash e
  where
    clash : Looks ≡ Copies → ⊥
    clash e = cc
no-copies (m ∷ ms) h e = let z = subst (λ m. copied (m ∷ ms) (Spoiled cause.Explicit ∷ []) ≡ 0) e (h (Spoiled cause.Explicit ∷ [])) in omega (arith, z)

pub chosen-uncopied : (code : Code) (a : Operand) (ms : List Mode) → IsPlain code a → read_as (mode_in code a ∷ []) (operand_in code a ∷ []) ≡ read_as ms (operand_in code a ∷ []) → ((ks : List Carried) → copied ms ks ≡ 0) → IsUncopied a
chosen-uncopied code (operand.Literal n) ms p e h = tt
chosen-uncopied code (operand.Looks i) ms p e h = tt
chosen-uncopied code (operand.Copies i) ms p e h = absurd (no-copies ms h (first e))
  where
    first : Copies ∷ [] ≡ mode_at ms ∷ [] → mode_at ms ≡ Copies
    first e = cc
chosen-uncopied code (operand.Takes i) ms p e h = tt
chosen-uncopied code (operand.LooksAt r) ms p e h = absurd p
chosen-uncopied code (operand.CopiesOf r) ms p e h = absurd p

-- ---- the first output

first-kept : (bits : List Bool) (out : ℕ) → marked bits out out ≡ true → get_or bits 0 true ≡ true
first-kept bits out e = go (ltb out out) refl e
  where
    go : (b : Bool) → ltb out out ≡ b → (if b then true else get_or bits (out - out) true) ≡ true → get_or bits 0 true ≡ true
    go true f h = absurd (let lt = ltb-true out out f in omega (arith, lt))
    go false f h = let z : out - out ≡ 0 = omega arith in subst (λ k. get_or bits k true ≡ true) z h

module _ (D : PlanData) (P : Plan) (S : Shares) (functions : List ℕ) (stands : Stands D P S) (even : IsEven P functions)
    (seen : (g : ℕ) (n : PlanNode) (v : Vertex) → IsPair (graph_nodes D g) (P.nodes g) n v → (row : Simple) (shape : Shape) (writes : Written) (copies : Counted) → n.work ≡ work.Plain row shape writes copies → IsSeenOf writes v.ins (P.width v)) where
  -- ---- what is known of a node that fires or calls

  pub record IsFiredSo (row : Simple) (shape : node.Shape) (writes : Written) (args : List cells.Operand) (w : ℕ) : Type 0 where
    pub wide : outputs_by (row_of row).gives shape ≡ w
    pub places : Places
    pub ins : List Source
    pub args_are : args ≡ map (operand places) ins
    pub seen_so : IsSeenOf writes ins w

  pub fired-so : (o : Origin) (row : Simple) (shape : node.Shape) (writes : Written) (copies : Counted) (args : List cells.Operand) (w : ℕ) (ms : List Mode) → IsFiredFor P functions o row shape args w → IsToldOf D P row writes copies w ms o → IsFiredSo row shape writes args w
  fired-so (OfNode g v) row shape writes copies args w ms f t =
      let kind = subst (λ k. IsKindEven P functions v k) f.1 (pair-each (λ v. IsKindEven P functions v v.kind) (graph_nodes D g) (P.nodes g) t.0 v t.2 (even g)) in
      record {
        wide = kind ∙ sym f.2;
        places = f.0;
        ins = v.ins;
        args_are = f.3;
        seen_so = subst (λ m. IsSeenOf writes v.ins m) (sym f.2) (seen g t.0 v t.2 row t.1 writes copies t.3);
      }
  fired-so (OfInputs g v) row shape writes copies args w ms f t = absurd f
  fired-so (OfResults g) row shape writes copies args w ms f t = absurd f
  fired-so (OfRows b r) row shape writes copies args w ms f t = absurd f
  fired-so OfNothing row shape writes copies args w ms f t = absurd f

  pub record IsCalledSo (entry w room : ℕ) : Type 0 where
    pub function : ℕ
    pub is_in : IsIn function functions
    pub entry_is : entry ≡ P.entry function
    pub gives : w ≡ length (P.results function)
    pub room_is : room ≡ room_of P function

  pub called-so : (o : Origin) (entry w room : ℕ) → IsCalledFor P functions o entry w → IsRoomOf D P room o → IsCalledSo entry w room
  called-so (OfNode g v) entry w room c r =
      let node = pair-node D P S g (graph_nodes D g) (P.nodes g) r.0 v r.2 (stands.nodes g) in
      let same : c.0 ≡ r.1 = one c.0 r.1 (sym c.2 ∙ (node.kind ∙ ap (λ x. kind_of x (r.0).width) r.3)) in
      let kind = subst (λ k. IsKindEven P functions v k) c.2 (pair-each (λ v. IsKindEven P functions v v.kind) (graph_nodes D g) (P.nodes g) r.0 v r.2 (even g)) in
      let params = stands.params r.1 in
      let extent = stands.extents r.1 in
      let cells = r.4 in
      record {
        function = c.0;
        is_in = c.1;
        entry_is = c.3;
        gives = c.4 ∙ kind.1;
        room_is = subst (λ f. room ≡ room_of P f) (sym same) (omega (arith, params, extent, cells));
      }
    where
      one : (f h : ℕ) → Whole (form.Call f) ≡ Whole (form.Call h) → f ≡ h
      one f h e = cc
  called-so (OfInputs g v) entry w room c r = absurd c
  called-so (OfResults g) entry w room c r = absurd c
  called-so (OfRows b r') entry w room c r = absurd c
  called-so OfNothing entry w room c r = absurd c

  -- ---- a step

  module _ (X : Layout) (code : Code) (room begin end pc results : ℕ) (params : (f : ℕ) → X.params f ≡ P.params f) (entries : (f : ℕ) → X.entry f ≡ P.entry f) (functions_are : (f : ℕ) → IsIn f X.functions → IsIn f functions)
      (entry_once : (f h : ℕ) → IsIn f functions → IsIn h functions → P.entry f ≡ P.entry h → f ≡ h) where
    -- what is known of it
    pub record IsKnown (x : Step) (o : Origin) (ms : List Mode) : Type 0 where
      pub stays : Stays X room begin end pc (step_in code x)
      pub steady : IsStepEven P functions results o (step_in code x)
      pub knit : IsKnit D P code x o
      pub told : IsTold D P x ms o
      pub last : AreTakenLast (handling_in code x).modes (reads_of (step_in code x))
      pub modes : read_as (handling_in code x).modes (reads_of (step_in code x)) ≡ read_as ms (reads_of (step_in code x))
      pub choosing : IsChoosing ms (step_in code x)
      pub keeps : (c : ℕ) → (handling_in code x).keeps c ≡ true

    kept-so : (kept w out : ℕ) → 0 < w → ((c : ℕ) → marked (so_many kept w code.marks) out c ≡ true) → IsFirstKept code w kept
    kept-so kept w out some keeps = (some, first-kept (so_many kept w code.marks) out (keeps out))

    seen-so : (writes : Written) (os : List Operand) (w kept out : ℕ) (places : Places) (ins : List Source) → map (operand_in code) os ≡ map (operand places) ins → IsSeenOf writes ins w → ((c : ℕ) → marked (so_many kept w code.marks) out c ≡ true)
        → IsSeen code writes os w kept
    seen-so written.Nothing os w kept out places ins e h keeps = tt
    seen-so written.Elements os w kept out places ins e h keeps = kept-so kept w out h keeps
    seen-so written.Catenated os w kept out places ins e h keeps = (fixed-named code os places ins e h.0, kept-so kept w out h.1 keeps)

    collected-so : (cs k : ℕ) → cs + k ≤ length code.collects → AreCollected code room cs k
    collected-so cs k le = record { collected = le; counted_long = sym (so-long cs k code.collects le) }

    columns-so : (froms n cs k : ℕ) → AreWithin (length (operands_in code froms n)) (collects_in code cs k) → AreColumns (length (listed code froms n)) (so_many cs k code.collects)
    columns-so froms n cs k h = subst (λ m. AreWithin m (collects_in code cs k)) (length-map (listed code froms n) (operand_in code)) h

    collects-long : (cs k : ℕ) → cs + k ≤ length code.collects → length (collects_in code cs k) ≡ k
    collects-long cs k le = length-map (so_many cs k code.collects) collect_in ∙ so-long cs k code.collects le

    pub ready : (x : Step) (o : Origin) (ms : List Mode) → IsKnown x o ms → IsReady code room x
    ready (step.One op a out) o ms h = absurd h.knit
    ready (step.Two op a b out) o ms h = absurd h.knit
    ready (step.Bring a out next) o ms h = absurd h.knit
    ready (step.Int i out) o ms h = absurd h.knit
    ready (step.Cells op i j out) o ms h = absurd h.knit
    ready (step.Number op i l n out) o ms h = absurd h.knit
    ready (step.Element ins i p out kept k) o ms h = absurd h.knit
    ready (step.Replace ins i p e out kept k) o ms h = absurd h.knit
    ready (step.Carry begins cs froms n out next) o ms h = absurd h.knit
    ready (step.Push cs froms i out next) o ms h = absurd h.knit
    ready step.Count o ms h = tt
    ready (step.Fire row x shape ins n out w kept k) o ms h =
        let f = fired-so o row (shape_of shape) x k (operands_in code ins n) w ms h.steady h.told in
        let s = h.stays in
        (listed-so code room ins n h.knit s.0 h.last, f.wide, s.1, seen-so x (listed code ins n) w kept out f.places f.ins f.args_are f.seen_so h.keeps)
    ready (step.Sparse row g ins n out copies) o ms h =
        let s = h.stays in
        let fits = s.1 in
        (apart-so code room g ins n h.knit s.0 h.last, omega (arith, fits))
    ready (step.Move froms n out w next) o ms h =
        let s = h.stays in
        let e = h.steady in
        let m = operands-long code froms n h.knit in
        (listed-so code room froms n h.knit s.0 h.last, e ∙ m, s.1)
    ready (step.Tag a ts n content keeps out w next) o ms h =
        let s = h.stays in
        (one-inside code room a h.knit.0 s.0, chosen-uncopied code a ms h.knit.0 h.modes h.choosing, h.knit.1, s.2, s.3)
    ready (step.Branch a ts n out w next) o ms h =
        let s = h.stays in
        (one-inside code room a h.knit.0 s.0, chosen-uncopied code a ms h.knit.0 h.modes h.choosing, h.knit.1, s.2)
    ready (step.Test a turn leave out w next) o ms h =
        let s = h.stays in
        (one-inside code room a h.knit s.0, chosen-uncopied code a ms h.knit h.modes h.choosing, s.4)
    ready (step.Keep true cs k froms n out next) o ms h =
        let s = h.stays in
        let fits = s.1 in
        let m = operands-long code froms n h.knit.0 in
        let c = collects-long cs k h.knit.1 in
        let l = subst (λ z. AreTakenLast z (operands_in code froms n)) (append-none (modes_in code froms n)) h.last in
        (listed-so code room froms n h.knit.0 s.0 l, collected-so cs k h.knit.1, columns-so froms n cs k h.steady, tt, omega (arith, fits, m, c))
      where
        append-none : (ms : List Mode) → ms ++ [] ≡ ms
        append-none [] = refl
        append-none (m ∷ ms) = ap (λ z. m ∷ z) (append-none ms)
    ready (step.Keep false cs k froms n out next) o ms h =
        let s = h.stays in
        let fits = s.1 in
        let m = operands-long code froms n h.knit.0 in
        let c = collects-long cs k h.knit.1 in
        let l = front-last (modes_in code froms n) (taken_all k) (operands_in code froms n) (cells_at (out + length (operands_in code froms n)) (length (collects_in code cs k))) (modes-long code froms n) h.last in (
          listed-so code room froms n h.knit.0 s.0 l.0,
          collected-so cs k h.knit.1,
          columns-so froms n cs k h.steady,
          subst (λ z. AreSpared false (out + z) k (listed code froms n)) m (subst (λ z. AreSpared false (out + length (operands_in code froms n)) z (listed code froms n)) c
              (all-sparing code (out + length (operands_in code froms n)) (length (collects_in code cs k)) (listed code froms n) l.1)),
          omega (arith, fits, m, c),
        )
    ready (step.Spread froms n cs k to turns out w next) o ms h =
        let s = h.stays in
        let fits = s.1 in
        let m = operands-long code froms n h.knit.0 in
        let c = collects-long cs k h.knit.1 in
        (listed-so code room froms n h.knit.0 s.0 h.last, collected-so cs k h.knit.1, omega (arith, fits, m, c), s.3)
    ready (step.Each many n from count kept turn leave) o ms h =
        let s = h.stays in
        let fits = s.1 in
        let e = h.knit.1 in (
          record {
            listed_there = h.knit.0;
            long = sym (ap length e ∙ looked-long code from n);
            inside = subst (λ os. AreInside code room os) (sym e) (looked-inside code room from n s.0);
            apart = subst (λ os. AreApart code os) (sym e) (looked-apart code from n);
          },
          ap (map (operand_in code)) e ∙ looked-are code from n,
          subst (λ os. AllUncopied os) (sym e) (looked-uncopied from n),
          omega (arith, fits),
        )
    ready (step.Add cs k froms n out next) o ms h =
        let s = h.stays in
        let fits = s.1 in
        let m = operands-long code froms n h.knit.0 in
        let c = collects-long cs k h.knit.1 in
        let l = front-last (modes_in code froms n) (taken_all k) (operands_in code froms n) (cells_at out (length (collects_in code cs k))) (modes-long code froms n) h.last in (
          listed-so code room froms n h.knit.0 s.0 l.0,
          collected-so cs k h.knit.1,
          columns-so froms n cs k h.steady,
          subst (λ z. AreSpared false out z (listed code froms n)) c (all-sparing code out (length (collects_in code cs k)) (listed code froms n) l.1),
          omega (arith, fits, c),
        )
    ready (step.Call entry size new args n out w) o ms h =
        let s = h.stays in
        let size_is = s.1 in
        let f = s.2 in
        let c = called-so o entry w new h.steady h.knit.1 in
        let same : f.0 ≡ c.function = entry_once f.0 c.function (functions_are f.0 f.1) c.is_in (sym (entries f.0) ∙ (sym f.2 ∙ c.entry_is)) in
        let long : length (operands_in code args n) ≡ P.params c.function = f.3 ∙ (params f.0 ∙ ap P.params same) in
        let m = length-map (listed code args n) (operand_in code) in
        let cells = c.room_is in
        (listed-so code room args n h.knit.0 s.0 h.last, omega (arith, size_is), omega (arith, long, m, cells))
    ready (step.Return froms n) o ms h = listed-so code room froms n h.knit h.stays h.last
