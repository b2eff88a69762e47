-- What is made of the data of a unit is its code, and whole.
use Rattle.std.proofs.Common.{◌≡◌, ◌+◌, ◌<◌, ℕ, suc, List, length, sym, ap, subst, ◌∙◌, arith}
use Rattle.if1_graph.specs.declared.graph.Unit1.{Unit1}
use Rattle.if1_graph.specs.Ready.{IsReady}
use Rattle.if1_marks.specs.Sound.{IsSound}
use Rattle.run_code.specs.Made.{Plan}
use Rattle.made_store.specs.Settings.{Shares}
use Rattle.unit_data.specs.FiringOrderOrders.{order_by}
use Rattle.unit_whole.specs.Plans.{functions_of, levels_of}
use Rattle.step_code.specs.declared.code.Code.{Code}
use Rattle.unit_whole.specs.PlanData.{PlanData}
use Rattle.unit_whole.specs.Parts.{table_of}
use Rattle.unit_whole.specs.Stands.{Stands}
use Rattle.unit_whole.specs.Makes.{AreKnit, AreTold, IsCodeOf}
use Rattle.unit_whole.specs.Totals.{CanEnter}
use Rattle.unit_data.specs.Data.{IsDataOf, planned, shared, tables_of}
use Rattle.unit_counts.specs.Runs.{IsUnitCode}
use Rattle.unit_counts.specs.Laws.{DoesToldCodeCount, DoesToldCodeWrite}
use Rattle.unit_counts.proofs.QuickCode.{quick-unit-code}
use Rattle.unit_counts.proofs.WritesOf.{quick-writes}
use Rattle.unit_whole.specs.Quick.{RunsSame}
use Rattle.unit_whole.specs.Laws.{AreUnitCodesEntered, IsMadeOfData}
use Rattle.unit_code.specs.Codes.{IsCodeOfUnit, IsMadeOf}
use Rattle.unit_code.proofs.Counted.{places-many}

module _ (u : Unit1) (ready : IsReady u) (D : PlanData) (is : IsDataOf u D) (levels : ℕ) (functions : List ℕ) (many : levels ≡ length D.graphs) (all : functions ≡ functions_of u) (code : Code) where
  abbrev P : Plan
  P = planned u is.0 D

  abbrev S : Shares
  S = shared u is.0 D

  -- one more than there are graphs
  deep : levels ≡ levels_of u
  deep = many ∙ (is.1.many ∙ ap suc (places-many u ready.formed))

  unit-code : IsCodeOf P S levels functions code → IsUnitCode u (order_by u is.0) (tables_of D) code
  unit-code h = subst (λ n. IsCodeOf P S n (functions_of u) code) deep (subst (λ fs. IsCodeOf P S levels fs code) all h)

  unit-told : AreTold D P S levels functions code → AreTold D P S (levels_of u) (functions_of u) code
  unit-told h = subst (λ n. AreTold D P S n (functions_of u) code) deep (subst (λ fs. AreTold D P S levels fs code) all h)

  unit-knit : AreKnit D P levels functions code → AreKnit D P (levels_of u) (functions_of u) code
  unit-knit h = subst (λ n. AreKnit D P n (functions_of u) code) deep (subst (λ fs. AreKnit D P levels fs code) all h)

  code-made : DoesToldCodeCount → DoesToldCodeWrite → (quick : Code) → RunsSame code quick → (entries rooms : List ℕ) → entries ≡ D.entries
      → ((P : Plan) (S : Shares) → Stands D P S → IsCodeOf P S levels functions code) → ((P : Plan) (S : Shares) → Stands D P S → AreTold D P S levels functions code)
      → IsMadeOf u (record { code = quick; entries = entries; rooms = rooms })
  code-made law writing quick runs entries rooms same made told =
      let own = unit-code (made P S is.1.stands) in
      let counts = law D u (order_by u is.0) (tables_of D) code ready is.1.in_order is.1.stands is.1.counted own (unit-told (told P S is.1.stands)) in
      let so = quick-unit-code u (order_by u is.0) (tables_of D) code quick runs own counts in
      record {
        order = order_by u is.0;
        tables = tables_of D;
        in_order = is.1.in_order;
        sized = is.1.tables;
        made = so.0;
        counts = so.1;
        writes = quick-writes u (order_by u is.0) (tables_of D) code quick runs (writing D u (order_by u is.0) (tables_of D) code is.1.written (unit-told (told P S is.1.stands)));
        entries = λ f. ap (λ es. table_of es f) (sym same);
      }

  -- it can be entered at each function of the unit
  pub code-of-unit : DoesToldCodeCount → DoesToldCodeWrite → AreUnitCodesEntered → IsSound u → (quick : Code) → RunsSame code quick → (entries rooms : List ℕ) → entries ≡ D.entries → ((f : ℕ) → table_of rooms f ≡ table_of D.params f + table_of D.extents f)
      → ((P : Plan) (S : Shares) → Stands D P S → IsCodeOf P S levels functions code) → ((P : Plan) (S : Shares) → Stands D P S → AreTold D P S levels functions code)
      → ((P : Plan) (S : Shares) → Stands D P S → 0 < length D.literals → AreKnit D P levels functions code)
      → IsCodeOfUnit u (record { code = quick; entries = entries; rooms = rooms })
  code-of-unit counts writing enters sound quick runs entries rooms same own made told knit =
      record {
        code = code-made counts writing quick runs entries rooms same made told;
        enters = λ f i.
            let room = own f in
            let params = is.1.stands.params f in
            let extent = is.1.stands.extents f in
            subst (λ es. CanEnter quick (table_of es f) (table_of rooms f)) (sym same)
            (enters D u (order_by u is.0) (tables_of D) code quick ready sound of-data runs f (table_of rooms f) i (omega (arith, room, params, extent)));
      }
    where
      of-data : IsMadeOfData D u (order_by u is.0) (tables_of D) code
      of-data =
          record {
            in_order = is.1.in_order;
            tables = is.1.tables;
            stands = is.1.stands;
            written = is.1.written;
            few = is.1.steps;
            made = unit-code (made P S is.1.stands);
            told = unit-told (told P S is.1.stands);
            knit = unit-knit (knit P S is.1.stands is.1.some);
          }
