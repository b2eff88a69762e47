-- Tables of the data are those of the plans that stand in it.
use Rattle.std.proofs.Common.{◌≡◌, ℕ, suc, ◌+◌, List, [], ◌∷◌, eqb, get_or, if◌then◌else◌, refl, sym, ap, ◌∙◌, arith}
use Rattle.graph_meaning.specs.Demand.{Vertex}
use Rattle.run_code.specs.Made.{Plan, entry_from, kind_size, nodes_size}
use Rattle.made_store.specs.Settings.{Shares}
use Rattle.plan_data.specs.declared.plan.PlanData.{PlanData}
use Rattle.plan_data.specs.declared.plan.PlanNode.{PlanNode}
use Rattle.plan_data.specs.Parts.{IsFormed, graph_nodes, nodes_steps, size_in}
use Rattle.plan_data.specs.Parts as parts
use Rattle.plan_data.specs.Stands.{AreNodes, Stands}
use Rattle.code_maker.proofs.Standing.{work-is}
use Rattle.plan_tables.specs.Above.{entry_at}
use Rattle.plan_tables.specs.Laws.{AreTablesOfPlans}

pub entry-same : (D E : PlanData) → D.sizes ≡ E.sizes → (fs : List ℕ) (a f : ℕ) → entry_at D fs a f ≡ entry_at E fs a f
entry-same D E same [] a f = refl
entry-same D E same (h ∷ hs) a f =
    ap (λ x. if eqb h f then a else x) (entry-same D E same hs (a + suc (size_in D h)) f ∙ ap (λ ns. entry_at E hs (a + suc (get_or ns h 0)) f) same)

module _ (D : PlanData) (P : Plan) (S : Shares) (formed : IsFormed D) (stands : Stands D P S) where
  nodes-are : (g : ℕ) (ns : List PlanNode) (vs : List Vertex) → AreNodes D P S g ns vs → nodes_size P vs ≡ nodes_steps D ns
  nodes-are g [] [] h = refl
  nodes-are g [] (v ∷ vs) h = absurd h
  nodes-are g (n ∷ ns) [] h = absurd h
  nodes-are g (n ∷ ns) (v ∷ vs) h =
      let a : kind_size P v.kind ≡ parts.work_steps D n.work = ap (kind_size P) h.0.kind ∙ work-is D formed P S stands n.work n.width in
      let b = nodes-are g ns vs h.1 in
      omega (arith, a, b)

  entries-are : (fs : List ℕ) (a f : ℕ) → entry_at D fs a f ≡ entry_from P fs a f
  entries-are [] a f = refl
  entries-are (h ∷ hs) a f =
      ap (λ x. if eqb h f then a else x) (ap (λ q. entry_at D hs (a + suc q) f) (sym (stands.sizes h)) ∙ entries-are hs (a + suc (P.size h)) f)

pub tables-are : AreTablesOfPlans
tables-are D P S functions formed stands entries = (
  λ g. stands.sizes g ∙ (formed.sizes g ∙ sym (nodes-are D P S formed stands g (graph_nodes D g) (P.nodes g) (stands.nodes g))),
  λ f in_f. stands.entries f ∙ (entries f in_f ∙ entries-are D P S formed stands functions 0 f),
)
