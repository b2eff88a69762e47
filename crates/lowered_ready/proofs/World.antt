-- What the induction over fitting trees takes for granted, and rows in graphs that are not closed yet.
use Rattle.std.proofs.Common.{◌≡◌, ℕ, suc, List, [], ◌∷◌, ◌++◌, length, Option, Some, sym, subst, ◌∙◌}
use Rattle.std.specs.Prelude.{MatchOption}
use Rattle.flow_value.specs.declared.ty.Ty.{Ty}
use Rattle.flow_value.specs.declared.ty.Ty.TheVariants as ty
use Rattle.if1_graph.specs.declared.op.Compound.{Compound}
use Rattle.if1_graph.specs.declared.op.Part.{Part}
use Rattle.if1_graph.specs.declared.op.Simple.{Simple}
use Rattle.if1_graph.specs.Rows.{row_of, output_of}
use Rattle.if1_graph.specs.Types.{Sort, Plain}
use Rattle.if1_graph.specs.Ports.{IsUpTo}
use Rattle.if1_graph.specs.Typing.{Known, Fits, StandsRight}
use Rattle.type_table.specs.declared.form.Form.{Form}
use Rattle.typed_tree.specs.Types.{IsNumber}
use Rattle.lowering_meaning.specs.FittingTreesFitting.{Header}
use Rattle.lowering.specs.declared.feed.Carried.{Carried}
use Rattle.lowering.specs.declared.feed.Carried.TheVariants.{One}
use Rattle.lowering.specs.declared.feed.Wire.{Wire}
use Rattle.lowering.specs.declared.graph.Action.TheVariants.{Row}
use Rattle.lowering.specs.declared.graph.LoweredGraph.{LoweredGraph}
use Rattle.lowering.specs.Graphs.{Lowering, node, closed_wires}
use Rattle.lowering.specs.Operations.{Lowers, row_lowered}
use Rattle.lowering_meaning.specs.Fitting.{HaveMembers}
use Rattle.lowering_meaning.proofs.Wired.{AreTyped, typed-ports}
use Rattle.lowered_ready.specs.Ports.{Outs, outputs_by, AreFilled, IsBounded, IsNamedRight}
use Rattle.lowered_ready.specs.RuleSorts.{IsSorting}
use Rattle.lowered_ready.proofs.Scopes.{Level, level, AreIn}
use Rattle.lowered_ready.proofs.Made as made
use Rattle.lowered_ready.proofs.RuleSorting.{AreSorted, closed-sorted, filled-sorted, sort-at, fit-wanted}
use Rattle.lowered_ready.proofs.Rows.{Takes}

-- a program's types, headers and graphs, and what wires carry
pub record World : Type 0 where
  pub forms : List Form
  pub names : List (List ℕ)
  pub hs : List Header
  pub bare : Ty → Ty
  pub sort : Carried → Sort
  pub at : ℕ → Option LoweredGraph
  pub sorting : IsSorting forms names hs bare sort
  pub members : HaveMembers forms
  pub booleans : IsNumber forms names 0 ty.Bool
  pub characters : IsNumber forms names 1 ty.Char
  pub integers : IsNumber forms names 2 ty.Int

-- which part of which node a graph is
abbrev pub Which : Type 0
Which = Option (Compound × Part)

module _ (x : World) where
  abbrev pub Of : List Ty → List Wire → Type 0
  Of tys ws = AreTyped x.forms x.names ws tys

  abbrev pub In : List Level → List Wire → Type 0
  In ls ws = AreIn x.forms x.names ls ws

  abbrev pub Does : Which → List Carried → List Outs → List Level → (List Wire → Type 0) → Lowering → Type 0
  Does p own before ls P f = made.Does x.forms x.names x.sort x.at p own before ls P f

  -- where names of these types are in force, values of these types
  abbrev pub To : List Ty → List Ty → Lowers → Type 0
  To γ tys g = (p : Which) (own : List Carried) (before : List Outs) (ls : List Level) (env : List Wire) → Of γ env → In (level own before ∷ ls) env → Does p own before ls (Of tys) (g env)

  pub data AllTo : List Ty → List Lowers → List Ty → Type 0 where
    to_none : (γ : List Ty) → AllTo γ [] []
    to_more : (γ : List Ty) (g : Lowers) (gs : List Lowers) (tys others : List Ty) → To γ tys g → AllTo γ gs others → AllTo γ (g ∷ gs) (tys ++ others)

  pub data DefsTo : List Ty → List (List Lowers) → List Ty → Type 0 where
    to_no_def : (γ : List Ty) → DefsTo γ [] []
    to_def : (γ : List Ty) (d : List Lowers) (ds : List (List Lowers)) (tys others : List Ty) → AllTo γ d tys → DefsTo (γ ++ tys) ds others → DefsTo γ (d ∷ ds) (tys ++ others)

  -- arms, of which the first so many see a content of these types
  pub data ArmsTo : List Ty → ℕ → List (List Lowers) → List Ty → List Ty → Type 0 where
    to_no_arm : (γ tys : List Ty) → ArmsTo γ 0 [] [] tys
    to_named_arm : (γ tys : List Ty) (named : ℕ) (g : List Lowers) (gs : List (List Lowers)) (a : Ty) (contents : List Ty) → AllTo (γ ++ a ∷ []) g tys → ArmsTo γ named gs contents tys → ArmsTo γ (suc named) (g ∷ gs) (a ∷ contents) tys
    to_arm : (γ tys : List Ty) (g : List Lowers) (gs : List (List Lowers)) → AllTo γ g tys → ArmsTo γ 0 gs [] tys → ArmsTo γ 0 (g ∷ gs) [] tys

  -- ---- rows

  -- a row of one output that may stand there, is not named by a literal, and has its bound
  pub record Stands (p : Which) (op : Simple) (ws : List Wire) (c : Carried) : Type 0 where
    pub place : StandsRight p (Some op)
    pub one : (k : Known) → IsUpTo (outputs_by x.sort k (row_of op).gives) 1
    pub bound : (ks : List Wire) (first own : ℕ) → IsBounded x.sort op (closed_wires ks first own ws) (c ∷ [])
    pub name : (ks : List Wire) (first own : ℕ) → IsNamedRight x.sort (Row op) (closed_wires ks first own ws)

  pub row-right : (p : Which) (op : Simple) (ws : List Wire) (ss : List Sort) (c : Carried) (s : Sort) → AreSorted x.sort ws ss → Takes op ss s → x.sort c ≡ s → Stands p op ws c
      → made.IsRight x.forms x.names x.sort x.at p (node (Row op) ws) (record { port = 1; types = c ∷ [] })
  row-right p op ws ss c s h t e stands ks first own =
      let vs = closed_wires ks first own ws in
      let g = closed-sorted x.sort ks first own ws ss h in
      record {
        wanted = λ k i. fit-wanted x.sort k op 1 vs ss g (t.0 k (λ port. i.at port ∙ sort-at x.sort vs ss g port)).0;
        gives = λ k i. ((stands.one k, subst (λ z. MatchOption (output_of op 1) ⊥ (λ want. Fits k want z)) (sym e) (t.0 k (λ port. i.at port ∙ sort-at x.sort vs ss g port)).1), tt);
        ports = λ k i. subst (AreFilled x.sort k (length (row_of op).operands) (row_of op).rest (c ∷ [])) (sym (filled-sorted x.sort 1 vs ss g)) (t.1 x.sort k (c ∷ []));
        bound = stands.bound ks first own;
        name = stands.name ks first own;
        place = stands.place;
      }

  pub row-does : (p : Which) (own : List Carried) (before : List Outs) (ls : List Level) (op : Simple) (ws : List Wire) (ss : List Sort) (n : ℕ) (a : Ty) (s : Sort) → AreSorted x.sort ws ss → Takes op ss s
      → Plain (x.bare a) ≡ s → IsNumber x.forms x.names n a → Stands p op ws (One n) → In (level own before ∷ ls) ws → Does p own before ls (Of (a ∷ [])) (row_lowered op ws (n ∷ []))
  row-does p own before ls op ws ss n a s h t e num stands i =
      made.node-does x.forms x.names x.sort x.at p own before ls (Of (a ∷ [])) (Row op) ws 1 (One n ∷ []) (row-right p op ws ss (One n) s h t (x.sorting.values n a num ∙ e) stands) (λ ks first own. tt) i
      (typed-ports x.forms x.names (n ∷ []) (a ∷ []) (num, tt) (suc (length before)) 1)
