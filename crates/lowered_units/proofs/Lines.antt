-- What the lines of a fitting program carry is of its types.
use Rattle.std.proofs.Common.{ℕ, suc, ◌+◌, ◌<◌, inl, inr, List, [], ◌∷◌, ◌++◌, length}
use Rattle.type_table.specs.declared.form.Form.{Form}
use Rattle.lowering.specs.declared.feed.Feed.{Feed}
use Rattle.lowering.specs.declared.feed.Feed.TheVariants.{Literal, Named, Absent, Port}
use Rattle.lowering.specs.declared.feed.Carried.{Carried}
use Rattle.lowering.specs.declared.feed.Carried.TheVariants.{One, Many, Callee}
use Rattle.lowering.specs.declared.feed.Wire.{Wire}
use Rattle.lowering.specs.Feeds.{one_carried, carried}
use Rattle.lowering.specs.declared.graph.Action.{Action}
use Rattle.lowering.specs.declared.graph.Lowered.{Lowered}
use Rattle.lowering.specs.Graphs.{callee, graph_lines, size, inputs}
use Rattle.lowered_units.proofs.Built.{IsLineType, IsValueType, IsGap, IsGoodFeed, IsGood, AreGood, AreFilled, Fills, fills_row, fills_reduction, fills_call, Built, b_only, b_then, b_node, b_whole, b_tag, AllBuilt, no_graph, a_graph}
use Rattle.lowered_units.proofs.Built as built
use Rattle.lowered_units.proofs.Rights.{inputs-good}

module _ (forms : List Form) (functions : ℕ) (integers : 2 < length forms) where
  abbrev pub AreLines : List Carried → Type 0
  AreLines [] = Unit {0}
  AreLines (c ∷ cs) = IsLineType forms functions c × AreLines cs

  pub lines-both : (xs ys : List Carried) → AreLines xs → AreLines ys → AreLines (xs ++ ys)
  lines-both [] ys a b = b
  lines-both (x ∷ xs) ys a b = (a.0, lines-both xs ys a.1 b)

  good-line : (f : Feed) (t : Carried) → IsGoodFeed forms functions f t → AreLines (one_carried f t)
  good-line (Literal c) (One t) h = (h.0, tt)
  good-line (Literal c) (Many t) h = absurd h
  good-line (Literal c) (Callee f) h = absurd h
  good-line (Named s) t h = absurd h
  good-line Absent t h = tt
  good-line (Port up n q) (One t) h = (h.1, tt)
  good-line (Port up n q) (Many t) h = (h.1, tt)
  good-line (Port up n q) (Callee f) h = absurd h.1

  gap-line : (f : Feed) (t : Carried) → IsGap f → AreLines (one_carried f t)
  gap-line Absent t h = tt
  gap-line (Literal c) t h = absurd h
  gap-line (Named s) t h = absurd h
  gap-line (Port up n q) t h = absurd h

  good-lines : (ws : List Wire) → AreGood forms functions ws → AreLines (carried ws)
  good-lines [] h = tt
  good-lines (w ∷ ws) h = lines-both (one_carried w.feed w.ty) (carried ws) (good-line w.feed w.ty h.0) (good-lines ws h.1)

  filled-lines : (ws : List Wire) → AreFilled forms functions ws → AreLines (carried ws)
  filled-lines [] h = tt
  filled-lines (w ∷ []) h = lines-both (one_carried w.feed w.ty) [] (good-line w.feed w.ty h) tt
  filled-lines (w ∷ v ∷ vs) h = lines-both (one_carried w.feed w.ty) (carried (v ∷ vs)) (elim h.0 [ inl g ↦ good-line w.feed w.ty g | inr g ↦ gap-line w.feed w.ty g ]) (filled-lines (v ∷ vs) h.1)

  fills-lines : (a : Action) (ws : List Wire) → Fills forms functions a ws → AreLines (callee a ++ carried ws)
  fills-lines _ _ (fills_row op ws h k) = filled-lines ws k
  fills-lines _ _ (fills_reduction g name ws h k) = (integers, good-lines ws k)
  fills-lines _ _ (fills_call f ws h k) = (h, good-lines ws k)

  mutual
    pub built-lines : (n q : ℕ) (m : Lowered) → Built forms functions n q m → AreLines m.lines
    built-lines _ _ _ (b_only n q ws h) = tt
    built-lines _ _ _ (b_then n q a b h k) = lines-both a.lines b.lines (built-lines n q a h) (built-lines (n + length a.nodes) (q + length a.graphs) b k)
    built-lines _ _ _ (b_node n q act ins port ts h one k) = fills-lines act ins h
    built-lines _ _ _ (b_whole n q c ms arms given ts h s l k) = lines-both (graph_lines ms) (carried (inputs ms)) (all-lines q ms h) (good-lines (inputs ms) (inputs-good forms functions q ms h))
    built-lines _ _ _ (b_tag n q u ms arms ts g h s l k) = lines-both (graph_lines ms) (carried (u ∷ inputs ms)) (all-lines q ms h) (good-lines (u ∷ inputs ms) (g, inputs-good forms functions q ms h))

    pub all-lines : (q : ℕ) (ms : List Lowered) → AllBuilt forms functions q ms → AreLines (graph_lines ms)
    all-lines _ _ (no_graph q) = tt
    all-lines _ _ (a_graph q m ms h r) =
        lines-both (m.lines ++ carried m.values) (graph_lines ms) (lines-both m.lines (carried m.values) (built-lines 0 (suc q) m h) (good-lines m.values (built.values-good forms functions 0 (suc q) m h))) (all-lines (q + size m) ms r)
