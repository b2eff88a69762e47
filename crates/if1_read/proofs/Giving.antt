-- Lines that give nodes, edges and graphs, one after another.
use Rattle.std.proofs.Common.{ℕ, List, ◌∷◌, ◌++◌, length, sym, subst, append_assoc}
use Rattle.if1_graph.specs.declared.line.Line.{Line}
use Rattle.if1_graph.specs.declared.line.Line.TheVariants as line
use Rattle.if1_graph.specs.declared.graph.Graph.{Graph}
use Rattle.if1_graph.specs.declared.graph.Graph.TheViews.{out-Graph}
use Rattle.if1_graph.specs.declared.graph.Node.{Node}
use Rattle.if1_graph.specs.declared.graph.Edge.{Edge}
use Rattle.if1_graph.specs.declared.graph.Unit1.{Unit1}
use Rattle.if1_graph.specs.Reads.{GivesBody, GivesParts, GivesUnit, no_line, simple, compound, edge, literal, no_part, part, no_graph, import, function}

pub body_more : (u : Unit1) (ks ls : List Line) (ms ns : List Node) (ds es : List Edge) → GivesBody u ks ms ds → GivesBody u ls ns es →
    GivesBody u (ks ++ ls) (ms ++ ns) (ds ++ es)
body_more u ks ls ms ns ds es no_line h = h
body_more u ks ls ms ns ds es (simple {ls = ks0} {ns = ms0} {es = ds0} n label op before name is g) h =
    simple n label op before name is (body_more u ks0 ls ms0 ns ds0 es g h)
body_more u ks ls ms ns ds es (compound {ps = ps} {ls = ks0} {ns = ms0} {es = ds0} n rest label op gs assoc before name is p g) h =
    let first = line.Open rest ∷ ps in
    let last = line.Close label op (length gs) assoc before name ∷ ks0 in
    subst (λ (js : List Line). GivesBody u js ((n ∷ ms0) ++ ns) (ds0 ++ es)) (sym (append_assoc first last ls))
    (compound n rest label op gs assoc before name is p (body_more u ks0 ls ms0 ns ds0 es g h))
body_more u ks ls ms ns ds es (edge {ls = ks0} {ns = ms0} {es = ds0} from out node port ty takes name g) h =
    edge from out node port ty takes name (body_more u ks0 ls ms0 ns ds0 es g h)
body_more u ks ls ms ns ds es (literal {ls = ks0} {ns = ms0} {es = ds0} node port ty text name g) h =
    literal node port ty text name (body_more u ks0 ls ms0 ns ds0 es g h)

pub parts_more : (u : Unit1) (ks ls : List Line) (gs hs : List Graph) → GivesParts u ks gs → GivesParts u ls hs → GivesParts u (ks ++ ls) (gs ++ hs)
parts_more u ks ls gs hs no_part h = h
parts_more u ks ls gs hs (part {ls = bs} {ps = ps} {ns = ns} {es = es} {gs = gs0} g b is p) h =
    subst (λ (js : List Line). GivesParts u js ((g ∷ gs0) ++ hs)) (sym (append_assoc (line.Subgraph (out-Graph g).name ∷ bs) ps ls))
    (part g b is (parts_more u ps ls gs0 hs p h))

pub unit_more : (u : Unit1) (ks ls : List Line) (is js : List (ℕ × List ℕ)) (gs hs : List Graph) → GivesUnit u ks is gs → GivesUnit u ls js hs →
    GivesUnit u (ks ++ ls) (is ++ js) (gs ++ hs)
unit_more u ks ls is js gs hs no_graph h = h
unit_more u ks ls is js gs hs (import {ls = ks0} {is = is0} {gs = gs0} ty name g) h = import ty name (unit_more u ks0 ls is0 js gs0 hs g h)
unit_more u ks ls is js gs hs (function {bs = bs} {ls = ks0} {ns = ns} {es = es} {is = is0} {gs = gs0} g b same r) h =
    let header = line.Function (out-Graph g).exported (out-Graph g).fun (out-Graph g).name in
    subst (λ (fs : List Line). GivesUnit u fs (is0 ++ js) ((g ∷ gs0) ++ hs)) (sym (append_assoc (header ∷ bs) ks0 ls))
    (function g b same (unit_more u ks0 ls is0 js gs0 hs r h))
