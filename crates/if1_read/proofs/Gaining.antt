-- What a line does to one level.
use Rattle.std.proofs.Common.{◌≡◌, ℕ, suc, Bool, List, [], ◌∷◌, ◌++◌, Option, Some, None, sym, ap, subst, ◌∙◌, append_assoc, append-nil}
use Rattle.if1_graph.specs.declared.line.Line.{Line}
use Rattle.if1_graph.specs.declared.line.Line.TheVariants as line
use Rattle.if1_graph.specs.Spelling.{IsLabel, IsName, IsQuotable}
use Rattle.if1_graph.specs.declared.graph.Graph.{Graph}
use Rattle.if1_graph.specs.declared.graph.Node.{Node}
use Rattle.if1_graph.specs.declared.graph.Edge.{Edge}
use Rattle.if1_graph.specs.Lines.{edge_line}
use Rattle.if1_read.specs.declared.judge.Known.{Known}
use Rattle.if1_read.specs.declared.part.Part.{Part}
use Rattle.if1_read.specs.declared.level.Level.{Level}
use Rattle.if1_read.specs.Known.{IsTableSound, IsClear}
use Rattle.if1_read.specs.Made.{nodes_of, edges_of, IsEdgeMade, IsBodyMade, ArePartsMade, AreFunctionsMade}
use Rattle.if1_read.specs.Stands.{UnitPart, UnitStands, InnerPart, InnerStands, Gains, GainsNode, GainsEdge, LevelEnds}
use Rattle.if1_read.proofs.Bodies.{IsGiven, body_node, body_edge, parts_part, functions_function}

-- ---- the last graph ends

pub inner_ends : (k : Known) (m : ℕ) (gs hs : List Graph) (o : Option Part) (done : List Line) → IsTableSound k.table → InnerStands k m gs o done → LevelEnds k gs o hs →
    ArePartsMade k (suc m) done hs
inner_ends k m gs hs None done sound s e = subst (λ (xs : List Graph). ArePartsMade k (suc m) done xs) (sym e) s
inner_ends k m gs hs (Some p) done sound s e =
    subst (λ (xs : List Graph). ArePartsMade k (suc m) done xs) (sym e.2)
    (subst (λ (ls : List Line). ArePartsMade k (suc m) ls (gs ++ e.0 ∷ [])) (sym s.lines) (parts_part k m s.before s.inside gs p e.0 sound s.parts s.inner s.body e.1))

pub unit_ends : (k : Known) (is : List (ℕ × List ℕ)) (gs hs : List Graph) (o : Option Part) (done : List Line) → IsTableSound k.table → UnitStands k is gs o done →
    LevelEnds k gs o hs → AreFunctionsMade k 200 done is hs
unit_ends k is gs hs None done sound s e = subst (λ (xs : List Graph). AreFunctionsMade k 200 done is xs) (sym e) s
unit_ends k is gs hs (Some p) done sound s e =
    subst (λ (xs : List Graph). AreFunctionsMade k 200 done is xs) (sym e.2)
    (subst (λ (ls : List Line). AreFunctionsMade k 200 ls is (gs ++ e.0 ∷ [])) (sym s.lines)
    (functions_function k 200 s.before s.inside is gs p e.0 sound s.functions s.outer s.body e.1))

-- ---- the graph whose lines are read gains something

module _ (k : Known) (before after : Level) (ns : List Node) (es : List Edge) (js : List Line) (g : Gains before after ns es) where
  abbrev pub BodyGains : ℕ → Type 0
  BodyGains m = (b : List Line) → IsBodyMade k m b (nodes_of g.old) (edges_of g.old) → IsBodyMade k m (b ++ js) (nodes_of g.new) (edges_of g.new)

  inner_part : (m : ℕ) (done : List Line) → BodyGains m → InnerPart k m before.graphs g.old done → InnerPart k m after.graphs g.new (done ++ js)
  inner_part m done f s = record {
    before = s.before;
    inside = s.inside ++ js;
    lines =
        ap (λ (ls : List Line). ls ++ js) s.lines
        ∙ append_assoc s.before (line.Subgraph g.old.name ∷ s.inside) js
        ∙ ap (λ (x : List ℕ). s.before ++ (line.Subgraph x ∷ s.inside ++ js)) (sym g.name_is);
    parts = subst (λ (gs : List Graph). ArePartsMade k (suc m) s.before gs) (sym g.graphs) s.parts;
    inner = record { fun = g.fun_is ∙ s.inner.fun; inner = g.exported_is ∙ s.inner.inner; name = subst IsName (sym g.name_is) s.inner.name };
    body = f s.inside s.body;
  }

  pub inner_gains : (m : ℕ) (done : List Line) → BodyGains m → InnerStands k m before.graphs before.part done → InnerStands k m after.graphs after.part (done ++ js)
  inner_gains m done f s =
      subst (λ (o : Option Part). InnerStands k m after.graphs o (done ++ js)) (sym g.now)
      (inner_part m done f (subst (λ (o : Option Part). InnerStands k m before.graphs o done) g.was s))

  header : (p q : Part) (ls : List Line) → q.exported ≡ p.exported → q.fun ≡ p.fun → q.name ≡ p.name → line.Function p.exported p.fun p.name ∷ ls ≡ line.Function q.exported q.fun q.name ∷ ls
  header p q ls a b c =
      ap (λ (x : Bool). line.Function x p.fun p.name ∷ ls) (sym a)
      ∙ ap (λ (x : ℕ). line.Function q.exported x p.name ∷ ls) (sym b)
      ∙ ap (λ (x : List ℕ). line.Function q.exported q.fun x ∷ ls) (sym c)

  unit_part : (is : List (ℕ × List ℕ)) (done : List Line) → BodyGains 200 → UnitPart k is before.graphs g.old done → UnitPart k is after.graphs g.new (done ++ js)
  unit_part is done f s = record {
    before = s.before;
    inside = s.inside ++ js;
    lines =
        ap (λ (ls : List Line). ls ++ js) s.lines
        ∙ append_assoc s.before (line.Function g.old.exported g.old.fun g.old.name ∷ s.inside) js
        ∙ ap (λ (ls : List Line). s.before ++ ls) (header g.old g.new (s.inside ++ js) g.exported_is g.fun_is g.name_is);
    functions = subst (λ (gs : List Graph). AreFunctionsMade k 200 s.before is gs) (sym g.graphs) s.functions;
    outer = record {
      fun = subst IsLabel (sym g.fun_is) s.outer.fun;
      clear = subst (λ (l : ℕ). IsClear k.table l) (sym g.fun_is) s.outer.clear;
      name = subst IsQuotable (sym g.name_is) s.outer.name;
    };
    body = f s.inside s.body;
  }

  pub unit_gains : (is : List (ℕ × List ℕ)) (done : List Line) → BodyGains 200 → UnitStands k is before.graphs before.part done → UnitStands k is after.graphs after.part (done ++ js)
  unit_gains is done f s =
      subst (λ (o : Option Part). UnitStands k is after.graphs o (done ++ js)) (sym g.now)
      (unit_part is done f (subst (λ (o : Option Part). UnitStands k is before.graphs o done) g.was s))

-- ---- a node, an edge

pub node_gained : (k : Known) (m : ℕ) (before after : Level) (n : Node) (js : List Line) (g : GainsNode before after n) → IsGiven k m js n →
    BodyGains k before after (n ∷ []) [] js g.gains m
node_gained k m before after n js g given b made =
    let t = body_node k m b js (nodes_of g.gains.old) n (edges_of g.gains.old) made given g.room in
    subst (λ (ns : List Node). IsBodyMade k m (b ++ js) ns (edges_of g.gains.new)) (sym g.gains.nodes)
    (subst (λ (es : List Edge). IsBodyMade k m (b ++ js) (nodes_of g.gains.old ++ n ∷ []) es) (sym (g.gains.edges ∙ append-nil (edges_of g.gains.old))) t)

pub edge_gained : (k : Known) (m : ℕ) (before after : Level) (e : Edge) (g : GainsEdge k before after e) → IsEdgeMade k e →
    BodyGains k before after [] (e ∷ []) (edge_line e ∷ []) g.gains m
edge_gained k m before after e g is b made =
    let t = body_edge k m b (nodes_of g.gains.old) (edges_of g.gains.old) e made is in
    subst (λ (ns : List Node). IsBodyMade k m (b ++ edge_line e ∷ []) ns (edges_of g.gains.new)) (sym (g.gains.nodes ∙ append-nil (nodes_of g.gains.old)))
    (subst (λ (es : List Edge). IsBodyMade k m (b ++ edge_line e ∷ []) (nodes_of g.gains.old) es) (sym g.gains.edges) t)
