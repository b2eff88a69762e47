-- A line without a fault leads on.
use Rattle.std.proofs.Common.{◌≡◌, ℕ, suc, ◌<◌, ◌≤◌, ◌-◌, Bool, false, List, [], ◌∷◌, ◌++◌, length, length-append, Option, None, refl, sym, ap, subst, ◌∙◌, append_assoc, append-nil, arith}
use Rattle.std.specs.Prelude.{max}
use Rattle.if1_graph.specs.declared.line.Line.{Line}
use Rattle.if1_graph.specs.declared.line.Line.TheVariants as line
use Rattle.if1_graph.specs.Spelling.{IsSpelled, IsLabel, IsName, IsQuotable}
use Rattle.if1_graph.specs.declared.graph.Graph.{Graph}
use Rattle.if1_graph.specs.declared.graph.Node.{Node}
use Rattle.if1_graph.specs.declared.graph.Edge.{Edge}
use Rattle.if1_graph.specs.declared.graph.TypeEntry.{TypeEntry}
use Rattle.if1_graph.specs.declared.graph.Unit1.{Unit1}
use Rattle.if1_graph.specs.Units.{most_levels}
use Rattle.if1_graph.specs.Formed.{IsOpcode, IsType, IsImport}
use Rattle.if1_graph.specs.Lines.{edge_line}
use Rattle.if1_graph.specs.Reads.{IsSimpleNode, IsCompoundNode, deepest}
use Rattle.if1_read.specs.declared.judge.Known.{Known}
use Rattle.if1_read.specs.declared.part.Part.{Part}
use Rattle.if1_read.specs.declared.level.Level.{Level}
use Rattle.if1_read.specs.declared.machine.Machine.{Machine}
use Rattle.if1_read.specs.Known.{IsTableSound, IsClear, Fits}
use Rattle.if1_read.specs.Made.{nodes_of, edges_of, NoLiteralTakes, IsEdgeMade, IsBodyMade, ArePartsMade, AreFunctionsMade}
use Rattle.if1_read.specs.Stands.{UnitPart, UnitStands, InnerPart, InnerStands, Stands, unit, Runs, LevelEnds, IsNewPart}
use Rattle.if1_read.specs.Effects.{StaysAround, AddsNode, AddsEdge, BeginsFunction, BeginsSubgraph, Imports, Opens, Closes}
use Rattle.if1_read.proofs.Bodies.{IsGiven, body_none, functions_none, functions_import, simple_given, compound_given}
use Rattle.if1_read.proofs.Stack.{unit_alone, leads, inner_leads, opens, closes}
use Rattle.if1_read.proofs.Gaining.{inner_ends, unit_ends, inner_gains, unit_gains, node_gained, edge_gained}

-- ---- how deep nodes are open

abbrev pub IsDeep : List Line → ℕ → Type 0
IsDeep done n = (rest : List Line) → deepest 0 (done ++ rest) ≤ max most_levels (deepest n rest)

-- a line that neither opens nor closes a node
abbrev pub IsLevel : Line → Type 0
IsLevel l = (n : ℕ) (rest : List Line) → deepest n (l ∷ rest) ≡ deepest n rest

put_last : (done rest : List Line) (l : Line) → deepest 0 ((done ++ l ∷ []) ++ rest) ≡ deepest 0 (done ++ l ∷ rest)
put_last done rest l = ap (deepest 0) (append_assoc done (l ∷ []) rest)

level_deep : (done : List Line) (l : Line) (m n : ℕ) → IsLevel l → n ≡ m → IsDeep done m → IsDeep (done ++ l ∷ []) n
level_deep done l m n level same deep rest =
    subst (λ (x : ℕ). deepest 0 ((done ++ l ∷ []) ++ rest) ≤ max most_levels (deepest x rest)) (sym same)
    (omega (arith, put_last done rest l, level m rest, deep (l ∷ rest)))

open_deep : (done : List Line) (words : List ℕ) (m n : ℕ) → n ≡ suc m → m ≤ most_levels → IsDeep done m → IsDeep (done ++ line.Open words ∷ []) n
open_deep done words m n same room deep rest =
    subst (λ (x : ℕ). deepest 0 ((done ++ line.Open words ∷ []) ++ rest) ≤ max most_levels (deepest x rest)) (sym same)
    (omega (arith, put_last done rest (line.Open words), room, deep (line.Open words ∷ rest)))

close_deep : (done : List Line) (label op count : ℕ) (assoc before name : List ℕ) (m n : ℕ) → n ≡ m - 1 → m ≤ most_levels → IsDeep done m →
    IsDeep (done ++ line.Close label op count assoc before name ∷ []) n
close_deep done label op count assoc before name m n same room deep rest =
    subst (λ (x : ℕ). deepest 0 ((done ++ line.Close label op count assoc before name ∷ []) ++ rest) ≤ max most_levels (deepest x rest)) (sym same)
    (omega (arith, put_last done rest (line.Close label op count assoc before name), room, deep (line.Close label op count assoc before name ∷ rest)))

pub nothing_runs : (k : Known) (m : Machine) → m.imports ≡ [] → m.outer.items ≡ [] → m.level.graphs ≡ [] → m.level.part ≡ None → Runs k [] m
nothing_runs k m imports outer graphs part =
    let here : UnitStands k m.imports m.level.graphs m.level.part [] =
    subst (λ (o : Option Part). UnitStands k m.imports m.level.graphs o []) (sym part)
    (subst (λ (gs : List Graph). AreFunctionsMade k 200 [] m.imports gs) (sym graphs)
    (subst (λ (is : List (ℕ × List ℕ)). AreFunctionsMade k 200 [] is []) (sym imports) (functions_none k 200))) in
    let none : length m.outer.items ≡ 0 = ap length outer in
    record {
      stands = subst (λ (ls : List Level). Stands k m.imports ls m.level []) (sym outer) (unit m.level [] here);
      depth = omega (arith, none);
      deep = λ rest. subst (λ (n : ℕ). deepest 0 rest ≤ max most_levels (deepest n rest)) (sym none) (omega arith);
    }

module _ (k : Known) (m n : Machine) (done : List Line) (runs : Runs k done m) where
  kept : (l : Line) → StaysAround m n → IsLevel l → Stands k m.imports m.outer.items n.level (done ++ l ∷ []) → Runs k (done ++ l ∷ []) n
  kept l same level stands = record {
    stands =
        subst (λ (is : List (ℕ × List ℕ)). Stands k is n.outer.items n.level (done ++ l ∷ [])) (sym same.imports)
        (subst (λ (ls : List Level). Stands k m.imports ls n.level (done ++ l ∷ [])) (sym same.outer) stands);
    depth = subst (λ (ls : List Level). length ls ≤ most_levels) (sym same.outer) runs.depth;
    deep = level_deep done l (length m.outer.items) (length n.outer.items) level (ap length same.outer) runs.deep;
  }

  -- ---- nodes and edges

  pub node_goes : (node : Node) (label op : ℕ) (before name : List ℕ) → AddsNode m n node → IsSimpleNode node label op before name → IsSpelled (line.Node label op before name) →
      Runs k (done ++ line.Node label op before name ∷ []) n
  node_goes node label op before name adds is sp =
      let l = line.Node label op before name in
      let g = adds.gains in
      let given : (d : ℕ) → IsGiven k d (l ∷ []) node = λ d. simple_given k d node label op before name is sp (subst IsOpcode is.op_is g.op) in
      kept l adds.around (λ i rest. refl)
      (leads k m.level n.level (l ∷ []) m.imports m.outer.items done
      (λ d. unit_gains k m.level n.level (node ∷ []) [] (l ∷ []) g.gains m.imports d (node_gained k 200 m.level n.level node (l ∷ []) g (given 200)))
      (λ i d. inner_gains k m.level n.level (node ∷ []) [] (l ∷ []) g.gains i d (node_gained k i m.level n.level node (l ∷ []) g (given i))) runs.stands)

  pub edge_goes : (e : Edge) → AddsEdge k m n e → IsLevel (edge_line e) → NoLiteralTakes e e.from → IsSpelled (edge_line e) → Runs k (done ++ edge_line e ∷ []) n
  edge_goes e adds level takes sp =
      let l = edge_line e in
      let g = adds.gains in
      let made : IsEdgeMade k e = record { spelled = sp; takes = takes; ty = g.clear } in
      kept l adds.around level
      (leads k m.level n.level (l ∷ []) m.imports m.outer.items done
      (λ d. unit_gains k m.level n.level [] (e ∷ []) (l ∷ []) g.gains m.imports d (edge_gained k 200 m.level n.level e g made))
      (λ i d. inner_gains k m.level n.level [] (e ∷ []) (l ∷ []) g.gains i d (edge_gained k i m.level n.level e g made)) runs.stands)

  -- ---- graphs

  new_body : (d : ℕ) (p : Part) (exported : Bool) (fun : ℕ) (name : List ℕ) → IsNewPart exported fun name p → IsBodyMade k d [] (nodes_of p) (edges_of p)
  new_body d p exported fun name new =
      subst (λ (ns : List Node). IsBodyMade k d [] ns (edges_of p)) (sym new.nodes)
      (subst (λ (es : List Edge). IsBodyMade k d [] [] es) (sym new.edges) (body_none k d))

  function_part : (exported : Bool) (fun : ℕ) (name : List ℕ) (gs : List Graph) (p : Part) → IsNewPart exported fun name p → IsSpelled (line.Function exported fun name) →
      IsClear k.table fun → AreFunctionsMade k 200 done m.imports gs → UnitPart k m.imports gs p (done ++ line.Function exported fun name ∷ [])
  function_part exported fun name gs p new sp clear made = record {
    before = done;
    inside = [];
    lines =
        ap (λ (x : Bool). done ++ line.Function x fun name ∷ []) (sym new.exported_is)
        ∙ ap (λ (x : ℕ). done ++ line.Function p.exported x name ∷ []) (sym new.fun_is)
        ∙ ap (λ (x : List ℕ). done ++ line.Function p.exported p.fun x ∷ []) (sym new.name_is);
    functions = made;
    outer = record {
      fun = subst IsLabel (sym new.fun_is) sp.0;
      clear = subst (λ (l : ℕ). IsClear k.table l) (sym new.fun_is) clear;
      name = subst IsQuotable (sym new.name_is) sp.1;
    };
    body = new_body 200 p exported fun name new;
  }

  alone : m.outer.items ≡ [] → UnitStands k m.imports m.level.graphs m.level.part done
  alone none = unit_alone k m.imports m.level done (subst (λ (ls : List Level). Stands k m.imports ls m.level done) none runs.stands)

  pub function_goes : (exported : Bool) (fun : ℕ) (name : List ℕ) → IsTableSound k.table → BeginsFunction k m n exported fun name → IsSpelled (line.Function exported fun name) →
      Runs k (done ++ line.Function exported fun name ∷ []) n
  function_goes exported fun name sound f sp =
      let l = line.Function exported fun name in
      let b = f.begins in
      let made = unit_ends k m.imports m.level.graphs n.level.graphs m.level.part done sound (alone f.alone) b.ends in
      let here : UnitStands k m.imports n.level.graphs n.level.part (done ++ l ∷ []) =
      subst (λ (o : Option Part). UnitStands k m.imports n.level.graphs o (done ++ l ∷ [])) (sym b.begun)
      (function_part exported fun name n.level.graphs f.part f.fresh sp f.clear made) in
      kept l b.around (λ i rest. refl)
      (subst (λ (ls : List Level). Stands k m.imports ls n.level (done ++ l ∷ [])) (sym f.alone) (unit n.level (done ++ l ∷ []) here))

  sub_part : (name : List ℕ) (d : ℕ) (gs : List Graph) (p : Part) (before : List Line) → IsNewPart false 0 name p → IsName name → ArePartsMade k (suc d) before gs →
      InnerPart k d gs p (before ++ line.Subgraph name ∷ [])
  sub_part name d gs p before new sp made = record {
    before = before;
    inside = [];
    lines = ap (λ (x : List ℕ). before ++ line.Subgraph x ∷ []) (sym new.name_is);
    parts = made;
    inner = record { fun = new.fun_is; inner = new.exported_is; name = subst IsName (sym new.name_is) sp };
    body = new_body d p false 0 name new;
  }

  sub_stands : (name : List ℕ) (ls : List Level) → IsTableSound k.table → BeginsSubgraph k m n name → IsName name → ¬ (ls ≡ []) → Stands k m.imports ls m.level done →
      Stands k m.imports ls n.level (done ++ line.Subgraph name ∷ [])
  sub_stands name [] sound s sp some stands = absurd (some refl)
  sub_stands name (o ∷ ls) sound s sp some stands =
      inner_leads k m.level n.level (line.Subgraph name ∷ []) m.imports o ls done
      (λ d before here.
      subst (λ (o : Option Part). InnerStands k d n.level.graphs o (before ++ line.Subgraph name ∷ [])) (sym s.begins.begun)
      (sub_part name d n.level.graphs s.part before s.fresh sp (inner_ends k d m.level.graphs n.level.graphs m.level.part before sound here s.begins.ends)))
      stands

  pub subgraph_goes : (name : List ℕ) → IsTableSound k.table → BeginsSubgraph k m n name → IsSpelled (line.Subgraph name) → Runs k (done ++ line.Subgraph name ∷ []) n
  subgraph_goes name sound s sp = kept (line.Subgraph name) s.begins.around (λ i rest. refl) (sub_stands name m.outer.items sound s sp s.inside runs.stands)

  pub import_goes : (ty : ℕ) (name : List ℕ) → IsTableSound k.table → Imports k m n ty name → IsSpelled (line.Import ty name) → Runs k (done ++ line.Import ty name ∷ []) n
  import_goes ty name sound i sp =
      let l = line.Import ty name in
      let fit : (u : Unit1) → Fits k u → IsImport u.types (ty, name) = λ u fits. (sp.0, subst (λ (ts : List TypeEntry). IsType ts ty) (sym fits.types) i.there, sp.1) in
      let made = functions_import k 200 done m.imports n.level.graphs ty name
      (unit_ends k m.imports m.level.graphs n.level.graphs m.level.part done sound (alone i.alone) i.ends) fit in
      let here : UnitStands k n.imports n.level.graphs n.level.part (done ++ l ∷ []) =
      subst (λ (o : Option Part). UnitStands k n.imports n.level.graphs o (done ++ l ∷ [])) (sym i.ended)
      (subst (λ (is : List (ℕ × List ℕ)). AreFunctionsMade k 200 (done ++ l ∷ []) is n.level.graphs) (sym i.imports) made) in
      record {
        stands = subst (λ (ls : List Level). Stands k n.imports ls n.level (done ++ l ∷ [])) (sym (i.outer ∙ i.alone)) (unit n.level (done ++ l ∷ []) here);
        depth = subst (λ (ls : List Level). length ls ≤ most_levels) (sym i.outer) runs.depth;
        deep = level_deep done l (length m.outer.items) (length n.outer.items) (λ i rest. refl) (ap length i.outer) runs.deep;
      }

  -- ---- compound nodes

  pub open_goes : (rest : List ℕ) → Opens m n → Runs k (done ++ line.Open rest ∷ []) n
  open_goes rest o =
      let l = line.Open rest in
      let size : length n.outer.items ≡ suc (length m.outer.items) = omega (arith, ap length o.outer, length-append m.outer.items (m.level ∷ [])) in
      let room : length m.outer.items < 200 = omega (arith, runs.depth, o.room) in
      let stands = opens k m.level n.level rest o.some o.graphs o.part m.imports m.outer.items done runs.stands room in
      record {
        stands =
            subst (λ (is : List (ℕ × List ℕ)). Stands k is n.outer.items n.level (done ++ l ∷ [])) (sym o.imports)
            (subst (λ (ls : List Level). Stands k m.imports ls n.level (done ++ l ∷ [])) (sym o.outer) stands);
        depth = omega (arith, size, room);
        deep = open_deep done rest (length m.outer.items) (length n.outer.items) size runs.depth runs.deep;
      }

  pub close_goes : (label op count : ℕ) (assoc before name : List ℕ) (node : Node) → IsTableSound k.table → (c : Closes k m n count node) →
      IsCompoundNode c.made label op c.graphs assoc before name → IsSpelled (line.Close label op count assoc before name) →
      Runs k (done ++ line.Close label op count assoc before name ∷ []) n
  close_goes label op count assoc before name node sound c is sp =
      let l = line.Close label op count assoc before name in
      let g = c.gains in
      let size : length m.outer.items ≡ suc (length n.outer.items) = omega (arith, ap length c.outer, length-append n.outer.items (c.around ∷ [])) in
      let given : (d : ℕ) (rest : List ℕ) (ps : List Line) → InnerStands k d m.level.graphs m.level.part ps → IsGiven k (suc d) ((line.Open rest ∷ ps) ++ l ∷ []) c.made =
      λ d rest ps s. compound_given k (suc d) c.made rest label op count c.graphs assoc before name ps is sp (subst IsOpcode is.op_is g.op) c.counted
      (inner_ends k d m.level.graphs c.graphs m.level.part ps sound s c.ends) in
      let stands = closes k c.around m.level n.level (l ∷ []) m.imports n.outer.items done
      (λ front rest ps around s.
      let js = (line.Open rest ∷ ps) ++ l ∷ [] in
      subst (UnitStands k m.imports n.level.graphs n.level.part) (sym (append_assoc front (line.Open rest ∷ ps) (l ∷ [])))
      (unit_gains k c.around n.level (c.made ∷ []) [] js g.gains m.imports front
      (node_gained k 200 c.around n.level c.made js g (given 199 rest ps s)) around))
      (λ d front rest ps around s.
      let js = (line.Open rest ∷ ps) ++ l ∷ [] in
      subst (InnerStands k (suc d) n.level.graphs n.level.part) (sym (append_assoc front (line.Open rest ∷ ps) (l ∷ [])))
      (inner_gains k c.around n.level (c.made ∷ []) [] js g.gains (suc d) front
      (node_gained k (suc d) c.around n.level c.made js g (given d rest ps s)) around))
      (subst (λ (ls : List Level). Stands k m.imports ls m.level done) c.outer runs.stands) in
      record {
        stands = subst (λ (is : List (ℕ × List ℕ)). Stands k is n.outer.items n.level (done ++ l ∷ [])) (sym c.imports) stands;
        depth = omega (arith, size, runs.depth);
        deep = close_deep done label op count assoc before name (length m.outer.items) (length n.outer.items) (omega (arith, size)) runs.depth runs.deep;
      }

-- ---- the end

pub runs_to_functions : (k : Known) (lines : List Line) (m : Machine) (read : List Graph) → IsTableSound k.table → Runs k lines m → m.outer.items ≡ [] →
    LevelEnds k m.level.graphs m.level.part read → AreFunctionsMade k 200 lines m.imports read
runs_to_functions k lines m read sound runs closed ends =
    unit_ends k m.imports m.level.graphs read m.level.part lines sound
    (unit_alone k m.imports m.level lines (subst (λ (ls : List Level). Stands k m.imports ls m.level lines) closed runs.stands)) ends

pub runs_nesting : (k : Known) (lines : List Line) (m : Machine) → Runs k lines m → m.outer.items ≡ [] → deepest 0 lines ≤ most_levels
runs_nesting k lines m runs closed =
    let whole : deepest 0 (lines ++ []) ≡ deepest 0 lines = ap (deepest 0) (append-nil lines) in
    omega (arith, runs.deep [], whole, runs.depth)
