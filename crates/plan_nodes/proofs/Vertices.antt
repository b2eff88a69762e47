-- Nodes of which so much is known stand for the vertices of the plan, and what is told of them is right.
use Rattle.std.proofs.Common.{◌≡◌, ℕ, zero, suc, ◌+◌, ◌-◌, ◌≤◌, ◌&&◌, ◌||◌, not, Bool, false, List, [], ◌∷◌, map, drop, get_or, length, All, Option, Some, None, refl, sym, ap, ◌∙◌, subst, arith}
use Rattle.std.specs.Prelude.{is_some}
use Rattle.flow_value.specs.declared.operands.Shape.{Shape}
use Rattle.if1_graph.specs.declared.graph.Node.{Node}
use Rattle.if1_graph.specs.declared.graph.Unit1.{Unit1}
use Rattle.if1_graph.specs.declared.op.Simple.{Simple}
use Rattle.if1_graph.specs.declared.op.Simple.TheVariants as simple
use Rattle.if1_graph.specs.Ready.{IsReady}
use Rattle.if1_graph.specs.Rows.{row_of}
use Rattle.if1_graph.specs.Units.{Place, label_of, number_of, width}
use Rattle.graph_meaning.specs.Carried.{Unfilled}
use Rattle.graph_meaning.specs.Demand.{Fixed, Kind, Plain, Source, Vertex, at_label}
use Rattle.graph_meaning.specs.Laws.{outputs_by}
use Rattle.graph_meaning.specs.Networks.{ins_of, kind_of, network, sources, vertex_of}
use Rattle.graph_meaning.specs.NodeValues as node
use Rattle.graph_meaning.specs.Storage.{Storage, is_left}
use Rattle.graph_meaning.specs.StorageUnits.{storage_of}
use Rattle.node_ops.specs.Operands.{shape_of}
use Rattle.run_code.specs.Collections.{Collect}
use Rattle.run_code.specs.Made.{Plan}
use Rattle.run_store.specs.Ports.{picks_of}
use Rattle.plan_data.specs.Settings.{Shares}
use Rattle.step_code.specs.Laid.{collect_in, puts_of}
use Rattle.row_counts.specs.Counts.{AreOutputsTold, counted_by_row, told_by, written_by_row}
use Rattle.plan_data.specs.declared.plan.PlanData.{PlanData}
use Rattle.plan_data.specs.declared.plan.PlanNode.{PlanNode}
use Rattle.plan_data.specs.declared.plan.Work.{Work}
use Rattle.plan_data.specs.declared.plan.Work.TheVariants as work
use Rattle.plan_data.specs.Parts.{IsWhole}
use Rattle.plan_data.specs.Parts as parts
use Rattle.plan_data.specs.Stands.{AreFed, IsNode}
use Rattle.told_rows.proofs.TypedEdges.{node-formed}
use Rattle.told_rows.proofs.Found.{at-own}
use Rattle.told_rows.proofs.Outputs.{sources-long}
use Rattle.told_rows.specs.Plans.{Tables, outputs_in, picks_by, plain_of, plan_of}
use Rattle.told_rows.specs.Returns.{collects_by, ins_by, multiple, node_collects, refolded_node, row_by, way_of}
use Rattle.told_rows.specs.Shares.{is_last, kind_or, reads_by, reads_multiple, shares_of, takes_collected, takes_more}
use Rattle.plan_builder.specs.declared.ways.Reading.{Reading}
use Rattle.plan_builder.specs.declared.ways.Reading.TheVariants as reading
use Rattle.plan_builder.specs.Nodes.{made_node}
use Rattle.plan_builder.specs.Ways.{multiple_port, read_by}
use Rattle.plan_builder.proofs.Collected.{collects-are}
use Rattle.plan_builder.proofs.Made.{call-stands, compound-stands, simple-stands}
use Rattle.plan_builder.proofs.Multiples.{way-so}
use Rattle.port_feeds.specs.declared.filled.Filled.{Filled}
use Rattle.node_works.specs.declared.task.Task.{Task}
use Rattle.node_works.specs.declared.task.Task.TheVariants as task
use Rattle.node_works.specs.Tasks.{IsCallOrWhole, IsTask, task_kind}
use Rattle.told_rows.specs.Rows.{IsCountedByRow, IsCountedOf, IsWrittenByRow, IsWrittenOf}
use Rattle.plan_nodes.specs.declared.parts.NodeParts.{NodeParts}
use Rattle.plan_nodes.specs.Made.{AreOutputsMarked, IsOfNode}
use Rattle.plan_nodes.specs.Nodes.{plain_collects, plain_node, reading_in, task_collects, task_node, whole_node}
use Rattle.plan_nodes.specs.Ports.{given_port_by, left_at, port_by, read_ports, row_read, told_in}
use Rattle.plan_nodes.proofs.Handling.{AreSources, filled-behind, given-fed, given-handled, simple-fed, simple-handled, sources-are, told-behind}
use Rattle.plan_nodes.proofs.Past.{left-from, taken-past, whole-from, whole-past}
use Rattle.plan_nodes.proofs.Readings.{AreReads, ReadsIs, TakesMore, is_final, is_gather, is_kept, is_reduce, is_whole, reads-fed, reads-handled, reads-is, reads-there, row-so}

no-moves : All (λ c. puts_of c ≡ false) []
no-moves k d lt = absurd (omega (arith, lt))

port-one : (row : Simple) → 1 ≤ multiple_port row
port-one simple.FinalValue = omega arith
port-one row = omega arith

kept-last : (j q : ℕ) (os : List Source) → is_last (read_by (reading.Kept j q) os) ≡ false
kept-last j q [] = refl
kept-last j q (o ∷ []) = refl
kept-last j q (o ∷ p ∷ []) = refl
kept-last j q (o ∷ p ∷ s ∷ []) = refl
kept-last j q (o ∷ p ∷ s ∷ t ∷ os) = refl

-- the vertex as it stands in a graph, and what is collected for it
abbrev pub vertex_as : (left : (node port : ℕ) → Bool) → Option ℕ → (number : ℕ) → Vertex → Kind → Vertex
vertex_as left None k v kind = v
vertex_as left (Some plain) k v kind = refolded_node plain left k v kind

abbrev pub vertex_collects : (left : (node port : ℕ) → Bool) → Option ℕ → Vertex → Kind → List Collect
vertex_collects left None v kind = []
vertex_collects left (Some plain) v kind = node_collects plain left v kind

filled-long : (D : PlanData) (P : Plan) (S : Shares) (g : ℕ) (fs : List Filled) (os : List Source) → AreSources D P S g fs os → length fs ≡ length os
filled-long D P S g [] [] h = refl
filled-long D P S g [] (o ∷ os) h = absurd h
filled-long D P S g (f ∷ fs) [] h = absurd h
filled-long D P S g (f ∷ fs) (o ∷ os) h = ap suc (filled-long D P S g fs os h.1)

-- a last value hands out nothing that is marked
outputs-read : (s : Storage) (g l : ℕ) (marks : List Bool) (first plain : ℕ) (shape : node.Shape) (row : Simple) (fs : List Filled) (r : Reading) → ReadsIs plain row fs r
    → AreOutputsTold s g l marks (outputs_by (row_of row).gives shape) first row → AreOutputsTold s g l marks (outputs_by (row_of (row_read r row)).gives shape) first row
outputs-read s g l marks first plain shape _ _ _ (is_final f j) h = tt
outputs-read s g l marks first plain shape _ _ _ (is_kept f m j q e) h = h
outputs-read s g l marks first plain shape _ _ _ (is_gather d f m j q a b) h = h
outputs-read s g l marks first plain shape _ _ _ (is_reduce x d f m j q a b) h = h
outputs-read s g l marks first plain shape _ _ _ (is_whole row fs) h = h

module _ (D : PlanData) (u : Unit1) (order : (graph : ℕ) → List Vertex) (t : Tables) (ready : IsReady u) (p : Place) (n : Node) (x : NodeParts) (are : IsOfNode D u order t p n x) where
  abbrev P : Plan
  P = plan_of u order t

  abbrev S : Shares
  S = shares_of u order

  abbrev s : Storage
  s = storage_of u

  abbrev g : ℕ
  g = number_of p

  abbrev l : ℕ
  l = label_of n

  abbrev left : (node port : ℕ) → Bool
  left = is_left (storage_of u) (number_of p)

  abbrev v : Vertex
  v = vertex_of u p.graph n

  abbrev os : List Source
  os = sources u p.graph (label_of n) 1 (width p.graph (label_of n))

  -- ---- its ports

  fills : AreSources D P S g x.ports os
  fills = sources-are D P S s g l 1 x.ports os are.filled

  long : length x.ports ≡ width p.graph l
  long = filled-long D P S g x.ports os fills ∙ sources-long u p.graph l 1 (width p.graph l)

  none-past : (port : ℕ) → 1 + length x.ports ≤ port → s.is_aggregate g l port ≡ false
  none-past port le = whole-past u ready.formed p are.place l port (let e = long in omega (arith, e, le))

  left-port : (port : ℕ) → 1 ≤ port → left_at x.ports port ≡ left l port
  left-port port le = let e : 1 + (port - 1) ≡ port = omega (arith, le) in left-from s g l 1 x.ports are.told none-past (port - 1) ∙ ap (left l) e

  told-so : (row : Simple) → told_in x.ports row ≡ told_by s g l row
  told-so simple.FinalValue = left-port 1 (omega arith)
  told-so simple.AGather = left-port 2 (omega arith)
  told-so (simple.Reduce grouping) = left-port 2 (omega arith)
  told-so simple.AFill = whole-from s g l 1 x.ports are.told none-past 2
  told-so row = refl

  -- ---- what it takes

  more-none : plain_of u g ≡ None → (m port : ℕ) → takes_more u order g m port ≡ false
  more-none none zero port = refl
  more-none none (suc m) port = ap (λ o. takes_collected u order o g (suc m) port) none

  takes-none : plain_of u g ≡ None → (port : ℕ) → S.takes g l port ≡ s.is_taken g l port
  takes-none none port = ap (λ b. b || s.is_taken g l port) (more-none none l port)

  module _ (plain : ℕ) (is : plain_of u g ≡ Some plain) where
    more-some : (m : ℕ) → 1 ≤ m → (port : ℕ) → takes_more u order g m port ≡ takes_collected u order (Some plain) g m port
    more-some zero le port = absurd (omega (arith, le))
    more-some (suc m) le port = ap (λ o. takes_collected u order o g (suc m) port) is

    takes-in : (port : ℕ) → S.takes g l port ≡ (reads_multiple plain left v v.kind port && not (s.is_aggregate g l port)) || s.is_taken g l port
    takes-in port =
        ap (λ b. b || s.is_taken g l port)
        (more-some l (node-formed u ready p are.place n are.node).label.0 port ∙ ap (λ o. reads_by plain left o port && not (s.is_aggregate g l port)) (at-own u ready p are.place n are.node))

  -- what it does in the graph of its number
  own : (k : Kind) → kind_or k (at_label (network u g).nodes l) ≡ v.kind
  own k = ap (kind_or k) (at-own u ready p are.place n are.node)

  -- ---- a simple node

  module _ (row : Simple) (shape : Shape) (e : Plain row (shape_of shape) ≡ kind_of u p.graph n) where
    ins-is : v.ins ≡ os
    ins-is = ap (ins_of u p.graph l) (sym e)

    wide : x.width ≡ outputs_by (row_of row).gives (shape_of shape)
    wide = are.width ∙ ap (outputs_in u) (sym e)

    outputs-told : AreOutputsTold s g l D.marks (outputs_by (row_of row).gives (shape_of shape)) x.marks row
    outputs-told =
        let P : ℕ → Type 0 = λ w. AreOutputsTold s g l D.marks w x.marks row in
        let Q : Kind → Type 0 = λ k. AreOutputsMarked s g l D.marks x.width x.marks k in
        let h : AreOutputsTold s g l D.marks x.width x.marks row = subst Q (sym e) are.marks in
        subst P wide h

    -- what is written and copied is told by the row
    written-so : (k : Kind) → IsWrittenOf D u g l (written_by_row row x.joined) (kind_or k (at_label (network u g).nodes l))
    written-so k = subst (λ m. IsWrittenOf D u g l (written_by_row row x.joined) m) (e ∙ sym (own k)) (ap (written_by_row row) are.joined)

    counted-so : (m : PlanNode) (k : Kind) → AreOutputsTold s g l D.marks m.width x.marks row → IsCountedOf D u g l m (counted_by_row row (told_in x.ports row) x.marks) (kind_or k (at_label (network u g).nodes l))
    counted-so m k h = subst (λ z. IsCountedOf D u g l m (counted_by_row row (told_in x.ports row) x.marks) z) (e ∙ sym (own k)) (told_in x.ports row, x.marks, refl, (told-so row, h))

    fed : AreFed D P S g (map port_by x.ports) os
    fed = simple-fed D P S g x.ports os fills

    -- in a graph that is no returns
    plain-stands : plain_of u g ≡ None → (k : ℕ) → IsNode D P S g (plain_node x.ports x.joined x.marks None k row shape) v
    plain-stands none k =
        simple-stands D P S g v row shape (written_by_row row x.joined) (counted_by_row row (told_in x.ports row) x.marks) (map port_by x.ports) (sym e) (ap (outputs_in u) (sym e))
        (subst (AreFed D P S g (map port_by x.ports)) (sym ins-is) fed) (simple-handled s g l (S.takes g l) (takes-none none) 1 x.ports are.told)

    -- in a returns
    module _ (plain : ℕ) (is : plain_of u g ≡ Some plain) (k : ℕ) where
      abbrev r : Reading
      r = reading_in plain row x.ports

      abbrev w : Vertex
      w = refolded_node plain left k v (Plain row (shape_of shape))

      reads : ReadsIs plain row x.ports r
      reads = reads-is plain (left_at x.ports (multiple_port row)) row x.ports

      way : way_of plain (left l) row v.ins ≡ read_by r os
      way = ap (way_of plain (left l) row) ins-is ∙ way-so D P S g plain (left l) (left_at x.ports (multiple_port row)) row (map port_by x.ports) os (sym (left-port (multiple_port row) (port-one row))) fed

      kind-so : w.kind ≡ Plain (row_read r row) (shape_of shape)
      kind-so = ap (λ y. Plain (row_by y row) (shape_of shape)) way ∙ ap (λ y. Plain y (shape_of shape)) (row-so r row os)

      ins-so : w.ins ≡ ins_by (read_by r os) plain k os
      ins-so = ap (λ y. ins_by y plain k v.ins) way ∙ ap (ins_by (read_by r os) plain k) ins-is

      -- at which ports it reads multiples, and takes them where they have no parts
      abbrev m : (port : ℕ) → Bool
      m port = reads_multiple plain left v (Plain row (shape_of shape)) port

      takes-more : TakesMore plain m s g l (S.takes g l)
      takes-more port = takes-in plain is port ∙ ap (λ y. (reads_multiple plain left v y port && not (s.is_aggregate g l port)) || s.is_taken g l port) (sym e)

      source-so : (j : ℕ) → get_or v.ins ((1 + j) - 1) (Fixed Unfilled) ≡ get_or os j (Fixed Unfilled)
      source-so j = let a : (1 + j) - 1 ≡ j = omega arith in ap (λ i. get_or v.ins i (Fixed Unfilled)) a ∙ ap (λ y. get_or y j (Fixed Unfilled)) ins-is

      m-so : (j : ℕ) → m (1 + j) ≡ not (is_last (read_by r os)) && is_some (multiple plain (get_or os j (Fixed Unfilled)))
      m-so j =
          ap (λ y. not (is_last y) && is_some (multiple plain (get_or v.ins ((1 + j) - 1) (Fixed Unfilled)))) way
          ∙ ap (λ o. not (is_last (read_by r os)) && is_some (multiple plain o)) (source-so j)

      are-reads : (q : Reading) → ((j : ℕ) → m (1 + j) ≡ not (is_last (read_by q os)) && is_some (multiple plain (get_or os j (Fixed Unfilled)))) → AreReads plain m s g l (S.takes g l) takes-more q x.ports
      are-reads (reading.Last j) h = h 0
      are-reads (reading.Kept i q) h =
          reads-there plain m D P S g 1 x.ports os fills (λ j. h j ∙ ap (λ b. not b && is_some (multiple plain (get_or os j (Fixed Unfilled)))) (kept-last i q os))
      are-reads reading.Whole h = reads-there plain m D P S g 1 x.ports os fills h

      returned-stands : IsNode D P S g (plain_node x.ports x.joined x.marks (Some plain) k row shape) w
      returned-stands =
          simple-stands D P S g w (row_read r row) shape (written_by_row row x.joined) (counted_by_row row (told_in x.ports row) x.marks) (read_ports r plain k x.ports) kind-so (ap (outputs_in u) kind-so)
          (subst (AreFed D P S g (read_ports r plain k x.ports)) (sym ins-so) (reads-fed D P S g plain k row x.ports r reads os fills))
          (reads-handled plain m s g l (S.takes g l) takes-more k row x.ports r reads are.told (are-reads r m-so))

      returned-told : AreOutputsTold s g l D.marks (outputs_by (row_of (row_read r row)).gives (shape_of shape)) x.marks row
      returned-told = outputs-read s g l D.marks x.marks plain (shape_of shape) row x.ports r reads outputs-told

      returned-collects : (map collect_in (plain_collects (Some plain) row x.ports) ≡ node_collects plain left v (Plain row (shape_of shape))) × All (λ c. puts_of c ≡ false) (plain_collects (Some plain) row x.ports)
      returned-collects =
          let c = collects-are D P S g plain r (map port_by x.ports) os fed in
          (c.0 ∙ (ap (collects_by (read_by r os) plain) (sym ins-is) ∙ ap (λ y. collects_by y plain v.ins) (sym way)), c.1)

  -- ---- a Call or compound node

  module _ (y : Work) (call : IsCallOrWhole y) (e : parts.kind_of y x.width ≡ kind_of u p.graph n) where
    reads-none : (plain port : ℕ) (z : Work) → IsCallOrWhole z → reads_multiple plain left v (parts.kind_of z x.width) port ≡ false
    reads-none plain port (work.Plain row shape writes copies) h = absurd h
    reads-none plain port (work.Call f) h = refl
    reads-none plain port (work.Select a gs) h = refl
    reads-none plain port (work.TagCase gs) h = refl
    reads-none plain port (work.LoopA a) h = refl
    reads-none plain port (work.LoopB a) h = refl
    reads-none plain port (work.ForAll a b c d) h = refl

    takes-marked : (plain : Option ℕ) → plain_of u g ≡ plain → (port : ℕ) → S.takes g l port ≡ s.is_taken g l port
    takes-marked None is port = takes-none is port
    takes-marked (Some plain) is port =
        takes-in plain is port
        ∙ (ap (λ z. (reads_multiple plain left v z port && not (s.is_aggregate g l port)) || s.is_taken g l port) (sym e)
        ∙ ap (λ b. (b && not (s.is_aggregate g l port)) || s.is_taken g l port) (reads-none plain port y call))

    same : (port : ℕ) → S.takes g l port ≡ s.is_taken g l port
    same = takes-marked (plain_of u g) refl

    none-taken : os ≡ [] → S.takes g l 1 ≡ false
    none-taken h =
        let a = sources-long u p.graph l 1 (width p.graph l) in
        let b = ap length h in
        same 1 ∙ taken-past u ready.formed p are.place l 1 (omega (arith, a, b))

    wide-whole : P.width v ≡ x.width
    wide-whole = sym are.width

    abbrev Given : (port : ℕ) → Bool
    Given port = s.is_given g l port && left l port

    -- a compound node
    compound : (z : Work) → IsWhole z → parts.kind_of z x.width ≡ kind_of u p.graph n → ins_of u p.graph l (parts.kind_of z x.width) ≡ os → picks_by s g v (parts.kind_of z x.width) ≡ picks_of Given 1 v.ins
        → IsNode D P S g (made_node z x.width (map given_port_by x.ports)) v
    compound z whole h ins picked =
        let ins-whole : v.ins ≡ os = ap (ins_of u p.graph l) (sym h) ∙ ins in
        compound-stands D P S g v z x.width (map given_port_by x.ports) Given whole (sym h) wide-whole (ap (picks_by s g v) (sym h) ∙ picked) (λ none. none-taken (sym ins-whole ∙ none))
        (subst (AreFed D P S g (map given_port_by x.ports)) (sym ins-whole) (given-fed D P S g x.ports os fills)) (given-handled s g l (S.takes g l) same 1 x.ports are.told)

    whole-stands : (z : Work) → IsCallOrWhole z → parts.kind_of z x.width ≡ kind_of u p.graph n → IsNode D P S g (whole_node z x.width x.ports) v
    whole-stands (work.Plain row shape writes copies) c h = absurd c
    whole-stands (work.Call f) c h =
        call-stands D P S g v f x.width (map port_by (drop 1 x.ports)) (sym h) wide-whole
        (subst (AreFed D P S g (map port_by (drop 1 x.ports))) (sym (ap (ins_of u p.graph l) (sym h))) (simple-fed D P S g (drop 1 x.ports) (drop 1 os) (filled-behind D P S g x.ports os fills)))
        (simple-handled s g l (S.takes g l) same 2 (drop 1 x.ports) (told-behind s g l x.ports are.told))
    whole-stands (work.Select a gs) c h = compound (work.Select a gs) tt h refl refl
    whole-stands (work.TagCase gs) c h = compound (work.TagCase gs) tt h refl refl
    whole-stands (work.LoopA a) c h = compound (work.LoopA a) tt h refl refl
    whole-stands (work.LoopB a) c h = compound (work.LoopB a) tt h refl refl
    whole-stands (work.ForAll a b d m) c h = compound (work.ForAll a b d m) tt h refl refl

  -- ---- what is made of it

  pub record IsRight (m : PlanNode) (w : Vertex) : Type 0 where
    pub stands : IsNode D P S g m w
    pub written : IsWrittenByRow D u g w m.work
    pub counted : IsCountedByRow D u g w m m.work

  whole-right : (y : Work) (call : IsCallOrWhole y) → parts.kind_of y x.width ≡ kind_of u p.graph n → IsRight (whole_node y x.width x.ports) v
  whole-right (work.Plain row shape writes copies) c e = absurd c
  whole-right (work.Call f) c e = record { stands = whole-stands (work.Call f) c e (work.Call f) c e; written = tt; counted = tt }
  whole-right (work.Select a gs) c e = record { stands = whole-stands (work.Select a gs) c e (work.Select a gs) c e; written = tt; counted = tt }
  whole-right (work.TagCase gs) c e = record { stands = whole-stands (work.TagCase gs) c e (work.TagCase gs) c e; written = tt; counted = tt }
  whole-right (work.LoopA a) c e = record { stands = whole-stands (work.LoopA a) c e (work.LoopA a) c e; written = tt; counted = tt }
  whole-right (work.LoopB a) c e = record { stands = whole-stands (work.LoopB a) c e (work.LoopB a) c e; written = tt; counted = tt }
  whole-right (work.ForAll a b d m) c e = record { stands = whole-stands (work.ForAll a b d m) c e (work.ForAll a b d m) c e; written = tt; counted = tt }

  -- a Call or compound node stays as it is, and nothing is collected for it
  stays : (plain : Option ℕ) (k : ℕ) (y : Work) → IsCallOrWhole y → vertex_as left plain k v (parts.kind_of y x.width) ≡ v
  stays plain k (work.Plain row shape writes copies) c = absurd c
  stays None k y c = refl
  stays (Some plain) k (work.Call f) c = refl
  stays (Some plain) k (work.Select a gs) c = refl
  stays (Some plain) k (work.TagCase gs) c = refl
  stays (Some plain) k (work.LoopA a) c = refl
  stays (Some plain) k (work.LoopB a) c = refl
  stays (Some plain) k (work.ForAll a b d m) c = refl

  collects-nothing : (plain : Option ℕ) (y : Work) → IsCallOrWhole y → vertex_collects left plain v (parts.kind_of y x.width) ≡ []
  collects-nothing plain (work.Plain row shape writes copies) c = absurd c
  collects-nothing None y c = refl
  collects-nothing (Some plain) (work.Call f) c = refl
  collects-nothing (Some plain) (work.Select a gs) c = refl
  collects-nothing (Some plain) (work.TagCase gs) c = refl
  collects-nothing (Some plain) (work.LoopA a) c = refl
  collects-nothing (Some plain) (work.LoopB a) c = refl
  collects-nothing (Some plain) (work.ForAll a b d m) c = refl

  pub node-right : (plain : Option ℕ) → plain_of u g ≡ plain → (k : ℕ) (y : Task) → IsTask y → task_kind y x.width ≡ kind_of u p.graph n → IsRight (task_node plain k x y) (vertex_as left plain k v v.kind)
  node-right None is k (task.Plain row shape) c e =
      record { stands = plain-stands row shape e is k; written = written-so row shape e v.kind; counted = counted-so row shape e (plain_node x.ports x.joined x.marks None k row shape) v.kind (outputs-told row shape e) }
  node-right (Some plain) is k (task.Plain row shape) c e =
      subst (λ z. IsRight (plain_node x.ports x.joined x.marks (Some plain) k row shape) (refolded_node plain left k v z)) e
      (record {
        stands = returned-stands row shape e plain is k;
        written = written-so row shape e (refolded_node plain left k v (Plain row (shape_of shape))).kind;
        counted = counted-so row shape e (plain_node x.ports x.joined x.marks (Some plain) k row shape) (refolded_node plain left k v (Plain row (shape_of shape))).kind (returned-told row shape e plain is k);
      })
  node-right plain is k (task.Whole y) c e =
      subst (λ z. IsRight (whole_node y x.width x.ports) (vertex_as left plain k v z)) e
      (subst (IsRight (whole_node y x.width x.ports)) (sym (stays plain k y c)) (whole-right y c e))

  pub collects-right : (plain : Option ℕ) → plain_of u g ≡ plain → (y : Task) → IsTask y → task_kind y x.width ≡ kind_of u p.graph n
      → (map collect_in (task_collects plain x y) ≡ vertex_collects left plain v v.kind) × All (λ c. puts_of c ≡ false) (task_collects plain x y)
  collects-right None is (task.Plain row shape) c e = (refl, no-moves)
  collects-right (Some plain) is (task.Plain row shape) c e =
      let z = returned-collects row shape e plain is 0 in
      (z.0 ∙ ap (node_collects plain left v) e, z.1)
  collects-right plain is (task.Whole y) c e = (sym (collects-nothing plain y c) ∙ ap (vertex_collects left plain v) e, no-moves)
