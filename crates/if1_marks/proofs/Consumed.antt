-- What graphs and nodes consume, one level of the recursion at a time.
use Rattle.std.proofs.Common.{◌≡◌, ℕ, zero, suc, Bool, true, false, ◌&&◌, not, List, [], ◌∷◌, map, find, option_map, Option, Some, None, Contains, All, refl, sym, ap, ◌∙◌, cond, if◌then◌else◌, ◌==◌}
use Rattle.std.specs.List.{list_any}
use Rattle.std.proofs.lemmas.List.Elements.{All-weaker, All-contains}
use Rattle.if1_graph.specs.declared.graph.Edge.{Edge}
use Rattle.if1_graph.specs.declared.graph.Graph.{Graph}
use Rattle.if1_graph.specs.declared.graph.Graph.TheViews.{out-Graph, roll-out-Graph, roll-out-Node}
use Rattle.if1_graph.specs.declared.graph.Graph.TheFolds.{fold-roll-Graph, fold-roll-Node}
use Rattle.if1_graph.specs.declared.graph.Node.{Node, out-Node}
use Rattle.if1_graph.specs.declared.graph.TypeEntry.{TypeEntry}
use Rattle.if1_graph.specs.declared.graph.Unit1.{Unit1}
use Rattle.if1_graph.specs.declared.op.Compound.{Compound}
use Rattle.if1_graph.specs.declared.op.Compound.TheVariants as compound
use Rattle.if1_graph.specs.declared.op.Simple.{Simple}
use Rattle.if1_graph.specs.declared.op.Simple.TheVariants as simple
use Rattle.if1_graph.specs.Ops.{simple_at, compound_at}
use Rattle.if1_graph.specs.Ports.{leaves}
use Rattle.if1_graph.specs.Rows.{operand_of}
use Rattle.if1_graph.specs.Units.{label_of, node_at}
use Rattle.if1_marks.specs.Aggregates.{is_aggregate}
use Rattle.if1_marks.specs.Given.{Inside, Operands, graph_step, node_step, inside, operands, is_given_to, is_operand_consumed, is_consumed_as, is_consumed_in, is_consumed_at, is_consuming_in, is_call_as, is_call, is_consumed_by, consumes_node, consumes, is_given_to_called, called, is_given_inside, is_used_inside}
use Rattle.if1_marks.specs.Laws.{IsNoCall, IsGivenBy, IsGivenByEdge, IsGivenInOne, IsGivenAtFirst, IsGivenTo, IsConsumedWhereGiven}
use Rattle.if1_marks.proofs.Tests.{no-both, both-left, both-right, both, not-true, not-false, any-found, any-there, none-found, any-mapped}

-- ---- one level

pub inside-at : (ts : List TypeEntry) (g : Graph) → inside ts g ≡ graph_step ts (record { number = (out-Graph g).number; exported = (out-Graph g).exported; name = (out-Graph g).name; fun = (out-Graph g).fun; nodes = map (operands ts) (out-Graph g).nodes; edges = (out-Graph g).edges })
inside-at ts g = ap (inside ts) (sym (roll-out-Graph g)) ∙ fold-roll-Graph Inside Operands (graph_step ts) node_step (out-Graph g)

pub operands-at : (ts : List TypeEntry) (n : Node) → operands ts n ≡ node_step (record { label = (out-Node n).label; op = (out-Node n).op; subs = map (inside ts) (out-Node n).subs; assoc = (out-Node n).assoc; before = (out-Node n).before; name = (out-Node n).name })
operands-at ts n = ap (operands ts) (sym (roll-out-Node n)) ∙ fold-roll-Node Inside Operands (graph_step ts) node_step (out-Node n)

pub label-at : (ts : List TypeEntry) (n : Node) → (operands ts n).label ≡ label_of n
label-at ts n = ap (λ (o : Operands). o.label) (operands-at ts n)

pub consumed-at : (ts : List TypeEntry) (n : Node) (port : ℕ) → (operands ts n).is_consumed port ≡ is_consumed_as (compound_at (out-Node n).op) (simple_at (out-Node n).op) (map (inside ts) (out-Node n).subs) port
consumed-at ts n port = ap (λ (o : Operands). o.is_consumed port) (operands-at ts n)

pub given-at : (ts : List TypeEntry) (g : Graph) (port : ℕ) → (inside ts g).is_given port ≡ list_any (λ e. leaves 0 port e.from && is_consuming_in ts (map (operands ts) (out-Graph g).nodes) e) (out-Graph g).edges
given-at ts g port = ap (λ (i : Inside). i.is_given port) (inside-at ts g)

pub used-at : (ts : List TypeEntry) (g : Graph) (port : ℕ) → (inside ts g).is_used port ≡ is_used_inside g port
used-at ts g port = ap (λ (i : Inside). i.is_used port) (inside-at ts g)

-- ---- nodes by label

chosen : {A B : Type 0} (f : A → B) (b : Bool) (x : A) (o : Option A) → cond b (Some (f x)) (option_map f o) ≡ option_map f (cond b (Some x) o)
chosen f true x o = refl
chosen f false x o = refl

found-operands : (ts : List TypeEntry) (ns : List Node) (l : ℕ) → find (λ n. n.label == l) (map (operands ts) ns) ≡ option_map (operands ts) (node_at ns l)
found-operands ts [] l = refl
found-operands ts (n ∷ ns) l =
    ap (λ k. cond (k == l) (Some (operands ts n)) (find (λ (o : Operands). o.label == l) (map (operands ts) ns))) (label-at ts n)
    ∙ (ap (λ o. cond (label_of n == l) (Some (operands ts n)) o) (found-operands ts ns l)
    ∙ chosen (operands ts) (label_of n == l) n (node_at ns l))

-- ---- a Call consumes nothing by its row

row-of-call : (port : ℕ) → is_operand_consumed (operand_of simple.Call port) ≡ false
row-of-call zero = refl
row-of-call (suc zero) = refl
row-of-call (suc (suc k)) = refl

-- only a Call is one
pub only-call : (op : Simple) → is_call_as None (Some op) ≡ true → op ≡ simple.Call
only-call (simple.One a) e = absurd cc
only-call (simple.Two a) e = absurd cc
only-call simple.NoOp e = absurd cc
only-call simple.Error e = absurd cc
only-call simple.Call e = refl
only-call simple.ABuild e = absurd cc
only-call simple.AFill e = absurd cc
only-call simple.AElement e = absurd cc
only-call simple.AReplace e = absurd cc
only-call simple.AAddH e = absurd cc
only-call simple.AAddL e = absurd cc
only-call simple.ARemH e = absurd cc
only-call simple.ARemL e = absurd cc
only-call simple.ASetL e = absurd cc
only-call simple.AAdjust e = absurd cc
only-call simple.ALimL e = absurd cc
only-call simple.ALimH e = absurd cc
only-call simple.ASize e = absurd cc
only-call simple.AIsEmpty e = absurd cc
only-call simple.ACatenate e = absurd cc
only-call simple.FirstValue e = absurd cc
only-call simple.RestValues e = absurd cc
only-call simple.RBuild e = absurd cc
only-call simple.RElements e = absurd cc
only-call simple.RReplace e = absurd cc
only-call simple.RangeGenerate e = absurd cc
only-call simple.AScatter e = absurd cc
only-call simple.AGather e = absurd cc
only-call simple.FinalValue e = absurd cc
only-call (simple.Reduce a) e = absurd cc

call-row : (c : Option Compound) (o : Option Simple) (gs : List Inside) (port : ℕ) → is_call_as c o ≡ true → is_consumed_as c o gs port ≡ false
call-row (Some c) o gs port e = absurd cc
call-row None None gs port e = absurd cc
call-row None (Some op) gs port e = ap (λ op. is_operand_consumed (operand_of op port)) (only-call op e) ∙ row-of-call port

chosen-forth : (b x y : Bool) → (b ≡ true → y ≡ false) → y ≡ true → ((if b then x else y) ≡ true) × (b ≡ false)
chosen-forth true x y never h = absurd (no-both y h (never refl))
chosen-forth false x y never h = (h, refl)

chosen-back : (b x y : Bool) → (if b then x else y) ≡ true → b ≡ false → y ≡ true
chosen-back true x y h e = absurd cc
chosen-back false x y h e = h

module _ (u : Unit1) (g : Graph) (port : ℕ) where
  abbrev nodes : List Node
  nodes = (out-Graph g).nodes

  node-forth : (o : Option Node) → is_consumed_in (option_map (operands u.types) o) port ≡ true → (consumes_node u g o port ≡ true) × ((n : Node) → o ≡ Some n → is_call n ≡ false)
  node-forth None h = absurd cc
  node-forth (Some n) h =
      let r = chosen-forth (is_call n) (is_given_to_called u (called u g (label_of n)) port) (is_consumed_by u n port)
      (λ e. consumed-at u.types n port ∙ call-row (compound_at (out-Node n).op) (simple_at (out-Node n).op) (map (inside u.types) (out-Node n).subs) port e) h in
      (r.0, λ m e. let same : n ≡ m = cc in ap is_call (sym same) ∙ r.1)

  node-back : (o : Option Node) → consumes_node u g o port ≡ true → ((n : Node) → o ≡ Some n → is_call n ≡ false) → is_consumed_in (option_map (operands u.types) o) port ≡ true
  node-back None h never = absurd cc
  node-back (Some n) h never = chosen-back (is_call n) (is_given_to_called u (called u g (label_of n)) port) (is_consumed_by u n port) h (never n refl)

  at-forth : (l : ℕ) → is_consumed_at (map (operands u.types) nodes) l port ≡ true → (consumes u g l port ≡ true) × IsNoCall g l
  at-forth zero h = (refl, λ n ne e. absurd (ne refl))
  at-forth (suc l) h =
      let r = node-forth (node_at nodes (suc l)) (sym (ap (λ o. is_consumed_in o port) (found-operands u.types nodes (suc l))) ∙ h) in
      (r.0, λ n ne e. r.1 n e)

  at-back : (l : ℕ) → consumes u g l port ≡ true → IsNoCall g l → is_consumed_at (map (operands u.types) nodes) l port ≡ true
  at-back zero h never = refl
  at-back (suc l) h never =
      ap (λ o. is_consumed_in o port) (found-operands u.types nodes (suc l))
      ∙ node-back (node_at nodes (suc l)) h (λ n e. never n (λ z. absurd cc) e)

-- ---- given inputs of graphs

module _ (u : Unit1) (g : Graph) (port : ℕ) where
  abbrev inner : Edge → Bool
  inner e = is_consuming_in u.types (map (operands u.types) (out-Graph g).nodes) e

  abbrev gives : Edge → Bool
  gives e = leaves 0 port e.from && inner e

  edge-forth : (e : Edge) → Contains (out-Graph g).edges e → gives e ≡ true → IsGivenBy u g port e
  edge-forth e there h =
      let from = both-left (leaves 0 port e.from) (inner e) h in
      let used = both-right (leaves 0 port e.from) (inner e) h in
      let whole = both-left (is_aggregate u.types e.ty) (is_consumed_at (map (operands u.types) (out-Graph g).nodes) e.node e.port) used in
      let r = at-forth u g e.port e.node (both-right (is_aggregate u.types e.ty) (is_consumed_at (map (operands u.types) (out-Graph g).nodes) e.node e.port) used) in
      record { there = there; from = from; consuming = both (is_aggregate u.types e.ty) (consumes u g e.node e.port) whole r.0; no_call = r.1 }

  edge-back : (e : Edge) → IsGivenBy u g port e → gives e ≡ true
  edge-back e w =
      let whole = both-left (is_aggregate u.types e.ty) (consumes u g e.node e.port) w.consuming in
      let used = both-right (is_aggregate u.types e.ty) (consumes u g e.node e.port) w.consuming in
      both (leaves 0 port e.from) (inner e) w.from (both (is_aggregate u.types e.ty) (is_consumed_at (map (operands u.types) (out-Graph g).nodes) e.node e.port) whole (at-back u g e.port e.node used w.no_call))

pub given-by-edge : IsGivenByEdge
given-by-edge u g port = (
  λ h. let r = any-found (gives u g port) (out-Graph g).edges (sym (given-at u.types g port) ∙ h) in (r.0, edge-forth u g port r.0 r.1 r.2),
  λ w. given-at u.types g port ∙ any-there (gives u g port) (out-Graph g).edges w.0 w.1.there (edge-back u g port w.0 w.1),
)

-- ---- given inputs of compound nodes

module _ (u : Unit1) (port : ℕ) where
  abbrev there-given : Inside → Bool
  there-given i = i.is_given port

  abbrev there-used : Inside → Bool
  there-used i = i.is_used port

  one-forth : (gs : List Graph) → list_any there-given (map (inside u.types) gs) ≡ true → IsGivenInOne u gs port
  one-forth gs h = any-found (λ g. is_given_inside u g port) gs (sym (any-mapped there-given (inside u.types) gs) ∙ h)

  one-back : (gs : List Graph) → IsGivenInOne u gs port → list_any there-given (map (inside u.types) gs) ≡ true
  one-back gs w = any-mapped there-given (inside u.types) gs ∙ any-there (λ g. is_given_inside u g port) gs w.0 w.1 w.2

  loop-forth : (gs : List Graph) → is_given_to compound.LoopA (map (inside u.types) gs) port ≡ true → IsGivenAtFirst u gs port
  loop-forth [] h = absurd cc
  loop-forth (init ∷ others) h =
      let none = not-true (list_any there-used (map (inside u.types) others)) (both-right (is_given_inside u init port) (not (list_any there-used (map (inside u.types) others))) h) in
      record {
        init = init;
        others = others;
        are = refl;
        given = both-left (is_given_inside u init port) (not (list_any there-used (map (inside u.types) others))) h;
        unused = All-weaker (λ g. there-used (inside u.types g) ≡ false) (λ g. is_used_inside g port ≡ false) (λ g e. sym (used-at u.types g port) ∙ e) others
            (none-found (λ g. there-used (inside u.types g)) others (sym (any-mapped there-used (inside u.types) others) ∙ none));
      }

  none-back : (gs : List Graph) → All (λ g. is_used_inside g port ≡ false) gs → list_any there-used (map (inside u.types) gs) ≡ false
  none-back gs h = go (list_any there-used (map (inside u.types) gs)) refl
    where
      go : (b : Bool) → list_any there-used (map (inside u.types) gs) ≡ b → b ≡ false
      go false e = refl
      go true e =
          let r = any-found (λ g. there-used (inside u.types g)) gs (sym (any-mapped there-used (inside u.types) gs) ∙ e) in
          absurd (no-both (there-used (inside u.types r.0)) r.2 (used-at u.types r.0 port ∙ All-contains (λ g. is_used_inside g port ≡ false) gs r.0 h r.1))

  loop-back : (gs : List Graph) → IsGivenAtFirst u gs port → is_given_to compound.LoopA (map (inside u.types) gs) port ≡ true
  loop-back gs w =
      ap (λ gs. is_given_to compound.LoopA (map (inside u.types) gs) port) w.are
      ∙ both (is_given_inside u w.init port) (not (list_any there-used (map (inside u.types) w.others))) w.given (not-false (list_any there-used (map (inside u.types) w.others)) (none-back w.others w.unused))

  to-forth : (c : Compound) (gs : List Graph) → is_given_to c (map (inside u.types) gs) port ≡ true → IsGivenTo u c gs port
  to-forth compound.Select [] h = absurd cc
  to-forth compound.Select (g ∷ gs) h = one-forth gs h
  to-forth compound.TagCase gs h = one-forth gs h
  to-forth compound.LoopA gs h = loop-forth gs h
  to-forth compound.LoopB gs h = loop-forth gs h
  to-forth compound.ForAll gs h = absurd cc

  to-back : (c : Compound) (gs : List Graph) → IsGivenTo u c gs port → is_given_to c (map (inside u.types) gs) port ≡ true
  to-back compound.Select [] w = one-back [] w
  to-back compound.Select (g ∷ gs) w = one-back gs w
  to-back compound.TagCase gs w = one-back gs w
  to-back compound.LoopA gs w = loop-back gs w
  to-back compound.LoopB gs w = loop-back gs w
  to-back compound.ForAll gs w = absurd w

pub consumed-where-given : IsConsumedWhereGiven
consumed-where-given u n c port e =
    let same : is_consumed_by u n port ≡ is_given_to c (map (inside u.types) (out-Node n).subs) port =
    consumed-at u.types n port ∙ ap (λ o. is_consumed_as o (simple_at (out-Node n).op) (map (inside u.types) (out-Node n).subs) port) e in
    (λ h. to-forth u port c (out-Node n).subs (sym same ∙ h), λ w. same ∙ to-back u port c (out-Node n).subs w)
