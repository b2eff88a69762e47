-- The lines of graphs are read in one way.
use Rattle.std.proofs.Common.{◌≡◌, ℕ, suc, Bool, false, List, [], ◌∷◌, ◌++◌, length, refl, sym, subst, ◌∙◌, append_assoc}
use Rattle.std.specs.Prelude.{All}
use Rattle.std.proofs.lemmas.List.Elements.{All-head, All-tail}
use Rattle.if1_graph.specs.declared.line.Line.{Line}
use Rattle.if1_graph.specs.declared.line.Line.TheVariants as line
use Rattle.if1_graph.specs.declared.graph.Graph.{Graph}
use Rattle.if1_graph.specs.declared.graph.Graph.TheViews.{out-Graph}
use Rattle.if1_graph.specs.declared.graph.Node.{Node, out-Node}
use Rattle.if1_graph.specs.declared.graph.Edge.{Edge}
use Rattle.if1_graph.specs.declared.graph.Origin.TheVariants.{Port, Lit}
use Rattle.if1_graph.specs.declared.graph.Unit1.{Unit1}
use Rattle.if1_graph.specs.Units.{label_of, Home, Function, Inside}
use Rattle.if1_graph.specs.Reads.{GivesBody, GivesParts, GivesUnit, IsGraphOf, IsSimpleNode, IsCompoundNode, edge_of, no_line, simple, compound, edge, literal, no_part, part, no_graph, import, function}
use Rattle.if1_read.specs.Like.{IsSameNode, AreLike, no_graph as no_like, more as more_like}
use Rattle.if1_read.specs.Made.{Each, none, more}
use Rattle.if1_read.proofs.Likeness.{Pairs}
use Rattle.if1_read.proofs.Same.{all_here, same_contains}
use Rattle.if1_unique.proofs.Held.{Holds, HoldInside, HoldFrom, here, within, first_part, first_function}
use Rattle.if1_unique.proofs.Alike.{Sound, SameHeader, graphs_like}

-- ---- lines at which the lines of a graph end

abbrev Stops : List Line → Type 0
Stops [] = Unit {0}
Stops (line.Subgraph name ∷ ls) = Unit {0}
Stops (line.Close label op count assoc before name ∷ ls) = Unit {0}
Stops (line.Function exported fun name ∷ ls) = Unit {0}
Stops (line.Import ty name ∷ ls) = Unit {0}
Stops (_ ∷ ls) = ⊥

abbrev Closes : List Line → Type 0
Closes (line.Close label op count assoc before name ∷ ls) = Unit {0}
Closes _ = ⊥

-- a line that a graph has, after its first one
abbrev IsOfBody : Line → Type 0
IsOfBody (line.Node label op before name) = Unit {0}
IsOfBody (line.Open rest) = Unit {0}
IsOfBody (line.Edge from out node port ty takes name) = Unit {0}
IsOfBody (line.Literal node port ty text name) = Unit {0}
IsOfBody _ = ⊥

closes_stops : (ls : List Line) → Closes ls → Stops ls
closes_stops (line.Close label op count assoc before name ∷ ls) h = tt
closes_stops [] h = tt
closes_stops (line.Subgraph name ∷ ls) h = tt
closes_stops (line.Function exported fun name ∷ ls) h = tt
closes_stops (line.Import ty name ∷ ls) h = tt
closes_stops (_ ∷ ls) h = h

no_stop : (l : Line) (ls : List Line) → IsOfBody l → Stops (l ∷ ls) → ⊥
no_stop (line.Node label op before name) ls h s = s
no_stop (line.Open rest) ls h s = s
no_stop (line.Edge from out node port ty takes name) ls h s = s
no_stop (line.Literal node port ty text name) ls h s = s
no_stop _ ls h s = h

-- lines that end a graph are none that a graph goes on with
ended : (xs : List Line) (l : Line) (ls : List Line) → IsOfBody l → Stops xs → xs ≡ l ∷ ls → ⊥
ended xs l ls b s e = no_stop l ls b (subst Stops e s)

-- which line comes first
abbrev NodeFirst : List Line → Type 0
NodeFirst (line.Node label op before name ∷ ls) = Unit {0}
NodeFirst _ = ⊥

abbrev OpenFirst : List Line → Type 0
OpenFirst (line.Open rest ∷ ls) = Unit {0}
OpenFirst _ = ⊥

abbrev EdgeFirst : List Line → Type 0
EdgeFirst (line.Edge from out node port ty takes name ∷ ls) = Unit {0}
EdgeFirst _ = ⊥

abbrev LiteralFirst : List Line → Type 0
LiteralFirst (line.Literal node port ty text name ∷ ls) = Unit {0}
LiteralFirst _ = ⊥

abbrev ImportFirst : List Line → Type 0
ImportFirst (line.Import ty name ∷ ls) = Unit {0}
ImportFirst _ = ⊥

abbrev FunctionFirst : List Line → Type 0
FunctionFirst (line.Function exported fun name ∷ ls) = Unit {0}
FunctionFirst _ = ⊥

abbrev NoneFirst : List Line → Type 0
NoneFirst [] = Unit {0}
NoneFirst (l ∷ ls) = ⊥

tails : {A : Type 0} (x y : A) (xs ys : List A) → x ∷ xs ≡ y ∷ ys → xs ≡ ys
tails x y xs ys e = cc

heads : {A : Type 0} (x y : A) (xs ys : List A) → x ∷ xs ≡ y ∷ ys → x ≡ y
heads x y xs ys e = cc

-- ---- nodes

-- what a node's line says
record Says (n : Node) (label op : ℕ) (assoc before name : List ℕ) : Type 0 where
  label_is : label_of n ≡ label
  op_is : (out-Node n).op ≡ op
  list_is : (out-Node n).assoc ≡ assoc
  before_is : (out-Node n).before ≡ before
  name_is : (out-Node n).name ≡ name

same_node : (n m : Node) (l k o p : ℕ) (al bs cs ds xs ys : List ℕ) → Says n l o al cs xs → Says m k p bs ds ys → l ≡ k → o ≡ p → al ≡ bs → cs ≡ ds → xs ≡ ys → IsSameNode n m
same_node n m l k o p al bs cs ds xs ys s t a b c d e = record {
  label_is = t.label_is ∙ sym a ∙ sym s.label_is;
  op_is = t.op_is ∙ sym b ∙ sym s.op_is;
  list_is = t.list_is ∙ sym c ∙ sym s.list_is;
  before_is = t.before_is ∙ sym d ∙ sym s.before_is;
  name_is = t.name_is ∙ sym e ∙ sym s.name_is;
}

simple_says : (n : Node) (label op : ℕ) (before name : List ℕ) → IsSimpleNode n label op before name → Says n label op [] before name
simple_says n label op before name is =
    record { label_is = is.label_is; op_is = is.op_is; list_is = is.no_list; before_is = is.before_is; name_is = is.name_is }

compound_says : (n : Node) (label op : ℕ) (gs : List Graph) (assoc before name : List ℕ) → IsCompoundNode n label op gs assoc before name → Says n label op assoc before name
compound_says n label op gs assoc before name is =
    record { label_is = is.label_is; op_is = is.op_is; list_is = is.list_is; before_is = is.before_is; name_is = is.name_is }

node_said : (l k o p : ℕ) (bs cs xs ys : List ℕ) → line.Node l o bs xs ≡ line.Node k p cs ys → (l ≡ k) × (o ≡ p) × (bs ≡ cs) × (xs ≡ ys)
node_said l k o p bs cs xs ys e = (cc, cc, cc, cc)

close_said : (l k o p c d : ℕ) (al ds bs cs xs ys : List ℕ) → line.Close l o c al bs xs ≡ line.Close k p d ds cs ys → (l ≡ k) × (o ≡ p) × (al ≡ ds) × (bs ≡ cs) × (xs ≡ ys)
close_said l k o p c d al ds bs cs xs ys e = (cc, cc, cc, cc, cc)

simple_pair : (n m : Node) (l k o p : ℕ) (bs cs xs ys : List ℕ) → IsSimpleNode n l o bs xs → IsSimpleNode m k p cs ys → line.Node l o bs xs ≡ line.Node k p cs ys → Pairs n m
simple_pair n m l k o p bs cs xs ys s t e = (
  let d = node_said l k o p bs cs xs ys e in
      same_node n m l k o p [] [] bs cs xs ys (simple_says n l o bs xs s) (simple_says m k p cs ys t) d.0 d.1 refl d.2 d.3,
  subst (λ (gs : List Graph). AreLike gs (out-Node m).subs) (sym s.no_graphs) (subst (λ (hs : List Graph). AreLike [] hs) (sym t.no_graphs) no_like),
)

compound_pair : (n m : Node) (l k o p c d : ℕ) (gs hs : List Graph) (al ds bs cs xs ys : List ℕ) → IsCompoundNode n l o gs al bs xs → IsCompoundNode m k p hs ds cs ys → AreLike gs hs →
    line.Close l o c al bs xs ≡ line.Close k p d ds cs ys → Pairs n m
compound_pair n m l k o p c d gs hs al ds bs cs xs ys s t like e = (
  let r = close_said l k o p c d al ds bs cs xs ys e in
      same_node n m l k o p al ds bs cs xs ys (compound_says n l o gs al bs xs s) (compound_says m k p hs ds cs ys t) r.0 r.1 r.2 r.3 r.4,
  subst (λ (gs : List Graph). AreLike gs (out-Node m).subs) (sym s.graphs_are) (subst (λ (hs : List Graph). AreLike gs hs) (sym t.graphs_are) like),
)

-- ---- graphs

-- the graphs of a node are sound
abbrev IsNodeHeld : Unit1 → Node → Type 0
IsNodeHeld u n = (outer : Graph) × HoldInside (Sound u) outer n 0 (out-Node n).subs

nodes_held : (u : Unit1) (home : Home) (g : Graph) (ns : List Node) (es : List Edge) → Holds (Sound u) home g → IsGraphOf u g ns es → All (IsNodeHeld u) ns
nodes_held u home g ns es h of =
    all_here (IsNodeHeld u) ns (λ n c. (g, within (Sound u) home g h n (same_contains label_of ns (out-Graph g).nodes (λ l. sym (of.nodes l)) n c)))

-- the two things that lines gave, and the lines behind them
record Bodies (ns ms : List Node) (es fs : List Edge) (xs ys : List Line) : Type 0 where
  nodes : Each Pairs ns ms
  edges : es ≡ fs
  rest : xs ≡ ys

record Parts (gs hs : List Graph) (xs ys : List Line) : Type 0 where
  graphs : AreLike gs hs
  rest : xs ≡ ys

with_node : (n m : Node) (ns ms : List Node) (es fs : List Edge) (xs ys : List Line) → Pairs n m → Bodies ns ms es fs xs ys → Bodies (n ∷ ns) (m ∷ ms) es fs xs ys
with_node n m ns ms es fs xs ys p b = record { nodes = more n m ns ms p b.nodes; edges = b.edges; rest = b.rest }

with_edge : (ns ms : List Node) (e f : Edge) (es fs : List Edge) (xs ys : List Line) → e ≡ f → Bodies ns ms es fs xs ys → Bodies ns ms (e ∷ es) (f ∷ fs) xs ys
with_edge ns ms e f es fs xs ys p b = record { nodes = b.nodes; edges = λ i. p i ∷ b.edges i; rest = b.rest }

edge_same : (a b c d p q o k t s : ℕ) (x y : Bool) (n m : List ℕ) → line.Edge a o c p t x n ≡ line.Edge b k d q s y m → edge_of (Port a o) c p t x n ≡ edge_of (Port b k) d q s y m
edge_same a b c d p q o k t s x y n m e = cc

literal_same : (c d p q t s : ℕ) (x y n m : List ℕ) → line.Literal c p t x n ≡ line.Literal d q s y m → edge_of (Lit x) c p t false n ≡ edge_of (Lit y) d q s false m
literal_same c d p q t s x y n m e = cc

header_said : (b c : Bool) (m n : ℕ) (xs ys : List ℕ) → line.Function b m xs ≡ line.Function c n ys → (b ≡ c) × (m ≡ n) × (xs ≡ ys)
header_said b c m n xs ys e = (cc, cc, cc)

name_said : (xs ys : List ℕ) → line.Subgraph xs ≡ line.Subgraph ys → xs ≡ ys
name_said xs ys e = cc

import_said : (m n : ℕ) (xs ys : List ℕ) → line.Import m xs ≡ line.Import n ys → (m ≡ n) × (xs ≡ ys)
import_said m n xs ys e = (cc, cc)

-- behind the lines of a graph stand those of parts
parts_stop : (u : Unit1) (ps : List Line) (gs : List Graph) → GivesParts u ps gs → (xs : List Line) → Stops xs → Stops (ps ++ xs)
parts_stop u ps gs no_part xs s = s
parts_stop u ps gs (part g b of r) xs s = tt

unit_stops : (u : Unit1) (ls : List Line) (is : List (ℕ × List ℕ)) (gs : List Graph) → GivesUnit u ls is gs → Stops ls
unit_stops u ls is gs no_graph = tt
unit_stops u ls is gs (import ty name g) = tt
unit_stops u ls is gs (function g b of r) = tt

regrouped : (ps xs qs ys al bs : List Line) → (ps ++ xs) ++ al ≡ (qs ++ ys) ++ bs → ps ++ (xs ++ al) ≡ qs ++ (ys ++ bs)
regrouped ps xs qs ys al bs e = sym (append_assoc ps xs al) ∙ (e ∙ append_assoc qs ys bs)

inner_header : (u v : Unit1) (g h outer other : Graph) (n m : Node) (j k : ℕ) → Sound u (record { graph = g; home = Inside outer n j }) → Sound v (record { graph = h; home = Inside other m k }) →
    (out-Graph g).name ≡ (out-Graph h).name → SameHeader g h
inner_header u v g h outer other n m j k s t e =
    record { exported = s.formed.header.1 ∙ sym t.formed.header.1; fun = s.formed.header.0 ∙ sym t.formed.header.0; name = e }

module _ (u v : Unit1) (types : u.types ≡ v.types) where
  mutual
    body_same : (ls : List Line) (ns : List Node) (es : List Edge) → GivesBody u ls ns es → (ks : List Line) (ms : List Node) (fs : List Edge) → GivesBody v ks ms fs →
        (xs ys : List Line) → Stops xs → Stops ys → ls ++ xs ≡ ks ++ ys → All (IsNodeHeld u) ns → All (IsNodeHeld v) ms → Bodies ns ms es fs xs ys
    body_same ls ns es no_line ks ms fs no_line xs ys s t e a b = record { nodes = none; edges = refl; rest = e }
    body_same ls ns es no_line ks ms fs (simple {ls = ks2} m k p cs y is r) xs ys s t e a b = absurd (ended xs (line.Node k p cs y) (ks2 ++ ys) tt s e)
    body_same ls ns es no_line ks ms fs (compound {ps = qs} {ls = ks2} m other k p hs ds cs y is q r) xs ys s t e a b =
        absurd (ended xs (line.Open other) ((qs ++ line.Close k p (length hs) ds cs y ∷ ks2) ++ ys) tt s e)
    body_same ls ns es no_line ks ms fs (edge {ls = ks2} from out node port ty takes name r) xs ys s t e a b = absurd (ended xs (line.Edge from out node port ty takes name) (ks2 ++ ys) tt s e)
    body_same ls ns es no_line ks ms fs (literal {ls = ks2} node port ty text name r) xs ys s t e a b = absurd (ended xs (line.Literal node port ty text name) (ks2 ++ ys) tt s e)
    body_same ls ns es (simple {ls = ls2} n l o bs x is g) ks ms fs no_line xs ys s t e a b = absurd (ended ys (line.Node l o bs x) (ls2 ++ xs) tt t (sym e))
    body_same ls ns es (compound {ps = ps} {ls = ls2} n rest l o gs al bs x is p g) ks ms fs no_line xs ys s t e a b =
        absurd (ended ys (line.Open rest) ((ps ++ line.Close l o (length gs) al bs x ∷ ls2) ++ xs) tt t (sym e))
    body_same ls ns es (edge {ls = ls2} from out node port ty takes name g) ks ms fs no_line xs ys s t e a b = absurd (ended ys (line.Edge from out node port ty takes name) (ls2 ++ xs) tt t (sym e))
    body_same ls ns es (literal {ls = ls2} node port ty text name g) ks ms fs no_line xs ys s t e a b = absurd (ended ys (line.Literal node port ty text name) (ls2 ++ xs) tt t (sym e))
    body_same ls ns es (simple {ls = ls2} {ns = ns2} {es = es2} n l o bs x is g) ks ms fs (simple {ls = ks2} {ns = ms2} {es = fs2} m k p cs y also r) xs ys s t e a b =
        let f = line.Node l o bs x in
        let h = line.Node k p cs y in
        with_node n m ns2 ms2 es2 fs2 xs ys (simple_pair n m l k o p bs cs x y is also (heads f h (ls2 ++ xs) (ks2 ++ ys) e))
        (body_same ls2 ns2 es2 g ks2 ms2 fs2 r xs ys s t (tails f h (ls2 ++ xs) (ks2 ++ ys) e) (All-tail (IsNodeHeld u) n ns2 a) (All-tail (IsNodeHeld v) m ms2 b))
    body_same ls ns es (simple n l o bs x is g) ks ms fs r xs ys s t e a b = absurd (subst NodeFirst e tt)
    body_same ls ns es (edge {ls = ls2} {ns = ns2} {es = es2} from out node port ty takes name g) ks ms fs (edge {ls = ks2} {ns = ms2} {es = fs2} from2 out2 node2 port2 ty2 takes2 name2 r) xs ys s t e a b =
        let f = line.Edge from out node port ty takes name in
        let h = line.Edge from2 out2 node2 port2 ty2 takes2 name2 in
        with_edge ns2 ms2 (edge_of (Port from out) node port ty takes name) (edge_of (Port from2 out2) node2 port2 ty2 takes2 name2) es2 fs2 xs ys
        (edge_same from from2 node node2 port port2 out out2 ty ty2 takes takes2 name name2 (heads f h (ls2 ++ xs) (ks2 ++ ys) e))
        (body_same ls2 ns2 es2 g ks2 ms2 fs2 r xs ys s t (tails f h (ls2 ++ xs) (ks2 ++ ys) e) a b)
    body_same ls ns es (edge from out node port ty takes name g) ks ms fs r xs ys s t e a b = absurd (subst EdgeFirst e tt)
    body_same ls ns es (literal {ls = ls2} {ns = ns2} {es = es2} node port ty text name g) ks ms fs (literal {ls = ks2} {ns = ms2} {es = fs2} node2 port2 ty2 text2 name2 r) xs ys s t e a b =
        let f = line.Literal node port ty text name in
        let h = line.Literal node2 port2 ty2 text2 name2 in
        with_edge ns2 ms2 (edge_of (Lit text) node port ty false name) (edge_of (Lit text2) node2 port2 ty2 false name2) es2 fs2 xs ys
        (literal_same node node2 port port2 ty ty2 text text2 name name2 (heads f h (ls2 ++ xs) (ks2 ++ ys) e))
        (body_same ls2 ns2 es2 g ks2 ms2 fs2 r xs ys s t (tails f h (ls2 ++ xs) (ks2 ++ ys) e) a b)
    body_same ls ns es (literal node port ty text name g) ks ms fs r xs ys s t e a b = absurd (subst LiteralFirst e tt)
    body_same ls ns es (compound {ps = ps} {ls = ls2} {ns = ns2} {es = es2} n rest l o gs al bs x is p g) ks ms fs (compound {ps = qs} {ls = ks2} {ns = ms2} {es = fs2} m other k c hs ds cs y also q r) xs ys s t e a b =
        let f = line.Close l o (length gs) al bs x in
        let h = line.Close k c (length hs) ds cs y in
        let behind = tails (line.Open rest) (line.Open other) ((ps ++ f ∷ ls2) ++ xs) ((qs ++ h ∷ ks2) ++ ys) e in
        let here = All-head (IsNodeHeld u) n ns2 a in
        let there = All-head (IsNodeHeld v) m ms2 b in
        let parts = parts_same ps gs p qs hs q (f ∷ (ls2 ++ xs)) (h ∷ (ks2 ++ ys)) tt tt (regrouped ps (f ∷ ls2) qs (h ∷ ks2) xs ys behind)
        here.0 n 0 there.0 m 0 (subst (HoldInside (Sound u) here.0 n 0) is.graphs_are here.1) (subst (HoldInside (Sound v) there.0 m 0) also.graphs_are there.1) in
        with_node n m ns2 ms2 es2 fs2 xs ys
        (compound_pair n m l k o c (length gs) (length hs) gs hs al ds bs cs x y is also parts.graphs (heads f h (ls2 ++ xs) (ks2 ++ ys) parts.rest))
        (body_same ls2 ns2 es2 g ks2 ms2 fs2 r xs ys s t (tails f h (ls2 ++ xs) (ks2 ++ ys) parts.rest) (All-tail (IsNodeHeld u) n ns2 a) (All-tail (IsNodeHeld v) m ms2 b))
    body_same ls ns es (compound n rest l o gs al bs x is p g) ks ms fs r xs ys s t e a b = absurd (subst OpenFirst e tt)

    parts_same : (ls : List Line) (gs : List Graph) → GivesParts u ls gs → (ks : List Line) (hs : List Graph) → GivesParts v ks hs → (xs ys : List Line) → Closes xs → Closes ys → ls ++ xs ≡ ks ++ ys →
        (outer : Graph) (n : Node) (j : ℕ) (other : Graph) (m : Node) (k : ℕ) → HoldInside (Sound u) outer n j gs → HoldInside (Sound v) other m k hs → Parts gs hs xs ys
    parts_same ls gs no_part ks hs no_part xs ys s t e outer n j other m k a b = record { graphs = no_like; rest = e }
    parts_same ls gs no_part ks hs (part {ls = cs} {ps = qs} h c also q) xs ys s t e outer n j other m k a b = absurd (subst Closes e s)
    parts_same ls gs (part {ls = bs} {ps = ps} g d of p) ks hs no_part xs ys s t e outer n j other m k a b = absurd (subst Closes (sym e) t)
    parts_same ls gs (part {ls = bs} {ps = ps} {ns = ns} {es = es} {gs = gs2} g d of p) ks hs (part {ls = cs} {ps = qs} {ns = ms} {es = fs} {gs = hs2} h c also q) xs ys s t e outer n j other m k a b =
        let f = line.Subgraph (out-Graph g).name in
        let i = line.Subgraph (out-Graph h).name in
        let behind = regrouped bs ps cs qs xs ys (tails f i ((bs ++ ps) ++ xs) ((cs ++ qs) ++ ys) e) in
        let name = name_said (out-Graph g).name (out-Graph h).name (heads f i ((bs ++ ps) ++ xs) ((cs ++ qs) ++ ys) e) in
        let x = first_part (Sound u) outer n j g gs2 a in
        let y = first_part (Sound v) other m k h hs2 b in
        let body = body_same bs ns es d cs ms fs c (ps ++ xs) (qs ++ ys) (parts_stop u ps gs2 p xs (closes_stops xs s)) (parts_stop v qs hs2 q ys (closes_stops ys t)) behind
        (nodes_held u (Inside outer n j) g ns es x.0 of) (nodes_held v (Inside other m k) h ms fs y.0 also) in
        let here_u = here (Sound u) (Inside outer n j) g x.0 in
        let here_v = here (Sound v) (Inside other m k) h y.0 in
        let like = graphs_like u v types (Inside outer n j) (Inside other m k) g h here_u here_v ns ms es fs of also body.nodes body.edges (inner_header u v g h outer other n m j k here_u here_v name) in
        let others = parts_same ps gs2 p qs hs2 q xs ys s t body.rest outer n (suc j) other m (suc k) x.1 y.1 in
        record { graphs = more_like g h gs2 hs2 like others.graphs; rest = others.rest }

  -- what the lines of functions gave
  pub record Functions (is js : List (ℕ × List ℕ)) (gs hs : List Graph) : Type 0 where
    pub imports : is ≡ js
    pub graphs : AreLike gs hs

  pub functions_same : (ls : List Line) (is : List (ℕ × List ℕ)) (gs : List Graph) → GivesUnit u ls is gs → (ks : List Line) (js : List (ℕ × List ℕ)) (hs : List Graph) → GivesUnit v ks js hs → ls ≡ ks →
      (j k : ℕ) → HoldFrom (Sound u) j gs → HoldFrom (Sound v) k hs → Functions is js gs hs
  functions_same ls is gs no_graph ks js hs no_graph e j k a b = record { imports = refl; graphs = no_like }
  functions_same ls is gs no_graph ks js hs h e j k a b = absurd (subst NoneFirst e tt)
  functions_same ls is gs (import {ls = ls2} {is = is2} {gs = gs2} ty name g) ks js hs (import {ls = ks2} {is = js2} {gs = hs2} ty2 name2 h) e j k a b =
      let rest = functions_same ls2 is2 gs2 g ks2 js2 hs2 h (tails (line.Import ty name) (line.Import ty2 name2) ls2 ks2 e) j k a b in
      let said = import_said ty ty2 name name2 (heads (line.Import ty name) (line.Import ty2 name2) ls2 ks2 e) in
      record { imports = λ i. (said.0 i, said.1 i) ∷ rest.imports i; graphs = rest.graphs }
  functions_same ls is gs (import ty name g) ks js hs h e j k a b = absurd (subst ImportFirst e tt)
  functions_same ls is gs (function {bs = bs} {ls = ls2} {ns = ns} {es = es} {is = is2} {gs = gs2} g d of p) ks js hs (function {bs = cs} {ls = ks2} {ns = ms} {es = fs} {is = js2} {gs = hs2} h c also q) e j k a b =
      let f = line.Function (out-Graph g).exported (out-Graph g).fun (out-Graph g).name in
      let i = line.Function (out-Graph h).exported (out-Graph h).fun (out-Graph h).name in
      let said = header_said (out-Graph g).exported (out-Graph h).exported (out-Graph g).fun (out-Graph h).fun (out-Graph g).name (out-Graph h).name (heads f i (bs ++ ls2) (cs ++ ks2) e) in
      let x = first_function (Sound u) j g gs2 a in
      let y = first_function (Sound v) k h hs2 b in
      let body = body_same bs ns es d cs ms fs c ls2 ks2 (unit_stops u ls2 is2 gs2 p) (unit_stops v ks2 js2 hs2 q) (tails f i (bs ++ ls2) (cs ++ ks2) e)
      (nodes_held u (Function j) g ns es x.0 of) (nodes_held v (Function k) h ms fs y.0 also) in
      let same : SameHeader g h = record { exported = said.0; fun = said.1; name = said.2 } in
      let like = graphs_like u v types (Function j) (Function k) g h (here (Sound u) (Function j) g x.0) (here (Sound v) (Function k) h y.0) ns ms es fs of also body.nodes body.edges same in
      let rest = functions_same ls2 is2 gs2 p ks2 js2 hs2 q body.rest (suc j) (suc k) x.1 y.1 in
      record { imports = rest.imports; graphs = more_like g h gs2 hs2 like rest.graphs }
  functions_same ls is gs (function g d of p) ks js hs h e j k a b = absurd (subst FunctionFirst e tt)
