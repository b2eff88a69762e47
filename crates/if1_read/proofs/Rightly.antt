-- The nodes and literals of a formed graph, as its lines say them.
use Rattle.std.proofs.Common.{◌≡◌, ℕ, suc, Bool, true, false, cond, ◌&&◌, ◌||◌, List, [], ◌∷◌, map, length, Option, Some, None, IsSome, refl, sym, ap, subst, ◌∙◌, arith, true≢false}
use Rattle.std.specs.Prelude.{◌==◌, All, Contains, find, bytes_eq, is_some}
use Rattle.std.specs.List.{list_any}
use Rattle.std.proofs.lemmas.Bool.{eq-eqb}
use Rattle.std.proofs.lemmas.List.Elements.{All-nil, All-cons, All-contains}
use Rattle.flow_value.specs.declared.value.Val.{Val}
use Rattle.if1_graph.specs.declared.graph.Graph.{Graph}
use Rattle.if1_graph.specs.declared.graph.Graph.TheViews.{out-Graph}
use Rattle.if1_graph.specs.declared.graph.Node.{Node, out-Node}
use Rattle.if1_graph.specs.declared.graph.Edge.{Edge}
use Rattle.if1_graph.specs.declared.graph.Origin.{Origin}
use Rattle.if1_graph.specs.declared.graph.Origin.TheVariants.{Port, Lit as Text}
use Rattle.if1_graph.specs.declared.graph.TypeEntry.{TypeEntry}
use Rattle.if1_graph.specs.declared.graph.Unit1.{Unit1}
use Rattle.if1_graph.specs.declared.kind.TypeKind.{TypeKind}
use Rattle.if1_graph.specs.declared.kind.TypeKind.TheVariants as kind
use Rattle.if1_graph.specs.declared.kind.Basic.{Basic}
use Rattle.if1_graph.specs.declared.kind.Basic.TheVariants as basic
use Rattle.if1_graph.specs.declared.row.Want.{Want}
use Rattle.if1_graph.specs.declared.row.Want.TheVariants as want
use Rattle.if1_graph.specs.Tables.{◌>>=◌}
use Rattle.if1_graph.specs.Ops.{simple_at}
use Rattle.if1_graph.specs.Rows.{operand_of}
use Rattle.if1_graph.specs.Kinds.{kind_at, basic_at}
use Rattle.if1_graph.specs.Literals.{literal}
use Rattle.if1_graph.specs.Units.{label_of, node_at, Home}
use Rattle.if1_graph.specs.Formed.{function_named, want_at, IsLiteralFor, IsOrigin, IsEdge, IsNode, IsOpcode, IsOnce, IsGraph}
use Rattle.if1_graph.specs.Normal.{text_for, canonical, canonical_as, canonical_origin, canonical_edge}
use Rattle.if1_graph.specs.Reads.{into_port, IsGraphOf}
use Rattle.if1_read.specs.Faults.{want_of, literal_fault, unless, with_some}
use Rattle.if1_read.specs.Pages.{Lit}
use Rattle.if1_read.proofs.Faultless.{Bears, IsLitRight, IsGraphRight}
use Rattle.if1_read.proofs.Same.{same_contains, same_find, same_length, same_once, contains_filter, filter_contains, contains_map, contains_here, contains_later}

-- a node by its label and opcode
abbrev pub said : Node → ℕ × ℕ
said n = (label_of n, (out-Node n).op)

abbrev pub lit_from : Edge → Origin → Option Lit
lit_from e (Port node port) = None
lit_from e (Text text) = Some (record { node = e.node; port = e.port; ty = e.ty; text = text })

abbrev pub lits_of : List Edge → List Lit
lits_of [] = []
lits_of (e ∷ es) = with_some (lit_from e e.from) (lits_of es)

abbrev pub name_of : Graph → List ℕ
name_of g = (out-Graph g).name

-- ---- literals

none_unless : (b : Bool) → b ≡ true → (k : _) → unless b k ≡ None
none_unless b e k = ap (λ b. unless b k) e

there_before : (b : Basic) (text : List ℕ) (o : Option Val) → literal b text ≡ o → IsSome (literal b (text_for text o)) → is_some o ≡ true
there_before b text None e h = absurd (true≢false (sym (subst (λ (o : Option Val). IsSome o) e h)))
there_before b text (Some v) e h = refl

right_literal : (gs : List Graph) (names : List (List ℕ)) → ((t : List ℕ) → is_some (function_named gs t) ≡ list_any (λ n. bytes_eq n t) names) →
    (w : Option Want) (text : List ℕ) (k : Option TypeKind) (b : Option Basic) → IsLiteralFor gs w (canonical w k b text) k b → literal_fault names w text k b ≡ None
right_literal gs names named (Some want.Function) text (Some kind.Function) b h = none_unless (list_any (λ n. bytes_eq n text) names) (sym (named text) ∙ h) _
right_literal gs names named (Some want.Reduction) text (Some kind.Function) b h = none_unless _ h _
right_literal gs names named w text (Some kind.Function) b h = refl
right_literal gs names named (Some want.Reduction) text (Some kind.Basic) (Some basic.Integer) h = none_unless _ h _
right_literal gs names named w text (Some kind.Basic) (Some b) h = none_unless (is_some (literal b text)) (there_before b text (literal b text) refl h) _
right_literal gs names named w text _ _ h = absurd h

named_if : (b c : Bool) (g : Graph) (o : Option Graph) → is_some o ≡ c → is_some (cond b (Some g) o) ≡ (b || c)
named_if true c g o e = refl
named_if false c g o e = e

pub named_all : (gs : List Graph) (t : List ℕ) → is_some (function_named gs t) ≡ list_any (λ n. bytes_eq n t) (map name_of gs)
named_all [] t = refl
named_all (g ∷ gs) t = named_if (bytes_eq (name_of g) t) (list_any (λ n. bytes_eq n t) (map name_of gs)) g (function_named gs t) (named_all gs t)

-- ---- wants

abbrev want_from : Option Node → ℕ → Option Want
want_from o port = o >>= λ n. simple_at (out-Node n).op >>= λ op. operand_of op port >>= λ operand. Some operand.1

abbrev want_said : Option (ℕ × ℕ) → ℕ → Option Want
want_said o port = o >>= λ n. simple_at n.1 >>= λ op. operand_of op port >>= λ operand. Some operand.1

want_if : (b : Bool) (n : Node) (x : Option (ℕ × ℕ)) (y : Option Node) (port : ℕ) → want_said x port ≡ want_from y port →
    want_said (cond b (Some (said n)) x) port ≡ want_from (cond b (Some n) y) port
want_if true n x y port e = refl
want_if false n x y port e = e

want_nodes : (ns : List Node) (l port : ℕ) → want_of (map said ns) l port ≡ want_from (node_at ns l) port
want_nodes [] l port = refl
want_nodes (n ∷ ns) l port = want_if (label_of n == l) n (find (λ m. m.0 == l) (map said ns)) (node_at ns l) port (want_nodes ns l port)

labels_said : (ns : List Node) → map (λ n. n.0) (map said ns) ≡ map label_of ns
labels_said [] = refl
labels_said (n ∷ ns) = ap (λ ls. label_of n ∷ ls) (labels_said ns)

count_said : (ns : List Node) → length (map said ns) ≡ length ns
count_said [] = refl
count_said (n ∷ ns) = ap suc (count_said ns)

-- ---- one graph

abbrev pub functions_of : Unit1 → List (List ℕ)
functions_of u = map name_of u.graphs

abbrev fills : ℕ → ℕ → Edge → Bool
fills l port e = (e.node == l) && (e.port == port)

fills_itself : (e : Edge) → fills e.node e.port e ≡ true
fills_itself e = ap (λ b. b && (e.port == e.port)) (eq-eqb e.node e.node refl) ∙ eq-eqb e.port e.port refl

with_lit : (P : Lit → Type 0) (o : Option Lit) (ls : List Lit) → ((l : Lit) → o ≡ Some l → P l) → All P ls → All P (with_some o ls)
with_lit P None ls h all = all
with_lit P (Some l) ls h all = All-cons P l ls (h l refl) all

module _ (u : Unit1) (g : Graph) (home : Home) (formed : IsGraph u (record { graph = g; home = home })) (ns : List Node) (es : List Edge) (of : IsGraphOf u g ns es) where
  pub node_there : (n : Node) → Contains ns n → Contains (out-Graph g).nodes n
  node_there n c = same_contains label_of ns (out-Graph g).nodes (λ l. sym (of.nodes l)) n c

  pub opcode : (n : Node) → Contains ns n → IsOpcode (out-Node n).op
  opcode n c = (All-contains IsNode (out-Graph g).nodes n formed.nodes (node_there n c)).op

  edge_there : (e : Edge) → Contains es e → Contains (out-Graph g).edges (canonical_edge u g e)
  edge_there e c =
      filter_contains (fills e.node e.port) (out-Graph g).edges (canonical_edge u g e)
      (subst (λ xs. Contains xs (canonical_edge u g e)) (sym (of.edges e.node e.port))
      (contains_map (canonical_edge u g) (into_port e.node e.port es) e (contains_filter (fills e.node e.port) es e (fills_itself e) c)))

  edge_fine : (e : Edge) → Contains es e → IsEdge u g (canonical_edge u g e)
  edge_fine e c = All-contains (IsEdge u g) (out-Graph g).edges (canonical_edge u g e) formed.edges (edge_there e c)

  pub bears : (e : Edge) → Contains es e → Bears u.types e.ty
  bears e c = let t = (edge_fine e c).ty in record { there = t.1; free = t.2 }

  want_same : (l port : ℕ) → want_at g l port ≡ want_of (map said ns) l port
  want_same l port = ap (λ (o : Option Node). want_from o port) (same_find label_of (out-Graph g).nodes ns of.nodes l) ∙ sym (want_nodes ns l port)

  abbrev IsRight : Lit → Type 0
  IsRight l = IsLitRight u.types (functions_of u) (map said ns) l

  lit_right : (e : Edge) (o : Origin) → IsOrigin u g (canonical_edge u g e) (canonical_origin u g e o) → (l : Lit) → lit_from e o ≡ Some l → IsRight l
  lit_right e (Port node port) s l eq = absurd cc
  lit_right e (Text text) s l eq =
      let w : Option Want = want_at g e.node e.port in
      let here : Lit = record { node = e.node; port = e.port; ty = e.ty; text = text } in
      let same : here ≡ l = cc in
      let right : IsRight here =
      λ en found.
      let h = subst (λ (o : Option TypeEntry). IsLiteralFor u.graphs w (canonical_as w o text) (kind_at en.code) (basic_at en.first)) found (s.2 en found) in
      let r = right_literal u.graphs (functions_of u) (named_all u.graphs) w text (kind_at en.code) (basic_at en.first) h in
      subst (λ (v : Option Want). literal_fault (functions_of u) v text (kind_at en.code) (basic_at en.first) ≡ None) (want_same e.node e.port) r in
      subst IsRight same right

  lits_right : (fs : List Edge) → ((e : Edge) → Contains fs e → Contains es e) → All IsRight (lits_of fs)
  lits_right [] sub = All-nil IsRight
  lits_right (e ∷ fs) sub =
      with_lit IsRight (lit_from e e.from) (lits_of fs) (lit_right e e.from (edge_fine e (sub e (contains_here e fs))).source)
      (lits_right fs (λ f c. sub f (contains_later e fs f c)))

  pub right : IsGraphRight u.types (functions_of u) (map said ns) (lits_of es)
  right = record {
    once = subst IsOnce (sym (labels_said ns)) (same_once label_of (out-Graph g).nodes ns of.nodes formed.labels);
    few = omega (arith, count_said ns, same_length label_of (out-Graph g).nodes ns of.nodes, formed.few);
    lits = lits_right es (λ e c. c);
  }
