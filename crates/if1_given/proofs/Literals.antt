-- Literals without a fault are ones of their types.
use Rattle.std.proofs.Common.{◌≡◌, ℕ, Bool, true, false, List, [], ◌∷◌, map, Option, Some, None, inl, inr, bytes_eq, if◌then◌else◌, refl, sym, ap, subst, ◌∙◌}
use Rattle.std.specs.Prelude.{All, Contains, is_some}
use Rattle.std.specs.List.{list_any}
use Rattle.std.proofs.lemmas.List.Elements.{All-contains}
use Rattle.if1_graph.specs.declared.graph.Graph.{Graph}
use Rattle.if1_graph.specs.declared.graph.Node.{Node, out-Node}
use Rattle.if1_graph.specs.declared.graph.Edge.{Edge}
use Rattle.if1_graph.specs.declared.graph.Origin.{Origin}
use Rattle.if1_graph.specs.declared.graph.Origin.TheVariants.{Port, Lit as Text}
use Rattle.if1_graph.specs.declared.kind.TypeKind.{TypeKind}
use Rattle.if1_graph.specs.declared.kind.TypeKind.TheVariants as kind
use Rattle.if1_graph.specs.declared.kind.Basic.{Basic}
use Rattle.if1_graph.specs.declared.kind.Basic.TheVariants as basic
use Rattle.if1_graph.specs.declared.row.Want.{Want}
use Rattle.if1_graph.specs.declared.row.Want.TheVariants as want
use Rattle.if1_graph.specs.Kinds.{kind_at, basic_at}
use Rattle.if1_graph.specs.Literals.{literal}
use Rattle.if1_graph.specs.Ops.{reducer_at, simple_at}
use Rattle.if1_graph.specs.Rows.{operand_of}
use Rattle.if1_graph.specs.Tables.{◌>>=◌}
use Rattle.if1_graph.specs.Types.{entry_at}
use Rattle.if1_graph.specs.Units.{label_of}
use Rattle.if1_graph.specs.Formed.{IsLiteralFor}
use Rattle.if1_graph.specs.Reads.{AreNodes}
use Rattle.if1_read.specs.declared.fault.Kind.{Kind}
use Rattle.if1_read.specs.declared.fault.Kind.TheVariants.{Bad, Unknown}
use Rattle.if1_read.specs.declared.fault.Fault.{Fault}
use Rattle.if1_read.specs.declared.judge.Known.{Known}
use Rattle.if1_read.specs.Faults.{want_of, literal_fault, unless, with_some}
use Rattle.if1_read.specs.Known.{IsClear, AreNamed, want_in, IsLiteralAt, IsLiteralFrom}
use Rattle.if1_read.specs.Made.{IsEdgeMade}
use Rattle.if1_read.specs.Marks.{is_set}
use Rattle.if1_read.specs.Pages.{Lit, Page, wrong_lits}
use Rattle.if1_read.specs.Rulings.{lit_fault, lit_wrong, rules_of}
use Rattle.if1_read.specs.Sheets.{marks_of, lit_from, lit_of}
use Rattle.if1_read.proofs.Same.{all_here, same_find, contains_here, contains_later, contains_cases, contains_none}
use Rattle.if1_read.proofs.Repeats.{lit_wrongly}
use Rattle.if1_read.proofs.Verdicts.{want_same}
use Rattle.if1_given.proofs.Clean.{from_list}

not_unless : (b : Bool) (k : Kind) → unless b k ≡ None → b ≡ true
not_unless true k e = refl
not_unless false k e = absurd cc

module _ (names : List (List ℕ)) (gs : List Graph) (named : AreNamed names gs) where
  right_literal : (w : Option Want) (text : List ℕ) (k : Option TypeKind) (b : Option Basic) → literal_fault names w text k b ≡ None → IsLiteralFor gs w text k b
  right_literal (Some want.Function) text (Some kind.Function) b e = named text ∙ not_unless (list_any (λ n. bytes_eq n text) names) Unknown e
  right_literal (Some want.Reduction) text (Some kind.Function) b e = not_unless (is_some (reducer_at text)) Unknown e
  right_literal w text (Some kind.Function) b e = tt
  right_literal (Some want.Reduction) text (Some kind.Basic) (Some basic.Integer) e = not_unless (is_some (reducer_at text)) Unknown e
  right_literal w text (Some kind.Basic) (Some b) e = not_unless (is_some (literal b text)) Bad e
  right_literal w text k b e = absurd cc

-- the literals of edges
abbrev pub lits_of : List Edge → List Lit
lits_of [] = []
lits_of (e ∷ es) = with_some (lit_of e) (lits_of es)

among_if : (o : Option Lit) (x : Lit) (xs : List Lit) → Contains xs x → Contains (with_some o xs) x
among_if None x xs c = c
among_if (Some y) x xs c = contains_later y xs x c

lit_among : (es : List Edge) (e : Edge) (l : Lit) → Contains es e → lit_of e ≡ Some l → Contains (lits_of es) l
lit_among [] e l c is = absurd (contains_none e c)
lit_among (x ∷ es) e l c is = elim (contains_cases x es e c) [
  | inl same ↦
      subst (λ (o : Option Lit). Contains (with_some o (lits_of es)) l) (sym (ap lit_of same ∙ is)) (contains_here l (lits_of es))
  | inr later ↦ among_if (lit_of x) l (lits_of es) (lit_among es e l later is)
]

-- the nodes and the literals of a graph are those of its page
pub record IsPageOf (p : Page) (ns : List Node) (es : List Edge) : Type 0 where
  pub nodes : map (λ n. n.1) p.nodes ≡ map marks_of ns
  pub lits : map (λ l. l.1) p.lits ≡ lits_of es

module _ (k : Known) (p : Page) (ns ms : List Node) (es : List Edge) (page : IsPageOf p ns es) (same : AreNodes ms ns)
    (clean : wrong_lits (rules_of k) (map (λ n. n.1) p.nodes) p.lits ≡ []) where
  not_wrong : (l : Lit) → Contains (lits_of es) l → lit_wrong k (map marks_of ns) l ≡ None
  not_wrong l c =
      let r = from_list (λ l. l.1) p.lits l (subst (λ (ls : List Lit). Contains ls l) (sym page.lits) c) in
      by r.0 r.1 r.2 (lit_wrong k (map (λ n. n.1) p.nodes) r.0.1) refl
    where
      by : (x : ℕ × Lit) → Contains p.lits x → x.1 ≡ l → (o : Option Kind) → lit_wrong k (map (λ n. n.1) p.nodes) x.1 ≡ o → lit_wrong k (map marks_of ns) l ≡ None
      by x c is None e = ap (λ (xs : List (ℕ × ℕ)). lit_wrong k xs l) (sym page.nodes) ∙ ap (lit_wrong k (map (λ n. n.1) p.nodes)) (sym is) ∙ e
      by x c is (Some j) e =
          let f : Fault = record { line = x.0; kind = j } in
          absurd (contains_none f (subst (λ fs. Contains fs f) clean (lit_wrongly (rules_of k) (map (λ n. n.1) p.nodes) p.lits x j c e)))

  want_is : (l port : ℕ) → want_in ms l port ≡ want_of (map marks_of ns) l port
  want_is l port =
      ap (λ (o : Option Node). o >>= λ n. simple_at (out-Node n).op >>= λ op. operand_of op port >>= λ operand. Some operand.1) (same_find label_of ms ns same l)
      ∙ want_same ns l port

  not_marked : (l : Lit) → IsClear k.table l.ty → lit_wrong k (map marks_of ns) l ≡ lit_fault k.names (want_of (map marks_of ns) l.node l.port) l.text (entry_at k.table.types l.ty)
  not_marked l clear =
      ap (λ (o : Option Bool). if is_set o then None else lit_fault k.names (want_of (map marks_of ns) l.node l.port) l.text (entry_at k.table.types l.ty)) clear

  lit_right : (l : Lit) → Contains (lits_of es) l → IsClear k.table l.ty → IsLiteralAt k (want_in ms l.node l.port) l.ty l.text
  lit_right l c clear gs named e found =
      let w = want_of (map marks_of ns) l.node l.port in
      let none : literal_fault k.names w l.text (kind_at e.code) (basic_at e.first) ≡ None =
      ap (lit_fault k.names w l.text) (sym found) ∙ (sym (not_marked l clear) ∙ not_wrong l c) in
      subst (λ (v : Option Want). IsLiteralFor gs v l.text (kind_at e.code) (basic_at e.first)) (sym (want_is l.node l.port))
      (right_literal k.names gs named w l.text (kind_at e.code) (basic_at e.first) none)

  origin_right : (e : Edge) (o : Origin) → Contains es e → lit_of e ≡ lit_from e o → IsClear k.table e.ty → IsLiteralFrom k ms e o
  origin_right e (Port node port) c is clear = tt
  origin_right e (Text text) c is clear =
      let l : Lit = record { node = e.node; port = e.port; ty = e.ty; text = text } in
      lit_right l (lit_among es e l c is) clear

  pub edges_right : All (IsEdgeMade k) es → All (λ e. IsLiteralFrom k ms e e.from) es
  edges_right made = all_here (λ e. IsLiteralFrom k ms e e.from) es (λ e c. origin_right e e.from c refl (All-contains (IsEdgeMade k) es e made c).ty)
