-- Each line of a formed unit has a spelling.
use Rattle.std.proofs.Common.{◌≡◌, ℕ, zero, suc, ◌+◌, ◌^◌, ◌<◌, ◌≤◌, Bool, true, false, cond, List, [], ◌∷◌, ◌++◌, map, length, slice_index, Option, Some, None, inl, inr, refl, sym, ap, subst, ◌∙◌, arith, eqb, true≢false}
use Rattle.std.specs.Prelude.{All, IsSome, is_some, find, ◌==◌, nat_lt, decimal, codes}
use Rattle.std.specs.List.{list_all}
use Rattle.std.specs.List.Sorted.{IsStrictlyIncreasing}
use Rattle.std.proofs.lemmas.Bool.{lt-ltb}
use Rattle.std.proofs.lemmas.Bool.Decides.{eqb_tells}
use Rattle.std.proofs.lemmas.List.Elements.{All-head, All-tail}
use Rattle.std.proofs.lemmas.List.Folds.{list_all-append}
use Rattle.if1_graph.specs.declared.line.Line.{Line}
use Rattle.if1_graph.specs.declared.line.Line.TheVariants as line
use Rattle.if1_graph.specs.Entries.{entry_form}
use Rattle.if1_graph.specs.LineParts.{is_line_byte}
use Rattle.if1_graph.specs.Spelling.{opening, is_visible, IsNumber, IsLabel, IsName, are_numbers, rises_from, AreBefore, AreEntryNumbers, IsSpelled}
use Rattle.if1_graph.proofs.Decimals.{and_true, each_so, decimal_visible}
use Rattle.if1_graph.proofs.Spelled.{visible_line_byte}
use Rattle.if1_graph.specs.declared.graph.Graph.{Graph}
use Rattle.if1_graph.specs.declared.graph.Graph.TheViews.{out-Graph}
use Rattle.if1_graph.specs.declared.graph.Node.{Node, out-Node}
use Rattle.if1_graph.specs.declared.graph.Edge.{Edge}
use Rattle.if1_graph.specs.declared.graph.Origin.{Origin}
use Rattle.if1_graph.specs.declared.graph.Origin.TheVariants.{Port, Lit}
use Rattle.if1_graph.specs.declared.graph.TypeEntry.{TypeEntry}
use Rattle.if1_graph.specs.declared.graph.Unit1.{Unit1}
use Rattle.if1_graph.specs.declared.kind.TypeKind.{TypeKind}
use Rattle.if1_graph.specs.declared.kind.Basic.{Basic}
use Rattle.if1_graph.specs.Kinds.{kind_at, basic_at}
use Rattle.if1_graph.specs.Units.{Function}
use Rattle.if1_graph.specs.Formed.{IsType, IsTypeOrEnd, AreNumbers, IsEntry, IsNode, IsOrigin, IsEdge, IsHeader, IsImport}
use Rattle.if1_graph.specs.Lines.{entry_line, import_line, edge_line, origin_line}
use Rattle.if1_graph.specs.Reads.{is_of_graph}
use Rattle.if1_write.proofs.Bodies.{simple_line, open_line, close_line}

-- a line that says something of graphs and can be spelled
abbrev pub Good : Line → Type 0
Good l = (is_of_graph l ≡ true) × IsSpelled l

-- ---- lists of labels

all_numbers : (ns : List ℕ) → All IsNumber ns → are_numbers ns ≡ true
all_numbers [] h = refl
all_numbers (n ∷ ns) h = and_true (nat_lt n (2 ^ 32)) (are_numbers ns) (lt-ltb n (2 ^ 32) (All-head IsNumber n ns h)) (all_numbers ns (All-tail IsNumber n ns h))

next_rises : (n : ℕ) (ns : List ℕ) → IsStrictlyIncreasing (n ∷ ns) → 0 < length ns → n < slice_index ns 0
next_rises n ns up h = grind (arith, up 0)

rest_rises : (n : ℕ) (ns : List ℕ) → IsStrictlyIncreasing (n ∷ ns) → IsStrictlyIncreasing ns
rest_rises n ns up k h = grind (arith, up (suc k))

all_rise : (m : ℕ) (ns : List ℕ) → (0 < length ns → m < slice_index ns 0) → IsStrictlyIncreasing ns → rises_from m ns ≡ true
all_rise m [] h up = refl
all_rise m (n ∷ ns) h up =
    let above : m < n = h (omega arith) in
    and_true (nat_lt m n) (rises_from n ns) (lt-ltb m n above) (all_rise n ns (next_rises n ns up) (rest_rises n ns up))

are_before : (ns : List ℕ) → All IsLabel ns → IsStrictlyIncreasing ns → AreBefore ns
are_before ns h up =
    and_true (are_numbers ns) (rises_from 0 ns)
    (all_numbers ns (λ k d i. (h k d i).1))
    (all_rise 0 ns (λ some. (h 0 0 some).0) up)

-- ---- lines of graphs

origin_good : (u : Unit1) (g : Graph) (e : Edge) (o : Origin) → IsOrigin u g e o → IsEdge u g e → Good (origin_line e o)
origin_good u g e (Port node port) ok h = (refl, (ok.0, ok.1, h.node, h.port, h.ty.0, h.name))
origin_good u g e (Lit text) ok h = (refl, (h.node, h.port, h.ty.0, ok.0, h.name))

pub edge_good : (u : Unit1) (g : Graph) (e : Edge) → IsEdge u g e → Good (edge_line e)
edge_good u g e h = origin_good u g e e.from h.source h

pub simple_good : (n : Node) → IsNode n → IsStrictlyIncreasing (out-Node n).before → Good (simple_line n)
simple_good n h up = (refl, (h.label, h.op_number, are_before (out-Node n).before h.before up, h.name))

open_spelled : (label op : ℕ) → label < 2 ^ 32 → op < 2 ^ 32 → IsSpelled (opening label op)
open_spelled label op a b =
    let x = each_so is_visible is_line_byte visible_line_byte (decimal label) (decimal_visible label a) in
    let y = each_so is_visible is_line_byte visible_line_byte (decimal op) (decimal_visible op b) in
    list_all-append is_line_byte (codes " Compound " ++ decimal label) (32 ∷ decimal op)
    ∙ and_true (list_all is_line_byte (codes " Compound " ++ decimal label)) (list_all is_line_byte (32 ∷ decimal op)) x y

pub open_good : (n : Node) → IsNode n → Good (open_line n)
open_good n h = (refl, open_spelled (out-Node n).label (out-Node n).op h.label.1 h.op_number)

pub close_good : (n : Node) → IsNode n → IsStrictlyIncreasing (out-Node n).before → Good (close_line n (length (out-Node n).subs))
close_good n h up =
    (refl, (h.label, h.op_number, h.count, all_numbers (out-Node n).assoc h.assoc, are_before (out-Node n).before h.before up, h.name))

pub subgraph_good : (name : List ℕ) → IsName name → Good (line.Subgraph name)
subgraph_good name h = (refl, h)

pub function_good : (u : Unit1) (g : Graph) (k : ℕ) → IsHeader u g (Function k) → Good (line.Function (out-Graph g).exported (out-Graph g).fun (out-Graph g).name)
function_good u g k h = (refl, (h.0.0, h.1))

pub import_good : (ts : List TypeEntry) (i : ℕ × List ℕ) → IsImport ts i → Good (import_line i)
import_good ts i h = (refl, (h.0, h.2))

-- ---- lines of types

type_label : (ts : List TypeEntry) (l : ℕ) → All (λ e. IsLabel e.label) ts → IsType ts l → IsLabel l
type_label [] l all h = absurd cc
type_label (e ∷ ts) l all h =
    elim (eqb_tells e.label l) [
      | inl p ↦ subst IsLabel p.1 (All-head (λ (t : TypeEntry). IsLabel t.label) e ts all)
      | inr p ↦ type_label ts l (All-tail (λ (t : TypeEntry). IsLabel t.label) e ts all) (subst (λ (b : Bool). IsSome (cond b (Some e) (find (λ (t : TypeEntry). t.label == l) ts))) p.0 h)
    ]

at_code : (P : ℕ → Type 0) (k code : ℕ) → P k → ((k == code) ≡ false → P code) → P code
at_code P k code here rest = elim (eqb_tells k code) [ inl p ↦ subst P p.1 here | inr p ↦ rest p.0 ]

BasicSmall : ℕ → Type 0
BasicSmall code = IsSome (basic_at code) → code ≤ 6

basic_small : (code : ℕ) → BasicSmall code
unfolding BasicSmall
basic_small code =
    at_code BasicSmall 0 code (λ _. omega arith) λ n0.
    at_code BasicSmall 1 code (λ _. omega arith) λ n1.
    at_code BasicSmall 2 code (λ _. omega arith) λ n2.
    at_code BasicSmall 3 code (λ _. omega arith) λ n3.
    at_code BasicSmall 4 code (λ _. omega arith) λ n4.
    at_code BasicSmall 5 code (λ _. omega arith) λ n5.
    at_code BasicSmall 6 code (λ _. omega arith) λ n6.
    λ h.
    let none : basic_at code ≡ None = rw (n0, n1, n2, n3, n4, n5, n6) refl in
    let no : false ≡ true = subst (λ (o : Option Basic). IsSome o) none h in
    absurd (true≢false (sym no))

module _ (ts : List TypeEntry) (all : All (IsEntry ts) ts) (first second : ℕ) where
  label_of_type : (l : ℕ) → IsType ts l → IsLabel l
  label_of_type l h = type_label ts l (λ k d i. (all k d i).label) h

  number_or_end : (l : ℕ) → IsTypeOrEnd ts l → IsNumber l
  number_or_end l h = elim h [ inl e ↦ omega (arith, e) | inr i ↦ (label_of_type l i).1 ]

  -- the numbers of a code can be spelled
  Numbers : ℕ → Type 0
  Numbers code = AreNumbers ts (kind_at code) first second → IsNumber code × AreEntryNumbers (entry_form code) first second

  one : IsType ts first × (second ≡ 0) → IsLabel first × (second ≡ 0)
  one h = (label_of_type first h.0, h.1)

  member : IsType ts first × IsTypeOrEnd ts second → IsLabel first × IsNumber second
  member h = (label_of_type first h.0, number_or_end second h.1)

  numbers : (code : ℕ) → Numbers code
  unfolding Numbers BasicSmall
  numbers code =
      at_code Numbers 0 code (λ h. (omega arith, one h)) λ n0.
      at_code Numbers 1 code (λ h. (omega arith, (basic_small first h.0, h.1))) λ n1.
      at_code Numbers 2 code (λ h. (omega arith, member h)) λ n2.
      at_code Numbers 3 code (λ h. (omega arith, (number_or_end first h.0, label_of_type second h.1))) λ n3.
      at_code Numbers 4 code (λ h. (omega arith, one h)) λ n4.
      at_code Numbers 5 code (λ h. (omega arith, one h)) λ n5.
      at_code Numbers 6 code (λ h. (omega arith, one h)) λ n6.
      at_code Numbers 7 code (λ h. (omega arith, member h)) λ n7.
      at_code Numbers 8 code (λ h. (omega arith, member h)) λ n8.
      at_code Numbers 9 code (λ h. (omega arith, one h)) λ n9.
      λ h.
      let none : kind_at code ≡ None = rw (n0, n1, n2, n3, n4, n5, n6, n7, n8, n9) refl in
      absurd (subst (λ (kind : Option TypeKind). AreNumbers ts kind first second) none h)

  entry_numbers : (code : ℕ) → AreNumbers ts (kind_at code) first second → IsNumber code × AreEntryNumbers (entry_form code) first second
  unfolding Numbers
  entry_numbers code = numbers code

pub entry_spelled : (ts : List TypeEntry) (e : TypeEntry) → All (IsEntry ts) ts → IsEntry ts e → IsSpelled (entry_line e)
entry_spelled ts e all h =
    let n = entry_numbers ts all e.first e.second e.code h.numbers in
    (h.label, n.0, n.1, h.name)
