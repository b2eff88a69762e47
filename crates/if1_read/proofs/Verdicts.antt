-- What is wrong with a literal, by the nodes of its graph and the table of types.
use Rattle.std.proofs.Common.{◌≡◌, ◌↔◌, ℕ, Bool, true, false, List, [], ◌∷◌, map, cond, Option, Some, None, if◌then◌else◌, refl, sym, ap, ◌∙◌, true≢false}
use Rattle.std.specs.Prelude.{◌==◌, find, is_some}
use Rattle.if1_graph.specs.declared.graph.TypeEntry.{TypeEntry}
use Rattle.if1_graph.specs.declared.graph.Node.{Node, out-Node}
use Rattle.if1_graph.specs.declared.row.Want.{Want}
use Rattle.if1_graph.specs.Tables.{◌>>=◌}
use Rattle.if1_graph.specs.Ops.{simple_at}
use Rattle.if1_graph.specs.Rows.{operand_of}
use Rattle.if1_graph.specs.Kinds.{kind_at, basic_at}
use Rattle.if1_graph.specs.Types.{entry_at}
use Rattle.if1_graph.specs.Units.{label_of, node_at}
use Rattle.if1_read.specs.declared.fault.Kind.{Kind}
use Rattle.if1_read.specs.declared.judge.Judged.{Judged}
use Rattle.if1_read.specs.declared.judge.Known.{Known}
use Rattle.if1_read.specs.declared.table.Table.{Table}
use Rattle.if1_read.specs.Faults.{want_of, literal_fault}
use Rattle.if1_read.specs.Known.{IsTableSound, IsClear, want_in}
use Rattle.if1_read.specs.Marks.{is_marked, is_set}
use Rattle.if1_read.specs.Pages.{Lit}
use Rattle.if1_read.specs.Rulings.{lit_fault, lit_wrong}
use Rattle.if1_read.specs.Sheets.{marks_of}
use Rattle.if1_read.specs.Verdicts.{verdict}
use Rattle.if1_read.proofs.TypeLabels.{clear_here}

-- what a port wants, by an opcode
abbrev by_op : ℕ → ℕ → Option Want
by_op port op = simple_at op >>= λ op. operand_of op port >>= λ operand. Some operand.1

want_if : (b : Bool) (port : ℕ) (n : Node) (o : Option Node) (p : Option (ℕ × ℕ)) → (o >>= λ n. by_op port (out-Node n).op) ≡ (p >>= λ n. by_op port n.1) →
    (cond b (Some n) o >>= λ n. by_op port (out-Node n).op) ≡ (cond b (Some (marks_of n)) p >>= λ n. by_op port n.1)
want_if true port n o p h = refl
want_if false port n o p h = h

pub want_same : (ns : List Node) (l port : ℕ) → want_in ns l port ≡ want_of (map marks_of ns) l port
want_same [] l port = refl
want_same (n ∷ ns) l port = want_if (label_of n == l) port n (node_at ns l) (find (λ m. m.0 == l) (map marks_of ns)) (want_same ns l port)

-- ---- the type is there, and holds no reals

clear_fault : (t : Table) (l : ℕ) (o : Option Kind) → IsClear t l → o ≡ (if is_marked t.types t.reals l then None else o)
clear_fault t l o clear = ap (λ (p : Option Bool). if is_set p then None else o) (sym clear)

pub found_there : (k : Known) (ns : List Node) (w : Option Want) (l : Lit) (e : TypeEntry) (j : Judged) → IsClear k.table l.ty → w ≡ want_in ns l.node l.port → Some e ≡ entry_at k.table.types l.ty →
    verdict j ≡ literal_fault k.names w l.text (kind_at e.code) (basic_at e.first) → verdict j ≡ lit_wrong k (map marks_of ns) l
found_there k ns w l e j clear w_is is h =
    h
    ∙ ap (λ (w : Option Want). literal_fault k.names w l.text (kind_at e.code) (basic_at e.first)) (w_is ∙ want_same ns l.node l.port)
    ∙ ap (lit_fault k.names (want_of (map marks_of ns) l.node l.port) l.text) is
    ∙ clear_fault k.table l.ty (lit_fault k.names (want_of (map marks_of ns) l.node l.port) l.text (entry_at k.table.types l.ty)) clear

-- ---- it is not, or does

none_if : (k : Known) (w : Option Want) (text : List ℕ) (m : Bool) (o : Option TypeEntry) → (m ≡ false → o ≡ None) → None ≡ (if m then None else lit_fault k.names w text o)
none_if k w text true o h = refl
none_if k w text false o h = ap (lit_fault k.names w text) (sym (h refl))

away_if : (o : Option TypeEntry) → (is_some o ≡ true → ⊥) → o ≡ None
away_if None h = refl
away_if (Some e) h = absurd (h refl)

pub found_not_clear : (k : Known) (ns : List Node) (l : Lit) (b : Bool) → IsTableSound k.table → (IsTableSound k.table → (b ≡ true) ↔ IsClear k.table l.ty) → b ≡ false → None ≡ lit_wrong k (map marks_of ns) l
found_not_clear k ns l b sound says f =
    none_if k (want_of (map marks_of ns) l.node l.port) l.text (is_marked k.table.types k.table.reals l.ty) (entry_at k.table.types l.ty)
    (λ free. away_if (entry_at k.table.types l.ty) (λ there. true≢false (sym ((says sound).1 (clear_here k.table.types k.table.reals l.ty sound.marks.fit there free)) ∙ f)))

pub found_away : (k : Known) (ns : List Node) (l : Lit) → None ≡ entry_at k.table.types l.ty → None ≡ lit_wrong k (map marks_of ns) l
found_away k ns l is =
    none_if k (want_of (map marks_of ns) l.node l.port) l.text (is_marked k.table.types k.table.reals l.ty) (entry_at k.table.types l.ty) (λ free. sym is)
