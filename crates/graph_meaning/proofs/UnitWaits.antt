-- In a ready unit a node waits for what precedes it.
use Rattle.std.proofs.Common.{◌≡◌, ◌≢◌, ◌≤◌, ◌<◌, ℕ, zero, suc, ◌+◌, Bool, true, false, ◌&&◌, List, [], ◌∷◌, ◌++◌, map, drop, find, Option, Some, None, IsSome, option_map, ◌⊎◌, inl, inr, Contains, All, refl, sym, ap, ◌∙◌, subst, arith, cond, ◌==◌}
use Rattle.std.specs.List.{filter}
use Rattle.std.proofs.lemmas.Bool.{eq-eqb}
use Rattle.std.proofs.lemmas.List.Elements.{Contains-append_right, All-contains}
use Rattle.loop_folds.specs.Ty.{Ty}
use Rattle.if1_graph.specs.declared.graph.Edge.{Edge}
use Rattle.if1_graph.specs.declared.graph.Graph.{Graph}
use Rattle.if1_graph.specs.declared.graph.Graph.TheViews.{out-Graph}
use Rattle.if1_graph.specs.declared.graph.Node.{Node, out-Node}
use Rattle.if1_graph.specs.declared.graph.Origin.{Origin}
use Rattle.if1_graph.specs.declared.graph.Origin.TheVariants as origin
use Rattle.if1_graph.specs.declared.graph.Unit1.{Unit1}
use Rattle.if1_graph.specs.declared.op.Compound.{Compound}
use Rattle.if1_graph.specs.declared.op.Compound.TheVariants as compound
use Rattle.if1_graph.specs.declared.op.Simple.{Simple}
use Rattle.if1_graph.specs.declared.op.Simple.TheVariants as simple
use Rattle.if1_graph.specs.declared.row.Rest.{Rest}
use Rattle.if1_graph.specs.declared.row.Rest.TheVariants.{Nothing, Mask, More, Arguments, Fields, NewFields}
use Rattle.if1_graph.specs.declared.row.Want.{Want}
use Rattle.if1_graph.specs.declared.row.Want.TheVariants as want
use Rattle.if1_graph.specs.Cycles.{Feeds, IsFrom}
use Rattle.if1_graph.specs.Formed.{IsOnce, IsEdge, IsGraph, want_at}
use Rattle.if1_graph.specs.Ops.{simple_at, compound_at}
use Rattle.if1_graph.specs.Ports.{IsNamed, literal_at, text_of, callee, arguments_of, AreFilled, AreArguments, IsOnePort, IsEndFilled, IsFilledAs, ArePortsRight}
use Rattle.if1_graph.specs.Rows.{row_of, operand_of}
use Rattle.if1_graph.specs.Tables.{◌>>=◌}
use Rattle.if1_graph.specs.Units.{label_of, node_at, ports_into, edge_into, width, greatest, Place, ends}
use Rattle.if1_marks.specs.Given.{is_call_as}
use Rattle.if1_marks.proofs.Consumed.{only-call}
use Rattle.if1_marks.proofs.Tests.{no-both}
use Rattle.if1_marks.specs.Orders.{Precedes, fed, listed, between}
use Rattle.graph_meaning.specs.Entered.{IsIn}
use Rattle.graph_meaning.specs.Demand.{Source, Port, Fixed, Whole, data_labels, waits_of, WaitsFor, straight, through}
use Rattle.graph_meaning.specs.Networks.{source_from, source_by, source_at, sources, form_of, simple_kind, kind_as, ins_of, vertex_of}
use Rattle.graph_meaning.proofs.Lists.{there, here-or-there, in-none, in-mapped, found-in, in-filter}
use Rattle.graph_meaning.proofs.StorageUnits.{plain-kind, call-kind}
use Rattle.graph_meaning.proofs.Units.{same-number, at-node}

-- ---- ports that are filled once

single : (ports : List ℕ) → IsOnePort ports → IsOnce ports
single ports x = subst IsOnce (sym x.1) ((λ c. in-none x.0 c), tt)

once-arguments : (k : ℕ) (args : Option (List Ty)) (ports : List ℕ) → AreArguments k args ports → IsOnce ports
once-arguments k None ports a = a.2.once
once-arguments k (Some args) ports a = a.once

once-filled : (u : Unit1) (g : Graph) (l k : ℕ) (rest : Rest) (ports : List ℕ) → AreFilled u g l k rest ports → IsOnce ports
once-filled u g l k Nothing ports a = a.once
once-filled u g l k Mask ports a = elim a [ inl x ↦ x.once | inr x ↦ x.once ]
once-filled u g l k (More how w) ports a = a.2.once
once-filled u g l k Arguments ports a = once-arguments k (arguments_of (callee u g l)) ports a
once-filled u g l k Fields ports a = elim a.0 [ inl x ↦ x.2.once | inr x ↦ single ports x ]
once-filled u g l k NewFields ports a = a.1

once-as : (u : Unit1) (g : Graph) (n : Node) (c : Option Compound) (o : Option Simple) → IsFilledAs u g n c o → IsOnce (ports_into g (label_of n))
once-as u g n (Some c) o a = a.ports.2.once
once-as u g n None (Some op) a = once-filled u g (label_of n) _ (row_of op).rest (ports_into g (label_of n)) a.ports
once-as u g n None None a = absurd a

abbrev port-of : Edge → ℕ
port-of e = e.port

-- an edge into a port that is filled once is the one that is found there
module _ (l : ℕ) (e : Edge) (into : e.node ≡ l) where
  abbrev leads : Edge → Bool
  leads f = f.node == l

  abbrev fits : Edge → Bool
  fits f = leads f && (f.port == e.port)

  fits-itself : fits e ≡ true
  fits-itself = ap (λ b. b && (e.port == e.port)) (eq-eqb e.node l into) ∙ eq-eqb e.port e.port refl

  in-ports : (es : List Edge) → Contains es e → Contains (map port-of (filter leads es)) e.port
  in-ports es h = in-mapped port-of (filter leads es) e (in-filter leads es e h (eq-eqb e.node l into))

  found-only : (es : List Edge) → IsOnce (map port-of (filter leads es)) → Contains es e → find fits es ≡ Some e
  found-only [] once h = in-none e h
  found-only (f ∷ es) once h =
      elim (here-or-there f es e h) [
        | inl same ↦ ap (λ b. cond b (Some f) (find fits es)) (ap fits same ∙ fits-itself) ∙ ap Some same
        | inr later ↦ go (leads f) (f.port == e.port) refl refl once later (found-only es)
      ]
    where
      go : (b c : Bool) → leads f ≡ b → (f.port == e.port) ≡ c → IsOnce (map port-of (cond b (f ∷ filter leads es) (filter leads es))) → Contains es e → (IsOnce (map port-of (filter leads es)) → Contains es e → find fits es ≡ Some e)
          → cond (fits f) (Some f) (find fits es) ≡ Some e
      go true true x y once later rest = absurd (once.0 (subst (Contains (map port-of (filter leads es))) (sym (same-number f.port e.port y)) (in-ports es later)))
      go true false x y once later rest = ap (λ b. cond b (Some f) (find fits es)) (ap (λ b. b && (f.port == e.port)) x ∙ y) ∙ rest once.1 later
      go false c x y once later rest = ap (λ b. cond b (Some f) (find fits es)) (ap (λ b. b && (f.port == e.port)) x) ∙ rest once later

at-most : (ns : List ℕ) (n : ℕ) → Contains ns n → n ≤ greatest ns
at-most [] n h = in-none n h
at-most (m ∷ ns) n h =
    elim (here-or-there m ns n h) [
      | inl e ↦ omega (arith, e)
      | inr later ↦ omega (arith, at-most ns n later)
    ]

-- ---- what fills a port is waited for

in-more : (o : Source) (os : List Source) (m : ℕ) → IsIn m (data_labels os) → IsIn m (data_labels (o ∷ os))
in-more (Port zero p) os m h = h
in-more (Port (suc l) p) os m h = inr h
in-more (Fixed c) os m h = h

in-right : (m : ℕ) (a b : List ℕ) → IsIn m b → IsIn m (a ++ b)
in-right m [] b h = h
in-right m (x ∷ a) b h = inr (in-right m a b h)

in-left : (m : ℕ) (a b : List ℕ) → IsIn m a → IsIn m (a ++ b)
in-left m [] b h = absurd h
in-left m (x ∷ a) b (inl e) = inl e
in-left m (x ∷ a) b (inr h) = inr (in-left m a b h)

is-in : (ms : List ℕ) (n : ℕ) → Contains ms n → IsIn n ms
is-in [] n h = in-none n h
is-in (m ∷ ms) n h =
    elim (here-or-there m ms n h) [
      | inl e ↦ inl (sym e)
      | inr later ↦ inr (is-in ms n later)
    ]

same-or-later : (k n : ℕ) → k ≤ n → (k ≡ n) ⊎ (suc k ≤ n)
same-or-later zero zero h = inl refl
same-or-later zero (suc n) h = inr (omega arith)
same-or-later (suc k) zero h = absurd (omega (arith, h))
same-or-later (suc k) (suc n) h = elim (same-or-later k n (omega (arith, h))) [ inl e ↦ inl (ap suc e) | inr later ↦ inr (omega (arith, later)) ]

later-at : (k n : ℕ) → k ≤ n → (k == n) ≡ false → suc k ≤ n
later-at k n h other = elim (same-or-later k n h) [ inl e ↦ absurd (no-both (k == n) (eq-eqb k n e) other) | inr later ↦ later ]

module _ (u : Unit1) (g : Graph) (l m : ℕ) (e : Edge) (from : IsFrom m e.from) where
  by-origin : (w : Option Want) (o : Origin) (os : List Source) → IsFrom m o → IsIn m (data_labels (source_from u w e.ty o ∷ os))
  by-origin w (origin.Port zero p) os i = absurd i
  by-origin w (origin.Port (suc k) p) os i = inl i
  by-origin w (origin.Lit text) os i = absurd i

  at-port : (os : List Source) → edge_into g l e.port ≡ Some e → IsIn m (data_labels (source_at u g l e.port ∷ os))
  at-port os found = subst (λ o. IsIn m (data_labels (source_by u (want_at g l e.port) o ∷ os))) (sym found) (by-origin (want_at g l e.port) e.from os from)

  in-sources : (first count : ℕ) → first ≤ e.port → e.port < first + count → edge_into g l e.port ≡ Some e → IsIn m (data_labels (sources u g l first count))
  in-sources first zero a b found = absurd (omega (arith, a, b))
  in-sources first (suc count) a b found = go (first == e.port) refl (λ c. in-sources (suc first) count c (omega (arith, b)) found)
    where
      go : (same : Bool) → (first == e.port) ≡ same → (suc first ≤ e.port → IsIn m (data_labels (sources u g l (suc first) count))) → IsIn m (data_labels (sources u g l first (suc count)))
      go true s later =
          subst (λ k. IsIn m (data_labels (source_at u g l k ∷ sources u g l (suc first) count))) (sym (same-number first e.port s)) (at-port (sources u g l (suc first) count) found)
      go false s later = in-more (source_at u g l first) (sources u g l (suc first) count) m (later (later-at first e.port a s))

two-at-least : (n : ℕ) → 1 ≤ n → n ≢ 1 → 2 ≤ n
two-at-least zero a b = absurd (omega (arith, a))
two-at-least (suc zero) a b = absurd (b refl)
two-at-least (suc (suc n)) a b = omega arith

-- ---- nodes

module _ (u : Unit1) (p : Place) (graph : IsGraph u p) (ports : All (ArePortsRight u p) (ends p.graph)) where
  abbrev g : Graph
  g = p.graph

  abbrev nodes : List Node
  nodes = (out-Graph g).nodes

  end-of : (e : Edge) → Contains (out-Graph g).edges e → Contains (ends g) e.node
  end-of e h = there 0 _ e.node (Contains-append_right (map label_of nodes) (map (λ e. e.node) (out-Graph g).edges) e.node (in-mapped (λ e. e.node) (out-Graph g).edges e h))

  filled-node : (l : ℕ) → l ≢ 0 → IsEndFilled u p l (node_at nodes l) → (n : Node) × (node_at nodes l ≡ Some n) × IsFilledAs u g n (compound_at (out-Node n).op) (simple_at (out-Node n).op)
  filled-node l ne h = go l (node_at nodes l) refl ne h
    where
      go : (k : ℕ) (o : Option Node) → node_at nodes l ≡ o → k ≢ 0 → IsEndFilled u p k o → (n : Node) × (node_at nodes l ≡ Some n) × IsFilledAs u g n (compound_at (out-Node n).op) (simple_at (out-Node n).op)
      go k (Some n) e ne h = (n, e, h)
      go zero None e ne h = absurd (ne refl)
      go (suc k) None e ne h = absurd h

  module _ (m : ℕ) (e : Edge) (h : Contains (out-Graph g).edges e) (from : IsFrom m e.from) (n : Node) (into : e.node ≡ label_of n) (there : node_at nodes (label_of n) ≡ Some n) where
    abbrev l : ℕ
    l = label_of n

    at-least : 1 ≤ e.port
    at-least = (All-contains (IsEdge u g) (out-Graph g).edges e graph.edges h).port.0

    within : e.port ≤ width g l
    within = at-most (ports_into g l) e.port (in-ports l e into (out-Graph g).edges h)

    module _ (once : IsOnce (ports_into g l)) where
      found : edge_into g l e.port ≡ Some e
      found = found-only l e into (out-Graph g).edges once h

      in-all : IsIn m (data_labels (sources u g l 1 (width g l)))
      in-all = in-sources u g l m e from 1 (width g l) at-least (omega (arith, within)) found

      -- the name port of a Call is filled by a literal
      not-named : IsSome (literal_at g l 1) → e.port ≢ 1
      not-named some one = go e.from from (subst (λ o. IsSome (o >>= λ f. text_of f.from)) (sym (ap (edge_into g l) one) ∙ found) some)
        where
          go : (o : Origin) → IsFrom m o → IsSome (text_of o) → ⊥
          go (origin.Port a b) i s = absurd cc
          go (origin.Lit text) i s = absurd i

      in-arguments : IsSome (literal_at g l 1) → IsIn m (data_labels (drop 1 (sources u g l 1 (width g l))))
      in-arguments some = go (width g l) within
        where
          go : (w : ℕ) → e.port ≤ w → IsIn m (data_labels (drop 1 (sources u g l 1 w)))
          go zero le = absurd (omega (arith, le, at-least))
          go (suc w) le = in-sources u g l m e from 2 w (two-at-least e.port at-least (not-named some)) (omega (arith, le)) found

      by-form : (c : Compound) (gs : List Graph) (arms : List ℕ) → IsIn m (data_labels (ins_of u g l (Whole (form_of c gs arms))))
      by-form compound.Select gs arms = in-all
      by-form compound.TagCase gs arms = in-all
      by-form compound.LoopA gs arms = in-all
      by-form compound.LoopB gs arms = in-all
      by-form compound.ForAll gs arms = in-all

      by-simple : (op : Simple) → (op ≡ simple.Call → IsSome (literal_at g l 1)) → IsIn m (data_labels (ins_of u g l (simple_kind u g l op)))
      by-simple op named = go (is_call_as None (Some op)) refl
        where
          go : (b : Bool) → is_call_as None (Some op) ≡ b → IsIn m (data_labels (ins_of u g l (simple_kind u g l op)))
          go true y = subst (λ k. IsIn m (data_labels (ins_of u g l k))) (sym (call-kind u g l op y)) (in-arguments (named (only-call op y)))
          go false y = subst (λ k. IsIn m (data_labels (ins_of u g l k))) (sym (plain-kind u g l op y)) in-all

    named-port : simple_at (out-Node n).op ≡ Some simple.Call → want_at g l 1 ≡ Some want.Function
    named-port y =
        ap (λ o. o >>= λ n. simple_at (out-Node n).op >>= λ op. operand_of op 1 >>= λ operand. Some operand.1) there
        ∙ ap (λ o. o >>= λ op. operand_of op 1 >>= λ operand. Some operand.1) y

    by-kind : (c : Option Compound) (o : Option Simple) → simple_at (out-Node n).op ≡ o → IsFilledAs u g n c o → IsIn m (data_labels (ins_of u g l (kind_as u g n c o)))
    by-kind (Some c) o y a = by-form (once-as u g n (Some c) o a) c (out-Node n).subs (out-Node n).assoc
    by-kind None (Some op) y a =
        by-simple (once-as u g n None (Some op) a) op
        (λ is. subst (λ w. IsNamed w (literal_at g l 1)) (named-port (y ∙ ap Some is)) a.name)
    by-kind None None y a = absurd a

  waits-here : (l m : ℕ) → Feeds g m l → WaitsFor (map (vertex_of u g) nodes) l m
  waits-here l m f =
      let right = All-contains (ArePortsRight u p) (ends g) l ports (subst (Contains (ends g)) f.target (end-of f.edge f.there)) in
      let x = filled-node l f.no_boundary right.filled in
      let same : label_of x.0 ≡ l = same-number (label_of x.0) l (found-in (λ n. label_of n == l) nodes x.0 x.1).1 in
      straight (subst (λ o. IsIn m (waits_of o)) (sym (at-node u g nodes l ∙ ap (option_map (vertex_of u g)) x.1))
      (in-left m (data_labels (vertex_of u g x.0).ins) (out-Node x.0).before
      (by-kind m f.edge f.there f.source x.0 (f.target ∙ sym same) (ap (node_at nodes) same ∙ x.1) (compound_at (out-Node x.0).op) (simple_at (out-Node x.0).op) refl x.2)))

  pub waits : {l m : ℕ} → Precedes g l m → WaitsFor (map (vertex_of u g) nodes) m l
  waits (fed {l = l} {m = m} f) = waits-here m l f
  waits (listed {l = l} {m = m} n e c) =
      straight (subst (λ o. IsIn l (waits_of o)) (sym (at-node u g nodes m ∙ ap (option_map (vertex_of u g)) e)) (in-right l (data_labels (vertex_of u g n).ins) (out-Node n).before (is-in (out-Node n).before l c)))
  waits (between a b) = through (waits b) (waits a)
