-- What a node does on typed operands, step by step: each graph that it enters has inputs of its types.
use Rattle.std.proofs.Common.{◌≡◌, ℕ, zero, suc, ◌+◌, ◌<◌, Bool, List, [], ◌∷◌, length, get_or, Option, Some, None, Contains, refl, sym, ap, subst, ◌∙◌, arith, ◌==◌}
use Rattle.std.specs.Prelude.{slice_get}
use Rattle.flow_value.specs.declared.cause.Cause.{Cause}
use Rattle.flow_value.specs.declared.ty.Ty.{Ty}
use Rattle.flow_value.specs.declared.value.Val.TheVariants as val
use Rattle.if1_graph.specs.declared.graph.Edge.{Edge}
use Rattle.if1_graph.specs.declared.graph.Graph.{Graph}
use Rattle.if1_graph.specs.declared.graph.Graph.TheViews.{out-Graph}
use Rattle.if1_graph.specs.declared.graph.Node.{Node, out-Node}
use Rattle.if1_graph.specs.declared.graph.Unit1.{Unit1}
use Rattle.if1_graph.specs.declared.row.Want.{Want}
use Rattle.if1_graph.specs.Formed.{want_at}
use Rattle.if1_graph.specs.Ops.{simple_at}
use Rattle.if1_graph.specs.Ports.{AreFirst, IsEndFilled, carried, wanted_results}
use Rattle.if1_graph.specs.Ready.{IsReady}
use Rattle.if1_graph.specs.Rows.{operand_of}
use Rattle.if1_graph.specs.Tables.{◌>>=◌}
use Rattle.if1_graph.specs.Types.{Sort, Plain, sort_at}
use Rattle.if1_graph.specs.Typing.{IsWanted, FitsBoundary}
use Rattle.if1_graph.specs.Units.{label_of, node_at, edge_into, ports_into, width, results, Home, Function, Inside, Place, places, number_of}
use Rattle.if1_order.specs.Within.{IsWithin, itself, inside}
use Rattle.if1_order.proofs.Within.{within_from_unit, unit_from_within}
use Rattle.if1_marks.proofs.Lists.{here, found-in}
use Rattle.if1_marks.proofs.Tests.{same-number}
use Rattle.graph_meaning.specs.Carried.{Carried, Value, Unfilled}
use Rattle.graph_meaning.specs.Forms.{Form, Next, Stage, Enter, Iterate, Leave, errors, follow, gather}
use Rattle.graph_meaning.specs.Demand.{Source, Fixed}
use Rattle.graph_meaning.specs.Networks.{net_of, network, source_at, sources}
use Rattle.graph_meaning.proofs.Numbers.{found-by-number}
use Rattle.typed_rows.proofs.ValueKinds.{of_error}
use Rattle.unit_laws.specs.Typed.{Belongs, Fills, InputsBelong, IsEntered, ResultsBelong, typed_at, valued}
use Rattle.unit_laws.proofs.TypeLists.{some-same}
use Rattle.unit_laws.proofs.TypedEdges.{bound, IsValueWant, node-formed, ports-at, wanted-here, found-edge, SourceGives, valued-is, port-gives}
use Rattle.unit_laws.proofs.TypedNodes.{first-width, first-edge, port-filled, width-over}

abbrev pub EachInputs : Unit1 → Place → List (List Carried) → Type 0
EachInputs u q [] = Unit {0}
EachInputs u q (ins ∷ rows) = InputsBelong u q ins × EachInputs u q rows

abbrev pub EachResults : Unit1 → Place → List (List Carried) → Type 0
EachResults u q [] = Unit {0}
EachResults u q (rs ∷ lists) = ResultsBelong u q rs × EachResults u q lists

pub record AreIterated (u : Unit1) (g : ℕ) (rows : List (List Carried)) : Type 0 where
  pub at : Place
  pub there : Contains (places u) at
  pub net : network u g ≡ net_of u at.graph
  pub inputs : EachInputs u at rows

-- What a node of this form does on these operands, where its outputs have a property: what is known where it enters a graph or
-- iterates leads on.
pub record Plan (u : Unit1) (form : Form) (ks : List Carried) (Outs : List Carried → Type 0) : Type 1 where
  pub Enters : (g : ℕ) (ins : List Carried) (stage : Stage) → Type 0
  pub Iterates : (g : ℕ) (rows : List (List Carried)) (ms : List Carried) → Type 0
  pub entered : (g : ℕ) (ins : List Carried) (stage : Stage) → Enters g ins stage → IsEntered u g ins
  pub iterated : (g : ℕ) (rows : List (List Carried)) (ms : List Carried) → Iterates g rows ms → AreIterated u g rows
  pub Goes : Next → Type 0
  pub leaves : (rs : List Carried) → Goes (Leave rs) → Outs rs
  pub enters : (t : Bool) (g : ℕ) (ins : List Carried) (stage : Stage) → Goes (Enter t g ins stage) → Enters g ins stage
  pub iterates : (g : ℕ) (row : List Carried) (rows : List (List Carried)) (ms : List Carried) → Goes (Iterate g row rows ms) → Iterates g (row ∷ rows) ms
  pub follows : (g : ℕ) (ins : List Carried) (stage : Stage) (e : Enters g ins stage) (rs : List Carried) → ResultsBelong u (entered g ins stage e).at rs → Goes (follow form ks stage rs)
  pub gathers : (g : ℕ) (rows : List (List Carried)) (ms : List Carried) (e : Iterates g rows ms) (lists : List (List Carried)) → EachResults u (iterated g rows ms e).at lists → Goes (gather form ks ms lists)

-- ---- places

deeper-within : {home : Home} {g : Graph} {p : Place} → IsWithin home g p → (n : Node) (k : ℕ) (s : Graph) → Contains (out-Graph p.graph).nodes n → slice_get (out-Node n).subs k ≡ Some s → IsWithin home g (record { graph = s; home = Inside p.graph n k })
deeper-within itself n k s c e = inside n k c e itself
deeper-within (inside m j d f w) n k s c e = inside m j d f (deeper-within w n k s c e)

module _ (u : Unit1) (ready : IsReady u) where
  -- a graph in a node of a graph of the unit is one of the unit
  pub part-place : (p : Place) → Contains (places u) p → (n : Node) → Contains (out-Graph p.graph).nodes n → (k : ℕ) (s : Graph) → slice_get (out-Node n).subs k ≡ Some s → Contains (places u) (record { graph = s; home = Inside p.graph n k })
  part-place p place n c k s e =
      let w = within_from_unit u p place in
      unit_from_within u w.0 w.1 (record { graph = s; home = Inside p.graph n k }) ready.formed.nesting w.2 (deeper-within w.3 n k s c e)

  pub function-place : (k : ℕ) (g : Graph) → slice_get u.graphs k ≡ Some g → Contains (places u) (record { graph = g; home = Function k })
  function-place k g e = unit_from_within u k g (record { graph = g; home = Function k }) ready.formed.nesting e itself

  pub net-found : (p : Place) → Contains (places u) p → network u (number_of p) ≡ net_of u p.graph
  net-found p place = found-by-number u ready.formed p place

  module _ (p : Place) (place : Contains (places u) p) where
    no-boundary-node : (o : Option Node) → node_at (out-Graph p.graph).nodes 0 ≡ o → o ≡ None
    no-boundary-node None e = refl
    no-boundary-node (Some n) e =
        let r = found-in (λ n. label_of n == 0) (out-Graph p.graph).nodes n e in
        let label = (node-formed u ready p place n r.0).label.0 in
        let none = same-number (label_of n) 0 r.1 in
        absurd (omega (arith, label, none))

    boundary-none : node_at (out-Graph p.graph).nodes 0 ≡ None
    boundary-none = no-boundary-node (node_at (out-Graph p.graph).nodes 0) refl

    pub boundary-wants : (port : ℕ) → want_at p.graph 0 port ≡ None
    boundary-wants port = ap (λ o. o >>= λ n. simple_at (out-Node n).op >>= λ op. operand_of op port >>= λ operand. Some operand.1) boundary-none

    pub results-filled : AreFirst (wanted_results u p) (ports_into p.graph 0)
    results-filled = subst (IsEndFilled u p 0) boundary-none (ports-at u ready p place 0 (here 0 _)).filled

    pub results-are : results p.graph ≡ wanted_results u p
    results-are = first-width (wanted_results u p) (ports_into p.graph 0) results-filled

    pub result-edge : (i : ℕ) → i < results p.graph → (e : Edge) × (edge_into p.graph 0 (suc i) ≡ Some e)
    result-edge i lt = let same = results-are in first-edge p.graph 0 (wanted_results u p) results-filled i (omega (arith, lt, same))

    -- a result has a type that the graph is to give
    pub result-fits : (i : ℕ) (s : Sort) → carried u p.graph 0 (suc i) ≡ Some s → FitsBoundary u p.graph p.home (suc i) s
    result-fits i s e =
        let x = bound (edge_into p.graph 0 (suc i)) (λ e. sort_at u.types e.ty) s e in
        let f = found-edge u ready p place 0 (suc i) x.0 x.1 in
        let v : IsValueWant (want_at p.graph (x.0).node (x.0).port) = subst IsValueWant (sym (ap (λ l. want_at p.graph l (x.0).port) f.1 ∙ (ap (want_at p.graph 0) f.2 ∙ boundary-wants (suc i)))) tt in
        let w = wanted-here u ready p place x.0 f.0 v in
        subst (FitsBoundary u p.graph p.home (suc i)) (some-same w.0 s (sym w.1 ∙ x.2))
        (subst (λ o. IsWanted u p 0 o (suc i) w.0) boundary-none
        (subst (λ q. IsWanted u p 0 (node_at (out-Graph p.graph).nodes 0) q w.0) f.2 (subst (λ l. IsWanted u p l (node_at (out-Graph p.graph).nodes l) (x.0).port w.0) f.1 w.2.wanted)))

    -- and each result has a type
    pub result-typed : (i : ℕ) → i < results p.graph → (s : Sort) × (carried u p.graph 0 (suc i) ≡ Some s)
    result-typed i lt =
        let x = result-edge i lt in
        let f = found-edge u ready p place 0 (suc i) x.0 x.1 in
        let v : IsValueWant (want_at p.graph (x.0).node (x.0).port) = subst IsValueWant (sym (ap (λ l. want_at p.graph l (x.0).port) f.1 ∙ (ap (want_at p.graph 0) f.2 ∙ boundary-wants (suc i)))) tt in
        let w = wanted-here u ready p place x.0 f.0 v in
        (w.0, ap (λ o. o >>= λ e. sort_at u.types e.ty) x.1 ∙ w.1)

    -- ---- lists of what fills ports

    abbrev pub SourceAt : List Source → ℕ → Sort → Type 0
    SourceAt [] i s = ⊥
    SourceAt (o ∷ os) zero s = SourceGives u ready p place o s
    SourceAt (o ∷ os) (suc i) s = SourceAt os i s

    -- what is carried by a list of ports
    pub record AllGive (os : List Source) (cs : List Carried) : Type 0 where
      pub count : length cs ≡ length os
      pub fills : (at : ℕ → Option Sort) → ((i : ℕ) (s : Sort) → at i ≡ Some s → SourceAt os i s) → Fills at cs
      pub fixed : (i : ℕ) (c : Carried) → slice_get os i ≡ Some (Fixed c) → get_or cs i Unfilled ≡ c

    source-in : (l first count i : ℕ) (s : Sort) → i < count → SourceGives u ready p place (source_at u p.graph l (first + i)) s → SourceAt (sources u p.graph l first count) i s
    source-in l first zero i s lt h = absurd (omega (arith, lt))
    source-in l first (suc count) zero s lt h = let start : first + 0 ≡ first = omega arith in subst (λ q. SourceGives u ready p place (source_at u p.graph l q) s) start h
    source-in l first (suc count) (suc i) s lt h =
        let next : first + suc i ≡ suc first + i = omega arith in
        source-in l (suc first) count i s (omega (arith, lt)) (subst (λ q. SourceGives u ready p place (source_at u p.graph l q) s) next h)

    pub sources-count : (l first count : ℕ) → length (sources u p.graph l first count) ≡ count
    sources-count l first zero = refl
    sources-count l first (suc count) = ap suc (sources-count l (suc first) count)

    pub source-found : (l first count i : ℕ) → i < count → slice_get (sources u p.graph l first count) i ≡ Some (source_at u p.graph l (first + i))
    source-found l first zero i lt = absurd (omega (arith, lt))
    source-found l first (suc count) zero lt = let start : first + 0 ≡ first = omega arith in ap (λ q. Some (source_at u p.graph l q)) (sym start)
    source-found l first (suc count) (suc i) lt = let next : first + suc i ≡ suc first + i = omega arith in source-found l (suc first) count i (omega (arith, lt)) ∙ ap (λ q. Some (source_at u p.graph l q)) (sym next)

    -- a port with a type is one of the ports
    pub typed-below : (l i : ℕ) (s : Sort) → typed_at u p.graph l (suc i) ≡ Some s → i < width p.graph l
    typed-below l i s e = go (edge_into p.graph l (suc i)) refl (valued-some (want_at p.graph l (suc i)) (carried u p.graph l (suc i)) e)
      where
        valued-some : (w : Option Want) (o : Option Sort) → valued w o ≡ Some s → o ≡ Some s
        valued-some w o e = (valued-is u ready p place w o s e).1

        go : (o : Option Edge) → edge_into p.graph l (suc i) ≡ o → (o >>= λ e. sort_at u.types e.ty) ≡ Some s → i < width p.graph l
        go None f h = absurd cc
        go (Some x) f h = let w = width-over p.graph l (suc i) (port-filled p.graph l (suc i) x f) in omega (arith, w)

    pub ports-give : (l i : ℕ) (s : Sort) → typed_at u p.graph l (suc i) ≡ Some s → SourceAt (sources u p.graph l 1 (width p.graph l)) i s
    ports-give l i s e = let next : suc i ≡ 1 + i = omega arith in source-in l 1 (width p.graph l) i s (typed-below l i s e) (subst (λ q. SourceGives u ready p place (source_at u p.graph l q) s) next (port-gives u ready p place l (suc i) s e))

    -- the results of this graph
    pub results-belong : (rs : List Carried) → AllGive (sources u p.graph 0 1 (results p.graph)) rs → ResultsBelong u p rs
    results-belong rs a =
        record {
          long = a.count ∙ sources-count 0 1 (results p.graph);
          fills = a.fills (λ i. carried u p.graph 0 (suc i)) (λ i s e. ports-give 0 i s (ap (λ w. valued w (carried u p.graph 0 (suc i))) (boundary-wants (suc i)) ∙ e));
        }

-- ---- errors

pub errors-belong : (n : ℕ) (c : Cause) (i : ℕ) (s : Sort) (t : Ty) → i < n → s ≡ Plain t → Belongs s (get_or (errors n c) i Unfilled)
errors-belong zero c i s t lt e = absurd (omega (arith, lt))
errors-belong (suc n) c zero s t lt e = subst (λ z. Belongs z (Value (val.Err c))) (sym e) (of_error t c)
errors-belong (suc n) c (suc i) s t lt e = errors-belong n c i s t (omega (arith, lt)) e

pub errors-count : (n : ℕ) (c : Cause) → length (errors n c) ≡ n
errors-count zero c = refl
errors-count (suc n) c = ap suc (errors-count n c)
