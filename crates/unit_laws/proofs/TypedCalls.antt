-- What a Call does on typed arguments.
use Rattle.std.proofs.Common.{◌≡◌, ℕ, zero, suc, ◌+◌, ◌-◌, ◌<◌, List, [], ◌∷◌, length, option_map, Option, Some, None, Contains, inl, inr, sym, ap, subst, ◌∙◌, arith}
use Rattle.std.specs.Prelude.{slice_get, unwrap_or, bytes_eq}
use Rattle.flow_value.specs.declared.ty.Ty.{Ty}
use Rattle.if1_graph.specs.declared.graph.Edge.{Edge}
use Rattle.if1_graph.specs.declared.graph.Graph.{Graph}
use Rattle.if1_graph.specs.declared.graph.Graph.TheViews.{out-Graph}
use Rattle.if1_graph.specs.declared.graph.Node.{Node, out-Node}
use Rattle.if1_graph.specs.declared.graph.Unit1.{Unit1}
use Rattle.if1_graph.specs.declared.op.Simple.TheVariants as simple
use Rattle.if1_graph.specs.declared.row.Want.TheVariants as want
use Rattle.if1_graph.specs.Formed.{function_named, want_at}
use Rattle.if1_graph.specs.Ops.{simple_at, compound_at}
use Rattle.if1_graph.specs.Ports.{AreFirst, AreArguments, carried, literal_at, callee, arguments_of, results_of, outputs, outputs_as}
use Rattle.if1_graph.specs.Ready.{IsReady}
use Rattle.if1_graph.specs.Tables.{◌>>=◌}
use Rattle.if1_graph.specs.Types.{Sort, Plain, sort_at}
use Rattle.if1_graph.specs.Types as types
use Rattle.if1_graph.specs.Typing.{known, IsListed, Fits, FitsNode, IsWanted, IsFunctionName, kind_of, function_type}
use Rattle.if1_graph.specs.Units.{label_of, node_at, edge_into, ports_into, results, Function, Place, places}
use Rattle.if1_marks.proofs.Lists.{here-or-there, in-none, found-in}
use Rattle.graph_meaning.specs.Carried.{Carried}
use Rattle.graph_meaning.specs.Forms.{Form, Next, Stage, Enter, Iterate, Leave, next_of, first, follow}
use Rattle.graph_meaning.specs.Forms as forms
use Rattle.graph_meaning.specs.Networks.{network, net_of, number_or_zero, callee_number}
use Rattle.unit_laws.specs.Typed.{Fills, InputsBelong, IsEntered, ResultsBelong, typed_at, valued}
use Rattle.unit_laws.proofs.TypeLists.{some-same}
use Rattle.unit_laws.proofs.TypedEdges.{bound, IsValueWant, edge-typed, found-edge}
use Rattle.unit_laws.proofs.TypedNodes.{first-edge, filled-port, node-found, wanted-at, want-is}
use Rattle.unit_laws.proofs.TypedOutputs.{filled, output-given}
use Rattle.unit_laws.proofs.TypedPlans.{Plan, function-place, net-found, results-are, result-fits, result-typed}
use Rattle.unit_laws.proofs.TypedParts.{OutputsBelong}

placed : (xs : List Graph) (x : Graph) → Contains xs x → (k : ℕ) × (slice_get xs k ≡ Some x)
placed [] x h = in-none x h
placed (y ∷ xs) x h =
    elim (here-or-there y xs x h) [
      | inl e ↦ (0, ap Some e)
      | inr later ↦ let r = placed xs x later in (suc r.0, r.1)
    ]

ty-same : (a b : Ty) → Some a ≡ Some b → a ≡ b
ty-same a b e = cc

place-below : (ts : List Ty) (i : ℕ) (t : Ty) → slice_get ts i ≡ Some t → i < length ts
place-below [] i t e = absurd cc
place-below (a ∷ ts) zero t e = omega arith
place-below (a ∷ ts) (suc i) t e = let l = place-below ts i t e in omega (arith, l)

-- of what is listed at a place there is one type
listed-once : (o : Option (List Ty)) (i : ℕ) (s t : Sort) → IsListed o i s → IsListed o i t → s ≡ t
listed-once o i s t x y = x.2 ∙ (ap Plain (ty-same x.0 y.0 (sym x.1 ∙ y.1)) ∙ sym y.2)

module _ (u : Unit1) (ready : IsReady u) (p : Place) (place : Contains (places u) p) (n : Node) (inside : Contains (out-Graph p.graph).nodes n) (is : simple_at (out-Node n).op ≡ Some simple.Call) (none : compound_at (out-Node n).op ≡ None) where
  abbrev l : ℕ
  l = label_of n

  -- the function that is called, and its type
  pub record IsCalled : Type 0 where
    pub function : Graph
    pub index : ℕ
    pub at : slice_get u.graphs index ≡ Some function
    pub number : callee_number u p.graph l ≡ (out-Graph function).number
    pub args : List Ty
    pub rs : List Ty
    pub known : callee u p.graph l ≡ Some (types.Function args rs)
    pub own : function_type u function ≡ Some (types.Function args rs)

  call-ports : AreArguments 1 (arguments_of (callee u p.graph l)) (ports_into p.graph l)
  call-ports = (filled u ready p place n inside simple.Call is none).ports

  first-port : (o : Option (List Ty)) → AreArguments 1 o (ports_into p.graph l) → Contains (ports_into p.graph l) 1
  first-port (Some args) f = (f.these 1).1 (omega arith, omega arith)
  first-port None f = (f.2.these 1).1 (omega arith, let le = f.1 in omega (arith, le))

  function-typed : (e : Edge) → edge_into p.graph l 1 ≡ Some e → (s : Sort) × Fits (known u p.graph l) want.Function s
  function-typed e f =
      let r = found-edge u ready p place l 1 e f in
      let wants : want_at p.graph e.node e.port ≡ Some want.Function = ap (λ m. want_at p.graph m e.port) r.1 ∙ (ap (want_at p.graph l) r.2 ∙ want-is u ready p place n inside 1 simple.Call is) in
      elim (edge-typed u ready p place e r.0) [
        | inl x ↦ absurd (subst (λ w. IsFunctionName w (kind_of u e.ty)) wants x)
        | inr x ↦
            let w : IsWanted u p l (node_at (out-Graph p.graph).nodes l) 1 x.0 =
            subst (λ q. IsWanted u p l (node_at (out-Graph p.graph).nodes l) q x.0) r.2 (subst (λ m. IsWanted u p m (node_at (out-Graph p.graph).nodes m) e.port x.0) r.1 x.2) in
            (x.0, subst (λ y. FitsNode u p.graph l None y 1 x.0) is (subst (λ c. FitsNode u p.graph l c (simple_at (out-Node n).op) 1 x.0) none (subst (λ o. IsWanted u p l o 1 x.0) (node-found u ready p place n inside) w)))
      ]

  pub called : IsCalled
  called =
      let e = filled-port p.graph l 1 (first-port (arguments_of (callee u p.graph l)) call-ports) in
      let f = function-typed e.0 e.1 in
      let known : callee u p.graph l ≡ Some (types.Function f.1.0 f.1.1) = f.1.3 ∙ ap Some f.1.2 in
      let name = bound (literal_at p.graph l 1) (λ name. function_named u.graphs name >>= λ f. sort_at u.types (out-Graph f).fun) (types.Function f.1.0 f.1.1) known in
      let g = bound (function_named u.graphs name.0) (λ f. sort_at u.types (out-Graph f).fun) (types.Function f.1.0 f.1.1) name.2 in
      let k = placed u.graphs g.0 (found-in (λ g. bytes_eq (out-Graph g).name name.0) u.graphs g.0 g.1).0 in
      record {
        function = g.0;
        index = k.0;
        at = k.1;
        number = ap (λ o. number_or_zero (o >>= λ name. function_named u.graphs name)) name.1 ∙ ap number_or_zero g.1;
        args = f.1.0;
        rs = f.1.1;
        known = known;
        own = g.2;
      }

  abbrev pub callee-place : Place
  callee-place = record { graph = called.function; home = Function called.index }

  pub callee-there : Contains (places u) callee-place
  callee-there = function-place u ready called.index called.function called.at

  pub callee-net : network u (callee_number u p.graph l) ≡ net_of u called.function
  callee-net = ap (network u) called.number ∙ net-found u ready callee-place callee-there

  argument-wanted : (i : ℕ) → want_at p.graph l (suc (suc i)) ≡ Some (want.Argument (suc i))
  argument-wanted i = let less : suc (suc i) - 1 ≡ suc i = omega arith in want-is u ready p place n inside (suc (suc i)) simple.Call is ∙ ap (λ q. Some (want.Argument q)) less

  argument-ports : AreFirst (1 + length called.args) (ports_into p.graph l)
  argument-ports = subst (λ o. AreArguments 1 (arguments_of o) (ports_into p.graph l)) called.known call-ports

  argument-typed : (i : ℕ) → i < length called.args → (s : Sort) × (typed_at u p.graph l (suc (suc i)) ≡ Some s) × IsListed (arguments_of (callee u p.graph l)) (suc i) s
  argument-typed i lt =
      let e = first-edge p.graph l (1 + length called.args) argument-ports (suc i) (omega (arith, lt)) in
      let x = wanted-at u ready p place n inside (suc (suc i)) e.0 e.1 (subst IsValueWant (sym (argument-wanted i)) tt) in
      let less : suc (suc i) - 1 ≡ suc i = omega arith in
      let h = subst (λ y. FitsNode u p.graph l None y (suc (suc i)) x.sort) is (subst (λ c. FitsNode u p.graph l c (simple_at (out-Node n).op) (suc (suc i)) x.sort) none x.fits) in
      (x.sort, ap (λ w. valued w (carried u p.graph l (suc (suc i)))) (argument-wanted i) ∙ x.carries, subst (λ q. IsListed (arguments_of (callee u p.graph l)) q x.sort) less h)

  module _ (ks : List Carried) (given : Fills (λ i. typed_at u p.graph l (suc (suc i))) ks) where
    pub arguments-belong : InputsBelong u callee-place ks
    arguments-belong i s h =
        let own : IsListed (Some called.args) (suc i) s = subst (λ o. IsListed (arguments_of o) (suc i) s) called.own h in
        let x = argument-typed i (place-below called.args i own.0 own.1) in
        let listed : IsListed (Some called.args) (suc i) x.0 = subst (λ o. IsListed (arguments_of o) (suc i) x.0) called.known x.2 in
        given i s (x.1 ∙ ap Some (listed-once (Some called.args) (suc i) x.0 s listed own))

    abbrev pub CallOuts : List Carried → Type 0
    CallOuts = OutputsBelong u ready p place n inside (outputs u p.graph n)

    pub data Calls : (g : ℕ) (ins : List Carried) (stage : Stage) → Type 0 where
      a_call : Calls (callee_number u p.graph l) ks forms.Called

    abbrev pub CallGoes : Next → Type 0
    CallGoes (Leave rs) = CallOuts rs
    CallGoes (Enter t g ins stage) = Calls g ins stage
    CallGoes (Iterate g row rows ms) = ⊥

    abbrev pub call-entered : (g : ℕ) (ins : List Carried) (stage : Stage) → Calls g ins stage → IsEntered u g ins
    call-entered _ _ _ a_call = record { at = callee-place; there = callee-there; net = callee-net; inputs = arguments-belong }

    result-count : results called.function ≡ length called.rs
    result-count = results-are u ready callee-place callee-there ∙ ap (λ o. unwrap_or (option_map length (results_of o)) (results called.function)) called.own

    results-given : outputs u p.graph n ≡ Some (length called.rs)
    results-given =
        ap (λ c. outputs_as u p.graph n c (simple_at (out-Node n).op)) none ∙ (ap (outputs_as u p.graph n None) is ∙ ap (λ o. option_map length (results_of o)) called.known)

    call-out : (rs : List Carried) → ResultsBelong u callee-place rs → CallOuts rs
    call-out rs h =
        record {
          long = results-given ∙ ap Some (sym (h.long ∙ result-count));
          typed = λ i s x.
              let w = output-given u ready p place n inside simple.Call is none (suc i) s x in
              let out : Fits (known u p.graph l) (want.Output (suc i)) s = subst (λ z. Fits (known u p.graph l) z s) (sym (some-same (want.Output (suc i)) w.0 w.1)) w.2 in
              let own : IsListed (Some called.rs) (suc i) s = subst (λ o. IsListed (results_of o) (suc i) s) called.known out in
              let lt = place-below called.rs i own.0 own.1 in
              let count = result-count in
              let t = result-typed u ready callee-place callee-there i (omega (arith, lt, count)) in
              let listed : IsListed (Some called.rs) (suc i) t.0 = subst (λ o. IsListed (results_of o) (suc i) t.0) called.own (result-fits u ready callee-place callee-there i t.0 t.1) in
              h.fills i s (t.1 ∙ ap Some (listed-once (Some called.rs) (suc i) t.0 s listed own));
        }

    pub call-follows : (g : ℕ) (ins : List Carried) (stage : Stage) (x : Calls g ins stage) (rs : List Carried) → ResultsBelong u (call-entered g ins stage x).at rs → CallGoes (follow (forms.Call (callee_number u p.graph l)) ks stage rs)
    call-follows _ _ _ a_call rs h = call-out rs h

    abbrev pub call-plan : Plan u (forms.Call (callee_number u p.graph l)) ks CallOuts
    call-plan =
        record {
          Enters = Calls;
          Iterates = λ g rows ms. ⊥;
          entered = call-entered;
          iterated = λ g rows ms h. absurd h;
          Goes = CallGoes;
          leaves = λ rs h. h;
          enters = λ t g ins stage h. h;
          iterates = λ g row rows ms h. h;
          follows = call-follows;
          gathers = λ g rows ms h lists k. absurd h;
        }

    pub call-begins : call-plan.Goes (next_of (first (forms.Call (callee_number u p.graph l)) ks))
    call-begins = a_call
