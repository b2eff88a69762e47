-- A function owns of its inputs what a Call gives to it, and there an aggregate is carried into the Call.
use Rattle.std.proofs.Common.{◌≡◌, ℕ, zero, suc, ◌+◌, ◌-◌, ◌<◌, ◌&&◌, if◌then◌else◌, true, List, [], ◌∷◌, length, Option, Some, None, Contains, sym, ap, subst, ◌∙◌, arith}
use Rattle.std.specs.Prelude.{slice_get, bytes_eq}
use Rattle.flow_value.specs.declared.ty.Ty.{Ty}
use Rattle.if1_graph.specs.declared.graph.Graph.{Graph}
use Rattle.if1_graph.specs.declared.graph.Graph.TheViews.{out-Graph}
use Rattle.if1_graph.specs.declared.graph.Node.{Node, out-Node}
use Rattle.if1_graph.specs.declared.graph.Unit1.{Unit1}
use Rattle.if1_graph.specs.declared.op.Simple.TheVariants as simple
use Rattle.if1_graph.specs.declared.row.Want.TheVariants as want
use Rattle.if1_graph.specs.Formed.{function_named, want_at}
use Rattle.if1_graph.specs.Ops.{simple_at, compound_at}
use Rattle.if1_graph.specs.Ports.{AreFirst, AreArguments, arguments_of, callee, literal_at}
use Rattle.if1_graph.specs.Ready.{IsReady}
use Rattle.if1_graph.specs.Tables.{◌>>=◌}
use Rattle.if1_graph.specs.Types.{Sort, Plain, sort_at}
use Rattle.if1_graph.specs.Types as types
use Rattle.if1_graph.specs.Typing.{FitsNode, IsListed}
use Rattle.if1_graph.specs.Units.{Function, Place, edge_into, label_of, number_of, places, ports_into}
use Rattle.if1_marks.proofs.Consumed.{given-by-edge}
use Rattle.if1_marks.proofs.Lists.{found-in}
use Rattle.if1_marks.proofs.Tests.{both, both-left}
use Rattle.if1_marks.specs.Aggregates.{is_aggregate}
use Rattle.if1_marks.specs.Given.{called, consumes, is_call, is_call_as, is_consumed_by, is_given_inside, is_given_to_called}
use Rattle.graph_meaning.specs.Networks.{callee_number, number_or_zero}
use Rattle.graph_meaning.specs.StorageUnits.{carries_aggregate, storage_of}
use Rattle.made_store.specs.Marks.{owned_inputs}
use Rattle.unit_laws.proofs.TypedCalls as calls
use Rattle.unit_laws.proofs.TypedEdges.{IsValueWant, bound}
use Rattle.unit_laws.proofs.TypedNodes.{first-edge, wanted-at, want-is}
use Rattle.unit_laws.proofs.TypedOutputs.{filled}
use Rattle.unit_laws.proofs.TypedPlans.{function-place}
use Rattle.unit_plan.specs.Plans.{place_of, plain_in, plain_of}
use Rattle.plan_shares.proofs.Handed.{consumes-here, owned-at, test-at}
use Rattle.plan_shares.proofs.Homes.{places-found}
use Rattle.plan_shares.proofs.Inputs.{of-input, placed}
use Rattle.plan_shares.proofs.Sorts.{aggregates-same}

ty-same : (a b : Ty) → Some a ≡ Some b → a ≡ b
ty-same a b e = cc

place-below : (ts : List Ty) (i : ℕ) (t : Ty) → slice_get ts i ≡ Some t → i < length ts
place-below [] i t e = absurd cc
place-below (a ∷ ts) zero t e = omega arith
place-below (a ∷ ts) (suc i) t e = let l = place-below ts i t e in omega (arith, l)

listed-once : (o : Option (List Ty)) (i : ℕ) (s t : Sort) → IsListed o i s → IsListed o i t → s ≡ t
listed-once o i s t x y = x.2 ∙ (ap Plain (ty-same x.0 y.0 (sym x.1 ∙ y.1)) ∙ sym y.2)

module _ (u : Unit1) (ready : IsReady u) (p : Place) (place : Contains (places u) p) (n : Node) (inside : Contains (out-Graph p.graph).nodes n) (is : simple_at (out-Node n).op ≡ Some simple.Call) (none : compound_at (out-Node n).op ≡ None) where
  abbrev l : ℕ
  l = label_of n

  pub record IsFunction (f : Graph) : Type 0 where
    pub function : called u p.graph l ≡ Some f
    pub index : ℕ
    pub at : slice_get u.graphs index ≡ Some f
    pub args : List Ty
    pub known : arguments_of (callee u p.graph l) ≡ Some args
    pub own : arguments_of (sort_at u.types (out-Graph f).fun) ≡ Some args

  the-function : (f : Graph) × IsFunction f
  the-function =
      let k = calls.called u ready p place n inside is none in
      let name = bound (literal_at p.graph l 1) (λ name. function_named u.graphs name >>= λ f. sort_at u.types (out-Graph f).fun) (types.Function k.args k.rs) k.known in
      let f = bound (function_named u.graphs name.0) (λ f. sort_at u.types (out-Graph f).fun) (types.Function k.args k.rs) name.2 in
      let i = placed u.graphs f.0 (found-in (λ g. bytes_eq (out-Graph g).name name.0) u.graphs f.0 f.1).0 in (
        f.0,
        record {
          function = ap (λ o. o >>= λ name. function_named u.graphs name) name.1 ∙ f.1;
          index = i.0;
          at = i.1;
          args = k.args;
          known = ap arguments_of k.known;
          own = ap arguments_of f.2;
        },
      )

  ports : (args : List Ty) → arguments_of (callee u p.graph l) ≡ Some args → AreFirst (1 + length args) (ports_into p.graph l)
  ports args e = subst (λ o. AreArguments 1 o (ports_into p.graph l)) e (filled u ready p place n inside simple.Call is none).ports

  argument-wanted : (i : ℕ) → want_at p.graph l (suc (suc i)) ≡ Some (want.Argument (suc i))
  argument-wanted i = let less : suc (suc i) - 1 ≡ suc i = omega arith in want-is u ready p place n inside (suc (suc i)) simple.Call is ∙ ap (λ q. Some (want.Argument q)) less

  -- an argument of this type is an aggregate, where it is one inside
  carries-there : (args : List Ty) → arguments_of (callee u p.graph l) ≡ Some args → (i : ℕ) (s : Sort) → IsListed (Some args) (suc i) s → (m : ℕ) → sort_at u.types m ≡ Some s → is_aggregate u.types m ≡ true → carries_aggregate u (edge_into p.graph l (suc (suc i))) ≡ true
  carries-there args known i s listed m typed whole =
      let e = first-edge p.graph l (1 + length args) (ports args known) (suc i) (let lt = place-below args i listed.0 listed.1 in omega (arith, lt)) in
      let x = wanted-at u ready p place n inside (suc (suc i)) e.0 e.1 (subst IsValueWant (sym (argument-wanted i)) tt) in
      let less : suc (suc i) - 1 ≡ suc i = omega arith in
      let h = subst (λ y. FitsNode u p.graph l None y (suc (suc i)) x.sort) is (subst (λ c. FitsNode u p.graph l c (simple_at (out-Node n).op) (suc (suc i)) x.sort) none x.fits) in
      let there : IsListed (Some args) (suc i) x.sort = subst (λ o. IsListed o (suc i) x.sort) known (subst (λ q. IsListed (arguments_of (callee u p.graph l)) q x.sort) less h) in
      let b = bound (edge_into p.graph l (suc (suc i))) (λ e. sort_at u.types e.ty) x.sort x.carries in
      ap (carries_aggregate u) b.1 ∙ (aggregates-same u.types (b.0).ty m s (b.2 ∙ ap Some (listed-once (Some args) (suc i) x.sort s there listed)) typed ∙ whole)

  module _ (f : Graph) (k : IsFunction f) where
    abbrev home : Place
    home = record { graph = f; home = Function k.index }

    function-there : Contains (places u) home
    function-there = function-place u ready k.index f k.at

    number-is : callee_number u p.graph l ≡ number_of home
    number-is = ap number_or_zero k.function

    call-gives : (port : ℕ) → (storage_of u).is_given (number_of p) l (suc port) ≡ is_given_inside u f port
    call-gives port =
        let call : is_call n ≡ true = ap (λ c. is_call_as c (simple_at (out-Node n).op)) none ∙ ap (is_call_as None) is in
        let less : suc port - 1 ≡ port = omega arith in
        test-at u ready p place (λ g. consumes u g l (suc port))
        ∙ (consumes-here u ready p place n inside (suc port)
        ∙ (ap (λ b. if b then is_given_to_called u (called u p.graph l) (suc port) else is_consumed_by u n (suc port)) call
        ∙ (ap (λ o. is_given_to_called u o (suc port)) k.function ∙ ap (is_given_inside u f) less)))

    inside-given : (port : ℕ) → owned_inputs u (callee_number u p.graph l) port ≡ true → is_given_inside u f port ≡ true
    inside-given port e = sym (ap (λ h. owned_inputs u h port) number-is ∙ owned-at u ready home function-there port) ∙ e

    carried-there : (port : ℕ) → is_given_inside u f port ≡ true → carries_aggregate u (edge_into p.graph l (suc port)) ≡ true
    carried-there port given =
        let w = (given-by-edge u f port).0 given in
        let whole = both-left (is_aggregate u.types (w.0).ty) (consumes u f (w.0).node (w.0).port) w.1.consuming in
        let x = of-input u ready home function-there port w.0 w.1.there w.1.from whole in
        go port (subst (λ o. IsListed o port x.sort) k.own x.fits) (w.0).ty x.typed whole
      where
        go : (port : ℕ) {s : Sort} → IsListed (Some k.args) port s → (m : ℕ) → sort_at u.types m ≡ Some s → is_aggregate u.types m ≡ true → carries_aggregate u (edge_into p.graph l (suc port)) ≡ true
        go zero listed m typed whole = absurd (none-listed listed.0 listed.1)
          where
            none-listed : (t : Ty) → None ≡ Some t → ⊥
            none-listed t e = cc
        go (suc i) {s} listed m typed whole = carries-there k.args k.known i s listed m typed whole

    pub gives-owned : (port : ℕ) → owned_inputs u (callee_number u p.graph l) port ≡ true → (storage_of u).is_given (number_of p) l (suc port) && (storage_of u).is_aggregate (number_of p) l (suc port) ≡ true
    gives-owned port e =
        let given = inside-given port e in
        both ((storage_of u).is_given (number_of p) l (suc port)) ((storage_of u).is_aggregate (number_of p) l (suc port))
        (call-gives port ∙ given) (test-at u ready p place (λ g. carries_aggregate u (edge_into g l (suc port))) ∙ carried-there port given)

  pub call-owned : (port : ℕ) → owned_inputs u (callee_number u p.graph l) port ≡ true → (storage_of u).is_given (number_of p) l (suc port) && (storage_of u).is_aggregate (number_of p) l (suc port) ≡ true
  call-owned = gives-owned the-function.0 the-function.1

  -- a function is no returns
  pub callee-plain : plain_of u (callee_number u p.graph l) ≡ None
  callee-plain =
      let k = the-function.1 in
      ap plain_in (ap (place_of u) (number-is the-function.0 k) ∙ places-found u (home the-function.0 k) ready.formed (function-there the-function.0 k))
