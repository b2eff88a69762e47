-- The graphs in a compound node of a ready unit: what comes in, and what they give.
use Rattle.std.proofs.Common.{◌≡◌, ℕ, zero, suc, ◌+◌, ◌-◌, ◌<◌, ◌≤◌, Bool, true, false, List, [], ◌∷◌, map, length, get_or, option_map, Option, Some, None, Contains, ◌⊎◌, inl, inr, refl, sym, ap, subst, ◌∙◌, arith, ◌==◌, if◌then◌else◌}
use Rattle.std.specs.Prelude.{slice_get, unwrap_or, nat_le, MatchBool, MatchOption}
use Rattle.std.proofs.lemmas.Bool.{leb-true, le-leb}
use Rattle.flow_value.specs.declared.cause.Cause.{Cause}
use Rattle.if1_graph.specs.declared.graph.Graph.{Graph}
use Rattle.if1_graph.specs.declared.graph.Graph.TheViews.{out-Graph}
use Rattle.if1_graph.specs.declared.graph.Node.{Node, out-Node}
use Rattle.if1_graph.specs.declared.graph.Origin.TheVariants as origin
use Rattle.if1_graph.specs.declared.graph.Unit1.{Unit1}
use Rattle.if1_graph.specs.declared.op.Compound.{Compound}
use Rattle.if1_graph.specs.declared.op.Part.{Part}
use Rattle.if1_graph.specs.Formed.{want_at}
use Rattle.if1_graph.specs.Ops.{simple_at, compound_at, compounds}
use Rattle.if1_graph.specs.Parts.{part_at}
use Rattle.if1_graph.specs.Ports.{IsUpTo, IsThere, IsCompoundFilled, IsFilledAs, carried, compound_outputs, outputs, outputs_as, part_results, part_of}
use Rattle.if1_graph.specs.Ready.{IsReady}
use Rattle.if1_graph.specs.Rows.{operand_of}
use Rattle.if1_graph.specs.Tables.{◌>>=◌, beside}
use Rattle.if1_graph.specs.Types.{Sort}
use Rattle.if1_graph.specs.Typing.{result_of, IsPlain, FitsResult, FitsOwnInput, FitsNodeInput, FitsPartInput, giving_part, FitsOutputAs}
use Rattle.if1_graph.specs.Units.{label_of, node_at, width, results, Inside, Place, places}
use Rattle.if1_marks.proofs.Lists.{here, there, here-or-there, in-none}
use Rattle.if1_marks.proofs.Tests.{same-number, no-both}
use Rattle.graph_meaning.specs.Carried.{Carried, Unfilled}
use Rattle.graph_meaning.specs.Forms.{errors}
use Rattle.graph_meaning.specs.Networks.{network, net_of, number_or_zero, part as part_number}
use Rattle.unit_laws.specs.Typed.{Belongs, InputsBelong, IsEntered, ResultsBelong, valued}
use Rattle.unit_laws.proofs.TypeLists.{some-same}
use Rattle.unit_laws.proofs.TypedEdges.{bound, node-formed, edge-there, Leaving}
use Rattle.unit_laws.proofs.TypedNodes.{node-found, node-filled}
use Rattle.unit_laws.proofs.TypedOutputs.{OperandsOf, leaving-output}
use Rattle.unit_laws.proofs.TypedPlans.{part-place, net-found, results-are, result-fits, result-typed, errors-belong, errors-count}

-- ---- compound nodes are no simple ones

beside-key : {A : Type 0} (key : ℕ) (rows : List (ℕ × A)) (a : A) → beside key rows ≡ Some a → Contains (map (λ (r : ℕ × A). r.0) rows) key
beside-key key [] a e = absurd cc
beside-key key (r ∷ rows) a e = go (r.0 == key) refl e (beside-key key rows a)
  where
    go : (b : Bool) → (r.0 == key) ≡ b → (if b then Some r.1 else beside key rows) ≡ Some a → (beside key rows ≡ Some a → Contains (map (λ (r : ℕ × _). r.0) rows) key) → Contains (r.0 ∷ map (λ (r : ℕ × _). r.0) rows) key
    go true f e rest = subst (Contains (r.0 ∷ map (λ (r : ℕ × _). r.0) rows)) (same-number r.0 key f) (here r.0 _)
    go false f e rest = there r.0 _ key (rest e)

pub no-simple : (op : ℕ) (c : Compound) → compound_at op ≡ Some c → simple_at op ≡ None
no-simple op c e =
    elim (here-or-there 0 (1 ∷ 2 ∷ 3 ∷ 4 ∷ []) op (beside-key op compounds c e)) [
      | inl x ↦ subst (λ z. simple_at z ≡ None) x refl
      | inr a ↦ elim (here-or-there 1 (2 ∷ 3 ∷ 4 ∷ []) op a) [
        | inl x ↦ subst (λ z. simple_at z ≡ None) x refl
        | inr b ↦ elim (here-or-there 2 (3 ∷ 4 ∷ []) op b) [
          | inl x ↦ subst (λ z. simple_at z ≡ None) x refl
          | inr d ↦ elim (here-or-there 3 (4 ∷ []) op d) [
            | inl x ↦ subst (λ z. simple_at z ≡ None) x refl
            | inr f ↦ elim (here-or-there 4 [] op f) [
              | inl x ↦ subst (λ z. simple_at z ≡ None) x refl
              | inr g ↦ in-none op g
            ]
          ]
        ]
      ]
    ]

by-order : (a w : ℕ) → (a ≤ w) ⊎ (w < a)
by-order a w = grind arith

pub beyond : (i w : ℕ) → nat_le (suc i) w ≡ false → w ≤ i
beyond i w g =
    elim (by-order (suc i) w) [
      | inl le ↦ absurd (no-both (nat_le (suc i) w) (le-leb (suc i) w le) g)
      | inr lt ↦ omega (arith, lt)
    ]

-- ---- the parts of a node

module _ (u : Unit1) (ready : IsReady u) (p : Place) (place : Contains (places u) p) (n : Node) (inside : Contains (out-Graph p.graph).nodes n) where
  abbrev l : ℕ
  l = label_of n

  abbrev gs : List Graph
  gs = (out-Node n).subs

  abbrev pub at_part : ℕ → Graph → Place
  at_part k s = record { graph = s; home = Inside p.graph n k }

  -- the outputs of the node: as many as it has, each of the type of the edges that leave it
  pub record OutputsBelong (count : Option ℕ) (rs : List Carried) : Type 0 where
    pub long : count ≡ Some (length rs)
    pub typed : (i : ℕ) (s : Sort) → Leaving u ready p place l (suc i) s → Belongs s (get_or rs i Unfilled)

  pub part-there : (k : ℕ) (s : Graph) → slice_get gs k ≡ Some s → Contains (places u) (at_part k s)
  part-there k s e = part-place u ready p place n inside k s e

  pub part-net : (k : ℕ) (s : Graph) → slice_get gs k ≡ Some s → network u (part_number gs k) ≡ net_of u s
  part-net k s e = ap (λ o. network u (number_or_zero o)) e ∙ net-found u ready (at_part k s) (part-there k s e)

  abbrev pub enters-part : (k : ℕ) (s : Graph) → slice_get gs k ≡ Some s → (ins : List Carried) → InputsBelong u (at_part k s) ins → IsEntered u (part_number gs k) ins
  enters-part k s e ins h =
      record {
        at = at_part k s;
        there = part-there k s e;
        net = part-net k s e;
        inputs = h;
      }

  module _ (c : Compound) (is : compound_at (out-Node n).op ≡ Some c) where
    pub compound-filled : IsCompoundFilled u p.graph n c
    compound-filled = subst (λ x. IsFilledAs u p.graph n x (simple_at (out-Node n).op)) is (node-filled u ready p place n inside)

    pub part-is : (k : ℕ) (x : Part) → part_at c k ≡ Some x → part_of n k ≡ Some (c, x)
    part-is k x e = ap (λ o. o >>= λ c. part_at c k >>= λ part. Some (c, part)) is ∙ ap (λ o. o >>= λ part. Some (c, part)) e

    -- every port takes values
    pub no-want : (port : ℕ) → want_at p.graph l port ≡ None
    no-want port =
        ap (λ m. m >>= λ n. simple_at (out-Node n).op >>= λ op. operand_of op port >>= λ operand. Some operand.1) (node-found u ready p place n inside)
        ∙ ap (λ o. o >>= λ op. operand_of op port >>= λ operand. Some operand.1) (no-simple (out-Node n).op c is)

    -- ---- results of a part

    module _ (k : ℕ) (s : Graph) (e : slice_get gs k ≡ Some s) (x : Part) (f : part_at c k ≡ Some x) where
      abbrev q : Place
      q = at_part k s

      abbrev q-there : Contains (places u) q
      q-there = part-place u ready p place n inside k s e

      pub part-result : (i : ℕ) (t : Sort) → carried u s 0 (suc i) ≡ Some t → FitsResult u c x gs (suc i) t
      part-result i t g = subst (λ o. MatchOption o ⊥ (λ (cp : Compound × Part). FitsResult u cp.0 cp.1 gs (suc i) t)) (part-is k x f) (result-fits u ready q q-there i t g)

      pub part-count : results s ≡ part_results c x gs (results s)
      part-count = results-are u ready q q-there ∙ ap (λ o. unwrap_or (option_map (λ (cp : Compound × Part). part_results cp.0 cp.1 gs (results s)) o) (results s)) (part-is k x f)

      pub part-typed : (i : ℕ) → i < results s → (t : Sort) × (carried u s 0 (suc i) ≡ Some t)
      part-typed i lt = result-typed u ready q q-there i lt

      -- what comes in there: what the node is given, and then what is the part's own
      pub inputs-by : (ins : List Carried) → ((i : ℕ) (t : Sort) → i < width p.graph l → FitsNodeInput u p.graph n x k (suc i) t → Belongs t (get_or ins i Unfilled))
          → ((j : ℕ) (t : Sort) → FitsOwnInput u c x gs (suc j) t → Belongs t (get_or ins (width p.graph l + j) Unfilled)) → InputsBelong u q ins
      inputs-by ins near far i t h =
          go (nat_le (suc i) (width p.graph l)) refl (subst (λ o. MatchOption o ⊥ (λ (cp : Compound × Part). FitsPartInput u p.graph n cp k (suc i) t)) (part-is k x f) h)
        where
          go : (b : Bool) → nat_le (suc i) (width p.graph l) ≡ b → MatchBool b (FitsNodeInput u p.graph n x k (suc i) t) (FitsOwnInput u c x gs (suc i - width p.graph l) t) → Belongs t (get_or ins i Unfilled)
          go true g y = near i t (let a = leb-true (suc i) (width p.graph l) g in omega (arith, a)) y
          go false g y =
              let over : width p.graph l ≤ i = beyond i (width p.graph l) g in
              let own : suc i - width p.graph l ≡ suc (i - width p.graph l) = omega (arith, over) in
              let back : width p.graph l + (i - width p.graph l) ≡ i = omega (arith, over) in
              subst (λ z. Belongs t (get_or ins z Unfilled)) back (far (i - width p.graph l) t (subst (λ z. FitsOwnInput u c x gs z t) own y))

    -- ---- outputs

    pub outputs-are : outputs u p.graph n ≡ Some (compound_outputs c gs)
    outputs-are = ap (λ x. outputs_as u p.graph n x (simple_at (out-Node n).op)) is

    output-result : (i : ℕ) (s : Sort) → Leaving u ready p place l (suc i) s → result_of u gs (giving_part c) (suc i) ≡ Some s
    output-result i s x = subst (λ o. FitsOutputAs u p.graph n o (simple_at (out-Node n).op) (suc i) s) is (leaving-output u ready p place n inside (suc i) s x)

    there-at : (m port : ℕ) → 1 ≤ m → m ≡ l → IsThere u p (origin.Port m port) → port ≤ compound_outputs c gs
    there-at zero port le e h = absurd (omega (arith, le))
    there-at (suc m) port le e h =
        let same : Some h.0 ≡ Some n = sym h.1 ∙ (ap (node_at (out-Graph p.graph).nodes) e ∙ node-found u ready p place n inside) in
        subst (λ o. IsUpTo o port) (ap (outputs u p.graph) (some-same h.0 n same) ∙ outputs-are) h.2

    pub output-there : (i : ℕ) (s : Sort) → Leaving u ready p place l (suc i) s → i < compound_outputs c gs
    output-there i s x =
        let label = (node-formed u ready p place n inside).label.0 in
        let a = there-at l (suc i) label refl (subst (IsThere u p) x.from (edge-there u ready p place x.edge x.there)) in
        omega (arith, a)

    module _ (gives : (x : Part) × (part_at c (giving_part c) ≡ Some x) × ((port : ℕ) (t : Sort) → FitsResult u c x gs port t → IsPlain t)) where
      pub output-plain : (i : ℕ) (s : Sort) → Leaving u ready p place l (suc i) s → IsPlain s
      output-plain i s x =
          let r = bound (slice_get gs (giving_part c)) (λ g. carried u g 0 (suc i)) s (output-result i s x) in
          gives.2 (suc i) s (part-result (giving_part c) r.0 r.1 gives.0 gives.1 i s r.2)

      pub errors-out : (e : Cause) → OutputsBelong (Some (compound_outputs c gs)) (errors (compound_outputs c gs) e)
      errors-out e =
          record {
            long = ap Some (sym (errors-count (compound_outputs c gs) e));
            typed = λ i s x. let t = output-plain i s x in errors-belong (compound_outputs c gs) e i s t.0 (output-there i s x) t.1;
          }

    -- the results of a part that has as many as the node has outputs, of the types of those
    pub results-out : (k : ℕ) (s : Graph) → slice_get gs k ≡ Some s → (x : Part) → part_at c k ≡ Some x → results s ≡ compound_outputs c gs
        → ((i : ℕ) (t : Sort) → carried u s 0 (suc i) ≡ Some t → result_of u gs (giving_part c) (suc i) ≡ Some t) → (rs : List Carried) → ResultsBelong u (at_part k s) rs → OutputsBelong (Some (compound_outputs c gs)) rs
    results-out k s e x f count gives rs h =
        record {
          long = ap Some (sym count ∙ sym h.long);
          typed = λ i t y.
              let lt = output-there i t y in
              let r = part-typed k s e x f i (omega (arith, lt, count)) in
              let same : Some r.0 ≡ Some t = sym (gives i r.0 r.1) ∙ output-result i t y in
              h.fills i t (r.1 ∙ same);
        }

    -- ---- inputs

    module _ (ks : List Carried) (given : OperandsOf u p.graph l ks) where
      pub node-input : (i : ℕ) (t : Sort) → carried u p.graph l (suc i) ≡ Some t → Belongs t (get_or ks i Unfilled)
      node-input i t e = given.fills i t (ap (λ w. valued w (carried u p.graph l (suc i))) (no-want (suc i)) ∙ e)
