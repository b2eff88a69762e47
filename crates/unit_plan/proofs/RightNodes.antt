-- Each node of a ready unit is right in its plan.
use Rattle.std.proofs.Common.{◌≡◌, ℕ, zero, suc, ◌+◌, ◌<◌, ◌≤◌, Bool, true, false, List, [], ◌∷◌, map, drop, length, option_map, Option, Some, None, Contains, inl, inr, refl, sym, ap, ◌∙◌, subst, arith}
use Rattle.std.specs.Prelude.{slice_get, unwrap_or}
use Rattle.std.specs.Prelude as std
use Rattle.std.proofs.Math.Path.{fun_ext}
use Rattle.std.proofs.lemmas.List.Elements.{All-head, All-tail}
use Rattle.flow_value.specs.declared.ty.Ty.{Ty}
use Rattle.flow_value.specs.declared.ty.Ty.TheVariants as ty
use Rattle.flow_value.specs.declared.ty.Ty.TheViews.{out-Ty}
use Rattle.if1_graph.specs.declared.graph.Graph.{Graph}
use Rattle.if1_graph.specs.declared.graph.Graph.TheViews.{out-Graph}
use Rattle.if1_graph.specs.declared.graph.Node.{Node, out-Node}
use Rattle.if1_graph.specs.declared.graph.Unit1.{Unit1}
use Rattle.if1_graph.specs.declared.op.Compound.{Compound}
use Rattle.if1_graph.specs.declared.op.Compound.TheVariants as compound
use Rattle.if1_graph.specs.declared.op.Part.{Part}
use Rattle.if1_graph.specs.declared.op.Part.TheVariants as part
use Rattle.if1_graph.specs.declared.op.Simple.{Simple}
use Rattle.if1_graph.specs.declared.op.Simple.TheVariants as simple
use Rattle.if1_graph.specs.Ops.{compound_at, simple_at}
use Rattle.if1_graph.specs.Parts.{part_at}
use Rattle.if1_graph.specs.Ports.{AreArguments, AreFirst, IsAssociation, IsCompoundFilled, IsFilledAs, arguments_of, carried, part_results, results_at, tags_of}
use Rattle.if1_graph.specs.Ready.{IsReady}
use Rattle.if1_graph.specs.Types.{Member, Sort, sort_at}
use Rattle.if1_graph.specs.Types as types
use Rattle.if1_graph.specs.Typing.{FitsResult}
use Rattle.if1_graph.specs.Units.{Function, Inside, Place, edge_into, label_of, number_of, places, ports_into, results, sizes, width}
use Rattle.graph_meaning.specs.Given.{is_call_as}
use Rattle.graph_meaning.proofs.StorageUnits.{plain-kind}
use Rattle.graph_meaning.specs.Carried.{Carried}
use Rattle.graph_meaning.specs.Demand.{EachNode, Kind, Plain, Source, Vertex, Whole, at_label}
use Rattle.graph_meaning.specs.Entered.{IsIn}
use Rattle.graph_meaning.specs.Forms as form
use Rattle.graph_meaning.specs.Networks.{callee_number, form_of, ins_of, kind_as, kind_of, network, part as part_number, number_or_zero, simple_kind, sources, vertex_of}
use Rattle.graph_meaning.specs.Storage.{is_left}
use Rattle.graph_meaning.specs.StorageUnits.{carries_aggregate, storage_of, test_in}
use Rattle.made_store.specs.OrderedMeaningOrders.{AreInOrder}
use Rattle.made_store.specs.Collections.{AreWithin, Collect}
use Rattle.made_store.specs.Made.{Plan}
use Rattle.made_store.specs.Refolds.{AllPlain, AreRefolded, Refolds}
use Rattle.made_store.specs.Plans.{All, ArePicked, IsChoice, IsInner, IsKindRight, IsLoopRight, IsPlanned, IsRefolded, Weighing}
use Rattle.unit_laws.proofs.TypeLists.{out_bool, out_int}
use Rattle.unit_laws.proofs.TypedCalls.{called, callee-there}
use Rattle.unit_laws.proofs.TypedChoices.{got-below}
use Rattle.unit_laws.proofs.TypedEdges.{bound, node-formed}
use Rattle.unit_laws.proofs.TypedNodes.{first-width, node-filled}
use Rattle.unit_laws.proofs.TypedParts.{compound-filled, part-count, part-is, part-result, part-typed}
use Rattle.unit_plan.proofs.Aggregates.{has_parts_in, no-aggregate}
use Rattle.unit_plan.proofs.Found.{at-own, each-in-order, net-is, own-kind, part-found, part-in, part-plain, part-rises, place-found}
use Rattle.unit_plan.proofs.Multiples.{call-is, ins-there, many_by, results-plain, whole-plain}
use Rattle.unit_plan.proofs.Outputs.{results-long, sources-long}
use Rattle.unit_plan.proofs.Weighed.{IsWeighed}
use Rattle.unit_plan.proofs.Ways.{IsKept, IsReturned, all-nodes, all-within, stand-all}
use Rattle.unit_plan.specs.Returns.{nodes_collects, refolded_nodes}
use Rattle.unit_plan.specs.Plans.{Tables, collects_in, functions_of, inputs_in, nodes_by, outputs_in, place_of, plain_as, plain_by, plain_of, plan_of}
use Rattle.unit_plan.specs.Shares.{kind_or, kind_there}

-- ---- lists of graphs

all-mapped : (Q : ℕ → Type 0) (f : Graph → ℕ) (xs : List Graph) → ((i : ℕ) (s : Graph) → slice_get xs i ≡ Some s → Q (f s)) → All Q (map f xs)
all-mapped Q f [] h = tt
all-mapped Q f (x ∷ xs) h = (h 0 x refl, all-mapped Q f xs (λ i s e. h (suc i) s e))

all-arms : (Q : ℕ → Type 0) (f : ℕ → ℕ) (n : ℕ) (xs : List ℕ) → std.All (λ a. a < n) xs → ((a : ℕ) → a < n → Q (f a)) → All Q (map f xs)
all-arms Q f n [] h g = tt
all-arms Q f n (x ∷ xs) h g = (g x (All-head (λ a. a < n) x xs h), all-arms Q f n xs (All-tail (λ a. a < n) x xs h) g)

dropped : (xs : List Graph) (i : ℕ) (s : Graph) → slice_get (drop 1 xs) i ≡ Some s → slice_get xs (suc i) ≡ Some s
dropped [] i s e = absurd (let x : None ≡ Some s = e in cc)
dropped (x ∷ xs) i s e = e

in-functions : (gs : List Graph) (k : ℕ) (f : Graph) → slice_get gs k ≡ Some f → IsIn (out-Graph f).number (map (λ g. (out-Graph g).number) gs)
in-functions [] k f e = absurd (let x : None ≡ Some f = e in cc)
in-functions (g ∷ gs) zero f e = inl (let x : g ≡ f = cc in ap (λ z. (out-Graph z).number) (sym x))
in-functions (g ∷ gs) (suc k) f e = inr (in-functions gs k f e)

-- the arms of a TagCase are among its graphs
arms-below : (tags : Option (List Member)) (n : ℕ) (list : List ℕ) → IsAssociation compound.TagCase tags n list → std.All (λ arm. arm < n) list
arms-below (Some tags) n list h = h.0
arms-below None n list h = h

-- results of selectors and tests
integer : (t : Sort) → t ≡ types.Plain ty.Int → (a : Ty) × (t ≡ types.Plain a) × (has_parts_in (out-Ty a) ≡ false)
integer t e = (ty.Int, e, rw out_int refl)

boolean : (t : Sort) → t ≡ types.Plain ty.Bool → (a : Ty) × (t ≡ types.Plain a) × (has_parts_in (out-Ty a) ≡ false)
boolean t e = (ty.Bool, e, rw out_bool refl)

behind-long : (xs : List Source) (k : ℕ) → length xs ≡ 1 + k → length (drop 1 xs) ≡ k
behind-long [] k e = absurd (omega (arith, e))
behind-long (x ∷ xs) k e = omega (arith, e)

module _ (u : Unit1) (order : ℕ → List Vertex) (t : Tables) (W : Weighing) (by_row : (graph label : ℕ) → Simple → List Carried → List Carried → ℕ) (weighed : IsWeighed u order t W by_row) (ready : IsReady u) (along : AreInOrder (network u) order) where
  abbrev P : Plan
  P = plan_of u order t

  abbrev count : ℕ
  count = suc (sizes u.graphs)

  -- a graph of a greater number is inside
  abbrev pub LaysIn : ℕ → ℕ → Type 0
  LaysIn g h = (g < h) × (h < count)

  abbrev pub RightIn : ℕ → Vertex → Kind → Type 0
  RightIn g v k = IsKindRight P W (network u) order (functions_of u) (LaysIn g) g v k

  module _ (p : Place) (place : Contains (places u) p) where
    abbrev g : ℕ
    g = number_of p

    module _ (n : Node) (inside : Contains (out-Graph p.graph).nodes n) where
      abbrev v : Vertex
      v = vertex_of u p.graph n

      abbrev l : ℕ
      l = label_of n

      abbrev gs : List Graph
      gs = (out-Node n).subs

      -- what it does in the graph of its number
      there-kind : (kind : Kind) → v.kind ≡ kind → kind_there (network u g) v ≡ kind
      there-kind kind e = own-kind u ready p place n inside ∙ e

      module _ (c : Compound) (is : compound_at (out-Node n).op ≡ Some c) where
        kind-is : v.kind ≡ Whole (form_of c gs (out-Node n).assoc)
        kind-is = ap (λ o. kind_as u p.graph n o (simple_at (out-Node n).op)) is

        as-wide : outputs_in u (Whole (form_of c gs (out-Node n).assoc)) ≡ P.width v
        as-wide = ap (outputs_in u) (sym kind-is)

        ins-by : (d : Compound) → ins_of u p.graph l (Whole (form_of d gs (out-Node n).assoc)) ≡ sources u p.graph l 1 (width p.graph l)
        ins-by compound.Select = refl
        ins-by compound.TagCase = refl
        ins-by compound.LoopA = refl
        ins-by compound.LoopB = refl
        ins-by compound.ForAll = refl

        ins-long : length v.ins ≡ width p.graph l
        ins-long = ap (λ k. length (ins_of u p.graph l k)) kind-is ∙ (ap length (ins-by c) ∙ sources-long u p.graph l 1 (width p.graph l))

        picked : ArePicked P W (network u) order (functions_of u) g v
        picked = weighed.wholes g v c gs (out-Node n).assoc (there-kind (Whole (form_of c gs (out-Node n).assoc)) kind-is)

        -- ---- its parts

        module _ (k : ℕ) (s : Graph) (e : slice_get gs k ≡ Some s) where
          number-is : part_number gs k ≡ (out-Graph s).number
          number-is = ap number_or_zero e

          lays : LaysIn g (part_number gs k)
          lays = subst (LaysIn g) (sym number-is) (part-rises u ready p place n inside k s e)

          long : length (P.results (part_number gs k)) ≡ results s
          long = ap (λ h. length (network u h).results) number-is ∙ results-long u ready (record { graph = s; home = Inside p.graph n k }) (part-in u ready p place n inside k s e)

          module _ (x : Part) (f : part_at c k ≡ Some x) where
            plain-is : plain_of u (part_number gs k) ≡ plain_as p.graph n (Some (c, x))
            plain-is = ap (plain_of u) number-is ∙ part-plain u ready p place n inside k s e c x (part-is u ready p place n inside c is k x f)

            planned : plain_as p.graph n (Some (c, x)) ≡ None → IsPlanned P W (network u) order (functions_of u) (part_number gs k)
            planned none = (ap (λ o. nodes_by u (part_number gs k) o (order (part_number gs k))) (sym (plain-is ∙ none)), refl)

            inner : plain_as p.graph n (Some (c, x)) ≡ None → IsInner P W (network u) order (functions_of u) (LaysIn g) (part_number gs k)
            inner none = (planned none, lays)

            counted : results s ≡ part_results c x gs (results s)
            counted = part-count u ready p place n inside c is k s e x f

            -- the one result of a selector or test, which has no parts, is not copied
            choice : part_results c x gs (results s) ≡ 1 → ((t : Sort) → FitsResult u c x gs 1 t → (a : Ty) × (t ≡ types.Plain a) × (has_parts_in (out-Ty a) ≡ false)) → IsChoice P W (network u) order (functions_of u) (part_number gs k)
            choice one scalar =
                let r = counted ∙ one in
                let y = part-typed u ready p place n inside c is k s e x f 0 (omega (arith, r)) in
                let z = scalar y.0 (part-result u ready p place n inside c is k s e x f 0 y.0 y.1) in
                let d = bound (edge_into s 0 1) (λ e. sort_at u.types e.ty) y.0 y.1 in
                let none = no-aggregate u.types (d.0).ty z.0 (d.2 ∙ ap Some z.1) z.2 in
                let carries : (storage_of u).is_aggregate (part_number gs k) 0 1 ≡ false =
                ap (λ h. (storage_of u).is_aggregate h 0 1) number-is ∙ (ap (λ o. test_in o (λ h. carries_aggregate u (edge_into h 0 1))) (part-found u ready p place n inside k s e) ∙ (ap (carries_aggregate u) d.1 ∙ none)) in
                (long ∙ r, weighed.choices (part_number gs k) (long ∙ r) carries)

          -- ---- a returns

          module _ (f : part_at c k ≡ Some part.Returns) where
            abbrev q : Place
            q = record { graph = s; home = Inside p.graph n k }

            abbrev there : Contains (places u) q
            there = part-in u ready p place n inside k s e

            abbrev r : ℕ
            r = (out-Graph s).number

            abbrev plain : ℕ
            plain = plain_by c (width p.graph l) gs

            abbrev many : ℕ
            many = many_by c gs

            abbrev cs : List Collect
            cs = nodes_collects plain (is_left (storage_of u) r) (order r)

            module _ (m : Node) (in_s : Contains (out-Graph s).nodes m) where
              abbrev x : Vertex
              x = vertex_of u s m

              labelled : (i : ℕ) → i ≡ label_of m → 1 ≤ i → (j : ℕ) × (label_of m ≡ suc j)
              labelled zero e le = absurd (omega (arith, le))
              labelled (suc j) e le = (j, sym e)

              kept : (kind : Kind) → x.kind ≡ kind → IsKept W.weights (is_left (storage_of u) r) (by_row r) (weighed.ways r) plain many r cs x kind
              kept (Plain row shape) y =
                  λ w same ks rs.
                  weighed.simple_nodes r w row shape (ap (kind_or w.kind) (ap (at_label (network u r).nodes) same ∙ at-own u ready q there m in_s) ∙ y) ks rs
                  ∙ ap (λ i. by_row r i row ks rs) same
              kept (Whole whole) y = whole-plain u ready p place n inside c is k s e f m in_s whole y

              returned : IsReturned W.weights (is_left (storage_of u) r) (by_row r) (weighed.ways r) plain many r cs x
              returned =
                  record {
                    label = labelled (label_of m) refl (node-formed u ready q there m in_s).label.0;
                    inputs = ins-there u ready p place n inside c is k s e f (label_of m) (kind_of u s m);
                    kept = kept x.kind refl;
                  }

            all-returned : EachNode (IsReturned W.weights (is_left (storage_of u) r) (by_row r) (weighed.ways r) plain many r cs) (order r)
            all-returned = each-in-order u ready q there (IsReturned W.weights (is_left (storage_of u) r) (by_row r) (weighed.ways r) plain many r cs) returned (order r) (along r)

            abbrev Done : Option ℕ → Type 0
            Done o = AreWithin many (collects_in u r o (order r))
                × Refolds W.weights plain many (collects_in u r o (order r)) r r (order r) (network u r).results (nodes_by u r o (order r)) (network u r).results (λ row. 0)

            done : Done (Some plain)
            done =
                let y = all-nodes W.weights (is_left (storage_of u) r) (by_row r) (weighed.ways r) plain many r cs 0 (order r) all-returned (stand-all cs) in (
                  all-within W.weights (is_left (storage_of u) r) (by_row r) (weighed.ways r) plain many r cs (order r) all-returned,
                  record {
                    nodes = subst (AreRefolded W.weights plain many cs r r (order r) (refolded_nodes plain (is_left (storage_of u) r) 0 (order r))) (fun_ext y.2) y.1;
                    results = refl;
                    plainly = subst (λ n. AllPlain plain n.results) (sym (net-is u ready q there)) (results-plain u ready p place n inside c is k s e f);
                    weighs = λ rs. refl;
                  },
                )

            refolds : IsRefolded P W (network u) order (functions_of u) plain many (part_number gs k) (λ row. 0)
            refolds =
                subst (λ h. IsRefolded P W (network u) order (functions_of u) plain many h (λ row. 0)) (sym number-is)
                (subst Done (sym (part-plain u ready p place n inside k s e c part.Returns (part-is u ready p place n inside c is k part.Returns f))) done)

        -- ---- by its form

        filled : IsCompoundFilled u p.graph n c
        filled = compound-filled u ready p place n inside c is

        results-of : (k : ℕ) (s : Graph) → slice_get gs k ≡ Some s → results_at gs k ≡ results s
        results-of k s e = ap (λ o. unwrap_or (option_map results o) 0) e

      select-right : compound_at (out-Node n).op ≡ Some compound.Select → RightIn g v (Whole (form_of compound.Select gs (out-Node n).assoc))
      select-right is =
          let parts = (filled compound.Select is).parts in
          let s = got-below gs 0 (omega (arith, parts)) in (
            as-wide compound.Select is,
            picked compound.Select is,
            inner compound.Select is 0 s.0 s.1 part.Selector refl refl,
            choice compound.Select is 0 s.0 s.1 part.Selector refl refl integer,
            all-mapped (IsInner P W (network u) order (functions_of u) (LaysIn g)) (λ g. (out-Graph g).number) (drop 1 gs)
                (λ i a e. let at = dropped gs i a e in subst (IsInner P W (network u) order (functions_of u) (LaysIn g)) (number-is compound.Select is (suc i) a at) (inner compound.Select is (suc i) a at part.Alternative refl refl)),
          )

      tag-right : compound_at (out-Node n).op ≡ Some compound.TagCase → RightIn g v (Whole (form_of compound.TagCase gs (out-Node n).assoc))
      tag-right is =
          let h = filled compound.TagCase is in
          let wide = first-width (h.ports).0 (ports_into p.graph l) (h.ports).2 in
          let least = (h.ports).1 in
          let long = ins-long compound.TagCase is in (
            as-wide compound.TagCase is,
            picked compound.TagCase is,
            omega (arith, wide, least, long),
            all-arms (IsInner P W (network u) order (functions_of u) (LaysIn g)) (part_number gs) (length gs) (out-Node n).assoc (arms-below (tags_of (carried u p.graph l 1)) (length gs) (out-Node n).assoc h.list)
                (λ a lt. let s = got-below gs a lt in inner compound.TagCase is a s.0 s.1 part.Arm refl refl),
          )

      -- both loops are alike
      module _ (c : Compound) (is : compound_at (out-Node n).op ≡ Some c) (four : length gs ≡ 4) (first : part_at c 0 ≡ Some part.Initialization) (second : part_at c 1 ≡ Some part.Test) (third : part_at c 2 ≡ Some part.Body) (last : part_at c 3 ≡ Some part.Returns)
          (body : (own : ℕ) → part_results c part.Body gs own ≡ results_at gs 0) (plainly : plain_by c (width p.graph l) gs ≡ width p.graph l) (many : many_by c gs ≡ results_at gs 0) where
        loop-right : (w : ℕ) → w ≡ P.width v → IsLoopRight P W (network u) order (functions_of u) (LaysIn g) g v (part_number gs 0) (part_number gs 1) (part_number gs 2) (part_number gs 3) w
        loop-right w wide =
            let i = got-below gs 0 (omega (arith, four)) in
            let t = got-below gs 1 (omega (arith, four)) in
            let b = got-below gs 2 (omega (arith, four)) in
            let r = got-below gs 3 (omega (arith, four)) in
            let long_i = long c is 0 i.0 i.1 in
            let as_many = many ∙ (results-of c is 0 i.0 i.1 ∙ sym long_i) in (
              wide,
              picked c is,
              inner c is 0 i.0 i.1 part.Initialization first refl,
              inner c is 1 t.0 t.1 part.Test second refl,
              choice c is 1 t.0 t.1 part.Test second refl boolean,
              inner c is 2 b.0 b.1 part.Body third refl,
              long c is 2 b.0 b.1 ∙ (counted c is 2 b.0 b.1 part.Body third ∙ (body (results b.0) ∙ (results-of c is 0 i.0 i.1 ∙ sym long_i))),
              lays c is 3 r.0 r.1,
              (
                (λ row. 0),
                subst (λ a. IsRefolded P W (network u) order (functions_of u) a (length (P.results (part_number gs 0))) (part_number gs 3) (λ row. 0)) (plainly ∙ sym (ins-long c is))
                    (subst (λ m. IsRefolded P W (network u) order (functions_of u) (plain_by c (width p.graph l) gs) m (part_number gs 3) (λ row. 0)) as_many (refolds c is 3 r.0 r.1 last)),
                λ row. refl,
              ),
            )

      for-all-right : compound_at (out-Node n).op ≡ Some compound.ForAll → RightIn g v (Whole (form_of compound.ForAll gs (out-Node n).assoc))
      for-all-right is =
          let three = (filled compound.ForAll is).parts in
          let e = got-below gs 0 (omega (arith, three)) in
          let b = got-below gs 1 (omega (arith, three)) in
          let r = got-below gs 2 (omega (arith, three)) in
          let given = results-of compound.ForAll is 0 e.0 e.1 ∙ sym (long compound.ForAll is 0 e.0 e.1) in
          let plainly : width p.graph l + results_at gs 0 ≡ length v.ins + length (P.results (part_number gs 0)) = let x = ins-long compound.ForAll is in omega (arith, x, given) in (
            as-wide compound.ForAll is,
            picked compound.ForAll is,
            inner compound.ForAll is 0 e.0 e.1 part.Generator refl refl,
            inner compound.ForAll is 1 b.0 b.1 part.Body refl refl,
            long compound.ForAll is 1 b.0 b.1 ∙ sym (results-of compound.ForAll is 1 b.0 b.1),
            lays compound.ForAll is 2 r.0 r.1,
            subst (IsRefolded P W (network u) order (functions_of u) (length v.ins + length (P.results (part_number gs 0))) (results_at gs 1) (part_number gs 2)) (sym (weighed.rows (part_number gs 2)))
                (subst (λ a. IsRefolded P W (network u) order (functions_of u) a (results_at gs 1) (part_number gs 2) (λ row. 0)) plainly (refolds compound.ForAll is 2 r.0 r.1 refl)),
          )

      -- ---- calls

      module _ (none : compound_at (out-Node n).op ≡ None) (is : simple_at (out-Node n).op ≡ Some simple.Call) where
        abbrev f : ℕ
        f = callee_number u p.graph l

        call-kind : v.kind ≡ Whole (form.Call f)
        call-kind = ap (λ o. kind_as u p.graph n o (simple_at (out-Node n).op)) none ∙ ap (kind_as u p.graph n None) is

        call-right : RightIn g v (Whole (form.Call f))
        call-right =
            let c = called u ready p place n inside is none in
            let there = callee-there u ready p place n inside is none in
            let at = place-found u ready.formed (record { graph = c.function; home = Function c.index }) there in
            let own : P.params f ≡ length c.args = ap (λ h. inputs_in u (place_of u h)) c.number ∙ (ap (inputs_in u) at ∙ ap (λ o. unwrap_or (option_map length (arguments_of o)) 0) c.own) in
            let simple = subst (λ x. IsFilledAs u p.graph n None x) is (subst (λ c. IsFilledAs u p.graph n c (simple_at (out-Node n).op)) none (node-filled u ready p place n inside)) in
            let ports : AreFirst (1 + length c.args) (ports_into p.graph l) = subst (λ o. AreArguments 1 (arguments_of o) (ports_into p.graph l)) c.known simple.ports in
            let wide = first-width (1 + length c.args) (ports_into p.graph l) ports in
            let long = ap (λ k. length (ins_of u p.graph l k)) call-kind ∙ behind-long (sources u p.graph l 1 (width p.graph l)) (length c.args) (sources-long u p.graph l 1 (width p.graph l) ∙ wide) in (
              subst (λ h. IsIn h (functions_of u)) (sym c.number) (in-functions u.graphs c.index c.function c.at),
              long ∙ sym own,
              weighed.calls g v f (there-kind (Whole (form.Call f)) call-kind),
            )

      -- ---- all of them

      loops : (c : Compound) → compound_at (out-Node n).op ≡ Some c → RightIn g v (Whole (form_of c gs (out-Node n).assoc))
      loops compound.Select is = select-right is
      loops compound.TagCase is = tag-right is
      loops compound.ForAll is = for-all-right is
      loops compound.LoopA is =
          loop-right compound.LoopA is (filled compound.LoopA is).parts refl refl refl refl (λ own. refl) refl refl (outputs_in u (Whole (form_of compound.LoopA gs (out-Node n).assoc))) (as-wide compound.LoopA is)
      loops compound.LoopB is =
          loop-right compound.LoopB is (filled compound.LoopB is).parts refl refl refl refl (λ own. refl) refl refl (outputs_in u (Whole (form_of compound.LoopB gs (out-Node n).assoc))) (as-wide compound.LoopB is)

      pub kind-right : RightIn g v v.kind
      kind-right = go (compound_at (out-Node n).op) (simple_at (out-Node n).op) refl refl
        where
          go : (c : Option Compound) (o : Option Simple) → compound_at (out-Node n).op ≡ c → simple_at (out-Node n).op ≡ o → RightIn g v (kind_as u p.graph n c o)
          go (Some c) o e f = loops c e
          go None None e f = tt
          go None (Some o) e f = by-call (is_call_as None (Some o)) refl
            where
              by-call : (b : Bool) → is_call_as None (Some o) ≡ b → RightIn g v (simple_kind u p.graph l o)
              by-call true y = let z = call-is o y in subst (λ z. RightIn g v (simple_kind u p.graph l z)) (sym z) (call-right e (f ∙ ap Some z))
              by-call false y = subst (RightIn g v) (sym (plain-kind u p.graph l o y)) tt
