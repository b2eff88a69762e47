-- The tests of the ports of simple nodes decide the rules.
use Rattle.std.proofs.Common.{◌≡◌, ℕ, suc, ◌+◌, Bool, true, false, cond, not, ◌&&◌, ◌||◌, ◌==◌, nat_le, List, [], ◌∷◌, map, find, length, All, Contains, Option, Some, None, is_some, option_map, Decides, inl, inr, AllPairs, refl, sym, ap, subst, ◌∙◌, arith, eqb-true, eq-eqb}
use Rattle.std.specs.List.{list_all}
use Rattle.std.proofs.lemmas.Bool.{and_parts, and_from, both_ways}
use Rattle.std.proofs.lemmas.Bool.Decides.{Decides-at, Decides-and, Decides-or, Decides-by_and}
use Rattle.flow_value.specs.declared.ty.Ty.{Ty}
use Rattle.flow_value.specs.declared.ty.Ty.TheOpen.{Ty-F}
use Rattle.flow_value.specs.declared.ty.Ty.TheViews.{out-Ty}
use Rattle.if1_graph.specs.declared.graph.Graph.{Graph}
use Rattle.if1_graph.specs.declared.graph.Graph.TheViews.{out-Graph}
use Rattle.if1_graph.specs.declared.graph.Node.{Node, out-Node}
use Rattle.if1_graph.specs.declared.graph.Edge.{Edge}
use Rattle.if1_graph.specs.declared.graph.Unit1.{Unit1}
use Rattle.if1_graph.specs.declared.op.Simple.{Simple}
use Rattle.if1_graph.specs.declared.op.Simple.TheVariants.{ABuild, AGather}
use Rattle.if1_graph.specs.declared.row.Rest.{Rest}
use Rattle.if1_graph.specs.declared.row.Rest.TheVariants.{Nothing, Mask, More, Arguments, Fields, NewFields}
use Rattle.if1_graph.specs.declared.row.Want.{Want}
use Rattle.if1_graph.specs.declared.row.Want.TheVariants as want
use Rattle.if1_graph.specs.declared.row.Use.{Use}
use Rattle.if1_graph.specs.Tables.{◌>>=◌}
use Rattle.if1_graph.specs.Ops.{simple_at}
use Rattle.if1_graph.specs.Rows.{row_of, operand_of}
use Rattle.if1_graph.specs.Types.{Sort, Plain, Many, Member, sort_at}
use Rattle.if1_graph.specs.Types as types
use Rattle.if1_graph.specs.Units.{label_of, greatest, node_at, edges_into, ports_into}
use Rattle.if1_graph.specs.Normal.{Precedes}
use Rattle.if1_graph.specs.Formed.{want_at}
use Rattle.if1_graph.specs.Ports.{AreFirst, IsOnePort, AreArguments, AreParts, AreBuilt, IsUpTo, AreChanges, AreFilled, IsNamed, IsOne, is_stream, HasBound, IsBounded, IsSimpleFilled, arguments_of, fields_of, tags_of, record_fields, union_tags, carried, callee, literal_at, edges_from}
use Rattle.if1_order.proofs.Members.{contains_here, contains_there, contains_cases, contains_none}
use Rattle.if1_ports.specs.declared.fed.Fed.{Fed}
use Rattle.if1_ports.specs.Outlines.{outline_of, ty_outline, arguments_in, fields_in, is_stream_outline, is_integer_outline}
use Rattle.if1_ports.specs.Fed.{ports_of, first_of, text_by, spells_one_if}
use Rattle.if1_ports.specs.Simple.{exactly, at_least, fits_arguments, fits_parts, is_built, fits_fields, is_changed, is_filled, is_named, has_bound, is_bounded, is_simple_filled}
use Rattle.if1_ports.specs.Ends.{fed_at, leaving}
use Rattle.if1_ports.proofs.Counts.{Up, decides_first, decides_at_least, decides_once, decides_below}
use Rattle.if1_ports.proofs.Edges.{ports_up}
use Rattle.if1_ports.proofs.One.{decides_one}
use Rattle.if1_ports.proofs.Known.{types_by, callees_by, arguments_known, fields_known, stream_known, integer_sound, integer_complete, carries_is, callee_is, text_is}

-- ---- lists

-- a test of the types of edges, over all of them
pub over_edges : (p : ℕ → Bool) (P : Edge → Type 0) → ((e : Edge) → Decides (p e.ty) (P e)) → (es : List Edge) →
    Decides (list_all p (map (λ e. e.ty) es)) (All P es)
over_edges p P each es = Decides-by_and (λ (e : Edge). p e.ty) P (λ es. list_all p (map (λ e. e.ty) es)) each refl (λ _ _. refl) es

decides_one_port : (ports : List ℕ) → Decides (length ports == 1) (IsOnePort ports)
decides_one_port [] = (λ h. absurd cc, λ o. absurd cc)
decides_one_port (p ∷ []) = (λ h. (p, refl), λ o. refl)
decides_one_port (p ∷ q ∷ ps) = (λ h. absurd (omega (arith, eqb-true (length (p ∷ q ∷ ps)) 1 h)), λ o. absurd (longer p q ps o.0 o.1))
  where
    longer : (p q : ℕ) (ps : List ℕ) (r : ℕ) → p ∷ q ∷ ps ≡ r ∷ [] → ⊥
    longer p q ps r e = cc

-- port 1 is filled
decides_has : (es : List Edge) (port : ℕ) → Decides (is_some (find (λ e. e.port == port) es)) (Contains (ports_of es) port)
decides_has [] port = (λ h. absurd cc, λ c. contains_none port c)
decides_has (e ∷ es) port = seen (e.port == port) refl (decides_has es port)
  where
    seen : (b : Bool) → (e.port == port) ≡ b → Decides (is_some (find (λ e. e.port == port) es)) (Contains (ports_of es) port) →
        Decides (is_some (cond b (Some e) (find (λ e. e.port == port) es))) (Contains (e.port ∷ ports_of es) port)
    seen true is d = (λ h. subst (λ q. Contains (e.port ∷ ports_of es) q) (eqb-true e.port port is) (contains_here e.port (ports_of es)), λ c. refl)
    seen false is d = (
      λ h. contains_there e.port (ports_of es) port (d.0 h),
      λ c.
          elim (contains_cases e.port (ports_of es) port c) [
            | inl same ↦ absurd (both_ways (e.port == port) is (eq-eqb e.port port same))
            | inr there ↦ d.1 there
          ],
    )

-- ---- rules

module _ (u : Unit1) (g : Graph) (l : ℕ) (order : AllPairs Precedes (out-Graph g).edges) where
  abbrev fed : Fed
  fed = fed_at (types_by u) (callees_by u) g l

  abbrev ports : List ℕ
  ports = ports_into g l

  abbrev up : Up 0 ports
  up = ports_up g l order

  arguments : (k : ℕ) (a : Option (List Ty)) → Decides (fits_arguments fed k (option_map length a)) (AreArguments k a ports)
  arguments k None = decides_at_least ports k up
  arguments k (Some args) = decides_first ports (k + length args) up

  parts_of : (x : Ty-F Ty) → Decides (fits_parts fed (ty_outline x)) (AreParts (record_fields x) (union_tags x) ports)
  parts_of (Ty-F.Rec fs) = decides_first ports (length fs) up
  parts_of (Ty-F.Uni ts) =
      Decides-and (length ports == 1) (nat_le (greatest ports) (length ts)) (decides_one_port ports) (decides_below ports (length ts))
  parts_of _ = (λ h. tt, λ h. refl)

  parts : (s : Option Sort) → Decides (fits_parts fed (outline_of s)) (AreParts (fields_of s) (tags_of s) ports)
  parts None = (λ h. tt, λ h. refl)
  parts (Some (Plain t)) = parts_of (out-Ty t)
  parts (Some (Many t)) = (λ h. tt, λ h. refl)
  parts (Some (types.Function args rs)) = (λ h. tt, λ h. refl)

  built : Decides (is_built (types_by u) fed (leaving (out-Graph g).edges l)) (AreBuilt u g l ports)
  built =
      Decides-and (at_least fed 1 || (fed.count == 1)) (list_all (λ t. fits_parts fed (types_by u t)) (leaving (out-Graph g).edges l))
      (Decides-or (at_least fed 1) (fed.count == 1) (decides_at_least ports 1 up) (decides_one_port ports))
      (over_edges (λ t. fits_parts fed (types_by u t))
      (λ e. AreParts (fields_of (sort_at u.types e.ty)) (tags_of (sort_at u.types e.ty)) ports)
      (λ e. parts (sort_at u.types e.ty)) (edges_from g l 1))

  fields : (m : Option (List Member)) → Decides (fits_fields fed (option_map length m)) (All (λ port. IsUpTo (option_map (λ fs. suc (length fs)) m) port) ports)
  fields None = (λ h. λ k d b. tt, λ h. refl)
  fields (Some fs) = decides_below ports (suc (length fs))

  changed : Decides (is_changed fed) (AreChanges (fields_of (carried u g l 1)) ports)
  changed =
      let some = decides_has (edges_into g l) 1 in
      let once = decides_once ports up in
      let few =
      Decides-at (fits_fields fed (fields_in fed.carries)) (fits_fields fed (option_map length (fields_of (carried u g l 1))))
      (ap (λ o. fits_fields fed (fields_in o)) (carries_is u g l) ∙ ap (fits_fields fed) (sym (fields_known (carried u g l 1))))
      (fields (fields_of (carried u g l 1))) in (
        λ h.
            let a = and_parts (fed.has_first && fed.rising) (fits_fields fed (fields_in fed.carries)) h in
            let b = and_parts fed.has_first fed.rising a.0 in
            (some.0 b.0, once.0 b.1, few.0 a.1),
        λ h.
            and_from (fed.has_first && fed.rising) (fits_fields fed (fields_in fed.carries))
            (and_from fed.has_first fed.rising (some.1 h.0) (once.1 h.1)) (few.1 h.2),
      )

  filled : (k : ℕ) (rest : Rest) → Decides (is_filled (types_by u) fed (leaving (out-Graph g).edges l) k rest) (AreFilled u g l k rest ports)
  filled k Nothing = decides_first ports k up
  filled k Mask =
      let more : k + 1 ≡ suc k = omega arith in
      Decides-or (exactly fed k) (exactly fed (k + 1)) (decides_first ports k up)
      (subst (λ n. Decides (exactly fed n) (AreFirst (suc k) ports)) (sym more) (decides_first ports (suc k) up))
  filled k (More how w) = decides_at_least ports k up
  filled k Arguments =
      Decides-at (fits_arguments fed k (arguments_in fed.callee)) (fits_arguments fed k (option_map length (arguments_of (callee u g l))))
      (ap (λ o. fits_arguments fed k (arguments_in o)) (callee_is u g l) ∙ ap (fits_arguments fed k) (sym (arguments_known (callee u g l))))
      (arguments k (arguments_of (callee u g l)))
  filled k Fields = built
  filled k NewFields = changed

  literal_is : fed.is_literal ≡ is_some (literal_at g l 1)
  literal_is = ap is_some (text_is u g l)

  named : (operand : Option (Use × Want)) → Decides (is_named fed operand) (IsNamed (operand >>= λ operand. Some operand.1) (literal_at g l 1))
  named (Some (how, want.Function)) = (λ h. sym literal_is ∙ h, λ h. literal_is ∙ h)
  named (Some (how, want.Reduction)) = (λ h. sym literal_is ∙ h, λ h. literal_is ∙ h)
  named _ = (λ h. tt, λ h. refl)

  one : Decides fed.is_one (IsOne (carried u g l 1) (literal_at g l 1))
  one =
      Decides-at fed.is_one (is_integer_outline (outline_of (carried u g l 1)) && spells_one_if (literal_at g l 1))
      (ap (λ o. is_integer_outline o && spells_one_if (text_by (first_of (edges_into g l)))) (carries_is u g l)
      ∙ ap (λ t. is_integer_outline (outline_of (carried u g l 1)) && spells_one_if t) (text_is u g l))
      (Decides-and (is_integer_outline (outline_of (carried u g l 1))) (spells_one_if (literal_at g l 1))
      (integer_sound (carried u g l 1), integer_complete (carried u g l 1)) (decides_one (literal_at g l 1)))

  bound_at : (e : Edge) → Decides (not (is_stream_outline (types_by u e.ty)) || fed.is_one)
      (is_stream (sort_at u.types e.ty) ≡ true → IsOne (carried u g l 1) (literal_at g l 1))
  bound_at e =
      subst (λ b. Decides (not b || fed.is_one) (is_stream (sort_at u.types e.ty) ≡ true → IsOne (carried u g l 1) (literal_at g l 1)))
      (stream_known (sort_at u.types e.ty)) (either (is_stream (sort_at u.types e.ty)) one)
    where
      either : (b : Bool) → Decides fed.is_one (IsOne (carried u g l 1) (literal_at g l 1)) →
          Decides (not b || fed.is_one) (b ≡ true → IsOne (carried u g l 1) (literal_at g l 1))
      either true d = (λ h _. d.0 h, λ f. d.1 (f refl))
      either false d = (λ h e. absurd cc, λ f. refl)

  bound : Decides (has_bound (types_by u) fed (leaving (out-Graph g).edges l)) (HasBound u g l)
  bound =
      over_edges (λ t. not (is_stream_outline (types_by u t)) || fed.is_one)
      (λ e. is_stream (sort_at u.types e.ty) ≡ true → IsOne (carried u g l 1) (literal_at g l 1)) bound_at (edges_from g l 1)

  bounded : (op : Simple) → Decides (is_bounded (types_by u) fed (leaving (out-Graph g).edges l) op) (IsBounded u g l op)
  bounded ABuild = bound
  bounded AGather = bound
  bounded _ = (λ h. tt, λ h. refl)

-- ---- a node

none_of : {A : Type 0} (xs : List A) → Decides (length xs == 0) (xs ≡ [])
none_of [] = (λ h. refl, λ h. refl)
none_of (x ∷ xs) = (λ h. absurd (omega (arith, eqb-true (length (x ∷ xs)) 0 h)), λ e. absurd cc)

wants : (g : Graph) (n : Node) (op : Simple) (port : ℕ) → node_at (out-Graph g).nodes (label_of n) ≡ Some n → simple_at (out-Node n).op ≡ Some op →
    want_at g (label_of n) port ≡ (operand_of op port >>= λ operand. Some operand.1)
wants g n op port there is =
    ap (λ (m : Option Node). m >>= λ n. simple_at (out-Node n).op >>= λ op. operand_of op port >>= λ operand. Some operand.1) there
    ∙ ap (λ (m : Option Simple). m >>= λ op. operand_of op port >>= λ operand. Some operand.1) is

pub simple_filled : (u : Unit1) (g : Graph) (n : Node) (op : Simple) → AllPairs Precedes (out-Graph g).edges →
    node_at (out-Graph g).nodes (label_of n) ≡ Some n → simple_at (out-Node n).op ≡ Some op →
    Decides (is_simple_filled (types_by u) (fed_at (types_by u) (callees_by u) g (label_of n)) (leaving (out-Graph g).edges (label_of n)) op
    (length (out-Node n).subs) (length (out-Node n).assoc)) (IsSimpleFilled u g n op)
simple_filled u g n op order there is =
    let l = label_of n in
    let f = fed_at (types_by u) (callees_by u) g l in
    let lv = leaving (out-Graph g).edges l in
    let a = is_filled (types_by u) f lv (length (row_of op).operands) (row_of op).rest in
    let b = is_named f (operand_of op 1) in
    let c = is_bounded (types_by u) f lv op in
    let d = length (out-Node n).subs == 0 in
    let e = length (out-Node n).assoc == 0 in
    let da = filled u g l order (length (row_of op).operands) (row_of op).rest in
    let db = named u g l order (operand_of op 1) in
    let dc = bounded u g l order op in
    let w = wants g n op 1 there is in (
      λ h.
          let four = and_parts (a && b && c && d) e h in
          let three = and_parts (a && b && c) d four.0 in
          let two = and_parts (a && b) c three.0 in
          let one = and_parts a b two.0 in
          record {
            ports = da.0 one.0;
            name = subst (λ w. IsNamed w (literal_at g l 1)) (sym w) (db.0 one.1);
            bound = dc.0 two.1;
            no_graphs = (none_of (out-Node n).subs).0 three.1;
            no_list = (none_of (out-Node n).assoc).0 four.1;
          },
      λ s.
          and_from (a && b && c && d) e
          (and_from (a && b && c) d
          (and_from (a && b) c (and_from a b (da.1 s.ports) (db.1 (subst (λ w. IsNamed w (literal_at g l 1)) w s.name))) (dc.1 s.bound))
          ((none_of (out-Node n).subs).1 s.no_graphs)) ((none_of (out-Node n).assoc).1 s.no_list),
    )
