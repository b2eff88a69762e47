-- Lists of phrases, definitions, constants, operations and choices have their sizes.
use Rattle.std.proofs.Common.{◌≡◌, ℕ, zero, suc, ◌+◌, ◌<◌, ◌≤◌, Bool, true, false, List, [], ◌∷◌, ◌++◌, map, length, drop, slice_get, Some, refl, sym, ap, subst, ◌∙◌, arith}
use Rattle.std.specs.Prelude.{if◌then◌else◌, nat_lt}
use Rattle.std.proofs.lemmas.Bool.{ltb-true, ltb-false}
use Rattle.std.proofs.lemmas.List.{length-append, length-map, append_assoc, append-nil}
use Rattle.flow_value.specs.declared.operation.Scalar1.TheVariants as unary
use Rattle.flow_value.specs.declared.ty.Ty.{Ty}
use Rattle.if1_graph.specs.declared.op.Simple.{Simple}
use Rattle.if1_graph.specs.declared.op.Simple.TheVariants as simple
use Rattle.if1_graph.specs.declared.op.Compound.TheVariants as compound
use Rattle.if1_graph.specs.Units.{greatest}
use Rattle.sisal_tree.specs.declared.expr.Constant.{Constant}
use Rattle.sisal_tree.specs.declared.expr.Constant.TheVariants as constant
use Rattle.type_table.specs.declared.form.Form.{Form}
use Rattle.typed_tree.specs.declared.expr.Case.{Case}
use Rattle.typed_tree.specs.Types.{IsNumber, AreNumbers}
use Rattle.value_ops.specs.declared.operation.Operation.{Operation}
use Rattle.value_ops.specs.declared.operation.Operation.TheVariants as operation
use Rattle.lowering.specs.declared.feed.Feed.TheVariants.{Literal, Port}
use Rattle.lowering.specs.declared.feed.Carried.TheVariants.{One}
use Rattle.lowering.specs.declared.feed.Wire.{Wire}
use Rattle.lowering.specs.Feeds.{wire, into}
use Rattle.lowering.specs.declared.graph.Action.TheVariants.{Row, Call}
use Rattle.lowering.specs.Graphs.{Lowering, only as only_wires, andthen, a_node as a_lowered_node, size, new_graph, new_graphs}
use Rattle.lowering.specs.Operations.{Lowers, boolean, character, integer, one, all_lowered, defs_lowered, body_lowered, wire_at, row_lowered, constant_lowered, absents, reversed, changed}
use Rattle.lowering.specs.Choices.{tag_count, type_of, content_of, first_tag, selector_lowered, if_lowered, arms_of, arm_names, arms_from, case_lowered, two_arms, truth, is_tag_lowered, applied}
use Rattle.lowering.specs.Phrases.{call_lowered}
use Rattle.lowered_sizes.specs.declared.sizes.Sizes.{Sizes}
use Rattle.lowered_sizes.specs.Counting.{Sizing, only, valued, joined, beside, behind, a_node, whole}
use Rattle.lowered_sizes.specs.Forms.{all_sized, defs_sized, body_sized, constant_sized, applied_sized, selector_sized, if_sized, arms_sized, case_sized}
use Rattle.lowered_units.proofs.Wired.{AreTyped, typed-both, typed-into, typed-at, typed-ports, typed-literals}
use Rattle.lowered_sizes.proofs.Sized.{Any, plainly, Gives, resized, only-gives, then-gives, beside-gives, row-gives, no_part, a_part, whole-sized, tag-sized, AllGive, gives_none, gives_more, new-sized}

module _ (forms : List Form) (names : List (List ℕ)) where
  -- values of these types
  abbrev pub Of : List Ty → List Wire → Type 0
  Of tys ws = AreTyped forms names ws tys

  -- where names of these types are in force
  abbrev pub To : List Ty → (List Wire → Type 0) → Sizing → Lowers → Type 0
  To γ P z g = (env : List Wire) → Of γ env → (n : ℕ) → length env ≡ n → Gives P (z n) (g env)

  pub data AllTo : List Ty → List Sizing → List Lowers → List Ty → Type 0 where
    to_none : (γ : List Ty) → AllTo γ [] [] []
    to_more : (γ : List Ty) (z : Sizing) (zs : List Sizing) (g : Lowers) (gs : List Lowers) (tys others : List Ty) → To γ (Of tys) z g → AllTo γ zs gs others → AllTo γ (z ∷ zs) (g ∷ gs) (tys ++ others)

  pub data EachTo : List Ty → List Sizing → List Lowers → Type 0 where
    each_none : (γ : List Ty) → EachTo γ [] []
    each_more : (γ : List Ty) (z : Sizing) (zs : List Sizing) (g : Lowers) (gs : List Lowers) → To γ Any z g → EachTo γ zs gs → EachTo γ (z ∷ zs) (g ∷ gs)

  pub data DefsTo : List Ty → List (List Sizing) → List (List Lowers) → List Ty → Type 0 where
    to_no_def : (γ : List Ty) → DefsTo γ [] [] []
    to_def : (γ : List Ty) (z : List Sizing) (zs : List (List Sizing)) (d : List Lowers) (ds : List (List Lowers)) (tys others : List Ty)
        → AllTo γ z d tys → DefsTo (γ ++ tys) zs ds others → DefsTo γ (z ∷ zs) (d ∷ ds) (tys ++ others)

  -- ---- lists

  pub all-to : (γ : List Ty) (zs : List Sizing) (gs : List Lowers) (tys : List Ty) → AllTo γ zs gs tys → To γ (Of tys) (all_sized zs) (all_lowered gs)
  all-to _ _ _ _ (to_none γ) env a n e = only-gives (Of []) [] tt
  all-to _ _ _ _ (to_more γ z zs g gs tys others h r) env a n e =
      beside-gives (Of tys) (Of others) (Of (tys ++ others)) (z n) (all_sized zs n) (g env) (all_lowered gs env) (λ vs ws tv tw. typed-both forms names vs ws tys others tv tw) (h env a n e) (all-to γ zs gs others r env a n e)

  pub each-to : (γ : List Ty) (zs : List Sizing) (gs : List Lowers) → EachTo γ zs gs → To γ Any (all_sized zs) (all_lowered gs)
  each-to _ _ _ (each_none γ) env a n e = only-gives Any [] tt
  each-to _ _ _ (each_more γ z zs g gs h r) env a n e =
      beside-gives Any Any Any (z n) (all_sized zs n) (g env) (all_lowered gs env) (λ vs ws tv tw. tt) (h env a n e) (each-to γ zs gs r env a n e)

  pub of-any : (tys : List Ty) (s : Sizes) (f : Lowering) → Gives (Of tys) s f → Gives Any s f
  of-any tys s f h n q = plainly (Of tys) s (f n q) (h n q)

  pub any-each : (γ : List Ty) (zs : List Sizing) (gs : List Lowers) (tys : List Ty) → AllTo γ zs gs tys → EachTo γ zs gs
  any-each _ _ _ _ (to_none γ) = each_none γ
  any-each _ _ _ _ (to_more γ z zs g gs tys others h r) = each_more γ z zs g gs (λ env a n e. of-any tys (z n) (g env) (h env a n e)) (any-each γ zs gs others r)

  pub defs-to : (γ : List Ty) (zs : List (List Sizing)) (ds : List (List Lowers)) (δ : List Ty) → DefsTo γ zs ds δ → (env : List Wire) → Of γ env → (n : ℕ) → length env ≡ n
      → Gives (Of (γ ++ δ)) (valued (n + (defs_sized zs n).values) (defs_sized zs n)) (defs_lowered ds env)
  defs-to _ _ _ _ (to_no_def γ) env a n e =
      resized (Of (γ ++ [])) (only (length env)) (valued (n + 0) (only 0)) (only_wires env)
      (record { nodes = refl; graphs = refl; largest = refl; ports = refl; values = omega (arith, e) })
      (only-gives (Of (γ ++ [])) env (subst (λ t. Of t env) (sym (append-nil γ)) a))
  defs-to _ _ _ _ (to_def γ z zs d ds tys others h r) env a n e =
      let s = all_sized z n in
      let later = defs_sized zs (n + s.values) in
      resized (Of (γ ++ (tys ++ others))) (joined s (valued ((n + s.values) + later.values) later)) (valued (n + (s.values + later.values)) (beside s later)) (andthen (all_lowered d env) (λ vs. defs_lowered ds (env ++ vs)))
      (record { nodes = refl; graphs = refl; largest = refl; ports = refl; values = omega arith })
      (then-gives (Of tys) (Of (γ ++ (tys ++ others))) s (valued ((n + s.values) + later.values) later) (all_lowered d env) (λ vs. defs_lowered ds (env ++ vs)) (all-to γ z d tys h env a n e)
      (λ vs tv lv.
      let both = length-append env vs in
      subst (λ t. Gives (Of t) (valued ((n + s.values) + later.values) later) (defs_lowered ds (env ++ vs))) (append_assoc γ tys others)
      (defs-to (γ ++ tys) zs ds others r (env ++ vs) (typed-both forms names env vs γ tys a tv) (n + s.values) (omega (arith, both, e, lv)))))

  pub body-to : (γ δ : List Ty) (P : List Wire → Type 0) (zs : List (List Sizing)) (ds : List (List Lowers)) (ys : List Sizing) (gs : List Lowers) → DefsTo γ zs ds δ → To (γ ++ δ) P (all_sized ys) (all_lowered gs) → To γ P (body_sized zs ys) (body_lowered ds gs)
  body-to γ δ P zs ds ys gs d h env a n e =
      let s = defs_sized zs n in
      then-gives (Of (γ ++ δ)) P (valued (n + s.values) s) (all_sized ys (n + s.values)) (defs_lowered ds env) (all_lowered gs) (defs-to γ zs ds δ d env a n e) (λ v tv lv. h v tv (n + s.values) lv)

  -- ---- names, constants and operations

  pub name-to : (γ : List Ty) (x : ℕ) (a : Ty) → slice_get γ x ≡ Some a → To γ (Of (a ∷ [])) (λ n. only 1) (λ env. only_wires (wire_at env x ∷ []))
  name-to γ x a there env h n e = only-gives (Of (a ∷ [])) (wire_at env x ∷ []) (typed-at forms names env γ h x a there, tt)

  pub row-to : (op : Simple) (ws : List Wire) (ns : List ℕ) (tys : List Ty) → AreNumbers forms names ns tys → Gives (Of tys) (a_node (length ws) (length ns)) (row_lowered op ws ns)
  row-to op ws ns tys h =
      resized (Of tys) (a_node (length ws) (length (map One ns))) (a_node (length ws) (length ns)) (row_lowered op ws ns)
      (record { nodes = refl; graphs = refl; largest = refl; ports = refl; values = length-map ns One })
      (row-gives (Of tys) (Row op) ws 1 (map One ns) refl (λ n. typed-ports forms names ns tys h n 1))

  -- of operands that are so many
  pub row-any : (op : Simple) (ws : List Wire) (k t : ℕ) → length ws ≡ k → Gives Any (a_node k 1) (row_lowered op ws (t ∷ []))
  row-any op ws k t e =
      resized Any (a_node (length ws) 1) (a_node k 1) (row_lowered op ws (t ∷ [])) (record { nodes = refl; graphs = refl; largest = refl; ports = ap suc e; values = refl })
      (row-gives Any (Row op) ws 1 (One t ∷ []) refl (λ n. tt))

  row-as : (op : Simple) (ws : List Wire) (k : ℕ) (ns : List ℕ) (tys : List Ty) → length ws ≡ k → AreNumbers forms names ns tys → Gives (Of tys) (a_node k (length ns)) (row_lowered op ws ns)
  row-as op ws k ns tys e h =
      resized (Of tys) (a_node (length ws) (length ns)) (a_node k (length ns)) (row_lowered op ws ns) (record { nodes = refl; graphs = refl; largest = refl; ports = ap suc e; values = refl }) (row-to op ws ns tys h)

  literal-to : (c : Constant) (ns : List ℕ) (tys : List Ty) → AreNumbers forms names ns tys → Gives (Of tys) (only (length ns)) (only_wires (map (λ t. wire (Literal c) (One t)) ns))
  literal-to c ns tys h =
      let ws = map (λ t. wire (Literal c) (One t)) ns in
      resized (Of tys) (only (length ws)) (only (length ns)) (only_wires ws) (record { nodes = refl; graphs = refl; largest = refl; ports = refl; values = length-map ns (λ t. wire (Literal c) (One t)) })
      (only-gives (Of tys) ws (typed-literals forms names c ns tys h))

  pub constant-to : (c : Constant) (ns : List ℕ) (tys : List Ty) → AreNumbers forms names ns tys → Gives (Of tys) (constant_sized c (length ns)) (constant_lowered c ns)
  constant-to (constant.Quoted s) ns tys h = row-as simple.ABuild (one ∷ map (λ c. wire (Literal (constant.Letter c)) (One character)) s) (suc (length s)) ns tys (ap suc (length-map s (λ c. wire (Literal (constant.Letter c)) (One character)))) h
  constant-to (constant.Integer z) ns tys h = literal-to (constant.Integer z) ns tys h
  constant-to (constant.Letter c) ns tys h = literal-to (constant.Letter c) ns tys h
  constant-to constant.True ns tys h = literal-to constant.True ns tys h
  constant-to constant.False ns tys h = literal-to constant.False ns tys h
  constant-to constant.Nil ns tys h = literal-to constant.Nil ns tys h

  pub call-to : (γ : List Ty) (f : ℕ) (zs : List Sizing) (gs : List Lowers) (tys : List Ty) (ns : List ℕ) (made : List Ty) → AllTo γ zs gs tys → AreNumbers forms names ns made
      → To γ (Of made) (λ n. behind (all_sized zs n) (λ v. a_node v (length ns))) (call_lowered f gs ns)
  call-to γ f zs gs tys ns made h num env a n e =
      let s = all_sized zs n in
      then-gives (Of tys) (Of made) s (a_node s.values (length ns)) (all_lowered gs env) (λ ws. a_lowered_node (Call f) ws 1 (map One ns)) (all-to γ zs gs tys h env a n e)
      (λ ws tw lw.
      resized (Of made) (a_node (length ws) (length (map One ns))) (a_node s.values (length ns)) (a_lowered_node (Call f) ws 1 (map One ns))
      (record { nodes = refl; graphs = refl; largest = refl; ports = ap suc lw; values = length-map ns One })
      (row-gives (Of made) (Call f) ws 1 (map One ns) refl (λ n. typed-ports forms names ns made num n 1)))

  length-reversed : (ws : List Wire) → length (reversed ws) ≡ length ws
  length-reversed [] = refl
  length-reversed (w ∷ ws) =
      let rest = length-reversed ws in
      let both = length-append (reversed ws) (w ∷ []) in
      omega (arith, rest, both)

  length-absents : (n : ℕ) (ws : List Wire) → length (absents n ++ ws) ≡ n + length ws
  length-absents zero ws = omega arith
  length-absents (suc n) ws = let rest = length-absents n ws in omega (arith, rest)

  length-changed : (p count : ℕ) (xs : List ℕ) (ws : List Wire) → length (changed p count xs ws) ≡ count
  length-changed p zero xs ws = refl
  length-changed p (suc count) xs ws = let rest = length-changed (suc p) count xs ws in omega (arith, rest)

  truth-gives : (c : Constant) → Gives Any (only 1) (truth forms c)
  truth-gives c = only-gives Any (wire (Literal c) (One boolean) ∷ []) tt

  is-tag-to : (tag : ℕ) (ws : List Wire) (ns : List ℕ) (tys : List Ty) → AreNumbers forms names ns tys → Gives (Of tys) (whole (only 1 ∷ only 1 ∷ []) (length ns)) (is_tag_lowered forms tag ws ns)
  is-tag-to tag ws ns tys h n q =
      let fs = truth forms constant.True ∷ truth forms constant.False ∷ [] in
      tag-sized (Of tys) n q (wire_at ws 0) (only 1 ∷ only 1 ∷ []) (new_graphs q fs) (two_arms forms tag 0 (tag_count forms (type_of (wire_at ws 0).ty))) ns
      (new-sized q (only 1 ∷ only 1 ∷ []) fs (gives_more (only 1) (only 1 ∷ []) (truth forms constant.True) (truth forms constant.False ∷ []) (truth-gives constant.True) (gives_more (only 1) [] (truth forms constant.False) [] (truth-gives constant.False) gives_none)))
      (typed-ports forms names ns tys h (suc n) 1)

  pub applied-to : (op : Operation) (ws : List Wire) (k : ℕ) (ns : List ℕ) (tys : List Ty) → length ws ≡ k → AreNumbers forms names ns tys → Gives (Of tys) (applied_sized op k (length ns)) (applied forms op ws ns)
  applied-to (operation.Unary f) ws k ns tys e h = row-as (simple.One f) ws k ns tys e h
  applied-to (operation.Binary f) ws k ns tys e h = row-as (simple.Two f) ws k ns tys e h
  applied-to (operation.Swapped f) ws k ns tys e h = row-as (simple.Two f) (reversed ws) k ns tys (length-reversed ws ∙ e) h
  applied-to operation.Error ws k ns tys e h = row-as simple.Error ws k ns tys e h
  applied-to operation.Array ws k ns tys e h = row-as simple.ABuild ws k ns tys e h
  applied-to operation.EmptyArray ws k ns tys e h = row-as simple.ABuild (one ∷ ws) (suc k) ns tys (ap suc e) h
  applied-to operation.Stream ws k ns tys e h = row-as simple.ABuild (one ∷ ws) (suc k) ns tys (ap suc e) h
  applied-to operation.Fill ws k ns tys e h = row-as simple.AFill ws k ns tys e h
  applied-to operation.Element ws k ns tys e h = row-as simple.AElement ws k ns tys e h
  applied-to operation.Update ws k ns tys e h = row-as simple.AReplace ws k ns tys e h
  applied-to operation.AddHigh ws k ns tys e h = row-as simple.AAddH ws k ns tys e h
  applied-to operation.AddLow ws k ns tys e h = row-as simple.AAddL ws k ns tys e h
  applied-to operation.RemoveHigh ws k ns tys e h = row-as simple.ARemH ws k ns tys e h
  applied-to operation.RemoveLow ws k ns tys e h = row-as simple.ARemL ws k ns tys e h
  applied-to operation.SetLow ws k ns tys e h = row-as simple.ASetL ws k ns tys e h
  applied-to operation.Adjust ws k ns tys e h = row-as simple.AAdjust ws k ns tys e h
  applied-to operation.LimitLow ws k ns tys e h = row-as simple.ALimL ws k ns tys e h
  applied-to operation.LimitHigh ws k ns tys e h = row-as simple.ALimH ws k ns tys e h
  applied-to operation.Size ws k ns tys e h = row-as simple.ASize ws k ns tys e h
  applied-to operation.IsEmpty ws k ns tys e h = row-as simple.AIsEmpty ws k ns tys e h
  applied-to operation.Catenate ws k ns tys e h = row-as simple.ACatenate ws k ns tys e h
  applied-to operation.First ws k ns tys e h = row-as simple.FirstValue ws k ns tys e h
  applied-to operation.Rest ws k ns tys e h = row-as simple.RestValues ws k ns tys e h
  applied-to operation.Record ws k ns tys e h = row-as simple.RBuild ws k ns tys e h
  applied-to (operation.Union tag) ws k ns tys e h = row-as simple.RBuild (absents tag ++ ws) (tag + k) ns tys (length-absents tag ws ∙ ap (λ i. tag + i) e) h
  applied-to (operation.Field f) ws k ns tys e h =
      resized (Of tys) (a_node (length ws) (length (map One ns))) (a_node k (length ns)) (a_lowered_node (Row simple.RElements) ws (suc f) (map One ns))
      (record { nodes = refl; graphs = refl; largest = refl; ports = ap suc e; values = length-map ns One })
      (row-gives (Of tys) (Row simple.RElements) ws (suc f) (map One ns) refl (λ n. typed-ports forms names ns tys h n (suc f)))
  applied-to (operation.Change places) ws k ns tys e h =
      row-as simple.RReplace (wire_at ws 0 ∷ changed 0 (suc (greatest places)) places (drop 1 ws)) (suc (suc (greatest places))) ns tys (ap suc (length-changed 0 (suc (greatest places)) places (drop 1 ws))) h
  applied-to (operation.IsTag tag) ws k ns tys e h = is-tag-to tag ws ns tys h

  -- ---- `if`

  pub inside-to : (γ : List Ty) (P : List Wire → Type 0) (z : Sizing) (g : Lowers) → To γ P z g → (env : List Wire) → Of γ env → (n : ℕ) → length env ≡ n → Gives P (z n) (g (map into env))
  inside-to γ P z g h env a n e = h (map into env) (typed-into forms names env γ a) n (length-map env into ∙ e)

  selector-to : (γ : List Ty) (zs : List Sizing) (gs : List Lowers) (tys : List Ty) → AllTo γ zs gs tys → To γ Any (selector_sized zs) (selector_lowered gs)
  selector-to γ zs gs tys h env a n e =
      let s = all_sized zs n in
      then-gives (Of tys) Any s (a_node s.values 1) (all_lowered gs env) (λ ws. row_lowered (simple.One unary.Int) ws (integer ∷ [])) (all-to γ zs gs tys h env a n e) (λ ws tw lw. row-any (simple.One unary.Int) ws s.values integer lw)

  pub if-to : (γ : List Ty) (zt za zo : List Sizing) (test arm other : List Lowers) (tested tys : List Ty) (ns : List ℕ) → AllTo γ zt test tested → AllTo γ za arm tys → AllTo γ zo other tys → AreNumbers forms names ns tys
      → To γ (Of tys) (if_sized zt za zo (length ns)) (if_lowered test arm other ns)
  if-to γ zt za zo test arm other tested tys ns t x o num env a n e m q =
      let s = new_graph (selector_lowered test (map into env)) q in
      let y = new_graph (all_lowered other (map into env)) (q + size s) in
      let z = new_graph (all_lowered arm (map into env)) (q + size s + size y) in
      whole-sized (Of tys) m q compound.Select (selector_sized zt n ∷ all_sized zo n ∷ all_sized za n ∷ []) (s ∷ y ∷ z ∷ []) (0 ∷ 1 ∷ 2 ∷ []) 0 ns
      (a_part (selector_sized zt n) (all_sized zo n ∷ all_sized za n ∷ []) s (y ∷ z ∷ []) (inside-to γ Any (selector_sized zt) (selector_lowered test) (selector-to γ zt test tested t) env a n e 0 (suc q))
      (a_part (all_sized zo n) (all_sized za n ∷ []) y (z ∷ []) (plainly (Of tys) (all_sized zo n) y (inside-to γ (Of tys) (all_sized zo) (all_lowered other) (all-to γ zo other tys o) env a n e 0 (suc (q + size s))))
      (a_part (all_sized za n) [] z [] (plainly (Of tys) (all_sized za n) z (inside-to γ (Of tys) (all_sized za) (all_lowered arm) (all-to γ za arm tys x) env a n e 0 (suc (q + size s + size y)))) no_part)))
      (typed-ports forms names ns tys num (suc m) 1)

  -- ---- `tagcase`

  -- arms, of which the first so many see a content of these types
  pub data ArmsTo : List Ty → ℕ → List (List Sizing) → List (List Lowers) → List Ty → List Ty → Type 0 where
    no_arm : (γ tys : List Ty) → ArmsTo γ 0 [] [] [] tys
    named_arm : (γ : List Ty) (named : ℕ) (z : List Sizing) (zs : List (List Sizing)) (g : List Lowers) (gs : List (List Lowers)) (a : Ty) (contents tys : List Ty)
        → AllTo (γ ++ a ∷ []) z g tys → ArmsTo γ named zs gs contents tys → ArmsTo γ (suc named) (z ∷ zs) (g ∷ gs) (a ∷ contents) tys
    other_arm : (γ : List Ty) (z : List Sizing) (zs : List (List Sizing)) (g : List Lowers) (gs : List (List Lowers)) (tys : List Ty) → AllTo γ z g tys → ArmsTo γ 0 zs gs [] tys → ArmsTo γ 0 (z ∷ zs) (g ∷ gs) [] tys

  arms-give : (γ : List Ty) (named : ℕ) (zs : List (List Sizing)) (gs : List (List Lowers)) (contents tys : List Ty) → ArmsTo γ named zs gs contents tys → (c : Case) (type arm : ℕ) → c.named ≤ arm + named → (1 ≤ named → c.named ≡ arm + named)
      → ((d : ℕ) (a : Ty) → d < named → slice_get contents d ≡ Some a → IsNumber forms names (content_of forms type (first_tag c (arm + d))) a)
      → (env : List Wire) → Of γ env → (n : ℕ) → length env ≡ n → AllGive (arms_sized c arm zs n) (arms_from forms c type arm (map all_lowered gs) env)
  arms-give _ _ _ _ _ _ (no_arm γ tys) c type arm most count typed env a n e = gives_none
  arms-give _ _ _ _ _ _ (named_arm γ named z zs g gs b contents tys h r) c type arm most count typed env a n e =
      gives_more (all_sized z (if nat_lt arm c.named then n + 1 else n)) (arms_sized c (suc arm) zs n) (all_lowered g (arm_names forms c type arm env)) (arms_from forms c type (suc arm) (map all_lowered gs) env)
      (by (nat_lt arm c.named) refl)
      (arms-give γ named zs gs contents tys r c type (suc arm) (omega (arith, most)) (λ l. let all = count (omega arith) in omega (arith, all)) (λ d x l k. subst (λ i. IsNumber forms names (content_of forms type (first_tag c i)) x) (omega arith) (typed (suc d) x (omega (arith, l)) k)) env a n e)
    where
      content : IsNumber forms names (content_of forms type (first_tag c arm)) b
      content = subst (λ i. IsNumber forms names (content_of forms type (first_tag c i)) b) (omega arith) (typed 0 b (omega arith) refl)

      by : (t : Bool) → nat_lt arm c.named ≡ t
          → Gives Any (all_sized z (if t then n + 1 else n)) (all_lowered g (if t then map into env ++ wire (Port 0 0 1) (One (content_of forms type (first_tag c arm))) ∷ [] else map into env))
      by true k =
          let w = wire (Port 0 0 1) (One (content_of forms type (first_tag c arm))) in
          let both = length-append (map into env) (w ∷ []) in
          let same = length-map env into in
          of-any tys (all_sized z (n + 1)) (all_lowered g (map into env ++ w ∷ [])) (all-to (γ ++ b ∷ []) z g tys h (map into env ++ w ∷ []) (typed-both forms names (map into env) (w ∷ []) γ (b ∷ []) (typed-into forms names env γ a) ((content, tt), tt)) (n + 1) (omega (arith, both, same, e)))
      by false k =
          let l = ltb-false arm c.named k in
          let all = count (omega arith) in
          absurd (omega (arith, l, all))
  arms-give _ _ _ _ _ _ (other_arm γ z zs g gs tys h r) c type arm most count typed env a n e =
      gives_more (all_sized z (if nat_lt arm c.named then n + 1 else n)) (arms_sized c (suc arm) zs n) (all_lowered g (arm_names forms c type arm env)) (arms_from forms c type (suc arm) (map all_lowered gs) env)
      (by (nat_lt arm c.named) refl)
      (arms-give γ 0 zs gs [] tys r c type (suc arm) (omega (arith, most)) (λ l. absurd (omega (arith, l))) (λ d x l k. absurd (omega (arith, l))) env a n e)
    where
      by : (t : Bool) → nat_lt arm c.named ≡ t
          → Gives Any (all_sized z (if t then n + 1 else n)) (all_lowered g (if t then map into env ++ wire (Port 0 0 1) (One (content_of forms type (first_tag c arm))) ∷ [] else map into env))
      by true k = let l = ltb-true arm c.named k in absurd (omega (arith, l, most))
      by false k = of-any tys (all_sized z n) (all_lowered g (map into env)) (all-to γ z g tys h (map into env) (typed-into forms names env γ a) n (length-map env into ∙ e))

  pub case-to : (γ : List Ty) (c : Case) (zs : List (List Sizing)) (gs : List (List Lowers)) (contents tys : List Ty) (ws : List Wire) (ns : List ℕ) → ArmsTo γ c.named zs gs contents tys
      → ((d : ℕ) (a : Ty) → d < c.named → slice_get contents d ≡ Some a → IsNumber forms names (content_of forms (type_of (wire_at ws 0).ty) (first_tag c d)) a) → AreNumbers forms names ns tys
      → To γ (Of tys) (case_sized c zs (length ns)) (case_lowered forms c gs ns ws)
  case-to γ c zs gs contents tys ws ns h typed num env a n e m q =
      let type = type_of (wire_at ws 0).ty in
      let fs = arms_from forms c type 0 (map all_lowered gs) env in
      tag-sized (Of tys) m q (wire_at ws 0) (arms_sized c 0 zs n) (new_graphs q fs) (arms_of c (tag_count forms type)) ns
      (new-sized q (arms_sized c 0 zs n) fs (arms-give γ c.named zs gs contents tys h c type 0 (omega arith) (λ l. omega arith) (λ d x l k. subst (λ i. IsNumber forms names (content_of forms type (first_tag c i)) x) (omega arith) (typed d x l k)) env a n e))
      (typed-ports forms names ns tys num (suc m) 1)
