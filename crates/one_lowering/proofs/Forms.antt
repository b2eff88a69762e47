-- Lists of phrases, definitions, constants, operations and choices.
use Rattle.std.proofs.Common.{◌≡◌, ℕ, zero, suc, Bool, true, false, List, [], ◌∷◌, ◌++◌, map, drop, refl, sym, ap, ◌∙◌}
use Rattle.std.specs.Prelude.{if◌then◌else◌, nat_eq, nat_lt, pos}
use Rattle.std.proofs.lemmas.List.{map-append, drop-map}
use Rattle.flow_value.specs.declared.operation.Scalar1.TheVariants as unary
use Rattle.if1_graph.specs.declared.op.Simple.{Simple}
use Rattle.if1_graph.specs.declared.op.Simple.TheVariants as simple
use Rattle.if1_graph.specs.declared.op.Compound.TheVariants as compound
use Rattle.if1_graph.specs.Units.{greatest}
use Rattle.sisal_tree.specs.declared.expr.Constant.{Constant}
use Rattle.sisal_tree.specs.declared.expr.Constant.TheVariants as constant
use Rattle.type_table.specs.declared.form.Form.{Form}
use Rattle.typed_tree.specs.declared.expr.Case.{Case}
use Rattle.value_ops.specs.declared.operation.Operation.{Operation}
use Rattle.value_ops.specs.declared.operation.Operation.TheVariants as operation
use Rattle.lowering.specs.declared.feed.Feed.TheVariants.{Literal, Absent, Port}
use Rattle.lowering.specs.declared.feed.Wire.{Wire}
use Rattle.lowering.specs.declared.feed.Carried.TheVariants.{One}
use Rattle.lowering.specs.Feeds.{wire, into}
use Rattle.lowering.specs.declared.graph.Action.TheVariants.{Row, Call}
use Rattle.lowering.specs.Graphs.{Lowering, only, a_node, whole, tag_case_on, new_graphs}
use Rattle.lowering.specs.Operations.{Lowers, character, integer, one, absent, all_lowered, defs_lowered, body_lowered, wire_at, row_lowered, constant_lowered, absents, reversed, at_place, changed}
use Rattle.lowering.specs.Choices.{type_of, content_of, tag_count, first_tag, selector_lowered, if_lowered, tag_case, arms_of, arm_names, arms_from, case_lowered, two_arms, truth, is_tag_lowered, applied}
use Rattle.lowering.specs.Phrases.{call_lowered}
use Rattle.one_lowering.specs.Moves.{Moves}
use Rattle.one_lowering.proofs.Moved.{moved_wire, wires, into-moved, ones-moved, Makes, then-moved, only-moved, beside-moved, node-moved, whole-moved, tag-case-moved, AllMake, graphs-moved}
use Rattle.one_lowering.proofs.Tables.{tags-moved, content-moved, type-moved}

module _ (to : ℕ → ℕ) (forms others : List Form) (moves : Moves to forms others) where
  -- the second phrase makes what the first makes
  abbrev pub Becomes : Lowers → Lowers → Type 0
  Becomes g h = (env : List Wire) → Makes to (g env) (h (wires to env))

  pub makes-as : (f h k : Lowering) → h ≡ k → Makes to f h → Makes to f k
  makes-as f h k e m n q = ap (λ (x : Lowering). x n q) (sym e) ∙ m n q

  -- ---- lists

  abbrev pub AllTo : List Lowers → List Lowers → Type 0
  AllTo [] [] = Unit {0}
  AllTo (g ∷ gs) (h ∷ hs) = Becomes g h × AllTo gs hs
  AllTo [] (h ∷ hs) = ⊥
  AllTo (g ∷ gs) [] = ⊥

  abbrev pub DefsTo : List (List Lowers) → List (List Lowers) → Type 0
  DefsTo [] [] = Unit {0}
  DefsTo (d ∷ ds) (e ∷ es) = AllTo d e × DefsTo ds es
  DefsTo [] (e ∷ es) = ⊥
  DefsTo (d ∷ ds) [] = ⊥

  pub all-to : (gs hs : List Lowers) → AllTo gs hs → Becomes (all_lowered gs) (all_lowered hs)
  all-to [] [] r env = only-moved to []
  all-to [] (h ∷ hs) r env = absurd r
  all-to (g ∷ gs) [] r env = absurd r
  all-to (g ∷ gs) (h ∷ hs) r env = beside-moved to (g env) (h (wires to env)) (all_lowered gs env) (all_lowered hs (wires to env)) (r.0 env) (all-to gs hs r.1 env)

  pub defs-to : (ds es : List (List Lowers)) → DefsTo ds es → Becomes (defs_lowered ds) (defs_lowered es)
  defs-to [] [] r env = only-moved to env
  defs-to [] (e ∷ es) r env = absurd r
  defs-to (d ∷ ds) [] r env = absurd r
  defs-to (d ∷ ds) (e ∷ es) r env =
      then-moved to (all_lowered d env) (all_lowered e (wires to env)) (λ vs. defs_lowered ds (env ++ vs)) (λ vs. defs_lowered es (wires to env ++ vs)) (all-to d e r.0 env)
      (λ vs. makes-as (defs_lowered ds (env ++ vs)) (defs_lowered es (wires to (env ++ vs))) (defs_lowered es (wires to env ++ wires to vs)) (ap (defs_lowered es) (map-append (moved_wire to) env vs))
      (defs-to ds es r.1 (env ++ vs)))

  pub body-to : (ds es : List (List Lowers)) (gs hs : List Lowers) → DefsTo ds es → AllTo gs hs → Becomes (body_lowered ds gs) (body_lowered es hs)
  body-to ds es gs hs d r env =
      then-moved to (defs_lowered ds env) (defs_lowered es (wires to env)) (all_lowered gs) (all_lowered hs) (defs-to ds es d env) (λ vs. all-to gs hs r vs)

  -- ---- names and constants

  pub at-moved : (ws : List Wire) (x : ℕ) → wire_at (wires to ws) x ≡ moved_wire to (wire_at ws x)
  at-moved [] x = ap (λ t. wire (Literal constant.Nil) (One t)) (sym moves.nulls)
  at-moved (w ∷ ws) zero = refl
  at-moved (w ∷ ws) (suc x) = at-moved ws x

  pub name-to : (x : ℕ) → Becomes (λ env. only (wire_at env x ∷ [])) (λ env. only (wire_at env x ∷ []))
  name-to x env n q = ap (λ w. only (w ∷ []) n q) (at-moved env x)

  pub row-moved : (op : Simple) (ws : List Wire) (ts : List ℕ) → Makes to (row_lowered op ws ts) (row_lowered op (wires to ws) (map to ts))
  row-moved op ws ts n q = ap (λ cs. a_node (Row op) (wires to ws) 1 cs n q) (ones-moved to ts) ∙ node-moved to (Row op) ws 1 (map One ts) n q

  -- on wires that are these, for one value of a type that every table has
  pub row-as : (op : Simple) (ws us : List Wire) (ts ns : List ℕ) → us ≡ wires to ws → ns ≡ map to ts → Makes to (row_lowered op ws ts) (row_lowered op us ns)
  row-as op ws us ts ns e h n q = ap (λ l. row_lowered op l ns n q) e ∙ ap (λ l. row_lowered op (wires to ws) l n q) h ∙ row-moved op ws ts n q

  pub one-moved : one ≡ moved_wire to one
  one-moved = ap (λ t. wire (Literal (constant.Integer (pos 1))) (One t)) (sym moves.integers)

  absent-moved : absent ≡ moved_wire to absent
  absent-moved = ap (λ t. wire Absent (One t)) (sym moves.integers)

  pub with-one : (ws : List Wire) → one ∷ wires to ws ≡ wires to (one ∷ ws)
  with-one ws = ap (λ w. w ∷ wires to ws) one-moved

  abbrev literals : Constant → List ℕ → List Wire
  literals c ts = map (λ t. wire (Literal c) (One t)) ts

  literals-moved : (c : Constant) (ts : List ℕ) → literals c (map to ts) ≡ wires to (literals c ts)
  literals-moved c [] = refl
  literals-moved c (t ∷ ts) = ap (λ l. wire (Literal c) (One (to t)) ∷ l) (literals-moved c ts)

  literal-to : (c : Constant) (ts : List ℕ) → Makes to (only (literals c ts)) (only (literals c (map to ts)))
  literal-to c ts n q = ap (λ l. only l n q) (literals-moved c ts)

  letters-moved : (s : List ℕ) → map (λ c. wire (Literal (constant.Letter c)) (One character)) s ≡ wires to (map (λ c. wire (Literal (constant.Letter c)) (One character)) s)
  letters-moved [] = refl
  letters-moved (c ∷ s) =
      ap (λ t. wire (Literal (constant.Letter c)) (One t) ∷ map (λ c. wire (Literal (constant.Letter c)) (One character)) s) (sym moves.characters)
      ∙ ap (λ l. wire (Literal (constant.Letter c)) (One (to character)) ∷ l) (letters-moved s)

  pub constant-to : (c : Constant) (ts : List ℕ) → Makes to (constant_lowered c ts) (constant_lowered c (map to ts))
  constant-to (constant.Quoted s) ts =
      let ws = map (λ c. wire (Literal (constant.Letter c)) (One character)) s in
      row-as simple.ABuild (one ∷ ws) (one ∷ ws) ts (map to ts) (ap (λ l. one ∷ l) (letters-moved s) ∙ with-one ws) refl
  constant-to (constant.Integer z) ts = literal-to (constant.Integer z) ts
  constant-to (constant.Letter c) ts = literal-to (constant.Letter c) ts
  constant-to constant.True ts = literal-to constant.True ts
  constant-to constant.False ts = literal-to constant.False ts
  constant-to constant.Nil ts = literal-to constant.Nil ts

  -- ---- operations

  pub call-to : (f : ℕ) (gs hs : List Lowers) (ts : List ℕ) → AllTo gs hs → Becomes (call_lowered f gs ts) (call_lowered f hs (map to ts))
  call-to f gs hs ts r env =
      then-moved to (all_lowered gs env) (all_lowered hs (wires to env)) (λ ws. a_node (Call f) ws 1 (map One ts)) (λ ws. a_node (Call f) ws 1 (map One (map to ts))) (all-to gs hs r env)
      (λ ws n q. ap (λ cs. a_node (Call f) (wires to ws) 1 cs n q) (ones-moved to ts) ∙ node-moved to (Call f) ws 1 (map One ts) n q)

  reversed-moved : (ws : List Wire) → reversed (wires to ws) ≡ wires to (reversed ws)
  reversed-moved [] = refl
  reversed-moved (w ∷ ws) = ap (λ l. l ++ moved_wire to w ∷ []) (reversed-moved ws) ∙ sym (map-append (moved_wire to) (reversed ws) (w ∷ []))

  absents-moved : (n : ℕ) (ws : List Wire) → absents n ++ wires to ws ≡ wires to (absents n ++ ws)
  absents-moved zero ws = refl
  absents-moved (suc n) ws = ap (λ w. w ∷ (absents n ++ wires to ws)) absent-moved ∙ ap (λ l. moved_wire to absent ∷ l) (absents-moved n ws)

  place-moved : (p : ℕ) (xs : List ℕ) (ws : List Wire) → at_place p xs (wires to ws) ≡ moved_wire to (at_place p xs ws)
  place-moved p [] ws = absent-moved
  place-moved p (x ∷ xs) [] = absent-moved
  place-moved p (x ∷ xs) (w ∷ ws) = ap (λ v. if nat_eq x p then moved_wire to w else v) (place-moved p xs ws) ∙ by (nat_eq x p)
    where
      by : (b : Bool) → (if b then moved_wire to w else moved_wire to (at_place p xs ws)) ≡ moved_wire to (if b then w else at_place p xs ws)
      by true = refl
      by false = refl

  changed-moved : (p count : ℕ) (xs : List ℕ) (ws : List Wire) → changed p count xs (wires to ws) ≡ wires to (changed p count xs ws)
  changed-moved p zero xs ws = refl
  changed-moved p (suc count) xs ws =
      ap (λ w. w ∷ changed (suc p) count xs (wires to ws)) (place-moved p xs ws) ∙ ap (λ l. moved_wire to (at_place p xs ws) ∷ l) (changed-moved (suc p) count xs ws)

  change-moved : (places : List ℕ) (ws : List Wire)
      → wire_at (wires to ws) 0 ∷ changed 0 (suc (greatest places)) places (drop 1 (wires to ws)) ≡ wires to (wire_at ws 0 ∷ changed 0 (suc (greatest places)) places (drop 1 ws))
  change-moved places ws =
      let k = suc (greatest places) in
      ap (λ w. w ∷ changed 0 k places (drop 1 (wires to ws))) (at-moved ws 0)
      ∙ ap (λ l. moved_wire to (wire_at ws 0) ∷ changed 0 k places l) (drop-map (moved_wire to) 1 ws)
      ∙ ap (λ l. moved_wire to (wire_at ws 0) ∷ l) (changed-moved 0 k places (drop 1 ws))

  truth-moved : (c : Constant) → Makes to (truth forms c) (truth others c)
  truth-moved c n q = ap (λ t. only (wire (Literal c) (One t) ∷ []) n q) (sym moves.booleans)

  -- the tags of the union that fills a port
  count-moved : (w : Wire) → tag_count others (type_of (moved_wire to w).ty) ≡ tag_count forms (type_of w.ty)
  count-moved w = ap (tag_count others) (type-moved to forms others moves w.ty) ∙ tags-moved to forms others moves (type_of w.ty)

  two-arms-same : (tag at count : ℕ) → two_arms others tag at count ≡ two_arms forms tag at count
  two-arms-same tag at zero = refl
  two-arms-same tag at (suc count) = ap (λ l. (if nat_eq at tag then 0 else 1) ∷ l) (two-arms-same tag (suc at) count)

  tag-case-to : (u : Wire) (fs hs : List Lowering) (arms ts : List ℕ) → AllMake to fs hs → Makes to (tag_case u fs arms ts) (tag_case (moved_wire to u) hs arms (map to ts))
  tag-case-to u fs hs arms ts r n q =
      ap (λ ms. tag_case_on (moved_wire to u) ms arms (map to ts) n q) (graphs-moved to q fs hs r) ∙ tag-case-moved to u (new_graphs q fs) arms ts n q

  is-tag-to : (tag : ℕ) (ws : List Wire) (ts : List ℕ) → Makes to (is_tag_lowered forms tag ws ts) (is_tag_lowered others tag (wires to ws) (map to ts))
  is-tag-to tag ws ts n q =
      let u = wire_at ws 0 in
      let fs = truth forms constant.True ∷ truth forms constant.False ∷ [] in
      let hs = truth others constant.True ∷ truth others constant.False ∷ [] in
      ap (λ w. tag_case w hs (two_arms others tag 0 (tag_count others (type_of w.ty))) (map to ts) n q) (at-moved ws 0)
      ∙ ap (λ k. tag_case (moved_wire to u) hs (two_arms others tag 0 k) (map to ts) n q) (count-moved u)
      ∙ ap (λ l. tag_case (moved_wire to u) hs l (map to ts) n q) (two-arms-same tag 0 (tag_count forms (type_of u.ty)))
      ∙ tag-case-to u fs hs (two_arms forms tag 0 (tag_count forms (type_of u.ty))) ts (truth-moved constant.True, (truth-moved constant.False, tt)) n q

  pub applied-to : (op : Operation) (ws : List Wire) (ts : List ℕ) → Makes to (applied forms op ws ts) (applied others op (wires to ws) (map to ts))
  applied-to (operation.Unary f) ws ts = row-moved (simple.One f) ws ts
  applied-to (operation.Binary f) ws ts = row-moved (simple.Two f) ws ts
  applied-to (operation.Swapped f) ws ts = row-as (simple.Two f) (reversed ws) (reversed (wires to ws)) ts (map to ts) (reversed-moved ws) refl
  applied-to operation.Error ws ts = row-moved simple.Error ws ts
  applied-to operation.Array ws ts = row-moved simple.ABuild ws ts
  applied-to operation.EmptyArray ws ts = row-as simple.ABuild (one ∷ ws) (one ∷ wires to ws) ts (map to ts) (with-one ws) refl
  applied-to operation.Stream ws ts = row-as simple.ABuild (one ∷ ws) (one ∷ wires to ws) ts (map to ts) (with-one ws) refl
  applied-to operation.Fill ws ts = row-moved simple.AFill ws ts
  applied-to operation.Element ws ts = row-moved simple.AElement ws ts
  applied-to operation.Update ws ts = row-moved simple.AReplace ws ts
  applied-to operation.AddHigh ws ts = row-moved simple.AAddH ws ts
  applied-to operation.AddLow ws ts = row-moved simple.AAddL ws ts
  applied-to operation.RemoveHigh ws ts = row-moved simple.ARemH ws ts
  applied-to operation.RemoveLow ws ts = row-moved simple.ARemL ws ts
  applied-to operation.SetLow ws ts = row-moved simple.ASetL ws ts
  applied-to operation.Adjust ws ts = row-moved simple.AAdjust ws ts
  applied-to operation.LimitLow ws ts = row-moved simple.ALimL ws ts
  applied-to operation.LimitHigh ws ts = row-moved simple.ALimH ws ts
  applied-to operation.Size ws ts = row-moved simple.ASize ws ts
  applied-to operation.IsEmpty ws ts = row-moved simple.AIsEmpty ws ts
  applied-to operation.Catenate ws ts = row-moved simple.ACatenate ws ts
  applied-to operation.First ws ts = row-moved simple.FirstValue ws ts
  applied-to operation.Rest ws ts = row-moved simple.RestValues ws ts
  applied-to operation.Record ws ts = row-moved simple.RBuild ws ts
  applied-to (operation.Union tag) ws ts = row-as simple.RBuild (absents tag ++ ws) (absents tag ++ wires to ws) ts (map to ts) (absents-moved tag ws) refl
  applied-to (operation.Field f) ws ts = λ n q. ap (λ cs. a_node (Row simple.RElements) (wires to ws) (suc f) cs n q) (ones-moved to ts) ∙ node-moved to (Row simple.RElements) ws (suc f) (map One ts) n q
  applied-to (operation.Change places) ws ts =
      let k = suc (greatest places) in
      row-as simple.RReplace (wire_at ws 0 ∷ changed 0 k places (drop 1 ws)) (wire_at (wires to ws) 0 ∷ changed 0 k places (drop 1 (wires to ws))) ts (map to ts) (change-moved places ws) refl
  applied-to (operation.IsTag tag) ws ts = is-tag-to tag ws ts

  -- ---- `if`

  pub inside-to : (g h : Lowers) → Becomes g h → (env : List Wire) → Makes to (g (map into env)) (h (map into (wires to env)))
  inside-to g h b env = makes-as (g (map into env)) (h (wires to (map into env))) (h (map into (wires to env))) (ap h (sym (into-moved to env))) (b (map into env))

  selector-to : (gs hs : List Lowers) → AllTo gs hs → Becomes (selector_lowered gs) (selector_lowered hs)
  selector-to gs hs r env =
      then-moved to (all_lowered gs env) (all_lowered hs (wires to env)) (λ ws. row_lowered (simple.One unary.Int) ws (integer ∷ [])) (λ ws. row_lowered (simple.One unary.Int) ws (integer ∷ [])) (all-to gs hs r env)
      (λ ws. row-as (simple.One unary.Int) ws (wires to ws) (integer ∷ []) (integer ∷ []) refl (ap (λ t. t ∷ []) (sym moves.integers)))

  pub if-to : (test arm other xs ys zs : List Lowers) (ts : List ℕ) → AllTo test xs → AllTo arm ys → AllTo other zs → Becomes (if_lowered test arm other ts) (if_lowered xs ys zs (map to ts))
  if-to test arm other xs ys zs ts hx hy hz env n q =
      let fs = selector_lowered test (map into env) ∷ all_lowered other (map into env) ∷ all_lowered arm (map into env) ∷ [] in
      let hs = selector_lowered xs (map into (wires to env)) ∷ all_lowered zs (map into (wires to env)) ∷ all_lowered ys (map into (wires to env)) ∷ [] in
      ap (λ ms. whole compound.Select ms (0 ∷ 1 ∷ 2 ∷ []) 0 (map to ts) n q)
      (graphs-moved to q fs hs (inside-to (selector_lowered test) (selector_lowered xs) (selector-to test xs hx) env, (inside-to (all_lowered other) (all_lowered zs) (all-to other zs hz) env, (inside-to (all_lowered arm) (all_lowered ys) (all-to arm ys hy) env, tt))))
      ∙ whole-moved to compound.Select (new_graphs q fs) (0 ∷ 1 ∷ 2 ∷ []) 0 ts n q

  -- ---- `tagcase`

  arm-names-moved : (c : Case) (type arm : ℕ) (env : List Wire) → arm_names others c (to type) arm (wires to env) ≡ wires to (arm_names forms c type arm env)
  arm-names-moved c type arm env =
      ap (λ t. if nat_lt arm c.named then map into (wires to env) ++ wire (Port 0 0 1) (One t) ∷ [] else map into (wires to env)) (content-moved to forms others moves type (first_tag c arm))
      ∙ ap (λ l. if nat_lt arm c.named then l ++ wire (Port 0 0 1) (One (to content)) ∷ [] else l) (into-moved to env)
      ∙ by (nat_lt arm c.named)
    where
      content : ℕ
      content = content_of forms type (first_tag c arm)

      by : (b : Bool) → (if b then wires to (map into env) ++ wire (Port 0 0 1) (One (to content)) ∷ [] else wires to (map into env)) ≡ wires to (if b then map into env ++ wire (Port 0 0 1) (One content) ∷ [] else map into env)
      by true = sym (map-append (moved_wire to) (map into env) (wire (Port 0 0 1) (One content) ∷ []))
      by false = refl

  arms-to : (c : Case) (type arm : ℕ) (ds es : List (List Lowers)) → DefsTo ds es → (env : List Wire)
      → AllMake to (arms_from forms c type arm (map all_lowered ds) env) (arms_from others c (to type) arm (map all_lowered es) (wires to env))
  arms-to c type arm [] [] r env = tt
  arms-to c type arm [] (e ∷ es) r env = absurd r
  arms-to c type arm (d ∷ ds) [] r env = absurd r
  arms-to c type arm (d ∷ ds) (e ∷ es) r env =
      let seen = arm_names forms c type arm env in (
        makes-as (all_lowered d seen) (all_lowered e (wires to seen)) (all_lowered e (arm_names others c (to type) arm (wires to env))) (ap (all_lowered e) (sym (arm-names-moved c type arm env))) (all-to d e r.0 seen),
        arms-to c type (suc arm) ds es r.1 env,
      )

  pub case-to : (c : Case) (ds es : List (List Lowers)) (ts : List ℕ) (ws : List Wire) → DefsTo ds es → Becomes (case_lowered forms c ds ts ws) (case_lowered others c es (map to ts) (wires to ws))
  case-to c ds es ts ws r env n q =
      let u = wire_at ws 0 in
      let type = type_of u.ty in
      let fs = arms_from forms c type 0 (map all_lowered ds) env in
      let arms = arms_of c (tag_count forms type) in
      ap (λ w. tag_case w (arms_from others c (type_of w.ty) 0 (map all_lowered es) (wires to env)) (arms_of c (tag_count others (type_of w.ty))) (map to ts) n q) (at-moved ws 0)
      ∙ ap (λ k. tag_case (moved_wire to u) (arms_from others c (type_of (moved_wire to u).ty) 0 (map all_lowered es) (wires to env)) (arms_of c k) (map to ts) n q) (count-moved u)
      ∙ ap (λ t. tag_case (moved_wire to u) (arms_from others c t 0 (map all_lowered es) (wires to env)) arms (map to ts) n q) (type-moved to forms others moves u.ty)
      ∙ tag-case-to u fs (arms_from others c (to type) 0 (map all_lowered es) (wires to env)) arms ts (arms-to c type 0 ds es r env) n q
