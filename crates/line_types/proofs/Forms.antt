-- Lists of phrases, definitions, constants, operations and choices.
use Rattle.std.proofs.Common.{◌≡◌, ℕ, zero, suc, ◌+◌, Bool, true, false, List, [], ◌∷◌, ◌++◌, map, drop, refl, sym, ap, subst, ◌∙◌}
use Rattle.std.specs.Prelude.{if◌then◌else◌, nat_eq, nat_lt}
use Rattle.flow_value.specs.declared.operation.Scalar1.TheVariants as unary
use Rattle.if1_graph.specs.declared.op.Simple.{Simple}
use Rattle.if1_graph.specs.declared.op.Simple.TheVariants as simple
use Rattle.if1_graph.specs.declared.op.Compound.TheVariants as compound
use Rattle.if1_graph.specs.Units.{greatest}
use Rattle.sisal_tree.specs.declared.expr.Constant.{Constant}
use Rattle.sisal_tree.specs.declared.expr.Constant.TheVariants as constant
use Rattle.type_table.specs.declared.form.Form.{Form}
use Rattle.typed_tree.specs.declared.expr.Case.{Case}
use Rattle.typed_tree.specs.declared.program.Function.{Function}
use Rattle.value_ops.specs.declared.operation.Operation.{Operation}
use Rattle.value_ops.specs.declared.operation.Operation.TheVariants as operation
use Rattle.lowering.specs.declared.feed.Feed.TheVariants.{Literal, Port}
use Rattle.lowering.specs.declared.feed.Wire.{Wire}
use Rattle.lowering.specs.declared.feed.Carried.TheVariants.{One}
use Rattle.lowering.specs.Feeds.{wire, into, one_carried, carried}
use Rattle.lowering.specs.declared.graph.Action.TheVariants.{Row}
use Rattle.lowering.specs.Graphs as graphs
use Rattle.lowering.specs.Graphs.{Lowering, only, size, new_graph, new_graphs}
use Rattle.lowering.specs.Operations as ops
use Rattle.lowering.specs.Operations.{Lowers, boolean, character, integer, one, absent, all_lowered, defs_lowered, body_lowered, wire_at, row_lowered, constant_lowered, absents, operation_lowered}
use Rattle.lowering.specs.Choices as choices
use Rattle.lowering.specs.Choices.{type_of, content_of, tag_count, first_tag, selector_lowered, if_lowered, arms_of, arms_from, case_lowered, two_arms, truth, is_tag_lowered, applied}
use Rattle.lowering.specs.Loops.{types}
use Rattle.line_types.specs.Traces.{Trace, Traces, no_line, andthen, a_node, graph_lines, ones, carried_at, all_traced, defs_traced, body_traced, constant_traced, reversed, at_place, changed, operands, if_traced, arm_names, arms_traced, case_traced}
use Rattle.line_types.proofs.Same.{append-nil}
use Rattle.line_types.proofs.Wires.{AreFilled, carried-is, filled-both, filled-drop, filled-at, filled-into, types-both, types-drop, types-at, types-into}
use Rattle.line_types.proofs.Made.{Is, To, Makes, AreMade}
use Rattle.line_types.proofs.Made as made

module _ (forms : List Form) (names : List (List ℕ)) (fs : List Function) where
  abbrev Does : Lowering → Trace → Type 0
  Does f t = Makes forms names fs f t

  abbrev Becomes : Lowers → Traces → Type 0
  Becomes g t = To forms names fs g t

  -- ---- lists

  abbrev pub AllTo : List Lowers → List Traces → Type 0
  AllTo [] [] = Unit {0}
  AllTo (g ∷ gs) (t ∷ ts) = To forms names fs g t × AllTo gs ts
  AllTo [] (t ∷ ts) = ⊥
  AllTo (g ∷ gs) [] = ⊥

  abbrev pub DefsTo : List (List Lowers) → List (List Traces) → Type 0
  DefsTo [] [] = Unit {0}
  DefsTo (d ∷ ds) (t ∷ ts) = AllTo d t × DefsTo ds ts
  DefsTo [] (t ∷ ts) = ⊥
  DefsTo (d ∷ ds) [] = ⊥

  pub all-to : (gs : List Lowers) (ts : List Traces) → AllTo gs ts → Becomes (all_lowered gs) (all_traced ts)
  all-to [] [] h env a = made.only-makes forms names fs [] [] tt refl
  all-to [] (t ∷ ts) h env a = absurd h
  all-to (g ∷ gs) [] h env a = absurd h
  all-to (g ∷ gs) (t ∷ ts) h env a =
      made.beside-makes forms names fs (g env) (all_lowered gs env) (t (types env)) (all_traced ts (types env)) (h.0 env a) (all-to gs ts h.1 env a)

  pub defs-to : (ds : List (List Lowers)) (ts : List (List Traces)) → DefsTo ds ts → Becomes (defs_lowered ds) (defs_traced ts)
  defs-to [] [] h env a = made.only-makes forms names fs env (types env) a refl
  defs-to [] (t ∷ ts) h env a = absurd h
  defs-to (d ∷ ds) [] h env a = absurd h
  defs-to (d ∷ ds) (t ∷ ts) h env a =
      made.then-makes forms names fs (all_lowered d env) (λ vs. defs_lowered ds (env ++ vs)) (all_traced t (types env)) (λ vs. defs_traced ts (types env ++ vs)) (all-to d t h.0 env a)
      (λ vs av. made.makes-as forms names fs (defs_lowered ds (env ++ vs)) (defs_traced ts (types (env ++ vs))) (defs_traced ts (types env ++ types vs)) (ap (defs_traced ts) (types-both env vs)) (defs-to ds ts h.1 (env ++ vs) (filled-both env vs a av)))

  pub body-to : (ds : List (List Lowers)) (gs : List Lowers) (us : List (List Traces)) (ts : List Traces) → DefsTo ds us → AllTo gs ts → Becomes (body_lowered ds gs) (body_traced us ts)
  body-to ds gs us ts d h env a =
      made.then-makes forms names fs (defs_lowered ds env) (all_lowered gs) (defs_traced us (types env)) (all_traced ts) (defs-to ds us d env a) (λ e ae. all-to gs ts h e ae)

  -- ---- names and constants

  pub name-to : (x : ℕ) → Becomes (λ env. only (wire_at env x ∷ [])) (λ env. no_line (carried_at env x ∷ []))
  name-to x env a = made.only-makes forms names fs (wire_at env x ∷ []) (carried_at (types env) x ∷ []) (filled-at env x a, tt) (ap (λ c. c ∷ []) (types-at env x))

  literals-filled : (c : Constant) (ts : List ℕ) → AreFilled (map (λ t. wire (Literal c) (One t)) ts)
  literals-filled c [] = tt
  literals-filled c (t ∷ ts) = (tt, literals-filled c ts)

  literals-types : (c : Constant) (ts : List ℕ) → types (map (λ t. wire (Literal c) (One t)) ts) ≡ ones ts
  literals-types c [] = refl
  literals-types c (t ∷ ts) = ap (λ l. One t ∷ l) (literals-types c ts)

  literal-makes : (c : Constant) (ts : List ℕ) → Does (only (map (λ t. wire (Literal c) (One t)) ts)) (no_line (ones ts))
  literal-makes c ts = made.only-makes forms names fs (map (λ t. wire (Literal c) (One t)) ts) (ones ts) (literals-filled c ts) (literals-types c ts)

  letters-filled : (s : List ℕ) → AreFilled (map (λ c. wire (Literal (constant.Letter c)) (One character)) s)
  letters-filled [] = tt
  letters-filled (c ∷ s) = (tt, letters-filled s)

  letters-types : (s : List ℕ) → types (map (λ c. wire (Literal (constant.Letter c)) (One character)) s) ≡ map (λ c. One character) s
  letters-types [] = refl
  letters-types (c ∷ s) = ap (λ l. One character ∷ l) (letters-types s)

  pub constant-makes : (c : Constant) (ts : List ℕ) → Does (constant_lowered c ts) (constant_traced c ts)
  constant-makes (constant.Quoted s) ts =
      let ws = map (λ c. wire (Literal (constant.Letter c)) (One character)) s in
      made.row-makes forms names fs simple.ABuild (one ∷ ws) (One integer ∷ map (λ c. One character) s) (ones ts) 1 (tt, letters-filled s) (ap (λ l. One integer ∷ l) (letters-types s))
  constant-makes (constant.Integer z) ts = literal-makes (constant.Integer z) ts
  constant-makes (constant.Letter c) ts = literal-makes (constant.Letter c) ts
  constant-makes constant.True ts = literal-makes constant.True ts
  constant-makes constant.False ts = literal-makes constant.False ts
  constant-makes constant.Nil ts = literal-makes constant.Nil ts

  -- ---- operations

  reversed-filled : (ws : List Wire) → AreFilled ws → AreFilled (ops.reversed ws)
  reversed-filled [] a = tt
  reversed-filled (w ∷ ws) a = filled-both (ops.reversed ws) (w ∷ []) (reversed-filled ws a.1) (a.0, tt)

  reversed-types : (ws : List Wire) → types (ops.reversed ws) ≡ reversed (types ws)
  reversed-types [] = refl
  reversed-types (w ∷ ws) = types-both (ops.reversed ws) (w ∷ []) ∙ ap (λ l. l ++ w.ty ∷ []) (reversed-types ws)

  absents-carried : (n : ℕ) (ws : List Wire) → carried (absents n ++ ws) ≡ carried ws
  absents-carried zero ws = refl
  absents-carried (suc n) ws = absents-carried n ws

  place-carried : (p : ℕ) (xs : List ℕ) (ws : List Wire) → AreFilled ws → one_carried (ops.at_place p xs ws).feed (ops.at_place p xs ws).ty ≡ at_place p xs (types ws)
  place-carried p [] ws a = refl
  place-carried p (x ∷ xs) [] a = refl
  place-carried p (x ∷ xs) (w ∷ ws) a = by (nat_eq x p) (place-carried p xs ws a.1)
    where
      here : one_carried w.feed w.ty ≡ w.ty ∷ []
      here = sym (append-nil (one_carried w.feed w.ty)) ∙ carried-is (w ∷ []) (a.0, tt)

      by : (b : Bool) → one_carried (ops.at_place p xs ws).feed (ops.at_place p xs ws).ty ≡ at_place p xs (types ws)
          → one_carried (if b then w else ops.at_place p xs ws).feed (if b then w else ops.at_place p xs ws).ty ≡ (if b then w.ty ∷ [] else at_place p xs (types ws))
      by true r = here
      by false r = r

  changed-carried : (p count : ℕ) (xs : List ℕ) (ws : List Wire) → AreFilled ws → carried (ops.changed p count xs ws) ≡ changed p count xs (types ws)
  changed-carried p zero xs ws a = refl
  changed-carried p (suc count) xs ws a =
      ap (λ l. l ++ carried (ops.changed (suc p) count xs ws)) (place-carried p xs ws a) ∙ ap (λ l. at_place p xs (types ws) ++ l) (changed-carried (suc p) count xs ws a)

  change-carried : (places : List ℕ) (ws : List Wire) → AreFilled ws
      → carried (wire_at ws 0 ∷ ops.changed 0 (suc (greatest places)) places (drop 1 ws)) ≡ carried_at (types ws) 0 ∷ changed 0 (suc (greatest places)) places (drop 1 (types ws))
  change-carried places ws a =
      let w = wire_at ws 0 in
      let here : one_carried w.feed w.ty ≡ w.ty ∷ [] = sym (append-nil (one_carried w.feed w.ty)) ∙ carried-is (w ∷ []) (filled-at ws 0 a, tt) in
      ap (λ l. l ++ carried (ops.changed 0 (suc (greatest places)) places (drop 1 ws))) here
      ∙ (ap (λ c. c ∷ carried (ops.changed 0 (suc (greatest places)) places (drop 1 ws))) (types-at ws 0)
      ∙ ap (λ l. carried_at (types ws) 0 ∷ l) (changed-carried 0 (suc (greatest places)) places (drop 1 ws) (filled-drop 1 ws a) ∙ ap (changed 0 (suc (greatest places)) places) (types-drop 1 ws)))

  row : (op : Simple) (ws : List Wire) (ts : List ℕ) → AreFilled ws → Does (row_lowered op ws ts) (a_node (types ws) (ones ts))
  row op ws ts a = made.row-makes forms names fs op ws (types ws) (ones ts) 1 a refl

  truth-makes : (c : Constant) → Does (truth forms c) (no_line (One boolean ∷ []))
  truth-makes c = made.only-makes forms names fs (wire (Literal c) (One boolean) ∷ []) (One boolean ∷ []) (tt, tt) refl

  is-tag-makes : (tag : ℕ) (ws : List Wire) (ts : List ℕ) → AreFilled ws → Does (is_tag_lowered forms tag ws ts) (a_node (operands (operation.IsTag tag) (types ws)) (ones ts))
  is-tag-makes tag ws ts a n q =
      let ms = new_graphs q (truth forms constant.True ∷ truth forms constant.False ∷ []) in
      let arms = two_arms forms tag 0 (tag_count forms (type_of (wire_at ws 0).ty)) in
      subst (λ c. Is forms names fs (graphs.tag_case_on (wire_at ws 0) ms arms ts n q) (a_node (One boolean ∷ One boolean ∷ c ∷ []) (ones ts))) (types-at ws 0)
      (made.tag-case-makes forms names fs (wire_at ws 0) ms (no_line (One boolean ∷ []) ∷ no_line (One boolean ∷ []) ∷ []) arms ts n q (filled-at ws 0 a)
      (truth-makes constant.True 0 (suc q), (truth-makes constant.False 0 (suc (q + size (new_graph (truth forms constant.True) q))), tt)))

  pub applied-makes : (op : Operation) (ws : List Wire) (ts : List ℕ) → AreFilled ws → Does (applied forms op ws ts) (a_node (operands op (types ws)) (ones ts))
  applied-makes (operation.Unary f) ws ts a = row (simple.One f) ws ts a
  applied-makes (operation.Binary f) ws ts a = row (simple.Two f) ws ts a
  applied-makes (operation.Swapped f) ws ts a = made.row-makes forms names fs (simple.Two f) (ops.reversed ws) (reversed (types ws)) (ones ts) 1 (reversed-filled ws a) (reversed-types ws)
  applied-makes operation.Error ws ts a = row simple.Error ws ts a
  applied-makes operation.Array ws ts a = row simple.ABuild ws ts a
  applied-makes operation.EmptyArray ws ts a = row simple.ABuild (one ∷ ws) ts (tt, a)
  applied-makes operation.Stream ws ts a = row simple.ABuild (one ∷ ws) ts (tt, a)
  applied-makes operation.Fill ws ts a = row simple.AFill ws ts a
  applied-makes operation.Element ws ts a = row simple.AElement ws ts a
  applied-makes operation.Update ws ts a = row simple.AReplace ws ts a
  applied-makes operation.AddHigh ws ts a = row simple.AAddH ws ts a
  applied-makes operation.AddLow ws ts a = row simple.AAddL ws ts a
  applied-makes operation.RemoveHigh ws ts a = row simple.ARemH ws ts a
  applied-makes operation.RemoveLow ws ts a = row simple.ARemL ws ts a
  applied-makes operation.SetLow ws ts a = row simple.ASetL ws ts a
  applied-makes operation.Adjust ws ts a = row simple.AAdjust ws ts a
  applied-makes operation.LimitLow ws ts a = row simple.ALimL ws ts a
  applied-makes operation.LimitHigh ws ts a = row simple.ALimH ws ts a
  applied-makes operation.Size ws ts a = row simple.ASize ws ts a
  applied-makes operation.IsEmpty ws ts a = row simple.AIsEmpty ws ts a
  applied-makes operation.Catenate ws ts a = row simple.ACatenate ws ts a
  applied-makes operation.First ws ts a = row simple.FirstValue ws ts a
  applied-makes operation.Rest ws ts a = row simple.RestValues ws ts a
  applied-makes operation.Record ws ts a = row simple.RBuild ws ts a
  applied-makes (operation.Union tag) ws ts a =
      made.makes-as forms names fs (row_lowered simple.RBuild (absents tag ++ ws) ts) (a_node (carried (absents tag ++ ws)) (ones ts)) (a_node (types ws) (ones ts))
      (ap (λ l. a_node l (ones ts)) (absents-carried tag ws ∙ carried-is ws a)) (made.node-makes forms names fs (Row simple.RBuild) (absents tag ++ ws) 1 (ones ts) tt)
  applied-makes (operation.Field f) ws ts a = made.row-makes forms names fs simple.RElements ws (types ws) (ones ts) (suc f) a refl
  applied-makes (operation.Change places) ws ts a =
      let ins = wire_at ws 0 ∷ ops.changed 0 (suc (greatest places)) places (drop 1 ws) in
      made.makes-as forms names fs (row_lowered simple.RReplace ins ts) (a_node (carried ins) (ones ts)) (a_node (operands (operation.Change places) (types ws)) (ones ts))
      (ap (λ l. a_node l (ones ts)) (change-carried places ws a)) (made.node-makes forms names fs (Row simple.RReplace) ins 1 (ones ts) tt)
  applied-makes (operation.IsTag tag) ws ts a = is-tag-makes tag ws ts a

  -- ---- `if`

  as-inside : (g : Lowers) (t : Traces) → Becomes g t → (env : List Wire) → AreFilled env → Does (g (map into env)) (t (types env))
  as-inside g t h env a =
      made.makes-as forms names fs (g (map into env)) (t (types (map into env))) (t (types env)) (ap t (types-into env)) (h (map into env) (filled-into env a))

  selector-to : (gs : List Lowers) (ts : List Traces) → AllTo gs ts → Becomes (selector_lowered gs) (λ env. andthen (all_traced ts env) (λ cs. a_node cs (One integer ∷ [])))
  selector-to gs ts h env a =
      made.then-makes forms names fs (all_lowered gs env) (λ ws. row_lowered (simple.One unary.Int) ws (integer ∷ [])) (all_traced ts (types env)) (λ cs. a_node cs (One integer ∷ []))
      (all-to gs ts h env a) (λ ws aw. row (simple.One unary.Int) ws (integer ∷ []) aw)

  pub if-to : (test arm other : List Lowers) (xs ys zs : List Traces) (ts : List ℕ) → AllTo test xs → AllTo arm ys → AllTo other zs → Becomes (if_lowered test arm other ts) (if_traced xs ys zs ts)
  if-to test arm other xs ys zs ts hx hy hz env a n q =
      let s = new_graph (selector_lowered test (map into env)) q in
      let o = new_graph (all_lowered other (map into env)) (q + size s) in
      let b = new_graph (all_lowered arm (map into env)) (q + size s + size o) in
      let x = andthen (all_traced xs (types env)) (λ cs. a_node cs (One integer ∷ [])) in
      made.whole-makes forms names fs compound.Select (s ∷ o ∷ b ∷ []) (x ∷ all_traced zs (types env) ∷ all_traced ys (types env) ∷ []) (0 ∷ 1 ∷ 2 ∷ []) 0 ts n q tt (
        as-inside (selector_lowered test) (λ e. andthen (all_traced xs e) (λ cs. a_node cs (One integer ∷ []))) (selector-to test xs hx) env a 0 (suc q),
        (as-inside (all_lowered other) (all_traced zs) (all-to other zs hz) env a 0 (suc (q + size s)), (as-inside (all_lowered arm) (all_traced ys) (all-to arm ys hy) env a 0 (suc (q + size s + size o)), tt)),
      )

  -- ---- `tagcase`

  arm-env : (c : Case) (type arm : ℕ) (env : List Wire) → types (choices.arm_names forms c type arm env) ≡ arm_names forms c type arm (types env)
  arm-env c type arm env = by (nat_lt arm c.named)
    where
      content : Wire
      content = wire (Port 0 0 1) (One (content_of forms type (first_tag c arm)))

      by : (b : Bool) → types (if b then map into env ++ content ∷ [] else map into env) ≡ (if b then types env ++ content.ty ∷ [] else types env)
      by true = types-both (map into env) (content ∷ []) ∙ ap (λ l. l ++ content.ty ∷ []) (types-into env)
      by false = types-into env

  arm-filled : (c : Case) (type arm : ℕ) (env : List Wire) → AreFilled env → AreFilled (choices.arm_names forms c type arm env)
  arm-filled c type arm env a = by (nat_lt arm c.named)
    where
      content : Wire
      content = wire (Port 0 0 1) (One (content_of forms type (first_tag c arm)))

      by : (b : Bool) → AreFilled (if b then map into env ++ content ∷ [] else map into env)
      by true = filled-both (map into env) (content ∷ []) (filled-into env a) (tt, tt)
      by false = filled-into env a

  arms-made : (c : Case) (type arm : ℕ) (ds : List (List Lowers)) (ts : List (List Traces)) → DefsTo ds ts → (env : List Wire) → AreFilled env → (q : ℕ)
      → AreMade forms names fs (new_graphs q (arms_from forms c type arm (map all_lowered ds) env)) (arms_traced forms c type arm ts (types env))
  arms-made c type arm [] [] h env a q = tt
  arms-made c type arm [] (t ∷ ts) h env a q = absurd h
  arms-made c type arm (d ∷ ds) [] h env a q = absurd h
  arms-made c type arm (d ∷ ds) (t ∷ ts) h env a q =
      let e = choices.arm_names forms c type arm env in (
        made.makes-as forms names fs (all_lowered d e) (all_traced t (types e)) (all_traced t (arm_names forms c type arm (types env))) (ap (all_traced t) (arm-env c type arm env)) (all-to d t h.0 e (arm-filled c type arm env a)) 0 (suc q),
        arms-made c type (suc arm) ds ts h.1 env a (q + size (new_graph (all_lowered d e) q)),
      )

  pub case-makes : (c : Case) (ds : List (List Lowers)) (tr : List (List Traces)) (ts : List ℕ) (ws : List Wire) → DefsTo ds tr → AreFilled ws → (env : List Wire) → AreFilled env
      → Does (case_lowered forms c ds ts ws env) (case_traced forms c tr ts (types ws) (types env))
  case-makes c ds tr ts ws h aw env a n q =
      let u = wire_at ws 0 in
      let type = type_of u.ty in
      let ms = new_graphs q (arms_from forms c type 0 (map all_lowered ds) env) in
      let arms = arms_of c (tag_count forms type) in
      subst (λ k. Is forms names fs (graphs.tag_case_on u ms arms ts n q) (a_node (graph_lines (arms_traced forms c (type_of k) 0 tr (types env)) ++ k ∷ []) (ones ts))) (types-at ws 0)
      (made.tag-case-makes forms names fs u ms (arms_traced forms c type 0 tr (types env)) arms ts n q (filled-at ws 0 aw) (arms-made c type 0 ds tr h env a q))
