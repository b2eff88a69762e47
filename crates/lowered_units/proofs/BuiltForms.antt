-- Lists of phrases, definitions, names, constants, operations and choices, as they are made.
use Rattle.std.proofs.Common.{◌≡◌, ℕ, zero, suc, ◌+◌, ◌<◌, ◌≤◌, ◌⊎◌, inl, inr, Bool, true, false, List, [], ◌∷◌, ◌++◌, map, length, slice_get, Some, refl, sym, ap, subst, ◌∙◌, arith}
use Rattle.std.specs.Prelude.{All, if◌then◌else◌, nat_eq, nat_lt, pos}
use Rattle.std.proofs.lemmas.List.{length-map, length-append}
use Rattle.std.proofs.lemmas.List.Elements.{All-nil, All-cons}
use Rattle.std.proofs.lemmas.Option.{slice_get_within}
use Rattle.std.proofs.lemmas.Bool.{eq-eqb}
use Rattle.std.proofs.lemmas.Bool.Decides.{leb_tells}
use Rattle.flow_value.specs.declared.operation.Scalar1.TheVariants as unary
use Rattle.if1_graph.specs.declared.op.Simple.{Simple}
use Rattle.if1_graph.specs.declared.op.Simple.TheVariants as simple
use Rattle.if1_graph.specs.declared.op.Compound.TheVariants as compound
use Rattle.if1_graph.specs.Units.{greatest}
use Rattle.sisal_tree.specs.declared.expr.Constant.{Constant}
use Rattle.sisal_tree.specs.declared.expr.Constant.TheVariants as constant
use Rattle.type_table.specs.declared.form.Form.{Form}
use Rattle.type_table.specs.declared.form.Form.TheVariants as form
use Rattle.typed_tree.specs.declared.expr.Case.{Case}
use Rattle.value_ops.specs.declared.operation.Operation.{Operation}
use Rattle.value_ops.specs.declared.operation.Operation.TheVariants as operation
use Rattle.lowering.specs.declared.feed.Feed.TheVariants.{Literal, Port}
use Rattle.lowering.specs.declared.feed.Carried.TheVariants.{One}
use Rattle.lowering.specs.declared.feed.Wire.{Wire}
use Rattle.lowering.specs.Feeds.{wire, into}
use Rattle.lowering.specs.declared.graph.Action.TheVariants.{Row}
use Rattle.lowering.specs.Graphs.{Lowering, only, andthen, size, new_graph, new_graphs}
use Rattle.lowering.specs.Operations.{Lowers, boolean, character, integer, one, all_lowered, defs_lowered, body_lowered, wire_at, row_lowered, constant_lowered, absents, reversed, field_lowered, at_place, changed, operation_lowered}
use Rattle.lowering.specs.Choices.{element_of, content_of, type_of, tag_count, selector_lowered, if_lowered, tag_case, arms_of, arm_names, arms_from, case_lowered, first_tag, two_arms, truth, is_tag_lowered}
use Rattle.lowered_units.proofs.Built.{IsConstantOf, IsPlainRow, counts, AreParts, IsValueType, AreTypes, IsGoodFeed, IsGood, AreGood, IsGap, AreFilled, Fills, fills_row, fills_reduction, fills_call, Built, b_whole, b_tag, AllBuilt, no_graph, a_graph, Gives, To, AllTo, to_none, to_more}
use Rattle.lowered_units.proofs.Built as built

-- what the table of types has, and that each type's parts are there
pub record HasBasics (forms : List Form) : Type 0 where
  pub booleans : slice_get forms 0 ≡ Some form.Boolean
  pub characters : slice_get forms 1 ≡ Some form.Character
  pub integers : slice_get forms 2 ≡ Some form.Integer
  pub nulls : slice_get forms 3 ≡ Some form.Null
  pub elements : (t : ℕ) → element_of forms t < length forms
  pub contents : (t tag : ℕ) → content_of forms t tag < length forms

-- definitions, with how many names they bring into force
pub data DefsTo (forms : List Form) (functions : ℕ) : List (List Lowers) → ℕ → Type 0 where
  to_no_def : DefsTo forms functions [] 0
  to_def : (d : List Lowers) (ds : List (List Lowers)) (j k : ℕ) → AllTo forms functions d j → DefsTo forms functions ds k → DefsTo forms functions (d ∷ ds) (j + k)

module _ (forms : List Form) (functions : ℕ) (basics : HasBasics forms) where
  -- ---- counts

  pub gives-as : (j k : ℕ) (f : Lowering) → j ≡ k → Gives forms functions j f → Gives forms functions k f
  gives-as j k f e g = subst (λ i. Gives forms functions i f) e g

  pub boolean-in : 0 < length forms
  boolean-in = slice_get_within forms 0 form.Boolean basics.booleans

  pub integer-in : 2 < length forms
  integer-in = slice_get_within forms 2 form.Integer basics.integers

  -- ---- lists

  pub all-to : (gs : List Lowers) (k : ℕ) → AllTo forms functions gs k → To forms functions k (all_lowered gs)
  all-to _ _ to_none env a = built.only-gives forms functions [] tt
  all-to _ _ (to_more g gs j k h r) env a =
      built.then-gives forms functions j (j + k) (g env) (λ vs. andthen (all_lowered gs env) (λ ws. only (vs ++ ws))) (h env a)
      (λ vs gv lv. built.then-gives forms functions k (j + k) (all_lowered gs env) (λ ws. only (vs ++ ws)) (all-to gs k r env a)
      (λ ws gw lw. gives-as (length (vs ++ ws)) (j + k) (only (vs ++ ws)) (omega (arith, length-append vs ws, lv, lw)) (built.only-gives forms functions (vs ++ ws) (built.good-both forms functions vs ws gv gw))))

  pub defs-to : (ds : List (List Lowers)) (k : ℕ) → DefsTo forms functions ds k → (env : List Wire) → AreGood forms functions env → Gives forms functions (length env + k) (defs_lowered ds env)
  defs-to _ _ to_no_def env a = gives-as (length env) (length env + 0) (only env) (omega arith) (built.only-gives forms functions env a)
  defs-to _ _ (to_def d ds j k h r) env a =
      built.then-gives forms functions j (length env + (j + k)) (all_lowered d env) (λ vs. defs_lowered ds (env ++ vs)) (all-to d j h env a)
      (λ vs gv lv. gives-as (length (env ++ vs) + k) (length env + (j + k)) (defs_lowered ds (env ++ vs)) (omega (arith, length-append env vs, lv)) (defs-to ds k r (env ++ vs) (built.good-both forms functions env vs a gv)))

  pub body-to : (ds : List (List Lowers)) (gs : List Lowers) (j k : ℕ) → DefsTo forms functions ds j → AllTo forms functions gs k → To forms functions k (body_lowered ds gs)
  body-to ds gs j k d h env a =
      built.then-gives forms functions (length env + j) k (defs_lowered ds env) (all_lowered gs) (defs-to ds j d env a) (λ e ge le. all-to gs k h e ge)

  -- ---- names and constants

  pub wire-good : (env : List Wire) (x : ℕ) → AreGood forms functions env → IsGood forms functions (wire_at env x)
  wire-good [] x a = (slice_get_within forms 3 form.Null basics.nulls, subst (IsConstantOf constant.Nil) (sym basics.nulls) tt)
  wire-good (w ∷ env) zero a = a.0
  wire-good (w ∷ env) (suc x) a = wire-good env x a.1

  pub one-good : IsGood forms functions one
  one-good = (integer-in, subst (IsConstantOf (constant.Integer (pos 1))) (sym basics.integers) refl)

  pub row-to : (op : Simple) (ws : List Wire) (ts : List ℕ) → IsPlainRow op → AreFilled forms functions ws → AreTypes forms functions (map One ts) → Gives forms functions (length ts) (row_lowered op ws ts)
  row-to op ws ts p h k =
      gives-as (length (map One ts)) (length ts) (row_lowered op ws ts) (length-map ts One)
      (built.node-gives forms functions (Row op) ws 1 (map One ts) (fills_row op ws p h) (omega arith) k)

  good-row : (op : Simple) (ws : List Wire) (ts : List ℕ) → IsPlainRow op → AreGood forms functions ws → AreTypes forms functions (map One ts) → Gives forms functions (length ts) (row_lowered op ws ts)
  good-row op ws ts p h k = row-to op ws ts p (built.good-filled forms functions ws h) k

  letters-good : (s : List ℕ) → All (λ c. c < 128) s → AreGood forms functions (map (λ c. wire (Literal (constant.Letter c)) (One character)) s)
  letters-good [] h = tt
  letters-good (c ∷ s) h =
      ((slice_get_within forms 1 form.Character basics.characters, subst (IsConstantOf (constant.Letter c)) (sym basics.characters) (h 0 c (omega arith))), letters-good s (λ k d i. h (suc k) d (omega (arith, i))))

  pub text-to : (s : List ℕ) (ts : List ℕ) → All (λ c. c < 128) s → AreTypes forms functions (map One ts) → Gives forms functions (length ts) (constant_lowered (constant.Quoted s) ts)
  text-to s ts h k = good-row simple.ABuild (one ∷ map (λ c. wire (Literal (constant.Letter c)) (One character)) s) ts tt (one-good, letters-good s h) k

  -- ---- operations

  reversed-good : (ws : List Wire) → AreGood forms functions ws → AreGood forms functions (reversed ws)
  reversed-good [] h = tt
  reversed-good (w ∷ ws) h = built.good-both forms functions (reversed ws) (w ∷ []) (reversed-good ws h.1) (h.0, tt)

  -- the content of a union behind gaps
  behind-gaps : (n : ℕ) (w : Wire) (ws : List Wire) → AreGood forms functions (w ∷ ws) → AreFilled forms functions (absents n ++ w ∷ ws)
  behind-gaps zero w ws h = built.good-filled forms functions (w ∷ ws) h
  behind-gaps (suc zero) w ws h = (inr tt, built.good-filled forms functions (w ∷ ws) h)
  behind-gaps (suc (suc n)) w ws h = (inr tt, behind-gaps (suc n) w ws h)

  Place : ℕ → List ℕ → List Wire → Type 0
  Place p xs ws = IsGood forms functions (at_place p xs ws)

  -- what fills a port of a changed field, or nothing
  maybe-place : (p : ℕ) (xs : List ℕ) (ws : List Wire) → AreGood forms functions ws → IsGood forms functions (at_place p xs ws) ⊎ IsGap (at_place p xs ws).feed
  maybe-place p [] ws h = inr tt
  maybe-place p (x ∷ xs) [] h = inr tt
  maybe-place p (x ∷ xs) (w ∷ ws) h = by (nat_eq x p) (maybe-place p xs ws h.1)
    where
      by : (b : Bool) → IsGood forms functions (at_place p xs ws) ⊎ IsGap (at_place p xs ws).feed → IsGood forms functions (if b then w else at_place p xs ws) ⊎ IsGap (if b then w else at_place p xs ws).feed
      by true r = inl h.0
      by false r = r

  -- a place that is named is filled
  named-place : (p : ℕ) (xs : List ℕ) (ws : List Wire) → AreGood forms functions ws → length xs ≤ length ws → (k : ℕ) → slice_get xs k ≡ Some p → IsGood forms functions (at_place p xs ws)
  named-place p [] ws h l k e = absurd cc
  named-place p (x ∷ xs) [] h l k e = absurd (omega (arith, l))
  named-place p (x ∷ xs) (w ∷ ws) h l zero e = subst (λ b. IsGood forms functions (if b then w else at_place p xs ws)) (sym (eq-eqb x p (same e))) h.0
    where
      same : Some x ≡ Some p → x ≡ p
      same e = cc
  named-place p (x ∷ xs) (w ∷ ws) h l (suc k) e = by (nat_eq x p) (named-place p xs ws h.1 (omega (arith, l)) k e)
    where
      by : (b : Bool) → IsGood forms functions (at_place p xs ws) → IsGood forms functions (if b then w else at_place p xs ws)
      by true r = h.0
      by false r = r

  -- the greatest of a list stands in it
  greatest-there : (x : ℕ) (xs : List ℕ) → (k : ℕ) × (slice_get (x ∷ xs) k ≡ Some (greatest (x ∷ xs)))
  greatest-there x [] = (0, ap Some (omega arith))
  greatest-there x (y ∷ ys) =
      let rest = greatest-there y ys in
      elim (leb_tells x (greatest (y ∷ ys))) [
        | inl e ↦ (suc rest.0, rest.1 ∙ ap Some (omega (arith, e.1)))
        | inr e ↦ (0, ap Some (omega (arith, e.1)))
      ]

  changed-filled : (p count : ℕ) (xs : List ℕ) (ws : List Wire) → AreGood forms functions ws → IsGood forms functions (at_place (p + count) xs ws) → AreFilled forms functions (changed p (suc count) xs ws)
  changed-filled p zero xs ws h l = subst (λ z. IsGood forms functions (at_place z xs ws)) (omega arith) l
  changed-filled p (suc count) xs ws h l =
      (maybe-place p xs ws h, changed-filled (suc p) count xs ws h (subst (λ z. IsGood forms functions (at_place z xs ws)) (omega arith) l))

  filled-behind : (w v : Wire) (vs : List Wire) → IsGood forms functions w → AreFilled forms functions (v ∷ vs) → AreFilled forms functions (w ∷ v ∷ vs)
  filled-behind w v vs h k = (inl h, k)

  changes-filled : (w : Wire) (x : ℕ) (xs : List ℕ) (ws : List Wire) → IsGood forms functions w → AreGood forms functions ws → length (x ∷ xs) ≤ length ws → AreFilled forms functions (w ∷ changed 0 (suc (greatest (x ∷ xs))) (x ∷ xs) ws)
  changes-filled w x xs ws h a l =
      let top = greatest-there x xs in
      filled-behind w (at_place 0 (x ∷ xs) ws) (changed 1 (greatest (x ∷ xs)) (x ∷ xs) ws) h
      (changed-filled 0 (greatest (x ∷ xs)) (x ∷ xs) ws a (subst (λ z. IsGood forms functions (at_place z (x ∷ xs) ws)) (omega arith) (named-place (greatest (x ∷ xs)) (x ∷ xs) ws a l top.0 top.1)))

  -- what an operation asks of its operands
  abbrev pub AreOperands : Operation → List Wire → Type 0
  AreOperands (operation.Union tag) ws = 1 ≤ length ws
  AreOperands (operation.Change []) ws = ⊥
  AreOperands (operation.Change (x ∷ xs)) ws = suc (length (x ∷ xs)) ≤ length ws
  AreOperands (operation.IsTag tag) ws = ⊥
  AreOperands op ws = Unit {0}

  pub operation-to : (op : Operation) (ws : List Wire) (ts : List ℕ) → AreOperands op ws → AreGood forms functions ws → AreTypes forms functions (map One ts) → Gives forms functions (length ts) (operation_lowered op ws ts)
  operation-to (operation.Unary f) ws ts o h k = good-row (simple.One f) ws ts tt h k
  operation-to (operation.Binary f) ws ts o h k = good-row (simple.Two f) ws ts tt h k
  operation-to (operation.Swapped f) ws ts o h k = good-row (simple.Two f) (reversed ws) ts tt (reversed-good ws h) k
  operation-to operation.Error ws ts o h k = good-row simple.Error ws ts tt h k
  operation-to operation.Array ws ts o h k = good-row simple.ABuild ws ts tt h k
  operation-to operation.EmptyArray ws ts o h k = good-row simple.ABuild (one ∷ ws) ts tt (one-good, h) k
  operation-to operation.Stream ws ts o h k = good-row simple.ABuild (one ∷ ws) ts tt (one-good, h) k
  operation-to operation.Fill ws ts o h k = good-row simple.AFill ws ts tt h k
  operation-to operation.Element ws ts o h k = good-row simple.AElement ws ts tt h k
  operation-to operation.Update ws ts o h k = good-row simple.AReplace ws ts tt h k
  operation-to operation.AddHigh ws ts o h k = good-row simple.AAddH ws ts tt h k
  operation-to operation.AddLow ws ts o h k = good-row simple.AAddL ws ts tt h k
  operation-to operation.RemoveHigh ws ts o h k = good-row simple.ARemH ws ts tt h k
  operation-to operation.RemoveLow ws ts o h k = good-row simple.ARemL ws ts tt h k
  operation-to operation.SetLow ws ts o h k = good-row simple.ASetL ws ts tt h k
  operation-to operation.Adjust ws ts o h k = good-row simple.AAdjust ws ts tt h k
  operation-to operation.LimitLow ws ts o h k = good-row simple.ALimL ws ts tt h k
  operation-to operation.LimitHigh ws ts o h k = good-row simple.ALimH ws ts tt h k
  operation-to operation.Size ws ts o h k = good-row simple.ASize ws ts tt h k
  operation-to operation.IsEmpty ws ts o h k = good-row simple.AIsEmpty ws ts tt h k
  operation-to operation.Catenate ws ts o h k = good-row simple.ACatenate ws ts tt h k
  operation-to operation.First ws ts o h k = good-row simple.FirstValue ws ts tt h k
  operation-to operation.Rest ws ts o h k = good-row simple.RestValues ws ts tt h k
  operation-to operation.Record ws ts o h k = good-row simple.RBuild ws ts tt h k
  operation-to (operation.Union tag) [] ts o h k = absurd (omega (arith, o))
  operation-to (operation.Union tag) (w ∷ ws) ts o h k = row-to simple.RBuild (absents tag ++ w ∷ ws) ts tt (behind-gaps tag w ws h) k
  operation-to (operation.Field f) ws ts o h k =
      gives-as (length (map One ts)) (length ts) (field_lowered f ws ts) (length-map ts One)
      (built.node-gives forms functions (Row simple.RElements) ws (suc f) (map One ts) (fills_row simple.RElements ws tt (built.good-filled forms functions ws h)) (omega arith) k)
  operation-to (operation.Change []) ws ts o h k = absurd o
  operation-to (operation.Change (x ∷ xs)) [] ts o h k = absurd (omega (arith, o))
  operation-to (operation.Change (x ∷ xs)) (w ∷ ws) ts o h k =
      row-to simple.RReplace (w ∷ changed 0 (suc (greatest (x ∷ xs))) (x ∷ xs) ws) ts tt (changes-filled w x xs ws h.0 h.1 (omega (arith, o))) k
  operation-to (operation.IsTag tag) ws ts o h k = absurd o

  -- ---- graphs

  -- lowerings that each give so many values
  pub data EachGives : ℕ → List Lowering → Type 0 where
    gives_none : {k : ℕ} → EachGives k []
    gives_more : {k : ℕ} (f : Lowering) (fs : List Lowering) → Gives forms functions k f → EachGives k fs → EachGives k (f ∷ fs)

  pub graphs-built : (k : ℕ) (fs : List Lowering) (q : ℕ) → EachGives k fs → AllBuilt forms functions q (new_graphs q fs)
  graphs-built k _ q gives_none = no_graph q
  graphs-built k _ q (gives_more f fs h r) =
      a_graph q (new_graph f q) (new_graphs (q + size (new_graph f q)) fs) (h 0 (suc q)).0 (graphs-built k fs (q + size (new_graph f q)) r)

  pub graphs-count : (k : ℕ) (fs : List Lowering) (q : ℕ) → EachGives k fs → All (λ j. j ≡ k) (counts (new_graphs q fs))
  graphs-count k _ q gives_none = All-nil (λ j. j ≡ k)
  graphs-count k _ q (gives_more f fs h r) =
      All-cons (λ j. j ≡ k) (length (new_graph f q).values) (counts (new_graphs (q + size (new_graph f q)) fs)) (h 0 (suc q)).1 (graphs-count k fs (q + size (new_graph f q)) r)

  pub length-graphs : (q : ℕ) (fs : List Lowering) → length (new_graphs q fs) ≡ length fs
  length-graphs q [] = refl
  length-graphs q (f ∷ fs) = ap suc (length-graphs (q + size (new_graph f q)) fs)

  pub tag-case-to : (u : Wire) (f : Lowering) (fs : List Lowering) (arms ts : List ℕ) → IsGood forms functions u → EachGives (length ts) (f ∷ fs)
      → All (λ k. k ≤ length (f ∷ fs)) arms → AreTypes forms functions (map One ts) → Gives forms functions (length ts) (tag_case u (f ∷ fs) arms ts)
  tag-case-to u _ _ arms ts g (gives_more f fs h r) l k n q =
      let ms = new_graphs (q + size (new_graph f q)) fs in (
        b_tag n q u (new_graph f q ∷ ms) arms ts g (graphs-built (length ts) (f ∷ fs) q (gives_more f fs h r)) ((h 0 (suc q)).1, graphs-count (length ts) fs (q + size (new_graph f q)) r)
            (subst (λ z. All (λ k. k ≤ z) arms) (ap suc (sym (length-graphs (q + size (new_graph f q)) fs))) l) k,
        built.length-ports forms functions (suc n) 1 (map One ts) ∙ length-map ts One,
      )

  -- ---- choices

  pub numbers-within : (k n : ℕ) → k ≤ n → (ks : List ℕ) → All (λ k. k ≤ n) ks → All (λ k. k ≤ n) (k ∷ ks)
  numbers-within k n h ks a = All-cons (λ k. k ≤ n) k ks h a

  pub selector-to : (ts : List Lowers) (k : ℕ) → AllTo forms functions ts k → To forms functions 1 (selector_lowered ts)
  selector-to ts k h env a =
      built.then-gives forms functions k 1 (all_lowered ts env) (λ ws. row_lowered (simple.One unary.Int) ws (integer ∷ [])) (all-to ts k h env a)
      (λ ws gw lw. good-row (simple.One unary.Int) ws (integer ∷ []) tt gw (integer-in, tt))

  pub if-to : (test one other : List Lowers) (j : ℕ) (ts : List ℕ) → AllTo forms functions test j → AllTo forms functions one (length ts) → AllTo forms functions other (length ts)
      → AreTypes forms functions (map One ts) → To forms functions (length ts) (if_lowered test one other ts)
  if-to test one other j ts t o e k env a n q =
      let inner = built.good-into forms functions env a in
      let s = new_graph (selector_lowered test (map into env)) q in
      let x = new_graph (all_lowered other (map into env)) (q + size s) in
      let y = new_graph (all_lowered one (map into env)) (q + size s + size x) in
      let sh = selector-to test j t (map into env) inner 0 (suc q) in
      let xh = all-to other (length ts) e (map into env) inner 0 (suc (q + size s)) in
      let yh = all-to one (length ts) o (map into env) inner 0 (suc (q + size s + size x)) in (
        b_whole n q compound.Select (s ∷ x ∷ y ∷ []) (0 ∷ 1 ∷ 2 ∷ []) 0 ts
            (a_graph q s (x ∷ y ∷ []) sh.0 (a_graph (q + size s) x (y ∷ []) xh.0 (a_graph (q + size s + size x) y [] yh.0 (no_graph (q + size s + size x + size y)))))
            (xh.1, yh.1)
            (numbers-within 0 3 (omega arith) (1 ∷ 2 ∷ []) (numbers-within 1 3 (omega arith) (2 ∷ []) (numbers-within 2 3 (omega arith) [] (All-nil (λ k. k ≤ 3)))))
            k,
        built.length-ports forms functions (suc n) 1 (map One ts) ∙ length-map ts One,
      )

  -- phrases that each give so many values
  pub data EachTo : ℕ → List Lowers → Type 0 where
    each_none : {k : ℕ} → EachTo k []
    each_more : {k : ℕ} (g : Lowers) (gs : List Lowers) → To forms functions k g → EachTo k gs → EachTo k (g ∷ gs)

  arm-good : (c : Case) (type arm : ℕ) (env : List Wire) → AreGood forms functions env → AreGood forms functions (arm_names forms c type arm env)
  arm-good c type arm env a = by (nat_lt arm c.named)
    where
      by : (b : Bool) → AreGood forms functions (if b then map into env ++ wire (Port 0 0 1) (One (content_of forms type (first_tag c arm))) ∷ [] else map into env)
      by true = built.good-both forms functions (map into env) (wire (Port 0 0 1) (One (content_of forms type (first_tag c arm))) ∷ []) (built.good-into forms functions env a) ((omega arith, basics.contents type (first_tag c arm)), tt)
      by false = built.good-into forms functions env a

  pub arms-give : (c : Case) (type k arm : ℕ) (gs : List Lowers) → EachTo k gs → (env : List Wire) → AreGood forms functions env → EachGives k (arms_from forms c type arm gs env)
  arms-give c type k arm _ each_none env a = gives_none
  arms-give c type k arm _ (each_more g gs h r) env a =
      gives_more (g (arm_names forms c type arm env)) (arms_from forms c type (suc arm) gs env) (h (arm_names forms c type arm env) (arm-good c type arm env a)) (arms-give c type k (suc arm) gs r env a)

  length-arms : (c : Case) (type arm : ℕ) (gs : List Lowers) (env : List Wire) → length (arms_from forms c type arm gs env) ≡ length gs
  length-arms c type arm [] env = refl
  length-arms c type arm (g ∷ gs) env = ap suc (length-arms c type (suc arm) gs env)

  pub case-to : (c : Case) (arms : List (List Lowers)) (ts : List ℕ) (ws : List Wire) → AreGood forms functions ws → EachTo (length ts) (map all_lowered arms) → 1 ≤ length arms
      → All (λ k. k ≤ length arms) (arms_of c (tag_count forms (type_of (wire_at ws 0).ty))) → AreTypes forms functions (map One ts) → To forms functions (length ts) (case_lowered forms c arms ts ws)
  case-to c [] ts ws g e one l k env a = absurd (omega (arith, one))
  case-to c (x ∷ arms) ts ws g e one l k env a =
      let type = type_of (wire_at ws 0).ty in
      let rest = arms_from forms c type 1 (map all_lowered arms) env in
      tag-case-to (wire_at ws 0) (all_lowered x (arm_names forms c type 0 env)) rest (arms_of c (tag_count forms type)) ts (wire-good ws 0 g)
      (arms-give c type (length ts) 0 (map all_lowered (x ∷ arms)) e env a)
      (subst (λ z. All (λ k. k ≤ z) (arms_of c (tag_count forms type))) (ap suc (sym (length-arms c type 1 (map all_lowered arms) env ∙ length-map arms all_lowered))) l) k

  two-within : (tag at count : ℕ) → All (λ k. k ≤ 2) (two_arms forms tag at count)
  two-within tag at zero = All-nil (λ k. k ≤ 2)
  two-within tag at (suc count) = numbers-within (if nat_eq at tag then 0 else 1) 2 (by (nat_eq at tag)) (two_arms forms tag (suc at) count) (two-within tag (suc at) count)
    where
      by : (b : Bool) → (if b then 0 else 1) ≤ 2
      by true = omega arith
      by false = omega arith

  pub is-tag-to : (tag : ℕ) (ws : List Wire) (t : ℕ) → AreGood forms functions ws → AreTypes forms functions (One t ∷ []) → Gives forms functions 1 (is_tag_lowered forms tag ws (t ∷ []))
  is-tag-to tag ws t g k =
      tag-case-to (wire_at ws 0) (truth forms constant.True) (truth forms constant.False ∷ []) (two_arms forms tag 0 (tag_count forms (type_of (wire_at ws 0).ty))) (t ∷ []) (wire-good ws 0 g)
      (gives_more (truth forms constant.True) (truth forms constant.False ∷ []) (literal constant.True tt) (gives_more (truth forms constant.False) [] (literal constant.False tt) gives_none))
      (two-within tag 0 (tag_count forms (type_of (wire_at ws 0).ty))) k
    where
      literal : (c : Constant) → IsConstantOf c (Some form.Boolean) → Gives forms functions 1 (truth forms c)
      literal c h = built.only-gives forms functions (wire (Literal c) (One boolean) ∷ []) ((boolean-in, subst (IsConstantOf c) (sym basics.booleans) h), tt)
