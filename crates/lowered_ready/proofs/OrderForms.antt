-- Each form of phrase keeps the order of its parts: names, operations, clauses and the forms that choose.
use Rattle.std.proofs.Common.{ℕ, zero, suc, ◌+◌, ◌≤◌, Bool, true, false, List, [], ◌∷◌, ◌++◌, map, drop, arith}
use Rattle.std.specs.Prelude.{if◌then◌else◌, nat_eq, nat_lt, slice_set}
use Rattle.flow_value.specs.declared.operation.Scalar1.TheVariants as unary
use Rattle.if1_graph.specs.declared.op.Simple.{Simple}
use Rattle.if1_graph.specs.declared.op.Simple.TheVariants as simple
use Rattle.if1_graph.specs.declared.op.Compound.TheVariants as compound
use Rattle.if1_graph.specs.Units.{greatest}
use Rattle.sisal_tree.specs.declared.expr.Constant.{Constant}
use Rattle.sisal_tree.specs.declared.expr.Constant.TheVariants as constant
use Rattle.type_table.specs.declared.form.Form.{Form}
use Rattle.typed_tree.specs.declared.expr.Case.{Case}
use Rattle.value_ops.specs.declared.operation.Operation.{Operation}
use Rattle.value_ops.specs.declared.operation.Operation.TheVariants as operation
use Rattle.lowering.specs.declared.feed.Feed.TheVariants.{Literal, Port}
use Rattle.lowering.specs.declared.feed.Carried.TheVariants.{One}
use Rattle.lowering.specs.declared.feed.Wire.{Wire}
use Rattle.lowering.specs.Feeds.{wire, into}
use Rattle.lowering.specs.declared.graph.Action.TheVariants.{Row, Call}
use Rattle.lowering.specs.Graphs.{Lowering, only, andthen, a_node, size, new_graph, new_graphs}
use Rattle.lowering.specs.Operations.{Lowers, boolean, character, integer, one, all_lowered, defs_lowered, body_lowered, wire_at, row_lowered, constant_lowered, absents, reversed, at_place, changed, operation_lowered}
use Rattle.lowering.specs.Choices.{content_of, tag_count, type_of, first_tag, selector_lowered, if_lowered, tag_case, arms_of, arms_from, case_lowered, two_arms, truth, is_tag_lowered, applied}
use Rattle.lowering.specs.Phrases.{call_lowered}
use Rattle.lowered_ready.proofs.Before.{IsBefore, AreBefore, Orders, AllOrder}
use Rattle.lowered_ready.proofs.Before as before

-- where names stand before
abbrev pub OrdersTo : Lowers → Type 0
OrdersTo g = (ns : List ℕ) (k : ℕ) (env : List Wire) → AreBefore (k ∷ ns) env → Orders ns k (g env)

abbrev pub EachOrder : List Lowers → Type 0
EachOrder [] = Unit {0}
EachOrder (g ∷ gs) = OrdersTo g × EachOrder gs

abbrev pub ListsOrder : List (List Lowers) → Type 0
ListsOrder [] = Unit {0}
ListsOrder (d ∷ ds) = EachOrder d × ListsOrder ds

-- ---- wires

pub at-before : (ns : List ℕ) (env : List Wire) (x : ℕ) → AreBefore ns env → IsBefore ns (wire_at env x).feed
at-before ns [] x h = tt
at-before ns (w ∷ env) zero h = h.0
at-before ns (w ∷ env) (suc x) h = at-before ns env x h.1

pub drop-before : (ns : List ℕ) (k : ℕ) (ws : List Wire) → AreBefore ns ws → AreBefore ns (drop k ws)
drop-before ns zero ws h = h
drop-before ns (suc k) [] h = h
drop-before ns (suc k) (w ∷ ws) h = drop-before ns k ws h.1

pub set-before : (ns : List ℕ) (ws : List Wire) (k : ℕ) (w : Wire) → AreBefore ns ws → IsBefore ns w.feed → AreBefore ns (slice_set ws k w)
set-before ns [] k w a b = a
set-before ns (v ∷ vs) zero w a b = (b, a.1)
set-before ns (v ∷ vs) (suc k) w a b = (a.0, set-before ns vs k w a.1 b)

-- ---- lists

pub all-order : (gs : List Lowers) → EachOrder gs → OrdersTo (all_lowered gs)
all-order [] h ns k env a = before.only-orders ns k [] tt
all-order (g ∷ gs) h ns k env a =
    before.then-orders ns k (g env) (λ vs. andthen (all_lowered gs env) (λ ws. only (vs ++ ws))) (h.0 ns k env a)
    (λ j l vs v. before.then-orders ns j (all_lowered gs env) (λ ws. only (vs ++ ws)) (all-order gs h.1 ns j env (before.later ns k j l env a))
    (λ i m ws w. before.only-orders ns i (vs ++ ws) (before.both (i ∷ ns) vs ws (before.later ns j i m vs v) w)))

pub defs-order : (ds : List (List Lowers)) → ListsOrder ds → OrdersTo (defs_lowered ds)
defs-order [] h ns k env a = before.only-orders ns k env a
defs-order (d ∷ ds) h ns k env a =
    before.then-orders ns k (all_lowered d env) (λ vs. defs_lowered ds (env ++ vs)) (all-order d h.0 ns k env a)
    (λ j l vs v. defs-order ds h.1 ns j (env ++ vs) (before.both (j ∷ ns) env vs (before.later ns k j l env a) v))

pub body-order : (ds : List (List Lowers)) (gs : List Lowers) → ListsOrder ds → EachOrder gs → OrdersTo (body_lowered ds gs)
body-order ds gs d h ns k env a = before.then-orders ns k (defs_lowered ds env) (all_lowered gs) (defs-order ds d ns k env a) (λ j l e b. all-order gs h ns j e b)

-- ---- names, constants and operations

pub name-orders : (x : ℕ) → OrdersTo (λ env. only (wire_at env x ∷ []))
name-orders x ns k env a = before.only-orders ns k (wire_at env x ∷ []) (at-before (k ∷ ns) env x a, tt)

pub row-orders : (ns : List ℕ) (k : ℕ) (op : Simple) (ws : List Wire) (ts : List ℕ) → AreBefore (k ∷ ns) ws → Orders ns k (row_lowered op ws ts)
row-orders ns k op ws ts h = before.node-orders ns k (Row op) ws 1 (map One ts) h

literals-before : (ns : List ℕ) (c : Constant) (ts : List ℕ) → AreBefore ns (map (λ t. wire (Literal c) (One t)) ts)
literals-before ns c [] = tt
literals-before ns c (t ∷ ts) = (tt, literals-before ns c ts)

letters-before : (ns : List ℕ) (s : List ℕ) → AreBefore ns (map (λ c. wire (Literal (constant.Letter c)) (One character)) s)
letters-before ns [] = tt
letters-before ns (c ∷ s) = (tt, letters-before ns s)

pub constant-orders : (c : Constant) (ts : List ℕ) → OrdersTo (λ env. constant_lowered c ts)
constant-orders (constant.Quoted s) ts ns k env a = row-orders ns k simple.ABuild (one ∷ map (λ c. wire (Literal (constant.Letter c)) (One character)) s) ts (tt, letters-before (k ∷ ns) s)
constant-orders (constant.Integer n) ts ns k env a = before.only-orders ns k _ (literals-before (k ∷ ns) (constant.Integer n) ts)
constant-orders (constant.Letter c) ts ns k env a = before.only-orders ns k _ (literals-before (k ∷ ns) (constant.Letter c) ts)
constant-orders constant.True ts ns k env a = before.only-orders ns k _ (literals-before (k ∷ ns) constant.True ts)
constant-orders constant.False ts ns k env a = before.only-orders ns k _ (literals-before (k ∷ ns) constant.False ts)
constant-orders constant.Nil ts ns k env a = before.only-orders ns k _ (literals-before (k ∷ ns) constant.Nil ts)

pub call-orders : (f : ℕ) (gs : List Lowers) (ts : List ℕ) → EachOrder gs → OrdersTo (call_lowered f gs ts)
call-orders f gs ts h ns k env a =
    before.then-orders ns k (all_lowered gs env) (λ ws. a_node (Call f) ws 1 (map One ts)) (all-order gs h ns k env a) (λ j l ws w. before.node-orders ns j (Call f) ws 1 (map One ts) w)

reversed-before : (ns : List ℕ) (ws : List Wire) → AreBefore ns ws → AreBefore ns (reversed ws)
reversed-before ns [] h = tt
reversed-before ns (w ∷ ws) h = before.both ns (reversed ws) (w ∷ []) (reversed-before ns ws h.1) (h.0, tt)

absents-before : (ns : List ℕ) (n : ℕ) → AreBefore ns (absents n)
absents-before ns zero = tt
absents-before ns (suc n) = (tt, absents-before ns n)

place-before : (ns : List ℕ) (p : ℕ) (xs : List ℕ) (ws : List Wire) → AreBefore ns ws → IsBefore ns (at_place p xs ws).feed
place-before ns p [] ws h = tt
place-before ns p (x ∷ xs) [] h = tt
place-before ns p (x ∷ xs) (w ∷ ws) h = by (nat_eq x p) (place-before ns p xs ws h.1)
  where
    by : (b : Bool) → IsBefore ns (at_place p xs ws).feed → IsBefore ns (if b then w else at_place p xs ws).feed
    by true r = h.0
    by false r = r

changed-before : (ns : List ℕ) (p count : ℕ) (xs : List ℕ) (ws : List Wire) → AreBefore ns ws → AreBefore ns (changed p count xs ws)
changed-before ns p zero xs ws h = tt
changed-before ns p (suc count) xs ws h = (place-before ns p xs ws h, changed-before ns (suc p) count xs ws h)

pub operation-orders : (ns : List ℕ) (k : ℕ) (op : Operation) (ws : List Wire) (ts : List ℕ) → AreBefore (k ∷ ns) ws → Orders ns k (operation_lowered op ws ts)
operation-orders ns k (operation.Unary f) ws ts h = row-orders ns k (simple.One f) ws ts h
operation-orders ns k (operation.Binary f) ws ts h = row-orders ns k (simple.Two f) ws ts h
operation-orders ns k (operation.Swapped f) ws ts h = row-orders ns k (simple.Two f) (reversed ws) ts (reversed-before (k ∷ ns) ws h)
operation-orders ns k operation.Error ws ts h = row-orders ns k simple.Error ws ts h
operation-orders ns k operation.Array ws ts h = row-orders ns k simple.ABuild ws ts h
operation-orders ns k operation.EmptyArray ws ts h = row-orders ns k simple.ABuild (one ∷ ws) ts (tt, h)
operation-orders ns k operation.Stream ws ts h = row-orders ns k simple.ABuild (one ∷ ws) ts (tt, h)
operation-orders ns k operation.Fill ws ts h = row-orders ns k simple.AFill ws ts h
operation-orders ns k operation.Element ws ts h = row-orders ns k simple.AElement ws ts h
operation-orders ns k operation.Update ws ts h = row-orders ns k simple.AReplace ws ts h
operation-orders ns k operation.AddHigh ws ts h = row-orders ns k simple.AAddH ws ts h
operation-orders ns k operation.AddLow ws ts h = row-orders ns k simple.AAddL ws ts h
operation-orders ns k operation.RemoveHigh ws ts h = row-orders ns k simple.ARemH ws ts h
operation-orders ns k operation.RemoveLow ws ts h = row-orders ns k simple.ARemL ws ts h
operation-orders ns k operation.SetLow ws ts h = row-orders ns k simple.ASetL ws ts h
operation-orders ns k operation.Adjust ws ts h = row-orders ns k simple.AAdjust ws ts h
operation-orders ns k operation.LimitLow ws ts h = row-orders ns k simple.ALimL ws ts h
operation-orders ns k operation.LimitHigh ws ts h = row-orders ns k simple.ALimH ws ts h
operation-orders ns k operation.Size ws ts h = row-orders ns k simple.ASize ws ts h
operation-orders ns k operation.IsEmpty ws ts h = row-orders ns k simple.AIsEmpty ws ts h
operation-orders ns k operation.Catenate ws ts h = row-orders ns k simple.ACatenate ws ts h
operation-orders ns k operation.First ws ts h = row-orders ns k simple.FirstValue ws ts h
operation-orders ns k operation.Rest ws ts h = row-orders ns k simple.RestValues ws ts h
operation-orders ns k operation.Record ws ts h = row-orders ns k simple.RBuild ws ts h
operation-orders ns k (operation.Union tag) ws ts h = row-orders ns k simple.RBuild (absents tag ++ ws) ts (before.both (k ∷ ns) (absents tag) ws (absents-before (k ∷ ns) tag) h)
operation-orders ns k (operation.Field f) ws ts h = before.node-orders ns k (Row simple.RElements) ws (suc f) (map One ts) h
operation-orders ns k (operation.Change places) ws ts h =
    row-orders ns k simple.RReplace (wire_at ws 0 ∷ changed 0 (suc (greatest places)) places (drop 1 ws)) ts
    (at-before (k ∷ ns) ws 0 h, changed-before (k ∷ ns) 0 (suc (greatest places)) places (drop 1 ws) (drop-before (k ∷ ns) 1 ws h))
operation-orders ns k (operation.IsTag tag) ws ts h = before.only-orders ns k [] tt

-- ---- `if`

selector-orders : (ts : List Lowers) → EachOrder ts → OrdersTo (selector_lowered ts)
selector-orders ts h ns k env a =
    before.then-orders ns k (all_lowered ts env) (λ ws. row_lowered (simple.One unary.Int) ws (integer ∷ [])) (all-order ts h ns k env a) (λ j l ws w. row-orders ns j (simple.One unary.Int) ws (integer ∷ []) w)

pub if-orders : (test arm other : List Lowers) (ts : List ℕ) → EachOrder test → EachOrder arm → EachOrder other → OrdersTo (if_lowered test arm other ts)
if-orders test arm other ts x y z ns k env a n q l =
    let b = before.all-into (n ∷ ns) 0 env (before.later ns k n l env a) in
    let s = new_graph (selector_lowered test (map into env)) q in
    let o = new_graph (all_lowered other (map into env)) (q + size s) in
    let i = new_graph (all_lowered arm (map into env)) (q + size s + size o) in
    before.whole-ordered ns n q compound.Select (s ∷ o ∷ i ∷ []) (0 ∷ 1 ∷ 2 ∷ []) 0 ts (
      selector-orders test x (n ∷ ns) 0 (map into env) b 0 (suc q) (omega arith),
      (all-order other z (n ∷ ns) 0 (map into env) b 0 (suc (q + size s)) (omega arith), (all-order arm y (n ∷ ns) 0 (map into env) b 0 (suc (q + size s + size o)) (omega arith), tt)),
    )

-- ---- `tagcase` and `is t(u)`

tag-case-orders : (ns : List ℕ) (k : ℕ) (u : Wire) (fs : List Lowering) (arms ts : List ℕ) → IsBefore (k ∷ ns) u.feed → ((n : ℕ) → k ≤ n → AllOrder (n ∷ ns) fs) → Orders ns k (tag_case u fs arms ts)
tag-case-orders ns k u fs arms ts b h n q l =
    before.tag-ordered ns n q u (new_graphs q fs) arms ts (before.later ns k n l (u ∷ []) (b, tt)).0 (before.new-ordered (n ∷ ns) q fs (h n l))

module _ (forms : List Form) where
  arms-order : (ns : List ℕ) (c : Case) (type arm : ℕ) (arms : List (List Lowers)) (env : List Wire) → ListsOrder arms → AreBefore ns env → AllOrder ns (arms_from forms c type arm (map all_lowered arms) env)
  arms-order ns c type arm [] env h a = tt
  arms-order ns c type arm (g ∷ gs) env h a = (by (nat_lt arm c.named), arms-order ns c type (suc arm) gs env h.1 a)
    where
      content : Wire
      content = wire (Port 0 0 1) (One (content_of forms type (first_tag c arm)))

      by : (b : Bool) → Orders ns 0 (all_lowered g (if b then map into env ++ content ∷ [] else map into env))
      by true = all-order g h.0 ns 0 (map into env ++ content ∷ []) (before.both (0 ∷ ns) (map into env) (content ∷ []) (before.all-into ns 0 env a) (omega arith, tt))
      by false = all-order g h.0 ns 0 (map into env) (before.all-into ns 0 env a)

  pub case-orders : (c : Case) (arms : List (List Lowers)) (ts : List ℕ) → ListsOrder arms → (ns : List ℕ) (k : ℕ) (ws env : List Wire) → AreBefore (k ∷ ns) ws → AreBefore (k ∷ ns) env → Orders ns k (case_lowered forms c arms ts ws env)
  case-orders c arms ts h ns k ws env b a =
      let type = type_of (wire_at ws 0).ty in
      tag-case-orders ns k (wire_at ws 0) (arms_from forms c type 0 (map all_lowered arms) env) (arms_of c (tag_count forms type)) ts (at-before (k ∷ ns) ws 0 b)
      (λ n l. arms-order (n ∷ ns) c type 0 arms env h (before.later ns k n l env a))

  is-tag-orders : (ns : List ℕ) (k tag : ℕ) (ws : List Wire) (ts : List ℕ) → AreBefore (k ∷ ns) ws → Orders ns k (is_tag_lowered forms tag ws ts)
  is-tag-orders ns k tag ws ts b =
      tag-case-orders ns k (wire_at ws 0) (truth forms constant.True ∷ truth forms constant.False ∷ []) (two_arms forms tag 0 (tag_count forms (type_of (wire_at ws 0).ty))) ts (at-before (k ∷ ns) ws 0 b)
      (λ n l. (before.only-orders (n ∷ ns) 0 (wire (Literal constant.True) (One boolean) ∷ []) (tt, tt), (before.only-orders (n ∷ ns) 0 (wire (Literal constant.False) (One boolean) ∷ []) (tt, tt), tt)))

  pub applied-orders : (ns : List ℕ) (k : ℕ) (o : Operation) (ws : List Wire) (ts : List ℕ) → AreBefore (k ∷ ns) ws → Orders ns k (applied forms o ws ts)
  applied-orders ns k o ws ts h = by o (operation-orders ns k o ws ts h)
    where
      by : (o : Operation) → Orders ns k (operation_lowered o ws ts) → Orders ns k (applied forms o ws ts)
      by (operation.IsTag tag) r = is-tag-orders ns k tag ws ts h
      by o r = r
