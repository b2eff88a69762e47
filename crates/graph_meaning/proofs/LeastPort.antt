-- The error of the least strict port is every output, row by row.
use Rattle.std.proofs.Common.{◌≡◌, ℕ, suc, ℤ, pos, ◌∷◌, List, [], map, Option, Some, None, true, refl, sym, ap, subst, rules}
use Rattle.loop_folds.specs.Scalar.{unless_error}
use Rattle.loop_folds.specs.Cause.{Cause}
use Rattle.loop_folds.specs.Scalar1.TheVariants as one
use Rattle.loop_folds.specs.Scalar2.TheVariants as two
use Rattle.loop_folds.specs.Val.{Val}
use Rattle.loop_folds.specs.Val.TheOpen.{Val-F}
use Rattle.loop_folds.specs.Val.TheViews as values
use Rattle.loop_folds.specs.Elements.{or_else, error_of}
use Rattle.value_ops.specs.Arity.{unless_errors}
use Rattle.value_ops.specs.Operations.{op_value}
use Rattle.value_ops.specs.declared.operation.Operation.TheVariants as operation
use Rattle.loop_folds.specs.declared.folding.Folding.{Folding}
use Rattle.loop_folds.specs.declared.folding.Folding.TheVariants as folding
use Rattle.if1_graph.specs.Ports.{count_from}
use Rattle.if1_graph.specs.Rows.{Operand, row_of}
use Rattle.if1_graph.specs.declared.op.Grouping.{Grouping}
use Rattle.if1_graph.specs.declared.op.Simple.{Simple}
use Rattle.if1_graph.specs.declared.op.Simple.TheVariants as simple
use Rattle.if1_graph.specs.declared.row.Rest.{Rest}
use Rattle.if1_graph.specs.declared.row.Rest.TheVariants as rest
use Rattle.graph_meaning.specs.Carried.{Carried, Value, Many, Spoiled, Name, Unfilled, vals}
use Rattle.graph_meaning.specs.NodeValues.{Shape, op, unless_spoiled, scatter_in, fold_of, gather_from, gathering, reduced, reduction}
use Rattle.graph_meaning.specs.NodeValues as shape
use Rattle.graph_meaning.specs.Strict.{Taken, AnyValue, AnInteger, AMultiple, AName, AReduction, taken_of, is_integer, Takes, AllTake, Fits, IsFit, error_in, first_strict, AreErrors}
use Rattle.graph_meaning.specs.Laws.{IsLeastPortGiven}

-- ---- ports that take values

-- this port takes a value, an integer maybe
abbrev IsOfValue : Taken → Type 0
IsOfValue AnyValue = Unit {0}
IsOfValue AnInteger = Unit {0}
IsOfValue _ = ⊥

abbrev IsOne : List Operand → Rest → Type 0
IsOne (o ∷ []) rest.Nothing = IsOfValue (taken_of o.1)
IsOne _ _ = ⊥

abbrev IsPair : List Operand → Rest → Type 0
IsPair (o ∷ os) more = IsOfValue (taken_of o.1) × IsOne os more
IsPair _ _ = ⊥

abbrev IsTriple : List Operand → Rest → Type 0
IsTriple (o ∷ os) more = IsOfValue (taken_of o.1) × IsPair os more
IsTriple _ _ = ⊥

value-of : (k : Taken) → IsOfValue k → (x : Carried) → Takes k x → (v : Val) × (x ≡ Value v)
value-of AnyValue i (Value v) t = (v, refl)
value-of AnyValue i (Many vs) t = absurd t
value-of AnyValue i (Spoiled c) t = absurd t
value-of AnyValue i (Name n) t = absurd t
value-of AnyValue i Unfilled t = absurd t
value-of AnInteger i (Value v) t = (v, refl)
value-of AnInteger i (Many vs) t = absurd t
value-of AnInteger i (Spoiled c) t = absurd t
value-of AnInteger i (Name n) t = absurd t
value-of AnInteger i Unfilled t = absurd t
value-of AMultiple i x t = absurd i
value-of AName i x t = absurd i
value-of AReduction i x t = absurd i

one-value : (os : List Operand) (more : Rest) → IsOne os more → (cs : List Carried) → Fits os more cs → (a : Val) × (cs ≡ Value a ∷ [])
one-value [] more i cs t = absurd i
one-value (o ∷ p ∷ os) more i cs t = absurd i
one-value (o ∷ []) rest.Mask i cs t = absurd i
one-value (o ∷ []) (rest.More how w) i cs t = absurd i
one-value (o ∷ []) rest.Arguments i cs t = absurd i
one-value (o ∷ []) rest.Fields i cs t = absurd i
one-value (o ∷ []) rest.NewFields i cs t = absurd i
one-value (o ∷ []) rest.Nothing i [] t = absurd t
one-value (o ∷ []) rest.Nothing i (x ∷ y ∷ cs) t = absurd t.1
one-value (o ∷ []) rest.Nothing i (x ∷ []) t = let p = value-of (taken_of o.1) i x t.0 in (p.0, ap (λ y. y ∷ []) p.1)

two-values : (os : List Operand) (more : Rest) → IsPair os more → (cs : List Carried) → Fits os more cs → (a b : Val) × (cs ≡ Value a ∷ Value b ∷ [])
two-values [] more i cs t = absurd i
two-values (o ∷ os) more i [] t = absurd t
two-values (o ∷ os) more i (x ∷ cs) t =
    let p = value-of (taken_of o.1) i.0 x t.0 in
    let q = one-value os more i.1 cs t.1 in
    (p.0, q.0, subst (λ y. x ∷ cs ≡ y ∷ Value q.0 ∷ []) p.1 (ap (λ ys. x ∷ ys) q.1))

three-values : (os : List Operand) (more : Rest) → IsTriple os more → (cs : List Carried) → Fits os more cs → (a b d : Val) × (cs ≡ Value a ∷ Value b ∷ Value d ∷ [])
three-values [] more i cs t = absurd i
three-values (o ∷ os) more i [] t = absurd t
three-values (o ∷ os) more i (x ∷ cs) t =
    let p = value-of (taken_of o.1) i.0 x t.0 in
    let q = two-values os more i.1 cs t.1 in
    (p.0, q.0, q.1, subst (λ y. x ∷ cs ≡ y ∷ Value q.0 ∷ Value q.1 ∷ []) p.1 (ap (λ ys. x ∷ ys) q.2))

-- ---- what is strict

abbrev Least : Simple → Shape → Cause → List Carried → Type 0
Least o s c cs = first_strict o 1 cs ≡ Some c → AreErrors c (op o s cs)

one-port : (o : Simple) → IsOne (row_of o).operands (row_of o).rest → (s : Shape) (c : Cause) → ((a : Val) → Least o s c (Value a ∷ [])) → (cs : List Carried) → IsFit o cs → Least o s c cs
one-port o i s c f cs t = let p = one-value (row_of o).operands (row_of o).rest i cs t in subst (Least o s c) (sym p.1) (f p.0)

two-ports : (o : Simple) → IsPair (row_of o).operands (row_of o).rest → (s : Shape) (c : Cause) → ((a b : Val) → Least o s c (Value a ∷ Value b ∷ [])) → (cs : List Carried) → IsFit o cs → Least o s c cs
two-ports o i s c f cs t = let p = two-values (row_of o).operands (row_of o).rest i cs t in subst (Least o s c) (sym p.2) (f p.0 p.1)

three-ports : (o : Simple) → IsTriple (row_of o).operands (row_of o).rest → (s : Shape) (c : Cause) → ((a b d : Val) → Least o s c (Value a ∷ Value b ∷ Value d ∷ [])) → (cs : List Carried) → IsFit o cs → Least o s c cs
three-ports o i s c f cs t = let p = three-values (row_of o).operands (row_of o).rest i cs t in subst (Least o s c) (sym p.3) (f p.0 p.1 p.2)

rolled : (v : Val) → v ≡ values.roll-Val (values.out-Val v)
rolled v = search (rules, values.the_lemmas)

-- what holds of each value by its outermost form
by-form : (P : Val → Type 0) → ((y : Val-F Val) → P (values.roll-Val y)) → (v : Val) → P v
by-form P f v = subst P (sym (rolled v)) (f (values.out-Val v))

module _ (c : Cause) where
  abbrev First : Val → Option Cause → Val → Type 0
  First w others a = (others ≡ Some c → error_of w ≡ Some c) → or_else (error_of a) others ≡ Some c → error_of (unless_error a w) ≡ Some c

  first-form : (w : Val) (others : Option Cause) (y : Val-F Val) → First w others (values.roll-Val y)
  unfolding values.roll-Val denote.Hole.Carrier.roll
  first-form w others (Val-F.Err d) f e = e
  first-form w others (Val-F.Int n) f e = f e
  first-form w others (Val-F.Bool b) f e = f e
  first-form w others (Val-F.Char n) f e = f e
  first-form w others Val-F.Null f e = f e
  first-form w others (Val-F.Arr a) f e = f e
  first-form w others (Val-F.Rec vs) f e = f e
  first-form w others (Val-F.Uni t v) f e = f e
  first-form w others (Val-F.Stream vs) f e = f e

  first-of : (a w : Val) (others : Option Cause) → First w others a
  first-of a w others = by-form (First w others) (first-form w others) a

  none-left : (w : Val) → None ≡ Some c → error_of w ≡ Some c
  none-left w e = cc

  first1 : (a w : Val) → or_else (error_of a) None ≡ Some c → AreErrors c (Value (unless_error a w) ∷ [])
  first1 a w e = (first-of a w None (none-left w) e, tt)

  first2 : (a b w : Val) → or_else (error_of a) (or_else (error_of b) None) ≡ Some c → AreErrors c (Value (unless_error a (unless_error b w)) ∷ [])
  first2 a b w e = (first-of a (unless_error b w) (or_else (error_of b) None) (first-of b w None (none-left w)) e, tt)

  first3 : (a b d w : Val) → or_else (error_of a) (or_else (error_of b) (or_else (error_of d) None)) ≡ Some c → AreErrors c (Value (unless_error a (unless_error b (unless_error d w))) ∷ [])
  first3 a b d w e = (
    first-of a (unless_error b (unless_error d w)) (or_else (error_of b) (or_else (error_of d) None))
        (first-of b (unless_error d w) (or_else (error_of d) None) (first-of d w None (none-left w))) e,
    tt,
  )

  -- an error that no port brings
  nothing : (rs : List Carried) → None ≡ Some c → AreErrors c rs
  nothing rs e = cc

  spoiled-form : (m : Carried) (others : Option Cause) → (others ≡ Some c → error_in m ≡ Some c) → (y : Val-F Val) → or_else (error_of (values.roll-Val y)) others ≡ Some c → error_in (unless_spoiled (values.roll-Val y) m) ≡ Some c
  unfolding values.roll-Val denote.Hole.Carrier.roll
  spoiled-form m others f (Val-F.Err d) e = e
  spoiled-form m others f (Val-F.Int n) e = f e
  spoiled-form m others f (Val-F.Bool b) e = f e
  spoiled-form m others f (Val-F.Char n) e = f e
  spoiled-form m others f Val-F.Null e = f e
  spoiled-form m others f (Val-F.Arr a) e = f e
  spoiled-form m others f (Val-F.Rec vs) e = f e
  spoiled-form m others f (Val-F.Uni t v) e = f e
  spoiled-form m others f (Val-F.Stream vs) e = f e

  spoiled-of : (a : Val) (m : Carried) (others : Option Cause) → (others ≡ Some c → error_in m ≡ Some c) → or_else (error_of a) others ≡ Some c → error_in (unless_spoiled a m) ≡ Some c
  spoiled-of a m others f = by-form (λ v. or_else (error_of v) others ≡ Some c → error_in (unless_spoiled v m) ≡ Some c) (spoiled-form m others f) a

  ranged : (a b : Val) (m : Carried) → or_else (error_of a) (or_else (error_of b) None) ≡ Some c → AreErrors c (unless_spoiled a (unless_spoiled b m) ∷ [])
  ranged a b m e = (spoiled-of a (unless_spoiled b m) (or_else (error_of b) None) (spoiled-of b m None (λ n. cc)) e, tt)

  -- the error of a scattered value
  scatter-form : (y : Val-F Val) → or_else (error_of (values.roll-Val y)) None ≡ Some c → AreErrors c (scatter_in y)
  unfolding values.roll-Val denote.Hole.Carrier.roll
  scatter-form (Val-F.Err d) e = (e, (e, tt))
  scatter-form (Val-F.Int n) e = cc
  scatter-form (Val-F.Bool b) e = cc
  scatter-form (Val-F.Char n) e = cc
  scatter-form Val-F.Null e = cc
  scatter-form (Val-F.Arr a) e = cc
  scatter-form (Val-F.Rec vs) e = cc
  scatter-form (Val-F.Uni t v) e = cc
  scatter-form (Val-F.Stream vs) e = cc

  scattered : (a : Val) → or_else (error_of a) None ≡ Some c → AreErrors c (scatter_in (values.out-Val a))
  scattered a e = scatter-form (values.out-Val a) (subst (λ v. or_else (error_of v) None ≡ Some c) (rolled a) e)

  -- each field of an error
  each-field : (a : Val) (ns : List ℕ) → or_else (error_of a) None ≡ Some c → AreErrors c (map (λ f. Value (op_value (operation.Field f) (a ∷ []))) ns)
  each-field a [] e = tt
  each-field a (n ∷ ns) e = (first-of a _ None (none-left _) e, each-field a ns e)

  new-fields : (n : ℕ) (cs : List Carried) → first_strict simple.RReplace (suc (suc n)) cs ≡ None
  new-fields n [] = refl
  new-fields n (x ∷ cs) = new-fields (suc n) cs

  all-fields : (n : ℕ) (cs : List Carried) → first_strict simple.RBuild (suc n) cs ≡ None
  all-fields n [] = refl
  all-fields n (x ∷ cs) = all-fields (suc n) cs

  elements : (n : ℕ) (cs : List Carried) → first_strict simple.ABuild (suc (suc n)) cs ≡ None
  elements n [] = refl
  elements n (x ∷ cs) = elements (suc n) cs

  -- further operands of a catenation
  further : (n : ℕ) (cs : List Carried) (w : Val) → AllTake AnyValue cs → first_strict simple.ACatenate (suc (suc (suc n))) cs ≡ Some c → error_of (unless_errors (vals cs) w) ≡ Some c
  further n [] w t e = cc
  further n (Value v ∷ cs) w t e = first-of v (unless_errors (vals cs) w) (first_strict simple.ACatenate (suc (suc (suc (suc n)))) cs) (further (suc n) cs w t.1) e
  further n (Many vs ∷ cs) w t e = absurd t.0
  further n (Spoiled d ∷ cs) w t e = absurd t.0
  further n (Name text ∷ cs) w t e = absurd t.0
  further n (Unfilled ∷ cs) w t e = absurd t.0

  -- folds of a multiple, with or without a mask
  folded1 : (f : Folding) (l : ℤ) (m : Carried) → Takes AMultiple m → or_else (error_in m) None ≡ Some c → error_of (fold_of f l (m ∷ [])) ≡ Some c
  folded1 f l (Many vs) t e = cc
  folded1 f l (Spoiled d) t e = e
  folded1 f l (Value v) t e = absurd t
  folded1 f l (Name text) t e = absurd t
  folded1 f l Unfilled t e = absurd t

  folded2 : (f : Folding) (l : ℤ) (m mask : Carried) → Takes AMultiple m → Takes AMultiple mask → or_else (error_in m) (or_else (error_in mask) None) ≡ Some c → error_of (fold_of f l (m ∷ mask ∷ [])) ≡ Some c
  folded2 f l (Many vs) (Many ms) t u e = cc
  folded2 f l (Many vs) (Spoiled d) t u e = e
  folded2 f l (Many vs) (Value v) t u e = absurd u
  folded2 f l (Many vs) (Name text) t u e = absurd u
  folded2 f l (Many vs) Unfilled t u e = absurd u
  folded2 f l (Spoiled d) mask t u e = e
  folded2 f l (Value v) mask t u e = absurd t
  folded2 f l (Name text) mask t u e = absurd t
  folded2 f l Unfilled mask t u e = absurd t

  gather-form : (f : Folding) (ms : List Carried) (others : Option Cause) → ((l : ℤ) → others ≡ Some c → error_of (fold_of f l ms) ≡ Some c) → (y : Val-F Val) → is_integer (values.roll-Val y) ≡ true → or_else (error_of (values.roll-Val y)) others ≡ Some c → error_of (gather_from f (values.roll-Val y) ms) ≡ Some c
  unfolding values.roll-Val denote.Hole.Carrier.roll
  gather-form f ms others g (Val-F.Err d) t e = e
  gather-form f ms others g (Val-F.Int l) t e = g l e
  gather-form f ms others g (Val-F.Bool b) t e = cc
  gather-form f ms others g (Val-F.Char n) t e = cc
  gather-form f ms others g Val-F.Null t e = cc
  gather-form f ms others g (Val-F.Arr a) t e = cc
  gather-form f ms others g (Val-F.Rec vs) t e = cc
  gather-form f ms others g (Val-F.Uni t0 v) t e = cc
  gather-form f ms others g (Val-F.Stream vs) t e = cc

  gathered : (f : Folding) (lo : Val) (ms : List Carried) (others : Option Cause) → ((l : ℤ) → others ≡ Some c → error_of (fold_of f l ms) ≡ Some c) → is_integer lo ≡ true → or_else (error_of lo) others ≡ Some c → error_of (gather_from f lo ms) ≡ Some c
  gathered f lo ms others g = by-form (λ v. is_integer v ≡ true → or_else (error_of v) others ≡ Some c → error_of (gather_from f v ms) ≡ Some c) (gather-form f ms others g) lo

no-strict : (o : Simple) (s : Shape) (c : Cause) (cs : List Carried) → first_strict o 1 cs ≡ None → Least o s c cs
no-strict o s c cs n e = nothing c (op o s cs) (subst (λ q. q ≡ Some c) n e)

-- ---- rows of any number of operands

bound-of : (c : Cause) (a w : Val) (cs : List Carried) → first_strict simple.ABuild 1 (Value a ∷ cs) ≡ Some c → AreErrors c (Value (unless_error a w) ∷ [])
bound-of c a w cs e = (first-of c a w (first_strict simple.ABuild 2 cs) (λ q. none-left c w (subst (λ r. r ≡ Some c) (elements c 0 cs) q)) e, tt)

build-of : (s : Shape) (c : Cause) (a : Val) (cs : List Carried) → Least simple.ABuild s c (Value a ∷ cs)
build-of shape.Plain c a cs = bound-of c a _ cs
build-of shape.Stream c a cs = bound-of c a _ cs
build-of shape.Union c a cs = bound-of c a _ cs
build-of (shape.Fields n) c a cs = bound-of c a _ cs

build-row : (s : Shape) (c : Cause) (cs : List Carried) → IsFit simple.ABuild cs → Least simple.ABuild s c cs
build-row s c [] t = absurd t
build-row s c (x ∷ cs) t = let p = value-of AnInteger tt x t.0 in subst (λ y. Least simple.ABuild s c (y ∷ cs)) (sym p.1) (build-of s c p.0 cs)

replace-of : (s : Shape) (c : Cause) (a : Val) (cs : List Carried) → Least simple.RReplace s c (Value a ∷ cs)
replace-of s c a cs e = (first-of c a _ (first_strict simple.RReplace 2 cs) (λ q. none-left c _ (subst (λ r. r ≡ Some c) (new-fields c 0 cs) q)) e, tt)

replace-row : (s : Shape) (c : Cause) (cs : List Carried) → IsFit simple.RReplace cs → Least simple.RReplace s c cs
replace-row s c [] t = absurd t
replace-row s c (x ∷ cs) t = let p = value-of AnyValue tt x t.0 in subst (λ y. Least simple.RReplace s c (y ∷ cs)) (sym p.1) (replace-of s c p.0 cs)

catenate-of : (s : Shape) (c : Cause) (a b : Val) (cs : List Carried) → AllTake AnyValue cs → Least simple.ACatenate s c (Value a ∷ Value b ∷ cs)
catenate-of s c a b cs t e =
    (first-of c a _ (or_else (error_of b) (first_strict simple.ACatenate 3 cs)) (first-of c b _ (first_strict simple.ACatenate 3 cs) (further c 0 cs _ t)) e, tt)

catenate-row : (s : Shape) (c : Cause) (cs : List Carried) → IsFit simple.ACatenate cs → Least simple.ACatenate s c cs
catenate-row s c [] t = absurd t
catenate-row s c (x ∷ []) t = absurd t.1
catenate-row s c (x ∷ y ∷ cs) t =
    let p = value-of AnyValue tt x t.0 in
    let q = value-of AnyValue tt y t.1.0 in
    subst (λ z. Least simple.ACatenate s c (z ∷ y ∷ cs)) (sym p.1)
    (subst (λ z. Least simple.ACatenate s c (Value p.0 ∷ z ∷ cs)) (sym q.1) (catenate-of s c p.0 q.0 cs t.1.1))

error-row : (s : Shape) (c : Cause) (cs : List Carried) → IsFit simple.Error cs → Least simple.Error s c cs
error-row s c [] t e = cc
error-row s c (x ∷ cs) t e = absurd t

-- ---- rows of multiples

gather-row : (s : Shape) (c : Cause) (cs : List Carried) → IsFit simple.AGather cs → Least simple.AGather s c cs
gather-row s c [] t e = absurd t
gather-row s c (x ∷ []) t e = absurd t.1
gather-row s c (Many vs ∷ m ∷ cs) t e = absurd t.0
gather-row s c (Spoiled d ∷ m ∷ cs) t e = absurd t.0
gather-row s c (Name text ∷ m ∷ cs) t e = absurd t.0
gather-row s c (Unfilled ∷ m ∷ cs) t e = absurd t.0
gather-row s c (Value lo ∷ m ∷ []) t e = (gathered c (gathering s) lo (m ∷ []) (or_else (error_in m) None) (λ l. folded1 c (gathering s) l m t.1.0) t.0 e, tt)
gather-row s c (Value lo ∷ m ∷ mask ∷ []) t e =
    (gathered c (gathering s) lo (m ∷ mask ∷ []) (or_else (error_in m) (or_else (error_in mask) None)) (λ l. folded2 c (gathering s) l m mask t.1.0 t.1.1) t.0 e, tt)
gather-row s c (Value lo ∷ m ∷ mask ∷ y ∷ cs) t e = absurd t.1.1

last-row : (s : Shape) (c : Cause) (cs : List Carried) → IsFit simple.FinalValue cs → Least simple.FinalValue s c cs
last-row s c [] t e = absurd t
last-row s c (m ∷ []) t e = (folded1 c folding.Last (pos 1) m t.0 e, tt)
last-row s c (m ∷ mask ∷ []) t e = (folded2 c folding.Last (pos 1) m mask t.0 t.1 e, tt)
last-row s c (m ∷ mask ∷ y ∷ cs) t e = absurd t.1

reduce-row : (g : Grouping) (s : Shape) (c : Cause) (cs : List Carried) → IsFit (simple.Reduce g) cs → Least (simple.Reduce g) s c cs
reduce-row g s c [] t e = absurd t
reduce-row g s c (x ∷ []) t e = absurd t.1
reduce-row g s c (Value v ∷ m ∷ cs) t e = absurd t.0
reduce-row g s c (Many vs ∷ m ∷ cs) t e = absurd t.0
reduce-row g s c (Spoiled d ∷ m ∷ cs) t e = absurd t.0
reduce-row g s c (Unfilled ∷ m ∷ cs) t e = absurd t.0
reduce-row g s c (Name text ∷ m ∷ []) t e =
    (subst (λ q. error_of (reduced s q (m ∷ [])) ≡ Some c) (sym t.0.1) (folded1 c (reduction s t.0.0) (pos 1) m t.1.0 e), tt)
reduce-row g s c (Name text ∷ m ∷ mask ∷ []) t e =
    (subst (λ q. error_of (reduced s q (m ∷ mask ∷ [])) ≡ Some c) (sym t.0.1) (folded2 c (reduction s t.0.0) (pos 1) m mask t.1.0 t.1.1 e), tt)
reduce-row g s c (Name text ∷ m ∷ mask ∷ y ∷ cs) t e = absurd t.1.1

-- ---- the other rows

fields-of : (s : Shape) (c : Cause) (a : Val) → Least simple.RElements s c (Value a ∷ [])
fields-of (shape.Fields n) c a e = each-field c a (count_from 0 n) e
fields-of shape.Plain c a e = tt
fields-of shape.Stream c a e = tt
fields-of shape.Union c a e = tt

pub least-port : IsLeastPortGiven
least-port (simple.One one.Neg) s cs c t e = one-port (simple.One one.Neg) tt s c (λ a. first1 c a _) cs t e
least-port (simple.One one.Abs) s cs c t e = one-port (simple.One one.Abs) tt s c (λ a. first1 c a _) cs t e
least-port (simple.One one.Not) s cs c t e = one-port (simple.One one.Not) tt s c (λ a. first1 c a _) cs t e
least-port (simple.One one.Int) s cs c t e = one-port (simple.One one.Int) tt s c (λ a. first1 c a _) cs t e
least-port (simple.One one.Bool) s cs c t e = one-port (simple.One one.Bool) tt s c (λ a. first1 c a _) cs t e
least-port (simple.One one.Char) s cs c t e = one-port (simple.One one.Char) tt s c (λ a. first1 c a _) cs t e
least-port (simple.One one.IsError) s cs c t e = one-port (simple.One one.IsError) tt s c (λ a e. cc) cs t e
least-port (simple.Two two.Plus) s cs c t e = two-ports (simple.Two two.Plus) (tt, tt) s c (λ a b. first2 c a b _) cs t e
least-port (simple.Two two.Minus) s cs c t e = two-ports (simple.Two two.Minus) (tt, tt) s c (λ a b. first2 c a b _) cs t e
least-port (simple.Two two.Times) s cs c t e = two-ports (simple.Two two.Times) (tt, tt) s c (λ a b. first2 c a b _) cs t e
least-port (simple.Two two.Div) s cs c t e = two-ports (simple.Two two.Div) (tt, tt) s c (λ a b. first2 c a b _) cs t e
least-port (simple.Two two.Mod) s cs c t e = two-ports (simple.Two two.Mod) (tt, tt) s c (λ a b. first2 c a b _) cs t e
least-port (simple.Two two.Max) s cs c t e = two-ports (simple.Two two.Max) (tt, tt) s c (λ a b. first2 c a b _) cs t e
least-port (simple.Two two.Min) s cs c t e = two-ports (simple.Two two.Min) (tt, tt) s c (λ a b. first2 c a b _) cs t e
least-port (simple.Two two.Equal) s cs c t e = two-ports (simple.Two two.Equal) (tt, tt) s c (λ a b. first2 c a b _) cs t e
least-port (simple.Two two.NotEqual) s cs c t e = two-ports (simple.Two two.NotEqual) (tt, tt) s c (λ a b. first2 c a b _) cs t e
least-port (simple.Two two.Less) s cs c t e = two-ports (simple.Two two.Less) (tt, tt) s c (λ a b. first2 c a b _) cs t e
least-port (simple.Two two.LessEqual) s cs c t e = two-ports (simple.Two two.LessEqual) (tt, tt) s c (λ a b. first2 c a b _) cs t e
least-port simple.NoOp s cs c t e = one-port simple.NoOp tt s c (λ a e. cc) cs t e
least-port simple.Error s cs c t e = error-row s c cs t e
least-port simple.Call s cs c t e = tt
least-port simple.ABuild s cs c t e = build-row s c cs t e
least-port simple.AFill s cs c t e = three-ports simple.AFill (tt, (tt, tt)) s c (λ a b d. first2 c a b _) cs t e
least-port simple.AElement s cs c t e = two-ports simple.AElement (tt, tt) s c (λ a b. first2 c a b _) cs t e
least-port simple.AReplace s cs c t e = three-ports simple.AReplace (tt, (tt, tt)) s c (λ a b d. first2 c a b _) cs t e
least-port simple.AAddH s cs c t e = two-ports simple.AAddH (tt, tt) s c (λ a b. first1 c a _) cs t e
least-port simple.AAddL s cs c t e = two-ports simple.AAddL (tt, tt) s c (λ a b. first1 c a _) cs t e
least-port simple.ARemH s cs c t e = one-port simple.ARemH tt s c (λ a. first1 c a _) cs t e
least-port simple.ARemL s cs c t e = one-port simple.ARemL tt s c (λ a. first1 c a _) cs t e
least-port simple.ASetL s cs c t e = two-ports simple.ASetL (tt, tt) s c (λ a b. first2 c a b _) cs t e
least-port simple.AAdjust s cs c t e = three-ports simple.AAdjust (tt, (tt, tt)) s c (λ a b d. first3 c a b d _) cs t e
least-port simple.ALimL s cs c t e = one-port simple.ALimL tt s c (λ a. first1 c a _) cs t e
least-port simple.ALimH s cs c t e = one-port simple.ALimH tt s c (λ a. first1 c a _) cs t e
least-port simple.ASize s cs c t e = one-port simple.ASize tt s c (λ a. first1 c a _) cs t e
least-port simple.AIsEmpty s cs c t e = one-port simple.AIsEmpty tt s c (λ a. first1 c a _) cs t e
least-port simple.ACatenate s cs c t e = catenate-row s c cs t e
least-port simple.FirstValue s cs c t e = one-port simple.FirstValue tt s c (λ a. first1 c a _) cs t e
least-port simple.RestValues s cs c t e = one-port simple.RestValues tt s c (λ a. first1 c a _) cs t e
least-port simple.RBuild s cs c t e = no-strict simple.RBuild s c cs (all-fields c 0 cs) e
least-port simple.RElements s cs c t e = one-port simple.RElements tt s c (λ a. fields-of s c a) cs t e
least-port simple.RReplace s cs c t e = replace-row s c cs t e
least-port simple.RangeGenerate s cs c t e = two-ports simple.RangeGenerate (tt, tt) s c (λ a b. ranged c a b _) cs t e
least-port simple.AScatter s cs c t e = one-port simple.AScatter tt s c (λ a. scattered c a) cs t e
least-port simple.AGather s cs c t e = gather-row s c cs t e
least-port simple.FinalValue s cs c t e = last-row s c cs t e
least-port (simple.Reduce g) s cs c t e = reduce-row g s c cs t e
