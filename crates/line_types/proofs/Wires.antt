-- What wires carry: the ports that nodes use, and the inputs of compound nodes.
use Rattle.std.proofs.Common.{◌≡◌, ℕ, zero, suc, Bool, true, false, List, [], ◌∷◌, ◌++◌, inl, inr, map, drop, refl, sym, ap, subst, ◌∙◌}
use Rattle.std.specs.Prelude.{if◌then◌else◌, slice_set}
use Rattle.lowering.specs.declared.feed.Feed.{Feed}
use Rattle.lowering.specs.declared.feed.Carried.{Carried}
use Rattle.lowering.specs.declared.feed.Wire.{Wire}
use Rattle.lowering.specs.declared.feed.Feed.TheVariants.{Literal, Named, Absent, Port}
use Rattle.lowering.specs.Feeds.{inside, into, outside, outsides, one_carried, carried, has, with_new, distinct}
use Rattle.lowering.specs.declared.graph.LoweredNode.{LoweredNode}
use Rattle.lowering.specs.Graphs.{ports, used_by, used}
use Rattle.lowering.specs.Operations.{wire_at}
use Rattle.lowering.specs.Loops.{types}
use Rattle.line_types.specs.Traces.{carried_at}
use Rattle.line_types.proofs.Same.{In, in-right}

-- ---- wires that are filled

abbrev pub IsFilled : Feed → Type 0
IsFilled Absent = ⊥
IsFilled f = Unit {0}

abbrev pub AreFilled : List Wire → Type 0
AreFilled [] = Unit {0}
AreFilled (w ∷ ws) = IsFilled w.feed × AreFilled ws

one-line : (f : Feed) (c : Carried) → IsFilled f → one_carried f c ≡ c ∷ []
one-line (Literal k) c h = refl
one-line (Named s) c h = refl
one-line Absent c h = absurd h
one-line (Port up n p) c h = refl

-- each has a line
pub carried-is : (ws : List Wire) → AreFilled ws → carried ws ≡ types ws
carried-is [] h = refl
carried-is (w ∷ ws) h = ap (λ l. l ++ carried ws) (one-line w.feed w.ty h.0) ∙ ap (λ l. w.ty ∷ l) (carried-is ws h.1)

pub filled-both : (vs ws : List Wire) → AreFilled vs → AreFilled ws → AreFilled (vs ++ ws)
filled-both [] ws a b = b
filled-both (v ∷ vs) ws a b = (a.0, filled-both vs ws a.1 b)

pub filled-drop : (k : ℕ) (ws : List Wire) → AreFilled ws → AreFilled (drop k ws)
filled-drop zero ws a = a
filled-drop (suc k) [] a = a
filled-drop (suc k) (w ∷ ws) a = filled-drop k ws a.1

pub filled-at : (ws : List Wire) (x : ℕ) → AreFilled ws → IsFilled (wire_at ws x).feed
filled-at [] x a = tt
filled-at (w ∷ ws) zero a = a.0
filled-at (w ∷ ws) (suc x) a = filled-at ws x a.1

pub filled-into : (ws : List Wire) → AreFilled ws → AreFilled (map into ws)
filled-into [] a = a
filled-into (w ∷ ws) a = (within w.feed a.0, filled-into ws a.1)
  where
    within : (f : Feed) → IsFilled f → IsFilled (inside f)
    within (Literal k) h = h
    within (Named s) h = h
    within Absent h = h
    within (Port up n p) h = h

pub filled-ports : (n port : ℕ) (cs : List Carried) → AreFilled (ports n port cs)
filled-ports n port [] = tt
filled-ports n port (c ∷ cs) = (tt, filled-ports n (suc port) cs)

pub filled-set : (ws : List Wire) (k : ℕ) (w : Wire) → AreFilled ws → IsFilled w.feed → AreFilled (slice_set ws k w)
filled-set [] k w a b = a
filled-set (v ∷ vs) zero w a b = (b, a.1)
filled-set (v ∷ vs) (suc k) w a b = (a.0, filled-set vs k w a.1 b)

-- ---- what they carry

pub types-both : (vs ws : List Wire) → types (vs ++ ws) ≡ types vs ++ types ws
types-both [] ws = refl
types-both (v ∷ vs) ws = ap (λ l. v.ty ∷ l) (types-both vs ws)

pub types-drop : (k : ℕ) (ws : List Wire) → types (drop k ws) ≡ drop k (types ws)
types-drop zero ws = refl
types-drop (suc k) [] = refl
types-drop (suc k) (w ∷ ws) = types-drop k ws

pub types-at : (ws : List Wire) (x : ℕ) → (wire_at ws x).ty ≡ carried_at (types ws) x
types-at [] x = refl
types-at (w ∷ ws) zero = refl
types-at (w ∷ ws) (suc x) = types-at ws x

pub types-into : (ws : List Wire) → types (map into ws) ≡ types ws
types-into [] = refl
types-into (w ∷ ws) = ap (λ l. w.ty ∷ l) (types-into ws)

pub types-ports : (n port : ℕ) (cs : List Carried) → types (ports n port cs) ≡ cs
types-ports n port [] = refl
types-ports n port (c ∷ cs) = ap (λ l. c ∷ l) (types-ports n (suc port) cs)

pub types-set : (ws : List Wire) (k : ℕ) (w : Wire) → types (slice_set ws k w) ≡ slice_set (types ws) k w.ty
types-set [] k w = refl
types-set (v ∷ vs) zero w = refl
types-set (v ∷ vs) (suc k) w = ap (λ l. v.ty ∷ l) (types-set vs k w)

-- ---- what is used has a line

abbrev pub IsLined : List Carried → Wire → Type 0
IsLined l w = IsFilled w.feed → In w.ty l

abbrev pub AreLined : List Carried → List Wire → Type 0
AreLined l [] = Unit {0}
AreLined l (w ∷ ws) = IsLined l w × AreLined l ws

pub lined-more : (l m : List Carried) → ((c : Carried) → In c l → In c m) → (ws : List Wire) → AreLined l ws → AreLined m ws
lined-more l m f [] h = tt
lined-more l m f (w ∷ ws) h = (λ k. f w.ty (h.0 k), lined-more l m f ws h.1)

pub lined-both : (l : List Carried) (vs ws : List Wire) → AreLined l vs → AreLined l ws → AreLined l (vs ++ ws)
lined-both l [] ws a b = b
lined-both l (v ∷ vs) ws a b = (a.0, lined-both l vs ws a.1 b)

pub lined-carried : (ws : List Wire) → AreLined (carried ws) ws
lined-carried [] = tt
lined-carried (w ∷ ws) =
    (one w.feed w.ty, lined-more (carried ws) (carried (w ∷ ws)) (λ c i. in-right c (one_carried w.feed w.ty) (carried ws) i) ws (lined-carried ws))
  where
    one : (f : Feed) (t : Carried) → IsFilled f → In t (one_carried f t ++ carried ws)
    one Absent t h = absurd h
    one (Literal c) t h = inl refl
    one (Named s) t h = inl refl
    one (Port up n q) t h = inl refl

pub used-both : (vs ws : List LoweredNode) → used (vs ++ ws) ≡ used vs ++ used ws
used-both [] ws = refl
used-both (v ∷ vs) ws = ap (λ l. used_by v.action v.ins ++ l) (used-both vs ws) ∙ sym (append-again (used_by v.action v.ins) (used vs) (used ws))
  where
    append-again : (xs ys zs : List Wire) → (xs ++ ys) ++ zs ≡ xs ++ (ys ++ zs)
    append-again [] ys zs = refl
    append-again (x ∷ xs) ys zs = ap (λ l. x ∷ l) (append-again xs ys zs)

-- ---- inputs of a compound node

lined-outside : (l : List Carried) (t : Carried) (f : Feed) → (IsFilled f → In t l) → AreLined l (outside t f)
lined-outside l t (Port zero n p) h = tt
lined-outside l t (Port (suc up) n p) h = (λ k. h tt, tt)
lined-outside l t (Literal c) h = tt
lined-outside l t (Named s) h = tt
lined-outside l t Absent h = tt

lined-outsides : (l : List Carried) (ws : List Wire) → AreLined l ws → AreLined l (outsides ws)
lined-outsides l [] h = tt
lined-outsides l (w ∷ ws) h = lined-both l (outside w.ty w.feed) (outsides ws) (lined-outside l w.ty w.feed h.0) (lined-outsides l ws h.1)

lined-new : (l : List Carried) (ks : List Wire) (w : Wire) → AreLined l ks → IsLined l w → AreLined l (with_new ks w)
lined-new l ks w a h = by (has ks w.feed)
  where
    by : (b : Bool) → AreLined l (if b then ks else ks ++ w ∷ [])
    by true = a
    by false = lined-both l ks (w ∷ []) a (h, tt)

lined-distinct : (l : List Carried) (ks ws : List Wire) → AreLined l ks → AreLined l ws → AreLined l (distinct ks ws)
lined-distinct l ks [] a h = a
lined-distinct l ks (w ∷ ws) a h = lined-distinct l (with_new ks w) ws (lined-new l ks w a h.0) h.1

pub lined-inputs : (l : List Carried) (ws : List Wire) → AreLined l ws → AreLined l (distinct [] (outsides ws))
lined-inputs l ws h = lined-distinct l [] (outsides ws) tt (lined-outsides l ws h)

-- inputs that have a line carry nothing else
pub carried-among : (l : List Carried) (ws : List Wire) → AreLined l ws → (c : Carried) → In c (carried ws) → In c l
carried-among l [] h c i = absurd i
carried-among l (w ∷ ws) h c i = by w.feed h.0 (λ k. carried-among l ws h.1 c k) i
  where
    by : (f : Feed) → (IsFilled f → In w.ty l) → (In c (carried ws) → In c l) → In c (one_carried f w.ty ++ carried ws) → In c l
    by Absent k r i = r i
    by (Literal x) k r (inl e) = subst (λ z. In z l) (sym e) (k tt)
    by (Literal x) k r (inr i) = r i
    by (Named s) k r (inl e) = subst (λ z. In z l) (sym e) (k tt)
    by (Named s) k r (inr i) = r i
    by (Port up n p) k r (inl e) = subst (λ z. In z l) (sym e) (k tt)
    by (Port up n p) k r (inr i) = r i
