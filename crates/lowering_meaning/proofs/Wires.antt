-- Wires that phrases use: which of them are inputs of a compound node, and that those of graphs around are those of the names in
-- force.
use Rattle.std.proofs.Common.{◌≡◌, ℕ, zero, suc, Bool, true, false, List, [], ◌∷◌, ◌++◌, map, ◌⊎◌, inl, inr, refl, sym, ap, ◌∙◌, subst, nat_eq, if◌then◌else◌, T, eq-eqb, append_assoc}
use Rattle.std.proofs.Math.Facts.{eqb_yes}
use Rattle.if1_graph.specs.declared.op.Compound.TheVariants as compound
use Rattle.sisal_tree.specs.declared.expr.Constant.{Constant}
use Rattle.lowering.specs.declared.feed.Feed.{Feed}
use Rattle.lowering.specs.declared.feed.Feed.TheVariants.{Literal, Named, Absent, Port}
use Rattle.lowering.specs.declared.feed.Carried.{Carried}
use Rattle.lowering.specs.declared.feed.Wire.{Wire}
use Rattle.lowering.specs.Feeds.{wire, is_port, inside, into, outside, outsides, has, with_new, distinct}
use Rattle.lowering.specs.declared.graph.Action.{Action}
use Rattle.lowering.specs.declared.graph.Action.TheVariants.{Row, Call, Whole}
use Rattle.lowering.specs.declared.graph.LoweredNode.{LoweredNode}
use Rattle.lowering.specs.declared.graph.Lowered.{Lowered}
use Rattle.lowering.specs.Graphs.{used_by, used, uses, all_uses, inputs}

-- ---- all of some wires

abbrev pub AllWires : (Wire → Type 0) → List Wire → Type 0
AllWires P [] = Unit {0}
AllWires P (w ∷ ws) = P w × AllWires P ws

pub both-wires : (P : Wire → Type 0) (ws xs : List Wire) → AllWires P ws → AllWires P xs → AllWires P (ws ++ xs)
both-wires P [] xs a b = b
both-wires P (w ∷ ws) xs a b = (a.0, both-wires P ws xs a.1 b)

pub left-wires : (P : Wire → Type 0) (ws xs : List Wire) → AllWires P (ws ++ xs) → AllWires P ws
left-wires P [] xs a = tt
left-wires P (w ∷ ws) xs a = (a.0, left-wires P ws xs a.1)

pub right-wires : (P : Wire → Type 0) (ws xs : List Wire) → AllWires P (ws ++ xs) → AllWires P xs
right-wires P [] xs a = a
right-wires P (w ∷ ws) xs a = right-wires P ws xs a.1

pub weaker-wires : (P Q : Wire → Type 0) → ((w : Wire) → P w → Q w) → (ws : List Wire) → AllWires P ws → AllWires Q ws
weaker-wires P Q h [] a = tt
weaker-wires P Q h (w ∷ ws) a = (h w a.0, weaker-wires P Q h ws a.1)

-- one of these
abbrev pub In : Wire → List Wire → Type 0
In w [] = ⊥
In w (x ∷ xs) = (x ≡ w) ⊎ In w xs

pub wire-in : (P : Wire → Type 0) (ws : List Wire) (w : Wire) → AllWires P ws → In w ws → P w
wire-in P [] w a n = absurd n
wire-in P (x ∷ ws) w a (inl e) = subst P e a.0
wire-in P (x ∷ ws) w a (inr n) = wire-in P ws w a.1 n

pub in-all : (ws : List Wire) (P : Wire → Type 0) → ((w : Wire) → In w ws → P w) → AllWires P ws
in-all [] P h = tt
in-all (w ∷ ws) P h = (h w (inl refl), in-all ws P (λ x n. h x (inr n)))

pub in-left : (w : Wire) (ws xs : List Wire) → In w ws → In w (ws ++ xs)
in-left w [] xs a = absurd a
in-left w (x ∷ ws) xs (inl e) = inl e
in-left w (x ∷ ws) xs (inr a) = inr (in-left w ws xs a)

pub in-right : (w : Wire) (ws xs : List Wire) → In w xs → In w (ws ++ xs)
in-right w [] xs a = a
in-right w (x ∷ ws) xs a = inr (in-right w ws xs a)

-- ---- what fills the ports of nodes

pub ins-used : (P : Wire → Type 0) (a : Action) (ws : List Wire) → AllWires P (used_by a ws) → AllWires P ws
ins-used P (Row op) ws h = h
ins-used P (Call f) ws h = h
ins-used P (Whole compound.ForAll gs arms given outs) ws h = h
ins-used P (Whole compound.Select gs arms given outs) ws h = h
ins-used P (Whole compound.LoopA gs arms given outs) ws h = h
ins-used P (Whole compound.LoopB gs arms given outs) ws h = h
ins-used P (Whole compound.TagCase gs arms given outs) [] h = tt
ins-used P (Whole compound.TagCase gs arms given outs) (u ∷ ks) h = ((right-wires P ks (u ∷ []) h).0, left-wires P ks (u ∷ []) h)

pub used-ins : (P : Wire → Type 0) (a : Action) (ws : List Wire) → AllWires P ws → AllWires P (used_by a ws)
used-ins P (Row op) ws h = h
used-ins P (Call f) ws h = h
used-ins P (Whole compound.ForAll gs arms given outs) ws h = h
used-ins P (Whole compound.Select gs arms given outs) ws h = h
used-ins P (Whole compound.LoopA gs arms given outs) ws h = h
used-ins P (Whole compound.LoopB gs arms given outs) ws h = h
used-ins P (Whole compound.TagCase gs arms given outs) [] h = tt
used-ins P (Whole compound.TagCase gs arms given outs) (u ∷ ks) h = both-wires P ks (u ∷ []) h.1 (h.0, tt)

used-both : (vs ws : List LoweredNode) → used (vs ++ ws) ≡ used vs ++ used ws
used-both [] ws = refl
used-both (v ∷ vs) ws = ap (λ xs. used_by v.action v.ins ++ xs) (used-both vs ws) ∙ sym (append_assoc (used_by v.action v.ins) (used vs) (used ws))

pub used-apart : (P : Wire → Type 0) (vs ws : List LoweredNode) → AllWires P (used (vs ++ ws)) → AllWires P (used vs ++ used ws)
used-apart P vs ws h = subst (AllWires P) (used-both vs ws) h

pub used-joined : (P : Wire → Type 0) (vs ws : List LoweredNode) → AllWires P (used vs) → AllWires P (used ws) → AllWires P (used (vs ++ ws))
used-joined P vs ws a b = subst (AllWires P) (sym (used-both vs ws)) (both-wires P (used vs) (used ws) a b)

-- ---- ports

same-number : (a b : ℕ) → nat_eq a b ≡ true → a ≡ b
same-number a b e = eqb_yes (subst T (sym e) tt)

three : (x y z : Bool) → (if x then (if y then z else false) else false) ≡ true → (x ≡ true) × (y ≡ true) × (z ≡ true)
three true true true e = (refl, refl, refl)
three true true false e = absurd cc
three true false z e = absurd cc
three false y z e = absurd cc

pub is-port-same : (f g : Feed) → is_port f g ≡ true → f ≡ g
is-port-same (Port a b c) (Port d e h) is =
    let t = three (nat_eq a d) (nat_eq b e) (nat_eq c h) is in
    let x = same-number a d t.0 in
    let y = same-number b e t.1 in
    let z = same-number c h t.2 in
    ap (λ i. Port i b c) x ∙ ap (λ i. Port d i c) y ∙ ap (λ i. Port d e i) z
is-port-same (Port a b c) (Literal x) is = absurd cc
is-port-same (Port a b c) (Named x) is = absurd cc
is-port-same (Port a b c) Absent is = absurd cc
is-port-same (Literal x) g is = absurd cc
is-port-same (Named x) g is = absurd cc
is-port-same Absent g is = absurd cc

self : (n : ℕ) → nat_eq n n ≡ true
self n = eq-eqb n n refl

pub is-port-self : (a b c : ℕ) → is_port (Port a b c) (Port a b c) ≡ true
is-port-self a b c =
    ap (λ x. if x then (if nat_eq b b then nat_eq c c else false) else false) (self a) ∙ ap (λ x. if x then nat_eq c c else false) (self b) ∙ self c

-- ---- each once

with-new-all : (P : Wire → Type 0) (ks : List Wire) (w : Wire) (b : Bool) → AllWires P ks → P w → AllWires P (if b then ks else ks ++ w ∷ [])
with-new-all P ks w true a h = a
with-new-all P ks w false a h = both-wires P ks (w ∷ []) a (h, tt)

pub distinct-all : (P : Wire → Type 0) (ks ws : List Wire) → AllWires P ks → AllWires P ws → AllWires P (distinct ks ws)
distinct-all P ks [] a b = a
distinct-all P ks (w ∷ ws) a b = distinct-all P (with_new ks w) ws (with-new-all P ks w (has ks w.feed) a b.0) b.1

has-left : (ks xs : List Wire) (f : Feed) → has ks f ≡ true → has (ks ++ xs) f ≡ true
has-left [] xs f e = absurd cc
has-left (k ∷ ks) xs f e = go (is_port k.feed f) (has-left ks xs f) e
  where
    go : (b : Bool) → (has ks f ≡ true → has (ks ++ xs) f ≡ true) → (if b then true else has ks f) ≡ true → (if b then true else has (ks ++ xs) f) ≡ true
    go true h e = refl
    go false h e = h e

has-last : (ks : List Wire) (w : Wire) → is_port w.feed w.feed ≡ true → has (ks ++ w ∷ []) w.feed ≡ true
has-last [] w e = ap (λ b. if b then true else false) e
has-last (k ∷ ks) w e = go (is_port k.feed w.feed) (has-last ks w e)
  where
    go : (b : Bool) → has (ks ++ w ∷ []) w.feed ≡ true → (if b then true else has (ks ++ w ∷ []) w.feed) ≡ true
    go true h = refl
    go false h = h

has-new : (ks : List Wire) (w : Wire) → is_port w.feed w.feed ≡ true → has (with_new ks w) w.feed ≡ true
has-new ks w e = go (has ks w.feed) refl
  where
    go : (b : Bool) → has ks w.feed ≡ b → has (if b then ks else ks ++ w ∷ []) w.feed ≡ true
    go true h = h
    go false h = has-last ks w e

has-old : (ks : List Wire) (w : Wire) (f : Feed) → has ks f ≡ true → has (with_new ks w) f ≡ true
has-old ks w f h = go (has ks w.feed)
  where
    go : (b : Bool) → has (if b then ks else ks ++ w ∷ []) f ≡ true
    go true = h
    go false = has-left ks (w ∷ []) f h

distinct-keeps : (ks ws : List Wire) (f : Feed) → has ks f ≡ true → has (distinct ks ws) f ≡ true
distinct-keeps ks [] f h = h
distinct-keeps ks (w ∷ ws) f h = distinct-keeps (with_new ks w) ws f (has-old ks w f h)

-- each port among these is one of the distinct ones
pub distinct-has : (ks ws : List Wire) → AllWires (λ w. is_port w.feed w.feed ≡ true) ws → AllWires (λ w. has (distinct ks ws) w.feed ≡ true) ws
distinct-has ks [] a = tt
distinct-has ks (w ∷ ws) a = (distinct-keeps (with_new ks w) ws w.feed (has-new ks w a.0), distinct-has (with_new ks w) ws a.1)

-- ---- what is used inside

-- a port of a graph around is an input
abbrev pub is_there : List Wire → Feed → Type 0
is_there ks (Port (suc up) n p) = has ks (Port up n p) ≡ true
is_there ks f = Unit {0}

abbrev pub IsThere : List Wire → Wire → Type 0
IsThere ks w = is_there ks w.feed

outsides-ports : (ws : List Wire) → AllWires (λ w. is_port w.feed w.feed ≡ true) (outsides ws)
outsides-ports [] = tt
outsides-ports (w ∷ ws) = both-wires (λ w. is_port w.feed w.feed ≡ true) (outside w.ty w.feed) (outsides ws) (go w.ty w.feed) (outsides-ports ws)
  where
    go : (t : Carried) (f : Feed) → AllWires (λ w. is_port w.feed w.feed ≡ true) (outside t f)
    go t (Port zero n p) = tt
    go t (Port (suc up) n p) = (is-port-self up n p, tt)
    go t (Literal c) = tt
    go t (Named x) = tt
    go t Absent = tt

there-of : (ks ws : List Wire) → AllWires (λ w. has ks w.feed ≡ true) (outsides ws) → AllWires (IsThere ks) ws
there-of ks [] a = tt
there-of ks (w ∷ ws) a = (go w.ty w.feed (left-wires _ (outside w.ty w.feed) (outsides ws) a), there-of ks ws (right-wires _ (outside w.ty w.feed) (outsides ws) a))
  where
    go : (t : Carried) (f : Feed) → AllWires (λ w. has ks w.feed ≡ true) (outside t f) → is_there ks f
    go t (Port zero n p) a = tt
    go t (Port (suc up) n p) a = a.0
    go t (Literal c) a = tt
    go t (Named x) a = tt
    go t Absent a = tt

-- what is used inside is there
pub uses-there : (ws : List Wire) → AllWires (IsThere (distinct [] (outsides ws))) ws
uses-there ws = there-of (distinct [] (outsides ws)) ws (distinct-has [] (outsides ws) (outsides-ports ws))

-- ---- what comes from the names in force

-- a port of a graph around is that of a name
abbrev pub from_names : List Wire → Feed → Carried → Type 0
from_names env (Port (suc up) n p) t = In (wire (Port (suc up) n p) t) env
from_names env f t = Unit {0}

abbrev pub FromNames : List Wire → Wire → Type 0
FromNames env w = from_names env w.feed w.ty

pub from-in : (env : List Wire) (w : Wire) → In w env → FromNames env w
from-in env w a = go w.feed w.ty a
  where
    go : (f : Feed) (t : Carried) → In (wire f t) env → from_names env f t
    go (Port (suc up) n p) t a = a
    go (Port zero n p) t a = tt
    go (Literal c) t a = tt
    go (Named x) t a = tt
    go Absent t a = tt

pub from-more : (env more : List Wire) → AllWires (FromNames env) more → (w : Wire) → FromNames more w → FromNames env w
from-more env more a w h = go w.feed w.ty h
  where
    go : (f : Feed) (t : Carried) → from_names more f t → from_names env f t
    go (Port (suc up) n p) t h = wire-in (FromNames env) more (wire (Port (suc up) n p) t) a h
    go (Port zero n p) t h = tt
    go (Literal c) t h = tt
    go (Named x) t h = tt
    go Absent t h = tt

pub names-from : (env : List Wire) → AllWires (FromNames env) env
names-from env = in-all env (FromNames env) (from-in env)

-- the inputs come from the names around, where those inside are these seen from inside and own inputs
feed-of : (f g : Feed) (c d : Carried) → wire f c ≡ wire g d → f ≡ g
feed-of f g c d e = ap (λ (w : Wire). w.feed) e

down : (a b d : ℕ) {up n p : ℕ} → Port (suc a) b d ≡ Port (suc up) n p → Port a b d ≡ Port up n p
down a b d e = cc

by-literal : (x : Constant) {up n p : ℕ} → Literal x ≡ Port up n p → ⊥
by-literal x e = cc

by-name : (x : List ℕ) {up n p : ℕ} → Named x ≡ Port up n p → ⊥
by-name x e = cc

by-none : {up n p : ℕ} → Absent ≡ Port up n p → ⊥
by-none e = cc

by-own : (b d : ℕ) {up n p : ℕ} → Port zero b d ≡ Port (suc up) n p → ⊥
by-own b d e = cc

into-in : (env : List Wire) (up n p : ℕ) (t : Carried) → In (wire (Port (suc up) n p) t) (map into env) → In (wire (Port up n p) t) env
into-in [] up n p t a = absurd a
into-in (w ∷ ws) up n p t (inl e) = inl (go w.feed w.ty e)
  where
    go : (f : Feed) (c : Carried) → wire (inside f) c ≡ wire (Port (suc up) n p) t → wire f c ≡ wire (Port up n p) t
    go (Port a b d) c e = ap (λ f. wire f c) (down a b d (feed-of (Port (suc a) b d) (Port (suc up) n p) c t e)) ∙ ap (λ x. wire (Port up n p) x) (ap (λ (w : Wire). w.ty) e)
    go (Literal x) c e = absurd (let d = feed-of (Literal x) (Port (suc up) n p) c t e in by-literal x d)
    go (Named x) c e = absurd (let d = feed-of (Named x) (Port (suc up) n p) c t e in by-name x d)
    go Absent c e = absurd (let d = feed-of Absent (Port (suc up) n p) c t e in by-none d)
into-in (w ∷ ws) up n p t (inr a) = inr (into-in ws up n p t a)

-- no port of a graph around is among these
abbrev pub is_own : Feed → Type 0
is_own (Port (suc up) n p) = ⊥
is_own f = Unit {0}

abbrev pub AreOwn : List Wire → Type 0
AreOwn ws = AllWires (λ w. is_own w.feed) ws

in-own : (ws own : List Wire) (up n p : ℕ) (t : Carried) → AreOwn own → In (wire (Port (suc up) n p) t) (ws ++ own) → In (wire (Port (suc up) n p) t) ws
in-own [] [] up n p t o a = absurd a
in-own [] (w ∷ own) up n p t o (inl e) = absurd (go w.feed w.ty o.0 e)
  where
    go : (f : Feed) (c : Carried) → is_own f → wire f c ≡ wire (Port (suc up) n p) t → ⊥
    go (Port (suc a) b d) c h e = h
    go (Port zero b d) c h e = by-own b d (feed-of (Port zero b d) (Port (suc up) n p) c t e)
    go (Literal x) c h e = by-literal x (feed-of (Literal x) (Port (suc up) n p) c t e)
    go (Named x) c h e = by-name x (feed-of (Named x) (Port (suc up) n p) c t e)
    go Absent c h e = by-none (feed-of Absent (Port (suc up) n p) c t e)
in-own [] (w ∷ own) up n p t o (inr a) = in-own [] own up n p t o.1 a
in-own (w ∷ ws) own up n p t o (inl e) = inl e
in-own (w ∷ ws) own up n p t o (inr a) = inr (in-own ws own up n p t o a)

-- the ports of the graph around that are used come from the names around
pub outsides-in : (env own ws : List Wire) → AreOwn own → AllWires (FromNames (map into env ++ own)) ws → AllWires (λ w. In w env) (outsides ws)
outsides-in env own [] o a = tt
outsides-in env own (w ∷ ws) o a = both-wires (λ w. In w env) (outside w.ty w.feed) (outsides ws) (go w.feed w.ty a.0) (outsides-in env own ws o a.1)
  where
    go : (f : Feed) (t : Carried) → from_names (map into env ++ own) f t → AllWires (λ w. In w env) (outside t f)
    go (Port (suc up) n p) t h = (into-in env up n p t (in-own (map into env) own up n p t o h), tt)
    go (Port zero n p) t h = tt
    go (Literal c) t h = tt
    go (Named x) t h = tt
    go Absent t h = tt

pub outsides-both : (ws xs : List Wire) → outsides (ws ++ xs) ≡ outsides ws ++ outsides xs
outsides-both [] xs = refl
outsides-both (w ∷ ws) xs = ap (λ ys. outside w.ty w.feed ++ ys) (outsides-both ws xs) ∙ sym (append_assoc (outside w.ty w.feed) (outsides ws) (outsides xs))

-- what a phrase becomes uses no port of a graph around but those of these names
abbrev pub MadeFrom : List Wire → Lowered → Type 0
MadeFrom env m = AllWires (FromNames env) (uses m)

-- graphs inside a node, with own inputs
abbrev pub AllFrom : List Wire → List Lowered → Type 0
AllFrom env [] = Unit {0}
AllFrom env (m ∷ ms) = ((own : List Wire) × AreOwn own × MadeFrom (map into env ++ own) m) × AllFrom env ms

all-outsides : (env : List Wire) (ms : List Lowered) → AllFrom env ms → AllWires (λ w. In w env) (outsides (all_uses ms))
all-outsides env [] h = tt
all-outsides env (m ∷ ms) h =
    subst (AllWires (λ w. In w env)) (sym (outsides-both (uses m) (all_uses ms)))
    (both-wires _ (outsides (uses m)) (outsides (all_uses ms)) (outsides-in env h.0.0 (uses m) h.0.1 h.0.2) (all-outsides env ms h.1))

-- the inputs of a node come from the names in force
pub inputs-in : (env : List Wire) (ms : List Lowered) → AllFrom env ms → AllWires (λ w. In w env) (inputs ms)
inputs-in env ms h = distinct-all (λ w. In w env) [] (outsides (all_uses ms)) tt (all-outsides env ms h)
