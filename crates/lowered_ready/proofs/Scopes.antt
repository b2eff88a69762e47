-- Which ports are in scope while a graph is made, and what they carry: those of the graph and of the graphs around it.
use Rattle.std.proofs.Common.{◌≡◌, ℕ, zero, suc, ◌≤◌, Bool, true, false, List, [], ◌∷◌, ◌++◌, map, drop, length, slice_get, Option, Some, None, refl, ap, subst, ◌∙◌, arith, nat_eq}
use Rattle.std.specs.Prelude.{if◌then◌else◌, slice_set}
use Rattle.std.proofs.lemmas.Bool.{eqb-true, eq-eqb}
use Rattle.std.proofs.lemmas.List.{append_assoc}
use Rattle.flow_value.specs.declared.ty.Ty.{Ty}
use Rattle.if1_graph.specs.Tables.{◌>>=◌, at_port}
use Rattle.type_table.specs.declared.form.Form.{Form}
use Rattle.lowering.specs.declared.feed.Feed.{Feed}
use Rattle.lowering.specs.declared.feed.Feed.TheVariants.{Literal, Named, Absent, Port}
use Rattle.lowering.specs.declared.feed.Carried.{Carried}
use Rattle.lowering.specs.declared.feed.Wire.{Wire}
use Rattle.lowering.specs.Feeds.{inside, into}
use Rattle.lowering.specs.Graphs.{ports}
use Rattle.lowering.specs.Operations.{wire_at}
use Rattle.lowering.specs.Loops.{take_up, renew, renew_one}
use Rattle.lowering_meaning.proofs.Wired.{IsTyped, AreTyped}
use Rattle.lowered_ready.specs.Ports.{Outs, type_from, type_at}

-- the own inputs of a graph, and what its nodes give
pub record Level : Type 0 where
  pub own : List Carried
  pub outs : List Outs

abbrev pub level : List Carried → List Outs → Level
level own outs = record { own = own; outs = outs }

abbrev pub output_type : List Outs → ℕ → ℕ → Option Carried
output_type outs n q = slice_get outs n >>= λ o. type_at o q

abbrev pub port_type : Level → ℕ → ℕ → Option Carried
port_type l zero q = at_port q l.own
port_type l (suc n) q = output_type l.outs n q

-- what a port carries, so many graphs around
abbrev pub reach : List Level → ℕ → ℕ → ℕ → Option Carried
reach [] up n q = None
reach (l ∷ ls) zero n q = port_type l n q
reach (l ∷ ls) (suc up) n q = reach ls up n q

module _ (forms : List Form) (names : List (List ℕ)) where
  -- a value of a type, and no multiple
  abbrev pub IsValue : Carried → Type 0
  IsValue c = (t : Ty) × IsTyped forms names c t

  -- a port carries this; from graphs around come values alone
  abbrev pub IsIn : List Level → Feed → Carried → Type 0
  IsIn ls (Port zero n q) c = reach ls zero n q ≡ Some c
  IsIn ls (Port (suc up) n q) c = (reach ls (suc up) n q ≡ Some c) × IsValue c
  IsIn ls f c = Unit {0}

  abbrev pub AreIn : List Level → List Wire → Type 0
  AreIn ls [] = Unit {0}
  AreIn ls (w ∷ ws) = IsIn ls w.feed w.ty × AreIn ls ws

  -- ---- lists

  pub in-both : (ls : List Level) (vs ws : List Wire) → AreIn ls vs → AreIn ls ws → AreIn ls (vs ++ ws)
  in-both ls [] ws a b = b
  in-both ls (v ∷ vs) ws a b = (a.0, in-both ls vs ws a.1 b)

  pub in-left : (ls : List Level) (vs ws : List Wire) → AreIn ls (vs ++ ws) → AreIn ls vs
  in-left ls [] ws a = tt
  in-left ls (v ∷ vs) ws a = (a.0, in-left ls vs ws a.1)

  pub in-drop : (ls : List Level) (k : ℕ) (ws : List Wire) → AreIn ls ws → AreIn ls (drop k ws)
  in-drop ls zero ws a = a
  in-drop ls (suc k) [] a = a
  in-drop ls (suc k) (w ∷ ws) a = in-drop ls k ws a.1

  pub in-take : (ls : List Level) (k : ℕ) (ws : List Wire) → AreIn ls ws → AreIn ls (take_up k ws)
  in-take ls zero ws a = tt
  in-take ls (suc k) [] a = tt
  in-take ls (suc k) (w ∷ ws) a = (a.0, in-take ls k ws a.1)

  pub in-at : (ls : List Level) (ws : List Wire) (x : ℕ) → AreIn ls ws → IsIn ls (wire_at ws x).feed (wire_at ws x).ty
  in-at ls [] x a = tt
  in-at ls (w ∷ ws) zero a = a.0
  in-at ls (w ∷ ws) (suc x) a = in-at ls ws x a.1

  in-set : (ls : List Level) (ws : List Wire) (k : ℕ) (w : Wire) → AreIn ls ws → IsIn ls w.feed w.ty → AreIn ls (slice_set ws k w)
  in-set ls [] k w a b = a
  in-set ls (v ∷ vs) zero w a b = (b, a.1)
  in-set ls (v ∷ vs) (suc k) w a b = (a.0, in-set ls vs k w a.1 b)

  pub in-renew : (ls : List Level) (ds : List (Option ℕ)) (ws l : List Wire) → AreIn ls ws → AreIn ls l → AreIn ls (renew ds ws l)
  in-renew ls [] ws l a b = b
  in-renew ls (d ∷ ds) [] l a b = b
  in-renew ls (d ∷ ds) (w ∷ ws) l a b = by d (in-renew ls ds ws l a.1 b)
    where
      by : (d : Option ℕ) → AreIn ls (renew ds ws l) → AreIn ls (renew_one d w (renew ds ws l))
      by None r = r
      by (Some x) r = in-set ls (renew ds ws l) x w r a.0

  -- ---- nodes more

  output-more : (before more : List Outs) (n q : ℕ) (c : Carried) → output_type before n q ≡ Some c → output_type (before ++ more) n q ≡ Some c
  output-more [] more n q c e = absurd cc
  output-more (o ∷ before) more zero q c e = e
  output-more (o ∷ before) more (suc n) q c e = output-more before more n q c e

  in-more : (own : List Carried) (before more : List Outs) (ls : List Level) (f : Feed) (c : Carried) → IsIn (level own before ∷ ls) f c → IsIn (level own (before ++ more) ∷ ls) f c
  in-more own before more ls (Literal x) c h = tt
  in-more own before more ls (Named x) c h = tt
  in-more own before more ls Absent c h = tt
  in-more own before more ls (Port zero zero q) c h = h
  in-more own before more ls (Port zero (suc n) q) c h = output-more before more n q c h
  in-more own before more ls (Port (suc up) n q) c h = h

  pub all-more : (own : List Carried) (before more : List Outs) (ls : List Level) (ws : List Wire) → AreIn (level own before ∷ ls) ws → AreIn (level own (before ++ more) ∷ ls) ws
  all-more own before more ls [] a = tt
  all-more own before more ls (w ∷ ws) a = (in-more own before more ls w.feed w.ty a.0, all-more own before more ls ws a.1)

  -- ---- a graph inside

  into-in : (l m : Level) (ls : List Level) (f : Feed) (c : Carried) → IsIn (l ∷ ls) f c → IsValue c → IsIn (m ∷ l ∷ ls) (inside f) c
  into-in l m ls (Literal x) c h v = tt
  into-in l m ls (Named x) c h v = tt
  into-in l m ls Absent c h v = tt
  into-in l m ls (Port zero n q) c h v = (h, v)
  into-in l m ls (Port (suc up) n q) c h v = (h.0, v)

  -- names of these types are seen from a graph inside
  pub all-into : (l m : Level) (ls : List Level) (ws : List Wire) (tys : List Ty) → AreTyped forms names ws tys → AreIn (l ∷ ls) ws → AreIn (m ∷ l ∷ ls) (map into ws)
  all-into l m ls [] tys t a = tt
  all-into l m ls (w ∷ ws) [] t a = absurd t
  all-into l m ls (w ∷ ws) (x ∷ tys) t a = (into-in l m ls w.feed w.ty a.0 (x, t.0.0), all-into l m ls ws tys t.1 a.1)

  -- ---- the ports of a node

  output-last : (before : List Outs) (o : Outs) (q : ℕ) → output_type (before ++ o ∷ []) (length before) q ≡ type_at o q
  output-last [] o q = refl
  output-last (x ∷ before) o q = output-last before o q

  type-least : (port : ℕ) (ts : List Carried) (q : ℕ) (c : Carried) → type_from port ts q ≡ Some c → port ≤ q
  type-least port [] q c e = absurd cc
  type-least port (t ∷ ts) q c e = by (nat_eq port q) refl e (type-least (suc port) ts q c)
    where
      by : (b : Bool) → nat_eq port q ≡ b → (if b then Some t else type_from (suc port) ts q) ≡ Some c → (type_from (suc port) ts q ≡ Some c → suc port ≤ q) → port ≤ q
      by true i e r = let s = eqb-true port q i in omega (arith, s)
      by false i e r = let l = r e in omega (arith, l)

  type-later : (port : ℕ) (t : Carried) (ts : List Carried) (q : ℕ) (c : Carried) → type_from (suc port) ts q ≡ Some c → type_from port (t ∷ ts) q ≡ Some c
  type-later port t ts q c e = by (nat_eq port q) refl
    where
      by : (b : Bool) → nat_eq port q ≡ b → (if b then Some t else type_from (suc port) ts q) ≡ Some c
      by true i = let s = eqb-true port q i in let l = type-least (suc port) ts q c e in absurd (omega (arith, s, l))
      by false i = e

  ports-from : (own : List Carried) (outs : List Outs) (ls : List Level) (n port : ℕ) (ts : List Carried) → ((q : ℕ) (c : Carried) → type_from port ts q ≡ Some c → output_type outs n q ≡ Some c)
      → AreIn (level own outs ∷ ls) (ports (suc n) port ts)
  ports-from own outs ls n port [] h = tt
  ports-from own outs ls n port (t ∷ ts) h =
      (h port t (ap (λ b. if b then Some t else type_from (suc port) ts port) (eq-eqb port port refl)), ports-from own outs ls n (suc port) ts (λ q c e. h q c (type-later port t ts q c e)))

  pub ports-in : (own : List Carried) (before : List Outs) (ls : List Level) (port : ℕ) (ts : List Carried)
      → AreIn (level own (before ++ record { port = port; types = ts } ∷ []) ∷ ls) (ports (suc (length before)) port ts)
  ports-in own before ls port ts = ports-from own (before ++ record { port = port; types = ts } ∷ []) ls (length before) port ts (λ q c e. output-last before (record { port = port; types = ts }) q ∙ e)

  -- ---- own inputs

  slice-seam : {A : Type 0} (front : List A) (x : A) (back : List A) → slice_get (front ++ x ∷ back) (length front) ≡ Some x
  slice-seam [] x back = refl
  slice-seam (y ∷ front) x back = slice-seam front x back

  -- behind these own inputs, and before those
  pub own-in : (front ts back : List Carried) (outs : List Outs) (ls : List Level) → AreIn (level (front ++ (ts ++ back)) outs ∷ ls) (ports 0 (suc (length front)) ts)
  own-in front [] back outs ls = tt
  own-in front (t ∷ ts) back outs ls =
      let e = append_assoc front (t ∷ []) (ts ++ back) in (
        slice-seam front t (ts ++ back),
        subst (λ l. AreIn (level l outs ∷ ls) (ports 0 (suc (suc (length front))) ts)) e
            (subst (λ k. AreIn (level ((front ++ t ∷ []) ++ (ts ++ back)) outs ∷ ls) (ports 0 (suc k) ts)) (longer front t) (own-in (front ++ t ∷ []) ts back outs ls)),
      )
    where
      longer : (front : List Carried) (t : Carried) → length (front ++ t ∷ []) ≡ suc (length front)
      longer [] t = refl
      longer (x ∷ front) t = ap suc (longer front t)
