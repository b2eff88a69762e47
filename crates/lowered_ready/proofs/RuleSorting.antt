-- What wires carry by the types of a fitting tree, and which ports they fill.
use Rattle.std.proofs.Common.{◌≡◌, ℕ, zero, suc, ◌+◌, ◌<◌, ◌≤◌, ◌⊎◌, inl, inr, List, [], ◌∷◌, map, length, slice_get, Some, refl, sym, ap, subst, ◌∙◌, arith}
use Rattle.std.specs.Prelude.{Contains, MatchOption}
use Rattle.flow_value.specs.declared.ty.Ty.{Ty}
use Rattle.if1_graph.specs.declared.op.Simple.{Simple}
use Rattle.if1_graph.specs.Tables.{◌>>=◌, at_port}
use Rattle.if1_graph.specs.Rows.{operand_of}
use Rattle.if1_graph.specs.Types.{Sort, Plain}
use Rattle.if1_graph.specs.Formed.{IsOnce}
use Rattle.if1_graph.specs.Ports.{AreFirst, count_from}
use Rattle.if1_graph.specs.Typing.{Known, Fits}
use Rattle.type_table.specs.declared.form.Form.{Form}
use Rattle.lowering_meaning.specs.FittingTreesFitting.{Header}
use Rattle.lowering.specs.declared.feed.Feed.{Feed}
use Rattle.lowering.specs.declared.feed.Feed.TheVariants.{Literal, Named, Absent, Port}
use Rattle.lowering.specs.declared.feed.Carried.{Carried}
use Rattle.lowering.specs.declared.feed.Carried.TheVariants.{One, Many as Multiple, Callee}
use Rattle.lowering.specs.declared.feed.Wire.{Wire}
use Rattle.lowering.specs.Graphs.{closed_wires}
use Rattle.lowering_meaning.proofs.Wired.{IsShown as IsSeen, IsTyped, AreTyped}
use Rattle.lowered_ready.specs.Ports.{filled_from, sort_if, sort_in, IsWanted, AreWanted}
use Rattle.lowered_ready.specs.Parts.{IsShown}
use Rattle.lowered_ready.specs.RuleSorts.{IsSorting}
use Rattle.lowered_ready.proofs.Closing.{closed-shown}

-- ---- ports one after another

counted : (first n port : ℕ) → Contains (count_from first n) port → (first ≤ port) × (port < first + n)
counted first zero port (k, lt, e) = absurd (omega (arith, lt))
counted first (suc n) port (zero, lt, e) = (omega (arith, e), omega (arith, e))
counted first (suc n) port (suc k, lt, e) =
    let r = counted (suc first) n port (k, omega (arith, lt), e) in
    let a = r.0 in
    let b = r.1 in
    (omega (arith, a), omega (arith, b))

within : (first n port : ℕ) → first ≤ port → port < first + n → Contains (count_from first n) port
within first zero port a b = absurd (omega (arith, a, b))
within first (suc n) port a b =
    elim (split first port a) [
      | inl e ↦ (0, omega arith, e)
      | inr l ↦ let r = within (suc first) n port l (omega (arith, b)) in let k = r.1 in (suc r.0, omega (arith, k), r.2)
    ]
  where
    split : (a b : ℕ) → a ≤ b → (a ≡ b) ⊎ (suc a ≤ b)
    split a b h = grind arith

counted-once : (first n : ℕ) → IsOnce (count_from first n)
counted-once first zero = tt
counted-once first (suc n) = ((λ c. let r = (counted (suc first) n first c).0 in absurd (omega (arith, r))), counted-once (suc first) n)

pub first-ports : (n : ℕ) → AreFirst n (count_from 1 n)
first-ports n = record {
  once = counted-once 1 n;
  these = λ port. (
    λ c. let r = counted 1 n port c in let b = r.1 in (r.0, omega (arith, b)),
    λ r. let b = r.1 in within 1 n port r.0 (omega (arith, b)),
  );
}

pub seen-shown : (f : Feed) → IsSeen f → IsShown f
seen-shown (Literal c) h = h
seen-shown (Named s) h = h
seen-shown Absent h = h
seen-shown (Port up n q) h = h

-- sorts that a row wants from a port on
abbrev pub AreFit : Known → Simple → ℕ → List Sort → Type 0
AreFit k op port [] = Unit {0}
AreFit k op port (s ∷ ss) = MatchOption (operand_of op port) ⊥ (λ operand. Fits k operand.1 s) × AreFit k op (suc port) ss

module _ (sort : Carried → Sort) where
  -- ---- wires of these sorts, each a literal or a port

  abbrev pub AreSorted : List Wire → List Sort → Type 0
  AreSorted [] [] = Unit {0}
  AreSorted (w ∷ ws) (s ∷ ss) = (IsShown w.feed × (sort w.ty ≡ s)) × AreSorted ws ss
  AreSorted [] (s ∷ ss) = ⊥
  AreSorted (w ∷ ws) [] = ⊥

  pub closed-sorted : (ks : List Wire) (first own : ℕ) (ws : List Wire) (ss : List Sort) → AreSorted ws ss → AreSorted (closed_wires ks first own ws) ss
  closed-sorted ks first own [] [] h = tt
  closed-sorted ks first own [] (s ∷ ss) h = absurd h
  closed-sorted ks first own (w ∷ ws) [] h = absurd h
  closed-sorted ks first own (w ∷ ws) (s ∷ ss) h = ((closed-shown ks first own w.feed h.0.0, h.0.1), closed-sorted ks first own ws ss h.1)

  pub sorted-length : (ws : List Wire) (ss : List Sort) → AreSorted ws ss → length ws ≡ length ss
  sorted-length [] [] h = refl
  sorted-length [] (s ∷ ss) h = absurd h
  sorted-length (w ∷ ws) [] h = absurd h
  sorted-length (w ∷ ws) (s ∷ ss) h = ap suc (sorted-length ws ss h.1)

  pub sort-shown : (f : Feed) (c : Carried) → IsShown f → sort_if sort f c ≡ Some (sort c)
  sort-shown (Literal x) c h = refl
  sort-shown (Named s) c h = absurd h
  sort-shown Absent c h = absurd h
  sort-shown (Port up n q) c h = refl

  pub filled-sorted : (port : ℕ) (ws : List Wire) (ss : List Sort) → AreSorted ws ss → filled_from port ws ≡ count_from port (length ss)
  filled-sorted port [] [] h = refl
  filled-sorted port [] (s ∷ ss) h = absurd h
  filled-sorted port (w ∷ ws) [] h = absurd h
  filled-sorted port (w ∷ ws) (s ∷ ss) h = by w.feed h.0.0 (filled-sorted (suc port) ws ss h.1)
    where
      by : (f : Feed) → IsShown f → filled_from (suc port) ws ≡ count_from (suc port) (length ss) → filled_from port (record { feed = f; ty = w.ty } ∷ ws) ≡ port ∷ count_from (suc port) (length ss)
      by (Literal x) h r = ap (λ l. port ∷ l) r
      by (Named s) h r = absurd h
      by Absent h r = absurd h
      by (Port up n q) h r = ap (λ l. port ∷ l) r

  sorted-at : (ws : List Wire) (ss : List Sort) → AreSorted ws ss → (i : ℕ) → (slice_get ws i >>= λ w. sort_if sort w.feed w.ty) ≡ slice_get ss i
  sorted-at [] [] h i = refl
  sorted-at [] (s ∷ ss) h i = absurd h
  sorted-at (w ∷ ws) [] h i = absurd h
  sorted-at (w ∷ ws) (s ∷ ss) h zero = sort-shown w.feed w.ty h.0.0 ∙ ap Some h.0.1
  sorted-at (w ∷ ws) (s ∷ ss) h (suc i) = sorted-at ws ss h.1 i

  pub sort-at : (ws : List Wire) (ss : List Sort) → AreSorted ws ss → (port : ℕ) → sort_in sort ws port ≡ at_port port ss
  sort-at ws ss h zero = refl
  sort-at ws ss h (suc i) = sorted-at ws ss h i

  -- ---- what a row wants

  pub fit-wanted : (k : Known) (op : Simple) (port : ℕ) (ws : List Wire) (ss : List Sort) → AreSorted ws ss → AreFit k op port ss → AreWanted sort k op port ws
  fit-wanted k op port [] [] h f = tt
  fit-wanted k op port [] (s ∷ ss) h f = absurd h
  fit-wanted k op port (w ∷ ws) [] h f = absurd h
  fit-wanted k op port (w ∷ ws) (s ∷ ss) h f = (by w.feed h.0.0 (subst (λ z. MatchOption (operand_of op port) ⊥ (λ operand. Fits k operand.1 z)) (sym h.0.1) f.0), fit-wanted k op (suc port) ws ss h.1 f.1)
    where
      by : (g : Feed) → IsShown g → MatchOption (operand_of op port) ⊥ (λ operand. Fits k operand.1 (sort w.ty)) → IsWanted sort k op port g w.ty
      by (Literal x) h f = f
      by (Named s) h f = absurd h
      by Absent h f = absurd h
      by (Port up n q) h f = f

module _ (forms : List Form) (names : List (List ℕ)) (hs : List Header) (bare : Ty → Ty) (sort : Carried → Sort) (is : IsSorting forms names hs bare sort) where
  -- ---- from types to sorts

  abbrev pub AreSorts : List Ty → List Sort → Type 0
  AreSorts [] [] = Unit {0}
  AreSorts (t ∷ ts) (s ∷ ss) = (Plain (bare t) ≡ s) × AreSorts ts ss
  AreSorts [] (s ∷ ss) = ⊥
  AreSorts (t ∷ ts) [] = ⊥

  pub sort-of : (c : Carried) (t : Ty) → IsTyped forms names c t → sort c ≡ Plain (bare t)
  sort-of (One n) t h = is.values n t h
  sort-of (Multiple n) t h = absurd h
  sort-of (Callee f) t h = absurd h

  pub sorted : (ws : List Wire) (ts : List Ty) (ss : List Sort) → AreTyped forms names ws ts → AreSorts ts ss → AreSorted sort ws ss
  sorted [] [] [] h e = tt
  sorted [] [] (s ∷ ss) h e = absurd e
  sorted [] (t ∷ ts) ss h e = absurd h
  sorted (w ∷ ws) [] ss h e = absurd h
  sorted (w ∷ ws) (t ∷ ts) [] h e = absurd e
  sorted (w ∷ ws) (t ∷ ts) (s ∷ ss) h e = ((seen-shown w.feed h.0.1, sort-of w.ty t h.0.0 ∙ e.0), sorted ws ts ss h.1 e.1)

  abbrev pub plain : Ty → Sort
  plain t = Plain (bare t)

  pub plain-sorts : (ts : List Ty) → AreSorts ts (map plain ts)
  plain-sorts [] = tt
  plain-sorts (t ∷ ts) = (refl, plain-sorts ts)
