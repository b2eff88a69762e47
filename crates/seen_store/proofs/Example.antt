-- The code that is made of a ForAll over the arrays of an array (`made_store`), read through paths: the multiple of the array's elements and
-- its elements have no cells of their own.
use Rattle.std.proofs.Common.{◌≡◌, ◌⊎◌, ℕ, zero, suc, ◌+◌, ◌<◌, ◌≤◌, ◌&&◌, ◌||◌, not, is_none, Bool, true, false, List, [], ◌∷◌, get_or, Option, Some, None, inl, inr, refl, sym, ap, ◌∙◌, subst, arith}
use Rattle.std.proofs.lemmas.Bool.{cases_lt}
use Rattle.graph_meaning.specs.Demand.{Port, Vertex}
use Rattle.run_code.specs.Cells.{At, Lit, Operand}
use Rattle.run_code.specs.Coded.{Layout}
use Rattle.run_code.specs.Made.{Plan}
use Rattle.run_laws.specs.Facts.{AsLong, Counted, Fact, Here, Is, Path, Preserves, Scattered, Through, Touches, Uses}
use Rattle.run_made.specs.Plans.{Weighing, laid}
use Rattle.run_store.proofs.Example.{cs, net, node_of, storage}
use Rattle.run_store.specs.Effects.{IsOneOf, leads, reads_of}
use Rattle.run_store.specs.Lively.{Live}
use Rattle.run_store.specs.Refines.{IsTaken}
use Rattle.run_store.specs.Stored.{Handling, Mode, Takes, mode_at, tail}
use Rattle.run_store.specs.Whole.{IsStoredCode}
use Rattle.made_store.proofs.Example.{stored}
use Rattle.made_store.specs.Settings.{Shares}
use Rattle.made_store.specs.Settled.{functions_settings, handling_of, live_of, own_of}
use Rattle.made_store.specs.Weights.{by_modes}
use Rattle.seen_store.proofs.Seeing.{seen-stored}
use Rattle.seen_store.specs.Seen.{ArePlain, CallsBare, IsSeenThrough, LendsSeen, Seen, StaysBare, bare_of, seen_handling}

-- ---- the plan and its shares, as they stand there

abbrev plan : Plan
plan =
    record {
      nodes = λ g. node_of g ∷ [];
      results = λ g. Port 1 1 ∷ [];
      width = λ v. 1;
      picks = λ g v. false ∷ [];
      collects = λ r. cs;
      refolded = λ r. 4;
      params = λ f. 1;
      entry = λ f. 0;
      size = λ g. get_or (9 ∷ []) g 1;
      extent = λ g. get_or (6 ∷ []) g 1;
    }

abbrev shares : Shares
shares = record { takes = λ g l p. false; copies = λ g l p. false; owns = λ g p. false; has = λ g p. true; puts = λ r. false ∷ [] }

abbrev weighing : Weighing
weighing = by_modes plan shares storage

abbrev order : ℕ → List Vertex
order g = node_of g ∷ []

abbrev code_of : Layout
code_of = laid plan weighing net order (0 ∷ []) 2

abbrev handling : (place : ℕ) → Handling
handling = handling_of (functions_settings plan shares 2 (0 ∷ []))

abbrev live : Live
live = live_of (functions_settings plan shares 2 (0 ∷ []))

abbrev own : Live
own = own_of (functions_settings plan shares 2 (0 ∷ []))

-- ---- what is seen, and what is not kept

abbrev elements : Path
elements = Scattered (Here 0)

abbrev element : Path
element = Counted elements 4

-- the multiple of the elements, and the element that is counted
abbrev both_seen : ℕ → Option Path
both_seen (suc (suc zero)) = Some elements
both_seen (suc (suc (suc (suc (suc zero))))) = Some element
both_seen c = None

-- from the place where the multiple is made on
abbrev seen : Seen
seen zero = λ c. None
seen (suc zero) = λ c. None
seen (suc (suc zero)) = λ c. None
seen (suc (suc (suc pc))) = both_seen

abbrev hidden : (place cell : ℕ) → Bool
hidden zero = λ c. false
hidden (suc zero) = λ c. false
hidden (suc (suc pc)) = λ c. not (is_none (both_seen c))

abbrev facts : ℕ → List Fact
facts (suc (suc (suc zero))) = Through 2 elements ∷ []
facts (suc (suc (suc (suc zero)))) = Through 5 element ∷ Through 2 elements ∷ AsLong 2 1 ∷ []
facts (suc (suc (suc (suc (suc zero))))) = Through 5 element ∷ Through 2 elements ∷ AsLong 2 1 ∷ []
facts (suc (suc (suc (suc (suc (suc zero)))))) = Through 2 elements ∷ AsLong 2 1 ∷ []
facts (suc (suc (suc (suc (suc (suc (suc zero))))))) = Through 2 elements ∷ []
facts (suc (suc (suc (suc (suc (suc (suc (suc zero)))))))) = Through 2 elements ∷ []
facts _ = []

-- ---- what is known

apart-above : (out w : ℕ) → 3 ≤ out → (c : ℕ) → Touches (Through 2 elements) c → (c < out) ⊎ (out + w ≤ c)
apart-above out w le c (inl e) = inl (omega (arith, e, le))
apart-above out w le c (inr e) = inl (omega (arith, e, le))

apart-none : (f : Fact) (c : ℕ) → Touches f c → (c < 0) ⊎ (0 + 0 ≤ c)
apart-none f c h = inr (omega arith)

element-above : (out w : ℕ) → 6 ≤ out → (c : ℕ) → Touches (Through 5 element) c → (c < out) ⊎ (out + w ≤ c)
element-above out w le c (inl e) = inl (omega (arith, e, le))
element-above out w le c (inr (inl e)) = inl (omega (arith, e, le))
element-above out w le c (inr (inr e)) = inl (omega (arith, e, le))

long-above : (out w : ℕ) → 3 ≤ out → (c : ℕ) → Touches (AsLong 2 1) c → (c < out) ⊎ (out + w ≤ c)
long-above out w le c h = let lt = h.1 in inl (omega (arith, lt, le))

leads-below : (out w : ℕ) → 1 ≤ out → (c : ℕ) → Uses elements c → (c < out) ⊎ (out + w ≤ c)
leads-below out w le c e = inl (omega (arith, e, le))

preserves : (pc : ℕ) → Preserves facts pc (code_of.code pc)
preserves zero = tt
preserves (suc zero) = tt
preserves (suc (suc zero)) = (inl (refl, (0, Here 0, omega arith, refl, inl refl, (λ c e. inl (omega (arith, e))), refl)), tt)
preserves (suc (suc (suc zero))) =
    ((inr (inl (0, 2, elements, omega arith, refl, omega arith, inr (inl refl), leads-below 2 3 (omega arith), refl)), (inl refl, tt)), tt)
preserves (suc (suc (suc (suc zero)))) =
    (inr (inl refl, element-above 6 1 (omega arith)), (inr (inr (inl refl), apart-above 6 1 (omega arith)), (inr (inr (inr (inl refl)), long-above 6 1 (omega arith)), tt)))
preserves (suc (suc (suc (suc (suc zero))))) = ((inr (inl refl), apart-above 3 1 (omega arith)), ((inr (inr (inl refl)), long-above 3 1 (omega arith)), tt))
preserves (suc (suc (suc (suc (suc (suc zero)))))) = (
  (inl (0, elements, omega arith, inr (inl refl), inr (inl refl), leads-below 4 2 (omega arith), refl), (inr (inl refl, apart-above 4 2 (omega arith)), (inr (inr (inl refl), long-above 4 2 (omega arith)), tt))),
  ((inl refl, apart-none (Through 2 elements)), tt),
)
preserves (suc (suc (suc (suc (suc (suc (suc zero))))))) = (inr (inl refl, apart-above 4 1 (omega arith)), tt)
preserves (suc (suc (suc (suc (suc (suc (suc (suc zero)))))))) = tt
preserves (suc (suc (suc (suc (suc (suc (suc (suc (suc zero))))))))) = tt
preserves (suc (suc (suc (suc (suc (suc (suc (suc (suc (suc pc)))))))))) = tt

-- ---- what is read in itself

abbrev takes_it : Mode → Bool
takes_it Takes = true
takes_it m = false

abbrev bare_operand : Operand → Bool
bare_operand (At c) = is_none (both_seen c)
bare_operand (Lit k) = true

abbrev all_bare : List Mode → List Operand → Bool
all_bare ms [] = true
all_bare ms (a ∷ args) = (not (takes_it (mode_at ms)) || bare_operand a) && all_bare (tail ms) args

and-both : (a b : Bool) → a && b ≡ true → (a ≡ true) × (b ≡ true)
and-both true b e = (refl, e)
and-both false b e = absurd cc

implied : (a b : Bool) → not a || b ≡ true → a ≡ true → b ≡ true
implied true b e f = e
implied false b e f = absurd cc

none-of : (o : Option Path) → is_none o ≡ true → o ≡ None
none-of None e = refl
none-of (Some p) e = absurd cc

taken-bare : (ms : List Mode) (args : List Operand) → all_bare ms args ≡ true → (c : ℕ) → IsTaken ms args c → both_seen c ≡ None
taken-bare ms [] e c h = absurd h
taken-bare ms (a ∷ args) e c (inl h) = none-of (both_seen c) (ap bare_operand (sym h.1) ∙ implied (takes_it (mode_at ms)) (bare_operand a) (and-both (not (takes_it (mode_at ms)) || bare_operand a) (all_bare (tail ms) args) e).0 (ap takes_it h.0))
taken-bare ms (a ∷ args) e c (inr h) = taken-bare (tail ms) args (and-both (not (takes_it (mode_at ms)) || bare_operand a) (all_bare (tail ms) args) e).1 c h

abbrev AllBare : ℕ → Type 0
AllBare pc = all_bare (handling pc).modes (reads_of (code_of.code pc)) ≡ true

bare-at : (pc : ℕ) → AllBare pc → (c : ℕ) → IsTaken (handling pc).modes (reads_of (code_of.code pc)) c → seen pc c ≡ None
bare-at zero e c h = refl
bare-at (suc zero) e c h = refl
bare-at (suc (suc zero)) e c h = refl
bare-at (suc (suc (suc pc))) e c h = taken-bare (handling (suc (suc (suc pc)))).modes (reads_of (code_of.code (suc (suc (suc pc))))) e c h

taken-all : (pc : ℕ) → AllBare pc
taken-all zero = refl
taken-all (suc zero) = refl
taken-all (suc (suc zero)) = refl
taken-all (suc (suc (suc zero))) = refl
taken-all (suc (suc (suc (suc zero)))) = refl
taken-all (suc (suc (suc (suc (suc zero))))) = refl
taken-all (suc (suc (suc (suc (suc (suc zero)))))) = refl
taken-all (suc (suc (suc (suc (suc (suc (suc zero))))))) = refl
taken-all (suc (suc (suc (suc (suc (suc (suc (suc zero)))))))) = refl
taken-all (suc (suc (suc (suc (suc (suc (suc (suc (suc zero))))))))) = refl
taken-all (suc (suc (suc (suc (suc (suc (suc (suc (suc (suc pc)))))))))) = refl

plain-all : (pc : ℕ) → ArePlain (handling pc).modes
plain-all zero = tt
plain-all (suc zero) = tt
plain-all (suc (suc zero)) = (tt, tt)
plain-all (suc (suc (suc zero))) = (tt, tt)
plain-all (suc (suc (suc (suc zero)))) = (tt, (tt, tt))
plain-all (suc (suc (suc (suc (suc zero))))) = (tt, (tt, tt))
plain-all (suc (suc (suc (suc (suc (suc zero)))))) = tt
plain-all (suc (suc (suc (suc (suc (suc (suc zero))))))) = (tt, (tt, tt))
plain-all (suc (suc (suc (suc (suc (suc (suc (suc zero)))))))) = (tt, tt)
plain-all (suc (suc (suc (suc (suc (suc (suc (suc (suc zero))))))))) = (tt, tt)
plain-all (suc (suc (suc (suc (suc (suc (suc (suc (suc (suc pc)))))))))) = tt

-- ---- what is seen is live and known

-- cell 0 is live where the multiple is, and the count where the element is
abbrev Lives : ℕ → Type 0
Lives pc = (not (live pc 2) || live pc 0 ≡ true) × (not (live pc 5) || (live pc 0 && live pc 4) ≡ true)

lives-all : (pc : ℕ) → Lives pc
lives-all zero = (refl, refl)
lives-all (suc zero) = (refl, refl)
lives-all (suc (suc zero)) = (refl, refl)
lives-all (suc (suc (suc zero))) = (refl, refl)
lives-all (suc (suc (suc (suc zero)))) = (refl, refl)
lives-all (suc (suc (suc (suc (suc zero))))) = (refl, refl)
lives-all (suc (suc (suc (suc (suc (suc zero)))))) = (refl, refl)
lives-all (suc (suc (suc (suc (suc (suc (suc zero))))))) = (refl, refl)
lives-all (suc (suc (suc (suc (suc (suc (suc (suc zero)))))))) = (refl, refl)
lives-all (suc (suc (suc (suc (suc (suc (suc (suc (suc zero))))))))) = (refl, refl)
lives-all (suc (suc (suc (suc (suc (suc (suc (suc (suc (suc pc)))))))))) = (refl, refl)

some-is : (p q : Path) → Some p ≡ Some q → p ≡ q
some-is p q e = cc

no-some : (A : Type 0) (p : Path) → None ≡ Some p → A
no-some A p e = absurd (let x : None ≡ Some p = e in cc)

is-live : (pc i j : ℕ) → j ≡ i → live pc i ≡ true → live pc j ≡ true
is-live pc i j e h = ap (live pc) e ∙ h

reached-all : (pc c i : ℕ) (p : Path) → both_seen c ≡ Some p → live pc c ≡ true → Uses p i → (live pc i ≡ true) × (both_seen i ≡ None)
reached-all pc zero i p e l u = no-some _ p e
reached-all pc (suc zero) i p e l u = no-some _ p e
reached-all pc (suc (suc zero)) i p e l u =
    let z : i ≡ 0 = subst (λ q. Uses q i) (sym (some-is elements p e)) u in
    (is-live pc 0 i z (implied (live pc 2) (live pc 0) (lives-all pc).0 l), ap both_seen z)
reached-all pc (suc (suc (suc zero))) i p e l u = no-some _ p e
reached-all pc (suc (suc (suc (suc zero)))) i p e l u = no-some _ p e
reached-all pc (suc (suc (suc (suc (suc zero))))) i p e l u = either (subst (λ q. Uses q i) (sym (some-is element p e)) u)
  where
    both : (live pc 0 ≡ true) × (live pc 4 ≡ true)
    both = and-both (live pc 0) (live pc 4) (implied (live pc 5) (live pc 0 && live pc 4) (lives-all pc).1 l)

    either : Uses element i → (live pc i ≡ true) × (both_seen i ≡ None)
    either (inl z) = (is-live pc 4 i z both.1, ap both_seen z)
    either (inr z) = (is-live pc 0 i z both.0, ap both_seen z)
reached-all pc (suc (suc (suc (suc (suc (suc c)))))) i p e l u = no-some _ p e

-- the fact stands there, or the cell is not live
abbrev Stands : (pc c : ℕ) → Path → Type 0
Stands pc c p = (live pc c ≡ false) ⊎ Is (Through c p) (facts pc)

stands-all : (pc : ℕ) → Stands (suc (suc (suc pc))) 2 elements × Stands (suc (suc (suc pc))) 5 element
stands-all zero = (inr (inl refl), inl refl)
stands-all (suc zero) = (inr (inr (inl refl)), inr (inl refl))
stands-all (suc (suc zero)) = (inr (inr (inl refl)), inr (inl refl))
stands-all (suc (suc (suc zero))) = (inr (inl refl), inl refl)
stands-all (suc (suc (suc (suc zero)))) = (inr (inl refl), inl refl)
stands-all (suc (suc (suc (suc (suc zero))))) = (inr (inl refl), inl refl)
stands-all (suc (suc (suc (suc (suc (suc zero)))))) = (inl refl, inl refl)
stands-all (suc (suc (suc (suc (suc (suc (suc pc))))))) = (inl refl, inl refl)

stood : (pc c : ℕ) (p : Path) → Stands pc c p → live pc c ≡ true → Is (Through c p) (facts pc)
stood pc c p (inl e) l = absurd (let x : true ≡ false = sym l ∙ e in cc)
stood pc c p (inr h) l = h

known-all : (pc c : ℕ) (p : Path) → both_seen c ≡ Some p → live (suc (suc (suc pc))) c ≡ true → Is (Through c p) (facts (suc (suc (suc pc))))
known-all pc zero p e l = no-some _ p e
known-all pc (suc zero) p e l = no-some _ p e
known-all pc (suc (suc zero)) p e l = subst (λ q. Is (Through 2 q) (facts (suc (suc (suc pc))))) (some-is elements p e) (stood (suc (suc (suc pc))) 2 elements (stands-all pc).0 l)
known-all pc (suc (suc (suc zero))) p e l = no-some _ p e
known-all pc (suc (suc (suc (suc zero)))) p e l = no-some _ p e
known-all pc (suc (suc (suc (suc (suc zero))))) p e l = subst (λ q. Is (Through 5 q) (facts (suc (suc (suc pc))))) (some-is element p e) (stood (suc (suc (suc pc))) 5 element (stands-all pc).1 l)
known-all pc (suc (suc (suc (suc (suc (suc c)))))) p e l = no-some _ p e

-- ---- where a step leads

beside-or-in : (out w c : ℕ) → ((out ≤ c) × (c < out + w)) ⊎ ((c < out) ⊎ (out + w ≤ c))
beside-or-in out w c = at (cases_lt c out) (cases_lt c (out + w))
  where
    at : (c < out) ⊎ (out ≤ c) → (c < out + w) ⊎ (out + w ≤ c) → ((out ≤ c) × (c < out + w)) ⊎ ((c < out) ⊎ (out + w ≤ c))
    at (inl lt) h = inr (inl lt)
    at (inr le) (inr above) = inr (inr above)
    at (inr le) (inl lt) = inl (le, lt)

abbrev Stays_at : (pc next out w : ℕ) → Type 0
Stays_at = StaysBare seen hidden live own

-- before the multiple is made nothing is seen
early : (pc next out w : ℕ) → ((c : ℕ) → hidden pc c ≡ false) → ((c : ℕ) → seen pc c ≡ None) → Stays_at pc next out w
early pc next out w not_hidden bare c some e = go (beside-or-in out w c)
  where
    go : ((out ≤ c) × (c < out + w)) ⊎ ((c < out) ⊎ (out + w ≤ c)) → ((out ≤ c) × (c < out + w) × (hidden pc c ≡ false)) ⊎ (((c < out) ⊎ (out + w ≤ c)) × (seen pc c ≡ None))
    go (inl h) = inl (h.0, h.1, not_hidden c)
    go (inr h) = inr (h, bare c)

-- behind it the same cells are seen at each place
late : (pc next out w : ℕ) → Stays_at (suc (suc pc)) (suc (suc (suc next))) out w
late pc next out w c some e = go (beside-or-in out w c)
  where
    bare : (pc : ℕ) → seen (suc (suc pc)) c ≡ None
    bare zero = refl
    bare (suc pc) = e

    go : ((out ≤ c) × (c < out + w)) ⊎ ((c < out) ⊎ (out + w ≤ c)) → ((out ≤ c) × (c < out + w) × (hidden (suc (suc pc)) c ≡ false)) ⊎ (((c < out) ⊎ (out + w ≤ c)) × (seen (suc (suc pc)) c ≡ None))
    go (inl h) = inl (h.0, h.1, ap (λ o. not (is_none o)) e)
    go (inr h) = inr (h, bare pc)

late-at : (pc next m out w : ℕ) → next ≡ suc (suc (suc m)) → Stays_at (suc (suc pc)) next out w
late-at pc next m out w e = subst (λ n. Stays_at (suc (suc pc)) n out w) (sym e) (late pc m out w)

leads-all : (pc next out w : ℕ) → IsOneOf next out w (leads (code_of.code pc) pc) → Stays_at pc next out w
leads-all zero next out w h = early 0 next out w (λ c. refl) (λ c. refl)
leads-all (suc zero) next out w h = early 1 next out w (λ c. refl) (λ c. refl)
leads-all (suc (suc zero)) next out w (inl h) = late-at 0 next 0 out w h.0
leads-all (suc (suc zero)) next out w (inr h) = absurd h
leads-all (suc (suc (suc zero))) next out w (inl h) = late-at 1 next 6 out w h.0
leads-all (suc (suc (suc zero))) next out w (inr (inl h)) = late-at 1 next 3 out w h.0
leads-all (suc (suc (suc zero))) next out w (inr (inr h)) = absurd h
leads-all (suc (suc (suc (suc zero)))) next out w (inl h) = late-at 2 next 2 out w h.0
leads-all (suc (suc (suc (suc zero)))) next out w (inr h) = absurd h
leads-all (suc (suc (suc (suc (suc zero))))) next out w (inl h) = late-at 3 next 3 out w h.0
leads-all (suc (suc (suc (suc (suc zero))))) next out w (inr h) = absurd h
leads-all (suc (suc (suc (suc (suc (suc zero)))))) next out w (inl h) = late-at 4 next 1 out w h.0
leads-all (suc (suc (suc (suc (suc (suc zero)))))) next out w (inr (inl h)) = late-at 4 next 4 out w h.0
leads-all (suc (suc (suc (suc (suc (suc zero)))))) next out w (inr (inr h)) = absurd h
leads-all (suc (suc (suc (suc (suc (suc (suc zero))))))) next out w (inl h) = late-at 5 next 5 out w h.0
leads-all (suc (suc (suc (suc (suc (suc (suc zero))))))) next out w (inr h) = absurd h
leads-all (suc (suc (suc (suc (suc (suc (suc (suc zero)))))))) next out w (inl h) = late-at 6 next 6 out w h.0
leads-all (suc (suc (suc (suc (suc (suc (suc (suc zero)))))))) next out w (inr h) = absurd h
leads-all (suc (suc (suc (suc (suc (suc (suc (suc (suc zero))))))))) next out w h = absurd h
leads-all (suc (suc (suc (suc (suc (suc (suc (suc (suc (suc pc)))))))))) next out w h = absurd h

-- ---- no step calls

calls-all : (pc : ℕ) → CallsBare seen hidden live own pc (code_of.code pc)
calls-all zero = tt
calls-all (suc zero) = tt
calls-all (suc (suc zero)) = tt
calls-all (suc (suc (suc zero))) = tt
calls-all (suc (suc (suc (suc zero)))) = tt
calls-all (suc (suc (suc (suc (suc zero))))) = tt
calls-all (suc (suc (suc (suc (suc (suc zero)))))) = tt
calls-all (suc (suc (suc (suc (suc (suc (suc zero))))))) = tt
calls-all (suc (suc (suc (suc (suc (suc (suc (suc zero)))))))) = tt
calls-all (suc (suc (suc (suc (suc (suc (suc (suc (suc zero))))))))) = tt
calls-all (suc (suc (suc (suc (suc (suc (suc (suc (suc (suc pc)))))))))) = tt

lends-all : (pc : ℕ) → LendsSeen seen hidden live own (handling pc).modes pc (code_of.code pc)
lends-all zero = tt
lends-all (suc zero) = tt
lends-all (suc (suc zero)) = tt
lends-all (suc (suc (suc zero))) = tt
lends-all (suc (suc (suc (suc zero)))) = tt
lends-all (suc (suc (suc (suc (suc zero))))) = tt
lends-all (suc (suc (suc (suc (suc (suc zero)))))) = tt
lends-all (suc (suc (suc (suc (suc (suc (suc zero))))))) = tt
lends-all (suc (suc (suc (suc (suc (suc (suc (suc zero)))))))) = tt
lends-all (suc (suc (suc (suc (suc (suc (suc (suc (suc zero))))))))) = tt
lends-all (suc (suc (suc (suc (suc (suc (suc (suc (suc (suc pc)))))))))) = tt

reached-at : (pc c i : ℕ) (p : Path) → seen pc c ≡ Some p → live pc c ≡ true → Uses p i → (live pc i ≡ true) × (seen pc i ≡ None)
reached-at zero c i p e l u = no-some _ p e
reached-at (suc zero) c i p e l u = no-some _ p e
reached-at (suc (suc zero)) c i p e l u = no-some _ p e
reached-at (suc (suc (suc pc))) c i p e l u = reached-all (suc (suc (suc pc))) c i p e l u

known-at : (pc c : ℕ) (p : Path) → seen pc c ≡ Some p → live pc c ≡ true → Is (Through c p) (facts pc)
known-at zero c p e l = no-some _ p e
known-at (suc zero) c p e l = no-some _ p e
known-at (suc (suc zero)) c p e l = no-some _ p e
known-at (suc (suc (suc pc))) c p e l = known-all pc c p e l

seen-through : IsSeenThrough seen hidden live own code_of.code handling facts
seen-through =
    record {
      plain = plain-all;
      taken = λ pc. bare-at pc (taken-all pc);
      reached = reached-at;
      known = known-at;
      leads_on = leads-all;
      calls = calls-all;
      lends = lends-all;
      preserves = preserves;
    }

-- ---- so it is stored code that reads both in the argument

pub seen-stored-code : IsStoredCode storage code_of (seen_handling seen hidden code_of.code handling) facts (bare_of seen live) (bare_of seen own)
seen-stored-code = seen-stored storage code_of handling live own seen hidden facts stored seen-through
