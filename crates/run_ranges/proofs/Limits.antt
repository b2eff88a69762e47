-- A path within one limit is one within another, or comes to that one.
use Rattle.std.proofs.Common.{◌≡◌, ℕ, suc, ◌+◌, ◌<◌, ◌≤◌, ◌⊎◌, inl, inr, Bool, true, false, if◌then◌else◌, ltb, List, [], ◌∷◌, length, map, sym, ap, ◌∙◌}
use Rattle.graph_meaning.specs.Carried.{Carried}
use Rattle.run_code.specs.Cells.{Operand, look, write}
use Rattle.run_code.specs.Coded.{Layout}
use Rattle.run_code.specs.Collections.{Collect}
use Rattle.run_code.specs.Machine.{Frame, Goes, Over, State, at, step}
use Rattle.run_code.specs.Steps.{Add, Code, Each, Step}
use Rattle.run_store.proofs.Effects.{effects}
use Rattle.run_store.proofs.Refining.{Calling, Leaving, Writing, kinds}
use Rattle.run_store.specs.Effects.{apply, counted_if, effect, reads_of}
use Rattle.run_ranges.specs.Apart.{StepsApart}
use Rattle.run_ranges.proofs.Apart.{no-goes-over}
use Rattle.run_ranges.proofs.Bodies.{Deep, Kind, On, Path, here, onward}

counted-shorter : (c : Bool) (far limit fires : ℕ) (g : ℕ → State) (t : State) → counted_if c far fires (λ y. Goes (g y)) ≡ Goes t → (counted_if c limit fires (λ y. Goes (g y)) ≡ Goes t) ⊎ (counted_if c limit fires (λ y. Goes (g y)) ≡ Over)
counted-shorter false far limit fires g t e = inl e
counted-shorter true far limit fires g t e = go (ltb fires far) (ltb fires limit) refl₁ e
  where
    refl₁ : ltb fires limit ≡ ltb fires limit
    refl₁ = λ i. ltb fires limit

    go : (b c : Bool) → ltb fires limit ≡ c → (if b then Goes (g (suc fires)) else Over) ≡ Goes t → ((if ltb fires limit then Goes (g (suc fires)) else Over) ≡ Goes t) ⊎ ((if ltb fires limit then Goes (g (suc fires)) else Over) ≡ Over)
    go false c p e = absurd (no-goes-over t e)
    go true true p e = inl (ap (λ z. if z then Goes (g (suc fires)) else Over) p ∙ e)
    go true false p e = inr (ap (λ z. if z then Goes (g (suc fires)) else Over) p)

step-shorter : (code : Code) (far limit : ℕ) (s t : State) → step far code s ≡ Goes t → (step limit code s ≡ Goes t) ⊎ (step limit code s ≡ Over)
step-shorter code far limit s t e = by-kind (kinds x s.pc ks)
  where
    x : Step
    x = code s.pc

    ks : List Carried
    ks = map (look s.cells s.base) (reads_of x)

    there : apply far (effect x s.pc ks) s.pc s.base s.cells s.calls s.fires ≡ Goes t
    there = sym (effects far x s.pc s.base s.cells s.calls s.fires) ∙ e

    onto : (apply limit (effect x s.pc ks) s.pc s.base s.cells s.calls s.fires ≡ Goes t) ⊎ (apply limit (effect x s.pc ks) s.pc s.base s.cells s.calls s.fires ≡ Over) → (step limit code s ≡ Goes t) ⊎ (step limit code s ≡ Over)
    onto (inl p) = inl (effects limit x s.pc s.base s.cells s.calls s.fires ∙ p)
    onto (inr p) = inr (effects limit x s.pc s.base s.cells s.calls s.fires ∙ p)

    by-kind : Writing x s.pc ks ⊎ (Calling x ⊎ Leaving x) → (step limit code s ≡ Goes t) ⊎ (step limit code s ≡ Over)
    by-kind (inl y) =
        onto (as-effect (counted-shorter y.0 far limit s.fires (λ f. at y.1 s.base (write (s.base + y.2) y.3 y.4 s.cells) s.calls f) t (sym (ap (λ z. apply far z s.pc s.base s.cells s.calls s.fires) y.5) ∙ there)))
      where
        as-effect : (counted_if y.0 limit s.fires (λ f. Goes (at y.1 s.base (write (s.base + y.2) y.3 y.4 s.cells) s.calls f)) ≡ Goes t) ⊎ (counted_if y.0 limit s.fires (λ f. Goes (at y.1 s.base (write (s.base + y.2) y.3 y.4 s.cells) s.calls f)) ≡ Over)
            → (apply limit (effect x s.pc ks) s.pc s.base s.cells s.calls s.fires ≡ Goes t) ⊎ (apply limit (effect x s.pc ks) s.pc s.base s.cells s.calls s.fires ≡ Over)
        as-effect (inl p) = inl (ap (λ z. apply limit z s.pc s.base s.cells s.calls s.fires) y.5 ∙ p)
        as-effect (inr p) = inr (ap (λ z. apply limit z s.pc s.base s.cells s.calls s.fires) y.5 ∙ p)
    by-kind (inr (inl y)) =
        onto (as-effect (counted-shorter true far limit s.fires (λ f. at y.0 (s.base + y.1) (write (s.base + y.1) (length ks) ks s.cells) (o ∷ s.calls) f) t (sym (ap (λ z. apply far (effect z s.pc ks) s.pc s.base s.cells s.calls s.fires) y.5) ∙ there)))
      where
        o : Frame
        o = record { pc = suc s.pc; base = s.base; out = y.3; width = y.4 }

        as-effect : (counted_if true limit s.fires (λ f. Goes (at y.0 (s.base + y.1) (write (s.base + y.1) (length ks) ks s.cells) (o ∷ s.calls) f)) ≡ Goes t) ⊎ (counted_if true limit s.fires (λ f. Goes (at y.0 (s.base + y.1) (write (s.base + y.1) (length ks) ks s.cells) (o ∷ s.calls) f)) ≡ Over)
            → (apply limit (effect x s.pc ks) s.pc s.base s.cells s.calls s.fires ≡ Goes t) ⊎ (apply limit (effect x s.pc ks) s.pc s.base s.cells s.calls s.fires ≡ Over)
        as-effect (inl p) = inl (ap (λ z. apply limit (effect z s.pc ks) s.pc s.base s.cells s.calls s.fires) y.5 ∙ p)
        as-effect (inr p) = inr (ap (λ z. apply limit (effect z s.pc ks) s.pc s.base s.cells s.calls s.fires) y.5 ∙ p)
    by-kind (inr (inr y)) =
        onto (inl (ap (λ z. apply limit (effect z s.pc ks) s.pc s.base s.cells s.calls s.fires) y.1 ∙ (sym (ap (λ z. apply far (effect z s.pc ks) s.pc s.base s.cells s.calls s.fires) y.1) ∙ there)))

module _ (X : Layout) (far limit turn turned first n k there leave under : ℕ) (cs : List Collect) (nexts : List Operand) (apart_is : (pc : ℕ) → turn ≤ pc → pc < turned → StepsApart turn turned first (first + (n + k)) pc (X.code pc))
    (each_is : X.code there ≡ Each n first (first + (n + k)) turn leave) (adds : X.code turned ≡ Add cs nexts (first + n) there) (cs_many : length cs ≡ k) (ahead : turn ≤ turned) (behind : turned < there) where
  deep-as : (base pc : ℕ) (calls : List Frame) → Deep X far turn turned first n k there leave under cs nexts apart_is each_is adds cs_many ahead behind base pc calls
      → Deep X limit turn turned first n k there leave under cs nexts apart_is each_is adds cs_many ahead behind base pc calls
  deep-as base pc [] h = h
  deep-as base pc (o ∷ os) h = (h.0, h.1, deep-as o.base o.pc os h.2)

  on-as : (pc : ℕ) (calls : List Frame) → On X far turn turned first n k there leave under cs nexts apart_is each_is adds cs_many ahead behind pc calls → On X limit turn turned first n k there leave under cs nexts apart_is each_is adds cs_many ahead behind pc calls
  on-as pc [] h = h
  on-as pc (o ∷ os) h = tt

  kind-as : (m : ℕ) (s : State) → Kind X far turn turned first n k there leave under cs nexts apart_is each_is adds cs_many ahead behind m s → Kind X limit turn turned first n k there leave under cs nexts apart_is each_is adds cs_many ahead behind m s
  kind-as m s (inl h) = inl (deep-as s.base s.pc s.calls h.0, on-as s.pc s.calls h.1)
  kind-as m s (inr (inl h)) = inr (inl h)
  kind-as m s (inr (inr h)) = inr (inr h)

  abbrev pub Nearly : (m : ℕ) → State → Type 0
  Nearly m s = Kind X limit turn turned first n k there leave under cs nexts apart_is each_is adds cs_many ahead behind m s

  abbrev Far : (m : ℕ) → State → State → Type 0
  Far m s t = Path X far turn turned first n k there leave under cs nexts apart_is each_is adds cs_many ahead behind m s t

  abbrev pub Near : (m : ℕ) → State → State → Type 0
  Near m s t = Path X limit turn turned first n k there leave under cs nexts apart_is each_is adds cs_many ahead behind m s t

  pub shorten : (m : ℕ) (s t : State) → Path X far turn turned first n k there leave under cs nexts apart_is each_is adds cs_many ahead behind m s t → Near m s t ⊎ ((q : State) × Near m s q × Nearly m q × (step limit X.code q ≡ Over))
  shorten m _ _ (here s) = inl (here s)
  shorten m _ _ (onward s q t kind e more) = go (step-shorter X.code far limit s q e) (shorten m q t more)
    where
      go : (step limit X.code s ≡ Goes q) ⊎ (step limit X.code s ≡ Over) → Near m q t ⊎ ((r : State) × Near m q r × Nearly m r × (step limit X.code r ≡ Over)) → Near m s t ⊎ ((r : State) × Near m s r × Nearly m r × (step limit X.code r ≡ Over))
      go (inr o) later = inr (s, here s, kind-as m s kind, o)
      go (inl e) (inl later) = inl (onward s q t (kind-as m s kind) e later)
      go (inl e) (inr later) = inr (later.0, onward s q later.0 (kind-as m s kind) e later.1, later.2, later.3)
