-- Steps of a body that keeps to itself: they do the same whatever stands in the cells of the ForAll, and leave it there.
use Rattle.std.proofs.Common.{◌≡◌, ℕ, suc, ◌+◌, ◌-◌, ◌<◌, ◌≤◌, ◌⊎◌, ◌&&◌, inl, inr, Bool, true, false, if◌then◌else◌, leb, ltb, List, [], ◌∷◌, length, map, get_or, refl, sym, ap, ◌∙◌, subst, arith}
use Rattle.graph_meaning.specs.Carried.{Carried, Unfilled}
use Rattle.run_code.specs.Cells.{At, Cells, Lit, Operand, look, write}
use Rattle.run_code.specs.Coded.{Layout}
use Rattle.run_code.specs.Machine.{Frame, Goes, Ends, Over, State, at, returned, step}
use Rattle.run_code.specs.Steps.{Call, Step}
use Rattle.run_laws.proofs.Cells.{write-below}
use Rattle.run_store.proofs.Effects.{do-lead, effects, write-none}
use Rattle.run_store.proofs.Refining.{Calling, Leaving, Writing, kinds}
use Rattle.run_store.specs.Effects.{Writes, apply, counted_if, effect, reads_of}
use Rattle.run_ranges.specs.Apart.{AreApart, CallsApart, StepsApart}

pub no-goes-over : (t : State) → Over ≡ Goes t → ⊥
no-goes-over t e = cc

pub no-goes-end : (rs : List Carried) (f : ℕ) (t : State) → Ends rs f ≡ Goes t → ⊥
no-goes-end rs f t e = cc

pub same-goes : (s t : State) → Goes s ≡ Goes t → s ≡ t
same-goes s t e = cc

-- a step that goes on counts or not, whatever it leads to
pub record Counted (c : Bool) (limit fires : ℕ) (g : ℕ → State) (t : State) : Type 0 where
  pub now : ℕ
  pub later : fires ≤ now
  pub is : g now ≡ t
  pub others : (h : ℕ → State) → counted_if c limit fires (λ y. Goes (h y)) ≡ Goes (h now)

pub counted-goes : (c : Bool) (limit fires : ℕ) (g : ℕ → State) (t : State) → counted_if c limit fires (λ y. Goes (g y)) ≡ Goes t → Counted c limit fires g t
counted-goes false limit fires g t e = record { now = fires; later = omega arith; is = same-goes (g fires) t e; others = λ h. refl }
counted-goes true limit fires g t e = go (ltb fires limit) refl e
  where
    go : (b : Bool) → ltb fires limit ≡ b → (if b then Goes (g (suc fires)) else Over) ≡ Goes t → Counted true limit fires g t
    go true p e = record { now = suc fires; later = omega arith; is = same-goes (g (suc fires)) t e; others = λ h. ap (λ b. if b then Goes (h (suc fires)) else Over) p }
    go false p e = absurd (no-goes-over t e)

module _ (X : Layout) (limit turn turned first last : ℕ) (low : first ≤ last) (apart : (pc : ℕ) → turn ≤ pc → pc < turned → StepsApart turn turned first last pc (X.code pc)) (under : ℕ) where
  -- the last cell of the ForAll
  abbrev pub edge : ℕ
  edge = under + last

  -- in the body, or in a call that it has open
  abbrev pub Deep : (base pc : ℕ) → List Frame → Type 0
  Deep base pc [] = (base ≡ under) × (turn ≤ pc) × (pc ≤ turned)
  Deep base pc (o ∷ os) = (edge < base) × ((edge < o.base + o.out) ⊎ (o.width ≡ 0)) × Deep o.base o.pc os

  -- and not behind it
  abbrev pub On : (pc : ℕ) → List Frame → Type 0
  On pc [] = pc < turned
  On pc (o ∷ os) = Unit {0}

  -- the same, but for the cells of the ForAll
  abbrev pub Agree : Cells → Cells → Type 0
  Agree a b = (j : ℕ) → (j < under + first) ⊎ (edge < j) → a j ≡ b j

  abbrev pub Low : Cells → Cells → Type 0
  Low a b = (j : ℕ) → j ≤ edge → a j ≡ b j

  low-write : (out w : ℕ) (rs : List Carried) (cells : Cells) → (edge < out) ⊎ (w ≡ 0) → Low (write out w rs cells) cells
  low-write out w rs cells (inl lt) j le = write-below out w rs cells j (omega (arith, lt, le))
  low-write out w rs cells (inr z) j le = ap (λ n. write out n rs cells j) z ∙ sym (write-none out rs cells j)

  agree-write : (out w : ℕ) (rs : List Carried) (a b : Cells) → Agree a b → Agree (write out w rs a) (write out w rs b)
  agree-write out w rs a b h j o = ap (λ z. if leb out j && ltb j (out + w) then get_or rs (j - out) Unfilled else z) (h j o)

  -- ---- what is read

  pub looks-same : (base : ℕ) (a b : Cells) → ((i : ℕ) → (i < first) ⊎ (last < i) → a (base + i) ≡ b (base + i)) → (args : List Operand) → AreApart first last args → map (look a base) args ≡ map (look b base) args
  looks-same base a b same [] h = refl
  looks-same base a b same (Lit c ∷ args) h = ap (λ ks. c ∷ ks) (looks-same base a b same args h.1)
  looks-same base a b same (At i ∷ args) h = ap (λ k. k ∷ map (look a base) args) (same i h.0) ∙ ap (λ ks. b (base + i) ∷ ks) (looks-same base a b same args h.1)

  all-same : (base : ℕ) (a b : Cells) → edge < base → Agree a b → (args : List Operand) → map (look a base) args ≡ map (look b base) args
  all-same base a b lt same [] = refl
  all-same base a b lt same (Lit c ∷ args) = ap (λ ks. c ∷ ks) (all-same base a b lt same args)
  all-same base a b lt same (At i ∷ args) = ap (λ k. k ∷ map (look a base) args) (same (base + i) (inr (omega (arith, lt)))) ∙ ap (λ ks. b (base + i) ∷ ks) (all-same base a b lt same args)

  reads-same : (base pc : ℕ) (calls : List Frame) (a b : Cells) → Deep base pc calls → On pc calls → Agree a b → map (look a base) (reads_of (X.code pc)) ≡ map (look b base) (reads_of (X.code pc))
  reads-same base pc [] a b deep on same =
      let e = deep.0 in
      let s = apart pc deep.1 on in
      looks-same base a b (λ i o. same (base + i) (place i o)) (reads_of (X.code pc)) s.reads
    where
      place : (i : ℕ) → (i < first) ⊎ (last < i) → (base + i < under + first) ⊎ (edge < base + i)
      place i (inl lt) = let e = deep.0 in inl (omega (arith, lt, e))
      place i (inr lt) = let e = deep.0 in inr (omega (arith, lt, e))
  reads-same base pc (o ∷ os) a b deep on same = all-same base a b deep.0 same (reads_of (X.code pc))

  -- ---- one step

  pub record Twin (pc base : ℕ) (a b : Cells) (calls : List Frame) (fires : ℕ) (t : State) : Type 0 where
    pub now : Cells
    pub went : step limit X.code (at pc base a calls fires) ≡ Goes (at t.pc t.base now t.calls t.fires)
    pub agree : Agree now t.cells
    pub deep : Deep t.base t.pc t.calls
    pub kept : Low now a
    pub kept₂ : Low t.cells b
    pub later : fires ≤ t.fires

  -- what is called, and what is given back, lies behind
  frame-deep : (pc base : ℕ) (calls : List Frame) (entry size : ℕ) (args : List Operand) (out w : ℕ) → X.code pc ≡ Call entry size args out w → Deep base pc calls → On pc calls
      → (edge < base + size) × ((edge < base + out) ⊎ (w ≡ 0)) × Deep base (suc pc) calls
  frame-deep pc base [] entry size args out w is deep on =
      let s = apart pc deep.1 on in
      let c = subst (CallsApart last turned pc) is s.calls in
      let e = deep.0 in
      let p = c.0 in
      let q = c.1 in
      let r = c.2 in
      let f = deep.1 in
      (omega (arith, e, q), inl (omega (arith, e, r)), (e, omega (arith, f), p))
  frame-deep pc base (o ∷ os) entry size args out w is deep on =
      let lt = deep.0 in
      (omega (arith, lt), inl (omega (arith, lt)), deep)

  -- where a step writes
  write-deep : (pc base : ℕ) (calls : List Frame) (c : Bool) (next out w : ℕ) (ks rs : List Carried) → effect (X.code pc) pc ks ≡ Writes c next out w rs → Deep base pc calls → On pc calls
      → ((edge < base + out) ⊎ (w ≡ 0)) × Deep base next calls
  write-deep pc base [] c next out w ks rs is deep on =
      let s = apart pc deep.1 on in
      let l = s.leads_on next out w (do-lead (X.code pc) pc ks c next out w rs is) in
      (go l.2, (deep.0, l.0, l.1))
    where
      go : (last < out) ⊎ (w ≡ 0) → (edge < base + out) ⊎ (w ≡ 0)
      go (inl lt) = let e = deep.0 in inl (omega (arith, lt, e))
      go (inr z) = inr z
  write-deep pc base (o ∷ os) c next out w ks rs is deep on = let lt = deep.0 in (inl (omega (arith, lt)), deep)

  pub apart-step : (pc base : ℕ) (a b : Cells) (calls : List Frame) (fires : ℕ) (t : State) → Deep base pc calls → On pc calls → Agree a b → step limit X.code (at pc base b calls fires) ≡ Goes t → Twin pc base a b calls fires t
  apart-step pc base a b calls fires t deep on same went = by-kind (kinds x pc ks)
    where
      x : Step
      x = X.code pc

      ks : List Carried
      ks = map (look b base) (reads_of x)

      does-b : apply limit (effect x pc ks) pc base b calls fires ≡ Goes t
      does-b = sym (effects limit x pc base b calls fires) ∙ went

      does-a : step limit X.code (at pc base a calls fires) ≡ apply limit (effect x pc ks) pc base a calls fires
      does-a = effects limit x pc base a calls fires ∙ ap (λ z. apply limit (effect x pc z) pc base a calls fires) (reads-same base pc calls a b deep on same)

      by-kind : Writing x pc ks ⊎ (Calling x ⊎ Leaving x) → Twin pc base a b calls fires t
      by-kind (inl y) =
          let c = y.0 in
          let next = y.1 in
          let out = y.2 in
          let w = y.3 in
          let rs = y.4 in
          let d = write-deep pc base calls c next out w ks rs y.5 deep on in
          let n = counted-goes c limit fires (λ f. at next base (write (base + out) w rs b) calls f) t (sym (ap (λ z. apply limit z pc base b calls fires) y.5) ∙ does-b) in
          subst (Twin pc base a b calls fires) n.is
          (record {
            now = write (base + out) w rs a;
            went = does-a ∙ (ap (λ z. apply limit z pc base a calls fires) y.5 ∙ n.others (λ f. at next base (write (base + out) w rs a) calls f));
            agree = agree-write (base + out) w rs a b same;
            deep = d.1;
            kept = low-write (base + out) w rs a d.0;
            kept₂ = low-write (base + out) w rs b d.0;
            later = n.later;
          })
      by-kind (inr (inl y)) =
          let entry = y.0 in
          let size = y.1 in
          let out = y.3 in
          let w = y.4 in
          let o : Frame = record { pc = suc pc; base = base; out = out; width = w } in
          let d = frame-deep pc base calls entry size y.2 out w y.5 deep on in
          let eff = ap (λ z. effect z pc ks) y.5 in
          let n = counted-goes true limit fires (λ f. at entry (base + size) (write (base + size) (length ks) ks b) (o ∷ calls) f) t (sym (ap (λ z. apply limit z pc base b calls fires) eff) ∙ does-b) in
          subst (Twin pc base a b calls fires) n.is
          (record {
            now = write (base + size) (length ks) ks a;
            went = does-a ∙ (ap (λ z. apply limit z pc base a calls fires) eff ∙ n.others (λ f. at entry (base + size) (write (base + size) (length ks) ks a) (o ∷ calls) f));
            agree = agree-write (base + size) (length ks) ks a b same;
            deep = d;
            kept = low-write (base + size) (length ks) ks a (inl d.0);
            kept₂ = low-write (base + size) (length ks) ks b (inl d.0);
            later = n.later;
          })
      by-kind (inr (inr y)) =
          let eff = ap (λ z. effect z pc ks) y.1 in
          leaves calls deep (does-a ∙ ap (λ z. apply limit z pc base a calls fires) eff) (sym (ap (λ z. apply limit z pc base b calls fires) eff) ∙ does-b)
        where
          leaves : (os : List Frame) → Deep base pc os → step limit X.code (at pc base a calls fires) ≡ returned ks os a fires → returned ks os b fires ≡ Goes t → Twin pc base a b calls fires t
          leaves [] h e f = absurd (no-goes-end ks fires t f)
          leaves (o ∷ os) h e f =
              subst (Twin pc base a b calls fires) (same-goes (at o.pc o.base (write (o.base + o.out) o.width ks b) os fires) t f)
              (record {
                now = write (o.base + o.out) o.width ks a;
                went = e;
                agree = agree-write (o.base + o.out) o.width ks a b same;
                deep = h.2;
                kept = low-write (o.base + o.out) o.width ks a h.1;
                kept₂ = low-write (o.base + o.out) o.width ks b h.1;
                later = omega arith;
              })
