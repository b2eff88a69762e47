-- Lines that lie in code, where outputs stand, and how many lines are made.
use Rattle.std.proofs.Common.{◌≡◌, ◌≢◌, ℕ, zero, suc, ◌+◌, ◌-◌, ◌<◌, ◌≤◌, eqb, ltb, T, if◌then◌else◌, Bool, true, false, List, [], ◌∷◌, ◌++◌, length, map, get_or, inl, inr, refl, sym, ap, ◌∙◌, subst, arith}
use Rattle.std.proofs.lemmas.Bool.{eq-eqb, lt-ltb}
use Rattle.std.proofs.Math.Facts.{eqb_yes}
use Rattle.run_laws.specs.Carried.{Unfilled}
use Rattle.run_laws.specs.Demand.{Source, Vertex, IsLabel, LabelsOnce, EachNode}
use Rattle.run_laws.specs.Cells.{Operand, At, Lit, cells_at, picked, own_cells}
use Rattle.run_laws.specs.Coded.{Places, Puts, operand, AreOf, AreAt}
use Rattle.run_laws.specs.Collections.{Collect, Sifts, Final}
use Rattle.run_laws.specs.Known.{IsReadable}
use Rattle.run_laws.specs.Machine.{Weigh}
use Rattle.run_laws.specs.Made.{Plan, Line, placed, put, stand}
use Rattle.run_laws.specs.Steps.{Code}
use Rattle.run_made.specs.Plans.{Weighing, Lie, code_at, weigh_at}

-- ---- what lies where

module _ (W : Weighing) (code : Code) (weigh : Weigh) where
  pub lies-first : (a : ℕ) (xs ys : List Line) → Lie W code weigh a (xs ++ ys) → Lie W code weigh a xs
  lies-first a [] ys h = tt
  lies-first a (x ∷ xs) ys h = (h.0, h.1, lies-first (suc a) xs ys h.2)

  pub lies-rest : (a b : ℕ) (xs ys : List Line) → b ≡ a + length xs → Lie W code weigh a (xs ++ ys) → Lie W code weigh b ys
  lies-rest a b [] ys e h = subst (λ x. Lie W code weigh x ys) (omega (arith, e)) h
  lies-rest a b (x ∷ xs) ys e h = lies-rest (suc a) b xs ys (omega (arith, e)) h.2

  pub lies-from : (a b : ℕ) (xs : List Line) → a ≡ b → Lie W code weigh a xs → Lie W code weigh b xs
  lies-from a b xs e h = subst (λ x. Lie W code weigh x xs) e h

pub lies-up : (W : Weighing) (code : Code) (weigh : Weigh) (a : ℕ) (xs : List Line) → Lie W (λ i. code (suc i)) (λ i. weigh (suc i)) a xs → Lie W code weigh (suc a) xs
lies-up W code weigh a [] h = tt
lies-up W code weigh a (x ∷ xs) h = (h.0, h.1, lies-up W code weigh (suc a) xs h.2)

pub lies-in : (W : Weighing) (xs : List Line) → Lie W (code_at xs) (weigh_at W xs) 0 xs
lies-in W [] = tt
lies-in W (x ∷ xs) = (refl, (λ ks rs. refl), lies-up W (code_at (x ∷ xs)) (weigh_at W (x ∷ xs)) 0 xs (lies-in W xs))

-- ---- where outputs stand

pub eqb-sound : (a b : ℕ) → eqb a b ≡ true → a ≡ b
eqb-sound a b e = eqb_yes (subst T (sym e) tt)

pub eqb-other : (a b : ℕ) → (a ≡ b → ⊥) → eqb a b ≡ false
eqb-other a b n = go (eqb a b) (eqb-sound a b)
  where
    go : (c : Bool) → (c ≡ true → a ≡ b) → c ≡ false
    go true h = absurd (n (h refl))
    go false h = refl

module _ (P : Plan) where
  -- all outputs of these nodes stand behind one another
  abbrev pub PutsAll : Places → List Vertex → ℕ → Type 0
  PutsAll places [] lo = Unit {0}
  PutsAll places (v ∷ vs) lo = Puts places v.label lo (P.width v) × PutsAll places vs (lo + P.width v)

  pub puts-as : (places others : Places) (vs : List Vertex) (lo : ℕ) → ((l p : ℕ) → IsLabel vs l → others l p ≡ places l p) → PutsAll places vs lo → PutsAll others vs lo
  puts-as places others [] lo same h = tt
  puts-as places others (v ∷ vs) lo same h =
      ((λ i lt. same v.label (suc i) (inl refl) ∙ h.0 i lt), puts-as places others vs (lo + P.width v) (λ l p there. same l p (inr there)) h.1)

  put-here : (v : Vertex) (vs : List Vertex) (lo i : ℕ) → i < P.width v → put P (v ∷ vs) lo v.label (suc i) ≡ At (lo + i)
  put-here v vs lo i lt =
      let e : suc i - 1 ≡ i = omega arith in
      ap (λ b. if b then (if ltb (suc i - 1) (P.width v) then At (lo + (suc i - 1)) else Lit Unfilled) else put P vs (lo + P.width v) v.label (suc i)) (eq-eqb v.label v.label refl)
      ∙ (ap (λ x. if ltb x (P.width v) then At (lo + x) else Lit Unfilled) e ∙ ap (λ b. if b then At (lo + i) else Lit Unfilled) (lt-ltb i (P.width v) lt))

  pub puts-put : (vs : List Vertex) (lo : ℕ) → LabelsOnce vs → PutsAll (put P vs lo) vs lo
  puts-put [] lo once = tt
  puts-put (v ∷ vs) lo once = (
    (λ i lt. put-here v vs lo i lt),
    puts-as (put P vs (lo + P.width v)) (put P (v ∷ vs) lo) vs (lo + P.width v)
        (λ l p there. ap (λ b. if b then (if ltb (p - 1) (P.width v) then At (lo + (p - 1)) else Lit Unfilled) else put P vs (lo + P.width v) l p) (eqb-other v.label l (λ e. once.0 (subst (IsLabel vs) (sym e) there))))
        (puts-put vs (lo + P.width v) once.1),
  )

  pub is-suc : (vs : List Vertex) (l : ℕ) → EachNode (λ v. v.label ≢ 0) vs → IsLabel vs l → (k : ℕ) × (l ≡ suc k)
  is-suc [] l h there = absurd there
  is-suc (v ∷ vs) l h (inl e) = go v.label refl
    where
      go : (n : ℕ) → v.label ≡ n → (k : ℕ) × (l ≡ suc k)
      go zero z = absurd (h.0 z)
      go (suc k) z = (k, e ∙ z)
  is-suc (v ∷ vs) l h (inr there) = is-suc vs l h.1 there

  pub puts-placed : (args : List Operand) (vs : List Vertex) (lo : ℕ) → LabelsOnce vs → EachNode (λ v. v.label ≢ 0) vs → PutsAll (placed P args vs lo) vs lo
  puts-placed args vs lo once labelled =
      puts-as (put P vs lo) (placed P args vs lo) vs lo
      (λ l p there. let k = is-suc vs l labelled there in subst (λ x. placed P args vs lo x p ≡ put P vs lo x p) (sym k.1) refl)
      (puts-put vs lo once)

pub are-labelled : (width : Vertex → ℕ) (known : List (ℕ × ℕ)) (vs : List Vertex) → IsReadable width known vs → EachNode (λ v. v.label ≢ 0) vs
are-labelled width known [] h = tt
are-labelled width known (v ∷ vs) h = (h.0, are-labelled width ((v.label, width v) ∷ known) vs h.3)

-- ---- operands

pub own-are : (picks : List Bool) (args : List Operand) (i : ℕ) → AreOf args (own_cells picks args i) (own_cells picks args i)
own-are [] [] i = tt
own-are [] (a ∷ args) i = (inl refl, own-are [] args i)
own-are (b ∷ bs) [] i = tt
own-are (true ∷ bs) (a ∷ args) i = (inr refl, own-are bs args (suc i))
own-are (false ∷ bs) (a ∷ args) i = (inl refl, own-are bs args i)

pub own-long : (picks : List Bool) (args : List Operand) (i : ℕ) → length (own_cells picks args i) ≡ length args
own-long [] args i = refl
own-long (b ∷ bs) [] i = refl
own-long (true ∷ bs) (a ∷ args) i = ap suc (own-long bs args (suc i))
own-long (false ∷ bs) (a ∷ args) i = ap suc (own-long bs args i)

pub picked-long : (picks : List Bool) (os : List Source) (f : Source → Operand) → length (picked picks (map f os)) ≡ length (picked picks os)
picked-long [] os f = refl
picked-long (b ∷ bs) [] f = refl
picked-long (true ∷ bs) (o ∷ os) f = ap suc (picked-long bs os f)
picked-long (false ∷ bs) (o ∷ os) f = picked-long bs os f

pub stand-at : (P : Plan) (cs : List Collect) (own first : ℕ) → AreAt cs (stand P cs own first) own first
stand-at P [] own first = tt
stand-at P (Sifts j mask ∷ cs) own first = (refl, stand-at P cs (suc own) first)
stand-at P (Final j ∷ cs) own first = (refl, stand-at P cs own first)

pub cells-get : (i n j : ℕ) → j < n → get_or (cells_at i n) j (Lit Unfilled) ≡ At (i + j)
cells-get i zero j lt = absurd (omega (arith, lt))
cells-get i (suc n) zero lt = ap At (omega arith)
cells-get i (suc n) (suc j) lt = cells-get (suc i) n j (omega (arith, lt)) ∙ ap At (omega arith)

pub cells-past : (i n j : ℕ) → n ≤ j → get_or (cells_at i n) j (Lit Unfilled) ≡ Lit Unfilled
cells-past i zero j le = refl
cells-past i (suc n) zero le = absurd (omega (arith, le))
cells-past i (suc n) (suc j) le = cells-past (suc i) n j (omega (arith, le))

pub one-result : (places : Places) (os : List Source) → length os ≡ 1 → map (operand places) os ≡ get_or (map (operand places) os) 0 (Lit Unfilled) ∷ []
one-result places [] e = absurd (omega (arith, e))
one-result places (o ∷ []) e = refl
one-result places (o ∷ x ∷ os) e = absurd (omega (arith, e))
