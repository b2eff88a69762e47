-- The operands that a compound node gives to its parts.
use Rattle.std.proofs.Common.{◌≡◌, ℕ, zero, suc, ◌+◌, ◌-◌, ◌<◌, ◌≤◌, ◌⊎◌, inl, inr, ◌||◌, Bool, true, false, List, [], ◌∷◌, ◌++◌, length, get_or, refl, sym, ap, ◌∙◌, arith}
use Rattle.graph_meaning.specs.Carried.{Unfilled}
use Rattle.run_code.specs.Cells.{Operand, At, Lit, cells_at, own_cells, picked}
use Rattle.made_store.proofs.Alive.{lit-at, lit-no, or-either, or-left, or-right, same-cell, true-false}
use Rattle.made_store.proofs.Around.{IsAround}
use Rattle.made_store.proofs.Scenes.{IsScene}
use Rattle.made_store.specs.Settings.{Cells_of, Shares}

-- ---- operands by their number

pub get-split : (xs ys : List Operand) (j i : ℕ) → get_or (xs ++ ys) j (Lit Unfilled) ≡ At i → ((j < length xs) × (get_or xs j (Lit Unfilled) ≡ At i)) ⊎ ((k : ℕ) × (j ≡ length xs + k) × (get_or ys k (Lit Unfilled) ≡ At i))
get-split [] ys j i e = inr (j, omega arith, e)
get-split (x ∷ xs) ys zero i e = inl (omega arith, e)
get-split (x ∷ xs) ys (suc j) i e = later (get-split xs ys j i e)
  where
    later : ((j < length xs) × (get_or xs j (Lit Unfilled) ≡ At i)) ⊎ ((k : ℕ) × (j ≡ length xs + k) × (get_or ys k (Lit Unfilled) ≡ At i))
        → ((suc j < suc (length xs)) × (get_or xs j (Lit Unfilled) ≡ At i)) ⊎ ((k : ℕ) × (suc j ≡ suc (length xs) + k) × (get_or ys k (Lit Unfilled) ≡ At i))
    later (inl h) = let lt = h.0 in inl (omega (arith, lt), h.1)
    later (inr h) = let s = h.1 in inr (h.0, omega (arith, s), h.2)

pub cells-is : (c n k i : ℕ) → get_or (cells_at c n) k (Lit Unfilled) ≡ At i → (k < n) × (i ≡ c + k)
cells-is c zero k i e = lit-at ((k < 0) × (i ≡ c + k)) i e
cells-is c (suc n) zero i e = let s = same-cell c i e in (omega arith, omega (arith, s))
cells-is c (suc n) (suc k) i e =
    let x = cells-is (suc c) n k i e in
    let lt = x.0 in
    let s = x.1 in
    (omega (arith, lt), omega (arith, s))

pub own-get : (picks : List Bool) (args : List Operand) (c j i : ℕ) → get_or (own_cells picks args c) j (Lit Unfilled) ≡ At i
    → ((get_or picks j false ≡ true) × (c ≤ i) × (i < c + length (picked picks args))) ⊎ ((get_or picks j false ≡ false) × (get_or args j (Lit Unfilled) ≡ At i))
own-get [] args c j i e = inr (refl, e)
own-get (b ∷ bs) [] c j i e = absurd (lit-no i e)
own-get (true ∷ bs) (a ∷ args) c zero i e = let s = same-cell c i e in inl (refl, omega (arith, s), omega (arith, s))
own-get (true ∷ bs) (a ∷ args) c (suc j) i e = later (own-get bs args (suc c) j i e)
  where
    later : ((get_or bs j false ≡ true) × (suc c ≤ i) × (i < suc c + length (picked bs args))) ⊎ ((get_or bs j false ≡ false) × (get_or args j (Lit Unfilled) ≡ At i))
        → ((get_or bs j false ≡ true) × (c ≤ i) × (i < c + suc (length (picked bs args)))) ⊎ ((get_or bs j false ≡ false) × (get_or args j (Lit Unfilled) ≡ At i))
    later (inl h) =
        let le = h.1 in
        let lt = h.2 in
        inl (h.0, omega (arith, le), omega (arith, lt))
    later (inr h) = inr h
own-get (false ∷ bs) (a ∷ args) c zero i e = inr (refl, e)
own-get (false ∷ bs) (a ∷ args) c (suc j) i e = own-get bs args c j i e

-- cells of copies are each other's
pub own-one : (picks : List Bool) (args : List Operand) (c j q i : ℕ) → get_or picks j false ≡ true → get_or picks q false ≡ true → get_or (own_cells picks args c) j (Lit Unfilled) ≡ At i → get_or (own_cells picks args c) q (Lit Unfilled) ≡ At i → q ≡ j
own-one [] args c j q i a b e f = absurd (true-false false a refl)
own-one (b ∷ bs) [] c j q i h k e f = lit-at (q ≡ j) i e
own-one (true ∷ bs) (x ∷ args) c zero zero i h k e f = refl
own-one (true ∷ bs) (x ∷ args) c zero (suc q) i h k e f = absurd (later (own-get bs args (suc c) q i f))
  where
    later : ((get_or bs q false ≡ true) × (suc c ≤ i) × (i < suc c + length (picked bs args))) ⊎ ((get_or bs q false ≡ false) × (get_or args q (Lit Unfilled) ≡ At i)) → ⊥
    later (inl y) =
        let s = same-cell c i e in
        let le = y.1 in
        omega (arith, s, le)
    later (inr y) = true-false (get_or bs q false) k y.0
own-one (true ∷ bs) (x ∷ args) c (suc j) zero i h k e f = absurd (later (own-get bs args (suc c) j i e))
  where
    later : ((get_or bs j false ≡ true) × (suc c ≤ i) × (i < suc c + length (picked bs args))) ⊎ ((get_or bs j false ≡ false) × (get_or args j (Lit Unfilled) ≡ At i)) → ⊥
    later (inl y) =
        let s = same-cell c i f in
        let le = y.1 in
        omega (arith, s, le)
    later (inr y) = true-false (get_or bs j false) h y.0
own-one (true ∷ bs) (x ∷ args) c (suc j) (suc q) i h k e f = ap suc (own-one bs args (suc c) j q i h k e f)
own-one (false ∷ bs) (x ∷ args) c zero q i h k e f = absurd (true-false false h refl)
own-one (false ∷ bs) (x ∷ args) c (suc j) zero i h k e f = absurd (true-false false k refl)
own-one (false ∷ bs) (x ∷ args) c (suc j) (suc q) i h k e f = ap suc (own-one bs args c j q i h k e f)

-- ---- what parts are given

-- These operands stand below a cell. What is given has a cell of its own, and other operands are kept; each is copied to the cells
-- from `begin` on, or it was live before the node.
pub record IsGivenTo (lives owns keep hold : Cells_of) (given : ℕ → Bool) (args : List Operand) (lo begin mid : ℕ) : Type 0 where
  pub below : (j i : ℕ) → get_or args j (Lit Unfilled) ≡ At i → i < mid
  pub kept : (i : ℕ) → keep i ≡ true → (lives i ≡ true) × (i < lo)
  pub held : (i : ℕ) → hold i ≡ true → (owns i ≡ true) × (i < lo)
  pub rises : (lo ≤ begin) × (begin ≤ mid)
  pub apart : (j i : ℕ) → given (suc j) ≡ true → get_or args j (Lit Unfilled) ≡ At i → (keep i ≡ true → ⊥) × (hold i ≡ true → ⊥) × ((q : ℕ) → get_or args q (Lit Unfilled) ≡ At i → q ≡ j)
  pub left : (j i : ℕ) → given (suc j) ≡ false → get_or args j (Lit Unfilled) ≡ At i → keep i ≡ true
  pub moved : (j i : ℕ) → get_or args j (Lit Unfilled) ≡ At i → ((begin ≤ i) × (i < mid)) ⊎ ((lives i ≡ true) × (i < lo))
  pub moved_own : (j i : ℕ) → given (suc j) ≡ true → get_or args j (Lit Unfilled) ≡ At i → ((begin ≤ i) × (i < mid)) ⊎ ((owns i ≡ true) × (i < lo))

module _ (lives owns keep hold : Cells_of) (args : List Operand) (takes : ℕ → Bool) (picks : List Bool) (lo begin : ℕ) (h : IsAround lives owns keep hold args takes 1 lo) (le : lo ≤ begin) where
  abbrev pub given_by : ℕ → Bool
  given_by p = get_or picks (p - 1) false || takes p

  abbrev mine : List Operand
  mine = own_cells picks args begin

  abbrev top : ℕ
  top = begin + length (picked picks args)

  abbrev Told : (j i : ℕ) → Type 0
  Told j i = ((get_or picks j false ≡ true) × (begin ≤ i) × (i < top)) ⊎ ((get_or picks j false ≡ false) × (get_or args j (Lit Unfilled) ≡ At i))

  told : (j i : ℕ) → get_or mine j (Lit Unfilled) ≡ At i → Told j i
  told j i e = own-get picks args begin j i e

  low-kept : (i : ℕ) → keep i ≡ true → begin ≤ i → ⊥
  low-kept i k b = let lt = (h.kept i k).1 in omega (arith, lt, b, le)

  low-held : (i : ℕ) → hold i ≡ true → begin ≤ i → ⊥
  low-held i k b = let lt = (h.held i k).1 in omega (arith, lt, b, le)

  low-read : (q i : ℕ) → get_or args q (Lit Unfilled) ≡ At i → begin ≤ i → ⊥
  low-read q i e b = let lt = (h.reads q i e).1 in omega (arith, lt, b, le)

  pick-is : (j : ℕ) → get_or picks (suc j - 1) false ≡ get_or picks j false
  pick-is j = let z : suc j - 1 ≡ j = omega arith in ap (λ n. get_or picks n false) z

  -- what is given and not copied is taken
  is-taken : (j : ℕ) → given_by (suc j) ≡ true → get_or picks j false ≡ false → takes (1 + j) ≡ true
  is-taken j g p = go (or-either (get_or picks (suc j - 1) false) (takes (suc j)) g)
    where
      go : (get_or picks (suc j - 1) false ≡ true) ⊎ (takes (suc j) ≡ true) → takes (1 + j) ≡ true
      go (inl x) = absurd (true-false (get_or picks j false) (sym (pick-is j) ∙ x) p)
      go (inr x) = let z : 1 + j ≡ suc j = omega arith in ap takes z ∙ x

  not-taken : (j : ℕ) → given_by (suc j) ≡ false → takes (1 + j) ≡ false
  not-taken j g = go (takes (suc j)) refl
    where
      go : (b : Bool) → takes (suc j) ≡ b → takes (1 + j) ≡ false
      go true t = absurd (true-false (given_by (suc j)) (or-right (get_or picks (suc j - 1) false) (takes (suc j)) t) g)
      go false t = let z : 1 + j ≡ suc j = omega arith in ap takes z ∙ t

  not-picked : (j : ℕ) → given_by (suc j) ≡ false → get_or picks j false ≡ true → ⊥
  not-picked j g p = true-false (given_by (suc j)) (or-left (get_or picks (suc j - 1) false) (takes (suc j)) (pick-is j ∙ p)) g

  pub given-to : IsGivenTo lives owns keep hold given_by mine lo begin top
  given-to =
      record {
        below = λ j i e. low j i (told j i e);
        kept = h.kept;
        held = h.held;
        rises = (le, omega arith);
        apart = λ j i g e. alone j i g e (told j i e);
        left = λ j i g e. kept-left j i g (told j i e);
        moved = λ j i e. there j i (told j i e);
        moved_own = λ j i g e. there-own j i g (told j i e);
      }
    where
      low : (j i : ℕ) → Told j i → i < top
      low j i (inl x) = x.2
      low j i (inr x) = let lt = (h.reads j i x.1).1 in omega (arith, lt, le)

      alone : (j i : ℕ) → given_by (suc j) ≡ true → get_or mine j (Lit Unfilled) ≡ At i → Told j i → (keep i ≡ true → ⊥) × (hold i ≡ true → ⊥) × ((q : ℕ) → get_or mine q (Lit Unfilled) ≡ At i → q ≡ j)
      alone j i g e (inl x) = ((λ k. low-kept i k x.1), (λ k. low-held i k x.1), λ q f. one q f (told q i f))
        where
          one : (q : ℕ) → get_or mine q (Lit Unfilled) ≡ At i → Told q i → q ≡ j
          one q f (inl y) = own-one picks args begin j q i x.0 y.0 e f
          one q f (inr y) = absurd (low-read q i y.1 x.1)
      alone j i g e (inr x) = ((λ k. (h.gone j i (is-taken j g x.0) x.1).1 k), (λ k. (h.gone j i (is-taken j g x.0) x.1).2 k), λ q f. one q (told q i f))
        where
          one : (q : ℕ) → Told q i → q ≡ j
          one q (inl y) = absurd (low-read j i x.1 y.1)
          one q (inr y) = (h.gone j i (is-taken j g x.0) x.1).3 q y.1

      kept-left : (j i : ℕ) → given_by (suc j) ≡ false → Told j i → keep i ≡ true
      kept-left j i g (inl x) = absurd (not-picked j g x.0)
      kept-left j i g (inr x) = h.left j i (not-taken j g) x.1

      there : (j i : ℕ) → Told j i → ((begin ≤ i) × (i < top)) ⊎ ((lives i ≡ true) × (i < lo))
      there j i (inl x) = inl (x.1, x.2)
      there j i (inr x) = inr (h.reads j i x.1)

      there-own : (j i : ℕ) → given_by (suc j) ≡ true → Told j i → ((begin ≤ i) × (i < top)) ⊎ ((owns i ≡ true) × (i < lo))
      there-own j i g (inl x) = inl (x.1, x.2)
      there-own j i g (inr x) = inr ((h.gone j i (is-taken j g x.0) x.1).0, (h.reads j i x.1).1)

-- ---- scenes of parts

module _ (S : Shares) (lives owns keep hold : Cells_of) (given : ℕ → Bool) (args : List Operand) (lo begin mid : ℕ) (h : IsGivenTo lives owns keep hold given args lo begin mid) where
  under-kept : (i : ℕ) → keep i ≡ true → i < mid
  under-kept i k =
      let lt = (h.kept i k).1 in
      let a = h.rises.0 in
      let b = h.rises.1 in
      omega (arith, lt, a, b)

  under-held : (i : ℕ) → hold i ≡ true → i < mid
  under-held i k =
      let lt = (h.held i k).1 in
      let a = h.rises.0 in
      let b = h.rises.1 in
      omega (arith, lt, a, b)

  -- an alternative or initialization, which owns only what is given
  pub part-scene : (g up : ℕ) → mid ≤ up → ((p : ℕ) → S.owns g p ≡ true → given p ≡ true) → IsScene S keep hold args g up
  part-scene g up le owned =
      record {
        below = λ j i t e. let lt = h.below j i e in omega (arith, lt, le);
        kept = λ i k. let lt = under-kept i k in omega (arith, lt, le);
        held = λ i k. let lt = under-held i k in omega (arith, lt, le);
        apart = λ j i o e. let x = h.apart j i (owned (suc j) o) e in (x.0, x.1, λ q t f. x.2 q f);
      }

  -- a selector, which owns nothing, while all operands are kept
  pub selector-scene : (g : ℕ) → ((p : ℕ) → S.owns g p ≡ false) → (keeps holds : Cells_of) → ((i : ℕ) → keeps i ≡ true → i < mid) → ((i : ℕ) → holds i ≡ true → i < mid) → IsScene S keeps holds args g mid
  selector-scene g none keeps holds low low' =
      record {
        below = λ j i t e. h.below j i e;
        kept = low;
        held = low';
        apart = λ j i o e. absurd (true-false (S.owns g (suc j)) o (none (suc j)));
      }

  -- operands with cells behind them: n from a cell on, below `up`; of these only the cells may be owned
  pub cells-scene : (g c n up : ℕ) (keeps holds : Cells_of) → mid ≤ c → c + n ≤ up → ((p : ℕ) → S.owns g p ≡ true → length args < p)
      → ((i : ℕ) → keeps i ≡ true → (i < up) × ((i < c) ⊎ (c + n ≤ i))) → ((i : ℕ) → holds i ≡ true → (i < up) × ((i < c) ⊎ (c + n ≤ i))) → IsScene S keeps holds (args ++ cells_at c n) g up
  cells-scene g c n up keeps holds le fits owned kept held =
      record {
        below = λ j i t e. low i (get-split args (cells_at c n) j i e);
        kept = λ i k. (kept i k).0;
        held = λ i k. (held i k).0;
        apart = λ j i o e. alone j i o (get-split args (cells_at c n) j i e);
      }
    where
      low : {j : ℕ} (i : ℕ) → ((j < length args) × (get_or args j (Lit Unfilled) ≡ At i)) ⊎ ((k : ℕ) × (j ≡ length args + k) × (get_or (cells_at c n) k (Lit Unfilled) ≡ At i)) → i < up
      low i (inl x) = let lt = h.below _ i x.1 in omega (arith, lt, le, fits)
      low i (inr x) =
          let y = cells-is c n x.0 i x.2 in
          let lt = y.0 in
          let s = y.1 in
          omega (arith, lt, s, fits)

      out : (i k : ℕ) → k < n → i ≡ c + k → (i < c) ⊎ (c + n ≤ i) → ⊥
      out i k lt s (inl x) = omega (arith, s, x)
      out i k lt s (inr x) = omega (arith, s, x, lt)

      alone : (j i : ℕ) → S.owns g (suc j) ≡ true → ((j < length args) × (get_or args j (Lit Unfilled) ≡ At i)) ⊎ ((k : ℕ) × (j ≡ length args + k) × (get_or (cells_at c n) k (Lit Unfilled) ≡ At i))
          → (keeps i ≡ true → ⊥) × (holds i ≡ true → ⊥) × ((q : ℕ) → S.has g (suc q) ≡ true → get_or (args ++ cells_at c n) q (Lit Unfilled) ≡ At i → q ≡ j)
      alone j i o (inl x) =
          let lt = x.0 in
          let more = owned (suc j) o in
          absurd (omega (arith, lt, more))
      alone j i o (inr x) =
          let y = cells-is c n x.0 i x.2 in
          let s = y.1 in
          let at = x.1 in (
            (λ k. out i x.0 y.0 s (kept i k).1),
            (λ k. out i x.0 y.0 s (held i k).1),
            λ q t f. one q (get-split args (cells_at c n) q i f),
          )
        where
          one : (q : ℕ) → ((q < length args) × (get_or args q (Lit Unfilled) ≡ At i)) ⊎ ((k : ℕ) × (q ≡ length args + k) × (get_or (cells_at c n) k (Lit Unfilled) ≡ At i)) → q ≡ j
          one q (inl z) =
              let lt = h.below q i z.1 in
              let s = (cells-is c n x.0 i x.2).1 in
              absurd (omega (arith, lt, s, le))
          one q (inr z) =
              let s = (cells-is c n x.0 i x.2).1 in
              let s' = (cells-is c n z.0 i z.2).1 in
              let a = x.1 in
              let b = z.1 in
              omega (arith, s, s', a, b)
