-- Operands with cells behind them: loop values, elements and collections; and what steps do that put values to collections.
use Rattle.std.proofs.Common.{◌≡◌, ℕ, zero, suc, ◌+◌, ◌<◌, ◌≤◌, ◌⊎◌, inl, inr, if◌then◌else◌, Bool, true, false, Some, None, List, [], ◌∷◌, ◌++◌, take, length, get_or, slice_get, refl, sym, ap, ◌∙◌, subst, arith}
use Rattle.graph_meaning.specs.Leaves.{leaf_count}
use Rattle.graph_meaning.specs.Carried.{Carried, Unfilled, val_of}
use Rattle.run_code.specs.Cells.{Operand, At, Lit, cells_at}
use Rattle.run_code.specs.Collecting.{put_leaves}
use Rattle.run_code.specs.Collections.{AreWithin, Collect, Final, IsWithin, Sifts, sifts_in}
use Rattle.run_code.specs.Made.{Plan, stand}
use Rattle.run_store.specs.Lively.{AllMayBe, Live}
use Rattle.run_store.specs.Refines.{IsTaken}
use Rattle.run_store.specs.Stored.{Mode, copied, copied_as, put_copied}
use Rattle.made_store.proofs.Alive.{lit-no, same-cell, true-false}
use Rattle.made_store.proofs.Flows.{none-copied, none-of}
use Rattle.made_store.proofs.Owned.{cells-is, get-split}
use Rattle.made_store.proofs.Scenes.{IsScene}
use Rattle.made_store.specs.Last.{AreTakenLast, IsNoneOf}
use Rattle.made_store.specs.Settings.{Cells_of, Shares, takes_all}

-- ---- scenes

pub cells-long : (c n : ℕ) → length (cells_at c n) ≡ n
cells-long c zero = refl
cells-long c (suc n) = ap suc (cells-long (suc c) n)

pub both-low : (xs ys : List Operand) (up j i : ℕ) → ((j i : ℕ) → get_or xs j (Lit Unfilled) ≡ At i → i < up) → ((k i : ℕ) → get_or ys k (Lit Unfilled) ≡ At i → i < up) → get_or (xs ++ ys) j (Lit Unfilled) ≡ At i → i < up
both-low xs ys up j i a b e = go (get-split xs ys j i e)
  where
    go : ((j < length xs) × (get_or xs j (Lit Unfilled) ≡ At i)) ⊎ ((k : ℕ) × (j ≡ length xs + k) × (get_or ys k (Lit Unfilled) ≡ At i)) → i < up
    go (inl x) = a j i x.1
    go (inr x) = b x.0 i x.2

-- a graph that owns none of its inputs
pub none-scene : (S : Shares) (g : ℕ) (args : List Operand) (up : ℕ) (keeps holds : Cells_of) → ((p : ℕ) → S.owns g p ≡ false) → ((j i : ℕ) → get_or args j (Lit Unfilled) ≡ At i → i < up)
    → ((i : ℕ) → keeps i ≡ true → i < up) → ((i : ℕ) → holds i ≡ true → i < up) → IsScene S keeps holds args g up
none-scene S g args up keeps holds none low kept held =
    record { below = λ j i t e. low j i e; kept = kept; held = held; apart = λ j i o e. absurd (true-false (S.owns g (suc j)) o (none (suc j))) }

-- a graph that owns none but the operands behind some: these have cells of their own, which are not kept
pub behind-scene : (S : Shares) (g : ℕ) (args ys : List Operand) (c up : ℕ) (keeps holds : Cells_of) → c ≤ up → ((j i : ℕ) → get_or args j (Lit Unfilled) ≡ At i → i < c)
    → ((k i : ℕ) → get_or ys k (Lit Unfilled) ≡ At i → (c ≤ i) × (i < up)) → ((p : ℕ) → S.owns g p ≡ true → length args < p)
    → ((k i : ℕ) → S.owns g (suc (length args + k)) ≡ true → get_or ys k (Lit Unfilled) ≡ At i → (keeps i ≡ true → ⊥) × (holds i ≡ true → ⊥) × ((q : ℕ) → get_or ys q (Lit Unfilled) ≡ At i → q ≡ k))
    → ((i : ℕ) → keeps i ≡ true → i < up) → ((i : ℕ) → holds i ≡ true → i < up) → IsScene S keeps holds (args ++ ys) g up
behind-scene S g args ys c up keeps holds fits low range past own kept held =
    record {
      below = λ j i t e. both-low args ys up j i (λ j i e. let lt = low j i e in omega (arith, lt, fits)) (λ k i e. (range k i e).1) e;
      kept = kept;
      held = held;
      apart = λ j i o e. alone j i o (get-split args ys j i e);
    }
  where
    alone : (j i : ℕ) → S.owns g (suc j) ≡ true → ((j < length args) × (get_or args j (Lit Unfilled) ≡ At i)) ⊎ ((k : ℕ) × (j ≡ length args + k) × (get_or ys k (Lit Unfilled) ≡ At i))
        → (keeps i ≡ true → ⊥) × (holds i ≡ true → ⊥) × ((q : ℕ) → S.has g (suc q) ≡ true → get_or (args ++ ys) q (Lit Unfilled) ≡ At i → q ≡ j)
    alone j i o (inl x) =
        let lt = x.0 in
        let more = past (suc j) o in
        absurd (omega (arith, lt, more))
    alone j i o (inr x) =
        let y = own x.0 i (subst (λ n. S.owns g (suc n) ≡ true) x.1 o) x.2 in
        (y.0, y.1, λ q t f. one q (get-split args ys q i f) y.2)
      where
        one : (q : ℕ) → ((q < length args) × (get_or args q (Lit Unfilled) ≡ At i)) ⊎ ((k : ℕ) × (q ≡ length args + k) × (get_or ys k (Lit Unfilled) ≡ At i)) → ((q : ℕ) → get_or ys q (Lit Unfilled) ≡ At i → q ≡ x.0) → q ≡ j
        one q (inl z) only =
            let lt = low q i z.1 in
            let le = (range x.0 i x.2).0 in
            absurd (omega (arith, lt, le))
        one q (inr z) only =
            let s = only z.0 z.2 in
            let a = z.1 in
            let b = x.1 in
            omega (arith, s, a, b)

-- ---- where collections stand

-- behind one another where they are sifted, or a last value in the cell of its loop value
pub stand-is : (P : Plan) (cs : List Collect) (own first j i : ℕ) → get_or (stand P cs own first) j (Lit Unfilled) ≡ At i → ((own ≤ i) × (i < own + length (sifts_in cs))) ⊎ ((c : ℕ) × (slice_get cs j ≡ Some (Final c)) × (i ≡ first + c))
stand-is P [] own first j i e = absurd (lit-no i e)
stand-is P (Sifts c mask ∷ cs) own first zero i e = let s = same-cell own i e in inl (omega (arith, s), omega (arith, s))
stand-is P (Final c ∷ cs) own first zero i e = let s = same-cell (first + c) i e in inr (c, refl, sym s)
stand-is P (Sifts c mask ∷ cs) own first (suc j) i e = later (stand-is P cs (suc own) first j i e)
  where
    later : ((suc own ≤ i) × (i < suc own + length (sifts_in cs))) ⊎ ((c : ℕ) × (slice_get cs j ≡ Some (Final c)) × (i ≡ first + c))
        → ((own ≤ i) × (i < own + suc (length (sifts_in cs)))) ⊎ ((d : ℕ) × (slice_get (Sifts c mask ∷ cs) (suc j) ≡ Some (Final d)) × (i ≡ first + d))
    later (inl s) =
        let le = s.0 in
        let lt = s.1 in
        inl (omega (arith, le), omega (arith, lt))
    later (inr s) = inr s
stand-is P (Final c ∷ cs) own first (suc j) i e = later (stand-is P cs own first j i e)
  where
    later : ((own ≤ i) × (i < own + length (sifts_in cs))) ⊎ ((c : ℕ) × (slice_get cs j ≡ Some (Final c)) × (i ≡ first + c))
        → ((own ≤ i) × (i < own + length (sifts_in cs))) ⊎ ((d : ℕ) × (slice_get (Final c ∷ cs) (suc j) ≡ Some (Final d)) × (i ≡ first + d))
    later (inl s) = inl s
    later (inr s) = inr s

pub last-within : (n : ℕ) (cs : List Collect) (j c : ℕ) → AreWithin n cs → slice_get cs j ≡ Some (Final c) → c < n
last-within n [] j c h e = absurd (clash e)
  where
    clash : None ≡ Some (Final c) → ⊥
    clash e = cc
last-within n (Sifts d mask ∷ cs) zero c h e = absurd (clash e)
  where
    clash : Some (Sifts d mask) ≡ Some (Final c) → ⊥
    clash e = cc
last-within n (Final d ∷ cs) zero c h e = let lt = h.0 in let s = same e in omega (arith, lt, s)
  where
    same : Some (Final d) ≡ Some (Final c) → d ≡ c
    same e = cc
last-within n (x ∷ cs) (suc j) c h e = last-within n cs j c h.1 e

behind-own : (P : Plan) (n : ℕ) (cs : List Collect) (own first j i : ℕ) → AreWithin n cs → first + n ≤ i → own ≡ i → get_or (stand P cs (suc own) first) j (Lit Unfilled) ≡ At i → ⊥
behind-own P n cs own first j i h le s e = go (stand-is P cs (suc own) first j i e)
  where
    go : ((suc own ≤ i) × (i < suc own + length (sifts_in cs))) ⊎ ((c : ℕ) × (slice_get cs j ≡ Some (Final c)) × (i ≡ first + c)) → ⊥
    go (inl z) = let more = z.0 in omega (arith, more, s)
    go (inr z) =
        let lt = last-within n cs j z.0 h z.1 in
        let w = z.2 in
        omega (arith, lt, w, le)

-- what stands behind the loop values is of one collection
pub stand-alone : (P : Plan) (n : ℕ) (cs : List Collect) (own first j q i : ℕ) → AreWithin n cs → first + n ≤ i → get_or (stand P cs own first) j (Lit Unfilled) ≡ At i → get_or (stand P cs own first) q (Lit Unfilled) ≡ At i → q ≡ j
stand-alone P n [] own first j q i h le e f = absurd (lit-no i e)
stand-alone P n (Sifts c mask ∷ cs) own first zero zero i h le e f = refl
stand-alone P n (Sifts c mask ∷ cs) own first zero (suc q) i h le e f = absurd (behind-own P n cs own first q i h.1 le (same-cell own i e) f)
stand-alone P n (Sifts c mask ∷ cs) own first (suc j) zero i h le e f = absurd (behind-own P n cs own first j i h.1 le (same-cell own i f) e)
stand-alone P n (Sifts c mask ∷ cs) own first (suc j) (suc q) i h le e f = ap suc (stand-alone P n cs (suc own) first j q i h.1 le e f)
stand-alone P n (Final c ∷ cs) own first zero q i h le e f =
    let lt = h.0 in
    let s = same-cell (first + c) i e in
    absurd (omega (arith, lt, s, le))
stand-alone P n (Final c ∷ cs) own first (suc j) zero i h le e f =
    let lt = h.0 in
    let s = same-cell (first + c) i f in
    absurd (omega (arith, lt, s, le))
stand-alone P n (Final c ∷ cs) own first (suc j) (suc q) i h le e f = ap suc (stand-alone P n cs own first j q i h.1 le e f)

-- ---- collections that are taken

pub takes-range : (c k i : ℕ) → IsTaken (takes_all k) (cells_at c k) i → (c ≤ i) × (i < c + k)
takes-range c zero i h = absurd h
takes-range c (suc k) i (inl h) = let s = same-cell c i h.1 in (omega (arith, s), omega (arith, s))
takes-range c (suc k) i (inr h) =
    let x = takes-range (suc c) k i h in
    let a = x.0 in
    let b = x.1 in
    (omega (arith, a), omega (arith, b))

pub may-take-all : (live own : Live) (pc c k : ℕ) → ((i : ℕ) → c ≤ i → i < c + k → own pc i ≡ true) → AllMayBe live own pc (takes_all k) (cells_at c k)
may-take-all live own pc c zero owns = tt
may-take-all live own pc c (suc k) owns = (owns c (omega arith) (omega arith), may-take-all live own pc (suc c) k (λ i a b. owns i (omega (arith, a)) (omega (arith, b))))

-- a cell beside these is none of them
pub beside-cells : (i c k : ℕ) → (i < c) ⊎ (c + k ≤ i) → IsNoneOf i (cells_at c k)
beside-cells i c k out = none-of (cells_at c k) i (λ q e. let x = cells-is c k q i e in clash q x.0 x.1 out)
  where
    clash : (q : ℕ) → q < k → i ≡ c + q → (i < c) ⊎ (c + k ≤ i) → ⊥
    clash q lt s (inl x) = omega (arith, s, x)
    clash q lt s (inr x) = omega (arith, lt, s, x)

-- each is read once
pub taken-all-last : (c k : ℕ) → AreTakenLast (takes_all k) (cells_at c k)
taken-all-last c zero = tt
taken-all-last c (suc k) = (beside-cells c (suc c) k (inl (omega arith)), taken-all-last (suc c) k)

takes-copied : (k : ℕ) (ks : List Carried) → copied (takes_all k) ks ≡ 0
takes-copied zero ks = none-copied ks
takes-copied (suc k) [] = refl
takes-copied (suc k) (x ∷ ks) = let e = takes-copied k ks in omega (arith, e)

-- what is taken copies nothing
pub front-copied : (ms : List Mode) (k n : ℕ) (ks : List Carried) → n ≡ length ms → copied (ms ++ takes_all k) ks ≡ copied ms (take n ks)
front-copied [] k n ks e = takes-copied k ks ∙ sym (none-copied (take n ks))
front-copied (m ∷ ms) k zero ks e = absurd (omega (arith, e))
front-copied (m ∷ ms) k (suc n) [] e = refl
front-copied (m ∷ ms) k (suc n) (x ∷ ks) e = ap (λ z. copied_as m x + z) (front-copied ms k n ks (omega (arith, e)))

pub all-copied : (ms : List Mode) (n : ℕ) (ks : List Carried) → n ≡ length ms → copied ms ks ≡ copied ms (take n ks)
all-copied [] n ks e = none-copied ks ∙ sym (none-copied (take n ks))
all-copied (m ∷ ms) zero ks e = absurd (omega (arith, e))
all-copied (m ∷ ms) (suc n) [] e = refl
all-copied (m ∷ ms) (suc n) (x ∷ ks) e = ap (λ z. copied_as m x + z) (all-copied ms n ks (omega (arith, e)))

pub none-put : (cs : List Collect) (ks : List Carried) → put_copied cs [] ks ≡ 0
none-put [] ks = refl
none-put (c ∷ cs) ks = refl

-- what is put is of the first values
take-get : (n j : ℕ) (ks : List Carried) → j < n → get_or (take n ks) j Unfilled ≡ get_or ks j Unfilled
take-get zero j ks lt = absurd (omega (arith, lt))
take-get (suc n) j [] lt = refl
take-get (suc n) zero (k ∷ ks) lt = refl
take-get (suc n) (suc j) (k ∷ ks) lt = take-get n j ks (omega (arith, lt))

leaves-taken : (n : ℕ) (c : Collect) (ks : List Carried) → IsWithin n c → put_leaves c ks ≡ put_leaves c (take n ks)
leaves-taken n (Sifts j None) ks h = ap (λ z. leaf_count (val_of z)) (sym (take-get n j ks h.0))
leaves-taken n (Sifts j (Some q)) ks h =
    ap (λ z. put_leaves (Sifts 0 (Some 1)) (z ∷ get_or ks q Unfilled ∷ [])) (sym (take-get n j ks h.0)) ∙ ap (λ z. put_leaves (Sifts 0 (Some 1)) (get_or (take n ks) j Unfilled ∷ z ∷ [])) (sym (take-get n q ks h.1))
leaves-taken n (Final j) ks h = refl

pub put-taken : (n : ℕ) (cs : List Collect) (bs : List Bool) (ks : List Carried) → AreWithin n cs → put_copied cs bs ks ≡ put_copied cs bs (take n ks)
put-taken n [] bs ks h = refl
put-taken n (c ∷ cs) [] ks h = refl
put-taken n (c ∷ cs) (b ∷ bs) ks h = ap (λ z. (if b then z else 0) + put_copied cs bs ks) (leaves-taken n c ks h.0) ∙ ap (λ z. (if b then put_leaves c (take n ks) else 0) + z) (put-taken n cs bs ks h.1)
