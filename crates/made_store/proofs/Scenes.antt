-- What is asked of the operands of a graph, and what is known of a node where the graph goes through it.
use Rattle.std.proofs.Common.{◌≡◌, ◌≢◌, ℕ, zero, suc, ◌+◌, ◌<◌, ◌≤◌, ◌⊎◌, inl, inr, if◌then◌else◌, Bool, true, List, [], ◌∷◌, map, get_or, refl, sym, ap, ◌∙◌, subst, arith}
use Rattle.graph_meaning.specs.Carried.{Unfilled}
use Rattle.graph_meaning.specs.Demand.{Source, Port, Fixed, Vertex, EachNode, LabelsOnce}
use Rattle.run_code.specs.Taking.{Fills, Taken, first_port, taken_by}
use Rattle.run_code.specs.Cells.{Operand, At, Lit}
use Rattle.run_code.specs.Coded.{Places, Puts, operand}
use Rattle.run_code.specs.Known.{Known}
use Rattle.run_code.specs.Made.{Plan, put}
use Rattle.run_made.proofs.Lying.{PutsAll, puts-as, puts-put, is-suc}
use Rattle.run_store.proofs.Ports.{IsOwnCell, StandsBelow}
use Rattle.run_store.specs.Ports.{AllIn, AreInputsPlaced, IsAlive, StaysAlive, modes_of}
use Rattle.run_store.specs.Refines.{IsTaken}
use Rattle.run_store.specs.Stored.{Copies, Looks, Takes}
use Rattle.made_store.proofs.Alive.{lit-at, same-cell, seat-is}
use Rattle.made_store.specs.Settings.{Cells_of, Shares, seats}

-- Operands of a graph from a cell on, while these cells are kept: all stand below it, and an operand that the graph owns has a cell of
-- its own.
pub record IsScene (S : Shares) (keep hold : Cells_of) (args : List Operand) (g lo : ℕ) : Type 0 where
  pub below : (j i : ℕ) → S.has g (suc j) ≡ true → get_or args j (Lit Unfilled) ≡ At i → i < lo
  pub kept : (i : ℕ) → keep i ≡ true → i < lo
  pub held : (i : ℕ) → hold i ≡ true → i < lo
  pub apart : (j i : ℕ) → S.owns g (suc j) ≡ true → get_or args j (Lit Unfilled) ≡ At i
      → (keep i ≡ true → ⊥) × (hold i ≡ true → ⊥) × ((q : ℕ) → S.has g (suc q) ≡ true → get_or args q (Lit Unfilled) ≡ At i → q ≡ j)

module _ (P : Plan) (S : Shares) (args : List Operand) (g : ℕ) (vs : List Vertex) (lo : ℕ) where
  abbrev pub there : Places
  there = seats P (S.has g) args vs lo

  abbrev pub owned : Places
  owned = seats P (S.owns g) args vs lo

  module _ (keep hold : Cells_of) (has_owned : (p : ℕ) → S.owns g p ≡ true → S.has g p ≡ true) (scene : IsScene S keep hold args g lo) where
    pub inputs-there : AreInputsPlaced keep there (S.owns g) lo
    inputs-there =
        record {
          inputs = λ q i e. let x = seat-is P (S.has g) args vs lo q i e in scene.below x.0 i (ap (S.has g) (sym x.1) ∙ x.2) x.3;
          kept = scene.kept;
          apart = λ p i o e.
              let x = seat-is P (S.has g) args vs lo p i e in
              let a = scene.apart x.0 i (ap (S.owns g) (sym x.1) ∙ o) x.3 in
              (a.0, λ q f. let y = seat-is P (S.has g) args vs lo q i f in y.1 ∙ (ap suc (a.2 y.0 (ap (S.has g) (sym y.1) ∙ y.2) y.3) ∙ sym x.1));
        }

    pub inputs-owned : AreInputsPlaced hold owned (S.owns g) lo
    inputs-owned =
        record {
          inputs = λ q i e. let x = seat-is P (S.owns g) args vs lo q i e in scene.below x.0 i (ap (S.has g) (sym x.1) ∙ has_owned q x.2) x.3;
          kept = scene.held;
          apart = λ p i o e.
              let x = seat-is P (S.owns g) args vs lo p i e in
              let a = scene.apart x.0 i (ap (S.owns g) (sym x.1) ∙ o) x.3 in
              (a.1, λ q f. let y = seat-is P (S.owns g) args vs lo q i f in y.1 ∙ (ap suc (a.2 y.0 (ap (S.has g) (sym y.1) ∙ has_owned q y.2) y.3) ∙ sym x.1));
        }

-- the outputs stand so, whichever inputs there are
pub seats-put : (P : Plan) (test : ℕ → Bool) (args : List Operand) (vs : List Vertex) (lo : ℕ) → LabelsOnce vs → EachNode (λ v. v.label ≢ 0) vs → PutsAll P (seats P test args vs lo) vs lo
seats-put P test args vs lo once labelled =
    puts-as P (put P vs lo) (seats P test args vs lo) vs lo (λ l p there. let k = is-suc P vs l labelled there in subst (λ x. seats P test args vs lo x p ≡ put P vs lo x p) (sym k.1) refl) (puts-put P vs lo once)

-- ---- a node

-- What is known of a node with one set of kept cells, where some of its graph's outputs are known and some ports were taken: its
-- operands are alive, and what it takes has a cell of its own.
pub record IsReached (keep : Cells_of) (places : Places) (known : Known) (taken : Taken) (takes copies : ℕ → Bool) (v : Vertex) (lo w : ℕ) : Type 0 where
  pub reads : AllIn (IsAlive keep places known taken) (map (operand places) v.ins)
  pub stays : StaysAlive keep places known taken takes copies v lo w
  pub low : StandsBelow keep places known lo
  pub own : (j l p : ℕ) → Fills j v.ins (first_port v.kind) l p → takes j ≡ true → IsOwnCell keep places known l p
  pub puts : Puts places v.label lo w

-- what is alive behind a node without its outputs was alive before it, is not taken and stands below its outputs
pub kept-alive : (keep : Cells_of) (places : Places) (known : Known) (taken : Taken) (takes copies : ℕ → Bool) (v : Vertex) (lo w : ℕ) → IsReached keep places known taken takes copies v lo w
    → (i : ℕ) → IsAlive keep places known (taken_by takes (first_port v.kind) v.ins taken) i
    → IsAlive keep places known taken i × (IsTaken (modes_of takes copies (first_port v.kind) v.ins) (map (operand places) v.ins) i → ⊥) × (i < lo)
kept-alive keep places known taken takes copies v lo w h i a = go (h.stays i (more a))
  where
    more : IsAlive keep places known (taken_by takes (first_port v.kind) v.ins taken) i → IsAlive keep places ((v.label, w) ∷ known) (taken_by takes (first_port v.kind) v.ins taken) i
    more (inl k) = inl k
    more (inr (l, p, inl z, free, e)) = inr (l, p, inl z, free, e)
    more (inr (l, p, inr k, free, e)) = inr (l, p, inr (inr k), free, e)

    under : IsAlive keep places known (taken_by takes (first_port v.kind) v.ins taken) i → i < lo
    under (inl k) = h.low.0 i k
    under (inr (l, p, k, free, e)) = h.low.1 l p i k e

    go : ((lo ≤ i) × (i < lo + w)) ⊎ (IsAlive keep places known taken i × (IsTaken (modes_of takes copies (first_port v.kind) v.ins) (map (operand places) v.ins) i → ⊥) × (i < lo))
        → IsAlive keep places known taken i × (IsTaken (modes_of takes copies (first_port v.kind) v.ins) (map (operand places) v.ins) i → ⊥) × (i < lo)
    go (inl x) = absurd (let le = x.0 in let lt = under a in omega (arith, le, lt))
    go (inr x) = x

-- and what is alive behind it is one of its outputs, or that
pub split-alive : (keep : Cells_of) (places : Places) (known : Known) (taken : Taken) (l₀ lo w i : ℕ) → Puts places l₀ lo w → IsAlive keep places ((l₀, w) ∷ known) taken i → ((lo ≤ i) × (i < lo + w)) ⊎ IsAlive keep places known taken i
split-alive keep places known taken l₀ lo w i puts (inl k) = inr (inl k)
split-alive keep places known taken l₀ lo w i puts (inr (l, p, inl z, free, at)) = inr (inr (l, p, inl z, free, at))
split-alive keep places known taken l₀ lo w i puts (inr (l, p, inr (inr k), free, at)) = inr (inr (l, p, inr k, free, at))
split-alive keep places known taken l₀ lo w i puts (inr (l, p, inr (inl x), free, at)) =
    let lt = x.2 in
    let e = same-cell (lo + x.1) i (sym (puts x.1 x.2) ∙ (sym (ap (places l₀) x.3) ∙ (sym (ap (λ z. places z p) x.0) ∙ at))) in
    inl (omega (arith, e), omega (arith, e, lt))

-- ---- operands by their number

pub all-in : (A : ℕ → Type 0) (args : List Operand) (j i : ℕ) → AllIn A args → get_or args j (Lit Unfilled) ≡ At i → A i
all-in A [] j i h e = lit-at (A i) i e
all-in A (At c ∷ args) zero i h e = subst A (same-cell c i e) h.0
all-in A (Lit k ∷ args) zero i h e = absurd (clash e)
  where
    clash : Lit k ≡ At i → ⊥
    clash e = cc
all-in A (At c ∷ args) (suc j) i h e = all-in A args j i h.1 e
all-in A (Lit k ∷ args) (suc j) i h e = all-in A args j i h e

-- the port that fills a port
pub filled : (places : Places) (os : List Source) (first j i : ℕ) → get_or (map (operand places) os) j (Lit Unfilled) ≡ At i → (l : ℕ) × (p : ℕ) × Fills (first + j) os first l p × (places l p ≡ At i)
filled places [] first j i e = lit-at ((l : ℕ) × (p : ℕ) × Fills (first + j) [] first l p × (places l p ≡ At i)) i e
filled places (Fixed c ∷ os) first zero i e = absurd (clash e)
  where
    clash : Lit c ≡ At i → ⊥
    clash e = cc
filled places (Port l p ∷ os) first zero i e = (l, p, inl (omega arith, refl), e)
filled places (o ∷ os) first (suc j) i e =
    let x = filled places os (suc first) j i e in
    (x.0, x.1, inr (subst (λ n. Fills n os (suc first) x.0 x.1) (omega arith) x.2), x.3)

-- a port that takes is taken
pub is-taken : (places : Places) (takes copies : ℕ → Bool) (os : List Source) (first j i : ℕ) → takes (first + j) ≡ true → get_or (map (operand places) os) j (Lit Unfilled) ≡ At i → IsTaken (modes_of takes copies first os) (map (operand places) os) i
is-taken places takes copies [] first j i t e = lit-at (IsTaken (modes_of takes copies first []) (map (operand places) []) i) i e
is-taken places takes copies (o ∷ os) first zero i t e =
    let z : first + 0 ≡ first = omega arith in
    inl (ap (λ b. if b then Takes else (if copies first then Copies else Looks)) (ap takes (sym z) ∙ t), e)
is-taken places takes copies (o ∷ os) first (suc j) i t e = inr (is-taken places takes copies os (suc first) j i (ap takes (omega arith) ∙ t) e)
