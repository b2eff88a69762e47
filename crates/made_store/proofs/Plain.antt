-- Simple nodes, Calls, and steps that bring the results of a graph on.
use Rattle.std.proofs.Common.{◌≡◌, ℕ, zero, suc, ◌+◌, ◌<◌, ◌≤◌, ◌⊎◌, inl, inr, ◌||◌, Bool, true, false, List, [], ◌∷◌, length, get_or, refl, sym, ap, ◌∙◌, subst, arith}
use Rattle.run_code.specs.Simple.{Simple}
use Rattle.graph_meaning.specs.Carried.{Carried, Unfilled}
use Rattle.graph_meaning.specs.NodeValues.{Shape}
use Rattle.graph_meaning.specs.Demand.{Source, Vertex}
use Rattle.run_code.specs.Taking.{first_port}
use Rattle.run_code.specs.Cells.{Operand, At, Lit, cells_at}
use Rattle.run_code.specs.Made.{Plan, OfNode, line}
use Rattle.run_code.specs.Steps.{Call, Fire}
use Rattle.run_made.specs.Plans.{Weighing}
use Rattle.run_store.specs.Lively.{IsGiven, Live}
use Rattle.run_store.specs.Ports.{mode_of, modes_of}
use Rattle.run_store.specs.Refines.{IsLent, IsLentThrough, IsTaken}
use Rattle.run_store.specs.Stored.{Handling, Looks, copied}
use Rattle.made_store.proofs.Alive.{or-either, range-sound, true-false, where-sound}
use Rattle.made_store.proofs.Around.{IsAround, taken-index}
use Rattle.made_store.proofs.Flows.{FineAt, Flows, Opens, Standing, fine-at, follow, may-modes, modes-last, plain-modes}
use Rattle.made_store.proofs.Owned.{cells-is}
use Rattle.made_store.specs.Settings.{Cells_of, Shares, cells_where, either_of, modes_at, range_of}

-- what is lent is not taken
lent-index : (takes copies : ℕ → Bool) (os : List Source) (args : List Operand) (first i : ℕ) → length args ≡ length os → IsLent (modes_of takes copies first os) args i → (j : ℕ) × (takes (first + j) ≡ false) × (get_or args j (Lit Unfilled) ≡ At i)
lent-index takes copies [] [] first i many h = absurd h
lent-index takes copies [] (a ∷ args) first i many h = absurd (omega (arith, many))
lent-index takes copies (o ∷ os) [] first i many h = absurd h
lent-index takes copies (o ∷ os) (a ∷ args) first i many (inl h) = go (takes first) (copies first) refl h
  where
    go : (t c : Bool) → takes first ≡ t → IsLentThrough (mode_of t c) a i → (j : ℕ) × (takes (first + j) ≡ false) × (get_or (a ∷ args) j (Lit Unfilled) ≡ At i)
    go true c e x = absurd x
    go false true e x = absurd x
    go false false e x = (0, ap takes (omega arith) ∙ e, x)
lent-index takes copies (o ∷ os) (a ∷ args) first i many (inr h) =
    let x = lent-index takes copies os args (suc first) i (omega (arith, many)) h in (suc x.0, ap takes (omega arith) ∙ x.1, x.2)

mode-get : (takes copies : ℕ → Bool) (os : List Source) (first j : ℕ) → j < length os → get_or (modes_of takes copies first os) j Looks ≡ mode_of (takes (first + j)) (copies (first + j))
mode-get takes copies [] first j lt = absurd (omega (arith, lt))
mode-get takes copies (o ∷ os) first zero lt = let z : first ≡ first + 0 = omega arith in ap (λ n. mode_of (takes n) (copies n)) z
mode-get takes copies (o ∷ os) first (suc j) lt = let z : suc first + j ≡ first + suc j = omega arith in mode-get takes copies os (suc first) j (omega (arith, lt)) ∙ ap (λ n. mode_of (takes n) (copies n)) z

given-mode : (t c : Bool) → t || c ≡ true → IsGiven (mode_of t c)
given-mode true c e = tt
given-mode false true e = tt
given-mode false false e = absurd (true-false false e refl)

-- behind a node are its outputs and what is kept
pub node-flows : (lives owns keep hold : Cells_of) (args : List Operand) (takes copies : ℕ → Bool) (os : List Source) (first lo w : ℕ) → IsAround lives owns keep hold args takes first lo → length args ≡ length os
    → Flows lives (either_of (range_of lo w) keep) (modes_of takes copies first os) args lo w × Flows owns (either_of (range_of lo w) hold) (modes_of takes copies first os) args lo w
node-flows lives owns keep hold args takes copies os first lo w h many = ((λ i e. go i (or-either (range_of lo w i) (keep i) e)), λ i e. go_own i (or-either (range_of lo w i) (hold i) e))
  where
    go : (i : ℕ) → (range_of lo w i ≡ true) ⊎ (keep i ≡ true) → ((lo ≤ i) × (i < lo + w)) ⊎ ((lives i ≡ true) × (IsTaken (modes_of takes copies first os) args i → ⊥) × ((i < lo) ⊎ (lo + w ≤ i)))
    go i (inl r) = inl (range-sound lo w i r)
    go i (inr k) = inr ((h.kept i k).0, (λ t. let x = taken-index takes copies os args first i many t in (h.gone x.0 i x.1 x.2).1 k), inl (h.kept i k).1)

    go_own : (i : ℕ) → (range_of lo w i ≡ true) ⊎ (hold i ≡ true) → ((lo ≤ i) × (i < lo + w)) ⊎ ((owns i ≡ true) × (IsTaken (modes_of takes copies first os) args i → ⊥) × ((i < lo) ⊎ (lo + w ≤ i)))
    go_own i (inl r) = inl (range-sound lo w i r)
    go_own i (inr k) = inr ((h.held i k).0, (λ t. let x = taken-index takes copies os args first i many t in (h.gone x.0 i x.1 x.2).2 k), inl (h.held i k).1)

module _ (P : Plan) (S : Shares) (W : Weighing) (handling : ℕ → Handling) (live own : Live) (room : ℕ) where
  pub plain-fine : (g : ℕ) (v : Vertex) (args : List Operand) (row : Simple) (shape : Shape) (w a lo : ℕ) (lives owns keep hold : Cells_of) → IsAround lives owns keep hold args (S.takes g v.label) (first_port v.kind) lo → length args ≡ length v.ins
      → Standing W handling live own a (modes_at P S g v) [] lives owns → Opens W handling live own (suc a) (either_of (range_of lo w) keep) (either_of (range_of lo w) hold)
      → FineAt W handling live own a (line (OfNode g v) (Fire row shape args lo w))
  plain-fine g v args row shape w a lo lives owns keep hold h many s next =
      let f = node-flows lives owns keep hold args (S.takes g v.label) (S.copies g v.label) v.ins (first_port v.kind) lo w h many in
      fine-at W handling live own a (line (OfNode g v) (Fire row shape args lo w)) (modes_at P S g v) [] lives owns s (plain-modes (S.takes g v.label) (S.copies g v.label) (first_port v.kind) v.ins) tt tt
      (may-modes live own a (S.takes g v.label) (S.copies g v.label) v.ins args (first_port v.kind) many (λ j i e. s.1 i ∙ (h.reads j i e).0) (λ j i t e. s.2 i ∙ (h.gone j i t e).0))
      (modes-last (S.takes g v.label) (S.copies g v.label) v.ins args (first_port v.kind) many (λ j i q t e f. (h.gone j i t e).3 q f))
      (follow W handling live own a (suc a) lo w (modes_at P S g v) [] args lives owns (either_of (range_of lo w) keep) (either_of (range_of lo w) hold) s next f.0 f.1, tt) tt

  pub call-fine : (g : ℕ) (v : Vertex) (args : List Operand) (f : ℕ) (w a lo : ℕ) (lives owns keep hold : Cells_of) → IsAround lives owns keep hold args (S.takes g v.label) (first_port v.kind) lo → length args ≡ length v.ins → first_port v.kind ≡ 2
      → length v.ins ≡ P.params f → lo ≤ room
      → ((p : ℕ) → S.owns f p ≡ true → S.takes g v.label (suc p) || S.copies g v.label (suc p) ≡ true) → ((ks : List Carried) → copied (modes_at P S g v) ks ≡ W.weights.of_node g v ks [])
      → Opens W handling live own (P.entry f) (cells_where (S.has f) (cells_at 0 (P.params f))) (cells_where (S.owns f) (cells_at 0 (P.params f)))
      → Standing W handling live own a (modes_at P S g v) [] lives owns → Opens W handling live own (suc a) (either_of (range_of lo w) keep) (either_of (range_of lo w) hold)
      → FineAt W handling live own a (line (OfNode g v) (Call (P.entry f) room args lo w))
  call-fine g v args f w a lo lives owns keep hold h many two same fits given weighs entry s next =
      fine-at W handling live own a (line (OfNode g v) (Call (P.entry f) room args lo w)) (modes_at P S g v) [] lives owns s (plain-modes (S.takes g v.label) (S.copies g v.label) (first_port v.kind) v.ins)
      (λ i l. lent i (lent-index (S.takes g v.label) (S.copies g v.label) v.ins args (first_port v.kind) i many l)) weighs
      (may-modes live own a (S.takes g v.label) (S.copies g v.label) v.ins args (first_port v.kind) many (λ j i e. s.1 i ∙ (h.reads j i e).0) (λ j i t e. s.2 i ∙ (h.gone j i t e).0))
      (modes-last (S.takes g v.label) (S.copies g v.label) v.ins args (first_port v.kind) many (λ j i q t e f. (h.gone j i t e).3 q f))
      tt (
        (λ i e. first i (where-sound (S.has f) (cells_at 0 (P.params f)) i (entry.0 i e))),
        (λ i e. mine i (where-sound (S.owns f) (cells_at 0 (P.params f)) i (entry.1 i e))),
        (λ i e. back i (or-either (range_of lo w i) (keep i) (next.0 i e))),
        (λ i e. back_own i (or-either (range_of lo w i) (hold i) (next.1 i e))),
      )
    where
      lent : (i : ℕ) → (j : ℕ) × (S.takes g v.label (first_port v.kind + j) ≡ false) × (get_or args j (Lit Unfilled) ≡ At i) → (i < room) × (IsTaken (modes_at P S g v) args i → ⊥)
      lent i x =
          let lt = (h.reads x.0 i x.2).1 in (
            omega (arith, lt, fits),
            (λ t.
                let y = taken-index (S.takes g v.label) (S.copies g v.label) v.ins args (first_port v.kind) i many t in
                let z = (h.gone y.0 i y.1 y.2).3 x.0 x.2 in
                true-false (S.takes g v.label (first_port v.kind + y.0)) y.1 (ap (λ n. S.takes g v.label (first_port v.kind + n)) (sym z) ∙ x.1)),
          )

      first : (i : ℕ) → (j : ℕ) × (S.has f (suc j) ≡ true) × (get_or (cells_at 0 (P.params f)) j (Lit Unfilled) ≡ At i) → i < length args
      first i x =
          let y = cells-is 0 (P.params f) x.0 i x.2 in
          let lt = y.0 in
          let e = y.1 in
          omega (arith, lt, e, many, same)

      mine : (i : ℕ) → (j : ℕ) × (S.owns f (suc j) ≡ true) × (get_or (cells_at 0 (P.params f)) j (Lit Unfilled) ≡ At i) → (i < length args) × IsGiven (get_or (modes_at P S g v) i Looks)
      mine i x =
          let y = cells-is 0 (P.params f) x.0 i x.2 in
          let lt = y.0 in
          let e = y.1 in
          let z : suc (suc x.0) ≡ first_port v.kind + i = omega (arith, two, e) in (
            omega (arith, lt, e, many, same),
            subst IsGiven (sym (mode-get (S.takes g v.label) (S.copies g v.label) v.ins (first_port v.kind) i (omega (arith, lt, e, same))))
                (given-mode (S.takes g v.label (first_port v.kind + i)) (S.copies g v.label (first_port v.kind + i))
                (subst (λ n. S.takes g v.label n || S.copies g v.label n ≡ true) z (given (suc x.0) x.1))),
          )

      untaken : (i : ℕ) → keep i ≡ true → IsTaken (modes_at P S g v) args i → ⊥
      untaken i k t = let x = taken-index (S.takes g v.label) (S.copies g v.label) v.ins args (first_port v.kind) i many t in (h.gone x.0 i x.1 x.2).1 k

      untaken-own : (i : ℕ) → hold i ≡ true → IsTaken (modes_at P S g v) args i → ⊥
      untaken-own i k t = let x = taken-index (S.takes g v.label) (S.copies g v.label) v.ins args (first_port v.kind) i many t in (h.gone x.0 i x.1 x.2).2 k

      back : (i : ℕ) → (range_of lo w i ≡ true) ⊎ (keep i ≡ true) → ((lo ≤ i) × (i < lo + w)) ⊎ ((live a i ≡ true) × (IsTaken (modes_at P S g v) args i → ⊥) × (i < room))
      back i (inl r) = inl (range-sound lo w i r)
      back i (inr k) = let lt = (h.kept i k).1 in inr (s.1 i ∙ (h.kept i k).0, untaken i k, omega (arith, lt, fits))

      back_own : (i : ℕ) → (range_of lo w i ≡ true) ⊎ (hold i ≡ true) → ((lo ≤ i) × (i < lo + w)) ⊎ ((own a i ≡ true) × (IsTaken (modes_at P S g v) args i → ⊥) × (i < room))
      back_own i (inl r) = inl (range-sound lo w i r)
      back_own i (inr k) = let lt = (h.held i k).1 in inr (s.2 i ∙ (h.held i k).0, untaken-own i k, omega (arith, lt, fits))
