-- TagCases.
use Rattle.std.proofs.Common.{◌≡◌, ℕ, zero, suc, ◌+◌, ◌<◌, ◌≤◌, ◌⊎◌, inl, inr, if◌then◌else◌, Bool, true, false, List, [], ◌∷◌, drop, get_or, refl, sym, ◌∙◌, arith}
use Rattle.graph_meaning.specs.Carried.{Carried, Unfilled}
use Rattle.run_code.specs.Cells.{Operand, At, Lit}
use Rattle.run_code.specs.Made.{Plan, Makes, OfNothing, arms_at, greatest_extent, line, tag_code}
use Rattle.run_code.specs.Steps.{Tag}
use Rattle.run_made.proofs.Lengths.{IsLong}
use Rattle.run_made.specs.Plans.{All, Weighing}
use Rattle.run_store.specs.Lively.{AllMayBe, Live}
use Rattle.run_store.specs.Refines.{IsTaken}
use Rattle.run_store.specs.Stored.{Handling, Looks, Mode, Takes, copied}
use Rattle.made_store.proofs.Alive.{or-either, or-left, or-right, range-sound, same-cell, where-so, where-sound}
use Rattle.made_store.proofs.Flows.{AllFine, ArePlain, Flows, Opens, fine-at, follow, look-copied, may-look-one, may-take-one, none-copied}
use Rattle.made_store.proofs.Owned.{IsGivenTo}
use Rattle.made_store.proofs.Parts.{DoesFine, EndsSo, IsArm, arms-fine, arms-follow}
use Rattle.made_store.proofs.Scenes.{IsScene}
use Rattle.made_store.specs.Last.{AreTakenLast}
use Rattle.made_store.specs.Settings.{Cells_of, Sets, Shares, TagSet, cells_where, either_of, range_of}
use Rattle.made_store.specs.Shared.{IsShared}

get-drop : (args : List Operand) (j : ℕ) → get_or (drop 1 args) j (Lit Unfilled) ≡ get_or args (suc j) (Lit Unfilled)
get-drop [] j = refl
get-drop (a ∷ args) j = refl

-- a union is taken or looked at
abbrev mode_if : Bool → List Mode
mode_if b = (if b then Takes else Looks) ∷ []

plain-if : (b : Bool) → ArePlain (mode_if b)
plain-if true = tt
plain-if false = tt

copied-if : (b : Bool) (ks : List Carried) → copied (mode_if b) ks ≡ 0
copied-if true [] = refl
copied-if true (k ∷ ks) = let e = none-copied ks in omega (arith, e)
copied-if false ks = look-copied ks

may-if : (live own : Live) (pc : ℕ) (b : Bool) (a : Operand) → ((i : ℕ) → a ≡ At i → live pc i ≡ true) → (b ≡ true → (i : ℕ) → a ≡ At i → own pc i ≡ true) → AllMayBe live own pc (mode_if b) (a ∷ [])
may-if live own pc true a lives owns = may-take-one live own pc a (owns refl)
may-if live own pc false a lives owns = may-look-one live own pc a lives

last-if : (b : Bool) (a : Operand) → AreTakenLast (mode_if b) (a ∷ [])
last-if true (At c) = (tt, tt)
last-if true (Lit k) = (tt, tt)
last-if false a = (tt, tt)

taken-if : (b : Bool) (a : Operand) (i : ℕ) → IsTaken (mode_if b) (a ∷ []) i → (b ≡ true) × (a ≡ At i)
taken-if true a i (inl h) = (refl, h.1)
taken-if true a i (inr h) = absurd h
taken-if false a i (inl h) = absurd (clash h.0)
  where
    clash : Looks ≡ Takes → ⊥
    clash e = cc
taken-if false a i (inr h) = absurd h

module _ (P : Plan) (S : Shares) (W : Weighing) (handling : ℕ → Handling) (live own : Live) (room : ℕ) (shared : (g : ℕ) → IsShared P S W g) (make : Makes P) (sets : Sets P S handling live own) (lays : ℕ → Type 0) (long : IsLong P make lays)
    (fine : DoesFine P S W handling live own room shared make sets lays) (ends : EndsSo P S W handling live own room shared lays) (lives owns keep hold : Cells_of) (given : ℕ → Bool) (args : List Operand) (lo begin mid : ℕ)
    (h : IsGivenTo lives owns keep hold given args lo begin mid) where
  abbrev inner : List Operand
  inner = At mid ∷ drop 1 args

  abbrev pub GivesOthers : ℕ → Type 0
  GivesOthers g = (p : ℕ) → S.owns g (suc (suc p)) ≡ true → given (suc (suc p)) ≡ true

  abbrev all_kept : Cells_of
  all_kept = either_of keep (cells_where (λ p. true) args)

  abbrev all_held : Cells_of
  all_held = either_of hold (cells_where given args)

  abbrev union : Operand
  union = get_or args 0 (Lit Unfilled)

  other : (j i : ℕ) → get_or inner (suc j) (Lit Unfilled) ≡ At i → get_or args (suc j) (Lit Unfilled) ≡ At i
  other j i e = sym (get-drop args j) ∙ e

  low : (i : ℕ) → keep i ≡ true → i < mid
  low i k =
      let lt = (h.kept i k).1 in
      let a = h.rises.0 in
      let b = h.rises.1 in
      omega (arith, lt, a, b)

  low-own : (i : ℕ) → hold i ≡ true → i < mid
  low-own i k =
      let lt = (h.held i k).1 in
      let a = h.rises.0 in
      let b = h.rises.1 in
      omega (arith, lt, a, b)

  arm-scene : (g : ℕ) → GivesOthers g → IsScene S keep hold inner g (suc mid)
  arm-scene g gives =
      record {
        below = λ j i t e. under j i e;
        kept = λ i k. let lt = low i k in omega (arith, lt);
        held = λ i k. let lt = low-own i k in omega (arith, lt);
        apart = λ j i o e. alone j i o e;
      }
    where
      under : (j i : ℕ) → get_or inner j (Lit Unfilled) ≡ At i → i < suc mid
      under zero i e = let s = same-cell mid i e in omega (arith, s)
      under (suc j) i e = let lt = h.below (suc j) i (other j i e) in omega (arith, lt)

      first : (q i : ℕ) → mid ≡ i → get_or inner q (Lit Unfilled) ≡ At i → q ≡ 0
      first zero i s f = refl
      first (suc q) i s f = let lt = h.below (suc q) i (other q i f) in absurd (omega (arith, lt, s))

      later : (j q i : ℕ) → get_or args (suc j) (Lit Unfilled) ≡ At i → ((r : ℕ) → get_or args r (Lit Unfilled) ≡ At i → r ≡ suc j) → get_or inner q (Lit Unfilled) ≡ At i → q ≡ suc j
      later j zero i e one f =
          let lt = h.below (suc j) i e in
          let s = same-cell mid i f in
          absurd (omega (arith, lt, s))
      later j (suc q) i e one f = one (suc q) (other q i f)

      alone : (j i : ℕ) → S.owns g (suc j) ≡ true → get_or inner j (Lit Unfilled) ≡ At i → (keep i ≡ true → ⊥) × (hold i ≡ true → ⊥) × ((q : ℕ) → S.has g (suc q) ≡ true → get_or inner q (Lit Unfilled) ≡ At i → q ≡ j)
      alone zero i o e =
          let s = same-cell mid i e in (
            (λ k. let lt = low i k in omega (arith, lt, s)),
            (λ k. let lt = low-own i k in omega (arith, lt, s)),
            λ q t f. first q i s f,
          )
      alone (suc j) i o e = let x = h.apart (suc j) i (gives j o) (other j i e) in (x.0, x.1, λ q t f. later j q i (other j i e) x.2 f)

  as-arms : (gs : List ℕ) → All lays gs → All GivesOthers gs → All (IsArm P S W handling live own room shared make sets lays long fine ends keep hold inner (suc mid)) gs
  as-arms [] l g = tt
  as-arms (x ∷ xs) l g = ((l.0, arm-scene x g.0), as-arms xs l.1 g.1)

  untaken : (i : ℕ) → keep i ≡ true → IsTaken (mode_if (given 1)) (union ∷ []) i → ⊥
  untaken i k t = let x = taken-if (given 1) union i t in (h.apart 0 i x.0 x.1).0 k

  untaken-own : (i : ℕ) → hold i ≡ true → IsTaken (mode_if (given 1)) (union ∷ []) i → ⊥
  untaken-own i k t = let x = taken-if (given 1) union i t in (h.apart 0 i x.0 x.1).1 k

  other-untaken : (j i : ℕ) → get_or args (suc j) (Lit Unfilled) ≡ At i → IsTaken (mode_if (given 1)) (union ∷ []) i → ⊥
  other-untaken j i e t =
      let x = taken-if (given 1) union i t in
      let z = (h.apart 0 i x.0 x.1).2 (suc j) e in
      omega (arith, z)

  arm-flows : (gs : List ℕ) → All GivesOthers gs
      → All (λ g. Flows all_kept (either_of keep (cells_where (S.has g) inner)) (mode_if (given 1)) (union ∷ []) mid 1 × Flows all_held (either_of hold (cells_where (S.owns g) inner)) (mode_if (given 1)) (union ∷ []) mid 1) gs
  arm-flows [] g = tt
  arm-flows (x ∷ xs) g = (((λ i e. go i (or-either (keep i) (cells_where (S.has x) inner i) e)), λ i e. go_own i (or-either (hold i) (cells_where (S.owns x) inner i) e)), arm-flows xs g.1)
    where
      Past : Cells_of → ℕ → Type 0
      Past some i = ((mid ≤ i) × (i < mid + 1)) ⊎ ((some i ≡ true) × (IsTaken (mode_if (given 1)) (union ∷ []) i → ⊥) × ((i < mid) ⊎ (mid + 1 ≤ i)))

      at : (j i : ℕ) → get_or inner j (Lit Unfilled) ≡ At i → Past all_kept i
      at zero i e = let s = same-cell mid i e in inl (omega (arith, s), omega (arith, s))
      at (suc j) i e =
          inr (or-right (keep i) (cells_where (λ p. true) args i) (where-so (λ p. true) args i (suc j) refl (other j i e)), other-untaken j i (other j i e), inl (h.below (suc j) i (other j i e)))

      at-own : (j i : ℕ) → S.owns x (suc j) ≡ true → get_or inner j (Lit Unfilled) ≡ At i → Past all_held i
      at-own zero i o e = let s = same-cell mid i e in inl (omega (arith, s), omega (arith, s))
      at-own (suc j) i o e =
          inr (or-right (hold i) (cells_where given args i) (where-so given args i (suc j) (g.0 j o) (other j i e)), other-untaken j i (other j i e), inl (h.below (suc j) i (other j i e)))

      go : (i : ℕ) → (keep i ≡ true) ⊎ (cells_where (S.has x) inner i ≡ true) → Past all_kept i
      go i (inl k) = inr (or-left (keep i) (cells_where (λ p. true) args i) k, untaken i k, inl (low i k))
      go i (inr k) = let y = where-sound (S.has x) inner i k in at y.0 i y.2

      go_own : (i : ℕ) → (hold i ≡ true) ⊎ (cells_where (S.owns x) inner i ≡ true) → Past all_held i
      go_own i (inl k) = inr (or-left (hold i) (cells_where given args i) k, untaken-own i k, inl (low-own i k))
      go_own i (inr k) = let y = where-sound (S.owns x) inner i k in at-own y.0 i y.1 y.2

  pub tag-fine : (gs : List ℕ) (a w b : ℕ) → All lays gs → All GivesOthers gs → TagSet P S handling live own sets keep hold given args gs a mid → mid + suc (greatest_extent P gs) ≤ room
      → Opens W handling live own b (either_of (range_of lo w) keep) (either_of (range_of lo w) hold)
      → AllFine W handling live own a (tag_code P make room args gs a w b lo mid) × Opens W handling live own a all_kept all_held
  tag-fine gs a w b others gives set fits next =
      let y = arms-fine P S W handling live own room shared make sets lays long fine ends keep hold inner gs (suc a) w b lo (suc mid) (as-arms gs others gives) set.1 (omega (arith, fits)) (λ i k. (h.kept i k).1) (λ i k. (h.held i k).1) next in
      let tag = fine-at W handling live own a (line OfNothing (Tag union (arms_at P make room gs (suc a)) mid lo w b)) (mode_if (given 1)) [] all_kept all_held set.0 (plain-if (given 1)) tt (copied-if (given 1))
      (may-if live own a (given 1) union (λ i t. set.0.1 i ∙ or-right (keep i) (cells_where (λ p. true) args i) (where-so (λ p. true) args i 0 refl t)) (λ g i t. set.0.2 i ∙ or-right (hold i) (cells_where given args i) (where-so given args i 0 g t))) (last-if (given 1) union) (
        follow W handling live own a b lo w (mode_if (given 1)) [] (union ∷ []) all_kept all_held (either_of (range_of lo w) keep) (either_of (range_of lo w) hold) set.0 next (λ i t. past i (or-either (range_of lo w i) (keep i) t))
            (λ i t. past-own i (or-either (range_of lo w i) (hold i) t)),
        arms-follow P S W handling live own room shared make sets lays long fine ends keep hold inner a mid 1 (mode_if (given 1)) (union ∷ []) all_kept all_held gs (suc a) set.0 y.1 (arm-flows gs gives),
      ) tt in
      ((tag, y.0), ((λ i t. sym (set.0.1 i) ∙ t), λ i t. sym (set.0.2 i) ∙ t))
    where
      past : (i : ℕ) → (range_of lo w i ≡ true) ⊎ (keep i ≡ true) → ((lo ≤ i) × (i < lo + w)) ⊎ ((all_kept i ≡ true) × (IsTaken (mode_if (given 1)) (union ∷ []) i → ⊥) × ((i < lo) ⊎ (lo + w ≤ i)))
      past i (inl r) = inl (range-sound lo w i r)
      past i (inr k) = inr (or-left (keep i) (cells_where (λ p. true) args i) k, untaken i k, inl (h.kept i k).1)

      past-own : (i : ℕ) → (range_of lo w i ≡ true) ⊎ (hold i ≡ true) → ((lo ≤ i) × (i < lo + w)) ⊎ ((all_held i ≡ true) × (IsTaken (mode_if (given 1)) (union ∷ []) i → ⊥) × ((i < lo) ⊎ (lo + w ≤ i)))
      past-own i (inl r) = inl (range-sound lo w i r)
      past-own i (inr k) = inr (or-left (hold i) (cells_where given args i) k, untaken-own i k, inl (h.held i k).1)
