-- Steps whose operands and cells are handled as a place is set.
use Rattle.std.proofs.Common.{◌≡◌, ℕ, suc, ◌+◌, ◌<◌, ◌≤◌, ◌⊎◌, inl, inr, Bool, true, false, List, [], ◌∷◌, ◌++◌, length, get_or, refl, sym, ap, ◌∙◌, subst, arith}
use Rattle.graph_meaning.specs.Carried.{Carried, Unfilled}
use Rattle.graph_meaning.specs.Demand.{Source}
use Rattle.run_code.specs.Cells.{Operand, At, Lit, picked}
use Rattle.run_code.specs.Made.{Line}
use Rattle.run_made.specs.Facts.{Fact}
use Rattle.run_made.specs.Plans.{Weighing, adds}
use Rattle.run_store.specs.Effects.{IsOneOf, leads, reads_of}
use Rattle.run_store.specs.Lively.{AllMayBe, CallsLively, MayBe, Follows, IsLively, Live}
use Rattle.run_store.specs.Ports.{copies_of, mode_of, modes_of}
use Rattle.run_store.specs.Refines.{HavePaths, IsHandled, IsTaken, IsWeighed, LendsInside}
use Rattle.run_store.specs.Stored.{Copies, CopiesOf, Handling, Looks, LooksAt, Mode, Takes, copied}
use Rattle.made_store.specs.Last.{AreTakenLast, IsLast, IsNoneOf}
use Rattle.made_store.specs.Settings.{Cells_of}

-- ---- modes that read no path

abbrev pub ArePlain : List Mode → Type 0
ArePlain [] = Unit {0}
ArePlain (Looks ∷ ms) = ArePlain ms
ArePlain (Copies ∷ ms) = ArePlain ms
ArePlain (Takes ∷ ms) = ArePlain ms
ArePlain (LooksAt p ∷ ms) = ⊥
ArePlain (CopiesOf p ∷ ms) = ⊥

pub plain-paths : (facts : ℕ → List Fact) (pc : ℕ) (ms : List Mode) (args : List Operand) → ArePlain ms → HavePaths facts pc ms args
plain-paths facts pc ms [] h = tt
plain-paths facts pc [] (a ∷ args) h = (tt, plain-paths facts pc [] args tt)
plain-paths facts pc (Looks ∷ ms) (a ∷ args) h = (tt, plain-paths facts pc ms args h)
plain-paths facts pc (Copies ∷ ms) (a ∷ args) h = (tt, plain-paths facts pc ms args h)
plain-paths facts pc (Takes ∷ ms) (a ∷ args) h = (tt, plain-paths facts pc ms args h)
plain-paths facts pc (LooksAt p ∷ ms) (a ∷ args) h = absurd h
plain-paths facts pc (CopiesOf p ∷ ms) (a ∷ args) h = absurd h

pub plain-modes : (takes copies : ℕ → Bool) (first : ℕ) (os : List Source) → ArePlain (modes_of takes copies first os)
plain-modes takes copies first [] = tt
plain-modes takes copies first (o ∷ os) = go (takes first) (copies first) (plain-modes takes copies (suc first) os)
  where
    go : (t c : Bool) → ArePlain (modes_of takes copies (suc first) os) → ArePlain (mode_of t c ∷ modes_of takes copies (suc first) os)
    go true c rest = rest
    go false true rest = rest
    go false false rest = rest

pub plain-copies : (bs : List Bool) → ArePlain (copies_of bs)
plain-copies [] = tt
plain-copies (true ∷ bs) = plain-copies bs
plain-copies (false ∷ bs) = plain-copies bs

pub plain-both : (ms ns : List Mode) → ArePlain ms → ArePlain ns → ArePlain (ms ++ ns)
plain-both [] ns h k = k
plain-both (Looks ∷ ms) ns h k = plain-both ms ns h k
plain-both (Copies ∷ ms) ns h k = plain-both ms ns h k
plain-both (Takes ∷ ms) ns h k = plain-both ms ns h k
plain-both (LooksAt p ∷ ms) ns h k = absurd h
plain-both (CopiesOf p ∷ ms) ns h k = absurd h

pub none-copied : (ks : List Carried) → copied [] ks ≡ 0
none-copied [] = refl
none-copied (k ∷ ks) = let e = none-copied ks in omega (arith, e)

pub look-copied : (ks : List Carried) → copied (Looks ∷ []) ks ≡ 0
look-copied [] = refl
look-copied (k ∷ ks) = let e = none-copied ks in omega (arith, e)

pub modes-long : (takes copies : ℕ → Bool) (first : ℕ) (os : List Source) → length (modes_of takes copies first os) ≡ length os
modes-long takes copies first [] = refl
modes-long takes copies first (o ∷ os) = ap suc (modes-long takes copies (suc first) os)

-- nothing is taken where all is looked at or copied
pub none-taken : (args : List Operand) (i : ℕ) → IsTaken [] args i → ⊥
none-taken [] i h = h
none-taken (a ∷ args) i (inl h) = clash h.0
  where
    clash : Looks ≡ Takes → ⊥
    clash e = cc
none-taken (a ∷ args) i (inr h) = none-taken args i h

pub look-untaken : (a : Operand) (i : ℕ) → IsTaken (Looks ∷ []) (a ∷ []) i → ⊥
look-untaken a i (inl h) = clash h.0
  where
    clash : Looks ≡ Takes → ⊥
    clash e = cc
look-untaken a i (inr h) = h

pub copies-untaken : (bs : List Bool) (args : List Operand) (i : ℕ) → IsTaken (copies_of bs) args i → ⊥
copies-untaken [] args i h = none-taken args i h
copies-untaken (true ∷ bs) [] i h = h
copies-untaken (true ∷ bs) (a ∷ args) i (inl h) = clash h.0
  where
    clash : Copies ≡ Takes → ⊥
    clash e = cc
copies-untaken (true ∷ bs) (a ∷ args) i (inr h) = copies-untaken bs args i h
copies-untaken (false ∷ bs) args i h = copies-untaken bs args i h

-- what is taken of two lists is taken of one
pub taken-of : (ms ns : List Mode) (xs ys : List Operand) (i : ℕ) → length ms ≡ length xs → IsTaken (ms ++ ns) (xs ++ ys) i → IsTaken ms xs i ⊎ IsTaken ns ys i
taken-of [] ns [] ys i many h = inr h
taken-of [] ns (x ∷ xs) ys i many h = absurd (omega (arith, many))
taken-of (m ∷ ms) ns [] ys i many h = absurd (omega (arith, many))
taken-of (m ∷ ms) ns (x ∷ xs) ys i many (inl h) = inl (inl h)
taken-of (m ∷ ms) ns (x ∷ xs) ys i many (inr h) = later (taken-of ms ns xs ys i (omega (arith, many)) h)
  where
    later : IsTaken ms xs i ⊎ IsTaken ns ys i → IsTaken (m ∷ ms) (x ∷ xs) i ⊎ IsTaken ns ys i
    later (inl t) = inl (inr t)
    later (inr t) = inr t

-- ---- what is taken is read last

pub none-last : (args : List Operand) → AreTakenLast [] args
none-last [] = tt
none-last (a ∷ args) = (tt, none-last args)

pub copies-last : (bs : List Bool) (args : List Operand) → AreTakenLast (copies_of bs) args
copies-last [] args = none-last args
copies-last (true ∷ bs) [] = tt
copies-last (true ∷ bs) (a ∷ args) = (tt, copies-last bs args)
copies-last (false ∷ bs) args = copies-last bs args

pub none-of : (args : List Operand) (i : ℕ) → ((q : ℕ) → get_or args q (Lit Unfilled) ≡ At i → ⊥) → IsNoneOf i args
none-of [] i h = tt
none-of (a ∷ args) i h = ((λ e. h 0 e), none-of args i (λ q e. h (suc q) e))

-- where each cell that is taken is read once
pub modes-last : (takes copies : ℕ → Bool) (os : List Source) (args : List Operand) (first : ℕ) → length args ≡ length os
    → ((j i q : ℕ) → takes (first + j) ≡ true → get_or args j (Lit Unfilled) ≡ At i → get_or args q (Lit Unfilled) ≡ At i → q ≡ j) → AreTakenLast (modes_of takes copies first os) args
modes-last takes copies [] [] first many once = tt
modes-last takes copies [] (a ∷ args) first many once = absurd (omega (arith, many))
modes-last takes copies (o ∷ os) [] first many once = tt
modes-last takes copies (o ∷ os) (At c ∷ args) first many once = (
  here (takes first) (copies first) refl,
  modes-last takes copies os args (suc first) (omega (arith, many)) (λ j i q t e f. let s = once (suc j) i (suc q) (ap takes (omega arith) ∙ t) e f in omega (arith, s)),
)
  where
    here : (t k : Bool) → takes first ≡ t → IsLast (mode_of t k) (At c) args
    here true k e = none-of args c (λ q f. let s = once 0 c (suc q) (ap takes (omega arith) ∙ e) refl f in omega (arith, s))
    here false true e = tt
    here false false e = tt
modes-last takes copies (o ∷ os) (Lit k ∷ args) first many once = (
  here (takes first) (copies first),
  modes-last takes copies os args (suc first) (omega (arith, many)) (λ j i q t e f. let s = once (suc j) i (suc q) (ap takes (omega arith) ∙ t) e f in omega (arith, s)),
)
  where
    here : (t c : Bool) → IsLast (mode_of t c) (Lit k) args
    here true c = tt
    here false true = tt
    here false false = tt

none-both : (xs ys : List Operand) (i : ℕ) → IsNoneOf i xs → IsNoneOf i ys → IsNoneOf i (xs ++ ys)
none-both [] ys i h k = k
none-both (x ∷ xs) ys i h k = (h.0, none-both xs ys i h.1 k)

last-more : (m : Mode) (x : Operand) (xs ys : List Operand) → IsLast m x xs → ((i : ℕ) → m ≡ Takes → x ≡ At i → IsNoneOf i ys) → IsLast m x (xs ++ ys)
last-more Looks x xs ys h out = tt
last-more Copies x xs ys h out = tt
last-more Takes (At i) xs ys h out = none-both xs ys i h (out i refl refl)
last-more Takes (Lit c) xs ys h out = tt
last-more (LooksAt p) x xs ys h out = tt
last-more (CopiesOf p) x xs ys h out = tt

pub both-last : (ms ns : List Mode) (xs ys : List Operand) → length ms ≡ length xs → AreTakenLast ms xs → AreTakenLast ns ys → ((i : ℕ) → IsTaken ms xs i → IsNoneOf i ys) → AreTakenLast (ms ++ ns) (xs ++ ys)
both-last [] ns [] ys many h k out = k
both-last [] ns (x ∷ xs) ys many h k out = absurd (omega (arith, many))
both-last (m ∷ ms) ns [] ys many h k out = absurd (omega (arith, many))
both-last (m ∷ ms) ns (x ∷ xs) ys many h k out = (last-more m x xs ys h.0 (λ i e f. out i (inl (e, f))), both-last ms ns xs ys (omega (arith, many)) h.1 k (λ i t. out i (inr t)))

-- ---- what may be read

module _ (live own : Live) (pc : ℕ) where
  -- modes by ports, where what is read is live and what is taken is owned
  pub may-modes : (takes copies : ℕ → Bool) (os : List Source) (args : List Operand) (first : ℕ) → length args ≡ length os
      → ((j i : ℕ) → get_or args j (Lit Unfilled) ≡ At i → live pc i ≡ true) → ((j i : ℕ) → takes (first + j) ≡ true → get_or args j (Lit Unfilled) ≡ At i → own pc i ≡ true)
      → AllMayBe live own pc (modes_of takes copies first os) args
  may-modes takes copies [] [] first many lives owns = tt
  may-modes takes copies [] (a ∷ args) first many lives owns = absurd (omega (arith, many))
  may-modes takes copies (o ∷ os) [] first many lives owns = tt
  may-modes takes copies (o ∷ os) (At c ∷ args) first many lives owns = (
    here (takes first) (copies first) refl,
    may-modes takes copies os args (suc first) (omega (arith, many)) (λ j i e. lives (suc j) i e) (λ j i t e. owns (suc j) i (ap takes (omega arith) ∙ t) e),
  )
    where
      here : (t k : Bool) → takes first ≡ t → MayBe live own pc (mode_of t k) (At c)
      here true k e = owns 0 c (ap takes (omega arith) ∙ e) refl
      here false true e = lives 0 c refl
      here false false e = lives 0 c refl
  may-modes takes copies (o ∷ os) (Lit k ∷ args) first many lives owns = (
    here (takes first) (copies first),
    may-modes takes copies os args (suc first) (omega (arith, many)) (λ j i e. lives (suc j) i e) (λ j i t e. owns (suc j) i (ap takes (omega arith) ∙ t) e),
  )
    where
      here : (t c : Bool) → MayBe live own pc (mode_of t c) (Lit k)
      here true c = tt
      here false true = tt
      here false false = tt

  -- all is looked at
  pub may-look : (args : List Operand) → ((j i : ℕ) → get_or args j (Lit Unfilled) ≡ At i → live pc i ≡ true) → AllMayBe live own pc [] args
  may-look [] lives = tt
  may-look (At c ∷ args) lives = (lives 0 c refl, may-look args (λ j i e. lives (suc j) i e))
  may-look (Lit k ∷ args) lives = (tt, may-look args (λ j i e. lives (suc j) i e))

  pub may-look-one : (a : Operand) → ((i : ℕ) → a ≡ At i → live pc i ≡ true) → AllMayBe live own pc (Looks ∷ []) (a ∷ [])
  may-look-one (At c) lives = (lives c refl, tt)
  may-look-one (Lit k) lives = (tt, tt)

  pub may-take-one : (a : Operand) → ((i : ℕ) → a ≡ At i → own pc i ≡ true) → AllMayBe live own pc (Takes ∷ []) (a ∷ [])
  may-take-one (At c) owns = (owns c refl, tt)
  may-take-one (Lit k) owns = (tt, tt)

  -- what is picked is copied
  pub may-copy : (bs : List Bool) (args : List Operand) → ((j i : ℕ) → get_or args j (Lit Unfilled) ≡ At i → live pc i ≡ true) → AllMayBe live own pc (copies_of bs) (picked bs args)
  may-copy [] args lives = tt
  may-copy (true ∷ bs) [] lives = tt
  may-copy (false ∷ bs) [] lives = go bs
    where
      go : (bs : List Bool) → AllMayBe live own pc (copies_of bs) []
      go bs = tt
  may-copy (true ∷ bs) (At c ∷ args) lives = (lives 0 c refl, may-copy bs args (λ j i e. lives (suc j) i e))
  may-copy (true ∷ bs) (Lit k ∷ args) lives = (tt, may-copy bs args (λ j i e. lives (suc j) i e))
  may-copy (false ∷ bs) (a ∷ args) lives = may-copy bs args (λ j i e. lives (suc j) i e)

  pub may-both : (ms ns : List Mode) (xs ys : List Operand) → length ms ≡ length xs → AllMayBe live own pc ms xs → AllMayBe live own pc ns ys → AllMayBe live own pc (ms ++ ns) (xs ++ ys)
  may-both [] ns [] ys many h k = k
  may-both [] ns (x ∷ xs) ys many h k = absurd (omega (arith, many))
  may-both (m ∷ ms) ns [] ys many h k = absurd (omega (arith, many))
  may-both (m ∷ ms) ns (x ∷ xs) ys many h k = (h.0, may-both ms ns xs ys (omega (arith, many)) h.1 k)

-- ---- places

abbrev pub handled_as : List Mode → List Bool → Handling
handled_as ms puts = record { modes = ms; keeps = λ c. true; puts = puts }

-- what is there behind a step is written, or it was there before, is not taken and stands apart
abbrev pub Flows : (here next : Cells_of) → List Mode → List Operand → (out w : ℕ) → Type 0
Flows here next ms args out w = (i : ℕ) → next i ≡ true → ((out ≤ i) × (i < out + w)) ⊎ ((here i ≡ true) × (IsTaken ms args i → ⊥) × ((i < out) ⊎ (out + w ≤ i)))

module _ (W : Weighing) (handling : ℕ → Handling) (live own : Live) where
  abbrev pub no_facts : ℕ → List Fact
  no_facts pc = []

  -- what is asked of the step of a line
  abbrev pub FineAt : (pc : ℕ) → Line → Type 0
  FineAt pc l = IsHandled (λ p ks rs. adds W l.origin ks rs) no_facts pc l.step (handling pc) × IsLively live own (handling pc) pc l.step × AreTakenLast (handling pc).modes (reads_of l.step)

  abbrev pub AllFine : (pc : ℕ) → List Line → Type 0
  AllFine a [] = Unit {0}
  AllFine a (l ∷ ls) = FineAt a l × AllFine (suc a) ls

  pub fine-both : (a b : ℕ) (xs ys : List Line) → b ≡ a + length xs → AllFine a xs → AllFine b ys → AllFine a (xs ++ ys)
  fine-both a b [] ys e f g = subst (λ x. AllFine x ys) (omega (arith, e)) g
  fine-both a b (x ∷ xs) ys e f g = (f.0, fine-both (suc a) b xs ys (omega (arith, e)) f.1 g)

  -- no other cells are live here
  abbrev pub Opens : (pc : ℕ) → (lives owns : Cells_of) → Type 0
  Opens pc lives owns = ((i : ℕ) → live pc i ≡ true → lives i ≡ true) × ((i : ℕ) → own pc i ≡ true → owns i ≡ true)

  abbrev pub Standing : (pc : ℕ) → List Mode → List Bool → (lives owns : Cells_of) → Type 0
  Standing pc ms puts lives owns = (handling pc ≡ handled_as ms puts) × ((i : ℕ) → live pc i ≡ lives i) × ((i : ℕ) → own pc i ≡ owns i)

  pub set-opens : (pc : ℕ) (ms : List Mode) (puts : List Bool) (lives owns : Cells_of) → Standing pc ms puts lives owns → Opens pc lives owns
  set-opens pc ms puts lives owns s = ((λ i e. sym (s.1 i) ∙ e), λ i e. sym (s.2 i) ∙ e)

  -- where a step may lead
  abbrev pub AllFollow : (pc : ℕ) → Handling → List Operand → List (ℕ × ℕ × ℕ) → Type 0
  AllFollow pc H args [] = Unit {0}
  AllFollow pc H args (l ∷ ls) = (Follows live H args pc l.0 l.1 l.2 × Follows own H args pc l.0 l.1 l.2) × AllFollow pc H args ls

  pub all-follow : (pc : ℕ) (H : Handling) (args : List Operand) (ls : List (ℕ × ℕ × ℕ)) → AllFollow pc H args ls → (next out w : ℕ) → IsOneOf next out w ls → Follows live H args pc next out w × Follows own H args pc next out w
  all-follow pc H args [] h next out w o = absurd o
  all-follow pc H args (l ∷ ls) h next out w (inl o) =
      subst (λ z. Follows live H args pc z out w × Follows own H args pc z out w) (sym o.0)
      (subst (λ z. Follows live H args pc l.0 z w × Follows own H args pc l.0 z w) (sym o.1) (subst (λ z. Follows live H args pc l.0 l.1 z × Follows own H args pc l.0 l.1 z) (sym o.2) h.0))
  all-follow pc H args (l ∷ ls) h next out w (inr o) = all-follow pc H args ls h.1 next out w o

  pub follow : (pc next out w : ℕ) (ms : List Mode) (puts : List Bool) (args : List Operand) (lives owns nexts nexts_own : Cells_of) → Standing pc ms puts lives owns → Opens next nexts nexts_own → Flows lives nexts ms args out w → Flows owns nexts_own ms args out w
      → Follows live (handled_as ms puts) args pc next out w × Follows own (handled_as ms puts) args pc next out w
  follow pc next out w ms puts args lives owns nexts nexts_own s o f g = ((λ i e. go i (f i (o.0 i e))), λ i e. go_own i (g i (o.1 i e)))
    where
      go : (i : ℕ) → ((out ≤ i) × (i < out + w)) ⊎ ((lives i ≡ true) × (IsTaken ms args i → ⊥) × ((i < out) ⊎ (out + w ≤ i)))
          → ((out ≤ i) × (i < out + w) × (true ≡ true)) ⊎ ((live pc i ≡ true) × (IsTaken ms args i → ⊥) × ((i < out) ⊎ (out + w ≤ i)))
      go i (inl x) = inl (x.0, x.1, refl)
      go i (inr x) = inr (s.1 i ∙ x.0, x.1, x.2)

      go_own : (i : ℕ) → ((out ≤ i) × (i < out + w)) ⊎ ((owns i ≡ true) × (IsTaken ms args i → ⊥) × ((i < out) ⊎ (out + w ≤ i)))
          → ((out ≤ i) × (i < out + w) × (true ≡ true)) ⊎ ((own pc i ≡ true) × (IsTaken ms args i → ⊥) × ((i < out) ⊎ (out + w ≤ i)))
      go_own i (inl x) = inl (x.0, x.1, refl)
      go_own i (inr x) = inr (s.2 i ∙ x.0, x.1, x.2)

  -- a step that calls nothing
  pub fine-at : (pc : ℕ) (l : Line) (ms : List Mode) (puts : List Bool) (lives owns : Cells_of) → Standing pc ms puts lives owns → ArePlain ms → LendsInside ms l.step
      → IsWeighed (λ p ks rs. adds W l.origin ks rs) (handled_as ms puts) pc l.step → AllMayBe live own pc ms (reads_of l.step) → AreTakenLast ms (reads_of l.step) → AllFollow pc (handled_as ms puts) (reads_of l.step) (leads l.step pc) → CallsLively live own (handled_as ms puts) pc l.step
      → FineAt pc l
  fine-at pc l ms puts lives owns s plain lends weighed may last follows calls =
      subst (λ H. IsHandled (λ p ks rs. adds W l.origin ks rs) no_facts pc l.step H × IsLively live own H pc l.step × AreTakenLast H.modes (reads_of l.step)) (sym s.0) (
        record { paths = plain-paths no_facts pc ms (reads_of l.step) plain; lends = lends; weighed = weighed },
        record { reads = may; leads_on = λ next out w o. all-follow pc (handled_as ms puts) (reads_of l.step) (leads l.step pc) follows next out w o; calls = calls },
        last,
      )
