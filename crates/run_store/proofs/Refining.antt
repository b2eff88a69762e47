-- Each step of the machine whose cells own their values is a step of the machine on values.
use Rattle.std.proofs.Common.{◌≡◌, ℕ, suc, ◌+◌, ◌<◌, ◌≤◌, ◌⊎◌, inl, inr, Bool, true, false, if◌then◌else◌, List, [], ◌∷◌, ◌++◌, length, map, get_or, refl, sym, ap, ◌∙◌, subst, arith, ltb}
use Rattle.graph_meaning.specs.Val.TheViews.{out-Val}
use Rattle.graph_meaning.specs.Carried.{Carried, Value, Unfilled, val_of}
use Rattle.graph_meaning.specs.Forms.{errors, first_spoiled, places_of}
use Rattle.graph_meaning.specs.NodeValues.{op}
use Rattle.run_laws.specs.Cells.{Operand, At, Lit, Cells, look, write, cells_at}
use Rattle.run_laws.specs.Collections.{Collect, nothing_in}
use Rattle.run_laws.specs.Machine.{Frame, State, at, Goes, Over, Choice, To, Again, Fails, choice, tested_by, Arm, Into, Spoils, arm_by, begun, spreads, counter, returned, doing, Weigh, added}
use Rattle.run_laws.specs.Steps.{Step, Fire, Count, Move, Tag, Branch, Test, Keep, Spread, Each, Add, Call, Return}
use Rattle.run_laws.specs.Facts.{Path, Fact, AllOf, IsTrue, IsRead}
use Rattle.run_laws.proofs.Facts.{read-is}
use Rattle.run_store.specs.Effects.{reads_of, Effect, Writes, Enters, one_of, tag_effect, choice_effect, spread_effect, each_effect, effect, counted_if, apply}
use Rattle.run_store.specs.Stored.{View, Whole, Cell, Refers, Heap, Mode, Looks, Copies, Takes, LooksAt, CopiesOf, mode_at, tail, Handling, path_in, is_open, seen_in, seen, seen_all, passes, is_full, is_owner, can_be, are_ready, taken, cleared, Hand, Gift, Loan, is_plain, unless_plain, looked_lent, path_lent, lent_by, handed_by, handed, put_from, all_kept, copied, put_copied, copied_by_step, Stored, StoredOutcome, Onward, Finished, AtLimit, Stuck, on, counted_stored, returned_stored, apply_stored, where_ready, doing_stored, step_stored}
use Rattle.run_store.specs.Stored as stored
use Rattle.run_store.specs.Refines.{Fits, AreBelow, IsTaken, IsLentThrough, IsLent, HasPath, HavePaths, LendsInside, IsWeighed, IsHandled, Matches, Refines}
use Rattle.run_store.proofs.Effects.{effects, first-read, all-read}
use Rattle.run_store.proofs.Fitting.{Loose, puts-fit, puts-below, all-leave, left-refers, taken-fits, below-as, gone-fits, gone-below, value-is, both-true, path-is, IsLoan, cell-lent, path-lends}

-- ---- what is seen is what is looked at

owner-full : (c : Cell) → is_owner c ≡ true → is_full c ≡ true
owner-full stored.Empty e = absurd cc
owner-full (stored.Owns c) e = refl
owner-full (Refers j v) e = absurd cc

module _ (facts : ℕ → List Fact) (pc base : ℕ) (h : Heap) (cells : Cells) (f : Fits base h cells) (known : AllOf (IsTrue base cells) (facts pc)) where
  own-seen : (a : Operand) → passes is_full h base a ≡ true → seen_in h base a ≡ look cells base a
  own-seen (At i) e = value-is h cells base (base + i) f e
  own-seen (Lit c) e = refl

  full-passes : (a : Operand) → passes is_owner h base a ≡ true → passes is_full h base a ≡ true
  full-passes (At i) e = owner-full (h (base + i)) e
  full-passes (Lit c) e = refl

  at-path : (p : Path) (a : Operand) → (c : ℕ) × (a ≡ At c) × IsRead facts pc c p → is_open h base p ≡ true → path_in h base p ≡ look cells base a
  at-path p a x e = path-is h cells base p f e ∙ (sym (read-is facts pc base cells x.0 p known x.2) ∙ sym (ap (look cells base) x.1))

  one-seen : (m : Mode) (a : Operand) → HasPath facts pc m a → can_be h base m a ≡ true → seen h base m a ≡ look cells base a
  one-seen Looks a x e = own-seen a e
  one-seen Copies a x e = own-seen a e
  one-seen Takes a x e = own-seen a (full-passes a e)
  one-seen (LooksAt p) a x e = at-path p a x e
  one-seen (CopiesOf p) a x e = at-path p a x e

  pub all-seen : (ms : List Mode) (args : List Operand) → HavePaths facts pc ms args → are_ready h base ms args ≡ true → seen_all h base ms args ≡ map (look cells base) args
  all-seen ms [] x e = refl
  all-seen ms (a ∷ args) x e =
      let b = both-true (can_be h base (mode_at ms) a) (are_ready h base (tail ms) args) e in
      ap (λ k. k ∷ seen_all h base (tail ms) args) (one-seen (mode_at ms) a x.0 b.0) ∙ ap (λ ks. look cells base a ∷ ks) (all-seen (tail ms) args x.1 b.1)

  -- what a call is lent
  module _ (size : ℕ) (whole : List Mode) (all : List Operand) (inside : (i : ℕ) → IsLent whole all i → (i < size) × (IsTaken whole all i → ⊥)) where
    one-loan : (m : Mode) (a : Operand) → HasPath facts pc m a → can_be h base m a ≡ true → ((i : ℕ) → IsLentThrough m a i → IsLent whole all i) → (j : ℕ) (v : View) → looked_lent h base m a ≡ Loan j v
        → IsLoan (base + size) (taken base whole all h) cells (look cells base a) j v
    one-loan Looks (At i) x ready lent j v e = let y = inside i (lent i refl) in cell-lent h cells base size whole all f i j v y.0 y.1 e
    one-loan Looks (Lit c) x ready lent j v e = absurd cc
    one-loan Copies a x ready lent j v e = absurd cc
    one-loan Takes a x ready lent j v e = absurd cc
    one-loan (CopiesOf p) a x ready lent j v e = absurd cc
    one-loan (LooksAt p) a x ready lent j v e =
        let y = path-lends h cells base size whole all f p (λ c u. inside c (lent c u)) ready j v e in
        (y.0, y.1, ap (look cells base) x.1 ∙ (read-is facts pc base cells x.0 p known x.2 ∙ y.2))

    passed : (ms : List Mode) (args : List Operand) (rs : List Carried) (n : ℕ) → HavePaths facts pc ms args → are_ready h base ms args ≡ true → ((i : ℕ) → IsLent ms args i → IsLent whole all i)
        → ((p : ℕ) → get_or rs (n + p) Unfilled ≡ get_or (map (look cells base) args) p Unfilled) → Loose (base + size) (taken base whole all h) cells rs n (handed h base ms args)
    passed ms [] rs n x ready lent values = tt
    passed ms (a ∷ args) rs n x ready lent values =
        let b = both-true (can_be h base (mode_at ms) a) (are_ready h base (tail ms) args) ready in
        go (handed_by h base (mode_at ms) a) refl b.0
        (passed (tail ms) args rs (suc n) x.1 b.1 (λ i t. lent i (inr t)) (λ p. ap (λ z. get_or rs z Unfilled) (omega arith) ∙ values (suc p)))
      where
        given : (plain : Bool) (o : Hand) (j : ℕ) (v : View) → unless_plain plain o ≡ Loan j v → o ≡ Loan j v
        given true o j v e = absurd cc
        given false o j v e = e

        go : (o : Hand) → handed_by h base (mode_at ms) a ≡ o → can_be h base (mode_at ms) a ≡ true → Loose (base + size) (taken base whole all h) cells rs (suc n) (handed h base (tail ms) args)
            → Loose (base + size) (taken base whole all h) cells rs n (o ∷ handed h base (tail ms) args)
        go Gift e ready rest = rest
        go (Loan j v) e ready rest =
            let y = one-loan (mode_at ms) a x.0 ready (λ i t. lent i (inl t)) j v (given (is_plain (seen h base (mode_at ms) a)) (looked_lent h base (mode_at ms) a) j v e) in
            (y.0, y.1, ap (λ z. get_or rs z Unfilled) (omega arith) ∙ (values 0 ∙ y.2), rest)

-- ---- which steps write

abbrev pub Writing : Step → (pc : ℕ) → List Carried → Type 0
Writing x pc ks = (c : Bool) × (next : ℕ) × (out : ℕ) × (w : ℕ) × (rs : List Carried) × (effect x pc ks ≡ Writes c next out w rs)

abbrev Written : Effect → Type 0
Written e = (c : Bool) × (next : ℕ) × (out : ℕ) × (w : ℕ) × (rs : List Carried) × (e ≡ Writes c next out w rs)

choice-writes : (c : Choice) (out w next : ℕ) → Written (choice_effect c out w next)
choice-writes (To t) out w next = (false, t, 0, 0, [], refl)
choice-writes (Again t) out w next = (true, t, 0, 0, [], refl)
choice-writes (Fails c) out w next = (false, next, out, w, errors w c, refl)

tag-writes : (a : Arm) (content out w next : ℕ) → Written (tag_effect a content out w next)
tag-writes (Into t v) content out w next = (false, t, content, 1, Value v ∷ [], refl)
tag-writes (Spoils c) content out w next = (false, next, out, w, errors w c, refl)

spread-writes : (c : Choice) (ks : List Carried) (cs : List Collect) (n to out w next : ℕ) → Written (spread_effect c ks cs n to out w next)
spread-writes (To t) ks cs n to out w next = (false, t, to, suc (n + length cs), ks ++ (nothing_in cs ++ counter 0 ∷ []), refl)
spread-writes (Again t) ks cs n to out w next = (false, next, out, w, [], refl)
spread-writes (Fails c) ks cs n to out w next = (false, next, out, w, errors w c, refl)

each-writes : (b : Bool) (i : ℕ) (ms : List Carried) (n count turn leave : ℕ) → Written (each_effect b i ms n count turn leave)
each-writes true i ms n count turn leave = (true, turn, count, suc n, _, refl)
each-writes false i ms n count turn leave = (false, leave, 0, 0, [], refl)

abbrev pub Calling : Step → Type 0
Calling x = (entry : ℕ) × (size : ℕ) × (args : List Operand) × (out : ℕ) × (w : ℕ) × (x ≡ Call entry size args out w)

abbrev pub Leaving : Step → Type 0
Leaving x = (froms : List Operand) × (x ≡ Return froms)

pub kinds : (x : Step) (pc : ℕ) (ks : List Carried) → Writing x pc ks ⊎ (Calling x ⊎ Leaving x)
kinds (Fire row shape ins out w) pc ks = inl (true, suc pc, out, w, op row shape ks, refl)
kinds Count pc ks = inl (true, suc pc, 0, 0, [], refl)
kinds (Move froms out w next) pc ks = inl (false, next, out, w, ks, refl)
kinds (Tag union ts content out w next) pc ks = inl (tag-writes (arm_by ts (out-Val (val_of (one_of ks)))) content out w next)
kinds (Branch sel ts out w next) pc ks = inl (choice-writes (choice ts (val_of (one_of ks))) out w next)
kinds (Test test turn leave out w next) pc ks = inl (choice-writes (tested_by turn leave (val_of (one_of ks))) out w next)
kinds (Keep begins cs froms out next) pc ks = inl (false, next, out, length froms + length cs, _, refl)
kinds (Spread froms cs to turns out w next) pc ks = inl (spread-writes (spreads (first_spoiled ks) ks turns) ks cs (length froms) to out w next)
kinds (Each n from count turn leave) pc ks = inl (each-writes (ltb (begun (one_of ks)) (places_of (Rattle.std.specs.Prelude.drop 1 ks))) (begun (one_of ks)) (Rattle.std.specs.Prelude.drop 1 ks) n count turn leave)
kinds (Add cs froms out next) pc ks = inl (false, next, out, length cs, _, refl)
kinds (Call entry size args out w) pc ks = inr (inl (entry, size, args, out, w, refl))
kinds (Return froms) pc ks = inr (inr (froms, refl))

-- ---- copies

module _ (weigh : Weigh) (H : Handling) (pc base : ℕ) (cells : Cells) where
  -- what is copied is what is added
  copies-are : (x : Step) → IsWeighed weigh H pc x → copied_by_step weigh x pc H (map (look cells base) (reads_of x)) (effect x pc (map (look cells base) (reads_of x))) ≡ added weigh x pc base cells
  copies-are (Fire row shape ins out w) x = refl
  copies-are Count x = x []
  copies-are (Move froms out w next) x = x (map (look cells base) froms)
  copies-are (Tag union ts content out w next) x = x (look cells base union ∷ [])
  copies-are (Branch sel ts out w next) x = x (look cells base sel ∷ [])
  copies-are (Test test turn leave out w next) x = x (look cells base test ∷ [])
  copies-are (Keep true cs froms out next) x = x (map (look cells base) froms) ∙ ap (λ z. weigh pc z []) (all-read cells base froms)
  copies-are (Keep false cs froms out next) x =
      x (map (look cells base) (froms ++ cells_at (out + length froms) (length cs))) ∙ ap (λ z. weigh pc z []) (first-read cells base froms (cells_at (out + length froms) (length cs)))
  copies-are (Spread froms cs to turns out w next) x = x (map (look cells base) froms)
  copies-are (Each n from count turn leave) x = x (map (look cells base) (At count ∷ cells_at from n))
  copies-are (Add cs froms out next) x = x (map (look cells base) (froms ++ cells_at out (length cs))) ∙ ap (λ z. weigh pc z []) (first-read cells base froms (cells_at out (length cs)))
  copies-are (Call entry size args out w) x = x (map (look cells base) args)
  copies-are (Return froms) x = x (map (look cells base) froms)

-- ---- each effect

module _ (limit copies : ℕ) where
  counts-match : (c : Bool) (fires : ℕ) (f : ℕ → Stored) (g : ℕ → State) → ((n : ℕ) → Matches copies (Onward (f n)) (Goes (g n))) → Matches copies (counted_stored c limit fires (λ n. Onward (f n))) (counted_if c limit fires (λ n. Goes (g n)))
  counts-match false fires f g h = h fires
  counts-match true fires f g h = go (ltb fires limit)
    where
      go : (b : Bool) → Matches copies (if b then Onward (f (suc fires)) else AtLimit) (if b then Goes (g (suc fires)) else Over)
      go true = h (suc fires)
      go false = tt

  module _ (base pc : ℕ) (h : Heap) (cells : Cells) (calls : List Frame) (ms : List Mode) (args : List Operand) (f : Fits base h cells) (b : AreBelow base calls h) where
    -- below the block nothing is put
    put-under : (keeps : ℕ → Bool) (top out w : ℕ) (hands : List Hand) (rs : List Carried) → base ≤ out → AreBelow base calls (put_from keeps out 0 w hands rs (taken base ms args h))
    put-under keeps top out w hands rs le =
        below-as base calls (put_from keeps out 0 w hands rs (taken base ms args h)) h
        (λ i j v lt p. left-refers (taken base ms args h) h (all-leave base ms args h) i j v (sym (puts-below keeps out 0 w hands rs (taken base ms args h) i (omega (arith, lt, le))) ∙ p)) b

    writes-match : (keeps : ℕ → Bool) (c : Bool) (next out w : ℕ) (rs : List Carried) (hands : List Hand) (fires : ℕ)
        → Matches copies (apply_stored limit (Writes c next out w rs) keeps hands pc base (taken base ms args h) calls fires copies) (apply limit (Writes c next out w rs) pc base cells calls fires)
    writes-match keeps c next out w rs hands fires =
        let kept : ℕ → Bool = λ i. keeps (out + i) in
        counts-match c fires (λ n. on next base (put_from kept (base + out) 0 w [] rs (taken base ms args h)) calls n copies) (λ n. at next base (write (base + out) w rs cells) calls n)
        (λ n. (refl, refl, refl, refl, refl, puts-fit kept base (base + out) w (omega arith) [] rs (taken base ms args h) cells (taken-fits h cells base ms args f) tt, put-under kept base (base + out) w [] rs (omega arith)))

    fits-higher : (top : ℕ) (now : Heap) → base ≤ top → Fits base now cells → Fits top now cells
    fits-higher top now le g = record { agrees = g.agrees; refers = λ i j v p. let x = g.refers i j v p in let lt = x.0 in (omega (arith, lt, le), x.1, x.2) }

    enters-match : (keeps : ℕ → Bool) (entry size out w : ℕ) (ks : List Carried) (hands : List Hand) (fires : ℕ) → Loose (base + size) (taken base ms args h) cells ks 0 hands
        → Matches copies (apply_stored limit (Enters entry size out w ks) keeps hands pc base (taken base ms args h) calls fires copies) (apply limit (Enters entry size out w ks) pc base cells calls fires)
    enters-match keeps entry size out w ks hands fires loose =
        let o : Frame = record { pc = suc pc; base = base; out = out; width = w } in
        let now = put_from all_kept (base + size) 0 (length ks) hands ks (taken base ms args h) in
        counts-match true fires (λ n. on entry (base + size) now (o ∷ calls) n copies) (λ n. at entry (base + size) (write (base + size) (length ks) ks cells) (o ∷ calls) n)
        (λ n. (
          refl,
          refl,
          refl,
          refl,
          refl,
          puts-fit all_kept (base + size) (base + size) (length ks) (omega arith) hands ks (taken base ms args h) cells (fits-higher (base + size) (taken base ms args h) (omega arith) (taken-fits h cells base ms args f)) loose,
          (
            omega arith,
            (λ i j v lt p. (f.refers i j v (left-refers (taken base ms args h) h (all-leave base ms args h) i j v (sym (puts-below all_kept (base + size) 0 (length ks) hands ks (taken base ms args h) i lt) ∙ p))).0),
            put-under all_kept base (base + size) (length ks) hands ks (omega arith),
          ),
        ))

  leaves-match : (base pc : ℕ) (h : Heap) (cells : Cells) (calls : List Frame) (ms : List Mode) (args : List Operand) (f : Fits base h cells) (b : AreBelow base calls h) (rs : List Carried) (fires : ℕ)
      → Matches copies (returned_stored rs calls (cleared base (taken base ms args h)) fires copies) (returned rs calls cells fires)
  leaves-match base pc h cells [] ms args f b rs fires = (refl, refl, refl)
  leaves-match base pc h cells (o ∷ os) ms args f b rs fires =
      let gone = cleared base (taken base ms args h) in
      let out = o.base + o.out in (
        refl,
        refl,
        refl,
        refl,
        refl,
        puts-fit all_kept o.base out o.width (omega arith) [] rs gone cells (gone-fits h cells base o os ms args f b) tt,
        gone-below h cells base o os ms args f b (put_from all_kept out 0 o.width [] rs gone) (λ i lt. puts-below all_kept out 0 o.width [] rs gone i (omega (arith, lt))),
      )

-- ---- each step

module _ (weigh : Weigh) (limit : ℕ) (facts : ℕ → List Fact) (pc base : ℕ) (h : Heap) (cells : Cells) (calls : List Frame) (fires copies : ℕ) (H : Handling) (f : Fits base h cells) (b : AreBelow base calls h) (known : AllOf (IsTrue base cells) (facts pc)) where
  -- where its operands are ready, and are those of the machine on values
  ready-match : (x : Step) → IsHandled weigh facts pc x H → are_ready h base H.modes (reads_of x) ≡ true
      → Matches (copies + added weigh x pc base cells)
      (apply_stored limit (effect x pc (seen_all h base H.modes (reads_of x))) H.keeps (handed h base H.modes (reads_of x)) pc base (taken base H.modes (reads_of x) h) calls fires
      (copies + copied_by_step weigh x pc H (seen_all h base H.modes (reads_of x)) (effect x pc (seen_all h base H.modes (reads_of x)))))
      (doing limit x pc base cells calls fires)
  ready-match x ok ready =
      subst (λ z. Matches (copies + added weigh x pc base cells) (apply_stored limit (effect x pc z) H.keeps hands pc base now calls fires (copies + copied_by_step weigh x pc H z (effect x pc z))) (doing limit x pc base cells calls fires)) (sym same)
      (subst (λ z. Matches (copies + added weigh x pc base cells) (apply_stored limit (effect x pc ks) H.keeps hands pc base now calls fires (copies + z)) (doing limit x pc base cells calls fires)) (sym (copies-are weigh H pc base cells x ok.weighed))
      (subst (Matches total (apply_stored limit (effect x pc ks) H.keeps hands pc base now calls fires total)) (sym (effects limit x pc base cells calls fires)) (by-kind (kinds x pc ks))))
    where
      ks : List Carried
      ks = map (look cells base) (reads_of x)

      hands : List Hand
      hands = handed h base H.modes (reads_of x)

      now : Heap
      now = taken base H.modes (reads_of x) h

      total : ℕ
      total = copies + added weigh x pc base cells

      same : seen_all h base H.modes (reads_of x) ≡ map (look cells base) (reads_of x)
      same = all-seen facts pc base h cells f known H.modes (reads_of x) ok.paths ready

      loan : (entry size out w : ℕ) (args : List Operand) → x ≡ Call entry size args out w → Loose (base + size) now cells ks 0 hands
      loan entry size out w args is =
          passed facts pc base h cells f known size H.modes (reads_of x) (lends x is ok.lends) H.modes (reads_of x) ks 0 ok.paths ready (λ i t. t) (λ p. ap (λ z. get_or ks z Unfilled) (omega arith))
        where
          lends : (y : Step) → y ≡ Call entry size args out w → LendsInside H.modes y → (i : ℕ) → IsLent H.modes (reads_of y) i → (i < size) × (IsTaken H.modes (reads_of y) i → ⊥)
          lends y is l = subst (λ z. (i : ℕ) → IsLent H.modes (reads_of z) i → (i < size) × (IsTaken H.modes (reads_of z) i → ⊥)) (sym is) (subst (LendsInside H.modes) is l)

      by-kind : Writing x pc ks ⊎ (Calling x ⊎ Leaving x) → Matches total (apply_stored limit (effect x pc ks) H.keeps hands pc base now calls fires total) (apply limit (effect x pc ks) pc base cells calls fires)
      by-kind (inl y) =
          subst (λ z. Matches total (apply_stored limit z H.keeps hands pc base now calls fires total) (apply limit z pc base cells calls fires)) (sym y.5)
          (writes-match limit total base pc h cells calls H.modes (reads_of x) f b H.keeps y.0 y.1 y.2 y.3 y.4 hands fires)
      by-kind (inr (inl y)) =
          subst (λ z. Matches total (apply_stored limit z H.keeps hands pc base now calls fires total) (apply limit z pc base cells calls fires)) (sym (ap (λ z. effect z pc ks) y.5))
          (enters-match limit total base pc h cells calls H.modes (reads_of x) f b H.keeps y.0 y.1 y.3 y.4 ks hands fires (loan y.0 y.1 y.3 y.4 y.2 y.5))
      by-kind (inr (inr y)) =
          subst (λ z. Matches total (apply_stored limit z H.keeps hands pc base now calls fires total) (apply limit z pc base cells calls fires)) (sym (ap (λ z. effect z pc ks) y.1))
          (leaves-match limit total base pc h cells calls H.modes (reads_of x) f b ks fires)

  pub does-match : (x : Step) → IsHandled weigh facts pc x H → Matches (copies + added weigh x pc base cells) (doing_stored weigh limit x H pc base h calls fires copies) (doing limit x pc base cells calls fires)
  does-match x ok = go (are_ready h base H.modes (reads_of x)) refl
    where
      go : (r : Bool) → are_ready h base H.modes (reads_of x) ≡ r
          → Matches (copies + added weigh x pc base cells)
          (where_ready r (apply_stored limit (effect x pc (seen_all h base H.modes (reads_of x))) H.keeps (handed h base H.modes (reads_of x)) pc base (taken base H.modes (reads_of x) h) calls fires
          (copies + copied_by_step weigh x pc H (seen_all h base H.modes (reads_of x)) (effect x pc (seen_all h base H.modes (reads_of x))))))
          (doing limit x pc base cells calls fires)
      go false e = tt
      go true e = ready-match x ok e

pub refines : Refines
refines weigh limit code handling facts ok s cells f b known =
    does-match weigh limit facts s.pc s.base s.heap cells s.calls s.fires s.copies (handling s.pc) f b known (code s.pc) (ok s.pc)
