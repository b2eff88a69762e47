-- Handlings that agree by what each step reads do the same.
use Rattle.std.proofs.Common.{◌≡◌, ℕ, zero, suc, ◌+◌, ◌&&◌, if◌then◌else◌, Bool, false, List, [], ◌∷◌, get_or, refl, sym, ap, ◌∙◌}
use Rattle.graph_meaning.specs.Carried.{Carried, Unfilled}
use Rattle.run_code.specs.Cells.{At, Lit, Operand}
use Rattle.run_code.specs.Collecting.{put_leaves}
use Rattle.run_code.specs.Collections.{Collect}
use Rattle.run_code.specs.Machine.{Frame, Weigh}
use Rattle.run_code.specs.Steps.{Add, Branch, Call, Count, Each, Fire, Keep, Move, Return, Spread, Step, Tag, Test}
use Rattle.run_store.specs.Effects.{Effect, Enters, Leaves, Writes, effect, reads_of}
use Rattle.run_store.specs.Stored as stored
use Rattle.run_store.specs.Stored.{Copies, CopiesOf, Hand, Handling, Heap, Looks, LooksAt, Mode, Stored, StoredOutcome, Takes, Onward, apply_stored, are_ready, can_be, copied, copied_as, copied_by_step, counted_stored, doing_stored, hand_in, handed, handed_by, left_by, mode_at, on, put_copied, put_from, seen, seen_all, set, step_stored, tail, taken, where_ready}
use Rattle.code_maker.specs.Grows.{read_as}
use Rattle.unit_runs.specs.Alike.{AddsAlike, AreLiteralsBare, AreRead, DoAlike, IsHandledAlike, IsOfLiteral}

-- ---- a literal

literal-ready : (h : Heap) (base : ℕ) (m : Mode) (k : Carried) → IsOfLiteral m k → can_be h base m (Lit k) ≡ can_be h base Looks (Lit k)
literal-ready h base Looks k b = refl
literal-ready h base Takes k b = refl
literal-ready h base Copies k b = refl
literal-ready h base (LooksAt p) k b = absurd b
literal-ready h base (CopiesOf p) k b = absurd b

literal-seen : (h : Heap) (base : ℕ) (m : Mode) (k : Carried) → IsOfLiteral m k → seen h base m (Lit k) ≡ k
literal-seen h base Looks k b = refl
literal-seen h base Takes k b = refl
literal-seen h base Copies k b = refl
literal-seen h base (LooksAt p) k b = absurd b
literal-seen h base (CopiesOf p) k b = absurd b

literal-handed : (h : Heap) (base : ℕ) (m : Mode) (k : Carried) → IsOfLiteral m k → handed_by h base m (Lit k) ≡ handed_by h base Looks (Lit k)
literal-handed h base Looks k b = refl
literal-handed h base Takes k b = refl
literal-handed h base Copies k b = refl
literal-handed h base (LooksAt p) k b = absurd b
literal-handed h base (CopiesOf p) k b = absurd b

literal-left : (h : Heap) (base : ℕ) (m : Mode) (k : Carried) → IsOfLiteral m k → left_by base m (Lit k) h ≡ h
literal-left h base Looks k b = refl
literal-left h base Takes k b = refl
literal-left h base Copies k b = refl
literal-left h base (LooksAt p) k b = absurd b
literal-left h base (CopiesOf p) k b = absurd b

literal-copied : (m : Mode) (k : Carried) → IsOfLiteral m k → copied_as m k ≡ 0
literal-copied Looks k b = refl
literal-copied Takes k b = refl
literal-copied Copies k b = b
literal-copied (LooksAt p) k b = absurd b
literal-copied (CopiesOf p) k b = absurd b

-- ---- operands, as they are read

ready-read : (h : Heap) (base : ℕ) (ms : List Mode) (os : List Operand) → AreLiteralsBare ms os → are_ready h base ms os ≡ are_ready h base (read_as ms os) os
ready-read h base ms [] b = refl
ready-read h base ms (At c ∷ os) b = ap (λ z. can_be h base (mode_at ms) (At c) && z) (ready-read h base (tail ms) os b)
ready-read h base ms (Lit k ∷ os) b =
    ap (λ z. z && are_ready h base (tail ms) os) (literal-ready h base (mode_at ms) k b.0) ∙ ap (λ z. can_be h base Looks (Lit k) && z) (ready-read h base (tail ms) os b.1)

seen-read : (h : Heap) (base : ℕ) (ms : List Mode) (os : List Operand) → AreLiteralsBare ms os → seen_all h base ms os ≡ seen_all h base (read_as ms os) os
seen-read h base ms [] b = refl
seen-read h base ms (At c ∷ os) b = ap (λ z. seen h base (mode_at ms) (At c) ∷ z) (seen-read h base (tail ms) os b)
seen-read h base ms (Lit k ∷ os) b = ap (λ z. z ∷ seen_all h base (tail ms) os) (literal-seen h base (mode_at ms) k b.0) ∙ ap (λ z. k ∷ z) (seen-read h base (tail ms) os b.1)

handed-read : (h : Heap) (base : ℕ) (ms : List Mode) (os : List Operand) → AreLiteralsBare ms os → handed h base ms os ≡ handed h base (read_as ms os) os
handed-read h base ms [] b = refl
handed-read h base ms (At c ∷ os) b = ap (λ z. handed_by h base (mode_at ms) (At c) ∷ z) (handed-read h base (tail ms) os b)
handed-read h base ms (Lit k ∷ os) b =
    ap (λ z. z ∷ handed h base (tail ms) os) (literal-handed h base (mode_at ms) k b.0) ∙ ap (λ z. handed_by h base Looks (Lit k) ∷ z) (handed-read h base (tail ms) os b.1)

taken-read : (base : ℕ) (ms : List Mode) (os : List Operand) (h : Heap) → AreLiteralsBare ms os → taken base ms os h ≡ taken base (read_as ms os) os h
taken-read base ms [] h b = refl
taken-read base ms (At c ∷ os) h b = taken-read base (tail ms) os (left_by base (mode_at ms) (At c) h) b
taken-read base ms (Lit k ∷ os) h b = ap (λ z. taken base (tail ms) os z) (literal-left h base (mode_at ms) k b.0) ∙ taken-read base (tail ms) os h b.1

-- what is copied of as many values
pub copied-read : (ms : List Mode) (os : List Operand) (ks : List Carried) → AreLiteralsBare ms os → AreRead os ks → copied ms ks ≡ copied (read_as ms os) ks
copied-read ms [] [] b r = refl
copied-read ms [] (k ∷ ks) b r = absurd r
copied-read ms (At c ∷ os) [] b r = absurd r
copied-read ms (Lit l ∷ os) [] b r = absurd r
copied-read ms (At c ∷ os) (k ∷ ks) b r = ap (λ z. copied_as (mode_at ms) k + z) (copied-read (tail ms) os ks b r)
copied-read ms (Lit l ∷ os) (k ∷ ks) b r = ap (λ z. z + copied (tail ms) ks) (ap (λ z. copied_as (mode_at ms) z) r.0 ∙ literal-copied (mode_at ms) l b.0) ∙ ap (λ z. 0 + z) (copied-read (tail ms) os ks b.1 r.1)

pub are-read : (h : Heap) (base : ℕ) (ms : List Mode) (os : List Operand) → AreLiteralsBare ms os → AreRead os (seen_all h base ms os)
are-read h base ms [] b = tt
are-read h base ms (At c ∷ os) b = are-read h base (tail ms) os b
are-read h base ms (Lit k ∷ os) b = (literal-seen h base (mode_at ms) k b.0, are-read h base (tail ms) os b.1)

-- ---- what is put to collections

rest-same : (bs ds : List Bool) → ((i : ℕ) → get_or bs i false ≡ get_or ds i false) → (i : ℕ) → get_or (tail bs) i false ≡ get_or (tail ds) i false
rest-same [] [] e i = refl
rest-same [] (d ∷ ds) e i = e (suc i)
rest-same (b ∷ bs) [] e i = e (suc i)
rest-same (b ∷ bs) (d ∷ ds) e i = e (suc i)

one-put : (cs : List Collect) (c : Collect) (bs : List Bool) (row : List Carried) → put_copied (c ∷ cs) bs row ≡ (if get_or bs 0 false then put_leaves c row else 0) + put_copied cs (tail bs) row
one-put [] c [] row = refl
one-put (d ∷ cs) c [] row = refl
one-put cs c (b ∷ bs) row = refl

put-same : (cs : List Collect) (bs ds : List Bool) (row : List Carried) → ((i : ℕ) → get_or bs i false ≡ get_or ds i false) → put_copied cs bs row ≡ put_copied cs ds row
put-same [] bs ds row e = refl
put-same (c ∷ cs) bs ds row e =
    one-put cs c bs row
    ∙ (ap (λ z. (if z then put_leaves c row else 0) + put_copied cs (tail bs) row) (e 0)
    ∙ (ap (λ z. (if get_or ds 0 false then put_leaves c row else 0) + z) (put-same cs (tail bs) (tail ds) row (rest-same bs ds e)) ∙ sym (one-put cs c ds row)))

-- ---- what is kept

put-kept : (keeps kept : ℕ → Bool) → ((c : ℕ) → keeps c ≡ kept c) → (out i w : ℕ) (hands : List Hand) (rs : List Carried) (h : Heap) → put_from keeps out i w hands rs h ≡ put_from kept out i w hands rs h
put-kept keeps kept e out i zero hands rs h = refl
put-kept keeps kept e out i (suc w) hands rs h =
    ap (λ b. put_from keeps out (suc i) w (tail hands) rs (set (out + i) (stored.placed b (hand_in hands) (get_or rs i Unfilled)) h)) (e i)
    ∙ put-kept keeps kept e out (suc i) w (tail hands) rs (set (out + i) (stored.placed (kept i) (hand_in hands) (get_or rs i Unfilled)) h)

apply-kept : (limit : ℕ) (keeps kept : ℕ → Bool) → ((c : ℕ) → keeps c ≡ kept c) → (e : Effect) (hands : List Hand) (pc base : ℕ) (h : Heap) (calls : List Frame) (fires copies : ℕ)
    → apply_stored limit e keeps hands pc base h calls fires copies ≡ apply_stored limit e kept hands pc base h calls fires copies
apply-kept limit keeps kept same (Writes c next out w rs) hands pc base h calls fires copies =
    ap (λ z. counted_stored c limit fires (λ f. Onward (on next base z calls f copies))) (put-kept (λ i. keeps (out + i)) (λ i. kept (out + i)) (λ i. same (out + i)) (base + out) 0 w [] rs h)
apply-kept limit keeps kept same (Enters entry size out w ks) hands pc base h calls fires copies = refl
apply-kept limit keeps kept same (Leaves rs) hands pc base h calls fires copies = refl

-- ---- what a step copies

module _ (weigh other : Weigh) (pc : ℕ) (H J : Handling) where
  modes-copy : (os : List Operand) → AreLiteralsBare H.modes os → AreLiteralsBare J.modes os → read_as H.modes os ≡ read_as J.modes os → (ks : List Carried) → AreRead os ks → copied H.modes ks ≡ copied J.modes ks
  modes-copy os b d e ks r = copied-read H.modes os ks b r ∙ (ap (λ z. copied z ks) e ∙ sym (copied-read J.modes os ks d r))

  both-copy : (os : List Operand) → AreLiteralsBare H.modes os → AreLiteralsBare J.modes os → read_as H.modes os ≡ read_as J.modes os → ((i : ℕ) → get_or H.puts i false ≡ get_or J.puts i false)
      → (cs : List Collect) (ks : List Carried) → AreRead os ks → copied H.modes ks + put_copied cs H.puts ks ≡ copied J.modes ks + put_copied cs J.puts ks
  both-copy os b d e p cs ks r = ap (λ z. z + put_copied cs H.puts ks) (modes-copy os b d e ks r) ∙ ap (λ z. copied J.modes ks + z) (put-same cs H.puts J.puts ks p)

  step-copies : (x : Step) → IsHandledAlike x H J → AddsAlike weigh other pc x → (ks : List Carried) → AreRead (reads_of x) ks → copied_by_step weigh x pc H ks (effect x pc ks) ≡ copied_by_step other x pc J ks (effect x pc ks)
  step-copies (Fire row shape ins out w) a s ks r = s ks r
  step-copies Count a s ks r = modes-copy [] a.bare a.bare_too a.modes ks r
  step-copies (Move froms out w next) a s ks r = modes-copy froms a.bare a.bare_too a.modes ks r
  step-copies (Tag union ts content out w next) a s ks r = modes-copy (union ∷ []) a.bare a.bare_too a.modes ks r
  step-copies (Branch sel ts out w next) a s ks r = modes-copy (sel ∷ []) a.bare a.bare_too a.modes ks r
  step-copies (Test test turn leave out w next) a s ks r = modes-copy (test ∷ []) a.bare a.bare_too a.modes ks r
  step-copies (Keep begins cs froms out next) a s ks r = both-copy (reads_of (Keep begins cs froms out next)) a.bare a.bare_too a.modes a.puts cs ks r
  step-copies (Spread froms cs to turns out w next) a s ks r = modes-copy froms a.bare a.bare_too a.modes ks r
  step-copies (Each n from count turn leave) a s ks r = modes-copy (reads_of (Each n from count turn leave)) a.bare a.bare_too a.modes ks r
  step-copies (Add cs froms out next) a s ks r = both-copy (reads_of (Add cs froms out next)) a.bare a.bare_too a.modes a.puts cs ks r
  step-copies (Call entry size args out w) a s ks r = modes-copy args a.bare a.bare_too a.modes ks r
  step-copies (Return froms) a s ks r = modes-copy froms a.bare a.bare_too a.modes ks r

-- ---- a step

module _ (weigh other : Weigh) (limit : ℕ) (x : Step) (H J : Handling) (pc base : ℕ) (h : Heap) (calls : List Frame) (fires copies : ℕ) (a : IsHandledAlike x H J) (s : AddsAlike weigh other pc x) where
  abbrev os : List Operand
  os = reads_of x

  abbrev ks : List Carried
  ks = seen_all h base H.modes os

  same-ready : are_ready h base H.modes os ≡ are_ready h base J.modes os
  same-ready = ready-read h base H.modes os a.bare ∙ (ap (λ z. are_ready h base z os) a.modes ∙ sym (ready-read h base J.modes os a.bare_too))

  pub same-seen : ks ≡ seen_all h base J.modes os
  same-seen = seen-read h base H.modes os a.bare ∙ (ap (λ z. seen_all h base z os) a.modes ∙ sym (seen-read h base J.modes os a.bare_too))

  same-handed : handed h base H.modes os ≡ handed h base J.modes os
  same-handed = handed-read h base H.modes os a.bare ∙ (ap (λ z. handed h base z os) a.modes ∙ sym (handed-read h base J.modes os a.bare_too))

  same-taken : taken base H.modes os h ≡ taken base J.modes os h
  same-taken = taken-read base H.modes os h a.bare ∙ (ap (λ z. taken base z os h) a.modes ∙ sym (taken-read base J.modes os h a.bare_too))

  same-copies : copied_by_step weigh x pc H ks (effect x pc ks) ≡ copied_by_step other x pc J ks (effect x pc ks)
  same-copies = step-copies weigh other pc H J x a s ks (are-read h base H.modes os a.bare)

  pub do-step : doing_stored weigh limit x H pc base h calls fires copies ≡ doing_stored other limit x J pc base h calls fires copies
  do-step =
      ap (λ z. where_ready z (apply_stored limit (effect x pc ks) H.keeps (handed h base H.modes os) pc base (taken base H.modes os h) calls fires (copies + copied_by_step weigh x pc H ks (effect x pc ks)))) same-ready
      ∙ (ap (λ z. where_ready (are_ready h base J.modes os) z) (apply-kept limit H.keeps J.keeps a.keeps (effect x pc ks) (handed h base H.modes os) pc base (taken base H.modes os h) calls fires (copies + copied_by_step weigh x pc H ks (effect x pc ks)))
      ∙ (ap (λ z. where_ready (are_ready h base J.modes os) (apply_stored limit (effect x pc ks) J.keeps z pc base (taken base H.modes os h) calls fires (copies + copied_by_step weigh x pc H ks (effect x pc ks)))) same-handed
      ∙ (ap (λ z. where_ready (are_ready h base J.modes os) (apply_stored limit (effect x pc ks) J.keeps (handed h base J.modes os) pc base z calls fires (copies + copied_by_step weigh x pc H ks (effect x pc ks)))) same-taken
      ∙ (ap (λ z. where_ready (are_ready h base J.modes os) (apply_stored limit (effect x pc ks) J.keeps (handed h base J.modes os) pc base (taken base J.modes os h) calls fires (copies + z))) same-copies
      ∙ ap (λ z. where_ready (are_ready h base J.modes os) (apply_stored limit (effect x pc z) J.keeps (handed h base J.modes os) pc base (taken base J.modes os h) calls fires (copies + copied_by_step other x pc J z (effect x pc z)))) same-seen))))

pub do-alike : DoAlike
do-alike weigh other limit code same handling as_well a s =
    do-step weigh other limit (code s.pc) (handling s.pc) (as_well s.pc) s.pc s.base s.heap s.calls s.fires s.copies (a.handled s.pc) (a.adds s.pc)
    ∙ ap (λ x. doing_stored other limit x (as_well s.pc) s.pc s.base s.heap s.calls s.fires s.copies) (a.steps s.pc)
