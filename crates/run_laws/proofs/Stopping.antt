-- Machines whose code stays inside stop: each step leaves less to come, calls and returns too.
use Rattle.std.proofs.Common.{◌≡◌, ℕ, zero, suc, ◌+◌, ◌*◌, ◌-◌, ◌<◌, ◌≤◌, ◌⊎◌, inl, inr, Bool, true, false, if◌then◌else◌, ltb, leb, List, [], ◌∷◌, ◌++◌, length, map, slice_get, pos, negsuc, Option, Some, None, refl, sym, ap, ◌∙◌, subst, arith}
use Rattle.std.proofs.lemmas.Bool.{ltb-true, leb-true, leb-false}
use Rattle.run_code.specs.Cause.{Cause}
use Rattle.run_code.specs.Cause.TheVariants as cause
use Rattle.run_code.specs.Val.{Val}
use Rattle.run_code.specs.Val.TheOpen.{Val-F}
use Rattle.run_code.specs.Val.TheViews as values
use Rattle.run_code.specs.Carried.{Carried, Value, val_of}
use Rattle.run_code.specs.NodeValues.{op}
use Rattle.run_code.specs.Forms.{errors, first_spoiled, are_as_long, places_of}
use Rattle.run_code.specs.Plain.{Costs}
use Rattle.run_code.specs.Cells.{Cells, look, write, cells_from}
use Rattle.run_code.specs.Coded.{Layout}
use Rattle.run_code.specs.Collections.{Collect, put_all, nothing_in, since}
use Rattle.run_code.specs.Machine.{Frame, State, at, Outcome, Goes, Ends, Over, counted, Choice, To, Again, Fails, or_tag, choice, tested_by, chosen, Arm, Into, Spoils, arm_to, arm_by, tagged, counter, begun, sized, spreads, spread_to, elements, each, returned, doing, step, EndsIn, added, Reaches, stays, goes_on}
use Rattle.run_code.specs.Steps.{Step, Fire, Count, Move, Tag, Branch, Test, Keep, Spread, Each, Add, Call, Return}
use Rattle.run_code.proofs.Values.{by-form}
use Rattle.run_laws.specs.Inside.{IsAhead, AreAhead, Stays, IsInside}
use Rattle.run_laws.specs.Stopping.{IsAt, AreAt, IsPlaced, ComesToLimit, Stops, open_left, to_come, IsStopping, IsDecided}
use Rattle.run_laws.specs.Laws.{entered, IsRecorded}
use Rattle.run_laws.proofs.Stepping.{end-after, over-ends}
use Rattle.run_laws.proofs.Backward.{ends-recorded, exact}

-- ---- numbers

fall-forward : (p many pc q rest : ℕ) → pc < q → q < many → p + ((many - q) + rest) < p + ((many - pc) + rest)
fall-forward p many pc q rest lt le = omega (arith, lt, le)

fall-counted : (a k x y : ℕ) → x < k + y → a * k + x < suc a * k + y
fall-counted a k x y lt = omega (arith, lt)

fall-return : (p x y : ℕ) → 0 < x → p + y < p + (x + y)
fall-return p x y lt = omega (arith, lt)

-- ---- where choices lead

module _ (begin end pc : ℕ) where
  abbrev FitsChoice : Choice → Type 0
  FitsChoice (To t) = IsAhead end pc t
  FitsChoice (Again t) = (begin ≤ t) × (t < end)
  FitsChoice (Fails c) = Unit {0}

  abbrev FitsArm : Arm → Type 0
  FitsArm (Into t v) = IsAhead end pc t
  FitsArm (Spoils c) = Unit {0}

  tag-ahead : (ts : List ℕ) (i : ℕ) → AreAhead end pc ts → FitsChoice (or_tag (slice_get ts i))
  tag-ahead [] i h = tt
  tag-ahead (t ∷ ts) zero h = h.0
  tag-ahead (t ∷ ts) (suc i) h = tag-ahead ts i h.1

  arm-ahead : (ts : List ℕ) (v : Val) (i : ℕ) → AreAhead end pc ts → FitsArm (arm_to v (slice_get ts i))
  arm-ahead [] v i h = tt
  arm-ahead (t ∷ ts) v zero h = h.0
  arm-ahead (t ∷ ts) v (suc i) h = arm-ahead ts v i h.1

  arm-fits : (ts : List ℕ) (y : Val-F Val) → AreAhead end pc ts → FitsArm (arm_by ts y)
  arm-fits ts (Val-F.Err d) h = tt
  arm-fits ts (Val-F.Int n) h = tt
  arm-fits ts (Val-F.Bool v) h = tt
  arm-fits ts (Val-F.Char n) h = tt
  arm-fits ts Val-F.Null h = tt
  arm-fits ts (Val-F.Arr a) h = tt
  arm-fits ts (Val-F.Rec vs) h = tt
  arm-fits ts (Val-F.Uni t v) h = arm-ahead ts v t h
  arm-fits ts (Val-F.Stream vs) h = tt

  choice-form : (ts : List ℕ) → AreAhead end pc ts → (y : Val-F Val) → FitsChoice (choice ts (values.roll-Val y))
  unfolding values.roll-Val denote.Hole.Carrier.roll
  choice-form ts h (Val-F.Err d) = tt
  choice-form ts h (Val-F.Int (pos i)) = tag-ahead ts i h
  choice-form ts h (Val-F.Int (negsuc i)) = tt
  choice-form ts h (Val-F.Bool v) = tt
  choice-form ts h (Val-F.Char n) = tt
  choice-form ts h Val-F.Null = tt
  choice-form ts h (Val-F.Arr a) = tt
  choice-form ts h (Val-F.Rec vs) = tt
  choice-form ts h (Val-F.Uni t v) = tt
  choice-form ts h (Val-F.Stream vs) = tt

  test-form : (turn leave : ℕ) → (begin ≤ turn) × (turn < end) → IsAhead end pc leave → (y : Val-F Val) → FitsChoice (tested_by turn leave (values.roll-Val y))
  unfolding values.roll-Val denote.Hole.Carrier.roll
  test-form turn leave h k (Val-F.Err d) = tt
  test-form turn leave h k (Val-F.Int n) = tt
  test-form turn leave h k (Val-F.Bool true) = h
  test-form turn leave h k (Val-F.Bool false) = k
  test-form turn leave h k (Val-F.Char n) = tt
  test-form turn leave h k Val-F.Null = tt
  test-form turn leave h k (Val-F.Arr a) = tt
  test-form turn leave h k (Val-F.Rec vs) = tt
  test-form turn leave h k (Val-F.Uni t v) = tt
  test-form turn leave h k (Val-F.Stream vs) = tt

-- ---- one step

-- where a generator's multiples lead
abbrev over : Option Cause → Bool → ℕ → Choice
over (Some c) long turns = Fails c
over None long turns = sized long turns

over-is : (spoil : Option Cause) (ms : List Carried) (turns : ℕ) → spreads spoil ms turns ≡ over spoil (are_as_long ms) turns
over-is (Some c) ms turns = refl
over-is None ms turns = refl

module _ (X : Layout) (end_of : ℕ → ℕ) (many limit : ℕ) (inside : IsInside X end_of many) where
  record Falls (s t : State) : Type 0 where
    pub placed : IsPlaced X end_of t
    pub less : to_come many limit t < to_come many limit s

  goes-as : (s t q : State) → Falls s q → Goes q ≡ Goes t → Falls s t
  goes-as s t q f e = let same : q ≡ t = cc in subst (Falls s) same f

  counted-goes : (fires : ℕ) (g : ℕ → State) (t : State) → counted limit fires (λ y. Goes (g y)) ≡ Goes t → (fires < limit) × (Goes (g (suc fires)) ≡ Goes t)
  counted-goes fires g t e = go (ltb fires limit) refl e
    where
      go : (b : Bool) → ltb fires limit ≡ b → (if b then Goes (g (suc fires)) else Over) ≡ Goes t → (fires < limit) × (Goes (g (suc fires)) ≡ Goes t)
      go true h e = (ltb-true fires limit h, e)
      go false h e = absurd (let x : Over ≡ Goes t = e in cc)

  module _ (f pc base : ℕ) (cells : Cells) (calls : List Frame) (fires : ℕ) (here_at : IsAt X end_of f pc) (open₁ : AreAt X end_of calls) where
    abbrev now : State
    now = at pc base cells calls fires

    abbrev end : ℕ
    end = end_of f

    ahead : (q base' : ℕ) (cells' : Cells) → IsAhead end pc q → Falls now (at q base' cells' calls fires)
    ahead q base' cells' h =
        let le = inside.ends f here_at.0 in
        let from = here_at.1 in
        let lt = h.0 in
        let lt' = h.1 in
        record {
          placed = ((f, (here_at.0, omega (arith, from, lt), lt')), open₁);
          less = fall-forward ((limit - fires) * (many + many + 2)) many pc q (open_left many calls) lt (omega (arith, le, lt'));
        }

    -- a step that counts may go anywhere in the block
    counts : fires < limit → (q base' : ℕ) (cells' : Cells) → X.entry f ≤ q → q < end → Falls now (at q base' cells' calls (suc fires))
    counts lt q base' cells' from to =
        let le = inside.ends f here_at.0 in
        let e : suc (limit - suc fires) ≡ limit - fires = omega (arith, lt) in
        record {
          placed = ((f, (here_at.0, from, to)), open₁);
          less = subst (λ x. (limit - suc fires) * (many + many + 2) + ((many - q) + open_left many calls) < x * (many + many + 2) + ((many - pc) + open_left many calls)) e
              (fall-counted (limit - suc fires) (many + many + 2) ((many - q) + open_left many calls) ((many - pc) + open_left many calls) (omega arith));
        }

    chooses : (c : Choice) (out w next : ℕ) (t : State) → FitsChoice (X.entry f) end pc c → IsAhead end pc next → chosen limit c out w next base cells calls fires ≡ Goes t → Falls now t
    chooses (To q) out w next t h k e = goes-as now t (at q base cells calls fires) (ahead q base cells h) e
    chooses (Again q) out w next t h k e =
        let x = counted-goes fires (λ y. at q base cells calls y) t e in
        goes-as now t (at q base cells calls (suc fires)) (counts x.0 q base cells h.0 h.1) x.1
    chooses (Fails c) out w next t h k e =
        let last = write (base + out) w (errors w c) cells in
        goes-as now t (at next base last calls fires) (ahead next base last k) e

    tags : (c : Arm) (content out w next : ℕ) (t : State) → FitsArm (X.entry f) end pc c → IsAhead end pc next → tagged c content out w next base cells calls fires ≡ Goes t → Falls now t
    tags (Into q v) content out w next t h k e =
        let last = write (base + content) 1 (Value v ∷ []) cells in
        goes-as now t (at q base last calls fires) (ahead q base last h) e
    tags (Spoils c) content out w next t h k e =
        let last = write (base + out) w (errors w c) cells in
        goes-as now t (at next base last calls fires) (ahead next base last k) e

    spread-goes : (spoil : Option Cause) (long : Bool) (ms : List Carried) (cs : List Collect) (to turns out w next : ℕ) (t : State) → IsAhead end pc turns → IsAhead end pc next
        → spread_to (over spoil long turns) ms cs to out w next base cells calls fires ≡ Goes t → Falls now t
    spread-goes (Some c) long ms cs to turns out w next t h k e =
        let last = write (base + out) w (errors w c) cells in
        goes-as now t (at next base last calls fires) (ahead next base last k) e
    spread-goes None true ms cs to turns out w next t h k e =
        let last = write (base + (to + (length ms + length cs))) 1 (counter 0 ∷ []) (write (base + to) (length ms + length cs) (ms ++ nothing_in cs) cells) in
        goes-as now t (at turns base last calls fires) (ahead turns base last h) e
    spread-goes None false ms cs to turns out w next t h k e =
        let last = write (base + out) w (errors w cause.Size) cells in
        goes-as now t (at next base last calls fires) (ahead next base last k) e

    each-goes : (more : Bool) (i : ℕ) (ms : List Carried) (n count turn leave : ℕ) (t : State) → (X.entry f ≤ turn) × (turn < end) → IsAhead end pc leave
        → each more i ms limit n count turn leave base cells calls fires ≡ Goes t → Falls now t
    each-goes true i ms n count turn leave t h k e =
        let last = write (base + count) (suc n) (counter (suc i) ∷ elements i ms) cells in
        let x = counted-goes fires (λ y. at turn base last calls y) t e in
        goes-as now t (at turn base last calls (suc fires)) (counts x.0 turn base last h.0 h.1) x.1
    each-goes false i ms n count turn leave t h k e = goes-as now t (at leave base cells calls fires) (ahead leave base cells k) e

    returns : (rs : List Carried) (t : State) → returned rs calls cells fires ≡ Goes t → Falls now t
    returns rs t e = go calls open₁ e
      where
        le : end_of f ≤ many
        le = inside.ends f here_at.0

        go : (os : List Frame) → AreAt X end_of os → returned rs os cells fires ≡ Goes t → Falls (at pc base cells os fires) t
        go [] h e = absurd (let x : Ends rs fires ≡ Goes t = e in cc)
        go (o ∷ os) h e =
            let last = write (o.base + o.out) o.width rs cells in
            let inside = here_at.2 in
            let up = le in
            goes-as (at pc base cells (o ∷ os) fires) t (at o.pc o.base last os fires)
            (record { placed = (h.0, h.1); less = fall-return ((limit - fires) * (many + many + 2)) (many - pc) ((many - o.pc) + open_left many os) (omega (arith, inside, up)) }) e

    goes-on : (x : Step) → Stays X (X.size f) (X.entry f) end pc x → (t : State) → doing limit x pc base cells calls fires ≡ Goes t → Falls now t
    goes-on (Fire row shape ins out w) h t e =
        let from = here_at.1 in
        let last = write (base + out) w (op row shape (map (look cells base) ins)) cells in
        let x = counted-goes fires (λ y. at (suc pc) base last calls y) t e in
        goes-as now t (at (suc pc) base last calls (suc fires)) (counts x.0 (suc pc) base last (omega (arith, from)) h.2) x.1
    goes-on Count h t e =
        let from = here_at.1 in
        let x = counted-goes fires (λ y. at (suc pc) base cells calls y) t e in
        goes-as now t (at (suc pc) base cells calls (suc fires)) (counts x.0 (suc pc) base cells (omega (arith, from)) h) x.1
    goes-on (Move froms out w next) h t e =
        let last = write (base + out) w (map (look cells base) froms) cells in
        goes-as now t (at next base last calls fires) (ahead next base last h.2) e
    goes-on (Tag union ts content out w next) h t e =
        tags (arm_by ts (values.out-Val (val_of (look cells base union)))) content out w next t (arm-fits (X.entry f) end pc ts (values.out-Val (val_of (look cells base union))) h.1) h.4 e
    goes-on (Branch selector ts out w next) h t e =
        let v = val_of (look cells base selector) in
        chooses (choice ts v) out w next t (by-form (λ v. FitsChoice (X.entry f) end pc (choice ts v)) (choice-form (X.entry f) end pc ts h.1) v) h.3 e
    goes-on (Test test turn leave out w next) h t e =
        let v = val_of (look cells base test) in
        chooses (tested_by turn leave v) out w next t (by-form (λ v. FitsChoice (X.entry f) end pc (tested_by turn leave v)) (test-form (X.entry f) end pc turn leave (h.1, h.2) h.3) v) h.5 e
    goes-on (Keep begins cs froms out next) h t e =
        let last = write (base + out) (length froms + length cs) (map (look cells base) froms ++ put_all cs (map (look cells base) froms) (since begins cs (cells_from cells (base + (out + length froms)) (length cs)))) cells in
        goes-as now t (at next base last calls fires) (ahead next base last h.2) e
    goes-on (Spread froms cs to turns out w next) h t e =
        let ms = map (look cells base) froms in
        spread-goes (first_spoiled ms) (are_as_long ms) ms cs to turns out w next t h.2 h.4 (ap (λ z. spread_to z ms cs to out w next base cells calls fires) (sym (over-is (first_spoiled ms) ms turns)) ∙ e)
    goes-on (Each n from count turn leave) h t e =
        let ms = cells_from cells (base + from) n in
        each-goes (ltb (begun (cells (base + count))) (places_of ms)) (begun (cells (base + count))) ms n count turn leave t (h.2, h.3) h.4 e
    goes-on (Add cs froms out next) h t e =
        let last = write (base + out) (length cs) (put_all cs (map (look cells base) froms) (cells_from cells (base + out) (length cs))) cells in
        goes-as now t (at next base last calls fires) (ahead next base last h.2) e
    goes-on (Call place block args out w) h t e =
        let last = write (base + block) (length args) (map (look cells base) args) cells in
        let o : Frame = record { pc = suc pc; base = base; out = out; width = w } in
        let x = counted-goes fires (λ y. at place (base + block) last (o ∷ calls) y) t e in
        let lt = x.0 in
        let from = here_at.1 in
        let back = h.4 in
        let place_is = h.2.2 in
        let some = inside.begins h.2.0 h.2.1 in
        let le = inside.ends f here_at.0 in
        let up : suc (limit - suc fires) ≡ limit - fires = omega (arith, lt) in
        goes-as now t (at place (base + block) last (o ∷ calls) (suc fires))
        (record {
          placed = ((h.2.0, (h.2.1, omega (arith, place_is), omega (arith, place_is, some))), ((f, (here_at.0, omega (arith, from), back)), open₁));
          less = subst (λ z. (limit - suc fires) * (many + many + 2) + ((many - place) + ((many - suc pc) + open_left many calls)) < z * (many + many + 2) + ((many - pc) + open_left many calls)) up
              (fall-counted (limit - suc fires) (many + many + 2) ((many - place) + ((many - suc pc) + open_left many calls)) ((many - pc) + open_left many calls) (omega arith));
        }) x.1
    goes-on (Return froms) h t e = returns (map (look cells base) froms) t e

  -- ---- all steps

  falls : (s t : State) → IsPlaced X end_of s → step limit X.code s ≡ Goes t → Falls s t
  falls s t placed e =
      let f = placed.0.0 in
      let here_at = placed.0.1 in
      goes-on f s.pc s.base s.cells s.calls s.fires here_at placed.1 (X.code s.pc) (inside.stays f s.pc here_at.0 here_at.1 here_at.2) t e

  stops-within : (bound : ℕ) (s : State) → to_come many limit s < bound → IsPlaced X end_of s → Stops X limit s
  stops-within zero s lt placed = absurd (omega (arith, lt))
  stops-within (suc bound) s lt placed =
      go (step limit X.code s) refl (λ t e. let f = falls s t placed e in let less = f.less in stops-within bound t (omega (arith, less, lt)) f.placed)
    where
      later : (t : State) → step limit X.code s ≡ Goes t → Stops X limit t → Stops X limit s
      later t e (inl h) = inl (suc h.0, h.1, h.2, (t, e, h.3))
      later t e (inr h) = inr (h.0, added X.weigh (X.code s.pc) s.pc s.base s.cells + h.1, goes_on s t h.0 h.1 e h.2, h.3)

      go : (x : Outcome) → step limit X.code s ≡ x → ((t : State) → step limit X.code s ≡ Goes t → Stops X limit t) → Stops X limit s
      go (Goes t) e next = later t e (next t e)
      go (Ends rs fires) e next = inl (0, rs, fires, e)
      go Over e next = inr (s, 0, stays s, e)

pub stopping : IsStopping
stopping X end many limit inside s placed = stops-within X end many limit inside (suc (to_come many limit s)) s (omega arith) placed

-- ---- what a run comes to

-- a run that reaches its end ends in so many steps
ends-in : (X : Layout) (limit : ℕ) (s t : State) (x : ℕ) (rs : List Carried) (fires : ℕ) → Reaches X.weigh limit X.code s t x → step limit X.code t ≡ Ends rs fires → (k : ℕ) × EndsIn k limit X.code s rs fires
ends-in X limit _ _ _ rs fires (stays s) e = (0, e)
ends-in X limit _ _ _ rs fires (goes_on s t r x e h) ends = let y = ends-in X limit t r x rs fires h ends in (suc y.0, (t, e, y.1))

pub decided : IsDecided
decided X end many limit coded inside orderly inorder f ins cells in_f as_many held =
    go (stopping X end many limit inside s ((f, (in_f, omega arith, inside.begins f in_f)), tt))
  where
    s : State
    s = entered X f cells

    go : Stops X limit s
        → ((k : ℕ) × (rs : List Carried) × (c : ℕ) × (sum : ℕ) × EndsIn k limit X.code s rs c × IsRecorded X f ins rs c sum × (c ≤ limit))
        ⊎ (ComesToLimit X limit s × ((d c : ℕ) → Costs X.network d f ins c → limit < c))
    go (inl h) =
        let x = ends-recorded X limit coded orderly inorder h.0 f ins h.1 h.2 cells in_f as_many held h.3 in
        inl (h.0, h.1, h.2, x.0, h.3, x.2, x.3)
    go (inr h) = inr (h, λ d c costs. beyond c (within d c costs))
      where
        within : (d c : ℕ) → Costs X.network d f ins c → c ≤ limit → ⊥
        within d c costs le =
            let x = exact X limit coded orderly inorder f ins cells in_f as_many held d c costs le in
            let e = x.2 in
            let k = ends-in X limit s e.0 e.1 x.0 c e.2 e.3 in
            let j = end-after X.weigh limit X.code s h.0 h.1 h.2 k.0 x.0 c k.1 in
            over-ends limit X.code h.0 h.3 j.0 x.0 c j.2

        beyond : (c : ℕ) → (c ≤ limit → ⊥) → limit < c
        beyond c never = by-cases (leb c limit) refl
          where
            by-cases : (b : Bool) → leb c limit ≡ b → limit < c
            by-cases true e = absurd (never (leb-true c limit e))
            by-cases false e = leb-false c limit e
