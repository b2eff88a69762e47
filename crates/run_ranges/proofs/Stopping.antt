-- Ranges come to their end or to the limit.
use Rattle.std.proofs.Common.{◌≡◌, ℕ, zero, suc, ◌+◌, ◌<◌, ◌≤◌, ◌⊎◌, inl, inr, Bool, true, false, if◌then◌else◌, ltb, List, [], ◌∷◌, length, map, refl, sym, ap, ◌∙◌, subst, arith}
use Rattle.std.proofs.lemmas.Bool.{ltb-false, ltb-true}
use Rattle.graph_meaning.specs.Carried.{Carried}
use Rattle.graph_meaning.specs.Forms.{places_of}
use Rattle.run_code.specs.Cells.{Cells, Operand, cells_from, look, write}
use Rattle.run_code.specs.Coded.{ForAllIs, Layout, the_for_all}
use Rattle.run_code.specs.Collections.{Collect}
use Rattle.run_code.specs.Machine.{Ends, EndsIn, Frame, Goes, Over, Reaches, State, Weigh, at, counter, elements, goes_on, stays, step}
use Rattle.run_code.specs.Steps.{Add, Each, Return, Step}
use Rattle.run_laws.proofs.Cells.{write-below, write-in}
use Rattle.run_laws.proofs.Stopping.{stopping}
use Rattle.run_laws.specs.Facts.{Fact}
use Rattle.run_laws.specs.Stopping.{Stops}
use Rattle.run_store.proofs.Effects.{effects}
use Rattle.run_store.proofs.Refining.{Calling, Leaving, Writing, kinds}
use Rattle.run_store.specs.Effects.{apply, counted_if, effect, reads_of}
use Rattle.run_store.specs.Lively.{Live}
use Rattle.run_store.specs.Stored.{Handling, IsOwner, Stored}
use Rattle.run_store.specs.Whole.{IsStoredCode, StopsStored}
use Rattle.graph_meaning.specs.Storage.{Storage}
use Rattle.run_ranges.specs.Alone.{IsSuppliedAlone, collections_at, only_from}
use Rattle.run_ranges.specs.Apart.{CallsApart, KeepsApart, StepsApart}
use Rattle.run_ranges.specs.Owned.{ComesFirst, Has, StandsBefore}
use Rattle.run_ranges.specs.Ranges.{ForAllAt, count_of, iterations}
use Rattle.run_ranges.specs.Stopping.{DoRangesAloneStop, DoRangesThatStopBegin, StandsInside}
use Rattle.run_ranges.proofs.Alone.{IsFed, fed-of, step-fed, supplied-of}
use Rattle.run_ranges.proofs.Apart.{apart-step, no-goes-over, same-goes}
use Rattle.run_ranges.proofs.Bodies as bodies
use Rattle.run_ranges.proofs.Bodies.{from-same, here, onward}
use Rattle.run_ranges.proofs.Meeting.{StaysSo, came, has-alike, stops}
use Rattle.run_ranges.proofs.Running.{begun-so, keeps-count, lent-on}

no-goes-ends : (s : State) (rs : List Carried) (c : ℕ) → Goes s ≡ Ends rs c → ⊥
no-goes-ends s rs c e = absurd cc

no-over-ends : (rs : List Carried) (c : ℕ) → Over ≡ Ends rs c → ⊥
no-over-ends rs c e = absurd cc

counted-no-end : (b : Bool) (limit fires : ℕ) (g : ℕ → State) (rs : List Carried) (c : ℕ) → counted_if b limit fires (λ y. Goes (g y)) ≡ Ends rs c → ⊥
counted-no-end false limit fires g rs c e = no-goes-ends (g fires) rs c e
counted-no-end true limit fires g rs c e = go (ltb fires limit) e
  where
    go : (b : Bool) → (if b then Goes (g (suc fires)) else Over) ≡ Ends rs c → ⊥
    go true e = no-goes-ends (g (suc fires)) rs c e
    go false e = no-over-ends rs c e

module _ (X : Layout) (limit turn turned first n k there leave under : ℕ) (cs : List Collect) (nexts : List Operand) (apart_is : (pc : ℕ) → turn ≤ pc → pc < turned → StepsApart turn turned first (first + (n + k)) pc (X.code pc))
    (each_is : X.code there ≡ Each n first (first + (n + k)) turn leave) (adds : X.code turned ≡ Add cs nexts (first + n) there) (cs_many : length cs ≡ k) (ahead : turn ≤ turned) (behind : turned < there)
    (nowhere : (pc : ℕ) → turn ≤ pc → pc < turned → (froms : List Operand) → X.code pc ≡ Return froms → ⊥) (until : ℕ) (ms : List Carried) (full : until ≤ places_of ms) where
  abbrev Deep : (base pc : ℕ) → List Frame → Type 0
  Deep base pc calls = bodies.Deep X limit turn turned first n k there leave under cs nexts apart_is each_is adds cs_many ahead behind base pc calls

  abbrev On : (pc : ℕ) → List Frame → Type 0
  On pc calls = bodies.On X limit turn turned first n k there leave under cs nexts apart_is each_is adds cs_many ahead behind pc calls

  abbrev Stands : (place : ℕ) → State → Type 0
  Stands place s = (s.pc ≡ place) × (s.base ≡ under) × (s.calls ≡ [])

  abbrev Kind : State → Type 0
  Kind s = bodies.Kind X limit turn turned first n k there leave under cs nexts apart_is each_is adds cs_many ahead behind until s

  abbrev Path : State → State → Type 0
  Path s t = bodies.Path X limit turn turned first n k there leave under cs nexts apart_is each_is adds cs_many ahead behind until s t

  abbrev count : ℕ
  count = first + (n + k)

  record Mid (s : State) : Type 0 where
    pub c : ℕ
    pub up : c ≤ until
    pub counts : s.cells (under + count) ≡ counter c
    pub given : cells_from s.cells (under + first) n ≡ ms
    pub stands : Deep s.base s.pc s.calls ⊎ Stands there s

  abbrev Done : State → Type 0
  Done s = Stands there s × (s.cells (under + count) ≡ counter until)

  -- it is done, or it takes a step of these, which does not end
  abbrev Moves : State → Type 0
  Moves s = Done s ⊎ (Kind s × ((t : State) → step limit X.code s ≡ Goes t → Mid t) × ((rs : List Carried) (c : ℕ) → step limit X.code s ≡ Ends rs c → ⊥))

  no-end : (s : State) → Deep s.base s.pc s.calls → On s.pc s.calls → (rs : List Carried) (c : ℕ) → step limit X.code s ≡ Ends rs c → ⊥
  no-end s deep on rs c e = by-kind (kinds x s.pc ks)
    where
      x : Step
      x = X.code s.pc

      ks : List Carried
      ks = map (look s.cells s.base) (reads_of x)

      so : apply limit (effect x s.pc ks) s.pc s.base s.cells s.calls s.fires ≡ Ends rs c
      so = sym (effects limit x s.pc s.base s.cells s.calls s.fires) ∙ e

      leaves : (froms : List Operand) → x ≡ Return froms → (os : List Frame) → Deep s.base s.pc os → On s.pc os → apply limit (effect (Return froms) s.pc ks) s.pc s.base s.cells os s.fires ≡ Ends rs c → ⊥
      leaves froms is [] deep on e = nowhere s.pc deep.1 on froms is
      leaves froms is (o ∷ os) deep on e = no-goes-ends (at o.pc o.base (write (o.base + o.out) o.width ks s.cells) os s.fires) rs c e

      by-kind : Writing x s.pc ks ⊎ (Calling x ⊎ Leaving x) → ⊥
      by-kind (inl y) =
          counted-no-end y.0 limit s.fires (λ f. at y.1 s.base (write (s.base + y.2) y.3 y.4 s.cells) s.calls f) rs c (sym (ap (λ z. apply limit z s.pc s.base s.cells s.calls s.fires) y.5) ∙ so)
      by-kind (inr (inl y)) =
          counted-no-end true limit s.fires (λ f. at y.0 (s.base + y.1) (write (s.base + y.1) (length ks) ks s.cells) (record { pc = suc s.pc; base = s.base; out = y.3; width = y.4 } ∷ s.calls) f) rs c
          (sym (ap (λ z. apply limit (effect z s.pc ks) s.pc s.base s.cells s.calls s.fires) y.5) ∙ so)
      by-kind (inr (inr y)) = leaves y.0 y.1 s.calls deep on (sym (ap (λ z. apply limit (effect z s.pc ks) s.pc s.base s.cells s.calls s.fires) y.1) ∙ so)

  moves : (s : State) → Mid s → Moves s
  moves s a = go a.stands
    where
      up : a.c ≤ until
      up = a.up

      row : Cells
      row = write (under + count) (suc n) (counter (suc a.c) ∷ elements a.c ms) s.cells

      put : Cells
      put = bodies.put_cells X limit turn turned first n k there leave under cs nexts apart_is each_is adds cs_many ahead behind s.cells

      at-each : Stands there s → (b : Bool) → ltb a.c until ≡ b → Moves s
      at-each h false p = let le = ltb-false a.c until p in inl (h, a.counts ∙ ap counter (let q : a.c ≡ until = omega (arith, le, up) in q))
      at-each h true p =
          let lt = ltb-true a.c until p in
          let few : a.c < places_of ms = omega (arith, lt, full) in
          let e = bodies.each-step X limit turn turned first n k there leave under cs nexts apart_is each_is adds cs_many ahead behind s a.c ms h a.counts a.given few in
          inr (inr (inr (h, a.c, lt, a.counts, subst (λ z. a.c < places_of z) (sym a.given) few)), (λ t g. next t lt (ltb s.fires limit) (sym e ∙ g)), λ rs c g. counted-no-end true limit s.fires (λ f. at turn under row [] f) rs c (sym e ∙ g))
        where
          next : (t : State) → a.c < until → (b : Bool) → (if b then Goes (at turn under row [] (suc s.fires)) else Over) ≡ Goes t → Mid t
          next t lt false g = absurd (no-goes-over t g)
          next t lt true g =
              subst Mid (same-goes (at turn under row [] (suc s.fires)) t g)
              (record {
                c = suc a.c;
                up = omega (arith, lt);
                counts = ap row (omega arith) ∙ write-in (under + count) (suc n) (counter (suc a.c) ∷ elements a.c ms) s.cells 0 (omega arith);
                given = from-same row s.cells (under + first) n (λ j le lt. write-below (under + count) (suc n) (counter (suc a.c) ∷ elements a.c ms) s.cells j (omega (arith, lt))) ∙ a.given;
                stands = inl (refl, omega arith, ahead);
              })

      body : Deep s.base s.pc s.calls → On s.pc s.calls ⊎ Stands turned s → Moves s
      body deep (inl on) = inr (inl (deep, on), (λ t e. next t e), no-end s deep on)
        where
          next : (t : State) → step limit X.code s ≡ Goes t → Mid t
          next t e =
              let w = apart-step X limit turn turned first count (omega arith) apart_is under s.pc s.base s.cells s.cells s.calls s.fires t deep on (λ j o. refl) e in
              record {
                c = a.c;
                up = a.up;
                counts = w.kept₂ (under + count) (omega arith) ∙ a.counts;
                given = from-same t.cells s.cells (under + first) n (λ j le lt. w.kept₂ j (omega (arith, lt))) ∙ a.given;
                stands = inl w.deep;
              }
      body deep (inr h) =
          let e = bodies.add-step X limit turn turned first n k there leave under cs nexts apart_is each_is adds cs_many ahead behind s h in
          let kept = bodies.put-kept X limit turn turned first n k there leave under cs nexts apart_is each_is adds cs_many ahead behind s.cells in
          inr (
            inr (inl h),
            (λ t g. subst Mid (same-goes (at there under put [] s.fires) t (sym e ∙ g))
                (record {
                  c = a.c;
                  up = a.up;
                  counts = kept (under + count) (inr (omega arith)) ∙ a.counts;
                  given = from-same put s.cells (under + first) n (λ j le lt. kept j (inl (omega (arith, lt)))) ∙ a.given;
                  stands = inr (refl, refl, refl);
                })),
            λ rs c g. no-goes-ends (at there under put [] s.fires) rs c (sym e ∙ g),
          )

      go : Deep s.base s.pc s.calls ⊎ Stands there s → Moves s
      go (inl deep) = body deep (bodies.on-or-end X limit turn turned first n k there leave under cs nexts apart_is each_is adds cs_many ahead behind s.base s.pc s.calls deep)
      go (inr h) = at-each h (ltb a.c until) refl

  abbrev pub Comes : State → Type 0
  Comes s = ((r : State) × Path s r × Done r) ⊎ ((q : State) × Path s q × Kind q × (step limit X.code q ≡ Over))

  comes-on : (s t : State) → Kind s → step limit X.code s ≡ Goes t → Comes t → Comes s
  comes-on s t kind e (inl h) = inl (h.0, onward s t h.0 kind e h.1, h.2)
  comes-on s t kind e (inr h) = inr (h.0, onward s t h.0 kind e h.1, h.2, h.3)

  to-limit : (weigh : Weigh) (s t : State) (x : ℕ) → Reaches weigh limit X.code s t x → step limit X.code t ≡ Over → Mid s → Comes s
  to-limit weigh _ _ _ (stays s) over a = go (moves s a)
    where
      go : Moves s → Comes s
      go (inl d) = inl (s, here s, d)
      go (inr m) = inr (s, here s, m.0, over)
  to-limit weigh _ _ _ (goes_on s t r x e more) over a = go (moves s a) (λ b. to-limit weigh t r x more over b)
    where
      go : Moves s → (Mid t → Comes t) → Comes s
      go (inl d) later = inl (s, here s, d)
      go (inr m) later = comes-on s t m.0 e (later (m.1 t e))

  to-end : (j : ℕ) (s : State) (rs : List Carried) (c : ℕ) → EndsIn j limit X.code s rs c → Mid s → Comes s
  to-end zero s rs c e a = go (moves s a)
    where
      go : Moves s → Comes s
      go (inl d) = inl (s, here s, d)
      go (inr m) = absurd (m.2 rs c e)
  to-end (suc j) s rs c (t, e, more) a = go (moves s a) (λ b. to-end j t rs c more b)
    where
      go : Moves s → (Mid t → Comes t) → Comes s
      go (inl d) later = inl (s, here s, d)
      go (inr m) later = comes-on s t m.0 e (later (m.1 t e))

  pub comes : (now : Cells) (fires i : ℕ) → i ≤ until → now (under + count) ≡ counter i → cells_from now (under + first) n ≡ ms → Stops X limit (at there under now [] fires) → Comes (at there under now [] fires)
  comes now fires i up counts given h = go h
    where
      mid : Mid (at there under now [] fires)
      mid = record { c = i; up = up; counts = counts; given = given; stands = inr (refl, refl, refl) }

      go : Stops X limit (at there under now [] fires) → Comes (at there under now [] fires)
      go (inl h) = to-end h.0 (at there under now [] fires) h.1 h.2 h.3 mid
      go (inr h) = to-limit X.weigh (at there under now [] fires) h.0 h.1 h.2 h.3 mid

-- ---- the laws

module _ (X : Layout) (handling : ℕ → Handling) (facts : ℕ → List Fact) (live own : Live) (limit : ℕ) (p : Storage) (is_code : IsStoredCode p X handling facts live own) (base : ℕ) (s : Stored) (ks ms cols : List Carried) (i k : ℕ) (full : i + k ≤ places_of ms)
    (Fine : Stored → Type 0) where
  to-stop : (room : ℕ) (args : List Operand) (generator body returns m : ℕ) (own₁ : List Carried → List Carried → ℕ) (w a b lo : ℕ) (is : ForAllIs X room args generator body returns m own₁ w a b lo)
      → let f : ForAllAt X = record { room = room; args = args; generator = generator; body = body; returns = returns; many = m; own = own₁; width = w; begin = a; end = b; low = lo; is = is } in
      (KeepsApart X (iterations X f) → StandsInside X (iterations X f) → (handling (iterations X f).each).keeps (count_of (iterations X f)) ≡ true → StaysSo X f handling limit Fine → Fine s
      → Has X f facts base i s ks ms cols
      → ((t : Stored) × ComesFirst X f handling limit base (i + k) s t × StandsBefore X f base (i + k) t × Fine t) ⊎ StopsStored X handling limit s)
  to-stop room _ _ _ _ _ _ _ _ _ _ (the_for_all args generator body returns m own₁ w a b lo picks mid j q made turns turn turned leave left other nodes outs cs extra lists nexts lasts for_body for_returns
      start generating spreads_are made_weighs lists_many cs_many each_is body_lent turning adds turn_weighs turn_many within refolds returns_lent returning hands) apart placed keeps safe fine h =
      let is = the_for_all args generator body returns m own₁ w a b lo picks mid j q made turns turn turned leave left other nodes outs cs extra lists nexts lasts for_body for_returns
      start generating spreads_are made_weighs lists_many cs_many each_is body_lent turning adds turn_weighs turn_many within refolds returns_lent returning hands in
      let f : ForAllAt X = record { room = room; args = args; generator = generator; body = body; returns = returns; many = m; own = own₁; width = w; begin = a; end = b; low = lo; is = is } in
      let apart_is = apart.body in
      let aside = apart.results cs nexts (mid + j) turns adds in
      let before = h.before in
      let stood = h.stands in
      let alike = has-alike X handling facts limit is_code.handled is_code.preserves f base i s ks ms cols h in
      let owned = subst IsOwner (sym stood.counted) tt in
      by-end (comes X limit turn turned mid j q turns leave base cs nexts apart_is each_is adds cs_many apart.ahead apart.behind (λ pc le lt froms e. let y = apart_is pc le lt in let z = subst (CallsApart (mid + (j + q)) turned pc) e y.calls in z) (i + k) ms full h.cells s.fires i (omega arith) before.counted before.multiples
      (stopping X placed.ends placed.many limit placed.inside (at turns base h.cells [] s.fires) ((placed.function, placed.at), tt)))
      (λ z. came X f limit handling facts is_code.handled is_code.preserves turn turned mid j q turns leave base cs nexts apart_is each_is adds cs_many apart.ahead apart.behind aside keeps refl refl refl (i + k) Fine safe
      (at turns base h.cells [] s.fires) z.0 z.1 z.2.0.0 z.2.0.1 z.2.0.2 z.2.1 s alike fine owned)
      (λ z. stops X f limit handling facts is_code.handled is_code.preserves turn turned mid j q turns leave base cs nexts apart_is each_is adds cs_many apart.ahead apart.behind aside keeps refl refl refl (i + k) Fine safe
      (at turns base h.cells [] s.fires) z.0 z.1 z.2 z.3 s alike fine)
    where
      by-end : {A B C D : Type 0} → A ⊎ B → (A → C) → (B → D) → C ⊎ D
      by-end (inl x) f g = inl (f x)
      by-end (inr x) f g = inr (g x)

pub ranges-alone-stop : DoRangesAloneStop
ranges-alone-stop p X handling facts live own limit is f apart above placed keeps base s ks ms cols i k has supplied full =
    let low = collections_at (iterations X f) in
    let stood = has.stands in
    go (to-stop X handling facts live own limit p is base s ks ms cols i k full (IsFed live own low) f.room f.args f.generator f.body f.returns f.many f.own f.width f.begin f.end f.low f.is apart placed keeps
    (λ r among fed.
    step-fed live own low X.weigh limit r.pc r.base r.heap r.calls r.fires r.copies (handling r.pc) (X.code r.pc) (is.lively r.pc) (λ none j taken. let a = among none in above r.pc j a.0 a.1 taken) fed)
    (fed-of live own low s stood.calls_are supplied) has)
  where
    go : ((t : Stored) × ComesFirst X f handling limit base (i + k) s t × StandsBefore X f base (i + k) t × IsFed live own (collections_at (iterations X f)) t) ⊎ StopsStored X handling limit s
        → ((t : Stored) × ComesFirst X f handling limit base (i + k) s t × StandsBefore X f base (i + k) t × IsSuppliedAlone live own (iterations X f) t) ⊎ StopsStored X handling limit s
    go (inl h) = let stood = h.2 in inl (h.0, h.1, h.2, supplied-of live own (collections_at (iterations X f)) h.0 stood.calls_are h.3)
    go (inr h) = inr h

pub ranges-that-stop-begin : DoRangesThatStopBegin
ranges-that-stop-begin p X handling code facts live own limit does is f apart above placed base s ks ms cols i k has supplied full m at_s =
    record {
      at = at_s;
      decided = begun-so X handling code f limit base (i + k) does live (only_from (collections_at (iterations X f)) own) s (lent-on X handling code f limit base (i + k) does facts is.handled is.preserves s ks ms cols i has) (suc limit)
          (go (ranges-alone-stop p X handling facts live own limit is f apart above placed (keeps-count X handling code f limit base (i + k) does) base s ks ms cols i k has supplied full));
    }
  where
    go : ((t : Stored) × ComesFirst X f handling limit base (i + k) s t × StandsBefore X f base (i + k) t × IsSuppliedAlone live own (iterations X f) t) ⊎ StopsStored X handling limit s
        → ((t : Stored) × ComesFirst X f handling limit base (i + k) s t × StandsBefore X f base (i + k) t × IsSuppliedAlone live own (iterations X f) t) ⊎ (StopsStored X handling limit s × (limit < suc limit))
    go (inl h) = inl h
    go (inr h) = inr (h, omega arith)
