-- The first state before a later iteration to which the machine whose cells own their values comes is that of the machine on values.
use Rattle.std.proofs.Common.{◌≡◌, ℕ, zero, suc, ◌+◌, ◌<◌, ◌≤◌, inl, inr, true, List, [], ◌∷◌, length, get_or, refl, sym, ap, ◌∙◌, subst, arith, ◌⊎◌, Bool, false, leb}
use Rattle.std.proofs.lemmas.Bool.{leb-false, leb-true}
use Rattle.graph_meaning.specs.Carried.{Carried, Unfilled}
use Rattle.graph_meaning.specs.Forms.{places_of}
use Rattle.ordered_meaning.specs.Laws.{counting}
use Rattle.ordered_meaning.specs.Ordered.{RowsYield, Total}
use Rattle.ordered_meaning.proofs.Shuffled.{IsListed, all-listed}
use Rattle.run_code.proofs.Folding.{puts_all}
use Rattle.run_code.specs.Cells.{Cells, Operand, cells_from}
use Rattle.run_code.specs.Coded.{AreCoded, ForAllIs, Layout, the_for_all, yields}
use Rattle.run_code.specs.Collections.{Collect}
use Rattle.run_code.specs.Machine.{Frame, State, at, counter, Over, step}
use Rattle.run_code.specs.Steps.{Add, Each}
use Rattle.run_laws.proofs.Cells as cells
use Rattle.run_laws.proofs.ForAlls.{mine}
use Rattle.run_laws.proofs.Forward.{forward}
use Rattle.run_laws.specs.Facts.{AreLong, Fact, Preserves}
use Rattle.run_store.specs.Lively.{IsSupplied, Live}
use Rattle.run_store.proofs.Supply.{never-stuck}
use Rattle.graph_meaning.specs.Demand.{AreOrderly}
use Rattle.graph_meaning.specs.Storage.{Storage}
use Rattle.ordered_meaning.specs.Orders.{AreInOrder}
use Rattle.run_store.specs.Refines.{AreBelow, Fits, IsHandled}
use Rattle.run_store.specs.Stored.{Cell, Empty, Handling, Heap, IsOwner, Onward, Owns, Refers, Stored, owned_in, step_stored}
use Rattle.run_ranges.specs.Apart.{AreApart, KeepsApart, StepsApart}
use Rattle.run_ranges.specs.Owned.{AreRangesOfRecord, Collects, ComesFirst, AreRangesDecided, Has, StandsBefore, comes, has_come}
use Rattle.run_ranges.specs.Ranges.{AreRowsOfRecord, ForAllAt, IsBefore, count_of, iterations, put_rows, rows_from}
use Rattle.run_ranges.proofs.Bodies.{Deep, Kind, On, Path, count-once, here, onward}
use Rattle.run_store.specs.Whole.{IsStoredCode, StopsStored, rests, walks}
use Rattle.run_ranges.proofs.Limits.{shorten}
use Rattle.run_ranges.proofs.Going.{all-of, held-of, held-row, held-to, puts-same}
use Rattle.run_ranges.proofs.Owners.{Alike, LeadsOnlyTo, add-owner, body-owner, each-owner, over-fine, safe-fine, step-fine, step-valued}
use Rattle.run_ranges.proofs.Recorded.{rows-to}
use Rattle.run_ranges.proofs.Steady.{some-steady}

-- with no open call it stands among the places of the body and the Each
abbrev pub IsAmong : (X : Layout) → ForAllAt X → Stored → Type 0
IsAmong X f s = s.calls ≡ [] → ((iterations X f).turn ≤ s.pc) × (s.pc ≤ (iterations X f).each)

-- there it is never stuck, and what is so stays so
abbrev pub StaysSo : (X : Layout) → ForAllAt X → (handling : ℕ → Handling) → (limit : ℕ) → (Stored → Type 0) → Type 0
StaysSo X f handling limit Fine = (s : Stored) → IsAmong X f s → Fine s → LeadsOnlyTo Fine (step_stored X.weigh limit X.code handling s)

-- what an owner has
owns-what : (h : Heap) (i : ℕ) (c : Carried) → IsOwner (h i) → owned_in (h i) ≡ c → h i ≡ Owns c
owns-what h i c full e = go (h i) full e
  where
    go : (x : Cell) → IsOwner x → owned_in x ≡ c → x ≡ Owns c
    go (Owns d) full e = ap Owns e
    go Empty full e = absurd full
    go (Refers j v) full e = absurd full

module _ (X : Layout) (f : ForAllAt X) (limit : ℕ) (handling : ℕ → Handling) (facts : ℕ → List Fact) (handled : (pc : ℕ) → IsHandled X.weigh facts pc (X.code pc) (handling pc)) (preserves : (pc : ℕ) → Preserves facts pc (X.code pc))
    (turn turned first n k there leave under : ℕ) (cs : List Collect) (nexts : List Operand) (apart_is : (pc : ℕ) → turn ≤ pc → pc < turned → StepsApart turn turned first (first + (n + k)) pc (X.code pc))
    (each_is : X.code there ≡ Each n first (first + (n + k)) turn leave) (adds : X.code turned ≡ Add cs nexts (first + n) there) (cs_many : length cs ≡ k) (ahead : turn ≤ turned) (behind : turned < there)
    (results : AreApart first (first + (n + k)) nexts) (keeps : (handling there).keeps (first + (n + k)) ≡ true) (there_is : (iterations X f).each ≡ there) (turn_is : (iterations X f).turn ≡ turn) (count_is : count_of (iterations X f) ≡ first + (n + k)) (until : ℕ) where
  abbrev Likely : Stored → State → Type 0
  Likely s p = Alike X limit handling facts handled preserves s p

  abbrev Kindly : State → Type 0
  Kindly p = Kind X limit turn turned first n k there leave under cs nexts apart_is each_is adds cs_many ahead behind until p

  abbrev Way : State → State → Type 0
  Way p r = Path X limit turn turned first n k there leave under cs nexts apart_is each_is adds cs_many ahead behind until p r

  abbrev edge : ℕ
  edge = under + (first + (n + k))

  -- on the way it does not stand there
  not-yet : (s : Stored) (p : State) → Likely s p → Kindly p → StandsBefore X f under until s → ⊥
  not-yet s p a (inl (deep, near)) h = go p.calls (sym a.calls_are ∙ h.calls_are) deep near
    where
      at_each : p.pc ≡ there
      at_each = sym a.pc_is ∙ (h.pc_is ∙ there_is)

      go : (os : List Frame) → os ≡ [] → Deep X limit turn turned first n k there leave under cs nexts apart_is each_is adds cs_many ahead behind p.base p.pc os → On X limit turn turned first n k there leave under cs nexts apart_is each_is adds cs_many ahead behind p.pc os → ⊥
      go [] e deep near = let q = at_each in absurd (omega (arith, near, q, behind))
      go (o ∷ os) e deep near = absurd cc
  not-yet s p a (inr (inl q)) h =
      let at_turned = q.0 in
      let pc_is = a.pc_is in
      let at_each = h.pc_is in
      absurd (omega (arith, at_turned, pc_is, at_each, there_is, behind))
  not-yet s p a (inr (inr (q, j, lt, counts, few))) h =
      let e : s.heap edge ≡ Owns (counter until) = ap (λ z. s.heap (under + z)) (sym count_is) ∙ h.counted in
      let g = a.fits in
      let same = count-once until j (sym (ap owned_in e) ∙ (g.agrees edge (subst IsOwner (sym e) tt) ∙ counts)) in
      absurd (omega (arith, same, lt))

  owner-on : (s r : Stored) (p : State) → Likely s p → Kindly p → IsOwner (s.heap edge) → step_stored X.weigh limit X.code handling s ≡ Onward r → IsOwner (r.heap edge)
  owner-on s r p a (inl (deep, near)) full e =
      let there_deep = subst (λ z. Deep X limit turn turned first n k there leave under cs nexts apart_is each_is adds cs_many ahead behind z s.pc s.calls) (sym a.base_is)
      (subst (λ z. Deep X limit turn turned first n k there leave under cs nexts apart_is each_is adds cs_many ahead behind p.base z s.calls) (sym a.pc_is)
      (subst (λ z. Deep X limit turn turned first n k there leave under cs nexts apart_is each_is adds cs_many ahead behind p.base p.pc z) (sym a.calls_are) deep)) in
      let there_near = subst (λ z. On X limit turn turned first n k there leave under cs nexts apart_is each_is adds cs_many ahead behind z s.calls) (sym a.pc_is)
      (subst (λ z. On X limit turn turned first n k there leave under cs nexts apart_is each_is adds cs_many ahead behind p.pc z) (sym a.calls_are) near) in
      subst IsOwner (sym (body-owner X limit handling facts handled preserves turn turned first n k there leave under cs nexts apart_is each_is adds cs_many ahead behind results keeps s r there_deep there_near e)) full
  owner-on s r p a (inr (inl q)) full e =
      subst IsOwner (sym (add-owner X limit handling facts handled preserves turn turned first n k there leave under cs nexts apart_is each_is adds cs_many ahead behind results keeps s r (a.pc_is ∙ q.0) (a.base_is ∙ q.1) e)) full
  owner-on s r p a (inr (inr (q, j, lt, counts, few))) full e =
      each-owner X limit handling facts handled preserves turn turned first n k there leave under cs nexts apart_is each_is adds cs_many ahead behind results keeps s r p j a (a.pc_is ∙ q.0) (a.base_is ∙ q.1) counts few e

  -- where it stands as the machine on values does
  stands-there : (s : Stored) (r : State) → Likely s r → IsOwner (s.heap edge) → r.pc ≡ there → r.base ≡ under → r.calls ≡ [] → r.cells edge ≡ counter until → StandsBefore X f under until s
  stands-there s r a full at_pc at_base no_calls counts =
      let g = a.fits in
      record {
        pc_is = a.pc_is ∙ (at_pc ∙ sym there_is);
        base_is = a.base_is ∙ at_base;
        calls_are = a.calls_are ∙ no_calls;
        counted = ap (λ z. s.heap (under + z)) count_is ∙ owns-what s.heap edge (counter until) full (g.agrees edge full ∙ counts);
      }

  -- with no open call, it stands among the places of the body and the Each
  among : (s : Stored) (p : State) → Likely s p → Kindly p → IsAmong X f s
  among s p a (inl (deep, near)) none = go p.calls (sym a.calls_are ∙ none) deep near
    where
      go : (os : List Frame) → os ≡ [] → Deep X limit turn turned first n k there leave under cs nexts apart_is each_is adds cs_many ahead behind p.base p.pc os → On X limit turn turned first n k there leave under cs nexts apart_is each_is adds cs_many ahead behind p.pc os
          → ((iterations X f).turn ≤ s.pc) × (s.pc ≤ (iterations X f).each)
      go [] e deep near = let pc_is = a.pc_is in let up = deep.1 in (omega (arith, up, pc_is, turn_is), omega (arith, near, pc_is, there_is, behind))
      go (o ∷ os) e deep near = absurd cc
  among s p a (inr (inl q)) none = let pc_is = a.pc_is in let at_turned = q.0 in (omega (arith, pc_is, at_turned, turn_is, ahead), omega (arith, pc_is, at_turned, there_is, behind))
  among s p a (inr (inr (q, j, lt, counts, few))) none = let pc_is = a.pc_is in let at_each = q.0 in (omega (arith, pc_is, at_each, turn_is, ahead, behind), omega (arith, pc_is, at_each, there_is))

  module _ (Fine : Stored → Type 0) (safe : StaysSo X f handling limit Fine) where
    pub came : (p r : State) → Way p r → r.pc ≡ there → r.base ≡ under → r.calls ≡ [] → r.cells edge ≡ counter until
        → (s : Stored) → Likely s p → Fine s → IsOwner (s.heap edge) → (t : Stored) × ComesFirst X f handling limit under until s t × StandsBefore X f under until t × Fine t
    came _ _ (here p) at_pc at_base no_calls counts s a fine full = (s, has_come s, stands-there s p a full at_pc at_base no_calls counts, fine)
    came _ _ (onward p q r kind e rest) at_pc at_base no_calls counts s a fine full =
        let y = step-fine X limit handling facts handled preserves Fine s p q a e (safe s (among s p a kind) fine) in
        let z = came q r rest at_pc at_base no_calls counts y.0 (step-valued X limit handling facts handled preserves s y.0 p q a e y.1) y.2 (owner-on s y.0 p a kind full y.1) in
        (z.0, comes s y.0 z.0 (not-yet s p a kind) y.1 z.1, z.2, z.3)

    pub stops : (p r : State) → Way p r → Kindly r → step limit X.code r ≡ Over → (s : Stored) → Likely s p → Fine s → StopsStored X handling limit s
    stops _ _ (here p) kind over s a fine = (s, rests s, over-fine X limit handling facts handled preserves Fine s p a over (safe s (among s p a kind) fine))
    stops _ _ (onward p q r kind e rest) last over s a fine =
        let y = step-fine X limit handling facts handled preserves Fine s p q a e (safe s (among s p a kind) fine) in
        let z = stops q r rest last over y.0 (step-valued X limit handling facts handled preserves s y.0 p q a e y.1) y.2 in
        (z.0, walks s y.0 z.0 y.1 z.1, z.2)

    pub ends-so : (p r : State) → Way p r ⊎ ((q : State) × Way p q × Kindly q × (step limit X.code q ≡ Over)) → r.pc ≡ there → r.base ≡ under → r.calls ≡ [] → r.cells edge ≡ counter until
        → (s : Stored) → Likely s p → Fine s → IsOwner (s.heap edge) → ((t : Stored) × ComesFirst X f handling limit under until s t × StandsBefore X f under until t × Fine t) ⊎ StopsStored X handling limit s
    ends-so p r (inl way) at_pc at_base no_calls counts s a fine full = inl (came p r way at_pc at_base no_calls counts s a fine full)
    ends-so p r (inr h) at_pc at_base no_calls counts s a fine full = inr (stops p h.0 h.1 h.2 h.3 s a fine)

  pub met : (p r : State) → Way p r → r.pc ≡ there → r.base ≡ under → r.calls ≡ [] → r.cells edge ≡ counter until → (s t : Stored) → Likely s p → IsOwner (s.heap edge) → ComesFirst X f handling limit under until s t → StandsBefore X f under until t → Likely t r
  met _ _ (here p) at_pc at_base no_calls counts _ _ a full (has_come s) stands = a
  met _ _ (here p) at_pc at_base no_calls counts _ _ a full (comes s q t not e more) stands =
      absurd (not (stands-there s p a full at_pc at_base no_calls counts))
  met _ _ (onward p q r kind e rest) at_pc at_base no_calls counts _ _ a full (has_come s) stands = absurd (not-yet s p a kind stands)
  met _ _ (onward p q r kind e rest) at_pc at_base no_calls counts _ _ a full (comes s u t not d more) stands =
      met q r rest at_pc at_base no_calls counts u t (step-valued X limit handling facts handled preserves s u p q a e d) (owner-on s u p a kind full d) more stands

get-from : (cells : Cells) (i n q : ℕ) → q < n → get_or (cells_from cells i n) q Unfilled ≡ cells (i + q)
get-from cells i zero q lt = absurd (omega (arith, lt))
get-from cells i (suc n) zero lt = ap cells (omega arith)
get-from cells i (suc n) (suc q) lt = get-from cells (suc i) n q (omega (arith, lt)) ∙ ap cells (omega arith)

-- cells of collections that own something
pub collects : (X : Layout) (f : ForAllAt X) (base begun : ℕ) (t : Stored) (now : Cells) (ks ms cols : List Carried) → Fits base t.heap now → IsBefore X f base now ks ms cols begun → Collects X f base t cols
collects X f base begun t now ks ms cols fits before q c lt e =
    let i = base + (((iterations X f).first + (iterations X f).multiples) + q) in
    sym (ap owned_in e) ∙ (fits.agrees i (subst IsOwner (sym e) tt) ∙ (ap now (omega arith)
    ∙ (sym (get-from now (base + ((iterations X f).first + (iterations X f).multiples)) (iterations X f).collections q lt) ∙ ap (λ z. get_or z q Unfilled) before.collected)))

-- the machine on values stands so, too
pub has-alike : (X : Layout) (handling : ℕ → Handling) (facts : ℕ → List Fact) (limit : ℕ) (handled : (pc : ℕ) → IsHandled X.weigh facts pc (X.code pc) (handling pc)) (preserves : (pc : ℕ) → Preserves facts pc (X.code pc))
    (f : ForAllAt X) (base begun : ℕ) (s : Stored) (ks ms cols : List Carried) (h : Has X f facts base begun s ks ms cols) → Alike X limit handling facts handled preserves s (at (iterations X f).each base h.cells [] s.fires)
has-alike X handling facts limit handled preserves f base begun s ks ms cols h =
    let stood = h.stands in
    record {
      pc_is = stood.pc_is;
      base_is = stood.base_is;
      calls_are = stood.calls_are;
      fires_are = refl;
      fits = subst (λ z. Fits z s.heap h.cells) (sym stood.base_is) h.fits;
      below = subst (λ z. AreBelow s.base z s.heap) (sym stood.calls_are) tt;
      known = record { here = h.known; waiting = tt };
    }

-- ---- the law

module _ (X : Layout) (handling : ℕ → Handling) (facts : ℕ → List Fact) (limit : ℕ) (coded : AreCoded X) (handled : (pc : ℕ) → IsHandled X.weigh facts pc (X.code pc) (handling pc)) (preserves : (pc : ℕ) → Preserves facts pc (X.code pc))
    (base : ℕ) (s : Stored) (ks ms cols : List Carried) (i k : ℕ) (long : AreLong (places_of ms) ms) (full : i + k ≤ places_of ms) (n : ℕ) (results : List (List Carried)) (c : Total (counting X.weights)) (le : s.fires + c.fires ≤ limit) where
  abbrev F : (room : ℕ) (args : List Operand) (generator body returns m : ℕ) (own : List Carried → List Carried → ℕ) (w a b lo : ℕ) → ForAllIs X room args generator body returns m own w a b lo → ForAllAt X
  F room args generator body returns m own w a b lo is = record { room = room; args = args; generator = generator; body = body; returns = returns; many = m; own = own; width = w; begin = a; end = b; low = lo; is = is }

  abbrev Came : ForAllAt X → Type 1
  Came f = (Fine : Stored → Type 0) → ((z : ℕ) → StaysSo X f handling z Fine) → Fine s → (t : Stored) × ComesFirst X f handling limit base (i + k) s t × StandsBefore X f base (i + k) t × Fine t

  -- or to a nearer limit
  abbrev Decided : ForAllAt X → Type 1
  Decided f =
      (near : ℕ) (Fine : Stored → Type 0) → ((z : ℕ) → StaysSo X f handling z Fine) → Fine s
      → ((t : Stored) × ComesFirst X f handling near base (i + k) s t × StandsBefore X f base (i + k) t × Fine t) ⊎ StopsStored X handling near s

  abbrev Done : ForAllAt X → Type 0
  Done f = (t : Stored) → ComesFirst X f handling limit base (i + k) s t → StandsBefore X f base (i + k) t → (t.fires ≡ s.fires + c.fires) × Collects X f base t (put_rows (iterations X f).collects results cols) × Has X f facts base (i + k) t ks ms (put_rows (iterations X f).collects results cols)

  to-have : (room : ℕ) (args : List Operand) (generator body returns m : ℕ) (own : List Carried → List Carried → ℕ) (w a b lo : ℕ) (is : ForAllIs X room args generator body returns m own w a b lo)
      → KeepsApart X (iterations X (F room args generator body returns m own w a b lo is))
      → (handling (iterations X (F room args generator body returns m own w a b lo is)).each).keeps (count_of (iterations X (F room args generator body returns m own w a b lo is))) ≡ true
      → Has X (F room args generator body returns m own w a b lo is) facts base i s ks ms cols
      → RowsYield (counting X.weights) X.network X.order (yields X n) body (rows_from i k ks ms) results c
      → Done (F room args generator body returns m own w a b lo is) × Came (F room args generator body returns m own w a b lo is) × Decided (F room args generator body returns m own w a b lo is)
  to-have room _ _ _ _ _ _ _ _ _ _ (the_for_all args generator body returns m own w a b lo picks mid j q made turns turn turned leave left other nodes outs cs extra lists nexts lasts for_body for_returns
      start generating spreads_are made_weighs lists_many cs_many each_is body_lent turning adds turn_weighs turn_many within refolds returns_lent returning hands) apart keeps h goes =
      let is = the_for_all args generator body returns m own w a b lo picks mid j q made turns turn turned leave left other nodes outs cs extra lists nexts lasts for_body for_returns
      start generating spreads_are made_weighs lists_many cs_many each_is body_lent turning adds turn_weighs turn_many within refolds returns_lent returning hands in
      let f = F room args generator body returns m own w a b lo is in
      let x = all-of X limit room args generator body returns m own w a b lo is in
      let apart_is = apart.body in
      let aside = apart.results cs nexts (mid + j) turns adds in
      let before = h.before in
      let stood = h.stands in
      let p = some-steady X limit room args generator body returns m own w a b lo x apart_is aside apart.ahead apart.behind n (forward X limit coded (suc n)) k base (i + k) h.cells s.fires ks ms cols i results c long full refl
      (record {
        outer = held-to h.cells base lo args ks before.inputs;
        inner = held-to h.cells base mid (mine X limit room args generator body returns m own w a b lo x) ks before.copies;
        given = held-row h.cells base (mid + (j + q)) mid j ms (omega arith) before.multiples;
        built = held-row h.cells base (mid + (j + q)) (mid + j) q cols (omega arith) before.collected;
        at_turn = before.counted;
      }) goes le in
      let kept = p.kept in
      let alike : (z : ℕ) → Alike X z handling facts handled preserves s (at turns base h.cells [] s.fires) = λ z. has-alike X handling facts z handled preserves f base i s ks ms cols h in
      let owned = subst IsOwner (sym stood.counted) tt in
      let now : IsBefore X f base p.last ks ms (put_rows cs results cols) (i + k) = record {
        inputs = held-of p.last base lo args ks kept.outer;
        copies = held-of p.last base mid (mine X limit room args generator body returns m own w a b lo x) ks kept.inner;
        multiples = cells.cells-held p.last base (mid + (j + q)) mid j ms kept.given;
        collected = cells.cells-held p.last base (mid + (j + q)) (mid + j) q (puts_all cs results cols) kept.built ∙ puts-same cs results cols;
        counted = kept.at_turn;
      } in (
        λ t first stands.
            let y = met X f limit handling facts handled preserves turn turned mid j q turns leave base cs nexts apart_is each_is adds cs_many apart.ahead apart.behind aside keeps refl refl refl (i + k)
            (at turns base h.cells [] s.fires) (at turns base p.last [] (s.fires + c.fires)) p.path refl refl refl kept.at_turn s t (alike limit) owned first stands in
            let known = y.known in
            let fits = subst (λ z. Fits z t.heap p.last) stands.base_is y.fits in
            (y.fires_are, collects X f base (i + k) t p.last ks ms (put_rows cs results cols) fits now, record { stands = stands; cells = p.last; fits = fits; known = known.here; before = now }),
        λ Fine safe fine.
            came X f limit handling facts handled preserves turn turned mid j q turns leave base cs nexts apart_is each_is adds cs_many apart.ahead apart.behind aside keeps refl refl refl (i + k) Fine (safe limit)
            (at turns base h.cells [] s.fires) (at turns base p.last [] (s.fires + c.fires)) p.path refl refl refl kept.at_turn s (alike limit) fine owned,
        λ near Fine safe fine.
            ends-so X f near handling facts handled preserves turn turned mid j q turns leave base cs nexts apart_is each_is adds cs_many apart.ahead apart.behind aside keeps refl refl refl (i + k) Fine (safe near)
            (at turns base h.cells [] s.fires) (at turns base p.last [] (s.fires + c.fires))
            (shorten X limit near turn turned mid j q turns leave base cs nexts apart_is each_is adds cs_many apart.ahead apart.behind (i + k) (at turns base h.cells [] s.fires) (at turns base p.last [] (s.fires + c.fires)) p.path)
            refl refl refl kept.at_turn s (alike near) fine owned,
      )

pub ranges-of-record : AreRangesOfRecord
ranges-of-record p X handling facts live own limit is orderly inorder f apart keeps base s t ks ms cols i k has long full results cost rows le first stands =
    let y = rows-to X.weights X.network X.order (all-listed X.network X.order orderly inorder) rows.1 f.body (rows_from i k ks ms) cost rows.3 rows.0 results rows.2 in
    let same = y.3 in
    subst (λ z. (t.fires ≡ s.fires + z) × Collects X f base t (put_rows (iterations X f).collects results cols) × Has X f facts base (i + k) t ks ms (put_rows (iterations X f).collects results cols)) same
    ((to-have X handling facts limit is.coded is.handled is.preserves base s ks ms cols i k long full y.0 results y.1 (omega (arith, same, le)) f.room f.args f.generator f.body f.returns f.many f.own f.width f.begin f.end f.low f.is apart keeps has y.2).0 t first stands)

-- where it is never stuck
pub decided-by : (Fine : Stored → Type 0) (p : Storage) (X : Layout) (handling : ℕ → Handling) (facts : ℕ → List Fact) (live own : Live) (limit : ℕ) → IsStoredCode p X handling facts live own → AreOrderly X.network → AreInOrder X.network X.order
    → (f : ForAllAt X) → KeepsApart X (iterations X f) → (handling (iterations X f).each).keeps (count_of (iterations X f)) ≡ true → ((z : ℕ) → StaysSo X f handling z Fine)
    → (base : ℕ) (s : Stored) (ks ms cols : List Carried) (i k : ℕ) → Has X f facts base i s ks ms cols → Fine s → AreLong (places_of ms) ms → i + k ≤ places_of ms
    → (results : List (List Carried)) (cost : ℕ) → AreRowsOfRecord X.network f.body (rows_from i k ks ms) results cost
    → ((t : Stored) × ComesFirst X f handling limit base (i + k) s t × StandsBefore X f base (i + k) t × Fine t) ⊎ (StopsStored X handling limit s × (limit < s.fires + cost))
decided-by Fine p X handling facts live own limit is orderly inorder f apart keeps safe base s ks ms cols i k has fine long full results cost rows = go (leb (s.fires + cost) limit) refl
  where
    orders : (g : ℕ) → IsListed (X.network g) (X.order g)
    orders = all-listed X.network X.order orderly inorder

    go : (b : Bool) → leb (s.fires + cost) limit ≡ b
        → ((t : Stored) × ComesFirst X f handling limit base (i + k) s t × StandsBefore X f base (i + k) t × Fine t) ⊎ (StopsStored X handling limit s × (limit < s.fires + cost))
    go true e =
        let y = rows-to X.weights X.network X.order orders rows.1 f.body (rows_from i k ks ms) cost rows.3 rows.0 results rows.2 in
        let same = y.3 in
        let le = leb-true (s.fires + cost) limit e in
        inl ((to-have X handling facts limit is.coded is.handled is.preserves base s ks ms cols i k long full y.0 results y.1 (omega (arith, same, le)) f.room f.args f.generator f.body f.returns f.many f.own f.width f.begin f.end f.low f.is apart keeps has y.2).1
        Fine safe fine)
    go false e =
        let y = rows-to X.weights X.network X.order orders rows.1 f.body (rows_from i k ks ms) cost rows.3 rows.0 results rows.2 in
        let same = y.3 in
        with_cost (leb-false (s.fires + cost) limit e)
        ((to-have X handling facts (s.fires + cost) is.coded is.handled is.preserves base s ks ms cols i k long full y.0 results y.1 (omega (arith, same)) f.room f.args f.generator f.body f.returns f.many f.own f.width f.begin f.end f.low f.is apart keeps has y.2).2
        limit Fine safe fine)
      where
        with_cost : limit < s.fires + cost → ((t : Stored) × ComesFirst X f handling limit base (i + k) s t × StandsBefore X f base (i + k) t × Fine t) ⊎ StopsStored X handling limit s
            → ((t : Stored) × ComesFirst X f handling limit base (i + k) s t × StandsBefore X f base (i + k) t × Fine t) ⊎ (StopsStored X handling limit s × (limit < s.fires + cost))
        with_cost lt (inl h) = inl h
        with_cost lt (inr h) = inr (h, lt)

pub ranges-decided : AreRangesDecided
ranges-decided p X handling facts live own limit is orderly inorder f apart keeps base s ks ms cols i k has supplied =
    decided-by (IsSupplied live own) p X handling facts live own limit is orderly inorder f apart keeps
    (λ z r among h. safe-fine live own (step_stored X.weigh z X.code handling r) (never-stuck X.weigh z X.code handling live own is.lively r h)) base s ks ms cols i k has supplied
