-- The machine goes through a body that keeps to itself, and stands behind it once, at its end.
--
-- A run that came behind the body and went on would count an iteration. That it does not is seen on other cells of the ForAll, with so
-- many iterations left that it could never leave: the body does the same on them, and does not change them.
use Rattle.std.proofs.Common.{◌≡◌, ℕ, zero, suc, ◌+◌, ◌<◌, ◌≤◌, ◌⊎◌, inl, inr, Bool, true, false, if◌then◌else◌, ltb, List, [], ◌∷◌, length, map, refl, sym, ap, ◌∙◌, subst, arith}
use Rattle.std.proofs.lemmas.Bool.{lt-ltb, ltb-false, ltb-true}
use Rattle.graph_meaning.specs.Carried.{Carried}
use Rattle.graph_meaning.specs.Forms.{places_of}
use Rattle.run_code.specs.Cells.{Cells, Operand, cells_from, look, write}
use Rattle.run_code.specs.Coded.{Layout}
use Rattle.run_code.specs.Collections.{Collect, put_all}
use Rattle.run_code.specs.Machine.{Frame, Goes, Over, Reaches, State, Weigh, at, begun, counted, counter, doing, each, elements, goes_on, stays, step}
use Rattle.run_code.specs.Steps.{Add, Each}
use Rattle.run_laws.proofs.Cells.{write-below, write-in}
use Rattle.run_laws.proofs.Rows.{write-above}
use Rattle.run_ranges.specs.Apart.{StepsApart}
use Rattle.run_ranges.proofs.Apart as apart
use Rattle.run_ranges.proofs.Apart.{Twin, apart-step, counted-goes, no-goes-over, same-goes}

pub from-same : (a b : Cells) (i n : ℕ) → ((j : ℕ) → i ≤ j → j < i + n → a j ≡ b j) → cells_from a i n ≡ cells_from b i n
from-same a b i zero h = refl
from-same a b i (suc n) h =
    ap (λ k. k ∷ cells_from a (suc i) n) (h i (omega arith) (omega arith)) ∙ ap (λ ks. b i ∷ ks) (from-same a b (suc i) n (λ j le lt. h j (omega (arith, le)) (omega (arith, lt))))

pub count-once : (i j : ℕ) → counter i ≡ counter j → i ≡ j
count-once i j e = ap begun e

module _ (X : Layout) (limit turn turned first n k there leave under : ℕ) (cs : List Collect) (nexts : List Operand) (apart_is : (pc : ℕ) → turn ≤ pc → pc < turned → StepsApart turn turned first (first + (n + k)) pc (X.code pc))
    (each_is : X.code there ≡ Each n first (first + (n + k)) turn leave) (adds : X.code turned ≡ Add cs nexts (first + n) there) (cs_many : length cs ≡ k) (ahead : turn ≤ turned) (behind : turned < there) where
  abbrev pub count : ℕ
  count = first + (n + k)

  abbrev pub low : first ≤ first + (n + k)
  low = omega arith

  abbrev pub Deep : (base pc : ℕ) → List Frame → Type 0
  Deep base pc calls = apart.Deep X limit turn turned first count low apart_is under base pc calls

  abbrev pub On : (pc : ℕ) → List Frame → Type 0
  On pc calls = apart.On X limit turn turned first count low apart_is under pc calls

  abbrev pub Agree : Cells → Cells → Type 0
  Agree a b = apart.Agree X limit turn turned first count low apart_is under a b

  abbrev pub Stands : (place : ℕ) → State → Type 0
  Stands place s = (s.pc ≡ place) × (s.base ≡ under) × (s.calls ≡ [])

  -- ---- the steps of the ForAll

  state-is : (place : ℕ) (s : State) → Stands place s → s ≡ at place under s.cells [] s.fires
  state-is place s h =
      ap (λ z. at z s.base s.cells s.calls s.fires) h.0 ∙ (ap (λ z. at place z s.cells s.calls s.fires) h.1 ∙ ap (λ z. at place under s.cells z s.fires) h.2)

  -- the cells of an iteration
  abbrev pub row_cells : (begun : ℕ) → List Carried → Cells → Cells
  row_cells c ms cells = write (under + count) (suc n) (counter (suc c) ∷ elements c ms) cells

  pub each-step : (s : State) (c : ℕ) (ms : List Carried) → Stands there s → s.cells (under + count) ≡ counter c → cells_from s.cells (under + first) n ≡ ms → c < places_of ms
      → step limit X.code s ≡ counted limit s.fires (λ f. Goes (at turn under (row_cells c ms s.cells) [] f))
  each-step s c ms h counts given lt =
      ap (step limit X.code) (state-is there s h)
      ∙ (ap (λ z. doing limit z there under s.cells [] s.fires) each_is
      ∙ (ap (λ z. each (ltb (begun z) (places_of (cells_from s.cells (under + first) n))) (begun z) (cells_from s.cells (under + first) n) limit n count turn leave under s.cells [] s.fires) counts
      ∙ (ap (λ z. each (ltb c (places_of z)) c z limit n count turn leave under s.cells [] s.fires) given
      ∙ ap (λ z. each z c ms limit n count turn leave under s.cells [] s.fires) (lt-ltb c (places_of ms) lt))))

  abbrev pub put_cells : Cells → Cells
  put_cells cells = write (under + (first + n)) (length cs) (put_all cs (map (look cells under) nexts) (cells_from cells (under + (first + n)) (length cs))) cells

  pub add-step : (s : State) → Stands turned s → step limit X.code s ≡ Goes (at there under (put_cells s.cells) [] s.fires)
  add-step s h = ap (step limit X.code) (state-is turned s h) ∙ ap (λ z. doing limit z turned under s.cells [] s.fires) adds

  -- what is put lies between the multiples and the count
  pub put-kept : (cells : Cells) (j : ℕ) → (j < under + (first + n)) ⊎ (under + count ≤ j) → put_cells cells j ≡ cells j
  put-kept cells j (inl lt) = write-below (under + (first + n)) (length cs) (put_all cs (map (look cells under) nexts) (cells_from cells (under + (first + n)) (length cs))) cells j lt
  put-kept cells j (inr le) = write-above (under + (first + n)) (length cs) (put_all cs (map (look cells under) nexts) (cells_from cells (under + (first + n)) (length cs))) cells j (omega (arith, le, cs_many))

  abbrev pub Ends : (base pc : ℕ) → List Frame → Type 0
  Ends base pc calls = (pc ≡ turned) × (base ≡ under) × (calls ≡ [])

  pub on-or-end : (base pc : ℕ) (calls : List Frame) → Deep base pc calls → On pc calls ⊎ Ends base pc calls
  on-or-end base pc (o ∷ os) h = inl tt
  on-or-end base pc [] h = go (ltb pc turned) refl
    where
      go : (b : Bool) → ltb pc turned ≡ b → On pc [] ⊎ Ends base pc []
      go true e = inl (ltb-true pc turned e)
      go false e = let le = ltb-false pc turned e in let up = h.2 in inr (omega (arith, le, up), h.0, refl)

  -- ---- with so many iterations left that they never end

  module _ (many : List Carried) (long : limit < places_of many) where
    -- an iteration was counted
    record After (s : State) : Type 0 where
      pub c : ℕ
      pub some : 0 < c
      pub few : c ≤ s.fires
      pub less : c ≤ limit
      pub counts : s.cells (under + count) ≡ counter c
      pub given : cells_from s.cells (under + first) n ≡ many
      pub stands : Deep s.base s.pc s.calls ⊎ Stands there s

    row-given : (c : ℕ) (ms : List Carried) (cells : Cells) → cells_from cells (under + first) n ≡ many → cells_from (row_cells c ms cells) (under + first) n ≡ many
    row-given c ms cells e = from-same (row_cells c ms cells) cells (under + first) n (λ j le lt. write-below (under + count) (suc n) (counter (suc c) ∷ elements c ms) cells j (omega (arith, lt))) ∙ e

    row-counts : (c : ℕ) (ms : List Carried) (cells : Cells) → row_cells c ms cells (under + count) ≡ counter (suc c)
    row-counts c ms cells = ap (row_cells c ms cells) (omega arith) ∙ write-in (under + count) (suc n) (counter (suc c) ∷ elements c ms) cells 0 (omega arith)

    put-given : (cells : Cells) → cells_from cells (under + first) n ≡ many → cells_from (put_cells cells) (under + first) n ≡ many
    put-given cells e = from-same (put_cells cells) cells (under + first) n (λ j le lt. put-kept cells j (inl (omega (arith, lt)))) ∙ e

    each-after : (s t : State) (c : ℕ) → Stands there s → s.cells (under + count) ≡ counter c → cells_from s.cells (under + first) n ≡ many → c ≤ s.fires → c ≤ limit → step limit X.code s ≡ Goes t → After t
    each-after s t c h counts given few less e =
        let lt : c < places_of many = omega (arith, less, long) in
        go (ltb s.fires limit) refl (sym (each-step s c many h counts given lt) ∙ e)
      where
        now : Cells
        now = row_cells c many s.cells

        go : (b : Bool) → ltb s.fires limit ≡ b → (if b then Goes (at turn under now [] (suc s.fires)) else Over) ≡ Goes t → After t
        go false p e = absurd (no-goes-over t e)
        go true p e =
            let lt = ltb-true s.fires limit p in
            subst After (same-goes (at turn under now [] (suc s.fires)) t e)
            (record {
              c = suc c;
              some = omega arith;
              few = omega (arith, few);
              less = omega (arith, few, lt);
              counts = row-counts c many s.cells;
              given = row-given c many s.cells given;
              stands = inl (refl, omega arith, ahead);
            })

    after-step : (s t : State) → After s → step limit X.code s ≡ Goes t → After t
    after-step s t a e = go a.stands
      where
        body : Deep s.base s.pc s.calls → On s.pc s.calls ⊎ Stands turned s → After t
        body deep (inl on) =
            let w = apart-step X limit turn turned first count low apart_is under s.pc s.base s.cells s.cells s.calls s.fires t deep on (λ j o. refl) e in
            let later = w.later in
            let few = a.few in
            record {
              c = a.c;
              some = a.some;
              few = omega (arith, few, later);
              less = a.less;
              counts = w.kept₂ (under + count) (omega arith) ∙ a.counts;
              given = from-same t.cells s.cells (under + first) n (λ j le lt. w.kept₂ j (omega (arith, lt))) ∙ a.given;
              stands = inl w.deep;
            }
        body deep (inr h) =
            subst After (same-goes (at there under (put_cells s.cells) [] s.fires) t (sym (add-step s h) ∙ e))
            (record {
              c = a.c;
              some = a.some;
              few = a.few;
              less = a.less;
              counts = put-kept s.cells (under + count) (inr (omega arith)) ∙ a.counts;
              given = put-given s.cells a.given;
              stands = inr (refl, refl, refl);
            })

        go : Deep s.base s.pc s.calls ⊎ Stands there s → After t
        go (inl deep) = body deep (on-or-end s.base s.pc s.calls deep)
        go (inr h) = each-after s t a.c h a.counts a.given a.few a.less e

    after-all : (weigh : Weigh) (s t : State) (y : ℕ) → Reaches weigh limit X.code s t y → After s → After t
    after-all weigh _ _ _ (stays s) a = a
    after-all weigh _ _ _ (goes_on s t r y e more) a = after-all weigh t r y more (after-step s t a e)

    -- where it came behind the body, it does not come there again with no iteration counted
    never-again : (weigh : Weigh) (s t r : State) (y : ℕ) → Stands turned s → s.cells (under + count) ≡ counter 0 → cells_from s.cells (under + first) n ≡ many → step limit X.code s ≡ Goes t → Reaches weigh limit X.code t r y
        → Stands turned r → r.cells (under + count) ≡ counter 0 → ⊥
    never-again weigh s t r y h counts given e more end zero_is = go t r y (sym (same-goes (at there under (put_cells s.cells) [] s.fires) t (sym (add-step s h) ∙ e))) more end zero_is
      where
        go : (t r : State) (y : ℕ) → t ≡ at there under (put_cells s.cells) [] s.fires → Reaches weigh limit X.code t r y → Stands turned r → r.cells (under + count) ≡ counter 0 → ⊥
        go _ _ _ is (stays t) end zero_is = let p = end.0 in let q = ap (λ (z : State). z.pc) is in omega (arith, p, q, behind)
        go _ _ _ is (goes_on t q r y f more) end zero_is =
            let a = each-after t q 0 (ap (λ (z : State). z.pc) is, ap (λ (z : State). z.base) is, ap (λ (z : State). z.calls) is)
            (ap (λ (z : State). z.cells (under + count)) is ∙ (put-kept s.cells (under + count) (inr (omega arith)) ∙ counts))
            (ap (λ (z : State). cells_from z.cells (under + first) n) is ∙ put-given s.cells given) (omega arith) (omega arith) f in
            let last = after-all weigh q r y more a in
            let some = last.some in
            let same = count-once last.c 0 (sym last.counts ∙ zero_is) in
            omega (arith, some, same)

  -- ---- how it goes

  -- a state in the body, behind it, or before one of the first iterations, which there is
  abbrev pub Kind : (before : ℕ) → State → Type 0
  Kind m s =
      (Deep s.base s.pc s.calls × On s.pc s.calls)
      ⊎ (Stands turned s ⊎ (Stands there s × (j : ℕ) × (j < m) × (s.cells (under + count) ≡ counter j) × (j < places_of (cells_from s.cells (under + first) n))))

  pub data Path (m : ℕ) : State → State → Type 0 where
    here : (s : State) → Path m s s
    onward : (s t r : State) → Kind m s → step limit X.code s ≡ Goes t → Path m t r → Path m s r

  pub path-both : (m : ℕ) (s t r : State) → Path m s t → Path m t r → Path m s r
  path-both m _ _ r (here s) b = b
  path-both m _ _ r (onward s q t kind e a) b = onward s q r kind e (path-both m q t r a b)

  -- through the body, as on the other cells
  pub record Through (m : ℕ) (s : State) (a : Cells) (r : State) : Type 0 where
    pub last : Cells
    pub path : Path m (at s.pc s.base a s.calls s.fires) (at r.pc r.base last r.calls r.fires)
    pub agree : Agree last r.cells
    pub kept : (j : ℕ) → j ≤ under + count → last j ≡ a j

  pub through : (many : List Carried) → limit < places_of many → (weigh : Weigh) (m : ℕ) (s r : State) (y : ℕ) → Reaches weigh limit X.code s r y → Deep s.base s.pc s.calls → s.cells (under + count) ≡ counter 0 → cells_from s.cells (under + first) n ≡ many
      → Stands turned r → r.cells (under + count) ≡ counter 0 → (a : Cells) → Agree a s.cells → Through m s a r
  through many long weigh m _ _ _ (stays s) deep counts given end zero_is a same = record { last = a; path = here (at s.pc s.base a s.calls s.fires); agree = same; kept = λ j le. refl }
  through many long weigh m _ _ _ (goes_on s t r y e more) deep counts given end zero_is a same =
      go (on-or-end s.base s.pc s.calls deep)
      (λ w. through many long weigh m t r y more w.deep (w.kept₂ (under + count) (omega arith) ∙ counts) (from-same t.cells s.cells (under + first) n (λ j le lt. w.kept₂ j (omega (arith, lt))) ∙ given) end zero_is w.now w.agree)
    where
      go : On s.pc s.calls ⊎ Stands turned s → ((w : Twin X limit turn turned first count low apart_is under s.pc s.base a s.cells s.calls s.fires t) → Through m t w.now r) → Through m s a r
      go (inr h) next = absurd (never-again many long weigh s t r y h counts given e more end zero_is)
      go (inl on) next =
          let w = apart-step X limit turn turned first count low apart_is under s.pc s.base a s.cells s.calls s.fires t deep on same e in
          let q = next w in
          record {
            last = q.last;
            path = onward (at s.pc s.base a s.calls s.fires) (at t.pc t.base w.now t.calls t.fires) (at r.pc r.base q.last r.calls r.fires) (inl (deep, on)) w.went q.path;
            agree = q.agree;
            kept = λ j le. q.kept j le ∙ w.kept j le;
          }
