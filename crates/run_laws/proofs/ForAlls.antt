-- Where a ForAll goes to its results, so does the machine.
use Rattle.std.proofs.Common.{◌≡◌, ℕ, zero, suc, ◌+◌, ◌<◌, ◌≤◌, Bool, true, false, if◌then◌else◌, List, [], ◌∷◌, ◌++◌, length, map, drop, Option, Some, None, refl, sym, ap, ◌∙◌, subst, arith, ltb}
use Rattle.std.proofs.lemmas.Bool.{lt-ltb, le-ltb}
use Rattle.run_code.specs.Cause.{Cause}
use Rattle.run_code.specs.Cause.TheVariants as cause
use Rattle.run_code.specs.Carried.{Carried}
use Rattle.run_code.specs.Forms.{Form, Next, Enter, Iterate, Leave, Generating, Returning, errors, outputs_of, follow, gather, iterate, spread, columns, first_spoiled, are_as_long, places_of, items, heads, rows_of}
use Rattle.run_code.specs.Forms as form
use Rattle.run_code.specs.Demand.{Source, Vertex}
use Rattle.run_code.specs.Laws.{counting}
use Rattle.run_code.specs.Ordered.{RowsYield, Total}
use Rattle.run_code.proofs.Folding.{all-made, nothing-long, put-long, puts_all}
use Rattle.run_code.proofs.Refolding.{to-collected}
use Rattle.run_code.proofs.Totals.{both-fire, both-sum, nothing-fires, nothing-sum}
use Rattle.run_code.specs.Cells.{Cells, Operand, cells_at, cells_from, look, own_cells, write}
use Rattle.run_code.specs.Coded.{AreOf, ForAllIs, Hands, Layout, Starts, Weighs, the_for_all, yields}
use Rattle.run_code.specs.Collections.{AreWithin, Collect, collected, nothing_in, put_all}
use Rattle.run_code.specs.Machine.{Choice, Fails, Frame, Goes, Reaches, To, at, begun, counted, counter, doing, each, elements, sized, spread_to, spreads, stays, step}
use Rattle.run_code.specs.Refolds.{AllLong, Refolds, rows_sum}
use Rattle.run_code.specs.Steps.{Add, Each, Spread}
use Rattle.run_laws.proofs.Cells.{HoldsAll, Same, all-later, as-many, cells-held, held-both, write-below, write-in}
use Rattle.run_laws.proofs.Passing.{Below, Closed, Part, PartOf, any-closes, any-part, below-less, closed-as, copies-pass, errors-close, of-two, part-of, part-runs, then-closed}
use Rattle.run_laws.proofs.Rows.{all-next, append-length, are-long, drop-none, elements-length, map-length, row-held, row-length, rows-held, write-above}
use Rattle.run_laws.proofs.Stepping.{comes-as, comes-then, counts, does, one-step}
use Rattle.run_laws.specs.Facts.{AreLong}

-- what a generator's multiples lead to
pub data Spreading (F : Form) (body returns many : ℕ) (ks ms : List Carried) (turns : ℕ) (next : Next) (c : Choice) : Type 0 where
  goes_over : AreLong (places_of ms) ms → next ≡ spread body returns many ks ms (rows_of (places_of ms) (map items ms)) → c ≡ To turns → Spreading F body returns many ks ms turns next c
  goes_wrong : (e : Cause) → next ≡ Leave (errors (outputs_of F) e) → c ≡ Fails e → Spreading F body returns many ks ms turns next c

pub spreading : (F : Form) (body returns many : ℕ) (ks ms : List Carried) (turns : ℕ)
    → Spreading F body returns many ks ms turns (iterate F body returns many ks ms (first_spoiled ms)) (spreads (first_spoiled ms) ms turns)
spreading F body returns many ks ms turns = go (first_spoiled ms)
  where
    by-size : (b : Bool) → are_as_long ms ≡ b → Spreading F body returns many ks ms turns (if b then spread body returns many ks ms (rows_of (places_of ms) (map items ms)) else Leave (errors (outputs_of F) cause.Size)) (sized b turns)
    by-size true e = goes_over (are-long ms e) refl refl
    by-size false e = goes_wrong cause.Size refl refl

    go : (o : Option Cause) → Spreading F body returns many ks ms turns (iterate F body returns many ks ms o) (spreads o ms turns)
    go (Some e) = goes_wrong e refl refl
    go None = by-size (are_as_long ms) refl

module _ (X : Layout) (limit : ℕ) where
  pub record Over (room : ℕ) (args : List Operand) (generator body returns m : ℕ) (own : List Carried → List Carried → ℕ) (w a b lo : ℕ) : Type 0 where
    pub picks : List Bool
    pub mid : ℕ
    pub n : ℕ
    pub k : ℕ
    pub other : ℕ
    pub nodes : List Vertex
    pub results : List Source
    pub cs : List Collect
    pub extra : List Carried → ℕ
    pub made : ℕ
    pub turns : ℕ
    pub turn : ℕ
    pub turned : ℕ
    pub leave : ℕ
    pub left : ℕ
    pub lists : List Operand
    pub nexts : List Operand
    pub lasts : List Operand
    pub for_body : List Operand
    pub for_returns : List Operand
    pub start : Starts X a lo w picks args own mid
    pub generating : Part X limit room (own_cells picks args (lo + w)) generator (suc (suc a)) made mid lists
    pub spreads_are : X.code made ≡ Spread lists cs mid turns lo w b
    pub made_weighs : Weighs X generator made
    pub lists_many : length lists ≡ n
    pub cs_many : length cs ≡ k
    pub each_is : X.code turns ≡ Each n mid (mid + (n + k)) turn leave
    pub body_lent : AreOf args (own_cells picks args (lo + w)) for_body
    pub turning : Part X limit room (for_body ++ cells_at (suc (mid + (n + k))) n) body turn turned (suc (mid + (n + k)) + n) nexts
    pub adds : X.code turned ≡ Add cs nexts (mid + n) turns
    pub turn_weighs : (ks : List Carried) → X.weigh turned ks [] ≡ X.weights.of_results body ks + extra ks
    pub turn_many : length nexts ≡ m
    pub within : AreWithin m cs
    pub refolds : Refolds X.weights (length args + n) m cs returns other (X.order returns) (X.network returns).results nodes results extra
    pub returns_lent : AreOf args (own_cells picks args (lo + w)) for_returns
    pub returning : PartOf X limit room ((for_returns ++ cells_at mid n) ++ cells_at (mid + n) k) other nodes results leave left (mid + (n + k)) lasts
    pub hands : Hands X other left lasts lo w b

  pub over-of : (room : ℕ) (args : List Operand) (generator body returns m : ℕ) (own : List Carried → List Carried → ℕ) (w a b lo : ℕ)
      → ForAllIs X room args generator body returns m own w a b lo → Over room args generator body returns m own w a b lo
  over-of room _ _ _ _ _ _ _ _ _ _ (the_for_all args generator body returns m own w a b lo picks mid n k made turns turn turned leave left other nodes results cs extra lists nexts lasts for_body for_returns
      start generating spreads_are made_weighs lists_many cs_many each_is body_lent turning adds turn_weighs turn_many within refolds returns_lent returning hands) =
      record {
        picks = picks;
        mid = mid;
        n = n;
        k = k;
        other = other;
        nodes = nodes;
        results = results;
        cs = cs;
        extra = extra;
        cs_many = cs_many;
        within = within;
        refolds = refolds;
        made = made;
        turns = turns;
        turn = turn;
        turned = turned;
        leave = leave;
        left = left;
        lists = lists;
        nexts = nexts;
        lasts = lasts;
        for_body = for_body;
        for_returns = for_returns;
        start = start;
        generating = part-of X limit room (own_cells picks args (lo + w)) generator (suc (suc a)) made mid lists generating;
        spreads_are = spreads_are;
        made_weighs = made_weighs;
        lists_many = lists_many;
        each_is = each_is;
        body_lent = body_lent;
        turning = part-of X limit room (for_body ++ cells_at (suc (mid + (n + k))) n) body turn turned (suc (mid + (n + k)) + n) nexts turning;
        adds = adds;
        turn_weighs = turn_weighs;
        turn_many = turn_many;
        returns_lent = returns_lent;
        returning = any-part X limit room ((for_returns ++ cells_at mid n) ++ cells_at (mid + n) k) other nodes results leave left (mid + (n + k)) lasts returning;
        hands = hands;
      }

  module _ (room : ℕ) (args : List Operand) (generator body returns m : ℕ) (own : List Carried → List Carried → ℕ) (w a b lo : ℕ) (x : Over room args generator body returns m own w a b lo) where
    abbrev pub F : Form
    F = form.ForAll generator body returns m w

    abbrev pub mine : List Operand
    mine = own_cells x.picks args (lo + w)

    abbrev pub top : ℕ
    top = x.mid + (x.n + x.k)

    -- the inputs, the generator's multiples, those of the body's results so far, and how many iterations were begun
    pub record IsSpread (base : ℕ) (cells : Cells) (ks ms cols : List Carried) (i : ℕ) : Type 0 where
      pub outer : HoldsAll cells base lo args ks
      pub inner : HoldsAll cells base x.mid mine ks
      pub given : HoldsAll cells base top (cells_at x.mid x.n) ms
      pub built : HoldsAll cells base top (cells_at (x.mid + x.n) x.k) cols
      pub at_turn : cells (base + top) ≡ counter i

    pub low : lo ≤ x.mid
    low = let f = x.start.fits in omega (arith, f)

    -- no cell is another up to the count
    pub spread-later : (base : ℕ) (cells old : Cells) (ks ms cols : List Carried) (i : ℕ) → Same (base + suc top) cells old → IsSpread base old ks ms cols i → IsSpread base cells ks ms cols i
    spread-later base cells old ks ms cols i same h =
        let l = low in
        record {
          outer = all-later cells old base lo lo args ks (omega arith) (λ j lt. same j (omega (arith, lt, l))) h.outer;
          inner = all-later cells old base x.mid x.mid mine ks (omega arith) (λ j lt. same j (omega (arith, lt))) h.inner;
          given = all-later cells old base top top (cells_at x.mid x.n) ms (omega arith) (λ j lt. same j (omega (arith, lt))) h.given;
          built = all-later cells old base top top (cells_at (x.mid + x.n) x.k) cols (omega arith) (λ j lt. same j (omega (arith, lt))) h.built;
          at_turn = same (base + top) (omega arith) ∙ h.at_turn;
        }

    -- ---- the multiples are brought on

    pub record SpreadOn (base : ℕ) (cells : Cells) (calls : List Frame) (fires sum : ℕ) (ks ms : List Carried) : Type 0 where
      pub last : Cells
      pub went : step limit X.code (at x.made base cells calls fires) ≡ Goes (at x.turns base last calls fires)
      pub comes : Reaches X.weigh limit X.code (at x.made base cells calls fires) (at x.turns base last calls fires) sum
      pub same : Same (base + lo) last cells
      pub kept : IsSpread base last ks ms (nothing_in x.cs) 0

    pub spread-goes : (base : ℕ) (cells : Cells) (calls : List Frame) (fires : ℕ) (ks ms : List Carried) → HoldsAll cells base lo args ks → HoldsAll cells base x.mid mine ks
        → map (look cells base) x.lists ≡ ms → spreads (first_spoiled ms) ms x.turns ≡ To x.turns → SpreadOn base cells calls fires (X.weights.of_results generator ms) ks ms
    spread-goes base cells calls fires ks ms outer inner told to =
        let l = low in
        let many : length ms ≡ x.n = ap length (sym told) ∙ (map-length (look cells base) x.lists ∙ x.lists_many) in
        let none = nothing_in x.cs in
        let none_many : length (nothing_in x.cs) ≡ x.k = nothing-long x.cs ∙ x.cs_many in
        let first = write (base + x.mid) (x.n + x.k) (ms ++ none) cells in
        let last = write (base + top) 1 (counter 0 ∷ []) first in
        let does_spread = ap (λ z. spread_to (spreads (first_spoiled z) z x.turns) z x.cs x.mid lo w b base cells calls fires) told
        ∙ (ap (λ z. spread_to z ms x.cs x.mid lo w b base cells calls fires) to
        ∙ (ap (λ k. Goes (at x.turns base (write (base + (x.mid + (k + length x.cs))) 1 (counter 0 ∷ []) (write (base + x.mid) (k + length x.cs) (ms ++ none) cells)) calls fires)) many
        ∙ ap (λ k. Goes (at x.turns base (write (base + (x.mid + (x.n + k))) 1 (counter 0 ∷ []) (write (base + x.mid) (x.n + k) (ms ++ none) cells)) calls fires)) x.cs_many)) in
        let rows = rows-held cells base x.mid x.n x.k ms none top many none_many (omega arith) in
        let above : Same (base + top) last first = λ j lt. write-below (base + top) 1 (counter 0 ∷ []) first j lt in
        let same : Same (base + x.mid) last cells = λ j lt. above j (omega (arith, lt)) ∙ write-below (base + x.mid) (x.n + x.k) (ms ++ none) cells j lt in
        record {
          last = last;
          went = does limit X.code (Spread x.lists x.cs x.mid x.turns lo w b) x.made base cells calls fires (Goes (at x.turns base last calls fires)) x.spreads_are does_spread;
          comes = one-step X.weigh limit X.code x.made base cells calls fires (at x.turns base last calls fires) (Spread x.lists x.cs x.mid x.turns lo w b) (X.weights.of_results generator ms) x.spreads_are does_spread
              (x.made_weighs (map (look cells base) x.lists) ∙ ap (X.weights.of_results generator) told);
          same = λ j lt. same j (omega (arith, lt, l));
          kept = record {
            outer = all-later last cells base lo lo args ks (omega arith) (λ j lt. same j (omega (arith, lt, l))) outer;
            inner = all-later last cells base x.mid x.mid mine ks (omega arith) same inner;
            given = all-later last first base top top (cells_at x.mid x.n) ms (omega arith) above rows.0;
            built = all-later last first base top top (cells_at (x.mid + x.n) x.k) none (omega arith) above rows.1;
            at_turn = ap last (omega arith) ∙ write-in (base + top) 1 (counter 0 ∷ []) first 0 (omega arith);
          };
        }

    -- ---- an iteration begins, or there is none left

    pub each-is : (base : ℕ) (cells : Cells) (calls : List Frame) (fires : ℕ) (ks ms cols : List Carried) (i : ℕ) → IsSpread base cells ks ms cols i
        → doing limit (Each x.n x.mid top x.turn x.leave) x.turns base cells calls fires ≡ each (ltb i (places_of ms)) i ms limit x.n top x.turn x.leave base cells calls fires
    each-is base cells calls fires ks ms cols i h =
        ap (λ z. each (ltb (begun z) (places_of (cells_from cells (base + x.mid) x.n))) (begun z) (cells_from cells (base + x.mid) x.n) limit x.n top x.turn x.leave base cells calls fires) h.at_turn
        ∙ ap (λ z. each (ltb i (places_of z)) i z limit x.n top x.turn x.leave base cells calls fires) (cells-held cells base top x.mid x.n ms h.given)

    -- the cells of an iteration
    abbrev pub row_cells : ℕ → Cells → List Carried → ℕ → Cells
    row_cells base cells ms i = write (base + top) (suc x.n) (counter (suc i) ∷ elements i ms) cells

    pub each-goes : (base : ℕ) (cells : Cells) (calls : List Frame) (fires : ℕ) (ks ms cols : List Carried) (i : ℕ) → IsSpread base cells ks ms cols i → i < places_of ms
        → doing limit (Each x.n x.mid top x.turn x.leave) x.turns base cells calls fires ≡ counted limit fires (λ f. Goes (at x.turn base (row_cells base cells ms i) calls f))
    each-goes base cells calls fires ks ms cols i h lt =
        each-is base cells calls fires ks ms cols i h ∙ ap (λ z. each z i ms limit x.n top x.turn x.leave base cells calls fires) (lt-ltb i (places_of ms) lt)

    pub each-leaves : (base : ℕ) (cells : Cells) (calls : List Frame) (fires : ℕ) (ks ms cols : List Carried) (i : ℕ) → IsSpread base cells ks ms cols i → places_of ms ≤ i
        → doing limit (Each x.n x.mid top x.turn x.leave) x.turns base cells calls fires ≡ Goes (at x.leave base cells calls fires)
    each-leaves base cells calls fires ks ms cols i h le =
        each-is base cells calls fires ks ms cols i h ∙ ap (λ z. each z i ms limit x.n top x.turn x.leave base cells calls fires) (le-ltb i (places_of ms) le)

    -- so its elements are held, beside all else
    pub record RowOn (base : ℕ) (cells : Cells) (ks ms cols : List Carried) (i : ℕ) : Type 0 where
      pub kept : IsSpread base (row_cells base cells ms i) ks ms cols (suc i)
      pub lent : HoldsAll (row_cells base cells ms i) base (suc top + x.n) (x.for_body ++ cells_at (suc top) x.n) (ks ++ elements i ms)
      pub same : Same (base + lo) (row_cells base cells ms i) cells

    pub row-on : (base : ℕ) (cells : Cells) (ks ms cols : List Carried) (i : ℕ) → IsSpread base cells ks ms cols i → AreLong (places_of ms) ms → i < places_of ms → RowOn base cells ks ms cols i
    row-on base cells ks ms cols i h long lt =
        let l = low in
        let now = row_cells base cells ms i in
        let e : length (elements i ms) ≡ x.n = elements-length i (places_of ms) ms long lt ∙ row-length cells base top x.mid x.n ms h.given in
        let same : Same (base + top) now cells = λ j lt. write-below (base + top) (suc x.n) (counter (suc i) ∷ elements i ms) cells j lt in
        let held = rows-held cells base top 1 x.n (counter (suc i) ∷ []) (elements i ms) (suc top + x.n) refl e (omega arith) in
        let outer = all-later now cells base lo lo args ks (omega arith) (λ j lt. same j (omega (arith, lt, l))) h.outer in
        let inner = all-later now cells base x.mid x.mid mine ks (omega arith) (λ j lt. same j (omega (arith, lt))) h.inner in
        record {
          kept = record {
            outer = outer;
            inner = inner;
            given = all-later now cells base top top (cells_at x.mid x.n) ms (omega arith) same h.given;
            built = all-later now cells base top top (cells_at (x.mid + x.n) x.k) cols (omega arith) same h.built;
            at_turn = ap now (omega arith) ∙ write-in (base + top) (suc x.n) (counter (suc i) ∷ elements i ms) cells 0 (omega arith);
          };
          lent = held-both now base (suc top + x.n) x.for_body (cells_at (suc top) x.n) ks (elements i ms) (of-two now base lo x.mid (suc top + x.n) args mine x.for_body ks x.body_lent (omega (arith, l)) (omega arith) outer inner)
              (subst (λ q. HoldsAll (write (base + top) q (counter (suc i) ∷ elements i ms) cells) base (suc top + x.n) (cells_at (suc top) x.n) (elements i ms)) one_more
              (subst (λ q. HoldsAll (write (base + top) (1 + x.n) (counter (suc i) ∷ elements i ms) cells) base (suc top + x.n) (cells_at q x.n) (elements i ms)) next held.1));
          same = λ j lt. same j (omega (arith, lt, l));
        }
      where
        one_more : 1 + x.n ≡ suc x.n
        one_more = omega arith

        next : top + 1 ≡ suc top
        next = omega arith

    -- ---- an iteration's results are added

    pub record AddsOn (base : ℕ) (cells : Cells) (calls : List Frame) (fires sum : ℕ) (ks ms cols rs : List Carried) (i : ℕ) : Type 0 where
      pub last : Cells
      pub went : step limit X.code (at x.turned base cells calls fires) ≡ Goes (at x.turns base last calls fires)
      pub comes : Reaches X.weigh limit X.code (at x.turned base cells calls fires) (at x.turns base last calls fires) sum
      pub same : Same (base + lo) last cells
      pub kept : IsSpread base last ks ms (put_all x.cs rs cols) i
      pub long : length rs ≡ m

    pub adds-go : (base : ℕ) (cells : Cells) (calls : List Frame) (fires : ℕ) (ks ms cols rs : List Carried) (i : ℕ) → IsSpread base cells ks ms cols i → map (look cells base) x.nexts ≡ rs
        → AddsOn base cells calls fires (X.weights.of_results body rs + x.extra rs) ks ms cols rs i
    adds-go base cells calls fires ks ms cols rs i h told =
        let l = low in
        let many : length rs ≡ m = ap length (sym told) ∙ (map-length (look cells base) x.nexts ∙ x.turn_many) in
        let cols_many = row-length cells base top (x.mid + x.n) x.k cols h.built in
        let ms' = put_all x.cs rs cols in
        let last = write (base + (x.mid + x.n)) x.k ms' cells in
        let does_add = ap (λ k. Goes (at x.turns base (write (base + (x.mid + x.n)) k (put_all x.cs (map (look cells base) x.nexts) (cells_from cells (base + (x.mid + x.n)) k)) cells) calls fires)) x.cs_many
        ∙ (ap (λ z. Goes (at x.turns base (write (base + (x.mid + x.n)) x.k (put_all x.cs z (cells_from cells (base + (x.mid + x.n)) x.k)) cells) calls fires)) told
        ∙ ap (λ z. Goes (at x.turns base (write (base + (x.mid + x.n)) x.k (put_all x.cs rs z) cells) calls fires)) (cells-held cells base top (x.mid + x.n) x.k cols h.built)) in
        let same : Same (base + (x.mid + x.n)) last cells = λ j lt. write-below (base + (x.mid + x.n)) x.k ms' cells j lt in
        record {
          last = last;
          went = does limit X.code (Add x.cs x.nexts (x.mid + x.n) x.turns) x.turned base cells calls fires (Goes (at x.turns base last calls fires)) x.adds does_add;
          comes = one-step X.weigh limit X.code x.turned base cells calls fires (at x.turns base last calls fires) (Add x.cs x.nexts (x.mid + x.n) x.turns) (X.weights.of_results body rs + x.extra rs) x.adds does_add
              (x.turn_weighs (map (look cells base) x.nexts) ∙ ap (λ z. X.weights.of_results body z + x.extra z) told);
          same = λ j lt. same j (omega (arith, lt, l));
          long = many;
          kept = record {
            outer = all-later last cells base lo lo args ks (omega arith) (λ j lt. same j (omega (arith, lt, l))) h.outer;
            inner = all-later last cells base x.mid x.mid mine ks (omega arith) (λ j lt. same j (omega (arith, lt))) h.inner;
            given = given-kept last cells base ms (λ j lt. same j lt) h.given;
            built = row-held cells base (x.mid + x.n) x.k ms' top (put-long x.cs rs cols (cols_many ∙ sym x.cs_many) ∙ x.cs_many) (omega arith);
            at_turn = write-above (base + (x.mid + x.n)) x.k ms' cells (base + top) (omega arith) ∙ h.at_turn;
          };
        }
      where
        -- the generator's multiples stand below those of the body
        lower : (cells : Cells) (base i k : ℕ) (ms : List Carried) → i + k ≤ x.mid + x.n → HoldsAll cells base top (cells_at i k) ms → HoldsAll cells base (x.mid + x.n) (cells_at i k) ms
        lower cells base i zero [] le h = tt
        lower cells base i zero (y ∷ ys) le h = absurd h
        lower cells base i (suc k) [] le h = absurd h
        lower cells base i (suc k) (y ∷ ys) le h = ((omega (arith, le), h.0.1), lower cells base (suc i) k ys (omega (arith, le)) h.1)

        given-kept : (last cells : Cells) (base : ℕ) (ms : List Carried) → Same (base + (x.mid + x.n)) last cells → HoldsAll cells base top (cells_at x.mid x.n) ms → HoldsAll last base top (cells_at x.mid x.n) ms
        given-kept last cells base ms same h = all-later last cells base (x.mid + x.n) top (cells_at x.mid x.n) ms (omega arith) same (lower cells base x.mid x.n ms (omega arith) h)

    -- ---- all iterations

    abbrev pub after : ℕ → List Carried → List Carried → ℕ → List (List Carried)
    after k ks ms i = map (λ r. ks ++ r) (rows_of k (map (drop i) (map items ms)))

    -- the rows after one
    pub after-next : (k : ℕ) (ks ms : List Carried) (i : ℕ) → map (λ r. ks ++ r) (rows_of k (map (drop 1) (map (drop i) (map items ms)))) ≡ after k ks ms (suc i)
    after-next k ks ms i = ap (λ z. map (λ r. ks ++ r) (rows_of k z)) (all-next i (map items ms))

    pub record RowsDone (base : ℕ) (cells : Cells) (calls : List Frame) (fires fires' sum : ℕ) (ks ms cols : List Carried) (more : List (List Carried)) (i : ℕ) : Type 0 where
      pub last : Cells
      pub comes : Reaches X.weigh limit X.code (at x.turns base cells calls fires) (at x.turns base last calls fires') sum
      pub same : Same (base + lo) last cells
      pub kept : IsSpread base last ks ms (puts_all x.cs more cols) i
      pub long : AllLong m more

    pub rows-pass : (n : ℕ) → Below X limit (suc n) → (k : ℕ) (base : ℕ) (cells : Cells) (calls : List Frame) (fires : ℕ) (ks ms cols : List Carried) (i : ℕ) (more : List (List Carried)) (c : Total (counting X.weights))
        → AreLong (places_of ms) ms → i + k ≡ places_of ms → IsSpread base cells ks ms cols i
        → RowsYield (counting X.weights) X.network X.order (yields X n) body (after k ks ms i) more c → fires + c.fires ≤ limit
        → RowsDone base cells calls fires (fires + c.fires) (c.sum + rows_sum x.extra more) ks ms cols more (i + k)
    rows-pass n below zero base cells calls fires ks ms cols i more c long full h goes le =
        let zf = nothing-fires X.weights c goes.1 in
        let zs = nothing-sum X.weights c goes.1 in
        let none : rows_sum x.extra more ≡ 0 = ap (rows_sum x.extra) goes.0 in
        record {
          last = cells;
          comes = comes-as X.weigh limit X.code (at x.turns base cells calls fires) x.turns base cells calls fires (fires + c.fires) 0 (c.sum + rows_sum x.extra more) (omega (arith, zf)) (omega (arith, zs, none)) (stays (at x.turns base cells calls fires));
          same = λ j lt. refl;
          kept = subst (λ z. IsSpread base cells ks ms (puts_all x.cs z cols) (i + 0)) (sym goes.0) (subst (IsSpread base cells ks ms cols) (omega arith) h);
          long = subst (AllLong m) (sym goes.0) tt;
        }
    rows-pass n below (suc k) base cells calls fires ks ms cols i more c long full h goes le =
        let rs = goes.0 in
        let others = goes.1 in
        let one = goes.2 in
        let later = goes.3 in
        let bf = both-fire X.weights c one later 1 0 goes.7 in
        let bs = both-sum X.weights c one later 1 0 goes.7 in
        let lt : i < places_of ms = omega (arith, full) in
        let now = row_cells base cells ms i in
        let row = row-on base cells ks ms cols i h long lt in
        let begins = one-step X.weigh limit X.code x.turns base cells calls fires (at x.turn base now calls (suc fires)) (Each x.n x.mid top x.turn x.leave) 0 x.each_is
        (each-goes base cells calls fires ks ms cols i h lt ∙ counts limit X.code fires (λ f. Goes (at x.turn base now calls f)) (omega (arith, le, bf))) refl in
        let r = part-runs X limit (suc n) n (omega arith) below room (x.for_body ++ cells_at (suc top) x.n) body x.turn x.turned (suc top + x.n) x.nexts x.turning base now calls (suc fires) (ks ++ elements i ms) rs one
        row.lent goes.4 (omega (arith, le, bf)) in
        let whole = r.whole in
        let l = low in
        let d = adds-go base r.cells' calls (suc fires + one.fires) ks ms cols rs (suc i) (spread-later base r.cells' now ks ms cols (suc i) (λ j lt. r.same j (omega (arith, lt))) row.kept) r.told in
        let q = rows-pass n below k base d.last calls (suc fires + one.fires) ks ms (put_all x.cs rs cols) (suc i) others later long (omega (arith, full)) d.kept
        (subst (λ z. RowsYield (counting X.weights) X.network X.order (yields X n) body z others later) (after-next k ks ms i) goes.5) (omega (arith, le, bf)) in
        let later' = later.sum + rows_sum x.extra others in
        let split : rows_sum x.extra more ≡ x.extra rs + rows_sum x.extra others = ap (rows_sum x.extra) goes.6 in
        record {
          last = q.last;
          comes = comes-as X.weigh limit X.code (at x.turns base cells calls fires) x.turns base q.last calls ((suc fires + one.fires) + later.fires) (fires + c.fires) (0 + (r.sum + ((X.weights.of_results body rs + x.extra rs) + later'))) (c.sum + rows_sum x.extra more) (omega (arith, bf)) (omega (arith, bs, whole, split))
              (comes-then X.weigh limit X.code (at x.turns base cells calls fires) (at x.turn base now calls (suc fires)) (at x.turns base q.last calls ((suc fires + one.fires) + later.fires)) 0 (r.sum + ((X.weights.of_results body rs + x.extra rs) + later')) begins
              (comes-then X.weigh limit X.code (at x.turn base now calls (suc fires)) (at x.turned base r.cells' calls (suc fires + one.fires)) (at x.turns base q.last calls ((suc fires + one.fires) + later.fires)) r.sum ((X.weights.of_results body rs + x.extra rs) + later') r.comes
              (comes-then X.weigh limit X.code (at x.turned base r.cells' calls (suc fires + one.fires)) (at x.turns base d.last calls (suc fires + one.fires)) (at x.turns base q.last calls ((suc fires + one.fires) + later.fires)) (X.weights.of_results body rs + x.extra rs) later' d.comes q.comes)));
          same = λ j lt. q.same j lt ∙ (d.same j lt ∙ (r.same j (omega (arith, lt, l)) ∙ row.same j lt));
          kept = subst (λ z. IsSpread base q.last ks ms (puts_all x.cs z cols) (i + suc k)) (sym goes.6) (subst (IsSpread base q.last ks ms (puts_all x.cs others (put_all x.cs rs cols))) (omega arith) q.kept);
          long = subst (AllLong m) (sym goes.6) (d.long, q.long);
        }

    -- ---- the returns

    pub lent-returns : (base : ℕ) (cells : Cells) (ks ms cols : List Carried) (i : ℕ) → IsSpread base cells ks ms cols i
        → HoldsAll cells base top ((x.for_returns ++ cells_at x.mid x.n) ++ cells_at (x.mid + x.n) x.k) ((ks ++ ms) ++ cols)
    lent-returns base cells ks ms cols i h =
        let l = low in
        held-both cells base top (x.for_returns ++ cells_at x.mid x.n) (cells_at (x.mid + x.n) x.k) (ks ++ ms) cols
        (held-both cells base top x.for_returns (cells_at x.mid x.n) ks ms (of-two cells base lo x.mid top args mine x.for_returns ks x.returns_lent (omega (arith, l)) (omega arith) h.outer h.inner) h.given) h.built

    pub plain-many : (base : ℕ) (cells : Cells) (ks ms cols : List Carried) (i : ℕ) → IsSpread base cells ks ms cols i → length (ks ++ ms) ≡ length args + x.n
    plain-many base cells ks ms cols i h =
        let a = append-length ks ms in
        let e = as-many cells base lo args ks h.outer in
        let f = row-length cells base top x.mid x.n ms h.given in
        omega (arith, a, e, f)

    -- no iteration is left: the returns goes on the columns, so the other graph goes on what was collected
    returning-closes : (n : ℕ) → Below X limit n → (base : ℕ) (cells : Cells) (calls : List Frame) (fires : ℕ) (ks ms : List Carried) (lists : List (List Carried)) (i : ℕ) (rs : List Carried) (c : Total (counting X.weights))
        → AllLong m lists → places_of ms ≤ i → IsSpread base cells ks ms (collected x.cs lists) i → yields X n F ks (Enter false returns ((ks ++ ms) ++ columns m lists) Returning) rs c → fires + c.fires ≤ limit
        → (y : ℕ) × (c.sum ≡ y + rows_sum x.extra lists) × Closed X limit w b lo x.turns base cells calls fires (fires + c.fires) y rs
    returning-closes zero below base cells calls fires ks ms lists i rs c long full h goes le = absurd goes
    returning-closes (suc zero) below base cells calls fires ks ms lists i rs c long full h goes le = absurd goes.4
    returning-closes (suc (suc n)) below base cells calls fires ks ms lists i rs c long full h goes le =
        let inner = goes.1 in
        let later = goes.2 in
        let zf = nothing-fires X.weights later goes.4.1 in
        let zs = nothing-sum X.weights later goes.4.1 in
        let bf = both-fire X.weights c inner later 0 0 goes.5 in
        let bs = both-sum X.weights c inner later 0 0 goes.5 in
        let l = low in
        let cols = collected x.cs lists in
        let g = to-collected X.weights (length args + x.n) m x.cs returns x.other (yields X (suc n)) (ks ++ ms) lists (plain-many base cells ks ms cols i h) long (X.order returns) x.nodes (X.network returns).results x.results x.extra x.refolds goes.0 inner goes.3 in
        let gf = g.2 in
        let gs = g.3 in
        let q = any-closes X limit (suc (suc n)) (suc n) (omega arith) below room ((x.for_returns ++ cells_at x.mid x.n) ++ cells_at (x.mid + x.n) x.k) x.other x.nodes x.results x.leave x.left top x.lasts x.returning lo w b x.hands (omega (arith, l))
        base cells calls fires ((ks ++ ms) ++ cols) goes.0 g.0 (lent-returns base cells ks ms cols i h) g.1 (omega (arith, le, bf, zf, gf)) in
        let jump = one-step X.weigh limit X.code x.turns base cells calls fires (at x.leave base cells calls fires) (Each x.n x.mid top x.turn x.leave) 0 x.each_is (each-leaves base cells calls fires ks ms cols i h full) refl in (
          g.0.sum,
          omega (arith, bs, zs, gs),
          subst (λ z. Closed X limit w b lo x.turns base cells calls fires (fires + c.fires) g.0.sum z) (sym goes.4.0)
              (closed-as X limit w b lo x.turns base cells calls fires (fires + g.0.fires) (fires + c.fires) (0 + g.0.sum) g.0.sum goes.0 (omega (arith, bf, zf, gf)) (omega arith)
              (then-closed X limit w b lo x.turns x.leave base cells cells calls fires fires (fires + g.0.fires) 0 g.0.sum goes.0 jump (λ j lt. refl) q)),
        )

    -- from the first look at the count on
    spread-closes : (n : ℕ) → Below X limit n → (k : ℕ) (base : ℕ) (cells : Cells) (calls : List Frame) (fires : ℕ) (ks ms : List Carried) (rs : List Carried) (c : Total (counting X.weights))
        → AreLong (places_of ms) ms → k ≡ places_of ms → IsSpread base cells ks ms (nothing_in x.cs) 0
        → yields X n F ks (spread body returns m ks ms (rows_of k (map items ms))) rs c → fires + c.fires ≤ limit
        → Closed X limit w b lo x.turns base cells calls fires (fires + c.fires) c.sum rs
    spread-closes n below zero base cells calls fires ks ms rs c long full h goes le =
        let q = returning-closes n below base cells calls fires ks ms [] 0 rs c tt (omega (arith, full)) (subst (λ z. IsSpread base cells ks ms z 0) (all-made x.cs []) h) goes le in
        let e = q.1 in
        closed-as X limit w b lo x.turns base cells calls fires (fires + c.fires) (fires + c.fires) q.0 c.sum rs refl (omega (arith, e)) q.2
    spread-closes zero below (suc k) base cells calls fires ks ms rs c long full h goes le = absurd goes
    spread-closes (suc n) below (suc k) base cells calls fires ks ms rs c long full h goes le =
        let lists = goes.0 in
        let inner = goes.1 in
        let later = goes.2 in
        let bf = both-fire X.weights c inner later 0 0 goes.5 in
        let bs = both-sum X.weights c inner later 0 0 goes.5 in
        let r = rows-pass n below (suc k) base cells calls fires ks ms (nothing_in x.cs) 0 lists inner long (omega (arith, full)) h
        (subst (λ z. RowsYield (counting X.weights) X.network X.order (yields X n) body (map (λ r. ks ++ r) (rows_of (suc k) z)) lists inner) (sym (drop-none (map items ms))) goes.3) (omega (arith, le, bf)) in
        let kept = subst (λ z. IsSpread base r.last ks ms z (0 + suc k)) (all-made x.cs lists) r.kept in
        let q = returning-closes n (below-less X limit (suc n) n (omega arith) below) base r.last calls (fires + inner.fires) ks ms lists (0 + suc k) rs later r.long (omega (arith, full)) kept goes.4 (omega (arith, le, bf)) in
        let e = q.1 in
        closed-as X limit w b lo x.turns base cells calls fires ((fires + inner.fires) + later.fires) (fires + c.fires) ((inner.sum + rows_sum x.extra lists) + q.0) c.sum rs (omega (arith, bf)) (omega (arith, bs, e))
        (then-closed X limit w b lo x.turns x.turns base cells r.last calls fires (fires + inner.fires) ((fires + inner.fires) + later.fires) (inner.sum + rows_sum x.extra lists) q.0 rs r.comes r.same q.2)

    -- after the generator
    made-closes : (n : ℕ) → Below X limit n → (base : ℕ) (cells : Cells) (calls : List Frame) (fires : ℕ) (ks ms : List Carried) (rs : List Carried) (c : Total (counting X.weights)) (next : Next)
        → HoldsAll cells base lo args ks → HoldsAll cells base x.mid mine ks → map (look cells base) x.lists ≡ ms → Spreading F body returns m ks ms x.turns next (spreads (first_spoiled ms) ms x.turns)
        → yields X n F ks next rs c → fires + c.fires ≤ limit → Closed X limit w b lo x.made base cells calls fires (fires + c.fires) (X.weights.of_results generator ms + c.sum) rs
    made-closes zero below base cells calls fires ks ms rs c next outer inner told s goes le = absurd goes
    made-closes (suc n) below base cells calls fires ks ms rs c next outer inner told (goes_over long next_is to) goes le =
        let s = spread-goes base cells calls fires ks ms outer inner told to in
        let q = spread-closes (suc n) below (places_of ms) base s.last calls fires ks ms rs c long refl s.kept (subst (λ y. yields X (suc n) F ks y rs c) next_is goes) le in
        then-closed X limit w b lo x.made x.turns base cells s.last calls fires fires (fires + c.fires) (X.weights.of_results generator ms) c.sum rs s.comes s.same q
    made-closes (suc n) below base cells calls fires ks ms rs c next outer inner told (goes_wrong e next_is to) goes le =
        let out = subst (λ y. yields X (suc n) F ks y rs c) next_is goes in
        let zf = nothing-fires X.weights c out.1 in
        let zs = nothing-sum X.weights c out.1 in
        closed-as X limit w b lo x.made base cells calls fires fires (fires + c.fires) (X.weights.of_results generator ms) (X.weights.of_results generator ms + c.sum) rs (omega (arith, zf)) (omega (arith, zs))
        (errors-close X limit w b lo x.made base cells calls fires (X.weights.of_results generator ms) (Spread x.lists x.cs x.mid x.turns lo w b) e rs x.spreads_are
        (ap (λ z. spread_to (spreads (first_spoiled z) z x.turns) z x.cs x.mid lo w b base cells calls fires) told ∙ ap (λ z. spread_to z ms x.cs x.mid lo w b base cells calls fires) to)
        (x.made_weighs (map (look cells base) x.lists) ∙ ap (X.weights.of_results generator) told) out.0)

    pub for-all-passes : (n : ℕ) → Below X limit (suc n) → (base : ℕ) (cells : Cells) (calls : List Frame) (fires : ℕ) (ks rs : List Carried) (c : Total (counting X.weights))
        → HoldsAll cells base lo args ks → yields X (suc n) F ks (Enter false generator ks Generating) rs c → fires + (1 + c.fires) ≤ limit
        → Closed X limit w b lo a base cells calls fires (fires + (1 + c.fires)) (own ks rs + c.sum) rs
    for-all-passes n below base cells calls fires ks rs c held goes le =
        let ms = goes.0 in
        let inner = goes.1 in
        let later = goes.2 in
        let bf = both-fire X.weights c inner later 0 0 goes.5 in
        let bs = both-sum X.weights c inner later 0 0 goes.5 in
        let l = low in
        let p = copies-pass X limit args own w a lo x.mid x.picks x.start base cells calls fires ks rs held (omega (arith, le)) in
        let r = part-runs X limit (suc n) n (omega arith) below room mine generator (suc (suc a)) x.made x.mid x.lists x.generating base p.cells' calls (suc fires) ks ms inner p.held goes.3 (omega (arith, le, bf)) in
        let whole = r.whole in
        let same₁ : Same (base + lo) p.cells' cells = λ j lt. p.same j (omega (arith, lt)) in
        let same₂ : Same (base + lo) r.cells' p.cells' = λ j lt. r.same j (omega (arith, lt, l)) in
        let q = made-closes n (below-less X limit (suc n) n (omega arith) below) base r.cells' calls (suc fires + inner.fires) ks ms rs later (iterate F body returns m ks ms (first_spoiled ms))
        (all-later r.cells' p.cells' base lo lo args ks (omega arith) same₂ (all-later p.cells' cells base lo lo args ks (omega arith) same₁ held)) (all-later r.cells' p.cells' base x.mid x.mid mine ks (omega arith) r.same p.held) r.told
        (spreading F body returns m ks ms x.turns) goes.4 (omega (arith, le, bf)) in
        closed-as X limit w b lo a base cells calls fires ((suc fires + inner.fires) + later.fires) (fires + (1 + c.fires)) (own ks rs + (r.sum + (X.weights.of_results generator ms + later.sum))) (own ks rs + c.sum) rs (omega (arith, bf)) (omega (arith, bs, whole))
        (then-closed X limit w b lo a (suc (suc a)) base cells p.cells' calls fires (suc fires) ((suc fires + inner.fires) + later.fires) (own ks rs) (r.sum + (X.weights.of_results generator ms + later.sum)) rs p.comes same₁
        (then-closed X limit w b lo (suc (suc a)) x.made base p.cells' r.cells' calls (suc fires) (suc fires + inner.fires) ((suc fires + inner.fires) + later.fires) r.sum (X.weights.of_results generator ms + later.sum) rs r.comes same₂ q))
