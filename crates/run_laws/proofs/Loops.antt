-- Where a loop goes to its results, so does the machine.
use Rattle.std.proofs.Common.{◌≡◌, ℕ, zero, suc, ◌+◌, ◌<◌, ◌≤◌, Bool, true, false, List, [], ◌∷◌, ◌++◌, length, map, get_or, refl, sym, ap, ◌∙◌, subst, arith}
use Rattle.run_code.specs.Cause.{Cause}
use Rattle.run_code.specs.Cause.TheVariants as cause
use Rattle.run_code.specs.Val.{Val}
use Rattle.run_code.specs.Val.TheOpen.{Val-F}
use Rattle.run_code.specs.Val.TheViews as values
use Rattle.run_code.specs.Carried.{Carried, Unfilled, val_of}
use Rattle.run_code.specs.Forms.{Form, Next, Begins, Stage, Enter, Leave, Starting, Testing, Turning, Returning, errors, outputs_of, first, follow, loop, tested, turn_columns}
use Rattle.run_code.specs.Demand.{Source, Vertex}
use Rattle.run_code.specs.Laws.{counting}
use Rattle.run_code.specs.Ordered.{Total}
use Rattle.run_code.proofs.Folding.{all-made, nothing-long, put-long, puts-more, puts_all, sifts-fewer}
use Rattle.run_code.proofs.Refolding.{to-collected}
use Rattle.run_code.proofs.Totals.{both-fire, both-sum, nothing-fires, nothing-sum}
use Rattle.run_code.proofs.Values.{by-form}
use Rattle.run_code.specs.Cells.{At, Cells, Operand, cells_at, cells_from, look, own_cells, write}
use Rattle.run_code.specs.Coded.{AreAt, AreOf, Free, GoesIn, Hands, Layout, LoopIs, Starts, Weighs, graph_yields, loop_form, the_loop, yields}
use Rattle.run_code.specs.Collections.{AreWithin, Collect, Final, Sifts, collected, made, none_in, nothing_in, put_all, puts, sifts_in}
use Rattle.run_code.specs.Machine.{Again, Choice, Fails, Frame, Goes, Reaches, To, at, chosen, step, tested_by}
use Rattle.run_code.specs.Refolds.{AllLong, Refolds, rows_sum}
use Rattle.run_code.specs.Steps.{Count, Keep, Test}
use Rattle.run_laws.proofs.Cells.{Holds, HoldsAll, Same, all-later, as-many, cells-held, held-both, write-below}
use Rattle.run_laws.proofs.Passing.{Below, Closed, Part, PartOf, any-closes, any-part, below-less, closed-as, copies-pass, errors-close, of-two, part-of, part-runs, then-closed}
use Rattle.run_laws.proofs.Rows.{all-more, forth, map-length, row-length, rows-held, turns-columns}
use Rattle.run_laws.proofs.Stepping.{counts, does, one-step}

-- what a test's value leads to
pub data Chose (F : Form) (body returns : ℕ) (ks ls : List Carried) (turns : List (List Carried)) (turn leave : ℕ) (next : Next) (c : Choice) : Type 0 where
  again : next ≡ Enter true body (ks ++ ls) (Turning (ls ∷ turns)) → c ≡ Again turn → Chose F body returns ks ls turns turn leave next c
  done : next ≡ Enter false returns (ks ++ turn_columns (ls ∷ turns)) Returning → c ≡ To leave → Chose F body returns ks ls turns turn leave next c
  spoiled : (e : Cause) → next ≡ Leave (errors (outputs_of F) e) → c ≡ Fails e → Chose F body returns ks ls turns turn leave next c

chose-form : (F : Form) (body returns : ℕ) (ks ls : List Carried) (turns : List (List Carried)) (turn leave : ℕ) (y : Val-F Val)
    → Chose F body returns ks ls turns turn leave (tested F body returns ks ls turns (values.roll-Val y)) (tested_by turn leave (values.roll-Val y))
unfolding values.roll-Val denote.Hole.Carrier.roll
chose-form F body returns ks ls turns turn leave (Val-F.Err d) = spoiled d refl refl
chose-form F body returns ks ls turns turn leave (Val-F.Int n) = spoiled cause.Explicit refl refl
chose-form F body returns ks ls turns turn leave (Val-F.Bool true) = again refl refl
chose-form F body returns ks ls turns turn leave (Val-F.Bool false) = done refl refl
chose-form F body returns ks ls turns turn leave (Val-F.Char n) = spoiled cause.Explicit refl refl
chose-form F body returns ks ls turns turn leave Val-F.Null = spoiled cause.Explicit refl refl
chose-form F body returns ks ls turns turn leave (Val-F.Arr a) = spoiled cause.Explicit refl refl
chose-form F body returns ks ls turns turn leave (Val-F.Rec vs) = spoiled cause.Explicit refl refl
chose-form F body returns ks ls turns turn leave (Val-F.Uni t v) = spoiled cause.Explicit refl refl
chose-form F body returns ks ls turns turn leave (Val-F.Stream vs) = spoiled cause.Explicit refl refl

pub chose : (F : Form) (body returns : ℕ) (ks ls : List Carried) (turns : List (List Carried)) (turn leave : ℕ) (v : Val)
    → Chose F body returns ks ls turns turn leave (tested F body returns ks ls turns v) (tested_by turn leave v)
chose F body returns ks ls turns turn leave v = by-form (λ v. Chose F body returns ks ls turns turn leave (tested F body returns ks ls turns v) (tested_by turn leave v)) (chose-form F body returns ks ls turns turn leave) v

-- where a loop goes on from its first loop values
abbrev pub begins : Bool → (test body : ℕ) → List Carried → List Carried → Next
begins true test body ks ls = Enter true body (ks ++ ls) (Turning (ls ∷ []))
begins false test body ks ls = Enter false test (ks ++ ls) (Testing (ls ∷ []))

pub followed : (early : Bool) (i t b r w : ℕ) (ks : List Carried) (stage : Stage) (ls : List Carried)
    → follow (loop_form early i t b r w) ks stage ls ≡ loop (loop_form early i t b r w) (begins early t b ks ls) t b r ks stage ls
followed true i t b r w ks stage ls = refl
followed false i t b r w ks stage ls = refl

pub loop-first : (early : Bool) (i t b r w : ℕ) (ks : List Carried) → first (loop_form early i t b r w) ks ≡ Begins i ks Starting
loop-first true i t b r w ks = refl
loop-first false i t b r w ks = refl

pub loop-outputs : (early : Bool) (i t b r w : ℕ) → outputs_of (loop_form early i t b r w) ≡ w
loop-outputs true i t b r w = refl
loop-outputs false i t b r w = refl

-- a value of a row of cells
at-row : (cells : Cells) (base lo i n : ℕ) (ks : List Carried) (j : ℕ) → HoldsAll cells base lo (cells_at i n) ks → j < n → Holds cells base lo (At (i + j)) (get_or ks j Unfilled)
at-row cells base lo i zero ks j h lt = absurd (omega (arith, lt))
at-row cells base lo i (suc n) [] j h lt = absurd h
at-row cells base lo i (suc n) (k ∷ ks) zero h lt = let a = h.0.0 in (omega (arith, a), ap cells (omega arith) ∙ h.0.1)
at-row cells base lo i (suc n) (k ∷ ks) (suc j) h lt =
    subst (λ q. Holds cells base lo (At q) (get_or ks j Unfilled)) (omega arith) (at-row cells base lo (suc i) n ks j h.1 (omega (arith, lt)))

last-put : (j : ℕ) (rows : List (List Carried)) (r : List Carried) (k : Carried) → puts (Final j) (rows ++ r ∷ []) k ≡ get_or r j Unfilled
last-put j [] r k = refl
last-put j (x ∷ rows) r k = last-put j rows r (get_or x j Unfilled)

-- the collections where they stand
stand-held : (cells : Cells) (base top mid n : ℕ) (ls : List Carried) (rows : List (List Carried)) (cs : List Collect) (stand : List Operand) (own : ℕ) → AreAt cs stand own mid → AreWithin n cs
    → HoldsAll cells base top (cells_at mid n) ls → HoldsAll cells base top (cells_at own (length (sifts_in cs))) (collected (sifts_in cs) (rows ++ ls ∷ [])) → HoldsAll cells base top stand (collected cs (rows ++ ls ∷ []))
stand-held cells base top mid n ls rows [] [] own a within first h = tt
stand-held cells base top mid n ls rows [] (o ∷ os) own a within first h = absurd a
stand-held cells base top mid n ls rows (Sifts j mask ∷ cs) [] own a within first h = absurd a
stand-held cells base top mid n ls rows (Final j ∷ cs) [] own a within first h = absurd a
stand-held cells base top mid n ls rows (Sifts j mask ∷ cs) (o ∷ os) own a within first h =
    (subst (λ q. Holds cells base top q (made (Sifts j mask) (rows ++ ls ∷ []))) (sym a.0) h.0, stand-held cells base top mid n ls rows cs os (suc own) a.1 within.1 first h.1)
stand-held cells base top mid n ls rows (Final j ∷ cs) (o ∷ os) own a within first h = (
  subst (λ q. Holds cells base top q (made (Final j) (rows ++ ls ∷ []))) (sym a.0) (subst (Holds cells base top (At (mid + j))) (sym (last-put j rows ls (none_in (Final j)))) (at-row cells base top mid n ls j first within.0)),
  stand-held cells base top mid n ls rows cs os own a.1 within.1 first h,
)

module _ (X : Layout) (limit : ℕ) where
  pub record Loop (room : ℕ) (early : Bool) (args : List Operand) (init test body returns : ℕ) (own : List Carried → List Carried → ℕ) (w a b lo : ℕ) : Type 0 where
    pub picks : List Bool
    pub mid : ℕ
    pub n : ℕ
    pub k : ℕ
    pub other : ℕ
    pub nodes : List Vertex
    pub results : List Source
    pub cs : List Collect
    pub extra : List Carried → ℕ
    pub begun : ℕ
    pub starts : ℕ
    pub turn : ℕ
    pub turned : ℕ
    pub tests : ℕ
    pub tested : ℕ
    pub leave : ℕ
    pub left : ℕ
    pub go : Operand
    pub firsts : List Operand
    pub nexts : List Operand
    pub lasts : List Operand
    pub for_test : List Operand
    pub for_body : List Operand
    pub for_returns : List Operand
    pub stand : List Operand
    pub start : Starts X a lo w picks args own mid
    pub first : Part X limit room (own_cells picks args (lo + w)) init (suc (suc a)) begun mid firsts
    pub begins : X.code begun ≡ Keep true (sifts_in cs) firsts mid starts
    pub first_weighs : Weighs X init begun
    pub first_many : length firsts ≡ n
    pub cs_many : length cs ≡ k
    pub goes_in : GoesIn X early starts turn tests
    pub test_lent : AreOf args (own_cells picks args (lo + w)) for_test
    pub testing : Part X limit room (for_test ++ cells_at mid n) test tests tested (mid + (n + k)) (go ∷ [])
    pub free : Free X test
    pub chooses : X.code tested ≡ Test go turn leave lo w b
    pub body_lent : AreOf args (own_cells picks args (lo + w)) for_body
    pub turning : Part X limit room (for_body ++ cells_at mid n) body turn turned (mid + (n + k)) nexts
    pub keeps : X.code turned ≡ Keep false (sifts_in cs) nexts mid tests
    pub turn_weighs : Weighs X body turned
    pub turn_many : length nexts ≡ n
    pub within : AreWithin n cs
    pub refolds : Refolds X.weights (length args) n cs returns other (X.order returns) (X.network returns).results nodes results extra
    pub no_extra : (row : List Carried) → extra row ≡ 0
    pub returns_lent : AreOf args (own_cells picks args (lo + w)) for_returns
    pub stands : AreAt cs stand (mid + n) mid
    pub returning : PartOf X limit room (for_returns ++ stand) other nodes results leave left (mid + (n + k)) lasts
    pub hands : Hands X other left lasts lo w b

  pub loop-of : (room : ℕ) (early : Bool) (args : List Operand) (init test body returns : ℕ) (own : List Carried → List Carried → ℕ) (w a b lo : ℕ)
      → LoopIs X room early args init test body returns own w a b lo → Loop room early args init test body returns own w a b lo
  loop-of room _ _ _ _ _ _ _ _ _ _ _ (the_loop early args init test body returns own w a b lo picks mid n k begun starts turn turned tests tested leave left other nodes results cs extra go firsts nexts lasts for_test for_body for_returns stand
      start first begins first_weighs first_many cs_many goes_in test_lent testing free chooses body_lent turning keeps turn_weighs turn_many within refolds no_extra returns_lent stands returning hands) =
      record {
        picks = picks;
        mid = mid;
        n = n;
        k = k;
        other = other;
        nodes = nodes;
        results = results;
        cs = cs;
        extra = extra;
        cs_many = cs_many;
        within = within;
        refolds = refolds;
        no_extra = no_extra;
        begun = begun;
        starts = starts;
        turn = turn;
        turned = turned;
        tests = tests;
        tested = tested;
        leave = leave;
        left = left;
        go = go;
        firsts = firsts;
        nexts = nexts;
        lasts = lasts;
        for_test = for_test;
        for_body = for_body;
        for_returns = for_returns;
        stand = stand;
        stands = stands;
        start = start;
        first = part-of X limit room (own_cells picks args (lo + w)) init (suc (suc a)) begun mid firsts first;
        begins = begins;
        first_weighs = first_weighs;
        first_many = first_many;
        goes_in = goes_in;
        test_lent = test_lent;
        testing = part-of X limit room (for_test ++ cells_at mid n) test tests tested (mid + (n + k)) (go ∷ []) testing;
        free = free;
        chooses = chooses;
        body_lent = body_lent;
        turning = part-of X limit room (for_body ++ cells_at mid n) body turn turned (mid + (n + k)) nexts turning;
        keeps = keeps;
        turn_weighs = turn_weighs;
        turn_many = turn_many;
        returns_lent = returns_lent;
        returning = any-part X limit room (for_returns ++ stand) other nodes results leave left (mid + (n + k)) lasts returning;
        hands = hands;
      }

  module _ (room : ℕ) (early : Bool) (args : List Operand) (init test body returns : ℕ) (own : List Carried → List Carried → ℕ) (w a b lo : ℕ) (x : Loop room early args init test body returns own w a b lo) where
    abbrev pub F : Form
    F = loop_form early init test body returns w

    abbrev pub mine : List Operand
    mine = own_cells x.picks args (lo + w)

    abbrev pub top : ℕ
    top = x.mid + (x.n + x.k)

    -- what is kept of what is collected
    abbrev pub sifts : List Collect
    sifts = sifts_in x.cs

    abbrev pub many : ℕ
    many = length (sifts_in x.cs)

    pub up : (x.mid + x.n) + many ≤ top
    up = let le = sifts-fewer x.cs in let k = x.cs_many in omega (arith, le, k)

    -- what is collected of these turns
    abbrev pub so_far : List Carried → List (List Carried) → List Carried
    so_far ls turns = puts_all sifts (forth (ls ∷ turns)) (nothing_in sifts)

    -- the inputs, the loop values and what is collected
    pub record IsKept (base : ℕ) (cells : Cells) (ks ls : List Carried) (turns : List (List Carried)) : Type 0 where
      pub outer : HoldsAll cells base lo args ks
      pub inner : HoldsAll cells base x.mid mine ks
      pub loop_values : HoldsAll cells base top (cells_at x.mid x.n) ls
      pub multiples : HoldsAll cells base top (cells_at (x.mid + x.n) many) (puts_all sifts (forth (ls ∷ turns)) (nothing_in sifts))
      pub long : AllLong x.n (forth (ls ∷ turns))

    pub low : lo ≤ x.mid
    low = let f = x.start.fits in omega (arith, f)

    pub lent : (xs : List Operand) → AreOf args mine xs → (base : ℕ) (cells : Cells) (ks ls : List Carried) (turns : List (List Carried)) → IsKept base cells ks ls turns
        → (i q : ℕ) (ms : List Carried) → HoldsAll cells base top (cells_at i q) ms → HoldsAll cells base top (xs ++ cells_at i q) (ks ++ ms)
    lent xs of base cells ks ls turns h i q ms held =
        let l = low in held-both cells base top xs (cells_at i q) ks ms (of-two cells base lo x.mid top args mine xs ks of (omega (arith, l)) (omega arith) h.outer h.inner) held

    pub kept-later : (base : ℕ) (cells old : Cells) (ks ls : List Carried) (turns : List (List Carried)) → Same (base + top) cells old → IsKept base old ks ls turns → IsKept base cells ks ls turns
    kept-later base cells old ks ls turns same h =
        let l = low in
        record {
          outer = all-later cells old base lo lo args ks (omega arith) (λ j lt. same j (omega (arith, lt, l))) h.outer;
          inner = all-later cells old base x.mid x.mid mine ks (omega arith) (λ j lt. same j (omega (arith, lt))) h.inner;
          loop_values = all-later cells old base top top (cells_at x.mid x.n) ls (omega arith) same h.loop_values;
          multiples = all-later cells old base top top (cells_at (x.mid + x.n) many) (so_far ls turns) (omega arith) same h.multiples;
          long = h.long;
        }

    -- the loop values and their multiples are kept, and a place is next
    pub record KeptOn (pc next base : ℕ) (cells : Cells) (calls : List Frame) (fires sum : ℕ) (ks ls : List Carried) (turns : List (List Carried)) : Type 0 where
      pub last : Cells
      pub keep : step limit X.code (at pc base cells calls fires) ≡ Goes (at next base last calls fires)
      pub comes : Reaches X.weigh limit X.code (at pc base cells calls fires) (at next base last calls fires) sum
      pub same : Same (base + lo) last cells
      pub kept : IsKept base last ks ls turns

    pub turn-keeps : (base : ℕ) (cells : Cells) (calls : List Frame) (fires : ℕ) (ks ls new : List Carried) (turns : List (List Carried)) → IsKept base cells ks ls turns
        → map (look cells base) x.nexts ≡ new → KeptOn x.turned x.tests base cells calls fires (X.weights.of_results body new) ks new (ls ∷ turns)
    turn-keeps base cells calls fires ks ls new turns h told =
        let froms = x.nexts in
        let l = low in
        let new_many : length new ≡ x.n = ap length (sym told) ∙ (map-length (look cells base) froms ∙ x.turn_many) in
        let old_many = row-length cells base top (x.mid + x.n) many (so_far ls turns) h.multiples in
        let ms = put_all sifts new (so_far ls turns) in
        let ms_many : length ms ≡ many = put-long sifts new (so_far ls turns) old_many in
        let last = write (base + x.mid) (x.n + many) (new ++ ms) cells in
        let does_keep = ap (λ k. Goes (at x.tests base (write (base + x.mid) (k + many) (map (look cells base) froms ++ put_all sifts (map (look cells base) froms) (cells_from cells (base + (x.mid + k)) many)) cells) calls fires)) x.turn_many
        ∙ (ap (λ z. Goes (at x.tests base (write (base + x.mid) (x.n + many) (z ++ put_all sifts z (cells_from cells (base + (x.mid + x.n)) many)) cells) calls fires)) told
        ∙ ap (λ z. Goes (at x.tests base (write (base + x.mid) (x.n + many) (new ++ put_all sifts new z) cells) calls fires)) (cells-held cells base top (x.mid + x.n) many (so_far ls turns) h.multiples)) in
        let now = rows-held cells base x.mid x.n many new ms top new_many ms_many up in
        let same : Same (base + x.mid) last cells = λ j lt. write-below (base + x.mid) (x.n + many) (new ++ ms) cells j (omega (arith, lt)) in
        record {
          last = last;
          keep = does limit X.code (Keep false sifts froms x.mid x.tests) x.turned base cells calls fires (Goes (at x.tests base last calls fires)) x.keeps does_keep;
          comes = one-step X.weigh limit X.code x.turned base cells calls fires (at x.tests base last calls fires) (Keep false sifts froms x.mid x.tests) (X.weights.of_results body new) x.keeps does_keep
              (x.turn_weighs (map (look cells base) froms) ∙ ap (X.weights.of_results body) told);
          same = λ j lt. same j (omega (arith, lt, l));
          kept = record {
            outer = all-later last cells base lo lo args ks (omega arith) (λ j lt. same j (omega (arith, lt, l))) h.outer;
            inner = all-later last cells base x.mid x.mid mine ks (omega arith) same h.inner;
            loop_values = now.0;
            multiples = subst (HoldsAll last base top (cells_at (x.mid + x.n) many)) (sym (puts-more sifts (forth (ls ∷ turns)) new (nothing_in sifts))) now.1;
            long = all-more x.n (forth (ls ∷ turns)) new h.long new_many;
          };
        }

    pub begin-keeps : (base : ℕ) (cells : Cells) (calls : List Frame) (fires : ℕ) (ks new : List Carried) → HoldsAll cells base lo args ks → HoldsAll cells base x.mid mine ks
        → map (look cells base) x.firsts ≡ new → KeptOn x.begun x.starts base cells calls fires (X.weights.of_results init new) ks new []
    begin-keeps base cells calls fires ks new outer inner told =
        let froms = x.firsts in
        let l = low in
        let new_many : length new ≡ x.n = ap length (sym told) ∙ (map-length (look cells base) froms ∙ x.first_many) in
        let ms = put_all sifts new (nothing_in sifts) in
        let ms_many : length ms ≡ many = put-long sifts new (nothing_in sifts) (nothing-long sifts) in
        let last = write (base + x.mid) (x.n + many) (new ++ ms) cells in
        let does_keep = ap (λ k. Goes (at x.starts base (write (base + x.mid) (k + many) (map (look cells base) froms ++ put_all sifts (map (look cells base) froms) (nothing_in sifts)) cells) calls fires)) x.first_many
        ∙ ap (λ z. Goes (at x.starts base (write (base + x.mid) (x.n + many) (z ++ put_all sifts z (nothing_in sifts)) cells) calls fires)) told in
        let now = rows-held cells base x.mid x.n many new ms top new_many ms_many up in
        let same : Same (base + x.mid) last cells = λ j lt. write-below (base + x.mid) (x.n + many) (new ++ ms) cells j (omega (arith, lt)) in
        record {
          last = last;
          keep = does limit X.code (Keep true sifts froms x.mid x.starts) x.begun base cells calls fires (Goes (at x.starts base last calls fires)) x.begins does_keep;
          comes = one-step X.weigh limit X.code x.begun base cells calls fires (at x.starts base last calls fires) (Keep true sifts froms x.mid x.starts) (X.weights.of_results init new) x.begins does_keep
              (x.first_weighs (map (look cells base) froms) ∙ ap (X.weights.of_results init) told);
          same = λ j lt. same j (omega (arith, lt, l));
          kept = record {
            outer = all-later last cells base lo lo args ks (omega arith) (λ j lt. same j (omega (arith, lt, l))) outer;
            inner = all-later last cells base x.mid x.mid mine ks (omega arith) same inner;
            loop_values = now.0;
            multiples = now.1;
            long = (new_many, tt);
          };
        }

    -- ---- the returns

    pub lent-returns : (base : ℕ) (cells : Cells) (ks ls : List Carried) (turns : List (List Carried)) → IsKept base cells ks ls turns
        → HoldsAll cells base top (x.for_returns ++ x.stand) (ks ++ collected x.cs (forth (ls ∷ turns)))
    lent-returns base cells ks ls turns h =
        let l = low in
        let held = subst (HoldsAll cells base top (cells_at (x.mid + x.n) many)) (all-made sifts (forth (ls ∷ turns))) h.multiples in
        held-both cells base top x.for_returns x.stand ks (collected x.cs (forth (ls ∷ turns))) (of-two cells base lo x.mid top args mine x.for_returns ks x.returns_lent (omega (arith, l)) (omega arith) h.outer h.inner)
        (stand-held cells base top x.mid x.n ls (forth turns) x.cs x.stand (x.mid + x.n) x.stands x.within h.loop_values held)

    pub args-many : (base : ℕ) (cells : Cells) (ks ls : List Carried) (turns : List (List Carried)) → IsKept base cells ks ls turns → length ks ≡ length args
    args-many base cells ks ls turns h = sym (as-many cells base lo args ks h.outer)

    no-sum : (rows : List (List Carried)) → rows_sum x.extra rows ≡ 0
    no-sum [] = refl
    no-sum (r ∷ rs) = let e = no-sum rs in let z = x.no_extra r in omega (arith, e, z)

    returning-closes : (n : ℕ) → Below X limit n → (base : ℕ) (cells : Cells) (calls : List Frame) (fires : ℕ) (ks ls : List Carried) (turns : List (List Carried)) (rs : List Carried) (c : Total (counting X.weights))
        → IsKept base cells ks ls turns → yields X n F ks (Enter false returns (ks ++ turn_columns (ls ∷ turns)) Returning) rs c → fires + c.fires ≤ limit
        → Closed X limit w b lo x.leave base cells calls fires (fires + c.fires) c.sum rs
    returning-closes zero below base cells calls fires ks ls turns rs c h goes le = absurd goes
    returning-closes (suc zero) below base cells calls fires ks ls turns rs c h goes le = absurd goes.4
    returning-closes (suc (suc n)) below base cells calls fires ks ls turns rs c h goes le =
        let inner = goes.1 in
        let later = goes.2 in
        let out = subst (λ y. yields X (suc n) F ks y rs later) (followed early init test body returns w ks Returning goes.0) goes.4 in
        let zf = nothing-fires X.weights later out.1 in
        let zs = nothing-sum X.weights later out.1 in
        let bf = both-fire X.weights c inner later 0 0 goes.5 in
        let bs = both-sum X.weights c inner later 0 0 goes.5 in
        let l = low in
        let rows = forth (ls ∷ turns) in
        let g = to-collected X.weights (length args) x.n x.cs returns x.other (yields X (suc n)) ks rows (args-many base cells ks ls turns h) h.long (X.order returns) x.nodes (X.network returns).results x.results x.extra x.refolds goes.0 inner
        (subst (λ z. graph_yields X (suc n) returns (ks ++ z) goes.0 inner) (turns-columns x.n ls turns h.long) goes.3) in
        let gf = g.2 in
        let gs = g.3 in
        let none = no-sum rows in
        let q = any-closes X limit (suc (suc n)) (suc n) (omega arith) below room (x.for_returns ++ x.stand) x.other x.nodes x.results x.leave x.left top x.lasts x.returning lo w b x.hands (omega (arith, l))
        base cells calls fires (ks ++ collected x.cs rows) goes.0 g.0 (lent-returns base cells ks ls turns h) g.1 (omega (arith, le, bf, zf, gf)) in
        closed-as X limit w b lo x.leave base cells calls fires (fires + g.0.fires) (fires + c.fires) g.0.sum c.sum rs (omega (arith, bf, zf, gf)) (omega (arith, bs, zs, gs, none))
        (subst (λ z. Closed X limit w b lo x.leave base cells calls fires (fires + g.0.fires) g.0.sum z) (sym out.0) q)

    -- ---- from the test on

    abbrev Tests : ℕ → Type 0
    Tests n = Below X limit n → (base : ℕ) (cells : Cells) (calls : List Frame) (fires : ℕ) (ks ls : List Carried) (turns : List (List Carried)) (rs : List Carried) (c : Total (counting X.weights))
        → IsKept base cells ks ls turns → yields X n F ks (Enter false test (ks ++ ls) (Testing (ls ∷ turns))) rs c → fires + c.fires ≤ limit
        → Closed X limit w b lo x.tests base cells calls fires (fires + c.fires) c.sum rs

    -- a turn that was counted
    turning-closes : (n : ℕ) → Tests n → Below X limit (suc n) → (base : ℕ) (cells : Cells) (calls : List Frame) (fires : ℕ) (ks ls : List Carried) (turns : List (List Carried)) (rs : List Carried) (c : Total (counting X.weights))
        → IsKept base cells ks ls turns → yields X (suc n) F ks (Enter true body (ks ++ ls) (Turning (ls ∷ turns))) rs c → fires + c.fires ≤ limit
        → Closed X limit w b lo x.turn base cells calls (suc fires) (fires + c.fires) c.sum rs
    turning-closes n tests below base cells calls fires ks ls turns rs c h goes le =
        let new = goes.0 in
        let inner = goes.1 in
        let later = goes.2 in
        let bf = both-fire X.weights c inner later 1 0 goes.5 in
        let bs = both-sum X.weights c inner later 1 0 goes.5 in
        let next = subst (λ y. yields X n F ks y rs later) (followed early init test body returns w ks (Turning (ls ∷ turns)) new) goes.4 in
        let l = low in
        let r = part-runs X limit (suc n) n (omega arith) below room (x.for_body ++ cells_at x.mid x.n) body x.turn x.turned top x.nexts x.turning base cells calls (suc fires) (ks ++ ls) new inner
        (lent x.for_body x.body_lent base cells ks ls turns h x.mid x.n ls h.loop_values) goes.3 (omega (arith, le, bf)) in
        let whole = r.whole in
        let k = turn-keeps base r.cells' calls (suc fires + inner.fires) ks ls new turns (kept-later base r.cells' cells ks ls turns r.same h) r.told in
        let q = tests (below-less X limit (suc n) n (omega arith) below) base k.last calls (suc fires + inner.fires) ks new (ls ∷ turns) rs later k.kept next (omega (arith, le, bf)) in
        closed-as X limit w b lo x.turn base cells calls (suc fires) ((suc fires + inner.fires) + later.fires) (fires + c.fires) (r.sum + (X.weights.of_results body new + later.sum)) c.sum rs (omega (arith, bf)) (omega (arith, bs, whole))
        (then-closed X limit w b lo x.turn x.turned base cells r.cells' calls (suc fires) (suc fires + inner.fires) ((suc fires + inner.fires) + later.fires) r.sum (X.weights.of_results body new + later.sum) rs r.comes (λ j lt. r.same j (omega (arith, lt, l)))
        (then-closed X limit w b lo x.turned x.tests base r.cells' k.last calls (suc fires + inner.fires) (suc fires + inner.fires) ((suc fires + inner.fires) + later.fires) (X.weights.of_results body new) later.sum rs k.comes k.same q))

    -- after the test's value
    choosing-closes : (n : ℕ) → Tests n → Below X limit (suc n) → (base : ℕ) (cells : Cells) (calls : List Frame) (fires : ℕ) (ks ls : List Carried) (turns : List (List Carried)) (rs : List Carried) (c : Total (counting X.weights)) (next : Next)
        → IsKept base cells ks ls turns → Chose F body returns ks ls turns x.turn x.leave next (tested_by x.turn x.leave (val_of (look cells base x.go)))
        → yields X (suc n) F ks next rs c → fires + c.fires ≤ limit → Closed X limit w b lo x.tested base cells calls fires (fires + c.fires) c.sum rs
    choosing-closes n tests below base cells calls fires ks ls turns rs c next h (done next_is to) goes le =
        let q = returning-closes (suc n) below base cells calls fires ks ls turns rs c h (subst (λ y. yields X (suc n) F ks y rs c) next_is goes) le in
        let jump = one-step X.weigh limit X.code x.tested base cells calls fires (at x.leave base cells calls fires) (Test x.go x.turn x.leave lo w b) 0 x.chooses (ap (λ y. chosen limit y lo w b base cells calls fires) to) refl in
        closed-as X limit w b lo x.tested base cells calls fires (fires + c.fires) (fires + c.fires) (0 + c.sum) c.sum rs refl (omega arith)
        (then-closed X limit w b lo x.tested x.leave base cells cells calls fires fires (fires + c.fires) 0 c.sum rs jump (λ j lt. refl) q)
    choosing-closes n tests below base cells calls fires ks ls turns rs c next h (spoiled e next_is to) goes le =
        let out = subst (λ y. yields X (suc n) F ks y rs c) next_is goes in
        let zf = nothing-fires X.weights c out.1 in
        let zs = nothing-sum X.weights c out.1 in
        closed-as X limit w b lo x.tested base cells calls fires fires (fires + c.fires) 0 c.sum rs (omega (arith, zf)) (omega (arith, zs))
        (errors-close X limit w b lo x.tested base cells calls fires 0 (Test x.go x.turn x.leave lo w b) e rs x.chooses (ap (λ y. chosen limit y lo w b base cells calls fires) to) refl
        (out.0 ∙ ap (λ k. errors k e) (loop-outputs early init test body returns w)))
    choosing-closes n tests below base cells calls fires ks ls turns rs c next h (again next_is to) goes le =
        let y = subst (λ y. yields X (suc n) F ks y rs c) next_is goes in
        let bf = both-fire X.weights c y.1 y.2 1 0 y.5 in
        let q = turning-closes n tests below base cells calls fires ks ls turns rs c h y le in
        let jump = one-step X.weigh limit X.code x.tested base cells calls fires (at x.turn base cells calls (suc fires)) (Test x.go x.turn x.leave lo w b) 0 x.chooses
        (ap (λ y. chosen limit y lo w b base cells calls fires) to ∙ counts limit X.code fires (λ f. Goes (at x.turn base cells calls f)) (omega (arith, le, bf))) refl in
        closed-as X limit w b lo x.tested base cells calls fires (fires + c.fires) (fires + c.fires) (0 + c.sum) c.sum rs refl (omega arith)
        (then-closed X limit w b lo x.tested x.turn base cells cells calls fires (suc fires) (fires + c.fires) 0 c.sum rs jump (λ j lt. refl) q)

    testing-closes : (n : ℕ) → Tests n
    testing-closes zero below base cells calls fires ks ls turns rs c h goes le = absurd goes
    testing-closes (suc zero) below base cells calls fires ks ls turns rs c h goes le = absurd goes.4
    testing-closes (suc (suc n)) below base cells calls fires ks ls turns rs c h goes le =
        let inner = goes.1 in
        let later = goes.2 in
        let bf = both-fire X.weights c inner later 0 0 goes.5 in
        let bs = both-sum X.weights c inner later 0 0 goes.5 in
        let l = low in
        let r = part-runs X limit (suc (suc n)) (suc n) (omega arith) below room (x.for_test ++ cells_at x.mid x.n) test x.tests x.tested top (x.go ∷ []) x.testing base cells calls fires (ks ++ ls) goes.0 inner
        (lent x.for_test x.test_lent base cells ks ls turns h x.mid x.n ls h.loop_values) goes.3 (omega (arith, le, bf)) in
        let whole = r.whole in
        let z = x.free goes.0 in
        let next = subst (λ y. yields X (suc n) F ks y rs later) (followed early init test body returns w ks (Testing (ls ∷ turns)) (look r.cells' base x.go ∷ []))
        (subst (λ y. yields X (suc n) F ks (follow F ks (Testing (ls ∷ turns)) y) rs later) (sym r.told) goes.4) in
        let v = val_of (look r.cells' base x.go) in
        let q = choosing-closes n (testing-closes n) (below-less X limit (suc (suc n)) (suc n) (omega arith) below) base r.cells' calls (fires + inner.fires) ks ls turns rs later (tested F body returns ks ls turns v) (kept-later base r.cells' cells ks ls turns r.same h)
        (chose F body returns ks ls turns x.turn x.leave v) next (omega (arith, le, bf)) in
        closed-as X limit w b lo x.tests base cells calls fires ((fires + inner.fires) + later.fires) (fires + c.fires) (r.sum + later.sum) c.sum rs (omega (arith, bf)) (omega (arith, bs, whole, z))
        (then-closed X limit w b lo x.tests x.tested base cells r.cells' calls fires (fires + inner.fires) ((fires + inner.fires) + later.fires) r.sum later.sum rs r.comes (λ j lt. r.same j (omega (arith, lt, l))) q)

    -- from where the loop values were begun
    starting-closes : (n : ℕ) (e : Bool) → GoesIn X e x.starts x.turn x.tests → Below X limit n → (base : ℕ) (cells : Cells) (calls : List Frame) (fires : ℕ) (ks ls rs : List Carried) (c : Total (counting X.weights))
        → IsKept base cells ks ls [] → yields X n F ks (begins e test body ks ls) rs c → fires + c.fires ≤ limit → Closed X limit w b lo x.starts base cells calls fires (fires + c.fires) c.sum rs
    starting-closes n false is below base cells calls fires ks ls rs c h goes le =
        subst (λ p. Closed X limit w b lo p base cells calls fires (fires + c.fires) c.sum rs) (sym is) (testing-closes n below base cells calls fires ks ls [] rs c h goes le)
    starting-closes zero true is below base cells calls fires ks ls rs c h goes le = absurd goes
    starting-closes (suc n) true is below base cells calls fires ks ls rs c h goes le =
        let bf = both-fire X.weights c goes.1 goes.2 1 0 goes.5 in
        let q = turning-closes n (testing-closes n) below base cells calls fires ks ls [] rs c h goes le in
        let count = one-step X.weigh limit X.code x.starts base cells calls fires (at (suc x.starts) base cells calls (suc fires)) Count 0 is.0 (counts limit X.code fires (λ f. Goes (at (suc x.starts) base cells calls f)) (omega (arith, le, bf))) refl in
        closed-as X limit w b lo x.starts base cells calls fires (fires + c.fires) (fires + c.fires) (0 + c.sum) c.sum rs refl (omega arith)
        (then-closed X limit w b lo x.starts (suc x.starts) base cells cells calls fires (suc fires) (fires + c.fires) 0 c.sum rs count (λ j lt. refl)
        (subst (λ p. Closed X limit w b lo p base cells calls (suc fires) (fires + c.fires) c.sum rs) is.1 q))

    pub loop-passes : (n : ℕ) → Below X limit (suc n) → (base : ℕ) (cells : Cells) (calls : List Frame) (fires : ℕ) (ks rs : List Carried) (c : Total (counting X.weights))
        → HoldsAll cells base lo args ks → yields X (suc n) F ks (Enter false init ks Starting) rs c → fires + (1 + c.fires) ≤ limit
        → Closed X limit w b lo a base cells calls fires (fires + (1 + c.fires)) (own ks rs + c.sum) rs
    loop-passes n below base cells calls fires ks rs c held goes le =
        let new = goes.0 in
        let inner = goes.1 in
        let later = goes.2 in
        let bf = both-fire X.weights c inner later 0 0 goes.5 in
        let bs = both-sum X.weights c inner later 0 0 goes.5 in
        let l = low in
        let p = copies-pass X limit args own w a lo x.mid x.picks x.start base cells calls fires ks rs held (omega (arith, le)) in
        let r = part-runs X limit (suc n) n (omega arith) below room mine init (suc (suc a)) x.begun x.mid x.firsts x.first base p.cells' calls (suc fires) ks new inner p.held goes.3 (omega (arith, le, bf)) in
        let whole = r.whole in
        let next = subst (λ y. yields X n F ks y rs later) (followed early init test body returns w ks Starting new) goes.4 in
        let same₁ : Same (base + lo) p.cells' cells = λ j lt. p.same j (omega (arith, lt)) in
        let same₂ : Same (base + lo) r.cells' p.cells' = λ j lt. r.same j (omega (arith, lt, l)) in
        let k = begin-keeps base r.cells' calls (suc fires + inner.fires) ks new (all-later r.cells' p.cells' base lo lo args ks (omega arith) same₂ (all-later p.cells' cells base lo lo args ks (omega arith) same₁ held))
        (all-later r.cells' p.cells' base x.mid x.mid mine ks (omega arith) r.same p.held) r.told in
        let q = starting-closes n early x.goes_in (below-less X limit (suc n) n (omega arith) below) base k.last calls (suc fires + inner.fires) ks new rs later k.kept next (omega (arith, le, bf)) in
        closed-as X limit w b lo a base cells calls fires ((suc fires + inner.fires) + later.fires) (fires + (1 + c.fires)) (own ks rs + (r.sum + (X.weights.of_results init new + later.sum))) (own ks rs + c.sum) rs (omega (arith, bf)) (omega (arith, bs, whole))
        (then-closed X limit w b lo a (suc (suc a)) base cells p.cells' calls fires (suc fires) ((suc fires + inner.fires) + later.fires) (own ks rs) (r.sum + (X.weights.of_results init new + later.sum)) rs p.comes same₁
        (then-closed X limit w b lo (suc (suc a)) x.begun base p.cells' r.cells' calls (suc fires) (suc fires + inner.fires) ((suc fires + inner.fires) + later.fires) r.sum (X.weights.of_results init new + later.sum) rs r.comes same₂
        (then-closed X limit w b lo x.begun x.starts base r.cells' k.last calls (suc fires + inner.fires) (suc fires + inner.fires) ((suc fires + inner.fires) + later.fires) (X.weights.of_results init new) later.sum rs k.comes k.same q)))
