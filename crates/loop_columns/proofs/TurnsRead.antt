-- Where a loop of turns has a cost, the source has its turns, and the values of its clauses at each of them.
use Rattle.std.proofs.Common.{◌≡◌, ℕ, zero, suc, ◌+◌, ◌≤◌, pos, Bool, true, false, List, [], ◌∷◌, ◌++◌, map, drop, length, Option, Some, None, refl, ap, ◌∙◌, subst, arith}
use Rattle.flow_value.specs.declared.cause.Cause.{Cause}
use Rattle.flow_value.specs.declared.value.Val.{Val}
use Rattle.flow_value.specs.declared.ty.Ty.{Ty}
use Rattle.typed_tree.specs.declared.expr.Turns.{Turns}
use Rattle.meaning.specs.declared.words.Test.{Test}
use Rattle.meaning.specs.declared.words.Test.TheVariants as test
use Rattle.meaning.specs.Timed.{Timed, given, plus, andthen}
use Rattle.meaning.specs.Words.{failed, test_of, goes_on}
use Rattle.meaning.specs.Rows.{no_rows, with_rows, made}
use Rattle.meaning.specs.Meaning.{Gives, Members, member, turn, turns, members, each, folded, unless_failed}
use Rattle.graph_meaning.specs.Carried.{Carried, Value}
use Rattle.graph_meaning.specs.Forms.{Form, LoopA, LoopB, Starting, Testing, Turning, Enter, first, next_of, follow, tested}
use Rattle.graph_meaning.specs.Demand.{Network}
use Rattle.graph_meaning.specs.Plain.{CarryAll, LaterFires}
use Rattle.graph_meaning.proofs.PlainValues.{carried-once}
use Rattle.typed_rows.specs.Rows.{AreOf}
use Rattle.loop_columns.specs.Parts.{From, Yields}
use Rattle.loop_columns.specs.Turns.{loop_form, Says, TestRead, AreTurnsRead, AreLoopsRead}
use Rattle.loop_columns.proofs.Yields.{yield-given, yield-plus, yield-then}
use Rattle.loop_columns.proofs.Later.{later-is, is-same, is-less}
use Rattle.loop_columns.proofs.Turns.{IsLoop, is-loop-a, is-loop-b}

module _ (u : Network) (form : Form) (i t b r outputs n : ℕ) (ks : List Carried) (is : IsLoop form t b r outputs ks) (q : Turns) (initial : ℕ → Timed (List Val)) (tests values : ℕ → Gives)
    (next : ℕ → List Val → Gives) (env : List Val) (tys : List Ty) (besides : List Val → List Val) (h : AreTurnsRead u ks q tests values next env tys besides i t b n initial) where
  abbrev full : List Val → List Val → List Carried
  full l row = map Value (l ++ besides row)

  abbrev more : ℕ → ℕ → List Val → Timed Members
  more k j = turns k q.is_until (tests j) (next j) env

  -- turns and calls may go to different depths
  pub record TurnsYield (l : List Val) (value : Members) : Type 0 where
    pub steps : ℕ
    pub least : ℕ
    pub holds : (k j : ℕ) → least ≤ k → least ≤ j → more k j l ≡ Some (value, steps)

  pub record RunRead (l : List Val) : Type 0 where
    pub value : Members
    pub turned : TurnsYield l value
    pub rows : Yields (λ j. each (λ m. values j (env ++ m)) value.lists)

  rows-then : (l : List Val) (ls : List (List Val)) (row : Yields (λ j. values j (env ++ l))) → Yields (λ j. each (λ m. values j (env ++ m)) ls) → Yields (λ j. each (λ m. values j (env ++ m)) (l ∷ ls))
  rows-then l ls row rest =
      yield-then (λ j. values j (env ++ l)) (λ j r. andthen (each (λ m. values j (env ++ m)) ls) (λ rs. given (r ∷ rs))) row
      (yield-then (λ j. each (λ m. values j (env ++ m)) ls) (λ j rs. given (row.value ∷ rs)) rest (yield-given (row.value ∷ rest.value)))

  -- a test that ends the loop
  ended : (l : List Val) (said : Yields (λ j. tests j (env ++ l))) (z : Test) (s : Members) → goes_on q.is_until (test_of said.value) ≡ z
      → ((k j : ℕ) → turn (more k j) (next j env) l z ≡ given s) → TurnsYield l s
  ended l y z s ez same = record { steps = y.steps + 0; least = suc y.from.least; holds = go }
    where
      go : (k j : ℕ) → suc y.from.least ≤ k → suc y.from.least ≤ j → more k j l ≡ Some (s, y.steps + 0)
      go zero j h i = absurd (omega (arith, h))
      go (suc k) j h i =
          ap (λ o. andthen o (λ ts. turn (more k j) (next j env) l (goes_on q.is_until (test_of ts)))) (y.from.holds j (omega (arith, i)))
          ∙ ap (λ z. plus y.steps (turn (more k j) (next j env) l z)) ez ∙ ap (plus y.steps) (same k j)

  -- a test that lets it go on
  went : (l : List Val) (said : Yields (λ j. tests j (env ++ l))) (after : Yields (λ j. next j env l)) (s : Members) → TurnsYield after.value s → goes_on q.is_until (test_of said.value) ≡ test.Yes → TurnsYield l (member l s)
  went l y x s w ez = record { steps = y.steps + (1 + (x.steps + (w.steps + 0))); least = suc (y.from.least + x.from.least + w.least); holds = go }
    where
      go : (k j : ℕ) → suc (y.from.least + x.from.least + w.least) ≤ k → suc (y.from.least + x.from.least + w.least) ≤ j → more k j l ≡ Some (member l s, y.steps + (1 + (x.steps + (w.steps + 0))))
      go zero j h i = absurd (omega (arith, h))
      go (suc k) j h i =
          ap (λ o. andthen o (λ ts. turn (more k j) (next j env) l (goes_on q.is_until (test_of ts)))) (y.from.holds j (omega (arith, i)))
          ∙ ap (λ z. plus y.steps (turn (more k j) (next j env) l z)) ez
          ∙ ap (λ o. plus y.steps (plus 1 (andthen o (λ m. andthen (more k j m) (λ s. given (member l s)))))) (x.from.holds j (omega (arith, i)))
          ∙ ap (λ o. plus y.steps (plus 1 (plus x.steps (andthen o (λ s. given (member l s)))))) (w.holds k j (omega (arith, h)) (omega (arith, i)))

  -- what a graph means is one
  once : (g : ℕ) (ins rs os : List Carried) (m : ℕ) → From (λ d. CarryAll u d g ins (u g).results os) → CarryAll u m g ins (u g).results rs → rs ≡ os
  once g ins rs os m means x = carried-once u g ins (u g).results rs os m means.least x (means.holds means.least (omega arith))

  abbrev Rest : ℕ → Type 0
  Rest m = (l : List Val) (row : Yields (λ j. values j (env ++ l))) (before : List (List Carried)) (c : ℕ) → m ≤ n → AreOf tys l
      → LaterFires u m form ks (Enter false t (ks ++ full l row.value) (Testing (full l row.value ∷ before))) c → RunRead l

  -- a turn, and what follows it
  pub record TurnAfter (l : List Val) : Type 0 where
    pub names : Yields (λ j. next j env l)
    pub run : RunRead names.value

  a-turn : (m : ℕ) → ((k : ℕ) → suc k ≡ m → Rest k) → (l row : List Val) (before : List (List Carried)) (c : ℕ) → m ≤ n → AreOf tys l
      → LaterFires u m form ks (Enter true b (ks ++ full l row) (Turning (full l row ∷ before))) c → TurnAfter l
  a-turn m rest l row before c le o f =
      let z = later-is u m form ks _ c f in
      let less = is-less u form z.depth m is.less z.is_less in
      let y = h.of_turn z.depth z.cost l row (omega (arith, less, le)) o z.fires in
      let w = once b (ks ++ full l row) z.results (full y.next_names.value y.next_row.value) z.depth y.means z.means in
      let g = subst (λ x. LaterFires u z.depth form ks x z.rest) (ap (follow form ks (Turning (full l row ∷ before))) w ∙ is.turns (full l row ∷ before) (full y.next_names.value y.next_row.value)) z.follows in
      record { names = y.next_names; run = rest z.depth less y.next_names.value y.next_row (full l row ∷ before) z.rest (omega (arith, less, le)) y.typed g }

  one-test : (m : ℕ) → ((k : ℕ) → suc k ≡ m → Rest k) → Rest m
  one-test m rest l row before c le o f =
      let z = later-is u m form ks _ c f in
      let d = is-same u form z.depth m is.same z.is_less in
      let x = h.of_test z.depth z.cost l row.value (omega (arith, d, le)) o z.fires in
      let w = once t (ks ++ full l row.value) z.results (Value x.value ∷ []) z.depth x.means z.means in
      let g = subst (λ y. LaterFires u z.depth form ks y z.rest) (ap (follow form ks (Testing (full l row.value ∷ before))) w ∙ is.tests before (full l row.value) x.value) z.follows in
      go x (goes_on q.is_until (test_of x.test.value)) refl x.says z.rest (subst (λ k. LaterFires u k form ks (tested form b r ks (full l row.value) before x.value) z.rest) d g)
    where
      go : (x : TestRead u ks q tests values next env tys besides t l row.value) (z : Test) → goes_on q.is_until (test_of x.test.value) ≡ z → Says z x.value → (e : ℕ)
          → LaterFires u m form ks (tested form b r ks (full l row.value) before x.value) e → RunRead l
      go x test.No ez v e f = record {
        value = record { lists = l ∷ []; failure = None };
        turned = ended l x.test test.No (record { lists = l ∷ []; failure = None }) ez (λ k j. refl);
        rows = rows-then l [] row (yield-given []);
      }
      go x (test.Failed c) ez v e f = record {
        value = record { lists = l ∷ []; failure = Some c };
        turned = ended l x.test (test.Failed c) (record { lists = l ∷ []; failure = Some c }) ez (λ k j. refl);
        rows = rows-then l [] row (yield-given []);
      }
      go x test.Yes ez v e f =
          let a = a-turn m rest l row.value before e le o (subst (λ v. LaterFires u m form ks (tested form b r ks (full l row.value) before v) e) v f) in
          record { value = member l a.run.value; turned = went l x.test a.names a.run.value a.run.turned ez; rows = rows-then l a.run.value.lists row a.run.rows }

  pub run-read : (m : ℕ) → Rest m
  run-read zero = one-test zero (λ k e. absurd (omega (arith, e)))
  run-read (suc m) = one-test (suc m) (λ k e. let s : m ≡ k = omega (arith, e) in subst Rest s (run-read m))

  less-read : (m k : ℕ) → suc k ≡ m → Rest k
  less-read m k e = run-read k

  -- ---- the whole loop

  closing : (f : Option Cause) (rows : List (List Val)) → Yields (λ j. unless_failed outputs f (folded q.clauses (pos 1) rows))
  closing None rows = let vs = made (pos 1) (with_rows q.clauses (no_rows q.clauses) rows) in yield-plus (length q.clauses) (λ j. given vs) (yield-given vs)
  closing (Some c) rows = yield-given (failed outputs c)

  -- by the turns that the source gives
  abbrev whole : (ℕ → List Val → Timed Members) → ℕ → Timed (List Val)
  whole all d = andthen (initial d) (λ names. andthen (all d (drop (length env) names)) (λ s. andthen (each (λ m. values d (env ++ m)) s.lists) (λ rows. unless_failed outputs s.failure (folded q.clauses (pos 1) rows))))

  put-together : (all : ℕ → List Val → Timed Members) (names : Yields initial) (s : Yields (λ d. all d (drop (length env) names.value))) → Yields (λ d. each (λ m. values d (env ++ m)) s.value.lists) → Yields (whole all)
  put-together all names s rows =
      yield-then initial (λ d names. andthen (all d (drop (length env) names)) (λ s. andthen (each (λ m. values d (env ++ m)) s.lists) (λ rows. unless_failed outputs s.failure (folded q.clauses (pos 1) rows)))) names
      (yield-then (λ d. all d (drop (length env) names.value)) (λ d s. andthen (each (λ m. values d (env ++ m)) s.lists) (λ rows. unless_failed outputs s.failure (folded q.clauses (pos 1) rows))) s
      (yield-then (λ d. each (λ m. values d (env ++ m)) s.value.lists) (λ d rows. unless_failed outputs s.value.failure (folded q.clauses (pos 1) rows)) rows (closing s.value.failure rows.value)))

  -- the initial graph, and what follows it
  pub record Begun : Type 0 where
    pub depth : ℕ
    pub at : depth ≡ n
    pub names : Yields initial
    pub row : Yields (λ d. values d (env ++ drop (length env) names.value))
    pub typed : AreOf tys (drop (length env) names.value)
    pub rest : ℕ
    pub follows : LaterFires u depth form ks (follow form ks Starting (full (drop (length env) names.value) row.value)) rest

  begun : (cost : ℕ) → LaterFires u n form ks (Enter false i ks Starting) cost → Begun
  begun cost f =
      let z = later-is u n form ks _ cost f in
      let d = is-same u form z.depth n is.same z.is_less in
      let x = h.of_initial z.depth z.cost (omega (arith, d)) z.fires in
      let w = once i ks z.results (full (drop (length env) x.named.value) x.row.value) z.depth x.means z.means in
      record { depth = z.depth; at = d; names = x.named; row = x.row; typed = x.typed; rest = z.rest; follows = subst (λ rs. LaterFires u z.depth form ks (follow form ks Starting rs) z.rest) w z.follows }

  -- a turn that no test stands before
  untested : (l : List Val) (a : TurnAfter l) → Yields (λ d. turn (more d d) (next d env) l test.Yes)
  untested l a = record {
    value = member l a.run.value;
    steps = 1 + (a.names.steps + (a.run.turned.steps + 0));
    from = record {
      least = a.names.from.least + a.run.turned.least;
      holds = λ d le.
          ap (λ o. plus 1 (andthen o (λ m. andthen (more d d m) (λ s. given (member l s))))) (a.names.from.holds d (omega (arith, le)))
          ∙ ap (λ o. plus 1 (plus a.names.steps (andthen o (λ s. given (member l s))))) (a.run.turned.holds d d (omega (arith, le)) (omega (arith, le)));
    };
  }

  untested-is : (l : List Val) (a : TurnAfter l) → Yields (λ d. each (λ m. values d (env ++ m)) (member l a.run.value).lists) → Yields (λ d. each (λ m. values d (env ++ m)) (untested l a).value.lists)
  unfolding untested
  untested-is l a y = y

  pub read-b : (cost : ℕ) → ((ls : List Carried) → follow form ks Starting ls ≡ Enter false t (ks ++ ls) (Testing (ls ∷ []))) → LaterFires u n form ks (Enter false i ks Starting) cost
      → Yields (whole (λ d. more d d))
  read-b cost starts f =
      let x = begun cost f in
      let l = drop (length env) x.names.value in
      let g = subst (λ y. LaterFires u x.depth form ks y x.rest) (starts (full l x.row.value)) x.follows in
      let rr = run-read x.depth l x.row [] x.rest (omega (arith, x.at)) x.typed g in
      put-together (λ d. more d d) x.names (record { value = rr.value; steps = rr.turned.steps; from = record { least = rr.turned.least; holds = λ d le. rr.turned.holds d d le le } }) rr.rows

  pub read-a : (cost : ℕ) → ((ls : List Carried) → follow form ks Starting ls ≡ Enter true b (ks ++ ls) (Turning (ls ∷ []))) → LaterFires u n form ks (Enter false i ks Starting) cost
      → Yields (whole (λ d l. turn (more d d) (next d env) l test.Yes))
  read-a cost starts f =
      let x = begun cost f in
      let l = drop (length env) x.names.value in
      let g = subst (λ y. LaterFires u x.depth form ks y x.rest) (starts (full l x.row.value)) x.follows in
      let a = a-turn x.depth (less-read x.depth) l x.row.value [] x.rest (omega (arith, x.at)) x.typed g in
      put-together (λ d l. turn (more d d) (next d env) l test.Yes) x.names (untested l a) (untested-is l a (rows-then l a.run.value.lists x.row a.run.rows))

module _ (u : Network) (i t b r outputs n : ℕ) (ks : List Carried) (q : Turns) (initial : ℕ → Timed (List Val)) (tests values : ℕ → Gives) (next : ℕ → List Val → Gives) (env : List Val)
    (tys : List Ty) (besides : List Val → List Val) (h : AreTurnsRead u ks q tests values next env tys besides i t b n initial) where
  by-kind : (is_first : Bool) (cost : ℕ) → LaterFires u n (loop_form is_first i t b r outputs) ks (next_of (first (loop_form is_first i t b r outputs) ks)) cost
      → Yields (λ d. andthen (initial d) (λ names. andthen (members d is_first q.is_until (tests d) (next d) env (drop (length env) names)) (λ s. andthen (each (λ m. values d (env ++ m)) s.lists) (λ rows. unless_failed outputs s.failure (folded q.clauses (pos 1) rows)))))
  by-kind true cost f = read-b u (LoopB i t b r outputs) i t b r outputs n ks (is-loop-b i t b r outputs ks) q initial tests values next env tys besides h cost (λ ls. refl) f
  by-kind false cost f = read-a u (LoopA i t b r outputs) i t b r outputs n ks (is-loop-a i t b r outputs ks) q initial tests values next env tys besides h cost (λ ls. refl) f

pub loops-read : AreLoopsRead
loops-read u i t b r outputs n cost ks q initial tests values next env tys besides h f = by-kind u i t b r outputs n ks q initial tests values next env tys besides h q.is_first cost f
