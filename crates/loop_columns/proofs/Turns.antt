-- What a loop of turns gives and fires, by the graphs inside.
use Rattle.std.proofs.Common.{◌≡◌, ℕ, zero, suc, ◌+◌, ◌*◌, ◌≤◌, pos, Bool, true, false, List, [], ◌∷◌, ◌++◌, map, length, replicate, Option, Some, None, refl, sym, ap, ◌∙◌, subst, arith}
use Rattle.flow_value.specs.declared.cause.Cause.{Cause}
use Rattle.flow_value.specs.declared.value.Val.{Val}
use Rattle.flow_value.specs.declared.ty.Ty.{Ty}
use Rattle.flow_value.specs.declared.value.Val.TheVariants as val
use Rattle.typed_tree.specs.declared.expr.Turns.{Turns}
use Rattle.meaning.specs.declared.words.Test.{Test}
use Rattle.meaning.specs.declared.words.Test.TheVariants as test
use Rattle.meaning.specs.Timed.{Timed, given, andthen}
use Rattle.meaning.specs.Words.{failed, test_part, test_of, goes_on}
use Rattle.meaning.specs.Rows.{no_rows, with_rows, made}
use Rattle.meaning.specs.Meaning.{Gives, Members, member, turn, turns, members, each, folded, unless_failed}
use Rattle.graph_meaning.specs.Carried.{Carried, Value, Many}
use Rattle.graph_meaning.specs.Forms.{Form, LoopA, LoopB, Next, Starting, Testing, Turning, Returning, Enter, Leave, follow, fails, outputs_of, tested, columns, columns_after, turn_columns, add_row}
use Rattle.graph_meaning.specs.Demand.{Network}
use Rattle.graph_meaning.specs.Plain.{is_deeper}
use Rattle.typed_rows.proofs.ValueKinds.{BoolKind, a_bool, no_bool, as_bool, out_bool, out_err}
use Rattle.typed_rows.specs.Rows.{AreOf}
use Rattle.loop_columns.specs.Parts.{GraphGives, Goes, NodeGives}
use Rattle.loop_columns.specs.Clauses.{AreWide}
use Rattle.loop_columns.specs.Loops.{Gave}
use Rattle.loop_columns.specs.Turns.{loop_form, Says, said, AreTestsSaid, fulls, Each, AreTurnParts, AreLoopsGiven}
use Rattle.loop_columns.proofs.Steps.{plus-some, given-is, then-some}
use Rattle.loop_columns.proofs.Nodes.{errors-are, goes-more, goes-leave, goes-enter, goes-turn}

-- ---- tests

said-by : (until : Bool) (v : Val) → BoolKind v → Says (goes_on until (test_of (v ∷ []))) (said until v)
said-by true _ (a_bool true) = subst (λ y. Says (goes_on true (test_part y)) (val.Bool false)) (sym (out_bool true)) refl
said-by true _ (a_bool false) = subst (λ y. Says (goes_on true (test_part y)) (val.Bool true)) (sym (out_bool false)) refl
said-by true _ (no_bool c) = subst (λ y. Says (goes_on true (test_part y)) (val.Err c)) (sym (out_err c)) refl
said-by false _ (a_bool true) = subst (λ y. Says (goes_on false (test_part y)) (val.Bool true)) (sym (out_bool true)) refl
said-by false _ (a_bool false) = subst (λ y. Says (goes_on false (test_part y)) (val.Bool false)) (sym (out_bool false)) refl
said-by false _ (no_bool c) = subst (λ y. Says (goes_on false (test_part y)) (val.Err c)) (sym (out_err c)) refl

pub tests-said : AreTestsSaid
tests-said until v h = said-by until v (as_bool v h)

-- ---- the lists of loop values, as a loop keeps them

abbrev pub onto : List (List Val) → List (List Carried) → List (List Carried)
onto [] before = before
onto (r ∷ rs) before = onto rs (map Value r ∷ before)

abbrev added : List (List Val) → List Carried → List Carried
added [] ms = ms
added (r ∷ rs) ms = add_row (map Value r) (added rs ms)

onto-added : (rows : List (List Val)) (before : List (List Carried)) (ms : List Carried) → columns_after (onto rows before) ms ≡ columns_after before (added rows ms)
onto-added [] before ms = refl
onto-added (r ∷ rs) before ms = onto-added rs (map Value r ∷ before) ms

columns-added : (n : ℕ) (rows : List (List Val)) → columns n (map (map Value) rows) ≡ added rows (replicate n (Many []))
columns-added n [] = refl
columns-added n (r ∷ rs) = ap (λ ms. add_row (map Value r) ms) (columns-added n rs)

abbrev AreLong : ℕ → List (List Carried) → Type 0
AreLong n [] = Unit {0}
AreLong n (r ∷ rs) = (length r ≡ n) × AreLong n rs

length-values : (vs : List Val) → length (map Value vs) ≡ length vs
length-values [] = refl
length-values (v ∷ vs) = ap suc (length-values vs)

turned : (n : ℕ) (stack : List (List Carried)) → AreLong n stack → (row : List Carried) (rest : List (List Carried)) → stack ≡ row ∷ rest → turn_columns stack ≡ columns_after stack (replicate n (Many []))
turned n stack h row rest e =
    subst (λ s. AreLong n s → turn_columns s ≡ columns_after s (replicate n (Many []))) (sym e)
    (λ h. ap (λ m. columns_after (row ∷ rest) (replicate m (Many []))) h.0) h

onto-long : (n : ℕ) (rows : List (List Val)) (before : List (List Carried)) → AreWide n rows → AreLong n before → AreLong n (onto rows before)
onto-long n [] before a b = b
onto-long n (r ∷ rs) before a b = onto-long n rs (map Value r ∷ before) a.1 (length-values r ∙ a.0, b)

onto-some : (rows : List (List Val)) (row : List Carried) (rest : List (List Carried)) → (x : List Carried) × (xs : List (List Carried)) × (onto rows (row ∷ rest) ≡ x ∷ xs)
onto-some [] row rest = (row, rest, refl)
onto-some (r ∷ rs) row rest = onto-some rs (map Value r) (row ∷ rest)

-- the multiples of all loop values are their columns
turn-columns : (n : ℕ) (r : List Val) (rows : List (List Val)) → AreWide n (r ∷ rows) → turn_columns (onto (r ∷ rows) []) ≡ columns n (map (map Value) (r ∷ rows))
turn-columns n r rows h =
    let x = onto-some rows (map Value r) [] in
    turned n (onto (r ∷ rows) []) (onto-long n (r ∷ rows) [] h tt) x.0 x.1 x.2 ∙ onto-added (r ∷ rows) [] (replicate n (Many [])) ∙ sym (columns-added n (r ∷ rows))

-- ---- what a loop does next

pub record IsLoop (form : Form) (t b r o : ℕ) (ks : List Carried) : Type 0 where
  pub same : is_deeper form false ≡ false
  pub less : is_deeper form true ≡ true
  pub outs : outputs_of form ≡ o
  pub tests : (before : List (List Carried)) (ls : List Carried) (v : Val) → follow form ks (Testing (ls ∷ before)) (Value v ∷ []) ≡ tested form b r ks ls before v
  pub turns : (before : List (List Carried)) (ls : List Carried) → follow form ks (Turning before) ls ≡ Enter false t (ks ++ ls) (Testing (ls ∷ before))
  pub leaves : (rs : List Carried) → follow form ks Returning rs ≡ Leave rs

pub is-loop-b : (i t b r outputs : ℕ) (ks : List Carried) → IsLoop (LoopB i t b r outputs) t b r outputs ks
is-loop-b i t b r outputs ks = record { same = refl; less = refl; outs = refl; tests = λ before ls v. refl; turns = λ before ls. refl; leaves = λ rs. refl }

pub is-loop-a : (i t b r outputs : ℕ) (ks : List Carried) → IsLoop (LoopA i t b r outputs) t b r outputs ks
is-loop-a i t b r outputs ks = record { same = refl; less = refl; outs = refl; tests = λ before ls v. refl; turns = λ before ls. refl; leaves = λ rs. refl }

-- ---- the turns

module _ (u : Network) (form : Form) (i t b r wide outputs : ℕ) (ks : List Carried) (is : IsLoop form t b r outputs ks) (q : Turns) (tests values : Gives) (next : List Val → Gives) (env : List Val)
    (tys : List Ty) (besides : List Val → List Val) (first_values : List Val) (limit : ℕ) (h : AreTurnParts u i t b r wide ks q tests values next env tys besides first_values limit) where
  abbrev full : List Val → List Val → List Carried
  full l row = map Value (l ++ besides row)

  abbrev rows_of : List (List Val) → Timed (List (List Val))
  rows_of ls = each (λ m. values (env ++ m)) ls

  -- what follows the last test
  abbrev ending : Option Cause → List (List Carried) → Next
  ending None lists = Enter false r (ks ++ turn_columns lists) Returning
  ending (Some c) lists = fails form c

  -- from the test on these loop values on
  pub record TurnRun (l : List Val) (s : Members) (j : ℕ) (rows : List (List Val)) (st : ℕ) : Type 0 where
    pub row : List Val
    pub k : ℕ
    pub gives : values (env ++ l) ≡ Some (row, k)
    pub bound_by : ℕ
    pub bound : bound_by + 8 * k ≤ 8 * j + 8 * st + 1
    pub others : List (List Val)
    pub begins : fulls besides s.lists rows ≡ (l ++ besides row) ∷ others
    pub goes : (before : List (List Carried)) (outs : List Carried) (lim : ℕ) → Goes u form ks (ending s.failure (onto (fulls besides s.lists rows) before)) outs lim
        → Goes u form ks (Enter false t (ks ++ full l row) (Testing (full l row ∷ before))) outs (bound_by + lim)

  alone : (l : List Val) (rows : List (List Val)) (st : ℕ) → rows_of (l ∷ []) ≡ Some (rows, st) → (row : List Val) × (k : ℕ) × (values (env ++ l) ≡ Some (row, k)) × (row ∷ [] ≡ rows) × (k ≤ st)
  alone l rows st e =
      let x = then-some (values (env ++ l)) (λ row. andthen (rows_of []) (λ rs. given (row ∷ rs))) rows st e in
      let y = then-some (rows_of []) (λ rs. given (x.mid ∷ rs)) rows x.k x.second in
      let z = given-is [] y.mid y.j y.first in
      let w = given-is (x.mid ∷ y.mid) rows y.k y.second in
      (x.mid, x.j, x.first, ap (λ rs. x.mid ∷ rs) z.0 ∙ w.0, omega (arith, x.sum))

  -- what follows a test that says this
  after-no : (before : List (List Carried)) (ls : List Carried) (v : Val) → v ≡ val.Bool false → follow form ks (Testing (ls ∷ before)) (Value v ∷ []) ≡ ending None (ls ∷ before)
  after-no before ls v e = is.tests before ls v ∙ ap (tested form b r ks ls before) e

  after-yes : (before : List (List Carried)) (ls : List Carried) (v : Val) → v ≡ val.Bool true → follow form ks (Testing (ls ∷ before)) (Value v ∷ []) ≡ Enter true b (ks ++ ls) (Turning (ls ∷ before))
  after-yes before ls v e = is.tests before ls v ∙ ap (tested form b r ks ls before) e

  after-error : (before : List (List Carried)) (ls : List Carried) (v : Val) (c : Cause) → v ≡ val.Err c → follow form ks (Testing (ls ∷ before)) (Value v ∷ []) ≡ ending (Some c) (ls ∷ before)
  after-error before ls v c e = is.tests before ls v ∙ ap (tested form b r ks ls before) e

  test-leads : (before : List (List Carried)) (l row : List Val) (v : Val) (j lim : ℕ) (step : Next) (outs : List Carried) → GraphGives u t (ks ++ full l row) (Value v ∷ []) j
      → follow form ks (Testing (full l row ∷ before)) (Value v ∷ []) ≡ step → Goes u form ks step outs lim → Goes u form ks (Enter false t (ks ++ full l row) (Testing (full l row ∷ before))) outs (j + lim)
  test-leads before l row v j lim step outs g e d =
      goes-enter u form ks t (ks ++ full l row) (Testing (full l row ∷ before)) (Value v ∷ []) outs j lim is.same g (subst (λ n. Goes u form ks n outs lim) (sym e) d)

  turn-leads : (before : List (List Carried)) (l row m row' : List Val) (j lim : ℕ) (outs : List Carried) → GraphGives u b (ks ++ full l row) (full m row') j
      → Goes u form ks (Enter false t (ks ++ full m row') (Testing (full m row' ∷ full l row ∷ before))) outs lim → Goes u form ks (Enter true b (ks ++ full l row) (Turning (full l row ∷ before))) outs (1 + (j + lim))
  turn-leads before l row m row' j lim outs g d =
      goes-turn u form ks b (ks ++ full l row) (Turning (full l row ∷ before)) (full m row') outs j lim is.less g (subst (λ n. Goes u form ks n outs lim) (sym (is.turns (full l row ∷ before) (full m row'))) d)

  turn-runs : (n : ℕ) (l : List Val) (s : Members) (j : ℕ) (rows : List (List Val)) (st : ℕ) → AreOf tys l → turns n q.is_until tests next env l ≡ Some (s, j) → rows_of s.lists ≡ Some (rows, st) → TurnRun l s j rows st
  turn-runs zero l s j rows st o e f = absurd cc
  turn-runs (suc n) l s j rows st o e f =
      let x = then-some (tests (env ++ l)) (λ ts. turn (turns n q.is_until tests next env) (next env) l (goes_on q.is_until (test_of ts))) s j e in
      go (λ m s' j' rows' st' o' e' f'. turn-runs n m s' j' rows' st' o' e' f') x.mid x.j x.k x.first x.sum (goes_on q.is_until (test_of x.mid)) refl x.second
    where
      Rest : Type 0
      Rest = (m : List Val) (s' : Members) (j' : ℕ) (rows' : List (List Val)) (st' : ℕ) → AreOf tys m → turns n q.is_until tests next env m ≡ Some (s', j') → rows_of s'.lists ≡ Some (rows', st') → TurnRun m s' j' rows' st'

      -- a test that ends the loop
      ended : (tv : List Val) (jt : ℕ) → tests (env ++ l) ≡ Some (tv, jt) → (z : Test) → goes_on q.is_until (test_of tv) ≡ z → (failure : Option Cause)
          → ((before : List (List Carried)) (ls : List Carried) (v : Val) → Says z v → follow form ks (Testing (ls ∷ before)) (Value v ∷ []) ≡ ending failure (ls ∷ before))
          → (k1 : ℕ) → jt + k1 ≡ j → record { lists = l ∷ []; failure = failure } ≡ s → TurnRun l s j rows st
      ended tv jt et z ez failure step k1 sum same =
          let g = subst (λ s. rows_of s.lists ≡ Some (rows, st)) (sym same) f in
          let a = alone l rows st g in
          let w = h.testing l a.0 tv jt o et in
          let says = subst (λ z. Says z w.0) ez w.1 in
          subst (λ s. TurnRun l s j rows st) same
          (subst (λ rs. TurnRun l (record { lists = l ∷ []; failure = failure }) j rs st) a.3
          (record {
            row = a.0;
            k = a.1;
            gives = a.2;
            bound_by = 8 * jt + 1;
            bound = omega (arith, a.4, sum);
            others = [];
            begins = refl;
            goes = λ before outs lim d. test-leads before l a.0 w.0 (8 * jt + 1) lim (ending failure (full l a.0 ∷ before)) outs w.2 (step before (full l a.0) w.0 says) d;
          }))

      go : Rest → (tv : List Val) (jt k1 : ℕ) → tests (env ++ l) ≡ Some (tv, jt) → jt + k1 ≡ j → (z : Test) → goes_on q.is_until (test_of tv) ≡ z
          → turn (turns n q.is_until tests next env) (next env) l (goes_on q.is_until (test_of tv)) ≡ Some (s, k1) → TurnRun l s j rows st
      go rest tv jt k1 et sum test.No ez e2 =
          let y = given-is _ s k1 (sym (ap (turn (turns n q.is_until tests next env) (next env) l) ez) ∙ e2) in
          ended tv jt et test.No ez None (λ before ls v x. after-no before ls v x) k1 sum y.0
      go rest tv jt k1 et sum (test.Failed c) ez e2 =
          let y = given-is _ s k1 (sym (ap (turn (turns n q.is_until tests next env) (next env) l) ez) ∙ e2) in
          ended tv jt et (test.Failed c) ez (Some c) (λ before ls v x. after-error before ls v c x) k1 sum y.0
      go rest tv jt k1 et sum test.Yes ez e2 =
          let y = plus-some 1 (andthen (next env l) (λ m. andthen (turns n q.is_until tests next env m) (λ s. given (member l s)))) s k1 (sym (ap (turn (turns n q.is_until tests next env) (next env) l) ez) ∙ e2) in
          let z = then-some (next env l) (λ m. andthen (turns n q.is_until tests next env m) (λ s. given (member l s))) s y.0 y.1 in
          let w = then-some (turns n q.is_until tests next env z.mid) (λ s. given (member l s)) s z.k z.second in
          let same = given-is (member l w.mid) s w.k w.second in
          let g = subst (λ s. rows_of s.lists ≡ Some (rows, st)) (sym same.0) f in
          let r1 = then-some (values (env ++ l)) (λ row. andthen (rows_of w.mid.lists) (λ rs. given (row ∷ rs))) rows st g in
          let r2 = then-some (rows_of w.mid.lists) (λ rs. given (r1.mid ∷ rs)) rows r1.k r1.second in
          let r3 = given-is (r1.mid ∷ r2.mid) rows r2.k r2.second in
          let tr = rest z.mid w.mid w.j r2.mid r2.j (h.stays l z.mid z.j o z.first) w.first r2.first in
          let bg = h.turning l r1.mid z.mid tr.row z.j tr.k o z.first tr.gives in
          let t1 = h.testing l r1.mid tv jt o et in
          let says = subst (λ z. Says z t1.0) ez t1.1 in
          let j1 = 8 * jt + 1 in
          let j2 = 8 * z.j + 8 * tr.k + 6 in
          subst (λ s. TurnRun l s j rows st) same.0
          (subst (λ rs. TurnRun l (member l w.mid) j rs st) r3.0
          (record {
            row = r1.mid;
            k = r1.j;
            gives = r1.first;
            bound_by = j1 + (1 + (j2 + tr.bound_by));
            bound = omega (arith, tr.bound, sum, y.2, z.sum, w.sum, same.1, r1.sum, r2.sum, r3.1);
            others = fulls besides w.mid.lists r2.mid;
            begins = refl;
            goes = λ before outs lim d.
                let rest_goes = tr.goes (full l r1.mid ∷ before) outs lim d in
                let turn_goes = turn-leads before l r1.mid z.mid tr.row j2 (tr.bound_by + lim) outs bg rest_goes in
                goes-more u form ks _ outs (j1 + (1 + (j2 + (tr.bound_by + lim)))) (j1 + (1 + (j2 + tr.bound_by)) + lim) (omega arith)
                (test-leads before l r1.mid t1.0 j1 (1 + (j2 + (tr.bound_by + lim))) _ outs t1.2 (after-yes before (full l r1.mid) t1.0 says) turn_goes);
          }))

  -- ---- the whole loop

  turns-typed : (n : ℕ) (l : List Val) (s : Members) (j : ℕ) → AreOf tys l → turns n q.is_until tests next env l ≡ Some (s, j) → Each (AreOf tys) s.lists
  turns-typed zero l s j o e = absurd cc
  turns-typed (suc n) l s j o e =
      let x = then-some (tests (env ++ l)) (λ ts. turn (turns n q.is_until tests next env) (next env) l (goes_on q.is_until (test_of ts))) s j e in
      go (λ m s' j' o' e'. turns-typed n m s' j' o' e') (goes_on q.is_until (test_of x.mid)) x.k x.second
    where
      go : ((m : List Val) (s' : Members) (j' : ℕ) → AreOf tys m → turns n q.is_until tests next env m ≡ Some (s', j') → Each (AreOf tys) s'.lists) → (z : Test) (k : ℕ)
          → turn (turns n q.is_until tests next env) (next env) l z ≡ Some (s, k) → Each (AreOf tys) s.lists
      go rest test.No k f = let y = given-is _ s k f in subst (λ s. Each (AreOf tys) s.lists) y.0 (o, tt)
      go rest (test.Failed c) k f = let y = given-is _ s k f in subst (λ s. Each (AreOf tys) s.lists) y.0 (o, tt)
      go rest test.Yes k f =
          let y = plus-some 1 (andthen (next env l) (λ m. andthen (turns n q.is_until tests next env m) (λ s. given (member l s)))) s k f in
          let z = then-some (next env l) (λ m. andthen (turns n q.is_until tests next env m) (λ s. given (member l s))) s y.0 y.1 in
          let w = then-some (turns n q.is_until tests next env z.mid) (λ s. given (member l s)) s z.k z.second in
          let same = given-is (member l w.mid) s w.k w.second in
          subst (λ s. Each (AreOf tys) s.lists) same.0 (o, rest z.mid w.mid w.j (h.stays l z.mid z.j o z.first) w.first)

  rows-gave : (ls rows : List (List Val)) (st : ℕ) → rows_of ls ≡ Some (rows, st) → Gave values (map (λ m. env ++ m) ls) rows
  rows-gave [] rows st e = let x = given-is [] rows st e in subst (Gave values []) x.0 tt
  rows-gave (l ∷ ls) rows st e =
      let x = then-some (values (env ++ l)) (λ row. andthen (rows_of ls) (λ rs. given (row ∷ rs))) rows st e in
      let y = then-some (rows_of ls) (λ rs. given (x.mid ∷ rs)) rows x.k x.second in
      let w = given-is (x.mid ∷ y.mid) rows y.k y.second in
      subst (Gave values (map (λ m. env ++ m) (l ∷ ls))) w.0 ((x.j, x.first), rows-gave ls y.mid y.j y.first)

  fulls-wide : (ls rows : List (List Val)) → Each (AreOf tys) ls → Gave values (map (λ m. env ++ m) ls) rows → AreWide wide (fulls besides ls rows)
  fulls-wide [] [] o g = tt
  fulls-wide [] (row ∷ rows) o g = absurd g
  fulls-wide (l ∷ ls) [] o g = absurd g
  fulls-wide (l ∷ ls) (row ∷ rows) o g = (h.long l row g.0.0 o.0 g.0.1, fulls-wide ls rows o.1 g.1)

  abbrev clauses : List (List Val) → List Val
  clauses rows = made (pos 1) (with_rows q.clauses (no_rows q.clauses) rows)

  -- what follows the last test is what the source makes of its rows
  last : (s : Members) (rows : List (List Val)) (l row : List Val) (others : List (List Val)) (vs : List Val) (k : ℕ) → fulls besides s.lists rows ≡ (l ++ besides row) ∷ others → Each (AreOf tys) s.lists
      → Gave values (map (λ m. env ++ m) s.lists) rows → (f : Option Cause) → unless_failed outputs f (folded q.clauses (pos 1) rows) ≡ Some (vs, k)
      → Goes u form ks (ending f (onto (fulls besides s.lists rows) [])) (map Value vs) (8 * k)
  last s rows l row others vs k begins o g None e =
      let y = plus-some (length q.clauses) (given (clauses rows)) vs k e in
      let z = given-is (clauses rows) vs y.0 y.1 in
      let wide_rows = fulls-wide s.lists rows o g in
      let same : turn_columns (onto (fulls besides s.lists rows) []) ≡ columns wide (map (map Value) (fulls besides s.lists rows)) =
      subst (λ fs. AreWide wide fs → turn_columns (onto fs []) ≡ columns wide (map (map Value) fs)) (sym begins) (turn-columns wide (l ++ besides row) others) wide_rows in
      let node = goes-enter u form ks r _ Returning (map Value (clauses rows)) (map Value (clauses rows)) (8 * length q.clauses) 0 is.same (h.returns s.lists rows o g)
      (subst (λ n. Goes u form ks n (map Value (clauses rows)) 0) (sym (is.leaves (map Value (clauses rows)))) (goes-leave u form ks (map Value (clauses rows)))) in
      subst (λ vs. Goes u form ks (Enter false r (ks ++ turn_columns (onto (fulls besides s.lists rows) [])) Returning) (map Value vs) (8 * k)) z.0
      (goes-more u form ks _ _ (8 * length q.clauses + 0) (8 * k) (omega (arith, y.2, z.1))
      (subst (λ cs. Goes u form ks (Enter false r (ks ++ cs) Returning) (map Value (clauses rows)) (8 * length q.clauses + 0)) (sym same) node))
  last s rows l row others vs k begins o g (Some c) e =
      let z = given-is (failed outputs c) vs k e in
      subst (λ vs. Goes u form ks (fails form c) (map Value vs) (8 * k)) z.0
      (goes-more u form ks _ _ 0 (8 * k) (omega arith)
      (subst (λ rs. Goes u form ks (fails form c) rs 0) (ap (λ n. replicate n (Value (val.Err c))) is.outs ∙ errors-are outputs c) (goes-leave u form ks (replicate (outputs_of form) (Value (val.Err c))))))

  -- from the first loop values, where the test comes first
  pub goes-b : (n : ℕ) (vs : List Val) (steps : ℕ) → ((ls : List Carried) → follow form ks Starting ls ≡ Enter false t (ks ++ ls) (Testing (ls ∷ [])))
      → andthen (turns n q.is_until tests next env first_values) (λ s. andthen (rows_of s.lists) (λ rows. unless_failed outputs s.failure (folded q.clauses (pos 1) rows))) ≡ Some (vs, steps)
      → Goes u form ks (Enter false i ks Starting) (map Value vs) (8 * steps + limit + 1)
  goes-b n vs steps starts e =
      let x = then-some (turns n q.is_until tests next env first_values) (λ s. andthen (rows_of s.lists) (λ rows. unless_failed outputs s.failure (folded q.clauses (pos 1) rows))) vs steps e in
      let y = then-some (rows_of x.mid.lists) (λ rows. unless_failed outputs x.mid.failure (folded q.clauses (pos 1) rows)) vs x.k x.second in
      let run = turn-runs n first_values x.mid x.j y.mid y.j h.typed x.first y.first in
      let end = last x.mid y.mid first_values run.row run.others vs y.k run.begins (turns-typed n first_values x.mid x.j h.typed x.first) (rows-gave x.mid.lists y.mid y.j y.first) x.mid.failure y.second in
      let ls = full first_values run.row in
      goes-more u form ks _ _ ((8 * run.k + limit) + (run.bound_by + 8 * y.k)) (8 * steps + limit + 1) (omega (arith, run.bound, x.sum, y.sum))
      (goes-enter u form ks i ks Starting ls (map Value vs) (8 * run.k + limit) (run.bound_by + 8 * y.k) is.same (h.initial run.row run.k run.gives)
      (subst (λ n. Goes u form ks n (map Value vs) (run.bound_by + 8 * y.k)) (sym (starts ls)) (run.goes [] (map Value vs) (8 * y.k) end)))

  -- and where it comes behind the turn
  pub goes-a : (n : ℕ) (vs : List Val) (steps : ℕ) → ((ls : List Carried) → follow form ks Starting ls ≡ Enter true b (ks ++ ls) (Turning (ls ∷ [])))
      → andthen (turn (turns n q.is_until tests next env) (next env) first_values test.Yes) (λ s. andthen (rows_of s.lists) (λ rows. unless_failed outputs s.failure (folded q.clauses (pos 1) rows))) ≡ Some (vs, steps)
      → Goes u form ks (Enter false i ks Starting) (map Value vs) (8 * steps + limit + 1)
  goes-a n vs steps starts e =
      let l = first_values in
      let x = then-some (turn (turns n q.is_until tests next env) (next env) l test.Yes) (λ s. andthen (rows_of s.lists) (λ rows. unless_failed outputs s.failure (folded q.clauses (pos 1) rows))) vs steps e in
      let a = plus-some 1 (andthen (next env l) (λ m. andthen (turns n q.is_until tests next env m) (λ s. given (member l s)))) x.mid x.j x.first in
      let z = then-some (next env l) (λ m. andthen (turns n q.is_until tests next env m) (λ s. given (member l s))) x.mid a.0 a.1 in
      let w = then-some (turns n q.is_until tests next env z.mid) (λ s. given (member l s)) x.mid z.k z.second in
      let same = given-is (member l w.mid) x.mid w.k w.second in
      let second = subst (λ s. andthen (rows_of s.lists) (λ rows. unless_failed outputs s.failure (folded q.clauses (pos 1) rows)) ≡ Some (vs, x.k)) (sym same.0) x.second in
      let y = then-some (rows_of (l ∷ w.mid.lists)) (λ rows. unless_failed outputs w.mid.failure (folded q.clauses (pos 1) rows)) vs x.k second in
      let r1 = then-some (values (env ++ l)) (λ row. andthen (rows_of w.mid.lists) (λ rs. given (row ∷ rs))) y.mid y.j y.first in
      let r2 = then-some (rows_of w.mid.lists) (λ rs. given (r1.mid ∷ rs)) y.mid r1.k r1.second in
      let r3 = given-is (r1.mid ∷ r2.mid) y.mid r2.k r2.second in
      let typed = h.stays l z.mid z.j h.typed z.first in
      let run = turn-runs n z.mid w.mid w.j r2.mid r2.j typed w.first r2.first in
      let third = subst (λ rows. unless_failed outputs w.mid.failure (folded q.clauses (pos 1) rows) ≡ Some (vs, y.k)) (sym r3.0) y.second in
      let gave : Gave values (map (λ m. env ++ m) (l ∷ w.mid.lists)) (r1.mid ∷ r2.mid) = ((r1.j, r1.first), rows-gave w.mid.lists r2.mid r2.j r2.first) in
      let end = last (member l w.mid) (r1.mid ∷ r2.mid) l r1.mid (fulls besides w.mid.lists r2.mid) vs y.k refl (h.typed, turns-typed n z.mid w.mid w.j typed w.first) gave w.mid.failure third in
      let ls = full l r1.mid in
      let j2 = 8 * z.j + 8 * run.k + 6 in
      let rest_goes = run.goes (ls ∷ []) (map Value vs) (8 * y.k) end in
      let turn_goes = turn-leads [] l r1.mid z.mid run.row j2 (run.bound_by + 8 * y.k) (map Value vs) (h.turning l r1.mid z.mid run.row z.j run.k h.typed z.first run.gives) rest_goes in
      goes-more u form ks _ _ ((8 * r1.j + limit) + (1 + (j2 + (run.bound_by + 8 * y.k)))) (8 * steps + limit + 1) (omega (arith, run.bound, x.sum, a.2, z.sum, w.sum, same.1, y.sum, r1.sum, r2.sum, r3.1))
      (goes-enter u form ks i ks Starting ls (map Value vs) (8 * r1.j + limit) (1 + (j2 + (run.bound_by + 8 * y.k))) is.same (h.initial r1.mid r1.j r1.first)
      (subst (λ n. Goes u form ks n (map Value vs) (1 + (j2 + (run.bound_by + 8 * y.k)))) (sym (starts ls)) turn_goes))

module _ (u : Network) (i t b r wide outputs : ℕ) (ks : List Carried) (q : Turns) (tests values : Gives) (next : List Val → Gives) (env : List Val)
    (tys : List Ty) (besides : List Val → List Val) (l : List Val) (limit : ℕ) (h : AreTurnParts u i t b r wide ks q tests values next env tys besides l limit) where
  by-kind : (is_first : Bool) (n : ℕ) (vs : List Val) (steps : ℕ)
      → andthen (members n is_first q.is_until tests next env l) (λ s. andthen (each (λ m. values (env ++ m)) s.lists) (λ rows. unless_failed outputs s.failure (folded q.clauses (pos 1) rows))) ≡ Some (vs, steps)
      → NodeGives u (loop_form is_first i t b r outputs) ks (map Value vs) (8 * steps + limit + 1)
  by-kind true n vs steps e = goes-b u (LoopB i t b r outputs) i t b r wide outputs ks (is-loop-b i t b r outputs ks) q tests values next env tys besides l limit h n vs steps (λ ls. refl) e
  by-kind false n vs steps e = goes-a u (LoopA i t b r outputs) i t b r wide outputs ks (is-loop-a i t b r outputs ks) q tests values next env tys besides l limit h n vs steps (λ ls. refl) e

pub loops-given : AreLoopsGiven
loops-given u i t b r wide outputs ks q tests values next env tys besides l limit h n vs steps e =
    by-kind u i t b r wide outputs ks q tests values next env tys besides l limit h q.is_first n vs steps e
