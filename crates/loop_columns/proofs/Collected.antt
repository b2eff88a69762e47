-- What a loop of turns collects, and where.
use Rattle.std.proofs.Common.{◌≡◌, ℕ, zero, suc, ◌+◌, ◌-◌, ◌<◌, ◌≤◌, Bool, true, false, ◌&&◌, List, [], ◌∷◌, ◌++◌, map, drop, length, get_or, Option, Some, None, refl, sym, ap, ◌∙◌, subst, arith, append_assoc, if◌then◌else◌}
use Rattle.std.specs.Prelude.{nat_le, nat_lt}
use Rattle.std.proofs.lemmas.Bool.{ltb-true, leb-true}
use Rattle.flow_value.specs.declared.operation.Scalar1.TheVariants as unary
use Rattle.flow_value.specs.declared.value.Val.{Val}
use Rattle.value_ops.specs.Operations.{op_value}
use Rattle.value_ops.specs.declared.operation.Operation.TheVariants as operation
use Rattle.loop_folds.specs.declared.masking.Masking.{Masking}
use Rattle.loop_folds.specs.declared.masking.Masking.TheVariants as masking
use Rattle.typed_tree.specs.declared.expr.ClauseForm.{ClauseForm}
use Rattle.meaning.specs.Words.{value_at}
use Rattle.meaning.specs.Rows.{span}
use Rattle.graph_meaning.specs.Carried.{Carried, Value, Many, Unfilled}
use Rattle.graph_meaning.specs.Forms.{columns}
use Rattle.typed_rows.proofs.Rows.{and_two}
use Rattle.lowering.specs.Loops.{Phrase, mask_places, unless_places, loop_name, extra, extras, place_of, collected}
use Rattle.loop_columns.specs.Clauses.{spans, noted, shown, AreWide}
use Rattle.loop_columns.specs.Turns.{fulls}
use Rattle.loop_columns.specs.Collected.{beside, besides_of, HasName, AreNamed, AreRowsOf, AreCollected}
use Rattle.loop_columns.proofs.Clauses.{column}

abbrev not_of : Val → Val
not_of v = op_value (operation.Unary unary.Not) (v ∷ [])

abbrev one_value : Bool → Val → Val
one_value true v = not_of v
one_value false v = v

-- ---- places in lists

at-pre : (pre : List Val) (v : Val) (rest : List Val) (next : ℕ) → length pre ≡ next → value_at (pre ++ v ∷ rest) next ≡ v
at-pre [] v rest zero h = refl
at-pre [] v rest (suc n) h = absurd (omega (arith, h))
at-pre (x ∷ pre) v rest zero h = absurd (omega (arith, h))
at-pre (x ∷ pre) v rest (suc n) h = at-pre pre v rest n (omega (arith, h))

length-both : (vs ws : List Val) → length (vs ++ ws) ≡ length vs + length ws
length-both [] ws = omega arith
length-both (v ∷ vs) ws = let e = length-both vs ws in omega (arith, e)

first-value : (l more : List Val) (x : ℕ) → x < length l → value_at (l ++ more) x ≡ value_at l x
first-value [] more x h = absurd (omega (arith, h))
first-value (v ∷ l) more zero h = refl
first-value (v ∷ l) more (suc x) h = first-value l more x (omega (arith, h))

value-behind : (env l : List Val) (x : ℕ) → length env ≤ x → value_at (env ++ l) x ≡ value_at l (x - length env)
value-behind [] l x h = let e : x ≡ x - 0 = omega arith in ap (value_at l) e
value-behind (v ∷ env) l zero h = absurd (omega (arith, h))
value-behind (v ∷ env) l (suc x) h = let e : x - length env ≡ suc x - suc (length env) = omega arith in value-behind env l x (omega (arith, h)) ∙ ap (value_at l) e

-- ---- columns by their places

first-of-rows : (n : ℕ) (rows : List (List Val)) → AreWide (suc n) rows → map (map Value) rows ≡ map (λ r. Value (value_at r 0) ∷ map Value (drop 1 r)) rows
first-of-rows n [] w = refl
first-of-rows n ([] ∷ rows) w = absurd (omega (arith, w.0))
first-of-rows n ((v ∷ r) ∷ rows) w = ap (λ rs. (Value v ∷ map Value r) ∷ rs) (first-of-rows n rows w.1)

dropped-rows : (rows : List (List Val)) → map (λ r. map Value (drop 1 r)) rows ≡ map (map Value) (map (drop 1) rows)
dropped-rows [] = refl
dropped-rows (r ∷ rows) = ap (λ rs. map Value (drop 1 r) ∷ rs) (dropped-rows rows)

split : (n : ℕ) (rows : List (List Val)) → AreWide (suc n) rows → columns (suc n) (map (map Value) rows) ≡ Many (map (λ r. value_at r 0) rows) ∷ columns n (map (map Value) (map (drop 1) rows))
split n rows w = ap (columns (suc n)) (first-of-rows n rows w) ∙ column n (λ r. value_at r 0) (λ r. map Value (drop 1 r)) rows ∙ ap (λ rs. Many (map (λ r. value_at r 0) rows) ∷ columns n rs) (dropped-rows rows)

shifted : (j : ℕ) (rows : List (List Val)) → map (λ r. value_at r j) (map (drop 1) rows) ≡ map (λ r. value_at r (suc j)) rows
shifted j [] = refl
shifted j ([] ∷ rows) = ap (λ vs. value_at [] j ∷ vs) (shifted j rows)
shifted j ((v ∷ r) ∷ rows) = ap (λ vs. value_at r j ∷ vs) (shifted j rows)

tails-wide : (n : ℕ) (rows : List (List Val)) → AreWide (suc n) rows → AreWide n (map (drop 1) rows)
tails-wide n [] h = tt
tails-wide n ([] ∷ rows) h = absurd (omega (arith, h.0))
tails-wide n ((v ∷ r) ∷ rows) h = (omega (arith, h.0), tails-wide n rows h.1)

nth-column : (n j : ℕ) (rows : List (List Val)) → AreWide n rows → j < n → get_or (columns n (map (map Value) rows)) j Unfilled ≡ Many (map (λ r. value_at r j) rows)
nth-column zero j rows h l = absurd (omega (arith, l))
nth-column (suc n) zero rows h l = ap (λ ms. get_or ms 0 Unfilled) (split n rows h)
nth-column (suc n) (suc j) rows h l =
    ap (λ ms. get_or ms (suc j) Unfilled) (split n rows h) ∙ nth-column n j (map (drop 1) rows) (tails-wide n rows h) (omega (arith, l)) ∙ ap Many (shifted j rows)

-- ---- rows of clauses

abbrev shown_by : List Bool → List Val → List Carried
shown_by bs row = map Value (noted bs row)

abbrev Some_values : List (List Val) → Type 0
Some_values [] = Unit {0}
Some_values ([] ∷ rows) = ⊥
Some_values ((v ∷ r) ∷ rows) = Some_values rows

first-shown : (b : Bool) (bs : List Bool) (rows : List (List Val)) → Some_values rows → map (shown_by (b ∷ bs)) rows ≡ map (λ r. Value (one_value b (value_at r 0)) ∷ shown_by bs (drop 1 r)) rows
first-shown b bs [] s = refl
first-shown b bs ([] ∷ rows) s = absurd s
first-shown true bs ((v ∷ r) ∷ rows) s = ap (λ rs. (Value (not_of v) ∷ shown_by bs r) ∷ rs) (first-shown true bs rows s)
first-shown false bs ((v ∷ r) ∷ rows) s = ap (λ rs. (Value v ∷ shown_by bs r) ∷ rs) (first-shown false bs rows s)

left-shown : (bs : List Bool) (rows : List (List Val)) → map (λ r. shown_by bs (drop 1 r)) rows ≡ map (shown_by bs) (map (drop 1) rows)
left-shown bs [] = refl
left-shown bs (r ∷ rows) = ap (λ rs. shown_by bs (drop 1 r) ∷ rs) (left-shown bs rows)

split-shown : (n : ℕ) (b : Bool) (bs : List Bool) (rows : List (List Val)) → Some_values rows
    → columns (suc n) (map (shown_by (b ∷ bs)) rows) ≡ Many (map (λ r. one_value b (value_at r 0)) rows) ∷ columns n (map (shown_by bs) (map (drop 1) rows))
split-shown n b bs rows s =
    ap (columns (suc n)) (first-shown b bs rows s) ∙ column n (λ r. one_value b (value_at r 0)) (λ r. shown_by bs (drop 1 r)) rows
    ∙ ap (λ rs. Many (map (λ r. one_value b (value_at r 0)) rows) ∷ columns n rs) (left-shown bs rows)

module _ (loop : Option ℕ → Option ℕ) where
  abbrev At : Option ℕ → List Val → Val → Type 0
  At None l v = Unit {0}
  At (Some x) l v = value_at l x ≡ v

  -- a clause that is a loop name has its value
  abbrev Agree : List Phrase → List Val → List Val → Type 0
  Agree [] l [] = Unit {0}
  Agree [] l (v ∷ row) = ⊥
  Agree (p ∷ ps) l [] = ⊥
  Agree (p ∷ ps) l (v ∷ row) = At (loop p.name) l v × Agree ps l row

  -- a list of loop values: so many, and behind them what is collected besides for what is left of a row
  pub record Fits (next : ℕ) (bs : List Bool) (ps : List Phrase) (fl row : List Val) : Type 0 where
    pub pre : List Val
    pub is_full : fl ≡ pre ++ besides_of loop bs ps row
    pub before : length pre ≡ next
    pub agree : Agree ps fl row

  abbrev AllFit : ℕ → List Bool → List Phrase → List (List Val) → List (List Val) → Type 0
  AllFit next bs ps [] [] = Unit {0}
  AllFit next bs ps [] (r ∷ rows) = ⊥
  AllFit next bs ps (l ∷ ls) [] = ⊥
  AllFit next bs ps (l ∷ ls) (r ∷ rows) = Fits next bs ps l r × AllFit next bs ps ls rows

  some-values : (next : ℕ) (bs : List Bool) (p : Phrase) (ps : List Phrase) (fls rows : List (List Val)) → AllFit next bs (p ∷ ps) fls rows → Some_values rows
  some-values next bs p ps [] [] f = tt
  some-values next bs p ps [] (r ∷ rows) f = absurd f
  some-values next bs p ps (l ∷ ls) [] f = absurd f
  some-values next bs p ps (l ∷ ls) ([] ∷ rows) f = absurd f.0.agree
  some-values next bs p ps (l ∷ ls) ((v ∷ r) ∷ rows) f = some-values next bs p ps ls rows f.1

  one-behind : (pre : List Val) (v : Val) (next : ℕ) → length pre ≡ next → length (pre ++ v ∷ []) ≡ suc next
  one-behind pre v next e = let x = length-both pre (v ∷ []) in omega (arith, x, e)

  -- a value that is collected besides
  next-fits : (next : ℕ) (b : Bool) (bs : List Bool) (p : Phrase) (ps : List Phrase) (fl : List Val) (v : Val) (row : List Val)
      → besides_of loop (b ∷ bs) (p ∷ ps) (v ∷ row) ≡ one_value b v ∷ besides_of loop bs ps row → Fits next (b ∷ bs) (p ∷ ps) fl (v ∷ row)
      → (value_at fl next ≡ one_value b v) × Fits (suc next) bs ps fl row
  next-fits next b bs p ps fl v row e f =
      let w = one_value b v in
      let full : fl ≡ f.pre ++ w ∷ besides_of loop bs ps row = f.is_full ∙ ap (λ vs. f.pre ++ vs) e in (
        ap (λ l. value_at l next) full ∙ at-pre f.pre w (besides_of loop bs ps row) next f.before,
        record { pre = f.pre ++ w ∷ []; is_full = full ∙ sym (append_assoc f.pre (w ∷ []) (besides_of loop bs ps row)); before = one-behind f.pre w next f.before; agree = f.agree.1 },
      )

  all-next : (next : ℕ) (b : Bool) (bs : List Bool) (p : Phrase) (ps : List Phrase) (fls rows : List (List Val))
      → ((v : Val) (row : List Val) → besides_of loop (b ∷ bs) (p ∷ ps) (v ∷ row) ≡ one_value b v ∷ besides_of loop bs ps row) → AllFit next (b ∷ bs) (p ∷ ps) fls rows
      → (map (λ l. value_at l next) fls ≡ map (λ r. one_value b (value_at r 0)) rows) × AllFit (suc next) bs ps fls (map (drop 1) rows)
  all-next next b bs p ps [] [] e f = (refl, tt)
  all-next next b bs p ps [] (r ∷ rows) e f = absurd f
  all-next next b bs p ps (l ∷ ls) [] e f = absurd f
  all-next next b bs p ps (l ∷ ls) ([] ∷ rows) e f = absurd f.0.agree
  all-next next b bs p ps (l ∷ ls) ((v ∷ row) ∷ rows) e f =
      let x = next-fits next b bs p ps l v row (e v row) f.0 in
      let y = all-next next b bs p ps ls rows e f.1 in
      (ap (λ w. w ∷ map (λ l. value_at l next) ls) x.0 ∙ ap (λ ws. one_value b v ∷ ws) y.0, (x.1, y.1))

  -- a loop name
  all-named : (next x : ℕ) (bs : List Bool) (p : Phrase) (ps : List Phrase) (fls rows : List (List Val)) → loop p.name ≡ Some x → AllFit next (false ∷ bs) (p ∷ ps) fls rows
      → (map (λ l. value_at l x) fls ≡ map (λ r. value_at r 0) rows) × AllFit next bs ps fls (map (drop 1) rows)
  all-named next x bs p ps [] [] e f = (refl, tt)
  all-named next x bs p ps [] (r ∷ rows) e f = absurd f
  all-named next x bs p ps (l ∷ ls) [] e f = absurd f
  all-named next x bs p ps (l ∷ ls) ([] ∷ rows) e f = absurd f.0.agree
  all-named next x bs p ps (l ∷ ls) ((v ∷ row) ∷ rows) e f =
      let here : value_at l x ≡ v = subst (λ z. At z l v) e f.0.agree.0 in
      let y = all-named next x bs p ps ls rows e f.1 in
      let fits : Fits next bs ps l row = record { pre = f.0.pre; is_full = f.0.is_full ∙ ap (λ z. f.0.pre ++ beside z v (besides_of loop bs ps row)) e; before = f.0.before; agree = f.0.agree.1 } in
      (ap (λ w. w ∷ map (λ l. value_at l x) ls) here ∙ ap (λ ws. v ∷ ws) y.0, (fits, y.1))

  empty-rows : (rows fls : List (List Val)) (next : ℕ) → AllFit next [] [] fls rows → columns 0 (map (shown_by []) rows) ≡ []
  empty-rows [] fls next f = refl
  empty-rows (r ∷ rows) [] next f = absurd f
  empty-rows ([] ∷ rows) (l ∷ fls) next f = empty-rows rows fls next f.1
  empty-rows ((v ∷ r) ∷ rows) (l ∷ fls) next f = absurd f.0.agree

  -- what stands at a place among the columns
  module _ (w : ℕ) (fls : List (List Val)) (wide : AreWide w fls) (below : (z : Option ℕ) (x : ℕ) → loop z ≡ Some x → x < w) where
    abbrev at_each : List ℕ → List Carried
    at_each xs = map (λ x. get_or (columns w (map (map Value) fls)) x Unfilled) xs

    one-column : (n x : ℕ) (b : Bool) (bs : List Bool) (rows : List (List Val)) (others : List ℕ) → x < w → Some_values rows → map (λ l. value_at l x) fls ≡ map (λ r. one_value b (value_at r 0)) rows
        → at_each others ≡ columns n (map (shown_by bs) (map (drop 1) rows)) → at_each (x ∷ others) ≡ columns (suc n) (map (shown_by (b ∷ bs)) rows)
    one-column n x b bs rows others lt s e rest =
        ap (λ m. m ∷ at_each others) (nth-column w x fls wide lt ∙ ap Many e) ∙ ap (λ ms. Many (map (λ r. one_value b (value_at r 0)) rows) ∷ ms) rest ∙ sym (split-shown n b bs rows s)

    all-collected : (next : ℕ) (bs : List Bool) (ps : List Phrase) (rows : List (List Val)) → length bs ≡ length ps → AllFit next bs ps fls rows → next + length (extras loop bs ps) ≤ w
        → at_each (collected loop next bs ps) ≡ columns (length ps) (map (shown_by bs) rows)
    all-collected next [] [] rows n f h = sym (empty-rows rows fls next f)
    all-collected next (b ∷ bs) [] rows n f h = absurd (omega (arith, n))
    all-collected next [] (p ∷ ps) rows n f h = absurd (omega (arith, n))
    all-collected next (true ∷ bs) (p ∷ ps) rows n f h =
        let x = all-next next true bs p ps fls rows (λ v row. refl) f in
        one-column (length ps) next true bs rows (collected loop (suc next) bs ps) (omega (arith, h)) (some-values next (true ∷ bs) p ps fls rows f) x.0
        (all-collected (suc next) bs ps (map (drop 1) rows) (omega (arith, n)) x.1 (omega (arith, h)))
    all-collected next (false ∷ bs) (p ∷ ps) rows n f h =
        go (λ k g l. all-collected k bs ps (map (drop 1) rows) (omega (arith, n)) g l) (loop p.name) refl
      where
        go : ((k : ℕ) → AllFit k bs ps fls (map (drop 1) rows) → k + length (extras loop bs ps) ≤ w → at_each (collected loop k bs ps) ≡ columns (length ps) (map (shown_by bs) (map (drop 1) rows)))
            → (z : Option ℕ) → loop p.name ≡ z → at_each (place_of next z (λ k. collected loop k bs ps)) ≡ columns (suc (length ps)) (map (shown_by (false ∷ bs)) rows)
        go rest None e =
            let x = all-next next false bs p ps fls rows (λ v row. ap (λ z. beside z v (besides_of loop bs ps row)) e) f in
            let y : next + length (extra None p.lowers ++ extras loop bs ps) ≤ w = subst (λ z. next + length (extra z p.lowers ++ extras loop bs ps) ≤ w) e h in
            one-column (length ps) next false bs rows (collected loop (suc next) bs ps) (omega (arith, y)) (some-values next (false ∷ bs) p ps fls rows f) x.0 (rest (suc next) x.1 (omega (arith, y)))
        go rest (Some x) e =
            let a = all-named next x bs p ps fls rows e f in
            let y : next + length (extra (Some x) p.lowers ++ extras loop bs ps) ≤ w = subst (λ z. next + length (extra z p.lowers ++ extras loop bs ps) ≤ w) e h in
            one-column (length ps) x false bs rows (collected loop next bs ps) (below p.name x e) (some-values next (false ∷ bs) p ps fls rows f) a.0 (rest next a.1 y)

  -- how many are collected besides
  how-many : (bs : List Bool) (ps : List Phrase) (names row : List Val) → AreNamed ps names row → length (besides_of loop bs ps row) ≡ length (extras loop bs ps)
  how-many bs [] names row a = refl
  how-many [] (p ∷ ps) names row a = refl
  how-many (b ∷ bs) (p ∷ ps) names [] a = absurd a
  how-many (true ∷ bs) (p ∷ ps) names (v ∷ row) a = ap suc (how-many bs ps names row a.1)
  how-many (false ∷ bs) (p ∷ ps) names (v ∷ row) a = go (loop p.name) (how-many bs ps names row a.1)
    where
      go : (z : Option ℕ) → length (besides_of loop bs ps row) ≡ length (extras loop bs ps) → length (beside z v (besides_of loop bs ps row)) ≡ length (extra z p.lowers ++ extras loop bs ps)
      go None e = ap suc e
      go (Some x) e = e

-- ---- names of the loop

module _ (env : List Val) (count : ℕ) where
  abbrev named : Option ℕ → Option ℕ
  named = loop_name (length env) count

  below-count : (z : Option ℕ) (y : ℕ) → named z ≡ Some y → y < count
  below-count None y e = absurd cc
  below-count (Some x) y e = go (nat_le (length env) x && nat_lt x (length env + count)) refl e
    where
      go : (b : Bool) → (nat_le (length env) x && nat_lt x (length env + count)) ≡ b → (if b then Some (x - length env) else None) ≡ Some y → y < count
      go true t f =
          let h = and_two (nat_le (length env) x) (nat_lt x (length env + count)) t in
          let low : length env ≤ x = leb-true (length env) x h.0 in
          let high : x < length env + count = ltb-true x (length env + count) h.1 in
          let same : x - length env ≡ y = cc in
          omega (arith, low, high, same)
      go false t f = absurd cc

  agrees : (z : Option ℕ) (l more : List Val) (v : Val) → length l ≡ count → HasName z (env ++ l) v → At named (named z) (l ++ more) v
  agrees None l more v n h = tt
  agrees (Some x) l more v n h = go (nat_le (length env) x && nat_lt x (length env + count)) refl
    where
      go : (b : Bool) → (nat_le (length env) x && nat_lt x (length env + count)) ≡ b → At named (if b then Some (x - length env) else None) (l ++ more) v
      go true t =
          let c = and_two (nat_le (length env) x) (nat_lt x (length env + count)) t in
          let low : length env ≤ x = leb-true (length env) x c.0 in
          let high : x < length env + count = ltb-true x (length env + count) c.1 in
          first-value l more (x - length env) (omega (arith, low, high, n)) ∙ sym (value-behind env l x low) ∙ h
      go false t = tt

  all-agree : (ps : List Phrase) (l more row : List Val) → length l ≡ count → AreNamed ps (env ++ l) row → Agree named ps (l ++ more) row
  all-agree [] l more [] n a = tt
  all-agree [] l more (v ∷ row) n a = absurd a
  all-agree (p ∷ ps) l more [] n a = absurd a
  all-agree (p ∷ ps) l more (v ∷ row) n a = (agrees p.name l more v n a.0, all-agree ps l more row n a.1)

  all-fit : (bs : List Bool) (ps : List Phrase) (ls rows : List (List Val)) → AreRowsOf env count ps ls rows → AllFit named count bs ps (fulls (besides_of named bs ps) ls rows) rows
  all-fit bs ps [] [] a = tt
  all-fit bs ps [] (row ∷ rows) a = absurd a
  all-fit bs ps (l ∷ ls) [] a = absurd a
  all-fit bs ps (l ∷ ls) (row ∷ rows) a =
      (record { pre = l; is_full = refl; before = a.0; agree = all-agree ps l (besides_of named bs ps row) row a.0 a.1 }, all-fit bs ps ls rows a.2)

  one-long : (bs : List Bool) (ps : List Phrase) (l row : List Val) → length l ≡ count → AreNamed ps (env ++ l) row → length (l ++ besides_of named bs ps row) ≡ count + length (extras named bs ps)
  one-long bs ps l row n a = let x = length-both l (besides_of named bs ps row) in let y = how-many named bs ps (env ++ l) row a in omega (arith, x, y, n)

  all-wide : (bs : List Bool) (ps : List Phrase) (ls rows : List (List Val)) → AreRowsOf env count ps ls rows → AreWide (count + length (extras named bs ps)) (fulls (besides_of named bs ps) ls rows)
  all-wide bs ps [] [] a = tt
  all-wide bs ps [] (row ∷ rows) a = absurd a
  all-wide bs ps (l ∷ ls) [] a = absurd a
  all-wide bs ps (l ∷ ls) (row ∷ rows) a = (one-long bs ps l row a.0 a.1, all-wide bs ps ls rows a.2)

-- ---- as many flags as values

flags : (cs : List ClauseForm) → length (unless_places cs) ≡ spans cs
flags [] = refl
flags (c ∷ cs) = go c.masking (flags cs)
  where
    go : (m : Masking) → length (unless_places cs) ≡ spans cs → length (mask_places m ++ unless_places cs) ≡ span m + spans cs
    go masking.All e = omega (arith, e)
    go masking.When e = omega (arith, e)
    go masking.Unless e = omega (arith, e)

pub are-collected : AreCollected
are-collected env count cs ps n =
    let bs = unless_places cs in
    let w = count + length (extras (named env count) bs ps) in
    record {
      long = λ l row k a. one-long env count bs ps l row k a;
      columns_at = λ ls rows a.
          all-collected (named env count) w (fulls (besides_of (named env count) bs ps) ls rows) (all-wide env count bs ps ls rows a)
          (λ z x e. let lt = below-count env count z x e in omega (arith, lt)) count bs ps rows (flags cs ∙ n) (all-fit env count bs ps ls rows a) (omega arith)
          ∙ ap (λ k. columns k (map (shown cs) rows)) (sym n);
    }
