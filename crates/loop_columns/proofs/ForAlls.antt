-- What a ForAll gives and fires, by the graphs inside.
use Rattle.std.proofs.Common.{◌≡◌, inl, inr, ℕ, zero, suc, ◌+◌, ◌-◌, ◌*◌, ◌≤◌, false, List, [], ◌∷◌, ◌++◌, map, length, Some, refl, sym, ap, ◌∙◌, subst, arith, if◌then◌else◌}
use Rattle.flow_value.specs.declared.cause.Cause.{Cause}
use Rattle.flow_value.specs.declared.cause.Cause.TheVariants as cause
use Rattle.flow_value.specs.declared.value.Val.{Val}
use Rattle.typed_tree.specs.declared.expr.Product.{Product}
use Rattle.typed_tree.specs.declared.expr.Source.{Source}
use Rattle.meaning.specs.declared.sources.Places.{Places}
use Rattle.meaning.specs.declared.sources.Places.TheVariants as places
use Rattle.meaning.specs.Timed.{given, andthen}
use Rattle.meaning.specs.Words.{failed}
use Rattle.meaning.specs.Sources.{places_of, names_at, lower_of}
use Rattle.meaning.specs.Meaning.{Gives, each, environments, at_place, folded, over}
use Rattle.graph_meaning.specs.Carried.{Carried, Value}
use Rattle.graph_meaning.specs.Forms.{Form, ForAll, Enter, Leave, Generating, Returning, first, next_of, follow, fails, errors, iterate, spread, first_spoiled, are_as_long, rows_of, items, columns}
use Rattle.graph_meaning.specs.Forms as forms
use Rattle.graph_meaning.specs.Demand.{Network}
use Rattle.graph_meaning.specs.Plain.{iterates, MeanAll, no_row, a_row, NodesFire, LaterFires, of_iterations, RowsFire, of_no_row, of_row}
use Rattle.graph_meaning.proofs.PlainValues.{carried-once}
use Rattle.loop_columns.specs.Parts.{From, GraphGives, Goes, NodeGives, Yields}
use Rattle.loop_columns.specs.Generators.{generated, names_from, AreRows, FailWith, GoThrough}
use Rattle.loop_columns.specs.Clauses.{shown}
use Rattle.loop_columns.specs.Loops.{Gave, clauses_made, AreForAllParts, AreForAllsGiven, AreForAllsRead}
use Rattle.loop_columns.proofs.From.{always, after, both}
use Rattle.loop_columns.proofs.Steps.{plus-some, given-is, then-some}
use Rattle.loop_columns.proofs.Yields.{yield-given, yield-plus, yield-then, yield-same}
use Rattle.loop_columns.proofs.Later.{later-is, first-row, is-same}
use Rattle.loop_columns.proofs.Nodes.{errors-are, goes-more, goes-leave, goes-enter}
use Rattle.loop_columns.proofs.Generators.{do-go-through}

-- ---- the names at all places

environments-are : (ss : List Source) (bounds env : List Val) (i left count : ℕ) → count ≡ i + left → environments ss bounds env count left ≡ map (λ ns. env ++ ns) (names_from ss bounds i left)
environments-are ss bounds env i zero count e = refl
environments-are ss bounds env i (suc left) count e =
    let first : count - suc left ≡ i = omega (arith, e) in
    ap (λ k. (env ++ names_at ss bounds k) ∷ environments ss bounds env count left) first
    ∙ ap (λ es. (env ++ names_at ss bounds i) ∷ es) (environments-are ss bounds env (suc i) left count (omega (arith, e)))

all-environments : (ss : List Source) (bounds env : List Val) (n : ℕ) → environments ss bounds env n n ≡ map (λ ns. env ++ ns) (names_from ss bounds 0 n)
all-environments ss bounds env n = environments-are ss bounds env 0 n n (omega arith)

module _ (u : Network) where
  -- ---- all rows

  -- a graph on each of these lists of inputs gives these
  pub record RowsGive (g : ℕ) (rows lists : List (List Carried)) (limit : ℕ) : Type 0 where
    pub cost : ℕ
    pub fires : From (λ n. RowsFire u n g rows cost)
    pub bound : cost ≤ limit
    pub means : From (λ n. MeanAll u n g rows lists)

  rows-none : (g : ℕ) → RowsGive g [] [] 0
  rows-none g = record { cost = 0; fires = always _ (λ n. of_no_row n g); bound = omega arith; means = always _ (λ n. no_row n g) }

  rows-more : (g : ℕ) (ins r : List Carried) (rows rs : List (List Carried)) (j k : ℕ) → GraphGives u g ins r j → RowsGive g rows rs k → RowsGive g (ins ∷ rows) (r ∷ rs) (1 + (j + k))
  rows-more g ins r rows rs j k a b = record {
    cost = 1 + (a.cost + b.cost);
    fires = after _ _ (both _ _ a.fires b.fires) (λ n h. of_row n g ins rows a.cost b.cost h.0 h.1);
    bound = omega (arith, a.bound, b.bound);
    means = after _ _ (both _ _ a.means b.means) (λ n h. a_row n g ins r rows rs h.0 h.1);
  }

  rows-within : (g : ℕ) (rows rs : List (List Carried)) (j k : ℕ) → j ≤ k → RowsGive g rows rs j → RowsGive g rows rs k
  rows-within g rows rs j k le a = record { cost = a.cost; fires = a.fires; bound = omega (arith, a.bound, le); means = a.means }

  -- as many lists as rows
  abbrev AsMany : List (List Carried) → List (List Carried) → Type 0
  AsMany [] [] = Unit {0}
  AsMany (r ∷ rs) (l ∷ ls) = AsMany rs ls
  AsMany [] (l ∷ ls) = ⊥
  AsMany (r ∷ rs) [] = ⊥

  as-many : (m g : ℕ) (rows lists : List (List Carried)) → MeanAll u m g rows lists → AsMany rows lists
  as-many _ _ _ _ (no_row m g) = tt
  as-many _ _ _ _ (a_row m g ins rs rows lists a b) = as-many m g rows lists b

  -- ---- the node

  from-rows : (g b r n o : ℕ) (ks ms : List Carried) (rows lists : List (List Carried)) (outs : List Carried) (j k : ℕ)
      → RowsGive b (map (λ row. ks ++ row) rows) lists j
      → Goes u (ForAll g b r n o) ks (Enter false r (ks ++ ms ++ columns n lists) Returning) outs k
      → Goes u (ForAll g b r n o) ks (spread b r n ks ms rows) outs (j + k)
  from-rows g b r n o ks ms [] [] outs j k a d = goes-more u (ForAll g b r n o) ks _ outs k (j + k) (omega arith) d
  from-rows g b r n o ks ms [] (x ∷ rs) outs j k a d = absurd (as-many _ _ _ _ (a.means.holds a.means.least (omega arith)))
  from-rows g b r n o ks ms (row ∷ rows) lists outs j k a d =
      let form = ForAll g b r n o in
      record {
        cost = a.cost + d.cost;
        leads = after _ _ (both _ _ a.means d.leads) (λ m h. iterates m form ks b (ks ++ row) (map (λ r. ks ++ r) rows) ms lists outs h.0 h.1);
        fires = after _ _ (both _ _ a.fires (both _ _ a.means d.fires)) (λ m h. of_iterations m form ks b (ks ++ row) (map (λ r. ks ++ r) rows) ms lists a.cost d.cost h.0 h.1.0 h.1.1);
        bound = omega (arith, a.bound, d.bound);
      }

  -- multiples that are iterated
  through : (g b r n o : ℕ) (ks ms : List Carried) (rows : List (List Val)) → AreRows ms rows → iterate (ForAll g b r n o) b r n ks ms (first_spoiled ms) ≡ spread b r n ks ms (map (map Value) rows)
  through g b r n o ks ms rows h =
      ap (iterate (ForAll g b r n o) b r n ks ms) h.none
      ∙ ap (λ t. if t then spread b r n ks ms (rows_of (forms.places_of ms) (map items ms)) else fails (ForAll g b r n o) cause.Size) h.long
      ∙ ap (spread b r n ks ms) h.are

  fails-with : (g b r n o : ℕ) (ks ms : List Carried) (c : Cause) → FailWith ms c → iterate (ForAll g b r n o) b r n ks ms (first_spoiled ms) ≡ Leave (map Value (failed o c))
  fails-with g b r n o ks ms c (inl e) = ap (iterate (ForAll g b r n o) b r n ks ms) e ∙ ap Leave (errors-are o c)
  fails-with g b r n o ks ms c (inr h) =
      ap (iterate (ForAll g b r n o) b r n ks ms) h.0
      ∙ ap (λ t. if t then spread b r n ks ms (rows_of (forms.places_of ms) (map items ms)) else fails (ForAll g b r n o) cause.Size) h.1
      ∙ ap (λ c. fails (ForAll g b r n o) c) (sym h.2) ∙ ap Leave (errors-are o c)

  -- ---- what the source gives, the node gives

  module _ (g b r wide o : ℕ) (ks : List Carried) (p : Product) (bounds env : List Val) (body : Gives) (limit : ℕ) (h : AreForAllParts u g b r wide ks p bounds env body limit) where
    abbrev the_form : Form
    the_form = ForAll g b r wide o

    abbrev ms : List Carried
    ms = generated p.sources bounds

    abbrev names : ℕ → ℕ → List (List Val)
    names i n = names_from p.sources bounds i n

    abbrev envs : ℕ → ℕ → List (List Val)
    envs i n = map (λ ns. env ++ ns) (names i n)

    pub record AreGiven (i n : ℕ) (rows : List (List Val)) (steps : ℕ) : Type 0 where
      pub gave : Gave body (envs i n) rows
      pub give : RowsGive b (map (λ row. ks ++ row) (map (map Value) (names i n))) (map (shown p.clauses) rows) (8 * steps)

    each-given : (i n : ℕ) (rows : List (List Val)) (steps : ℕ) → each (at_place body) (envs i n) ≡ Some (rows, steps) → AreGiven i n rows steps
    each-given i zero rows steps e =
        let x = given-is [] rows steps e in
        subst (λ rows. AreGiven i 0 rows steps) x.0 (record { gave = tt; give = rows-within b [] [] 0 (8 * steps) (omega arith) (rows-none b) })
    each-given i (suc n) rows steps e =
        let x = then-some (at_place body (env ++ names_at p.sources bounds i)) (λ row. andthen (each (at_place body) (envs (suc i) n)) (λ rows. given (row ∷ rows))) rows steps e in
        let y = plus-some 1 (body (env ++ names_at p.sources bounds i)) x.mid x.j x.first in
        let z = then-some (each (at_place body) (envs (suc i) n)) (λ rows. given (x.mid ∷ rows)) rows x.k x.second in
        let w = given-is (x.mid ∷ z.mid) rows z.k z.second in
        let rest = each-given (suc i) n z.mid z.j z.first in
        subst (λ rows. AreGiven i (suc n) rows steps) w.0
        (record {
          gave = ((y.0, y.1), rest.gave);
          give = rows-within b _ _ (1 + ((8 * y.0 + 7) + 8 * z.j)) (8 * steps) (omega (arith, x.sum, y.2, z.sum, w.1))
              (rows-more b _ _ _ _ (8 * y.0 + 7) (8 * z.j) (h.at_each_place i x.mid y.0 y.1) rest.give);
        })

    generates : (rs : List Carried) (k : ℕ) → Goes u the_form ks (follow the_form ks Generating ms) rs k → NodeGives u the_form ks rs (limit + k)
    generates rs k x = goes-enter u the_form ks g ks Generating ms rs limit k refl h.generator x

    counts : (n : ℕ) → places_of p.sources bounds ≡ places.Count n → AreRows ms (names 0 n) → (vs : List Val) (steps : ℕ) → over p o body bounds (places.Count n) env ≡ Some (vs, steps)
        → NodeGives u the_form ks (map Value vs) (8 * steps + limit)
    counts n e a vs steps f =
        let same = all-environments p.sources bounds env n in
        let x = then-some (each (at_place body) (environments p.sources bounds env n n)) (folded p.clauses (lower_of bounds)) vs steps f in
        let y = plus-some (length p.clauses) (given (clauses_made p bounds x.mid)) vs x.k x.second in
        let z = given-is (clauses_made p bounds x.mid) vs y.0 y.1 in
        let rows = each-given 0 n x.mid x.j (ap (each (at_place body)) (sym same) ∙ x.first) in
        let returns = h.returns n x.mid e (subst (λ es. Gave body es x.mid) (sym same) rows.gave) in
        let last = goes-enter u the_form ks r _ Returning (map Value (clauses_made p bounds x.mid)) (map Value (clauses_made p bounds x.mid)) (8 * length p.clauses) 0 refl returns (goes-leave u the_form ks _) in
        let all = from-rows g b r wide o ks ms (map (map Value) (names 0 n)) (map (shown p.clauses) x.mid) _ (8 * x.j) (8 * length p.clauses + 0) rows.give last in
        let node = generates _ _ (subst (λ next. Goes u the_form ks next (map Value (clauses_made p bounds x.mid)) (8 * x.j + (8 * length p.clauses + 0))) (sym (through g b r wide o ks ms (names 0 n) a)) all) in
        subst (λ vs. NodeGives u the_form ks (map Value vs) (8 * steps + limit)) z.0
        (goes-more u the_form ks _ _ _ (8 * steps + limit) (omega (arith, x.sum, y.2, z.1)) node)

    fails-alike : (c : Cause) → FailWith ms c → (vs : List Val) (steps : ℕ) → over p o body bounds (places.Failed c) env ≡ Some (vs, steps) → NodeGives u the_form ks (map Value vs) (8 * steps + limit)
    fails-alike c a vs steps f =
        let z = given-is (failed o c) vs steps f in
        let node = generates (map Value (failed o c)) 0 (subst (λ next. Goes u the_form ks next (map Value (failed o c)) 0) (sym (fails-with g b r wide o ks ms c a)) (goes-leave u the_form ks _)) in
        subst (λ vs. NodeGives u the_form ks (map Value vs) (8 * steps + limit)) z.0 (goes-more u the_form ks _ _ _ (8 * steps + limit) (omega arith) node)

    all-given : (q : Places) → places_of p.sources bounds ≡ q → GoThrough p.sources bounds q → (vs : List Val) (steps : ℕ) → over p o body bounds q env ≡ Some (vs, steps)
        → NodeGives u the_form ks (map Value vs) (8 * steps + limit)
    all-given (places.Count n) e a vs steps f = counts n e a vs steps f
    all-given (places.Failed c) e a vs steps f = fails-alike c a vs steps f

  -- ---- where the node fires, the source gives something

  module _ (g b r wide o n : ℕ) (ks : List Carried) (p : Product) (bounds env : List Val) (body : ℕ → Gives)
      (reads : (i c : ℕ) → NodesFire u n b (ks ++ map Value (names_at p.sources bounds i)) (u b).nodes c → Yields (λ d. body d (env ++ names_at p.sources bounds i))) where
    each-read : (i k c : ℕ) → RowsFire u n b (map (λ row. ks ++ row) (map (map Value) (names_from p.sources bounds i k))) c
        → Yields (λ d. each (at_place (body d)) (map (λ ns. env ++ ns) (names_from p.sources bounds i k)))
    each-read i zero c f = yield-given []
    each-read i (suc k) c f =
        let x = first-row u n b _ _ c f in
        let y = yield-plus 1 (λ d. body d (env ++ names_at p.sources bounds i)) (reads i x.cost x.fires) in
        let z = each-read (suc i) k x.rest x.others in
        yield-then (λ d. at_place (body d) (env ++ names_at p.sources bounds i)) (λ d row. andthen (each (at_place (body d)) (map (λ ns. env ++ ns) (names_from p.sources bounds (suc i) k))) (λ rows. given (row ∷ rows))) y
        (yield-then (λ d. each (at_place (body d)) (map (λ ns. env ++ ns) (names_from p.sources bounds (suc i) k))) (λ d rows. given (y.value ∷ rows)) z (yield-given (y.value ∷ z.value)))

    spread-read : (k c : ℕ) (os : List Carried) → LaterFires u n (ForAll g b r wide o) ks (spread b r wide ks os (map (map Value) (names_from p.sources bounds 0 k))) c
        → Yields (λ d. each (at_place (body d)) (map (λ ns. env ++ ns) (names_from p.sources bounds 0 k)))
    spread-read zero c _ f = yield-given []
    spread-read (suc k) c _ f = let x = later-is u n (ForAll g b r wide o) ks _ c f in each-read 0 (suc k) x.cost x.fires

    all-read : (q : Places) → GoThrough p.sources bounds q → (c : ℕ) → LaterFires u n (ForAll g b r wide o) ks (iterate (ForAll g b r wide o) b r wide ks (generated p.sources bounds) (first_spoiled (generated p.sources bounds))) c
        → Yields (λ d. over p o (body d) bounds q env)
    all-read (places.Failed c) a k f = yield-given (failed o c)
    all-read (places.Count m) a k f =
        let x = spread-read m k (generated p.sources bounds) (subst (λ next. LaterFires u n (ForAll g b r wide o) ks next k) (through g b r wide o ks (generated p.sources bounds) (names_from p.sources bounds 0 m) a) f) in
        let y = yield-same (λ d. each (at_place (body d)) (map (λ ns. env ++ ns) (names_from p.sources bounds 0 m))) (λ d. each (at_place (body d)) (environments p.sources bounds env m m)) (λ d. ap (each (at_place (body d))) (all-environments p.sources bounds env m)) x in
        yield-then (λ d. each (at_place (body d)) (environments p.sources bounds env m m)) (λ d. folded p.clauses (lower_of bounds)) y
        (yield-plus (length p.clauses) (λ d. given (clauses_made p bounds y.value)) (yield-given (clauses_made p bounds y.value)))

pub for-alls-given : AreForAllsGiven
for-alls-given u g b r wide o ks p tys names bounds env body limit goes of h vs steps e =
    all-given u g b r wide o ks p bounds env body limit h (places_of p.sources bounds) refl (do-go-through p.sources tys names bounds goes of) vs steps e

pub for-alls-read : AreForAllsRead
for-alls-read u g b r wide o n cost ks p tys names bounds env body goes of means reads f =
    let form = ForAll g b r wide o in
    let z = later-is u n form ks (Enter false g ks Generating) cost f in
    let d = is-same u form z.depth n refl z.is_less in
    let w = carried-once u g ks (u g).results z.results (generated p.sources bounds) z.depth means.least z.means (means.holds means.least (omega arith)) in
    let h = subst (λ k. LaterFires u k form ks (follow form ks Generating (generated p.sources bounds)) z.rest) d (subst (λ rs. LaterFires u z.depth form ks (follow form ks Generating rs) z.rest) w z.follows) in
    all-read u g b r wide o n ks p bounds env body reads (places_of p.sources bounds) (do-go-through p.sources tys names bounds goes of) z.rest h
