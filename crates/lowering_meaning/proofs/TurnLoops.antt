-- A loop of turns gives what the source gives.
use Rattle.std.proofs.Common.{◌≡◌, ◌⊎◌, inl, inr, ℕ, zero, suc, ◌+◌, ◌*◌, pos, Bool, true, false, List, [], ◌∷◌, ◌++◌, map, length, drop, get_or, Option, Some, None, refl, sym, ap, ◌∙◌, subst, arith, replicate}
use Rattle.std.proofs.lemmas.List.{length-append}
use Rattle.flow_value.specs.declared.cause.Cause.{Cause}
use Rattle.flow_value.specs.declared.value.Val.{Val}
use Rattle.flow_value.specs.declared.ty.Ty.{Ty}
use Rattle.flow_value.specs.declared.ty.Ty.TheVariants as ty
use Rattle.type_table.specs.declared.form.Form.{Form}
use Rattle.typed_tree.specs.declared.program.Function.{Function}
use Rattle.typed_tree.specs.declared.expr.Turns.{Turns}
use Rattle.typed_tree.specs.declared.expr.ClauseForm.{ClauseForm}
use Rattle.typed_values.specs.Fitting.{Header, Renews, AreMade, no_clause, unmasked, masked}
use Rattle.typed_rows.specs.Rows.{AreOf}
use Rattle.typed_values.proofs.Values.{drop_of, renew_well}
use Rattle.loop_folds.specs.declared.masking.Masking.{Masking}
use Rattle.loop_folds.specs.declared.masking.Masking.TheVariants as masking
use Rattle.meaning.specs.Timed.{Timed, given, andthen}
use Rattle.meaning.specs.Words.{value_at, failed, test_of, goes_on}
use Rattle.loop_folds.specs.Clauses.{ClauseCells, Cell}
use Rattle.meaning.specs.Rows.{span, no_rows, with_rows, with_row, with_cells, cells_in, made}
use Rattle.meaning.specs.Meaning.{Gives as Means, all_of, defined, turned, each as each_of, members, unless_failed, folded, looped}
use Rattle.meaning.specs.Meaning as source
use Rattle.graph_meaning.specs.Carried.{Carried, Value, Many, Unfilled}
use Rattle.lowering_meaning.proofs.Told.{Telling}
use Rattle.graph_meaning.specs.Forms.{columns, add_row}
use Rattle.graph_meaning.specs.Demand.{Network}
use Rattle.lowering.specs.declared.feed.Wire.{Wire}
use Rattle.lowering.specs.Operations.{Lowers, all_lowered, defs_lowered}
use Rattle.lowering.specs.Loops.{Phrase, unless_places, loop_kind, loop_name, extras, collected}
use Rattle.lowering.specs.Phrases.{each}
use Rattle.loop_columns.specs.Parts as parts
use Rattle.loop_columns.specs.Parts.{GraphGives}
use Rattle.loop_columns.specs.Clauses.{spans, shown, folds_of, AreWide}
use Rattle.loop_columns.specs.Loops.{Gave}
use Rattle.loop_columns.specs.Turns.{loop_form, Says, said, fulls, Each, AreTurnParts}
use Rattle.loop_columns.specs.Collected.{besides_of, HasName, AreNamed, AreRowsOf}
use Rattle.loop_columns.proofs.Clauses.{folded-by-columns}
use Rattle.loop_columns.proofs.Turns.{tests-said, loops-given}
use Rattle.loop_columns.proofs.Collected.{are-collected}
use Rattle.loop_columns.proofs.Nodes.{gives-more}
use Rattle.lowering_meaning.specs.Coverage.{Coverage, all_one}
use Rattle.lowering_meaning.proofs.Timed.{plus-some, then-some, given-is}
use Rattle.lowering_meaning.proofs.Sites.{Site, AllCarry, Placed, Done}
use Rattle.lowering_meaning.proofs.Forms.{WiresOf, Wired, Typed, of-both, of-length, Free, Draws, Drawn}
use Rattle.lowering_meaning.proofs.Parts.{the_form, whole-done}
use Rattle.lowering_meaning.proofs.Trees.{EachDrawn, EachOf, each-all}
use Rattle.lowering_meaning.proofs.Nots.{single}
use Rattle.lowering_meaning.proofs.ReturnForms.{AreShaped}
use Rattle.lowering_meaning.proofs.TurnWires.{is-one, and-both, extras-free, ExtrasRun, extras-run, extras-wide}
use Rattle.lowering_meaning.proofs.TurnForms as turns
use Rattle.lowering_meaning.proofs.TurnForms.{AreBelow, below-count, places-below, loop-free, initial-gives, count-is, test-gives, turn-gives, returns-give}

-- ---- names

-- a phrase that is a name gives its value
abbrev pub IsNamed : Phrase → Means → Type 0
IsNamed g k = (x : ℕ) → g.name ≡ Some x → (names : List Val) → k names ≡ Some (value_at names x ∷ [], 1)

abbrev pub AreNamedPhrases : List Phrase → List Means → Type 0
AreNamedPhrases [] [] = Unit {0}
AreNamedPhrases (g ∷ gs) (k ∷ ks) = IsNamed g k × AreNamedPhrases gs ks
AreNamedPhrases _ _ = ⊥

-- one value
abbrev one_value : Val → ℕ → Timed (List Val)
one_value v i = Some (v ∷ [], i)

abbrev head_or : List Val → Val → Val
head_or [] d = d
head_or (v ∷ vs) d = v

abbrev first_or : Timed (List Val) → Val → Val
first_or None d = d
first_or (Some r) d = head_or r.0 d

same-value : (v w : Val) (i j : ℕ) → one_value v i ≡ one_value w j → v ≡ w
same-value v w i j e = ap (λ o. first_or o v) e

-- ---- columns

add-length : (row ms : List Carried) → length (add_row row ms) ≡ length ms
add-length [] ms = refl
add-length (v ∷ vs) [] = refl
add-length (v ∷ vs) (m ∷ ms) = ap suc (add-length vs ms)

none-length : (n : ℕ) → length (replicate n (Many [])) ≡ n
none-length zero = refl
none-length (suc n) = ap suc (none-length n)

pub columns-length : (n : ℕ) (rows : List (List Carried)) → length (columns n rows) ≡ n
columns-length n [] = none-length n
columns-length n (row ∷ rows) = add-length row (columns n rows) ∙ columns-length n rows

-- ---- clauses by their types

two : (m : Masking) → (m ≡ masking.When) ⊎ (m ≡ masking.Unless) → span m ≡ 2
two m (inl e) = ap span e
two m (inr e) = ap span e

pub spans-are : (cs : List ClauseForm) (row ts : List Ty) → AreMade cs row ts → length row ≡ spans cs
spans-are _ _ _ no_clause = refl
spans-are _ _ _ (unmasked {c = c} {cs = cs} {tys = tys} {made = ts} m k h) = let e = spans-are cs tys ts h in let s : span c.masking ≡ 1 = ap span m in omega (arith, e, s)
spans-are _ _ _ (masked {c = c} {cs = cs} {tys = tys} {made = ts} m k h) = let e = spans-are cs tys ts h in let s = two c.masking m in omega (arith, e, s)

pub made-are : (cs : List ClauseForm) (row ts : List Ty) → AreMade cs row ts → length ts ≡ length cs
made-are _ _ _ no_clause = refl
made-are _ _ _ (unmasked {cs = cs} {tys = tys} {made = ts} m k h) = ap suc (made-are cs tys ts h)
made-are _ _ _ (masked {cs = cs} {tys = tys} {made = ts} m k h) = ap suc (made-are cs tys ts h)

-- ---- where so many loop names stand behind so many names

pub record Facts (names : List Val) (cs : List ClauseForm) (gs : List Phrase) (loop : Option ℕ → Option ℕ) (c : ℕ) : Type 0 where
  pub long : (m row : List Val) → length m ≡ c → AreNamed gs (names ++ m) row → length (m ++ besides_of loop (unless_places cs) gs row) ≡ c + length (extras loop (unless_places cs) gs)
  pub columns_at : (ls rows : List (List Val)) → AreRowsOf names c gs ls rows
      → map (λ x. get_or (columns (c + length (extras loop (unless_places cs) gs)) (map (map Value) (fulls (besides_of loop (unless_places cs) gs) ls rows))) x Unfilled) (collected loop c (unless_places cs) gs) ≡ columns (spans cs) (map (shown cs) rows)

pub facts : (names : List Val) (cs : List ClauseForm) (gs : List Phrase) (a c : ℕ) → a ≡ length names → spans cs ≡ length gs → Facts names cs gs (loop_name a c) c
facts names cs gs a c e n =
    let x = are-collected names c cs gs n in
    subst (λ b. Facts names cs gs (loop_name b c) c) (sym e) (record { long = x.long; columns_at = x.columns_at })

-- ---- how many values a loop gives

made-length : (cs : List ClauseForm) (rows : List (List Val)) → length (made (pos 1) (with_rows cs (no_rows cs) rows)) ≡ length cs
made-length cs rows = go cs rows (no_rows cs) (none cs)
  where
    none : (cs : List ClauseForm) → length (no_rows cs) ≡ length cs
    none [] = refl
    none (c ∷ cs) = ap suc (none cs)

    cells : (fs : List ClauseCells) (xs : List Cell) → length (with_cells fs xs) ≡ length fs
    cells [] xs = refl
    cells (f ∷ fs) [] = refl
    cells (f ∷ fs) (x ∷ xs) = ap suc (cells fs xs)

    values : (fs : List ClauseCells) → length (made (pos 1) fs) ≡ length fs
    values [] = refl
    values (f ∷ fs) = ap suc (values fs)

    go : (cs : List ClauseForm) (rows : List (List Val)) (fs : List ClauseCells) → length fs ≡ length cs → length (made (pos 1) (with_rows cs fs rows)) ≡ length cs
    go cs [] fs e = values fs ∙ e
    go cs (r ∷ rows) fs e = go cs rows (with_row cs fs r) (cells fs (cells_in cs r) ∙ e)

failed-length : (n : ℕ) (c : Cause) → length (failed n c) ≡ n
failed-length zero c = refl
failed-length (suc n) c = ap suc (failed-length n c)

pub looped-length : (n : ℕ) (t : Turns) (k : ℕ) (tests : Means) (next : List Val → Means) (values : Means) (env l vs : List Val) (i : ℕ) → k ≡ length t.clauses → looped n t k tests next values env l ≡ Some (vs, i) → k ≡ length vs
looped-length n t k tests next values env l vs i e h =
    let x = then-some (members n t.is_first t.is_until tests next env l) (λ s. andthen (each_of (λ m. values (env ++ m)) s.lists) (λ rows. unless_failed k s.failure (folded t.clauses (pos 1) rows))) vs i h in
    let y = then-some (each_of (λ m. values (env ++ m)) x.mid.lists) (λ rows. unless_failed k x.mid.failure (folded t.clauses (pos 1) rows)) vs x.k x.second in
    go x.mid.failure y.mid y.k y.second
  where
    go : (f : Option Cause) (rows : List (List Val)) (j : ℕ) → unless_failed k f (folded t.clauses (pos 1) rows) ≡ Some (vs, j) → k ≡ length vs
    go None rows j h =
        let y = plus-some (length t.clauses) (given (made (pos 1) (with_rows t.clauses (no_rows t.clauses) rows))) vs j h in
        let z = given-is (made (pos 1) (with_rows t.clauses (no_rows t.clauses) rows)) vs y.0 y.1 in
        e ∙ sym (made-length t.clauses rows) ∙ ap (λ ws. length ws) z.0
    go (Some c) rows j h = let z = given-is (failed k c) vs j h in sym (failed-length k c) ∙ ap (λ ws. length ws) z.0

-- the clauses over rows
abbrev pub clauses_made : List ClauseForm → List (List Val) → List Val
clauses_made cs rows = made (pos 1) (with_rows cs (no_rows cs) rows)

-- ---- the loop

module _ (u : Network) (number : ℕ → ℕ) (shape : Telling) (forms : List Form) (spellings : List (List ℕ)) (hs : List Header) (p : List Function) (cover : Coverage) where
  abbrev EachD : List Ty → List Phrase → List Means → Type 0
  EachD γ gs ks = EachDrawn u number shape forms spellings hs p cover γ gs ks

  abbrev EachO : List Ty → List Phrase → List Means → List ℕ → Type 0
  EachO γ gs ks cs = EachOf u number shape forms spellings hs p cover γ gs ks cs

  -- a row has the values of the names among its phrases
  pub row-named : (γ : List Ty) (gs : List Phrase) (ks : List Means) (cs : List ℕ) → EachO γ gs ks cs → all_one cs ≡ true → AreNamedPhrases gs ks
      → (names row : List Val) (i : ℕ) → AreOf γ names → all_of ks names ≡ Some (row, i) → AreNamed gs names row
  row-named γ [] [] cs o h nm names row i n e = subst (λ row. AreNamed [] names row) (given-is [] row i e).0 tt
  row-named γ [] (k ∷ ks) cs o h nm names row i n e = absurd nm
  row-named γ (g ∷ gs) [] cs o h nm names row i n e = absurd nm
  row-named γ (g ∷ gs) (k ∷ ks) [] o h nm names row i n e = absurd o
  row-named γ (g ∷ gs) (k ∷ ks) (c ∷ cs) o h nm names row i n e =
      let one = and-both _ (all_one cs) h in
      let t = o.0.0 in
      let l : length t.0 ≡ 1 = t.2 ∙ is-one c one.0 in
      let x = then-some (k names) (λ vs. andthen (all_of ks names) (λ ws. given (vs ++ ws))) row i e in
      let y = then-some (all_of ks names) (λ ws. given (x.mid ++ ws)) row x.k x.second in
      let z = given-is (x.mid ++ y.mid) row y.k y.second in
      let v = single t.0 x.mid l (t.1 names x.mid x.j n x.first) in
      let values : v.0 ∷ y.mid ≡ row = sym (ap (λ w. w ++ y.mid) v.1) ∙ z.0 in
      subst (λ row. AreNamed (g ∷ gs) names row) values (has v.0 x.j (x.first ∙ ap (λ w. Some (w, x.j)) v.1) g.name refl, row-named γ gs ks cs o.1 one.1 nm.1 names y.mid y.j n y.first)
    where
      has : (v : Val) (j : ℕ) → k names ≡ Some (v ∷ [], j) → (z : Option ℕ) → g.name ≡ z → HasName g.name names v
      has v j f None e = subst (λ z. HasName z names v) (sym e) tt
      has v j f (Some x) e = subst (λ z. HasName z names v) (sym e) (same-value (value_at names x) v 1 j (sym (nm.0 x e names) ∙ f))

  abbrev EachRow : List Ty → List (List Val) → Type 0
  EachRow row [] = Unit {0}
  EachRow row (r ∷ rows) = AreOf row r × EachRow row rows

  rows-wide : (row : List Ty) (n : ℕ) (rows : List (List Val)) → length row ≡ n → EachRow row rows → AreWide n rows
  rows-wide row n [] e h = tt
  rows-wide row n (r ∷ rows) e h = (sym (of-length row r h.0) ∙ e, rows-wide row n rows e h.1)

  rows-typed : (γ loop row : List Ty) (ks : List Means) → Typed (γ ++ loop) (all_of ks) row → (names : List Val) → AreOf γ names → (ls rows : List (List Val)) → Each (AreOf loop) ls → Gave (all_of ks) (map (λ m. names ++ m) ls) rows → EachRow row rows
  rows-typed γ loop row ks t names o [] [] h g = tt
  rows-typed γ loop row ks t names o [] (r ∷ rows) h g = absurd g
  rows-typed γ loop row ks t names o (l ∷ ls) [] h g = absurd g
  rows-typed γ loop row ks t names o (l ∷ ls) (r ∷ rows) h g = (t (names ++ l) r g.0.0 (of-both γ loop names l o h.0) g.0.1, rows-typed γ loop row ks t names o ls rows h.1 g.1)

  rows-of : (γ loop : List Ty) (gs : List Phrase) (ks : List Means) (cs : List ℕ) → EachO (γ ++ loop) gs ks cs → all_one cs ≡ true → AreNamedPhrases gs ks → (c : ℕ) → length loop ≡ c → (names : List Val) → AreOf γ names
      → (ls rows : List (List Val)) → Each (AreOf loop) ls → Gave (all_of ks) (map (λ m. names ++ m) ls) rows → AreRowsOf names c gs ls rows
  rows-of γ loop gs ks cs eo one nm c e names o [] [] h g = tt
  rows-of γ loop gs ks cs eo one nm c e names o [] (r ∷ rows) h g = absurd g
  rows-of γ loop gs ks cs eo one nm c e names o (l ∷ ls) [] h g = absurd g
  rows-of γ loop gs ks cs eo one nm c e names o (l ∷ ls) (r ∷ rows) h g =
      (sym (of-length loop l h.0) ∙ e, row-named (γ ++ loop) gs ks cs eo one nm (names ++ l) r g.0.0 (of-both γ loop names l o h.0) g.0.1, rows-of γ loop gs ks cs eo one nm c e names o ls rows h.1 g.1)

  module _ (t : Turns) (arity : List ℕ) (long : length arity ≡ spans t.clauses) (ones : all_one arity ≡ true)
      (γ loop later row results : List Ty) (ns : List ℕ) (shaped : AreShaped u number shape t.clauses ns) (fs : List (List Phrase)) (ts : List Phrase) (ds : List (List Phrase)) (gs : List Phrase)
      (ren : Renews loop t.renewed later) (am : AreMade t.clauses row results) (many : length ns ≡ length results) where
    abbrev pub flags : List Bool
    flags = unless_places t.clauses

    count-phrases : (gs : List Phrase) (ks : List Means) (cs : List ℕ) → EachO (γ ++ loop) gs ks cs → length gs ≡ length cs
    count-phrases [] [] [] o = refl
    count-phrases (g ∷ gs) (k ∷ ks) (c ∷ cs) o = ap suc (count-phrases gs ks cs o.1)
    count-phrases [] (k ∷ ks) cs o = absurd o
    count-phrases [] [] (c ∷ cs) o = absurd o
    count-phrases (g ∷ gs) [] cs o = absurd o
    count-phrases (g ∷ gs) (k ∷ ks) [] o = absurd o

    pub many-clauses : length ns ≡ length t.clauses
    many-clauses = many ∙ made-are t.clauses row results am

    abbrev pub loop_at : Lowers
    loop_at = turns.the_loop t (map each fs) (each ts) (map each ds) gs ns

    module _ (kf : List (List Means)) (kt : List Means) (kd : List (List Means)) (ks : List Means)
        (df : Drawn u number shape forms spellings γ 0 0 (defs_lowered (map each fs)) (defined kf)) (tf : Typed γ (defined kf) (γ ++ loop)) (wf : Wired forms spellings γ (defs_lowered (map each fs)) (γ ++ loop))
        (et : EachD (γ ++ loop) ts kt) (tt' : Typed (γ ++ loop) (all_of kt) (ty.Bool ∷ []))
        (dd : Drawn u number shape forms spellings (γ ++ loop) 0 0 (defs_lowered (map each ds)) (defined kd)) (td : Typed (γ ++ loop) (defined kd) ((γ ++ loop) ++ later)) (wd : Wired forms spellings (γ ++ loop) (defs_lowered (map each ds)) ((γ ++ loop) ++ later))
        (eg : EachD (γ ++ loop) gs ks) (tg : Typed (γ ++ loop) (all_of ks) row) (eo : EachO (γ ++ loop) gs ks arity) (nm : AreNamedPhrases gs ks) where
      pub all-tests : Drawn u number shape forms spellings (γ ++ loop) (length ts) 0 (all_lowered (each ts)) (all_of kt)
      all-tests = each-all u number shape forms spellings hs p cover (γ ++ loop) ts kt et

      pub extras-are-free : (lp : Option ℕ → Option ℕ) → Free (all_lowered (extras lp flags gs))
      extras-are-free lp = extras-free u number shape forms spellings hs p cover lp (γ ++ loop) flags gs ks arity eg eo ones

      pub is-free : Free loop_at
      is-free = loop-free t (map each fs) (each ts) (map each ds) gs ns df.free all-tests.free dd.free extras-are-free

      pub phrases : spans t.clauses ≡ length gs
      phrases = sym long ∙ sym (count-phrases gs ks arity eo)

      -- where the loop stands, and its names are as many as types
      module _ (ff : Free (defs_lowered (map each fs))) (ft : Free (all_lowered (each ts))) (fd : Free (defs_lowered (map each ds))) (fe : (lp : Option ℕ → Option ℕ) → Free (all_lowered (extras lp flags gs)))
          (s : Site) (k q : ℕ) (env : List Wire) (names : List Val) (o : AreOf γ names) (we : WiresOf forms spellings γ env) (a : AllCarry u number shape s env names) (pl : Placed u number shape s k q (loop_at env k q))
          (cnt : turns.count t (map each fs) (each ts) (map each ds) gs ns q env ≡ length loop) where
        abbrev pub lp : Option ℕ → Option ℕ
        lp = turns.loop t (map each fs) (each ts) (map each ds) gs ns q env

        abbrev pub count : ℕ
        count = turns.count t (map each fs) (each ts) (map each ds) gs ns q env

        abbrev pub besides : List Val → List Val
        besides = besides_of lp flags gs

        abbrev pub wide : ℕ
        wide = count + length (extras lp flags gs)

        abbrev pub ins : List Carried
        ins = turns.ins t (map each fs) (each ts) (map each ds) gs ns u number shape forms spellings γ loop later s k q env names a pl ff ft fd fe we wf wd ren

        abbrev pub gt : ℕ
        gt = turns.gt t (map each fs) (each ts) (map each ds) gs ns q env

        abbrev pub gb : ℕ
        gb = turns.gb t (map each fs) (each ts) (map each ds) gs ns q env

        abbrev pub gr : ℕ
        gr = turns.gr t (map each fs) (each ts) (map each ds) gs ns q env

        known : Facts names t.clauses gs lp count
        known = facts names t.clauses gs (length env) count (turns.around-many t (map each fs) (each ts) (map each ds) gs ns u number shape forms spellings γ loop later s k q env names a pl ff ft fd fe we wf wd ren) phrases

        pub as-many : (l : List Val) → AreOf loop l → count ≡ length l
        as-many l ol = cnt ∙ of-length loop l ol

        pub row-run : (l row' : List Val) (i : ℕ) → AreOf loop l → all_of ks (names ++ l) ≡ Some (row', i) → ExtrasRun u number shape forms spellings hs p cover lp (γ ++ loop) (extras lp flags gs) (names ++ l) (besides row') i
        row-run l row' i ol e = extras-run u number shape forms spellings hs p cover lp (γ ++ loop) flags gs ks arity eg eo ones (names ++ l) row' i (of-both γ loop names l o ol) e

        pub initial-is : (all : List Val) (i : ℕ) → Draws u number shape forms spellings γ (defs_lowered (map each fs)) names all i → AreOf loop (drop (length names) all) → (row' : List Val) (steps : ℕ) → all_of ks (names ++ drop (length names) all) ≡ Some (row', steps)
            → GraphGives u q ins (map Value (drop (length names) all ++ besides row')) (8 * steps + i)
        initial-is all i d ol row' steps e =
            let x = row-run (drop (length names) all) row' steps ol e in
            gives-more u q ins _ (i + x.limit) (8 * steps + i) (omega (arith, x.bound))
            (initial-gives t (map each fs) (each ts) (map each ds) gs ns u number shape forms spellings γ loop later s k q env names a pl ff ft fd fe we wf wd ren all (besides row') i x.limit d x.draws)

        pub test-is : (l row' vs : List Val) (steps : ℕ) → AreOf loop l → all_of kt (names ++ l) ≡ Some (vs, steps)
            → (v : Val) × Says (goes_on t.is_until (test_of vs)) v × GraphGives u gt (ins ++ map Value (l ++ besides row')) (Value v ∷ []) (8 * steps + 1)
        test-is l row' vs steps ol e =
            let w = tt' (names ++ l) vs steps (of-both γ loop names l o ol) e in
            let v = single (ty.Bool ∷ []) vs refl w in
            let r = all-tests.runs (names ++ l) vs steps (of-both γ loop names l o ol) e in
            let says = subst (λ ws. Says (goes_on t.is_until (test_of ws)) (said t.is_until v.0)) (sym v.1) (tests-said t.is_until v.0 (subst (AreOf (ty.Bool ∷ [])) v.1 w).0) in (
              said t.is_until v.0,
              says,
              gives-more u gt _ _ (r.limit + 1) (8 * steps + 1) (omega (arith, r.bound))
                  (test-gives t (map each fs) (each ts) (map each ds) gs ns u number shape forms spellings γ loop later s k q env names a pl ff ft fd fe we wf wd ren l (besides row') v.0 r.limit (as-many l ol)
                  (subst (λ ws. Draws u number shape forms spellings (γ ++ loop) (all_lowered (each ts)) (names ++ l) ws r.limit) v.1 r.draws)),
            )

        pub next-is : (l next : List Val) (j : ℕ) → AreOf loop l → turned t kd names l ≡ Some (next, j) → AreOf loop next
        next-is l next j ol e =
            let x = then-some (defined kd (names ++ l)) (λ all. given (source.renew t.renewed (drop (length (names ++ l)) all) l)) next j e in
            let z = given-is (source.renew t.renewed (drop (length (names ++ l)) x.mid) l) next x.k x.second in
            let on = of-both γ loop names l o ol in
            subst (AreOf loop) z.0 (renew_well loop t.renewed later ren (drop (length (names ++ l)) x.mid) l (drop_of (γ ++ loop) later (names ++ l) x.mid on (td (names ++ l) x.mid x.j on x.first)) ol)

        pub turn-is : (l row' next row'' : List Val) (i j : ℕ) → AreOf loop l → turned t kd names l ≡ Some (next, i) → all_of ks (names ++ next) ≡ Some (row'', j)
            → GraphGives u gb (ins ++ map Value (l ++ besides row')) (map Value (next ++ besides row'')) (8 * i + 8 * j + 6)
        turn-is l row' next row'' i j ol e f =
            let x = then-some (defined kd (names ++ l)) (λ all. given (source.renew t.renewed (drop (length (names ++ l)) all) l)) next i e in
            let z = given-is (source.renew t.renewed (drop (length (names ++ l)) x.mid) l) next x.k x.second in
            let r = dd.runs (names ++ l) x.mid x.j (of-both γ loop names l o ol) x.first in
            let w = row-run next row'' j (next-is l next i ol e) f in
            gives-more u gb _ _ (r.limit + w.limit) (8 * i + 8 * j + 6) (omega (arith, r.bound, w.bound, x.sum))
            (turn-gives t (map each fs) (each ts) (map each ds) gs ns u number shape forms spellings γ loop later s k q env names a pl ff ft fd fe we wf wd ren l (besides row') x.mid next (besides row'') r.limit w.limit (as-many l ol) r.draws z.0 w.draws)

        pub long-is : (l row' : List Val) (steps : ℕ) → AreOf loop l → all_of ks (names ++ l) ≡ Some (row', steps) → length (l ++ besides row') ≡ wide
        long-is l row' steps ol e = known.long l row' (sym (as-many l ol)) (row-named (γ ++ loop) gs ks arity eo ones nm (names ++ l) row' steps (of-both γ loop names l o ol) e)

        initial-wide : length (turns.i0 t (map each fs) (each ts) (map each ds) gs ns q env).values ≡ wide
        initial-wide =
            let ls = turns.loop_names t (map each fs) (each ts) (map each ds) gs ns q env in
            let w = extras-wide u number shape forms spellings hs p cover lp (γ ++ loop) flags gs ks arity eo ones in
            length-append ls _ ∙ ap (λ n. count + n) (w _ _ _)

        -- the clauses over rows
        abbrev pub values_made : List (List Val) → List Val
        values_made rows = clauses_made t.clauses rows

        pub returns-are : (lists rows : List (List Val)) → Each (AreOf loop) lists → Gave (all_of ks) (map (λ m. names ++ m) lists) rows
            → GraphGives u gr (ins ++ columns wide (map (map Value) (fulls besides lists rows))) (map Value (values_made rows)) (8 * length t.clauses)
        returns-are lists rows h g =
            let cs = columns wide (map (map Value) (fulls besides lists rows)) in
            let e = columns-length wide (map (map Value) (fulls besides lists rows)) in
            let below = places-below lp wide (λ z x f. let lt = below-count (length env) count z x f in omega (arith, lt)) count flags gs (omega arith) in
            let at = known.columns_at lists rows (rows-of γ loop gs ks arity eo ones nm count (sym cnt) names o lists rows h g) in
            let w = rows-wide row (spans t.clauses) rows (spans-are t.clauses row results am) (rows-typed γ loop row ks tg names o lists rows h g) in
            let x = returns-give t (map each fs) (each ts) (map each ds) gs ns u number shape forms spellings γ loop later s k q env names a pl ff ft fd fe we wf wd ren cs shaped many-clauses (initial-wide ∙ sym e)
            (subst (λ n. AreBelow n (turns.places t (map each fs) (each ts) (map each ds) gs ns q env)) (sym e) below) in
            subst (λ vs. GraphGives u gr (ins ++ cs) (map Value vs) (8 * length t.clauses)) (ap (folds_of t.clauses (pos 1)) at ∙ sym (folded-by-columns t.clauses (pos 1) rows w)) x

        pub the-parts : (all : List Val) (i : ℕ) → Draws u number shape forms spellings γ (defs_lowered (map each fs)) names all i → AreOf loop (drop (length names) all)
            → AreTurnParts u q gt gb gr wide ins t (all_of kt) (all_of ks) (turned t kd) names loop besides (drop (length names) all) i
        the-parts all i d ol = record {
          typed = ol;
          initial = λ row' steps e. initial-is all i d ol row' steps e;
          testing = λ m row' vs steps om e. test-is m row' vs steps om e;
          turning = λ m row' m' row'' i j om e f. turn-is m row' m' row'' i j om e f;
          stays = λ m m' steps om e. next-is m m' steps om e;
          long = λ m row' steps om e. long-is m row' steps om e;
          returns = λ lists rows h g. returns-are lists rows h g;
        }

        -- the form of the node
        pub form-is : (b : Bool) → the_form u number shape (loop_kind b) q (turns.graphs t (map each fs) (each ts) (map each ds) gs ns q env) (turns.arms t (map each fs) (each ts) (map each ds) gs ns q env) 0 ns ≡ loop_form b q gt gb gr (length ns)
        form-is true = refl
        form-is false = refl

        pub loop-done : (vs : List Val) (limit : ℕ) → length ns ≡ length vs → parts.NodeGives u (loop_form t.is_first q gt gb gr (length ns)) ins (map Value vs) limit → Done u number shape s k (loop_at env k q) vs (1 + limit)
        loop-done vs limit l g =
            let f = form-is t.is_first in
            let h = subst (λ x. parts.NodeGives u x ins (map Value vs) limit) (sym f) g in
            whole-done u number shape s k q (loop_kind t.is_first) (turns.graphs t (map each fs) (each ts) (map each ds) gs ns q env) (turns.arms t (map each fs) (each ts) (map each ds) gs ns q env) 0 ns
            (turns.here t (map each fs) (each ts) (map each ds) gs ns u number shape forms spellings γ loop later s k q env names a pl ff ft fd fe we wf wd ren) vs limit pl l
            (record { cost = h.cost; leads = record { least = h.leads.least; holds = h.leads.holds }; fires = record { least = h.fires.least; holds = h.fires.holds }; bound = h.bound })

      -- the loop is drawn
      pub initial-drawn : (n : ℕ) → Drawn u number shape forms spellings γ 0 7 loop_at (λ names. andthen (defined kf names) (λ all. looped n t (length ns) (all_of kt) (turned t kd) (all_of ks) names (drop (length names) all)))
      initial-drawn n = record {
        free = is-free;
        runs = λ names vs i o e.
            let x = then-some (defined kf names) (λ all. looped n t (length ns) (all_of kt) (turned t kd) (all_of ks) names (drop (length names) all)) vs i e in
            let r = df.runs names x.mid x.j o x.first in
            let ol = drop_of γ loop names x.mid o (tf names x.mid x.j o x.first) in
            let many_vs = looped-length n t (length ns) (all_of kt) (turned t kd) (all_of ks) names (drop (length names) x.mid) vs x.k many-clauses x.second in
            record {
              limit = 1 + (8 * x.k + r.limit + 1);
              bound = omega (arith, r.bound, x.sum);
              draws = λ s k q env we a pl.
                  let cnt = count-is t (map each fs) (each ts) (map each ds) gs ns u number shape forms spellings γ loop later s k q env names a pl df.free all-tests.free dd.free extras-are-free we wf wd ren x.mid r.limit r.draws ∙ sym (of-length loop (drop (length names) x.mid) ol) in
                  let h = the-parts df.free all-tests.free dd.free extras-are-free s k q env names o we a pl cnt x.mid r.limit r.draws ol in
                  loop-done df.free all-tests.free dd.free extras-are-free s k q env names o we a pl cnt vs (8 * x.k + r.limit + 1) many_vs
                  (loops-given u q (gt df.free all-tests.free dd.free extras-are-free s k q env names o we a pl cnt) (gb df.free all-tests.free dd.free extras-are-free s k q env names o we a pl cnt) (gr df.free all-tests.free dd.free extras-are-free s k q env names o we a pl cnt) (wide df.free all-tests.free dd.free extras-are-free s k q env names o we a pl cnt) (length ns) (ins df.free all-tests.free dd.free extras-are-free s k q env names o we a pl cnt) t (all_of kt) (all_of ks) (turned t kd) names loop (besides df.free all-tests.free dd.free extras-are-free s k q env names o we a pl cnt)
                  (drop (length names) x.mid) r.limit h n vs x.k x.second);
            };
      }
