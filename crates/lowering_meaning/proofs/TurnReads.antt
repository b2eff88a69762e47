-- Where a loop of turns fires, the source gives something.
use Rattle.std.proofs.Common.{◌≡◌, ◌⊎◌, inl, inr, ℕ, suc, ◌+◌, ◌≤◌, Bool, true, false, List, [], ◌∷◌, ◌++◌, map, length, drop, Option, Some, None, refl, sym, ap, ◌∙◌, subst, arith, append-nil}
use Rattle.flow_value.specs.declared.value.Val.{Val}
use Rattle.flow_value.specs.declared.operation.Scalar1.TheVariants as unary
use Rattle.flow_value.specs.declared.ty.Ty.{Ty}
use Rattle.flow_value.specs.declared.ty.Ty.TheVariants as ty
use Rattle.if1_graph.specs.declared.op.Simple.TheVariants as simple
use Rattle.type_table.specs.declared.form.Form.{Form}
use Rattle.typed_tree.specs.declared.program.Function.{Function}
use Rattle.typed_tree.specs.declared.expr.Turns.{Turns}
use Rattle.typed_values.specs.Fitting.{Header, Renews, AreMade}
use Rattle.typed_rows.specs.Rows.{AreOf}
use Rattle.typed_values.proofs.Values.{drop_of}
use Rattle.meaning.specs.Timed.{Timed, given, andthen}
use Rattle.meaning.specs.Words.{value_at}
use Rattle.meaning.specs.Meaning.{Gives as Means, all_of, defined, turned, looped}
use Rattle.meaning.specs.Meaning as source
use Rattle.graph_meaning.specs.Carried.{Carried, Value}
use Rattle.lowering_meaning.proofs.Told.{Telling}
use Rattle.graph_meaning.specs.Forms.{Form as NodeForm, Starting, Enter, first, next_of}
use Rattle.graph_meaning.specs.Demand.{Network}
use Rattle.graph_meaning.specs.Plain.{is_deeper, NodesFire, LaterFires}
use Rattle.lowering.specs.declared.feed.Wire.{Wire}
use Rattle.lowering.specs.Feeds.{into}
use Rattle.lowering.specs.declared.graph.Lowered.{Lowered}
use Rattle.lowering.specs.Graphs.{only}
use Rattle.lowering.specs.Operations.{Lowers, boolean, all_lowered, defs_lowered, row_lowered}
use Rattle.lowering.specs.Loops.{Phrase, take_up, with_not, unless_places, loop_kind, loop_name, extra, extras, renew, test_lowered, row_of_turn}
use Rattle.lowering.specs.Phrases.{each}
use Rattle.loop_columns.specs.Parts.{Yields}
use Rattle.loop_columns.specs.Clauses.{spans}
use Rattle.loop_columns.specs.Turns.{loop_form, InitialRead, TestRead, TurnRead, AreTurnsRead}
use Rattle.loop_columns.proofs.TurnsRead.{loops-read}
use Rattle.lowering_meaning.specs.Coverage.{Coverage, all_one}
use Rattle.lowering_meaning.proofs.From.{always}
use Rattle.lowering_meaning.proofs.Timed.{Yield, yield-given, yield-then}
use Rattle.lowering_meaning.proofs.Sites.{Site, AllCarry, Placed, carry-both, placed-left, placed-right, firings-first, firings-second}
use Rattle.lowering_meaning.proofs.Inverse.{later-is}
use Rattle.lowering_meaning.proofs.Forms.{WiresOf, Wired, wires-into, of-both, of-length, Free, Draws}
use Rattle.lowering_meaning.proofs.Parts.{part-fires, the_form, whole-fires}
use Rattle.lowering_meaning.proofs.ReadForms.{FiresAt, Read, DrawnAll, TypedAll, nil-read, cons-read}
use Rattle.lowering_meaning.proofs.Trees.{EachDrawn, EachOf}
use Rattle.lowering_meaning.proofs.TreeReads.{EachRead, no_read, a_read}
use Rattle.lowering_meaning.proofs.ReturnForms.{AreShaped}
use Rattle.lowering_meaning.proofs.TurnForms as turns
use Rattle.lowering_meaning.proofs.TurnForms.{count-is, loop-names-carry, turn-carries, map-both}
use Rattle.lowering_meaning.proofs.TurnLoops as loops
use Rattle.lowering_meaning.proofs.TurnLoops.{IsNamed, AreNamedPhrases}

abbrev as-yields : {A : Type 0} (a : ℕ → Timed A) → Yield a → Yields a
as-yields a y = record { value = y.value; steps = y.steps; from = record { least = y.from.least; holds = y.from.holds } }

as-yield : {A : Type 0} (a : ℕ → Timed A) → Yields a → Yield a
as-yield a y = record { value = y.value; steps = y.steps; from = record { least = y.from.least; holds = y.from.holds } }

same-depth : (form : NodeForm) (l m : ℕ) → is_deeper form false ≡ false → ((is_deeper form false ≡ true) × (suc l ≡ m)) ⊎ ((is_deeper form false ≡ false) × (l ≡ m)) → l ≡ m
same-depth form l m e (inl x) = absurd (grind (arith, e, x))
same-depth form l m e (inr x) = x.1

no-call : (b : Bool) (i t c r o : ℕ) → is_deeper (loop_form b i t c r o) false ≡ false
no-call true i t c r o = refl
no-call false i t c r o = refl

begins : (b : Bool) (i t c r o : ℕ) (ks : List Carried) → next_of (first (loop_form b i t c r o) ks) ≡ Enter false i ks Starting
begins true i t c r o ks = refl
begins false i t c r o ks = refl

module _ (u : Network) (number : ℕ → ℕ) (shape : Telling) (forms : List Form) (spellings : List (List ℕ)) (hs : List Header) (pr : List Function) (cover : Coverage) where
  abbrev EachR : ℕ → List Ty → List Phrase → (ℕ → List Means) → Type 0
  EachR m γ gs ks = EachRead u number shape forms spellings hs pr cover m γ gs ks

  all-read : (m : ℕ) (γ : List Ty) (gs : List Phrase) (ks : ℕ → List Means) → EachR m γ gs ks → Read u number shape forms spellings m γ (all_lowered (each gs)) (λ j. all_of (ks j))
  all-read m γ _ _ no_read = nil-read u number shape forms spellings m γ
  all-read m γ _ _ (a_read g gs k ks r rs) = cons-read u number shape forms spellings m γ g.lowers (each gs) k ks r (all-read m γ gs ks rs)

  not-read : (m : ℕ) (γ : List Ty) (g : Lowers) (k : ℕ → Means) → Read u number shape forms spellings m γ g k → Read u number shape forms spellings m γ (with_not g) k
  not-read m γ g k r names o s n q env c we a pl f =
      let x = g env n q in
      let y = row_lowered (simple.One unary.Not) x.values (boolean ∷ []) (n + length x.nodes) (q + length x.graphs) in
      let h = firings-first u number shape m s n x y c f in
      r names o s n q env h.0 we a (placed-left u number shape s n q x y pl) h.1

  -- what is collected besides, and the names among the clauses
  extras-read : (m : ℕ) (γ : List Ty) (a c : ℕ) (bs : List Bool) (gs : List Phrase) (ks : ℕ → List Means) → length bs ≡ length gs → EachR m γ gs ks → ((j : ℕ) → AreNamedPhrases gs (ks j))
      → Read u number shape forms spellings m γ (all_lowered (extras (loop_name a c) bs gs)) (λ j. all_of (ks j))
  extras-read m γ a c bs _ _ l no_read nm = nil-read u number shape forms spellings m γ
  extras-read m γ a c [] _ _ l (a_read g gs k ks r rs) nm = absurd (omega (arith, l))
  extras-read m γ a c (true ∷ bs) _ _ l (a_read g gs k ks r rs) nm =
      cons-read u number shape forms spellings m γ (with_not g.lowers) (extras (loop_name a c) bs gs) k ks (not-read m γ g.lowers k r) (extras-read m γ a c bs gs ks (omega (arith, l)) rs (λ j. (nm j).1))
  extras-read m γ a c (false ∷ bs) _ _ l (a_read g gs k ks r rs) nm =
      by (loop_name a c g.name) refl (extras-read m γ a c bs gs ks (omega (arith, l)) rs (λ j. (nm j).1))
    where
      is-given : (z : Option ℕ) (y : ℕ) → g.name ≡ z → loop_name a c z ≡ Some y → (names : List Val) → Yield (λ j. k j names)
      is-given None y e f names = absurd cc
      is-given (Some x) y e f names = record { value = value_at names x ∷ []; steps = 1; from = always _ (λ j. (nm j).0 x e names) }

      by : (z : Option ℕ) → loop_name a c g.name ≡ z → Read u number shape forms spellings m γ (all_lowered (extras (loop_name a c) bs gs)) (λ j. all_of (ks j))
          → Read u number shape forms spellings m γ (all_lowered (extra z g.lowers ++ extras (loop_name a c) bs gs)) (λ j. all_of (k j ∷ ks j))
      by None e rest = cons-read u number shape forms spellings m γ g.lowers (extras (loop_name a c) bs gs) k ks r rest
      by (Some y) e rest = λ names o s n q env d we b pl f.
          let x = is-given g.name y refl e names in
          let z = rest names o s n q env d we b pl f in
          yield-then (λ j. k j names) (λ j vs. andthen (all_of (ks j) names) (λ ws. given (vs ++ ws))) x (yield-then (λ j. all_of (ks j) names) (λ j ws. given (x.value ++ ws)) z (yield-given (x.value ++ z.value)))

  module _ (t : Turns) (arity : List ℕ) (γ loop later row results : List Ty) (ns : List ℕ) (fs : List (List Phrase)) (ts : List Phrase) (ds : List (List Phrase)) (gs : List Phrase)
      (flags_long : length (unless_places t.clauses) ≡ length gs)
      (kf : ℕ → List (List Means)) (kt : ℕ → List Means) (kd : ℕ → List (List Means)) (ks : ℕ → List Means)
      (df : DrawnAll u number shape forms spellings γ 0 0 (defs_lowered (map each fs)) (λ j. defined (kf j))) (tf : TypedAll u number shape forms spellings γ (λ j. defined (kf j)) (γ ++ loop)) (wf : Wired forms spellings γ (defs_lowered (map each fs)) (γ ++ loop))
      (ft : Free (all_lowered (each ts)))
      (dd : DrawnAll u number shape forms spellings (γ ++ loop) 0 0 (defs_lowered (map each ds)) (λ j. defined (kd j))) (wd : Wired forms spellings (γ ++ loop) (defs_lowered (map each ds)) ((γ ++ loop) ++ later)) (ren : Renews loop t.renewed later)
      (fe : (lp : Option ℕ → Option ℕ) → Free (all_lowered (extras lp (unless_places t.clauses) gs)))
      (nm : (j : ℕ) → AreNamedPhrases gs (ks j)) (m : ℕ)
      (rf : (l : ℕ) → l ≤ m → Read u number shape forms spellings l γ (defs_lowered (map each fs)) (λ j. defined (kf j))) (rt : (l : ℕ) → l ≤ m → EachR l (γ ++ loop) ts kt)
      (rd : (l : ℕ) → l ≤ m → Read u number shape forms spellings l (γ ++ loop) (defs_lowered (map each ds)) (λ j. defined (kd j))) (rg : (l : ℕ) → l ≤ m → EachR l (γ ++ loop) gs ks) where
    abbrev F : List (List Lowers)
    F = map each fs

    abbrev T : List Lowers
    T = each ts

    abbrev D : List (List Lowers)
    D = map each ds

    abbrev ff : Free (defs_lowered F)
    ff = (df 0).free

    abbrev fd : Free (defs_lowered D)
    fd = (dd 0).free

    abbrev pub loop_at : Lowers
    loop_at = turns.the_loop t F T D gs ns

    module _ (names : List Val) (o : AreOf γ names) (s : Site) (k q : ℕ) (env : List Wire) (we : WiresOf forms spellings γ env) (a : AllCarry u number shape s env names) (pl : Placed u number shape s k q (loop_at env k q)) where
      abbrev pub ins : List Carried
      ins = turns.ins t F T D gs ns u number shape forms spellings γ loop later s k q env names a pl ff ft fd fe we wf wd ren

      abbrev lp : Option ℕ → Option ℕ
      lp = turns.loop t F T D gs ns q env

      abbrev pub gt : ℕ
      gt = turns.gt t F T D gs ns q env

      abbrev pub gb : ℕ
      gb = turns.gb t F T D gs ns q env

      abbrev pub gr : ℕ
      gr = turns.gr t F T D gs ns q env

      abbrev site0 : Site
      site0 = turns.site0 t F T D gs ns u number shape forms spellings γ loop later s k q env names a pl ff ft fd fe we wf wd ren

      abbrev defs0 : Lowered
      defs0 = turns.defined t F T D gs ns q env

      abbrev row0 : Lowered
      row0 = turns.first_row t F T D gs ns u number shape forms spellings γ loop later s k q env names a pl ff ft fd fe we wf wd ren

      -- ---- the initial graph

      initial-fires : (d c : ℕ) → NodesFire u d q ins (u q).nodes c → FiresAt u number shape forms spellings d site0 0 (turns.i0 t F T D gs ns q env) c
      initial-fires d c f =
          part-fires u number shape (turns.i0 t F T D gs ns q env) d c (turns.initial-part t F T D gs ns u number shape forms spellings γ loop later s k q env names a pl ff ft fd fe we wf wd ren) (subst (λ xs. NodesFire u d q xs (u q).nodes c) (sym (append-nil ins)) f)

      pub names-read : (d c : ℕ) → d ≤ m → NodesFire u d q ins (u q).nodes c → Yield (λ j. defined (kf j) names)
      names-read d c le f =
          let p = turns.initial-part t F T D gs ns u number shape forms spellings γ loop later s k q env names a pl ff ft fd fe we wf wd ren in
          let g = firings-first u number shape d site0 0 defs0 row0 c (initial-fires d c f) in
          rf d le names o site0 0 (suc q) (map into env) g.0 (wires-into forms spellings γ env we) p.carry (placed-left u number shape site0 0 (suc q) defs0 row0 p.placed) g.1

      -- what the source gives, the definitions give
      names-draw : (y : Yield (λ j. defined (kf j) names)) → (limit : ℕ) × Draws u number shape forms spellings γ (defs_lowered F) names y.value limit
      names-draw y =
          let w = (df y.from.least).runs names y.value y.steps o (y.from.holds y.from.least (omega arith)) in
          (w.limit, w.draws)

      names-typed : (y : Yield (λ j. defined (kf j) names)) → AreOf loop (drop (length names) y.value)
      names-typed y = drop_of γ loop names y.value o (tf y.from.least names y.value y.steps o (y.from.holds y.from.least (omega arith)))

      pub counted : Yield (λ j. defined (kf j) names) → turns.count t F T D gs ns q env ≡ length loop
      counted y =
          let w = names-draw y in
          count-is t F T D gs ns u number shape forms spellings γ loop later s k q env names a pl ff ft fd fe we wf wd ren y.value w.0 w.1 ∙ sym (of-length loop (drop (length names) y.value) (names-typed y))

      module _ (long : length arity ≡ spans t.clauses) (ones : all_one arity ≡ true) (shaped : AreShaped u number shape t.clauses ns) (am : AreMade t.clauses row results) (many : length ns ≡ length results)
          (et : (j : ℕ) → EachDrawn u number shape forms spellings hs pr cover (γ ++ loop) ts (kt j)) (tt' : TypedAll u number shape forms spellings (γ ++ loop) (λ j. all_of (kt j)) (ty.Bool ∷ []))
          (td : TypedAll u number shape forms spellings (γ ++ loop) (λ j. defined (kd j)) ((γ ++ loop) ++ later))
          (eg : (j : ℕ) → EachDrawn u number shape forms spellings hs pr cover (γ ++ loop) gs (ks j)) (tg : TypedAll u number shape forms spellings (γ ++ loop) (λ j. all_of (ks j)) row) (eo : (j : ℕ) → EachOf u number shape forms spellings hs pr cover (γ ++ loop) gs (ks j) arity)
          (cnt : turns.count t F T D gs ns q env ≡ length loop) where
        abbrev besides : List Val → List Val
        besides = loops.besides u number shape forms spellings hs pr cover t arity long ones γ loop later row results ns shaped fs ts ds gs ren am many (kf 0) (kt 0) (kd 0) (ks 0) (df 0) (tf 0) wf (et 0) (tt' 0) (dd 0) (td 0) wd (eg 0) (tg 0) (eo 0) (nm 0) ff ft fd fe s k q env names o we a pl cnt

        -- a row, behind what stands before it
        row-read : (d : ℕ) → d ≤ m → (st : Site) (n r c : ℕ) (around ls : List Wire) (l : List Val) → AreOf loop l → WiresOf forms spellings (γ ++ loop) (around ++ ls) → AllCarry u number shape st around names → AllCarry u number shape st ls l
            → Placed u number shape st n r (row_of_turn (extras lp (unless_places t.clauses) gs) around ls n r) → FiresAt u number shape forms spellings d st n (row_of_turn (extras lp (unless_places t.clauses) gs) around ls n r) c → Yield (λ j. all_of (ks j) (names ++ l))
        row-read d le st n r c around ls l ol w0 b e h f =
            let x = all_lowered (extras lp (unless_places t.clauses) gs) (around ++ ls) n r in
            let y : Lowered = only (ls ++ x.values) (n + length x.nodes) (r + length x.graphs) in
            let g = firings-first u number shape d st n x y c f in
            extras-read d (γ ++ loop) (length env) (turns.count t F T D gs ns q env) (unless_places t.clauses) gs ks flags_long (rg d le) nm (names ++ l) (of-both γ loop names l o ol) st n r (around ++ ls) g.0 w0
            (carry-both u number shape st around names ls l b e) (placed-left u number shape st n r x y h) g.1

        of-initial : (d c : ℕ) → d ≤ m → NodesFire u d q ins (u q).nodes c → InitialRead u ins t (λ j. all_of (kt j)) (λ j. all_of (ks j)) (λ j. turned t (kd j)) names loop besides q (λ j. defined (kf j) names)
        of-initial d c le f =
            let p = turns.initial-part t F T D gs ns u number shape forms spellings γ loop later s k q env names a pl ff ft fd fe we wf wd ren in
            let y = names-read d c le f in
            let w = names-draw y in
            let ol = names-typed y in
            let l = drop (length names) y.value in
            let g = firings-second u number shape d site0 0 defs0 row0 c (initial-fires d c f) in
            let z = row-read d le site0 (0 + length defs0.nodes) (suc q + length defs0.graphs) g.0 (map into env) (turns.loop_names t F T D gs ns q env) l ol (turns.first-wired t F T D gs ns u number shape forms spellings γ loop later s k q env names a pl ff ft fd fe we wf wd ren) p.carry
            (loop-names-carry t F T D gs ns u number shape forms spellings γ loop later s k q env names a pl ff ft fd fe we wf wd ren y.value w.0 w.1) (placed-right u number shape site0 0 (suc q) defs0 row0 p.placed) g.1 in
            let j = z.from.least in
            let h = loops.initial-is u number shape forms spellings hs pr cover t arity long ones γ loop later row results ns shaped fs ts ds gs ren am many (kf j) (kt j) (kd j) (ks j) (df j) (tf j) wf (et j) (tt' j) (dd j) (td j) wd (eg j) (tg j) (eo j) (nm j) ff ft fd fe s k q env names o we a pl cnt
            y.value w.0 w.1 ol z.value z.steps (z.from.holds j (omega arith)) in
            record { named = as-yields (λ j. defined (kf j) names) y; row = as-yields (λ j. all_of (ks j) (names ++ l)) z; typed = ol; means = h.means }

        -- ---- the test

        test-first : (until : Bool) (d : ℕ) (st : Site) (n r c : ℕ) (env' : List Wire) → Placed u number shape st n r (test_lowered until T env' n r) → FiresAt u number shape forms spellings d st n (test_lowered until T env' n r) c
            → Placed u number shape st n r (all_lowered T env' n r) × ((e : ℕ) × FiresAt u number shape forms spellings d st n (all_lowered T env' n r) e)
        test-first true d st n r c env' h f =
            let x = all_lowered T env' n r in
            let y = row_lowered (simple.One unary.Not) x.values (boolean ∷ []) (n + length x.nodes) (r + length x.graphs) in
            (placed-left u number shape st n r x y h, firings-first u number shape d st n x y c f)
        test-first false d st n r c env' h f = (h, (c, f))

        at-values : (g d c : ℕ) (l more : List Val) → NodesFire u d g (ins ++ map Value (l ++ more)) (u g).nodes c → NodesFire u d g (ins ++ (map Value l ++ map Value more)) (u g).nodes c
        at-values g d c l more f = subst (λ cs. NodesFire u d g (ins ++ cs) (u g).nodes c) (map-both l more) f

        of-test : (d c : ℕ) (l row' : List Val) → d ≤ m → AreOf loop l → NodesFire u d gt (ins ++ map Value (l ++ besides row')) (u gt).nodes c
            → TestRead u ins t (λ j. all_of (kt j)) (λ j. all_of (ks j)) (λ j. turned t (kd j)) names loop besides gt l row'
        of-test d c l row' le ol f =
            let e = cnt ∙ of-length loop l ol in
            let on = of-both γ loop names l o ol in
            let p = turns.test-inside t F T D gs ns u number shape forms spellings γ loop later s k q env names a pl ff ft fd fe we wf wd ren l (besides row') e in
            let st = turns.site_of t F T D gs ns u number shape forms spellings γ loop later s k q env names a pl ff ft fd fe we wf wd ren gt l (besides row') in
            let x0 = turns.x0 t F T D gs ns q env in
            let g = part-fires u number shape x0 d c p (at-values gt d c l (besides row') f) in
            let h = test-first t.is_until d st 0 (suc gt) c (turns.inside_names t F T D gs ns q env) p.placed g in
            let y = all-read d (γ ++ loop) ts kt (rt d le) (names ++ l) on st 0 (suc gt) (turns.inside_names t F T D gs ns q env) h.1.0 (turns.inside-wired t F T D gs ns u number shape forms spellings γ loop later s k q env names a pl ff ft fd fe we wf wd ren)
            (turns.names-inside t F T D gs ns u number shape forms spellings γ loop later s k q env names a pl ff ft fd fe we wf wd ren gt l (besides row') x0 e p) h.0 h.1.1 in
            let j = y.from.least in
            let w = loops.test-is u number shape forms spellings hs pr cover t arity long ones γ loop later row results ns shaped fs ts ds gs ren am many (kf j) (kt j) (kd j) (ks j) (df j) (tf j) wf (et j) (tt' j) (dd j) (td j) wd (eg j) (tg j) (eo j) (nm j) ff ft fd fe s k q env names o we a pl cnt
            l row' y.value y.steps ol (y.from.holds j (omega arith)) in
            record { test = as-yields (λ j. all_of (kt j) (names ++ l)) y; value = w.0; says = w.1; means = w.2.means }

        -- ---- the turn

        of-turn : (d c : ℕ) (l row' : List Val) → d ≤ m → AreOf loop l → NodesFire u d gb (ins ++ map Value (l ++ besides row')) (u gb).nodes c
            → TurnRead u ins t (λ j. all_of (kt j)) (λ j. all_of (ks j)) (λ j. turned t (kd j)) names loop besides gb l row'
        of-turn d c l row' le ol f =
            let e = cnt ∙ of-length loop l ol in
            let on = of-both γ loop names l o ol in
            let p = turns.turn-inside t F T D gs ns u number shape forms spellings γ loop later s k q env names a pl ff ft fd fe we wf wd ren l (besides row') e in
            let st = turns.site_of t F T D gs ns u number shape forms spellings γ loop later s k q env names a pl ff ft fd fe we wf wd ren gb l (besides row') in
            let b0 = turns.b0 t F T D gs ns q env in
            let inside = turns.inside_names t F T D gs ns q env in
            let x = turns.turn_defs t F T D gs ns u number shape forms spellings γ loop later s k q env names a pl ff ft fd fe we wf wd ren in
            let r = turns.turn_row t F T D gs ns u number shape forms spellings γ loop later s k q env names a pl ff ft fd fe we wf wd ren in
            let g = part-fires u number shape b0 d c p (at-values gb d c l (besides row') f) in
            let g1 = firings-first u number shape d st 0 x r c g in
            let g2 = firings-second u number shape d st 0 x r c g in
            let carry = turns.names-inside t F T D gs ns u number shape forms spellings γ loop later s k q env names a pl ff ft fd fe we wf wd ren gb l (besides row') b0 e p in
            let y = rd d le (names ++ l) on st 0 (suc gb) inside g1.0 (turns.inside-wired t F T D gs ns u number shape forms spellings γ loop later s k q env names a pl ff ft fd fe we wf wd ren) carry (placed-left u number shape st 0 (suc gb) x r p.placed) g1.1 in
            let i = y.from.least in
            let next = source.renew t.renewed (drop (length (names ++ l)) y.value) l in
            let first_given = y.from.holds i (omega arith) in
            let turned_at : (j : ℕ) → i ≤ j → turned t (kd j) names l ≡ Some (next, y.steps + 0) =
            λ j h. ap (λ o. andthen o (λ all. given (source.renew t.renewed (drop (length (names ++ l)) all) l))) (y.from.holds j h) in
            let w = (dd i).runs (names ++ l) y.value y.steps on first_given in
            let onext = loops.next-is u number shape forms spellings hs pr cover t arity long ones γ loop later row results ns shaped fs ts ds gs ren am many (kf i) (kt i) (kd i) (ks i) (df i) (tf i) wf (et i) (tt' i) (dd i) (td i) wd (eg i) (tg i) (eo i) (nm i) ff ft fd fe s k q env names o we a pl cnt
            l next (y.steps + 0) ol (turned_at i (omega arith)) in
            let cs = turn-carries t F T D gs ns u number shape forms spellings γ loop later s k q env names a pl ff ft fd fe we wf wd ren l (besides row') y.value next w.limit e w.draws refl in
            let z = row-read d le st (0 + length x.nodes) (suc gb + length x.graphs) g2.0 (take_up (length env) inside) (renew t.renewed (drop (length inside) x.values) (drop (length env) inside)) next onext (turns.turn-wired t F T D gs ns u number shape forms spellings γ loop later s k q env names a pl ff ft fd fe we wf wd ren) cs.0 cs.1
            (placed-right u number shape st 0 (suc gb) x r p.placed) g2.1 in
            let j = i + z.from.least in
            let h = loops.turn-is u number shape forms spellings hs pr cover t arity long ones γ loop later row results ns shaped fs ts ds gs ren am many (kf j) (kt j) (kd j) (ks j) (df j) (tf j) wf (et j) (tt' j) (dd j) (td j) wd (eg j) (tg j) (eo j) (nm j) ff ft fd fe s k q env names o we a pl cnt
            l row' next z.value (y.steps + 0) z.steps ol (turned_at j (omega arith)) (z.from.holds j (omega arith)) in
            record {
              next_names = record { value = next; steps = y.steps + 0; from = record { least = i; holds = turned_at } };
              next_row = as-yields (λ j. all_of (ks j) (names ++ next)) z;
              typed = onext;
              means = h.means;
            }

        are-read : AreTurnsRead u ins t (λ j. all_of (kt j)) (λ j. all_of (ks j)) (λ j. turned t (kd j)) names loop besides q gt gb m (λ j. defined (kf j) names)
        are-read = record { of_initial = of-initial; of_test = of-test; of_turn = of-turn }

        pub later-read : (cost : ℕ) → LaterFires u m (loop_form t.is_first q gt gb gr (length ns)) ins (next_of (first (loop_form t.is_first q gt gb gr (length ns)) ins)) cost
            → Yield (λ j. andthen (defined (kf j) names) (λ all. looped j t (length ns) (all_of (kt j)) (turned t (kd j)) (all_of (ks j)) names (drop (length names) all)))
        later-read cost f = as-yield _ (loops-read u q gt gb gr (length ns) m cost ins t (λ j. defined (kf j) names) (λ j. all_of (kt j)) (λ j. all_of (ks j)) (λ j. turned t (kd j)) names loop besides are-read f)

      -- the node's firings, by its form
      pub node-fires : (c : ℕ) → FiresAt u number shape forms spellings m s k (loop_at env k q) c → (d : ℕ) × LaterFires u m (loop_form t.is_first q gt gb gr (length ns)) ins (next_of (first (loop_form t.is_first q gt gb gr (length ns)) ins)) d
      node-fires c f =
          let x = whole-fires u number shape s k q (loop_kind t.is_first) (turns.graphs t F T D gs ns q env) (turns.arms t F T D gs ns q env) 0 ns (turns.here t F T D gs ns u number shape forms spellings γ loop later s k q env names a pl ff ft fd fe we wf wd ren) m c f in
          (x.0, subst (λ y. LaterFires u m y ins (next_of (first y ins)) x.0) (form-is t.is_first) x.1)
        where
          form-is : (b : Bool) → the_form u number shape (loop_kind b) q (turns.graphs t F T D gs ns q env) (turns.arms t F T D gs ns q env) 0 ns ≡ loop_form b q gt gb gr (length ns)
          form-is true = refl
          form-is false = refl

      -- the names of the loop are counted by what fires
      pub counted-by : (c : ℕ) → LaterFires u m (loop_form t.is_first q gt gb gr (length ns)) ins (next_of (first (loop_form t.is_first q gt gb gr (length ns)) ins)) c → turns.count t F T D gs ns q env ≡ length loop
      counted-by c f =
          let F1 = loop_form t.is_first q gt gb gr (length ns) in
          let z = later-is u m F1 ins (Enter false q ins Starting) c (subst (λ x. LaterFires u m F1 ins x c) (begins t.is_first q gt gb gr (length ns) ins) f) in
          let d = same-depth F1 z.depth m (no-call t.is_first q gt gb gr (length ns)) z.is_less in
          counted (names-read z.depth z.cost (omega (arith, d)) z.fires)
