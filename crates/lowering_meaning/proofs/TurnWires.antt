-- Wires of loops of turns: renewed, taken and dropped; what is collected besides the loop names.
use Rattle.std.proofs.Common.{◌≡◌, ℕ, zero, suc, ◌+◌, ◌*◌, ◌≤◌, Bool, true, false, ◌&&◌, List, [], ◌∷◌, ◌++◌, map, length, drop, slice_set, slice_get, Option, Some, None, refl, sym, ap, ◌∙◌, subst, arith, nat_eq, T}
use Rattle.std.proofs.Math.Facts.{eqb_yes}
use Rattle.std.proofs.lemmas.List.{length-append}
use Rattle.flow_value.specs.declared.value.Val.{Val}
use Rattle.flow_value.specs.declared.operation.Scalar1.TheVariants as unary
use Rattle.flow_value.specs.declared.ty.Ty.{Ty}
use Rattle.value_ops.specs.Operations.{op_value}
use Rattle.value_ops.specs.declared.operation.Operation.TheVariants as operation
use Rattle.type_table.specs.declared.form.Form.{Form}
use Rattle.typed_tree.specs.declared.program.Function.{Function}
use Rattle.typed_values.specs.Fitting.{Header, Renews}
use Rattle.typed_rows.specs.Rows.{AreOf}
use Rattle.meaning.specs.Timed.{given, andthen}
use Rattle.meaning.specs.Meaning.{Gives as Means, all_of}
use Rattle.meaning.specs.Meaning as source
use Rattle.graph_meaning.specs.Carried.{Carried}
use Rattle.lowering_meaning.proofs.Told.{Telling}
use Rattle.graph_meaning.specs.Demand.{Network}
use Rattle.lowering.specs.declared.feed.Carried as wired
use Rattle.lowering.specs.declared.feed.Wire.{Wire}
use Rattle.lowering.specs.declared.graph.Lowered.{Lowered}
use Rattle.lowering.specs.Graphs.{only, joined, ports}
use Rattle.lowering.specs.Operations.{Lowers, all_lowered, wire_at}
use Rattle.lowering.specs.Loops.{Phrase, types, take_up, with_not, extra, extras, renew}
use Rattle.loop_columns.specs.Collected.{beside, besides_of}
use Rattle.lowering_meaning.specs.Coverage.{Coverage, all_one}
use Rattle.lowering_meaning.proofs.Timed.{then-some, given-is}
use Rattle.lowering_meaning.proofs.Wires.{AllWires, both-wires, FromNames}
use Rattle.lowering_meaning.proofs.Sites.{Site, AllCarry, AllCarried, Placed, Done, done-only, done-both, done-more, carry-both, placed-left, placed-right}
use Rattle.lowering_meaning.proofs.Forms.{WiresOf, HasType, Typed, from-both, values-from, Free, Draws}
use Rattle.lowering_meaning.proofs.Widths.{Wide}
use Rattle.lowering_meaning.proofs.Trees.{EachDrawn, EachOf}
use Rattle.lowering_meaning.proofs.Nots.{single, not-drawn}

-- the Not of the first
abbrev nots : List Val → List Val
nots [] = []
nots (v ∷ vs) = op_value (operation.Unary unary.Not) (v ∷ []) ∷ vs

-- ---- wires

set-wires : (P : Wire → Type 0) (x : ℕ) (w : Wire) (ws : List Wire) → P w → AllWires P ws → AllWires P (slice_set ws x w)
set-wires P x w [] h a = tt
set-wires P zero w (y ∷ ws) h a = (h, a.1)
set-wires P (suc x) w (y ∷ ws) h a = (a.0, set-wires P x w ws h a.1)

pub renew-wires : (P : Wire → Type 0) (ds : List (Option ℕ)) (ws l : List Wire) → AllWires P ws → AllWires P l → AllWires P (renew ds ws l)
renew-wires P [] ws l a b = b
renew-wires P (d ∷ ds) [] l a b = b
renew-wires P (None ∷ ds) (w ∷ ws) l a b = renew-wires P ds ws l a.1 b
renew-wires P (Some x ∷ ds) (w ∷ ws) l a b = set-wires P x w (renew ds ws l) a.0 (renew-wires P ds ws l a.1 b)

-- an own input, or a literal where there is none
pub own-at-from : (env : List Wire) (j : ℕ) (ts : List wired.Carried) (x : ℕ) → FromNames env (wire_at (ports 0 j ts) x)
own-at-from env j [] x = tt
own-at-from env j (t ∷ ts) zero = tt
own-at-from env j (t ∷ ts) (suc x) = own-at-from env (suc j) ts x

pub own-all-from : (env : List Wire) (j : ℕ) (ts : List wired.Carried) (places : List ℕ) → AllWires (FromNames env) (map (wire_at (ports 0 j ts)) places)
own-all-from env j ts [] = tt
own-all-from env j ts (x ∷ places) = (own-at-from env j ts x, own-all-from env j ts places)

pub is-one : (n : ℕ) → nat_eq n 1 ≡ true → n ≡ 1
is-one n e = eqb_yes (subst T (sym e) tt)

pub and-both : (a b : Bool) → (a && b) ≡ true → (a ≡ true) × (b ≡ true)
and-both true b e = (refl, e)
and-both false b e = absurd cc

-- ---- types of wires

module _ (forms : List Form) (spellings : List (List ℕ)) where
  pub wires-drop : (γ δ : List Ty) (env ws : List Wire) → WiresOf forms spellings γ env → WiresOf forms spellings (γ ++ δ) ws → WiresOf forms spellings δ (drop (length env) ws)
  wires-drop [] δ [] ws h w = w
  wires-drop [] δ (v ∷ env) ws h w = absurd h
  wires-drop (t ∷ γ) δ [] ws h w = absurd h
  wires-drop (t ∷ γ) δ (v ∷ env) [] h w = absurd w
  wires-drop (t ∷ γ) δ (v ∷ env) (x ∷ ws) h w = wires-drop γ δ env ws h.1 w.1

  pub wires-take : (γ δ : List Ty) (env ws : List Wire) → WiresOf forms spellings γ env → WiresOf forms spellings (γ ++ δ) ws → WiresOf forms spellings γ (take_up (length env) ws)
  wires-take [] δ [] ws h w = tt
  wires-take [] δ (v ∷ env) ws h w = absurd h
  wires-take (t ∷ γ) δ [] ws h w = absurd h
  wires-take (t ∷ γ) δ (v ∷ env) [] h w = absurd w
  wires-take (t ∷ γ) δ (v ∷ env) (x ∷ ws) h w = (w.0, wires-take γ δ env ws h.1 w.1)

  pub own-wired : (j : ℕ) (γ : List Ty) (ws : List Wire) → WiresOf forms spellings γ ws → WiresOf forms spellings γ (ports 0 j (types ws))
  own-wired j [] [] h = tt
  own-wired j [] (w ∷ ws) h = absurd h
  own-wired j (t ∷ γ) [] h = absurd h
  own-wired j (t ∷ γ) (w ∷ ws) h = (h.0, own-wired (suc j) γ ws h.1)

  wires-set : (loop : List Ty) (l : List Wire) (x : ℕ) (t : Ty) (w : Wire) → slice_get loop x ≡ Some t → HasType forms spellings w.ty t → WiresOf forms spellings loop l → WiresOf forms spellings loop (slice_set l x w)
  wires-set [] l x t w e h a = absurd cc
  wires-set (r ∷ loop) [] x t w e h a = absurd a
  wires-set (r ∷ loop) (y ∷ l) zero t w e h a = (subst (HasType forms spellings w.ty) (same e) h, a.1)
    where
      same : Some r ≡ Some t → t ≡ r
      same e = cc
  wires-set (r ∷ loop) (y ∷ l) (suc x) t w e h a = (a.0, wires-set loop l x t w e h a.1)

  pub wires-renew : (loop : List Ty) (rs : List (Option ℕ)) (later : List Ty) → Renews loop rs later → (ws l : List Wire) → WiresOf forms spellings later ws → WiresOf forms spellings loop l → WiresOf forms spellings loop (renew rs ws l)
  wires-renew loop [] [] r ws l h a = a
  wires-renew loop [] (t ∷ later) r ws l h a = absurd r
  wires-renew loop (None ∷ rs) [] r ws l h a = absurd r
  wires-renew loop (Some x ∷ rs) [] r ws l h a = absurd r
  wires-renew loop (None ∷ rs) (t ∷ later) r [] l h a = absurd h
  wires-renew loop (Some x ∷ rs) (t ∷ later) r [] l h a = absurd h
  wires-renew loop (None ∷ rs) (t ∷ later) r (w ∷ ws) l h a = wires-renew loop rs later r ws l h.1 a
  wires-renew loop (Some x ∷ rs) (t ∷ later) r (w ∷ ws) l h a = wires-set loop (renew rs ws l) x t w r.0 h.0 (wires-renew loop rs later r.1 ws l h.1 a)

module _ (u : Network) (number : ℕ → ℕ) (shape : Telling) where
  pub carry-drop : (s : Site) (n : ℕ) (ws : List Wire) (vs : List Val) → AllCarry u number shape s ws vs → AllCarry u number shape s (drop n ws) (drop n vs)
  carry-drop s zero ws vs a = a
  carry-drop s (suc n) [] [] a = tt
  carry-drop s (suc n) (w ∷ ws) (v ∷ vs) a = carry-drop s n ws vs a.1
  carry-drop s (suc n) [] (v ∷ vs) a = absurd a
  carry-drop s (suc n) (w ∷ ws) [] a = absurd a

  -- the names around, where they stand before the loop names
  pub carry-take : (s : Site) (ws : List Wire) (names l : List Val) → AllCarry u number shape s ws (names ++ l) → AllCarry u number shape s (take_up (length names) ws) names
  carry-take s [] [] l a = tt
  carry-take s (w ∷ ws) [] l a = tt
  carry-take s [] (v ∷ names) l a = absurd a
  carry-take s (w ∷ ws) (v ∷ names) l a = (a.0, carry-take s ws names l a.1)

  carry-set : (s : Site) (x : ℕ) (w : Wire) (v : Val) (ws : List Wire) (vs : List Val) → AllCarry u number shape s (w ∷ []) (v ∷ []) → AllCarry u number shape s ws vs → AllCarry u number shape s (slice_set ws x w) (slice_set vs x v)
  carry-set s x w v [] [] a b = tt
  carry-set s zero w v (y ∷ ws) (z ∷ vs) a b = (a.0, b.1)
  carry-set s (suc x) w v (y ∷ ws) (z ∷ vs) a b = (b.0, carry-set s x w v ws vs a b.1)
  carry-set s x w v [] (z ∷ vs) a b = absurd b
  carry-set s x w v (y ∷ ws) [] a b = absurd b

  -- a name that no turn renews keeps its wire and its value
  pub carry-renew : (s : Site) (ds : List (Option ℕ)) (ws : List Wire) (vs : List Val) (ls : List Wire) (l : List Val) → AllCarry u number shape s ws vs → AllCarry u number shape s ls l
      → AllCarry u number shape s (renew ds ws ls) (source.renew ds vs l)
  carry-renew s [] ws vs ls l a b = b
  carry-renew s (d ∷ ds) [] [] ls l a b = b
  carry-renew s (None ∷ ds) (w ∷ ws) (v ∷ vs) ls l a b = carry-renew s ds ws vs ls l a.1 b
  carry-renew s (Some x ∷ ds) (w ∷ ws) (v ∷ vs) ls l a b = carry-set s x w v (renew ds ws ls) (source.renew ds vs l) (a.0, tt) (carry-renew s ds ws vs ls l a.1 b)
  carry-renew s (d ∷ ds) [] (v ∷ vs) ls l a b = absurd a
  carry-renew s (d ∷ ds) (w ∷ ws) [] ls l a b = absurd a

  -- the first of the own inputs, where more stand behind them
  pub own-first : (s : Site) (j : ℕ) (ts us : List wired.Carried) (cs ds : List Carried) → length ts ≡ length cs → AllCarried u number shape s (ports 0 j (ts ++ us)) (cs ++ ds) → AllCarried u number shape s (ports 0 j ts) cs
  own-first s j [] us [] ds l a = tt
  own-first s j [] us (c ∷ cs) ds l a = absurd (omega (arith, l))
  own-first s j (t ∷ ts) us [] ds l a = absurd (omega (arith, l))
  own-first s j (t ∷ ts) us (c ∷ cs) ds l a = (a.0, own-first s (suc j) ts us cs ds (omega (arith, l)) a.1)

module _ (u : Network) (number : ℕ → ℕ) (shape : Telling) (forms : List Form) (spellings : List (List ℕ)) (hs : List Header) (p : List Function) (cover : Coverage) (loop : Option ℕ → Option ℕ) where
  abbrev EachD : List Ty → List Phrase → List Means → Type 0
  EachD γ gs ks = EachDrawn u number shape forms spellings hs p cover γ gs ks

  abbrev EachO : List Ty → List Phrase → List Means → List ℕ → Type 0
  EachO γ gs ks cs = EachOf u number shape forms spellings hs p cover γ gs ks cs

  -- ---- one after the other, with the values of both

  pub listed : (s : Site) (k q : ℕ) (γ : List Ty) (env : List Wire) (names vs ws : List Val) (g : Lowers) (gs : List Lowers) (i j : ℕ) → WiresOf forms spellings γ env → AllCarry u number shape s env names → Placed u number shape s k q (all_lowered (g ∷ gs) env k q)
      → Draws u number shape forms spellings γ g names vs i → Draws u number shape forms spellings γ (all_lowered gs) names ws j → Done u number shape s k (all_lowered (g ∷ gs) env k q) (vs ++ ws) (i + j)
  listed s k q γ env names vs ws g gs i j we c pl dg dgs =
      let m = g env k q in
      let n = all_lowered gs env (k + length m.nodes) (q + length m.graphs) in
      let l : Lowered = only (m.values ++ n.values) (k + length m.nodes + length n.nodes) (q + length m.graphs + length n.graphs) in
      let z = dg s k q env we c (placed-left u number shape s k q m (joined n l) pl) in
      let pl' = placed-right u number shape s k q m (joined n l) pl in
      let w = dgs s (k + length m.nodes) (q + length m.graphs) env we c (placed-left u number shape s (k + length m.nodes) (q + length m.graphs) n l pl') in
      let t = done-only u number shape s (k + length m.nodes + length n.nodes) l (vs ++ ws) refl (carry-both u number shape s m.values vs n.values ws z.held w.held) in
      done-more u number shape s k (joined m (joined n l)) (vs ++ ws) (i + (j + 0)) (i + j) (done-both u number shape s k m (joined n l) vs (vs ++ ws) i (j + 0) z (done-both u number shape s (k + length m.nodes) n l ws (vs ++ ws) j 0 w t)) (omega arith)

  -- ---- what is collected besides

  pub extras-free : (γ : List Ty) (bs : List Bool) (gs : List Phrase) (ks : List Means) (cs : List ℕ) → EachD γ gs ks → EachO γ gs ks cs → all_one cs ≡ true → Free (all_lowered (extras loop bs gs))
  extras-free γ bs [] ks cs d o h env k q = tt
  extras-free γ [] (g ∷ gs) ks cs d o h env k q = tt
  extras-free γ (b ∷ bs) (g ∷ gs) [] cs d o h env k q = absurd d
  extras-free γ (b ∷ bs) (g ∷ gs) (m ∷ ks) [] d o h env k q = absurd o
  extras-free γ (true ∷ bs) (g ∷ gs) (m ∷ ks) (c ∷ cs) d o h env k q =
      let one = and-both (nat_eq c 1) (all_one cs) h in
      let t = o.0.0 in
      let a = (not-drawn u number shape forms spellings γ t.0 g.lowers m d.0 t.1 (t.2 ∙ is-one c one.0)).free in
      cons-free (with_not g.lowers) (extras loop bs gs) a (extras-free γ bs gs ks cs d.1 o.1 one.1) env k q
    where
      cons-free : (f : Lowers) (fs : List Lowers) → Free f → Free (all_lowered fs) → Free (all_lowered (f ∷ fs))
      cons-free f fs a b env k q =
          let m = f env k q in
          let n = all_lowered fs env (k + length m.nodes) (q + length m.graphs) in
          let x = a env k q in
          let y = b env (k + length m.nodes) (q + length m.graphs) in
          let l : Lowered = only (m.values ++ n.values) (k + length m.nodes + length n.nodes) (q + length m.graphs + length n.graphs) in
          from-both env m (joined n l) x (from-both env n l y (both-wires (FromNames env) m.values n.values (values-from env m x) (values-from env n y)))
  extras-free γ (false ∷ bs) (g ∷ gs) (m ∷ ks) (c ∷ cs) d o h env k q =
      let one = and-both (nat_eq c 1) (all_one cs) h in
      by (loop g.name) (extras-free γ bs gs ks cs d.1 o.1 one.1) env k q
    where
      cons-free : (f : Lowers) (fs : List Lowers) → Free f → Free (all_lowered fs) → Free (all_lowered (f ∷ fs))
      cons-free f fs a b env k q =
          let m = f env k q in
          let n = all_lowered fs env (k + length m.nodes) (q + length m.graphs) in
          let x = a env k q in
          let y = b env (k + length m.nodes) (q + length m.graphs) in
          let l : Lowered = only (m.values ++ n.values) (k + length m.nodes + length n.nodes) (q + length m.graphs + length n.graphs) in
          from-both env m (joined n l) x (from-both env n l y (both-wires (FromNames env) m.values n.values (values-from env m x) (values-from env n y)))

      by : (z : Option ℕ) → Free (all_lowered (extras loop bs gs)) → Free (all_lowered (extra z g.lowers ++ extras loop bs gs))
      by None rest = cons-free g.lowers (extras loop bs gs) d.0.free rest
      by (Some x) rest = rest

  -- where the clauses have a row
  pub record ExtrasRun (γ : List Ty) (gs : List Lowers) (names vs : List Val) (steps : ℕ) : Type 0 where
    pub limit : ℕ
    pub bound : limit ≤ 8 * steps
    pub draws : Draws u number shape forms spellings γ (all_lowered gs) names vs limit

  pub extras-run : (γ : List Ty) (bs : List Bool) (gs : List Phrase) (ks : List Means) (cs : List ℕ) → EachD γ gs ks → EachO γ gs ks cs → all_one cs ≡ true
      → (names row : List Val) (i : ℕ) → AreOf γ names → all_of ks names ≡ Some (row, i) → ExtrasRun γ (extras loop bs gs) names (besides_of loop bs gs row) i
  extras-run γ bs [] ks cs d o h names row i n e = record { limit = 0; bound = omega arith; draws = λ s k q env we a pl. done-only u number shape s k (all_lowered [] env k q) [] refl tt }
  extras-run γ [] (g ∷ gs) ks cs d o h names row i n e = record { limit = 0; bound = omega arith; draws = λ s k q env we a pl. done-only u number shape s k (all_lowered [] env k q) [] refl tt }
  extras-run γ (b ∷ bs) (g ∷ gs) [] cs d o h names row i n e = absurd d
  extras-run γ (b ∷ bs) (g ∷ gs) (m ∷ ks) [] d o h names row i n e = absurd o
  extras-run γ (b ∷ bs) (g ∷ gs) (m ∷ ks) (c ∷ cs) d o h names row i n e =
      let one = and-both (nat_eq c 1) (all_one cs) h in
      let t = o.0.0 in
      let l : length t.0 ≡ 1 = t.2 ∙ is-one c one.0 in
      let x = then-some (m names) (λ vs. andthen (all_of ks names) (λ ws. given (vs ++ ws))) row i e in
      let y = then-some (all_of ks names) (λ ws. given (x.mid ++ ws)) row x.k x.second in
      let z = given-is (x.mid ++ y.mid) row y.k y.second in
      let v = single t.0 x.mid l (t.1 names x.mid x.j n x.first) in
      let rest = extras-run γ bs gs ks cs d.1 o.1 one.1 names y.mid y.j n y.first in
      let values : v.0 ∷ y.mid ≡ row = sym (ap (λ w. w ++ y.mid) v.1) ∙ z.0 in
      subst (λ row. ExtrasRun γ (extras loop (b ∷ bs) (g ∷ gs)) names (besides_of loop (b ∷ bs) (g ∷ gs) row) i) values
      (by b t.0 t.1 l v.0 x.j (x.first ∙ ap (λ w. Some (w, x.j)) v.1) y.mid y.j (omega (arith, x.sum, y.sum, z.1)) rest)
    where
      by : (b : Bool) (tys : List Ty) → Typed γ m tys → length tys ≡ 1 → (v : Val) (j : ℕ) → m names ≡ Some (v ∷ [], j) → (ws : List Val) (k : ℕ) → j + k ≤ i → ExtrasRun γ (extras loop bs gs) names (besides_of loop bs gs ws) k
          → ExtrasRun γ (extras loop (b ∷ bs) (g ∷ gs)) names (besides_of loop (b ∷ bs) (g ∷ gs) (v ∷ ws)) i
      by true tys t l v j f ws k le rest =
          let nd = not-drawn u number shape forms spellings γ tys g.lowers m d.0 t l in
          let r = nd.runs names (op_value (operation.Unary unary.Not) (v ∷ []) ∷ []) (j + 0) n (ap (λ r. andthen r (λ vs. given (nots vs))) f) in
          record {
            limit = r.limit + rest.limit;
            bound = omega (arith, r.bound, rest.bound, le);
            draws = λ s k q env we a pl. listed s k q γ env names (op_value (operation.Unary unary.Not) (v ∷ []) ∷ []) (besides_of loop bs gs ws) (with_not g.lowers) (extras loop bs gs) r.limit rest.limit we a pl r.draws rest.draws;
          }
      by false tys t l v j f ws k le rest = plain (loop g.name)
        where
          plain : (z : Option ℕ) → ExtrasRun γ (extra z g.lowers ++ extras loop bs gs) names (beside z v (besides_of loop bs gs ws)) i
          plain None =
              let r = d.0.runs names (v ∷ []) j n f in
              record {
                limit = r.limit + rest.limit;
                bound = omega (arith, r.bound, rest.bound, le);
                draws = λ s k q env we a pl. listed s k q γ env names (v ∷ []) (besides_of loop bs gs ws) g.lowers (extras loop bs gs) r.limit rest.limit we a pl r.draws rest.draws;
              }
          plain (Some x) = record { limit = rest.limit; bound = omega (arith, rest.bound, le); draws = rest.draws }

  -- as many values as there are phrases
  pub extras-wide : (γ : List Ty) (bs : List Bool) (gs : List Phrase) (ks : List Means) (cs : List ℕ) → EachO γ gs ks cs → all_one cs ≡ true → Wide (length (extras loop bs gs)) (all_lowered (extras loop bs gs))
  extras-wide γ bs [] ks cs o h env n q = refl
  extras-wide γ [] (g ∷ gs) ks cs o h env n q = refl
  extras-wide γ (b ∷ bs) (g ∷ gs) [] cs o h env n q = absurd o
  extras-wide γ (b ∷ bs) (g ∷ gs) (m ∷ ks) [] o h env n q = absurd o
  extras-wide γ (true ∷ bs) (g ∷ gs) (m ∷ ks) (c ∷ cs) o h env n q =
      let one = and-both (nat_eq c 1) (all_one cs) h in
      ap suc (extras-wide γ bs gs ks cs o.1 one.1 env _ _)
  extras-wide γ (false ∷ bs) (g ∷ gs) (m ∷ ks) (c ∷ cs) o h env n q =
      let one = and-both (nat_eq c 1) (all_one cs) h in
      by (loop g.name) (λ n q. extras-wide γ bs gs ks cs o.1 one.1 env n q)
    where
      by : (z : Option ℕ) → ((n q : ℕ) → length (all_lowered (extras loop bs gs) env n q).values ≡ length (extras loop bs gs)) → length (all_lowered (extra z g.lowers ++ extras loop bs gs) env n q).values ≡ length (extra z g.lowers ++ extras loop bs gs)
      by None rest =
          let one = and-both (nat_eq c 1) (all_one cs) h in
          let a = g.lowers env n q in
          let w : length a.values ≡ 1 = o.0.1 env n q ∙ is-one c one.0 in
          let r = rest (n + length a.nodes) (q + length a.graphs) in
          let b = all_lowered (extras loop bs gs) env (n + length a.nodes) (q + length a.graphs) in
          length-append a.values b.values ∙ omega (arith, w, r)
      by (Some x) rest = rest n q
