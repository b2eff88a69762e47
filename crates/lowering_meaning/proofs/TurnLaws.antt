-- Loops of turns, where each phrase of their clauses has one value: they give what the source gives, and where they fire, the source
-- gives something.
use Rattle.std.proofs.Common.{◌≡◌, ℕ, suc, ◌+◌, true, List, [], ◌∷◌, ◌++◌, length, Option, refl, sym, ap, ◌∙◌, arith, nat_eq}
use Rattle.flow_value.specs.declared.ty.Ty.{Ty}
use Rattle.type_table.specs.declared.form.Form.{Form}
use Rattle.typed_tree.specs.declared.program.Function.{Function}
use Rattle.typed_tree.specs.declared.expr.Turns.{Turns}
use Rattle.typed_tree.specs.declared.expr.ClauseForm.{ClauseForm}
use Rattle.loop_folds.specs.declared.masking.Masking.{Masking}
use Rattle.loop_folds.specs.declared.masking.Masking.TheVariants as masking
use Rattle.typed_values.specs.Fitting.{Header}
use Rattle.meaning.specs.Rows.{span}
use Rattle.meaning.specs.Meaning.{Gives as Means}
use Rattle.lowering_meaning.proofs.Told.{Telling}
use Rattle.graph_meaning.specs.Demand.{Network}
use Rattle.lowering.specs.Operations.{all_lowered}
use Rattle.lowering.specs.Loops.{Phrase, mask_places, unless_places, extras}
use Rattle.loop_columns.specs.Clauses.{spans}
use Rattle.lowering_meaning.specs.Coverage.{Coverage, total, all_one}
use Rattle.lowering_meaning.proofs.Forms.{Free}
use Rattle.lowering_meaning.proofs.Trees.{EachOf, InitialDrawn, each-all, numbers-length}
use Rattle.lowering_meaning.proofs.TreeReads.{InitialRead}
use Rattle.lowering_meaning.proofs.Products.{ShapesAre}
use Rattle.lowering_meaning.proofs.TurnWires.{is-one, and-both, extras-free}
use Rattle.lowering_meaning.proofs.TurnLoops.{AreNamedPhrases, spans-are, initial-drawn}
use Rattle.lowering_meaning.proofs.TurnReads.{node-fires, counted-by, later-read}

one-each : (arity : List ℕ) → all_one arity ≡ true → length arity ≡ total arity
one-each [] h = refl
one-each (n ∷ ns) h =
    let x = and-both (nat_eq n 1) (all_one ns) h in
    let e = is-one n x.0 in
    let r = one-each ns x.1 in
    omega (arith, e, r)

flags-are : (cs : List ClauseForm) → length (unless_places cs) ≡ spans cs
flags-are [] = refl
flags-are (c ∷ cs) = go c.masking (flags-are cs)
  where
    go : (m : Masking) → length (unless_places cs) ≡ spans cs → length (mask_places m ++ unless_places cs) ≡ span m + spans cs
    go masking.All e = omega (arith, e)
    go masking.When e = omega (arith, e)
    go masking.Unless e = omega (arith, e)

module _ (u : Network) (number : ℕ → ℕ) (shape : Telling) (forms : List Form) (spellings : List (List ℕ)) (hs : List Header) (p : List Function) (cover : Coverage) where
  named-phrases : (γ : List Ty) (gs : List Phrase) (ks : List Means) (cs : List ℕ) → EachOf u number shape forms spellings hs p cover γ gs ks cs → AreNamedPhrases gs ks
  named-phrases γ [] [] [] o = tt
  named-phrases γ (g ∷ gs) (k ∷ ks) (c ∷ cs) o = (o.0.2, named-phrases γ gs ks cs o.1)
  named-phrases γ [] (k ∷ ks) cs o = absurd o
  named-phrases γ [] [] (c ∷ cs) o = absurd o
  named-phrases γ (g ∷ gs) [] cs o = absurd o
  named-phrases γ (g ∷ gs) (k ∷ ks) [] o = absurd o

  as-many : (γ : List Ty) (gs : List Phrase) (ks : List Means) (cs : List ℕ) → EachOf u number shape forms spellings hs p cover γ gs ks cs → length gs ≡ length cs
  as-many γ [] [] [] o = refl
  as-many γ (g ∷ gs) (k ∷ ks) (c ∷ cs) o = ap suc (as-many γ gs ks cs o.1)
  as-many γ [] (k ∷ ks) cs o = absurd o
  as-many γ [] [] (c ∷ cs) o = absurd o
  as-many γ (g ∷ gs) [] cs o = absurd o
  as-many γ (g ∷ gs) (k ∷ ks) [] o = absurd o

  pub turns-drawn : ShapesAre u number shape forms spellings hs p cover → (t : Turns) (arity : List ℕ) → all_one arity ≡ true → InitialDrawn u number shape forms spellings hs p cover t arity
  turns-drawn shapes t arity ones γ loop later row results ns fs ts ds gs kf kt kd ks ren am num df tf wf et tt' dd td wd eg tg eo tot n call =
      initial-drawn u number shape forms spellings hs p cover t arity (one-each arity ones ∙ tot ∙ spans-are t.clauses row results am) ones γ loop later row results ns (shapes t.clauses row results ns am num) fs ts ds gs ren am
      (numbers-length forms spellings ns results num) kf kt kd ks df tf wf et tt' dd td wd eg tg eo (named-phrases (γ ++ loop) gs ks arity eo) n

  pub turns-read : ShapesAre u number shape forms spellings hs p cover → (t : Turns) (arity : List ℕ) → all_one arity ≡ true → InitialRead u number shape forms spellings hs p cover t arity
  turns-read shapes t arity ones γ loop later row results ns fs ts ds gs kf kt kd ks ren am num df tf wf et tt' dd td wd eg tg eo tot m rf rt rd rg call names o s k q env c we a pl fire =
      let long = one-each arity ones ∙ tot ∙ spans-are t.clauses row results am in
      let ft = (each-all u number shape forms spellings hs p cover (γ ++ loop) ts (kt 0) (et 0)).free in
      let fe : (lp : Option ℕ → Option ℕ) → Free (all_lowered (extras lp (unless_places t.clauses) gs)) =
      λ lp. extras-free u number shape forms spellings hs p cover lp (γ ++ loop) (unless_places t.clauses) gs (ks 0) arity (eg 0) (eo 0) ones in
      let fl = flags-are t.clauses ∙ sym long ∙ sym (as-many (γ ++ loop) gs (ks 0) arity (eo 0)) in
      let nm : (j : ℕ) → AreNamedPhrases gs (ks j) = λ j. named-phrases (γ ++ loop) gs (ks j) arity (eo j) in
      let x = node-fires u number shape forms spellings hs p cover t arity γ loop later row results ns fs ts ds gs fl kf kt kd ks df tf wf ft dd wd ren fe nm m rf rt rd rg names o s k q env we a pl c fire in
      let cnt = counted-by u number shape forms spellings hs p cover t arity γ loop later row results ns fs ts ds gs fl kf kt kd ks df tf wf ft dd wd ren fe nm m rf rt rd rg names o s k q env we a pl x.0 x.1 in
      later-read u number shape forms spellings hs p cover t arity γ loop later row results ns fs ts ds gs fl kf kt kd ks df tf wf ft dd wd ren fe nm m rf rt rd rg names o s k q env we a pl long ones (shapes t.clauses row results ns am num) am
      (numbers-length forms spellings ns results num) et tt' td eg tg eo cnt x.0 x.1
