-- Where a loop over generators fires, the source gives something.
use Rattle.std.proofs.Common.{◌≡◌, ℕ, suc, true, List, ◌++◌, map, length}
use Rattle.flow_value.specs.declared.ty.Ty.{Ty}
use Rattle.flow_value.specs.declared.ty.Ty.TheVariants as ty
use Rattle.if1_graph.specs.declared.op.Compound.TheVariants as compound
use Rattle.type_table.specs.declared.form.Form.{Form}
use Rattle.typed_tree.specs.declared.expr.Product.{Product}
use Rattle.typed_tree.specs.declared.program.Function.{Function}
use Rattle.typed_tree.specs.Types.{IsNumber}
use Rattle.typed_values.specs.Fitting.{Header}
use Rattle.meaning.specs.Timed.{Timed, plus}
use Rattle.meaning.specs.Sources.{places_of, names_at}
use Rattle.meaning.specs.Meaning.{Gives as Means, all_of, defined, body_of, over}
use Rattle.graph_meaning.specs.Carried.{Value}
use Rattle.lowering_meaning.proofs.Told.{Telling}
use Rattle.graph_meaning.specs.Demand.{Network}
use Rattle.lowering.specs.Feeds.{into}
use Rattle.lowering.specs.Operations.{integer, all_lowered, defs_lowered}
use Rattle.lowering.specs.Loops.{Phrase, clauses_lowered, unless_places}
use Rattle.lowering.specs.Phrases.{each}
use Rattle.loop_columns.specs.Parts.{Yields}
use Rattle.loop_columns.proofs.ForAlls.{for-alls-read}
use Rattle.lowering_meaning.specs.Coverage.{Coverage, total, masks_alone}
use Rattle.lowering_meaning.proofs.Timed.{Yield, yield-plus}
use Rattle.lowering_meaning.proofs.Forms.{of-both, Free}
use Rattle.lowering_meaning.proofs.Parts.{at_part, part-fires, whole-fires}
use Rattle.lowering_meaning.proofs.ReadForms.{Read, nil-read, cons-read, then-read}
use Rattle.lowering_meaning.proofs.Widths.{Wide}
use Rattle.lowering_meaning.proofs.Trees.{each-all}
use Rattle.lowering_meaning.proofs.TreeReads.{EachRead, no_read, a_read, ProductRead}
use Rattle.lowering_meaning.proofs.Nots.{clauses-read, clauses-wide, noted-body-drawn}
use Rattle.lowering_meaning.proofs.Products as loop
use Rattle.lowering_meaning.proofs.Products.{from-mine, from-theirs, the_body, the_loop}

pub yields-mine : {A : Type 0} (a : ℕ → Timed A) → Yield a → Yields a
yields-mine a y = record { value = y.value; steps = y.steps; from = from-mine _ y.from }

pub yield-theirs : {A : Type 0} (a : ℕ → Timed A) → Yields a → Yield a
yield-theirs a y = record { value = y.value; steps = y.steps; from = from-theirs _ y.from }

module _ (u : Network) (number : ℕ → ℕ) (shape : Telling) (forms : List Form) (spellings : List (List ℕ)) (hs : List Header) (p : List Function) (cover : Coverage) where
  -- list phrases, read one after another
  pub each-read-all : (m : ℕ) (γ : List Ty) (gs : List Phrase) (ks : ℕ → List Means) → EachRead u number shape forms spellings hs p cover m γ gs ks → Read u number shape forms spellings m γ (all_lowered (each gs)) (λ j. all_of (ks j))
  each-read-all m γ _ _ no_read = nil-read u number shape forms spellings m γ
  each-read-all m γ _ _ (a_read g gs k ks r rs) = cons-read u number shape forms spellings m γ g.lowers (each gs) k ks r (each-read-all m γ gs ks rs)

  pub product-read : IsNumber forms spellings integer ty.Int → (q : Product) (arity : List ℕ) → masks_alone q.clauses arity ≡ true → ProductRead u number shape forms spellings hs p cover q arity
  product-read int q arity alone γ tys xs δ row made ns bs ds gs kb kd ks goes clauses num eb tb wb dd td wd eg tg og tot m rb rd rg call =
      let bodies = unless_places q.clauses in
      let N : (n : ℕ) → Free (the_body forms spellings q (map each ds) gs ns) = λ n. (noted-body-drawn u number shape forms spellings hs p cover (γ ++ xs) δ bodies (map each ds) (kd n) gs (ks n) arity (dd n) (td n) wd (eg n) (og n) alone).free in
      let width : Wide (total arity) (the_body forms spellings q (map each ds) gs ns) = λ env n i. clauses-wide u number shape forms spellings hs p cover ((γ ++ xs) ++ δ) bodies gs (ks 0) arity (og 0) alone _ _ _ in
      let body : ℕ → Means = λ j. body_of (kd j) (ks j) in
      let read : Read u number shape forms spellings m (γ ++ xs) (the_body forms spellings q (map each ds) gs ns) body =
      then-read u number shape forms spellings m (γ ++ xs) ((γ ++ xs) ++ δ) 0 (defs_lowered (map each ds)) (λ j. defined (kd j)) (λ env ws. all_lowered (clauses_lowered bodies (each gs)) ws) (λ j names. all_of (ks j)) dd td wd rd
      (λ names vs o o2 s n i env ws c e1 e2 x y pl f. clauses-read u number shape forms spellings hs p cover m ((γ ++ xs) ++ δ) bodies gs ks rg vs o2 s n i ws c e2 y pl f) in
      then-read u number shape forms spellings m γ tys (length bs) (all_lowered (each bs)) (λ j. all_of (kb j)) (the_loop forms spellings q (map each ds) gs ns) (λ j names vs. plus (length q.sources) (over q (length ns) (body j) vs (places_of q.sources vs) names))
      (λ n. each-all u number shape forms spellings hs p cover γ bs (kb n) (eb n)) tb wb (each-read-all m γ bs kb rb)
      (λ names vs o ov s k j env ws c ew fw a b pl fire.
      let here = loop.here forms spellings q (map each ds) gs ns u number shape tys xs goes int (N 0) (total arity) width s k j env ws names vs γ ew fw a b ov pl in
      let ins = map Value here.values in
      let g1 = loop.g1 forms spellings q (map each ds) gs ns j env ws in
      let x = whole-fires u number shape s k j compound.ForAll (loop.graphs forms spellings q (map each ds) gs ns j env ws) (loop.arms forms spellings q (map each ds) gs ns j env ws) (length (loop.m1 forms spellings q (map each ds) gs ns j env ws).values) ns here m c fire in
      let y = for-alls-read u j g1 (loop.g2 forms spellings q (map each ds) gs ns j env ws) (length (loop.m1 forms spellings q (map each ds) gs ns j env ws).values) (length ns) m x.0 ins q tys xs vs names body goes ov
      (from-mine _ (loop.generator-gives forms spellings q (map each ds) gs ns u number shape tys xs goes int (N 0) (total arity) width s k j env ws names vs γ ew fw a b ov pl).means)
      (λ i d f.
      let part = loop.body-part forms spellings q (map each ds) gs ns u number shape tys xs goes int (N 0) (total arity) width s k j env ws names vs γ ew fw a b ov pl i in
      let t = at_part u number shape g1 (loop.ks forms spellings q (map each ds) gs ns u number shape tys xs goes int (N 0) (total arity) width s k j env ws names vs γ ew fw a b ov pl) here.values (map Value (names_at q.sources vs i)) in
      yields-mine _ (read (names ++ names_at q.sources vs i) (of-both γ xs names (names_at q.sources vs i) o (loop.names-typed forms spellings q (map each ds) gs ns u number shape tys xs goes int (N 0) (total arity) width s k j env ws names vs γ ew fw a b ov pl i))
      t 0 (suc g1) (map into env ++ loop.own1 forms spellings q (map each ds) gs ns j env ws) d (loop.body-wires forms spellings q (map each ds) gs ns u number shape tys xs goes int (N 0) (total arity) width s k j env ws names vs γ ew fw a b ov pl) (loop.body-names forms spellings q (map each ds) gs ns u number shape tys xs goes int (N 0) (total arity) width s k j env ws names vs γ ew fw a b ov pl i) part.placed
      (part-fires u number shape (loop.m1 forms spellings q (map each ds) gs ns j env ws) m d part f)))
      x.1 in
      yield-plus (length q.sources) _ (yield-theirs _ y))
