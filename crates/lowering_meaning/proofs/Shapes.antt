-- The shapes of the nodes of a ready unit of a program, by the types of the program.
use Rattle.std.proofs.Common.{◌≡◌, ℕ, List, [], ◌∷◌, sym, ap, ◌∙◌}
use Rattle.flow_value.specs.declared.ty.Ty.{Ty}
use Rattle.flow_value.specs.declared.ty.Ty.TheVariants as ty
use Rattle.flow_value.specs.declared.ty.Ty.TheViews.{out-Ty}
use Rattle.if1_graph.specs.declared.graph.Unit1.{Unit1}
use Rattle.if1_graph.specs.declared.op.Simple.TheVariants as simple
use Rattle.if1_graph.specs.Ready.{IsReady}
use Rattle.loop_folds.specs.declared.folding.Folding.{Folding}
use Rattle.typed_tree.specs.declared.expr.ClauseForm.{ClauseForm}
use Rattle.typed_tree.specs.declared.program.Program.{Program}
use Rattle.typed_tree.specs.Types.{Member, IsNumber, AreNumbers}
use Rattle.typed_tree.specs.Types as number
use Rattle.typed_values.specs.Fitting.{Makes, AreMade}
use Rattle.typed_values.specs.Fitting as is
use Rattle.sisal_tree.specs.declared.expr.Direction.{Direction}
use Rattle.graph_meaning.specs.NodeValues.{gathering, catenation}
use Rattle.graph_meaning.specs.NodeValues as shapes
use Rattle.graph_meaning.specs.Demand.{Network}
use Rattle.graph_meaning.specs.Networks.{network}
use Rattle.lowering.specs.declared.feed.Carried.TheVariants.{One}
use Rattle.lowering.specs.Loops.{grouping_of}
use Rattle.lowering.specs.Programs.{number_of}
use Rattle.lowered_units.specs.Fitting.{IsFitting}
use Rattle.lowered_units.specs.Units.{IsTranslated}
use Rattle.lowered_units.proofs.BuiltTrees.{out-bool, out-char, out-int, out-null, out-array, out-stream, out-record, out-union}
use Rattle.lowered_units.proofs.Nested.{AreNested}
use Rattle.lowering_meaning.proofs.Told.{Telling}
use Rattle.lowering_meaning.proofs.Sites.{ShapeOf}
use Rattle.lowering_meaning.proofs.ReturnForms.{FoldShaped, AreShaped}
use Rattle.lowering_meaning.proofs.Showings.{form_shows, carried_shows, type_shows, stream_by, union_by}
use Rattle.lowering_meaning.proofs.Shaped.{telling, row-told}

module _ (p : Program) (u : Unit1) (fit : IsFitting p) (t : IsTranslated p u) (nests : AreNested u) (ready : IsReady u) where
  abbrev N : Network
  N = network u

  abbrev num : ℕ → ℕ
  num = number_of p

  abbrev S : Telling
  S = telling p u

  -- the number of a type shows what the type is
  number-shows : (n : ℕ) (a : Ty) → IsNumber p.types p.names n a → carried_shows p.types (One n) ≡ type_shows (out-Ty a)
  number-shows n _ (number.boolean e) = ap form_shows e ∙ sym (ap type_shows out-bool)
  number-shows n _ (number.character e) = ap form_shows e ∙ sym (ap type_shows out-char)
  number-shows n _ (number.integer e) = ap form_shows e ∙ sym (ap type_shows out-int)
  number-shows n _ (number.null e) = ap form_shows e ∙ sym (ap type_shows out-null)
  number-shows n _ (number.array {t = a} e h) = ap form_shows e ∙ sym (ap type_shows (out-array a))
  number-shows n _ (number.stream {t = a} e h) = ap form_shows e ∙ sym (ap type_shows (out-stream a))
  number-shows n _ (number.a_record {fs = fs} e h) = ap form_shows e ∙ sym (ap type_shows (out-record fs))
  number-shows n _ (number.a_union {fs = fs} e h) = ap form_shows e ∙ sym (ap type_shows (out-union fs))

  pub arrays-shaped : (n : ℕ) (a : Ty) → IsNumber p.types p.names n (ty.Arr a) → ShapeOf N num S simple.ABuild n shapes.Plain
  arrays-shaped n a h g k s = (row-told p u fit t nests ready g k (One n) s).arrays ∙ ap stream_by (number-shows n (ty.Arr a) h ∙ ap type_shows (out-array a))

  pub streams-shaped : (n : ℕ) (a : Ty) → IsNumber p.types p.names n (ty.Stream a) → ShapeOf N num S simple.ABuild n shapes.Stream
  streams-shaped n a h g k s = (row-told p u fit t nests ready g k (One n) s).arrays ∙ ap stream_by (number-shows n (ty.Stream a) h ∙ ap type_shows (out-stream a))

  pub records-shaped : (n : ℕ) (ms : List Member) → IsNumber p.types p.names n (ty.Rec ms) → ShapeOf N num S simple.RBuild n shapes.Plain
  records-shaped n ms h g k s = (row-told p u fit t nests ready g k (One n) s).records ∙ ap union_by (number-shows n (ty.Rec ms) h ∙ ap type_shows (out-record ms))

  pub unions-shaped : (n : ℕ) (ms : List Member) → IsNumber p.types p.names n (ty.Uni ms) → ShapeOf N num S simple.RBuild n shapes.Union
  unions-shaped n ms h g k s = (row-told p u fit t nests ready g k (One n) s).records ∙ ap union_by (number-shows n (ty.Uni ms) h ∙ ap type_shows (out-union ms))

  folding-shaped : (n : ℕ) (f : Folding) (d : Direction) (a b : Ty) → Makes f a b → IsNumber p.types p.names n b → FoldShaped N num S f d n
  folding-shaped n _ d _ _ (is.makes_array a) h g k s = ap gathering ((row-told p u fit t nests ready g k (One n) s).gathers ∙ ap stream_by (number-shows n (ty.Arr a) h ∙ ap type_shows (out-array a)))
  folding-shaped n _ d _ _ (is.makes_stream a) h g k s = ap gathering ((row-told p u fit t nests ready g k (One n) s).gathers ∙ ap stream_by (number-shows n (ty.Stream a) h ∙ ap type_shows (out-stream a)))
  folding-shaped n _ d _ _ (is.makes_last a) h g k s = tt
  folding-shaped n _ d _ _ is.makes_sum h g k s = tt
  folding-shaped n _ d _ _ is.makes_product h g k s = tt
  folding-shaped n _ d _ _ is.makes_least h g k s = tt
  folding-shaped n _ d _ _ is.makes_greatest h g k s = tt
  folding-shaped n _ d _ _ (is.makes_arrays a) h g k s =
      ap catenation ((row-told p u fit t nests ready g k (One n) s).reduces (grouping_of d) ∙ ap stream_by (number-shows n (ty.Arr a) h ∙ ap type_shows (out-array a)))
  folding-shaped n _ d _ _ (is.makes_streams a) h g k s =
      ap catenation ((row-told p u fit t nests ready g k (One n) s).reduces (grouping_of d) ∙ ap stream_by (number-shows n (ty.Stream a) h ∙ ap type_shows (out-stream a)))

  pub clauses-shaped : (cs : List ClauseForm) (row made : List Ty) (ns : List ℕ) → AreMade cs row made → AreNumbers p.types p.names ns made → AreShaped N num S cs ns
  clauses-shaped _ _ _ ns is.no_clause h = tt
  clauses-shaped _ _ _ (n ∷ ns) (is.unmasked {c = c} {cs = cs} {a = a} {b = b} {tys = tys} {made = made} e m k) h = (folding-shaped n c.folding c.direction a b m h.0, clauses-shaped cs tys made ns k h.1)
  clauses-shaped _ _ _ (n ∷ ns) (is.masked {c = c} {cs = cs} {a = a} {b = b} {tys = tys} {made = made} e m k) h = (folding-shaped n c.folding c.direction a b m h.0, clauses-shaped cs tys made ns k h.1)
  clauses-shaped _ _ _ [] (is.unmasked e m k) h = absurd h
  clauses-shaped _ _ _ [] (is.masked e m k) h = absurd h
