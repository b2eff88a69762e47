-- Where an `if` fires, the source gives something.
use Rattle.std.proofs.Common.{◌≡◌, ℕ, suc, ◌+◌, true, false, List, [], ◌∷◌, ◌++◌, map, length, ◌⊎◌, inl, inr, sym, ap, ◌∙◌, subst, arith, append-nil}
use Rattle.flow_value.specs.declared.value.Val.{Val}
use Rattle.flow_value.specs.declared.operation.Scalar1.TheVariants as unary
use Rattle.flow_value.specs.declared.ty.Ty.{Ty}
use Rattle.flow_value.specs.declared.ty.Ty.TheVariants as ty
use Rattle.value_ops.specs.Operations.{op_value}
use Rattle.value_ops.specs.declared.operation.Operation.TheVariants as operation
use Rattle.if1_graph.specs.declared.op.Compound.TheVariants as compound
use Rattle.type_table.specs.declared.form.Form.{Form}
use Rattle.typed_rows.specs.Rows.{AreOf}
use Rattle.typed_rows.proofs.ValueKinds.{BoolKind, a_bool, no_bool}
use Rattle.meaning.specs.Timed.{andthen}
use Rattle.meaning.specs.Words.{failed, test_of}
use Rattle.meaning.specs.Meaning.{Gives as Means, chosen}
use Rattle.graph_meaning.specs.Carried.{Carried, Value}
use Rattle.lowering_meaning.proofs.Told.{Telling}
use Rattle.graph_meaning.specs.Forms as form
use Rattle.graph_meaning.specs.Demand.{Network}
use Rattle.graph_meaning.specs.Plain.{NodesFire, LaterFires}
use Rattle.graph_meaning.proofs.PlainValues.{carried-once}
use Rattle.lowering.specs.declared.feed.Wire.{Wire}
use Rattle.lowering.specs.Feeds.{into}
use Rattle.lowering.specs.Graphs.{size}
use Rattle.lowering.specs.Operations.{Lowers, all_lowered}
use Rattle.lowering_meaning.proofs.Timed.{Yield, yield-given, yield-then, yield-same}
use Rattle.lowering_meaning.proofs.Sites.{Site, AllCarry, Placed, placed-left, firings-first}
use Rattle.lowering_meaning.proofs.Inverse.{later-is}
use Rattle.lowering_meaning.proofs.Forms.{WiresOf, wires-into, Free, Draws}
use Rattle.lowering_meaning.proofs.Parts.{at_part, part-fires, the_form, whole-fires}
use Rattle.lowering_meaning.proofs.ReadForms.{Read, DrawnAll, TypedAll}
use Rattle.lowering_meaning.proofs.Ifs as ifs
use Rattle.lowering_meaning.proofs.Ifs.{the_if, OneTest, one-test, bool-says, error-says}

pub same-depth : (l n : ℕ) → ((false ≡ true) × (suc l ≡ n)) ⊎ ((false ≡ false) × (l ≡ n)) → l ≡ n
same-depth l n (inl x) = absurd cc
same-depth l n (inr x) = x.1

module _ (ts us vs : List Lowers) (ns : List ℕ) (u : Network) (number : ℕ → ℕ) (shape : Telling) (forms : List Form) (spellings : List (List ℕ)) where
  module _ (m : ℕ) (γ : List Ty) (ht hu hv : ℕ → Means) (i j k : ℕ) (dt : DrawnAll u number shape forms spellings γ i 0 (all_lowered ts) ht) (tt' : TypedAll u number shape forms spellings γ ht (ty.Bool ∷ []))
      (rt : Read u number shape forms spellings m γ (all_lowered ts) ht) (fu : Free (all_lowered us)) (ru : Read u number shape forms spellings m γ (all_lowered us) hu) (fv : Free (all_lowered vs)) (rv : Read u number shape forms spellings m γ (all_lowered vs) hv) where
    abbrev ft : Free (all_lowered ts)
    ft = (dt 0).free

    module _ (names : List Val) (o : AreOf γ names) (s : Site) (n q : ℕ) (env : List Wire) (e : WiresOf forms spellings γ env) (a : AllCarry u number shape s env names) (pl : Placed u number shape s n q (the_if ts us vs ns env n q)) where
      abbrev ins : List Carried
      ins = ifs.ins ts us vs ns u number shape forms spellings γ s n q env names e a pl ft fu fv

      abbrev g1 : ℕ
      g1 = q + size (ifs.m0 ts us vs ns q env)

      abbrev g2 : ℕ
      g2 = g1 + size (ifs.m1 ts us vs ns q env)

      abbrev F : form.Form
      F = the_form u number shape compound.Select q (ifs.graphs ts us vs ns q env) (ifs.arms ts us vs ns q env) 0 ns

      fires-as : (g l c : ℕ) → l ≡ m → NodesFire u l g ins (u g).nodes c → NodesFire u m g (ins ++ []) (u g).nodes c
      fires-as g l c le f = subst (λ xs. NodesFire u m g xs (u g).nodes c) (sym (append-nil ins)) (subst (λ l. NodesFire u l g ins (u g).nodes c) le f)

      test-read : (l c : ℕ) → l ≡ m → NodesFire u l q ins (u q).nodes c → Yield (λ j. ht j names)
      test-read l c le f =
          let p = ifs.test-part-is ts us vs ns u number shape forms spellings γ s n q env names e a pl ft fu fv in
          let x = ifs.tested ts us vs ns q env in
          let y = ifs.numbered ts us vs ns q env in
          let t = at_part u number shape q (ifs.ks ts us vs ns u number shape forms spellings γ s n q env names e a pl ft fu fv) (ifs.here ts us vs ns u number shape forms spellings γ s n q env names e a pl ft fu fv).values [] in
          let g = part-fires u number shape (ifs.m0 ts us vs ns q env) m c p (fires-as q l c le f) in
          let h = firings-first u number shape m t 0 x y c g in
          rt names o t 0 (suc q) (map into env) h.0 (wires-into forms spellings γ env e) p.carry (placed-left u number shape t 0 (suc q) x y p.placed) h.1

      other-read : (l c : ℕ) → l ≡ m → NodesFire u l g1 ins (u g1).nodes c → Yield (λ j. hv j names)
      other-read l c le f =
          let p = ifs.other-part-is ts us vs ns u number shape forms spellings γ s n q env names e a pl ft fu fv in
          let t = at_part u number shape g1 (ifs.ks ts us vs ns u number shape forms spellings γ s n q env names e a pl ft fu fv) (ifs.here ts us vs ns u number shape forms spellings γ s n q env names e a pl ft fu fv).values [] in
          rv names o t 0 (suc g1) (map into env) c (wires-into forms spellings γ env e) p.carry p.placed (part-fires u number shape (ifs.m1 ts us vs ns q env) m c p (fires-as g1 l c le f))

      arm-read : (l c : ℕ) → l ≡ m → NodesFire u l g2 ins (u g2).nodes c → Yield (λ j. hu j names)
      arm-read l c le f =
          let p = ifs.arm-part-is ts us vs ns u number shape forms spellings γ s n q env names e a pl ft fu fv in
          let t = at_part u number shape g2 (ifs.ks ts us vs ns u number shape forms spellings γ s n q env names e a pl ft fu fv) (ifs.here ts us vs ns u number shape forms spellings γ s n q env names e a pl ft fu fv).values [] in
          ru names o t 0 (suc g2) (map into env) c (wires-into forms spellings γ env e) p.carry p.placed (part-fires u number shape (ifs.m2 ts us vs ns q env) m c p (fires-as g2 l c le f))

      abbrev After : Val → ℕ → ℕ → Type 0
      After v l c = LaterFires u l F ins (form.follow F ins form.Selecting (Value (op_value (operation.Unary unary.Int) (v ∷ [])) ∷ [])) c

      after-test : (l c : ℕ) (tv : List Val) (v : Val) → l ≡ m → tv ≡ v ∷ [] → BoolKind v → After v l c → Yield (λ j. chosen (length ns) (test_of tv) (hu j names) (hv j names))
      after-test l c tv _ le is (a_bool true) f =
          let z = later-is u l F ins _ c f in
          yield-same _ _ (λ j. ap (λ t. chosen (length ns) t (hu j names) (hv j names)) (ap test_of is ∙ bool-says true)) (arm-read z.depth z.cost (same-depth z.depth l z.is_less ∙ le) z.fires)
      after-test l c tv _ le is (a_bool false) f =
          let z = later-is u l F ins _ c f in
          yield-same _ _ (λ j. ap (λ t. chosen (length ns) t (hu j names) (hv j names)) (ap test_of is ∙ bool-says false)) (other-read z.depth z.cost (same-depth z.depth l z.is_less ∙ le) z.fires)
      after-test l c tv _ le is (no_bool x) f =
          yield-same _ _ (λ j. ap (λ t. chosen (length ns) t (hu j names) (hv j names)) (ap test_of is ∙ error-says x)) (yield-given (failed (length ns) x))

      selecting : (c : ℕ) → LaterFires u m F ins (form.next_of (form.first F ins)) c → Yield (λ j. andthen (ht j names) (λ tv. chosen (length ns) (test_of tv) (hu j names) (hv j names)))
      selecting c f =
          let z = later-is u m F ins _ c f in
          let l = same-depth z.depth m z.is_less in
          let y = test-read z.depth z.cost l z.fires in
          let given-at = y.from.holds y.from.least (omega arith) in
          let one = one-test y.value (tt' y.from.least names y.value y.steps o given-at) in
          let w = (dt y.from.least).runs names y.value y.steps o given-at in
          let g = ifs.selects ts us vs ns u number shape forms spellings γ s n q env names e a pl ft fu fv one.value w.limit (subst (λ x. Draws u number shape forms spellings γ (all_lowered ts) names x w.limit) one.is w.draws) in
          let r = carried-once u q ins _ z.results (Value (op_value (operation.Unary unary.Int) (one.value ∷ [])) ∷ []) z.depth g.means.least z.means (g.means.holds g.means.least (omega arith)) in
          yield-then _ _ y (after-test z.depth z.rest y.value one.value l one.is one.kind (subst (λ rs. LaterFires u z.depth F ins (form.follow F ins form.Selecting rs) z.rest) r z.follows))

    pub if-read : Read u number shape forms spellings m γ (the_if ts us vs ns) (λ j names. andthen (ht j names) (λ tv. chosen (length ns) (test_of tv) (hu j names) (hv j names)))
    if-read names o s n q env c e a pl fire =
        let x = whole-fires u number shape s n q compound.Select (ifs.graphs ts us vs ns q env) (ifs.arms ts us vs ns q env) 0 ns (ifs.here ts us vs ns u number shape forms spellings γ s n q env names e a pl ft fu fv) m c fire in
        selecting names o s n q env e a pl x.0 x.1
