-- The types of edges are whole: they are there and hold no reals.
use Rattle.std.proofs.Common.{◌≡◌, ℕ, zero, suc, ◌≤◌, ◌⊎◌, inl, inr, true, false, [], ◌∷◌, length, slice_get, Option, Some, None, refl, sym, ap, subst, ◌∙◌, arith, option_map}
use Rattle.if1_graph.specs.declared.graph.TypeEntry.{TypeEntry}
use Rattle.if1_graph.specs.Formed.{IsWholeType, HasReal, itself, within, IsRealType, is_real, is_basic}
use Rattle.if1_graph.specs.Kinds.{kind_at, basic_at}
use Rattle.typed_tree.specs.declared.program.Program.{Program}
use Rattle.lowering.specs.declared.feed.Carried.{Carried}
use Rattle.lowering.specs.Graphs.{graph_lines}
use Rattle.lowering.specs.Programs.{functions_lowered}
use Rattle.lowering.specs.TooMany.{too_many}
use Rattle.lowering.specs.Types.{Entry, Table, table, label_of}
use Rattle.lowered_units.specs.Fitting.{HaveMembers, IsFitting}
use Rattle.lowered_units.specs.Units.{entries_from}
use Rattle.lowered_units.proofs.Canonical.{as_type, entry-is, no-zero}
use Rattle.lowered_units.proofs.Heads.{In}
use Rattle.lowered_units.proofs.Lined.{line-labelled}
use Rattle.lowered_units.proofs.Tabled.{IsSound, AreSound}
use Rattle.lowered_units.proofs.Typed.{table-well, few-types, is-type}

sound-at : (n : ℕ) (ts : Table) → AreSound n ts → (i : ℕ) (e : Entry) → slice_get ts i ≡ Some e → IsSound n e
sound-at n [] h i e k = absurd cc
sound-at n (t ∷ ts) h zero e k = subst (IsSound n) (same e k) h.0
  where
    same : (e : Entry) → Some t ≡ Some e → t ≡ e
    same e k = cc
sound-at n (t ∷ ts) h (suc i) e k = sound-at n ts h.1 i e k

-- an entry that is sound is no real
real-free : (n : ℕ) (e : Entry) → IsSound n e → is_basic (kind_at e.code) ≡ true → is_real (basic_at e.first) ≡ true → ⊥
real-free n e (inl h) b r = by h.first
  where
    by : (e.first ≡ 0) ⊎ ((e.first ≡ 1) ⊎ ((e.first ≡ 3) ⊎ (e.first ≡ 4))) → ⊥
    by (inl f) = absurd (never (sym r ∙ ap (λ k. is_real (basic_at k)) f))
      where
        never : true ≡ false → ⊥
        never e = cc
    by (inr (inl f)) = absurd (never (sym r ∙ ap (λ k. is_real (basic_at k)) f))
      where
        never : true ≡ false → ⊥
        never e = cc
    by (inr (inr (inl f))) = absurd (never (sym r ∙ ap (λ k. is_real (basic_at k)) f))
      where
        never : true ≡ false → ⊥
        never e = cc
    by (inr (inr (inr f))) = absurd (never (sym r ∙ ap (λ k. is_real (basic_at k)) f))
      where
        never : true ≡ false → ⊥
        never e = cc
real-free n e (inr (inl h)) b r = by h.code
  where
    never : (k : ℕ) → e.code ≡ k → is_basic (kind_at k) ≡ false → ⊥
    never k c s = clash (sym b ∙ (ap (λ k. is_basic (kind_at k)) c ∙ s))
      where
        clash : true ≡ false → ⊥
        clash e = cc

    by : (e.code ≡ 0) ⊎ ((e.code ≡ 4) ⊎ ((e.code ≡ 5) ⊎ ((e.code ≡ 6) ⊎ (e.code ≡ 9)))) → ⊥
    by (inl c) = never 0 c refl
    by (inr (inl c)) = never 4 c refl
    by (inr (inr (inl c))) = never 5 c refl
    by (inr (inr (inr (inl c)))) = never 6 c refl
    by (inr (inr (inr (inr c)))) = never 9 c refl
real-free n e (inr (inr (inl h))) b r = by h.code
  where
    never : (k : ℕ) → e.code ≡ k → is_basic (kind_at k) ≡ false → ⊥
    never k c s = clash (sym b ∙ (ap (λ k. is_basic (kind_at k)) c ∙ s))
      where
        clash : true ≡ false → ⊥
        clash e = cc

    by : (e.code ≡ 2) ⊎ ((e.code ≡ 7) ⊎ (e.code ≡ 8)) → ⊥
    by (inl c) = never 2 c refl
    by (inr (inl c)) = never 7 c refl
    by (inr (inr c)) = never 8 c refl
real-free n e (inr (inr (inr h))) b r = clash (sym b ∙ ap (λ k. is_basic (kind_at k)) h.code)
  where
    clash : true ≡ false → ⊥
    clash e = cc

module _ (p : Program) (fit : IsFitting p) (members : HaveMembers p.types) where
  not-real : (l : ℕ) → IsRealType (entries_from p 1 (table p)) l → ⊥
  not-real zero r = absurd (none (sym (no-zero p 1 (table p) (omega arith)) ∙ r.found))
    where
      none : None ≡ Some r.entry → ⊥
      none e = cc
  not-real (suc l) r = by (slice_get (table p) l) refl (sym (entry-is p (table p) l) ∙ r.found)
    where
      by : (o : Option Entry) → slice_get (table p) l ≡ o → option_map (as_type p (suc l)) o ≡ Some r.entry → ⊥
      by None s e = cc
      by (Some x) s e =
          let same : as_type p (suc l) x ≡ r.entry = some-same (as_type p (suc l) x) r.entry e in
          real-free (length (table p)) x (sound-at (length (table p)) (table p) (table-well p fit members).sound l x s)
          (ap (λ (y : TypeEntry). is_basic (kind_at y.code)) same ∙ r.basic_kind) (ap (λ (y : TypeEntry). is_real (basic_at y.first)) same ∙ r.real_code)
        where
          some-same : (a b : TypeEntry) → Some a ≡ Some b → a ≡ b
          some-same a b e = cc

  no-real : (l : ℕ) → HasReal (entries_from p 1 (table p)) l → ⊥
  no-real l (itself r) = not-real l r
  no-real l (within {m = m} h r) = no-real m r

  pub whole-label : too_many p ≡ None → (l : ℕ) → 1 ≤ l → l ≤ length (table p) → IsWholeType (entries_from p 1 (table p)) l
  whole-label few l one most = ((one, omega (arith, most, few-types p fit members few)), is-type p fit members (table p) l one most, no-real l)

  -- what a line carries has a whole type
  pub whole-line : too_many p ≡ None → (c : Carried) → In c (graph_lines (functions_lowered p)) → IsWholeType (entries_from p 1 (table p)) (label_of p c)
  whole-line few c i = let h = line-labelled p fit members c i in whole-label few (label_of p c) h.0 h.1
