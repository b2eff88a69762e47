-- The labels of the members of a list.
use Rattle.std.proofs.Common.{◌≡◌, ◌≢◌, ℕ, zero, suc, Bool, List, [], ◌∷◌, ◌++◌, Option, Some, None, refl, sym, ap, ◌∙◌, append_assoc}
use Rattle.if1_graph.specs.declared.graph.TypeEntry.{TypeEntry}
use Rattle.if1_graph.specs.declared.kind.TypeKind.{TypeKind}
use Rattle.if1_graph.specs.Tables.{◌>>=◌}
use Rattle.if1_types.specs.Tables.{entry_on}
use Rattle.if1_types.specs.Parameters.{member_labels}

behind : (x : Option (List ℕ)) (done : List ℕ) (m : ℕ) → ((x >>= λ others. Some (m ∷ others)) >>= λ others. Some (done ++ others)) ≡ (x >>= λ others. Some ((done ++ m ∷ []) ++ others))
behind None done m = refl
behind (Some others) done m = ap Some (sym (append_assoc done (m ∷ []) others))

pub one_more : (is : Option TypeKind → Bool) (ts : List TypeEntry) (f : Option (List ℕ)) (left fewer label : ℕ) (e : TypeEntry) (done new : List ℕ) → label ≢ 0 → left ≡ suc fewer
    → Some e ≡ entry_on is ts label → f ≡ (member_labels is ts left label >>= λ others. Some (done ++ others)) → new ≡ done ++ e.first ∷ []
    → f ≡ (member_labels is ts fewer e.second >>= λ others. Some (new ++ others))
one_more is ts f left fewer zero e done new some more h before is_new = absurd (some refl)
one_more is ts f left fewer (suc l) e done new some more h before is_new =
    before
    ∙ ap (λ left. member_labels is ts left (suc l) >>= λ others. Some (done ++ others)) more
    ∙ ap (λ o. (o >>= λ e. member_labels is ts fewer e.second >>= λ others. Some (e.first ∷ others)) >>= λ others. Some (done ++ others)) (sym h)
    ∙ behind (member_labels is ts fewer e.second) done e.first
    ∙ ap (λ new. member_labels is ts fewer e.second >>= λ others. Some (new ++ others)) (sym is_new)
