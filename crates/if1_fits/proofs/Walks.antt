-- Walks along lists of types.
use Rattle.std.proofs.Common.{◌≡◌, ℕ, zero, suc, ◌+◌, ◌<◌, ◌==◌, Bool, true, false, true≢false, cond, ◌&&◌, ◌||◌, ◌⊎◌, inl, inr, Option, Some, None, IsSome, List, [], ◌∷◌, length, find, slice_get, get_or, refl, sym, ap, ◌∙◌, arith, eqb-true}
use Rattle.std.proofs.lemmas.Option.{slice_get_within}
use Rattle.if1_graph.specs.Tables.{◌>>=◌}
use Rattle.if1_graph.specs.declared.graph.Edge.{Edge}
use Rattle.if1_types.specs.declared.forms.ListForm.{ListForm}
use Rattle.if1_types.specs.declared.forms.ListForm.TheVariants as list
use Rattle.if1_types.specs.Shapes.{Key}
use Rattle.if1_types.specs.Forms.{list_form_at}
use Rattle.if1_types.specs.Skips.{first_in, rest_in, member_at, members_at, members_by}
use Rattle.if1_types.proofs.Skipping.{some_member}
use Rattle.if1_fits.specs.Views.{value_of, number_of, carried_at, are_same}
use Rattle.if1_fits.specs.Tests.{fields_fit, some_tag_fits, tag_fits}

module _ (ks : List Key) where
  module _ (at : ℕ → ℕ) where
    pub fields_on : (l left fewer port k others : ℕ) → left ≡ suc fewer → list_form_at ks l ≡ list.Member k others → are_same (Some k) (value_of ks (at port)) ≡ true
        → fields_fit ks at left l port ≡ fields_fit ks at fewer others (suc port)
    fields_on l left fewer port k others is form same =
        ap (λ left. fields_fit ks at left l port) is
        ∙ ap (λ f. are_same (first_in f) (value_of ks (at port)) && elim (rest_in f) [ None ↦ false | Some rest ↦ fields_fit ks at fewer rest (suc port) ]) form
        ∙ ap (λ b. b && fields_fit ks at fewer others (suc port)) same

    pub fields_stop : (l left fewer port k others : ℕ) → left ≡ suc fewer → list_form_at ks l ≡ list.Member k others → are_same (Some k) (value_of ks (at port)) ≡ false
        → fields_fit ks at left l port ≡ false
    fields_stop l left fewer port k others is form same =
        ap (λ left. fields_fit ks at left l port) is
        ∙ ap (λ f. are_same (first_in f) (value_of ks (at port)) && elim (rest_in f) [ None ↦ false | Some rest ↦ fields_fit ks at fewer rest (suc port) ]) form
        ∙ ap (λ b. b && fields_fit ks at fewer others (suc port)) same

    pub fields_end : (l left fewer port : ℕ) → left ≡ suc fewer → list_form_at ks l ≡ list.End → fields_fit ks at left l port ≡ false
    fields_end l left fewer port is form =
        ap (λ left. fields_fit ks at left l port) is
        ∙ ap (λ f. are_same (first_in f) (value_of ks (at port)) && elim (rest_in f) [ None ↦ false | Some rest ↦ fields_fit ks at fewer rest (suc port) ]) form

    -- a tag that fits at its port, among so many, and none
    pub tag_found : (more l port j k : ℕ) → k ≡ port + j → j < more → are_same (member_at ks l j) (value_of ks (at k)) ≡ true → some_tag_fits ks at more l port ≡ true
    tag_found zero l port j k is h same = absurd (omega (arith, h))
    tag_found (suc more) l port zero k is h same =
        let here : k ≡ port = omega (arith, is) in
        ap (λ b. b || elim (rest_in (list_form_at ks l)) [ None ↦ false | Some rest ↦ some_tag_fits ks at more rest (suc port) ])
        (ap (λ p. are_same (first_in (list_form_at ks l)) (value_of ks (at p))) (sym here) ∙ same)
    tag_found (suc more) l port (suc j) k is h same =
        by (list_form_at ks l) (λ r s. tag_found more r (suc port) j k (omega (arith, is)) (omega (arith, h)) s) same
      where
        or_true : (b : Bool) → (b || true) ≡ true
        or_true true = refl
        or_true false = refl

        by : (f : ListForm) → ((r : ℕ) → are_same (member_at ks r j) (value_of ks (at k)) ≡ true → some_tag_fits ks at more r (suc port) ≡ true)
            → are_same (rest_in f >>= λ rest. member_at ks rest j) (value_of ks (at k)) ≡ true
            → (are_same (first_in f) (value_of ks (at port)) || elim (rest_in f) [ None ↦ false | Some rest ↦ some_tag_fits ks at more rest (suc port) ]) ≡ true
        by (list.Member a r) on same = ap (λ b. are_same (Some a) (value_of ks (at port)) || b) (on r same) ∙ or_true (are_same (Some a) (value_of ks (at port)))
        by list.End on same = absurd (true≢false (sym same))

    pub no_tag : (more l port : ℕ) → ((j k : ℕ) → k ≡ port + j → are_same (member_at ks l j) (value_of ks (at k)) ≡ false) → some_tag_fits ks at more l port ≡ false
    no_tag zero l port none = refl
    no_tag (suc more) l port none =
        by (list_form_at ks l) (none 0 port (omega arith)) (λ j k is. none (suc j) k (omega (arith, is))) (λ r. no_tag more r (suc port))
      where
        by : (f : ListForm) → are_same (first_in f) (value_of ks (at port)) ≡ false
            → ((j k : ℕ) → k ≡ suc port + j → are_same (rest_in f >>= λ rest. member_at ks rest j) (value_of ks (at k)) ≡ false)
            → ((r : ℕ) → ((j k : ℕ) → k ≡ suc port + j → are_same (member_at ks r j) (value_of ks (at k)) ≡ false) → some_tag_fits ks at more r (suc port) ≡ false)
            → (are_same (first_in f) (value_of ks (at port)) || elim (rest_in f) [ None ↦ false | Some rest ↦ some_tag_fits ks at more rest (suc port) ]) ≡ false
        by (list.Member a r) here none on = ap (λ b. b || some_tag_fits ks at more r (suc port)) here ∙ on r none
        by list.End here none on = ap (λ b. b || false) here

-- ---- edges

-- no edge leads into the port, or one does
port_cases : (port : ℕ) (es : List Edge) → (find (λ e. e.port == port) es ≡ None) ⊎ ((n : ℕ) × (e : Edge) × (slice_get es n ≡ Some e) × (e.port ≡ port))
port_cases port [] = inl refl
port_cases port (e ∷ es) = by (e.port == port) refl (port_cases port es)
  where
    by : (b : Bool) → (e.port == port) ≡ b → (find (λ e. e.port == port) es ≡ None) ⊎ ((n : ℕ) × (e : Edge) × (slice_get es n ≡ Some e) × (e.port ≡ port))
        → (cond b (Some e) (find (λ e. e.port == port) es) ≡ None) ⊎ ((n : ℕ) × (f : Edge) × (slice_get (e ∷ es) n ≡ Some f) × (f.port ≡ port))
    by true is rest = inr (0, e, refl, eqb-true e.port port is)
    by false is (inl none) = inl none
    by false is (inr some) = inr (suc some.0, some.1, some.2, some.3)

-- the tags at the ports of the first edges do not fit
abbrev pub NoneFits : List Key → (ℕ → ℕ) → ℕ → List Edge → ℕ → Type 0
NoneFits ks at l es i = (n : ℕ) (e : Edge) → n < i → slice_get es n ≡ Some e → tag_fits ks at l e.port ≡ false

pub item_got : {A : Type 0} (xs : List A) (i : ℕ) (x d : A) → i < length xs → x ≡ get_or xs i d → slice_get xs i ≡ Some x
item_got [] i x d h is = absurd (omega (arith, h))
item_got (y ∷ xs) zero x d h is = ap Some (sym is)
item_got (y ∷ xs) (suc i) x d h is = item_got xs i x d (omega (arith, h)) is

pub no_more_fit : (ks : List Key) (at : ℕ → ℕ) (l : ℕ) (es : List Edge) (i : ℕ) (e : Edge) → NoneFits ks at l es i → slice_get es i ≡ Some e → tag_fits ks at l e.port ≡ false
    → NoneFits ks at l es (i + 1)
no_more_fit ks at l es i e none is h n f below got = by (last n i below)
  where
    last : (n i : ℕ) → n < i + 1 → (n < i) ⊎ (n ≡ i)
    last n i h = grind arith

    by : (n < i) ⊎ (n ≡ i) → tag_fits ks at l f.port ≡ false
    by (inl x) = none n f x got
    by (inr x) =
        let same : Some f ≡ Some e = sym got ∙ ap (slice_get es) x ∙ is in
        ap (λ (o : Option Edge). elim o [ None ↦ false | Some e ↦ tag_fits ks at l e.port ]) same ∙ h

module _ (ks : List Key) (ls ns : List ℕ) (es : List Edge) where
  -- no tag fits where none fits at the port of an edge
  pub none_built : (more l : ℕ) → NoneFits ks (carried_at ls ns es) l es (length es) → some_tag_fits ks (carried_at ls ns es) more l 1 ≡ false
  none_built more l none = no_tag ks (carried_at ls ns es) more l 1 (λ j k is. at j k (omega (arith, is)) (port_cases k es))
    where
      miss : (o : Option ℕ) → are_same o None ≡ false
      miss None = refl
      miss (Some a) = refl

      at : (j k : ℕ) → k ≡ suc j → (find (λ e. e.port == k) es ≡ None) ⊎ ((n : ℕ) × (e : Edge) × (slice_get es n ≡ Some e) × (e.port ≡ k))
          → are_same (member_at ks l j) (value_of ks (carried_at ls ns es k)) ≡ false
      at j k is (inl absent) = ap (λ o. are_same (member_at ks l j) (value_of ks (number_of ls ns o))) absent ∙ miss (member_at ks l j)
      at j k is (inr there) =
          let here = none there.0 there.1 (slice_get_within es there.0 there.1 there.2) there.2 in
          ap (λ k. are_same (member_at ks l j) (value_of ks (carried_at ls ns es k))) is
          ∙ ap (tag_fits ks (carried_at ls ns es) l) (sym is ∙ sym there.3) ∙ here

  -- and one that fits does so within the list
  pub some_built : ((n : ℕ) → members_at ks n ≡ members_by ks (list_form_at ks n)) → (l port : ℕ) → tag_fits ks (carried_at ls ns es) l port ≡ true
      → some_tag_fits ks (carried_at ls ns es) (members_at ks l) l 1 ≡ true
  some_built told l zero h = absurd (true≢false (sym h))
  some_built told l (suc j) h =
      tag_found ks (carried_at ls ns es) (members_at ks l) l 1 j (suc j) (omega arith) (some_member ks told l j (is_some_of (member_at ks l j) h)) h
    where
      is_some_of : (o : Option ℕ) → are_same o (value_of ks (carried_at ls ns es (suc j))) ≡ true → IsSome o
      is_some_of None h = absurd (true≢false (sym h))
      is_some_of (Some a) h = refl
