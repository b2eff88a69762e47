-- What is noted of edges by the ports that they leave.
use Rattle.std.proofs.Common.{◌≡◌, ◌≢◌, ℕ, zero, suc, Bool, true, false, ◌&&◌, ◌==◌, if◌then◌else◌, List, [], ◌∷◌, ◌++◌, take, length, Contains, All, Option, Some, None, is_some, MatchBool, ◌⊎◌, inl, inr, refl, sym, ap, ◌∙◌, subst, eqb-true, eq-eqb}
use Rattle.std.specs.Prelude.{IsSome}
use Rattle.std.proofs.lemmas.Bool.{and_parts, and_from}
use Rattle.std.proofs.lemmas.List.Elements.{All-contains, Contains-append_left, Contains-append_right, Contains-append_cases}
use Rattle.if1_graph.specs.declared.graph.Edge.{Edge}
use Rattle.if1_graph.specs.declared.graph.Origin.{Origin}
use Rattle.if1_graph.specs.declared.graph.Origin.TheVariants.{Port}
use Rattle.if1_graph.specs.Tables.{or_else}
use Rattle.if1_order.proofs.Members.{contains_here, contains_cases, contains_none}
use Rattle.indexmap.specs.IndexMap.{IndexMap}
use Rattle.if1_typing.specs.Tables.{Table, number}
use Rattle.if1_typing.specs.Agree.{Leaves, AreAgreed, Disagrees}
use Rattle.if1_typing.specs.Given.{noted_at, is_noted_as, AreSeen, IsApart, IsAsNoted}

same_node : (l m p q : ℕ) → Port l p ≡ Port m q → l ≡ m
same_node l m p q e = cc

same_port : (l m p q : ℕ) → Port l p ≡ Port m q → p ≡ q
same_port l m p q e = cc

abbrev pair : ℕ → Bool → ℕ × Bool
pair n b = (n, b)

same_number : (n k : ℕ) (b c : Bool) → Some (pair n b) ≡ Some (pair k c) → n ≡ k
same_number n k b c e = let q : pair n b ≡ pair k c = cc in ap (λ (r : ℕ × Bool). r.0) q

or_some : {A : Type 0} (o q : Option A) → IsSome o → IsSome (or_else o q)
or_some (Some x) q h = refl
or_some None q h = absurd cc

some_or : {A : Type 0} (o : Option A) (x : A) → IsSome (or_else o (Some x))
some_or (Some y) x = refl
some_or None x = refl

none_none : {A : Type 0} (x : A) → ◌≡◌ {A = Option A} None (Some x) → ⊥
none_none x e = cc

some_known : {A : Type 0} (o : Option A) → IsSome o → (x : A) × (o ≡ Some x)
some_known (Some x) h = (x, refl)
some_known None h = absurd cc

module _ (t : Table) (es : List Edge) (e : Edge) where
  with_more : (f : Edge) (l port : ℕ) → Leaves es f l port → Leaves (es ++ e ∷ []) f l port
  with_more f l port h = record { there = Contains-append_left es (e ∷ []) f h.there; from = h.from }

  last : Contains (es ++ e ∷ []) e
  last = Contains-append_right es (e ∷ []) e (contains_here e [])

  -- an edge of the longer list is one of the list, or the last
  either : (f : Edge) (l port : ℕ) → Leaves (es ++ e ∷ []) f l port → Leaves es f l port ⊎ (e ≡ f)
  either f l port h =
      elim (Contains-append_cases es (e ∷ []) f h.there) [
        | inl there ↦ inl (record { there = there; from = h.from })
        | inr there ↦ elim (contains_cases e [] f there) [ inl same ↦ inr same | inr none ↦ contains_none f none ]
      ]

  module _ {A : Type 0} (m : IndexMap (ℕ × ℕ) (ℕ × Bool) A) where
    -- an edge that leaves no port of a node
    pub passed : ((l port : ℕ) → e.from ≡ Port (suc l) port → ⊥) → AreSeen t es m → AreSeen t (es ++ e ∷ []) m
    passed none seen = record {
      from = λ l port n b h. let r = seen.from l port n b h in (r.0, with_more r.0 l port r.1, r.2);
      whole = λ f l port h.
          elim (either f l port h) [
            | inl there ↦ seen.whole f l port there
            | inr same ↦ absurd (none l port (subst (λ (f : Edge). f.from ≡ Port (suc l) port) (sym same) h.from))
          ];
    }

    module _ (node port : ℕ) (from : e.from ≡ Port node port) where
      -- an edge that leaves a port of which something is noted
      pub seen_again : IsSome (noted_at m node port) → AreSeen t es m → AreSeen t (es ++ e ∷ []) m
      seen_again noted seen = record {
        from = λ l p n b h. let r = seen.from l p n b h in (r.0, with_more r.0 l p r.1, r.2);
        whole = λ f l p h.
            elim (either f l p h) [
              | inl there ↦ seen.whole f l p there
              | inr same ↦
                  let k : Port node port ≡ Port (suc l) p = sym from ∙ ap (λ (f : Edge). f.from) same ∙ h.from in
                  subst (λ x. IsSome (noted_at m x p)) (same_node node (suc l) port p k) (subst (λ y. IsSome (noted_at m node y)) (same_port node (suc l) port p k) noted)
            ];
      }

      module _ (new : IndexMap (ℕ × ℕ) (ℕ × Bool) A) (n : ℕ) (gives : Bool) (is : number t e.ty ≡ n) (seen : AreSeen t es m) where
        abbrev one : ℕ → ℕ → Option (ℕ × Bool)
        one l p = if (l == node) && (p == port) then Some (pair n gives) else None

        found : (l p k : ℕ) (b : Bool) (o : Option (ℕ × Bool)) (c : Bool) → noted_at m (suc l) p ≡ o → ((suc l == node) && (p == port)) ≡ c →
            or_else o (if c then Some (pair n gives) else None) ≡ Some (pair k b) → (f : Edge) × Leaves (es ++ e ∷ []) f l p × (number t f.ty ≡ k)
        found l p k b (Some x) c was test h = let r = seen.from l p k b (was ∙ h) in (r.0, with_more r.0 l p r.1, r.2)
        found l p k b None true was test h =
            let both = and_parts (suc l == node) (p == port) test in (
              e,
              record {
                there = last;
                from = from ∙ ap (Port node) (sym (eqb-true p port both.1)) ∙ ap (λ x. Port x p) (sym (eqb-true (suc l) node both.0));
              },
              is ∙ same_number n k gives b h,
            )
        found l p k b None false was test h = absurd (none_none (pair k b) h)

        -- an edge that leaves a port of which nothing was noted
        pub seen_more : ((l p : ℕ) → noted_at new l p ≡ or_else (noted_at m l p) (one l p)) → AreSeen t (es ++ e ∷ []) new
        seen_more each = record {
          from = λ l p k b h. found l p k b (noted_at m (suc l) p) ((suc l == node) && (p == port)) refl refl (sym (each (suc l) p) ∙ h);
          whole = λ f l p h.
              elim (either f l p h) [
                | inl there ↦ ap is_some (each (suc l) p) ∙ or_some (noted_at m (suc l) p) (one (suc l) p) (seen.whole f l p there)
                | inr same ↦
                    let k : Port node port ≡ Port (suc l) p = sym from ∙ ap (λ (f : Edge). f.from) same ∙ h.from in
                    let test : ((suc l == node) && (p == port)) ≡ true =
                    and_from (suc l == node) (p == port) (eq-eqb (suc l) node (sym (same_node node (suc l) port p k))) (eq-eqb p port (sym (same_port node (suc l) port p k))) in
                    ap is_some (each (suc l) p) ∙ ap (λ c. is_some (or_else (noted_at m (suc l) p) (if c then Some (pair n gives) else None))) test
                    ∙ some_or (noted_at m (suc l) p) (pair n gives)
              ];
        }

module _ {A : Type 0} (t : Table) (es : List Edge) (m : IndexMap (ℕ × ℕ) (ℕ × Bool) A) (seen : AreSeen t es m) where
  -- edges that all are as noted agree
  pub all_agreed : All (IsAsNoted t m) es → AreAgreed t es
  all_agreed all e f l port a b =
      let x = some_known (noted_at m (suc l) port) (seen.whole e l port a) in
      sym (All-contains (IsAsNoted t m) es e all a.there l port x.0.0 x.0.1 a.from x.1)
      ∙ All-contains (IsAsNoted t m) es f all b.there l port x.0.0 x.0.1 b.from x.1

  -- one that is not differs from another
  pub one_apart : (e : Edge) → Contains es e → IsApart t m e → Disagrees t es e.node
  one_apart e there a =
      let r = seen.from a.l a.port a.n a.gives a.noted in
      record {
        one = e;
        other = r.0;
        l = a.l;
        port = a.port;
        leaves = record { there = there; from = a.from };
        leaves_too = r.1;
        leads = refl;
        differ = λ i. a.differ (sym r.2 ∙ sym i);
      }

-- what the test on a note says
pub told : {A : Type 0} (t : Table) (m : IndexMap (ℕ × ℕ) (ℕ × Bool) A) (e : Edge) (node port : ℕ) → node ≢ 0 → e.from ≡ Port node port → (b : Bool) →
    b ≡ is_noted_as (noted_at m node port) (number t e.ty) → MatchBool b (IsAsNoted t m e) (IsApart t m e)
told t m e zero port ne from b is = absurd (ne refl)
told t m e (suc l) port ne from b is = by (noted_at m (suc l) port) refl b is
  where
    by : (o : Option (ℕ × Bool)) → noted_at m (suc l) port ≡ o → (b : Bool) → b ≡ is_noted_as o (number t e.ty) → MatchBool b (IsAsNoted t m e) (IsApart t m e)
    by None was true is = λ k p n g at there.
        let q : Port (suc l) port ≡ Port (suc k) p = sym from ∙ at in
        absurd (none_none (pair n g)
        (sym was ∙ ap (noted_at m (suc l)) (same_port (suc l) (suc k) port p q) ∙ ap (λ x. noted_at m x p) (same_node (suc l) (suc k) port p q) ∙ there))
    by None was false is = absurd cc
    by (Some x) was true is = λ k p n g at there.
        let q : Port (suc l) port ≡ Port (suc k) p = sym from ∙ at in
        let two : Some x ≡ Some (pair n g) =
        sym was ∙ ap (noted_at m (suc l)) (same_port (suc l) (suc k) port p q) ∙ ap (λ x. noted_at m x p) (same_node (suc l) (suc k) port p q) ∙ there in
        let one : x ≡ pair n g = cc in
        ap (λ (r : ℕ × Bool). r.0) (sym one) ∙ eqb-true x.0 (number t e.ty) (sym is)
    by (Some x) was false is = record {
      l = l;
      port = port;
      n = x.0;
      gives = x.1;
      from = from;
      noted = was;
      differ = λ same. true_false (sym (eq-eqb x.0 (number t e.ty) same) ∙ sym is);
    }
      where
        true_false : true ≡ false → ⊥
        true_false e = cc

-- an edge that leaves no port of a node is as noted
pub nowhere : {A : Type 0} (t : Table) (m : IndexMap (ℕ × ℕ) (ℕ × Bool) A) (e : Edge) → ((l port : ℕ) → e.from ≡ Port (suc l) port → ⊥) → IsAsNoted t m e
nowhere t m e none l port n b from there = absurd (none l port from)
