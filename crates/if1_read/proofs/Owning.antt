-- What the lines without a fault say in each graph.
use Rattle.std.proofs.Common.{◌≡◌, ℕ, ◌<◌, ◌≤◌, false, List, [], ◌∷◌, ◌++◌, Option, Some, None, ◌⊎◌, inl, inr, if◌then◌else◌, refl, sym, ap, subst, ◌∙◌, arith, append-nil}
use Rattle.std.proofs.lemmas.Bool.{eq-eqb}
use Rattle.std.proofs.lemmas.Bool.Decides.{eqb_tells}
use Rattle.std.proofs.lemmas.List.Elements.{All-nil}
use Rattle.if1_graph.specs.declared.line.Line.{Line}
use Rattle.if1_graph.specs.declared.graph.TypeEntry.{TypeEntry}
use Rattle.if1_read.specs.Faults.{Layer, next, layers_from, home, with_some, told, is_line, own, node_on}
use Rattle.if1_read.specs.Pages.{Lit, lit_on}
use Rattle.if1_read.proofs.Walking.{Lined, told_append}
use Rattle.if1_read.proofs.Faultless.{IsLitRight, IsGraphRight}

-- ---- what lines say in the graph that line h began

pub record Tells (h : ℕ) (os : List Layer) (ls : List Lined) (ns : List (ℕ × ℕ)) (es : List Lit) : Type 0 where
  pub nodes : told (own node_on h) os ls ≡ ns
  pub lits : told (own lit_on h) os ls ≡ es

pub tells_none : (h : ℕ) (os : List Layer) → Tells h os [] [] []
tells_none h os = record { nodes = refl; lits = refl }

mine : {A : Type 0} (f : Line → Option A) (h : ℕ) (l : Line) (os : List Layer) → home l os ≡ Some h → own f h l os ≡ f l
mine f h l os e = ap (λ o. if is_line h o then f l else None) e ∙ ap (λ b. if b then f l else None) (eq-eqb h h refl)

not_line : (h : ℕ) (o : Option ℕ) → (o ≡ Some h → ⊥) → is_line h o ≡ false
not_line h None ne = refl
not_line h (Some g) ne = elim (eqb_tells g h) [ inl e ↦ absurd (ne (ap Some e.1)) | inr e ↦ e.0 ]

other : {A : Type 0} (f : Line → Option A) (h : ℕ) (l : Line) (os : List Layer) → (home l os ≡ Some h → ⊥) → own f h l os ≡ None
other f h l os ne = ap (λ b. if b then f l else None) (not_line h (home l os) ne)

pub tells_mine : (h k : ℕ) (l : Line) (os : List Layer) (ls : List Lined) (ns : List (ℕ × ℕ)) (es : List Lit) → home l os ≡ Some h → Tells h (next k l os) ls ns es →
    Tells h os ((k, l) ∷ ls) (with_some (node_on l) ns) (with_some (lit_on l) es)
tells_mine h k l os ls ns es e t = record {
  nodes = ap (λ o. with_some o (told (own node_on h) (next k l os) ls)) (mine node_on h l os e) ∙ ap (with_some (node_on l)) t.nodes;
  lits = ap (λ o. with_some o (told (own lit_on h) (next k l os) ls)) (mine lit_on h l os e) ∙ ap (with_some (lit_on l)) t.lits;
}

pub tells_other : (h k : ℕ) (l : Line) (os : List Layer) (ls : List Lined) (ns : List (ℕ × ℕ)) (es : List Lit) → (home l os ≡ Some h → ⊥) → Tells h (next k l os) ls ns es →
    Tells h os ((k, l) ∷ ls) ns es
tells_other h k l os ls ns es ne t = record {
  nodes = ap (λ o. with_some o (told (own node_on h) (next k l os) ls)) (other node_on h l os ne) ∙ t.nodes;
  lits = ap (λ o. with_some o (told (own lit_on h) (next k l os) ls)) (other lit_on h l os ne) ∙ t.lits;
}

pub tells_both : (h : ℕ) (os ps : List Layer) (xs ys : List Lined) (ns ms : List (ℕ × ℕ)) (es ds : List Lit) → layers_from os xs ≡ ps →
    Tells h os xs ns es → Tells h ps ys ms ds → Tells h os (xs ++ ys) (ns ++ ms) (es ++ ds)
tells_both h os ps xs ys ns ms es ds e t s = record {
  nodes =
      told_append (own node_on h) os xs ys
      ∙ (ap (λ qs. told (own node_on h) os xs ++ told (own node_on h) qs ys) e
      ∙ (ap (λ zs. zs ++ told (own node_on h) ps ys) t.nodes ∙ ap (λ zs. ns ++ zs) s.nodes));
  lits =
      told_append (own lit_on h) os xs ys
      ∙ (ap (λ qs. told (own lit_on h) os xs ++ told (own lit_on h) qs ys) e
      ∙ (ap (λ zs. zs ++ told (own lit_on h) ps ys) t.lits ∙ ap (λ zs. es ++ zs) s.lits));
}

pub no_home : (h : ℕ) → None ≡ Some h → ⊥
no_home h e = cc

pub apart : (g h : ℕ) → (h ≡ g → ⊥) → Some g ≡ Some h → ⊥
apart g h ne e = let same : g ≡ h = cc in ne (sym same)

pub same_or_not : (h k : ℕ) → (h ≡ k) ⊎ (h ≡ k → ⊥)
same_or_not h k = elim (eqb_tells h k) [ inl e ↦ inl e.1 | inr e ↦ inr e.1 ]

module _ (ts : List TypeEntry) (names : List (List ℕ)) where
  pub graph_none : IsGraphRight ts names [] []
  graph_none = record { once = tt; few = omega arith; lits = All-nil (IsLitRight ts names []) }

  -- a graph that began among the lines with numbers above lo, up to hi
  pub record IsInner (lo h hi : ℕ) (os : List Layer) (ls : List Lined) : Type 0 where
    pub above : lo < h
    pub below : h ≤ hi
    pub ns : List (ℕ × ℕ)
    pub es : List Lit
    pub tells : Tells h os ls ns es
    pub right : IsGraphRight ts names ns es

  abbrev pub Inside : ℕ → ℕ → ℕ → List Layer → List Lined → Type 0
  Inside lo h hi os ls = Tells h os ls [] [] ⊎ IsInner lo h hi os ls

  pub inside_step : (lo h hi k : ℕ) (l : Line) (os : List Layer) (ls : List Lined) → (home l os ≡ Some h → ⊥) → lo ≤ k → Inside k h hi (next k l os) ls →
      Inside lo h hi os ((k, l) ∷ ls)
  inside_step lo h hi k l os ls ne le (inl t) = inl (tells_other h k l os ls [] [] ne t)
  inside_step lo h hi k l os ls ne le (inr i) = inr (record {
    above = omega (arith, le, i.above);
    below = i.below;
    ns = i.ns;
    es = i.es;
    tells = tells_other h k l os ls i.ns i.es ne i.tells;
    right = i.right;
  })

  pub inside_both : (lo h mid hi : ℕ) (os ps : List Layer) (xs ys : List Lined) → lo ≤ mid → mid ≤ hi → layers_from os xs ≡ ps → Inside lo h mid os xs → Inside mid h hi ps ys →
      Inside lo h hi os (xs ++ ys)
  inside_both lo h mid hi os ps xs ys le le2 e (inl t) (inl s) = inl (tells_both h os ps xs ys [] [] [] [] e t s)
  inside_both lo h mid hi os ps xs ys le le2 e (inl t) (inr i) = inr (record {
    above = omega (arith, le, i.above);
    below = i.below;
    ns = i.ns;
    es = i.es;
    tells = tells_both h os ps xs ys [] i.ns [] i.es e t i.tells;
    right = i.right;
  })
  inside_both lo h mid hi os ps xs ys le le2 e (inr i) (inl s) =
      let t : Tells h os (xs ++ ys) (i.ns ++ []) (i.es ++ []) = tells_both h os ps xs ys i.ns [] i.es [] e i.tells s in
      inr (record {
        above = i.above;
        below = omega (arith, le2, i.below);
        ns = i.ns;
        es = i.es;
        tells = record { nodes = t.nodes ∙ append-nil i.ns; lits = t.lits ∙ append-nil i.es };
        right = i.right;
      })
  inside_both lo h mid hi os ps xs ys le le2 e (inr i) (inr j) = absurd (omega (arith, i.below, j.above))

  pub no_inner : (lo h hi : ℕ) (os : List Layer) (ls : List Lined) → h ≤ lo → Inside lo h hi os ls → Tells h os ls [] []
  no_inner lo h hi os ls le (inl t) = t
  no_inner lo h hi os ls le (inr i) = absurd (omega (arith, le, i.above))

  -- ---- what each graph says

  pub record BodyTells (g c : ℕ) (os : List Layer) (lo : ℕ) (ls : List Lined) (hi : ℕ) (ns : List (ℕ × ℕ)) (es : List Lit) : Type 0 where
    pub rises : lo ≤ hi
    pub mine : Tells g ((Some g, c) ∷ os) ls ns es
    pub others : (h : ℕ) → (h ≡ g → ⊥) → Inside lo h hi ((Some g, c) ∷ os) ls

  pub record PartsTell (o around : Layer) (os : List Layer) (lo : ℕ) (ls : List Lined) (hi : ℕ) : Type 0 where
    pub rises : lo ≤ hi
    pub each : (h : ℕ) → Inside lo h hi (o ∷ around ∷ os) ls

  -- the graph that begins, and the others inside it
  pub begun_if : (h k : ℕ) (os : List Layer) (lo : ℕ) (ls : List Lined) (hi : ℕ) (ns : List (ℕ × ℕ)) (es : List Lit) (c : ℕ) → lo < k → BodyTells k c os k ls hi ns es →
      IsGraphRight ts names ns es → ((h ≡ k) ⊎ (h ≡ k → ⊥)) → Inside k h hi ((Some k, c) ∷ os) ls ⊎ IsInner lo h hi ((Some k, c) ∷ os) ls
  begun_if h k os lo ls hi ns es c lt b right (inl e) = inr (record {
    above = omega (arith, lt, e);
    below = omega (arith, b.rises, e);
    ns = ns;
    es = es;
    tells = subst (λ (x : ℕ). Tells x ((Some k, c) ∷ os) ls ns es) (sym e) b.mine;
    right = right;
  })
  begun_if h k os lo ls hi ns es c lt b right (inr ne) = inl (b.others h ne)

  pub lower : (lo k h hi : ℕ) (os : List Layer) (ls : List Lined) → lo < k → Inside k h hi os ls ⊎ IsInner lo h hi os ls → Inside lo h hi os ls
  lower lo k h hi os ls lt (inl (inl t)) = inl t
  lower lo k h hi os ls lt (inl (inr i)) = inr (record { above = omega (arith, lt, i.above); below = i.below; ns = i.ns; es = i.es; tells = i.tells; right = i.right })
  lower lo k h hi os ls lt (inr i) = inr i

  -- a line that begins a graph and says nothing in one
  pub begins : (lo h hi k : ℕ) (l : Line) (os : List Layer) (ls : List Lined) → (home l os ≡ Some h → ⊥) → Inside lo h hi (next k l os) ls → Inside lo h hi os ((k, l) ∷ ls)
  begins lo h hi k l os ls ne (inl t) = inl (tells_other h k l os ls [] [] ne t)
  begins lo h hi k l os ls ne (inr i) = inr (record { above = i.above; below = i.below; ns = i.ns; es = i.es; tells = tells_other h k l os ls i.ns i.es ne i.tells; right = i.right })
