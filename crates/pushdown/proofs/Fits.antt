-- Each production by itself gives whole derivations, and what is said of them.
use Rattle.std.proofs.Common.{◌≡◌, ℕ, ◌<◌, List, [], ◌∷◌, ◌++◌, Some, map, refl, sym, ◌∙◌, ap, subst, append_assoc}
use Rattle.pushdown.specs.declared.Symbol.{Symbol}
use Rattle.pushdown.specs.declared.Symbol.TheVariants.{Want, Rule}
use Rattle.pushdown.specs.declared.Step.{Step}
use Rattle.pushdown.specs.Grammar.{Grammar, Derives}
use Rattle.pushdown.specs.Meaning.{Meaning, Scheme, Vals, load, perform, run, kind_of}
use Rattle.pushdown.specs.Spelling.{Built, Said, Keeps}
use Rattle.pushdown.specs.Fits.{kinds, Fits, Makes, Keeping, Reads}
use Rattle.pushdown.proofs.Spelling.{built_end, built_read, built_open, sound}

append_nil : {A : Type 0} (xs : List A) → xs ++ [] ≡ xs
append_nil [] = refl
append_nil (x ∷ xs) = ap (λ ys. x ∷ ys) (append_nil xs)

same_some : {A : Type 0} {x y : A} → Some x ≡ Some y → x ≡ y
same_some e = cc

same_first : {A : Type 0} {x y : A} {xs ys : List A} → x ∷ xs ≡ y ∷ ys → x ≡ y
same_first e = cc

-- what is said of a rule's value
abbrev pub Means : (m : Meaning) (h : Scheme m) → ((n : ℕ) → List m.Token → m.Val (h.kind n) → Type 0) → ℕ → List m.Token → m.Value → Type 0
Means m h P n ts x = (v : m.Val (h.kind n)) × (x ≡ m.into (h.kind n) v) × P n ts v

-- the values of symbols of which Q holds
abbrev Fitted : (m : Meaning) (h : Scheme m) (s : List Symbol) → (List m.Token → Vals m.Val (kinds m h s) → Type 0) → List m.Token → List m.Value → Type 0
Fitted m h s Q ts xs = (vs : Vals m.Val (kinds m h s)) × (xs ≡ load m (kinds m h s) vs []) × Q ts vs

fitted : (m : Meaning) (h : Scheme m) (P : (n : ℕ) → List m.Token → m.Val (h.kind n) → Type 0) (s : List Symbol)
    (Q : List m.Token → Vals m.Val (kinds m h s) → Type 0) → Fits m h P s Q
    → (ts : List m.Token) (xs : List m.Value) → Said m (Means m h P) s ts xs → Fitted m h s Q ts xs
fitted m h P [] Q f ts xs d = (tt, d.1, subst (λ l. Q l tt) (sym d.0) f)
fitted m h P (Want c ∷ s) Q f ts xs d =
    let r : Fitted m h s (λ us vs. Q (d.0 ∷ us) (m.of_token d.0, vs)) d.1 d.2 = fitted m h P s (λ us vs. Q (d.0 ∷ us) (m.of_token d.0, vs)) (f d.0 d.5) d.1 d.2 d.6 in (
      (m.of_token d.0, r.0),
      d.4 ∙ ap (λ l. m.into m.token (m.of_token d.0) ∷ l) r.1,
      subst (λ l. Q l (m.of_token d.0, r.0)) (sym d.3) r.2,
    )
fitted m h P (Rule n ∷ []) Q f ts xs d =
    let tokens : ts ≡ d.0 = d.4 ∙ (ap (λ l. d.0 ++ l) d.7.0 ∙ append_nil d.0) in (
      (d.6.0, tt),
      d.5 ∙ (ap (λ x. x ∷ d.3) d.6.1 ∙ ap (λ l. m.into (h.kind n) d.6.0 ∷ l) d.7.1),
      subst (λ l. Q l (d.6.0, tt)) (sym tokens) (f d.0 d.6.0 d.6.2),
    )
fitted m h P (Rule n ∷ x ∷ s) Q f ts xs d =
    let r : Fitted m h (x ∷ s) (λ us vs. Q (d.0 ++ us) (d.6.0, vs)) d.1 d.3 = fitted m h P (x ∷ s) (λ us vs. Q (d.0 ++ us) (d.6.0, vs)) (f d.0 d.6.0 d.6.2) d.1 d.3 d.7 in (
      (d.6.0, r.0),
      d.5 ∙ (ap (λ y. y ∷ d.3) d.6.1 ∙ ap (λ l. m.into (h.kind n) d.6.0 ∷ l) r.1),
      subst (λ l. Q l (d.6.0, r.0)) (sym d.4) r.2,
    )

-- values on top of others
loaded : (m : Meaning) (ks : List m.Kind) (vs : Vals m.Val ks) (rest : List m.Value) → load m ks vs [] ++ rest ≡ load m ks vs rest
loaded m [] vs rest = refl
loaded m (k ∷ ks) vs rest = ap (λ l. m.into k vs.0 ∷ l) (loaded m ks vs.1 rest)

-- Where each production keeps P by itself, each derivation's values are what P says.
pub keeps : (g : Grammar) (m : Meaning) (h : Scheme m) (P : (n : ℕ) → List m.Token → m.Val (h.kind n) → Type 0)
    → ((p : ℕ) → p < g.productions → Keeping g m h P p) → Keeps g m h (Means m h P)
keeps g m h P each p lt ts xs rest ys d k =
    let e : Keeping g m h P p = each p lt in
    let ks : List m.Kind = kinds m h (g.body p) in
    let r : Fitted m h (g.body p) (λ us vs. P (g.head p) us (e.makes.made vs)) ts xs = fitted m h P (g.body p) (λ us vs. P (g.head p) us (e.makes.made vs)) e.fits ts xs d in
    let on_top : xs ++ rest ≡ load m ks r.0 rest = ap (λ l. l ++ rest) r.1 ∙ loaded m ks r.0 rest in
    let v : m.Val (h.kind (g.head p)) = e.makes.made r.0 in
    let gives : perform m (h.action p) (xs ++ rest) ≡ Some (m.into (h.kind (g.head p)) v ∷ rest) = ap (λ l. perform m (h.action p) l) on_top ∙ e.makes.does r.0 rest in
    (m.into (h.kind (g.head p)) v, same_some (sym k ∙ gives), (v, refl, r.2))

-- what a whole derivation says
abbrev pub SaidWhole : (m : Meaning) (h : Scheme m) → ((n : ℕ) → List m.Token → m.Val (h.kind n) → Type 0) → ℕ → List m.Token → m.Value → Type 0
SaidWhole m h P n ts x = Means m h P n ts x

pub whole_said : (g : Grammar) (m : Meaning) (h : Scheme m) (P : (n : ℕ) → List m.Token → m.Val (h.kind n) → Type 0)
    → ((p : ℕ) → p < g.productions → Keeping g m h P p) → (n : ℕ) (ts : List m.Token) (es : List Step) (x : m.Value)
    → Derives g (Rule n ∷ []) (map m.class ts) es → run m h es ts ≡ Some (x ∷ []) → Means m h P n ts x
whole_said g m h P each n ts es x d k =
    let s : Said m (Means m h P) (Rule n ∷ []) ts (x ∷ []) = sound g m h (Means m h P) (keeps g m h P each) d ts refl (x ∷ []) k in
    let tokens : s.0 ≡ ts = sym (s.4 ∙ (ap (λ l. s.0 ++ l) s.7.0 ∙ append_nil s.0)) in
    let value : s.2 ≡ x = sym (same_first s.5) in
    subst (λ l. Means m h P n l x) tokens (subst (λ y. Means m h P n s.0 y) value s.6)

-- what holds of the tokens and values of symbols, where Q does
fits_map : (m : Meaning) (h : Scheme m) (P : (n : ℕ) → List m.Token → m.Val (h.kind n) → Type 0) (s : List Symbol)
    (Q R : List m.Token → Vals m.Val (kinds m h s) → Type 0) → ((ts : List m.Token) (vs : Vals m.Val (kinds m h s)) → Q ts vs → R ts vs)
    → Fits m h P s Q → Fits m h P s R
fits_map m h P [] Q R f q = f [] tt q
fits_map m h P (Want c ∷ s) Q R f q =
    λ t e. fits_map m h P s (λ ts vs. Q (t ∷ ts) (m.of_token t, vs)) (λ ts vs. R (t ∷ ts) (m.of_token t, vs)) (λ ts vs. f (t ∷ ts) (m.of_token t, vs)) (q t e)
fits_map m h P (Rule n ∷ []) Q R f q = λ ts v d. f ts (v, tt) (q ts v d)
fits_map m h P (Rule n ∷ x ∷ s) Q R f q =
    λ ts v d. fits_map m h P (x ∷ s) (λ us vs. Q (ts ++ us) (v, vs)) (λ us vs. R (ts ++ us) (v, vs)) (λ us vs. f (ts ++ us) (v, vs)) (q ts v d)

-- these symbols derive the tokens with the values, whatever follows
abbrev Front : (g : Grammar) (m : Meaning) (h : Scheme m) (s : List Symbol) → List m.Token → Vals m.Val (kinds m h s) → Type 0
Front g m h s ts vs = (b : List Symbol) (ws : List m.Token) (xs : List m.Value) → Built g m h b ws xs
    → Built g m h (s ++ b) (ts ++ ws) (load m (kinds m h s) vs xs)

fronts : (g : Grammar) (m : Meaning) (h : Scheme m) (s : List Symbol) → Fits m h (Reads g m h) s (Front g m h s)
fronts g m h [] = λ b ws xs d. d
fronts g m h (Want c ∷ s) =
    λ t e. fits_map m h (Reads g m h) s (Front g m h s) (λ ts vs. Front g m h (Want c ∷ s) (t ∷ ts) (m.of_token t, vs))
    (λ ts vs r b ws xs d. subst (λ k. Built g m h (Want k ∷ (s ++ b)) (t ∷ (ts ++ ws)) (m.into m.token (m.of_token t) ∷ load m (kinds m h s) vs xs)) e
    (built_read g m h t (s ++ b) (ts ++ ws) (load m (kinds m h s) vs xs) (r b ws xs d))) (fronts g m h s)
fronts g m h (Rule n ∷ []) = λ ts v r b ws xs d. r.front b ws xs d
fronts g m h (Rule n ∷ x ∷ s) =
    λ ts v r. fits_map m h (Reads g m h) (x ∷ s) (Front g m h (x ∷ s)) (λ us vs. Front g m h (Rule n ∷ x ∷ s) (ts ++ us) (v, vs))
    (λ us vs q b ws xs d. subst (λ l. Built g m h (Rule n ∷ ((x ∷ s) ++ b)) l (m.into (h.kind n) v ∷ load m (kinds m h (x ∷ s)) vs xs)) (sym (append_assoc ts us ws))
    (r.front ((x ∷ s) ++ b) (us ++ ws) (load m (kinds m h (x ∷ s)) vs xs) (q b ws xs d))) (fronts g m h (x ∷ s))

-- What each symbol of a production reads, its rule reads together.
pub reads : (g : Grammar) (m : Meaning) (h : Scheme m) (p : ℕ) → p < g.productions → (w : Makes g m h p)
    → Fits m h (Reads g m h) (g.body p) (λ ts vs. Reads g m h (g.head p) ts (w.made vs))
reads g m h p lt w =
    fits_map m h (Reads g m h) (g.body p) (Front g m h (g.body p)) (λ ts vs. Reads g m h (g.head p) ts (w.made vs))
    (λ ts vs r. record {
      front = λ s ws xs d. built_open g m h (g.head p) p s (ts ++ ws) (load m (kinds m h (g.body p)) vs xs) (m.into (h.kind (g.head p)) (w.made vs) ∷ xs) lt refl (r s ws xs d) (w.does vs xs);
    })
    (fronts g m h (g.body p))

-- a rule by itself
pub whole_built : (g : Grammar) (m : Meaning) (h : Scheme m) (n : ℕ) (ts : List m.Token) (v : m.Val (h.kind n)) → Reads g m h n ts v
    → Built g m h (Rule n ∷ []) ts (m.into (h.kind n) v ∷ [])
whole_built g m h n ts v r = subst (λ l. Built g m h (Rule n ∷ []) l (m.into (h.kind n) v ∷ [])) (append_nil ts) (r.front [] [] [] (built_end g m h))
