-- Derivations with their values: how they grow, that there is one, and what they say.
use Rattle.std.proofs.Common.{◌≡◌, ℕ, ◌<◌, List, [], ◌∷◌, ◌++◌, Option, Some, None, map, refl, sym, ◌∙◌, ap, append_assoc}
use Rattle.pushdown.specs.declared.Symbol.{Symbol}
use Rattle.pushdown.specs.declared.Symbol.TheVariants.{Want, Rule}
use Rattle.pushdown.specs.declared.Step.{Step}
use Rattle.pushdown.specs.declared.Step.TheVariants.{Read, Open}
use Rattle.pushdown.specs.Grammar.{Grammar, Derives, end, read, expand}
use Rattle.pushdown.specs.Table.{Table, Proper, IsEnd, IsRight}
use Rattle.pushdown.specs.Meaning.{Meaning, Scheme, bind, perform, run}
use Rattle.pushdown.specs.Spelling.{Built, Said, Keeps}
use Rattle.pushdown.proofs.Derivations.{one}

-- nothing is left
pub built_end : (g : Grammar) (m : Meaning) (h : Scheme m) → Built g m h [] [] []
built_end g m h = record { steps = []; derived = end; means = refl }

-- a token before the others
pub built_read : (g : Grammar) (m : Meaning) (h : Scheme m) (t : m.Token) (s : List Symbol) (ts : List m.Token) (xs : List m.Value)
    → Built g m h s ts xs → Built g m h (Want (m.class t) ∷ s) (t ∷ ts) (m.into m.token (m.of_token t) ∷ xs)
built_read g m h t s ts xs b = record {
  steps = Read ∷ b.steps;
  derived = read b.derived;
  means = ap (λ o. bind o (λ l. Some (m.into m.token (m.of_token t) ∷ l))) b.means;
}

-- a rule in place of the symbols of one of its productions
pub built_open : (g : Grammar) (m : Meaning) (h : Scheme m) (n p : ℕ) (s : List Symbol) (ts : List m.Token) (xs ys : List m.Value)
    → p < g.productions → g.head p ≡ n → Built g m h (g.body p ++ s) ts xs → perform m (h.action p) xs ≡ Some ys → Built g m h (Rule n ∷ s) ts ys
built_open g m h n p s ts xs ys lt e b does = record {
  steps = Open p ∷ b.steps;
  derived = expand lt e b.derived;
  means = ap (λ o. bind o (λ l. perform m (h.action p) l)) b.means ∙ does;
}

same_some : {A : Type 0} {x y : A} → Some x ≡ Some y → x ≡ y
same_some e = cc

-- No tokens have two derivations with other values.
pub built_one : (g : Grammar) (t : Table) (r : IsRight g t) (m : Meaning) (h : Scheme m) (s : List Symbol) (ts : List m.Token) (xs ys : List m.Value)
    → Proper t IsEnd s → Built g m h s ts xs → Built g m h s ts ys → xs ≡ ys
built_one g t r m h s ts xs ys ok a b =
    let same : a.steps ≡ b.steps = one g t r a.derived b.steps b.derived ok in
    let runs : run m h a.steps ts ≡ run m h b.steps ts = ap (λ es. run m h es ts) same in
    same_some (sym a.means ∙ (runs ∙ b.means))

-- what is said of symbols one after another
pub record Split (m : Meaning) (says : ℕ → List m.Token → m.Value → Type 0) (a b : List Symbol) (ts : List m.Token) (xs : List m.Value) : Type 0 where
  pub front : List m.Token
  pub back : List m.Token
  pub front_values : List m.Value
  pub back_values : List m.Value
  pub tokens : ts ≡ front ++ back
  pub values : xs ≡ front_values ++ back_values
  pub front_said : Said m says a front front_values
  pub back_said : Said m says b back back_values

pub split : (m : Meaning) (says : ℕ → List m.Token → m.Value → Type 0) (a b : List Symbol) (ts : List m.Token) (xs : List m.Value)
    → Said m says (a ++ b) ts xs → Split m says a b ts xs
split m says [] b ts xs d = record {
  front = [];
  back = ts;
  front_values = [];
  back_values = xs;
  tokens = refl;
  values = refl;
  front_said = (refl, refl);
  back_said = d;
}
split m says (Want c ∷ a) b ts xs d =
    let r : Split m says a b d.1 d.2 = split m says a b d.1 d.2 d.6 in
    record {
      front = d.0 ∷ r.front;
      back = r.back;
      front_values = m.into m.token (m.of_token d.0) ∷ r.front_values;
      back_values = r.back_values;
      tokens = d.3 ∙ ap (λ l. d.0 ∷ l) r.tokens;
      values = d.4 ∙ ap (λ l. m.into m.token (m.of_token d.0) ∷ l) r.values;
      front_said = (d.0, r.front, r.front_values, refl, refl, d.5, r.front_said);
      back_said = r.back_said;
    }
split m says (Rule n ∷ a) b ts xs d =
    let r : Split m says a b d.1 d.3 = split m says a b d.1 d.3 d.7 in
    record {
      front = d.0 ++ r.front;
      back = r.back;
      front_values = d.2 ∷ r.front_values;
      back_values = r.back_values;
      tokens = d.4 ∙ (ap (λ l. d.0 ++ l) r.tokens ∙ sym (append_assoc d.0 r.front r.back));
      values = d.5 ∙ ap (λ l. d.2 ∷ l) r.values;
      front_said = (d.0, r.front, d.2, r.front_values, refl, refl, d.6, r.front_said);
      back_said = r.back_said;
    }

-- what a bind that gives something was given
pub bound : {A B : Type 0} (o : Option A) (f : A → Option B) (y : B) → bind o f ≡ Some y → (x : A) × (o ≡ Some x) × (f x ≡ Some y)
bound None f y e = cc
bound (Some x) f y e = (x, refl, e)

opened : (g : Grammar) (m : Meaning) (h : Scheme m) (says : ℕ → List m.Token → m.Value → Type 0) → Keeps g m h says
    → (n p : ℕ) (s : List Symbol) (ts : List m.Token) (xs ys : List m.Value) → p < g.productions → g.head p ≡ n
    → Said m says (g.body p ++ s) ts xs → perform m (h.action p) xs ≡ Some ys → Said m says (Rule n ∷ s) ts ys
opened g m h says keeps n p s ts xs ys lt e d does =
    let r : Split m says (g.body p) s ts xs = split m says (g.body p) s ts xs d in
    let done : perform m (h.action p) (r.front_values ++ r.back_values) ≡ Some ys = ap (λ l. perform m (h.action p) l) (sym r.values) ∙ does in
    let k : (y : m.Value) × (ys ≡ y ∷ r.back_values) × says (g.head p) r.front y = keeps p lt r.front r.front_values r.back_values ys r.front_said done in
    (r.front, r.back, k.0, r.back_values, r.tokens, k.1, rw (← e) k.2, r.back_said)

-- A derivation's values are what the tokens say, where each production keeps that.
pub sound : (g : Grammar) (m : Meaning) (h : Scheme m) (says : ℕ → List m.Token → m.Value → Type 0) → Keeps g m h says
    → {s : List Symbol} {cs : List ℕ} {es : List Step} → Derives g s cs es → (ts : List m.Token) → map m.class ts ≡ cs
    → (xs : List m.Value) → run m h es ts ≡ Some xs → Said m says s ts xs
sound g m h says keeps end [] e xs k = (refl, sym (same_some k))
sound g m h says keeps end (t ∷ ts) e xs k = cc
sound g m h says keeps (read {c} {s} {cs} {ps} d) [] e xs k = cc
sound g m h says keeps (read {c} {s} {cs} {ps} d) (t ∷ ts) e xs k =
    let tail : map m.class ts ≡ cs = cc in
    let first : m.class t ≡ c = cc in
    let b : (l : List m.Value) × (run m h ps ts ≡ Some l) × (Some (m.into m.token (m.of_token t) ∷ l) ≡ Some xs) = bound (run m h ps ts) (λ l. Some (m.into m.token (m.of_token t) ∷ l)) xs k in
    (t, ts, b.0, refl, sym (same_some b.2), first, sound g m h says keeps d ts tail b.0 b.1)
sound g m h says keeps (expand {n} {p} {s} {cs} {ps} lt e d) ts j xs k =
    let b : (l : List m.Value) × (run m h ps ts ≡ Some l) × (perform m (h.action p) l ≡ Some xs) = bound (run m h ps ts) (λ l. perform m (h.action p) l) xs k in
    opened g m h says keeps n p s ts b.0 xs lt e (sound g m h says keeps d ts j b.0 b.1) b.2
