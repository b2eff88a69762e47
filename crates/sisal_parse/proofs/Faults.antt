-- Units are what the grammar derives, and so are the tokens that begin one.
use Rattle.std.proofs.Common.{◌≡◌, ℕ, zero, suc, ◌<◌, ◌≤◌, ◌+◌, ◌-◌, List, [], ◌∷◌, ◌++◌, Some, map, take, length, min, refl, sym, ◌∙◌, ap, subst, arith}
use Rattle.pushdown.specs.Grammar.{Derives}
use Rattle.pushdown.specs.declared.Step.{Step}
use Rattle.pushdown.specs.declared.Symbol.TheVariants.{Rule}
use Rattle.pushdown.specs.Engine.{FirstBad, IsCause}
use Rattle.pushdown.specs.Rows.{grammar_in}
use Rattle.pushdown.specs.declared.tables.Tables.{Tables}
use Rattle.pushdown.specs.declared.Refusal.{Refusal}
use Rattle.pushdown.specs.declared.Refusal.TheVariants.{Syntax}
use Rattle.pushdown.specs.Meaning.{Loaded, run, kind_of}
use Rattle.pushdown.proofs.Values.{has_values}
use Rattle.sisal_lex.specs.declared.token.Token.{Token}
use Rattle.sisal_grammar.specs.declared.value.Outline.{Outline}
use Rattle.sisal_grammar.specs.declared.value.Placed.{Placed}
use Rattle.sisal_grammar.specs.declared.value.Value.{Value}
use Rattle.sisal_grammar.specs.declared.value.Value.TheVariants as value
use Rattle.sisal_grammar.specs.Acts.{sisal}
use Rattle.sisal_grammar.specs.Classes.{class_of}
use Rattle.sisal_grammar.specs.Derived.{IsDerived}
use Rattle.sisal_grammar.specs.Language.{language}
use Rattle.sisal_grammar.specs.Phrases.{unit}
use Rattle.sisal_grammar.specs.Placed.{placed}
use Rattle.sisal_grammar.specs.Plan.{plan}
use Rattle.sisal_grammar.specs.Sorts.{an_outline}
use Rattle.sisal_grammar.specs.Spells.{Spells}
use Rattle.sisal_grammar.proofs.Plans.{plan_typed, first_kind}
use Rattle.sisal_grammar.proofs.Units.{spelled, derived}
use Rattle.sisal_tree.specs.Depth.{PassesAt, depth_of}
use Rattle.sisal_parse.specs.Faults.{IsUnit, Begins, IsFirstBad, IsTooDeep, line_at}
use Rattle.sisal_parse.proofs.Classes.{Reals, reals, reals_behind, tokens_for, classes_for}

abbrev pub classes : List Token → List ℕ
classes ts = map (λ t. class_of t.kind) ts

pub two_maps : (ts : List Token) → map class_of (map (λ t. t.kind) ts) ≡ classes ts
two_maps [] = refl
two_maps (t ∷ ts) = ap (λ cs. class_of t.kind ∷ cs) (two_maps ts)

pub placed_classes : (ts : List Token) (n : ℕ) → map (λ t. class_of t.kind) (placed n ts) ≡ classes ts
placed_classes [] n = refl
placed_classes (t ∷ ts) n = ap (λ cs. class_of t.kind ∷ cs) (placed_classes ts (n + 1))

join : (ts us : List Token) → classes (ts ++ us) ≡ classes ts ++ classes us
join [] us = refl
join (t ∷ ts) us = ap (λ cs. class_of t.kind ∷ cs) (join ts us)

front : (k : ℕ) (ts : List Token) → take k (classes ts) ≡ classes (take k ts)
front zero ts = refl
front (suc k) [] = refl
front (suc k) (t ∷ ts) = ap (λ cs. class_of t.kind ∷ cs) (front k ts)

many : (ts : List Token) → length (classes ts) ≡ length ts
many [] = refl
many (t ∷ ts) = ap (λ n. suc n) (many ts)

-- a derivation gives a unit
abbrev Outlined : List Step → List Placed → Type 0
Outlined es ps = (o : Outline) × (run sisal plan es ps ≡ Some (value.AnOutline o ∷ []))

outlined_of : (es : List Step) (ps : List Placed) → Loaded sisal (an_outline ∷ []) [] (run sisal plan es ps) → Outlined es ps
outlined_of es ps l = (l.0.0, l.1)

pub outlined : (es : List Step) (ts : List Token) → Derives language (Rule 0 ∷ []) (classes ts) es → Outlined es (placed 0 ts)
outlined es ts d = outlined_of es (placed 0 ts) (subst (λ k. Loaded sisal (k ∷ []) [] (run sisal plan es (placed 0 ts))) first_kind (has_values language sisal plan plan_typed d (placed 0 ts) (placed_classes ts 0)))

-- a unit from its derivation and what its steps give
pub spelled_by : (es : List Step) (ts : List Token) (o : Outline) → Derives language (Rule 0 ∷ []) (classes ts) es → run sisal plan es (placed 0 ts) ≡ Some (value.AnOutline o ∷ []) → Spells unit (placed 0 ts) o
spelled_by es ts o d r = spelled (placed 0 ts) o es (record { derives = subst (λ cs. Derives language (Rule 0 ∷ []) cs es) (sym (placed_classes ts 0)) d; gives = r })

pub unit_of : (es : List Step) (ts : List Token) → Derives language (Rule 0 ∷ []) (classes ts) es → IsUnit ts
unit_of es ts d = let o : Outlined es (placed 0 ts) = outlined es ts d in (o.0, spelled_by es ts o.0 d o.1)

abbrev pub Read : List ℕ → Type 0
Read cs = (es : List Step) × Derives language (Rule 0 ∷ []) cs es

pub derives_of : (ts : List Token) → IsUnit ts → Read (classes ts)
derives_of ts u =
    let d : (es : List Step) × IsDerived (placed 0 ts) u.0 es = derived (placed 0 ts) u.0 u.1 in
    (d.0, subst (λ cs. Derives language (Rule 0 ∷ []) cs d.0) (placed_classes ts 0) d.1.derives)

begins_of : (ts : List Token) (cs : List ℕ) (es : List Step) → Derives language (Rule 0 ∷ []) (classes ts ++ cs) es → Begins ts
begins_of ts cs es d =
    let real : Reals cs = reals_behind (classes ts) cs (reals d refl) in
    let same : classes ts ++ cs ≡ classes (ts ++ tokens_for cs) = ap (λ l. classes ts ++ l) (sym (classes_for cs real)) ∙ sym (join ts (tokens_for cs)) in
    (tokens_for cs, unit_of es (ts ++ tokens_for cs) (subst (λ l. Derives language (Rule 0 ∷ []) l es) same d))

-- the first bad class is that of the first bad token
pub first_bad : (ts : List Token) (k : ℕ) → FirstBad language (Rule 0 ∷ []) (classes ts) k → IsFirstBad ts (k + 1) (line_at k ts)
first_bad ts k b =
    let within : k ≤ length (classes ts) = b.within in
    let same : (k + 1) - 1 ≡ k = omega arith in
    let size : length (classes ts) ≡ length ts = many ts in
    let begun : Derives language (Rule 0 ∷ []) (classes (take k ts) ++ b.before.0) b.before.1 = subst (λ l. Derives language (Rule 0 ∷ []) (l ++ b.before.0) b.before.1) (front k ts) b.before.2 in
    record {
      within = (omega arith, omega (arith, within, size));
      before = subst (λ n. Begins (take n ts)) (sym same) (begins_of (take k ts) b.before.0 b.before.1 begun);
      after = λ lt u.
          let r : Read (classes (take (k + 1) ts ++ u.0)) = derives_of (take (k + 1) ts ++ u.0) u.1 in
          let cs : classes (take (k + 1) ts ++ u.0) ≡ take (k + 1) (classes ts) ++ classes u.0 = join (take (k + 1) ts) u.0 ∙ ap (λ l. l ++ classes u.0) (sym (front (k + 1) ts)) in
          b.after (omega (arith, lt, size)) (classes u.0) r.0 (subst (λ l. Derives language (Rule 0 ∷ []) l r.0) cs r.1);
      whole = λ u. let r : Read (classes ts) = derives_of ts u in b.whole r.0 r.1;
      on_line = ap (λ n. line_at n ts) (sym same);
    }

-- the classes that the parser was given are those of the tokens
pub derives_tokens : (t : Tables) (ts : List Token) (cs : List ℕ) (es : List Step) → grammar_in t ≡ language → cs ≡ classes ts
    → Derives (grammar_in t) (Rule 0 ∷ []) cs es → Derives language (Rule 0 ∷ []) (map class_of (map (λ t. t.kind) ts)) es
derives_tokens t ts cs es g same d =
    let e : Derives language (Rule 0 ∷ []) cs es = subst (λ l. Derives l (Rule 0 ∷ []) cs es) g d in
    subst (λ l. Derives language (Rule 0 ∷ []) l es) (same ∙ sym (two_maps ts)) e

pub bad_token : (t : Tables) (ts : List Token) (cs : List ℕ) (e : Refusal) (k : ℕ) → grammar_in t ≡ language → cs ≡ classes ts
    → e ≡ Syntax k → IsCause (grammar_in t) (Rule 0 ∷ []) cs e → IsFirstBad ts (k + 1) (line_at k ts)
bad_token t ts cs e k g same is cause =
    let bad : FirstBad (grammar_in t) (Rule 0 ∷ []) cs k = subst (λ x. IsCause (grammar_in t) (Rule 0 ∷ []) cs x) is cause in
    let there : FirstBad language (Rule 0 ∷ []) cs k = subst (λ l. FirstBad l (Rule 0 ∷ []) cs k) g bad in
    first_bad ts k (subst (λ l. FirstBad language (Rule 0 ∷ []) l k) same there)

-- a derivation whose steps tell a depth above 200
pub deep_fault : (es : List Step) (ts : List Token) (n line : ℕ) → Derives language (Rule 0 ∷ []) (map class_of (map (λ t. t.kind) ts)) es
    → ((o : Outline) → run sisal plan es (placed 0 ts) ≡ Some (value.AnOutline o ∷ []) → n ≡ min (depth_of o.items) 201)
    → ((o : Outline) → run sisal plan es (placed 0 ts) ≡ Some (value.AnOutline o ∷ []) → 200 < n → PassesAt 200 o.items line)
    → 200 < n → IsTooDeep ts line
deep_fault es ts n line d depth at deep =
    let e : Derives language (Rule 0 ∷ []) (classes ts) es = subst (λ cs. Derives language (Rule 0 ∷ []) cs es) (two_maps ts) d in
    let o : Outlined es (placed 0 ts) = outlined es ts e in
    let k : n ≡ min (depth_of o.0.items) 201 = depth o.0 o.1 in
    record { outline = o.0; spelled = spelled_by es ts o.0 e o.1; deep = omega (arith, k, deep); passes = at o.0 o.1 deep }

-- a unit that its steps give
pub spelled_of : (es : List Step) (ts : List Token) (o : Outline) → Derives language (Rule 0 ∷ []) (map class_of (map (λ t. t.kind) ts)) es
    → run sisal plan es (placed 0 ts) ≡ Some (value.AnOutline o ∷ []) → Spells unit (placed 0 ts) o
spelled_of es ts o d r = spelled_by es ts o (subst (λ cs. Derives language (Rule 0 ∷ []) cs es) (two_maps ts) d) r

pub shallow : (n d : ℕ) → n ≡ min d 201 → n ≤ 200 → d ≤ 200
shallow n d e h = omega (arith, e, h)
