-- Tokens of each class that the grammar has.
use Rattle.std.proofs.Common.{◌≡◌, ℕ, ◌<◌, pos, List, [], ◌∷◌, ◌++◌, Bool, true, false, if◌then◌else◌, ◌&&◌, nat_eq, map, refl, sym, ◌∙◌, ap}
use Rattle.std.proofs.lemmas.Bool.{eqb-true}
use Rattle.pushdown.specs.Grammar.{Grammar, Derives, end, read, expand}
use Rattle.pushdown.specs.declared.Step.{Step}
use Rattle.pushdown.specs.declared.Symbol.{Symbol}
use Rattle.pushdown.specs.declared.Symbol.TheVariants.{Want, Rule}
use Rattle.pushdown.specs.Rows.{each_below}
use Rattle.pushdown.proofs.RowTests.{each_holds}
use Rattle.sisal_lex.specs.declared.token.Kind.{Kind}
use Rattle.sisal_lex.specs.declared.token.Kind.TheVariants as kind
use Rattle.sisal_lex.specs.declared.token.Token.{Token}
use Rattle.sisal_grammar.specs.Classes.{class_of}
use Rattle.sisal_grammar.specs.Language.{language}
use Rattle.sisal_grammar.proofs.TokenClasses.{kind_at}

-- a token of a class
abbrev pub token_of : ℕ → Token
token_of c = record { kind = if nat_eq c 2 then kind.Id 0 else (if nat_eq c 42 then kind.Number (pos 0) else (if nat_eq c 44 then kind.Quoted [] else kind_at c)); line = 0 }

abbrev is_real : ℕ → Bool
is_real c = nat_eq (class_of (token_of c).kind) c

abbrev are_real : List Symbol → Bool
are_real [] = true
are_real (Want c ∷ s) = is_real c && are_real s
are_real (Rule n ∷ s) = are_real s

both : (a b : Bool) → (a && b) ≡ true → (a ≡ true) × (b ≡ true)
both true b h = (refl, h)
both false b h = let x : false ≡ true = h in cc

all_real : each_below language.productions (λ p. are_real (language.body p)) ≡ true
unfolding language kind_at
all_real = refl

join : (a b : List Symbol) → are_real a ≡ true → are_real b ≡ true → are_real (a ++ b) ≡ true
join [] b h k = k
join (Want c ∷ a) b h k =
    let x : (is_real c ≡ true) × (are_real a ≡ true) = both (is_real c) (are_real a) h in
    ap (λ y. y && are_real (a ++ b)) x.0 ∙ join a b x.1 k
join (Rule n ∷ a) b h k = join a b h k

-- each of these classes is that of a token
abbrev pub Reals : List ℕ → Type 0
Reals [] = Unit {0}
Reals (c ∷ cs) = (class_of (token_of c).kind ≡ c) × Reals cs

pub reals : {s : List Symbol} {cs : List ℕ} {ps : List Step} → Derives language s cs ps → are_real s ≡ true → Reals cs
reals end h = tt
reals (read {c} {s} {cs} {ps} d) h =
    let x : (is_real c ≡ true) × (are_real s ≡ true) = both (is_real c) (are_real s) h in
    (eqb-true (class_of (token_of c).kind) c x.0, reals d x.1)
reals (expand {n} {p} {s} lt e d) h = reals d (join (language.body p) s (each_holds language.productions (λ q. are_real (language.body q)) all_real p lt) h)

pub reals_behind : (bs cs : List ℕ) → Reals (bs ++ cs) → Reals cs
reals_behind [] cs r = r
reals_behind (b ∷ bs) cs r = reals_behind bs cs r.1

pub tokens_for : List ℕ → List Token
tokens_for [] = []
tokens_for (c ∷ cs) = token_of c ∷ tokens_for cs

-- their classes
pub classes_for : (cs : List ℕ) → Reals cs → map (λ t. class_of t.kind) (tokens_for cs) ≡ cs
unfolding tokens_for
classes_for [] r = refl
classes_for (c ∷ cs) r = ap (λ x. x ∷ map (λ t. class_of t.kind) (tokens_for cs)) r.0 ∙ ap (λ l. c ∷ l) (classes_for cs r.1)
