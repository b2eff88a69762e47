-- Tokens with their places.
use Rattle.std.proofs.Common.{◌≡◌, ℕ, zero, suc, ◌+◌, ◌<◌, List, [], ◌∷◌, length, map, get_or, arith, refl, sym, ◌∙◌, ap}
use Rattle.sisal_lex.specs.declared.token.Kind.{Kind}
use Rattle.sisal_lex.specs.declared.token.Token.{Token}
use Rattle.sisal_grammar.specs.declared.value.Placed.{Placed}
use Rattle.sisal_grammar.specs.Classes.{class_of}
use Rattle.sisal_grammar.specs.Placed.{placed}

pub map_length : {A B : Type 0} (f : A → B) (xs : List A) → length (map f xs) ≡ length xs
map_length f [] = refl
map_length f (x ∷ xs) = ap (λ n. suc n) (map_length f xs)

pub placed_length : (ts : List Token) (n : ℕ) → length (placed n ts) ≡ length ts
placed_length [] n = refl
placed_length (t ∷ ts) n = ap (λ k. suc k) (placed_length ts (n + 1))

pub placed_classes : (ts : List Token) (n : ℕ) → map (λ t. class_of t.kind) (placed n ts) ≡ map class_of (map (λ t. t.kind) ts)
placed_classes [] n = refl
placed_classes (t ∷ ts) n = ap (λ cs. class_of t.kind ∷ cs) (placed_classes ts (n + 1))

abbrev pub placed_one : ℕ → Token → Placed
placed_one n t = record { place = n; kind = t.kind; line = t.line }

pub placed_at : (ts : List Token) (n k : ℕ) (d : Token) (e : Placed) → k < length ts → get_or (placed n ts) k e ≡ placed_one (n + k) (get_or ts k d)
placed_at [] n k d e h = absurd (omega (arith, h))
placed_at (t ∷ ts) n zero d e h =
    let same : n ≡ n + 0 = omega arith in
    ap (λ m. placed_one m t) same
placed_at (t ∷ ts) n (suc k) d e h =
    let less : k < length ts = omega (arith, h) in
    let same : (n + 1) + k ≡ n + suc k = omega arith in
    placed_at ts (n + 1) k d e less ∙ ap (λ m. placed_one m (get_or ts k d)) same

abbrev made : ℕ → Kind → ℕ → Placed
made n k l = record { place = n; kind = k; line = l }

-- what has the place, the kind and the line of the token at a place
pub placed_alike : (ts : List Token) (p q : ℕ) (k : Kind) (t : Token) (e : Placed) → p < length ts → q ≡ p → k ≡ t.kind → t ≡ get_or ts p t → made q k t.line ≡ get_or (placed 0 ts) p e
placed_alike ts p q k t e h place kind is =
    let zero_more : p ≡ 0 + p = omega arith in
    let there : made p t.kind t.line ≡ placed_one p (get_or ts p t) = ap (λ u. placed_one p u) is in
    let moved : placed_one p (get_or ts p t) ≡ placed_one (0 + p) (get_or ts p t) = ap (λ n. placed_one n (get_or ts p t)) zero_more in
    ap (λ n. made n k t.line) place ∙ (ap (λ x. made p x t.line) kind ∙ (there ∙ (moved ∙ sym (placed_at ts 0 p t e h))))
