-- Pieces of the tokens of a text: their places follow one another, and those that are a type are so where the text has them.
use Rattle.std.proofs.Common.{◌≡◌, ℕ, zero, suc, ◌+◌, ◌-◌, ◌<◌, ◌≤◌, List, [], ◌∷◌, ◌++◌, length, take, drop, slice_range, refl, sym, ap, subst, ◌∙◌, arith, append_assoc, append-nil, length-append}
use Rattle.std.specs.Prelude.{slice_index_or}
use Rattle.std.proofs.lemmas.List.Elements.{All-head, All-tail}
use Rattle.std.proofs.Math.Seq.{take-append_seam, drop-append_seam}
use Rattle.sisal_lex.specs.declared.token.Token.{Token}
use Rattle.sisal_lex.specs.declared.token.Kind.{Kind}
use Rattle.sisal_lex.specs.declared.token.Kind.TheVariants as kind
use Rattle.sisal_tree.specs.declared.unit.Written.{Written}
use Rattle.sisal_grammar.specs.declared.value.Placed.{Placed}
use Rattle.sisal_grammar.specs.Acts.{name_in, name_of, span}
use Rattle.sisal_grammar.specs.Phrases.{ty}
use Rattle.sisal_grammar.specs.Placed.{placed}
use Rattle.sisal_grammar.specs.Spells.{IsName, Spells}
use Rattle.text_trees.specs.Spelled.{IsType, AreNamed}

placed_counted : (n : ℕ) (ts : List Token) → length (placed n ts) ≡ length ts
placed_counted n [] = refl
placed_counted n (t ∷ ts) = ap suc (placed_counted (n + 1) ts)

at_place : (n k : ℕ) (ts : List Token) (d : Placed) → k < length ts → (slice_index_or (placed n ts) k d).place ≡ n + k
at_place n k [] d lt = absurd (omega (arith, lt))
at_place n zero (t ∷ ts) d lt = omega arith
at_place n (suc k) (t ∷ ts) d lt = let rest = at_place (n + 1) k ts d (omega (arith, lt)) in omega (arith, rest)

index_here : (xs : List Placed) (t : Placed) (ys : List Placed) (d : Placed) → slice_index_or (xs ++ (t ∷ ys)) (length xs) d ≡ t
index_here [] t ys d = refl
index_here (x ∷ xs) t ys d = index_here xs t ys d

module _ (tokens : List Token) (names : ℕ) where
  -- these stand one after another in the text
  pub record IsPiece (ts : List Placed) : Type 0 where
    pub before : List Placed
    pub after : List Placed
    pub is : before ++ (ts ++ after) ≡ placed 0 tokens

  abbrev pub IsLow : Kind → Type 0
  IsLow k = (x : ℕ) → k ≡ kind.Id x → x < names

  -- such tokens, each name of which is one of so many
  abbrev pub AreTold : List Placed → Type 0
  AreTold [] = Unit {0}
  AreTold (t ∷ ts) = (IsLow t.kind × IsPiece (t ∷ ts)) × AreTold ts

  front : (xs ys : List Placed) → IsPiece (xs ++ ys) → IsPiece xs
  front xs ys p = record { before = p.before; after = ys ++ p.after; is = ap (λ zs. p.before ++ zs) (sym (append_assoc xs ys p.after)) ∙ p.is }

  abbrev back : (xs ys : List Placed) → IsPiece (xs ++ ys) → IsPiece ys
  back xs ys p = record {
    before = p.before ++ xs;
    after = p.after;
    is = append_assoc p.before xs (ys ++ p.after) ∙ ap (λ zs. p.before ++ zs) (sym (append_assoc xs ys p.after)) ∙ p.is;
  }

  told_left : (xs ys : List Placed) → AreTold (xs ++ ys) → AreTold xs
  told_left [] ys p = tt
  told_left (x ∷ xs) ys p = ((p.0.0, front (x ∷ xs) ys p.0.1), told_left xs ys p.1)

  told_right : (xs ys : List Placed) → AreTold (xs ++ ys) → AreTold ys
  told_right [] ys p = p
  told_right (x ∷ xs) ys p = told_right xs ys p.1

  told_from : (n : ℕ) (ts : List Token) (before : List Placed) → before ++ placed n ts ≡ placed 0 tokens → AreNamed names ts → AreTold (placed n ts)
  told_from n [] before e named = tt
  told_from n (t ∷ ts) before e named =
      let u : Placed = record { place = n; kind = t.kind; line = t.line } in (
        (All-head (λ (t : Token). IsLow t.kind) t ts named, record { before = before; after = []; is = ap (λ zs. before ++ zs) (append-nil (placed n (t ∷ ts))) ∙ e }),
        told_from (n + 1) ts (before ++ (u ∷ [])) (append_assoc before (u ∷ []) (placed (n + 1) ts) ∙ e) (All-tail (λ (t : Token). IsLow t.kind) t ts named),
      )

  -- such tokens where so many names are in force: each may bring one more into force, and there are levels for all
  pub record Told (h : ℕ) (ts : List Placed) : Type 0 where
    pub each : AreTold ts
    pub room : h + length ts ≤ 4294967295
    pub few : length ts ≤ 4194304

  pub left : {h : ℕ} (xs ys : List Placed) → Told h (xs ++ ys) → Told h xs
  left xs ys p = let all = length-append xs ys in record { each = told_left xs ys p.each; room = omega (arith, p.room, all); few = omega (arith, p.few, all) }

  -- where earlier tokens have brought names into force
  pub raised : {h : ℕ} (n : ℕ) (xs ys : List Placed) → n ≤ length xs → Told h (xs ++ ys) → Told (h + n) ys
  raised n xs ys le p = let all = length-append xs ys in record { each = told_right xs ys p.each; room = omega (arith, p.room, le, all); few = omega (arith, p.few, all) }

  pub right : {h : ℕ} (xs ys : List Placed) → Told h (xs ++ ys) → Told h ys
  right xs ys p = let all = length-append xs ys in record { each = told_right xs ys p.each; room = omega (arith, p.room, all); few = omega (arith, p.few, all) }

  pub next : {h : ℕ} {t : Placed} {ts : List Placed} → Told h (t ∷ ts) → Told h ts
  next p = record { each = p.each.1; room = omega (arith, p.room); few = omega (arith, p.few) }

  -- the same height, said otherwise
  pub at_height : {h : ℕ} {ts : List Placed} (k : ℕ) → Told h ts → k ≡ h → Told k ts
  at_height k p e = record { each = p.each; room = omega (arith, p.room, e); few = p.few }

  -- with as many names in force as a text can have
  pub anywhere : {h : ℕ} {ts : List Placed} (k : ℕ) → k ≤ 4194304 → Told h ts → Told k ts
  anywhere k le p = record { each = p.each; room = omega (arith, p.few, le); few = p.few }

  -- so are all tokens of the text
  pub tokens_told : AreNamed names tokens → length tokens ≤ 4194304 → Told 0 (placed 0 tokens)
  tokens_told named few = let all = placed_counted 0 tokens in record { each = told_from 0 tokens [] refl named; room = omega (arith, few, all); few = omega (arith, few, all) }

  pub name_low : (t : Placed) → IsName t → IsLow t.kind → name_in t < names
  name_low t i low = subst (λ k. name_of k < names) (sym i.is) (low i.number i.is)

  -- ---- places

  counted : (ts : List Placed) (p : IsPiece ts) → length p.before + (length ts + length p.after) ≡ length tokens
  counted ts p =
      ap (λ n. length p.before + n) (sym (length-append ts p.after)) ∙ sym (length-append p.before (ts ++ p.after)) ∙ ap length p.is ∙ placed_counted 0 tokens

  first_place : (t : Placed) (ts : List Placed) (p : IsPiece (t ∷ ts)) → t.place ≡ length p.before
  first_place t ts p =
      let all = counted (t ∷ ts) p in
      let there : t.place ≡ 0 + length p.before = (
      ap (λ (u : Placed). u.place) (sym (index_here p.before t (ts ++ p.after) t)) ∙ ap (λ us. (slice_index_or us (length p.before) t).place) p.is
      ∙ at_place 0 (length p.before) tokens t (omega (arith, all))) in
      omega (arith, there)

  last_place : (xs : List Placed) (v : Placed) (p : IsPiece (xs ++ (v ∷ []))) → v.place ≡ length p.before + length xs
  last_place xs v p = first_place v [] (back xs (v ∷ []) p) ∙ length-append p.before xs

  -- ---- types

  type_at : (ts : List Placed) (w : Written) (p : IsPiece ts) → w.from ≡ length p.before → w.to ≡ length p.before + length ts → Spells ty ts w → IsType tokens w
  type_at ts w p from to s =
      let all = counted ts p in
      let size : w.to - w.from ≡ length ts = omega (arith, from, to) in
      let there : slice_range (placed 0 tokens) w.from w.to ≡ ts = (
      ap (λ us. take (w.to - w.from) (drop w.from us)) (sym p.is) ∙ ap (λ n. take (w.to - w.from) (drop n (p.before ++ (ts ++ p.after)))) from
      ∙ ap (λ us. take (w.to - w.from) us) (drop-append_seam p.before (ts ++ p.after)) ∙ ap (λ n. take n (ts ++ p.after)) size ∙ take-append_seam ts p.after) in
      record { ordered = omega (arith, from, to); within = omega (arith, to, all); spelled = subst (λ us. Spells ty us w) (sym there) s }

  -- a type of one token
  pub one_type : (t : Placed) → IsPiece (t ∷ []) → Spells ty (t ∷ []) (span t t) → IsType tokens (span t t)
  one_type t p s =
      let from = first_place t [] p in
      type_at (t ∷ []) (span t t) p from (omega (arith, from)) s

  -- a type of more
  pub more_type : (t : Placed) (xs : List Placed) (v : Placed) → IsPiece (t ∷ (xs ++ (v ∷ []))) → Spells ty (t ∷ (xs ++ (v ∷ []))) (span t v) → IsType tokens (span t v)
  more_type t xs v p s =
      let from = first_place t (xs ++ (v ∷ [])) p in
      let last = last_place (t ∷ xs) v p in
      let all = length-append xs (v ∷ []) in
      type_at (t ∷ (xs ++ (v ∷ []))) (span t v) p from (omega (arith, last, all)) s

  -- a `union`
  pub union_there : (t u : Placed) (xs ys zs : List Placed) (v : Placed) → IsPiece (t ∷ u ∷ (xs ++ (ys ++ (zs ++ (v ∷ []))))) → Spells ty (t ∷ u ∷ (xs ++ (ys ++ (zs ++ (v ∷ []))))) (span t v)
      → IsType tokens (span t v)
  union_there t u xs ys zs v p s =
      let same : (xs ++ (ys ++ zs)) ++ (v ∷ []) ≡ xs ++ (ys ++ (zs ++ (v ∷ []))) = append_assoc xs (ys ++ zs) (v ∷ []) ∙ ap (λ us. xs ++ us) (append_assoc ys zs (v ∷ [])) in
      more_type t (u ∷ (xs ++ (ys ++ zs))) v (subst (λ us. IsPiece (t ∷ u ∷ us)) (sym same) p) (subst (λ us. Spells ty (t ∷ u ∷ us) (span t v)) (sym same) s)
