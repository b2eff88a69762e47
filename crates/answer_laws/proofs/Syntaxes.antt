-- The unit that bytes are, and why they are none.
use Rattle.std.proofs.Common.{◌≡◌, ◌≤◌, ◌<◌, ◌∙◌, ℕ, zero, suc, ◌+◌, ◌-◌, List, length, Result, Ok, Err, refl, sym, ap, subst, arith, ◌⊎◌, inl, inr}
use Rattle.sisal_lex.specs.Tokens.{tokens_of}
use Rattle.sisal_lex.specs.declared.fault.LexFault.{LexFault}
use Rattle.sisal_lex.specs.declared.fault.LexFault.TheVariants as lexer
use Rattle.sisal_lex.specs.declared.token.Token.{Token}
use Rattle.sisal_lex.specs.declared.token.Tokens.{Tokens}
use Rattle.sisal_grammar.specs.declared.value.Outline.{Outline}
use Rattle.sisal_grammar.specs.declared.value.Placed.{Placed}
use Rattle.sisal_grammar.specs.Phrases.{unit}
use Rattle.sisal_grammar.specs.Placed.{placed}
use Rattle.sisal_grammar.specs.Spells.{Spells}
use Rattle.sisal_parse.specs.Faults.{IsUnit, IsFirstBad, line_at}
use Rattle.sisal_parse.specs.Units.{outline}
use Rattle.sisal_tree.specs.Depth.{depth_of}
use Rattle.sisal_tree.specs.declared.unit.Unit as tree
use Rattle.one_meaning.proofs.Words.{longer}
use Rattle.sisal_top.specs.Program.{most_bytes, IsUnitOf, IsBadUnit, IsRefused}
use Rattle.sisal_top.specs.Status.{of_lexer}
use Rattle.sisal_top.specs.declared.status.Status.{Status}
use Rattle.sisal_top.specs.declared.status.Status.TheVariants as status
use Rattle.sisal_top.specs.declared.status.SyntaxFault.{SyntaxFault}
use Rattle.sisal_top.specs.declared.status.SyntaxFault.TheVariants as syntax
use Rattle.sisal_top.proofs.Lengths.{tokens_long}
use Rattle.answer_laws.specs.Alike.{AreAlike, same, depths}

-- ---- equal statuses

pub alike_if : (s t : Status) → s ≡ t → AreAlike s t
alike_if s t e = subst (AreAlike s) e same

same_fault : (e f : LexFault) (r : Result Tokens LexFault) → r ≡ Err e → r ≡ Err f → e ≡ f
same_fault e f (Ok t) a b = cc
same_fault e f (Err g) a b = let p : g ≡ e = cc in let q : g ≡ f = cc in sym p ∙ q

pub same_tokens : (s t : Tokens) (r : Result Tokens LexFault) → r ≡ Ok s → r ≡ Ok t → s ≡ t
same_tokens s t (Err g) a b = cc
same_tokens s t (Ok x) a b = let p : x ≡ s = cc in let q : x ≡ t = cc in sym p ∙ q

pub no_tokens : (e : LexFault) (t : Tokens) (r : Result Tokens LexFault) → r ≡ Err e → r ≡ Ok t → ⊥
no_tokens e t (Ok x) a b = cc
no_tokens e t (Err g) a b = cc

-- ---- the first bad token

order : (a b : ℕ) → (a < b) ⊎ ((b < a) ⊎ (a ≡ b))
order zero zero = inr (inr refl)
order zero (suc b) = inl (omega arith)
order (suc a) zero = inr (inl (omega arith))
order (suc a) (suc b) = elim (order a b) [
  | inl h ↦ inl (omega (arith, h))
  | inr (inl h) ↦ inr (inl (omega (arith, h)))
  | inr (inr h) ↦ inr (inr (ap suc h))
]

no_later : (ts : List Token) (n m l k : ℕ) → IsFirstBad ts n l → IsFirstBad ts m k → n < m → ⊥
no_later ts n m l k p q h =
    let within : m ≤ length ts + 1 = q.within.1 in
    let r = longer n (m - 1) ts q.before.0 (omega (arith, h)) in
    p.after (omega (arith, h, within)) (r.0, subst IsUnit r.1 q.before.1)

same_number : (ts : List Token) (n m l k : ℕ) → IsFirstBad ts n l → IsFirstBad ts m k → n ≡ m
same_number ts n m l k p q = elim (order n m) [
  | inl h ↦ absurd (no_later ts n m l k p q h)
  | inr (inl h) ↦ absurd (no_later ts m n k l q p h)
  | inr (inr h) ↦ h
]

token_one : (ts : List Token) (n m l k : ℕ) → IsFirstBad ts n l → IsFirstBad ts m k → syntax.Token n l ≡ syntax.Token m k
token_one ts n m l k p q =
    let number = same_number ts n m l k p q in
    ap (λ i. syntax.Token i l) number ∙ ap (λ i. syntax.Token m i) (p.on_line ∙ ap (λ i. line_at (i - 1) ts) number ∙ sym q.on_line)

bad_one : (ts : List Token) (f g : SyntaxFault) → IsBadUnit ts f → IsBadUnit ts g → AreAlike (status.Syntax f) (status.Syntax g)
bad_one ts (syntax.BadByte l) g p q = absurd p
bad_one ts (syntax.NumberTooWide l) g p q = absurd p
bad_one ts (syntax.OpenText l) g p q = absurd p
bad_one ts f (syntax.BadByte l) p q = absurd q
bad_one ts f (syntax.NumberTooWide l) p q = absurd q
bad_one ts f (syntax.OpenText l) p q = absurd q
bad_one ts (syntax.Token n l) (syntax.Token m k) p q = alike_if (status.Syntax (syntax.Token n l)) (status.Syntax (syntax.Token m k)) (ap status.Syntax (token_one ts n m l k p q))
bad_one ts (syntax.Token n l) (syntax.TooDeep k) p q = absurd (p.whole (q.outline, q.spelled))
bad_one ts (syntax.TooDeep l) (syntax.Token m k) p q = absurd (q.whole (p.outline, p.spelled))
bad_one ts (syntax.TooDeep l) (syntax.TooDeep k) p q = depths

-- bytes are refused for one fault
pub refused_one : (bytes : List ℕ) (f g : SyntaxFault) → IsRefused bytes f → IsRefused bytes g → AreAlike (status.Syntax f) (status.Syntax g)
refused_one bytes f g (inl p) (inl q) =
    let e : p.0 ≡ q.0 = same_fault p.0 q.0 (tokens_of bytes) p.1 q.1 in
    alike_if (status.Syntax f) (status.Syntax g) (sym p.2 ∙ ap of_lexer e ∙ q.2)
refused_one bytes f g (inl p) (inr q) = absurd (no_tokens p.0 q.0 (tokens_of bytes) p.1 q.1)
refused_one bytes f g (inr p) (inl q) = absurd (no_tokens q.0 p.0 (tokens_of bytes) q.1 p.1)
refused_one bytes f g (inr p) (inr q) =
    let e : p.0 ≡ q.0 = same_tokens p.0 q.0 (tokens_of bytes) p.1 q.1 in
    bad_one q.0.list f g (subst (λ (t : Tokens). IsBadUnit t.list f) e p.2) q.2

-- bytes that are too long have no such fault, and are no unit
pub long_refused : (bytes : List ℕ) (f : SyntaxFault) → most_bytes < length bytes → IsRefused bytes f → ⊥
long_refused bytes f l (inl p) =
    let e : p.0 ≡ lexer.TooLong = same_fault p.0 lexer.TooLong (tokens_of bytes) p.1 (tokens_long bytes l) in
    let c : status.TooLong ≡ status.Syntax f = sym (ap of_lexer e) ∙ p.2 in cc
long_refused bytes f l (inr p) = no_tokens lexer.TooLong p.0 (tokens_of bytes) (tokens_long bytes l) p.1

pub long_unit : (bytes : List ℕ) (u : tree.Unit) → most_bytes < length bytes → IsUnitOf bytes u → ⊥
long_unit bytes u l p = no_tokens lexer.TooLong u.tokens (tokens_of bytes) (tokens_long bytes l) p.lexed

-- ---- units

abbrev made : Tokens → Outline → tree.Unit
made t o = record { tokens = t; defines = o.defines; items = o.items }

module _ (one : (tokens : List Placed) (o p : Outline) → Spells unit tokens o → Spells unit tokens p → o ≡ p) where
  bad_unit : (bytes : List ℕ) (u : tree.Unit) (f : SyntaxFault) → IsUnitOf bytes u → IsBadUnit u.tokens.list f → ⊥
  bad_unit bytes u (syntax.BadByte l) p q = q
  bad_unit bytes u (syntax.NumberTooWide l) p q = q
  bad_unit bytes u (syntax.OpenText l) p q = q
  bad_unit bytes u (syntax.Token n l) p q = q.whole (outline u, p.spelled)
  bad_unit bytes u (syntax.TooDeep l) p q =
      let e : q.outline ≡ outline u = one (placed 0 u.tokens.list) q.outline (outline u) q.spelled p.spelled in
      let deep : 200 < depth_of u.items = subst (λ (o : Outline). 200 < depth_of o.items) e q.deep in
      let shallow : depth_of u.items ≤ 200 = p.shallow in
      omega (arith, deep, shallow)

  pub unit_refused : (bytes : List ℕ) (u : tree.Unit) (f : SyntaxFault) → IsUnitOf bytes u → IsRefused bytes f → ⊥
  unit_refused bytes u f p (inl q) = no_tokens q.0 u.tokens (tokens_of bytes) q.1 p.lexed
  unit_refused bytes u f p (inr q) =
      let e : q.0 ≡ u.tokens = same_tokens q.0 u.tokens (tokens_of bytes) q.1 p.lexed in
      bad_unit bytes u f p (subst (λ (t : Tokens). IsBadUnit t.list f) e q.2)

  pub unit_one : (bytes : List ℕ) (u v : tree.Unit) → IsUnitOf bytes u → IsUnitOf bytes v → u ≡ v
  unit_one bytes u v p q =
      let t : u.tokens ≡ v.tokens = same_tokens u.tokens v.tokens (tokens_of bytes) p.lexed q.lexed in
      let o : outline u ≡ outline v = one (placed 0 v.tokens.list) (outline u) (outline v) (subst (λ (t : Tokens). Spells unit (placed 0 t.list) (outline u)) t p.spelled) q.spelled in
      ap (λ t. made t (outline u)) t ∙ ap (λ o. made v.tokens o) o
