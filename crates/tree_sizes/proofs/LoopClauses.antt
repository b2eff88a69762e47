-- Sizes of clauses, one after another.
use Rattle.std.proofs.Common.{◌≡◌, ◌∙◌, ℕ, zero, suc, ◌+◌, ◌*◌, ◌≤◌, ◌<◌, Bool, List, [], ◌∷◌, length, drop, get_or, sym, ap, refl, arith, drop_of_length-le}
use Rattle.std.proofs.Math.Seq.{drop-cons}
use Rattle.std.specs.Prelude.{◌^◌, ◌-◌, min}
use Rattle.loop_folds.specs.declared.masking.Masking.{Masking}
use Rattle.loop_folds.specs.declared.masking.Masking.TheVariants as masking
use Rattle.typed_tree.specs.declared.expr.ClauseForm.{ClauseForm}
use Rattle.lowering.specs.Loops.{span}
use Rattle.lowered_sizes.specs.declared.sizes.Sizes.{Sizes}
use Rattle.lowered_sizes.specs.Counting.{only, beside, capped}
use Rattle.lowered_sizes.specs.Forms.{returns_sized, fold_sized}
use Rattle.tree_sizes.specs.Clauses.{clause_sized}
use Rattle.tree_sizes.proofs.Kept.{beside-none, none-beside, beside-both}

none-left : (b : Bool) (cs : List ClauseForm) (m : ℕ) → returns_sized b cs m 0 ≡ only 0
none-left b [] m = refl
none-left b (c ∷ cs) m = refl

pub clause-first : (b : Bool) (c : ClauseForm) (cs : List ClauseForm) (m k : ℕ)
    → returns_sized b (c ∷ cs) m k ≡ beside (clause_sized b c m k) (returns_sized b cs (m - span c.masking) (k - 1))
clause-first b c cs m zero = sym (beside-none (only 0)) ∙ ap (beside (only 0)) (sym (none-left b cs (m - span c.masking)))
clause-first b c cs m (suc k) =
    let less : k ≡ suc k - 1 = omega arith in
    ap (λ j. beside (fold_sized b c.folding (min (span c.masking) m)) (returns_sized b cs (m - span c.masking) j)) less

pub span-small : (m : Masking) → span m ≤ 2
span-small masking.All = omega arith
span-small masking.When = omega arith
span-small masking.Unless = omega arith

left-of : (M m b a n : ℕ) → b + n ≤ M → a ≡ min m M - b → min n a ≡ min n (m - b)
left-of M m b a n f e = omega (arith, e, f)

small : (b i n : ℕ) → b ≤ 2 * i → i < 2 ^ 64 → n ≤ 2 → b + n ≤ 2 ^ 128 - 1
small b i n f g h = omega (arith, f, g, h)

-- what is left of a number that is kept, less no more than two at each of so many steps
pub left-kept : (m b a i n : ℕ) → b ≤ 2 * i → i < 2 ^ 64 → n ≤ 2 → a ≡ capped m - b → min n a ≡ min n (m - b)
left-kept m b a i n f g h e = left-of (2 ^ 128 - 1) m b a n (small b i n f g h) e

pub returns-start : (b : Bool) (cs : List ClauseForm) (m k : ℕ) → returns_sized b cs m k ≡ beside (only 0) (returns_sized b cs (m - 0) (k - 0))
returns-start b cs m k =
    let p : m ≡ m - 0 = omega arith in
    let q : k ≡ k - 0 = omega arith in
    ap (λ i. returns_sized b cs i k) p ∙ ap (returns_sized b cs (m - 0)) q ∙ sym (beside-none (returns_sized b cs (m - 0) (k - 0)))

pub less-none : (a x : ℕ) → a ≡ x → a ≡ x - 0
less-none a x e = omega (arith, e)

pub less-more : (a x b n : ℕ) → a ≡ x - b → a - n ≡ x - (b + n)
less-more a x b n e = omega (arith, e)

-- one clause further
pub returns-next : (lim : Bool) (cs : List ClauseForm) (i : ℕ) (x : ClauseForm) (m k b : ℕ) (s : Sizes) → i < length cs
    → returns_sized lim cs m k ≡ beside s (returns_sized lim (drop i cs) (m - b) (k - i))
    → returns_sized lim cs m k ≡ beside (beside s (clause_sized lim (get_or cs i x) (m - b) (k - i))) (returns_sized lim (drop (i + 1) cs) (m - (b + span (get_or cs i x).masking)) (k - (i + 1)))
returns-next lim cs i x m k b s lt h =
    let c = get_or cs i x in
    let a = clause_sized lim c (m - b) (k - i) in
    let cons : drop i cs ≡ c ∷ drop (suc i) cs = drop-cons cs i x lt in
    let step = ap (λ l. returns_sized lim l (m - b) (k - i)) cons ∙ clause-first lim c (drop (suc i) cs) (m - b) (k - i) in
    let p : suc i ≡ i + 1 = omega arith in
    let q : m - b - span c.masking ≡ m - (b + span c.masking) = omega arith in
    let r : k - i - 1 ≡ k - (i + 1) = omega arith in
    h ∙ ap (beside s) step ∙ sym (beside-both s a (returns_sized lim (drop (suc i) cs) (m - b - span c.masking) (k - i - 1)))
    ∙ ap (λ j. beside (beside s a) (returns_sized lim (drop j cs) (m - b - span c.masking) (k - i - 1))) p
    ∙ ap (λ j. beside (beside s a) (returns_sized lim (drop (i + 1) cs) j (k - i - 1))) q
    ∙ ap (λ j. beside (beside s a) (returns_sized lim (drop (i + 1) cs) (m - (b + span c.masking)) j)) r

-- past the last clause
pub returns-done : (lim : Bool) (cs : List ClauseForm) (i m k b : ℕ) (s : Sizes) → length cs ≤ i
    → returns_sized lim cs m k ≡ beside s (returns_sized lim (drop i cs) (m - b) (k - i)) → s ≡ returns_sized lim cs m k
returns-done lim cs i m k b s ge h =
    sym (h ∙ ap (λ l. beside s (returns_sized lim l (m - b) (k - i))) (drop_of_length-le cs ge) ∙ none-beside s)

none-of : (a k : ℕ) → a ≡ 0 → min 1 a ≡ min 1 k → k ≡ 0
none-of a k e f = omega (arith, e, f)

more-of : (a k : ℕ) → 0 < a → min 1 a ≡ min 1 k → k ≡ suc (k - 1)
more-of a k e f = omega (arith, e, f)

pub no-type : (b : Bool) (c : ClauseForm) (a m k : ℕ) → a ≡ 0 → min 1 a ≡ min 1 k → only 0 ≡ clause_sized b c m k
no-type b c a m k e f = sym (ap (clause_sized b c m) (none-of a k e f))

pub one-type : (b : Bool) (c : ClauseForm) (a m k : ℕ) → 0 < a → min 1 a ≡ min 1 k → fold_sized b c.folding (min (span c.masking) m) ≡ clause_sized b c m k
one-type b c a m k e f = sym (ap (clause_sized b c m) (more-of a k e f))

taken-of : (M n a m : ℕ) → n ≤ 2 → 2 ≤ M → min 2 a ≡ min 2 m → min n a ≡ min (min n m) M
taken-of M n a m e g f = omega (arith, e, f, g)

pub taken-kept : (n a m : ℕ) → n ≤ 2 → min 2 a ≡ min 2 m → min n a ≡ capped (min n m)
taken-kept n a m e f = taken-of (2 ^ 128 - 1) n a m e (omega arith) f
