-- Parts and items that are looked at one after another.
use Rattle.std.proofs.Common.{◌≡◌, ℕ, zero, suc, ◌+◌, ◌-◌, ◌<◌, ◌≤◌, List, [], ◌∷◌, Option, Some, None, refl, sym, ap, ◌∙◌, arith}
use Rattle.flow_value.specs.declared.ty.Ty.{Ty}
use Rattle.value_text.specs.Tokens.{◌>>=◌, sign_in, item_in, past_blanks, or_else}
use Rattle.value_text.specs.Reading.{with_rest}
use Rattle.value_text.specs.Faults.{type_at}
use Rattle.value_text.specs.Surveying.{Look, LookParts, Looker, one_more, items_look, with_look, parts_look}

abbrev pub counted : ℕ → Option (ℕ × List ℕ) → Option (ℕ × List ℕ)
counted k None = None
counted k (Some p) = Some (k + p.0, p.1)

abbrev pub joined_looks : ℕ → Option ℕ → Option LookParts → Option LookParts
joined_looks k w None = None
joined_looks k w (Some p) = Some ((k + p.0.0, or_else w p.0.1), p.1)

pub one_less : (n k : ℕ) → k < n → n - k ≡ suc (n - (k + 1))
one_less n k h = omega arith

counted_more : (k : ℕ) (o : Option (ℕ × List ℕ)) → counted k (one_more o) ≡ counted (k + 1) o
counted_more k None = refl
counted_more k (Some p) = let e : k + (p.0 + 1) ≡ k + 1 + p.0 = omega arith in ap (λ (n : ℕ). Some (n, p.1)) e

pub items_more : (n k : ℕ) (s : List ℕ) (c : ℕ) (a : List ℕ) → k < n → sign_in 34 s ≡ None → item_in 34 s ≡ Some (c, a) → counted k (items_look (n - k) s) ≡ counted (k + 1) (items_look (n - (k + 1)) a)
unfolding items_look
items_more n k s c a h e f = rw (one_less n k h, e, f) (counted_more k (items_look (n - (k + 1)) a))

or_else_three : (a b c : Option ℕ) → or_else a (or_else b c) ≡ or_else (or_else a b) c
or_else_three None b c = refl
or_else_three (Some x) b c = refl

pub joined_more : (k : ℕ) (w v : Option ℕ) (o : Option LookParts) → joined_looks k w (with_look v o) ≡ joined_looks (k + 1) (or_else w v) o
joined_more k w v None = refl
joined_more k w v (Some p) =
    let e : k + (p.0.0 + 1) ≡ k + 1 + p.0.0 = omega arith in
    rw (e, or_else_three w v p.0.1) refl

pub parts_more : (part : Looker) (ty : Option Ty) (fs : List (List ℕ × Ty)) (close n k : ℕ) (w v : Option ℕ) (s a : List ℕ) → k < n → sign_in close s ≡ None → part (type_at ty fs k) s ≡ Some (v, a) → joined_looks k w (parts_look part ty fs close (n - k) k s) ≡ joined_looks (k + 1) (or_else w v) (parts_look part ty fs close (n - (k + 1)) (k + 1) (past_blanks a))
unfolding parts_look
parts_more part ty fs close n k w v s a h e f = rw (one_less n k h, e, f) (joined_more k w v (parts_look part ty fs close (n - (k + 1)) (k + 1) (past_blanks a)))
