-- Parts that are read one after another.
use Rattle.std.proofs.Common.{◌≡◌, ℕ, zero, suc, ◌+◌, ◌-◌, ◌<◌, ◌≤◌, List, [], ◌∷◌, ◌++◌, Option, Some, None, refl, sym, ap, ◌∙◌, append_assoc, arith}
use Rattle.flow_value.specs.declared.value.Val.{Val}
use Rattle.flow_value.specs.declared.ty.Ty.{Ty}
use Rattle.value_text.specs.Tokens.{◌>>=◌, sign_in, past_blanks, or_else}
use Rattle.std.proofs.Common.{ℤ}
use Rattle.flow_value.specs.declared.value.Val.TheVariants as val
use Rattle.value_text.specs.Reading.{Reader, many_in, fields_in, with_part, with_rest, bound_in, array_in, stream_in, array_read, part_in, value_in}

-- what was read before, and what is still read
abbrev pub joined : List Val → Option (List Val × List ℕ) → Option (List Val × List ℕ)
joined front None = None
joined front (Some p) = Some (front ++ p.0, p.1)

pub joined-with_part : (front : List Val) (v : Val) (o : Option (List Val × List ℕ)) → joined front (with_part v o) ≡ joined (front ++ v ∷ []) o
joined-with_part front v None = refl
joined-with_part front v (Some p) = ap (λ (vs : List Val). Some (vs, p.1)) (sym (append_assoc front (v ∷ []) p.0))

one_less : (n k : ℕ) → k < n → n - k ≡ suc (n - (k + 1))
one_less n k h = omega arith

pub many_stop : (gap : List ℕ → List ℕ) (part : Reader) (close n : ℕ) (s r : List ℕ) → sign_in close s ≡ Some r → many_in gap part close n s ≡ Some ([], r)
unfolding many_in
many_stop gap part close zero s r e = rw e refl
many_stop gap part close (suc n) s r e = rw e refl

pub many_none : (gap : List ℕ → List ℕ) (part : Reader) (close n k : ℕ) (s : List ℕ) → k < n → sign_in close s ≡ None → part s ≡ None → many_in gap part close (n - k) s ≡ None
unfolding many_in
many_none gap part close n k s h e f = rw (one_less n k h, e, f) refl

pub many_more : (gap : List ℕ → List ℕ) (part : Reader) (close n k : ℕ) (s : List ℕ) (front : List Val) (v : Val) (a : List ℕ) → k < n → sign_in close s ≡ None → part s ≡ Some (v, a) → joined front (many_in gap part close (n - k) s) ≡ joined (front ++ v ∷ []) (many_in gap part close (n - (k + 1)) (gap a))
unfolding many_in
many_more gap part close n k s front v a h e f = rw (one_less n k h, e, f) (joined-with_part front v (many_in gap part close (n - (k + 1)) (gap a)))

pub many_end : (gap : List ℕ → List ℕ) (part : Reader) (close n : ℕ) (s : List ℕ) → n ≡ 0 → many_in gap part close n s ≡ with_rest [] (sign_in close s)
unfolding many_in
many_end gap part close n s e = rw e refl

pub array_found : (part : Reader) (s : List ℕ) (lo : ℤ) (b : List ℕ) (vs : List Val) (r : List ℕ) → bound_in s ≡ Some (lo, b) → many_in past_blanks part 93 4194304 (past_blanks b) ≡ Some (vs, r) → array_in part s ≡ array_read lo (vs, r)
unfolding array_in
array_found part s lo b vs r e f = rw (e, f) refl

pub stream_found : (part : Reader) (s a : List ℕ) (vs : List Val) (r : List ℕ) → sign_in 123 s ≡ Some a → many_in past_blanks part 125 4194304 (past_blanks a) ≡ Some (vs, r) → stream_in part s ≡ Some (val.Stream vs, r)
unfolding stream_in
stream_found part s a vs r e f = rw (e, f) refl

pub part_value : (n : ℕ) (ty : Ty) (s : List ℕ) → (n ≡ 0 → ⊥) → part_in n ty s ≡ value_in (n - 1) ty s
part_value zero ty s h = absurd (h refl)
part_value (suc n) ty s h = let e : suc n - 1 ≡ n = omega arith in rw e refl
