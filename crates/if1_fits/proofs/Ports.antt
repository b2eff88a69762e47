-- The edge into a port, where ports do not fall.
use Rattle.std.proofs.Common.{◌≡◌, ℕ, zero, suc, ◌<◌, ◌≤◌, cond, ◌==◌, List, [], ◌∷◌, find, slice_get, get_or, length, Some, None, ◌⊎◌, inl, inr, refl, sym, ap, ◌∙◌, arith, ne_eqb}
use Rattle.std.specs.List.{AllWithin}
use Rattle.std.specs.List.Sorted.{IsNonDecreasingBy}
use Rattle.std.proofs.lemmas.Bool.Decides.{eqb_tells}
use Rattle.if1_graph.specs.declared.graph.Edge.{Edge}
use Rattle.if1_fits.specs.Views.{AreUp, with_port}

rest_up : (e : Edge) (es : List Edge) → AreUp (e ∷ es) → AreUp es
rest_up e es up = λ i j d a b. up (suc i) (suc j) d (omega (arith, a)) (omega (arith, b))

pub not_falling : (es : List Edge) → AreUp es → IsNonDecreasingBy (λ (e : Edge). e.port) es
not_falling es up i j d a b =
    elim (split i j a) [ inl e ↦ let same = ap (λ k. (get_or es k d).port) e in omega (arith, same) | inr l ↦ up i j d l b ]
  where
    split : (i j : ℕ) → i ≤ j → (i ≡ j) ⊎ (i < j)
    split i j h = grind arith

-- ports that are all above
none_above : (es : List Edge) (port : ℕ) → ((k : ℕ) (d : Edge) → k < length es → port < (get_or es k d).port) → find (λ e. e.port == port) es ≡ None
none_above [] port above = refl
none_above (e ∷ es) port above =
    let here : port < e.port = above 0 e (omega arith) in
    ap (λ b. cond b (Some e) (find (λ e. e.port == port) es)) (ne_eqb e.port port (λ i. omega (arith, here, i)))
    ∙ none_above es port (λ k d h. above (suc k) d (omega (arith, h)))

pub port_at : (es : List Edge) (port k : ℕ) → AreUp es → AllWithin (λ e. e.port < port) es 0 k → AllWithin (λ e. port ≤ e.port) es k (length es) →
    with_port port (slice_get es k) ≡ find (λ e. e.port == port) es
port_at [] port k up low high = refl
port_at (e ∷ es) port zero up low high =
    elim (eqb_tells e.port port) [
      | inl is ↦
          ap (λ b. cond b (Some e) None) is.0 ∙ sym (ap (λ b. cond b (Some e) (find (λ e. e.port == port) es)) is.0)
      | inr other ↦
          let here : port ≤ e.port = high 0 e (omega arith) (omega arith) in
          let above : port < e.port = strict port e.port here (λ i. other.1 (sym i)) in
          ap (λ b. cond b (Some e) None) other.0
          ∙ sym
          (ap (λ b. cond b (Some e) (find (λ e. e.port == port) es)) other.0
          ∙ none_above es port (λ k d h. let next = up 0 (suc k) d (omega arith) (omega (arith, h)) in omega (arith, next, above)))
    ]
  where
    strict : (a b : ℕ) → a ≤ b → (a ≡ b → ⊥) → a < b
    strict a b h ne = grind (arith, ne)
port_at (e ∷ es) port (suc k) up low high =
    let here : e.port < port = low 0 e (omega arith) (omega arith) in
    port_at es port k (rest_up e es up) (λ j d a b. low (suc j) d (omega arith) (omega (arith, b)))
    (λ j d a b. high (suc j) d (omega (arith, a)) (omega (arith, b)))
    ∙ sym (ap (λ b. cond b (Some e) (find (λ e. e.port == port) es)) (ne_eqb e.port port (λ i. omega (arith, here, i))))
