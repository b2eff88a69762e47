-- The functions of a program have the headers of the unit, one after another.
use Rattle.std.proofs.Common.{◌≡◌, ℕ, zero, suc, ◌+◌, ◌≤◌, List, [], ◌∷◌, ◌++◌, length, map, take, slice_get, Some, sym, ap, ◌∙◌, arith}
use Rattle.std.proofs.lemmas.List.{length-append, length-map, map-append, take_all}
use Rattle.sisal_tree.specs.declared.unit.Item.{Item}
use Rattle.typed_tree.specs.declared.program.Function.{Function}
use Rattle.unit_types.specs.declared.header.Signature.{Signature}
use Rattle.unit_types.specs.Headings.{heading_of, heading_in, has_body, given_functions}
use Rattle.sisal_check.specs.Headed.{head_in, head_at, is_defined, HaveFirst}

take_next : {A B : Type 0} (f : A → B) (xs : List A) (n : ℕ) (x : A) → slice_get xs n ≡ Some x → take (suc n) (map f xs) ≡ take n (map f xs) ++ f x ∷ []
take_next f [] n x h = cc
take_next f (y ∷ ys) zero x h = let e : y ≡ x = cc in ap (λ z. f z ∷ []) e
take_next f (y ∷ ys) (suc n) x h = ap (λ l. f y ∷ l) (take_next f ys n x h)

pub same_head : (f : Function) (s : Signature) → f.line ≡ s.line → f.name ≡ s.name → f.parameters ≡ s.parameters → f.params ≡ s.params → f.results ≡ s.results → head_at f ≡ head_in s
same_head f s l n p q r = λ i. record { line = l i; name = n i; parameters = p i; params = q i; results = r i }

-- one function more
pub first_more : (headers : List Signature) (fs gs : List Function) (f : Function) (s : Signature) → slice_get headers (length fs) ≡ Some s → head_at f ≡ head_in s → gs ≡ fs ++ f ∷ []
    → HaveFirst headers fs → HaveFirst headers gs
first_more headers fs gs f s at is e h =
    let m : length gs ≡ length fs + 1 = ap length e ∙ length-append fs (f ∷ []) in
    let n : length gs ≡ suc (length fs) = omega (arith, m) in
    ap (map head_at) e ∙ map-append head_at fs (f ∷ []) ∙ ap (λ l. l ++ head_at f ∷ []) h ∙ ap (λ d. take (length fs) (map head_in headers) ++ d ∷ []) is
    ∙ sym (take_next head_in headers (length fs) s at) ∙ ap (λ k. take k (map head_in headers)) (sym n)

-- ---- the whole program

-- functions that have the first headers have all of them, where they are as many
pub have_all : (items : List Item) (headers : List Signature) (fs : List Function) → HaveFirst headers fs → map is_defined fs ≡ map (λ f. has_body f.kind) (given_functions items)
    → map heading_in headers ≡ map heading_of (given_functions items) → map head_at fs ≡ map head_in headers
have_all items headers fs h b e =
    let m : length fs ≡ length headers = sym (length-map fs is_defined) ∙ ap length b ∙ length-map (given_functions items) (λ f. has_body f.kind)
    ∙ sym (length-map (given_functions items) heading_of) ∙ sym (ap length e) ∙ length-map headers heading_in in
    let n : length (map head_in headers) ≤ length fs = omega (arith, m, length-map headers head_in) in
    h ∙ take_all (length fs) (map head_in headers) n
