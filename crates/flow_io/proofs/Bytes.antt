-- Two steps of a source or a sink as one.
use Rattle.std.proofs.Common.{◌≡◌, ℕ, ◌+◌, ◌-◌, List, ◌++◌, length, take, drop, Option, Some, sym, ap, ◌∙◌, arith, append_assoc, length-drop}
use Rattle.std.proofs.lemmas.List.{take-append-drop, drop-drop, take_all}
use Rattle.std.proofs.Math.Seq.{take-add}
use Rattle.flow_io.specs.Bytes.{TakesOff, AddsOn}

pub takes_more : (before mid after : Option (List ℕ)) (first next : List ℕ) → TakesOff before first mid → TakesOff mid next after → TakesOff before (first ++ next) after
takes_more before mid after first next f s = λ told is.
    let a = f told is in
    let b = s a.0 a.2 in
    (b.0, a.1 ∙ ap (λ ys. first ++ ys) b.1 ∙ sym (append_assoc first next b.0), b.2)

pub adds_more : (before mid after : Option (List ℕ)) (bytes : List ℕ) (i n : ℕ) → AddsOn before (take i bytes) mid → AddsOn mid (take n (drop i bytes)) after → AddsOn before (take (i + n) bytes) after
adds_more before mid after bytes i n f s = λ told is.
    s (told ++ take i bytes) (f told is) ∙ ap Some (append_assoc told (take i bytes) (take n (drop i bytes)) ∙ ap (λ ys. told ++ ys) (sym (take-add i n bytes)))

-- what stands from a place on, to the end
pub take-rest : (i : ℕ) (xs : List ℕ) → take (length xs - i) (drop i xs) ≡ drop i xs
take-rest i xs = take_all (length xs - i) (drop i xs) (omega (arith, length-drop i xs))

-- a list is its front and what follows it, from any place on
pub parted : (at n : ℕ) (xs : List ℕ) → drop at xs ≡ take n (drop at xs) ++ drop (at + n) xs
parted at n xs = sym (take-append-drop n (drop at xs)) ∙ ap (λ ys. take n (drop at xs) ++ ys) (drop-drop n at xs)
