-- Graphs inside that are made one after another.
use Rattle.std.proofs.Common.{◌≡◌, ℕ, List, [], ◌∷◌, ◌++◌, length, refl, sym, ap, ◌∙◌, append-nil, append_assoc}
use Rattle.lowering.specs.Graphs.{Lowering}
use Rattle.lowered_data.specs.declared.made.Made.{Made}
use Rattle.lowered_data.specs.States.{IsPart, AreParts, places_in}
use Rattle.lowered_data.proofs.Parts.{no_parts, first_part, first_place}

-- with the graphs that are left all are made, at these places and theirs
pub record Listing (fs rest : List Lowering) (before now : Made) (places : List ℕ) : Type 0 where
  pub goes : (after : Made) → AreParts rest now after → AreParts fs before after
  pub stand : places ++ places_in now rest ≡ places_in before fs

pub begun : (fs : List Lowering) (a : Made) → Listing fs fs a a []
begun fs a = record { goes = λ after p. p; stand = refl }

pub goes_on : (fs : List Lowering) (f : Lowering) (rest : List Lowering) (a b c : Made) (places all : List ℕ) (place : ℕ)
    → Listing fs (f ∷ rest) a b places → IsPart f b c → place ≡ length b.graphs → all ≡ places ++ place ∷ [] → Listing fs rest a c all
goes_on fs f rest a b c places all place h p at e = record {
  goes = λ after q. h.goes after (first_part f rest b c after p q);
  stand =
      ap (λ k. k ++ places_in c rest) (e ∙ ap (λ k. places ++ k ∷ []) at)
      ∙ append_assoc places (length b.graphs ∷ []) (places_in c rest)
      ∙ ap (λ k. places ++ k) (sym (first_place f rest b c p))
      ∙ h.stand;
}

pub ended : (fs : List Lowering) (a b : Made) (places : List ℕ) → Listing fs [] a b places → AreParts fs a b
ended fs a b places h = h.goes b (no_parts b)

pub places_are : (fs : List Lowering) (a b : Made) (places : List ℕ) → Listing fs [] a b places → places ≡ places_in a fs
places_are fs a b places h = sym (append-nil places) ∙ h.stand
