-- What a contract sees of a lease and of a segment of a pool.
use Rattle.std.specs.Prelude.{ℕ, refl}
use Rattle.std.specs.Coded.{Coded, code_by, coded×, coded_ℕ}
use Rattle.segment.specs.Places.{SegmentView, segment_code}
use Rattle.flow_value.specs.declared.value.Val.{Val}

-- the entry's number, the value, and the identity of the loan
pub record Lent : Type 0 where
  pub number : ℕ
  pub value : Val
  pub id : ℕ

-- the entry's number, and the segment of its room
pub record Cut : Type 0 where
  pub number : ℕ
  pub part : SegmentView Val

-- both are stored as the tuples of their fields
module _ (c : Coded Val) where
  abbrev pub lent_code : Coded Lent
  lent_code = code_by ((ℕ × Val) × ℕ) (coded× (coded× coded_ℕ c) coded_ℕ)
      (λ l. ((l.number, l.value), l.id)) (λ p. record { number = p.0.0; value = p.0.1; id = p.1 }) (λ _. refl)

  abbrev pub cut_code : Coded Cut
  cut_code = code_by (ℕ × SegmentView Val) (coded× coded_ℕ (segment_code c)) (λ s. (s.number, s.part)) (λ p. record { number = p.0; part = p.1 }) (λ _. refl)
