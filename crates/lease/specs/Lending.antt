-- What a contract sees of an owner and of a lease.
use Rattle.std.specs.Prelude.{ℕ, refl}
use Rattle.std.specs.Coded.{Coded, code_by, coded×, coded_ℕ}

-- the value, how many leases are out, and the owner's identity
pub record Lending (X : Type 0) : Type 0 where
  pub value : X
  pub out : ℕ
  pub id : ℕ

-- the value, and the identity of the owner that lent it
pub record Leased (X : Type 0) : Type 0 where
  pub value : X
  pub id : ℕ

-- both are stored as the tuples of their fields
module _ {X : Type 0} (c : Coded X) where
  abbrev pub lending_code : Coded (Lending X)
  lending_code = code_by ((X × ℕ) × ℕ) (coded× (coded× c coded_ℕ) coded_ℕ)
      (λ l. ((l.value, l.out), l.id)) (λ p. record { value = p.0.0; out = p.0.1; id = p.1 }) (λ _. refl)

  abbrev pub leased_code : Coded (Leased X)
  leased_code = code_by (X × ℕ) (coded× c coded_ℕ) (λ l. (l.value, l.id)) (λ p. record { value = p.0; id = p.1 }) (λ _. refl)
