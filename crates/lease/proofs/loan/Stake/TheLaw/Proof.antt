-- A `&` to a stake shows that the loan lasts, and the value. Assumes `Logic`.
use denote.RattleType.{RattleType}
use denote.Param.Laws.{Laws}
use denote.Param.Shared.{copy_shared}
use denote.Struct.Field.{RawPtr-field}
use denote.Struct.Laws.{RawPtr-copy}
use denote.Struct.Lending.{of_Lends}
use Rattle.lease.specs.contracts.loan.Stake as S
use Rattle.lease.proofs.loan.Stake.TheLaw.Statement.{statement}
use Rattle.lease.proofs.Steps.{stake_shr_laws, stake_lends}

pub shares : (T : RattleType) (L : Laws T) → statement T L
shares T L =
    of_Lends (S.struct T) (S.the_codes T.Denot T.coded) (S.the_heap T) (S.the_lent T)
    (λ s p. stake_shr_laws T L s.at s.value s.loan) (copy_shared RawPtr-field RawPtr-copy, tt)
    (λ M 𝓤 𝓛 s p. stake_lends T L s.at s.value 𝓛 s.loan s.stakes (S.the_row T).lives)
