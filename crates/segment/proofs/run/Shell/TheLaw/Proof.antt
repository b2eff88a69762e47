-- A `&` to a shell shows nothing. Assumes `Logic`.
use base.Fraction.{full_share}
use denote.RattleType.{RattleType}
use denote.Memory.{part_at}
use denote.Param.Laws.{Laws}
use denote.SharingLaws.{nothing_shr_laws}
use denote.Struct.Lending.{Lends-nothing}
use Rattle.std.specs.declared.alloc.Allocator.{Ghosts}
use Rattle.segment.specs.contracts.run.Shell as S
use Rattle.segment.proofs.run.Shell.TheLaw.Statement.{statement}

pub shares : (T A : RattleType) (g : Ghosts A.Denot) (L : Laws T) (LA : Laws A) → statement T A g L LA
shares T A g L LA = record {
  shr_laws = λ e b o. nothing_shr_laws;
  shares = λ M 𝓤 𝓛 e κ ts b o. Lends-nothing 𝓛 (part_at (S.the_written T A g) full_share e b o) (S.the_written T A g).lives κ ts;
}
