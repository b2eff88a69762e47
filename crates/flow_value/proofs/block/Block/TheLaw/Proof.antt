-- A `&` to a block is made from what its places own. Assumes `Logic`.
use denote.RattleType.{RattleType}
use denote.Param.Laws.{Laws}
use denote.Param.Shared.{copy_shared}
use denote.Struct.Field.{RawPtr-field}
use denote.Struct.Laws.{RawPtr-copy}
use denote.Struct.Lending.{of_Lends}
use base.Fml.{Incl-trans}
use mathlib.Core.List.{[], ◌++◌}
use contract.BorrowLft.{meet_⊑_left}
use Rattle.flow_value.specs.contracts.block.Block as B
use Rattle.flow_value.proofs.block.Block.TheLaw.Statement.{statement}
use Rattle.flow_value.proofs.Lending.{block_laws, lends_block}

pub shares : (T : RattleType) (L : Laws T) → statement T L
shares T L =
    of_Lends (B.struct T) (B.the_codes T.Denot T.coded) (B.the_heap T) (B.the_lent T) (λ d p. block_laws T L d.at d.places)
    (copy_shared RawPtr-field RawPtr-copy, tt)
    (λ M 𝓤 𝓛 d p. lends_block T L 𝓛 (B.the_row T).lives (Incl-trans (meet_⊑_left (T.lives ++ []) []) (meet_⊑_left T.lives [])) d.at d.room d.places)
