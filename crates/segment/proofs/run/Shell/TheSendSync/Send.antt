use Rattle.std.proofs.Common.{◌++◌, ◌-◌, length, map, replicate}
use denote.RattleType.{RattleType}
use denote.Param.Send.{IsSend, Frees, struct_send}
use denote.Struct.Declared.{shape}
use Rattle.std.specs.declared.alloc.Allocator.{Ghosts}
use Rattle.segment.specs.Places.{unwritten, written}
use Rattle.segment.specs.Runs.{words}
use Rattle.segment.specs.contracts.run.Shell as Shell
use Rattle.segment.specs.contracts.run.Shell.TheInside as Inside
use Rattle.segment.proofs.Crossing.{owned_keyless, vec_send}

-- no more than the `Vec` that it comes back as
pub send : (T A : RattleType) (g : Ghosts A.Denot) → IsSend T → IsSend A → Frees g g.dealloc_token → IsSend (Shell.the_row T A g)
send T A g st sa f = record {
  owned = λ e vs. (
    (λ _. tt),
    λ c h. (
      tt,
      λ xs. (
        (tt, owned_keyless T st e.at (map written xs ++ replicate (e.len - length xs) unwritten)),
        λ s. (tt, (struct_send (shape (Inside.the_type T A g)) (vec_send T st A g sa f, tt)).owned (s.vec, tt) (words e.at (length xs) c h)),
      ),
    ),
  );
  leaving = λ k x w. tt;
}
