use Rattle.std.proofs.Common.{◌∙◌}
use Rattle.bench_pool.proofs.Emptied.{idle_begun}
use Rattle.bench_pool.proofs.rooms.build.Goals as goal

pub end-requires-2 : goal.end-requires-2
end-requires-2 c =
    let e = c.in-Ok.ensures in
    record { idle = idle_begun c.build-built.new.self c.in-Ok._key.number c.args.places e.now.0 e.now.1 (λ m other. e.others m other ∙ c.new-pool.ensures.vacant m) }
