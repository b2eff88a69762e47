use Rattle.std.proofs.Common.{subst}
use Rattle.if1_types.specs.Shapes.{key_at, IsKeyOf}
use Rattle.if1_types.proofs.Keeping.{keys_are}
use Rattle.if1_types.proofs.shapes.Shapes.bound.Goals as goal

pub returns-in-Ok-clause-keys : goal.returns-in-Ok-clause-keys
returns-in-Ok-clause-keys c = λ n. subst (λ ks. IsKeyOf ks n (key_at ks n)) c.self.view_is (keys_are c.self.inside.keys.entries c.self.invariant n)

pub returns-in-Err-clause-keys : goal.returns-in-Err-clause-keys
returns-in-Err-clause-keys c = λ n. subst (λ ks. IsKeyOf ks n (key_at ks n)) c.self.view_is (keys_are c.self.inside.keys.entries c.self.invariant n)
