use Rattle.std.proofs.Common.{◌≡◌, suc, ◌-◌, Some, ap, ◌∙◌, sym, subst, arith}
use Rattle.if1_types.specs.Shapes.{key_at, IsKeyOf}
use Rattle.if1_types.proofs.Keeping.{key_got, keys_are}
use Rattle.if1_types.proofs.shapes.Shapes.key.Goals as goal

pub returns : goal.returns
returns c =
    let es = c.self.inside.keys.entries in
    let place : suc (c.args.number - 1) ≡ c.args.number = omega (arith, c.if-number-eq0.false) in
    let is : Some c.in_ok-key.key.now ≡ key_at c.args.self.now c.args.number =
    key_got es c.args.number (c.args.number - 1) (c.in_ok-key.key.now, c.in_ok-key.field-0-1.now) place c.in_ok-key.ensures.entry ∙ ap (λ ks. key_at ks c.args.number) c.self.view_is in
    record {
      is = is;
      of =
          subst (IsKeyOf c.args.self.now c.args.number) (sym is)
          (subst (λ ks. IsKeyOf ks c.args.number (key_at ks c.args.number)) c.self.view_is (keys_are es c.self.invariant c.args.number));
    }
