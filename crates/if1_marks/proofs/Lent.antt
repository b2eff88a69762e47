-- What is lent is not owned.
use Rattle.std.proofs.Common.{◌≡◌, ◌≤◌, ℕ, ◌+◌, Bool, false, ◌&&◌, ◌||◌, not, Option, Some, None, refl, ap, ◌∙◌, arith}
use Rattle.std.specs.Prelude.{nat_lt}
use Rattle.if1_graph.specs.declared.graph.Graph.{Graph}
use Rattle.if1_graph.specs.declared.graph.Node.{Node, out-Node}
use Rattle.if1_graph.specs.declared.graph.Unit1.{Unit1}
use Rattle.if1_graph.specs.declared.op.Compound.{Compound}
use Rattle.if1_graph.specs.declared.op.Compound.TheVariants as compound
use Rattle.if1_graph.specs.declared.op.Part.{Part}
use Rattle.if1_graph.specs.declared.op.Part.TheVariants as part
use Rattle.if1_graph.specs.Ports.{results_at, part_of}
use Rattle.if1_graph.specs.Units.{label_of, width}
use Rattle.if1_marks.specs.Given.{is_consumed_by}
use Rattle.if1_marks.specs.Owned.{has_one_edge, is_last_wanted, is_read_in_turns, is_owned_in_body, is_owned_in_returns, is_owned_in, is_owned_as}
use Rattle.if1_marks.specs.Laws.{OnlyLooks, IsLater, AreLent}

not-past : (k port : ℕ) → port ≤ k → nat_lt k port ≡ false
not-past k port h = grind (arith, h)

module _ (u : Unit1) (outer : Graph) (n : Node) (g : Graph) (port : ℕ) where
  looked : (c : Compound) (x : Part) → OnlyLooks c x → is_owned_in u outer n g c x port ≡ false
  looked c part.Selector h = refl
  looked c part.Test h = refl
  looked c part.Generator h = refl
  looked compound.ForAll part.Body h = refl
  looked compound.Select part.Body h = absurd h
  looked compound.TagCase part.Body h = absurd h
  looked compound.LoopA part.Body h = absurd h
  looked compound.LoopB part.Body h = absurd h
  looked c part.Alternative h = absurd h
  looked c part.Arm h = absurd h
  looked c part.Initialization h = absurd h
  looked c part.Returns h = absurd h

  abbrev k : ℕ
  k = width outer (label_of n)

  own : port ≤ k → nat_lt k port ≡ false
  own h = not-past k port h

  made : port ≤ k → nat_lt (k + results_at (out-Node n).subs 0) port ≡ false
  made h = not-past (k + results_at (out-Node n).subs 0) port (omega (arith, h))

  body : (c : Compound) → port ≤ k → is_owned_in_body u outer n g c port ≡ false
  body compound.ForAll h = refl
  body compound.Select h = own h
  body compound.TagCase h = own h
  body compound.LoopA h = own h
  body compound.LoopB h = own h

  abbrev once : Bool
  once = has_one_edge g port && (is_last_wanted g port || not (is_read_in_turns (out-Node n).subs port))

  returns : (c : Compound) → port ≤ k → is_owned_in_returns u outer n g c port ≡ false
  returns compound.ForAll h = ap (λ b. b && has_one_edge g port) (made h)
  returns compound.Select h = ap (λ b. b && once) (own h)
  returns compound.TagCase h = ap (λ b. b && once) (own h)
  returns compound.LoopA h = ap (λ b. b && once) (own h)
  returns compound.LoopB h = ap (λ b. b && once) (own h)

  later : (c : Compound) (x : Part) → IsLater x → port ≤ k → is_owned_in u outer n g c x port ≡ false
  later c part.Body l h = body c h
  later c part.Returns l h = returns c h
  later c part.Selector l h = absurd l
  later c part.Alternative l h = absurd l
  later c part.Arm l h = absurd l
  later c part.Generator l h = absurd l
  later c part.Initialization l h = absurd l
  later c part.Test l h = absurd l

  ungiven : (c : Compound) (x : Part) → is_consumed_by u n port ≡ false → port ≤ k → is_owned_in u outer n g c x port ≡ false
  ungiven c part.Selector e h = refl
  ungiven c part.Alternative e h = e
  ungiven c part.Arm e h = e
  ungiven c part.Generator e h = refl
  ungiven c part.Initialization e h = e
  ungiven c part.Test e h = refl
  ungiven c part.Body e h = body c h
  ungiven c part.Returns e h = returns c h

  at-part : (o : Option (Compound × Part)) → is_consumed_by u n port ≡ false → port ≤ k → is_owned_as u outer n g o port ≡ false
  at-part None e h = refl
  at-part (Some cp) e h = ungiven cp.0 cp.1 e h

pub are-lent : AreLent
are-lent u g port =
    record {
      argument = λ k e. e;
      looked_at = λ outer n k cp e l. ap (λ o. is_owned_as u outer n g o port) e ∙ looked u outer n g port cp.0 cp.1 l;
      kept = λ outer n k cp e l h. ap (λ o. is_owned_as u outer n g o port) e ∙ later u outer n g port cp.0 cp.1 l h;
      not_given = λ outer n k e h. at-part u outer n g port (part_of n k) e h;
    }
