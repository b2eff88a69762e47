-- A function or a part of a node begins.
use Rattle.std.proofs.Common.{◌≡◌, ℕ, Bool, false, List, [], Option, None, Result, Ok, Err}
use Rattle.std.specs.Prelude.{IfOk}
use Rattle.if1_read.specs.declared.fault.Kind.{Kind}
use Rattle.if1_read.specs.declared.judge.Known.{Known}
use Rattle.if1_read.specs.declared.part.Part.{Part}
use Rattle.if1_read.specs.declared.machine.Machine.{Machine}
use Rattle.if1_read.specs.Known.{IsTableSound, IsClear}
use Rattle.if1_read.specs.Stands.{IsNewPart}
use Rattle.if1_read.specs.Effects.{BeginsPart, BeginsFunction, BeginsSubgraph}

module _ {E : Type 0} (k : Known) (m : Machine) (p : Part) (r : Result Machine E) where
  abbrev pub PartBegins : Type 0
  PartBegins = IfOk r (λ n. n.first ≡ None → IsTableSound k.table → BeginsPart k m n p)

pub function_begins : {E : Type 0} (k : Known) (m : Machine) (p : Part) (r : Result Machine E) (wrong : Option Kind) (exported : Bool) (fun : ℕ) (name : List ℕ) →
    m.outer.items ≡ [] → IsNewPart exported fun name p → (wrong ≡ None → IsTableSound k.table → IsClear k.table fun) → IfOk r (λ n. n.first ≡ None → wrong ≡ None) →
    PartBegins k m p r → IfOk r (λ n. n.first ≡ None → IsTableSound k.table → BeginsFunction k m n exported fun name)
function_begins k m p (Ok n) wrong exported fun name alone fresh clear right begins = λ clean sound. record {
  alone = alone;
  part = p;
  fresh = fresh;
  begins = begins clean sound;
  clear = clear (right clean) sound;
}
function_begins k m p (Err e) wrong exported fun name alone fresh clear right begins = tt

pub subgraph_begins : {E : Type 0} (k : Known) (m : Machine) (p : Part) (r : Result Machine E) (name : List ℕ) → ¬ (m.outer.items ≡ []) → IsNewPart false 0 name p →
    PartBegins k m p r → IfOk r (λ n. n.first ≡ None → IsTableSound k.table → BeginsSubgraph k m n name)
subgraph_begins k m p (Ok n) name inside fresh begins = λ clean sound. record { inside = inside; part = p; fresh = fresh; begins = begins clean sound }
subgraph_begins k m p (Err e) name inside fresh begins = tt
