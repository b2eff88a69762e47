-- Faults that name a rule.
use Rattle.std.proofs.Common.{◌≡◌, ℕ, Result, Ok, Err, IfErr, IsErrAnd, sym, subst}
use Rattle.type_rules.specs.declared.fault.TypeFault.{TypeFault}
use Rattle.type_rules.specs.declared.fault.TypeFault.TheVariants as fault
use Rattle.type_rules.specs.Faults.{IsRule}
use Rattle.unit_types.specs.declared.fault.UnitFault.{UnitFault}
use Rattle.unit_types.specs.declared.fault.UnitFault.TheVariants as unit
use Rattle.unit_types.specs.Faults.{fault_of, IsFault}

pub rule_weaker : {P Q : ℕ → ℕ → Type 0} (f : TypeFault) → ((rule line : ℕ) → P rule line → Q rule line) → IsRule P f → IsRule Q f
rule_weaker (fault.Rule rule line) f h = f rule line h
rule_weaker fault.NoMemory f h = tt

pub fault_weaker : {P Q : ℕ → ℕ → Type 0} (e : UnitFault) → ((rule line : ℕ) → P rule line → Q rule line) → IsFault P e → IsFault Q e
fault_weaker e f h = rule_weaker (fault_of e) f h

-- want of memory says nothing
pub no_fault : (P : ℕ → ℕ → Type 0) (e : UnitFault) → e ≡ unit.NoMemory → IsFault P e
no_fault P e is = subst (IsFault P) (sym is) tt

pub faults_weaker : {T : Type 0} {P Q : ℕ → ℕ → Type 0} (r : Result T UnitFault) → ((rule line : ℕ) → P rule line → Q rule line) → IfErr r (IsFault P) → IfErr r (IsFault Q)
faults_weaker (Ok x) f h = tt
faults_weaker (Err e) f h = fault_weaker e f h

pub no_faults : {T : Type 0} (P : ℕ → ℕ → Type 0) (r : Result T UnitFault) → IfErr r (λ e. e ≡ unit.NoMemory) → IfErr r (IsFault P)
no_faults P (Ok x) h = tt
no_faults P (Err e) h = no_fault P e h

-- a fault that is passed on
pub passed_on : {T : Type 0} {P Q : ℕ → ℕ → Type 0} (r : Result T UnitFault) (e : UnitFault) → IsErrAnd r (λ f. f ≡ e) → ((rule line : ℕ) → P rule line → Q rule line) → IsFault P e → IfErr r (IsFault Q)
passed_on (Ok x) e is f h = tt
passed_on {Q = Q} (Err x) e is f h = subst (IsFault Q) (sym is) (fault_weaker e f h)
