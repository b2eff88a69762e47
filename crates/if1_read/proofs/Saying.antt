-- What is kept behind a line that is read, and which fault is named, by what the line says.
use Rattle.std.proofs.Common.{◌≡◌, ℕ, Bool, rules, List, Option, Result, Ok, Err, refl, sym, ap, subst, ◌∙◌}
use Rattle.std.specs.Prelude.{IfOk}
use Rattle.if1_graph.specs.declared.line.Line.{Line}
use Rattle.if1_graph.specs.declared.line.Line.TheVariants as line
use Rattle.if1_graph.specs.declared.graph.Graph.{Graph}
use Rattle.if1_graph.specs.declared.graph.Graph.TheViews as graphs
use Rattle.if1_graph.specs.declared.graph.Node.{Node, out-Node}
use Rattle.if1_read.specs.declared.judge.Known.{Known}
use Rattle.if1_read.specs.declared.machine.Machine.{Machine}
use Rattle.if1_read.specs.Known.{IsTableSound}
use Rattle.if1_read.specs.Sheets.{marks_of, node_says, Turns}
use Rattle.if1_read.proofs.Leading.{node_of}
use Rattle.if1_read.proofs.Turning.{nothing_turns}

pub marks_are : (label op : ℕ) (subs : List Graph) (assoc before name : List ℕ) → marks_of (node_of label op subs assoc before name) ≡ (label, op)
marks_are label op subs assoc before name = λ i. (label_is i, op_is i)
  where
    label_is : (out-Node (node_of label op subs assoc before name)).label ≡ label
    label_is = search (rules, graphs.the_lemmas)

    op_is : (out-Node (node_of label op subs assoc before name)).op ≡ op
    op_is = search (rules, graphs.the_lemmas)

pub blank_turns : (k : Known) (m : Machine) (n : ℕ) (j : Line) → j ≡ line.Blank → Turns k m n j m
blank_turns k m n j same = subst (λ (x : Line). Turns k m n x m) (sym same) (nothing_turns k m m n line.Blank refl refl refl)

pub entry_turns : (k : Known) (m : Machine) (n : ℕ) (j : Line) (label code first second : ℕ) (name : List ℕ) → j ≡ line.Entry label code first second name → Turns k m n j m
entry_turns k m n j label code first second name same =
    subst (λ (x : Line). Turns k m n x m) (sym same) (nothing_turns k m m n (line.Entry label code first second name) refl refl refl)

module _ {E : Type 0} (k : Known) (m : Machine) (n : ℕ) (r : Result Machine E) where
  abbrev pub Says : Line → Type 0
  Says l = IfOk r (λ after. IsTableSound k.table → Turns k m n l after)

  -- a line that is this one
  pub is_said : (l j : Line) → j ≡ l → Says l → Says j
  is_said l j same h = subst Says (sym same) h

said_if : {E : Type 0} (k : Known) (m : Machine) (n : ℕ) (r : Result Machine E) (P : Machine → Type 0) (l : Line) → IfOk r P →
    ((after : Machine) → P after → IsTableSound k.table → Turns k m n l after) → Says k m n r l
said_if k m n (Ok after) P l h f = f after h
said_if k m n (Err e) P l h f = tt

pub node_said : {E : Type 0} (k : Known) (m : Machine) (n : ℕ) (r : Result Machine E) (label op : ℕ) (subs : List Graph) (assoc before name : List ℕ) →
    IfOk r (λ after. (k : Known) (before1 name1 : List ℕ) → Turns k m n (node_says (marks_of (node_of label op subs assoc before name)) before1 name1) after) →
    Says k m n r (line.Node label op before name)
node_said k m n r label op subs assoc before name h =
    said_if k m n r (λ after. (k : Known) (before1 name1 : List ℕ) → Turns k m n (node_says (marks_of (node_of label op subs assoc before name)) before1 name1) after)
    (line.Node label op before name) h
    (λ after t sound. subst (λ (x : ℕ × ℕ). Turns k m n (node_says x before name) after) (marks_are label op subs assoc before name) (t k before name))

pub open_said : {E : Type 0} (k : Known) (m : Machine) (n : ℕ) (r : Result Machine E) (rest : List ℕ) →
    IfOk r (λ after. (k : Known) (words : List ℕ) → Turns k m n (line.Open words) after) → Says k m n r (line.Open rest)
open_said k m n r rest h =
    said_if k m n r (λ after. (k : Known) (words : List ℕ) → Turns k m n (line.Open words) after) (line.Open rest) h (λ after t sound. t k rest)

abbrev CloseSays : Known → Machine → ℕ → ℕ → ℕ × ℕ → Machine → Type 0
CloseSays k m n count node after = IsTableSound k.table → (assoc before name : List ℕ) → Turns k m n (line.Close node.0 node.1 count assoc before name) after

pub close_said : {E : Type 0} (k : Known) (m : Machine) (n : ℕ) (r : Result Machine E) (label op count : ℕ) (subs : List Graph) (assoc before name : List ℕ) →
    IfOk r (CloseSays k m n count (marks_of (node_of label op subs assoc before name))) → Says k m n r (line.Close label op count assoc before name)
close_said k m n r label op count subs assoc before name h =
    said_if k m n r (CloseSays k m n count (marks_of (node_of label op subs assoc before name))) (line.Close label op count assoc before name) h
    (λ after t sound.
    subst (λ (x : ℕ × ℕ). CloseSays k m n count x after) (marks_are label op subs assoc before name) t sound assoc before name)
