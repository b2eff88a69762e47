-- What is known of a graph once it was looked at.
use Rattle.std.proofs.Common.{◌≡◌, ◌∙◌, ℕ, zero, suc, Bool, ◌&&◌, List, [], ◌∷◌, ◌++◌, map, length, Option, Some, None, option_map, refl, sym, ap}
use Rattle.std.specs.List.{list_any}
use Rattle.std.proofs.lemmas.List.{map-append, length-map}
use Rattle.if1_graph.specs.declared.graph.Edge.{Edge}
use Rattle.if1_graph.specs.declared.graph.Graph.{Graph}
use Rattle.if1_graph.specs.declared.graph.Graph.TheViews.{out-Graph}
use Rattle.if1_graph.specs.declared.graph.Node.{Node}
use Rattle.if1_graph.specs.declared.graph.TypeEntry.{TypeEntry}
use Rattle.if1_graph.specs.declared.graph.Unit1.{Unit1}
use Rattle.if1_graph.specs.Ports.{leaves}
use Rattle.if1_graph.specs.Units.{label_of, node_at}
use Rattle.if1_marks.specs.Aggregates.{is_aggregate}
use Rattle.if1_marks.specs.Given.{Operands, inside, operands, is_consumed_in, is_consumed_at, is_consuming_in, is_consuming, is_consumed_by, consumes_node, consumes}
use Rattle.if1_marks.proofs.Consumed.{given-at, used-at}
use Rattle.if1_marks.proofs.Tests.{any-same}
use Rattle.may_take.specs.declared.functions.Functions.{Functions}
use Rattle.may_take.specs.declared.inputs.Inputs.{Inputs}
use Rattle.may_take.specs.declared.looking.LookedNodes.{LookedNodes}
use Rattle.may_take.specs.declared.uses.NodeUse.{NodeUse}
use Rattle.may_take.specs.Ports.{has, inside_by}
use Rattle.may_take.specs.Uses.{is_consumed_inside, is_consumed, use_at, inside_of, consumed_of, consumes_inside, consumes_by}
use Rattle.may_take.specs.Consuming.{is_given_by, is_consuming_by}
use Rattle.may_take.specs.Looked.{flags_by, IsLooked, AreNodesLooked}
use Rattle.may_take.proofs.Labels.{optioned, at-label, found-operands}
use Rattle.may_take.proofs.Placing.{inside-is}

map-same : {A B : Type 0} (f g : A → B) → ((x : A) → f x ≡ g x) → (xs : List A) → map f xs ≡ map g xs
map-same f g e [] = refl
map-same f g e (x ∷ xs) = ap (λ y. y ∷ map f xs) (e x) ∙ ap (λ ys. g x ∷ ys) (map-same f g e xs)

-- ---- other than by a call

inside-of : (o : Option NodeUse) (port : ℕ) → inside_of o port ≡ optioned is_consumed_inside o port
inside-of None port = refl
inside-of (Some h) port = refl

module _ (u : Unit1) (g : Graph) (us : List NodeUse) (inner : map is_consumed_inside us ≡ map (is_consumed_by u) (out-Graph g).nodes) where
  abbrev labels : List ℕ
  labels = map label_of (out-Graph g).nodes

  abbrev ops : List Operands
  ops = map (operands u.types) (out-Graph g).nodes

  by-operands : (o : Option Node) (port : ℕ) → optioned (is_consumed_by u) o port ≡ is_consumed_in (option_map (operands u.types) o) port
  by-operands None port = refl
  by-operands (Some n) port = refl

  inside-consumes : (l port : ℕ) → consumes_inside labels us l port ≡ is_consumed_at ops l port
  inside-consumes zero port = refl
  inside-consumes (suc l) port =
      inside-of (use_at labels us (suc l)) port
      ∙ at-label is_consumed_inside (is_consumed_by u) (out-Graph g).nodes us inner (suc l) port
      ∙ by-operands (node_at (out-Graph g).nodes (suc l)) port
      ∙ sym (ap (λ o. is_consumed_in o port) (found-operands u.types (out-Graph g).nodes (suc l)))

  given-by : (e : Edge) → is_given_by u.types labels us e ≡ is_consuming_in u.types ops e
  given-by e = ap (λ b. is_aggregate u.types e.ty && b) (inside-consumes e.node e.port)

  pub inputs-are : (i : Inputs) → ((port : ℕ) → has i.used port ≡ list_any (λ e. leaves 0 port e.from) (out-Graph g).edges) →
      ((port : ℕ) → has i.given port ≡ list_any (λ e. leaves 0 port e.from && is_given_by u.types labels us e) (out-Graph g).edges) → inside_by i ≡ inside u.types g
  inputs-are i used given = λ j.
      record {
        is_used = λ port. (used port ∙ sym (used-at u.types g port)) j;
        is_given = λ port. (given port
            ∙ any-same (λ e. leaves 0 port e.from && is_given_by u.types labels us e) (λ e. leaves 0 port e.from && is_consuming_in u.types ops e)
            (λ e. ap (λ b. leaves 0 port e.from && b) (given-by e)) (out-Graph g).edges
            ∙ sym (given-at u.types g port)) j;
      }

-- ---- calls too

consumed-of : (fs : List Inputs) (o : Option NodeUse) (port : ℕ) → consumed_of fs o port ≡ optioned (is_consumed fs) o port
consumed-of fs None port = refl
consumed-of fs (Some h) port = refl

module _ (u : Unit1) (g : Graph) (fs : List Inputs) (us : List NodeUse) (outer : map (is_consumed fs) us ≡ map (λ n. consumes_node u g (Some n)) (out-Graph g).nodes) where
  by-node : (o : Option Node) (port : ℕ) → optioned (λ n. consumes_node u g (Some n)) o port ≡ consumes_node u g o port
  by-node None port = refl
  by-node (Some n) port = refl

  consumes-is : (l port : ℕ) → consumes_by fs (map label_of (out-Graph g).nodes) us l port ≡ consumes u g l port
  consumes-is zero port = refl
  consumes-is (suc l) port =
      consumed-of fs (use_at (map label_of (out-Graph g).nodes) us (suc l)) port
      ∙ at-label (is_consumed fs) (λ n. consumes_node u g (Some n)) (out-Graph g).nodes us outer (suc l) port
      ∙ by-node (node_at (out-Graph g).nodes (suc l)) port

  pub consuming-are : map (is_consuming_by u.types fs (map label_of (out-Graph g).nodes) us) (out-Graph g).edges ≡ map (is_consuming u g) (out-Graph g).edges
  consuming-are =
      map-same (is_consuming_by u.types fs (map label_of (out-Graph g).nodes) us) (is_consuming u g)
      (λ e. ap (λ b. is_aggregate u.types e.ty && b) (consumes-is e.node e.port)) (out-Graph g).edges

-- ---- a step of the nodes

pub mapped-more : {A B C : Type 0} (f : A → C) (p : B → C) (xs : List A) (ys : List B) (x : A) (y : B) → map f xs ≡ map p ys → f x ≡ p y → map f (xs ++ x ∷ []) ≡ map p (ys ++ y ∷ [])
mapped-more f p xs ys x y e one =
    map-append f xs (x ∷ []) ∙ (ap (λ zs. zs ++ f x ∷ []) e ∙ (ap (λ z. map p ys ++ z ∷ []) one ∙ sym (map-append p ys (y ∷ []))))

-- ---- a graph

abbrev given-among : List TypeEntry → List ℕ → List NodeUse → List Edge → ℕ → Bool
given-among ts ls us es port = list_any (λ e. leaves 0 port e.from && is_given_by ts ls us e) es

pub looked-is : (u : Unit1) (f : Functions) (g : Graph) (nodes : LookedNodes) → AreNodesLooked u f g (out-Graph g).nodes nodes →
    (ts : List TypeEntry) (ls : List ℕ) (us : List NodeUse) (es : List Edge) (fs : List Inputs) →
    ts ≡ u.types → ls ≡ map label_of (out-Graph g).nodes → us ≡ nodes.uses.items → es ≡ (out-Graph g).edges → fs ≡ f.inputs.items →
    (i : Inputs) → ((port : ℕ) → has i.used port ≡ list_any (λ e. leaves 0 port e.from) es) →
    ((port : ℕ) → has i.given port ≡ list_any (λ e. leaves 0 port e.from && is_given_by ts ls us e) es) →
    (cs : List Bool) → cs ≡ map (is_consuming_by ts fs ls us) es → IsLooked u f g (record { inputs = i; consuming = cs; inside = nodes.inside })
looked-is u f g nodes known ts ls us es fs ets els eus ees efs i used given cs consuming =
    record {
      inputs = inputs-are u g nodes.uses.items known.inner i
          (λ port. used port ∙ ap (list_any (λ (e : Edge). leaves 0 port e.from)) ees)
          (λ port.
          given port
          ∙ (ap (λ ts. given-among ts ls us es port) ets
          ∙ (ap (λ ls. given-among u.types ls us es port) els
          ∙ (ap (λ us. given-among u.types (map label_of (out-Graph g).nodes) us es port) eus
          ∙ ap (λ es. given-among u.types (map label_of (out-Graph g).nodes) nodes.uses.items es port) ees))));
      fit = ap length consuming ∙ (length-map es (is_consuming_by ts fs ls us) ∙ ap length ees);
      consuming = λ tells.
          consuming
          ∙ (ap (λ ts. map (is_consuming_by ts fs ls us) es) ets
          ∙ (ap (λ fs. map (is_consuming_by u.types fs ls us) es) efs
          ∙ (ap (λ ls. map (is_consuming_by u.types f.inputs.items ls us) es) els
          ∙ (ap (λ us. map (is_consuming_by u.types f.inputs.items (map label_of (out-Graph g).nodes) us) es) eus
          ∙ (ap (map (is_consuming_by u.types f.inputs.items (map label_of (out-Graph g).nodes) nodes.uses.items)) ees
          ∙ consuming-are u g f.inputs.items nodes.uses.items (known.uses tells))))));
      inside = λ tells asks. inside-is (flags_by f.asked u) g nodes.inside.items (known.inside tells asks);
    }
