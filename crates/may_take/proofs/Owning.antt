-- What a graph owns by what is known of where it stands is what the rules say.
use Rattle.std.proofs.Common.{◌≡◌, ◌∙◌, ℕ, zero, suc, ◌+◌, Bool, true, false, ◌&&◌, ◌||◌, not, List, [], ◌∷◌, map, nat_lt, Option, Some, None, refl, sym, ap, if◌then◌else◌, ◌==◌}
use Rattle.std.proofs.lemmas.List.{length-map}
use Rattle.if1_graph.specs.declared.graph.Edge.{Edge}
use Rattle.if1_graph.specs.declared.graph.Graph.{Graph}
use Rattle.if1_graph.specs.declared.graph.Graph.TheViews.{out-Graph}
use Rattle.if1_graph.specs.declared.graph.Node.{Node, out-Node}
use Rattle.if1_graph.specs.declared.graph.Origin.{Origin}
use Rattle.if1_graph.specs.declared.graph.Origin.TheVariants.{Port, Lit}
use Rattle.if1_graph.specs.declared.graph.TypeEntry.{TypeEntry}
use Rattle.if1_graph.specs.declared.graph.Unit1.{Unit1}
use Rattle.if1_graph.specs.declared.op.Compound.{Compound}
use Rattle.if1_graph.specs.declared.op.Compound.TheVariants as compound
use Rattle.if1_graph.specs.declared.op.Simple.{Simple}
use Rattle.if1_graph.specs.declared.op.Part.{Part}
use Rattle.if1_graph.specs.declared.op.Part.TheVariants as part
use Rattle.if1_graph.specs.Ops.{simple_at, compound_at}
use Rattle.if1_graph.specs.Parts.{part_at}
use Rattle.if1_graph.specs.Ports.{edges_from, part_of}
use Rattle.if1_graph.specs.Tables.{◌>>=◌}
use Rattle.if1_graph.specs.Units.{label_of, greatest, edges_into, Inside}
use Rattle.if1_marks.specs.Given.{inside, is_consumed_by, is_given_to, is_given_inside, is_used_inside}
use Rattle.if1_marks.specs.Given as given
use Rattle.if1_marks.specs.Owned.{users, is_last_value, is_read_in_turns, is_owned}
use Rattle.if1_marks.specs.Owned as owned
use Rattle.if1_marks.proofs.Consumed.{used-at}
use Rattle.if1_reach.specs.Users.{users_in}
use Rattle.may_take.specs.declared.around.Around.{Around}
use Rattle.may_take.specs.declared.functions.Functions.{Functions}
use Rattle.may_take.specs.declared.uses.NodeUse.{NodeUse}
use Rattle.may_take.specs.declared.uses.NodeUse.TheVariants as how
use Rattle.may_take.specs.Ports.{has}
use Rattle.may_take.specs.Around.{is_in_turns, IsAroundOf}
use Rattle.may_take.specs.Uses.{is_consumed_inside}
use Rattle.may_take.specs.Looked.{callee_in, is_call_of, simple_use, stand_in, IsUseAs, IsUse}
use Rattle.may_take.specs.Owned.{Stand, AsFunction, InNode, Elsewhere, is_returns, reads_users, is_one, is_free, is_owned_in_body, is_owned_in_returns, is_owned_in, is_owned_as, is_input_owned, is_owned_at}
use Rattle.may_take.proofs.Nodes.{inner-is}

turns-read : (ts : List TypeEntry) (gs : List Graph) (port : ℕ) → is_in_turns (map (inside ts) gs) port ≡ is_read_in_turns gs port
turns-read ts [] port = refl
turns-read ts (a ∷ []) port = refl
turns-read ts (a ∷ b ∷ []) port = refl
turns-read ts (a ∷ b ∷ c ∷ gs) port = ap (λ x. x || (inside ts c).is_used port) (used-at ts b port) ∙ ap (λ x. is_used_inside b port || x) (used-at ts c port)

module _ (u : Unit1) (g : Graph) (n : Node) (s : Graph) (c : Compound) (a : Around) (is : List given.Inside) (same : is ≡ map (inside u.types) (out-Node n).subs)
    (ok : IsAroundOf c (edges_into g (label_of n)) (out-Node n).subs is a) (given-is : (port : ℕ) → has a.given port ≡ is_consumed_by u n port) (port : ℕ) where
  abbrev us : List ℕ
  us = users s (Port 0 port)

  one-is : is_one us ≡ owned.has_one_edge s port
  one-is = ap (λ k. k == 1) (length-map (edges_from s 0 port) (λ (e : Edge). e.node))

  own-is : nat_lt a.width port ≡ owned.is_own u g n s port
  own-is = ap (λ w. nat_lt w port) ok.width

  made-is : nat_lt (a.width + a.first) port ≡ owned.is_made u g n s port
  made-is = ap (λ w. nat_lt (w + a.first) port) ok.width ∙ ap (λ r. nat_lt (greatest (map (λ (e : Edge). e.port) (edges_into g (label_of n))) + r) port) ok.first

  free-is : is_free a s us port ≡ (owned.is_last_wanted s port || not (is_read_in_turns (out-Node n).subs port))
  free-is =
      ap (λ b. owned.is_last_wanted s port || not b)
      (ok.turns port ∙ ap (λ is. is_in_turns is port) same ∙ turns-read u.types (out-Node n).subs port)

  after-loop : (nat_lt a.width port && (is_one us && is_free a s us port)) ≡ (owned.is_own u g n s port && (owned.has_one_edge s port && (owned.is_last_wanted s port || not (is_read_in_turns (out-Node n).subs port))))
  after-loop =
      ap (λ b. b && (is_one us && is_free a s us port)) own-is
      ∙ ap (λ b. owned.is_own u g n s port && (b && is_free a s us port)) one-is
      ∙ ap (λ b. owned.is_own u g n s port && (owned.has_one_edge s port && b)) free-is

  made-once : (nat_lt (a.width + a.first) port && is_one us) ≡ (owned.is_made u g n s port && owned.has_one_edge s port)
  made-once = ap (λ b. b && is_one us) made-is ∙ ap (λ b. owned.is_made u g n s port && b) one-is

  in-returns : (c : Compound) → is_owned_in_returns c a s us port ≡ owned.is_owned_in_returns u g n s c port
  in-returns compound.ForAll = made-once
  in-returns compound.Select = after-loop
  in-returns compound.TagCase = after-loop
  in-returns compound.LoopA = after-loop
  in-returns compound.LoopB = after-loop

  in-body : (c : Compound) → is_owned_in_body c a port ≡ owned.is_owned_in_body u g n s c port
  in-body compound.ForAll = refl
  in-body compound.Select = own-is
  in-body compound.TagCase = own-is
  in-body compound.LoopA = own-is
  in-body compound.LoopB = own-is

  in-part : (p : Part) → is_owned_in p a s us port ≡ owned.is_owned_in u g n s c p port
  in-part part.Alternative = given-is port
  in-part part.Arm = given-is port
  in-part part.Initialization = given-is port
  in-part part.Body = ap (λ k. is_owned_in_body k a port) ok.compound ∙ in-body c
  in-part part.Returns = ap (λ k. is_owned_in_returns k a s us port) ok.compound ∙ in-returns c
  in-part part.Selector = refl
  in-part part.Generator = refl
  in-part part.Test = refl

  as-part : (o : Option Part) → is_owned_as o a s us port ≡ owned.is_owned_as u g n s (o >>= λ p. Some (c, p)) port
  as-part None = refl
  as-part (Some p) = in-part p

module _ (u : Unit1) (f : Functions) (g : Graph) (n : Node) (is : List given.Inside) (same : is ≡ map (inside u.types) (out-Node n).subs) (h : NodeUse) (known : IsUse f g n is h) (s : Graph) (k port : ℕ) where
  no-site : (o : Option Simple) → is_input_owned (stand_in (simple_use f (edges_into g (label_of n)) o) k) s (users s (Port 0 port)) port ≡ false
  no-site None = refl
  no-site (Some op) = split (is_call_of op)
    where
      split : (b : Bool) → is_input_owned (stand_in (if b then how.Call (callee_in f (edges_into g (label_of n))) else how.Simple op) k) s (users s (Port 0 port)) port ≡ false
      split true = refl
      split false = refl

  by-compound : (c : Option Compound) → compound_at (out-Node n).op ≡ c → IsUseAs f g n is c h →
      is_input_owned (stand_in h k) s (users s (Port 0 port)) port ≡ owned.is_owned_as u g n s (c >>= λ c. part_at c k >>= λ p. Some (c, p)) port
  by-compound None at e = ap (λ h. is_input_owned (stand_in h k) s (users s (Port 0 port)) port) e ∙ no-site (simple_at (out-Node n).op)
  by-compound (Some c) at (a, ok, e) =
      ap (λ h. is_input_owned (stand_in h k) s (users s (Port 0 port)) port) e
      ∙ (ap (λ c. is_owned_as (part_at c k) a s (users s (Port 0 port)) port) ok.compound
      ∙ as-part u g n s c a is same ok (λ port. ap (λ h. is_consumed_inside h port) (sym e) ∙ ap (λ (q : ℕ → Bool). q port) (inner-is u f g n is same h known)) port (part_at c k))

  pub input-is : is_input_owned (stand_in h k) s (users s (Port 0 port)) port ≡ owned.is_owned_as u g n s (part_of n k) port
  input-is = by-compound (compound_at (out-Node n).op) refl known

module _ (u : Unit1) (f : Functions) (g : Graph) (n : Node) (is : List given.Inside) (same : is ≡ map (inside u.types) (out-Node n).subs) (h : NodeUse) (known : IsUse f g n is h) (s : Graph) (k : ℕ) where
  pub part-owned : (from : Origin) → is_owned_at (stand_in h k) s (users s from) from ≡ is_owned u (record { graph = s; home = Inside g n k }) from
  part-owned (Lit text) = refl
  part-owned (Port zero port) = input-is u f g n is same h known s k port
  part-owned (Port (suc l) port) = refl

-- ---- users are read in returns alone

users-in-part : (a : Around) (g : Graph) (port : ℕ) (o : Option Part) →
    is_owned_as o a g (users_in (if is_returns o then (out-Graph g).edges else []) (Port 0 port)) port ≡ is_owned_as o a g (users g (Port 0 port)) port
users-in-part a g port None = refl
users-in-part a g port (Some part.Alternative) = refl
users-in-part a g port (Some part.Arm) = refl
users-in-part a g port (Some part.Initialization) = refl
users-in-part a g port (Some part.Body) = refl
users-in-part a g port (Some part.Returns) = refl
users-in-part a g port (Some part.Selector) = refl
users-in-part a g port (Some part.Generator) = refl
users-in-part a g port (Some part.Test) = refl

pub users-read : (st : Stand) (g : Graph) (from : Origin) → is_owned_at st g (users_in (if reads_users st then (out-Graph g).edges else []) from) from ≡ is_owned_at st g (users g from) from
users-read st g (Lit text) = refl
users-read (AsFunction given) g (Port zero port) = refl
users-read (InNode a k) g (Port zero port) = users-in-part a g port (part_at a.compound k)
users-read Elsewhere g (Port zero port) = refl
users-read st g (Port (suc l) port) = refl
