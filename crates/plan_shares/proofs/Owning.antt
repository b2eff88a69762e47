-- What the graphs of a unit own by its shares.
use Rattle.std.proofs.Common.{◌≡◌, ℕ, zero, suc, ◌+◌, ◌-◌, ◌<◌, ◌&&◌, ◌||◌, not, if◌then◌else◌, ltb, Bool, true, false, List, Option, Some, None, refl, sym, ap, ◌∙◌, subst, arith}
use Rattle.std.specs.Prelude.{nat_lt, slice_get}
use Rattle.std.proofs.lemmas.Bool.{le-ltb, ltb-false}
use Rattle.if1_graph.specs.declared.graph.Graph.{Graph}
use Rattle.if1_graph.specs.declared.graph.Node.{Node, out-Node}
use Rattle.if1_graph.specs.declared.graph.Unit1.{Unit1}
use Rattle.if1_graph.specs.declared.op.Compound.{Compound}
use Rattle.if1_graph.specs.declared.op.Compound.TheVariants as compound
use Rattle.if1_graph.specs.declared.op.Part.{Part}
use Rattle.if1_graph.specs.declared.op.Part.TheVariants as part
use Rattle.if1_graph.specs.Ports.{part_of, results_at}
use Rattle.if1_graph.specs.Units.{Function, Home, Inside, Place, label_of, width}
use Rattle.if1_marks.proofs.Tests.{both-left, both-right}
use Rattle.if1_marks.specs.Owned.{has_one_edge, is_input_owned, is_last_wanted, is_owned_as, is_owned_in, is_read_in_turns}
use Rattle.graph_meaning.specs.Demand.{Port, Vertex}
use Rattle.run_code.specs.Collections.{Collect}
use Rattle.made_store.specs.Marks.{owned_in, owned_inputs}
use Rattle.unit_plan.specs.Plans.{collects_in, place_of, plain_as, plain_at, plain_by, plain_in, plain_of}
use Rattle.unit_plan.specs.Returns.{multiple}
use Rattle.unit_plan.specs.Shares.{collect_at, has_of, owns_by, owns_collected, owns_of}
use Rattle.plan_shares.proofs.There.{owned-has, past-has}
use Rattle.plan_shares.specs.Laws.{AreOwnedThere}

module _ (u : Unit1) (order : (graph : ℕ) → List Vertex) where
  -- a graph that is no returns owns by the marks
  pub owns-marked : (h q : ℕ) → plain_of u h ≡ None → owns_of u order h q ≡ true → owned_inputs u h q ≡ true
  owns-marked h zero e o = absurd cc
  owns-marked h (suc q) e o = sym (ap (λ z. owns_by u order z h (suc q)) e) ∙ o

  pub marked-owns : (h q : ℕ) → plain_of u h ≡ None → owned_inputs u h (suc q) ≡ true → owns_of u order h (suc q) ≡ true
  marked-owns h q e o = ap (λ z. owns_by u order z h (suc q)) e ∙ o

  -- a returns owns nothing of what is plain
  pub owns-collected : (h plain q : ℕ) → plain_of u h ≡ Some plain → owns_of u order h q ≡ true → plain < q
  owns-collected h plain zero e o = absurd cc
  owns-collected h plain (suc q) e o = go (ltb q plain) refl (sym (ap (λ z. owns_by u order z h (suc q)) e) ∙ o)
    where
      go : (b : Bool) → ltb q plain ≡ b → owns_collected u order plain h (if b then None else slice_get (collects_in u h (Some plain) (order h)) (q - plain)) ≡ true → plain < suc q
      go true f o = absurd cc
      go false f o = let le = ltb-false q plain f in omega (arith, le)

  -- an input that is collected
  pub collect-there : (plain : ℕ) (cs : List Collect) (a : ℕ) → collect_at plain cs (suc (plain + a)) ≡ slice_get cs a
  collect-there plain cs a =
      let past = le-ltb (plain + a) plain (omega arith) in
      let back : plain + a - plain ≡ a = omega arith in
      ap (λ b. if b then None else slice_get cs (plain + a - plain)) past ∙ ap (slice_get cs) back

  module _ (r plain : ℕ) (e : plain_of u r ≡ Some plain) (a : ℕ) where
    abbrev cs : List Collect
    cs = collects_in u r (Some plain) (order r)

    pub owns-there : owns_of u order r (suc (plain + a)) ≡ owns_collected u order plain r (slice_get cs a)
    owns-there = ap (λ z. owns_by u order z r (suc (plain + a))) e ∙ ap (owns_collected u order plain r) (collect-there plain cs a)

pub owned-there : AreOwnedThere
owned-there u order g zero o = absurd cc
owned-there u order g (suc p) o = go (plain_of u g) refl
  where
    go : (z : Option ℕ) → plain_of u g ≡ z → has_of u g (suc p) ≡ true
    go None e = owned-has u g (suc p) e (owns-marked u order g (suc p) e o)
    go (Some plain) e = past-has u g (suc p) plain e (owns-collected u order g plain (suc p) e o)

-- ---- a returns owns by its marks what is no plain input, where one edge leaves it

some-same : (a b : ℕ) → Some a ≡ Some b → a ≡ b
some-same a b e = cc

below : (k port : ℕ) → nat_lt k port ≡ true → k < port
below k port h = grind (arith, h)

pub record IsOwnedOnce (h : Graph) (plain p : ℕ) : Type 0 where
  pub past : plain < p
  pub once : has_one_edge h p ≡ true

module _ (u : Unit1) (outer h : Graph) (n : Node) (p : ℕ) where
  abbrev wide : ℕ
  wide = width outer (label_of n)

  abbrev wanted : Bool
  wanted = is_last_wanted h p || not (is_read_in_turns (out-Node n).subs p)

  of-loop : nat_lt wide p && (has_one_edge h p && wanted) ≡ true → IsOwnedOnce h wide p
  of-loop e =
      record {
        past = below wide p (both-left (nat_lt wide p) (has_one_edge h p && wanted) e);
        once = both-left (has_one_edge h p) wanted (both-right (nat_lt wide p) (has_one_edge h p && wanted) e);
      }

  of-returns : (c : Compound) → is_owned_in u outer n h c part.Returns p ≡ true → IsOwnedOnce h (plain_by c wide (out-Node n).subs) p
  of-returns compound.ForAll e =
      record {
        past = below (wide + results_at (out-Node n).subs 0) p (both-left (nat_lt (wide + results_at (out-Node n).subs 0) p) (has_one_edge h p) e);
        once = both-right (nat_lt (wide + results_at (out-Node n).subs 0) p) (has_one_edge h p) e;
      }
  of-returns compound.Select e = of-loop e
  of-returns compound.TagCase e = of-loop e
  of-returns compound.LoopA e = of-loop e
  of-returns compound.LoopB e = of-loop e

  of-part : (o : Option (Compound × Part)) (plain : ℕ) → plain_as outer n o ≡ Some plain → is_owned_as u outer n h o p ≡ true → IsOwnedOnce h plain p
  of-part (Some (c, part.Returns)) plain f e = subst (λ z. IsOwnedOnce h z p) (some-same (plain_by c wide (out-Node n).subs) plain f) (of-returns c e)
  of-part _ plain f e = absurd cc

pub returns-owned : (u : Unit1) (h : Graph) (home : Home) (plain p : ℕ) → plain_at home ≡ Some plain → is_input_owned u h home p ≡ true → IsOwnedOnce h plain p
returns-owned u h (Function k) plain p f e = absurd cc
returns-owned u h (Inside outer n k) plain p f e = of-part u outer h n p (part_of n k) plain f e

pub record IsReturnsOwned (u : Unit1) (r plain p : ℕ) : Type 0 where
  pub place : Place
  pub found : place_of u r ≡ Some place
  pub owned : IsOwnedOnce place.graph plain p

pub owned-once : (u : Unit1) (r plain p : ℕ) → plain_of u r ≡ Some plain → owned_inputs u r p ≡ true → IsReturnsOwned u r plain p
owned-once u r plain p f e = go (place_of u r) refl f e
  where
    go : (o : Option Place) → place_of u r ≡ o → plain_in o ≡ Some plain → owned_in u o p ≡ true → IsReturnsOwned u r plain p
    go None at f e = absurd cc
    go (Some q) at f e = record { place = q; found = at; owned = returns-owned u q.graph q.home plain p f e }

-- so it owns no plain source
pub not-plain : (u : Unit1) (r plain p : ℕ) → plain_of u r ≡ Some plain → owned_inputs u r p ≡ true → multiple plain (Port 0 p) ≡ None → ⊥
not-plain u r plain zero f e n = let lt = (owned-once u r plain zero f e).owned.past in omega (arith, lt)
not-plain u r plain (suc p) f e n =
    let lt = (owned-once u r plain (suc p) f e).owned.past in
    clash (p - plain) (sym (ap (λ b. if b then None else Some (p - plain)) (le-ltb p plain (omega (arith, lt)))) ∙ n)
  where
    clash : (m : ℕ) → Some m ≡ None → ⊥
    clash m e = cc
