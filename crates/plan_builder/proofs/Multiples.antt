-- How the nodes of a returns read multiples.
use Rattle.std.proofs.Common.{◌≡◌, ℕ, Bool, true, false, List, [], ◌∷◌, Option, Some, None, refl, ap, ◌∙◌}
use Rattle.if1_graph.specs.declared.op.Simple.{Simple}
use Rattle.if1_graph.specs.declared.op.Simple.TheVariants as simple
use Rattle.graph_meaning.specs.Demand.{Source}
use Rattle.run_code.specs.Made.{Plan}
use Rattle.plan_data.specs.Settings.{Shares}
use Rattle.firing_order.specs.Returns.{behind_way, keeping_way, last_way, multiple, way_of}
use Rattle.plan_data.specs.declared.plan.Feed.{Feed}
use Rattle.plan_data.specs.declared.plan.Feed.TheVariants as feed
use Rattle.plan_data.specs.declared.plan.Port.{Port}
use Rattle.plan_data.specs.declared.plan.PlanData.{PlanData}
use Rattle.plan_data.specs.Stands.{AreFed, IsFed}
use Rattle.plan_builder.specs.Ways.{behind_by, kept_by, last_by, multiple_by, multiple_port, read_by, reading_by}

last-so : (m : Option ℕ) (os : List Source) → last_way m ≡ read_by (last_by m) os
last-so None os = refl
last-so (Some j) os = refl

kept-final : (b : Bool) (m n : Option ℕ) (o p : Source) → keeping_way b [] m n ≡ read_by (kept_by b m n) (o ∷ p ∷ [])
kept-final true m n o p = refl
kept-final false None n o p = refl
kept-final false (Some j) None o p = refl
kept-final false (Some j) (Some q) o p = refl

kept-behind : (b : Bool) (m n : Option ℕ) (o p q : Source) → keeping_way b (o ∷ []) m n ≡ read_by (kept_by b m n) (o ∷ p ∷ q ∷ [])
kept-behind true m n o p q = refl
kept-behind false None n o p q = refl
kept-behind false (Some j) None o p q = refl
kept-behind false (Some j) (Some k) o p q = refl

behind-so : (b : Bool) (i m n : Option ℕ) (o p q : Source) → behind_way b o i m n ≡ read_by (behind_by b i m n) (o ∷ p ∷ q ∷ [])
behind-so b None m n o p q = kept-behind b m n o p q
behind-so b (Some i) m n o p q = refl

module _ (D : PlanData) (P : Plan) (S : Shares) (g plain : ℕ) where
  pub multiple-so : (f : Feed) (o : Source) → IsFed D P S g f o → multiple plain o ≡ multiple_by plain f
  multiple-so (feed.Input i) o e = ap (multiple plain) e
  multiple-so (feed.Literal n) o e = ap (multiple plain) e
  multiple-so (feed.Output c) o h = ap (multiple plain) h.2

  module _ (left : (port : ℕ) → Bool) where
    final-so : (copies : Bool) (xs : List Port) (os : List Source) → left 1 ≡ copies → AreFed D P S g xs os → way_of plain left simple.FinalValue os ≡ read_by (reading_by plain copies simple.FinalValue xs) os
    final-so copies [] [] e h = refl
    final-so copies [] (o ∷ os) e h = absurd h
    final-so copies (x ∷ xs) [] e h = absurd h
    final-so copies (x ∷ []) (o ∷ []) e h = ap last_way (multiple-so x.feed o h.0) ∙ last-so (multiple_by plain x.feed) (o ∷ [])
    final-so copies (x ∷ []) (o ∷ p ∷ os) e h = absurd h.1
    final-so copies (x ∷ y ∷ xs) (o ∷ []) e h = absurd h.1
    final-so copies (x ∷ y ∷ []) (o ∷ p ∷ []) e h =
        ap (λ b. keeping_way b [] (multiple plain o) (multiple plain p)) e
        ∙ (ap (λ m. keeping_way copies [] m (multiple plain p)) (multiple-so x.feed o h.0)
        ∙ (ap (λ m. keeping_way copies [] (multiple_by plain x.feed) m) (multiple-so y.feed p h.1.0)
        ∙ kept-final copies (multiple_by plain x.feed) (multiple_by plain y.feed) o p))
    final-so copies (x ∷ y ∷ []) (o ∷ p ∷ q ∷ os) e h = absurd h.1.1
    final-so copies (x ∷ y ∷ z ∷ xs) (o ∷ p ∷ []) e h = absurd h.1.1
    final-so copies (x ∷ y ∷ z ∷ xs) (o ∷ p ∷ q ∷ os) e h = refl

    three-so : (copies : Bool) (a b c : Port) (o p q : Source) → left 2 ≡ copies → AreFed D P S g (a ∷ b ∷ c ∷ []) (o ∷ p ∷ q ∷ [])
        → behind_way (left 2) o (multiple plain o) (multiple plain p) (multiple plain q)
        ≡ read_by (behind_by copies (multiple_by plain a.feed) (multiple_by plain b.feed) (multiple_by plain c.feed)) (o ∷ p ∷ q ∷ [])
    three-so copies a b c o p q e h =
        ap (λ z. behind_way z o (multiple plain o) (multiple plain p) (multiple plain q)) e
        ∙ (ap (λ m. behind_way copies o m (multiple plain p) (multiple plain q)) (multiple-so a.feed o h.0)
        ∙ (ap (λ m. behind_way copies o (multiple_by plain a.feed) m (multiple plain q)) (multiple-so b.feed p h.1.0)
        ∙ (ap (λ m. behind_way copies o (multiple_by plain a.feed) (multiple_by plain b.feed) m) (multiple-so c.feed q h.1.1.0)
        ∙ behind-so copies (multiple_by plain a.feed) (multiple_by plain b.feed) (multiple_by plain c.feed) o p q)))

    gather-so : (copies : Bool) (xs : List Port) (os : List Source) → left 2 ≡ copies → AreFed D P S g xs os → way_of plain left simple.AGather os ≡ read_by (reading_by plain copies simple.AGather xs) os
    gather-so copies [] [] e h = refl
    gather-so copies [] (o ∷ os) e h = absurd h
    gather-so copies (x ∷ xs) [] e h = absurd h
    gather-so copies (x ∷ []) (o ∷ []) e h = refl
    gather-so copies (x ∷ []) (o ∷ p ∷ os) e h = absurd h.1
    gather-so copies (x ∷ y ∷ xs) (o ∷ []) e h = absurd h.1
    gather-so copies (x ∷ y ∷ []) (o ∷ p ∷ []) e h = refl
    gather-so copies (x ∷ y ∷ []) (o ∷ p ∷ q ∷ os) e h = absurd h.1.1
    gather-so copies (x ∷ y ∷ z ∷ xs) (o ∷ p ∷ []) e h = absurd h.1.1
    gather-so copies (x ∷ y ∷ z ∷ []) (o ∷ p ∷ q ∷ []) e h = three-so copies x y z o p q e h
    gather-so copies (x ∷ y ∷ z ∷ []) (o ∷ p ∷ q ∷ r ∷ os) e h = absurd h.1.1.1
    gather-so copies (x ∷ y ∷ z ∷ a ∷ xs) (o ∷ p ∷ q ∷ []) e h = absurd h.1.1.1
    gather-so copies (x ∷ y ∷ z ∷ a ∷ xs) (o ∷ p ∷ q ∷ r ∷ os) e h = refl

    -- the way of a node is how it reads
    pub way-so : (copies : Bool) (row : Simple) (xs : List Port) (os : List Source) → left (multiple_port row) ≡ copies → AreFed D P S g xs os → way_of plain left row os ≡ read_by (reading_by plain copies row xs) os
    way-so copies simple.FinalValue xs os e h = final-so copies xs os e h
    way-so copies simple.AGather xs os e h = gather-so copies xs os e h
    way-so copies (simple.Reduce r) xs os e h = reduce-so xs os h
      where
        reduce-so : (xs : List Port) (os : List Source) → AreFed D P S g xs os → way_of plain left (simple.Reduce r) os ≡ read_by (reading_by plain copies (simple.Reduce r) xs) os
        reduce-so [] [] h = refl
        reduce-so [] (o ∷ os) h = absurd h
        reduce-so (x ∷ xs) [] h = absurd h
        reduce-so (x ∷ []) (o ∷ []) h = refl
        reduce-so (x ∷ []) (o ∷ p ∷ os) h = absurd h.1
        reduce-so (x ∷ y ∷ xs) (o ∷ []) h = absurd h.1
        reduce-so (x ∷ y ∷ []) (o ∷ p ∷ []) h = refl
        reduce-so (x ∷ y ∷ []) (o ∷ p ∷ q ∷ os) h = absurd h.1.1
        reduce-so (x ∷ y ∷ z ∷ xs) (o ∷ p ∷ []) h = absurd h.1.1
        reduce-so (x ∷ y ∷ z ∷ []) (o ∷ p ∷ q ∷ []) h = three-so copies x y z o p q e h
        reduce-so (x ∷ y ∷ z ∷ []) (o ∷ p ∷ q ∷ s ∷ os) h = absurd h.1.1.1
        reduce-so (x ∷ y ∷ z ∷ a ∷ xs) (o ∷ p ∷ q ∷ []) h = absurd h.1.1.1
        reduce-so (x ∷ y ∷ z ∷ a ∷ xs) (o ∷ p ∷ q ∷ s ∷ os) h = refl
    way-so copies _ xs os e h = refl
