-- What fills the ports of nodes while a graph is made (IF1 manual M-170, edges and literals): a literal, or a port of this graph or
-- of one around it.
use Rattle.std.specs.Prelude.{ℕ, suc, Bool, true, false, nat_eq, List, [], ◌∷◌, ◌++◌, if◌then◌else◌}
use Rattle.lowering.specs.declared.feed.Feed.{Feed}
use Rattle.lowering.specs.declared.feed.Feed.TheVariants.{Absent, Port}
use Rattle.lowering.specs.declared.feed.Carried.{Carried}
use Rattle.lowering.specs.declared.feed.Wire.{Wire}

abbrev pub wire : Feed → Carried → Wire
wire f t = record { feed = f; ty = t }

-- the same port
abbrev pub is_port : Feed → Feed → Bool
is_port (Port a b c) (Port d e f) = if nat_eq a d then (if nat_eq b e then nat_eq c f else false) else false
is_port _ _ = false

-- what fills a port, seen from a graph inside
abbrev pub inside : Feed → Feed
inside (Port up n p) = Port (suc up) n p
inside f = f

abbrev pub into : Wire → Wire
into w = wire (inside w.feed) w.ty

-- a port of a graph around, seen from the graph next around
abbrev pub outside : Carried → Feed → List Wire
outside t (Port (suc up) n p) = wire (Port up n p) t ∷ []
outside t _ = []

abbrev pub outsides : List Wire → List Wire
outsides [] = []
outsides (w ∷ ws) = outside w.ty w.feed ++ outsides ws

-- what the lines of edges and literals carry; a port that is not filled has none
abbrev pub one_carried : Feed → Carried → List Carried
one_carried Absent c = []
one_carried f c = c ∷ []

abbrev pub carried : List Wire → List Carried
carried [] = []
carried (w ∷ ws) = one_carried w.feed w.ty ++ carried ws

-- ---- the inputs of a compound node: the ports of the graphs around that its graphs use, each once, in the order of first use

abbrev pub has : List Wire → Feed → Bool
has [] f = false
has (k ∷ ks) f = if is_port k.feed f then true else has ks f

abbrev pub with_new : List Wire → Wire → List Wire
with_new ks w = if has ks w.feed then ks else ks ++ w ∷ []

abbrev pub distinct : List Wire → List Wire → List Wire
distinct ks [] = ks
distinct ks (w ∷ ws) = distinct (with_new ks w) ws

-- the place of a port among them, from 0
abbrev pub place : List Wire → Feed → ℕ
place [] f = 0
place (k ∷ ks) f = if is_port k.feed f then 0 else suc (place ks f)
