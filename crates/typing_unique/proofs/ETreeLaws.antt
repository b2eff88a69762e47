-- The laws on typed trees of expressions, as they are stated.
use Rattle.typed_tree.specs.Units.{denotes}
use Rattle.typed_tree.specs.Faults.{misnames}
use Rattle.typing_unique.specs.ExprLaws.{OneTypedLaw, OneTypedListLaw}
use Rattle.typing_unique.proofs.EOne.{one_type}
use Rattle.typing_unique.proofs.ETree.{one_tree, all_trees}

pub one_typed_law : OneTypedLaw
one_typed_law u types k s f n e t v tys others p q =
    one_tree k (denotes u types) (misnames u types) f.fair n s e t tys p f.scope v others
    (one_type k k.forms k.forms (denotes u types) (misnames u types) f.fair s e t tys p f.scope v others q) q

pub one_typed_list_law : OneTypedListLaw
one_typed_list_law u types k s f n es ts vs tys others p q = all_trees k (denotes u types) (misnames u types) f.fair n s es ts tys p f.scope vs others q
