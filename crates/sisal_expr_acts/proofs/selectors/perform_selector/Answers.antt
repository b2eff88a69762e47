-- Each arm is one action.
use Rattle.sisal_expr_acts.proofs.selectors.perform_selector.Goals as goal

pub returns-in-Posted : goal.returns-in-Posted
returns-in-Posted c = rw c.in-Posted.is c.post.ensures

pub returns-in-NoPosts : goal.returns-in-NoPosts
returns-in-NoPosts c = rw c.in-NoPosts.is c.no_posts.ensures

pub returns-in-MorePosts : goal.returns-in-MorePosts
returns-in-MorePosts c = rw c.in-MorePosts.is c.more_posts.ensures

pub returns-in-Bracket : goal.returns-in-Bracket
returns-in-Bracket c = rw c.in-Bracket.is c.bracket.ensures

pub returns-in-Dot : goal.returns-in-Dot
returns-in-Dot c = rw c.in-Dot.is c.dot.ensures

pub returns-in-Replaced : goal.returns-in-Replaced
returns-in-Replaced c = rw c.in-Replaced.is c.replaced.ensures

pub returns-in-CloseBracket : goal.returns-in-CloseBracket
returns-in-CloseBracket c = rw c.in-CloseBracket.is c.close_bracket.ensures

pub returns-in-MoreBracket : goal.returns-in-MoreBracket
returns-in-MoreBracket c = rw c.in-MoreBracket.is c.more_bracket.ensures

pub returns-in-ColonBracket : goal.returns-in-ColonBracket
returns-in-ColonBracket c = rw c.in-ColonBracket.is c.colon_bracket.ensures

pub returns-in-OneValue : goal.returns-in-OneValue
returns-in-OneValue c = rw c.in-OneValue.is c.one_value.ensures

pub returns-in-NoValues : goal.returns-in-NoValues
returns-in-NoValues c = rw c.in-NoValues.is c.no_values.ensures

pub returns-in-SemiValues : goal.returns-in-SemiValues
returns-in-SemiValues c = rw c.in-SemiValues.is c.semi_values.ensures

pub returns-in-MoreValues : goal.returns-in-MoreValues
returns-in-MoreValues c = rw c.in-MoreValues.is c.more_values.ensures
