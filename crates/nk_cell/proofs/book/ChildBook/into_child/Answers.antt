-- The child is what its journal tells.
use Rattle.nk_cell.proofs.Keeps.{kept}
use Rattle.nk_cell.proofs.book.ChildBook.into_child.Goals as goal

pub returns-clause-kept : goal.returns-clause-kept
returns-clause-kept c = kept c.state_law.ensures c.self.inside _ c.self.view_is c.self.invariant
