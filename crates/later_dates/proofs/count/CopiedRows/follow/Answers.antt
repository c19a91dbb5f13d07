-- `later_dates::count::Copied`'s `follow` meets its contract: what the copy has at its front is the row.
use Rattle.std.proofs.Common.{refl, ◌∙◌}
use Rattle.ledger.proofs.Lists.{front_is}
use Rattle.later_dates.proofs.Laws.{row_there, followed_copy}
use Rattle.later_dates.proofs.count.CopiedRows.follow.Goals as goal

pub returns-clause-followed : goal.returns-clause-followed
returns-clause-followed c =
    let a = c.args in
    let S = a.settings.bytes.now in
    followed_copy S a.date a.inherited.now a.self.now.cells.now (row_there S a.self.now.cells.now a.date a.settings.ready c.requires.0.0 c.requires.1).0 _ (front_is c.row_of-row.result.now a.self.now.copy.now _ _ refl c.copy_row.ensures ∙ c.row_of-row.ensures) _ _ c.follow_row.ensures.inherited_after c.follow_row.ensures.value
