use Rattle.std.proofs.Common.{rules, Some}
use Rattle.pages.proofs.Searching.{lowest_found}
use Rattle.pages.proofs.table.Pages.search.Goals as goal

pub returns-in_err-number-clause-value : goal.returns-in_err-number-clause-value
returns-in_err-number-clause-value c = lowest_found _ _ _ (search rules)

pub returns-clause-value : goal.returns-clause-value
returns-clause-value c = lowest_found _ _ (Some _) (search rules)
