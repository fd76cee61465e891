use Rattle.std.proofs.Common.{rules}
use Rattle.std.proofs.lemmas.List.Elements.{All-replicate}
use Rattle.pages.specs.Entries.{Kept}
use Rattle.pages.proofs.table.Pages.empty.Goals as goal

pub returns-clause-kept : goal.returns-clause-kept
returns-clause-kept c = All-replicate Kept 64 _ (search rules)
