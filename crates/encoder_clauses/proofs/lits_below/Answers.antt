-- `encoder_clauses::lits_below` meets its contract.
use borrow.Author.Rules.{rules}
use lib.Dec.{ltb}
use mathlib.Core.Path.{◌∙◌}
use Rattle.std.proofs.lemmas.Iterator.{YieldsList-from_slice}
use Rattle.std.proofs.lemmas.Iterator.Search.{all_from_yields_List}
use Rattle.std.proofs.Common.{tests}
use Rattle.encoder_clauses.proofs.Walking.{below_listed}
use Rattle.encoder_clauses.proofs.lits_below.Goals as goal

pub returns : goal.returns
returns c =
    let a = c.args in
    all_from_yields_List (λ l. ltb l a.limit) _ _ _ c.all.ensures.ran (YieldsList-from_slice a.clause.now cc) (λ x b q k. search (rules, tests)) ∙ below_listed a.limit a.clause.now
