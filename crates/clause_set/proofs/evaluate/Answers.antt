-- `evaluate` meets its contract.
use Rattle.std.proofs.Common.{refl, rules, tests, ◌∙◌}
use Rattle.std.specs.List.{list_any}
use Rattle.std.proofs.lemmas.Iterator.{YieldsList-from_slice}
use Rattle.std.proofs.lemmas.Iterator.Search.{any_from_yields_List}
use Rattle.std.proofs.lemmas.List.Recursion.{same_from_clauses}
use mathlib.Core.Bool.{◌||◌}
use Rattle.clause_set.specs.Bytes.{clause_holds, lit_holds}
use Rattle.clause_set.proofs.evaluate.Goals as goal

pub returns : goal.returns
returns c =
    let f = lit_holds c.args.assignment.now in
    any_from_yields_List f _ _ _ c.any.ensures.ran (YieldsList-from_slice c.args.clause.now cc) (λ x b q k. search (rules, tests))
    ∙ same_from_clauses (list_any f) (clause_holds c.args.assignment.now) (λ x r. f x || r) refl (λ _ _. refl) (λ _ _. refl) c.args.clause.now
