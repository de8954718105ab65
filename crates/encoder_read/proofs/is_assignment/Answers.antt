-- `encoder_read::is_assignment` meets its contract.
use borrow.Author.Rules.{rules}
use borrow.Author.Tests.{eq-eqb}
use lib.Dec.{leb}
use lib.ListN.{length}
use mathlib.Core.Path.{◌≡◌, ◌∙◌}
use Rattle.std.proofs.Common.{tests}
use Rattle.std.proofs.lemmas.Iterator.{YieldsList-from_slice}
use Rattle.std.proofs.lemmas.Iterator.Search.{all_from_yields_List}
use Rattle.encoder_env.proofs.Tests.{all_listed}
use Rattle.encoder_read.specs.Calls.{all_bits}
use Rattle.encoder_read.proofs.is_assignment.Goals as goal

pub returns-then-assignment-variables : goal.returns-then-assignment-variables
returns-then-assignment-variables c =
    let a = c.args in
    let bits : c.all.result ≡ all_bits a.assignment.now =
    all_from_yields_List (λ b. leb b 1) _ _ c.all.result c.all.ensures.ran (YieldsList-from_slice a.assignment.now cc) (λ x b q k. search (rules, tests))
    ∙ all_listed (λ b. leb b 1) a.assignment.now 0 in
    rw (eq-eqb (length a.assignment.now) a.variables c.if-assignment-variables.true) bits
