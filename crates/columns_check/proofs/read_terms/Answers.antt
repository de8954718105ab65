-- `columns_check::read_terms` meets its contract.
use mathlib.Core.Path.{◌≡◌}
use native.Mathlib.Omega.{arith}
use Rattle.mixed.specs.Infos.{no_info}
use Rattle.columns_check.proofs.Laws.{terms_none, terms_more}
use Rattle.columns_check.proofs.read_terms.Goals as goal

pub loop-n-init : goal.loop-n-init
loop-n-init c =
    let z = c.default-terms.ensures in
    let e : c.default-terms.result ≡ no_info = λ i. record { weight = z.0 i; falling = z.1.0 i; first = record { 0 = z.1.1.0 i }; count = z.1.1.1 i } in
    rw e terms_none

pub loop-n-preserved : goal.loop-n-preserved
loop-n-preserved c =
    let l = c.loop-n in terms_more l.terms l.left l.last l.n c.in_ok-x.x (omega arith) c.in_ok-x.ensures l.invariant
