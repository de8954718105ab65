-- `encoder_env::records_hold` meets its contract.
use native.Mathlib.Omega.{arith}
use mathlib.Core.Path.{◌≡◌, refl, sym, ◌∙◌}
use mathlib.Core.Bool.{true, false}
use borrow.Author.Tests.{lt-ltb, le-ltb}
use Rattle.encoder_env.specs.WellFormed.{all_below, record_holds}
use Rattle.encoder_env.proofs.Tests.{all_more, all_fail}
use Rattle.encoder_env.proofs.records_hold.Goals as goal
use Rattle.encoder_env.proofs.records_hold.Goals.{then-i-env+else-not-encoding_holds, else-i-env+else-not-is_spare}

pub loop-i-init : goal.loop-i-init
unfolding all_below
loop-i-init c = refl

pub returns-then-not-encoding_holds : goal.returns-then-not-encoding_holds
unfolding record_holds
returns-then-not-encoding_holds c =
    let l = c.loop-i in let j = c.args.env in
    let e : record_holds j l.i ≡ false = rw (lt-ltb l.i j.count c.if-i-env.true) (sym c.encoding_holds.ensures ∙ c.if-not-encoding_holds.true) in
    sym (all_fail (record_holds j) 32 l.i (omega arith) e)

pub returns-then-not-is_spare : goal.returns-then-not-is_spare
unfolding record_holds
returns-then-not-is_spare c =
    let l = c.loop-i in let j = c.args.env in
    let e : record_holds j l.i ≡ false = rw (le-ltb l.i j.count c.if-i-env.false) (sym c.is_spare.ensures ∙ c.if-not-is_spare.true) in
    sym (all_fail (record_holds j) 32 l.i (omega arith) e)

pub loop-i-preserved : goal.loop-i-preserved
unfolding record_holds
loop-i-preserved c =
    let l = c.loop-i in let j = c.args.env in
    let e : record_holds j l.i ≡ true =
    elim c.if-i-env.branch [
      | then-i-env+else-not-encoding_holds w ↦ rw (lt-ltb l.i j.count w.if-i-env.true) (sym w.encoding_holds.ensures ∙ w.if-not-encoding_holds.false)
      | else-i-env+else-not-is_spare w ↦ rw (le-ltb l.i j.count w.if-i-env.false) (sym w.is_spare.ensures ∙ w.if-not-is_spare.false)
    ] in
    all_more (record_holds j) l.i l.invariant e
