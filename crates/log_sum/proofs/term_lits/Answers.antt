-- `log_sum::term_lits` meets its contract.
use mathlib.Core.Path.{◌≡◌, ap, refl, sym, ◌∙◌}
use mathlib.Core.List.{map}
use Prim.Native.Nat.{ℕ, ◌<◌}
use native.Mathlib.Omega.{arith}
use lib.Dec.{lit<}
use lib.ListN.{get_or, length, length-set, take}
use lib.Seq.{take_all}
use Rattle.sat.specs.declared.Lit.{Lit}
use Rattle.sat.specs.LitArray.{lit, num}
use Rattle.sat.proofs.Every.{every_replicate, every_set}
use Rattle.log_sum.proofs.Settings.{lits_more}
use Rattle.log_sum.proofs.term_lits.Goals as goal

pub loop-i-init : goal.loop-i-init
loop-i-init c = (refl, refl, every_replicate (lit 0) (λ (x : Lit). x.0 < 2147483647) 32 (lit< tt))

pub loop-i-preserved : goal.loop-i-preserved
loop-i-preserved c =
    let l = c.loop-i in
    let lits = c.args.lits.now in
    let x = get_or lits l.i (lit 0) in (
      length-set l.out l.i x ∙ l.invariant.0,
      lits_more l.out lits l.i (omega (arith, l.invariant.0, c.requires.0, c.loop-i-test.true)) c.loop-i-test.true l.invariant.1,
      every_set (lit 0) (λ (x : Lit). x.0 < 2147483647) l.out l.i x l.invariant.2 (c.requires.1 l.i),
    )

pub returns-clause-bits : goal.returns-clause-bits
returns-clause-bits c =
    let l = c.loop-i in
    let lits = c.args.lits.now in
    let e : l.i ≡ length lits = omega (arith, l.auto.i-end, c.loop-i-test.false) in
    let all : take l.i lits ≡ lits = take_all l.i lits (omega arith) in
    (ap (λ (n : ℕ). map num (take n l.out)) (sym e) ∙ l.invariant.1 ∙ ap (map num) all, refl)
