-- `log_gather::negate_all` meets its contract.
use mathlib.Core.Path.{◌≡◌, refl, ap, sym, ◌∙◌}
use mathlib.Core.List.{List, map}
use Prim.Native.Nat.{ℕ, ◌^◌, ◌<◌}
use native.Mathlib.Omega.{arith}
use lib.Dec.{lit<}
use lib.ListN.{length, length-set, take}
use lib.Seq.{take_all}
use Rattle.sat.specs.declared.Lit.{Lit}
use Rattle.sat.specs.Lit.{neg}
use Rattle.sat.specs.LitArray.{lit, num}
use Rattle.sat.proofs.Every.{every_replicate, every_set}
use Rattle.log_gather.proofs.Constants.{neg_low, negate_more}
use Rattle.log_gather.proofs.negate_all.Goals as goal

pub loop-i-init : goal.loop-i-init
loop-i-init c = (refl, refl, every_replicate (lit 0) (λ (x : Lit). x.0 < 2 ^ 31) 32 (lit< tt))

pub loop-i-preserved : goal.loop-i-preserved
loop-i-preserved c =
    let l = c.loop-i in
    let w = c.not in (
      length-set l.out l.i w.result ∙ l.invariant.0,
      negate_more l.out c.args.lits.now l.i w.result (omega arith) (omega arith) w.ensures l.invariant.1,
      every_set (lit 0) (λ (x : Lit). x.0 < 2 ^ 31) l.out l.i w.result l.invariant.2 (rw w.ensures (neg_low _ (c.requires.1 l.i))),
    )

pub returns : goal.returns
returns c =
    let l = c.loop-i in
    let lits = c.args.lits.now in
    let e : l.i ≡ length lits = omega (arith, l.auto.i-end, c.loop-i-test.false) in
    let all : take l.i lits ≡ lits = take_all l.i lits (omega arith) in
    (ap (λ (n : ℕ). map num (take n l.out)) (sym e) ∙ l.invariant.1 ∙ ap (λ (ls : List Lit). map neg (map num ls)) all, refl, l.invariant.2)
