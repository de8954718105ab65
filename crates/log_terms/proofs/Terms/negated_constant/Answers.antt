-- `log_terms::Terms::negated_constant` meets its contract.
use mathlib.Core.Path.{◌≡◌, ap}
use mathlib.Core.List.{◌∷◌, map}
use Prim.Native.Nat.{◌+◌}
use native.Mathlib.Omega.{arith}
use lib.ListN.{drop, get_or}
use Rattle.log_encoding.specs.Linear.{negated_constant}
use Rattle.log_terms.specs.Terms.{no_term, weighted_of}
use Rattle.log_terms.proofs.Gathering.{terms_next, term_long, terms_none}
use Rattle.log_terms.proofs.Terms.negated_constant.Goals as goal

pub loop-t-preserved : goal.loop-t-preserved
loop-t-preserved c =
    let l = c.loop-t in
    let k = c.loop-t-test.true in
    let ts = c.args.self.now.list.now in
    let t = get_or ts l.t-index no_term in
    let n = term_long t (c.args.self.now.fits.fits l.t-index k) in
    let w = c.negated_term-sum.ensures in
    let e = ap negated_constant (terms_next ts l.t-index k) in
    let g : negated_constant (weighted_of t ∷ drop (l.t-index + 1) (map weighted_of ts)) ≡ c.negated_term-sum.result + negated_constant (drop (l.t-index + 1) (map weighted_of ts)) = rw (n, w.0) in
    (omega (arith, l.invariant.0, e, g), omega (arith, l.invariant.1, w.1))

pub returns : goal.returns
returns c =
    let l = c.loop-t in
    (omega (arith, l.invariant.0, ap negated_constant (terms_none c.args.self.now.list.now l.t-index c.loop-t-test.false)), omega (arith, l.invariant.1, l.auto.t-index-end, c.args.self.now.fits.few))
