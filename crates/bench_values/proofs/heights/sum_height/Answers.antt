-- `bench_values::heights::sum_height` meets its contract.
use Prim.Native.Nat.{ℕ}
use mathlib.Core.Bool.{cond}
use mathlib.Core.Path.{◌≡◌, ◌∙◌, ap, sym}
use native.Mathlib.Omega.{arith}
use lib.Dec.{eqb}
use lib.IntN.{ℤ}
use mir.Syntax.{w32}
use mir.Val.{of_z, to_z}
use mir.ValLaws.{to_z-of_z}
use Rattle.norm_csp.specs.Rules.{terms_of}
use Rattle.log_encoding.specs.AdderSize.{greatest_height}
use Rattle.log_encoding.specs.Turned.{turned_reached}
use Rattle.log_var.specs.Settings.{shape_map_of}
use Rattle.encoder_answer.specs.Outcome.{status_of}
use Rattle.encoder_linear.specs.Sums.{argument_checks, sum_reached}
use Rattle.encoder_linear.proofs.Added.{ArgumentsKnown, arguments_known}
use Rattle.encoder_linear.proofs.Ready.{terms_ready}
use Rattle.bench_values.specs.Heights.{sum_height}
use Rattle.bench_values.proofs.heights.sum_height.Goals as goal
use Rattle.bench_values.proofs.heights.sum_height.Goals.{In-Ok}

-- the constant, as the callees have it
abbrev given : In-Ok → ℤ
given c = to_z w32 (of_z w32 c.args.constant)

passed : (c : In-Ok) → let a = c.args in status_of (argument_checks a.env a.lits a.ends a.op (given c) a.terms.now) ≡ 0
passed c = sym c.in-Ok.ensures

known : (c : In-Ok) → let a = c.args in ArgumentsKnown a.env a.lits a.ends a.op (given c) a.terms.now
known c = let a = c.args in arguments_known a.env a.lits a.ends a.op (given c) a.terms.now (passed c)

pub turned_height-requires-clause-terms_ready : goal.turned_height-requires-clause-terms_ready
turned_height-requires-clause-terms_ready c =
    let s = (goal.at.turned_height-requires-clause-terms_ready c).In-Ok in
    let a = c.args in
    terms_ready a.env a.lits a.ends a.op (given s) a.terms.now (known s)

pub turned_height-requires-clause-constant_bound : goal.turned_height-requires-clause-constant_bound
turned_height-requires-clause-constant_bound c =
    let k = known (goal.at.turned_height-requires-clause-constant_bound c).In-Ok in
    (omega (arith, k.constant_small), omega (arith, k.constant_small))

pub returns-in-Ok : goal.returns-in-Ok
returns-in-Ok c =
    let s = (goal.at.returns-in-Ok c).In-Ok in
    let a = c.args in
    let h = greatest_height (sum_reached a.env a.op (given s) a.terms.now) in
    let k : c.turned_height.result ≡ sum_height a.env a.lits a.ends a.op (given s) a.terms.now =
    c.turned_height.ensures ∙ ap (λ o. greatest_height (turned_reached (shape_map_of a.env.encodings) o (given s) (terms_of a.terms.now))) c.from.ensures
    ∙ sym (ap (λ (n : ℕ). cond (eqb n 0) h 0) (passed s))
    in
    rw (to_z-of_z w32 a.constant c.ranges.constant) at k
