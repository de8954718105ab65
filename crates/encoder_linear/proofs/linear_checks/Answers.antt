-- `encoder_linear::linear_checks` meets its contract.
use borrow.Author.Rules.{rules}
use borrow.Author.Tests.{le-ltb, lt-ltb}
use mathlib.Core.Path.{◌≡◌, ◌∙◌, ap, sym}
use native.Mathlib.Omega.{arith}
use lib.IntN.{ℤ}
use mir.Syntax.{w32}
use mir.Val.{of_z, to_z}
use mir.ValLaws.{to_z-of_z}
use Rattle.std.specs.Prelude.{Err}
use Rattle.norm_csp.specs.Rules.{terms_of}
use Rattle.log_encoding.specs.AdderSize.{greatest_height}
use Rattle.log_encoding.specs.Turned.{turned_reached}
use Rattle.log_var.specs.Settings.{shape_map_of}
use Rattle.encoder_linear.proofs.Added.{ArgumentsKnown, arguments_known}
use Rattle.encoder_linear.proofs.Ready.{height_decides, refused_first, terms_ready}
use Rattle.encoder_linear.proofs.linear_checks.Goals as goal
use Rattle.encoder_linear.proofs.linear_checks.Goals.{In_ok-argument_checks, Start}

-- the constant, as the callees have it
abbrev given : Start → ℤ
given s = to_z w32 (of_z w32 s.args.constant)

known : (c : In_ok-argument_checks) → let a = c.args in ArgumentsKnown a.env a.lits a.ends a.op (to_z w32 (of_z w32 a.constant)) a.terms.now
known c = let a = c.args in arguments_known a.env a.lits a.ends a.op _ a.terms.now (sym c.in_ok-argument_checks.ensures)

pub returns-in_err-argument_checks : goal.returns-in_err-argument_checks
returns-in_err-argument_checks c =
    let a = c.args in
    let is : c.from_residual.result ≡ Err c.in_err-argument_checks.field-0.0 = search rules in
    rw is (rw (to_z-of_z w32 a.constant c.ranges.constant) at (refused_first a.env a.lits a.ends a.op (to_z w32 (of_z w32 a.constant)) a.terms.now _ c.in_err-argument_checks.ensures))

pub turned_height-requires-clause-terms_ready : goal.turned_height-requires-clause-terms_ready
turned_height-requires-clause-terms_ready c =
    let a = c.args in
    terms_ready a.env a.lits a.ends a.op (to_z w32 (of_z w32 a.constant)) a.terms.now (known (goal.at.turned_height-requires-clause-terms_ready c).In_ok-argument_checks)

pub turned_height-requires-clause-constant_bound : goal.turned_height-requires-clause-constant_bound
turned_height-requires-clause-constant_bound c =
    let k = known (goal.at.turned_height-requires-clause-constant_bound c).In_ok-argument_checks in
    (omega (arith, k.constant_small), omega (arith, k.constant_small))

pub returns-then-turned_height-gt12 : goal.returns-then-turned_height-gt12
returns-then-turned_height-gt12 c =
    let a = c.args in
    let height = c.turned_height.ensures ∙ ap (λ o. greatest_height (turned_reached (shape_map_of a.env.encodings) o (to_z w32 (of_z w32 a.constant)) (terms_of a.terms.now))) c.from.ensures in
    let d = height_decides a.env a.lits a.ends a.op (to_z w32 (of_z w32 a.constant)) a.terms.now c.in_ok-argument_checks.ensures height in
    let k : 13 ≡ _ = sym (d ∙ rw (lt-ltb 12 _ c.if-turned_height-gt12.true)) in
    rw (to_z-of_z w32 a.constant c.ranges.constant) at k

pub returns : goal.returns
returns c =
    let a = c.args in
    let height = c.turned_height.ensures ∙ ap (λ o. greatest_height (turned_reached (shape_map_of a.env.encodings) o (to_z w32 (of_z w32 a.constant)) (terms_of a.terms.now))) c.from.ensures in
    let d = height_decides a.env a.lits a.ends a.op (to_z w32 (of_z w32 a.constant)) a.terms.now c.in_ok-argument_checks.ensures height in
    let k : 0 ≡ _ = sym (d ∙ rw (le-ltb 12 _ c.if-turned_height-gt12.false)) in
    rw (to_z-of_z w32 a.constant c.ranges.constant) at k
