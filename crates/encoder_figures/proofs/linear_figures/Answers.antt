-- `encoder_figures::linear_figures` meets its contract.
use lib.IntN.{ℤ}
use mathlib.Core.List.{List}
use mathlib.Core.Path.{◌≡◌, ◌∙◌, ap, subst, sym}
use mir.Syntax.{w32}
use mir.Val.{of_z, to_z}
use mir.ValLaws.{to_z-of_z}
use native.Mathlib.Omega.{arith}
use Rattle.norm_csp.specs.Rules.{cmp_op_of, terms_of}
use Rattle.norm_csp.specs.Turned.{turned}
use Rattle.log_encoding.proofs.LinearSize.{encode_linear_log_size}
use Rattle.log_encoding.specs.Turned.{turned_reached}
use Rattle.terms_size.specs.Measured.{Measured}
use Rattle.log_var.specs.Settings.{shape_map_of}
use Rattle.sum_size.specs.Shapes.{turned_size}
use Rattle.refusal.specs.Number.{status}
use Rattle.encoder_env.specs.WellFormed.{int_map}
use Rattle.std.proofs.Common.{rules}
use Rattle.std.specs.Prelude.{Err}
use Rattle.sat.specs.Encoded.{EncodedRule}
use Rattle.sat.specs.Size.{Size}
use Rattle.log_encoding.specs.AdderSize.{Reached}
use Rattle.encoder_answer.specs.Outcome.{Check, Numbered}
use Rattle.encoder_linear.specs.Sums.{argument_checks, sum_encoded, sum_reached}
use Rattle.encoder_linear.proofs.Added.{arguments_known, arguments_numbered}
use Rattle.encoder_linear.proofs.Ready.{terms_ready}
use Rattle.encoder_figures.specs.Figures.{linear_figures, most_entries}
use Rattle.encoder_figures.proofs.Measured.{measured_figures, refused_as}
use Rattle.encoder_figures.proofs.linear_figures.Goals as goal
use Rattle.encoder_figures.proofs.linear_figures.Goals.{Start}

-- the constant, as the callees have it
abbrev given : Start → ℤ
given s = to_z w32 (of_z w32 s.args.constant)

given_is : (s : Start) → given s ≡ s.args.constant
given_is s = to_z-of_z w32 s.args.constant s.ranges.constant

-- the checks on the arguments
abbrev first : Start → List Check
first s = let a = s.args in argument_checks a.env most_entries most_entries a.op (given s) a.terms.now

-- what the checks and the size are of
abbrev reached : Start → List Reached
reached s = let a = s.args in sum_reached a.env a.op (given s) a.terms.now

abbrev size : Start → Size
size s = let a = s.args in turned_size (shape_map_of a.env.encodings) (cmp_op_of a.op) (given s) (terms_of a.terms.now)

abbrev encoded : Start → EncodedRule
encoded s = let a = s.args in sum_encoded a.env a.op (given s) a.terms.now

numbered : (s : Start) → Numbered (first s)
numbered s = let a = s.args in arguments_numbered a.env most_entries most_entries a.op (given s) a.terms.now

pub returns-in_err-argument_checks : goal.returns-in_err-argument_checks
unfolding linear_figures
returns-in_err-argument_checks c =
    let s = (goal.at.returns-in_err-argument_checks c).Start in
    let is : c.from_residual.result ≡ Err c.in_err-argument_checks.field-0.0 = search rules in
    rw (given_is s) at (refused_as (first s) (numbered s) (reached s) (size s) c.args.env.variables (encoded s) c.argument_checks.result c.argument_checks.ensures c.in_err-argument_checks.was is)

pub turned_size-requires-clause-terms_ready : goal.turned_size-requires-clause-terms_ready
turned_size-requires-clause-terms_ready c =
    let a = c.args in
    let s = (goal.at.turned_size-requires-clause-terms_ready c).Start in
    let z = sym c.argument_checks.ensures ∙ ap status c.in_ok-argument_checks.was in
    terms_ready a.env most_entries most_entries a.op (given s) a.terms.now (arguments_known a.env most_entries most_entries a.op (given s) a.terms.now z)

pub turned_size-requires-clause-constant_bound : goal.turned_size-requires-clause-constant_bound
turned_size-requires-clause-constant_bound c =
    let a = c.args in
    let s = (goal.at.turned_size-requires-clause-constant_bound c).Start in
    let z = sym c.argument_checks.ensures ∙ ap status c.in_ok-argument_checks.was in
    let k = arguments_known a.env most_entries most_entries a.op (given s) a.terms.now z in
    (omega (arith, k.constant_small), omega (arith, k.constant_small))

pub returns : goal.returns
unfolding linear_figures
returns c =
    let a = c.args in
    let s = (goal.at.returns c).Start in
    let e = shape_map_of a.env.encodings in
    let ts = terms_of a.terms.now in
    let z = turned (cmp_op_of a.op) (given s) ts in
    let measured = subst (λ o. Measured 2 (turned_reached e o (given s) ts) (turned_size e o (given s) ts) c.turned_size.result) c.from.ensures c.turned_size.ensures in
    rw (given_is s) at
    (measured_figures (first s) (numbered s) (reached s) (size s) a.env.variables (encoded s) c.argument_checks.result c.argument_checks.ensures c.turned_size.result c.in_ok-argument_checks.was
    (encode_linear_log_size (int_map a.env) z.op z.constant z.terms a.env.variables) measured c.figures_of.ensures)
