-- `job_file::run_fields` meets its contract.
use borrow.Author.Rules.{rules}
use borrow.Author.Tests.{eq-eqb, ne_eqb}
use mathlib.Core.Path.{◌≡◌, refl, sym}
use native.Mathlib.Omega.{arith}
use Rattle.std.specs.Prelude.{Err}
use Rattle.refusal.specs.declared.Refusal.TheVariants.{BadField}
use Rattle.job_fields.specs.Places.{Contents, End, field_at}
use Rattle.job_fields.proofs.Places.{field_within}
use Rattle.job_file.proofs.Running.{broken_ends, field_accepted, field_refused, file_ends, going_start, none_there, too_long}
use Rattle.job_file.proofs.run_fields.Goals as goal
use Rattle.job_file.proofs.run_fields.Goals.{In-Some, In_default}

-- a field stands there, or none
some-there : (c : In-Some) → let f = c.in-Some.f in Contents f.tag f.contents.now f.end ≡ field_at c.args.bytes.now c.loop-f.at
some-there c = rw c.in-Some.is at c.in_ok-f.ensures.place

none-there : (c : In_default) → End ≡ field_at c.args.bytes.now c.loop-f.at
none-there c = rw (none_there _ c.in_default.not-Some) at c.in_ok-f.ensures.place

pub returns-then-bytes-gt8192 : goal.returns-then-bytes-gt8192
returns-then-bytes-gt8192 c =
    let a = c.args in
    rw (c.requires.field, c.requires.env) (too_long a.bytes.now a.lits.now a.ends.now c.if-bytes-gt8192.true)

pub loop-f-init : goal.loop-f-init
loop-f-init c =
    let a = c.args in
    (refl, refl, omega (arith, c.requires.field), omega arith, c.if-bytes-gt8192.false, rw c.requires.field (going_start a.bytes.now a.lits.now a.ends.now c.requires.env c.if-bytes-gt8192.false))

pub returns-in_err-f : goal.returns-in_err-f
returns-in_err-f c =
    let is : c.from_residual.result ≡ Err BadField = search rules in
    rw is (broken_ends c.loop-f.invariant.5 c.in_err-f.ensures.place)

pub returns-in_err-left : goal.returns-in_err-left
returns-in_err-left c =
    let f = c.in-Some.f in
    let is : c.from_residual-in_err-left.result ≡ Err c.in_err-left.field-0.0 = search rules in
    rw is (field_refused c.loop-f.invariant.5 f.tag f.contents.now f.end (some-there (goal.at.returns-in_err-left c).In-Some) _ c.in_err-left.ensures)

pub loop-f-smaller : goal.loop-f-smaller
loop-f-smaller c =
    let f = c.in-Some.f in
    let w = field_within c.args.bytes.now c.loop-f.at f.tag f.contents.now f.end (sym (some-there (goal.at.loop-f-smaller c).In-Some)) in
    omega (arith, w.from, w.inside)

pub loop-f-preserved : goal.loop-f-preserved
loop-f-preserved c =
    let f = c.in-Some.f in
    let l = c.loop-f in
    let p = some-there (goal.at.loop-f-preserved c).In-Some in
    let w = field_within c.args.bytes.now l.at f.tag f.contents.now f.end (sym p) in (
      omega (arith, l.invariant.0, c.one_field.auto),
      omega (arith, l.invariant.1, c.one_field.auto),
      omega (arith, l.invariant.2, w.from),
      w.inside,
      l.invariant.4,
      field_accepted l.invariant.5 f.tag f.contents.now f.end p _ c.in_ok-left.ensures,
    )

pub returns-then-left-eq0 : goal.returns-then-left-eq0
returns-then-left-eq0 c =
    rw (eq-eqb c.loop-f.left.field 0 c.if-left-eq0.true) at (file_ends c.loop-f.invariant.5 (none-there (goal.at.returns-then-left-eq0 c).In_default))

pub returns : goal.returns
returns c =
    rw (ne_eqb c.loop-f.left.field 0 c.if-left-eq0.false) at (file_ends c.loop-f.invariant.5 (none-there (goal.at.returns c).In_default))
