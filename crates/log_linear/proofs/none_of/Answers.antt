-- `log_linear::none_of` meets its contract.
use mathlib.Core.Path.{◌≡◌, ap, refl, sym, ◌∙◌}
use mathlib.Core.List.{[], ◌∷◌, ◌++◌, map}
use Prim.Native.Nat.{ℕ, ◌+◌}
use native.Mathlib.Omega.{arith}
use lib.ListN.{drop, length-map, drop_of_length-le}
use Rattle.sat.specs.LitArray.{num}
use Rattle.clause_set.proofs.Writing.{left_as, left_end, left_fits, left_start, left_turn, wrote_as}
use Rattle.log_encoding.specs.Compare.{none_of}
use Rattle.log_linear.proofs.Comparing.{none_of_size, nums_next}
use Rattle.log_linear.proofs.none_of.Goals as goal
use Rattle.log_linear.proofs.none_of.Goals.{After-not}

-- the clause of a turn, and those left
split : (c : After-not)
    → let l = c.loop-l in let xs = c.args.bits.now in
    none_of (drop l.l-index (map num xs)) ≡ ((c.not.result.0 ∷ []) ∷ []) ++ none_of (drop (l.l-index + 1) (map num xs))
split c =
    let l = c.loop-l in
    let xs = c.args.bits.now in
    ap none_of (nums_next xs l.l-index c.loop-l-test.true)
    ∙ ap (λ (x : ℕ). (x ∷ []) ∷ none_of (drop (l.l-index + 1) (map num xs))) (sym c.not.ensures)

pub loop-l-init : goal.loop-l-init
loop-l-init c =
    let xs = map num c.args.bits.now in
    let z = none_of_size xs in
    let n = length-map c.args.bits.now num in
    (left_start _ (none_of xs) (record { lits = omega (arith, c.requires, z, n); clauses = omega (arith, c.requires, z, n) }), refl)

pub push-requires : goal.push-requires
push-requires c = record { fits = left_fits _ _ (left_as c.loop-l.invariant.0 (split (goal.at.push-requires c).After-not)) }

pub loop-l-preserved : goal.loop-l-preserved
loop-l-preserved c = (
  left_turn _ _ (left_as c.loop-l.invariant.0 (split (goal.at.loop-l-preserved c).After-not)) c.push.ensures.added,
  c.push.ensures.added.vars_are ∙ c.loop-l.invariant.1,
)

pub returns : goal.returns
returns c =
    let l = c.loop-l in
    let xs = map num c.args.bits.now in
    wrote_as (left_end (left_as l.invariant.0 (ap none_of (drop_of_length-le xs {i = l.l-index} (omega (arith, length-map c.args.bits.now num)))))) l.invariant.1 refl
