-- `log_terms::push_eq_term` meets its contract.
use mathlib.Core.Path.{◌≡◌, ◌∙◌, ap}
use mathlib.Core.List.{List, map}
use Prim.Native.Nat.{ℕ, ◌*◌, ◌<◌}
use native.Mathlib.Omega.{arith}
use lib.ListN.{length}
use Rattle.sat.specs.Lit.{neg}
use Rattle.sat.specs.LitArray.{num}
use Rattle.log_adder.specs.declared.Columns.{Columns}
use Rattle.sat.specs.declared.Lit.{Lit}
use Rattle.log_encoding.specs.Gather.{push_scaled}
use Rattle.log_gather.specs.Arrays.{Pushed}
use Rattle.log_gather.proofs.Slices.{slice_below}
use Rattle.log_encoding.specs.Linear.{positive_lits, push_scaled_some}
use Rattle.log_terms.specs.Terms.{weighted_of}
use Rattle.log_encoding.proofs.LinearSize.{length_positive}
use Rattle.log_terms.proofs.Gathering.{all_low, enough, may_push, pushed_as, some_pushed, term_long, term_small}
use Rattle.log_terms.proofs.push_eq_term.Goals as goal
use Rattle.log_terms.proofs.push_eq_term.Goals.{Start}

-- the term's literals, negated or not, pushed
pushed : (c : Start) → (c.args.t.now.bits.len ≡ 0 → ⊥) → (ls : List Lit) → map num ls ≡ positive_lits (weighted_of c.args.t.now) → length ls ≡ c.args.t.now.bits.len
    → {d : Columns} → Pushed (length ls * c.args.steps) c.args.cols.now (push_scaled c.args.steps c.args.t.now.coef 0 (map num ls)) d
    → Pushed 384 c.args.cols.now (push_scaled_some c.args.t.now.coef (positive_lits (weighted_of c.args.t.now))) d
pushed c some ls e n p =
    let t = c.args.t.now in
    let h = c.requires.steps_bound in
    let qs = positive_lits (weighted_of t) in
    let many : length qs ≡ t.bits.len = length_positive (weighted_of t) ∙ term_long t h.1 in
    let long : 0 < length qs = omega arith in
    pushed_as t h.1 h.0 n _ _ (λ g. ap (λ (xs : List ℕ). push_scaled c.args.steps t.coef 0 xs g) e ∙ enough t h.1 h.0 qs g ∙ some_pushed t.coef qs g long) p

pub negate_all-requires : goal.negate_all-requires
negate_all-requires c =
    let s = c.as_slice-lits in
    let h = c.requires.steps_bound.1 in
    (omega (arith, s.ensures.1, h.len), term_small c.args.t.now h s.result.now s.ensures.0)

pub push_scaled-requires-clause-steps_bound : goal.push_scaled-requires-clause-steps_bound
push_scaled-requires-clause-steps_bound c =
    let h = c.requires.steps_bound in
    let s = c.as_slice in
    let n = c.negate_all.ensures in
    may_push c.args.t.now h.1 h.0 s.result.now (s.ensures.1 ∙ n.1 ∙ c.as_slice-lits.ensures.1) (slice_below c.negate_all.result s.result.now s.ensures.0 n.2)

pub push_scaled-requires-else-t-clause-steps_bound : goal.push_scaled-requires-else-t-clause-steps_bound
push_scaled-requires-else-t-clause-steps_bound c =
    let h = c.requires.steps_bound in
    let s = c.as_slice-lits in
    may_push c.args.t.now h.1 h.0 s.result.now s.ensures.1 (all_low s.result.now (term_small c.args.t.now h.1 s.result.now s.ensures.0))

pub returns-then-t : goal.returns-then-t
returns-then-t c =
    let t = c.args.t.now in
    let s = c.as_slice in
    let n = c.negate_all.ensures in
    let p : map neg (weighted_of t).lits ≡ positive_lits (weighted_of t) = rw c.if-t.true in
    pushed (goal.at.returns-then-t c).Start c.if-t-eq0.false s.result.now (s.ensures.0 ∙ n.0 ∙ ap (map neg) c.as_slice-lits.ensures.0 ∙ p)
    (s.ensures.1 ∙ n.1 ∙ c.as_slice-lits.ensures.1) c.push_scaled.ensures

pub returns-else-t : goal.returns-else-t
returns-else-t c =
    let t = c.args.t.now in
    let s = c.as_slice-lits in
    let p : (weighted_of t).lits ≡ positive_lits (weighted_of t) = rw c.if-t.false in
    pushed (goal.at.returns-else-t c).Start c.if-t-eq0.false s.result.now (s.ensures.0 ∙ p) s.ensures.1 c.push_scaled-else-t.ensures
