-- `mixed_table::encode_sub` meets its contract: it adds the clauses that the table tells, in their order.
use mathlib.Core.Path.{◌≡◌, refl, ap, sym, ◌∙◌}
use mathlib.Core.List.{[], ◌∷◌, ◌++◌}
use Prim.Native.Nat.{ℕ, ◌+◌, ◌-◌, ◌≤◌, ◌<◌}
use native.Mathlib.Omega.{arith}
use Rattle.clause_set.specs.Clause.{clause_lits}
use Rattle.clause_set.specs.declared.Clause.{Clause}
use Rattle.clause_set.proofs.Writing.{Left, fits_as, left_as, left_end, left_fits, left_turn, wrote_as}
use Rattle.mixed_table.specs.Table.{after_of, cost_of, end_of, lit_of, terms_of, top_of, walk, walk_rows}
use Rattle.mixed_table.proofs.Walk.{walk_covered, walk_cut, walk_last, walk_none, walk_on}
use Rattle.mixed_table.proofs.+encode_sub.Goals as goal
use Rattle.mixed_table.proofs.+encode_sub.Goals.{In-loop-below, then-slack-row, else-slack-row}

-- what is left, from the threshold of this turn on
now-left : (t : ℕ) (c : In-loop-below t)
    → let p = clause_lits c.args.clause.now in
    Left c.args.set.now (walk c.args.tab.now c.args.left c.args.slack p) c.loop-below.set (walk_rows c.args.tab.now (c.loop-below.below - 1 + 1) c.args.slack p)
now-left t c =
    let more = c.loop-below-test.true in
    let e : c.loop-below.below ≡ c.loop-below.below - 1 + 1 = omega (arith, more) in
    left_as c.loop-below.invariant.1 (ap (λ k. walk_rows c.args.tab.now k c.args.slack (clause_lits c.args.clause.now)) e)

pub returns-then-row-slack-clause-added : goal.returns-then-row-slack-clause-added
returns-then-row-slack-clause-added t c =
    let i = c.loop-below.invariant in
    let b = (goal.at.returns-then-row-slack-clause-added t c).In-loop-below in
    wrote_as (left_end (left_as (now-left t b) (walk_covered c.args.tab.now c.requires.sound_table c.args.slack (clause_lits c.args.clause.now) (c.loop-below.below - 1 + 1) c.if-row-slack.true))) i.2 refl

-- one clause: that of the first threshold left
pub push-requires-then-slack-row : goal.push-requires-then-slack-row
push-requires-then-slack-row t c =
    let i = c.loop-below.invariant in
    let k = c.loop-below.below - 1 in
    let p = clause_lits c.args.clause.now in
    let x = lit_of c.args.tab.now (k + 1) in
    let e = c.as_slice.ensures ∙ c.push.ensures.1 ∙ ap (λ q. q ++ (x ∷ [])) i.3 in
    let cut = walk_cut c.args.tab.now c.requires.sound_table c.args.slack p c.args.left k (omega (arith, i.0, c.loop-below-test.true)) c.if-row-slack.false c.if-slack-row.true in
    record { fits = fits_as (left_fits ((p ++ (x ∷ [])) ∷ []) (walk_rows c.args.tab.now k c.args.slack p) (left_as (now-left t (goal.at.push-requires-then-slack-row t c).In-loop-below) cut)) (ap (λ q. q ∷ []) (sym e)) }

-- the clauses of the terms after the first that is left
pub encode_sub-requires : goal.encode_sub-requires
encode_sub-requires t c =
    let i = c.loop-below.invariant in
    let z = c.requires.sound_table in
    let tab = c.args.tab.now in
    let k = c.loop-below.below - 1 in
    let s = c.args.slack - cost_of tab (k + 1) in
    let p = clause_lits c.args.clause.now in
    let x = lit_of tab (k + 1) in
    let b : k + 1 ≤ top_of c.args.tab.now c.args.left = omega (arith, i.0, c.loop-below-test.true) in
    let n : (0 < terms_of tab (k + 1)) × (terms_of tab (k + 1) ≤ c.args.left) = z.some c.args.left (k + 1) (omega arith) b in
    let e = c.push.ensures.1 ∙ ap (λ q. q ++ (x ∷ [])) i.3 in
    let on = walk_on tab z c.args.slack p c.args.left k b c.if-row-slack.false c.if-slack-row.false in (
      omega (arith, n, c.decreases),
      (
        omega (arith, n, c.requires, c.push.ensures.0, i.4),
        (
          z,
          fits_as (left_fits (walk_rows tab (after_of tab (k + 1)) s (p ++ (x ∷ []))) (walk_rows tab k c.args.slack p) (left_as (now-left t (goal.at.encode_sub-requires t c).In-loop-below) on))
              (ap (λ q. walk tab (terms_of tab (k + 1) - 1) s q) (sym e)),
        ),
      ),
    )

pub loop-below-preserved : goal.loop-below-preserved
loop-below-preserved t c =
    let i = c.loop-below.invariant in
    let z = c.requires.sound_table in
    let tab = c.args.tab.now in
    let slack = c.args.slack in
    let k = c.loop-below.below - 1 in
    let p = clause_lits c.args.clause.now in
    let x = lit_of tab (k + 1) in
    let s = slack - cost_of tab (k + 1) in
    let b : k + 1 ≤ top_of c.args.tab.now c.args.left = omega (arith, i.0, c.loop-below-test.true) in
    let longer = c.push.ensures.1 ∙ ap (λ q. q ++ (x ∷ [])) i.3 in
    let now = now-left t (goal.at.loop-below-preserved t c).In-loop-below in
    elim c.if-slack-row.branch [
      | then-slack-row w ↦
          let cut = walk_cut tab z slack p c.args.left k b c.if-row-slack.false w.if-slack-row.true in
          let u = w.push-then-slack-row.ensures.added in (
            omega arith,
            rw w.set-is (left_turn ((p ++ (x ∷ [])) ∷ []) (walk_rows tab k slack p) (left_as now cut) (wrote_as u refl (ap (λ q. q ∷ []) (w.as_slice.ensures ∙ longer)))),
            rw w.set-is (u.vars_are ∙ i.2),
            c.pop.ensures.lits p x (ap clause_lits w.clause-is ∙ longer),
            omega (arith, c.pop.ensures.len, ap (λ (q : Clause). q.len) w.clause-is, c.push.ensures.0, i.4),
          )
      | else-slack-row w ↦
          let on = walk_on tab z slack p c.args.left k b c.if-row-slack.false w.if-slack-row.false in
          let u = w.encode_sub.ensures in (
            omega arith,
            rw w.set-is (left_turn (walk_rows tab (after_of tab (k + 1)) s (p ++ (x ∷ []))) (walk_rows tab k slack p) (left_as now on) (wrote_as u.added refl (ap (λ q. walk tab (terms_of tab (k + 1) - 1) s q) longer))),
            rw w.set-is (u.added.vars_are ∙ i.2),
            c.pop.ensures.lits p x (ap clause_lits w.clause-is ∙ u.same_clause.0 ∙ longer),
            omega (arith, c.pop.ensures.len, ap (λ (q : Clause). q.len) w.clause-is, u.same_clause.1, c.push.ensures.0, i.4),
          )
    ]

-- the last term
pub push-requires-then-slack-tab-2 : goal.push-requires-then-slack-tab-2
push-requires-then-slack-tab-2 t c =
    let i = c.loop-below.invariant in
    let p = clause_lits c.args.clause.now in
    let last = walk_last c.args.tab.now c.requires.sound_table c.args.slack p c.loop-below.below c.loop-below-test.false c.if-slack-tab.true in
    let e = c.as_slice-then-slack-tab.ensures ∙ c.push-then-slack-tab.ensures.1 ∙ ap (λ q. q ++ (end_of c.args.tab.now c.args.slack ∷ [])) i.3 in
    record { fits = fits_as (left_as i.1 last).fits (ap (λ q. q ∷ []) (sym e)) }

pub returns-then-slack-tab-clause-added : goal.returns-then-slack-tab-clause-added
returns-then-slack-tab-clause-added t c =
    let i = c.loop-below.invariant in
    let p = clause_lits c.args.clause.now in
    let last = walk_last c.args.tab.now c.requires.sound_table c.args.slack p c.loop-below.below c.loop-below-test.false c.if-slack-tab.true in
    let e = c.as_slice-then-slack-tab.ensures ∙ c.push-then-slack-tab.ensures.1 ∙ ap (λ q. q ++ (end_of c.args.tab.now c.args.slack ∷ [])) i.3 in
    let u = wrote_as c.push-then-slack-tab-2.ensures.added refl (ap (λ q. q ∷ []) e) in
    wrote_as (left_end (left_turn ((p ++ (end_of c.args.tab.now c.args.slack ∷ [])) ∷ []) [] (left_as i.1 last) u)) (u.vars_are ∙ i.2) refl

pub returns-then-slack-tab-clause-same_clause : goal.returns-then-slack-tab-clause-same_clause
returns-then-slack-tab-clause-same_clause t c =
    let i = c.loop-below.invariant in (
      c.pop-then-slack-tab.ensures.lits (clause_lits c.loop-below.clause) _ c.push-then-slack-tab.ensures.1 ∙ i.3,
      omega (arith, c.pop-then-slack-tab.ensures.len, c.push-then-slack-tab.ensures.0, i.4),
    )

pub returns-else-slack-tab-clause-added : goal.returns-else-slack-tab-clause-added
returns-else-slack-tab-clause-added t c =
    let i = c.loop-below.invariant in
    wrote_as (left_end (left_as i.1 (walk_none c.args.tab.now c.requires.sound_table c.args.slack (clause_lits c.args.clause.now) c.loop-below.below c.loop-below-test.false c.if-slack-tab.false))) i.2 refl
