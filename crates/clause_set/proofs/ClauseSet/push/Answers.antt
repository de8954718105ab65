-- `ClauseSet::push` meets its contract.
use mathlib.Core.Path.{◌≡◌, ap, refl, sym, ◌∙◌}
use mathlib.Core.List.{List, map}
use Prim.Native.Nat.{ℕ, ◌+◌}
use native.Mathlib.Omega.{arith}
use lib.ListN.{get_or, length-map, set, take}
use lib.Seq.{sets, take_all}
use Rattle.sat.specs.LitArray.{num}
use Rattle.clause_set.proofs.Adding.{lits_fit, lits_more}
use Rattle.clause_set.proofs.Writing.{closed_clause}
use Rattle.clause_set.proofs.ClauseSet.push.Goals as goal

pub loop-i-preserved : goal.loop-i-preserved
loop-i-preserved c =
    let l = c.loop-i in
    let s = c.args.self.now in
    let xs = take c.min-stored.result c.args.clause.now in
    ap (λ (q : List ℕ). set q (s.used.lits + l.i) (get_or xs l.i (record { 0 = 0 })).0) l.invariant
    ∙ lits_more s.lits.now s.used.lits xs l.i (omega arith)

pub returns-clause-added : goal.returns-clause-added
returns-clause-added c =
    let l = c.loop-i in
    let s = c.args.self.now in
    let xs = c.args.clause.now in
    let k = c.min-stored.result in
    let all : take l.i (take k xs) ≡ take k xs = take_all l.i (take k xs) (omega arith) in
    closed_clause (map num xs) c.close.ensures (sym (length-map xs num)) refl
    (l.invariant ∙ ap (λ ys. sets s.lits.now s.used.lits (map num ys)) all ∙ lits_fit xs s.lits.now s.used.lits k (omega (arith, c.min-stored.ensures, c.saturating_sub.ensures)))
    refl refl refl refl
