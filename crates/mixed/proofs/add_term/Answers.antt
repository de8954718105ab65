-- `mixed::add_term` meets its contract.
use mathlib.Core.Path.{◌≡◌, ap, refl, sym, ◌∙◌}
use Prim.Native.Nat.{suc, ◌+◌, ◌-◌, ◌*◌}
use native.Mathlib.Nat.{mul-zero, mul-suc}
use native.Mathlib.Numerals.{add-one}
use native.Mathlib.Omega.{arith}
use Rattle.sat.specs.LitArray.{lit}
use Rattle.mixed.specs.Infos.{info_lit}
use Rattle.mixed.specs.Filling.{threshold_row}
use Rattle.mixed_table.specs.declared.Table.{Table}
use Rattle.mixed.proofs.Filling.{rows_none, rows_turn}
use Rattle.mixed.proofs.add_term.Goals as goal

pub loop-i-init : goal.loop-i-init
loop-i-init c =
    let a = c.args in
    (sym (mul-zero a.t.weight), rw (rows_none a.tab.now.rows a.t (a.terms + 1) a.left a.lost) refl)

pub loop-i-preserved : goal.loop-i-preserved
loop-i-preserved c =
    let a = c.args in
    let l = c.loop-i in
    let i = l.invariant.1 in
    let cost : l.cost + a.t.weight ≡ a.t.weight * suc l.i = rw (mul-suc, l.invariant.0) in
    let own : c.lit_at.result.0 ≡ info_lit a.t (a.t.count - suc l.i) = c.lit_at.ensures ∙ ap (info_lit a.t) (omega arith) in
    let row : record { lit = c.lit_at.result; cost = l.cost + a.t.weight; terms = a.terms + 1; loss = l.cost + a.t.weight + a.lost } ≡ threshold_row a.t (a.terms + 1) a.lost (suc l.i) =
    rw cost (ap (λ x. record { lit = lit x; cost = a.t.weight * suc l.i; terms = a.terms + 1; loss = a.t.weight * suc l.i + a.lost }) own) in
    let more = rows_turn a.tab.now.rows l.tab.rows a.t (a.terms + 1) a.left a.lost l.i (a.left + l.i + 1) _ (ap (λ (x : Table). x.rows) i) (omega arith) row in
    (rw add-one cost, rw (more, ap (λ (x : Table). x.ends) i, ap (λ (x : Table). x.tops) i) refl)
