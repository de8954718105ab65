-- One column's clauses in a set, as an equation over its terms.
use mathlib.Core.Path.{◌≡◌, ◌∙◌, ap, refl, sym}
use mathlib.Core.List.{List}
use Prim.Native.Nat.{ℕ, ◌^◌}
use native.Mathlib.Omega.{arith}
use Rattle.sat.specs.Clause.{Clauses}
use Rattle.clause_set.specs.declared.ClauseSet.{ClauseSet}
use Rattle.clause_set.specs.Stores.{Added, Below, Fits}
use Rattle.clause_set.proofs.Writing.{wrote_as}
use Rattle.mixed.specs.declared.LinearInfo.{LinearInfo}
use Rattle.mixed.specs.Infos.{equated}
use Rattle.log_encoding.proofs.ColumnMost.{Most}

-- The clauses cs are an equation over the terms us, which the code holds as ts.
module _ {cs : Clauses} {ts us : List LinearInfo} (above below total : ℕ) (h : ts ≡ us) (is : cs ≡ equated us above below total) where
  same : cs ≡ equated ts above below total
  same = is ∙ ap (λ vs. equated vs above below total) (sym h)

  pub equated_fits : Most cs → (s : ClauseSet) → Below (2 ^ 31) s → Fits s.base s.used (equated ts above below total)
  equated_fits m s low = rw (← same) record { lits = omega (arith, m, low); clauses = omega (arith, m, low) }

  pub equated_added : {s t : ClauseSet} → Added s (equated ts above below total) t → Added s cs t
  equated_added w = wrote_as w refl (sym same)
