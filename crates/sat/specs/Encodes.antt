-- What it means that clauses say exactly this.
use Rattle.std.specs.Prelude.{◌*◌, ◌<◌, ◌≤◌, ℕ, List, [], ◌∷◌, ◌≡◌}
use Rattle.std.proofs.Math.Bool.{So}
use Rattle.sat.specs.Clause.{Assignment, sat}

-- two assignments that give the first v variables the same
abbrev pub Agree : ℕ → Assignment → Assignment → Type 0
Agree v α β = (x : ℕ) → x < v → α x ≡ β x

-- literals of the first v variables
abbrev pub LitsBelow : ℕ → List ℕ → Type 0
LitsBelow v [] = Unit
LitsBelow v (l ∷ ls) = (l < 2 * v) × LitsBelow v ls

abbrev pub ClausesBelow : ℕ → List (List ℕ) → Type 0
ClausesBelow v [] = Unit
ClausesBelow v (c ∷ cs) = LitsBelow v c × ClausesBelow v cs

-- some choice of the variables from v on satisfies the clauses
abbrev pub Completed : ℕ → List (List ℕ) → Assignment → Type 0
Completed v cs α = (β : Assignment) × Agree v α β × So (sat β cs)

-- The clauses, which tie the variables from v up to v', say of the first v variables that R holds, where P does: an assignment that
-- satisfies them has R; if it has R, the variables from v on can be chosen so that the clauses hold, and in one way only.
pub record Encodes (v v' : ℕ) (P R : Assignment → Type 0) (cs : List (List ℕ)) : Type 0 where
  pub grows : v ≤ v'
  pub below : ClausesBelow v' cs
  pub sound : (α : Assignment) → P α → So (sat α cs) → R α
  pub complete : (α : Assignment) → P α → R α → (β : Assignment) × Agree v α β × So (sat β cs)
  pub unique : (α β : Assignment) → P α → Agree v α β → So (sat α cs) → So (sat β cs) → Agree v' α β

abbrev pub Any : Assignment → Type 0
Any α = Unit {0}
