-- The number of a call and that of its figures: the same checks but for the stores lent and the space.
use Prim.Native.Nat.{◌+◌, ◌<◌, ℕ}
use lib.Dec.{leb}
use mathlib.Core.Bool.{Bool, ◌&&◌, cond, false, true}
use mathlib.Core.List.{List, [], ◌∷◌}
use mathlib.Core.Logic.{◌⊎◌, inl, inr}
use mathlib.Core.Path.{◌≡◌, refl}
use native.Mathlib.Omega.{arith}
use Rattle.encoder_env.specs.WellFormed.{well_formed}
use Rattle.encoder_env.specs.declared.EncoderEnv.{EncoderEnv}
use Rattle.encoder_env.proofs.Kept.{kept, well_formed_of}
use Rattle.encoder_answer.specs.Adding.{space_checks}
use Rattle.encoder_answer.specs.Outcome.{Check, Numbered, status_of}
use Rattle.encoder_figures.specs.Figures.{most_entries}

-- a job that is well formed with some stores is so with the greatest
pub greatest : (env : EncoderEnv) (lits ends : ℕ) → well_formed env lits ends ≡ true → well_formed env most_entries most_entries ≡ true
greatest env lits ends h =
    let k = kept env lits ends h in
    well_formed_of env most_entries most_entries
    (record {
      lits_max = omega arith;
      ends_max = omega arith;
      switches_max = k.switches_max;
      variables_max = k.variables_max;
      switches_in = k.switches_in;
      count_max = k.count_max;
      literals_in = omega (arith, k.literals_in, k.lits_max);
      clauses_in = omega (arith, k.clauses_in, k.ends_max);
      records = k.records;
    })

-- numbers from 2 to 13
abbrev pub Between : List Check → Type 0
Between [] = Unit
Between (c ∷ cs) = ((1 < c.number) × (c.number < 14)) × Between cs

pub between_numbered : (cs : List Check) → Between cs → Numbered cs
between_numbered [] h = tt
between_numbered (c ∷ cs) h = (omega (arith, h.0), between_numbered cs h.1)

-- no refusal, or one of these numbers
pub number_between : (cs : List Check) → Between cs → (status_of cs ≡ 0) ⊎ ((1 < status_of cs) × (status_of cs < 14))
number_between [] h = inl refl
number_between (c ∷ cs) h = go c.holds (number_between cs h.1)
  where
    go : (t : Bool) → (status_of cs ≡ 0) ⊎ ((1 < status_of cs) × (status_of cs < 14))
        → (cond t (status_of cs) c.number ≡ 0) ⊎ ((1 < cond t (status_of cs) c.number) × (cond t (status_of cs) c.number < 14))
    go true r = r
    go false r = inr h.0

-- the checks of space answer 0, 14 or 15
pub number_of_space : (vars literals clauses lits ends : ℕ)
    → (let s = status_of (space_checks vars literals clauses lits ends) in (s ≡ 0) ⊎ ((13 < s) × (s < 16)))
number_of_space vars literals clauses lits ends = go (leb vars 65535) (leb literals lits && leb (clauses + 1) ends)
  where
    go : (a b : Bool) → (let s = cond {A = ℕ} a (cond b 0 15) 14 in (s ≡ 0) ⊎ ((13 < s) × (s < 16)))
    go true true = inl refl
    go true false = inr (omega arith, omega arith)
    go false b = inr (omega arith, omega arith)
