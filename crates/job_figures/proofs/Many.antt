-- More terms than a sum takes are refused whatever they are (`many_terms`).
use Prim.Native.Nat.{◌<◌, ℕ}
use lib.IntN.{ℤ}
use lib.ListN.{length}
use mathlib.Core.Bool.{Bool, cond, false, true}
use mathlib.Core.List.{List}
use mathlib.Core.Path.{◌∙◌, ◌≡◌, refl, sym}
use borrow.Author.Tests.{lt-leb}
use Rattle.sat.specs.Size.{Size}
use Rattle.encoder_env.specs.WellFormed.{well_formed}
use Rattle.encoder_env.specs.declared.EncoderEnv.{EncoderEnv}
use Rattle.encoder_linear.specs.Sums.{operation_known, sum_encoded}
use Rattle.encoder_figures.specs.Figures.{adds, figures_of, linear_figures, most_entries}
use Rattle.job_figures.specs.FieldFigures.{no_figures}

-- the number, where the job is well formed (a) and the operation known (b) or not
abbrev number : Bool → Bool → ℕ
number a b = cond a (cond b 9 12) 1

none : (a b : Bool) (size : Size) → figures_of (number a b) size ≡ no_figures (number a b)
none true true size = refl
none true false size = refl
none false b size = refl

module _ (env : EncoderEnv) (op : ℕ) (constant : ℤ) where
  abbrev well : Bool
  well = well_formed env most_entries most_entries

  sum_refused : (ts : List ℤ) → 12 < length ts → linear_figures env op constant ts ≡ no_figures (number well (operation_known op))
  unfolding linear_figures
  sum_refused ts h = rw (lt-leb (length ts) 12 h) (none well (operation_known op) (adds env.variables (sum_encoded env op constant ts)))

  pub many_terms : (ts us : List ℤ) → 12 < length ts → 12 < length us → linear_figures env op constant ts ≡ linear_figures env op constant us
  many_terms ts us h g = sum_refused ts h ∙ sym (sum_refused us g)
