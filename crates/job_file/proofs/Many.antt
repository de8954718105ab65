-- More values or terms than a call takes are refused whatever they are (`many_values`, `many_terms`).
use Prim.Native.Nat.{◌<◌, ℕ}
use lib.IntN.{ℤ}
use lib.ListN.{length}
use mathlib.Core.Bool.{Bool, cond, false, true}
use mathlib.Core.List.{List}
use mathlib.Core.Path.{◌∙◌, ◌≡◌, sym}
use native.Mathlib.Omega.{arith}
use borrow.Author.Tests.{le-leb, lt-leb}
use Rattle.norm_csp.specs.Domain.{list}
use Rattle.encoder_env.specs.declared.EncoderEnv.{EncoderEnv}
use Rattle.encoder_env.specs.WellFormed.{well_formed}
use Rattle.encoder_answer.specs.Outcome.{refused}
use Rattle.encoder_answer.proofs.Statuses.{settled_refused}
use Rattle.encoder_linear.specs.Sums.{linear_outcome, linear_status, operation_known}
use Rattle.encoder_var.specs.Settings.{setting_outcome, setting_status}

module _ (env : EncoderEnv) (lits ends : List ℕ) where
  abbrev well : Bool
  well = well_formed env (length lits) (length ends)

  list_number : (b : Bool) → ◌≡◌ {A = ℕ} (cond b 4 1) 0 → ⊥
  list_number true h = absurd (omega arith)
  list_number false h = absurd (omega arith)

  list_refused : (ks : List ℤ) → 64 < length ks → setting_outcome env lits ends (list ks) ≡ refused (cond well 4 1) env lits ends
  list_refused ks h =
      settled_refused (cond well 4 1) (setting_status env (length lits) (length ends) (list ks))
      (rw (le-leb 1 (length ks) (omega arith), lt-leb (length ks) 64 h)) env lits ends _ (list_number well)

  pub many_values : (ks js : List ℤ) → 64 < length ks → 64 < length js → setting_outcome env lits ends (list ks) ≡ setting_outcome env lits ends (list js)
  many_values ks js h g = list_refused ks h ∙ sym (list_refused js g)

  sum_number : (a b : Bool) → ◌≡◌ {A = ℕ} (cond a (cond b 9 12) 1) 0 → ⊥
  sum_number true true h = absurd (omega arith)
  sum_number true false h = absurd (omega arith)
  sum_number false b h = absurd (omega arith)

  module _ (op : ℕ) (constant : ℤ) where
    sum_refused : (ts : List ℤ) → 12 < length ts → linear_outcome env lits ends op constant ts ≡ refused (cond well (cond (operation_known op) 9 12) 1) env lits ends
    sum_refused ts h =
        settled_refused (cond well (cond (operation_known op) 9 12) 1) (linear_status env (length lits) (length ends) op constant ts)
        (rw (lt-leb (length ts) 12 h)) env lits ends _ (sum_number well (operation_known op))

    pub many_terms : (ts us : List ℤ) → 12 < length ts → 12 < length us → linear_outcome env lits ends op constant ts ≡ linear_outcome env lits ends op constant us
    many_terms ts us h g = sum_refused ts h ∙ sym (sum_refused us g)
