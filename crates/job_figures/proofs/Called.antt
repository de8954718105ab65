-- What the code's calls come to: the figures of tags 05 and 06, on their contents.
use Prim.Native.Nat.{◌%◌, ◌*◌, ◌-◌, ◌/◌, ◌<◌, ◌≤◌, ℕ}
use native.Mathlib.Omega.{arith}
use borrow.Author.Tests.{eqb-true, leb-true, ne_eqb}
use lib.Dec.{eqb, leb}
use lib.IntN.{ℤ}
use lib.ListN.{drop, get_or, length, length-drop}
use mathlib.Core.Bool.{Bool, ◌&&◌, ◌||◌, and-eq-true_iff, cond, false, true}
use mathlib.Core.List.{List}
use mathlib.Core.Path.{◌∙◌, ◌≡◌, refl}
use Rattle.encoder_env.specs.declared.EncoderEnv.{EncoderEnv}
use Rattle.encoder_figures.specs.Figures.{linear_figures, mul_figures}
use Rattle.job_fields.specs.Fields.{right_length}
use Rattle.job_fields.specs.Numbers.{signed_long, terms}
use Rattle.job_fields.proofs.NumbersRead.{terms_length}
use Rattle.job_fields.proofs.Places.{at_tag}
use Rattle.job_file.specs.Calls.{call_of}
use Rattle.job_figures.specs.FieldFigures.{call_figures, no_figures, one_field_figures}
use Rattle.job_figures.proofs.Many.{many_terms}

module _ (env : EncoderEnv) (s : List ℕ) where
  pub linear_called : {op : ℕ} {k : ℤ} {ts : List ℤ} → op ≡ get_or s 0 0 → k ≡ signed_long s 1 → ts ≡ terms (drop 5 s)
      → linear_figures env op k ts ≡ call_figures env (call_of 5 s)
  unfolding call_of
  linear_called p q r = rw (p, q, r)

  -- more than six terms: those called with stand for any
  pub linear_many : {op : ℕ} {k : ℤ} (ts : List ℤ) → op ≡ get_or s 0 0 → k ≡ signed_long s 1 → 12 < length ts → 12 < 2 * ((length s - 5) / 3)
      → linear_figures env op k ts ≡ call_figures env (call_of 5 s)
  linear_many {op} {k} ts p q h g =
      many_terms env op k ts (terms (drop 5 s)) h (omega (arith, terms_length (drop 5 s), length-drop 5 s)) ∙ linear_called p q refl

  pub mul_called : {x y m : ℕ} → x ≡ get_or s 0 0 → y ≡ get_or s 1 0 → m ≡ get_or s 2 0 → mul_figures env x y m ≡ call_figures env (call_of 6 s)
  unfolding call_of
  mul_called p q r = rw (p, q, r)

  -- a field of tag 05 or 06 and of a right length is its call
  pub tag_called : (t k : ℕ) → t ≡ k → right_length t (length s) ≡ true → eqb k 5 || eqb k 6 ≡ true
      → call_figures env (call_of k s) ≡ one_field_figures env t s
  unfolding one_field_figures
  tag_called t k e h g = rw (h, e, g)

  -- else it is 18
  pub wrong_length : (t : ℕ) → right_length t (length s) ≡ false → no_figures 18 ≡ one_field_figures env t s
  unfolding one_field_figures
  wrong_length t h = rw h (go (eqb t 5 || eqb t 6))
    where
      go : (b : Bool) → no_figures 18 ≡ cond (b && false) (call_figures env (call_of t s)) (no_figures 18)
      go true = refl
      go false = refl

  pub other_tag : (t : ℕ) → (t ≡ 5 → ⊥) → (t ≡ 6 → ⊥) → no_figures 18 ≡ one_field_figures env t s
  unfolding one_field_figures
  other_tag t a b = rw (ne_eqb t 5 a, ne_eqb t 6 b)

-- a sum's contents have an operation and a constant, a product's are three settings
pub sum_long : (t n : ℕ) → t ≡ 5 → right_length t n ≡ true → 5 ≤ n
unfolding right_length
sum_long t n e h = leb-true 5 n ((and-eq-true_iff (leb 5 n) (eqb (n % 3) 2)).0 (at_tag t 5 n e ∙ h)).0

pub product_long : (t n : ℕ) → t ≡ 6 → right_length t n ≡ true → n ≡ 3
unfolding right_length
product_long t n e h = eqb-true n 3 (at_tag t 6 n e ∙ h)
