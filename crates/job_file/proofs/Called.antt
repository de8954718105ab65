-- What the code's calls come to: the call of each tag, on its contents.
use Prim.Native.Nat.{◌*◌, ◌-◌, ◌/◌, ◌<◌, ℕ}
use native.Mathlib.Omega.{arith}
use mathlib.Core.Path.{◌≡◌, refl, subst}
use mathlib.Core.Bool.{false, true}
use mathlib.Core.List.{List}
use lib.IntN.{ℤ}
use lib.ListN.{drop, get_or, length, length-drop, take}
use lib.Seq.{take_all}
use Rattle.norm_csp.specs.Domain.{binary, list, range}
use Rattle.encoder_env.specs.declared.EncoderEnv.{EncoderEnv}
use Rattle.encoder_read.specs.Calls.{open_outcome}
use Rattle.encoder_var.specs.Settings.{setting_outcome}
use Rattle.encoder_answer.specs.Outcome.{Answer, Answers, Outcome, adds}
use Rattle.encoder_mul.specs.Products.{mul_outcome}
use Rattle.encoder_linear.specs.Sums.{linear_outcome}
use Rattle.job_fields.specs.Numbers.{signed_long, signed_word, terms, values, word_at}
use Rattle.job_fields.specs.Fields.{field, right_length, right_place}
use Rattle.job_fields.proofs.NumbersRead.{terms_length, values_length}
use Rattle.job_file.specs.Calls.{call_of, switches_in}
use Rattle.job_file.specs.Run.{Leaves, called, field_outcome, state}
use Rattle.std.specs.Prelude.{Result, Ok, Err}
use Rattle.refusal.specs.declared.Refusal.{Refusal}
use Rattle.refusal.specs.declared.Refusal.TheVariants.{BadField}
use Rattle.job_file.proofs.Many.{many_terms, many_values}

module _ (env : EncoderEnv) (lits ends s : List ℕ) {a : Answer} {l e : List ℕ} where
  pub open_called : Answers (open_outcome (switches_in s) lits ends) a l e → Answers (called (state env lits ends) 1 s) a l e
  unfolding called
  open_called h = h

  pub range_called : {low high : ℤ} → low ≡ signed_word s 0 → high ≡ signed_word s 2
      → Answers (setting_outcome env lits ends (range low high)) a l e → Answers (called (state env lits ends) 2 s) a l e
  unfolding called call_of
  range_called p q h = rw (← p, ← q) h

  pub list_called : {ks : List ℤ} → ks ≡ values s
      → Answers (setting_outcome env lits ends (list ks)) a l e → Answers (called (state env lits ends) 3 s) a l e
  unfolding called call_of
  list_called p h = rw (← p) h

  pub binary_called : {c : ℕ} {f t : ℤ} → c ≡ word_at s 0 → f ≡ signed_word s 2 → t ≡ signed_word s 4
      → Answers (setting_outcome env lits ends (binary c f t)) a l e → Answers (called (state env lits ends) 4 s) a l e
  unfolding called call_of
  binary_called p q r h = rw (← p, ← q, ← r) h

  pub linear_called : {op : ℕ} {k : ℤ} {ts : List ℤ} → op ≡ get_or s 0 0 → k ≡ signed_long s 1 → ts ≡ terms (drop 5 s)
      → Answers (linear_outcome env lits ends op k ts) a l e → Answers (called (state env lits ends) 5 s) a l e
  unfolding called call_of
  linear_called p q r h = rw (← p, ← q, ← r) h

  -- more than 64 values, or six terms: those called with stand for any
  pub list_many : (ks : List ℤ) → 64 < length ks → 64 < length s / 2
      → Answers (setting_outcome env lits ends (list ks)) a l e → Answers (called (state env lits ends) 3 s) a l e
  list_many ks h g w =
      list_called refl (subst (λ (o : Outcome). Answers o a l e) (many_values env lits ends ks (values s) h (omega (arith, values_length s))) w)

  pub linear_many : {op : ℕ} {k : ℤ} (ts : List ℤ) → op ≡ get_or s 0 0 → k ≡ signed_long s 1 → 12 < length ts → 12 < 2 * ((length s - 5) / 3)
      → Answers (linear_outcome env lits ends op k ts) a l e → Answers (called (state env lits ends) 5 s) a l e
  linear_many {op} {k} ts p q h g w =
      linear_called p q refl
      (subst (λ (o : Outcome). Answers o a l e) (many_terms env lits ends op k ts (terms (drop 5 s)) h (omega (arith, terms_length (drop 5 s), length-drop 5 s))) w)

  pub mul_called : {x y m : ℕ} → x ≡ get_or s 0 0 → y ≡ get_or s 1 0 → m ≡ get_or s 2 0
      → Answers (mul_outcome env lits ends x y m) a l e → Answers (called (state env lits ends) 6 s) a l e
  unfolding called call_of
  mul_called p q r h = rw (← p, ← q, ← r) h

  pub tag_called : (t k : ℕ) → t ≡ k → Answers (called (state env lits ends) k s) a l e → Answers (called (state env lits ends) t s) a l e
  tag_called t k p h = rw p h

-- what a call answers is what it leaves
pub leaves : (given : EncoderEnv) (o : Outcome) (r : Result EncoderEnv Refusal) {l e : List ℕ} → Answers o (adds given r) l e → Leaves o r l e
leaves given o (Ok job) h = record { number = h.status; job = h.env; lits = h.lits; ends = h.ends }
leaves given o (Err x) h = record { number = h.status; job = tt; lits = h.lits; ends = h.ends }

module _ (env : EncoderEnv) (lits ends s : List ℕ) {r : Result EncoderEnv Refusal} {l e : List ℕ} where
  -- a field in its right place and of a right length is its call
  pub field_called : (index t : ℕ) → right_place index t ≡ true → right_length t (length s) ≡ true
      → Leaves (called (state env lits ends) t s) r l e → Leaves (field_outcome index (state env lits ends) (field t s)) r l e
  unfolding field_outcome
  field_called index t p q h = rw (p, q) h

-- else it is refused
module _ (env : EncoderEnv) (lits ends s : List ℕ) where
  pub field_wrong_place : (index t : ℕ) → right_place index t ≡ false
      → Leaves (field_outcome index (state env lits ends) (field t s)) (Err BadField) lits ends
  unfolding field_outcome
  field_wrong_place index t p = rw p (record { number = refl; job = tt; lits = refl; ends = refl })

  pub field_wrong_length : (index t : ℕ) → right_place index t ≡ true → right_length t (length s) ≡ false
      → Leaves (field_outcome index (state env lits ends) (field t s)) (Err BadField) lits ends
  unfolding field_outcome
  field_wrong_length index t p r = rw (p, r) (record { number = refl; job = tt; lits = refl; ends = refl })

-- the terms behind operation and constant
pub behind_five : (s : List ℕ) → take (length s - 5) (drop 5 s) ≡ drop 5 s
behind_five s = take_all (length s - 5) (drop 5 s) (rw length-drop (omega arith))
