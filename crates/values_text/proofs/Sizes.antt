-- In a well-formed job every value read lies between −4,095 and 4,095 (`value_small`), and 1,440 bytes hold the text (`values_fit`).
use Prim.Native.Nat.{◌*◌, ◌+◌, ◌<◌, ◌≤◌, suc, zero, ℕ}
use lib.Dec.{eqb}
use lib.IntN.{negsuc, pos, ℤ}
use lib.ListN.{get_or, length, length-append, length-map, length-take, take}
use mathlib.Core.Bool.{Bool, cond, false, true}
use mathlib.Core.List.{List}
use mathlib.Core.Path.{◌≡◌}
use native.Mathlib.Nat.{suc-mul}
use native.Mathlib.Omega.{arith}
use Rattle.arithmetic.specs.Integers.{down, up}
use Rattle.arithmetic.proofs.Integers.{add_read, apart_read}
use Rattle.sat.specs.LitArray.{num}
use Rattle.log_var.specs.Record.{code_of_bytes, lits_of, read_bytes}
use Rattle.log_var.specs.declared.LogEncoding.{LogEncoding}
use Rattle.log_var.proofs.Reading.{code_small}
use Rattle.encoder_env.specs.declared.EncoderEnv.{EncoderEnv}
use Rattle.encoder_env.specs.WellFormed.{encoding_at, well_formed}
use Rattle.encoder_env.proofs.Kept.{Kept, Readable, in_use, kept}
use Rattle.encoder_answer.specs.Outcome.{refused, status_of}
use Rattle.encoder_read.specs.Calls.{read_checks, read_outcome, value_read}
use Rattle.text.specs.Decimal.{integer}
use Rattle.text.proofs.Numerals.{decimal_length}
use Rattle.values_text.specs.Values.{lines_from, no_end, setting_at, setting_line, settings_from, switch_at, switch_line, switches_from, values_text, yes_end}

-- The values ---------------------------------------------------------------------------------------------------------

-- −4,095 to 4,095
abbrev pub Small : ℤ → Type 0
Small z = (up z ≤ 4095) × (down z ≤ 4095)

-- twelve literals at most, whether the array is as long or not
code_of_record : (bytes : List ℕ) (e : LogEncoding) → e.len ≤ 12 → code_of_bytes bytes (lits_of e) < 4096
code_of_record bytes e h =
    code_small bytes (lits_of e) (omega (arith, length-map (take e.len e.lits) num, length-take e.len e.lits))

read_small : (bytes : List ℕ) (e : LogEncoding) → Readable e → Small (read_bytes bytes e)
read_small bytes e r =
    let code = code_of_bytes bytes (lits_of e) in
    omega (arith, add_read (pos code) e.offset, apart_read (read_bytes bytes e), code_of_record bytes e r.len_max, r.offset_up, r.offset_down)

module _ (env : EncoderEnv) (lits ends bytes : List ℕ) (k : Kept env (length lits) (length ends)) where
  pub value_small : (i : ℕ) → i < env.count → Small (read_outcome env lits ends i bytes).value
  value_small i h = by (eqb status 0)
    where
      status : ℕ
      status = status_of (read_checks env lits ends i bytes)

      by : (t : Bool) → Small (cond t (value_read env lits ends i bytes) (refused status env lits ends)).value
      by true = read_small bytes (encoding_at env i) (in_use env (length lits) (length ends) i k h)
      by false = omega arith

-- The lines ----------------------------------------------------------------------------------------------------------

integer_size : (z : ℤ) → Small z → length (integer z) ≤ 5
unfolding integer
integer_size (pos n) h = omega (arith, decimal_length 3 n (omega arith))
integer_size (negsuc n) h = omega (arith, decimal_length 3 (n + 1) (omega arith))

setting_size : (i : ℕ) (z : ℤ) → i < 100 → Small z → length (setting_line i z) ≤ 17
unfolding setting_line
setting_size i z h g = simp length-append (omega (arith, decimal_length 1 i h, integer_size z g))

switch_size : (s b : ℕ) → s < 100 → length (switch_line s b) ≤ 14
unfolding switch_line
switch_size s b h = simp length-append (omega (arith, decimal_length 1 s h, by (eqb b 1)))
  where
    by : (t : Bool) → length (cond t yes_end no_end) ≤ 5
    by true = omega arith
    by false = omega arith

lines_size : (line : ℕ → List ℕ) (most i k : ℕ) → ((j : ℕ) → j < i + k → length (line j) ≤ most) → length (lines_from line i k) ≤ k * most
unfolding lines_from
lines_size line most i zero h = omega arith
lines_size line most i (suc k) h =
    rw (length-append, suc-mul) (omega (arith, h i (omega arith), lines_size line most (suc i) k (λ j l. h j (omega (arith, l)))))

-- at most 32 settings and 64 switches
pub values_fit : (env : EncoderEnv) (lits ends bytes : List ℕ) → well_formed env (length lits) (length ends) ≡ true → length (values_text env lits ends bytes) ≤ 1440
unfolding values_text settings_from switches_from
values_fit env lits ends bytes w =
    let k = kept env (length lits) (length ends) w in
    let a = lines_size (setting_at env lits ends bytes) 17 0 env.count (λ i h. setting_size i _ (omega (arith, h, k.count_max)) (value_small env lits ends bytes k i (omega (arith, h)))) in
    let b = lines_size (switch_at bytes) 14 0 env.switches (λ s h. switch_size s (get_or bytes s 0) (omega (arith, h, k.switches_max))) in
    rw length-append (omega (arith, a, b, k.count_max, k.switches_max))
