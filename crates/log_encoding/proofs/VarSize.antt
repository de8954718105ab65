-- A setting's clauses and variables are as many as the numbers say (`encode_var_log_size`).
use Prim.Native.Nat.{◌*◌, ◌+◌, ◌-◌, ◌/◌, suc, zero, ℕ}
use lib.IntN.{ℤ}
use lib.ListN.{length}
use mathlib.Core.Bool.{Bool, beq, cond, false, true}
use mathlib.Core.List.{List, [], ◌++◌, ◌∷◌, map}
use mathlib.Core.Path.{◌∙◌, ◌≡◌, ap, ap₂, refl}
use native.Mathlib.Omega.{arith}
use Rattle.arithmetic.specs.Bits.{bit_length, odd}
use Rattle.arithmetic.specs.Offset.{code, offset_of}
use Rattle.sat.specs.Encoded.{EncodedBits}
use Rattle.sat.specs.Fresh.{fresh}
use Rattle.sat.specs.Lit.{neg}
use Rattle.sat.specs.Size.{HasSize, weight_of}
use Rattle.sat.proofs.Fresh.{length_fresh}
use Rattle.sat.proofs.Size.{RuleSize, has_size, weight_append}
use Rattle.norm_csp.specs.Domain.{IntVarRepresentation, binary, last_from, list, range}
use Rattle.log_encoding.specs.Binary.{binary_bit, binary_bits}
use Rattle.log_encoding.specs.Domain.{against, at_least, at_most, domain_clauses, gap, gaps}
use Rattle.log_encoding.specs.EncodeVarLog.{encode_binary, encode_domain, encode_var_log}
use Rattle.log_encoding.specs.VarSize.{at_least_count, at_most_count, binary_count, binary_size, binary_vars, domain_count, domain_size, missing_codes, var_size}

pub length_against : (ls : List ℕ) (k : ℕ) → length (against ls k) ≡ length ls
length_against [] k = refl
length_against (l ∷ ls) k = ap suc (length_against ls (k / 2))

module _ (weigh : ℕ → ℕ) where
  one_clause : (l : ℕ) (ls : List ℕ) (k : ℕ) → weight_of weigh ((l ∷ against ls k) ∷ []) ≡ weigh (suc (length ls))
  one_clause l ls k = rw (length_against ls k) (omega arith)

  at_least_count_is : (ls : List ℕ) (k : ℕ) → weight_of weigh (at_least ls k) ≡ at_least_count weigh (length ls) k
  at_least_count_is [] k = refl
  at_least_count_is (l ∷ ls) k = weight_append weigh (cond (odd k) ((l ∷ against ls (k / 2)) ∷ []) []) (at_least ls (k / 2)) ∙ ap₂ (λ x y. x + y) (go (odd k)) (at_least_count_is ls (k / 2))
    where
      go : (t : Bool) → weight_of weigh (cond t ((l ∷ against ls (k / 2)) ∷ []) []) ≡ cond t (weigh (suc (length ls))) 0
      go true = one_clause l ls (k / 2)
      go false = refl

  at_most_count_is : (ls : List ℕ) (k : ℕ) → weight_of weigh (at_most ls k) ≡ at_most_count weigh (length ls) k
  at_most_count_is [] k = refl
  at_most_count_is (l ∷ ls) k = weight_append weigh (cond (odd k) [] ((neg l ∷ against ls (k / 2)) ∷ [])) (at_most ls (k / 2)) ∙ ap₂ (λ x y. x + y) (go (odd k)) (at_most_count_is ls (k / 2))
    where
      go : (t : Bool) → weight_of weigh (cond t [] ((neg l ∷ against ls (k / 2)) ∷ [])) ≡ cond t 0 (weigh (suc (length ls)))
      go true = refl
      go false = one_clause (neg l) ls (k / 2)

  gap_count : (ls : List ℕ) (k n : ℕ) → weight_of weigh (gap ls k n) ≡ n * weigh (length ls)
  gap_count ls k zero = omega arith
  gap_count ls k (suc n) = omega (arith, ap weigh (length_against ls k), gap_count ls (suc k) n)

  gaps_count : (ls : List ℕ) (k : ℕ) (ms : List ℕ) → weight_of weigh (gaps ls k ms) ≡ missing_codes k ms * weigh (length ls)
  gaps_count ls k [] = omega arith
  gaps_count ls k (m ∷ ms) =
      omega (arith, weight_append weigh (gap ls (suc k) (m - suc k)) (gaps ls m ms), gap_count ls (suc k) (m - suc k), gaps_count ls m ms)

  domain_count_is : (ls : List ℕ) (low : ℕ) (ms : List ℕ) (high : ℕ)
      → weight_of weigh (domain_clauses ls low ms high) ≡ domain_count weigh (length ls) low ms high
  domain_count_is ls low ms high =
      omega (
        arith,
        weight_append weigh (at_least ls low) (at_most ls high ++ gaps ls low ms),
        weight_append weigh (at_most ls high) (gaps ls low ms),
        at_least_count_is ls low,
        at_most_count_is ls high,
        gaps_count ls low ms,
      )

  binary_bits_size : (n f t c v : ℕ) → (let out = binary_bits n f t c v in
      RuleSize weigh v record { clauses = out.clauses; vars = out.vars } (binary_count weigh n f t) (binary_vars n f t))
  binary_bits_size zero f t c v = omega arith
  binary_bits_size (suc n) f t c v = go (odd f) (odd t) (binary_bits_size n (f / 2) (t / 2) c)
    where
      more : ℕ → EncodedBits
      more w = binary_bits n (f / 2) (t / 2) c w

      m : ℕ
      m = binary_vars n (f / 2) (t / 2)

      go : (a b : Bool) → ((w : ℕ) → RuleSize weigh w record { clauses = (more w).clauses; vars = (more w).vars } (m * weigh 1) m)
          → (let (out, n) : EncodedBits × ℕ = (binary_bit a b c v more, cond (beq a b) 1 0 + m) in
          RuleSize weigh v record { clauses = out.clauses; vars = out.vars } (n * weigh 1) n)
      go false false ih = omega (arith, ih (suc v))
      go false true ih = omega (arith, ih v)
      go true false ih = omega (arith, ih v)
      go true true ih = omega (arith, ih (suc v))

pub encode_domain_size : (low : ℤ) (ks : List ℤ) (high : ℤ) (v : ℕ)
    → (let out = encode_domain low ks high v in HasSize v out.vars out.clauses (domain_size low ks high))
encode_domain_size low ks high v =
    has_size v record { clauses = domain_clauses (fresh bits v) first codes last; vars = v + bits } (λ weigh. domain_count weigh bits first codes last) bits
    (λ weigh.
    record {
      clauses_are = domain_count_is weigh (fresh bits v) first codes last ∙ ap (λ n. domain_count weigh n first codes last) (length_fresh bits v);
      vars_are = refl;
    })
  where
    first : ℕ
    first = code (offset_of low) low

    codes : List ℕ
    codes = map (code (offset_of low)) ks

    last : ℕ
    last = code (offset_of low) high

    bits : ℕ
    bits = bit_length last

pub encode_binary_size : (c : ℕ) (f t : ℤ) (v : ℕ) → (let out = encode_binary c f t v in HasSize v out.vars out.clauses (binary_size f t))
encode_binary_size c f t v =
    let (from, to) : ℕ × ℕ = (code (offset_of f) f, code (offset_of f) t) in
    has_size v _ (λ weigh. binary_count weigh (bit_length to) from to) _ (λ weigh. binary_bits_size weigh (bit_length to) from to c v)

pub encode_var_log_size : (repr : IntVarRepresentation) (v : ℕ)
    → (let out = encode_var_log repr v in HasSize v out.vars out.clauses (var_size repr))
encode_var_log_size (range low high) v = encode_domain_size low [] high v
encode_var_log_size (list []) v = record { vars_are = omega arith; clauses_are = refl; literals_are = refl }
encode_var_log_size (list (k ∷ ks)) v = encode_domain_size k ks (last_from k ks) v
encode_var_log_size (binary c f t) v = encode_binary_size c f t v
