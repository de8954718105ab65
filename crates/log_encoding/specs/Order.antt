-- The clauses of one inequality in integers, definition by definition after `LinearInfoForOrderEncoding` of order.rs and
-- `encode_linear_ge_mixed_from_info` of mixed.rs. `min_relax_on_erasure` is left out: without direct encodings it is always `None`.
use Rattle.std.specs.Prelude.{◌-◌, suc, zero, ℕ, ◌*ℤ◌, ◌+ℤ◌, ◌-ℤ◌, negsuc, neg_ℤ, pos, ℤ, get_or, length, Bool, cond, List, [], ◌++◌, ◌∷◌, map}
use Rattle.std.specs.Int.Signed.{le_z, lt_z}
use Rattle.sat.specs.Clause.{Clauses}
use Rattle.sat.specs.Lit.{neg}

-- the values that a number may have, rising, and for each but the first the literal that says that it is at least that value
pub record OrderEncoding : Type 0 where
  pub domain : List ℤ
  pub lits : List ℕ

-- with a coefficient, which is not 0
pub record LinearInfo : Type 0 where
  pub coef : ℤ
  pub encoding : OrderEncoding

abbrev pub domain_size : LinearInfo → ℕ
domain_size t = length t.encoding.domain

-- place j from below, for a negative coefficient from above
abbrev pub place : LinearInfo → ℕ → ℕ
place t j = cond (lt_z (pos 0) t.coef) j (domain_size t - 1 - j)

-- the j-th smallest value, times the coefficient
abbrev pub domain_at : LinearInfo → ℕ → ℤ
domain_at t j = get_or t.encoding.domain (place t j) (pos 0) *ℤ t.coef

abbrev pub domain_max : LinearInfo → ℤ
domain_max t = domain_at t (domain_size t - 1)

-- the literal that says that the term is at least its j-th value, j not 0
abbrev pub at_least : LinearInfo → ℕ → ℕ
at_least t j =
    cond (lt_z (pos 0) t.coef) (get_or t.encoding.lits (j - 1) 0) (neg (get_or t.encoding.lits (domain_size t - 1 - j) 0))

-- `ExtendedLit`
pub data Extended : Type 0 where
  always never : Extended
  lit : ℕ → Extended

-- the first of the numbers below n that passes the test; the Rust finds it by halving
abbrev pub first : (ℕ → Bool) → ℕ → ℕ
first test zero = 0
first test (suc n) = cond (test 0) 0 (suc (first (λ j. test (suc j)) n))

-- what says that the term is at least val: the literal of the first value that is
abbrev pub at_least_val : LinearInfo → ℤ → Extended
at_least_val t val =
    cond (le_z val (domain_at t 0)) always
    (cond (lt_z (domain_max t) val) never
    (lit (at_least t (first (λ j. le_z val (domain_at t j)) (domain_size t)))))

-- the clause with what it still needs; `never` does not come up here, and the Rust panics
abbrev pub with_lit : List ℕ → Extended → Clauses
with_lit clause always = []
with_lit clause never = []
with_lit clause (lit l) = (clause ++ (l ∷ [])) ∷ []

-- for i in 0..n
abbrev pub each : ℕ → (ℕ → Clauses) → Clauses
each zero f = []
each (suc n) f = f 0 ++ each n (λ i. f (suc i))

-- below 0, the clause as it stands
abbrev pub unless_below : ℤ → List ℕ → Clauses → Clauses
unless_below (negsuc b) clause more = clause ∷ []
unless_below (pos b) clause more = more

-- `encode_sub`: the terms left, the clause so far and the upper bound
abbrev pub encode_sub : List LinearInfo → List ℕ → ℤ → Clauses
encode_sub [] clause bound = unless_below bound clause []
encode_sub (t ∷ []) clause bound = unless_below bound clause (with_lit clause (at_least_val t (neg_ℤ (bound -ℤ domain_max t))))
encode_sub (t ∷ u ∷ ts) clause bound =
    let more = each (domain_size t - 1)
    (λ i. encode_sub (u ∷ ts) (clause ++ (at_least t (suc i) ∷ [])) ((bound -ℤ domain_max t) +ℤ domain_at t i))
    ++ encode_sub (u ∷ ts) clause bound in
    unless_below bound clause more

-- the greatest value of the constant and the terms
abbrev pub upper_bound : List LinearInfo → ℤ → ℤ
upper_bound [] bound = bound
upper_bound (t ∷ ts) bound = upper_bound ts (bound +ℤ domain_max t)

-- the terms and the constant add up to at least 0
abbrev pub encode_ge : List LinearInfo → ℤ → Clauses
encode_ge ts constant = encode_sub ts [] (upper_bound ts constant)

abbrev pub negated : LinearInfo → LinearInfo
negated t = record { coef = neg_ℤ t.coef; encoding = t.encoding }

-- they add up to 0: `encode_linear_eq_mixed_from_info`
abbrev pub encode_eq : List LinearInfo → ℤ → Clauses
encode_eq ts constant = encode_ge ts constant ++ encode_ge (map negated ts) (neg_ℤ constant)

-- a value and n more, w apart
abbrev pub steps : ℤ → ℕ → ℕ → List ℤ
steps low w zero = low ∷ []
steps low w (suc n) = low ∷ steps (low +ℤ pos w) w n
