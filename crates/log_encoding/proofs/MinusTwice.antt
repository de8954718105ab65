-- -2 times a carry, as log.rs writes it: an order encoding whose values are 2 apart.
use Prim.Native.Nat.{◌*◌, ◌+◌, suc, zero, ℕ}
use lib.IntN.{◌*ℤ◌, ◌+ℤ◌, ◌-ℤ◌, negsuc, neg_ℤ, pos, ℤ}
use lib.ListN.{length}
use mathlib.Core.List.{List, [], ◌++◌, ◌∷◌, map, reverse, reverse-cons}
use mathlib.Core.Path.{◌∙◌, ◌≡◌, ap, sym}
use native.Mathlib.Omega.{arith}
use Rattle.arithmetic.specs.Integers.{down, up}
use Rattle.arithmetic.proofs.Integers.{add_read, apart_read, mul_read, neg_reads, same_read}
use Rattle.sat.specs.Lit.{neg}
use Rattle.log_encoding.specs.Order.{OrderEncoding, domain_max, steps}
use Rattle.log_encoding.specs.Terms.{flip, term}
use Rattle.log_encoding.proofs.Flip.{flip_flip, flip_is, length_flip, map_snoc}
use Rattle.log_encoding.proofs.Order.{Even, even_down, even_up, max_down, max_up}
use Rattle.log_encoding.specs.PlainAdder2.{Carry, carry_order, info, minus_twice}

-- a carry has a literal for each value but the least
abbrev pub Fits : Carry → Type 0
Fits c = up c.high + down c.low ≡ down c.high + up c.low + length c.lits

-- consecutive values
abbrev pub evenly : ℤ → List ℕ → OrderEncoding
evenly low ls = record { domain = steps low 1 (length ls); lits = ls }

pub carry_is : (c : Carry) → Fits c → carry_order c ≡ evenly c.low c.lits
carry_is c f =
    let n : up (c.high -ℤ c.low) ≡ length c.lits =
    omega (arith, add_read c.high (neg_ℤ c.low), neg_reads c.low, apart_read (c.high -ℤ c.low)) in
    ap (λ n. record { domain = steps c.low 1 n; lits = c.lits }) n

steps_snoc : (a b : ℤ) (w n : ℕ) → up b + down a ≡ down b + up a + w * suc n → steps a w n ++ (b ∷ []) ≡ steps a w (suc n)
steps_snoc a b w zero e = ap (λ x. a ∷ x ∷ []) ((same_read b (a +ℤ pos w)).1 (omega (arith, add_read a (pos w))))
steps_snoc a b w (suc n) e = ap (λ xs. a ∷ xs) (steps_snoc (a +ℤ pos w) b w n (omega (arith, add_read a (pos w))))

doubled : (low : ℤ) (n : ℕ) → map (λ x. x *ℤ negsuc 1) (reverse (steps low 1 n)) ≡ steps ((low +ℤ pos n) *ℤ negsuc 1) 2 n
doubled low zero = ap (λ x. (x *ℤ negsuc 1) ∷ []) ((same_read low (low +ℤ pos 0)).1 (omega (arith, add_read low (pos 0))))
doubled low (suc n) =
    let top : (low +ℤ pos 1) +ℤ pos n ≡ low +ℤ pos (suc n) = (same_read ((low +ℤ pos 1) +ℤ pos n) (low +ℤ pos (suc n))).1
    (omega (arith, add_read (low +ℤ pos 1) (pos n), add_read low (pos 1), add_read low (pos (suc n)))) in
    ap (map (λ x. x *ℤ negsuc 1)) (reverse-cons low (steps (low +ℤ pos 1) 1 n))
    ∙ map_snoc (λ x. x *ℤ negsuc 1) (reverse (steps (low +ℤ pos 1) 1 n)) low
    ∙ ap (λ xs. xs ++ ((low *ℤ negsuc 1) ∷ [])) (doubled (low +ℤ pos 1) n ∙ ap (λ x. steps (x *ℤ negsuc 1) 2 n) top)
    ∙ steps_snoc ((low +ℤ pos (suc n)) *ℤ negsuc 1) (low *ℤ negsuc 1) 2 n
    (omega (arith, mul_read (low +ℤ pos (suc n)) (negsuc 1), mul_read low (negsuc 1), add_read low (pos (suc n))))

module _ (next : Carry) (g : Fits next) where
  abbrev start : ℤ
  start = (next.low +ℤ pos (length next.lits)) *ℤ negsuc 1

  abbrev evened : OrderEncoding
  evened = record { domain = steps start 2 (length (flip next.lits)); lits = flip next.lits }

  twice_is : minus_twice next ≡ evened
  twice_is =
      ap (λ o. record { domain = map (λ x. x *ℤ negsuc 1) (reverse o.domain); lits = map neg (reverse o.lits) }) (carry_is next g)
      ∙ ap (λ d. record { domain = d; lits = map neg (reverse next.lits) }) (doubled next.low (length next.lits))
      ∙ ap (λ ls. record { domain = steps start 2 (length next.lits); lits = ls }) (flip_is next.lits)
      ∙ ap (λ n. record { domain = steps start 2 n; lits = flip next.lits }) (sym (length_flip next.lits))

  start_read : up start + 2 * up next.low + 2 * length next.lits ≡ down start + 2 * down next.low
  start_read =
      omega (arith, mul_read (next.low +ℤ pos (length next.lits)) (negsuc 1), add_read next.low (pos (length next.lits)))

  pub twice_even : Even (info (pos 1) (minus_twice next)) (term 2 (flip next.lits))
  twice_even = go (minus_twice next) twice_is
    where
      go : (o : OrderEncoding) → o ≡ evened → Even (info (pos 1) o) (term 2 (flip next.lits))
      go o e = rw e (even_up start 2 0 (flip next.lits))

  pub twice_even' : Even (info (negsuc 0) (minus_twice next)) (term 2 next.lits)
  twice_even' = go (minus_twice next) next.lits twice_is (sym (flip_flip next.lits))
    where
      go : (o : OrderEncoding) (ls : List ℕ) → o ≡ evened → ls ≡ flip (flip next.lits) → Even (info (negsuc 0) o) (term 2 ls)
      go o ls e f = rw (e, f) (even_down start 2 0 (flip next.lits))

  pub twice_max : (let m = domain_max (info (pos 1) (minus_twice next)) in up m + 2 * up next.low ≡ down m + 2 * down next.low)
  twice_max = go (minus_twice next) twice_is
    where
      go : (o : OrderEncoding) → o ≡ evened → (let m = domain_max (info (pos 1) o) in up m + 2 * up next.low ≡ down m + 2 * down next.low)
      go o e = rw e (omega (arith, start_read, max_up start 2 0 (flip next.lits), length_flip next.lits))

  pub twice_max' : (let m = domain_max (info (negsuc 0) (minus_twice next)) in
      up m + 2 * down next.low ≡ down m + 2 * up next.low + 2 * length next.lits)
  twice_max' = go (minus_twice next) twice_is
    where
      go : (o : OrderEncoding) → o ≡ evened
          → (let m = domain_max (info (negsuc 0) o) in up m + 2 * down next.low ≡ down m + 2 * up next.low + 2 * length next.lits)
      go o e = rw e (omega (arith, start_read, max_down start 2 0 (flip next.lits)))
