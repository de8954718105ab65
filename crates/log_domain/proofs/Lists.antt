-- The values of a list one after the other: their codes and the gaps between them.
use Prim.Native.Nat.{◌+◌, ◌-◌, ◌<◌, ◌≤◌, suc, ℕ}
use lib.IntN.{pos, ℤ}
use lib.ListN.{drop, get_or, length}
use lib.Seq.{drop-cons}
use lib.Signed.{◌<ℤ◌, ◌≤ℤ◌}
use mathlib.Core.List.{List, ◌++◌, ◌∷◌, map}
use mathlib.Core.Path.{◌∙◌, ◌≡◌, ap, subst}
use native.Mathlib.Numerals.{add-one}
use native.Mathlib.Omega.{arith}
use Rattle.arithmetic.specs.Integers.{down, up}
use Rattle.arithmetic.specs.Offset.{code}
use Rattle.arithmetic.proofs.Integers.{<ℤ_le, apart_read, less_read, order_read, ≤ℤ_trans}
use Rattle.arithmetic.proofs.Offset.{code_read}
use Rattle.norm_csp.specs.Domain.{RisingFrom, last_from}
use Rattle.log_domain.specs.Domain.{RisingAt, gaps_from}
use Rattle.log_encoding.specs.Domain.{gap, gaps}
use Rattle.norm_csp.proofs.Domain.{rising_last}

-- two values one after the other
pub record GapFits (o a b : ℤ) : Type 0 where
  pub low_above : o ≤ℤ a
  pub high_above : o ≤ℤ b
  pub low_up : up a < 4096
  pub high_up : up b < 4096
  pub offset_down : down o < 4096
  pub codes_rise : code o a + 1 ≤ code o b
  pub high_code : code o b < 8192

pub gap_fits : (o a b : ℤ) → o ≤ℤ a → a <ℤ b → up b < 4096 → down o < 4096 → GapFits o a b
gap_fits o a b h r u d =
    let ob = ≤ℤ_trans o a b h (<ℤ_le a b r) in
    let x = code_read o a h in
    let y = code_read o b ob in
    let less = less_read a b r in
    record {
      low_above = h;
      high_above = ob;
      low_up = omega (arith, less, apart_read a, apart_read b);
      high_up = u;
      offset_down = d;
      codes_rise = omega (arith, x, y, less);
      high_code = omega (arith, y);
    }

-- From place i to the next -------------------------------------------------------------------------------------------

module _ (o : ℤ) (values : List ℤ) (i : ℕ) (h : i < length values - 1) where
  next_value : drop (i + 1) values ≡ get_or values (i + 1) (pos 0) ∷ drop (i + 1 + 1) values
  next_value = rw (add-one (i + 1)) (drop-cons values (i + 1) (pos 0) (omega arith))

  pub gaps_step : (ls : List ℕ) → (let (k, m) : ℕ × ℕ = (code o (get_or values i (pos 0)), code o (get_or values (i + 1) (pos 0))) in
      gaps_from ls o values i ≡ gap ls (k + 1) (m - (k + 1)) ++ gaps_from ls o values (i + 1))
  gaps_step ls =
      let k = code o (get_or values i (pos 0)) in
      let m = code o (get_or values (i + 1) (pos 0)) in
      let e : suc k ≡ k + 1 = omega arith in
      ap (λ zs. gaps ls k (map (code o) zs)) next_value
      ∙ ap (λ x. gap ls x (m - x) ++ gaps_from ls o values (i + 1)) e

  module _ (r : RisingAt o values i) where
    rest : RisingFrom (get_or values i (pos 0)) (get_or values (i + 1) (pos 0) ∷ drop (i + 1 + 1) values)
    rest = subst (RisingFrom (get_or values i (pos 0))) next_value r.rising

    pub rising_step : RisingAt o values (i + 1)
    rising_step =
        record {
          offset_down = r.offset_down;
          here = omega arith;
          above = ≤ℤ_trans o (get_or values i (pos 0)) (get_or values (i + 1) (pos 0)) r.above (<ℤ_le (get_or values i (pos 0)) (get_or values (i + 1) (pos 0)) rest.0);
          rising = rest.1;
          last_up = subst (λ zs. up (last_from (get_or values i (pos 0)) zs) < 4096) next_value r.last_up;
        }

    pub rising_gap : GapFits o (get_or values i (pos 0)) (get_or values (i + 1) (pos 0))
    rising_gap =
        let s = rising_step in
        let b = get_or values (i + 1) (pos 0) in
        let last = last_from b (drop (i + 1 + 1) values) in
        let l = (order_read b last).0 (rising_last b (drop (i + 1 + 1) values) s.rising) in
        gap_fits o (get_or values i (pos 0)) b r.above rest.0 (omega (arith, l, s.last_up, apart_read b, apart_read last)) r.offset_down

    pub next_rises : get_or values i (pos 0) <ℤ get_or values (i + 1) (pos 0)
    next_rises = rest.0
