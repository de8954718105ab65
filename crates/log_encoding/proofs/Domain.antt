-- The clauses of a range or a list bar exactly the codes of no value: `at_least_sat`, `at_most_sat`, `gaps_sat`, joined by
-- `bounds_sat`.
use Prim.Native.Nat.{◌*◌, ◌+◌, ◌-◌, ◌/◌, ◌<◌, ◌≤◌, suc, zero, ℕ}
use borrow.Author.Tests.{eq-eqb, eqb-false, eqb-true, le-leb, leb-false, leb-true, lt-leb, ne_eqb, not-true}
use lib.Dec.{eqb, leb}
use lib.ListN.{length}
use mathlib.Core.Bool.{Bool, So, ◌&&◌, ◌||◌, and-eq-true_iff, cond, false, not, true}
use mathlib.Core.List.{List, [], ◌++◌, ◌∷◌}
use mathlib.Core.Logic.Iff
use mathlib.Core.Logic.{◌↔◌, by_cases}
use mathlib.Core.Path.{◌∙◌, ◌≡◌, ap, refl, sym}
use native.Mathlib.Decide.{dec_lt, ℕ_discrete}
use native.Mathlib.Omega.{arith}
use Rattle.arithmetic.specs.Bits.{odd, shl}
use Rattle.arithmetic.proofs.Bits.{low_bit}
use Rattle.arithmetic.proofs.Tests.{and_true, eqb_same, leb_same, or_true}
use Rattle.sat.specs.Clause.{Assignment, Clauses, clause_sat, holds, sat}
use Rattle.sat.specs.Encodes.{ClausesBelow, LitsBelow}
use Rattle.sat.specs.Lit.{neg}
use Rattle.sat.specs.Number.{code_of}
use Rattle.sat.proofs.Clauses.{sat_append, sat_both}
use Rattle.sat.proofs.Extend.{clauses_below_append}
use Rattle.sat.proofs.Lits.{holds_neg, neg_below}
use Rattle.log_encoding.specs.Domain.{against, at_least, at_most, domain_clauses, gap, gaps}

-- the values of a list, strictly rising
abbrev pub RisingCodes : ℕ → List ℕ → Type 0
RisingCodes k [] = Unit
RisingCodes k (m ∷ ms) = (k < m) × RisingCodes m ms

abbrev pub last_code : ℕ → List ℕ → ℕ
last_code k [] = k
last_code k (m ∷ ms) = last_code m ms

abbrev pub among : ℕ → ℕ → List ℕ → Bool
among x k [] = eqb x k
among x k (m ∷ ms) = eqb x k || among x m ms

holds_pick : (α : Assignment) (t : Bool) (l : ℕ) → holds α (cond t (neg l) l) ≡ cond t (not (holds α l)) (holds α l)
holds_pick α true l = holds_neg α l
holds_pick α false l = refl

-- the lowest bits of a code b + 2 x and of a number t + 2 q
code_step : (t b : Bool) (x q : ℕ) → (cond t (not b) b || not (eqb x q)) ≡ not (eqb (cond b 1 0 + 2 * x) (cond t 1 0 + 2 * q))
code_step true true x q = ap not (eqb_same x q (1 + 2 * x) (1 + 2 * q) (omega arith))
code_step true false x q = sym (ap not (ne_eqb (0 + 2 * x) (1 + 2 * q) (omega arith)))
code_step false true x q = sym (ap not (ne_eqb (1 + 2 * x) (0 + 2 * q) (omega arith)))
code_step false false x q = ap not (eqb_same x q (0 + 2 * x) (0 + 2 * q) (omega arith))

pub against_sat : (α : Assignment) (ls : List ℕ) (k : ℕ) → k < shl (length ls) 1 → clause_sat α (against ls k) ≡ not (eqb (code_of α ls) k)
against_sat α [] k h = let e : k ≡ 0 = omega arith in rw e
against_sat α (l ∷ ls) k h =
    rw (holds_pick, against_sat α ls (k / 2) (omega arith)) (code_step (odd k) (holds α l) (code_of α ls) (k / 2))
    ∙ ap (λ m. not (eqb (code_of α (l ∷ ls)) m)) (sym (low_bit k))

-- equality and order of two tests
apart : (x q : ℕ) → (not (eqb x q) && leb q x) ≡ leb (1 + 2 * q) (0 + 2 * x)
apart x q = go (eqb x q) (leb q x) refl refl
  where
    go : (e l : Bool) → eqb x q ≡ e → leb q x ≡ l → (not e && l) ≡ leb (1 + 2 * q) (0 + 2 * x)
    go true l p r = sym (lt-leb (1 + 2 * q) (0 + 2 * x) (omega (arith, eqb-true x q p)))
    go false true p r = let differ : ¬ (x ≡ q) = eqb-false x q p in sym (le-leb (1 + 2 * q) (0 + 2 * x) (omega (arith, leb-true q x r)))
    go false false p r = sym (lt-leb (1 + 2 * q) (0 + 2 * x) (omega (arith, leb-false q x r)))

least_step : (t b : Bool) (x q : ℕ) → (cond t (b || not (eqb x q)) true && leb q x) ≡ leb (cond t 1 0 + 2 * q) (cond b 1 0 + 2 * x)
least_step true true x q = leb_same q x (1 + 2 * q) (1 + 2 * x) (omega arith)
least_step true false x q = apart x q
least_step false true x q = leb_same q x (0 + 2 * q) (1 + 2 * x) (omega arith)
least_step false false x q = leb_same q x (0 + 2 * q) (0 + 2 * x) (omega arith)

most_step : (t b : Bool) (x q : ℕ) → (cond t true (not b || not (eqb x q)) && leb x q) ≡ leb (cond b 1 0 + 2 * x) (cond t 1 0 + 2 * q)
most_step true true x q = leb_same x q (1 + 2 * x) (1 + 2 * q) (omega arith)
most_step true false x q = leb_same x q (0 + 2 * x) (1 + 2 * q) (omega arith)
most_step false true x q = rw (eqb_same x q q x (omega arith)) (apart q x)
most_step false false x q = leb_same x q (0 + 2 * x) (0 + 2 * q) (omega arith)

sat_then : (α : Assignment) (t : Bool) (c : List ℕ) → sat α (cond t (c ∷ []) []) ≡ cond t (clause_sat α c) true
sat_then α true c = and_true (clause_sat α c)
sat_then α false c = refl

sat_else : (α : Assignment) (t : Bool) (c : List ℕ) → sat α (cond t [] (c ∷ [])) ≡ cond t true (clause_sat α c)
sat_else α true c = refl
sat_else α false c = and_true (clause_sat α c)

pub at_least_sat : (α : Assignment) (ls : List ℕ) (k : ℕ) → k < shl (length ls) 1 → sat α (at_least ls k) ≡ leb k (code_of α ls)
at_least_sat α [] k h = let e : k ≡ 0 = omega arith in rw e
at_least_sat α (l ∷ ls) k h =
    rw (sat_append, sat_then, against_sat α ls (k / 2) (omega arith), at_least_sat α ls (k / 2) (omega arith))
    (least_step (odd k) (holds α l) (code_of α ls) (k / 2))
    ∙ ap (λ m. leb m (code_of α (l ∷ ls))) (sym (low_bit k))

pub at_most_sat : (α : Assignment) (ls : List ℕ) (k : ℕ) → k < shl (length ls) 1 → sat α (at_most ls k) ≡ leb (code_of α ls) k
at_most_sat α [] k h = let e : k ≡ 0 = omega arith in rw e
at_most_sat α (l ∷ ls) k h =
    rw (sat_append, sat_else, holds_neg, against_sat α ls (k / 2) (omega arith), at_most_sat α ls (k / 2) (omega arith))
    (most_step (odd k) (holds α l) (code_of α ls) (k / 2))
    ∙ ap (λ m. leb (code_of α (l ∷ ls)) m) (sym (low_bit k))

-- a gap of n codes from k on
pub gap_sat : (α : Assignment) (ls : List ℕ) (k n : ℕ) → k + n ≤ shl (length ls) 1
    → So (sat α (gap ls k n)) ↔ (k ≤ code_of α ls → code_of α ls < k + n → ⊥)
gap_sat α ls k zero h = (λ s a b. omega arith, λ s. refl)
gap_sat α ls k (suc n) h =
    Iff.trans (and-eq-true_iff (clause_sat α (against ls k)) (sat α (gap ls (suc k) n))) (
      λ p a b.
          by_cases (ℕ_discrete (code_of α ls) k)
          (λ e. eqb-false (code_of α ls) k (not-true (eqb (code_of α ls) k) (sym (against_sat α ls k (omega arith)) ∙ p.0)) e)
          (λ ne. (gap_sat α ls (suc k) n (omega arith)).0 p.1 (omega arith) (omega arith)),
      λ f. (
        against_sat α ls k (omega arith) ∙ ap not (ne_eqb (code_of α ls) k (λ e. f (omega arith) (omega arith))),
        (gap_sat α ls (suc k) n (omega arith)).1 (λ a b. f (omega arith) (omega arith)),
      ),
    )

-- Lists --------------------------------------------------------------------------------------------------------------

pub rising_le : (k : ℕ) (ms : List ℕ) → RisingCodes k ms → k ≤ last_code k ms
rising_le k [] r = omega arith
rising_le k (m ∷ ms) r = omega (arith, rising_le m ms r.1)

pub among_here : (x k : ℕ) (a : Bool) → x ≡ k → So (eqb x k || a)
among_here x k a e = rw (eq-eqb x k e)

pub among_rest : (x k : ℕ) (a : Bool) → So (eqb x k || a) → ¬ (x ≡ k) → So a
among_rest x k a h ne = sym (ap (λ t. t || a) (ne_eqb x k ne)) ∙ h

pub among_later : (t a : Bool) → So a → So (t || a)
among_later t a h = rw h (or_true t)

pub among_le : (x k : ℕ) (ms : List ℕ) → RisingCodes k ms → So (among x k ms) → k ≤ x
among_le x k [] r h = omega (arith, eqb-true x k h)
among_le x k (m ∷ ms) r h =
    by_cases (ℕ_discrete x k) (λ e. omega arith) (λ ne. omega (arith, among_le x m ms r.1 (among_rest x k (among x m ms) h ne)))

pub among_greatest : (x k : ℕ) (ms : List ℕ) → RisingCodes k ms → So (among x k ms) → x ≤ last_code k ms
among_greatest x k [] r h = omega (arith, eqb-true x k h)
among_greatest x k (m ∷ ms) r h =
    by_cases (ℕ_discrete x k)
    (λ e. omega (arith, rising_le m ms r.1, r.0))
    (λ ne. among_greatest x m ms r.1 (among_rest x k (among x m ms) h ne))

-- between the least value and the greatest, the gaps leave just the values
pub gaps_sat : (α : Assignment) (ls : List ℕ) (k : ℕ) (ms : List ℕ) → RisingCodes k ms → last_code k ms < shl (length ls) 1
    → So (sat α (gaps ls k ms)) ↔ (k ≤ code_of α ls → code_of α ls ≤ last_code k ms → So (among (code_of α ls) k ms))
gaps_sat α ls k [] r b = (λ h low high. eq-eqb (code_of α ls) k (omega arith), λ h. refl)
gaps_sat α ls k (m ∷ ms) r b =
    let top : m ≤ last_code m ms = rising_le m ms r.1 in
    let between = gap_sat α ls (suc k) (m - suc k) (omega arith) in
    let ih = gaps_sat α ls m ms r.1 b in
    Iff.trans (sat_both α (gap ls (suc k) (m - suc k)) (gaps ls m ms)) (
      λ h low high.
          by_cases (ℕ_discrete (code_of α ls) k) (among_here (code_of α ls) k (among (code_of α ls) m ms))
          (λ ne.
          by_cases (dec_lt (code_of α ls) m)
          (λ below. absurd (between.0 h.0 (omega arith) (omega arith)))
          (λ above. among_later (eqb (code_of α ls) k) (among (code_of α ls) m ms) (ih.0 h.1 (omega arith) high))),
      λ f. (
        between.1
            (λ low high.
            omega (arith, among_le (code_of α ls) m ms r.1 (among_rest (code_of α ls) k (among (code_of α ls) m ms) (f (omega arith) (omega arith)) (omega arith)))),
        ih.1 (λ low high. among_rest (code_of α ls) k (among (code_of α ls) m ms) (f (omega arith) high) (omega arith)),
      ),
    )

-- Which variables these clauses speak of ------------------------------------------------------------------------------

module _ (v : ℕ) where
  against_below : (ls : List ℕ) (k : ℕ) → LitsBelow v ls → LitsBelow v (against ls k)
  against_below [] k b = tt
  against_below (l ∷ ls) k b = (go (odd k), against_below ls (k / 2) b.1)
    where
      go : (t : Bool) → cond t (neg l) l < 2 * v
      go true = neg_below v l b.0
      go false = b.0

  pub at_least_below : (ls : List ℕ) (k : ℕ) → LitsBelow v ls → ClausesBelow v (at_least ls k)
  at_least_below [] k b = tt
  at_least_below (l ∷ ls) k b = clauses_below_append v (cond (odd k) ((l ∷ against ls (k / 2)) ∷ []) []) (at_least ls (k / 2)) (go (odd k)) (at_least_below ls (k / 2) b.1)
    where
      go : (t : Bool) → ClausesBelow v (cond t ((l ∷ against ls (k / 2)) ∷ []) [])
      go true = ((b.0, against_below ls (k / 2) b.1), tt)
      go false = tt

  pub at_most_below : (ls : List ℕ) (k : ℕ) → LitsBelow v ls → ClausesBelow v (at_most ls k)
  at_most_below [] k b = tt
  at_most_below (l ∷ ls) k b = clauses_below_append v (cond (odd k) [] ((neg l ∷ against ls (k / 2)) ∷ [])) (at_most ls (k / 2)) (go (odd k)) (at_most_below ls (k / 2) b.1)
    where
      go : (t : Bool) → ClausesBelow v (cond t [] ((neg l ∷ against ls (k / 2)) ∷ []))
      go true = tt
      go false = ((neg_below v l b.0, against_below ls (k / 2) b.1), tt)

  gap_below : (ls : List ℕ) (k n : ℕ) → LitsBelow v ls → ClausesBelow v (gap ls k n)
  gap_below ls k zero b = tt
  gap_below ls k (suc n) b = (against_below ls k b, gap_below ls (suc k) n b)

  pub gaps_below : (ls : List ℕ) (k : ℕ) (ms : List ℕ) → LitsBelow v ls → ClausesBelow v (gaps ls k ms)
  gaps_below ls k [] b = tt
  gaps_below ls k (m ∷ ms) b = clauses_below_append v (gap ls (suc k) (m - suc k)) (gaps ls m ms) (gap_below ls (suc k) (m - suc k) b) (gaps_below ls m ms b)

pub bounds_sat : (α : Assignment) (ls : List ℕ) (low high : ℕ) (g : Clauses) → low < shl (length ls) 1 → high < shl (length ls) 1
    → So (sat α (at_least ls low ++ (at_most ls high ++ g))) ↔ ((low ≤ code_of α ls) × (code_of α ls ≤ high) × So (sat α g))
bounds_sat α ls low high g p q = (
  λ h.
      let (a, r) = (sat_both α (at_least ls low) (at_most ls high ++ g)).0 h in
      let (b, c) = (sat_both α (at_most ls high) g).0 r in
      (leb-true low (code_of α ls) (sym (at_least_sat α ls low p) ∙ a), leb-true (code_of α ls) high (sym (at_most_sat α ls high q) ∙ b), c),
  λ h.
      (sat_both α (at_least ls low) (at_most ls high ++ g)).1 (
        at_least_sat α ls low p ∙ le-leb low (code_of α ls) h.0,
        (sat_both α (at_most ls high) g).1 (at_most_sat α ls high q ∙ le-leb (code_of α ls) high h.1, h.2),
      ),
)

pub domain_below : (v : ℕ) (ls : List ℕ) (low : ℕ) (ms : List ℕ) (high : ℕ) → LitsBelow v ls → ClausesBelow v (domain_clauses ls low ms high)
domain_below v ls low ms high b =
    clauses_below_append v (at_least ls low) (at_most ls high ++ gaps ls low ms) (at_least_below v ls low b)
    (clauses_below_append v (at_most ls high) (gaps ls low ms) (at_most_below v ls high b) (gaps_below v ls low ms b))
