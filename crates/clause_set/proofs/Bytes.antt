-- Literals and clauses under an assignment of bytes. Where all bytes are 0 or 1 and the literals are in range, a clause holds as under
-- the assignment of their truth values (`clause_holds_sat`, `all_hold_sat`). Each assignment is that of one row of bytes (`to_bytes`,
-- `bytes_unique`).
use Prim.Native.Nat.{◌*◌, ◌/◌, ◌%◌, ◌<◌, ◌≤◌, suc, zero, ℕ}
use lib.Dec.{eqb}
use lib.ListN.{get_or-eq_default, get_or, length}
use mathlib.Core.Bool.{Bool, ◌&&◌, ◌||◌, cond, false, not, true}
use mathlib.Core.List.{List, [], ◌∷◌}
use mathlib.Core.Path.{◌∙◌, ◌≡◌, ap, ap₂, refl, sym}
use native.Mathlib.Omega.{arith}
use borrow.Author.Tests.{eq-eqb, eqb-false, eqb-true, ne_eqb}
use Rattle.sat.specs.Clause.{Assignment, Clauses, clause_sat, holds, sat}
use Rattle.sat.specs.Encodes.{Agree, ClausesBelow, LitsBelow}
use Rattle.sat.specs.Lit.{is_negated, var}
use Rattle.clause_set.specs.Bytes.{Bits, IsAssignment, all_hold, clause_holds, lit_holds}

pub getD_within : (l : List ℕ) (i d e : ℕ) → i < length l → get_or l i d ≡ get_or l i e
getD_within [] i d e h = absurd (omega arith)
getD_within (x ∷ l) zero d e h = refl
getD_within (x ∷ l) (suc i) d e h = getD_within l i d e (omega arith)

-- a literal out of range does not hold
pub holds_out : (bytes : List ℕ) (l v : ℕ) → v ≡ var l → length bytes ≤ v → false ≡ lit_holds bytes l
unfolding lit_holds
holds_out bytes l v e h = sym (rw (← e, get_or-eq_default bytes 2 h) (go (is_negated l)))
  where
    go : (n : Bool) → eqb 2 (cond n 0 1) ≡ false
    go true = refl
    go false = refl

-- a literal in range holds by its byte
pub holds_in : (bytes : List ℕ) (l v : ℕ) (n : Bool) → v ≡ var l → is_negated l ≡ n → v < length bytes
    → eqb (get_or bytes v 0) (cond n 0 1) ≡ lit_holds bytes l
unfolding lit_holds
holds_in bytes l v n e f h = rw (← e, f) (ap (λ b. eqb b (cond n 0 1)) (getD_within bytes v 0 2 h))

-- The truth values of bytes ------------------------------------------------------------------------------------------

-- 1 is true
abbrev pub truth : List ℕ → Assignment
truth bytes v = eqb (get_or bytes v 2) 1

bits_at : (bytes : List ℕ) (v : ℕ) → Bits bytes → v < length bytes → get_or bytes v 2 < 2
bits_at [] v b h = absurd (omega arith)
bits_at (x ∷ bs) zero b h = b.0
bits_at (x ∷ bs) (suc v) b h = bits_at bs v b.1 (omega arith)

lit_holds_is : (bytes : List ℕ) (l : ℕ) → Bits bytes → l < 2 * length bytes → lit_holds bytes l ≡ holds (truth bytes) l
unfolding lit_holds holds
lit_holds_is bytes l b h = go (eqb (l % 2) 0) refl
  where
    x : ℕ
    x = get_or bytes (l / 2) 2

    bit : (t : Bool) → eqb x 1 ≡ t → eqb x 0 ≡ not t
    bit true q = ne_eqb x 0 (omega (arith, eqb-true x 1 q))
    bit false q = let no_one : ¬ (x ≡ 1) = eqb-false x 1 q in eq-eqb x 0 (omega (arith, bits_at bytes (l / 2) b (omega arith)))

    go : (t : Bool) → eqb (l % 2) 0 ≡ t → eqb x (cond (eqb (l % 2) 1) 0 1) ≡ cond t (eqb x 1) (not (eqb x 1))
    go true q = rw (ne_eqb (l % 2) 1 (omega (arith, eqb-true (l % 2) 0 q)))
    go false q =
        let odd : ¬ (l % 2 ≡ 0) = eqb-false (l % 2) 0 q in
        rw (eq-eqb (l % 2) 1 (omega arith)) (bit (eqb x 1) refl)

pub clause_holds_sat : (bytes c : List ℕ) → Bits bytes → LitsBelow (length bytes) c → clause_holds bytes c ≡ clause_sat (truth bytes) c
clause_holds_sat bytes [] b h = refl
clause_holds_sat bytes (l ∷ c) b h = ap₂ ◌||◌ (lit_holds_is bytes l b h.0) (clause_holds_sat bytes c b h.1)

pub all_hold_sat : (bytes : List ℕ) (cs : Clauses) → Bits bytes → ClausesBelow (length bytes) cs → all_hold bytes cs ≡ sat (truth bytes) cs
all_hold_sat bytes [] b h = refl
all_hold_sat bytes (c ∷ cs) b h = ap₂ ◌&&◌ (clause_holds_sat bytes c b h.0) (all_hold_sat bytes cs b h.1)

-- The bytes of an assignment -----------------------------------------------------------------------------------------

-- of the first n variables
abbrev pub to_bytes : ℕ → Assignment → List ℕ
to_bytes zero α = []
to_bytes (suc n) α = cond (α 0) 1 0 ∷ to_bytes n (λ v. α (suc v))

one_bit : (b : Bool) → (cond b 1 0 < 2) × (b ≡ eqb (cond b 1 0) 1)
one_bit true = (omega arith, refl)
one_bit false = (omega arith, refl)

pub to_bytes_assign : (n : ℕ) (α : Assignment) → IsAssignment n (to_bytes n α)
to_bytes_assign zero α = record { long = refl; bits = tt }
to_bytes_assign (suc n) α =
    let r = to_bytes_assign n (λ v. α (suc v)) in
    record { long = ap suc r.long; bits = ((one_bit (α 0)).0, r.bits) }

pub to_bytes_agree : (n : ℕ) (α : Assignment) → Agree n α (truth (to_bytes n α))
to_bytes_agree zero α v h = absurd (omega arith)
to_bytes_agree (suc n) α zero h = (one_bit (α 0)).1
to_bytes_agree (suc n) α (suc v) h = to_bytes_agree n (λ w. α (suc w)) v (omega arith)

same_byte : (b c : ℕ) → b < 2 → c < 2 → eqb b 1 ≡ eqb c 1 → b ≡ c
same_byte b c h k e = go (eqb b 1) refl
  where
    go : (t : Bool) → eqb b 1 ≡ t → b ≡ c
    go true p = omega (arith, eqb-true b 1 p, eqb-true c 1 (sym e ∙ p))
    go false p =
        let x : ¬ (b ≡ 1) = eqb-false b 1 p in
        let y : ¬ (c ≡ 1) = eqb-false c 1 (sym e ∙ p) in
        omega arith

pub bytes_unique : (n : ℕ) (bs cs : List ℕ) → IsAssignment n bs → IsAssignment n cs → Agree n (truth bs) (truth cs) → bs ≡ cs
bytes_unique n [] [] p q h = refl
bytes_unique n [] (c ∷ cs) p q h = absurd (omega (arith, p.long, q.long))
bytes_unique n (b ∷ bs) [] p q h = absurd (omega (arith, p.long, q.long))
bytes_unique zero (b ∷ bs) (c ∷ cs) p q h = absurd (omega (arith, p.long))
bytes_unique (suc n) (b ∷ bs) (c ∷ cs) p q h =
    ap₂ (λ (x : ℕ) (xs : List ℕ). x ∷ xs) (same_byte b c p.bits.0 q.bits.0 (h 0 (omega arith)))
    (bytes_unique n bs cs (record { long = omega (arith, p.long); bits = p.bits.1 }) (record { long = omega (arith, q.long); bits = q.bits.1 }) (λ v k. h (suc v) (omega arith)))
