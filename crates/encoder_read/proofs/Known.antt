-- What an accepted clause call knows, and what an assignment passes.
use mathlib.Core.Path.{◌≡◌}
use mathlib.Core.Bool.{◌&&◌, true}
use mathlib.Core.List.{List, [], ◌∷◌}
use Prim.Native.Nat.{◌+◌, ◌<◌, ◌≤◌, suc, zero, ℕ}
use lib.Dec.{leb, ltb}
use lib.ListN.{get_or, length}
use native.Mathlib.Omega.{arith}
use borrow.Author.Tests.{eq-eqb, leb-true}
use Rattle.encoder_env.specs.declared.EncoderEnv.{EncoderEnv}
use Rattle.encoder_env.specs.WellFormed.{well_formed}
use Rattle.encoder_env.proofs.Kept.{kept}
use Rattle.clause_set.specs.Bytes.{Bits, IsAssignment}
use Rattle.encoder_env.proofs.Bounds.{all_is, leb_is}
use Rattle.encoder_env.proofs.Tests.{both}
use Rattle.encoder_read.specs.Calls.{all_bits, clause_checks, is_assignment}
use Rattle.encoder_answer.specs.Outcome.{status_of}
use Rattle.encoder_answer.proofs.Statuses.{passed}

-- a clause that may be handed back lies within the literals in use
pub clause_within : (env : EncoderEnv) (lits : ℕ) (ends : List ℕ) (k : ℕ) → status_of (clause_checks env lits ends k) ≡ 0
    → (get_or ends k 0 ≤ get_or ends (k + 1) 0) × (get_or ends (k + 1) 0 ≤ env.literals) × (env.literals ≤ lits)
clause_within env lits ends k h =
    let begin = get_or ends k 0 in
    let end = get_or ends (k + 1) 0 in
    let w = passed (well_formed env lits (length ends)) _ 0 h in
    let n = passed (ltb k env.clauses) _ 16 w.1 in
    let e = both (leb begin end) (leb end env.literals) (passed (leb begin end && leb end env.literals) 0 0 n.1).0 in
    (leb-true begin end e.0, leb-true end env.literals e.1, (kept env lits (length ends) w.0).literals_in)

-- each byte of an assignment is 0 or 1
pub bits_at : (bytes : List ℕ) (i : ℕ) → Bits bytes → get_or bytes i 0 ≤ 1
bits_at [] i b = omega arith
bits_at (x ∷ bytes) zero b = omega (arith, b.0)
bits_at (x ∷ bytes) (suc i) b = bits_at bytes i b.1

pub bits_hold : (bytes : List ℕ) → Bits bytes → all_bits bytes ≡ true
bits_hold bytes b = (all_is (λ i. leb (get_or bytes i 0) 1) (length bytes) (λ i. leb_is (get_or bytes i 0) 1)).1 (λ i _. bits_at bytes i b)

pub assignment_holds : (n : ℕ) (bytes : List ℕ) → IsAssignment n bytes → is_assignment n bytes ≡ true
assignment_holds n bytes is = rw (eq-eqb (length bytes) n is.long, bits_hold bytes is.bits)

pub bits_by : (bytes : List ℕ) → ((i : ℕ) → i < length bytes → get_or bytes i 0 ≤ 1) → Bits bytes
bits_by [] h = tt
bits_by (x ∷ bytes) h = (omega (arith, h 0 (omega arith)), bits_by bytes (λ i k. h (suc i) (omega arith)))
