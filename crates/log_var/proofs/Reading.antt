-- A setting's value under an assignment of bytes: where all bytes are 0 or 1 and the literals are in range, it is the value under the
-- assignment of their truth values (`read_bytes_is`).
use Prim.Native.Nat.{◌*◌, ◌+◌, ◌<◌, ◌≤◌, suc, zero, ℕ}
use lib.ListN.{length, length-append, length-map}
use lib.Seq.{take_at}
use mathlib.Core.Bool.{Bool, cond, false, true}
use mathlib.Core.List.{List, [], ◌++◌, ◌∷◌, append-nil, append_assoc, map}
use mathlib.Core.Path.{◌∙◌, ◌≡◌, ap, ap₂, refl, sym}
use mir.Val.{bool_byte}
use native.Mathlib.Omega.{arith}
use Rattle.arithmetic.specs.Bits.{shl}
use Rattle.arithmetic.specs.Offset.{value}
use Rattle.arithmetic.proofs.Tests.{or_false}
use Rattle.sat.specs.Clause.{holds}
use Rattle.sat.specs.Encodes.{LitsBelow}
use Rattle.sat.specs.Number.{code_of}
use Rattle.sat.specs.declared.Lit.{Lit}
use Rattle.clause_set.specs.Bytes.{Bits, lit_holds}
use Rattle.sat.specs.LitArray.{lit, num}
use Rattle.clause_set.proofs.Bytes.{clause_holds_sat, truth}
use Rattle.log_encoding.specs.LogEncoding.{LogEncoding, get_int_value}
use Rattle.log_var.specs.Record.{code_of_bytes, encoding_of, lits_of, pad, read_bytes, record_of}
use Rattle.log_var.specs.declared.LogEncoding.{LogEncoding as Encoding}

-- The loop -----------------------------------------------------------------------------------------------------------

bit_code_below : (b : Bool) (k m : ℕ) → k < m → cond b 1 0 + 2 * k < 2 * m
bit_code_below true k m h = omega arith
bit_code_below false k m h = omega arith

code_below : (bytes ls : List ℕ) (m : ℕ) → length ls ≤ m → code_of_bytes bytes ls < shl m 1
code_below bytes [] zero h = omega arith
code_below bytes [] (suc m) h = omega (arith, code_below bytes [] m (omega arith))
code_below bytes (l ∷ ls) zero h = absurd (omega arith)
code_below bytes (l ∷ ls) (suc m) h = bit_code_below (lit_holds bytes l) (code_of_bytes bytes ls) (shl m 1) (code_below bytes ls m (omega arith))

pub code_small : (bytes ls : List ℕ) → length ls ≤ 12 → code_of_bytes bytes ls < 4096
code_small bytes ls h = code_below bytes ls 12 h

-- the literals read so far stand behind those that are left, and spell k
pub record Read (bytes : List ℕ) (lits left : List Lit) (k : ℕ) : Type 0 where
  pub passed : List Lit
  pub split : lits ≡ left ++ passed
  pub value : k ≡ code_of_bytes bytes (map num passed)

pub read_start : (bytes : List ℕ) (lits : List Lit) → Read bytes lits lits 0
read_start bytes lits = record { passed = []; split = sym (append-nil lits); value = refl }

module _ {bytes : List ℕ} {lits left : List Lit} {k : ℕ} (r : Read bytes lits left k) where
  pub read_small : length lits ≤ 12 → k < 4096
  read_small h =
      let long : length (map num r.passed) ≤ 12 = omega (arith, ap length r.split, length-append left r.passed, length-map r.passed num) in
      omega (arith, r.value, code_small bytes (map num r.passed) long)

  -- one literal more, before those read
  pub read_turn : (rest : List Lit) (l : Lit) (b : Bool) → left ≡ rest ++ (l ∷ []) → b ≡ lit_holds bytes l.0 → Read bytes lits rest (2 * k + bool_byte b)
  read_turn rest l b e h =
      record {
        passed = l ∷ r.passed;
        split = r.split ∙ ap (λ xs. xs ++ r.passed) e ∙ append_assoc rest (l ∷ []) r.passed;
        value = sum b ∙ ap₂ (λ c m. cond c 1 0 + 2 * m) h r.value;
      }
    where
      sum : (t : Bool) → 2 * k + bool_byte t ≡ cond t 1 0 + 2 * k
      sum true = omega arith
      sum false = omega arith

  pub read_end : left ≡ [] → k ≡ code_of_bytes bytes (map num lits)
  read_end e = r.value ∙ ap (λ xs. code_of_bytes bytes (map num xs)) (sym (r.split ∙ ap (λ xs. xs ++ r.passed) e))

-- The law ------------------------------------------------------------------------------------------------------------

lit_holds_is : (bytes : List ℕ) (l : ℕ) → Bits bytes → LitsBelow (length bytes) (l ∷ []) → lit_holds bytes l ≡ holds (truth bytes) l
lit_holds_is bytes l b h =
    sym (or_false (lit_holds bytes l)) ∙ clause_holds_sat bytes (l ∷ []) b h ∙ or_false (holds (truth bytes) l)

code_of_bytes_is : (bytes ls : List ℕ) → Bits bytes → LitsBelow (length bytes) ls → code_of_bytes bytes ls ≡ code_of (truth bytes) ls
code_of_bytes_is bytes [] b h = refl
code_of_bytes_is bytes (l ∷ ls) b h =
    ap₂ (λ t k. cond t 1 0 + 2 * k) (lit_holds_is bytes l b (h.0, tt)) (code_of_bytes_is bytes ls b h.1)

nums : (ls : List ℕ) → map num (map lit ls) ≡ ls
nums [] = refl
nums (l ∷ ls) = ap (λ xs. l ∷ xs) (nums ls)

-- the literals of a record are those of the setting
pub lits_of_record : (e : LogEncoding) → lits_of (record_of e) ≡ e.lits
unfolding pad
lits_of_record e = ap (map num) (take_at (map lit e.lits) _ (length e.lits) (length-map e.lits lit)) ∙ nums e.lits

pub encoding_back : (e : LogEncoding) → encoding_of (record_of e) ≡ e
encoding_back e = λ i. record { lits = lits_of_record e i; low = e.low; high = e.high; offset = e.offset }

pub read_bytes_is : (bytes : List ℕ) (e : Encoding) → Bits bytes → LitsBelow (length bytes) (lits_of e)
    → read_bytes bytes e ≡ get_int_value (truth bytes) (encoding_of e)
read_bytes_is bytes e b h = ap (value e.offset) (code_of_bytes_is bytes (lits_of e) b h)
