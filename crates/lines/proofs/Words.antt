-- The word of a line read byte after byte is the line's first piece.
use Prim.Native.Nat.{ℕ, zero, suc, ◌+◌, ◌≤◌, ◌<◌, min}
use native.Mathlib.Omega.{arith}
use mathlib.Core.Path.{◌≡◌, refl, sym, ap, ◌∙◌}
use mathlib.Core.Bool.{Bool, true, false, ◌&&◌, cond}
use mathlib.Core.List.{List, [], ◌∷◌, ◌++◌, append_assoc, append-nil}
use lib.Dec.{leb, ltb, eqb}
use lib.IntN.{ℤ}
use lib.ListN.{length, set, get_or, length-append, length-set, get_or-append}
use lib.Seq.{ext_get_or, get_or-append_seam, get_or-set_same, get_or-set_other}
use borrow.Author.Tests.{ltb-true, ltb-false, leb-true, le-leb, eqb-true, eqb-false, eq-eqb, ne_eqb}
use Rattle.std.proofs.Common.{take, length-take-le, get_or-take}
use Rattle.lines.specs.declared.Numeral.TheVariants.{Empty}
use Rattle.lines.specs.declared.Word.{Word}
use Rattle.lines.specs.Lines.{Lined, is_empty, is_word, line_from, line_more, line_start, lined, number_more, numbered, same_below, with_numbers, word_more}
use Rattle.lines.specs.Reading.{ahead, first_piece, pieces, split, word_of}
use Rattle.lines.proofs.Steps.{and_left, and_right}
use Rattle.lines.proofs.Reading.{from_behind, worded, worded_byte, worded_space}

-- w holds the bytes p, or the first 8 of more
record Spelled (w : Word) (p : List ℕ) : Type 0 where
  len : w.len ≡ min (length p) 9
  bytes : (i : ℕ) → i < 8 → i < length p → get_or w.bytes i 0 ≡ get_or p i 0
  long : length w.bytes ≡ 8

spelled_none : Spelled line_start.word []
spelled_none = record { len = refl; bytes = λ i h l. absurd (omega (arith, l)); long = refl }

last_length : (p : List ℕ) (b : ℕ) → length (p ++ (b ∷ [])) ≡ length p + 1
last_length p b = length-append p (b ∷ [])

-- one byte more, kept or only counted
spelled_kept : (w : Word) (p : List ℕ) (b : ℕ) → Spelled w p → w.len < 8
    → Spelled (record { bytes = set w.bytes w.len b; len = w.len + 1 }) (p ++ (b ∷ []))
spelled_kept w p b s h =
    let e : w.len ≡ length p = omega (arith, s.len) in
    record {
      len = rw (last_length p b) (omega (arith, e));
      bytes = λ i k l. at i k (rw (last_length p b) at l) (eqb i (length p)) refl;
      long = length-set w.bytes w.len b ∙ s.long;
    }
  where
    at : (i : ℕ) → i < 8 → i < length p + 1 → (t : Bool) → eqb i (length p) ≡ t
        → get_or (set w.bytes w.len b) i 0 ≡ get_or (p ++ (b ∷ [])) i 0
    at i k l true q =
        let j : i ≡ length p = eqb-true i (length p) q in
        let e : w.len ≡ length p = omega (arith, s.len) in
        let m : length p < length w.bytes = rw s.long (omega arith) in
        rw (j, e, get_or-set_same w.bytes (length p) b 0 m, get_or-append_seam p b [] 0)
    at i k l false q =
        let d = eqb-false i (length p) q in
        let m : i < length p = omega (arith, d) in
        get_or-set_other w.bytes w.len i b 0 (λ r. omega (arith, r, s.len)) ∙ (s.bytes i k m ∙ sym (get_or-append p (b ∷ []) 0 i m))

spelled_long : (w : Word) (p : List ℕ) (b : ℕ) → Spelled w p → 8 ≤ w.len → Spelled (record { bytes = w.bytes; len = 9 }) (p ++ (b ∷ []))
spelled_long w p b s h =
    let e : 8 ≤ length p = omega (arith, s.len) in
    record {
      len = rw (last_length p b) (omega (arith, e));
      bytes = λ i k l. let m : i < length p = omega (arith, k, e) in s.bytes i k m ∙ sym (get_or-append p (b ∷ []) 0 i m);
      long = s.long;
    }

spelled_more : (w : Word) (p : List ℕ) (b : ℕ) → Spelled w p → Spelled (word_more w b) (p ++ (b ∷ []))
spelled_more w p b s = by (ltb w.len 8) refl
  where
    by : (t : Bool) → ltb w.len 8 ≡ t → Spelled (word_more w b) (p ++ (b ∷ []))
    by true e = rw e (spelled_kept w p b s (ltb-true w.len 8 e))
    by false e = rw e (spelled_long w p b s (ltb-false w.len 8 e))

pub first_ahead : (b : ℕ) (ps : List (List ℕ)) → first_piece (ahead b ps) ≡ b ∷ first_piece ps
first_ahead b [] = refl
first_ahead b (p ∷ ps) = refl

abbrev word_at : List ℤ → Word → List ℕ → Word
word_at xs w bs = (line_from (worded xs w) bs).line.word

word_none : (xs : List ℤ) (w : Word) (p : List ℕ) → Spelled w p → Spelled (word_at xs w []) (p ++ word_of [])
unfolding line_from split
word_none xs w p s = rw (append-nil p) s

piece_space : (b : ℕ) (bs : List ℕ) → eqb b 32 ≡ true → word_of (b ∷ bs) ≡ []
unfolding split
piece_space b bs e = rw e

piece_byte : (b : ℕ) (bs : List ℕ) → eqb b 32 ≡ false → word_of (b ∷ bs) ≡ b ∷ word_of bs
unfolding split
piece_byte b bs e = rw e (first_ahead b (pieces bs))

word_space : (xs : List ℤ) (w : Word) (b : ℕ) (bs : List ℕ) → eqb b 32 ≡ true → word_at xs w (b ∷ bs) ≡ w
unfolding line_from
word_space xs w b bs e =
    ap (λ (k : Lined). (line_from k bs).line.word) (worded_space xs w b e)
    ∙ ap (λ (k : Lined). k.line.word) (from_behind w (numbered xs (record { count = 0; good = true; numeral = Empty })) bs)

word_byte : (xs : List ℤ) (w : Word) (b : ℕ) (bs : List ℕ) → eqb b 32 ≡ false → word_at xs w (b ∷ bs) ≡ word_at xs (word_more w b) bs
unfolding line_from
word_byte xs w b bs e = ap (λ (k : Lined). (line_from k bs).line.word) (worded_byte xs w b e)

word_spelled : (xs : List ℤ) (w : Word) (p bs : List ℕ) → Spelled w p → Spelled (word_at xs w bs) (p ++ word_of bs)
word_spelled xs w p [] s = word_none xs w p s
word_spelled xs w p (b ∷ bs) s = by (eqb b 32) refl (word_spelled xs (word_more w b) (p ++ (b ∷ [])) bs (spelled_more w p b s))
  where
    by : (t : Bool) → eqb b 32 ≡ t → Spelled (word_at xs (word_more w b) bs) ((p ++ (b ∷ [])) ++ word_of bs)
        → Spelled (word_at xs w (b ∷ bs)) (p ++ word_of (b ∷ bs))
    by true e r = rw (word_space xs w b bs e, piece_space b bs e, append-nil p) s
    by false e r = rw (word_byte xs w b bs e, piece_byte b bs e) (rw (append_assoc p (b ∷ []) (word_of bs)) at r)

-- what `is_word` asks of a word that is spelled p
same_at : (n : ℕ) (bs cs : List ℕ) → same_below n bs cs ≡ true → (i : ℕ) → i < n → get_or bs i 0 ≡ get_or cs i 0
unfolding same_below
same_at zero bs cs e i h = absurd (omega arith)
same_at (suc n) bs cs e i h =
    by (eqb i n) refl (same_at n bs cs (and_left (same_below n bs cs) (eqb (get_or bs n 0) (get_or cs n 0)) e) i)
  where
    by : (t : Bool) → eqb i n ≡ t → (i < n → get_or bs i 0 ≡ get_or cs i 0) → get_or bs i 0 ≡ get_or cs i 0
    by true q f =
        let j : i ≡ n = eqb-true i n q in
        rw j (eqb-true (get_or bs n 0) (get_or cs n 0) (and_right (same_below n bs cs) (eqb (get_or bs n 0) (get_or cs n 0)) e))
    by false q f = let d = eqb-false i n q in f (omega (arith, d))

same_all : (n : ℕ) (bs cs : List ℕ) → ((i : ℕ) → i < n → get_or bs i 0 ≡ get_or cs i 0) → same_below n bs cs ≡ true
unfolding same_below
same_all zero bs cs f = refl
same_all (suc n) bs cs f =
    rw (same_all n bs cs (λ i h. f i (omega (arith, h))), eq-eqb (get_or bs n 0) (get_or cs n 0) (f n (omega arith)))

-- the bytes in use are the word
pub bytes_are_word : (w : Word) (v : List ℕ) → w.len ≤ 8 → w.len ≤ length w.bytes → v ≡ take w.len w.bytes → is_word w v ≡ true
bytes_are_word w v h k e =
    rw (le-leb w.len 8 h, e, eq-eqb w.len (length (take w.len w.bytes)) (sym (length-take-le w.len w.bytes k)))
    (same_all w.len w.bytes (take w.len w.bytes) (λ i l. sym (get_or-take w.len w.bytes i 0 l)))

spelled_is : {w : Word} {p : List ℕ} (v : List ℕ) → Spelled w p → is_word w v ≡ true → p ≡ v
spelled_is {w} {p} v s e =
    let a = leb-true w.len 8 (and_left (leb w.len 8) (eqb w.len (length v) && same_below w.len w.bytes v) e) in
    let r = and_right (leb w.len 8) (eqb w.len (length v) && same_below w.len w.bytes v) e in
    let l = eqb-true w.len (length v) (and_left (eqb w.len (length v)) (same_below w.len w.bytes v) r) in
    let q = and_right (eqb w.len (length v)) (same_below w.len w.bytes v) r in
    let n : w.len ≡ length p = omega (arith, s.len, a) in
    ext_get_or 0 p v (sym n ∙ l)
    (λ i h. sym (s.bytes i (omega (arith, h, n, a)) h) ∙ same_at w.len w.bytes v q i (omega (arith, h, n)))

spelled_found : {w : Word} {p : List ℕ} → Spelled w p → length p ≤ 8 → is_word w p ≡ true
spelled_found {w} {p} s h =
    let n : w.len ≡ length p = omega (arith, s.len) in
    rw (le-leb w.len 8 (omega (arith, n)), eq-eqb w.len (length p) n)
    (same_all w.len w.bytes p (λ i k. s.bytes i (omega (arith, k, n)) (omega (arith, k, n))))

-- THE THEOREM on words: a line read byte after byte has the word that is its first piece, if that has at most 8 bytes, and no other
pub word_reads : (xs : List ℤ) (bs v : List ℕ) → is_word (line_from (lined xs line_start) bs).line.word v ≡ true → word_of bs ≡ v
word_reads xs bs v e = spelled_is v (word_spelled xs line_start.word [] bs spelled_none) e

pub word_found : (xs : List ℤ) (bs : List ℕ) → length (word_of bs) ≤ 8 → is_word (line_from (lined xs line_start) bs).line.word (word_of bs) ≡ true
word_found xs bs h = spelled_found (word_spelled xs line_start.word [] bs spelled_none) h

-- Empty lines ----------------------------------------------------------------------------------------------------------

letter_len : (w : Word) (b : ℕ) → eqb (word_more w b).len 0 ≡ false
letter_len w b = by (ltb w.len 8)
  where
    by : (t : Bool) → eqb (cond {A = Word} t (record { bytes = set w.bytes w.len b; len = w.len + 1 }) (record { bytes = w.bytes; len = 9 })).len 0 ≡ false
    by true = ne_eqb (w.len + 1) 0 (λ e. omega (arith, e))
    by false = refl

more_full : (k : Lined) (b : ℕ) → is_empty (line_more k b).line ≡ false
unfolding line_more
more_full k b = by k.line.behind (eqb b 32)
  where
    by : (s t : Bool)
        → is_empty (cond s (with_numbers k.line.word (number_more (numbered k.nums k.line.numbers) b))
        (cond t (with_numbers k.line.word (numbered k.nums k.line.numbers))
        (lined k.nums (record { word = word_more k.line.word b; behind = false; numbers = k.line.numbers })))).line ≡ false
    by true t = refl
    by false true = refl
    by false false = letter_len k.line.word b

from_full : (k : Lined) (bs : List ℕ) → is_empty k.line ≡ false → is_empty (line_from k bs).line ≡ false
unfolding line_from
from_full k [] e = e
from_full k (b ∷ bs) e = from_full (line_more k b) bs (more_full k b)

-- a line read byte after byte is empty if it has no byte
pub empty_reads : (xs : List ℤ) (bs : List ℕ) → is_empty (line_from (lined xs line_start) bs).line ≡ eqb (length bs) 0
unfolding line_from
empty_reads xs [] = refl
empty_reads xs (b ∷ bs) =
    from_full (line_more (lined xs line_start) b) bs (more_full (lined xs line_start) b) ∙ sym (ne_eqb (length (b ∷ bs)) 0 (λ e. omega (arith, e)))
