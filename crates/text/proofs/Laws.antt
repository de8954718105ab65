-- Laws of writing.
use mathlib.Core.Path.{◌≡◌, refl, sym, ap, ◌∙◌}
use mathlib.Core.List.{List, [], ◌∷◌, ◌++◌}
use Prim.Native.Nat.{ℕ, suc, ◌+◌, ◌≤◌, ◌<◌, min}
use native.Mathlib.Omega.{arith}
use native.Mathlib.Nat.{add-zero, zero-add}
use lib.ListN.{length, set, get_or, take, drop, length-set}
use lib.Seq.{sets, sets-eq, set_out, take_at}
use borrow.Author.Tests.{le-leb, lt-leb}
use Rattle.std.proofs.lemmas.List.{take_more}
use Rattle.text.specs.declared.Writer.{Writer}
use Rattle.text.specs.Bytes.{Printed, Text, Wrote, text, text_of, put, whole, write}

pub write_append : (a : List ℕ) (s : Text) (b : List ℕ) → write s (a ++ b) ≡ write (write s a) b
unfolding write
write_append [] s b = refl
write_append (x ∷ a) s b = write_append a (put s x) b

-- one text written after another
pub write_then : (s : Text) (a b : List ℕ) {t u : Text} → t ≡ write s a → u ≡ write t b → u ≡ write s (a ++ b)
write_then s a b p q = q ∙ ap (λ (x : Text). write x b) p ∙ sym (write_append a s b)

-- what `put` writes, by its two returns
pub put_within : (l : List ℕ) (at b : ℕ) → at < length l → text (set l at b) (at + 1) ≡ write (text l at) (b ∷ [])
unfolding write
put_within l at b h = let e : at + 1 ≡ min (at + 1) (length l) = omega arith in ap (λ (n : ℕ). text (set l at b) n) e

pub put_past_end : (l : List ℕ) (at b : ℕ) → length l ≤ at → text l (length l) ≡ write (text l at) (b ∷ [])
unfolding write
put_past_end l at b h =
    let e : length l ≡ min (at + 1) (length l) = omega arith in
    rw (set_out l at b h) (ap (λ (n : ℕ). text l n) e)

-- a text that fits is written whole
pub write_fits : (t l : List ℕ) (at : ℕ) → at + length t ≤ length l → write (text l at) t ≡ text (sets l at t) (at + length t)
unfolding write
write_fits [] l at h = rw add-zero
write_fits (b ∷ t) l at h =
    let e : min (at + 1) (length l) ≡ suc at = omega arith in
    let k : suc at + length t ≤ length (set l at b) = rw length-set (omega arith) in
    let f : suc at + length t ≡ at + suc (length t) = omega arith in
    rw e (write_fits t (set l at b) (suc at) k ∙ ap (λ (n : ℕ). text (sets (set l at b) (suc at) t) n) f)

-- What a writer wrote ---------------------------------------------------------------------------------------------------

pub wrote_none : (s : Writer) → Wrote s [] s
unfolding write
wrote_none s = record { same = refl; text = refl }

pub wrote_both : {s t u : Writer} (a b : List ℕ) → Wrote s a t → Wrote t b u → Wrote s (a ++ b) u
wrote_both {s} a b p q = record { same = q.same ∙ p.same; text = write_then (text_of s) a b p.text q.text }

-- the next byte of a list
pub wrote_more : {s t u : Writer} (bs : List ℕ) (i : ℕ) → i < length bs → Wrote s (take i bs) t → Wrote t (get_or bs i 0 ∷ []) u → Wrote s (take (i + 1) bs) u
wrote_more bs i h p q = rw (take_more bs i 0 h) (wrote_both (take i bs) (get_or bs i 0 ∷ []) p q)

-- u has begun what s is to write, and has `rest` of it left
pub record Writing (s : Writer) (all : List ℕ) (u : Writer) (rest : List ℕ) : Type 0 where
  pub same : u.out.ghost_name ≡ s.out.ghost_name
  pub text : write (text_of u) rest ≡ write (text_of s) all

pub writing_none : (s : Writer) (all : List ℕ) → Writing s all s all
writing_none s all = record { same = refl; text = refl }

pub writing_more : {s u v : Writer} {all : List ℕ} (a rest : List ℕ) → Writing s all u (a ++ rest) → Wrote u a v → Writing s all v rest
writing_more {u = u} a rest p q =
    record { same = q.same ∙ p.same; text = ap (λ (x : Text). write x rest) q.text ∙ sym (write_append a (text_of u) rest) ∙ p.text }

pub writing_end : {s u : Writer} {all : List ℕ} → Writing s all u [] → Wrote s all u
unfolding write
writing_end p = record { same = p.same; text = p.text }

-- a text that fits, written from the slice's start
pub printed : (t before after : List ℕ) {n r : ℕ} → n ≡ length t → n ≤ length before → text after r ≡ write (text before 0) t → Printed t before n after
unfolding whole
printed t before after e h w =
    let fits : length t ≤ length before = omega (arith, e) in
    record { size = e; bytes = rw (le-leb (length t) (length before) fits) (ap (λ (x : Text). x.bytes) (w ∙ write_fits t before 0 (omega arith)) ∙ sets-eq t before 0 (omega arith) ∙ ap (λ (n : ℕ). t ++ drop n before) (zero-add (length t))) }

-- what a writer that began at the slice's start leaves in it
pub written_by : (t before : List ℕ) {after : List ℕ} {s u : Writer} → text_of s ≡ text before 0 → Wrote s t u → after ≡ u.out.now
    → text after u.at ≡ write (text before 0) t
written_by t before b w a = rw a (w.text ∙ ap (λ (x : Text). write x t) b)

-- the same of a writer that began there, where the slice is then as the writer left it
pub printed_by : (t before : List ℕ) {after : List ℕ} {n : ℕ} {s u : Writer} → n ≡ length t → n ≤ length before → text_of s ≡ text before 0 → Wrote s t u
    → after ≡ u.out.now → Printed t before n after
printed_by t before e h b w a = printed t before _ e h (written_by t before b w a)

-- one that does not
pub not_printed : (t before : List ℕ) {n : ℕ} → n ≡ length t → length before < n → Printed t before n before
unfolding whole
not_printed t before e h = let long : length before < length t = omega (arith, e) in record { size = e; bytes = rw (lt-leb (length t) (length before) long) }

-- where it fits, the slice begins with it
pub printed_first : (t before after : List ℕ) (r : ℕ) → length t ≤ length before → Printed t before r after → take r after ≡ t
unfolding whole
printed_first t before after r h p =
    let e : after ≡ t ++ drop (length t) before = p.bytes ∙ rw (le-leb (length t) (length before) h) in
    rw e (take_at t (drop (length t) before) r (sym p.size))
