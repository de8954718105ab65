-- A text written into a lent slice, byte after byte from a place on. What passes the slice's end is dropped, and the place stops there.
use Rattle.std.specs.Prelude.{◌+◌, min, ℕ, leb, drop, length, set, cond, List, [], ◌++◌, ◌∷◌, ◌≡◌}
use Rattle.text.specs.declared.Writer.{Writer}

-- the slice, and the place that the next byte goes to
pub record Text : Type 0 where
  pub bytes : List ℕ
  pub at : ℕ

abbrev pub text : List ℕ → ℕ → Text
text bytes at = record { bytes = bytes; at = at }

abbrev pub put : Text → ℕ → Text
put t b = text (set t.bytes t.at b) (min (t.at + 1) (length t.bytes))

unfoldable pub write : Text → List ℕ → Text
write t [] = t
write t (b ∷ bs) = write (put t b) bs

-- a writer's slice and place
abbrev pub text_of : Writer → Text
text_of w = text w.out.now w.at

-- a writer, before and after a text was written behind what it had: the slice that it holds is the same one
pub record Wrote (s : Writer) (t : List ℕ) (u : Writer) : Type 0 where
  pub same : u.out.ghost_name ≡ s.out.ghost_name
  pub text : text_of u ≡ write (text_of s) t

-- the slice with a text from its start where the text fits, else as it was
unfoldable pub whole : List ℕ → List ℕ → List ℕ
whole t out = cond (leb (length t) (length out)) (t ++ drop (length t) out) out

-- a text written whole or not at all: the answer is its length, whether it fits or not
pub record Printed (t out : List ℕ) (r : ℕ) (after : List ℕ) : Type 0 where
  pub size : r ≡ length t
  pub bytes : after ≡ whole t out
