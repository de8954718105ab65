-- What a reading of standard input, or of a reader, came to.
use Rattle.std.specs.Prelude.{ℕ, ◌<◌, List, length, take, ⊤, Result, Ok, Err}
use Rattle.std.specs.declared.option.Option.{Option}
use Rattle.std.specs.Io.KnownBytes.{Consumes, IsAtEnd}

-- Of a reader whose bytes are known, before and after: the bytes that count were its next ones, and where they do not fill the buffer, it has
-- none left.
abbrev pub Took : {E : Type 0} → Result ℕ E → Option (List ℕ) → Option (List ℕ) → List ℕ → Type 0
Took (Ok n) old new buf = Consumes old new (take n buf) × (n < length buf → IsAtEnd new)
Took (Err e) old new buf = ⊤
