-- The call of a field, over the bytes of its contents (document 01: the job file).
use Rattle.std.specs.Prelude.{ℕ, eqb, drop, get_or, cond, List}
use Rattle.encoder.specs.Run.{Call, encode_binary, encode_linear, encode_list, encode_mul, encode_range}
use Rattle.job_fields.specs.Numbers.{signed_long, signed_word, terms, values, word_at}

-- the switch count: the byte of tag 01
unfoldable pub switches_in : List ℕ → ℕ
switches_in s = get_or s 0 0

-- the call of tags 02 to 06, each with contents of a right length
unfoldable pub call_of : ℕ → List ℕ → Call
call_of tag s =
    cond (eqb tag 2) (encode_range (signed_word s 0) (signed_word s 2))
    (cond (eqb tag 3) (encode_list (values s))
    (cond (eqb tag 4) (encode_binary (word_at s 0) (signed_word s 2) (signed_word s 4))
    (cond (eqb tag 5) (encode_linear (get_or s 0 0) (signed_long s 1) (terms (drop 5 s)))
    (encode_mul (get_or s 0 0) (get_or s 1 0) (get_or s 2 0)))))
