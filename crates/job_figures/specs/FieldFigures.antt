-- The figures of one more field behind a job file (document 02, #105): what the field's call would add.
use Rattle.std.specs.Prelude.{ℕ, eqb, length, ◌&&◌, ◌||◌, cond, List, [], ◌∷◌}
use Rattle.encoder_env.specs.declared.EncoderEnv.{EncoderEnv}
use Rattle.encoder.specs.Run.{Call, clause, encode_binary, encode_linear, encode_list, encode_mul, encode_range, get_int_value}
use Rattle.encoder_figures.specs.Figures.{Figures, linear_figures, mul_figures}
use Rattle.job_fields.specs.Fields.{Field, broken, field, fields_of, right_length}
use Rattle.job_file.specs.Calls.{call_of}

-- a refusal has its number and no figures
abbrev pub no_figures : ℕ → Figures
no_figures number = record { status = number; variables = 0; clauses = 0; literals = 0 }

-- a sum and a product have figures, no other call has
abbrev pub call_figures : EncoderEnv → Call → Figures
call_figures env (encode_linear op constant terms) = linear_figures env op constant terms
call_figures env (encode_mul x y m) = mul_figures env x y m
call_figures env (encode_range low high) = no_figures 18
call_figures env (encode_list ks) = no_figures 18
call_figures env (encode_binary c f t) = no_figures 18
call_figures env (get_int_value x assignment) = no_figures 18
call_figures env (clause k) = no_figures 18

-- a field of tag 05 or 06 and of a right length has its call's; any other is 18
unfoldable pub one_field_figures : EncoderEnv → ℕ → List ℕ → Figures
one_field_figures env tag contents =
    cond ((eqb tag 5 || eqb tag 6) && right_length tag (length contents)) (call_figures env (call_of tag contents)) (no_figures 18)

-- there is exactly one field; none, a broken one and several are 18
unfoldable pub field_figures : EncoderEnv → List Field → Figures
field_figures env [] = no_figures 18
field_figures env (broken ∷ fs) = no_figures 18
field_figures env (field tag contents ∷ []) = one_field_figures env tag contents
field_figures env (field tag contents ∷ f ∷ fs) = no_figures 18

-- on the number and the job that a file's run left: the file's own number where it is refused, else those of the field
unfoldable pub file_figures : ℕ → EncoderEnv → List ℕ → Figures
file_figures status env bytes = cond (eqb status 0) (field_figures env (fields_of bytes)) (no_figures status)
