-- Document 01's input prints its two lines, with the header of document 02's #101, by computing.
use lib.ListN.{replicate}
use mathlib.Core.List.{[], ◌∷◌}
use mathlib.Core.Path.{◌≡◌, refl}
use Rattle.sat.specs.Lit.{neg}
use Rattle.clause_set.specs.Stores.{add_clause}
use Rattle.log_var.specs.Record.{pad}
use Rattle.text.specs.Decimal.{decimal, digits}
use Rattle.dimacs.specs.Dimacs.{clause, clauses, dimacs, header, literal, print_of}
use Rattle.encoder_env.specs.WellFormed.{all_below, bounds_hold, encoding_holds, eqz, is_spare, lez, record_holds, stores_within, well_formed}
use Rattle.job_fields.specs.Fields.{fields, fields_of, right_length, right_place}
use Rattle.job_fields.specs.Numbers.{signed, signed_word, word, word_at}
use Rattle.job_file.specs.Calls.{call_of, switches_in}
use Rattle.job_file.specs.Run.{called, field_outcome, run_fields, run_file}
use Rattle.job_print.specs.Print.{answer_of, file_print}

-- `p cnf 3 1` and `-1 -2 0`, over eight entries of each store
pub file_prints : file_print (1 ∷ 0 ∷ 1 ∷ 0 ∷ 2 ∷ 0 ∷ 4 ∷ 0 ∷ 0 ∷ 0 ∷ 2 ∷ 2 ∷ 0 ∷ 4 ∷ 0 ∷ 0 ∷ 0 ∷ 1 ∷ []) (replicate 8 0) (replicate 8 0)
    ≡ 112 ∷ 32 ∷ 99 ∷ 110 ∷ 102 ∷ 32 ∷ 51 ∷ 32 ∷ 49 ∷ 10 ∷ 45 ∷ 49 ∷ 32 ∷ 45 ∷ 50 ∷ 32 ∷ 48 ∷ 10 ∷ []
unfolding answer_of print_of dimacs header clauses clause literal decimal digits run_file run_fields field_outcome called switches_in call_of right_place right_length fields_of fields word word_at signed signed_word neg add_clause pad well_formed stores_within all_below record_holds is_spare encoding_holds bounds_hold lez eqz
file_prints = refl
