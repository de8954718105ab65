-- Texts computed, over eight entries of each store: values, `none`, and refusals of the answer and of the file.
use Prim.Native.Nat.{ℕ}
use lib.ListN.{replicate}
use mathlib.Core.List.{List, [], ◌∷◌, map}
use mathlib.Core.Path.{◌≡◌, refl}
use Rattle.sat.specs.Lit.{neg}
use Rattle.clause_set.specs.Bytes.{lit_holds}
use Rattle.clause_set.specs.Stores.{add_clause}
use Rattle.log_var.specs.Record.{pad}
use Rattle.lines.specs.Integers.{all_digits}
use Rattle.lines.specs.Reading.{split}
use Rattle.text.specs.Decimal.{decimal, digits, digits_value, integer}
use Rattle.dimacs.specs.Dimacs.{refused}
use Rattle.encoder_env.specs.WellFormed.{all_below, bounds_hold, encoding_holds, eqz, is_spare, lez, record_holds, stores_within, well_formed}
use Rattle.encoder_clauses.specs.Readable.{clauses_readable, readable as job-readable}
use Rattle.encoder_solution.specs.Answers.{read_answer}
use Rattle.job_fields.specs.Fields.{fields, fields_of, right_length, right_place}
use Rattle.job_fields.specs.Numbers.{signed, signed_word, word, word_at}
use Rattle.job_file.specs.Calls.{call_of, switches_in}
use Rattle.job_file.specs.Run.{called, field_outcome, run_fields, run_file}
use Rattle.solver_answer.specs.Answer.{assignment, by_verdict, bytes_from, each_given, each_once, ended, is_true, kinds_solution, known, numbers, readable, satisfiable, says_satisfiable, solution, some_values, times, values_first, verdicts, whole}
use Rattle.solver_answer.specs.Lines.{all_numbers, by_word, is_number, is_positive, kind, kinds, kinds_of, number, numbers_in, same, values_line}
use Rattle.values_text.specs.Values.{lines_from, setting_line, settings_from, switch_line, switches_from, values_text}
use Rattle.job_values.specs.Values.{by_answer, by_test, file_values, run_values}

-- a file, an answer to it and the text
pub record Row : Type 0 where
  pub file : List ℕ
  pub answer : List ℕ
  pub text : List ℕ

abbrev pub row_of : Row → Row
row_of r = record { file = r.file; answer = r.answer; text = file_values r.file (replicate 8 0) (replicate 8 0) r.answer }

-- document 01's input: settings 0..2 and 0..1
abbrev pub two_settings : List ℕ
two_settings = 1 ∷ 0 ∷ 1 ∷ 0 ∷ 2 ∷ 0 ∷ 4 ∷ 0 ∷ 0 ∷ 0 ∷ 2 ∷ 2 ∷ 0 ∷ 4 ∷ 0 ∷ 0 ∷ 0 ∷ 1 ∷ []

abbrev pub two_switches : List ℕ
two_switches = 1 ∷ 0 ∷ 1 ∷ 2 ∷ []

abbrev pub rows : List Row
rows =
    -- `s SATISFIABLE` and `v -1 2 3 0`: `setting 0 2` and `setting 1 1`
    record {
      file = two_settings;
      answer = 115 ∷ 32 ∷ 83 ∷ 65 ∷ 84 ∷ 73 ∷ 83 ∷ 70 ∷ 73 ∷ 65 ∷ 66 ∷ 76 ∷ 69 ∷ 10 ∷ 118 ∷ 32 ∷ 45 ∷ 49 ∷ 32 ∷ 50 ∷ 32 ∷ 51 ∷ 32 ∷ 48 ∷ 10 ∷ [];
      text = 115 ∷ 101 ∷ 116 ∷ 116 ∷ 105 ∷ 110 ∷ 103 ∷ 32 ∷ 48 ∷ 32 ∷ 50 ∷ 10 ∷ 115 ∷ 101 ∷ 116 ∷ 116 ∷ 105 ∷ 110 ∷ 103 ∷ 32 ∷ 49 ∷ 32 ∷ 49 ∷ 10 ∷ [];
    }
    -- `s UNSATISFIABLE`: `none`
    ∷ record {
      file = two_settings;
      answer = 115 ∷ 32 ∷ 85 ∷ 78 ∷ 83 ∷ 65 ∷ 84 ∷ 73 ∷ 83 ∷ 70 ∷ 73 ∷ 65 ∷ 66 ∷ 76 ∷ 69 ∷ 10 ∷ [];
      text = 110 ∷ 111 ∷ 110 ∷ 101 ∷ 10 ∷ [];
    }
    -- `s SATISFIABLE` without numbers: `refused 3 19`, since the file has three fields
    ∷ record {
      file = two_settings;
      answer = 115 ∷ 32 ∷ 83 ∷ 65 ∷ 84 ∷ 73 ∷ 83 ∷ 70 ∷ 73 ∷ 65 ∷ 66 ∷ 76 ∷ 69 ∷ 10 ∷ [];
      text = 114 ∷ 101 ∷ 102 ∷ 117 ∷ 115 ∷ 101 ∷ 100 ∷ 32 ∷ 51 ∷ 32 ∷ 49 ∷ 57 ∷ 10 ∷ [];
    }
    -- variable 3 missing: `refused 3 20`
    ∷ record {
      file = two_settings;
      answer = 115 ∷ 32 ∷ 83 ∷ 65 ∷ 84 ∷ 73 ∷ 83 ∷ 70 ∷ 73 ∷ 65 ∷ 66 ∷ 76 ∷ 69 ∷ 10 ∷ 118 ∷ 32 ∷ 45 ∷ 49 ∷ 32 ∷ 50 ∷ 32 ∷ 48 ∷ 10 ∷ [];
      text = 114 ∷ 101 ∷ 102 ∷ 117 ∷ 115 ∷ 101 ∷ 100 ∷ 32 ∷ 51 ∷ 32 ∷ 50 ∷ 48 ∷ 10 ∷ [];
    }
    -- `v 1 2 3 0` leaves the clause of 0..2 unsatisfied: `refused 3 21`
    ∷ record {
      file = two_settings;
      answer = 115 ∷ 32 ∷ 83 ∷ 65 ∷ 84 ∷ 73 ∷ 83 ∷ 70 ∷ 73 ∷ 65 ∷ 66 ∷ 76 ∷ 69 ∷ 10 ∷ 118 ∷ 32 ∷ 49 ∷ 32 ∷ 50 ∷ 32 ∷ 51 ∷ 32 ∷ 48 ∷ 10 ∷ [];
      text = 114 ∷ 101 ∷ 102 ∷ 117 ∷ 115 ∷ 101 ∷ 100 ∷ 32 ∷ 51 ∷ 32 ∷ 50 ∷ 49 ∷ 10 ∷ [];
    }
    -- an empty file is refused itself, whatever the answer: `refused 0 18`
    ∷ record {
      file = [];
      answer = 115 ∷ 32 ∷ 85 ∷ 78 ∷ 83 ∷ 65 ∷ 84 ∷ 73 ∷ 83 ∷ 70 ∷ 73 ∷ 65 ∷ 66 ∷ 76 ∷ 69 ∷ 10 ∷ [];
      text = 114 ∷ 101 ∷ 102 ∷ 117 ∷ 115 ∷ 101 ∷ 100 ∷ 32 ∷ 48 ∷ 32 ∷ 49 ∷ 56 ∷ 10 ∷ [];
    }
    -- two switches: `switch 0 no` and `switch 1 yes`
    ∷ record {
      file = two_switches;
      answer = 115 ∷ 32 ∷ 83 ∷ 65 ∷ 84 ∷ 73 ∷ 83 ∷ 70 ∷ 73 ∷ 65 ∷ 66 ∷ 76 ∷ 69 ∷ 10 ∷ 118 ∷ 32 ∷ 50 ∷ 32 ∷ 45 ∷ 49 ∷ 32 ∷ 48 ∷ 10 ∷ [];
      text = 115 ∷ 119 ∷ 105 ∷ 116 ∷ 99 ∷ 104 ∷ 32 ∷ 48 ∷ 32 ∷ 110 ∷ 111 ∷ 10 ∷ 115 ∷ 119 ∷ 105 ∷ 116 ∷ 99 ∷ 104 ∷ 32 ∷ 49 ∷ 32 ∷ 121 ∷ 101 ∷ 115 ∷ 10 ∷ [];
    }
    ∷ []

pub rows_hold : map row_of rows ≡ rows
unfolding run_values by_answer by_test job-readable clauses_readable values_text settings_from switches_from lines_from setting_line switch_line integer decimal digits digits_value refused lit_holds read_answer solution kinds_solution whole readable by_verdict verdicts satisfiable says_satisfiable values_first some_values ended numbers each_given known each_once times assignment bytes_from is_true kinds_of kinds kind by_word values_line all_numbers numbers_in is_number is_positive number same all_digits split run_file run_fields field_outcome called switches_in call_of right_place right_length fields_of fields word word_at signed signed_word neg add_clause pad well_formed stores_within all_below record_holds is_spare encoding_holds bounds_hold lez eqz
rows_hold = refl
