-- Job files run by computing, and the calls of fields.
use Prim.Native.Nat.{ℕ}
use lib.IntN.{negsuc, pos}
use lib.ListN.{replicate}
use mathlib.Core.List.{List, [], ◌∷◌, map}
use mathlib.Core.Path.{◌≡◌, refl}
use Rattle.sat.specs.Clause.{Clauses}
use Rattle.sat.specs.Lit.{neg}
use Rattle.clause_set.specs.Stores.{add_clause}
use Rattle.log_var.specs.Record.{pad}
use Rattle.encoder_env.specs.WellFormed.{all_below, bounds_hold, encoding_holds, eqz, is_spare, lez, record_holds, stores_within, well_formed}
use Rattle.encoder.specs.Run.{encode_binary, encode_linear, encode_list, encode_mul, encode_range}
use Rattle.encoder.specs.Faithful.{written}
use Rattle.job_fields.specs.Numbers.{long_at, signed, signed_long, signed_word, terms, values, word, word_at}
use Rattle.job_fields.specs.Fields.{fields, fields_of, right_length, right_place}
use Rattle.job_file.specs.Calls.{call_of, switches_in}
use Rattle.job_file.specs.Run.{called, field_outcome, run_fields, run_file}
use Rattle.job_file.specs.Accepted.{calls_of, left_by, switches_of}

-- a file, the field and the number that its run ends with, and the clauses written by then
pub record Row : Type 0 where
  pub bytes : List ℕ
  pub field : ℕ
  pub status : ℕ
  pub clauses : Clauses

-- what the run gives, in eight entries of each store, all 0
abbrev pub row_of : List ℕ → Row
row_of s =
    let r = run_file s (replicate 8 0) (replicate 8 0) in
    record { bytes = s; field = r.field; status = r.status; clauses = written (left_by r) }

abbrev pub rows : List Row
rows =
    -- document 01's input
    record {
      bytes = 1 ∷ 0 ∷ 1 ∷ 0 ∷ 2 ∷ 0 ∷ 4 ∷ 0 ∷ 0 ∷ 0 ∷ 2 ∷ 2 ∷ 0 ∷ 4 ∷ 0 ∷ 0 ∷ 0 ∷ 1 ∷ [];
      field = 3;
      status = 0;
      clauses = (1 ∷ 3 ∷ []) ∷ [];
    }
    -- empty input; tag 01 missing; tag 01 again
    ∷ record { bytes = []; field = 0; status = 18; clauses = [] }
    ∷ record { bytes = 2 ∷ 0 ∷ 4 ∷ 0 ∷ 0 ∷ 0 ∷ 2 ∷ []; field = 0; status = 18; clauses = [] }
    ∷ record { bytes = 1 ∷ 0 ∷ 1 ∷ 0 ∷ 1 ∷ 0 ∷ 1 ∷ 0 ∷ []; field = 1; status = 18; clauses = [] }
    -- contents cut off; a head cut off; an odd length of values; an unknown tag
    ∷ record { bytes = 1 ∷ 0 ∷ 1 ∷ []; field = 0; status = 18; clauses = [] }
    ∷ record { bytes = 1 ∷ 0 ∷ 1 ∷ 0 ∷ 2 ∷ 0 ∷ []; field = 1; status = 18; clauses = [] }
    ∷ record { bytes = 1 ∷ 0 ∷ 1 ∷ 0 ∷ 3 ∷ 0 ∷ 1 ∷ 7 ∷ []; field = 1; status = 18; clauses = [] }
    ∷ record { bytes = 1 ∷ 0 ∷ 1 ∷ 0 ∷ 7 ∷ 0 ∷ 0 ∷ []; field = 1; status = 18; clauses = [] }
    -- 65 switches; no values; low above high, after a range that writes a clause
    ∷ record { bytes = 1 ∷ 0 ∷ 1 ∷ 65 ∷ []; field = 0; status = 2; clauses = [] }
    ∷ record { bytes = 1 ∷ 0 ∷ 1 ∷ 0 ∷ 3 ∷ 0 ∷ 0 ∷ []; field = 1; status = 4; clauses = [] }
    ∷ record {
      bytes = 1 ∷ 0 ∷ 1 ∷ 0 ∷ 2 ∷ 0 ∷ 4 ∷ 0 ∷ 0 ∷ 0 ∷ 2 ∷ 2 ∷ 0 ∷ 4 ∷ 0 ∷ 1 ∷ 0 ∷ 0 ∷ [];
      field = 2;
      status = 3;
      clauses = (1 ∷ 3 ∷ []) ∷ [];
    }
    ∷ []

pub rows_hold : map (λ (r : Row). row_of r.bytes) rows ≡ rows
unfolding run_file run_fields field_outcome called switches_in call_of right_place right_length fields_of fields values word word_at signed signed_word neg add_clause pad well_formed stores_within all_below record_holds is_spare encoding_holds bounds_hold lez eqz
rows_hold = refl

-- one field of each tag
abbrev pub each_tag : List ℕ
each_tag =
    1 ∷ 0 ∷ 1 ∷ 64
    ∷ 2 ∷ 0 ∷ 4 ∷ 255 ∷ 253 ∷ 0 ∷ 255
    ∷ 3 ∷ 0 ∷ 4 ∷ 128 ∷ 0 ∷ 127 ∷ 255
    ∷ 4 ∷ 0 ∷ 6 ∷ 255 ∷ 255 ∷ 255 ∷ 255 ∷ 1 ∷ 2
    ∷ 5 ∷ 0 ∷ 11 ∷ 2 ∷ 255 ∷ 255 ∷ 255 ∷ 254 ∷ 0 ∷ 0 ∷ 1 ∷ 200 ∷ 255 ∷ 1
    ∷ 6 ∷ 0 ∷ 3 ∷ 0 ∷ 1 ∷ 255
    ∷ []

pub each_tag_opens : switches_of each_tag ≡ 64
unfolding fields_of fields switches_in word
each_tag_opens = refl

pub each_tag_calls : calls_of each_tag
    ≡ encode_range (negsuc 2) (pos 255)
    ∷ encode_list (negsuc 32767 ∷ pos 32767 ∷ [])
    ∷ encode_binary 65535 (negsuc 0) (pos 258)
    ∷ encode_linear 2 (negsuc 1) (pos 0 ∷ pos 1 ∷ pos 200 ∷ negsuc 254 ∷ [])
    ∷ encode_mul 0 1 255
    ∷ []
unfolding fields_of fields call_of word word_at long_at signed signed_word signed_long values terms
each_tag_calls = refl
