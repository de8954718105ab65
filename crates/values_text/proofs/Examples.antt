-- Texts computed, of a job with two settings and two switches: under an assignment, and under one that is too short.
use lib.IntN.{negsuc, pos}
use lib.ListN.{replicate}
use mathlib.Core.List.{[], ◌∷◌}
use mathlib.Core.Path.{◌≡◌, refl}
use Rattle.clause_set.specs.Bytes.{lit_holds}
use Rattle.log_var.specs.Record.{pad, record_of}
use Rattle.encoder_env.specs.declared.EncoderEnv.{EncoderEnv}
use Rattle.encoder_env.specs.WellFormed.{all_below, bounds_hold, encoding_holds, eqz, is_spare, lez, record_holds, stores_within, well_formed}
use Rattle.encoder_clauses.specs.Readable.{clauses_readable, readable}
use Rattle.encoder_read.specs.Calls.{spare}
use Rattle.text.specs.Decimal.{decimal, digits, integer}
use Rattle.values_text.specs.Values.{lines_from, setting_line, settings_from, switch_line, switches_from, values_text}

-- setting 0 is from −3 to 4 by variables 2 to 4, setting 1 from 0 to 3 by variables 5 and 6; the clauses do not matter
abbrev job : EncoderEnv
job =
    record {
      switches = 2;
      variables = 7;
      clauses = 0;
      literals = 0;
      count = 2;
      encodings =
          record_of (record { lits = 4 ∷ 6 ∷ 8 ∷ []; low = negsuc 2; high = pos 4; offset = negsuc 2 })
          ∷ record_of (record { lits = 10 ∷ 12 ∷ []; low = pos 0; high = pos 3; offset = pos 0 })
          ∷ replicate 30 spare;
    }

-- `setting 0 -3`, `setting 1 2`, `switch 0 yes`, `switch 1 no`
pub assigned : values_text job [] (0 ∷ []) (1 ∷ 0 ∷ 0 ∷ 0 ∷ 0 ∷ 0 ∷ 1 ∷ [])
    ≡ 115 ∷ 101 ∷ 116 ∷ 116 ∷ 105 ∷ 110 ∷ 103 ∷ 32 ∷ 48 ∷ 32 ∷ 45 ∷ 51 ∷ 10
    ∷ 115 ∷ 101 ∷ 116 ∷ 116 ∷ 105 ∷ 110 ∷ 103 ∷ 32 ∷ 49 ∷ 32 ∷ 50 ∷ 10
    ∷ 115 ∷ 119 ∷ 105 ∷ 116 ∷ 99 ∷ 104 ∷ 32 ∷ 48 ∷ 32 ∷ 121 ∷ 101 ∷ 115 ∷ 10
    ∷ 115 ∷ 119 ∷ 105 ∷ 116 ∷ 99 ∷ 104 ∷ 32 ∷ 49 ∷ 32 ∷ 110 ∷ 111 ∷ 10 ∷ []
unfolding values_text settings_from switches_from lines_from setting_line switch_line decimal digits integer lit_holds readable clauses_readable well_formed stores_within all_below record_holds is_spare encoding_holds bounds_hold lez eqz pad
assigned = refl

-- each reading is refused: `setting 0 0`, `setting 1 0`, `switch 0 yes`, `switch 1 no`
pub too_short : values_text job [] (0 ∷ []) (1 ∷ [])
    ≡ 115 ∷ 101 ∷ 116 ∷ 116 ∷ 105 ∷ 110 ∷ 103 ∷ 32 ∷ 48 ∷ 32 ∷ 48 ∷ 10
    ∷ 115 ∷ 101 ∷ 116 ∷ 116 ∷ 105 ∷ 110 ∷ 103 ∷ 32 ∷ 49 ∷ 32 ∷ 48 ∷ 10
    ∷ 115 ∷ 119 ∷ 105 ∷ 116 ∷ 99 ∷ 104 ∷ 32 ∷ 48 ∷ 32 ∷ 121 ∷ 101 ∷ 115 ∷ 10
    ∷ 115 ∷ 119 ∷ 105 ∷ 116 ∷ 99 ∷ 104 ∷ 32 ∷ 49 ∷ 32 ∷ 110 ∷ 111 ∷ 10 ∷ []
unfolding values_text settings_from switches_from lines_from setting_line switch_line decimal digits integer lit_holds readable clauses_readable well_formed stores_within all_below record_holds is_spare encoding_holds bounds_hold lez eqz pad
too_short = refl
