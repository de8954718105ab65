-- No call changes the length of a store (`open_long`, `run_long`).
use Prim.Native.Nat.{ℕ}
use lib.Dec.{eqb}
use lib.ListN.{length, length-set}
use mathlib.Core.Bool.{Bool, cond, false, true}
use mathlib.Core.List.{List, [], ◌∷◌}
use mathlib.Core.Path.{◌∙◌, ◌≡◌, refl}
use Rattle.sat.specs.Clause.{Clauses}
use Rattle.clause_set.specs.Stores.{stores}
use Rattle.clause_set.proofs.ReadBack.{kept_long}
use Rattle.norm_csp.specs.Domain.{IntVarRepresentation, binary, list, range}
use Rattle.log_encoding.specs.EncodeVarLog.{encode_var_log}
use Rattle.encoder_env.specs.declared.EncoderEnv.{EncoderEnv}
use Rattle.encoder_answer.specs.Adding.{added, adding, adding_status, grown}
use Rattle.encoder_answer.specs.Outcome.{Check, Outcome, refused, settled, status_of}
use Rattle.encoder_linear.specs.Sums.{linear_checks, sum_encoded}
use Rattle.encoder_mul.specs.Products.{mul_checks, product_encoded}
use Rattle.encoder_read.specs.Calls.{clause_checks, clause_read, open_checks, open_outcome, opened, read_checks, value_read}
use Rattle.encoder_var.specs.Settings.{setting_checks, setting_outcome, with_encoding}
use Rattle.encoder.specs.Run.{Call, State, clause, encode_binary, encode_linear, encode_list, encode_mul, encode_range, get_int_value, left, outcome, run}

module _ (env : EncoderEnv) (lits ends : List ℕ) where
  -- stores as long as these
  abbrev Long : Outcome → Type 0
  Long o = (length o.lits ≡ length lits) × (length o.ends ≡ length ends)

  settled_long : (status : ℕ) (ok : Outcome) → Long ok → Long (settled status env lits ends ok)
  settled_long status ok h = go (eqb status 0)
    where
      go : (t : Bool) → Long (cond t ok (refused status env lits ends))
      go true = h
      go false = (refl, refl)

  adding_long : (checks : List Check) (clauses : Clauses) (job : EncoderEnv) → Long (adding checks env lits ends clauses job)
  adding_long checks clauses job =
      settled_long (adding_status checks env (length lits) (length ends) job.variables clauses) (added env lits ends clauses job)
      (kept_long clauses (stores lits ends env.literals env.clauses))

pub open_long : (switches : ℕ) (lits ends : List ℕ)
    → (let o = open_outcome switches lits ends in (length o.lits ≡ length lits) × (length o.ends ≡ length ends))
open_long switches lits ends =
    settled_long (opened 0) lits ends (status_of (open_checks switches (length lits) (length ends))) _ (refl, length-set ends 0 0)

setting_long : (s : State) (repr : IntVarRepresentation) → Long s.env s.lits s.ends (setting_outcome s.env s.lits s.ends repr)
setting_long s repr =
    let out = encode_var_log repr s.env.variables in
    adding_long s.env s.lits s.ends (setting_checks s.env (length s.lits) (length s.ends) repr) out.clauses (with_encoding s.env out)

call_long : (s : State) (c : Call) → Long s.env s.lits s.ends (outcome s c)
call_long s (encode_range low high) = setting_long s (range low high)
call_long s (encode_list ks) = setting_long s (list ks)
call_long s (encode_binary c f t) = setting_long s (binary c f t)
call_long s (encode_linear op constant terms) =
    let out = sum_encoded s.env op constant terms in
    adding_long s.env s.lits s.ends (linear_checks s.env (length s.lits) (length s.ends) op constant terms) out.clauses (grown s.env out.vars out.clauses)
call_long s (encode_mul x y m) =
    let out = product_encoded s.env x y m in
    adding_long s.env s.lits s.ends (mul_checks s.env (length s.lits) (length s.ends) x y m) out.clauses (grown s.env out.vars out.clauses)
call_long s (get_int_value x bytes) =
    settled_long s.env s.lits s.ends (status_of (read_checks s.env s.lits s.ends x bytes)) (value_read s.env s.lits s.ends x bytes) (refl, refl)
call_long s (clause k) =
    settled_long s.env s.lits s.ends (status_of (clause_checks s.env (length s.lits) s.ends k)) (clause_read s.env s.lits s.ends k) (refl, refl)

pub run_long : (s : State) (calls : List Call) → (length (run s calls).lits ≡ length s.lits) × (length (run s calls).ends ≡ length s.ends)
run_long s [] = (refl, refl)
run_long s (c ∷ calls) =
    let first = call_long s c in
    let rest = run_long (left (outcome s c)) calls in
    (rest.0 ∙ first.0, rest.1 ∙ first.1)
