-- What the leaf functions of a rule ask of a setting's record and of the set.
use mathlib.Core.Path.{◌≡◌, ap, refl}
use mathlib.Core.Bool.{Bool, ◌&&◌, cond, false, true}
use Prim.Native.Nat.{◌+◌, ◌^◌, ◌<◌, ◌≤◌, ℕ}
use native.Mathlib.Omega.{arith}
use lib.Dec.{eqb, ltb}
use lib.IntN.{pos}
use borrow.Author.Tests.{eqb-true, ltb-true}
use Rattle.arithmetic.specs.Integers.{down, up}
use Rattle.clause_set.specs.declared.ClauseSet.{ClauseSet}
use Rattle.clause_set.specs.declared.Counts.{Counts}
use Rattle.clause_set.specs.Stores.{Below}
use Rattle.encoder_answer.specs.Call.{JobSet}
use Rattle.log_var.specs.Settings.{SettingReady}
use Rattle.log_var.specs.declared.LogEncoding.{LogEncoding}
use Rattle.encoder_env.specs.declared.EncoderEnv.{EncoderEnv}
use Rattle.encoder_env.specs.WellFormed.{encoding_at, encoding_holds, eqz, is_spare, lits_fit, record_holds}
use Rattle.encoder_env.proofs.Kept.{Kept, all_at, in_use}
use Rattle.encoder_env.proofs.Records.{lit_known}
use Rattle.encoder_env.proofs.Tests.{both_l, both_r, eqz_true}

-- a record of a well-formed job, in use or spare
pub setting_ready : (env : EncoderEnv) (lits ends : ℕ) → Kept env lits ends → (i : ℕ) → i < 32 → SettingReady (encoding_at env i)
unfolding record_holds is_spare
setting_ready env lits ends k i h = go (ltb i env.count) refl (all_at (record_holds env) 32 i k.records h)
  where
    e : LogEncoding
    e = encoding_at env i

    spare : is_spare (encoding_at env i) ≡ true → SettingReady (encoding_at env i)
    spare s =
        let a = both_l (eqz e.low (pos 0) && eqz e.high (pos 0) && eqz e.offset (pos 0) && eqb e.len 0) (lits_fit 0 0 e.lits) s in
        let o = eqz_true e.offset (pos 0) (both_r (eqz e.low (pos 0) && eqz e.high (pos 0)) (eqz e.offset (pos 0)) (both_l (eqz e.low (pos 0) && eqz e.high (pos 0) && eqz e.offset (pos 0)) (eqb e.len 0) a)) in
        let n = eqb-true e.len 0 (both_r (eqz e.low (pos 0) && eqz e.high (pos 0) && eqz e.offset (pos 0)) (eqb e.len 0) a) in
        let u = ap up o in
        let d = ap down o in
        record { len = omega arith; offset_up = omega arith; offset_down = omega arith; small = λ j l. absurd (omega (arith, n)) }

    go : (t : Bool) → ltb i env.count ≡ t → cond t (encoding_holds env.variables (encoding_at env i)) (is_spare (encoding_at env i)) ≡ true → SettingReady (encoding_at env i)
    go true u s =
        let in_count = ltb-true i env.count u in
        let r = in_use env lits ends i k in_count in
        record {
          len = r.len_max;
          offset_up = omega (arith, r.offset_up);
          offset_down = r.offset_down;
          small = λ j l. omega (arith, lit_known env lits ends i k in_count j l, k.variables_max);
        }
    go false u s = spare s

-- a set of a well-formed job's stores has room for what they add
pub set_ready : (env : EncoderEnv) (lits ends : ℕ) → Kept env lits ends → {s : ClauseSet} → JobSet env s → (s.vars ≤ 65535) × Below (2 ^ 24 + 1) s
set_ready env lits ends k j = (
  omega (arith, j.vars, k.variables_max),
  (omega (arith, j.base, ap (λ (a : Counts). a.lits) j.used, k.literals_in, k.lits_max), omega (arith, ap (λ (a : Counts). a.clauses) j.used, k.clauses_in, k.ends_max)),
)
