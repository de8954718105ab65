-- An accepted setting call: what it left (`Added`), that its clauses and its record are right (`setting_encodes`), that values and codes
-- convert both ways (`setting_converts`), and that the job stays well formed (`setting_well_formed`).
use mathlib.Core.Path.{◌≡◌, ◌∙◌, ap, refl, subst, sym}
use mathlib.Core.Bool.{Bool, cond, false, true}
use mathlib.Core.List.{List}
use Prim.Native.Nat.{◌+◌, ◌<◌, ℕ}
use native.Mathlib.Omega.{arith}
use lib.Dec.{eqb, ltb}
use lib.ListN.{length}
use lib.Seq.{get_or-set_other, get_or-set_same}
use borrow.Author.Tests.{eqb-false, eqb-true, le-ltb, lt-ltb, ltb-false, ltb-true}
use Rattle.arithmetic.proofs.Bits.{shl_power}
use Rattle.arithmetic.proofs.Offset.{code_value}
use Rattle.sat.specs.Number.{code_of}
use Rattle.clause_set.specs.Stores.{add_clauses, stores}
use Rattle.norm_csp.specs.Domain.{IntVarRepresentation}
use Rattle.log_encoding.specs.EncodeVarLog.{EncodedVar, encode_var_log}
use Rattle.log_encoding.specs.EncodesVar.{EncodesVar}
use Rattle.log_var.specs.Record.{encoding_of, record_of}
use Rattle.log_var.specs.declared.LogEncoding.{LogEncoding as Encoding}
use Rattle.log_var.proofs.Bounds.{recorded}
use Rattle.log_encoding.proofs.EncodeVarLog.{encode_var_log_encodes, value_to_code}
use Rattle.log_var.proofs.Reading.{encoding_back}
use Rattle.encoder_env.specs.declared.EncoderEnv.{EncoderEnv}
use Rattle.encoder_env.specs.WellFormed.{encoding_at, encoding_holds, is_spare, record_holds, well_formed}
use Rattle.encoder_env.proofs.Kept.{all_at}
use Rattle.encoder_env.proofs.Records.{all_true, encoding_more, record_fits}
use Rattle.encoder_var.specs.Settings.{setting_checks, setting_outcome, with_encoding}
use Rattle.encoder_var.specs.Encoded.{Converts, SettingConverts, SettingEncodes, added_var}
use Rattle.encoder_answer.specs.Outcome.{Check, Outcome}
use Rattle.encoder_answer.proofs.Adding.{Accepted, clauses_are, known, still_well_formed}
use Rattle.encoder_var.proofs.Settings.{Admitted, admitted, numbered}

module _ (env : EncoderEnv) (lits ends : List ℕ) (repr : IntVarRepresentation) where
  abbrev out : EncodedVar
  out = encode_var_log repr env.variables

  abbrev job : EncoderEnv
  job = with_encoding env out

  abbrev checks : List Check
  checks = setting_checks env (length lits) (length ends) repr

  -- what an accepted call had, and what it left
  pub record Added : Type 0 where
    pub had : Admitted env (length lits) (length ends) repr
    pub accepted : Accepted checks env lits ends out.clauses job

  pub added : (setting_outcome env lits ends repr).status ≡ 0 → Added
  added h =
      let a = known checks env lits ends out.clauses job (numbered env (length lits) (length ends) repr) h in
      record { had = admitted env (length lits) (length ends) repr a.passed_all; accepted = a }

  module _ (a : Added) (long : length env.encodings ≡ 32) where
    pub encodes : EncodesVar env.variables repr out
    encodes = encode_var_log_encodes env.variables repr a.had.encodable

    converts : Converts repr out
    converts =
        record {
          to_code = λ α z d.
              let c = value_to_code env.variables repr a.had.encodable α z d in
              (omega (arith, c.0, shl_power (length out.encoding.lits)), c.1);
          to_value = λ α h. ((encodes.admits α).0 h, code_value out.encoding.offset (code_of α out.encoding.lits));
        }

    pub new_record : encoding_at job env.count ≡ record_of out.encoding
    new_record = get_or-set_same env.encodings env.count (record_of out.encoding) _ (omega (arith, long, a.had.free))

    pub old_record : (i : ℕ) → (i ≡ env.count → ⊥) → encoding_at job i ≡ encoding_at env i
    old_record i h = get_or-set_other env.encodings env.count i (record_of out.encoding) _ h

    -- the job holds the setting that was encoded, and the stores its clauses
    pub var_is : added_var env (setting_outcome env lits ends repr) ≡ out
    var_is =
        let o = setting_outcome env lits ends repr in
        let back = clauses_are checks env lits ends out.clauses job a.accepted refl in
        let job_is : o.env ≡ job = ap (λ (x : Outcome). x.env) a.accepted.outcome_is in
        λ i. record {
          encoding = (ap (λ (e : EncoderEnv). encoding_of (encoding_at e env.count)) job_is ∙ ap encoding_of new_record ∙ encoding_back out.encoding) i;
          clauses = back i;
          vars = (job_is i).variables;
        }

    -- record i, where t says whether it is in use
    abbrev Test : Bool → Encoding → Type 0
    Test t e = cond t (encoding_holds out.vars e) (is_spare e) ≡ true

    old_still : (i : ℕ) → (i ≡ env.count → ⊥) → (t : Bool) → ltb i env.count ≡ t
        → cond t (encoding_holds env.variables (encoding_at env i)) (is_spare (encoding_at env i)) ≡ true → Test (ltb i (env.count + 1)) (encoding_at env i)
    old_still i n true e k =
        rw (lt-ltb i (env.count + 1) (omega (arith, ltb-true i env.count e)))
        (encoding_more env.variables out.vars (encoding_at env i) encodes.grows k)
    old_still i n false e k = let m = ltb-false i env.count e in rw (le-ltb i (env.count + 1) (omega arith)) k

    record_still : (i : ℕ) → i < 32 → record_holds job i ≡ true
    unfolding record_holds
    record_still i h = go (eqb i env.count) refl
      where
        go : (t : Bool) → eqb i env.count ≡ t → Test (ltb i (env.count + 1)) (encoding_at job i)
        go true e =
            let k = eqb-true i env.count e in
            rw (k, new_record, lt-ltb env.count (env.count + 1) (omega arith))
            (record_fits out.vars out.encoding (recorded env.variables repr a.had.encodable a.had.low) encodes.lits_below)
        go false e =
            let n = eqb-false i env.count e in
            subst (Test (ltb i (env.count + 1))) (sym (old_record i n))
            (old_still i n (ltb i env.count) refl (all_at (record_holds env) 32 i a.had.holds.records h))

    pub setting_well_formed : (let after = add_clauses 0 out.clauses (stores lits ends env.literals env.clauses) in
        well_formed job (length after.lits) (length after.ends) ≡ true)
    setting_well_formed =
        still_well_formed checks env lits ends out.clauses job a.accepted refl a.had.holds refl encodes.grows refl
        (omega (arith, a.had.free)) (all_true (record_holds job) 32 record_still)

pub setting_encodes : SettingEncodes
setting_encodes env lits ends repr long h =
    let a = added env lits ends repr h in
    subst (EncodesVar env.variables repr) (sym (var_is env lits ends repr a long)) (encodes env lits ends repr a long)

pub setting_converts : SettingConverts
setting_converts env lits ends repr long h =
    let a = added env lits ends repr h in
    subst (Converts repr) (sym (var_is env lits ends repr a long)) (converts env lits ends repr a long)
