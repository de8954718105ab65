-- An accepted setting call keeps the invariant (`setting_kept`).
use Prim.Native.Nat.{◌<◌, ℕ}
use lib.Dec.{eqb}
use lib.IntN.{ℤ}
use lib.ListN.{length, length-set}
use mathlib.Core.Bool.{Bool, So, false, true}
use mathlib.Core.List.{◌++◌}
use mathlib.Core.Path.{◌∙◌, ◌≡◌, ap, refl, subst, sym}
use native.Mathlib.Omega.{arith}
use borrow.Author.Tests.{eqb-false, eqb-true}
use Rattle.sat.specs.Clause.{Assignment, Clauses, sat}
use Rattle.sat.specs.Encodes.{Agree}
use Rattle.sat.proofs.Clauses.{sat_both}
use Rattle.sat.proofs.Extend.{agree_less, agree_trans, clauses_below_append, clauses_below_more, sat_agree}
use Rattle.norm_csp.specs.Domain.{IntVarRepresentation, IsValue}
use Rattle.norm_csp.specs.NormCsp.{NormCsp, Satisfied, add_var}
use Rattle.norm_csp.proofs.NormCsp.{KnownVar, known_more, one_less, one_more, satisfied_agree, value_agree, vars_more}
use Rattle.log_encoding.specs.EncodeVarLog.{EncodedVar, encode_var_log}
use Rattle.log_encoding.specs.EncodesVar.{EncodesVar}
use Rattle.log_encoding.specs.LogEncoding.{get_int_value}
use Rattle.log_var.specs.Record.{encoding_of, record_of}
use Rattle.log_var.specs.declared.LogEncoding.{LogEncoding as Encoding}
use Rattle.log_var.proofs.Reading.{encoding_back}
use Rattle.encoder_answer.specs.Encoded.{number}
use Rattle.encoder_var.specs.Settings.{setting_outcome, with_encoding}
use Rattle.encoder_answer.specs.Outcome.{Outcome}
use Rattle.encoder_var.proofs.Added.{Added, added, encodes, new_record, old_record, setting_well_formed}
use Rattle.encoder.specs.Run.{State, left}
use Rattle.encoder.proofs.Invariant.{Invariant, after_adding, more_written, number_agree}

module _ (s : State) (b : NormCsp) (cs : Clauses) (inv : Invariant s b cs) (repr : IntVarRepresentation) (a : Added s.env s.lits s.ends repr) where
  abbrev v : ℕ
  v = s.env.variables

  abbrev n : ℕ
  n = length b.vars

  abbrev out : EncodedVar
  out = encode_var_log repr v

  abbrev ds : Clauses
  ds = out.clauses

  abbrev next : State
  next = after_adding s ds (with_encoding s.env out)

  says : EncodesVar v repr out
  says = encodes s.env s.lits s.ends repr a inv.long

  -- the numbers read ---------------------------------------------------------------------------------------------------

  old_number : (α : Assignment) (x : ℕ) → x < n → number s.env α x ≡ number next.env α x
  old_number α x h =
      ap (λ (e : Encoding). get_int_value α (encoding_of e)) (sym (old_record s.env s.lits s.ends repr a inv.long x (λ e. omega (arith, inv.count))))

  new_number : (α : Assignment) → get_int_value α out.encoding ≡ number next.env α n
  new_number α =
      sym (ap (λ (x : ℕ). number next.env α x) (sym inv.count)
      ∙ ap (λ (e : Encoding). get_int_value α (encoding_of e)) (new_record s.env s.lits s.ends repr a inv.long)
      ∙ ap (get_int_value α) (encoding_back out.encoding))

  known : KnownVar b.switches repr
  known = subst (λ (m : ℕ). KnownVar m repr) inv.switches a.had.known

  -- switches are among the variables
  on_switches : (α β : Assignment) → Agree v α β → Agree b.switches α β
  on_switches α β h = agree_less b.switches v α β (omega (arith, inv.switches, a.had.holds.switches_in)) h

  -- what the clauses say -----------------------------------------------------------------------------------------------

  sound_more : (α : Assignment) → So (sat α (cs ++ ds)) → Satisfied (add_var repr b) α (number next.env α)
  sound_more α h =
      let k = (sat_both α cs ds).0 h in
      one_more b repr α (number next.env α)
      (satisfied_agree b α α (number s.env α) (number next.env α) inv.known (λ x _. refl) (old_number α) (inv.sound α k.0))
      (subst (IsValue α repr) (new_number α) ((says.admits α).0 k.1))

  complete_more : (α : Assignment) (f : ℕ → ℤ) → Satisfied (add_var repr b) α f
      → (γ : Assignment) × Agree b.switches α γ × So (sat γ (cs ++ ds)) × ((x : ℕ) → x < length (add_var repr b).vars → number next.env γ x ≡ f x)
  complete_more α f h =
      let (old, new) = one_less b repr α f h in
      let (β, same, k, numbers) = inv.complete α f old in
      let new-β = value_agree b.switches α β repr (f n) known same new in
      let (γ, agree, e) = says.complete β (f n) new-β in
      let new-γ = value_agree b.switches β γ repr (f n) known (on_switches β γ agree) new-β in
      let here = (says.admits γ).1 (subst (IsValue γ repr) (sym e) new-γ) in
      let there : So (sat γ cs) = subst So (sat_agree v β γ agree cs inv.below) k in (
        γ,
        agree_trans b.switches α β γ same (on_switches β γ agree),
        (sat_both γ cs ds).1 (there, here),
        λ x lt. read β γ agree e numbers x lt (eqb x n) refl,
      )
    where
      read : (β γ : Assignment) → Agree v β γ → get_int_value γ out.encoding ≡ f n → ((x : ℕ) → x < n → number s.env β x ≡ f x)
          → (x : ℕ) → x < length (add_var repr b).vars → (t : Bool) → eqb x n ≡ t → number next.env γ x ≡ f x
      read β γ agree e numbers x lt true t = let i = eqb-true x n t in rw i (sym (new_number γ) ∙ e)
      read β γ agree e numbers x lt false t =
          let i = eqb-false x n t in
          let under : x < n = omega (arith, vars_more b repr) in
          sym (old_number γ x under) ∙ sym (number_agree s b cs inv β γ agree x under) ∙ numbers x under

  unique_more : (α β : Assignment) → So (sat α (cs ++ ds)) → So (sat β (cs ++ ds)) → Agree b.switches α β
      → ((x : ℕ) → x < length (add_var repr b).vars → number next.env α x ≡ number next.env β x) → Agree out.vars α β
  unique_more α β h k same numbers =
      let agree = inv.unique α β ((sat_both α cs ds).0 h).0 ((sat_both β cs ds).0 k).0 same (λ x lt. old_number α x lt ∙ numbers x (omega (arith, vars_more b repr)) ∙ sym (old_number β x lt)) in
      says.unique α β agree (new_number α ∙ numbers n (omega (arith, vars_more b repr)) ∙ sym (new_number β))

  next_invariant : Invariant next (add_var repr b) (cs ++ ds)
  next_invariant =
      let stored = more_written s b cs inv _ ds (with_encoding s.env out) a.accepted refl refl in
      record {
        held = stored.0;
        counted = stored.2;
        ends_sound = stored.1;
        well = setting_well_formed s.env s.lits s.ends repr a inv.long;
        long = length-set s.env.encodings s.env.count (record_of out.encoding) ∙ inv.long;
        below = clauses_below_append out.vars cs ds (clauses_below_more v out.vars cs says.grows inv.below) says.below;
        switches = inv.switches;
        count = omega (arith, inv.count, vars_more b repr);
        known = known_more b repr inv.known known;
        sound = sound_more;
        complete = complete_more;
        unique = unique_more;
      }

pub setting_kept : (s : State) (b : NormCsp) (cs : Clauses) → Invariant s b cs → (repr : IntVarRepresentation)
    → (let o = setting_outcome s.env s.lits s.ends repr in o.status ≡ 0 → (ds : Clauses) × Invariant (left o) (add_var repr b) ds)
setting_kept s b cs inv repr h =
    let a = added s.env s.lits s.ends repr h in
    let ds = cs ++ (encode_var_log repr s.env.variables).clauses in
    (ds, subst (λ (o : Outcome). Invariant (left o) (add_var repr b) ds) (sym a.accepted.outcome_is) (next_invariant s b cs inv repr a))
