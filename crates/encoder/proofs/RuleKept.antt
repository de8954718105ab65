-- An accepted rule keeps the invariant (`sum_kept`, `product_kept`): its clauses say exactly that it holds of the numbers read.
use Prim.Native.Nat.{◌<◌, ℕ}
use lib.IntN.{ℤ}
use lib.ListN.{length}
use mathlib.Core.Bool.{So}
use mathlib.Core.List.{List, [], ◌++◌, ◌∷◌}
use mathlib.Core.Path.{◌∙◌, ◌≡◌, refl, subst, sym}
use native.Mathlib.Omega.{arith}
use Rattle.sat.specs.Clause.{Assignment, Clauses, sat}
use Rattle.sat.specs.Encoded.{EncodedRule}
use Rattle.sat.specs.Encodes.{Agree}
use Rattle.sat.proofs.Clauses.{sat_both}
use Rattle.sat.proofs.Extend.{agree_less, agree_trans, clauses_below_append, clauses_below_more, sat_agree}
use Rattle.norm_csp.specs.NormCsp.{Constraint, Holds, NormCsp, Satisfied, add_constraint, linear, mul}
use Rattle.norm_csp.specs.Rules.{LinearTerm, cmp_op_of, terms_of}
use Rattle.norm_csp.proofs.NormCsp.{KnownConstraint, KnownTerms, holds_same, rule_known, rule_less, rule_more}
use Rattle.encoder_answer.specs.Adding.{adding, grown}
use Rattle.encoder_answer.specs.Encoded.{number}
use Rattle.encoder_answer.specs.Outcome.{Check, Outcome}
use Rattle.encoder_mul.specs.Products.{mul_outcome, product_encoded}
use Rattle.encoder_linear.specs.Sums.{linear_outcome, sum_encoded}
use Rattle.encoder_env.specs.declared.EncoderEnv.{EncoderEnv}
use Rattle.encoder_answer.proofs.Adding.{RuleAdded, rule_well_formed}
use Rattle.encoder_mul.proofs.Added.{product_added}
use Rattle.encoder_linear.proofs.Added.{AllKnown, sum_added}
use Rattle.encoder.specs.Run.{State, left}
use Rattle.encoder.proofs.Invariant.{Invariant, after_adding, more_written, number_agree}

module _ (s : State) (b : NormCsp) (cs : Clauses) (inv : Invariant s b cs) (c : Constraint) (checks : List Check) (out : EncodedRule)
    (a : RuleAdded checks s.env s.lits s.ends out (λ α. Holds (number s.env α) c)) (known : KnownConstraint (length b.vars) c) where
  abbrev v : ℕ
  v = s.env.variables

  abbrev ds : Clauses
  ds = out.clauses

  abbrev job : EncoderEnv
  job = grown s.env out.vars ds

  complete_more : (α : Assignment) (f : ℕ → ℤ) → Satisfied (add_constraint c b) α f
      → (γ : Assignment) × Agree b.switches α γ × So (sat γ (cs ++ ds)) × ((x : ℕ) → x < length b.vars → number s.env γ x ≡ f x)
  complete_more α f h =
      let (old, new) = rule_less b c α f h in
      let (β, same, k, numbers) = inv.complete α f old in
      let met : Holds (number s.env β) c = subst (λ (T : Type 0). T) (sym (holds_same (length b.vars) (number s.env β) f numbers c known)) new in
      let (γ, agree, here) = a.says.complete β tt met in
      let there : So (sat γ cs) = subst So (sat_agree v β γ agree cs inv.below) k in (
        γ,
        agree_trans b.switches α β γ same (agree_less b.switches v β γ (omega (arith, inv.switches, a.holds.switches_in)) agree),
        (sat_both γ cs ds).1 (there, here),
        λ x lt. sym (number_agree s b cs inv β γ agree x lt) ∙ numbers x lt,
      )

  next_invariant : Invariant (after_adding s ds job) (add_constraint c b) (cs ++ ds)
  next_invariant =
      let stored = more_written s b cs inv checks ds job a.accepted refl refl in
      record {
        held = stored.0;
        counted = stored.2;
        ends_sound = stored.1;
        well = rule_well_formed checks s.env s.lits s.ends out (λ α. Holds (number s.env α) c) a;
        long = inv.long;
        below = clauses_below_append out.vars cs ds (clauses_below_more v out.vars cs a.says.grows inv.below) a.says.below;
        switches = inv.switches;
        count = inv.count;
        known = rule_known b c inv.known known;
        sound = λ α h. let k = (sat_both α cs ds).0 h in rule_more b c α (number s.env α) (inv.sound α k.0) (a.says.sound α tt k.1);
        complete = complete_more;
        unique = λ α β h k same numbers.
            let p = (sat_both α cs ds).0 h in
            let q = (sat_both β cs ds).0 k in
            a.says.unique α β tt (inv.unique α β p.0 q.0 same numbers) p.1 q.1;
      }

  rule_kept : (ds : Clauses) × Invariant (left (adding checks s.env s.lits s.ends out.clauses job)) (add_constraint c b) ds
  rule_kept =
      (cs ++ ds, subst (λ (o : Outcome). Invariant (left o) (add_constraint c b) (cs ++ ds)) (sym a.accepted.outcome_is) next_invariant)

known_terms : (n : ℕ) (ts : List LinearTerm) → AllKnown n ts → KnownTerms n ts
known_terms n [] h = tt
known_terms n (t ∷ ts) h = (h.0.setting, known_terms n ts h.1)

pub sum_kept : (s : State) (b : NormCsp) (cs : Clauses) → Invariant s b cs → (op : ℕ) (constant : ℤ) (terms : List ℤ)
    → (let o = linear_outcome s.env s.lits s.ends op constant terms in
    o.status ≡ 0 → (ds : Clauses) × Invariant (left o) (add_constraint (linear (cmp_op_of op) constant (terms_of terms)) b) ds)
sum_kept s b cs inv op constant terms h =
    let (had, a) = sum_added s.env s.lits s.ends op constant terms h in
    rule_kept s b cs inv (linear (cmp_op_of op) constant (terms_of terms)) _ (sum_encoded s.env op constant terms) a
    (subst (λ (n : ℕ). KnownTerms n (terms_of terms)) inv.count (known_terms s.env.count (terms_of terms) had.terms_are))

pub product_kept : (s : State) (b : NormCsp) (cs : Clauses) → Invariant s b cs → (x y m : ℕ)
    → (let o = mul_outcome s.env s.lits s.ends x y m in o.status ≡ 0 → (ds : Clauses) × Invariant (left o) (add_constraint (mul x y m) b) ds)
product_kept s b cs inv x y m h =
    let (had, a) = product_added s.env s.lits s.ends x y m h in
    rule_kept s b cs inv (mul x y m) _ (product_encoded s.env x y m) a
    (omega (arith, inv.count, had.x_known), omega (arith, inv.count, had.y_known), omega (arith, inv.count, had.m_known))
