-- What the code keeps of an answer is what its lines say: number 19.
use Prim.Native.Nat.{ℕ}
use lib.Dec.{eqb}
use lib.ListN.{replicate}
use mathlib.Core.Bool.{Bool, ◌&&◌, ◌||◌, cond, false, not, true, true≢false}
use mathlib.Core.List.{List, [], ◌++◌, ◌∷◌}
use mathlib.Core.Path.{◌∙◌, ◌≡◌, ap, refl, subst, sym}
use Rattle.lines.specs.Reading.{first_piece, later_pieces, split}
use Rattle.lines.proofs.Steps.{and_false}
use Rattle.solver_answer.specs.Answer.{by_verdict, ended, numbers, readable, satisfiable, says_satisfiable, some_values, values_first, verdicts, whole}
use Rattle.solver_answer.specs.Lines.{Kind, Number, all_numbers, broken, by_word, comment, is_number, kind, kinds, kinds_of, number, numbers_in, same, satisfiable_line, unsatisfiable_line, values, values_line, verdict}
use Rattle.std.specs.Prelude.{None}
use Rattle.solver_answer.proofs.Splits.{split_pieces}
use Rattle.solver_lines.specs.Lines.{Worded, by_first, other, pieces, remark, values_word, verdict as said, worded}
use Rattle.solver_reading.specs.declared.Phase.{Phase}
use Rattle.solver_reading.specs.declared.Phase.TheVariants.{Begun, Broken, Satisfiable, Unsatisfiable}
use Rattle.solver_reading.specs.Reading.{Run, after_line, after_lines, after_pieces, after_word, begun, in_phase, is_begun, is_found, is_none, on_values, on_verdict, run, run_of, run_whole, take_number}

-- Phases ------------------------------------------------------------------------------------------------------------------

apart : {p x y : Phase} (t : Phase → Bool) → p ≡ x → p ≡ y → t x ≡ true → t y ≡ false → ⊥
apart t e h a b = true≢false (sym a ∙ sym (ap t e) ∙ ap t h ∙ b)

pub not_begun : (p : Phase) → (p ≡ Begun → ⊥) → is_begun p ≡ false
not_begun Begun h = absurd (h refl)
not_begun Satisfiable h = refl
not_begun Unsatisfiable h = refl
not_begun Broken h = refl

pub not_found : (p : Phase) → (p ≡ Satisfiable → ⊥) → is_found p ≡ false
not_found Begun h = refl
not_found Satisfiable h = absurd (h refl)
not_found Unsatisfiable h = refl
not_found Broken h = refl

-- Numbers taken -------------------------------------------------------------------------------------------------------------

unfoldable pub taken : ℕ → Run → List Number → Run
taken n r [] = r
taken n r (m ∷ ms) = taken n (take_number n r m) ms

pub taken_append : (n : ℕ) (r : Run) (ms ks : List Number) → taken n r (ms ++ ks) ≡ taken n (taken n r ms) ks
unfolding taken
taken_append n r [] ks = refl
taken_append n r (m ∷ ms) ks = taken_append n (take_number n r m) ms ks

pub taken_phase : (n : ℕ) (r : Run) (ms : List Number) → (taken n r ms).state.phase ≡ r.state.phase
unfolding taken take_number
taken_phase n r [] = refl
taken_phase n r (m ∷ ms) = taken_phase n (take_number n r m) ms

-- A line ------------------------------------------------------------------------------------------------------------------

abbrev pub Follows : ℕ → Run → Kind → Run → Type 0
Follows n r comment q = q ≡ r
Follows n r (verdict b) q = q ≡ run (on_verdict r.state (cond b Satisfiable Unsatisfiable)) r.given
Follows n r (values ms) q = (r.state.phase ≡ Satisfiable → q ≡ taken n r ms) × ((r.state.phase ≡ Satisfiable → ⊥) → q.state.phase ≡ Broken)
Follows n r broken q = q.state.phase ≡ Broken

parts_taken : (n : ℕ) (r : Run) (ts : List (List ℕ)) → all_numbers ts ≡ true → after_pieces n r ts ≡ taken n r (numbers_in ts)
unfolding after_pieces taken numbers_in all_numbers
parts_taken n r [] h = refl
parts_taken n r (t ∷ ts) h = by (is_number t) refl (parts_taken n (take_number n r (number t)) ts)
  where
    by : (b : Bool) → is_number t ≡ b → (all_numbers ts ≡ true → after_pieces n (take_number n r (number t)) ts ≡ taken n (take_number n r (number t)) (numbers_in ts))
        → after_pieces n r (t ∷ ts) ≡ taken n (take_number n r (number t)) (numbers_in ts)
    by true e f = rw e (f (rw e at h))
    by false e f = absurd (true≢false (sym (rw e at h)))

parts_broken : (n : ℕ) (r : Run) (ts : List (List ℕ)) → all_numbers ts ≡ false → (after_pieces n r ts).state.phase ≡ Broken
unfolding after_pieces all_numbers
parts_broken n r [] h = absurd (true≢false h)
parts_broken n r (t ∷ ts) h = by (is_number t) refl (parts_broken n (take_number n r (number t)) ts)
  where
    by : (b : Bool) → is_number t ≡ b → (all_numbers ts ≡ false → (after_pieces n (take_number n r (number t)) ts).state.phase ≡ Broken) → (after_pieces n r (t ∷ ts)).state.phase ≡ Broken
    by true e f = rw e (f (rw e at h))
    by false e f = rw e

values_found : (n : ℕ) (r : Run) (t : List ℕ) (ts : List (List ℕ)) → is_found r.state.phase ≡ true → on_values n r (t ∷ ts) ≡ after_pieces n r (t ∷ ts)
unfolding on_values
values_found n r t ts h = rw h

pub values_begun : (n : ℕ) (r : Run) (l : List ℕ) → is_found r.state.phase ≡ true → on_values n r (split 32 l) ≡ after_pieces n r (split 32 l)
values_begun n r l h =
    let P : List (List ℕ) → Type 0 = λ ps. on_values n r ps ≡ after_pieces n r ps in
    subst P (sym (split_pieces 32 l)) (values_found n r (first_piece (split 32 l)) (later_pieces (split 32 l)) h)

pub values_early : (n : ℕ) (r : Run) (ts : List (List ℕ)) → is_found r.state.phase ≡ false → on_values n r ts ≡ in_phase r Broken
unfolding on_values
values_early n r [] h = refl
values_early n r (t ∷ ts) h = rw h

values_follow : (n : ℕ) (r : Run) (ts : List (List ℕ)) → Follows n r (values_line ts) (on_values n r ts)
unfolding values_line on_values
values_follow n r [] = refl
values_follow n r (t ∷ ts) = by (all_numbers (t ∷ ts)) refl
  where
    at_once : (b : Bool) → is_found r.state.phase ≡ b → all_numbers (t ∷ ts) ≡ false → (on_values n r (t ∷ ts)).state.phase ≡ Broken
    at_once true p e = rw p (parts_broken n r (t ∷ ts) e)
    at_once false p e = rw p

    by : (b : Bool) → all_numbers (t ∷ ts) ≡ b → Follows n r (cond b (values (numbers_in (t ∷ ts))) broken) (on_values n r (t ∷ ts))
    by true e = (λ p. values_found n r t ts (ap is_found p) ∙ parts_taken n r (t ∷ ts) e, λ p. rw (not_found r.state.phase p))
    by false e = at_once (is_found r.state.phase) refl e

-- a line's kind, by what the code takes it for
abbrev kind_of : Worded → Kind
kind_of remark = comment
kind_of (said b) = verdict b
kind_of (pieces ts) = values_line ts
kind_of other = broken

word_kind : (ps : List (List ℕ)) → by_word ps ≡ kind_of (by_first ps)
unfolding by_word by_first values_line values_word
word_kind [] = refl
word_kind (w ∷ ts) = by (same w (99 ∷ [])) (same w (118 ∷ [])) ts
  where
    by : (c v : Bool) (us : List (List ℕ)) → cond c comment (cond v (values_line us) broken) ≡ kind_of (cond c remark (cond v (values_word us) other))
    by true v us = refl
    by false true [] = refl
    by false true (u ∷ us) = refl
    by false false us = refl

line_kind : (l : List ℕ) → kind l ≡ kind_of (worded l)
unfolding kind worded
line_kind l = by (same l satisfiable_line) (same l unsatisfiable_line)
  where
    by : (s u : Bool) → cond s (verdict true) (cond u (verdict false) (by_word (split 32 l))) ≡ kind_of (cond s (said true) (cond u (said false) (by_first (split 32 l))))
    by true u = refl
    by false true = refl
    by false false = word_kind (split 32 l)

word_follow : (n : ℕ) (r : Run) (w : Worded) → Follows n r (kind_of w) (after_word n r w)
unfolding after_word
word_follow n r remark = refl
word_follow n r (said b) = refl
word_follow n r (pieces ts) = values_follow n r ts
word_follow n r other = refl

line_follow : (n : ℕ) (r : Run) (l : List ℕ) → Follows n r (kind l) (after_line n r l)
line_follow n r l = let P : Kind → Type 0 = λ k. Follows n r k (after_line n r l) in subst P (sym (line_kind l)) (word_follow n r (worded l))

-- All lines ---------------------------------------------------------------------------------------------------------------

pub data Runs : ℕ → Run → List Kind → Run → Type 0 where
  done : {n : ℕ} {r : Run} → Runs n r [] r
  step : {n : ℕ} {r z : Run} {k : Kind} {ks : List Kind} (q : Run) → Follows n r k q → Runs n q ks z → Runs n r (k ∷ ks) z

pub lines_run : (n : ℕ) (r : Run) (ls : List (List ℕ)) → Runs n r (kinds ls) (after_lines n r ls)
unfolding kinds after_lines
lines_run n r [] = done
lines_run n r ([] ∷ []) = done
lines_run n r ((b ∷ bs) ∷ []) = step (in_phase r Broken) refl done
lines_run n r ([] ∷ m ∷ ls) = step (after_line n r []) (line_follow n r []) (lines_run n (after_line n r []) (m ∷ ls))
lines_run n r ((b ∷ bs) ∷ m ∷ ls) = step (after_line n r (b ∷ bs)) (line_follow n r (b ∷ bs)) (lines_run n (after_line n r (b ∷ bs)) (m ∷ ls))

-- a broken answer stays so
stays_broken : {n : ℕ} {r z : Run} {ks : List Kind} → Runs n r ks z → r.state.phase ≡ Broken → z.state.phase ≡ Broken
stays_broken done h = h
stays_broken (step {k = comment} q f rest) h = stays_broken rest (ap (λ (x : Run). x.state.phase) f ∙ h)
stays_broken (step {r = r} {k = verdict b} q f rest) h =
    stays_broken rest (ap (λ (x : Run). x.state.phase) f ∙ rw (not_begun r.state.phase (λ e. apart is_begun e h refl refl)))
stays_broken (step {k = values ms} q f rest) h = stays_broken rest (f.1 (λ e. apart is_found e h refl refl))
stays_broken (step {k = broken} q f rest) h = stays_broken rest f

-- a second `s` line
verdict_broken : {n : ℕ} (r : Run) {z q : Run} (b : Bool) {ks : List Kind} → Follows n r (verdict b) q → Runs n q ks z → (r.state.phase ≡ Begun → ⊥) → z.state.phase ≡ Broken
verdict_broken r b f rest h = stays_broken rest (ap (λ (x : Run). x.state.phase) f ∙ rw (not_begun r.state.phase h))

-- behind an unsatisfiable `s` line
unsat_verdicts : (vs : List Bool) (ks : List Kind) → by_verdict (false ∷ vs) (verdict false ∷ comment ∷ ks) ≡ by_verdict (false ∷ vs) (verdict false ∷ ks)
unfolding by_verdict some_values
unsat_verdicts [] ks = refl
unsat_verdicts (v ∷ vs) ks = refl

unsat_values : (vs : List Bool) (ms : List Number) (ks : List Kind) → by_verdict (false ∷ vs) (verdict false ∷ values ms ∷ ks) ≡ false
unfolding by_verdict some_values
unsat_values [] ms ks = refl
unsat_values (v ∷ vs) ms ks = refl

abbrev UnsatSays : List Kind → Run → Type 0
UnsatSays ks z = ((readable ks && by_verdict (false ∷ verdicts ks) (verdict false ∷ ks)) ≡ is_none z.state.phase) × (is_found z.state.phase ≡ false)

unsat_three : (ks : List Kind) (z : Run) → (readable ks && by_verdict (false ∷ verdicts ks) (verdict false ∷ ks)) ≡ false → z.state.phase ≡ Broken → UnsatSays ks z
unsat_three ks z e h = (e ∙ rw h, rw h)

after_unsat : {n : ℕ} {r z : Run} {ks : List Kind} → Runs n r ks z → r.state.phase ≡ Unsatisfiable → UnsatSays ks z
unfolding readable by_verdict verdicts some_values
after_unsat done h = (rw h, rw h)
after_unsat (step {k = comment} {ks = ks} q f rest) h =
    let i = after_unsat rest (ap (λ (x : Run). x.state.phase) f ∙ h) in
    (ap (λ (b : Bool). readable ks && b) (unsat_verdicts (verdicts ks) ks) ∙ i.0, i.1)
after_unsat (step {r = r} {z = z} {k = verdict b} {ks = ks} q f rest) h =
    unsat_three (verdict b ∷ ks) z (and_false (readable ks)) (verdict_broken r b f rest (λ e. apart is_begun e h refl refl))
after_unsat (step {z = z} {k = values ms} {ks = ks} q f rest) h =
    unsat_three (values ms ∷ ks) z (ap (λ (b : Bool). readable ks && b) (unsat_values (verdicts ks) ms ks) ∙ and_false (readable ks)) (stays_broken rest (f.1 (λ e. apart is_found e h refl refl)))
after_unsat (step {z = z} {k = broken} {ks = ks} q f rest) h = unsat_three (broken ∷ ks) z refl (stays_broken rest f)

-- behind a satisfiable one
unfoldable quiet : List Kind → Bool
quiet [] = true
quiet (comment ∷ ks) = quiet ks
quiet (verdict b ∷ ks) = false
quiet (values ms ∷ ks) = quiet ks
quiet (broken ∷ ks) = false

after_sat : {n : ℕ} {r z : Run} {ks : List Kind} → Runs n r ks z → r.state.phase ≡ Satisfiable → ((quiet ks ≡ true → z ≡ taken n r (numbers ks)) × (quiet ks ≡ false → z.state.phase ≡ Broken))
unfolding quiet numbers taken
after_sat done h = (λ e. refl, λ e. absurd (true≢false e))
after_sat {n} (step {r = r} {k = comment} {ks = ks} q f rest) h =
    let i = after_sat rest (ap (λ (x : Run). x.state.phase) f ∙ h) in
    (λ e. i.0 e ∙ ap (λ (x : Run). taken n x (numbers ks)) f, i.1)
after_sat (step {r = r} {k = verdict b} q f rest) h = (λ e. absurd (true≢false (sym e)), λ e. verdict_broken r b f rest (λ z. apart is_begun z h refl refl))
after_sat {n} (step {r = r} {k = values ms} {ks = ks} q f rest) h =
    let i = after_sat rest (ap (λ (x : Run). x.state.phase) (f.0 h) ∙ taken_phase n r ms ∙ h) in
    (λ e. i.0 e ∙ ap (λ (x : Run). taken n x (numbers ks)) (f.0 h) ∙ sym (taken_append n r ms (numbers ks)), i.1)
after_sat (step {k = broken} q f rest) h = (λ e. absurd (true≢false (sym e)), λ e. stays_broken rest f)

quiet_sat : (ks : List Kind) → quiet ks ≡ true → (readable ks ≡ true) × (verdicts ks ≡ [])
unfolding quiet readable verdicts
quiet_sat [] h = (refl, refl)
quiet_sat (comment ∷ ks) h = quiet_sat ks h
quiet_sat (verdict b ∷ ks) h = absurd (true≢false (sym h))
quiet_sat (values ms ∷ ks) h = quiet_sat ks h
quiet_sat (broken ∷ ks) h = absurd (true≢false (sym h))

loud_sat : (ks : List Kind) → quiet ks ≡ false → (b : Bool) (js : List Kind) → (readable ks && by_verdict (b ∷ verdicts ks) js) ≡ false
unfolding quiet readable verdicts by_verdict
loud_sat [] h b js = absurd (true≢false h)
loud_sat (comment ∷ ks) h b js = loud_sat ks h b js
loud_sat (verdict v ∷ ks) h b js = and_false (readable ks)
loud_sat (values ms ∷ ks) h b js = loud_sat ks h b js
loud_sat (broken ∷ ks) h b js = refl

-- the list's end
abbrev closed : Run → Bool
closed r = r.state.seen && not r.state.late

taken_late : (n : ℕ) (r : Run) (ms : List Number) → r.state.late ≡ true → (taken n r ms).state.late ≡ true
unfolding taken take_number
taken_late n r [] h = h
taken_late n r (m ∷ ms) h = taken_late n (take_number n r m) ms (rw h)

one : (n : ℕ) (r : Run) (m : Number) → r.state.seen ≡ false → r.state.late ≡ false → closed (take_number n r m) ≡ eqb m.size 0
unfolding take_number
one n r m s l = rw (s, l) (by (eqb m.size 0))
  where
    by : (b : Bool) → (b && true) ≡ b
    by true = refl
    by false = refl

late_next : (n : ℕ) (r : Run) (m k : Number) → eqb m.size 0 ≡ true → (take_number n (take_number n r m) k).state.late ≡ true
unfolding take_number
late_next n r m k e = rw e (by r.state.seen (r.state.late || r.state.seen))
  where
    by : (a b : Bool) → (b || (a || true)) ≡ true
    by a true = refl
    by true false = refl
    by false false = refl

seen_next : (n : ℕ) (r : Run) (m : Number) → r.state.seen ≡ false → eqb m.size 0 ≡ false → (take_number n r m).state.seen ≡ false
unfolding take_number
seen_next n r m s e = rw (s, e)

late_now : (n : ℕ) (r : Run) (m : Number) → r.state.seen ≡ false → r.state.late ≡ false → (take_number n r m).state.late ≡ false
unfolding take_number
late_now n r m s l = rw (l, s)

taken_closed : (n : ℕ) (r : Run) (ms : List Number) → r.state.seen ≡ false → r.state.late ≡ false → closed (taken n r ms) ≡ ended ms
unfolding taken ended
taken_closed n r [] s l = rw s
taken_closed n r (m ∷ []) s l = one n r m s l
taken_closed n r (m ∷ k ∷ ms) s l = by (eqb m.size 0) refl (taken_closed n (take_number n r m) (k ∷ ms))
  where
    by : (b : Bool) → eqb m.size 0 ≡ b → ((take_number n r m).state.seen ≡ false → (take_number n r m).state.late ≡ false → closed (taken n (take_number n r m) (k ∷ ms)) ≡ ended (k ∷ ms))
        → closed (taken n r (m ∷ k ∷ ms)) ≡ (not (eqb m.size 0) && ended (k ∷ ms))
    by true e f = rw (e, taken_late n (take_number n (take_number n r m) k) ms (late_next n r m k e)) (and_false (taken n (take_number n (take_number n r m) k) ms).state.seen)
    by false e f = rw e (f (seen_next n r m s e) (late_now n r m s l))

-- the answer as a whole
verdict_comment : (vs : List Bool) (ks : List Kind) → by_verdict vs (comment ∷ ks) ≡ by_verdict vs ks
unfolding by_verdict values_first numbers some_values
verdict_comment [] ks = refl
verdict_comment (true ∷ []) ks = refl
verdict_comment (false ∷ []) ks = refl
verdict_comment (a ∷ b ∷ vs) ks = refl

verdict_values : (vs : List Bool) (ms : List Number) (ks : List Kind) → by_verdict vs (values ms ∷ ks) ≡ false
unfolding by_verdict values_first some_values
verdict_values [] ms ks = refl
verdict_values (true ∷ []) ms ks = refl
verdict_values (false ∷ []) ms ks = refl
verdict_values (a ∷ b ∷ vs) ms ks = refl

pub record Says (n : ℕ) (r : Run) (ks : List Kind) (z : Run) : Type 0 where
  pub is_whole : run_whole z.state ≡ whole ks
  pub is_sat : whole ks ≡ true → is_found z.state.phase ≡ satisfiable ks
  pub took : whole ks ≡ true → satisfiable ks ≡ true → z ≡ taken n (in_phase r Satisfiable) (numbers ks)

says_broken : {n : ℕ} {r z : Run} {ks : List Kind} → whole ks ≡ false → z.state.phase ≡ Broken → Says n r ks z
says_broken e h =
    record { is_whole = rw h (sym e); is_sat = λ w. absurd (true≢false (sym w ∙ e)); took = λ w t. absurd (true≢false (sym w ∙ e)) }

says_unsat : {n : ℕ} {r z : Run} {ks : List Kind} → UnsatSays ks z → Says n r (verdict false ∷ ks) z
unfolding whole readable verdicts satisfiable says_satisfiable
says_unsat {ks = ks} u =
    record { is_whole = rw u.1 (sym u.0); is_sat = λ w. u.1; took = λ w t. absurd (true≢false (sym t)) }

says_sat : {n : ℕ} {r z : Run} {ks : List Kind} → r.state.seen ≡ false → r.state.late ≡ false
    → ((quiet ks ≡ true → z ≡ taken n (in_phase r Satisfiable) (numbers ks)) × (quiet ks ≡ false → z.state.phase ≡ Broken)) → Says n r (verdict true ∷ ks) z
unfolding whole readable verdicts satisfiable says_satisfiable by_verdict values_first numbers
says_sat {n} {r} {z} {ks} s l f = by (quiet ks) refl
  where
    closing : (b : Bool) → b ≡ ended (numbers ks) → (b || false) ≡ ended (numbers ks)
    closing true h = h
    closing false h = h

    loud : quiet ks ≡ false → (readable ks && by_verdict (true ∷ verdicts ks) (verdict true ∷ ks)) ≡ false
    loud e = loud_sat ks e true (verdict true ∷ ks)

    at_phase : z ≡ taken n (in_phase r Satisfiable) (numbers ks) → z.state.phase ≡ Satisfiable
    at_phase e = ap (λ (x : Run). x.state.phase) e ∙ taken_phase n (in_phase r Satisfiable) (numbers ks)

    by : (b : Bool) → quiet ks ≡ b → Says n r (verdict true ∷ ks) z
    by true e =
        let q = quiet_sat ks e in
        let t = f.0 e in
        let c : closed z ≡ ended (numbers ks) = ap closed t ∙ taken_closed n (in_phase r Satisfiable) (numbers ks) s l in
        record { is_whole = rw (at_phase t, q.0, q.1) (closing (closed z) c); is_sat = λ w. rw (at_phase t); took = λ w h. t }
    by false e = says_broken (loud e) (f.1 e)

pub says : {n : ℕ} {r z : Run} {ks : List Kind} → Runs n r ks z → r.state.phase ≡ Begun → r.state.seen ≡ false → r.state.late ≡ false → Says n r ks z
unfolding whole readable verdicts numbers satisfiable says_satisfiable by_verdict
says done p s l = record { is_whole = rw p; is_sat = λ w. absurd (true≢false (sym w)); took = λ w. absurd (true≢false (sym w)) }
says {n} (step {r = r} {z = z} {k = comment} {ks = ks} q f rest) p s l =
    let j = says rest (ap (λ (x : Run). x.state.phase) f ∙ p) (ap (λ (x : Run). x.state.seen) f ∙ s) (ap (λ (x : Run). x.state.late) f ∙ l) in
    let v : whole (comment ∷ ks) ≡ whole ks = ap (λ (b : Bool). readable ks && b) (verdict_comment (verdicts ks) ks) in
    record { is_whole = j.is_whole ∙ sym v; is_sat = λ w. j.is_sat (sym v ∙ w); took = λ w t. j.took (sym v ∙ w) t ∙ ap (λ (x : Run). taken n (in_phase x Satisfiable) (numbers ks)) f }
says (step {r = r} {z = z} {k = verdict true} {ks = ks} q f rest) p s l = says_sat s l (after_sat (rw (f, p) at rest) refl)
says (step {r = r} {z = z} {k = verdict false} {ks = ks} q f rest) p s l = says_unsat (after_unsat (rw (f, p) at rest) refl)
says (step {r = r} {z = z} {k = values ms} {ks = ks} q f rest) p s l =
    says_broken (ap (λ (b : Bool). readable ks && b) (verdict_values (verdicts ks) ms ks) ∙ and_false (readable ks)) (stays_broken rest (f.1 (λ e. apart is_found e p refl refl)))
says (step {k = broken} q f rest) p s l = says_broken refl (stays_broken rest f)

-- The whole text: the code's 19 is the document's, and the numbers taken are those of the list.
pub run_says : (n : ℕ) (text : List ℕ) → Says n (run begun (replicate n None)) (kinds_of text) (run_of n text)
unfolding kinds_of run_of
run_says n text = says (lines_run n (run begun (replicate n None)) (split 10 text)) refl refl refl
