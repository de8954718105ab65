-- The numbers taken are right where no variable is unknown, doubled or missing: number 20, and the bytes.
use Prim.Native.Nat.{◌+◌, ◌-◌, ◌<◌, ◌≤◌, suc, zero, ℕ}
use borrow.Author.Tests.{eq-eqb, eqb-false, eqb-true, le-leb, le-ltb, lt-leb, lt-ltb, ltb-false, ltb-true, ne_eqb}
use lib.Dec.{eqb, leb, ltb}
use lib.ListN.{get_or, length, length-set, set}
use Rattle.std.specs.Prelude.{Option, Some, None, is_some, map}
use Rattle.std.specs.List.{list_all}
use lib.Seq.{get_or-set_other, get_or-set_same}
use mathlib.Core.Bool.{Bool, ◌&&◌, ◌||◌, cond, false, not, true, true≢false}
use mathlib.Core.List.{List, [], ◌∷◌}
use mathlib.Core.Path.{◌∙◌, ◌≡◌, ap, refl, sym, subst}
use native.Mathlib.Omega.{arith}
use Rattle.lines.proofs.Steps.{and_left, and_right}
use Rattle.solver_answer.specs.Answer.{bytes_from, each_given, each_once, is_true, known, times}
use Rattle.solver_answer.specs.Lines.{Number}
use Rattle.solver_reading.specs.Reading.{Run, byte, is_wrong, run_given, take_number}
use Rattle.solver_reading.proofs.Taking.{or_none, or_true}
use Rattle.solver_reading.proofs.Whole.{taken}

-- how often a variable may still be given
abbrev free : Option Bool → ℕ
free None = 1
free (Some b) = 0

-- the numbers that are left are known, and none gives a variable that is given
record Fits (n : ℕ) (given : List (Option Bool)) (ms : List Number) : Type 0 where
  knows : known n ms ≡ true
  once : (v : ℕ) → v < n → times (suc v) ms ≤ free (get_or given v None)

-- One number --------------------------------------------------------------------------------------------------------------

data Taking (n : ℕ) (r : Run) (m : Number) : Type 0 where
  ending : m.size ≡ 0 → (take_number n r m).state.wrong ≡ r.state.wrong → (take_number n r m).given ≡ r.given → Taking n r m
  unknown : n < m.size → (take_number n r m).state.wrong ≡ true → Taking n r m
  doubled : (v : ℕ) → m.size ≡ suc v → v < n → (b : Bool) → get_or r.given v None ≡ Some b → (take_number n r m).state.wrong ≡ true → Taking n r m
  giving : (v : ℕ) → m.size ≡ suc v → v < n → get_or r.given v None ≡ None
      → (take_number n r m).state.wrong ≡ r.state.wrong → (take_number n r m).given ≡ set r.given v (Some (not m.negative)) → Taking n r m

taking : (n : ℕ) (r : Run) (m : Number) → Taking n r m
unfolding take_number is_wrong
taking n r m = by m.size refl
  where
    place : (v : ℕ) → m.size ≡ suc v → suc v - 1 ≡ v
    place v e = omega arith

    at_open : (v : ℕ) → m.size ≡ suc v → v < n → (g : Option Bool) → get_or r.given v None ≡ g → Taking n r m
    at_open v e h None q =
        let z = ne_eqb (suc v) 0 (λ w. omega (arith, w)) in
        let u = le-ltb n (suc v) (omega arith) in
        giving v e h q (rw (e, z, u, place v e, q) (or_none r.state.wrong)) (rw (e, z, u, place v e, q))
    at_open v e h (Some b) q =
        let z = ne_eqb (suc v) 0 (λ w. omega (arith, w)) in
        let u = le-ltb n (suc v) (omega arith) in
        doubled v e h b q (rw (e, z, u, place v e, q) (or_true r.state.wrong))

    at_known : (v : ℕ) → m.size ≡ suc v → (t : Bool) → ltb v n ≡ t → Taking n r m
    at_known v e true q = at_open v e (ltb-true v n q) (get_or r.given v None) refl
    at_known v e false q =
        let w = ltb-false v n q in
        let h : n < m.size = omega (arith, w, e) in
        let z = ne_eqb m.size 0 (λ y. omega (arith, y, e)) in
        unknown h (rw (z, lt-ltb n m.size h) (or_true r.state.wrong))

    by : (k : ℕ) → m.size ≡ k → Taking n r m
    by zero e = ending e (rw e (or_none r.state.wrong)) (rw e)
    by (suc v) e = at_known v e (ltb v n) refl

taken_long : (n : ℕ) (r : Run) (m : Number) → length (take_number n r m).given ≡ length r.given
unfolding take_number
taken_long n r m = by (eqb m.size 0 || is_wrong n r.given m.size)
  where
    by : (t : Bool) → length (cond t r.given (set r.given (m.size - 1) (Some (not m.negative)))) ≡ length r.given
    by true = refl
    by false = simp length-set

-- a number that is not the variable's makes no difference to it
times_other : (x : ℕ) (m : Number) (ms : List Number) → (m.size ≡ x → ⊥) → times x (m ∷ ms) ≡ times x ms
unfolding times
times_other x m ms h = rw (ne_eqb m.size x h)

times_this : (x : ℕ) (m : Number) (ms : List Number) → m.size ≡ x → times x (m ∷ ms) ≡ suc (times x ms)
unfolding times
times_this x m ms h = rw (eq-eqb m.size x h)

true_other : (x : ℕ) (m : Number) (ms : List Number) → (m.size ≡ x → ⊥) → is_true x (m ∷ ms) ≡ is_true x ms
unfolding is_true
true_other x m ms h = rw (ne_eqb m.size x h)

-- a number that does not stand there is not true
true_none : (x : ℕ) (ms : List Number) → times x ms ≡ 0 → is_true x ms ≡ false
unfolding is_true times
true_none x [] h = refl
true_none x (m ∷ ms) h = by (eqb m.size x) refl (true_none x ms)
  where
    by : (t : Bool) → eqb m.size x ≡ t → (times x ms ≡ 0 → is_true x ms ≡ false) → ((t && not m.negative) || is_true x ms) ≡ false
    by true e f = let z : suc (times x ms) ≡ 0 = rw e at h in absurd (omega (arith, z))
    by false e f = f (rw e at h)

free_set : (given : List (Option Bool)) (v : ℕ) (b : Bool) → v < length given → free (get_or (set given v (Some b)) v None) ≡ 0
free_set given v b h = rw (get_or-set_same given v (Some b) None h)

module _ (n : ℕ) (r : Run) (m : Number) (ms : List Number) (long : n ≤ length r.given) where
  unknown_no : n < m.size → Fits n r.given (m ∷ ms) → ⊥
  unfolding known
  unknown_no h f = let z = f.knows in true≢false (sym (and_left (leb m.size n) (known n ms) z) ∙ lt-leb m.size n h)

  doubled_no : (v : ℕ) → m.size ≡ suc v → v < n → (b : Bool) → get_or r.given v None ≡ Some b → Fits n r.given (m ∷ ms) → ⊥
  doubled_no v e h b d f =
      let a : suc (times (suc v) ms) ≤ free (get_or r.given v None) = rw (times_this (suc v) m ms e) at (f.once v h) in
      let z : suc (times (suc v) ms) ≤ 0 = rw d at a in
      omega (arith, z)

  -- behind a number that is taken, where the others are as they were
  module _ (v : ℕ) (e : m.size ≡ suc v) (h : v < n) (d : get_or r.given v None ≡ None) where
    abbrev after : List (Option Bool)
    after = set r.given v (Some (not m.negative))

    giving_fore : Fits n r.given (m ∷ ms) → Fits n after ms
    unfolding known
    giving_fore f = record { knows = and_right (leb m.size n) (known n ms) f.knows; once = λ w k. by w k (eqb w v) refl }
      where
        by : (w : ℕ) → w < n → (t : Bool) → eqb w v ≡ t → times (suc w) ms ≤ free (get_or after w None)
        by w k true q =
            let z = eqb-true w v q in
            let a : suc (times (suc v) ms) ≤ 1 = rw (times_this (suc v) m ms e, d) at (f.once v h) in
            rw (z, free_set r.given v (not m.negative) (omega arith)) (omega (arith, a))
        by w k false q =
            let z = eqb-false w v q in
            rw (get_or-set_other r.given v w (Some (not m.negative)) None z) (rw (times_other (suc w) m ms (λ y. z (omega (arith, y, e)))) at (f.once w k))

    giving_back : Fits n after ms → Fits n r.given (m ∷ ms)
    unfolding known
    giving_back f = record { knows = rw (le-leb m.size n (omega (arith, e))) f.knows; once = λ w k. by w k (eqb w v) refl }
      where
        by : (w : ℕ) → w < n → (t : Bool) → eqb w v ≡ t → times (suc w) (m ∷ ms) ≤ free (get_or r.given w None)
        by w k true q =
            let z = eqb-true w v q in
            let a : times (suc v) ms ≤ 0 = rw (free_set r.given v (not m.negative) (omega arith)) at (f.once v h) in
            rw (z, times_this (suc v) m ms e, d) (omega (arith, a))
        by w k false q =
            let z = eqb-false w v q in
            rw (times_other (suc w) m ms (λ y. z (omega (arith, y, e)))) (rw (get_or-set_other r.given v w (Some (not m.negative)) None z) at (f.once w k))

  ending_fore : m.size ≡ 0 → Fits n r.given (m ∷ ms) → Fits n r.given ms
  unfolding known
  ending_fore e f =
      record { knows = and_right (leb m.size n) (known n ms) f.knows; once = λ w k. rw (times_other (suc w) m ms (λ y. omega (arith, y, e))) at (f.once w k) }

  ending_back : m.size ≡ 0 → Fits n r.given ms → Fits n r.given (m ∷ ms)
  unfolding known
  ending_back e f =
      record { knows = rw (le-leb m.size n (omega (arith, e))) f.knows; once = λ w k. rw (times_other (suc w) m ms (λ y. omega (arith, y, e))) (f.once w k) }

  -- numbers that fit are taken, and those left fit
  fore : Fits n r.given (m ∷ ms) → ((take_number n r m).state.wrong ≡ r.state.wrong) × Fits n (take_number n r m).given ms
  fore f = by (taking n r m)
    where
      by : Taking n r m → ((take_number n r m).state.wrong ≡ r.state.wrong) × Fits n (take_number n r m).given ms
      by (ending e w b) = (w, rw b (ending_fore e f))
      by (unknown h w) = absurd (unknown_no h f)
      by (doubled v e h b d w) = absurd (doubled_no v e h b d f)
      by (giving v e h d w b) = (w, rw b (giving_fore v e h d f))

  -- and the other way round, where nothing is wrong
  back : (take_number n r m).state.wrong ≡ false → Fits n (take_number n r m).given ms → (r.state.wrong ≡ false) × Fits n r.given (m ∷ ms)
  back x f = by (taking n r m)
    where
      by : Taking n r m → (r.state.wrong ≡ false) × Fits n r.given (m ∷ ms)
      by (ending e w b) = (sym w ∙ x, ending_back e (rw b at f))
      by (unknown h w) = absurd (true≢false (sym w ∙ x))
      by (doubled v e h b d w) = absurd (true≢false (sym w ∙ x))
      by (giving v e h d w b) = (sym w ∙ x, giving_back v e h d (rw b at f))

-- All numbers -------------------------------------------------------------------------------------------------------------

fits_none : (n : ℕ) (given : List (Option Bool)) → Fits n given []
unfolding known times
fits_none n given = record { knows = refl; once = λ v k. omega arith }

module _ (n : ℕ) where
  right_fits : (r : Run) (ms : List Number) → n ≤ length r.given → (taken n r ms).state.wrong ≡ false → (r.state.wrong ≡ false) × Fits n r.given ms
  unfolding taken
  right_fits r [] long w = (w, fits_none n r.given)
  right_fits r (m ∷ ms) long w =
      let i = right_fits (take_number n r m) ms (rw (taken_long n r m) long) w in
      back n r m ms long i.0 i.1

  fits_right : (r : Run) (ms : List Number) → n ≤ length r.given → r.state.wrong ≡ false → Fits n r.given ms → (taken n r ms).state.wrong ≡ false
  unfolding taken
  fits_right r [] long w f = w
  fits_right r (m ∷ ms) long w f =
      let i = fore n r m ms long f in
      fits_right (take_number n r m) ms (rw (taken_long n r m) long) (i.0 ∙ w) i.1

  -- what is known of a variable behind them
  abbrev left : List (Option Bool) → List Number → ℕ → Option Bool
  left given ms v = cond (eqb (times (suc v) ms) 0) (get_or given v None) (Some (is_true (suc v) ms))

  left_other : (given given' : List (Option Bool)) (m : Number) (ms : List Number) (v : ℕ) → (m.size ≡ suc v → ⊥) → get_or given' v None ≡ get_or given v None
      → left given' ms v ≡ left given (m ∷ ms) v
  left_other given given' m ms v h e = rw (times_other (suc v) m ms h, true_other (suc v) m ms h, e)

  left_this : (given : List (Option Bool)) (m : Number) (ms : List Number) (v : ℕ) → m.size ≡ suc v → v < length given → times (suc v) ms ≡ 0
      → left (set given v (Some (not m.negative))) ms v ≡ left given (m ∷ ms) v
  unfolding times is_true
  left_this given m ms v e h z =
      rw (eq-eqb m.size (suc v) e, z, true_none (suc v) ms z) (by m.negative)
    where
      by : (b : Bool) → get_or (set given v (Some (not b))) v None ≡ Some (not b || false)
      by true = get_or-set_same given v (Some false) None h
      by false = get_or-set_same given v (Some true) None h

  taken_byte : (r : Run) (ms : List Number) → n ≤ length r.given → Fits n r.given ms → (v : ℕ) → v < n → get_or (taken n r ms).given v None ≡ left r.given ms v
  unfolding taken times
  taken_byte r [] long f v k = refl
  taken_byte r (m ∷ ms) long f v k =
      let i = taken_byte (take_number n r m) ms (rw (taken_long n r m) long) (fore n r m ms long f).1 v k in
      i ∙ by (taking n r m)
    where
      by : Taking n r m → left (take_number n r m).given ms v ≡ left r.given (m ∷ ms) v
      by (ending e w b) = rw b (left_other r.given r.given m ms v (λ y. omega (arith, y, e)) refl)
      by (unknown h w) = absurd (unknown_no n r m ms long h f)
      by (doubled u e h b d w) = absurd (doubled_no n r m ms long u e h b d f)
      by (giving u e h d w b) = rw b (at (eqb v u) refl)
        where
          at : (t : Bool) → eqb v u ≡ t → left (set r.given u (Some (not m.negative))) ms v ≡ left r.given (m ∷ ms) v
          at true q =
              let z = eqb-true v u q in
              let g = (giving_fore n r m ms long u e h d f).once u h in
              let y : times (suc u) ms ≡ 0 = omega (arith, rw (free_set r.given u (not m.negative) (omega arith)) at g) in
              subst (λ (w : ℕ). left (set r.given u (Some (not m.negative))) ms w ≡ left r.given (m ∷ ms) w) (sym z) (left_this r.given m ms u e (omega arith) y)
          at false q =
              let z = eqb-false v u q in
              left_other r.given (set r.given u (Some (not m.negative))) m ms v (λ y. z (omega (arith, y, e))) (get_or-set_other r.given u v (Some (not m.negative)) None z)

-- From all variables open -------------------------------------------------------------------------------------------------

once_each : (x k : ℕ) (ms : List Number) → each_once x k ms ≡ true → (v : ℕ) → v < k → times (x + v) ms ≡ 1
unfolding each_once
once_each x zero ms h v l = absurd (omega arith)
once_each x (suc k) ms h zero l = let z : x + 0 ≡ x = omega arith in rw z (eqb-true (times x ms) 1 (and_left (eqb (times x ms) 1) _ h))
once_each x (suc k) ms h (suc v) l =
    let z : x + suc v ≡ suc x + v = omega arith in
    rw z (once_each (suc x) k ms (and_right (eqb (times x ms) 1) _ h) v (omega arith))

-- variable by variable
each_some : (gs : List (Option Bool)) (x : ℕ) (ms : List Number) → ((v : ℕ) → v < length gs → is_some (get_or gs v None) ≡ eqb (times (x + v) ms) 1)
    → list_all is_some gs ≡ each_once x (length gs) ms
unfolding each_once
each_some [] x ms h = refl
each_some (g ∷ gs) x ms h =
    let z : x + 0 ≡ x = omega arith in
    let a : is_some g ≡ eqb (times x ms) 1 = rw z at (h 0 (omega arith)) in
    rw (a, each_some gs (suc x) ms (λ v l. let y : x + suc v ≡ suc x + v = omega arith in rw y at (h (suc v) (omega arith))))

each_byte : (gs : List (Option Bool)) (x : ℕ) (ms : List Number) → ((v : ℕ) → v < length gs → get_or gs v None ≡ Some (is_true (x + v) ms))
    → map byte gs ≡ bytes_from x (length gs) ms
unfolding bytes_from
each_byte [] x ms h = refl
each_byte (g ∷ gs) x ms h =
    let z : x + 0 ≡ x = omega arith in
    let a : g ≡ Some (is_true x ms) = rw z at (h 0 (omega arith)) in
    rw (a, each_byte gs (suc x) ms (λ v l. let y : x + suc v ≡ suc x + v = omega arith in rw y at (h (suc v) (omega arith))))

-- variable v is number v + 1
number_of : (v : ℕ) → 1 + v ≡ suc v
number_of v = omega arith

end_long : (n : ℕ) (r : Run) (ms : List Number) → length (taken n r ms).given ≡ length r.given
unfolding taken
end_long n r [] = refl
end_long n r (m ∷ ms) = end_long n (take_number n r m) ms ∙ taken_long n r m

module _ (n : ℕ) (r : Run) (ms : List Number) (right : r.state.wrong ≡ false) (size : length r.given ≡ n) (unset : (v : ℕ) → v < n → get_or r.given v None ≡ None) where
  abbrev end : Run
  end = taken n r ms

  long : n ≤ length r.given
  long = omega (arith, size)

  end_size : length end.given ≡ n
  end_size = end_long n r ms ∙ size

  -- a variable given once is known, one not given is open
  given_byte : Fits n r.given ms → (v : ℕ) → v < n → times (suc v) ms ≡ 1 → get_or end.given v None ≡ Some (is_true (suc v) ms)
  given_byte f v h t = taken_byte n r ms long f v h ∙ rw t

  given_test : Fits n r.given ms → (v : ℕ) → v < n → is_some (get_or end.given v None) ≡ eqb (times (suc v) ms) 1
  given_test f v h =
      let m : times (suc v) ms ≤ 1 = rw (unset v h) at (f.once v h) in
      rw (taken_byte n r ms long f v h, unset v h) (by (times (suc v) ms) m (is_true (suc v) ms))
    where
      by : (t : ℕ) → t ≤ 1 → (b : Bool) → is_some (cond (eqb t 0) None (Some b)) ≡ eqb t 1
      by zero m b = refl
      by (suc zero) m b = refl
      by (suc (suc t)) m b = absurd (omega arith)

  all_test : Fits n r.given ms → list_all is_some end.given ≡ each_once 1 n ms
  all_test f =
      each_some end.given 1 ms (λ v l. rw number_of (given_test f v (omega (arith, l, end_size)))) ∙ ap (λ (k : ℕ). each_once 1 k ms) end_size

  all_bytes : Fits n r.given ms → each_once 1 n ms ≡ true → map byte end.given ≡ bytes_from 1 n ms
  all_bytes f o =
      each_byte end.given 1 ms (λ v l. let h : v < n = omega (arith, l, end_size) in rw number_of (given_byte f v h (rw number_of at (once_each 1 n ms o v h))))
      ∙ ap (λ (k : ℕ). bytes_from 1 k ms) end_size

  once_fits : each_given n ms ≡ true → Fits n r.given ms
  unfolding each_given
  once_fits g =
      record {
        knows = and_left (known n ms) _ g;
        once = λ v h. let e = rw number_of at (once_each 1 n ms (and_right (known n ms) _ g) v h) in rw (unset v h, e) (omega arith);
      }

  -- number 20
  pub given_is : run_given end ≡ each_given n ms
  unfolding each_given
  given_is = by end.state.wrong refl (each_given n ms) refl
    where
      by : (w : Bool) → end.state.wrong ≡ w → (g : Bool) → each_given n ms ≡ g → (not end.state.wrong && list_all is_some end.given) ≡ (known n ms && each_once 1 n ms)
      by false w g e = let f = (right_fits n r ms long w).1 in rw (w, f.knows) (all_test f)
      by true w true e = absurd (true≢false (sym w ∙ fits_right n r ms long right (once_fits e)))
      by true w false e = rw w (sym e)

  -- the bytes
  pub bytes_are : each_given n ms ≡ true → map byte end.given ≡ bytes_from 1 n ms
  unfolding each_given
  bytes_are g = all_bytes (once_fits g) (and_right (known n ms) _ g)
