-- `solver_reading::State::on_values` meets its contract.
use Prim.Native.Nat.{◌+◌}
use lib.Dec.{eqb}
use lib.ListN.{drop, length}
use mathlib.Core.Bool.{false, true}
use mathlib.Core.List.{◌∷◌}
use mathlib.Core.Path.{◌∙◌, ◌≡◌, ap, sym}
use Rattle.std.proofs.Common.{rules, tests}
use Rattle.std.proofs.lemmas.Iterator.Consumers.{YieldsList-end, YieldsList-turn}
use Rattle.std.proofs.lemmas.Iterator.Splits.{YieldsList-from_slice_split}
use Rattle.std.proofs.lemmas.List.{length_push}
use Rattle.lines.specs.Reading.{split}
use Rattle.solver_reading.specs.Reading.{is_found, run}
use Rattle.solver_reading.specs.declared.State.{State}
use Rattle.solver_reading.proofs.Lines.{split_is}
use Rattle.solver_reading.proofs.Taking.{piece_here, pieces_broken, pieces_end, pieces_turn}
use Rattle.solver_reading.proofs.Whole.{values_begun, values_early}
use Rattle.solver_reading.proofs.State.on_values.Goals as goal
use Rattle.solver_reading.proofs.State.on_values.Goals.{In-Some}

pub returns-then-ne : goal.returns-then-ne
returns-then-ne c =
    let a = c.args in
    let e : is_found a.self.phase ≡ false = search rules in
    ap (λ (s : State). run s a.given.now) c.in_phase.ensures ∙ sym (values_early (length a.given.now) (run a.self a.given.now) (split 32 a.numbers.now) e)

-- the piece at hand
here : (c : In-Some) → drop (length c.loop-piece.yielded) (split 32 c.args.numbers.now) ≡ c.in-Some.piece.now ∷ drop (length c.loop-piece.yielded + 1) (split 32 c.args.numbers.now)
here c =
    let t = YieldsList-turn (YieldsList-from_slice_split _ (λ b. eqb b 32) c.args.numbers.now (cc) (cc) (cc) (λ x b q k. search (rules, tests))) c.loop-piece.yielded _ c.loop-piece.yielded_by _ _ c.in-Some.piece c.in-Some.is c.next.ensures.steps in
    piece_here (split 32 c.args.numbers.now) (length c.loop-piece.yielded) (rw (split_is 32 c.args.numbers.now) t)

pub returns-in_default : goal.returns-in_default
returns-in_default c =
    let a = c.args in
    let l = c.loop-piece in
    let e : is_found a.self.phase ≡ true = search rules in
    ap (λ (s : State). run s l.given) c.in_phase-in_default.ensures
    ∙ pieces_broken (length a.given.now) (length l.given) (run l.here l.given) (split 32 a.numbers.now) (length l.yielded) c.in-Some.piece.now (search rules) (here (goal.at.returns-in_default c).In-Some) l.invariant (sym c.number_of.ensures ∙ c.in_default.is)
    ∙ sym (values_begun (length a.given.now) (run a.self a.given.now) a.numbers.now e)

pub loop-piece-preserved : goal.loop-piece-preserved
loop-piece-preserved c =
    let a = c.args in
    let l = c.loop-piece in
    pieces_turn (length a.given.now) (length l.given) (run l.here l.given) (split 32 a.numbers.now) (length l.yielded) c.in-Some.piece.now (search rules) (here (goal.at.loop-piece-preserved c).In-Some) l.invariant
    c.requires (search rules) (length_push l.yielded c.in-Some.piece) (sym c.number_of.ensures ∙ c.in-Some-number_of.is) c.take_number-here.ensures

pub returns : goal.returns
returns c =
    let a = c.args in
    let l = c.loop-piece in
    let e : is_found a.self.phase ≡ true = search rules in
    let t = YieldsList-end (YieldsList-from_slice_split _ (λ b. eqb b 32) a.numbers.now (cc) (cc) (cc) (λ x b q k. search (rules, tests))) l.yielded _ l.yielded_by _ _ c.in-None.is c.next.ensures.steps in
    pieces_end (length l.given) (run l.here l.given) (split 32 a.numbers.now) (length l.yielded) (rw (split_is 32 a.numbers.now) t.1) l.invariant
    ∙ sym (values_begun (length a.given.now) (run a.self a.given.now) a.numbers.now e)
