-- `log_linear::push_ge` meets its contract.
use Rattle.std.proofs.Common.{rules}
use Rattle.std.specs.Prelude.{Some}
use Rattle.std.specs.Iterator.Adapters.{zip_first, zip_second}
use Rattle.std.specs.Slice.Iter.{iter_rest}
use Rattle.std.proofs.lemmas.Slice.Zip.{zip_turn, zip_end}
use mathlib.Core.Path.{◌≡◌, ap, refl, sym, ◌∙◌}
use mathlib.Core.List.{[], ◌∷◌, ◌++◌, map}
use Prim.Native.Nat.{◌+◌, ◌*◌}
use native.Mathlib.Omega.{arith}
use lib.ListN.{drop, get_or, length, length-append, length-drop, length-map}
use Rattle.sat.specs.Encoded.{after_clauses}
use Rattle.sat.specs.LitArray.{lit, num}
use Rattle.clause_set.proofs.Writing.{wrote_as, wrote_then}
use Rattle.log_linear.specs.SubLit.{ge_end, ge_gate, ge_left, sub_of}
use Rattle.log_linear.proofs.Comparing.{ge_end_is, ge_gate_size, ge_step, nums_from, nums_next, rule_end, rule_turn}
use Rattle.log_linear.proofs.push_ge.Goals as goal

pub loop-p-preserved : goal.loop-p-preserved
loop-p-preserved c =
    let l = c.loop-p in
    let ps = c.args.ps.now in
    let ns = c.args.ns.now in
    let s = c.into_iter-p-iterator.result in
    let first : iter_rest (zip_first s) ≡ ps = search rules in
    let second : iter_rest (zip_second s) ≡ ns = search rules in
    let turn = zip_turn ps ns l.yielded s l.p-iterator c.next.new.self c.next.result first second l.yielded_by (c.in-Some.p, c.in-Some.n) c.in-Some.is c.next.ensures.steps in
    let i = length l.yielded in
    let p = (get_or ps i (lit 0)).0 in
    let n = (get_or ns i (lit 0)).0 in
    let v = l.set.vars in
    let sub = sub_of l.sub in
    let x = c.new_lit-next.ensures in
    let e : length (l.yielded ++ ((c.in-Some.p, c.in-Some.n) ∷ [])) ≡ i + 1 = length-append l.yielded _ in
    let gate : ge_gate sub c.new_lit-next.result.0 c.in-Some.p.now.0 c.in-Some.n.now.0 ≡ ge_gate sub (2 * v) p n =
    λ j. ge_gate sub (x.new_lit j) (turn.2 (lit 0) j).0 (turn.3 (lit 0) j).0 in
    let vars = c.ge_gate.ensures.vars_are ∙ x.wrote.vars_are in
    let rest : ge_left (Some (2 * v)) (drop (i + 1) (map num ps)) (drop (i + 1) (map num ns)) (v + 1) ≡ _ =
    λ j. ge_left (Some (sym x.new_lit j)) (drop (sym e j) (map num ps)) (drop (sym e j) (map num ns)) (sym vars j) in
    let z = ge_gate_size sub (2 * v) p n in (
      rule_turn (ge_gate sub (2 * v) p n) _
          (ge_step sub p n _ _ v (nums_next ps i turn.0) (nums_next ns i turn.1) ∙ ap (after_clauses (ge_gate sub (2 * v) p n)) rest)
          e z.0 z.1 l.invariant.0 (wrote_as (wrote_then x.wrote c.ge_gate.ensures) refl gate),
      omega (arith, e),
      omega (arith, e, vars, l.invariant.2),
    )

pub returns : goal.returns
returns c =
    let l = c.loop-p in
    let ps = c.args.ps.now in
    let ns = c.args.ns.now in
    let s = c.into_iter-p-iterator.result in
    let first : iter_rest (zip_first s) ≡ ps = search rules in
    let second : iter_rest (zip_second s) ≡ ns = search rules in
    let all = zip_end ps ns l.yielded s l.p-iterator c.next.new.self c.next.result first second l.yielded_by c.in-None.is c.next.ensures.steps in
    let i = length l.yielded in
    let m = c.min-common.ensures in
    let k : c.min-common.result ≡ i = m ∙ sym all in
    let same : ge_end (sub_of l.sub) _ _ ≡ ge_end (sub_of l.sub) (drop i (map num ps)) (drop i (map num ns)) =
    λ j. ge_end (sub_of l.sub) (nums_from ps c.min-common.result i k j) (nums_from ns c.min-common.result i k j) in
    rule_end (ge_end (sub_of l.sub) (drop i (map num ps)) (drop i (map num ns)))
    (ge_end_is (sub_of l.sub) (drop i (map num ps)) (drop i (map num ns)) l.set.vars (omega (arith, length-drop i (map num ps), length-drop i (map num ns), length-map ps num, length-map ns num, all)))
    l.invariant.0 (wrote_as c.ge_end.ensures refl same)
