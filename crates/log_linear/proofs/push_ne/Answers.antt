-- `log_linear::push_ne` meets its contract.
use Rattle.std.proofs.Common.{rules}
use Rattle.std.specs.Iterator.Adapters.{zip_first, zip_second}
use Rattle.std.specs.Slice.Iter.{iter_rest}
use Rattle.std.proofs.lemmas.Slice.Zip.{zip_turn, zip_end}
use mathlib.Core.Path.{◌≡◌, ap, refl, sym, ◌∙◌}
use Rattle.clause_set.proofs.Writing.{wrote_as, wrote_then}
use mathlib.Core.List.{[], ◌∷◌, ◌++◌, map}
use Prim.Native.Nat.{◌+◌, ◌*◌}
use native.Mathlib.Omega.{arith}
use lib.ListN.{drop, get_or, length, length-append, length-drop, length-map}
use Rattle.sat.specs.Encoded.{after_clauses}
use Rattle.clause_set.specs.Clause.{clause_lits}
use Rattle.sat.specs.LitArray.{lit, num}
use Rattle.log_encoding.specs.Compare.{ne_bits, xor_gate}
use Rattle.log_linear.proofs.Comparing.{ne_end, ne_step, nums_from, nums_next, rule_end, rule_turn}
use Rattle.log_linear.proofs.push_ne.Goals as goal

pub loop-p-preserved : goal.loop-p-preserved
loop-p-preserved c =
    let l = c.loop-p in
    let ps = c.args.ps.now in
    let ns = c.args.ns.now in
    let s = c.into_iter-p-iterator.result in
    let first : iter_rest (zip_first s) ≡ ps = search rules in
    let second : iter_rest (zip_second s) ≡ ns = search rules in
    let turn = zip_turn ps ns l.yielded s l.p-iterator c.next.new.self c.next.result first second l.yielded_by (c.in-Some.p, c.in-Some.n) c.in-Some.is c.next.ensures.steps in
    let i = length l.yielded in
    let p = (get_or ps i (lit 0)).0 in
    let n = (get_or ns i (lit 0)).0 in
    let v = l.set.vars in
    let x = c.new_lit-aux.ensures in
    let e : length (l.yielded ++ ((c.in-Some.p, c.in-Some.n) ∷ [])) ≡ i + 1 = length-append l.yielded _ in
    let gate : xor_gate c.new_lit-aux.result.0 c.in-Some.p.now.0 c.in-Some.n.now.0 ≡ xor_gate (2 * v) p n =
    λ j. xor_gate (x.new_lit j) (turn.2 (lit 0) j).0 (turn.3 (lit 0) j).0 in
    let front = c.push.ensures.1 ∙ ap (λ q. clause_lits l.clause ++ (q ∷ [])) x.new_lit in
    let vars = c.xor_gate.ensures.vars_are ∙ x.wrote.vars_are in
    let rest : ne_bits (drop (i + 1) (map num ps)) (drop (i + 1) (map num ns)) (clause_lits l.clause ++ (2 * v ∷ [])) (v + 1) ≡ _ =
    λ j. ne_bits (drop (sym e j) (map num ps)) (drop (sym e j) (map num ns)) (sym front j) (sym vars j) in (
      rule_turn (xor_gate (2 * v) p n) _
          (ne_step p n _ _ (clause_lits l.clause) v (nums_next ps i turn.0) (nums_next ns i turn.1) ∙ ap (after_clauses (xor_gate (2 * v) p n)) rest)
          e (omega arith) (omega arith) l.invariant.0 (wrote_as (wrote_then x.wrote c.xor_gate.ensures) refl gate),
      omega (arith, e, c.push.ensures.0, l.invariant.1),
      omega (arith, e, c.xor_gate.ensures.vars_are, x.wrote.vars_are, l.invariant.2),
    )

pub returns : goal.returns
returns c =
    let l = c.loop-p in
    let ps = c.args.ps.now in
    let ns = c.args.ns.now in
    let s = c.into_iter-p-iterator.result in
    let first : iter_rest (zip_first s) ≡ ps = search rules in
    let second : iter_rest (zip_second s) ≡ ns = search rules in
    let all = zip_end ps ns l.yielded s l.p-iterator c.next.new.self c.next.result first second l.yielded_by c.in-None.is c.next.ensures.steps in
    let i = length l.yielded in
    let m = c.min-common.ensures in
    let k : c.min-common.result ≡ i = m ∙ sym all in
    let front = clause_lits l.clause in
    let first_rest = c.extend.ensures.1 ∙ ap (λ q. front ++ q) (nums_from ps c.min-common.result i k) in
    let both = c.extend-2.ensures.1 ∙ ap (λ q. clause_lits c.extend.new.self ++ q) (nums_from ns c.min-common.result i k) ∙ ap (λ q. q ++ drop i (map num ns)) first_rest in
    rule_end (((front ++ drop i (map num ps)) ++ drop i (map num ns)) ∷ [])
    (ne_end (drop i (map num ps)) (drop i (map num ns)) front l.set.vars (omega (arith, length-drop i (map num ps), length-drop i (map num ns), length-map ps num, length-map ns num, all)))
    l.invariant.0 (wrote_as c.push-2.ensures.added refl (ap (λ q. q ∷ []) (c.as_slice.ensures ∙ both)))
