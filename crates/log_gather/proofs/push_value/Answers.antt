-- `log_gather::push_value` meets its contract.
use Prim.Native.Nat.{◌+◌, ◌<◌}
use mathlib.Core.Path.{◌≡◌}
use mathlib.Core.List.{map, [], ◌∷◌}
use native.Mathlib.Omega.{arith}
use lib.ListN.{get_or, length, take}
use lib.Seq.{take_all}
use Rattle.sat.specs.LitArray.{first_lits, lit, num}
use Rattle.log_encoding.specs.Gather.{push_value}
use Rattle.log_gather.specs.Arrays.{Pushed}
use Rattle.log_gather.proofs.Pushing.{pushed_past, pushed_start, pushed_stored, pushed_then, push_more}
use Rattle.log_gather.proofs.push_value.Goals as goal
use Rattle.log_gather.proofs.push_value.Goals.{then-at-lt12, else-at-lt12}

pub loop-j-init : goal.loop-j-init
loop-j-init c = pushed_start c.args.cols.now c.args.from c.requires.arrays.0

pub overflow_add-cols : goal.overflow_add-cols
overflow_add-cols c =
    let l = c.loop-j in
    let k = l.invariant.few 4294967000 c.requires.arrays.1 (c.args.from + l.j) in
    omega (arith, k, c.requires.lits.0, c.loop-j-test.true)

pub loop-j-preserved : goal.loop-j-preserved
loop-j-preserved c =
    let o = c.args.from in
    let l = c.loop-j in
    let w = o + l.j in
    let lits = c.args.lits.now in
    let x = get_or lits l.j (lit 0) in
    let within : w < 32 = omega (arith, c.requires.lits.0, c.loop-j-test.true) in
    let low = c.requires.lits.1 l.j in
    let one : Pushed 1 l.cols (push_value w (x.0 ∷ [])) c.if-at-lt12.cols =
    elim c.if-at-lt12.branch [
      | then-at-lt12 v ↦ rw v.cols-is (pushed_stored l.cols w x within low l.invariant.arrays v.if-at-lt12.true)
      | else-at-lt12 v ↦ rw v.cols-is (pushed_past l.cols w x within low l.invariant.arrays v.if-at-lt12.false)
    ] in
    pushed_then (push_value o (first_lits lits (l.j + 1))) (push_value o (first_lits lits l.j)) (push_value w (x.0 ∷ [])) (push_more o lits l.j c.loop-j-test.true) l.invariant one

pub returns : goal.returns
returns c =
    let l = c.loop-j in
    let lits = c.args.lits.now in
    let e : l.j ≡ length lits = omega (arith, l.auto.j-end, c.loop-j-test.false) in
    let all : take l.j lits ≡ lits = take_all l.j lits (omega arith) in
    let p : Pushed l.j c.args.cols.now (push_value c.args.from (map num lits)) l.cols = rw all at l.invariant in
    rw e at p
