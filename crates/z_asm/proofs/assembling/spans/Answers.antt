use Rattle.std.proofs.Common.{◌≡◌, map, drop, arith}
use Rattle.z_asm.specs.Layout.{code_size}
use Rattle.z_asm.proofs.Layouts.{end_most}
use Rattle.z_asm.proofs.Spans.{routine_near, span_next, near_next}
use Rattle.z_asm.proofs.assembling.spans.Goals as goal

pub aligned-start-requires : goal.aligned-start-requires
aligned-start-requires c =
    let rest = map code_size (drop c.loop-code.code-index c.args.image.now.routines) in
    omega (arith, end_most c.loop-code.end rest, c.loop-code.invariant.near)

pub overflow_add-end : goal.overflow_add-end
overflow_add-end c =
    let lt = rw c.as_slice-code-items.ensures at c.loop-code-test.true in
    let is = rw c.as_slice-code-items.ensures at c.code-item.is in
    let l = c.loop-code in
    let n = routine_near c.args.image.now.routines l.code-index c.code-item.result l.end lt is l.invariant.near in
    omega (arith, n, c.size_of_code.ensures, c.aligned-start.ensures)

pub overflow_cast-start : goal.overflow_cast-start
overflow_cast-start c =
    let lt = rw c.as_slice-code-items.ensures at c.loop-code-test.true in
    let is = rw c.as_slice-code-items.ensures at c.code-item.is in
    let l = c.loop-code in
    let n = routine_near c.args.image.now.routines l.code-index c.code-item.result l.end lt is l.invariant.near in
    omega (arith, n, c.aligned-start.ensures)

pub overflow_cast-end : goal.overflow_cast-end
overflow_cast-end c =
    let lt = rw c.as_slice-code-items.ensures at c.loop-code-test.true in
    let is = rw c.as_slice-code-items.ensures at c.code-item.is in
    let l = c.loop-code in
    let n = routine_near c.args.image.now.routines l.code-index c.code-item.result l.end lt is l.invariant.near in
    omega (arith, n, c.size_of_code.ensures, c.aligned-start.ensures)

pub loop-code-preserved : goal.loop-code-preserved
loop-code-preserved c =
    let codes = c.args.image.now.routines in
    let lt = rw c.as_slice-code-items.ensures at c.loop-code-test.true in
    let is = rw c.as_slice-code-items.ensures at c.code-item.is in
    let l = c.loop-code in
    let code = c.code-item.result in
    let start = c.aligned-start.result in
    let size = c.size_of_code.result in
    let n = routine_near codes l.code-index code l.end lt is l.invariant.near in
    let same : size ≡ code_size code = omega (arith, n, c.size_of_code.ensures) in
    record {
      rest = span_next codes l.code-index code c.args.from l.end start size l.places.items c.push.new.self.items lt is c.aligned-start.ensures same l.invariant.rest c.in_ok-push.ensures.items;
      near = near_next codes l.code-index code l.end start size lt is c.aligned-start.ensures same l.invariant.near;
    }
