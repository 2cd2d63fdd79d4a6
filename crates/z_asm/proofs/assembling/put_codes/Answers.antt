use Rattle.std.proofs.Common.{length, map, drop, sym, ap, ◌∙◌, subst, arith}
use Rattle.z_asm.specs.declared.image.Code.{Code}
use Rattle.z_asm.specs.Layout.{code_size, names_at}
use Rattle.z_asm.specs.inside.Filled.{IsWritable}
use Rattle.z_asm.proofs.Layouts.{end_most, next_end, near, padded_long}
use Rattle.z_asm.proofs.Parts.{writable_next, codes_step}
use Rattle.z_asm.proofs.assembling.put_codes.Goals as goal

pub pad-requires : goal.pad-requires
pad-requires c = omega (arith, end_most (length c.loop-code.out.items) (map code_size (drop c.loop-code.code-index c.args.codes.now)), c.loop-code.invariant.within)

pub put_code-requires-clause-within : goal.put_code-requires-clause-within
put_code-requires-clause-within c =
    let a = near code_size c.args.codes.now c.loop-code.code-index c.code-item.result (length c.loop-code.out.items) 2147483648 c.loop-code-test.true c.code-item.is c.loop-code.invariant.within in
    let b = ap length c.in_ok-pad.ensures ∙ padded_long c.loop-code.out.items in
    omega arith

pub loop-code-preserved : goal.loop-code-preserved
loop-code-preserved c =
    let codes = c.args.codes.now in
    let i = c.loop-code.code-index in
    let out = c.loop-code.out.items in
    let next = writable_next (names_at c.args.names.now) codes i c.code-item.result c.loop-code-test.true c.loop-code.invariant.writable in
    let here : IsWritable (names_at c.args.names.now) c.code-item.result = subst (λ (x : Code). IsWritable (names_at c.args.names.now) x) (sym c.code-item.is) next.0 in
    let step = codes_step (names_at c.args.names.now) codes i c.code-item.result _ out c.pad.new.out.items c.put_code.new.out.items c.loop-code-test.true c.code-item.is here c.loop-code.invariant.rest c.in_ok-pad.ensures c.in_ok-put_code.ensures in
    let e = next_end code_size codes i c.code-item.result (length out) c.loop-code-test.true c.code-item.is in
    let w = c.loop-code.invariant.within in
    record { rest = step.0; within = rw (step.1, sym e) w; writable = next.1 }
