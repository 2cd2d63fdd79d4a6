use Rattle.std.proofs.Common.{◌≡◌, ◌+◌, ◌-◌, ◌%◌, ◌<◌, ℕ, zero, suc, true, refl, sym, ◌∙◌, arith}
use Rattle.z_model.specs.declared.story.Layout.{Layout}
use Rattle.z_model.specs.Memory.{is_writable, have_right}
use Rattle.z_memory.specs.Rights.{based}
use Rattle.z_memory.proofs.memory.may_write_all.Goals as goal

one_more : (layout : Layout) (a n : ℕ) → 0 < n → is_writable layout a ≡ true → have_right (is_writable layout) a n ≡ have_right (is_writable layout) ((a + 1) % 65536) (n - 1)
unfolding have_right
one_more layout a zero some may = absurd (omega arith)
one_more layout a (suc n) some may =
    let less : suc n - 1 ≡ n = omega arith in
    rw (may, less) refl

pub loop-left-preserved : goal.loop-left-preserved
loop-left-preserved c = sym (one_more (based c.args.base) c.loop-left.at c.loop-left.left c.loop-left-test.true (sym c.is_writable.ensures ∙ c.if-not-is_writable.false)) ∙ c.loop-left.invariant
