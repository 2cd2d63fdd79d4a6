use Rattle.std.proofs.Common.{◌≤◌, List, ℕ, sym, subst, length}
use Rattle.dg_meaning.specs.Copies.{copy_cells}
use Rattle.dg_meaning.specs.Words.{spelled_list, spellings_of}
use Rattle.dg_unify.specs.Store.{Made}
use Rattle.dg_unify.proofs.StoreLemmas.{holds_some, kept_holds}
use Rattle.dg_texts.specs.Spelling.{TooMany}
use Rattle.dg_arena.specs.Held.{meaning_of}
use Rattle.dg_machine.proofs.Opens.{took}
use Rattle.dg_machine.proofs.Wordings.{made_lacks, made_g, gives_over, gives_led}
use Rattle.dg_machine.proofs.memory.Memory.give_line.Goals as goal

pub write_line-requires-clause-few : goal.write_line-requires-clause-few
write_line-requires-clause-few c = subst (λ (ws : List (List ℕ)). length ws ≤ 65535) (sym c.as_slice.ensures) c.args.tables.now.few

pub unify_made-requires-clause-into : goal.unify_made-requires-clause-into
unify_made-requires-clause-into c = kept_holds (meaning_of c.args.self.now.arena) (meaning_of c.write_line.new.store) c.args.into c.write_line.ensures.kept c.requires.into

pub unify_made-requires-clause-made : goal.unify_made-requires-clause-made
unify_made-requires-clause-made c = let r = c.requires.line in holds_some (meaning_of c.write_line.new.store) c.in-Ok.made _ (c.in-Ok.ensures.made r.letters r.hold r.is).value

pub returns-in-Err : goal.returns-in-Err
returns-in-Err c code letters short is g l m u w at h into =
    let r = c.args.self.now in
    let v = spelled_list c.args.tables.now.words (spellings_of letters) in
    gives_over code g l m u v w r (record r { arena = c.write_line.new.store }) h
    (made_lacks code l m r c.write_line.new.store (copy_cells v) h c.write_line.ensures.kept c.in-Err.field-0 (subst (λ ws. TooMany (copy_cells (spelled_list ws (spellings_of letters))) (meaning_of r.arena) c.in-Err.field-0) c.as_slice.ensures (c.in-Err.ensures.made letters short is)))

pub returns-in-Ok : goal.returns-in-Ok
returns-in-Ok c code letters short is g l m u w at h into =
    let r = c.args.self.now in
    let a = c.write_line.new.store in
    let v = spelled_list c.args.tables.now.words (spellings_of letters) in
    let made : Made (copy_cells v) (meaning_of r.arena) (meaning_of a) c.in-Ok.made v = subst (λ ws. Made (copy_cells (spelled_list ws (spellings_of letters))) (meaning_of r.arena) (meaning_of a) c.in-Ok.made (spelled_list ws (spellings_of letters))) c.as_slice.ensures (c.in-Ok.ensures.made letters short is) in
    let held = took code l m (copy_cells v) r a h c.write_line.ensures.kept c.write_line.ensures.saved made.charged in
    gives_led code g l m u v w (record r { arena = a }) c.unify_made.new.self c.unify_made.result held
    (c.unify_made.ensures code g l (made_g code g l m u v w) u v at held (c.write_line.ensures.kept.values c.args.into u into) made.value)
