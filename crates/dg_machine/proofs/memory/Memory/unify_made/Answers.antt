use Rattle.std.proofs.Common.{◌∷◌, []}
use Rattle.std.specs.Prelude.{Ok, Err}
use Rattle.dg_meaning.specs.Unify.{Equations}
use Rattle.dg_meaning.specs.inside.Unify.{unify}
use Rattle.dg_arena.specs.Held.{meaning_of}
use Rattle.dg_machine.specs.Refs.{Keeps}
use Rattle.dg_machine.proofs.Matching.{matched_in}
use Rattle.dg_machine.proofs.HeadLemmas.{follows_told}
use Rattle.dg_machine.proofs.Unifying.{agreed_stands, clash_stands, unmatched_stands}
use Rattle.dg_machine.proofs.memory.Memory.unify_made.Goals as goal

pub returns-in-Err : goal.returns-in-Err
returns-in-Err c code g l m u v at h into made =
    let r = c.args.self.now in
    let es : Equations = (u, v) ∷ [] in
    let keeps : Keeps r.arena c.unify.new.store = record { kept = c.in-Err.ensures.kept; saved = c.in-Err.ensures.saved } in
    unmatched_stands code g l (unify m.state.subst u v) m (record r { arena = c.unify.new.store })
    (matched_in code l m r c.unify.new.store es h keeps (Err c.in-Err.field-0) (follows_told (meaning_of r.arena) (meaning_of c.unify.new.store) c.args.into c.args.made u v (Err c.in-Err.field-0) into made c.in-Err.ensures.unified))

pub returns-in-Ok-false : goal.returns-in-Ok-false
returns-in-Ok-false c code g l m u v at h into made =
    let r = c.args.self.now in
    let es : Equations = (u, v) ∷ [] in
    let b = c.in-Ok-false.field-0 in
    let keeps : Keeps r.arena c.unify.new.store = record { kept = c.in-Ok-false.ensures.kept; saved = c.in-Ok-false.ensures.saved } in
    clash_stands code g l (unify m.state.subst u v) m (record r { arena = c.unify.new.store }) b c.in-Ok-false.field-0-test
    (matched_in code l m r c.unify.new.store es h keeps (Ok b) (follows_told (meaning_of r.arena) (meaning_of c.unify.new.store) c.args.into c.args.made u v (Ok b) into made c.in-Ok-false.ensures.unified))

pub returns-in-Ok-true : goal.returns-in-Ok-true
returns-in-Ok-true c code g l m u v at h into made =
    let r = c.args.self.now in
    let es : Equations = (u, v) ∷ [] in
    let b = c.in-Ok-true.field-0 in
    let keeps : Keeps r.arena c.unify.new.store = record { kept = c.in-Ok-true.ensures.kept; saved = c.in-Ok-true.ensures.saved } in
    agreed_stands code g l (unify m.state.subst u v) m (record r { arena = c.unify.new.store }) c.args.rest b c.in-Ok-true.field-0-test at
    (matched_in code l m r c.unify.new.store es h keeps (Ok b) (follows_told (meaning_of r.arena) (meaning_of c.unify.new.store) c.args.into c.args.made u v (Ok b) into made c.in-Ok-true.ensures.unified))
