use Rattle.std.proofs.Common.{◌≡◌, ◌+◌, true, refl, length, rules}
use Rattle.std.specs.Prelude.{nat_lt}
use Rattle.dg_meaning.specs.Facts.{kinds_of}
use Rattle.dg_choices.specs.declared.frames.Left.TheVariants.{Things}
use Rattle.dg_meaning.specs.inside.Finding.{may_find}
use Rattle.dg_interp.specs.inside.Engine.{store_in, BeginsAt}
use Rattle.dg_interp.proofs.Branches.{tries_made, full_made}
use Rattle.dg_interp.proofs.Tryings.{not_found, trial_full, trying_ready, trying_limits, trial_leads}
use Rattle.dg_interp.proofs.engine.Engine.begin_object.Goals as goal

pub returns-then-not-may_find-clause-tried : goal.returns-then-not-may_find-clause-tried
returns-then-not-may_find-clause-tried c = not_found c.args.self.now c.args.trial c.args.args c.args.place c.requires.sound c.requires.some (search rules)

pub returns-in-Err-clause-full : goal.returns-in-Err-clause-full
returns-in-Err-clause-full c =
    let may : true ≡ may_find (kinds_of c.args.self.now.program.now) c.args.trial.place = search rules in
    trial_full c.args.self.now c.args.trial c.args.args (nat_lt (c.args.trial.from + 1) c.args.trial.end) c.trial_cells-cells.result c.args.place c.keep.new.store c.keep.new.choices c.requires.sound c.requires.left c.requires.some c.requires.place refl c.trial_cells-cells.ensures c.keep.ensures.kept c.keep.ensures.saved may c.in-Err.e c.in-Err.ensures.taken

pub find-requires-clause-ready : goal.find-requires-clause-ready
find-requires-clause-ready c =
    let may : true ≡ may_find (kinds_of c.args.self.now.program.now) c.args.trial.place = search rules in
    let h : c.len-height.result ≡ length c.args.self.now.frames.items = search rules in
    rw c.body_mark.ensures (rw h (trying_ready c.args.self.now c.args.trial c.args.args (nat_lt (c.args.trial.from + 1) c.args.trial.end) c.trial_cells-cells.result c.args.place c.keep.new.store c.keep.new.choices c.requires.sound c.requires.left c.requires.some c.requires.place refl c.trial_cells-cells.ensures c.keep.ensures.kept c.keep.ensures.saved may _ c.in_default.ensures.taken (rw c.choice_here-choice.ensures at c.in_default.ensures.choices) refl))

pub returns-clause-tried : goal.returns-clause-tried
returns-clause-tried c =
    let may : true ≡ may_find (kinds_of c.args.self.now.program.now) c.args.trial.place = search rules in
    let h : c.len-height.result ≡ length c.args.self.now.frames.items = search rules in
    tries_made (BeginsAt (Things c.args.trial c.args.args) c.args.place c.args.self.now) _ c.args.self.now _ c.find.new.self refl
    (trying_limits c.args.self.now c.args.trial c.args.args (nat_lt (c.args.trial.from + 1) c.args.trial.end) c.trial_cells-cells.result c.args.place c.keep.new.store c.keep.new.choices c.requires.sound c.requires.left c.requires.some c.requires.place refl c.trial_cells-cells.ensures c.keep.ensures.kept c.keep.ensures.saved may _ c.in_default.ensures.taken (rw c.choice_here-choice.ensures at c.in_default.ensures.choices) refl)
    (trial_leads c.args.self.now c.args.trial c.args.args (nat_lt (c.args.trial.from + 1) c.args.trial.end) c.trial_cells-cells.result c.args.place c.keep.new.store c.keep.new.choices c.requires.sound c.requires.left c.requires.some c.requires.place refl c.trial_cells-cells.ensures c.keep.ensures.kept c.keep.ensures.saved may _ c.in_default.ensures.taken (rw c.choice_here-choice.ensures at c.in_default.ensures.choices) refl)
    c.find.result (rw c.body_mark.ensures at (rw h at c.find.ensures.tried))

pub returns-clause-full : goal.returns-clause-full
returns-clause-full c =
    let may : true ≡ may_find (kinds_of c.args.self.now.program.now) c.args.trial.place = search rules in
    let h : c.len-height.result ≡ length c.args.self.now.frames.items = search rules in
    full_made (BeginsAt (Things c.args.trial c.args.args) c.args.place c.args.self.now) _ (store_in c.args.self.now.store) (store_in c.keep.new.store) c.find.result c.keep.ensures.kept.heap_limit c.keep.ensures.kept.trail_limit
    (trial_leads c.args.self.now c.args.trial c.args.args (nat_lt (c.args.trial.from + 1) c.args.trial.end) c.trial_cells-cells.result c.args.place c.keep.new.store c.keep.new.choices c.requires.sound c.requires.left c.requires.some c.requires.place refl c.trial_cells-cells.ensures c.keep.ensures.kept c.keep.ensures.saved may _ c.in_default.ensures.taken (rw c.choice_here-choice.ensures at c.in_default.ensures.choices) refl)
    (rw c.body_mark.ensures at (rw h at c.find.ensures.full))
