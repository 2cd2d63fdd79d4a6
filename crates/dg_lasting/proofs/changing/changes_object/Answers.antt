use Rattle.std.proofs.Common.{ap, subst, sym, ◌<◌, ℕ}
use Rattle.dg_unify.proofs.StoreLemmas.{walked_to}
use Rattle.dg_lasting.specs.Changing.{in_store, all_in_store}
use Rattle.dg_lasting.specs.declared.subject.Subject.TheVariants.{Open, Thing, Other}
use Rattle.dg_lasting.proofs.ChangeLemmas.{asks_other, asks_open_set, asks_all, asks_one, asks_beyond}
use Rattle.dg_lasting.proofs.SubjectLemmas.{subject_resolved}
use Rattle.dg_lasting.proofs.changing.changes_object.Goals as goal

pub returns-then-sets : goal.returns-then-sets
returns-then-sets g c o is of few =
    let s = g.B.Bindings.meaning c.args.store.now in
    asks_open_set o c.args.objects c.args.kind c.args.place c.args.sets (in_store s c.in-Some.first) (all_in_store s c.in-Some.values.now) (all_in_store s c.args.args.now) (ap (all_in_store s) c.in-Some.ensures)
    (subject_resolved s (g.met.B.Bindings.sound c.args.store.now) c.in-Some.first Open (c.in-Open.ensures s (walked_to s c.in-Some.first) c.walk.ensures)) c.if-sets.true

pub returns-in-Other : goal.returns-in-Other
returns-in-Other g c o is of few =
    let s = g.B.Bindings.meaning c.args.store.now in
    asks_other o c.args.objects c.args.kind c.args.place c.args.sets (in_store s c.in-Some.first) (all_in_store s c.in-Some.values.now) (all_in_store s c.args.args.now) (ap (all_in_store s) c.in-Some.ensures)
    (subject_resolved s (g.met.B.Bindings.sound c.args.store.now) c.in-Some.first Other (c.in-Other.ensures s (walked_to s c.in-Some.first) c.walk.ensures))

pub returns-then-object-objects : goal.returns-then-object-objects
returns-then-object-objects g c o is of few =
    let s = g.B.Bindings.meaning c.args.store.now in
    asks_one o c.args.objects c.args.kind c.args.place c.in-Thing.object c.args.sets (in_store s c.in-Some.first) (all_in_store s c.in-Some.values.now) (all_in_store s c.args.args.now) c.changes_one.result (ap (all_in_store s) c.in-Some.ensures)
    (subject_resolved s (g.met.B.Bindings.sound c.args.store.now) c.in-Some.first (Thing c.in-Thing.object) (c.in-Thing.ensures s (walked_to s c.in-Some.first) c.walk.ensures)) c.if-object-objects.true
    (c.changes_one.ensures o is of (subst (λ (n : ℕ). c.in-Thing.object < n) (sym few) c.if-object-objects.true))

pub returns-else-object-objects : goal.returns-else-object-objects
returns-else-object-objects g c o is of few =
    let s = g.B.Bindings.meaning c.args.store.now in
    asks_beyond o c.args.objects c.args.kind c.args.place c.in-Thing.object c.args.sets (in_store s c.in-Some.first) (all_in_store s c.in-Some.values.now) (all_in_store s c.args.args.now) (ap (all_in_store s) c.in-Some.ensures)
    (subject_resolved s (g.met.B.Bindings.sound c.args.store.now) c.in-Some.first (Thing c.in-Thing.object) (c.in-Thing.ensures s (walked_to s c.in-Some.first) c.walk.ensures)) c.if-object-objects.false

pub returns-else-sets : goal.returns-else-sets
returns-else-sets g c o is of few =
    let s = g.B.Bindings.meaning c.args.store.now in
    asks_all o c.args.objects c.args.kind c.args.place c.args.sets (in_store s c.in-Some.first) (all_in_store s c.in-Some.values.now) (all_in_store s c.args.args.now) (ap (all_in_store s) c.in-Some.ensures)
    (subject_resolved s (g.met.B.Bindings.sound c.args.store.now) c.in-Some.first Open (c.in-Open.ensures s (walked_to s c.in-Some.first) c.walk.ensures)) c.if-sets.false is of
