use Rattle.std.proofs.Common.{◌≡◌, length, sym, ap, subst}
use Rattle.dg_meaning.specs.Moves.{looked_up}
use Rattle.dg_meaning.specs.Substitutions.{walk}
use Rattle.dg_unify.specs.Store.{State}
use Rattle.dg_lasting.specs.Subjects.{IsSubject}
use Rattle.dg_arena.specs.Held.{meaning_of}
use Rattle.dg_mid.specs.Actions.{registers_of}
use Rattle.dg_machine.specs.declared.now.Now.TheVariants.{Resumes, Fails}
use Rattle.dg_machine.specs.declared.now.Way.TheVariants.{Tries}
use Rattle.dg_machine.specs.Refs.{RefsAt}
use Rattle.dg_machine.specs.Measure.{with_way}
use Rattle.dg_machine.specs.Standing.{Stands}
use Rattle.dg_machine.proofs.Answered.{no_first, first_shows, sought_none, sought_open, sought_thing, sought_other, tries_all}
use Rattle.dg_machine.proofs.memory.Memory.seek_objects.Goals as goal

pub returns-in_default : goal.returns-in_default
returns-in_default c code g is_of l m vs may at h refs w =
    let r = c.args.self.now in
    let k = c.args.search in
    subst (Stands code l r Fails) (sym (sought_none code g l m k.place vs k.many k.next (no_first (meaning_of r.arena) r.args.items vs refs c.in_default.ensures))) h

pub returns-in-Open : goal.returns-in-Open
returns-in-Open c code g is_of l m vs may at h refs w =
    let r = c.args.self.now in
    let s = meaning_of r.arena in
    let k = c.args.search in
    let x = first_shows s m.state.subst r.args.items vs c.in-Some.first (ap (λ (t : State). t.subst) h.0.state_is) refs c.in-Some.ensures in
    let is = subst (IsSubject (walk m.state.subst x.first)) c.in-Open.is (c.subject_of.ensures s (walk m.state.subst x.first) x.shows) in
    let t = c.args.tables.now in
    let count : c.len-end.result ≡ length t.objects = c.len-end.ensures in
    subst (Stands code l (with_way r (Tries k 0 c.len-end.result)) Resumes) (sym (sought_open code g l m k.place vs k.many k.next x.first x.others x.is is))
    (tries_all code g l m t k c.len-end.result vs r is_of count refs h)

pub returns-in-Thing : goal.returns-in-Thing
returns-in-Thing c code g is_of l m vs may at h refs w =
    let r = c.args.self.now in
    let s = meaning_of r.arena in
    let k = c.args.search in
    let o = c.in-Thing.object in
    let x = first_shows s m.state.subst r.args.items vs c.in-Some.first (ap (λ (t : State). t.subst) h.0.state_is) refs c.in-Some.ensures in
    let is = subst (IsSubject (walk m.state.subst x.first)) c.in-Thing.is (c.subject_of.ensures s (walk m.state.subst x.first) x.shows) in
    subst (Stands code l c.read_object.new.self c.read_object.result) (sym (sought_thing code g l m k.place vs k.many k.next x.first x.others x.is o is))
    (c.read_object.ensures code g l m x.first x.others (looked_up (registers_of m) x.first) may at h (subst (RefsAt s r.args.items) x.is refs) w)

pub returns-in-Other : goal.returns-in-Other
returns-in-Other c code g is_of l m vs may at h refs w =
    let r = c.args.self.now in
    let s = meaning_of r.arena in
    let k = c.args.search in
    let x = first_shows s m.state.subst r.args.items vs c.in-Some.first (ap (λ (t : State). t.subst) h.0.state_is) refs c.in-Some.ensures in
    let is = subst (IsSubject (walk m.state.subst x.first)) c.in-Other.is (c.subject_of.ensures s (walk m.state.subst x.first) x.shows) in
    subst (Stands code l r Fails) (sym (sought_other code g l m k.place vs k.many k.next x.first x.others x.is is)) h
