use Rattle.std.proofs.Common.{◌∷◌, ◌∙◌, [], List, ap, arith, Some}
use Rattle.std.specs.Prelude.{Ok, Err}
use Rattle.std.specs.List.{zip}
use Rattle.dg_meaning.specs.Values.{Value, Object, leaf}
use Rattle.dg_world.specs.Tables.{simple_value}
use Rattle.dg_arena.specs.Held.{meaning_of}
use Rattle.dg_machine.specs.Layout.{Holds}
use Rattle.dg_machine.specs.Refs.{RefsAt}
use Rattle.dg_machine.proofs.HeadLemmas.{stays_on}
use Rattle.dg_machine.proofs.Kept.{moved_to}
use Rattle.dg_machine.proofs.Matching.{matched_in}
use Rattle.dg_machine.proofs.Opens.{on_arena}
use Rattle.dg_machine.proofs.Trying.{simple_is}
use Rattle.dg_machine.proofs.memory.Memory.meet_object.Goals as goal

pub match_heads-requires-clause-args : goal.match_heads-requires-clause-args
match_heads-requires-clause-args c =
    let r = c.args.self.now in
    let made = c.simple_value-made.new.arena in
    let stays = stays_on r.arena c.simple_value-thing.new.arena made c.simple_value-thing.ensures.stays c.simple_value-made.ensures.stays in
    (c.requires.0, moved_to (meaning_of r.arena) (meaning_of made) r.args.items c.as_slice.result.now c.requires.0 c.as_slice.ensures.value stays.keeps.kept c.requires.1)

pub match_heads-requires-clause-heads : goal.match_heads-requires-clause-heads
match_heads-requires-clause-heads c =
    let o = leaf (Object c.args.object) in (
      o ∷ simple_value c.args.value ∷ [],
      (c.simple_value-made.ensures.stays.keeps.kept.values c.simple_value-thing.result o c.simple_value-thing.ensures.value, (c.simple_value-made.ensures.value ∙ ap Some (simple_is c.args.value), tt)),
    )

pub returns-in-Err-clause-matched : goal.returns-in-Err-clause-matched
returns-in-Err-clause-matched c code l m vs h refs =
    let r = c.args.self.now in
    let made = c.simple_value-made.new.arena in
    let t = meaning_of made in
    let o = leaf (Object c.args.object) in
    let ws : List Value = o ∷ simple_value c.args.value ∷ [] in
    let stays = stays_on r.arena c.simple_value-thing.new.arena made c.simple_value-thing.ensures.stays c.simple_value-made.ensures.stays in
    let held : Holds code l (record r { arena = made }) m = on_arena code l m m.state r made h stays.keeps.kept stays.keeps.saved (stays.state ∙ h.0.state_is) (omega arith) in
    let there : RefsAt t (c.simple_value-thing.result ∷ c.simple_value-made.result ∷ []) ws = (c.simple_value-made.ensures.stays.keeps.kept.values c.simple_value-thing.result o c.simple_value-thing.ensures.value, (c.simple_value-made.ensures.value ∙ ap Some (simple_is c.args.value), tt)) in
    matched_in code l m (record r { arena = made }) c.match_heads.new.arena (zip vs ws) held c.in-Err.ensures.keeps (Err c.in-Err.full)
    (c.in-Err.ensures.matched vs ws (moved_to (meaning_of r.arena) t r.args.items c.as_slice.result.now vs c.as_slice.ensures.value stays.keeps.kept refs) there)

pub returns-in-Ok-clause-matched : goal.returns-in-Ok-clause-matched
returns-in-Ok-clause-matched c code l m vs h refs =
    let r = c.args.self.now in
    let made = c.simple_value-made.new.arena in
    let t = meaning_of made in
    let o = leaf (Object c.args.object) in
    let ws : List Value = o ∷ simple_value c.args.value ∷ [] in
    let stays = stays_on r.arena c.simple_value-thing.new.arena made c.simple_value-thing.ensures.stays c.simple_value-made.ensures.stays in
    let held : Holds code l (record r { arena = made }) m = on_arena code l m m.state r made h stays.keeps.kept stays.keeps.saved (stays.state ∙ h.0.state_is) (omega arith) in
    let there : RefsAt t (c.simple_value-thing.result ∷ c.simple_value-made.result ∷ []) ws = (c.simple_value-made.ensures.stays.keeps.kept.values c.simple_value-thing.result o c.simple_value-thing.ensures.value, (c.simple_value-made.ensures.value ∙ ap Some (simple_is c.args.value), tt)) in
    matched_in code l m (record r { arena = made }) c.match_heads.new.arena (zip vs ws) held c.in-Ok.ensures.keeps (Ok c.in-Ok.agreed)
    (c.in-Ok.ensures.matched vs ws (moved_to (meaning_of r.arena) t r.args.items c.as_slice.result.now vs c.as_slice.ensures.value stays.keeps.kept refs) there)
