use Rattle.std.proofs.Common.{◌≡◌, ◌-◌, ◌+◌, ◌<◌, subst, arith, length, get_or}
use Rattle.dg_meaning.specs.Values.{Nil, leaf, pair}
use Rattle.dg_unify.specs.Store.{told}
use Rattle.dg_unify.proofs.StoreLemmas.{holds_some}
use Rattle.dg_arena.specs.Held.{meaning_of}
use Rattle.dg_machine.proofs.Kept.{refs_kept}
use Rattle.dg_machine.proofs.TermLemmas.{refs_get, refs_length}
use Rattle.dg_machine.proofs.HeadLemmas.{keeps_same, keeps_on}
use Rattle.dg_machine.proofs.HeadMatching.{arg_there, Listing, listing_starts, listing_on, listing_full, listing_ends}
use Rattle.dg_machine.proofs.heads.make_list.Goals as goal

pub values-init : goal.values-init
values-init c = record {
  keeps = keeps_same c.args.arena.now;
  there = c.requires.end;
  within = omega arith;
  listing = λ vs v hr hv. listing_starts (meaning_of c.args.arena.now) vs v (length c.args.values.now) c.args.end c.args.arena.now.sound.heap_fits (refs_length (meaning_of c.args.arena.now) c.args.values.now vs hr) hv;
}

pub pair-requires : goal.pair-requires
pair-requires c =
    record { head_in = arg_there c.args.arena.now c.values.arena c.values.invariant.keeps c.args.values.now (c.values.left - 1) (omega arith) c.requires.values; tail_in = c.values.invariant.there }

pub returns-in-Err-clause-made : goal.returns-in-Err-clause-made
returns-in-Err-clause-made c vs v hr hv =
    listing_full (meaning_of c.args.arena.now) c.values.arena c.pair.new.self vs v c.values.left (length c.args.values.now) c.values.made c.in-Err.full c.values.invariant.keeps.kept (omega arith) (refs_length (meaning_of c.args.arena.now) c.args.values.now vs hr) c.in-Err.ensures.made (c.values.invariant.listing vs v hr hv)

pub returns-in-Err-clause-keeps : goal.returns-in-Err-clause-keeps
returns-in-Err-clause-keeps c = keeps_on c.args.arena.now c.values.arena c.pair.new.self c.values.invariant.keeps (record { kept = c.in-Err.ensures.kept; saved = c.in-Err.ensures.saved })

pub values-preserved : goal.values-preserved
values-preserved c =
    let old = c.args.arena.now in
    let now = c.values.arena in
    let left = c.values.left - 1 in
    let a = get_or c.args.values.now left (record { 0 = 0 }) in
    let same : c.values.left ≡ left + 1 = omega arith in
    let lt : left < length c.args.values.now = omega (arith, c.values.invariant.within) in
    let made = c.in-Ok.ensures.made in
    record {
      keeps = keeps_on old now c.pair.new.self c.values.invariant.keeps (record { kept = c.in-Ok.ensures.kept; saved = c.in-Ok.ensures.saved });
      there = holds_some (meaning_of c.pair.new.self) c.in-Ok.pair (pair (told (meaning_of now) a) (told (meaning_of now) c.values.made)) made.value;
      within = omega (arith, c.values.invariant.within);
      listing = λ vs v hr hv.
          let few : left < length vs = omega (arith, lt, refs_length (meaning_of old) c.args.values.now vs hr) in
          let there = refs_get (meaning_of now) c.args.values.now vs left (record { 0 = 0 }) (leaf Nil) (refs_kept (meaning_of old) (meaning_of now) c.args.values.now vs c.values.invariant.keeps.kept hr) lt in
          listing_on (meaning_of old) (meaning_of now) c.pair.new.self vs v left a c.values.made c.in-Ok.pair (leaf Nil) c.values.invariant.keeps.kept few there made
          (subst (λ n. Listing (meaning_of old) (meaning_of now) vs v n c.values.made) same (c.values.invariant.listing vs v hr hv));
    }

pub returns-clause-keeps : goal.returns-clause-keeps
returns-clause-keeps c = c.values.invariant.keeps

pub returns-clause-made : goal.returns-clause-made
returns-clause-made c vs v hr hv =
    listing_ends (meaning_of c.args.arena.now) (meaning_of c.values.arena) vs v c.values.left (length c.args.values.now) c.values.made (omega arith) (refs_length (meaning_of c.args.arena.now) c.args.values.now vs hr) (c.values.invariant.listing vs v hr hv)
