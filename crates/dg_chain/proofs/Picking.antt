-- A select leads on.
use Rattle.std.proofs.Common.{◌≡◌, ℕ, ◌+◌, ◌%◌, List, length, refl, sym, ap, ◌∙◌, subst, arith, get_or}
use Rattle.std.specs.Prelude.{slice_index, slice_set}
use Rattle.dg_base.specs.declared.program.Mode.{Mode}
use Rattle.dg_meaning.specs.Choosing.{die, Picks, picked, picks_at, Choice, choice_by}
use Rattle.dg_meaning.specs.World.{Print}
use Rattle.dg_mid.specs.declared.code.Code.{Code}
use Rattle.dg_mid.specs.declared.code.Op.TheVariants as op
use Rattle.dg_mid.specs.Code.{block_at}
use Rattle.dg_mid.specs.State.{Lasting, Runs}
use Rattle.dg_mid.specs.Step.{Setting, at_choice}
use Rattle.z_model.specs.Run.{word_at}
use Rattle.dg_rt.specs.Picks.{drawn_more}
use Rattle.dg_turn.specs.Told.{Site, Telling}
use Rattle.dg_turn.specs.Plays.{Playing}
use Rattle.dg_turn.specs.Paid.{paid}
use Rattle.dg_turn.specs.Sites.{select_of, OuterSites, Selects}
use Rattle.dg_turn.proofs.PickTurn.{pick_turns}
use Rattle.dg_chain.specs.Routines.{OpsAt, BlocksAt}
use Rattle.dg_chain.specs.Selects.{SelectsAt}
use Rattle.dg_chain.specs.Stands.{Printed}
use Rattle.dg_chain.specs.Whole.{OpLeads, story_setting}
use Rattle.dg_chain.proofs.Lasting.{lasts_picked}
use Rattle.dg_chain.proofs.Leading.{led_runs, at_op, silently, a_unit}

-- What was printed stays where a branch is chosen.
picked_printed : {t : Telling} {l : Lasting} (ps : List Print) (w : Printed t ps l) (sites : List Picks) (drawn : ℕ) → OuterSites t sites w.out.words → Printed t ps (record l { dice = l.dice + drawn; sites = sites })
picked_printed {t} {l} ps w sites drawn outer = record {
  out = record w.out { drawn = drawn_more t.p w.out.drawn drawn; words = outer.words' };
  written = w.written;
  meets = record {
    last = outer.others 28 (λ le. absurd (omega arith)) ∙ w.meets.last;
    lines = outer.others 30 (λ le. absurd (omega arith)) ∙ w.meets.lines;
    spaces = outer.others 31 (λ le. absurd (omega arith)) ∙ w.meets.spaces;
    asked = outer.others 32 (λ le. absurd (omega arith)) ∙ w.meets.asked;
    upper = outer.others 33 (λ le. absurd (omega arith)) ∙ w.meets.upper;
  };
  lasts = lasts_picked t l w.out sites drawn outer w.lasts;
}

module _ (t : Telling) (plays : Playing t) (code : Code) (blocks : BlocksAt t code) (dice : List ℕ) (same : t.p.world.dice ≡ dice) where
  abbrev set : Setting
  set = story_setting t code dice

  pub select_leads : (site : ℕ) (mode : Mode) (bs : List ℕ) (behind : ℕ) → OpLeads t code dice (op.Select site mode bs behind)
  unfolding picked_printed
  select_leads site mode bs behind ps m rest z e always s =
      let x = op.Select site mode bs behind in
      let o : SelectsAt t s.at.x site mode bs behind = at_op t code dice ps m rest z x e s in
      let out = s.printed.out in
      let kept = m.lasting.sites in
      let picks = picks_at kept site in
      let one : Site = select_of site mode bs in
      let word : word_at t.p.world out.drawn ≡ die dice m.lasting.dice = ap (slice_index t.p.world.dice) s.printed.lasts.drawn ∙ ap (λ (l : List ℕ). slice_index l (m.lasting.dice % length l)) same in
      let c : Choice = choice_by mode (length bs) picks (die dice m.lasting.dice) in
      let k : Selects t out one o.branches o.other kept c m z =
      subst (λ (w : ℕ). Selects t out one o.branches o.other kept (choice_by mode (length bs) picks w) m z) word
      (pick_turns t plays o.sites out one o.branches o.other kept m z s.printed.lasts.sites (record { x = s.at.x; rep = s.at.rep; there = o.is; known = o.known; all = o.all })) in
      let m' = record m { ops = rest } in
      let block = get_or bs c.branch behind in
      let ops : OpsAt t code (t.p.names.routine (get_or o.branches c.branch o.other)) (block_at code block) = subst (λ (y : ℕ). OpsAt t code y (block_at code block)) (sym (o.each c.branch)) (blocks.each block) in
      let unit = a_unit t code dice ps m in
      let few = o.sites.are.few one o.known in
      let cost = paid set ps (Runs m) in
      silently t code dice ps m rest z x e (Runs (at_choice set c site bs behind m')) cost refl
      (led_runs t code dice 1 (omega arith) ps (picked_printed ps s.printed (slice_set kept site (picked c.branch picks)) c.drawn k.outer) (t.p.names.routine (get_or o.branches c.branch o.other)) m (at_choice set c site bs behind m') (length bs + 20) cost z refl ops (omega arith) k.comes)
