-- What lasts is outside: whatever is printed changes none of it, a word is drawn, and what is set changes.
use Rattle.std.proofs.Common.{◌≡◌, ℕ, zero, suc, ◌+◌, ◌%◌, ◌≤◌, List, length, refl, sym, ap, ◌∙◌, arith}
use Rattle.std.proofs.Math.Nat.{mod-add-mod}
use Rattle.dg_meaning.specs.Choosing.{Picks}
use Rattle.dg_meaning.specs.Facts.{Fact, kinds_of, kept_size}
use Rattle.dg_meaning.specs.Render.{Met}
use Rattle.dg_mid.specs.State.{Lasting}
use Rattle.z_model.specs.Run.{next_drawn}
use Rattle.dg_rt.specs.Picks.{drawn_more}
use Rattle.dg_turn.specs.Told.{Telling}
use Rattle.dg_turn.specs.Plays.{Outside}
use Rattle.dg_turn.specs.Rest.{aux_end}
use Rattle.dg_turn.specs.Sites.{OuterSites}
use Rattle.dg_turn.specs.Texts.{met_words}
use Rattle.dg_turn.specs.World.{Outer}
use Rattle.dg_turn.proofs.Meeting.{met_others}
use Rattle.dg_turn.proofs.Places.{facts_same}
use Rattle.dg_turn.proofs.Sites.{sites_same, facts_within}
use Rattle.dg_chain.specs.Stands.{Lasts}

module _ (t : Telling) where
  -- The same lasts where the words behind what is gathered are the same, and as many words were drawn.
  pub lasts_on : (l : Lasting) (out out' : Outside) → ((k : ℕ) → aux_end ≤ k → out'.words k ≡ out.words k) → out'.drawn ≡ out.drawn → out'.typed ≡ out.typed → Lasts t l out → Lasts t l out'
  lasts_on l out out' same drawn typed h = record {
    drawn = drawn ∙ h.drawn;
    typed = typed ∙ h.typed;
    facts = facts_same t.program l.facts out.words out'.words same h.facts;
    keeps = h.keeps;
    sites = sites_same t l.sites out.words out'.words (λ k le. same k (omega arith)) h.sites;
  }

  -- So it does where something is printed.
  pub lasts_met : (l : Lasting) (met : Met) (output : List ℕ) (out : Outside) → Lasts t l out → Lasts t l (record out { output = output; words = met_words met out.words })
  lasts_met l met output out h =
      lasts_on l out (record out { output = output; words = met_words met out.words })
      (λ k le. met_others met out.words k (λ e. (omega arith)) (λ e. (omega arith)) (λ e. (omega arith)) (λ e. (omega arith)) (λ e. (omega arith))) refl refl h

  -- The next word is drawn.
  pub lasts_drawn : (l : Lasting) (out : Outside) → Lasts t l out → Lasts t (record l { dice = l.dice + 1 }) (record out { drawn = next_drawn t.p.world out.drawn })
  lasts_drawn l out h =
      let size = length t.p.world.dice in
      record {
        drawn = ap (λ (i : ℕ). (i + 1) % size) h.drawn ∙ mod-add-mod l.dice size 1;
        typed = h.typed;
        facts = h.facts;
        keeps = h.keeps;
        sites = h.sites;
      }

  -- Other facts are set, and stand in the world.
  pub lasts_changed : (l : Lasting) (out : Outside) (facts : List Fact) → (outer : Outer t.program facts out.words) → kept_size (kinds_of t.program) facts ≤ 500 → Lasts t l out → Lasts t (record l { facts = facts }) (record out { words = outer.words' })
  lasts_changed l out facts outer few h = record {
    drawn = h.drawn;
    typed = h.typed;
    facts = outer.facts_in;
    keeps = few;
    sites = sites_same t l.sites out.words outer.words' (λ k le. outer.others k (λ far. le)) h.sites;
  }

  -- As many words more are drawn, in a circle.
  drawn_on : (drawn dice n : ℕ) → drawn ≡ dice % length t.p.world.dice → drawn_more t.p drawn n ≡ (dice + n) % length t.p.world.dice
  drawn_on drawn dice zero e = let same : dice + 0 ≡ dice = omega arith in e ∙ ap (λ (i : ℕ). i % length t.p.world.dice) (sym same)
  drawn_on drawn dice (suc n) e =
      let size = length t.p.world.dice in
      let next : dice + n + 1 ≡ dice + suc n = omega arith in
      ap (λ (i : ℕ). (i + 1) % size) (drawn_on drawn dice n e) ∙ mod-add-mod (dice + n) size 1 ∙ ap (λ (i : ℕ). i % size) next

  -- A branch is chosen: its pick is kept of its site, and its dice word is drawn.
  pub lasts_picked : (l : Lasting) (out : Outside) (sites : List Picks) (drawn : ℕ) → (outer : OuterSites t sites out.words) → Lasts t l out →
      Lasts t (record l { dice = l.dice + drawn; sites = sites }) (record out { drawn = drawn_more t.p out.drawn drawn; words = outer.words' })
  lasts_picked l out sites drawn outer h = record {
    drawn = drawn_on out.drawn l.dice drawn h.drawn;
    facts = facts_within t.program l.facts out.words outer.words' (λ k lt. outer.others k (λ le. absurd (omega arith))) h.facts;
    typed = h.typed;
    keeps = h.keeps;
    sites = outer.sites_in;
  }
